-- `check_listing` refuses by the first condition that is true.
use Rattle.std.proofs.Common.{◌≡◌, ℕ, List, [], ◌∷◌, not, ap, sym, ◌∙◌}
use Rattle.std.proofs.lemmas.Result.{err_from_is_err_and}
use Rattle.refusals.proofs.Numbers.{refused-not-taken}
use Rattle.graphs.specs.Image.{Image}
use Rattle.graphs.specs.Refusals.{Refusal, refuse, first_of, short, image_areas, sizes_out, vertex_out}
use Rattle.graphs.proofs.Refusals.{first-true, first-false, first-refused, first_rest, sizes-numbered, tested-short, tested-long}
use Rattle.images.specs.Checking.{image_of}
use Rattle.texts.specs.Text.{Line}
use Rattle.texts.specs.Loading.{lines_out, listing_number}
use Rattle.texts.specs.Lines.{listed}
use Rattle.texts.proofs.check_listing.Goals.{Else-not-is_long}
use Rattle.texts.proofs.check_listing.Goals as goal

-- 4 and 6 come behind the sizes and the areas.
abbrev last : Image → List Line → List Refusal
last g ls = refuse 6 (lines_out g.n ls) ∷ []

abbrev own : Image → ℕ → List Line → List Refusal
own g start ls = refuse 4 (vertex_out g.n start) ∷ last g ls

abbrev areas : Image → Refusal
areas g = refuse 3 (short (image_areas g))

pub returns-in_err-check_sizes : goal.returns-in_err-check_sizes
unfolding listing_number
returns-in_err-check_sizes c = λ ls e.
    let g = image_of c.args.g.now in
    let p = err_from_is_err_and c.from_residual.result c.from_residual.ensures.1 in
    rw (p.1, p.2) (first-refused (sizes_out g.n g.m) (areas g ∷ own g c.args.start ls) c.in_err-check_sizes.ensures (refused-not-taken c.in_err-check_sizes.field-0.0))

pub returns-then-not-is_long : goal.returns-then-not-is_long
unfolding listing_number
returns-then-not-is_long c = λ ls e.
    let g = image_of c.args.g.now in
    let rest = own g c.args.start ls in
    first-true rest (tested-short c.is_long.ensures c.if-not-is_long.true) ∙ sym (first_rest (sizes_out g.n g.m) (areas g ∷ rest) (sizes-numbered g.n g.m) (sym c.in_ok-check_sizes.ensures))

-- Past the sizes and the areas, 4 and 6 are left.
left : (c : Else-not-is_long) (ls : List Line) → first_of (own (image_of c.args.g.now) c.args.start ls) ≡ listing_number (listed c.args.g.now.n c.args.g.now.m c.args.start ls) c.args.g.now.after.now c.args.g.now.tail.now
unfolding listing_number
left c ls =
    let g = image_of c.args.g.now in
    let rest = own g c.args.start ls in
    first-false 3 rest (tested-long c.is_long.ensures c.if-not-is_long.false) ∙ sym (first_rest (sizes_out g.n g.m) (areas g ∷ rest) (sizes-numbered g.n g.m) (sym c.in_ok-check_sizes.ensures))

pub returns-then-not-placed : goal.returns-then-not-placed
returns-then-not-placed c = λ ls e. first-true {k = 4} (last (image_of c.args.g.now) ls) (ap not (sym c.is_vertex-placed.ensures ∙ c.if-not-placed.true)) ∙ left (goal.at.returns-then-not-placed c).Else-not-is_long ls

pub returns-then-out : goal.returns-then-out
returns-then-out c = λ ls e.
    first-true {k = 6} [] (sym e ∙ c.if-out.true) ∙ first-false 4 (last (image_of c.args.g.now) ls) (ap not (sym c.is_vertex-placed.ensures ∙ c.if-not-placed.false)) ∙ left (goal.at.returns-then-out c).Else-not-is_long ls

pub returns : goal.returns
returns c = λ ls e.
    first-false 6 [] (sym e ∙ c.if-out.false) ∙ first-false 4 (last (image_of c.args.g.now) ls) (ap not (sym c.is_vertex-placed.ensures ∙ c.if-not-placed.false)) ∙ left (goal.at.returns c).Else-not-is_long ls

-- No refusal has number 0, which says that a call is taken; and no two have the same number.
use Rattle.std.proofs.Common.{◌≡◌, refl, sym, ◌∙◌, ap, ℕ, arith, ◌==◌, if◌then◌else◌}
use Rattle.refusals.specs.declared.Refusal.{Refusal}
use Rattle.refusals.specs.declared.Refusal.TheVariants.{Vertices, Edges, Area, Vertex, Link, Tail, List, State, Over, Unfinished, Figure, Form, Length, Blanks, BlankStart}
use Rattle.refusals.specs.Numbers.{number_of}

pub refused-not-taken : (r : Refusal) → number_of r ≡ 0 → ⊥
refused-not-taken Vertices e = absurd (omega arith)
refused-not-taken Edges e = absurd (omega arith)
refused-not-taken Area e = absurd (omega arith)
refused-not-taken Vertex e = absurd (omega arith)
refused-not-taken Link e = absurd (omega arith)
refused-not-taken Tail e = absurd (omega arith)
refused-not-taken List e = absurd (omega arith)
refused-not-taken State e = absurd (omega arith)
refused-not-taken Over e = absurd (omega arith)
refused-not-taken Unfinished e = absurd (omega arith)
refused-not-taken Figure e = absurd (omega arith)
refused-not-taken Form e = absurd (omega arith)
refused-not-taken Length e = absurd (omega arith)
refused-not-taken Blanks e = absurd (omega arith)
refused-not-taken BlankStart e = absurd (omega arith)

-- The refusal with a number.
refusal-at : ℕ → Refusal
refusal-at k =
    if k == 1 then Vertices else
    if k == 2 then Edges else
    if k == 3 then Area else
    if k == 4 then Vertex else
    if k == 5 then Link else
    if k == 6 then Tail else
    if k == 7 then List else
    if k == 8 then State else
    if k == 9 then Over else
    if k == 10 then Unfinished else
    if k == 11 then Figure else
    if k == 12 then Form else
    if k == 13 then Length else
    if k == 17 then Blanks else BlankStart

there-and-back : (r : Refusal) → refusal-at (number_of r) ≡ r
unfolding refusal-at
there-and-back Vertices = refl
there-and-back Edges = refl
there-and-back Area = refl
there-and-back Vertex = refl
there-and-back Link = refl
there-and-back Tail = refl
there-and-back List = refl
there-and-back State = refl
there-and-back Over = refl
there-and-back Unfinished = refl
there-and-back Figure = refl
there-and-back Form = refl
there-and-back Length = refl
there-and-back Blanks = refl
there-and-back BlankStart = refl

pub same-number : (r s : Refusal) → number_of r ≡ number_of s → r ≡ s
same-number r s e = sym (there-and-back r) ∙ ap refusal-at e ∙ there-and-back s

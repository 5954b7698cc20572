-- Texts that differ in padding only are walked or refused alike: a text is reported by its length and by what it says.
-- One that is walked has 4,000 references at most, so no padding makes it too long.
use Rattle.std.proofs.Common.{◌≡◌, refl, ap, ◌∙◌, sym, Bool, true, false, cond, List, [], ◌∷◌, ◌++◌, ℕ, zero, suc, ◌≤◌, arith, length, ltb-false}
use mathlib.Core.Option.{Option, none, some}
use Rattle.graphs.specs.Refusals.{refuse, Lent, short, size_refusals, vertex_out, text_out}
use Rattle.graphs.proofs.Refusals.{all-false}
use Rattle.numbers.specs.Padding.{unpad}
use Rattle.texts.specs.Text.{Listing, listing_of}
use Rattle.texts.specs.Loading.{Reading, refused, loaded, decided, lines_out}
use Rattle.texts.proofs.Texts.{text-claim}
use Rattle.texts.proofs.Alike.{same_size}
use Rattle.report.specs.Report.{lent_areas, report_number, judged_with, walk_reading, number_to, reported, report_of}
use Rattle.report.specs.Claims.{Alike, PrintAlikeClaim}

one_profile : (s t : List ℕ) → text_out (length s) ≡ text_out (length t) → listing_of s ≡ listing_of t → Alike s t
unfolding report_of walk_reading
one_profile s t e h after tail marks events output =
    λ i. reported (cond (e i) (refused 13) (judged_with (lent_areas after tail marks events output) (h i))) after tail marks events output

padding_only : (s t : List ℕ) → text_out (length s) ≡ text_out (length t) → unpad s ≡ unpad t → Alike s t
padding_only s t e h = one_profile s t e (text-claim.alike s t h)

-- ---- a text that is walked
-- It says a profile of at most 4,000 references, and the areas are as long as stated.
pub record Taken (areas : List Lent) (text : List ℕ) : Type 0 where
  pub listing : Listing
  pub is : walk_reading areas text ≡ loaded listing
  pub says : listing_of text ≡ some listing
  pub few_edges : listing.m ≤ 4000
  pub long : short areas ≡ false

pub taken : (areas : List Lent) (text : List ℕ) → number_to (walk_reading areas text) ≡ 0 → Taken areas text
unfolding walk_reading
taken areas text e = in-form (text_out (length text)) (listing_of text) refl refl e
  where
    right : (p : Listing) (k : ℕ) → report_number areas p ≡ k → text_out (length text) ≡ false → listing_of text ≡ some p → number_to (decided k p) ≡ 0 → Taken areas text
    right p zero h b o d =
        let c = (all-false (size_refusals p.n p.m areas ++ refuse 4 (vertex_out p.n p.start) ∷ refuse 6 (lines_out p.n p.lines) ∷ []) [] (omega arith) h).0 in
        record {
          listing = p;
          is = (λ i. cond (b i) (refused 13) (judged_with areas (o i))) ∙ ap (λ (k : ℕ). decided k p) h;
          says = o;
          few_edges = ltb-false 4000 p.m c.1.0;
          long = c.1.1.0;
        }
    right p (suc k) h b o d = absurd (omega arith)

    in-form : (b : Bool) (o : Option Listing) → text_out (length text) ≡ b → listing_of text ≡ o → number_to (cond b (refused 13) (judged_with areas o)) ≡ 0 → Taken areas text
    in-form true o b q d = absurd (omega arith)
    in-form false none b q d = absurd (omega arith)
    in-form false (some p) b q d = right p (report_number areas p) refl b q d

-- The number told is that of the text.
pub number-told : (x : Reading) (after tail marks events output : List ℕ) → (reported x after tail marks events output).number ≡ number_to x
number-told (refused k) after tail marks events output = refl
number-told (loaded p) after tail marks events output = refl

where_walked : (s t after tail marks events output : List ℕ) → unpad s ≡ unpad t → (report_of s after tail marks events output).number ≡ 0 → Alike s t
unfolding report_of
where_walked s t after tail marks events output h e =
    let areas = lent_areas after tail marks events output in
    let w = taken areas s (sym (number-told (walk_reading areas s) after tail marks events output) ∙ e) in
    padding_only s t (same_size s t w.listing h w.says w.few_edges) h

pub print-alike : PrintAlikeClaim
print-alike = record { one_profile = one_profile; padding_only = padding_only; where_walked = where_walked }

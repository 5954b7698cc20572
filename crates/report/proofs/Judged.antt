-- When a text is refused, with areas as long as stated and with short ones: as the reader refuses it, into these areas or into no words.
-- Areas of 5,000 and 4,000 words hold every profile within the limits; no words hold none.
use Rattle.std.proofs.Common.{◌≡◌, refl, sym, ap, ◌∙◌, Bool, true, false, cond, not, ◌||◌, List, [], ◌∷◌, ℕ, suc, ◌+◌, ◌≤◌, arith, eqb, ltb, length, ltb-false, lt-ltb, le-ltb}
use mathlib.Core.Option.{Option, none, some}
use borrow.Author.Tests.{eqb-false}
use Rattle.lists.proofs.Tests.{neither}
use Rattle.graphs.specs.Refusals.{refuse, first_of, Lent, lent, short, vertices_out, edges_out, vertex_out, text_out}
use Rattle.graphs.proofs.Refusals.{long}
use Rattle.walks.proofs.Numbers.{own-short, own-long}
use Rattle.texts.specs.Text.{Listing, listing_of}
use Rattle.texts.specs.Loading.{Reading, refused, loaded, decided, judged, reading, lines_out, listing_number, after_left, tail_left}
use Rattle.texts.specs.Answers.{Answer, refused_with, sizes, answer_to}
use Rattle.texts.proofs.Loads.{loaded-fits}
use Rattle.report.specs.Report.{lent_areas, judged_with, walk_reading, number_to, reported, report_of, telling}
use Rattle.report.specs.Claims.{UnchangedClaim}

-- ---- the areas
-- The five areas are as long as stated.
pub record Long (after tail marks events output : List ℕ) : Type 0 where
  pub after-long : 5000 ≤ length after
  pub tail-long : 4000 ≤ length tail
  pub marks-long : 5000 ≤ length marks
  pub events-long : 54003 ≤ length events
  pub output-long : 180066 ≤ length output

-- So they are where none is short.
pub long-areas : (after tail marks events output : List ℕ) → short (lent_areas after tail marks events output) ≡ false → Long after tail marks events output
long-areas after tail marks events output h =
    let a = long 5000 after (lent 4000 tail ∷ lent 5000 marks ∷ lent 54003 events ∷ lent 180066 output ∷ []) h in
    let t = long 4000 tail (lent 5000 marks ∷ lent 54003 events ∷ lent 180066 output ∷ []) a.1 in
    let k = long 5000 marks (lent 54003 events ∷ lent 180066 output ∷ []) t.1 in
    let e = long 54003 events (lent 180066 output ∷ []) k.1 in
    record { after-long = a.0; tail-long = t.0; marks-long = k.0; events-long = e.0; output-long = (long 180066 output [] e.1).0 }

-- ---- the same number
-- Conditions that differ in the third alone, and there not where the first two are false, have one number.
number_same : (a b h k c d : Bool) → (a ≡ false → b ≡ false → h ≡ k) → first_of (refuse 1 a ∷ refuse 2 b ∷ refuse 3 h ∷ refuse 4 c ∷ refuse 6 d ∷ []) ≡ first_of (refuse 1 a ∷ refuse 2 b ∷ refuse 3 k ∷ refuse 4 c ∷ refuse 6 d ∷ [])
number_same true b h k c d e = refl
number_same false true h k c d e = refl
number_same false false h k c d e = ap (λ (x : Bool). cond x 3 (cond c 4 (cond d 6 0))) (e refl refl)

-- A text meets the same fate under areas that are short together with the reader's, for every profile within the limits.
reading-same : (text after tail : List ℕ) (areas : List Lent) → ((n m : ℕ) → vertices_out n ≡ false → edges_out m ≡ false → short (lent (n + m) after ∷ lent m tail ∷ []) ≡ short areas) → reading text after tail ≡ walk_reading areas text
unfolding reading walk_reading listing_number
reading-same text after tail areas h = ap (cond (text_out (length text)) (refused 13)) (go (listing_of text))
  where
    go : (o : Option Listing) → judged o after tail ≡ judged_with areas o
    go none = refl
    go (some p) = ap (λ (k : ℕ). decided k p) (number_same (vertices_out p.n) (edges_out p.m) (short (lent (p.n + p.m) after ∷ lent p.m tail ∷ [])) (short areas) (vertex_out p.n p.start) (lines_out p.n p.lines) (h p.n p.m))

-- Where no area is short, a text is read as into the areas themselves.
pub reading-long : (text after tail marks events output : List ℕ) → short (lent_areas after tail marks events output) ≡ false → reading text after tail ≡ walk_reading (lent_areas after tail marks events output) text
reading-long text after tail marks events output h = reading-same text after tail (lent_areas after tail marks events output) fits
  where
    fits : (n m : ℕ) → vertices_out n ≡ false → edges_out m ≡ false → short (lent (n + m) after ∷ lent m tail ∷ []) ≡ short (lent_areas after tail marks events output)
    fits n m a b =
        let l = long-areas after tail marks events output h in
        let few-n = ltb-false 1000 n (neither (eqb n 0) (ltb 1000 n) a).1 in
        let few-m = ltb-false 4000 m b in
        (λ i. le-ltb (length after) (n + m) (omega (arith, l.after-long)) i || (le-ltb (length tail) m (omega (arith, l.tail-long)) i || false)) ∙ sym h

-- Where one is, a text is read as into no words.
pub reading-short : (text : List ℕ) (areas : List Lent) → short areas ≡ true → reading text [] [] ≡ walk_reading areas text
reading-short text areas h = reading-same text [] [] areas (λ n m a b. (let some-n = eqb-false n 0 (neither (eqb n 0) (ltb 1000 n) a).0 in ap (λ (x : Bool). x || (ltb 0 m || false)) (lt-ltb 0 (n + m) (omega arith)) ∙ sym h))

-- ---- no words
-- No text is loaded into no words.
none-loaded : (text : List ℕ) (p : Listing) → reading text [] [] ≡ loaded p → ⊥
none-loaded text p e = let f = loaded-fits text [] [] p e in omega (arith, f.some-vertex, f.fits_after)

-- It is refused.
pub short-refused : (text : List ℕ) → reading text [] [] ≡ refused (number_to (reading text [] []))
short-refused text = go (reading text [] []) refl
  where
    go : (x : Reading) → reading text [] [] ≡ x → x ≡ refused (number_to x)
    go (refused k) e = refl
    go (loaded p) e = absurd (none-loaded text p e)

-- ---- what the reader answers
-- The number of an answer; 0 where it has none.
abbrev number_of : Answer → ℕ
number_of (refused_with k) = k
number_of (sizes n m start) = 0

-- 1 for a number, 0 for sizes.
abbrev is_refusal : Answer → ℕ
is_refusal (refused_with k) = 1
is_refusal (sizes n m start) = 0

-- A number is answered only where the text is refused with it.
pub said-refused : (x : Reading) (k : ℕ) → refused_with k ≡ answer_to x → x ≡ refused k
said-refused (refused j) k e = ap (λ (a : Answer). refused (number_of a)) (sym e)
said-refused (loaded p) k e = absurd (let z : ◌≡◌ {A = ℕ} 1 0 = ap is_refusal e in omega arith)

-- The sizes and the start of an answer; 0 where it has none.
abbrev n_of : Answer → ℕ
n_of (refused_with k) = 0
n_of (sizes n m start) = n

abbrev m_of : Answer → ℕ
m_of (refused_with k) = 0
m_of (sizes n m start) = m

abbrev start_of : Answer → ℕ
start_of (refused_with k) = 0
start_of (sizes n m start) = start

-- Sizes and a start are answered only where a profile is loaded that has them.
pub record Says (x : Reading) (n m start : ℕ) : Type 0 where
  pub listing : Listing
  pub is : x ≡ loaded listing
  pub same_n : n ≡ listing.n
  pub same_m : m ≡ listing.m
  pub same_start : start ≡ listing.start

-- So it is of every answer.
pub said-loaded : (x : Reading) (n m start : ℕ) → sizes n m start ≡ answer_to x → Says x n m start
said-loaded (refused k) n m start e = absurd (let z : ◌≡◌ {A = ℕ} 0 1 = ap is_refusal e in omega arith)
said-loaded (loaded p) n m start e = record { listing = p; is = refl; same_n = ap n_of e; same_m = ap m_of e; same_start = ap start_of e }

-- ---- the number of a text where an area is short
-- The number that the reader answers for no words.
pub short-told : (text : List ℕ) (k : ℕ) → refused_with k ≡ answer_to (reading text [] []) → (areas : List Lent) → short areas ≡ true → k ≡ number_to (walk_reading areas text)
short-told text k e areas h = ap number_to (sym (said-refused (reading text [] []) k e) ∙ reading-short text areas h)

-- It never answers sizes.
pub never-told : {A : Type 0} (text : List ℕ) (n m start : ℕ) → sizes n m start ≡ answer_to (reading text [] []) → A
never-told text n m start e = let s = said-loaded (reading text [] []) n m start e in absurd (none-loaded text s.listing s.is)

-- ---- what is reported of a refusal
module _ (text after tail marks events output : List ℕ) {is-long : Bool} (e : is-long ≡ not (short (lent_areas after tail marks events output))) where
  -- What the call is lent.
  abbrev areas : List Lent
  areas = lent_areas after tail marks events output

  -- The answer is that of a refusal, with the links as they were.
  abbrev Unchanged : ℕ → (after' tail' : List ℕ) → Type 0
  Unchanged k after' tail' = telling k 0 after' tail' marks events output ≡ report_of text after tail marks events output

  refusal : (k : ℕ) (after' tail' : List ℕ) → walk_reading areas text ≡ refused k → after' ≡ after → tail' ≡ tail → Unchanged k after' tail'
  unfolding report_of
  refusal k after' tail' w a t = λ i. reported (sym w i) (a i) (t i) marks events output

  -- Where an area is short.
  pub short-reported : (k : ℕ) (after' tail' : List ℕ) → not is-long ≡ true → ((others : List Lent) → short others ≡ true → k ≡ number_to (walk_reading others text))
      → after' ≡ after → tail' ≡ tail → Unchanged k after' tail'
  short-reported k after' tail' h number a t =
      let s = own-short areas e h in
      let w = reading-short text areas s in
      refusal k after' tail' (sym w ∙ short-refused text ∙ ap (λ (x : Reading). refused (number_to x)) w ∙ ap refused (sym (number areas s))) a t

  -- Where the areas are as long as stated.
  pub long-reported : (k : ℕ) (after' tail' : List ℕ) → not is-long ≡ false → refused_with k ≡ answer_to (reading text after tail)
      → after' ≡ after_left (reading text after tail) after → tail' ≡ tail_left (reading text after tail) tail → Unchanged k after' tail'
  long-reported k after' tail' h q a t =
      let x = said-refused (reading text after tail) k q in
      let w = reading-long text after tail marks events output (own-long areas e h) in
      refusal k after' tail' (sym w ∙ x) (a ∙ ap (λ (y : Reading). after_left y after) x) (t ∙ ap (λ (y : Reading). tail_left y tail) x)

-- So it is of every text that is refused.
pub unchanged : UnchangedClaim
unfolding report_of
unchanged text after tail marks events output k e = go (walk_reading (lent_areas after tail marks events output) text) e
  where
    go : (x : Reading) → (reported x after tail marks events output).number ≡ suc k
        → reported x after tail marks events output ≡ telling (suc k) 0 after tail marks events output
    go (refused j) q = λ i. telling (q i) 0 after tail marks events output
    go (loaded p) q = absurd (omega (arith, q))

-- Laws of reading a profile's text: one reading after another, names, fields, value lines.
-- By what the first reading finds; along the names and along the value lines, one at a time.
use Rattle.std.proofs.Common.{◌≡◌, refl, sym, ap, ◌∙◌, Bool, true, false, not, cond, ◌&&◌, ◌||◌, List, [], ◌∷◌, ℕ, suc, ◌+◌, ◌-◌, ◌≤◌, ◌<◌, arith, add-one, eqb, length, get_or, drop, length-drop, drop_of_length-le, take_all, Bor, eq-eqb, ne_eqb}
use Rattle.std.proofs.Math.Option.{Option, none, some}
use mathlib.Core.Bool.{or_assoc}
use native.Mathlib.Nat.{sub-zero}
use lib.ListN.{get_or-eq_default}
use Rattle.std.specs.Prelude as std
use Rattle.std.specs.Prelude.{nat_eq, unwrap_or}
use Rattle.std.specs.List.{starts_with}
use Rattle.std.specs.Slice.{IsGetRangeResult}
use borrow.Author.Tests.{not-true, not-false}
use Rattle.lists.proofs.Tests.{clash, both, or-none}
use Rattle.numbers.specs.Decimal.{number_at}
use Rattle.texts.specs.Loading.{line_out, lines_out}
use Rattle.texts.specs.Text.{Line, and_then, begins, stopped, field_at, line_at, lines_at}

-- ---- one reading after another
module _ {A B : Type 0} {o : Option A} where
  pub first-none : (f : A → Option B) → none ≡ o → none ≡ and_then o f
  first-none f e = ap (λ (p : Option A). and_then p f) e

  pub first_some : (f : A → Option B) {a : A} → some a ≡ o → f a ≡ and_then o f
  first_some f e = ap (λ (p : Option A). and_then p f) e

-- ---- names
-- The library's test of what a text begins with is the definition's.
pub names-tested : (names text : List ℕ) → starts_with nat_eq text names ≡ begins names text
names-tested [] text = refl
names-tested (x ∷ xs) [] = refl
names-tested (x ∷ xs) (b ∷ bs) = ap (λ (t : Bool). eqb x b && t) (names-tested xs bs)

-- The bytes behind a place, none where the text ends before it.
pub rest-behind : (text : List ℕ) (at : ℕ) (r : std.Option (Bor (List ℕ))) (none-left : Bor (List ℕ)) → none-left.now ≡ [] → IsGetRangeResult text at (length text) r → (unwrap_or r none-left).now ≡ drop at text
rest-behind text at (std.Some s) none-left e h = h.0.2 ∙ take_all (length text - at) (drop at text) (omega (arith, length-drop at text))
rest-behind text at std.None none-left e h = e ∙ sym (drop_of_length-le text (omega (arith, h.0)))

names-within : (names text : List ℕ) → begins names text ≡ true → length names ≤ length text
names-within [] text e = omega arith
names-within (x ∷ xs) [] e = clash (sym e)
names-within (x ∷ xs) (b ∷ bs) e = let h = names-within xs bs (both (eqb x b) (begins xs bs) e).1 in omega arith

-- Names that stand at a place end within the text.
pub names-fit : (names text : List ℕ) (at : ℕ) → 0 < length names → begins names (drop at text) ≡ true → at + length names ≤ length text
names-fit names text at h e = omega (arith, names-within names (drop at text) e, length-drop at text)

-- What stands behind names, by the test r of them.
module _ {A : Type 0} {r t : Bool} (e : r ≡ t) (a : A) where
  pub absent : not r ≡ true → none ≡ cond t (some a) none
  absent q = rw (← e, not-true r q)

  pub present : not r ≡ false → some a ≡ cond t (some a) none
  present q = rw (← e, not-false r q)

-- ---- fields
module _ (text : List ℕ) (at stop : ℕ) where
  pub field-none : none ≡ number_at text at → none ≡ field_at text at stop
  unfolding field_at
  field-none e = first-none (stopped text stop) e

  module _ {v x : ℕ} (e : some (record { value = v; next = x }) ≡ number_at text at) where
    -- Another byte behind the number.
    pub field-other : (get_or text x 0 ≡ stop → ⊥) → none ≡ field_at text at stop
    unfolding field_at
    field-other ne = rw (← e, ne_eqb (get_or text x 0) stop ne)

    -- The text ends behind the number.
    pub field-over : length text ≤ x → 0 < stop → none ≡ field_at text at stop
    field-over h p = field-other (λ q. (let z : get_or text x 0 ≡ 0 = get_or-eq_default text 0 h in omega arith))

    pub field-stop : get_or text x 0 ≡ stop → some (record { value = v; next = x + 1 }) ≡ field_at text at stop
    unfolding field_at
    field-stop q = rw (← e, eq-eqb (get_or text x 0) stop q, add-one x)

-- ---- the value lines
-- Whether a line is out, of those passed and of the j lines from a place on; none where these are not in form.
abbrev out_from : List ℕ → ℕ → Bool → ℕ → ℕ → Option Bool
out_from text n out at j = and_then (lines_at text at j) (λ ls. some (out || lines_out n ls))

-- Of m value lines k are passed: it is for the others to say, from the place next on.
pub record Judging (text : List ℕ) (at n m : ℕ) (out : Bool) (next k : ℕ) : Type 0 where
  pub within : k ≤ m
  pub same : out_from text n false at m ≡ out_from text n out next (m - k)

pub judging-start : (text : List ℕ) (at n m : ℕ) → Judging text at n m false at 0
judging-start text at n m = record { within = omega arith; same = rw sub-zero }

module _ {text : List ℕ} {at n m : ℕ} {out : Bool} {next k : ℕ} (j : Judging text at n m out next k) where
  module _ (h : k < m) where
    left : m - k ≡ suc (m - (k + 1))
    left = omega arith

    -- The next line is not in form.
    pub judging-none : none ≡ line_at text next → none ≡ out_from text n false at m
    unfolding lines_at
    judging-none e = rw (j.same, left, ← e)

    -- The next line is passed.
    pub judging-next : {l : Line} {x : ℕ} {r : Bool} → some (record { line = l; next = x }) ≡ line_at text next → r ≡ line_out n l → Judging text at n m (out || r) x (k + 1)
    unfolding lines_at lines_out
    judging-next {l} {x} e q = record { within = omega arith; same = rw (j.same, left, ← e, q) (go (lines_at text x (m - (k + 1)))) }
      where
        go : (o : Option (List Line)) → and_then (and_then o (λ ls. some (l ∷ ls))) (λ ls. some (out || lines_out n ls)) ≡ and_then o (λ ls. some ((out || line_out n l) || lines_out n ls))
        go none = refl
        go (some ls) = ap some (sym (or_assoc out (line_out n l) (lines_out n ls)))

  module _ (h : m ≤ k) where
    done : m - k ≡ 0
    done = omega arith

    -- Text behind the last line.
    pub judging-over : (next ≡ length text → ⊥) → none ≡ out_from text n false at m
    unfolding lines_at
    judging-over ne = rw (j.same, done, ne_eqb next (length text) ne)

    pub judging-end : next ≡ length text → some out ≡ out_from text n false at m
    unfolding lines_at lines_out
    judging-end e = rw (j.same, done, eq-eqb next (length text) e, or-none out)

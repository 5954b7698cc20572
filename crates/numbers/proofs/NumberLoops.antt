-- What the loops of the numbers' code keep: the value of the digits read so far, the digits put so far.
use Rattle.std.proofs.Common.{◌≡◌, refl, sym, ap, subst, ◌∙◌, Bool, true, false, cond, List, [], ◌∷◌, ◌++◌, append-nil, ℕ, zero, suc, ◌+◌, ◌-◌, ◌*◌, ◌/◌, ◌%◌, ◌^◌, ◌≤◌, ◌<◌, ◌⊎◌, inl, inr, leb, ltb, add-one, arith, min, length, length-take, take, drop, get_or, set, take_while, take_all, drop_of_length-le, lt-ltb, le-leb, slice_range, length-drop, Result, Ok, Err, Some, None, OkIff}
use Rattle.std.specs.Result.{result_ok}
use Rattle.std.proofs.Math.Option.{none, some}
use mathlib.Core.Bool.{and-false}
use borrow.Author.Tests.{lt-leb}
use Rattle.std.proofs.lemmas.List.{take_more}
use Rattle.std.proofs.lemmas.List.Sums.{take_while-cons, prefix_len-le-length}
use Rattle.std.proofs.lemmas.List.Folds.{length-prefix_len}
use native.Mathlib.Nat.{pow-succ', pow-le-pow_right}
use lib.Seq.{append_snoc}
use Rattle.lists.specs.Words.{pasted}
use Rattle.lists.proofs.Tests.{and-true}
use Rattle.lists.proofs.Words.{pasted-none, pasted-before}
use Rattle.numbers.specs.Decimal.{decimal_length, digits, written, put_at, past_at, is_digit, digits_ahead, value_after, few, in_form, field_of, number_at}
use Rattle.numbers.proofs.Numbers.{length-claim, number-claim, number-here, value-append, Digit, AllDigits, ahead-all}

-- ---- a number read
-- The digits that a text begins with are its first so many bytes.
ahead-taken : (l : List ℕ) → digits_ahead l ≡ take_while is_digit l
ahead-taken [] = refl
ahead-taken (b ∷ l) = ap (λ (r : List ℕ). cond (is_digit b) (b ∷ r) []) (ahead-taken l) ∙ sym (take_while-cons is_digit b l)

digit-at : (ds : List ℕ) (i : ℕ) → AllDigits ds → i < length ds → Digit (get_or ds i 0)
digit-at [] i p h = absurd (omega arith)
digit-at (d ∷ ds) zero p h = p.0
digit-at (d ∷ ds) (suc i) p h = digit-at ds i p.1 (omega arith)

-- The value of the first i digits, which is below the i-th power of ten.
pub record Value (ds : List ℕ) (i value : ℕ) : Type 0 where
  pub is : value ≡ value_after 0 (take i ds)
  pub below : value < 10 ^ i

-- The bytes behind place `at`, and how many of them, from the first on, are digits.
pub record Ahead (text : List ℕ) (at : ℕ) (rest : List ℕ) (count : ℕ) : Type 0 where
  pub behind : rest ≡ drop at text
  pub number : count ≡ length (take_while is_digit rest)

pub ahead-of : {text rest : List ℕ} {at count : ℕ} → rest ≡ slice_range text at (length text) → count ≡ length (take_while is_digit rest) → Ahead text at rest count
ahead-of {text} {rest} {at} e n = record { behind = e ∙ take_all (length text - at) (drop at text) (omega (arith, length-drop at text)); number = n }

-- Of the first k bytes the digits ahead are the first k at most.
ahead-take : (k : ℕ) (l : List ℕ) → digits_ahead (take k l) ≡ take k (digits_ahead l)
ahead-take zero l = refl
ahead-take (suc k) [] = refl
ahead-take (suc k) (b ∷ l) = go (is_digit b) (ahead-take k l)
  where
    go : (t : Bool) → digits_ahead (take k l) ≡ take k (digits_ahead l) → cond t (b ∷ digits_ahead (take k l)) [] ≡ take (suc k) (cond t (b ∷ digits_ahead l) [])
    go true e = ap (λ (r : List ℕ). b ∷ r) e
    go false e = refl

-- The digits counted in the first bytes behind place `at`, of which more than five are looked at: five or fewer are all that stand
-- there, and with six no number does.
pub record Counted (text : List ℕ) (at : ℕ) (rest : List ℕ) (count : ℕ) : Type 0 where
  pub all : count ≤ 5 → Ahead text at rest count
  pub many : 5 < count → none ≡ number_at text at

pub counted-of : {text rest : List ℕ} {at room most count : ℕ} → rest ≡ slice_range text at (length text) → 5 < room → most ≡ min (length rest) room
    → count ≡ length (take_while is_digit (take most rest)) → Counted text at rest count
counted-of {text} {rest} {at} {room} {most} {count} e r m n =
    let ds = take_while is_digit rest in
    let short : length ds ≤ length rest = omega (arith, length-prefix_len is_digit rest, prefix_len-le-length is_digit rest) in
    let told : count ≡ min most (length ds) =
    n ∙ ap length (sym (ahead-taken (take most rest)) ∙ ahead-take most rest ∙ ap (take most) (ahead-taken rest)) ∙ length-take most ds in
    let here : rest ≡ drop at text = e ∙ take_all (length text - at) (drop at text) (omega (arith, length-drop at text)) in
    record {
      all = λ l. ahead-of e (omega (arith, r, told, m, short));
      many = λ l. sym (number-claim.too_long text at (subst (λ (l : List ℕ). 5 < length l) (sym (ahead-taken rest) ∙ ap digits_ahead here) (omega (arith, r, told, m, short))));
    }

module _ {text rest : List ℕ} {at count : ℕ} (a : Ahead text at rest count) where
  ahead : digits_ahead (drop at text) ≡ take count rest
  ahead = ap digits_ahead (sym a.behind) ∙ ahead-taken rest ∙ ap (λ (k : ℕ). take k rest) (sym (a.number ∙ length-prefix_len is_digit rest))

  long : length (take count rest) ≡ count
  long = ap length (sym ahead ∙ ap digits_ahead (sym a.behind) ∙ ahead-taken rest) ∙ sym a.number

  pub reading-digit : {i : ℕ} → i < length (take count rest) → Digit (get_or (take count rest) i 0)
  reading-digit {i} h = digit-at (take count rest) i (subst AllDigits ahead (ahead-all (drop at text))) h

  pub reading-room : {i value : ℕ} → i < length (take count rest) → count ≤ 5 → Value (take count rest) i value → value < 10000
  reading-room {i} h l v = let q : i ≤ 4 = omega (arith, long) in let p : 10 ^ i ≤ 10 ^ 4 = pow-le-pow_right {n = 10} (omega arith) q in omega (arith, v.below)

  pub reading-next : {i value : ℕ} → i < length (take count rest) → Value (take count rest) i value → Value (take count rest) (i + 1) (value * 10 + (get_or (take count rest) i 0 - 48))
  reading-next {i} {value} h v =
      let ds = take count rest in
      let d = get_or ds i 0 in
      let b = reading-digit h in
      let p : 10 ^ suc i ≡ 10 * 10 ^ i = pow-succ' 10 i in
      record {
        is = ap (λ (w : ℕ). w * 10 + (d - 48)) v.is ∙ sym (ap (value_after 0) (take_more ds i 0 h) ∙ value-append 0 (take i ds) (d ∷ []));
        below = rw (add-one i) (omega (arith, v.below));
      }

  pub number-none : (count ≡ 0) ⊎ ((count ≡ 0 → ⊥) × 5 < count) → none ≡ number_at text at
  unfolding number_at
  number-none h = sym (ap (λ (l : List ℕ). field_of l at) ahead ∙ rw (no-few h))
    where
      no-few : (count ≡ 0) ⊎ ((count ≡ 0 → ⊥) × 5 < count) → few (take count rest) ≡ false
      no-few (inl z) = rw (long, z)
      no-few (inr z) = rw (long, lt-leb count 5 z.1, and-false (ltb 0 count))

  module _ {i value : ℕ} (v : Value (take count rest) i value) (end : length (take count rest) ≤ i) where
    worth : value ≡ value_after 0 (take count rest)
    worth = v.is ∙ ap (value_after 0) (take_all i (take count rest) end)

    pub number-over : 65535 < value → none ≡ number_at text at
    number-over h = sym (number-claim.too_large text at (omega (arith, worth, ap (value_after 0) ahead)))

    pub number-read : {x : ℕ} → (count ≡ 0 → ⊥) → count ≤ 5 → (value < 65536) × (x ≡ value) → some (record { value = x; next = at + count }) ≡ number_at text at
    number-read ne l h =
        let ds = take count rest in
        let some-digit : 0 < length ds = omega (arith, long) in
        let few-digits : length ds ≤ 5 = omega (arith, long) in
        let form : in_form ds ≡ true = and-true (and-true (lt-ltb 0 (length ds) some-digit) (le-leb (length ds) 5 few-digits)) (le-leb (value_after 0 ds) 65535 (omega (arith, worth))) in
        let n : count ≡ length ds = sym long in
        (λ j. some (record { value = (h.1 ∙ worth) j; next = at + n j })) ∙ sym (number-here text at ds ahead form)

pub none-counted : {text rest : List ℕ} {at count : ℕ} → Counted text at rest count → (count ≡ 0) ⊎ ((count ≡ 0 → ⊥) × 5 < count) → none ≡ number_at text at
none-counted w (inl z) = number-none (w.all (omega arith)) (inl z)
none-counted w (inr z) = w.many z.1

pub number_past : (text : List ℕ) (at : ℕ) → length text ≤ at → none ≡ number_at text at
unfolding number_at
number_past text at h = sym (ap (λ (l : List ℕ). field_of (digits_ahead l) at) (drop_of_length-le text h))

-- A value converted to a number of the code, or one too large for it.
pub converted : {E : Type 0} (r : Result ℕ E) {v x : ℕ} → OkIff r (v < 65536) v → Some x ≡ result_ok r → (v < 65536) × (x ≡ v)
converted (Ok y) {v} {x} h e = let s : x ≡ y = cc in (h.0, s ∙ h.1)
converted (Err d) h e = cc

pub unconverted : {E : Type 0} (r : Result ℕ E) {v : ℕ} → OkIff r (v < 65536) v → None ≡ result_ok r → 65535 < v
unconverted (Ok y) h e = cc
unconverted (Err d) {v} h e = omega (arith, h)

-- ---- a number put into an area
-- The last of the k digits of x stand in the area from place at + i on; `rest` has the first i.
pub record Putting (x k at : ℕ) (start : List ℕ) (area : List ℕ) (rest i : ℕ) : Type 0 where
  pub bytes : List ℕ
  pub spells : digits i rest ++ bytes ≡ digits k x
  pub words : area ≡ pasted (at + i) bytes start

module _ (x k at : ℕ) (start : List ℕ) where
  pub putting-none : Putting x k at start start x k
  putting-none = record { bytes = []; spells = append-nil (digits k x); words = sym (pasted-none (at + k) start) }

  pub putting-next : (area : List ℕ) (rest i : ℕ) → Putting x k at start area rest i → 0 < i → at + i ≤ length start → Putting x k at start (set area (at + (i - 1)) (48 + rest % 10)) (rest / 10) (i - 1)
  putting-next area rest i p h q =
      let s : i ≡ suc (i - 1) = omega arith in
      let n : at + i ≡ suc (at + (i - 1)) = omega arith in
      record {
        bytes = (48 + rest % 10) ∷ p.bytes;
        spells = sym (append_snoc (digits (i - 1) (rest / 10)) (48 + rest % 10) p.bytes) ∙ ap (λ (j : ℕ). digits j rest ++ p.bytes) (sym s) ∙ p.spells;
        words =
            ap (λ (l : List ℕ). set l (at + (i - 1)) (48 + rest % 10)) (p.words ∙ ap (λ (j : ℕ). pasted j p.bytes start) n)
            ∙ pasted-before (at + (i - 1)) start (omega arith) p.bytes (48 + rest % 10) (omega arith);
      }

-- What the writer gives back.
abbrev pub Put : ℕ → ℕ → List ℕ → ℕ → List ℕ → Type 0
Put x at start next area = (next ≡ past_at (written x) at start) × (area ≡ put_at (written x) at start)

module _ (x k at : ℕ) (start : List ℕ) (e : k ≡ decimal_length x) where
  size : length (written x) ≡ k
  size = length-claim.in_bytes x ∙ sym e

  pub put-none : length start < at + k → Put x at start at start
  unfolding put_at past_at
  put-none h =
      let t : leb (at + length (written x)) (length start) ≡ false = lt-leb (at + length (written x)) (length start) (omega (arith, size)) in
      rw t (refl, refl)

  pub put_all : (area : List ℕ) (rest i : ℕ) → Putting x k at start area rest i → i ≡ 0 → at + k ≤ length start → Put x at start (at + k) area
  unfolding put_at past_at written
  put_all area rest i p z h =
      let t : leb (at + length (written x)) (length start) ≡ true = le-leb (at + length (written x)) (length start) (omega (arith, size)) in
      let n : at + i ≡ at = omega arith in
      let b : p.bytes ≡ written x = ap (λ (j : ℕ). digits j rest ++ p.bytes) (sym z) ∙ p.spells ∙ ap (λ (j : ℕ). digits j x) e in
      rw t (ap (λ (j : ℕ). at + j) (sym size), p.words ∙ (λ j. pasted (n j) (b j) start))

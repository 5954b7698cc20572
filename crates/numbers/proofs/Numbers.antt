-- A number written is read back, behind zeros too, and what is read is written again behind its zeros.
-- By the digits' recursion: writing takes the last digit off, reading puts it on. A number's length is told by the powers of ten around it.
use Rattle.std.proofs.Common.{◌≡◌, refl, sym, ap, ◌∙◌, Bool, true, false, cond, not, List, [], ◌∷◌, ◌++◌, append_assoc, append-nil, ℕ, zero, suc, ◌+◌, ◌-◌, ◌*◌, ◌/◌, ◌%◌, ◌^◌, ◌≤◌, ◌<◌, arith, eqb, ltb, leb, length, drop, replicate, length-append, drop-drop, ltb-true, ltb-false, leb-true, lt-ltb, le-leb, ne_eqb}
use Rattle.std.proofs.Math.Option.{none, some}
use mathlib.Core.Bool.{and-false}
use native.Mathlib.Nat.{pow-succ', pow-le-pow_right}
use lib.Seq.{append_snoc}
use borrow.Author.Tests.{lt-leb, eqb-false, not-true}
use Rattle.lists.proofs.Tests.{clash, and-true, both, Compared, equal, other, compare}
use Rattle.numbers.specs.Decimal.{divisions, decimal_length, digits, written, is_digit, digits_ahead, value_after, few, in_form, Field, field_of, number_at}
use Rattle.numbers.specs.Padding.{padded}
use Rattle.numbers.specs.Claims.{table_length, LengthClaim, WritingClaim, Standing, NumberClaim}

-- ---- values
pub value-append : (v : ℕ) (ds es : List ℕ) → value_after v (ds ++ es) ≡ value_after (value_after v ds) es
value-append v [] es = refl
value-append v (d ∷ ds) es = value-append (v * 10 + (d - 48)) ds es

pub value_grows : (v : ℕ) (ds : List ℕ) → v ≤ value_after v ds
value_grows v [] = omega arith
value_grows v (d ∷ ds) = let h = value_grows (v * 10 + (d - 48)) ds in omega arith

-- The last k digits of a number of at most k are its value.
value-digits : (k x : ℕ) → x < 10 ^ k → value_after 0 (digits k x) ≡ x
value-digits zero x h = omega arith
value-digits (suc k) x h =
    let p : 10 ^ suc k ≡ 10 * 10 ^ k = pow-succ' 10 k in
    let ih : value_after 0 (digits k (x / 10)) ≡ x / 10 = value-digits k (x / 10) (omega arith) in
    let e : x / 10 * 10 + (48 + x % 10 - 48) ≡ x = omega arith in
    value-append 0 (digits k (x / 10)) ((48 + x % 10) ∷ []) ∙ ap (λ (v : ℕ). v * 10 + (48 + x % 10 - 48)) ih ∙ e

-- ---- digits
-- The byte of a digit, by its test and by its bounds.
pub record Digit (b : ℕ) : Type 0 where
  pub test : is_digit b ≡ true
  pub low : 48 ≤ b
  pub high : b ≤ 57

pub digit-tested : (b : ℕ) → is_digit b ≡ true → Digit b
digit-tested b t = let z = both (leb 48 b) (leb b 57) t in record { test = t; low = leb-true 48 b z.0; high = leb-true b 57 z.1 }

pub digit-bounded : (b : ℕ) → 48 ≤ b → b ≤ 57 → Digit b
digit-bounded b p q = record { test = and-true (le-leb 48 b p) (le-leb b 57 q); low = p; high = q }

abbrev pub AllDigits : List ℕ → Type 0
AllDigits [] = Unit {0}
AllDigits (d ∷ ds) = Digit d × AllDigits ds

pub all_append : (ds es : List ℕ) → AllDigits ds → AllDigits es → AllDigits (ds ++ es)
all_append [] es p q = q
all_append (d ∷ ds) es p q = (p.0, all_append ds es p.1 q)

digits-all : (k x : ℕ) → AllDigits (digits k x)
digits-all zero x = tt
digits-all (suc k) x = all_append (digits k (x / 10)) ((48 + x % 10) ∷ []) (digits-all k (x / 10)) (digit-bounded (48 + x % 10) (omega arith) (omega arith), tt)

length_digits : (k x : ℕ) → length (digits k x) ≡ k
length_digits zero x = refl
length_digits (suc k) x = let h = length_digits k (x / 10) in omega (arith, length-append (digits k (x / 10)) ((48 + x % 10) ∷ []))

-- ---- the digits that a text begins with
pub ahead-all : (l : List ℕ) → AllDigits (digits_ahead l)
ahead-all [] = tt
ahead-all (b ∷ l) = go (is_digit b) refl (ahead-all l)
  where
    go : (t : Bool) → is_digit b ≡ t → AllDigits (digits_ahead l) → AllDigits (cond t (b ∷ digits_ahead l) [])
    go true e ih = (digit-tested b e, ih)
    go false e ih = tt

-- They are the text up to their length.
pub ahead-drop : (l : List ℕ) → l ≡ digits_ahead l ++ drop (length (digits_ahead l)) l
ahead-drop [] = refl
ahead-drop (b ∷ l) = go (is_digit b) (ahead-drop l)
  where
    go : (t : Bool) → l ≡ digits_ahead l ++ drop (length (digits_ahead l)) l → ◌≡◌ {A = List ℕ} (b ∷ l) (cond t (b ∷ digits_ahead l) [] ++ drop (length (cond t (b ∷ digits_ahead l) [])) (b ∷ l))
    go true ih = ap (λ (r : List ℕ). b ∷ r) ih
    go false ih = refl

-- No digit follows them.
pub ahead-ends : (l : List ℕ) → digits_ahead (drop (length (digits_ahead l)) l) ≡ []
ahead-ends [] = refl
ahead-ends (b ∷ l) = go (is_digit b) refl (ahead-ends l)
  where
    go : (t : Bool) → is_digit b ≡ t → digits_ahead (drop (length (digits_ahead l)) l) ≡ [] → digits_ahead (drop (length (cond t (b ∷ digits_ahead l) [])) (b ∷ l)) ≡ []
    go true e ih = ih
    go false e ih = rw e

-- Digits are read up to where none follows.
pub ahead-append : (ds rest : List ℕ) → AllDigits ds → digits_ahead rest ≡ [] → digits_ahead (ds ++ rest) ≡ ds
ahead-append [] rest p e = e
ahead-append (d ∷ ds) rest p e = rw p.0.test (ap (λ (l : List ℕ). d ∷ l) (ahead-append ds rest p.1 e))

-- ---- digits behind a number
-- They are its last digits.
digits_value : (k v : ℕ) (ds : List ℕ) → AllDigits ds → digits (k + length ds) (value_after v ds) ≡ digits k v ++ ds
digits_value k v [] p = let e : k + 0 ≡ k = omega arith in ap (λ (j : ℕ). digits j v) e ∙ sym (append-nil (digits k v))
digits_value k v (d ∷ ds) p =
    let e : k + suc (length ds) ≡ suc k + length ds = omega arith in
    let front : (v * 10 + (d - 48)) / 10 ≡ v = omega arith in
    let last : 48 + (v * 10 + (d - 48)) % 10 ≡ d = omega arith in
    ap (λ (j : ℕ). digits j (value_after v (d ∷ ds))) e
    ∙ digits_value (suc k) (v * 10 + (d - 48)) ds p.1
    ∙ (λ i. (digits k (front i) ++ (last i ∷ [])) ++ ds)
    ∙ append_assoc (digits k v) (d ∷ []) ds

-- ---- lengths
-- k is the length of x, by the powers of ten around x.
data Long (x : ℕ) : ℕ → Type 0 where
  one : x < 10 → Long x 1
  more : (k : ℕ) → 10 ^ suc k ≤ x → x < 10 ^ suc (suc k) → Long x (suc (suc k))

long-below : {x k : ℕ} → Long x k → x < 10 ^ k
long-below (one p) = p
long-below (more k p q) = q

-- Powers of ten rise.
order : (a b x : ℕ) → 10 ^ a ≤ x → x < 10 ^ b → a < b
order a b x p q = go (ltb a b) refl
  where
    go : (t : Bool) → ltb a b ≡ t → a < b
    go true e = ltb-true a b e
    go false e = let h : 10 ^ b ≤ 10 ^ a = pow-le-pow_right {n = 10} (omega arith) (ltb-false a b e) in absurd (omega arith)

-- A number has one length.
long-once : {x j k : ℕ} → Long x j → Long x k → j ≡ k
long-once (one p) (one q) = refl
long-once {x} (one p) (more k q r) = absurd (let h = order (suc k) 1 x q p in omega arith)
long-once {x} (more j p q) (one r) = absurd (let h = order (suc j) 1 x p r in omega arith)
long-once {x} (more j p q) (more k r s) = let g = order (suc j) (suc (suc k)) x p s in let h = order (suc k) (suc (suc j)) x r q in omega arith

-- A digit more.
long-more : {x k : ℕ} → 10 ≤ x → Long (x / 10) k → Long x (suc k)
long-more h (one p) = more 0 h (omega arith)
long-more h (more k p q) =
    let a : 10 ^ suc (suc k) ≡ 10 * 10 ^ suc k = pow-succ' 10 (suc k) in
    let b : 10 ^ suc (suc (suc k)) ≡ 10 * 10 ^ suc (suc k) = pow-succ' 10 (suc (suc k)) in
    more (suc k) (omega arith) (omega arith)

-- The formula gives it.
long-divided : (k x : ℕ) → x ≤ k → Long x (suc (divisions k x))
long-divided zero x h = one (omega arith)
long-divided (suc k) x h = go (ltb x 10) refl (λ t. long-divided k (x / 10) (omega (arith, t, h)))
  where
    go : (t : Bool) → ltb x 10 ≡ t → (10 ≤ x → Long (x / 10) (suc (divisions k (x / 10)))) → Long x (suc (cond t 0 (suc (divisions k (x / 10)))))
    go true e ih = one (ltb-true x 10 e)
    go false e ih = long-more (ltb-false x 10 e) (ih (ltb-false x 10 e))

long : (x : ℕ) → Long x (decimal_length x)
unfolding decimal_length
long x = long-divided x x (omega arith)

-- So does the table, of a number up to 65,535.
long-table : (x : ℕ) → x ≤ 65535 → Long x (table_length x)
long-table x h = go (ltb x 10) (ltb x 100) (ltb x 1000) (ltb x 10000) refl refl refl refl
  where
    go : (a b c d : Bool) → ltb x 10 ≡ a → ltb x 100 ≡ b → ltb x 1000 ≡ c → ltb x 10000 ≡ d → Long x (suc (cond a 0 (suc (cond b 0 (suc (cond c 0 (suc (cond d 0 1))))))))
    go true b c d p q r s = one (ltb-true x 10 p)
    go false true c d p q r s = more 0 (ltb-false x 10 p) (ltb-true x 100 q)
    go false false true d p q r s = more 1 (ltb-false x 100 q) (ltb-true x 1000 r)
    go false false false true p q r s = more 2 (ltb-false x 1000 r) (ltb-true x 10000 s)
    go false false false false p q r s = more 3 (ltb-false x 10000 s) (omega arith)

below_ten : (x : ℕ) → x < 10 → decimal_length x ≡ 1
below_ten x h = long-once (long x) (one h)

divided : (x : ℕ) → 10 ≤ x → decimal_length x ≡ suc (decimal_length (x / 10))
divided x h = long-once (long x) (long-more h (long (x / 10)))

from_table : (x : ℕ) → x ≤ 65535 → decimal_length x ≡ table_length x
from_table x h = long-once (long x) (long-table x h)

-- One digit, or several of which the first is no zero.
abbrev pub unpadded : List ℕ → Bool
unpadded [] = false
unpadded (d ∷ []) = true
unpadded (d ∷ (e ∷ ds)) = not (eqb d 48)

-- They are as many as the value is long.
value-above : (k v : ℕ) (ds : List ℕ) → 10 ^ k ≤ v → 10 ^ (k + length ds) ≤ value_after v ds
value-above k v [] h = let e : k + 0 ≡ k = omega arith in rw e h
value-above k v (d ∷ ds) h =
    let e : k + suc (length ds) ≡ suc k + length ds = omega arith in
    let g : 10 ^ suc k ≡ 10 * 10 ^ k = pow-succ' 10 k in
    rw e (value-above (suc k) (v * 10 + (d - 48)) ds (omega arith))

value-below : (k v : ℕ) (ds : List ℕ) → AllDigits ds → v < 10 ^ k → value_after v ds < 10 ^ (k + length ds)
value-below k v [] p h = let e : k + 0 ≡ k = omega arith in rw e h
value-below k v (d ∷ ds) p h =
    let e : k + suc (length ds) ≡ suc k + length ds = omega arith in
    let g : 10 ^ suc k ≡ 10 * 10 ^ k = pow-succ' 10 k in
    rw e (value-below (suc k) (v * 10 + (d - 48)) ds p.1 (omega arith))

value-long : (ds : List ℕ) → AllDigits ds → unpadded ds ≡ true → Long (value_after 0 ds) (length ds)
value-long [] p h = clash (sym h)
value-long (d ∷ []) p h = one (omega arith)
value-long (d ∷ e ∷ ds) p h =
    let z = eqb-false d 48 (not-true (eqb d 48) h) in
    let g : suc (length ds) ≡ 0 + suc (length ds) = omega arith in
    let n : suc (suc (length ds)) ≡ 1 + suc (length ds) = omega arith in
    more (length ds) (rw g (value-above 0 (0 * 10 + (d - 48)) (e ∷ ds) (omega arith))) (rw n (value-below 1 (0 * 10 + (d - 48)) (e ∷ ds) p.1 (omega arith)))

-- As many digits as the number is long have no leading zero.
unpadded-more : (d : ℕ) (ds : List ℕ) → 48 < d → unpadded (d ∷ ds) ≡ true
unpadded-more d [] h = refl
unpadded-more d (e ∷ ds) h = ap not (ne_eqb d 48 (λ q. (let z : d ≡ 48 = q in omega arith)))

digits-unpadded : (k x : ℕ) (ds : List ℕ) → 10 ^ k ≤ x → x < 10 ^ suc k → unpadded (digits (suc k) x ++ ds) ≡ true
digits-unpadded zero x ds p q = unpadded-more (48 + x % 10) ds (omega arith)
digits-unpadded (suc k) x ds p q =
    let g : 10 ^ suc k ≡ 10 * 10 ^ k = pow-succ' 10 k in
    let h : 10 ^ suc (suc k) ≡ 10 * 10 ^ suc k = pow-succ' 10 (suc k) in
    ap unpadded (append_snoc (digits (suc k) (x / 10)) (48 + x % 10) ds) ∙ digits-unpadded k (x / 10) ((48 + x % 10) ∷ ds) (omega arith) (omega arith)

long-unpadded : {x k : ℕ} → Long x k → unpadded (digits k x) ≡ true
long-unpadded (one p) = refl
long-unpadded {x} (more k p q) = ap unpadded (sym (append-nil (digits (suc (suc k)) x))) ∙ digits-unpadded (suc k) x [] p q

-- ---- a number written
in_bytes : (x : ℕ) → length (written x) ≡ decimal_length x
unfolding written
in_bytes x = length_digits (decimal_length x) x

bytes_from_table : (x : ℕ) → x ≤ 65535 → written x ≡ digits (table_length x) x
unfolding written
bytes_from_table x h = ap (λ (k : ℕ). digits k x) (from_table x h)

pub length-claim : LengthClaim
length-claim = record {
  below_ten = below_ten;
  divided = divided;
  in_bytes = in_bytes;
  from_table = from_table;
  bytes_from_table = bytes_from_table;
}

written_one : (x : ℕ) → x < 10 → written x ≡ (48 + x) ∷ []
unfolding written
written_one x h = let e : x % 10 ≡ x = omega arith in ap (λ (k : ℕ). digits k x) (below_ten x h) ∙ ap (λ (d : ℕ). (48 + d) ∷ []) e

written-more : (x : ℕ) → 10 ≤ x → written x ≡ written (x / 10) ++ ((48 + x % 10) ∷ [])
unfolding written
written-more x h = ap (λ (k : ℕ). digits k x) (divided x h)

pub writing-claim : WritingClaim
writing-claim = record { one = written_one; more = written-more }

pub written_all : (x : ℕ) → AllDigits (written x)
unfolding written
written_all x = digits-all (decimal_length x) x

pub written-value : (x : ℕ) → value_after 0 (written x) ≡ x
unfolding written
written-value x = value-digits (decimal_length x) x (long-below (long x))

pub written-unpadded : (x : ℕ) → unpadded (written x) ≡ true
unfolding written
written-unpadded x = long-unpadded (long x)

pub written-again : (ds : List ℕ) → AllDigits ds → unpadded ds ≡ true → written (value_after 0 ds) ≡ ds
unfolding written
written-again ds p u =
    let e : length ds ≡ 0 + length ds = omega arith in
    ap (λ (k : ℕ). digits k (value_after 0 ds)) (long-once (long (value_after 0 ds)) (value-long ds p u) ∙ e) ∙ digits_value 0 0 ds p

-- A number has a byte at least, and up to 65,535 five at most.
pub written-some : (x : ℕ) → 1 ≤ length (written x)
written-some x = rw (in_bytes x) (go (long x))
  where
    go : {k : ℕ} → Long x k → 1 ≤ k
    go (one p) = omega arith
    go (more k p q) = omega arith

pub written-most : (x : ℕ) → x ≤ 65535 → length (written x) ≤ 5
written-most x h = rw (in_bytes x) (go (long x))
  where
    go : {k : ℕ} → Long x k → k ≤ 5
    go (one p) = omega arith
    go (more k p q) = omega (arith, order (suc k) 5 x p (omega arith))

-- ---- zeros in front
-- They leave the value.
value-zeros : (z : ℕ) (ds : List ℕ) → value_after 0 (replicate z 48 ++ ds) ≡ value_after 0 ds
value-zeros zero ds = refl
value-zeros (suc z) ds = value-zeros z ds

zeros-all : (z : ℕ) → AllDigits (replicate z 48)
zeros-all zero = tt
zeros-all (suc z) = (digit-bounded 48 (omega arith) (omega arith), zeros-all z)

pub padded-all : (z x : ℕ) → AllDigits (padded z x)
padded-all z x = all_append (replicate z 48) (written x) (zeros-all z) (written_all x)

pub padded-value : (z x : ℕ) → value_after 0 (padded z x) ≡ x
padded-value z x = value-zeros z (written x) ∙ written-value x

pub padded-form : (z x : ℕ) → x ≤ 65535 → length (padded z x) ≤ 5 → in_form (padded z x) ≡ true
padded-form z x h l =
    let some-digit : 0 < length (padded z x) = omega (arith, length-append (replicate z 48) (written x), written-some x) in
    and-true (and-true (lt-ltb 0 (length (padded z x)) some-digit) (le-leb (length (padded z x)) _ (omega (arith, l)))) (ap (λ (v : ℕ). leb v 65535) (padded-value z x) ∙ le-leb x 65535 h)

-- A number that is written is in form.
pub written-form : (x : ℕ) → x ≤ 65535 → in_form (written x) ≡ true
written-form x h = padded-form 0 x h (written-most x h)

-- Some zeros, and digits that are not padded.
record Split (ds : List ℕ) : Type 0 where
  zeros : ℕ
  digits-left : List ℕ
  all : AllDigits digits-left
  form : unpadded digits-left ≡ true
  joined : ds ≡ replicate zeros 48 ++ digits-left

split : (d : ℕ) (ds : List ℕ) → AllDigits (d ∷ ds) → Split (d ∷ ds)
split d [] p = record { zeros = 0; digits-left = d ∷ []; all = p; form = refl; joined = refl }
split d (e ∷ ds) p = go (compare d 48) (split e ds p.1)
  where
    go : Compared d 48 → Split (e ∷ ds) → Split (d ∷ e ∷ ds)
    go (equal q t) s = record { zeros = suc s.zeros; digits-left = s.digits-left; all = s.all; form = s.form; joined = λ i. q i ∷ s.joined i }
    go (other q t) s = record { zeros = 0; digits-left = d ∷ e ∷ ds; all = p; form = ap not t; joined = refl }

-- Digits in form are their value behind zeros.
record Again (ds : List ℕ) : Type 0 where
  zeros : ℕ
  same : ds ≡ padded zeros (value_after 0 ds)

again : (ds : List ℕ) → AllDigits ds → 0 < length ds → Again ds
again [] p l = absurd (omega arith)
again (d ∷ ds) p l =
    let s = split d ds p in
    let v : value_after 0 s.digits-left ≡ value_after 0 (d ∷ ds) = sym (ap (value_after 0) s.joined ∙ value-zeros s.zeros s.digits-left) in
    let w : written (value_after 0 s.digits-left) ≡ s.digits-left = written-again s.digits-left s.all s.form in
    record { zeros = s.zeros; same = s.joined ∙ ap (λ (l : List ℕ). replicate s.zeros 48 ++ l) (sym w ∙ ap written v) }

-- ---- a number read
-- What is known of a number found.
pub record Read (text : List ℕ) (at : ℕ) (f : Field) : Type 0 where
  pub form : in_form (digits_ahead (drop at text)) ≡ true
  pub value-is : value_after 0 (digits_ahead (drop at text)) ≡ f.value
  pub past : f.next ≡ at + length (digits_ahead (drop at text))

pub number_read : (text : List ℕ) (at : ℕ) (f : Field) → number_at text at ≡ some f → Read text at f
unfolding number_at
number_read text at f h = go (in_form (digits_ahead (drop at text))) refl h
  where
    ds : List ℕ
    ds = digits_ahead (drop at text)

    go : (b : Bool) → in_form ds ≡ b → cond b (some (record { value = value_after 0 ds; next = at + length ds })) none ≡ some f → Read text at f
    go true e h =
        let found : record { value = value_after 0 ds; next = at + length ds } ≡ f = cc in
        record { form = e; value-is = ap (λ (g : Field). g.value) found; past = sym (ap (λ (g : Field). g.next) found) }
    go false e h = absurd (let z : ◌≡◌ {A = ℕ} 0 1 = cc in omega arith)

-- Digits in form are few, and fit.
form-bounds : (ds : List ℕ) → in_form ds ≡ true → (0 < length ds) × (length ds ≤ 5) × (value_after 0 ds ≤ 65535)
form-bounds ds e =
    let a = both (few ds) (leb (value_after 0 ds) 65535) e in
    let b = both (ltb 0 (length ds)) (leb (length ds) 5) a.0 in
    (ltb-true 0 (length ds) b.0, leb-true (length ds) 5 b.1, leb-true (value_after 0 ds) 65535 a.1)

stands : (text : List ℕ) (at : ℕ) (f : Field) → number_at text at ≡ some f → Standing text at f
stands text at f h =
    let r = number_read text at f h in
    let ds = digits_ahead (drop at text) in
    let b = form-bounds ds r.form in
    let a = again ds (ahead-all (drop at text)) b.0 in
    let same : ds ≡ padded a.zeros f.value = a.same ∙ ap (padded a.zeros) r.value-is in
    let behind : drop (length ds) (drop at text) ≡ drop f.next text = drop-drop (length ds) at text ∙ ap (λ (k : ℕ). drop k text) (sym r.past) in
    record {
      zeros = a.zeros;
      fits = omega (arith, r.value-is, b.2);
      few = omega (arith, ap length same, b.1);
      past = r.past ∙ ap (λ (l : List ℕ). at + length l) same;
      bytes = ahead-drop (drop at text) ∙ (λ i. same i ++ behind i);
      ends = ap digits_ahead (sym behind) ∙ ahead-ends (drop at text);
    }

-- Digits ahead that are in form are found.
pub number-here : (text : List ℕ) (at : ℕ) (ds : List ℕ) → digits_ahead (drop at text) ≡ ds → in_form ds ≡ true → number_at text at ≡ some (record { value = value_after 0 ds; next = at + length ds })
unfolding number_at
number-here text at ds e f = ap (λ (l : List ℕ). field_of l at) e ∙ rw f

-- A number that stands at a place is found there.
reads : (text : List ℕ) (at : ℕ) (f : Field) → Standing text at f → number_at text at ≡ some f
reads text at f s =
    let ds = padded s.zeros f.value in
    let ahead : digits_ahead (drop at text) ≡ ds = ap digits_ahead s.bytes ∙ ahead-append ds (drop f.next text) (padded-all s.zeros f.value) s.ends in
    let v = padded-value s.zeros f.value in
    let n = sym s.past in
    number-here text at ds ahead (padded-form s.zeros f.value s.fits s.few) ∙ (λ i. some (record { value = v i; next = n i }))

too_long : (text : List ℕ) (at : ℕ) → 5 < length (digits_ahead (drop at text)) → number_at text at ≡ none
unfolding number_at
too_long text at h = let ds = digits_ahead (drop at text) in rw (lt-leb (length ds) 5 h, and-false (ltb 0 (length ds)))

too_large : (text : List ℕ) (at : ℕ) → 65535 < value_after 0 (digits_ahead (drop at text)) → number_at text at ≡ none
unfolding number_at
too_large text at h = let ds = digits_ahead (drop at text) in rw (lt-leb (value_after 0 ds) 65535 h, and-false (few ds))

pub number-claim : NumberClaim
number-claim = record { size = λ x h. (written-some x, written-most x h); found = λ text at f. (stands text at f, reads text at f); too_long = too_long; too_large = too_large }

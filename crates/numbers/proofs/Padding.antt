-- Padding: a text without it begins with the digits as they are written, and goes on with what follows them, without padding.
-- By the text's recursion; what follows digits is no digit, so that the digits that two equal texts begin with are equal.
use Rattle.std.proofs.Common.{◌≡◌, refl, sym, ap, ◌∙◌, Bool, true, false, cond, not, ◌&&◌, ◌||◌, List, [], ◌∷◌, ◌++◌, append_assoc, append-nil, ℕ, zero, suc, ◌+◌, ◌≤◌, ◌<◌, arith, eqb, length, get_or, drop, replicate, length-append, length-drop, drop-drop}
use Rattle.std.proofs.Math.Option.{none, some, none-ne-some}
use mathlib.Core.Bool.{and-true, and-false, or-false, or_assoc}
use lib.Seq.{append_snoc, drop-append_seam}
use borrow.Author.Tests.{not-true}
use Rattle.lists.proofs.Tests.{clash, neither, Compared, equal, other, compare}
use Rattle.numbers.specs.Decimal.{written, is_digit, digits_ahead, value_after, in_form, Field, number_at}
use Rattle.numbers.specs.Padding.{padded, zero_first, padding_from, has_padding, plain, unpad_from, unpad}
use Rattle.numbers.specs.Claims.{PaddingClaim, UnpadClaim, Found, ReadingClaim}
use Rattle.numbers.proofs.Numbers.{digit-tested, AllDigits, all_append, unpadded, ahead-all, ahead-drop, ahead-ends, ahead-append, number_read, number-here}
use Rattle.numbers.proofs.Numbers.{written_all, written-value, written-some, written-most, padded-all, padded-value, padded-form, written-unpadded, written-again, written-form}

-- What follows the digits that a text begins with.
abbrev behind : List ℕ → List ℕ
behind l = drop (length (digits_ahead l)) l

byte-kept : (b : ℕ) (l : List ℕ) → is_digit b ≡ false → unpad (b ∷ l) ≡ b ∷ unpad l
unfolding unpad
byte-kept b l t = rw t

-- ---- the digits first
from-digits : (ds l : List ℕ) → unpad_from ds l ≡ plain (ds ++ digits_ahead l) ++ unpad (behind l)
unfolding unpad
from-digits ds [] = ap plain (sym (append-nil ds)) ∙ sym (append-nil (plain (ds ++ [])))
from-digits ds (b ∷ l) = go (is_digit b) refl (from-digits (ds ++ (b ∷ [])) l)
  where
    go : (t : Bool) → is_digit b ≡ t → unpad_from (ds ++ (b ∷ [])) l ≡ plain ((ds ++ (b ∷ [])) ++ digits_ahead l) ++ unpad (behind l)
        → cond t (unpad_from (ds ++ (b ∷ [])) l) (plain ds ++ (b ∷ unpad_from [] l)) ≡ plain (ds ++ cond t (b ∷ digits_ahead l) []) ++ unpad (drop (length (cond t (b ∷ digits_ahead l) [])) (b ∷ l))
    go true e ih = ih ∙ ap (λ (k : List ℕ). plain k ++ unpad (behind l)) (append_snoc ds b (digits_ahead l))
    go false e ih = λ i. plain (sym (append-nil ds) i) ++ sym (byte-kept b l e) i

digits-first : (l : List ℕ) → unpad l ≡ plain (digits_ahead l) ++ unpad (behind l)
unfolding unpad
digits-first l = from-digits [] l

-- A text that begins with no digit does so without padding, too.
none_ahead : (l : List ℕ) → digits_ahead l ≡ [] → digits_ahead (unpad l) ≡ []
unfolding unpad
none_ahead [] h = refl
none_ahead (b ∷ l) h = go (is_digit b) refl h
  where
    go : (t : Bool) → is_digit b ≡ t → cond t (b ∷ digits_ahead l) [] ≡ [] → digits_ahead (unpad (b ∷ l)) ≡ []
    go true e h = absurd (omega (arith, ap length h))
    go false e h = ap digits_ahead (byte-kept b l e) ∙ rw e

-- So does what follows the digits.
none-behind : (l : List ℕ) → digits_ahead (unpad (behind l)) ≡ []
none-behind l = none_ahead (behind l) (ahead-ends l)

plain_form : (ds : List ℕ) → in_form ds ≡ true → plain ds ≡ written (value_after 0 ds)
plain_form ds e = rw e

plain_other : (ds : List ℕ) → in_form ds ≡ false → plain ds ≡ ds
plain_other ds e = rw e

plain-all : (ds : List ℕ) → AllDigits ds → AllDigits (plain ds)
plain-all ds p = go (in_form ds)
  where
    go : (t : Bool) → AllDigits (cond t (written (value_after 0 ds)) ds)
    go true = written_all (value_after 0 ds)
    go false = p

-- A text without padding begins with them, without padding.
ahead-plain : (l : List ℕ) → digits_ahead (unpad l) ≡ plain (digits_ahead l)
ahead-plain l = ap digits_ahead (digits-first l) ∙ ahead-append (plain (digits_ahead l)) (unpad (behind l)) (plain-all (digits_ahead l) (ahead-all l)) (none-behind l)

-- What follows them.
behind-plain : (l ds rest : List ℕ) → AllDigits ds → digits_ahead rest ≡ [] → unpad l ≡ ds ++ rest → (plain (digits_ahead l) ≡ ds) × (unpad (behind l) ≡ rest)
behind-plain l ds rest p e h =
    let same : plain (digits_ahead l) ≡ ds = sym (ahead-plain l) ∙ ap digits_ahead h ∙ ahead-append ds rest p e in
    let a = drop-append_seam (plain (digits_ahead l)) (unpad (behind l)) in
    (same, sym a ∙ (λ i. drop (length (same i)) ((sym (digits-first l) ∙ h) i)) ∙ drop-append_seam ds rest)

-- ---- numbers
was_read : (text : List ℕ) (at : ℕ) (f : Field) → number_at text at ≡ some f → unpad (drop at text) ≡ written f.value ++ unpad (drop f.next text)
was_read text at f h =
    let r = number_read text at f h in
    let ds = digits_ahead (drop at text) in
    digits-first (drop at text)
    ∙ (λ i. (plain_form ds r.form ∙ ap written r.value-is) i ++ unpad ((drop-drop (length ds) at text ∙ ap (λ (k : ℕ). drop k text) (sym r.past)) i))

reads : (text : List ℕ) (at x : ℕ) (rest : List ℕ) → x ≤ 65535 → at ≤ length text → unpad (drop at text) ≡ written x ++ rest → digits_ahead rest ≡ [] → Found text at x rest
reads text at x rest fit within h e = go (in_form (digits_ahead (drop at text))) refl
  where
    ds : List ℕ
    ds = digits_ahead (drop at text)

    b : (plain ds ≡ written x) × (unpad (behind (drop at text)) ≡ rest)
    b = behind-plain (drop at text) (written x) rest (written_all x) e h

    few : length ds ≤ length (drop at text)
    few = omega (arith, ap length (ahead-drop (drop at text)), length-append ds (behind (drop at text)))

    go : (t : Bool) → in_form ds ≡ t → Found text at x rest
    go true f =
        let v : value_after 0 ds ≡ x = sym (written-value (value_after 0 ds)) ∙ ap (value_after 0) (sym (plain_form ds f) ∙ b.0) ∙ written-value x in
        record {
          next = at + length ds;
          found = number-here text at ds refl f ∙ ap (λ (w : ℕ). some (record { value = w; next = at + length ds })) v;
          within = omega (arith, length-drop at text, few);
          behind = ap unpad (sym (drop-drop (length ds) at text)) ∙ b.1;
        }
    go false f = clash (sym (ap in_form (sym (plain_other ds f) ∙ b.0) ∙ written-form x fit) ∙ f)

-- ---- bytes
-- Digits have some without padding, too.
plain-some : (d : ℕ) (ds : List ℕ) → 0 < length (plain (d ∷ ds))
plain-some d ds = go (in_form (d ∷ ds))
  where
    go : (t : Bool) → 0 < length (cond t (written (value_after 0 (d ∷ ds))) (d ∷ ds))
    go true = omega (arith, written-some (value_after 0 (d ∷ ds)))
    go false = omega arith

-- A text that begins with a digit does so without padding, too.
digit-first : (c : ℕ) (l : List ℕ) → is_digit c ≡ true → 0 < length (digits_ahead (unpad (c ∷ l)))
digit-first c l t = let e : plain (digits_ahead (c ∷ l)) ≡ plain (c ∷ digits_ahead l) = rw t in omega (arith, ap length (ahead-plain (c ∷ l) ∙ e), plain-some c (digits_ahead l))

byte_was : (b : ℕ) (l rest : List ℕ) → is_digit b ≡ false → unpad l ≡ b ∷ rest → (l ≡ b ∷ drop 1 l) × (unpad (drop 1 l) ≡ rest)
unfolding unpad
byte_was b [] rest t h = absurd (omega (arith, ap length h))
byte_was b (c ∷ l) rest t h = go (is_digit c) refl
  where
    go : (s : Bool) → is_digit c ≡ s → (◌≡◌ {A = List ℕ} (c ∷ l) (b ∷ l)) × (unpad l ≡ rest)
    go true e = let z : digits_ahead (unpad (c ∷ l)) ≡ [] = ap digits_ahead h ∙ rw t in absurd (omega (arith, ap length z, digit-first c l e))
    go false e = let q : ◌≡◌ {A = List ℕ} (c ∷ unpad l) (b ∷ rest) = sym (byte-kept c l e) ∙ h in (λ i. get_or (q i) 0 0 ∷ l, ap (drop 1) q)

end_was : (l : List ℕ) → unpad l ≡ [] → l ≡ []
end_was [] h = refl
end_was (c ∷ l) h = go (is_digit c) refl
  where
    go : (s : Bool) → is_digit c ≡ s → c ∷ l ≡ []
    go true e = absurd (omega (arith, ap (λ (k : List ℕ). length (digits_ahead k)) h, digit-first c l e))
    go false e = absurd (omega (arith, ap length (sym (byte-kept c l e) ∙ h)))

pub reading-claim : ReadingClaim
reading-claim = record { reads = reads; was_read = was_read; byte_was = byte_was; end_was = end_was }

-- ---- what a text is without padding
number : (x z : ℕ) (rest : List ℕ) → x ≤ 65535 → length (padded z x) ≤ 5 → digits_ahead rest ≡ [] → unpad (padded z x ++ rest) ≡ written x ++ unpad rest
number x z rest h few e =
    let a : digits_ahead (padded z x ++ rest) ≡ padded z x = ahead-append (padded z x) rest (padded-all z x) e in
    let p : plain (padded z x) ≡ written x = plain_form (padded z x) (padded-form z x h few) ∙ ap written (padded-value z x) in
    digits-first (padded z x ++ rest)
    ∙ (λ i. plain (a i) ++ unpad (drop (length (a i)) (padded z x ++ rest)))
    ∙ (λ i. p i ++ unpad (drop-append_seam (padded z x) rest i))

no_number : (text : List ℕ) → number_at text 0 ≡ none → unpad text ≡ digits_ahead text ++ unpad (behind text)
no_number text h = go (in_form (digits_ahead text)) refl
  where
    go : (t : Bool) → in_form (digits_ahead text) ≡ t → unpad text ≡ digits_ahead text ++ unpad (behind text)
    go true e = absurd (none-ne-some _ (sym h ∙ number-here text 0 (digits_ahead text) refl e))
    go false e = digits-first text ∙ ap (λ (ds : List ℕ). ds ++ unpad (behind text)) (plain_other (digits_ahead text) e)

-- What stands in front of a byte that is no digit is taken by itself.
abbrev Apart : List ℕ → List ℕ → ℕ → List ℕ → Type 0
Apart ds front b rest = unpad_from ds (front ++ (b ∷ rest)) ≡ unpad_from ds front ++ (b ∷ unpad_from [] rest)

byte-from : (ds front : List ℕ) (b : ℕ) (rest : List ℕ) → is_digit b ≡ false → Apart ds front b rest
byte-from ds [] b rest e = rw e
byte-from ds (c ∷ front) b rest e = go (is_digit c) refl (byte-from (ds ++ (c ∷ [])) front b rest e) (byte-from [] front b rest e)
  where
    go : (t : Bool) → is_digit c ≡ t → Apart (ds ++ (c ∷ [])) front b rest → Apart [] front b rest → Apart ds (c ∷ front) b rest
    go true t on anew = rw t on
    go false t on anew = rw t (ap (λ (l : List ℕ). plain ds ++ (c ∷ l)) anew ∙ sym (append_assoc (plain ds) (c ∷ unpad_from [] front) (b ∷ unpad_from [] rest)))

byte : (front : List ℕ) (b : ℕ) (rest : List ℕ) → is_digit b ≡ false → unpad (front ++ (b ∷ rest)) ≡ unpad front ++ (b ∷ unpad rest)
unfolding unpad
byte front b rest e = byte-from [] front b rest e

nothing : unpad [] ≡ []
unfolding unpad
nothing = refl

anywhere : (front : List ℕ) (b x z : ℕ) (rest : List ℕ) → is_digit b ≡ false → x ≤ 65535 → length (padded z x) ≤ 5 → digits_ahead rest ≡ []
    → unpad (front ++ (b ∷ (padded z x ++ rest))) ≡ unpad (front ++ (b ∷ (written x ++ rest)))
anywhere front b x z rest t h few e =
    byte front b (padded z x ++ rest) t
    ∙ ap (λ (l : List ℕ). unpad front ++ (b ∷ l)) (number x z rest h few e ∙ sym (number x 0 rest h (written-most x h) e))
    ∙ sym (byte front b (written x ++ rest) t)

-- ---- what has padding
-- Digits behind a digit begin nothing.
padding-inside : (ds : List ℕ) → AllDigits ds → padding_from true ds ≡ false
padding-inside [] p = refl
padding-inside (d ∷ ds) p = ap (λ (t : Bool). padding_from t ds) p.0.test ∙ padding-inside ds p.1

-- So digits have padding by their first.
padding-digits : (d : ℕ) (ds : List ℕ) → AllDigits (d ∷ ds) → has_padding (d ∷ ds) ≡ zero_first (d ∷ ds)
unfolding has_padding
padding-digits d ds p = ap (λ (t : Bool). zero_first (d ∷ ds) || padding_from t ds) p.0.test ∙ ap (λ (t : Bool). zero_first (d ∷ ds) || t) (padding-inside ds p.1) ∙ or-false (zero_first (d ∷ ds))

-- They have none exactly where they are not padded.
padding-none : (ds : List ℕ) → AllDigits ds → unpadded ds ≡ true → has_padding ds ≡ false
padding-none [] p h = clash (sym h)
padding-none (d ∷ []) p h = padding-digits d [] p
padding-none (d ∷ e ∷ ds) p h = padding-digits d (e ∷ ds) p ∙ ap (λ (t : Bool). t && is_digit e) (not-true (eqb d 48) h)

none-padding : (d : ℕ) (ds : List ℕ) → AllDigits (d ∷ ds) → has_padding (d ∷ ds) ≡ false → unpadded (d ∷ ds) ≡ true
none-padding d [] p h = refl
none-padding d (e ∷ ds) p h = ap not (sym (and-true (eqb d 48)) ∙ ap (λ (t : Bool). eqb d 48 && t) (sym p.1.0.test) ∙ sym (padding-digits d (e ∷ ds) p) ∙ h)

no_padding : (x : ℕ) → has_padding (written x) ≡ false
no_padding x = padding-none (written x) (written_all x) (written-unpadded x)

-- A zero in front of digits.
zero-digits : (ds : List ℕ) → AllDigits ds → AllDigits (48 ∷ ds) → 0 < length ds → has_padding (48 ∷ ds) ≡ true
zero-digits [] p q h = absurd (omega arith)
zero-digits (d ∷ ds) p q h = padding-digits 48 (d ∷ ds) q ∙ p.0.test

padding : (x z : ℕ) → 0 < z → has_padding (padded z x) ≡ true
padding x zero h = absurd (omega arith)
padding x (suc z) h = zero-digits (padded z x) (padded-all z x) (padded-all (suc z) x) (omega (arith, length-append (replicate z 48) (written x), written-some x))

-- Bytes in front of one that is no digit have their padding by themselves.
zero-apart : (c : ℕ) (front : List ℕ) (b : ℕ) (rest : List ℕ) → is_digit b ≡ false → zero_first (c ∷ (front ++ (b ∷ rest))) ≡ zero_first (c ∷ front)
zero-apart c [] b rest e = ap (λ (t : Bool). eqb c 48 && t) e ∙ and-false (eqb c 48)
zero-apart c (d ∷ front) b rest e = refl

-- A byte that is no digit begins no padding.
zero-none : (b : ℕ) (rest : List ℕ) → is_digit b ≡ false → zero_first (b ∷ rest) ≡ false
zero-none b [] e = refl
zero-none b (c ∷ rest) e = ap (λ (t : Bool). t && is_digit c) (go (compare b 48))
  where
    go : Compared b 48 → eqb b 48 ≡ false
    go (equal q t) = clash (sym (ap is_digit q) ∙ e)
    go (other q t) = t

padding-apart : (behind : Bool) (front : List ℕ) (b : ℕ) (rest : List ℕ) → is_digit b ≡ false → padding_from behind (front ++ (b ∷ rest)) ≡ (padding_from behind front || padding_from false rest)
padding-apart behind [] b rest e = (λ i. (not behind && zero-none b rest e i) || padding_from (e i) rest) ∙ ap (λ (t : Bool). t || padding_from false rest) (and-false (not behind))
padding-apart behind (c ∷ front) b rest e =
    (λ i. (not behind && zero-apart c front b rest e i) || padding-apart (is_digit c) front b rest e i)
    ∙ sym (or_assoc (not behind && zero_first (c ∷ front)) (padding_from (is_digit c) front) (padding_from false rest))

padding-byte : (front : List ℕ) (b : ℕ) (rest : List ℕ) → is_digit b ≡ false → has_padding (front ++ (b ∷ rest)) ≡ (has_padding front || has_padding rest)
unfolding has_padding
padding-byte front b rest e = padding-apart false front b rest e

padding-nothing : has_padding [] ≡ false
unfolding has_padding
padding-nothing = refl

pub padding-claim : PaddingClaim
padding-claim = record { no_padding = no_padding; padding = padding; nothing = padding-nothing; byte = padding-byte }

-- ---- a text that has none
plain-kept : (ds : List ℕ) → AllDigits ds → has_padding ds ≡ false → plain ds ≡ ds
plain-kept [] p h = refl
plain-kept (d ∷ ds) p h = go (in_form (d ∷ ds))
  where
    go : (t : Bool) → cond t (written (value_after 0 (d ∷ ds))) (d ∷ ds) ≡ d ∷ ds
    go true = written-again (d ∷ ds) p (none-padding d ds p h)
    go false = refl

abbrev Kept : List ℕ → List ℕ → Type 0
Kept ds l = unpad_from ds l ≡ ds ++ l

kept_from : (ds l : List ℕ) → AllDigits ds → has_padding (ds ++ l) ≡ false → Kept ds l
kept_from ds [] p h = plain-kept ds p (ap has_padding (sym (append-nil ds)) ∙ h) ∙ sym (append-nil ds)
kept_from ds (b ∷ l) p h = go (is_digit b) refl (λ q. kept_from (ds ++ (b ∷ [])) l q (ap has_padding (append_snoc ds b l) ∙ h)) (λ q. kept_from [] l tt q)
  where
    go : (t : Bool) → is_digit b ≡ t → (AllDigits (ds ++ (b ∷ [])) → Kept (ds ++ (b ∷ [])) l) → (has_padding l ≡ false → Kept [] l) → Kept ds (b ∷ l)
    go true e on anew = rw e (on (all_append ds (b ∷ []) p (digit-tested b e, tt)) ∙ append_snoc ds b l)
    go false e on anew =
        let n = neither (has_padding ds) (has_padding l) (sym (padding-byte ds b l e) ∙ h) in
        rw e (λ i. plain-kept ds p n.0 i ++ (b ∷ anew n.1 i))

kept : (text : List ℕ) → has_padding text ≡ false → unpad text ≡ text
unfolding unpad
kept text h = kept_from [] text tt h

pub unpad-claim : UnpadClaim
unpad-claim = record { number = number; no_number = no_number; byte = byte; nothing = nothing; kept = kept; anywhere = anywhere }

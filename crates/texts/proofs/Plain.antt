-- Names and lines of values have no padding, and neither has what is written of a profile.
-- Byte by byte and number by number, from the claims of padding alone.
use Rattle.std.proofs.Common.{◌≡◌, refl, ap, ◌∙◌, Bool, true, false, not, ◌&&◌, ◌||◌, List, [], ◌∷◌, ◌++◌, append_assoc, ℕ}
use borrow.Author.Tests.{not-true}
use Rattle.lists.proofs.Tests.{both}
use Rattle.numbers.specs.Decimal.{written, is_digit}
use Rattle.numbers.specs.Padding.{has_padding, unpad}
use Rattle.numbers.proofs.Padding.{padding-claim, unpad-claim}
use Rattle.texts.specs.Text.{Line, Listing, comma, line_feed, element_names, line_names, row, lines_text, text_of}

-- ---- names
-- No byte of a name is a digit.
abbrev pub no_digits : List ℕ → Bool
no_digits [] = true
no_digits (b ∷ bs) = not (is_digit b) && no_digits bs

-- It has no padding.
byte-plain : (b : ℕ) (rest : List ℕ) → is_digit b ≡ false → has_padding (b ∷ rest) ≡ has_padding rest
byte-plain b rest e = padding-claim.byte [] b rest e ∙ ap (λ (t : Bool). t || has_padding rest) padding-claim.nothing

pub names-plain : (xs rest : List ℕ) → no_digits xs ≡ true → has_padding (xs ++ rest) ≡ has_padding rest
names-plain [] rest e = refl
names-plain (x ∷ xs) rest e = let q = both (not (is_digit x)) (no_digits xs) e in byte-plain x (xs ++ rest) (not-true (is_digit x) q.0) ∙ names-plain xs rest q.1

-- It stays where padding is taken off.
pub byte-kept : (b : ℕ) (rest : List ℕ) → is_digit b ≡ false → unpad (b ∷ rest) ≡ b ∷ unpad rest
byte-kept b rest e = unpad-claim.byte [] b rest e ∙ ap (λ (l : List ℕ). l ++ (b ∷ unpad rest)) unpad-claim.nothing

pub names-kept : (xs rest : List ℕ) → no_digits xs ≡ true → unpad (xs ++ rest) ≡ xs ++ unpad rest
names-kept [] rest e = refl
names-kept (x ∷ xs) rest e =
    let q = both (not (is_digit x)) (no_digits xs) e in
    byte-kept x (xs ++ rest) (not-true (is_digit x) q.0) ∙ ap (λ (l : List ℕ). x ∷ l) (names-kept xs rest q.1)

-- ---- lines of values
field_plain : (x stop : ℕ) (rest : List ℕ) → is_digit stop ≡ false → has_padding (written x ++ stop ∷ rest) ≡ has_padding rest
field_plain x stop rest e = padding-claim.byte (written x) stop rest e ∙ ap (λ (t : Bool). t || has_padding rest) (padding-claim.no_padding x)

pub row_plain : (xs rest : List ℕ) → has_padding (row xs ++ rest) ≡ has_padding rest
row_plain [] rest = byte-plain line_feed rest refl
row_plain (x ∷ []) rest = ap has_padding (append_assoc (written x) (line_feed ∷ []) rest) ∙ field_plain x line_feed rest refl
row_plain (x ∷ y ∷ ys) rest = ap has_padding (append_assoc (written x) (comma ∷ row (y ∷ ys)) rest) ∙ field_plain x comma (row (y ∷ ys) ++ rest) refl ∙ row_plain (y ∷ ys) rest

lines-plain : (ls : List Line) → has_padding (lines_text ls) ≡ false
lines-plain [] = padding-claim.nothing
lines-plain (l ∷ ls) = row_plain (l.from ∷ l.to ∷ []) (lines_text ls) ∙ lines-plain ls

-- ---- a profile
pub no_padding : (p : Listing) → has_padding (text_of p) ≡ false
unfolding text_of
no_padding p =
    let lines = lines_text p.lines in
    names-plain element_names (row (p.n ∷ p.m ∷ p.start ∷ []) ++ (line_names ++ lines)) refl
    ∙ row_plain (p.n ∷ p.m ∷ p.start ∷ []) (line_names ++ lines)
    ∙ names-plain line_names lines refl
    ∙ lines-plain p.lines

-- Padding (document 02, item 2): zeros in front of a number, and a text without them. Claims speak of it, no promise does.
use Rattle.std.specs.Prelude.{Bool, false, cond, not, ◌&&◌, ◌||◌, List, [], ◌∷◌, ◌++◌, ℕ, eqb, replicate}
use Rattle.numbers.specs.Decimal.{written, is_digit, value_after, in_form}

-- z zeros and then a number as it is written.
abbrev pub padded : ℕ → ℕ → List ℕ
padded z x = replicate z 48 ++ written x

-- ---- texts with padding
-- A zero, and a digit behind it.
abbrev pub zero_first : List ℕ → Bool
zero_first [] = false
zero_first (b ∷ []) = false
zero_first (b ∷ (c ∷ bs)) = eqb b 48 && is_digit c

-- So it is of bytes that no digit stands before. The flag: a digit stands before the first byte.
abbrev pub padding_from : Bool → List ℕ → Bool
padding_from behind [] = false
padding_from behind (b ∷ bs) = (not behind && zero_first (b ∷ bs)) || padding_from (is_digit b) bs

-- A text of any bytes has padding: some of its digits, however many, begin with a zero and go on.
unfoldable pub has_padding : List ℕ → Bool
has_padding text = padding_from false text

-- ---- texts without
-- Digits without padding: a number's as it is written; digits that are no number as they are.
abbrev pub plain : List ℕ → List ℕ
plain ds = cond (in_form ds) (written (value_after 0 ds)) ds

-- The digits ds, with the bytes behind them, without padding.
abbrev pub unpad_from : List ℕ → List ℕ → List ℕ
unpad_from ds [] = plain ds
unpad_from ds (b ∷ bs) = cond (is_digit b) (unpad_from (ds ++ (b ∷ [])) bs) (plain ds ++ (b ∷ unpad_from [] bs))

-- A text of any bytes without padding: every number in it as it is written, all else as it is. Two texts differ in padding only if these are
-- equal.
unfoldable pub unpad : List ℕ → List ℕ
unpad text = unpad_from [] text

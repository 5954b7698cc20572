-- Numbers of the text (document 01, "Text and program"): how one is written, and how one is read.
use Rattle.std.specs.Prelude.{Bool, cond, ◌&&◌, List, [], ◌∷◌, ◌++◌, ℕ, zero, suc, ◌+◌, ◌-◌, ◌*◌, ◌/◌, ◌%◌, ltb, leb, length, drop}
use Rattle.std.proofs.Math.Option.{Option, none, some}
use Rattle.lists.specs.Words.{pasted}

-- ---- writing
-- How often x can be divided by ten, remainders dropped, before it is below ten; k times at most.
abbrev pub divisions : ℕ → ℕ → ℕ
divisions zero x = 0
divisions (suc k) x = cond (ltb x 10) 0 (suc (divisions k (x / 10)))

-- A number's length: one more. The number itself is bound enough, since each division makes it less.
unfoldable pub decimal_length : ℕ → ℕ
decimal_length x = suc (divisions x x)

-- The last k digits of x.
abbrev pub digits : ℕ → ℕ → List ℕ
digits zero x = []
digits (suc k) x = digits k (x / 10) ++ ((48 + x % 10) ∷ [])

-- The bytes of a number.
unfoldable pub written : ℕ → List ℕ
written x = digits (decimal_length x) x

-- There is room for the bytes in the area, from place `at` on.
abbrev pub room : List ℕ → ℕ → List ℕ → Bool
room bytes at area = leb (at + length bytes) (length area)

-- The area with the bytes from place `at` on, where there is room for them all; else as it was.
unfoldable pub put_at : List ℕ → ℕ → List ℕ → List ℕ
put_at bytes at area = cond (room bytes at area) (pasted at bytes area) area

-- The place past the bytes, where there is room for them all; else the same place.
unfoldable pub past_at : List ℕ → ℕ → List ℕ → ℕ
past_at bytes at area = cond (room bytes at area) (at + length bytes) at

-- ---- reading
abbrev pub is_digit : ℕ → Bool
is_digit b = leb 48 b && leb b 57

-- The digits that a text begins with.
abbrev pub digits_ahead : List ℕ → List ℕ
digits_ahead [] = []
digits_ahead (b ∷ bs) = cond (is_digit b) (b ∷ digits_ahead bs) []

-- What x becomes when the digits are written behind it.
abbrev pub value_after : ℕ → List ℕ → ℕ
value_after x [] = x
value_after x (d ∷ ds) = value_after (x * 10 + (d - 48)) ds

-- One to five digits.
abbrev pub few : List ℕ → Bool
few ds = ltb 0 (length ds) && leb (length ds) 5

-- Digits in the form of a number: one to five, the first of which may be zeros, and at most 65,535.
abbrev pub in_form : List ℕ → Bool
in_form ds = few ds && leb (value_after 0 ds) 65535

-- A number found, and the place past it.
pub record Field : Type 0 where
  pub value : ℕ
  pub next : ℕ

-- These digits, which stand from place `at` on, as a number.
abbrev pub field_of : List ℕ → ℕ → Option Field
field_of ds at = cond (in_form ds) (some (record { value = value_after 0 ds; next = at + length ds })) none

-- The number that stands in the text from place `at` on; none where the digits there are not in form.
unfoldable pub number_at : List ℕ → ℕ → Option Field
number_at text at = field_of (digits_ahead (drop at text)) at

-- What is claimed of lengths, of numbers and of padding, as types; proofs/Numbers and proofs/Padding have the theorems. Callers rest on these
-- and on no definition of a number.
use Rattle.std.specs.Prelude.{◌≡◌, ◌↔◌, true, false, cond, ◌||◌, List, [], ◌∷◌, ◌++◌, ℕ, suc, ◌+◌, ◌/◌, ◌%◌, ◌≤◌, ◌<◌, ltb, length, drop}
use Rattle.std.proofs.Math.Option.{none, some}
use Rattle.numbers.specs.Decimal.{decimal_length, digits, written, is_digit, digits_ahead, value_after, Field, number_at}
use Rattle.numbers.specs.Padding.{padded, has_padding, unpad}

-- ---- lengths
-- How many of the limits, from the first on, are not above x.
abbrev pub passed : ℕ → List ℕ → ℕ
passed x [] = 0
passed x (l ∷ ls) = cond (ltb x l) 0 (suc (passed x ls))

-- A number's length by document 01: from a table of limits.
abbrev pub table_length : ℕ → ℕ
table_length x = suc (passed x (10 ∷ 100 ∷ 1000 ∷ 10000 ∷ []))

-- A number below ten has length 1; any other is one longer than a tenth of it, remainder dropped. As many bytes are written. Every number that
-- the writer takes has the same length as from the table, and so the same bytes.
pub record LengthClaim : Type 0 where
  pub below_ten : (x : ℕ) → x < 10 → decimal_length x ≡ 1
  pub divided : (x : ℕ) → 10 ≤ x → decimal_length x ≡ suc (decimal_length (x / 10))
  pub in_bytes : (x : ℕ) → length (written x) ≡ decimal_length x
  pub from_table : (x : ℕ) → x ≤ 65535 → decimal_length x ≡ table_length x
  pub bytes_from_table : (x : ℕ) → x ≤ 65535 → written x ≡ digits (table_length x) x

-- What is written: of a number below ten its digit; of any other what is written of a tenth of it, and behind that the remainder's digit.
pub record WritingClaim : Type 0 where
  pub one : (x : ℕ) → x < 10 → written x ≡ (48 + x) ∷ []
  pub more : (x : ℕ) → 10 ≤ x → written x ≡ written (x / 10) ++ ((48 + x % 10) ∷ [])

-- ---- numbers
-- A number stands at the place: some zeros and the number as it is written, five digits in all at most, and no digit behind them.
pub record Standing (text : List ℕ) (at : ℕ) (f : Field) : Type 0 where
  pub zeros : ℕ
  pub fits : f.value ≤ 65535
  pub few : length (padded zeros f.value) ≤ 5
  pub past : f.next ≡ at + length (padded zeros f.value)
  pub bytes : drop at text ≡ padded zeros f.value ++ drop f.next text
  pub ends : digits_ahead (drop f.next text) ≡ []

-- A number is written with one to five digits. One is found exactly where one stands. Six digits are none, and digits worth more than 65,535 are
-- none.
pub record NumberClaim : Type 0 where
  pub size : (x : ℕ) → x ≤ 65535 → (1 ≤ length (written x)) × (length (written x) ≤ 5)
  pub found : (text : List ℕ) (at : ℕ) (f : Field) → (number_at text at ≡ some f) ↔ Standing text at f
  pub too_long : (text : List ℕ) (at : ℕ) → 5 < length (digits_ahead (drop at text)) → number_at text at ≡ none
  pub too_large : (text : List ℕ) (at : ℕ) → 65535 < value_after 0 (digits_ahead (drop at text)) → number_at text at ≡ none

-- ---- padding
-- What is written of a number has no padding; behind zeros it has. The empty text has none, and two texts with a byte between them that is no
-- digit have padding where either has.
pub record PaddingClaim : Type 0 where
  pub no_padding : (x : ℕ) → has_padding (written x) ≡ false
  pub padding : (x z : ℕ) → 0 < z → has_padding (padded z x) ≡ true
  pub nothing : has_padding [] ≡ false
  pub byte : (front : List ℕ) (b : ℕ) (rest : List ℕ) → is_digit b ≡ false → has_padding (front ++ (b ∷ rest)) ≡ (has_padding front || has_padding rest)

-- Taking padding off: a number becomes what is written of it, digits that are no number stay, and two texts with a byte between them that is no
-- digit lose theirs each by itself. A text that has none stays as it is. Padding one number, wherever it stands, gives a text that differs in
-- padding only.
pub record UnpadClaim : Type 0 where
  pub number : (x z : ℕ) (rest : List ℕ) → x ≤ 65535 → length (padded z x) ≤ 5 → digits_ahead rest ≡ [] → unpad (padded z x ++ rest) ≡ written x ++ unpad rest
  pub no_number : (text : List ℕ) → number_at text 0 ≡ none → unpad text ≡ digits_ahead text ++ unpad (drop (length (digits_ahead text)) text)
  pub byte : (front : List ℕ) (b : ℕ) (rest : List ℕ) → is_digit b ≡ false → unpad (front ++ (b ∷ rest)) ≡ unpad front ++ (b ∷ unpad rest)
  pub nothing : unpad [] ≡ []
  pub kept : (text : List ℕ) → has_padding text ≡ false → unpad text ≡ text
  pub anywhere : (front : List ℕ) (b x z : ℕ) (rest : List ℕ) → is_digit b ≡ false → x ≤ 65535 → length (padded z x) ≤ 5 → digits_ahead rest ≡ []
      → unpad (front ++ (b ∷ (padded z x ++ rest))) ≡ unpad (front ++ (b ∷ (written x ++ rest)))

-- The number x is found at the place, and behind it stands `rest`, but for padding.
pub record Found (text : List ℕ) (at x : ℕ) (rest : List ℕ) : Type 0 where
  pub next : ℕ
  pub found : number_at text at ≡ some (record { value = x; next = next })
  pub within : next ≤ length text
  pub behind : unpad (drop next text) ≡ rest

-- Reading and padding: a number is found exactly where it stands, but for padding; and where a byte that is no digit, or the end, stands
-- without padding, it stands in the text.
pub record ReadingClaim : Type 0 where
  pub reads : (text : List ℕ) (at x : ℕ) (rest : List ℕ) → x ≤ 65535 → at ≤ length text → unpad (drop at text) ≡ written x ++ rest → digits_ahead rest ≡ [] → Found text at x rest
  pub was_read : (text : List ℕ) (at : ℕ) (f : Field) → number_at text at ≡ some f → unpad (drop at text) ≡ written f.value ++ unpad (drop f.next text)
  pub byte_was : (b : ℕ) (text rest : List ℕ) → is_digit b ≡ false → unpad text ≡ b ∷ rest → (text ≡ b ∷ drop 1 text) × (unpad (drop 1 text) ≡ rest)
  pub end_was : (text : List ℕ) → unpad text ≡ [] → text ≡ []

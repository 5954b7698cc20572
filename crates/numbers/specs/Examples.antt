-- Numbers as a text has them, and what is found there; numbers, and what is written of them: two tables.
use Rattle.std.specs.Prelude.{◌≡◌, List, [], ◌∷◌, map, ℕ, length}
use Rattle.std.proofs.Math.Option.{Option, none, some}
use Rattle.numbers.specs.Decimal.{decimal_length, written, Field, number_at}
use Rattle.numbers.specs.Claims.{table_length}

-- ---- reading
-- A text, and the number at its first place, or none.
pub record Example : Type 0 where
  pub text : List ℕ
  pub says : Option Field

abbrev example : List ℕ → Option Field → Example
example text says = record { text = text; says = says }

abbrev value : ℕ → ℕ → Option Field
value x next = some (record { value = x; next = next })

-- `00000`, `00012`, `12`, `65535`; `000000`, `000012`, `065535`, `65536`, `99999`, and no digit at all.
abbrev pub examples : List Example
examples =
    example (48 ∷ 48 ∷ 48 ∷ 48 ∷ 48 ∷ []) (value 0 5)
    ∷ example (48 ∷ 48 ∷ 48 ∷ 49 ∷ 50 ∷ []) (value 12 5)
    ∷ example (49 ∷ 50 ∷ []) (value 12 2)
    ∷ example (54 ∷ 53 ∷ 53 ∷ 51 ∷ 53 ∷ []) (value 65535 5)
    ∷ example (48 ∷ 48 ∷ 48 ∷ 48 ∷ 48 ∷ 48 ∷ []) none
    ∷ example (48 ∷ 48 ∷ 48 ∷ 48 ∷ 49 ∷ 50 ∷ []) none
    ∷ example (48 ∷ 54 ∷ 53 ∷ 53 ∷ 51 ∷ 53 ∷ []) none
    ∷ example (54 ∷ 53 ∷ 53 ∷ 51 ∷ 54 ∷ []) none
    ∷ example (57 ∷ 57 ∷ 57 ∷ 57 ∷ 57 ∷ []) none
    ∷ example [] none
    ∷ []

-- Each says what it is to say.
abbrev pub Said : List Example → Type 0
Said [] = Unit {0}
Said (e ∷ es) = (number_at e.text 0 ≡ e.says) × Said es

-- ---- writing
-- A number, and its bytes.
pub record Sample : Type 0 where
  pub number : ℕ
  pub bytes : List ℕ

abbrev sample : ℕ → List ℕ → Sample
sample x bytes = record { number = x; bytes = bytes }

-- The least and the greatest number of each length.
abbrev pub samples : List Sample
samples =
    sample 0 (48 ∷ [])
    ∷ sample 9 (57 ∷ [])
    ∷ sample 10 (49 ∷ 48 ∷ [])
    ∷ sample 99 (57 ∷ 57 ∷ [])
    ∷ sample 100 (49 ∷ 48 ∷ 48 ∷ [])
    ∷ sample 999 (57 ∷ 57 ∷ 57 ∷ [])
    ∷ sample 1000 (49 ∷ 48 ∷ 48 ∷ 48 ∷ [])
    ∷ sample 9999 (57 ∷ 57 ∷ 57 ∷ 57 ∷ [])
    ∷ sample 10000 (49 ∷ 48 ∷ 48 ∷ 48 ∷ 48 ∷ [])
    ∷ sample 65535 (54 ∷ 53 ∷ 53 ∷ 51 ∷ 53 ∷ [])
    ∷ []

-- By the formula and from the table each is as long as its bytes, and these are written.
pub record SamplesClaim : Type 0 where
  pub by_formula : map (λ (s : Sample). decimal_length s.number) samples ≡ map (λ (s : Sample). length s.bytes) samples
  pub from_table : map (λ (s : Sample). table_length s.number) samples ≡ map (λ (s : Sample). length s.bytes) samples
  pub as_written : map (λ (s : Sample). written s.number) samples ≡ map (λ (s : Sample). s.bytes) samples

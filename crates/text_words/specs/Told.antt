-- What a controller sees of the calls with a text: sizes and bytes are told in lent words, which a refused call leaves.
use Rattle.std.specs.Prelude.{ℕ, zero, suc}
use Rattle.texts.specs.Loading as loading
use Rattle.texts.specs.Loading.{Reading}
use Rattle.report.specs.Report.{Told}

-- ---- reading a text: the sizes and the start of a profile loaded; as they were where the text is refused
pub record Sizes : Type 0 where
  pub number : ℕ
  pub n : ℕ
  pub m : ℕ
  pub start : ℕ

abbrev pub sized : (number n m start : ℕ) → Sizes
sized number n m start = record { number = number; n = n; m = m; start = start }

abbrev pub handed_sizes : Reading → (n m start : ℕ) → Sizes
handed_sizes (loading.refused k) n m start = sized k n m start
handed_sizes (loading.loaded p) n m start = sized 0 p.n p.m p.start

-- ---- walking a text and printing a refusal: how many bytes are printed is one lent word
-- A word that a call taken stores, and a refused one leaves.
abbrev pub word_unless : ℕ → (new old : ℕ) → ℕ
word_unless zero new old = new
word_unless (suc k) new old = old

-- What is reported of a text, where that word held `printed`.
abbrev pub told_in : ℕ → Told → Told
told_in printed t = record { number = t.number; bytes = word_unless t.number t.bytes printed; output = t.output; after = t.after; tail = t.tail; marks = t.marks; events = t.events }

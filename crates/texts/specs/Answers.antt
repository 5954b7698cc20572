-- The answers of the reader: document 01's number and values for each case.
use Rattle.std.specs.Prelude.{Bool, ℕ, Option, Some, None, Result, Ok, Err}
use Rattle.std.proofs.Math.Option as math
use Rattle.refusals.specs.declared.Refusal.{Refusal}
use Rattle.refusals.specs.Numbers.{number_of}
use Rattle.texts.specs.Text as text
use Rattle.texts.specs.Loading.{Reading, refused, loaded}
use Rattle.texts.specs.declared.Profile.{Profile}
use Rattle.texts.specs.declared.Head.{Head}
use Rattle.texts.specs.declared.ValueLine.{ValueLine}

-- What the reader of a profile answers: 01's number, or n, m and the start.
pub data Answer : Type 0 where
  refused_with : ℕ → Answer
  sizes : (n m start : ℕ) → Answer

abbrev pub answered : Result Profile Refusal → Answer
answered (Err r) = refused_with (number_of r)
answered (Ok p) = sizes p.n p.m p.start.0

-- The answer to a text.
abbrev pub answer_to : Reading → Answer
answer_to (refused k) = refused_with k
answer_to (loaded p) = sizes p.n p.m p.start

-- ---- inside the reader
abbrev pub head_found : Option Head → math.Option text.Head
head_found (Some h) = math.some (record { n = h.n; m = h.m; start = h.start; next = h.next })
head_found None = math.none

abbrev pub line_found : Option ValueLine → math.Option text.Found
line_found (Some l) = math.some (record { line = record { from = l.from; to = l.to }; next = l.next })
line_found None = math.none

abbrev pub lines_found : Option Bool → math.Option Bool
lines_found (Some out) = math.some out
lines_found None = math.none

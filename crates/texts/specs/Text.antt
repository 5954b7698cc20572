-- The text of a profile (document 01, "Text and program"): what it says, how it is written, and how it is read.
use Rattle.std.specs.Prelude.{◌≡◌, Bool, true, false, cond, ◌&&◌, List, [], ◌∷◌, ◌++◌, ℕ, zero, suc, ◌+◌, ◌≤◌, eqb, length, get_or, drop}
use Rattle.std.proofs.Math.Option.{Option, none, some}
use Rattle.numbers.specs.Decimal.{written, Field, number_at}

-- A value line: a reference from one element to another.
pub record Line : Type 0 where
  pub from : ℕ
  pub to : ℕ

-- What a text says: how many elements and references there are, the start, and a value line for each reference.
pub record Listing : Type 0 where
  pub n : ℕ
  pub m : ℕ
  pub start : ℕ
  pub lines : List Line

abbrev pub comma : ℕ
comma = 44

abbrev pub line_feed : ℕ
line_feed = 10

-- The line of names `elements,references,start`.
abbrev pub element_names : List ℕ
element_names =
    101 ∷ 108 ∷ 101 ∷ 109 ∷ 101 ∷ 110 ∷ 116 ∷ 115 ∷ comma ∷ 114 ∷ 101 ∷ 102 ∷ 101 ∷ 114 ∷ 101 ∷ 110 ∷ 99 ∷ 101 ∷ 115 ∷ comma
    ∷ 115 ∷ 116 ∷ 97 ∷ 114 ∷ 116 ∷ line_feed ∷ []

-- The line of names `from,to`.
abbrev pub line_names : List ℕ
line_names = 102 ∷ 114 ∷ 111 ∷ 109 ∷ comma ∷ 116 ∷ 111 ∷ line_feed ∷ []

-- ---- writing
-- A line of values, commas between them, a line feed at the end.
abbrev pub row : List ℕ → List ℕ
row [] = line_feed ∷ []
row (x ∷ []) = written x ++ line_feed ∷ []
row (x ∷ (y ∷ ys)) = written x ++ comma ∷ row (y ∷ ys)

-- The value lines.
abbrev pub lines_text : List Line → List ℕ
lines_text [] = []
lines_text (l ∷ ls) = row (l.from ∷ l.to ∷ []) ++ lines_text ls

-- The text: a line of names, its values, a line of names, the value lines.
unfoldable pub text_of : Listing → List ℕ
text_of p = element_names ++ (row (p.n ∷ p.m ∷ p.start ∷ []) ++ (line_names ++ lines_text p.lines))

-- The numbers of value lines are at most 65,535.
abbrev pub Short : List Line → Type 0
Short [] = Unit {0}
Short (l ∷ ls) = (l.from ≤ 65535) × (l.to ≤ 65535) × Short ls

-- A text can say it: every number is at most 65,535, and there are as many value lines as references.
pub record Writable (p : Listing) : Type 0 where
  pub n_fits : p.n ≤ 65535
  pub m_fits : p.m ≤ 65535
  pub start_fits : p.start ≤ 65535
  pub lines_fit : Short p.lines
  pub as_many : length p.lines ≡ p.m

-- ---- reading
-- One reading after another; nothing is found where either finds nothing.
abbrev pub and_then : {A B : Type 0} → Option A → (A → Option B) → Option B
and_then none f = none
and_then (some a) f = f a

-- The text begins with these bytes.
abbrev pub begins : List ℕ → List ℕ → Bool
begins [] bs = true
begins (x ∷ xs) [] = false
begins (x ∷ xs) (b ∷ bs) = eqb x b && begins xs bs

-- A line of names at a place: the place past it.
abbrev pub names_at : List ℕ → ℕ → List ℕ → Option ℕ
names_at text at names = cond (begins names (drop at text)) (some (at + length names)) none

-- The byte `stop` behind a number: the number, and the place past that byte.
abbrev pub stopped : List ℕ → ℕ → Field → Option Field
stopped text stop f = cond (eqb (get_or text f.next 0) stop) (some (record { value = f.value; next = suc f.next })) none

-- A number at a place, and the byte `stop` behind it.
unfoldable pub field_at : List ℕ → ℕ → ℕ → Option Field
field_at text at stop = and_then (number_at text at) (stopped text stop)

-- A value line at a place, and the place past it.
pub record Found : Type 0 where
  pub line : Line
  pub next : ℕ

unfoldable pub line_at : List ℕ → ℕ → Option Found
line_at text at =
    and_then (field_at text at comma) (λ f.
    and_then (field_at text f.next line_feed) (λ t.
    some (record { line = record { from = f.value; to = t.value }; next = t.next })))

-- k value lines at a place, and then the end of the text.
unfoldable pub lines_at : List ℕ → ℕ → ℕ → Option (List Line)
lines_at text at zero = cond (eqb at (length text)) (some []) none
lines_at text at (suc k) = and_then (line_at text at) (λ l. and_then (lines_at text l.next k) (λ ls. some (l.line ∷ ls)))

-- The first three lines: their values, and the place where the value lines begin.
pub record Head : Type 0 where
  pub n : ℕ
  pub m : ℕ
  pub start : ℕ
  pub next : ℕ

unfoldable pub head_at : List ℕ → Option Head
head_at text =
    and_then (names_at text 0 element_names) (λ p.
    and_then (field_at text p comma) (λ n.
    and_then (field_at text n.next comma) (λ m.
    and_then (field_at text m.next line_feed) (λ s.
    and_then (names_at text s.next line_names) (λ q.
    some (record { n = n.value; m = m.value; start = s.value; next = q }))))))

-- What a text says; none where it is not in its form (12).
unfoldable pub listing_of : List ℕ → Option Listing
listing_of text =
    and_then (head_at text) (λ h.
    and_then (lines_at text h.next h.m) (λ ls.
    some (record { n = h.n; m = h.m; start = h.start; lines = ls })))

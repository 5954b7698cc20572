-- What the linking part of the reader asks, once the text is judged and its value lines are written.
use Rattle.std.specs.Prelude.{◌≡◌, false, List, map, ℕ, ◌+◌, ◌≤◌, length}
use Rattle.lists.specs.Words.{pasted}
use Rattle.texts.specs.Text.{Line, Listing}
use Rattle.texts.specs.Loading.{lines_out}

abbrev pub listed : (n m start : ℕ) → List Line → Listing
listed n m start ls = record { n = n; m = m; start = start; lines = ls }

-- The froms of m value lines, all of them vertices, stand as the edges' after words; else the area is as it was lent.
pub record Placed (n m : ℕ) (ls : List Line) (area after : List ℕ) : Type 0 where
  pub number : length ls ≡ m
  pub vertices : lines_out n ls ≡ false
  pub long : n + m ≤ length area
  pub words : after ≡ pasted n (map (λ l. l.from) ls) area

pub record CanLink (n m : ℕ) (after : List ℕ) : Type 0 where
  pub few_vertices : n ≤ 1000
  pub few_edges : m ≤ 4000
  pub lines : List Line
  pub area : List ℕ
  pub placed : Placed n m lines area after

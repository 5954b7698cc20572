-- The array form (document 01, "Images"): references grouped by the element they leave.
use Rattle.std.specs.Prelude.{List, map, Bool, ◌&&◌, ℕ, suc, ◌+◌, ◌-◌, eqb, leb, length}
use Rattle.lists.specs.Counts.{all_to}
use Rattle.lists.specs.Words.{at, overlay, values_from}
use Rattle.graphs.specs.Graph.{Graph}
use Rattle.graphs.specs.Image.{Image, to, lists_to}

-- n + 1 first positions, and m tails.
pub record ArrayForm : Type 0 where
  pub n : ℕ
  pub m : ℕ
  pub firsts : List ℕ
  pub tails : List ℕ

-- The rule of first positions: the first 1, the last m + 1, never falling.
abbrev pub is_ordered : ArrayForm → Bool
is_ordered a = eqb (at 0 a.firsts 1) 1 && (eqb (at 0 a.firsts (suc a.n)) (suc a.m) && all_to (λ u. leb (at 0 a.firsts u) (at 0 a.firsts (suc u))) a.n)

-- Position p is named n + p. The references of u stand from its first position up to the next element's.
abbrev pub array_graph : ArrayForm → Graph
array_graph a = record {
  size = a.n;
  out = λ u. values_from (λ p. a.n + p) (at 0 a.firsts u - 1) (at 0 a.firsts (suc u) - at 0 a.firsts u);
  to = λ r. at a.n a.tails r;
}

-- The array form of an image: elements in number order, each list in its own order.
abbrev pub array_of : Image → ArrayForm
array_of g = record {
  n = g.n;
  m = g.m;
  firsts = values_from (λ u. suc (length (lists_to g (u - 1)))) 0 (suc g.n);
  tails = map (to g) (lists_to g g.n);
}

-- The reference number of each position.
abbrev pub numbers_of : Image → List ℕ
numbers_of g = lists_to g g.n

-- The array form of an image in two areas, and the edge numbers in a third; the words past them stay.
abbrev pub array_left : Image → List ℕ → List ℕ → ArrayForm
array_left g firsts tails = record { n = g.n; m = g.m; firsts = overlay (array_of g).firsts firsts; tails = overlay (array_of g).tails tails }

abbrev pub numbers_left : Image → List ℕ → List ℕ
numbers_left g numbers = overlay (numbers_of g) numbers

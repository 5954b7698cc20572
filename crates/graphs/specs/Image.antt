-- Linked images (document 01, "Images").
use Rattle.std.specs.Prelude.{◌≡◌, List, [], ◌∷◌, ◌++◌, ℕ, zero, suc, ◌+◌, take}
use Rattle.lists.specs.Words.{at}
use Rattle.graphs.specs.Graph.{Graph}

-- A linked image. The after area: for an element its first reference, for a reference the next one on the same list, 0 at the end.
-- The tail area: the element that each reference leads to.
pub record Image : Type 0 where
  pub n : ℕ
  pub m : ℕ
  pub after : List ℕ
  pub tail : List ℕ

-- An image with its stated words alone: n + m after words and m tails. What its areas hold past these is no part of the profile.
abbrev pub stated : Image → Image
stated g = record { n = g.n; m = g.m; after = take (g.n + g.m) g.after; tail = take g.m g.tail }

-- Two images, each in areas of its own, have the same links: the same sizes and, link for link, the same stated words.
abbrev pub SameLinks : Image → Image → Type 0
SameLinks g h = stated g ≡ stated h

-- The references from x on, at most k of them.
abbrev pub chain : ℕ → List ℕ → ℕ → List ℕ
chain zero after x = []
chain (suc k) after zero = []
chain (suc k) after (suc y) = suc y ∷ chain k after (at 0 after (suc y))

-- A list has at most m references; one more is looked for, so that a ring does not pass for a list.
abbrev pub looked_for : Image → ℕ
looked_for g = suc g.m

-- The list of u.
unfoldable pub edges_of : Image → ℕ → List ℕ
edges_of g u = chain (looked_for g) g.after (at 0 g.after u)

-- The element that r leads to.
abbrev pub to : Image → ℕ → ℕ
to g r = at g.n g.tail r

-- An image as a graph.
abbrev pub graph_of : Image → Graph
graph_of g = record { size = g.n; out = edges_of g; to = to g }

-- The lists of the elements 1 to k, one after the other.
abbrev pub lists_to : Image → ℕ → List ℕ
lists_to g zero = []
lists_to g (suc k) = lists_to g k ++ edges_of g (suc k)

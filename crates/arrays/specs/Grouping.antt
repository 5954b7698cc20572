-- What the two writing parts of the converter ask, once the image is judged.
use Rattle.std.specs.Prelude.{◌≡◌, List, [], ℕ, suc, ◌+◌, ◌≤◌, length}
use Rattle.graphs.specs.Nodes.{Vertex}
use Rattle.graphs.specs.Image.{Image, edges_of}
use Rattle.graphs.specs.Refusals.{image_number}

-- There is room for the list of u from position p on.
pub record CanList (g : Image) (u : ℕ) (tails numbers : List ℕ) (p : ℕ) : Type 0 where
  pub taken : image_number g [] ≡ 0
  pub vertex : Vertex g.n u
  pub first : 1 ≤ p
  pub few : p + length (edges_of g u) ≤ suc g.m
  pub long_tails : g.m ≤ length tails
  pub long_numbers : g.m ≤ length numbers

-- There is room for all lists and first positions.
pub record CanGroup (g : Image) (firsts tails numbers : List ℕ) : Type 0 where
  pub taken : image_number g [] ≡ 0
  pub long_firsts : g.n + 1 ≤ length firsts
  pub long_tails : g.m ≤ length tails
  pub long_numbers : g.m ≤ length numbers

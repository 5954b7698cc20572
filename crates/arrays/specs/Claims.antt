-- What is claimed of queries, as types; proofs/Arrays has the theorems.
use Rattle.std.specs.Prelude.{◌≡◌, List, [], map, ℕ}
use Rattle.graphs.specs.Nodes.{Vertex}
use Rattle.graphs.specs.Image.{Image, edges_of, to}
use Rattle.graphs.specs.ArrayForm.{ArrayForm, array_graph, array_left}
use Rattle.graphs.specs.Refusals.{Lent, image_number, array_number}
use Rattle.arrays.specs.Arrays.{queried}

-- A query taken gets the elements that the references of u lead to, in their order.
abbrev pub QueryClaim : Type 0
QueryClaim = (a : ArrayForm) (u : ℕ) → array_number a u [] ≡ 0 → queried a u ≡ map (array_graph a).to ((array_graph a).out u)

-- Of a converted image, left in areas of any length, it gets the elements that the list of u leads to.
abbrev pub ConvertClaim : Type 0
ConvertClaim = (g : Image) (areas : List Lent) (firsts tails : List ℕ) → image_number g areas ≡ 0 → (u : ℕ) → Vertex g.n u → queried (array_left g firsts tails) u ≡ map (to g) (edges_of g u)

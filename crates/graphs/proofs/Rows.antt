-- The tables of rows, each in one theorem.
-- By computation on the definitions.
use Rattle.std.proofs.Common.{refl}
use Rattle.lists.specs.Rows.{AllAnswered}
use Rattle.lists.specs.Words.{at}
use Rattle.graphs.specs.Search.{walk_edges, search, depth_first, traverse_all, drain, breadth_first}
use Rattle.graphs.specs.Image.{edges_of}
use Rattle.graphs.specs.Refusals.{after_out, tail_out, list_out, image_number, search_number, array_number, array_search_number}
use Rattle.graphs.specs.Rows.{numbers, areas}

pub numbers-hold : AllAnswered numbers
unfolding at edges_of after_out tail_out list_out image_number search_number array_number array_search_number
numbers-hold = refl

pub areas-hold : AllAnswered areas
unfolding at edges_of walk_edges search depth_first traverse_all drain breadth_first
areas-hold = refl

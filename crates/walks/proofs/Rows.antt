-- The table of rows, in one theorem: by computation on the definitions.
use Rattle.std.proofs.Common.{refl}
use Rattle.lists.specs.Rows.{AllAnswered}
use Rattle.lists.specs.Words.{at}
use Rattle.graphs.specs.Image.{edges_of}
use Rattle.graphs.specs.Refusals.{after_out, tail_out, list_out, search_number, array_search_number}
use Rattle.walks.specs.Rows.{areas}

pub areas-hold : AllAnswered areas
unfolding at edges_of after_out tail_out list_out search_number array_search_number
areas-hold = refl

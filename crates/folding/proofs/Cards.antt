-- The cards, in one theorem.
-- By computation on the definitions.
use Rattle.std.proofs.Common.{refl}
use Rattle.lists.specs.Words.{at, put}
use Rattle.graphs.specs.Image.{edges_of}
use Rattle.graphs.specs.Search.{walk_edges, search, depth_first, traverse_all, drain, breadth_first}
use Rattle.graphs.specs.Refusals.{after_out, tail_out, list_out, image_number, search_number}
use Rattle.folding.specs.Machine.{step_of, fits, enact}
use Rattle.folding.specs.Calls.{run, serve, opening, open_number, fields_in, run_number, roll_back_number}
use Rattle.folding.specs.Lines.{calls}
use Rattle.folding.specs.Cards.{cards, Answered}

pub cards-hold : Answered cards
unfolding at put after_out tail_out list_out image_number search_number open_number fields_in run_number roll_back_number edges_of walk_edges search depth_first traverse_all drain breadth_first step_of fits enact run serve opening calls
cards-hold = (refl, (refl, (refl, (refl, (refl, (refl, (refl, (refl, (refl, (refl, (refl, (refl, (refl, (refl, (refl, (refl, (refl, (refl, (refl, (refl, (refl, (refl, (refl, (refl, (refl, (refl, (refl, (refl, (refl, (refl, (refl, (refl, (refl, (refl, (refl, (refl, (refl, (refl, (refl, (refl, (refl, tt)))))))))))))))))))))))))))))))))))))))))

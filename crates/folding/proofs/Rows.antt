-- The tables of rows, each in one theorem.
-- By computation on the definitions.
use Rattle.std.proofs.Common.{refl}
use Rattle.lists.specs.Rows.{AllAnswered}
use Rattle.lists.specs.Words.{at, put}
use Rattle.graphs.specs.Image.{edges_of}
use Rattle.graphs.specs.Refusals.{after_out, tail_out, list_out, search_number}
use Rattle.folding.specs.Machine.{step_of, fits, enact}
use Rattle.folding.specs.Calls.{run, serve, opening, open_number, fields_in, run_number, step_number, roll_back_number, accept_number}
use Rattle.folding.specs.Lines.{calls}
use Rattle.folding.specs.Rows.{numbers, hostile, phases_and_orders}

pub numbers-hold : AllAnswered numbers
unfolding at put after_out tail_out list_out search_number open_number fields_in run_number step_number roll_back_number accept_number edges_of step_of fits enact
numbers-hold = refl

pub hostile-hold : AllAnswered hostile
unfolding at put fields_in run_number step_number roll_back_number accept_number step_of fits enact run serve
hostile-hold = refl

pub phases-and-orders-hold : AllAnswered phases_and_orders
unfolding at put after_out tail_out list_out search_number open_number fields_in run_number step_number roll_back_number accept_number edges_of step_of fits enact run serve opening calls
phases-and-orders-hold = refl

-- `read_line` finds the value line at a place.
-- By what the two fields are found to be, the second from the place where the first ends.
use Rattle.std.proofs.Common.{◌∙◌}
use Rattle.texts.specs.Text.{line_at}
use Rattle.texts.proofs.Reading.{first-none, first_some}
use Rattle.texts.proofs.read_line.Goals as goal

pub returns-in_err-from : goal.returns-in_err-from
unfolding line_at
returns-in_err-from c = rw c.from_residual.ensures (first-none _ c.in_err-from.ensures)

pub returns-in_err-to : goal.returns-in_err-to
unfolding line_at
returns-in_err-to c = rw c.from_residual-in_err-to.ensures (first-none _ c.in_err-to.ensures ∙ first_some _ c.in_ok-from.ensures)

pub returns : goal.returns
unfolding line_at
returns c = first_some _ c.in_ok-to.ensures ∙ first_some _ c.in_ok-from.ensures

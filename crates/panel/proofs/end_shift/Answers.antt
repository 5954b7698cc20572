-- Refused, the last card of a shift leaves the figure as it was.
use Rattle.std.proofs.Common.{ap}
use Rattle.refusals.proofs.Numbers.{refused-not-taken}
use Rattle.panel.specs.Panel.{accepted_as, ended_as}
use Rattle.panel.proofs.Shifts.{ended-refused}
use Rattle.panel.proofs.end_shift.Goals as goal

pub returns-in-Err : goal.returns-in-Err
returns-in-Err c =
    let a = c.args in
    ended-refused a.figure a.s (ended_as a.s c.close_shift-t.result) c.close_shift-t.ensures _ (ap (accepted_as a.s) c.in-Err.is) (refused-not-taken c.in-Err.refusal)

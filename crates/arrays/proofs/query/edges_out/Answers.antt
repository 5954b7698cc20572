-- The part handed out is what the query gets.
-- The query's number is 0 only where the first positions of u and of the next element bound a part of the tails.
use Rattle.std.proofs.Common.{sym, ◌∙◌}
use Rattle.refusals.proofs.Numbers.{refused-not-taken}
use Rattle.arrays.proofs.Arrays.{asked, query-taken, query-refused}
use Rattle.arrays.proofs.query.edges_out.Goals as goal

pub part-requires : goal.part-requires
part-requires c = asked _ _ (sym c.in-Ok.ensures)

pub returns-in-Ok : goal.returns-in-Ok
returns-in-Ok c = c.part.ensures ∙ sym (query-taken _ _ (sym c.in-Ok.ensures))

pub returns-in-Err : goal.returns-in-Err
returns-in-Err c = query-refused _ _ _ c.in-Err.ensures (refused-not-taken c.in-Err.field-0)

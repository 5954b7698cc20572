-- A refused call leaves the word for the bytes as it leaves the areas; of a text walked the bytes printed are stored there.
use Rattle.std.proofs.Common.{ap}
use Rattle.refusals.proofs.Numbers.{refused-not-taken}
use Rattle.text_words.specs.Told.{told_in}
use Rattle.text_words.proofs.Printing.{printed-kept}
use Rattle.text_words.proofs.walk_text_in_words.Goals as goal

pub returns-in-Err : goal.returns-in-Err
returns-in-Err c = rw c.number.ensures (printed-kept _ 0 _ _ _ _ _ _ _ c.in-Err.ensures (refused-not-taken c.in-Err.refusal))

pub returns-in-Ok : goal.returns-in-Ok
returns-in-Ok c = ap (told_in c.args.printed.now) c.in-Ok.ensures

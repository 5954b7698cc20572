-- A refused call leaves the area and the word; of a line printed both are those of the inner call.
use Rattle.refusals.proofs.Numbers.{refused-not-taken}
use Rattle.text_words.proofs.Printing.{word_kept}
use Rattle.text_words.proofs.refusal_line_in_words.Goals as goal

pub returns-in-Err-clause-printed : goal.returns-in-Err-clause-printed
returns-in-Err-clause-printed c = rw c.number.ensures (word_kept _ _ _ (refused-not-taken c.in-Err.refusal))

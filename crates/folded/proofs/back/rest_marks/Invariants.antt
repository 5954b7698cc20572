use Rattle.folded.proofs.Backs.{Resting}
use Rattle.folded.proofs.back.rest_marks.Given as goal

abbrev pub invariant-loop-mark : goal.invariant-loop-mark
invariant-loop-mark l = Resting l.mark-index l.initial.first l.first

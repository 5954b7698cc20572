use Rattle.texts.proofs.Reading.{Judging}
use Rattle.texts.proofs.judge_lines.Given as goal

abbrev pub invariant-loop : goal.invariant-loop
invariant-loop l = Judging l.text l.at l.n l.m l.out l.next l.counter

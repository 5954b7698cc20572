use Rattle.std.proofs.Common.{List, ℕ}
use Rattle.texts.specs.Text.{Line}
use Rattle.texts.proofs.Linking.{Linked}
use Rattle.texts.proofs.link.Given as goal

abbrev pub invariant-loop-k : goal.invariant-loop-k
invariant-loop-k l = (ls : List Line) (area : List ℕ) → Linked l.n l.m l.m ls area l.initial.after → Linked l.n l.m l.k ls area l.after

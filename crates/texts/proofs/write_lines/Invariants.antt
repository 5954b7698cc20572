use Rattle.std.proofs.Common.{◌≡◌, List, length}
use Rattle.std.proofs.Math.Option.{some}
use Rattle.texts.specs.Text.{Line, lines_at}
use Rattle.texts.proofs.Linking.{Written}
use Rattle.texts.proofs.write_lines.Given as goal

abbrev pub invariant-loop-k : goal.invariant-loop-k
invariant-loop-k l = (length l.after ≡ length l.initial.after)
    × (length l.tail ≡ length l.initial.tail)
    × ((ls : List Line) → lines_at l.text l.at l.m ≡ some ls → Written l.text l.n l.m ls l.initial.after l.initial.tail l.k l.next l.after l.tail)

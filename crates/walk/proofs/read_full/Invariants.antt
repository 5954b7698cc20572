-- `read_full` ends: the room left falls with each turn, since each turn that goes on read a byte. It reads no more than there is room, and what
-- it has filled is what the input gave.
use Rattle.std.proofs.Common.{◌≤◌, ◌-◌, length, take}
use Rattle.std.specs.Io.KnownBytes.{Consumes}
use Rattle.walk.proofs.read_full.Given as goal

abbrev pub invariant-loop-read : goal.invariant-loop-read
invariant-loop-read g l = record {
  in_room : l.read ≤ length l.text;
  so_far : Consumes (g.R.Read.remaining l.initial.input) (g.R.Read.remaining l.input) (take l.read l.text);
}

abbrev pub decreases-loop-read : goal.decreases-loop-read
decreases-loop-read g l = length l.text - l.read

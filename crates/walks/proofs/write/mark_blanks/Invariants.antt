use Rattle.std.proofs.Common.{◌≡◌, List, [], ℕ, min, length, take}
use Rattle.graphs.specs.Results.{marks_first}
use Rattle.walks.proofs.write.mark_blanks.Given as goal

abbrev pub invariant-loop-x : goal.invariant-loop-x
invariant-loop-x l = (length l.marks ≡ length l.initial.marks)
    × ((area : List ℕ) → l.initial.marks ≡ marks_first (min l.nodes (length area)) [] area → l.marks ≡ marks_first (min l.nodes (length area)) (take l.x-index l.before) area)

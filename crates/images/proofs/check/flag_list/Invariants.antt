use Rattle.std.proofs.Common.{◌-◌}
use Rattle.images.specs.Checking.{list_from, flag_all}
use Rattle.images.proofs.Checks.{Along}
use Rattle.images.proofs.check.flag_list.Given as goal

abbrev pub invariant-loop-r : goal.invariant-loop-r
invariant-loop-r l = Along l.g.n l.g.m l.g.after.now (flag_all l.g.n l.initial.flags l.count (list_from l.g.m l.g.after.now l.first)) l.flags l.r l.c

abbrev pub decreases-loop-r : goal.decreases-loop-r
decreases-loop-r l = l.g.m - l.c

-- `walk_whole` opens the walk and runs it: `proofs/Whole` says that both are taken, and what they come to.
use Rattle.std.proofs.Common.{arith, lit≤}
use borrow.Rule.Slice.PartMut.{put_mid}
use Rattle.images.specs.Checking.{image}
use Rattle.report.proofs.Whole as whole
use Rattle.report.proofs.walk.walk_whole.Goals.{After-unwrap-r}
use Rattle.report.proofs.walk.walk_whole.Goals as goal

pub unwrap-requires : goal.unwrap-requires
unwrap-requires c = whole.opens c.requires c.open.result c.open.new.marks c.open.new.events c.open.ensures

pub unwrap-r-requires : goal.unwrap-r-requires
unwrap-r-requires c =
    let r = c.run.new in
    whole.runs c.requires c.open.result c.open.new.marks c.open.new.events c.open.ensures c.unwrap.result c.unwrap.ensures c.run.result r.after r.tail r.marks r.events c.run.ensures (lit≤ tt) (lit≤ tt)

-- What the run has walked.
walked : (c : After-unwrap-r) → whole.Walked (image c.args.profile.n c.args.profile.m c.args.after.now c.args.tail.now) c.args.profile.start.0 c.args.marks.now c.args.events.now c.unwrap-r.result c.run.new.after c.run.new.tail c.run.new.marks (put_mid 3 54000 c.open.new.events c.run.new.events)
walked c =
    let r = c.run.new in
    whole.walked c.requires c.open.result c.open.new.marks c.open.new.events c.open.ensures c.unwrap.result c.unwrap.ensures c.run.result r.after r.tail r.marks r.events c.run.ensures (lit≤ tt) (lit≤ tt) c.unwrap-r.result c.unwrap-r.ensures

pub overflow_add-result : goal.overflow_add-result
overflow_add-result c = let w = walked (goal.at.overflow_add-result c).After-unwrap-r in omega (arith, w.few-events)

pub overflow_sub-result : goal.overflow_sub-result
overflow_sub-result c = (walked (goal.at.overflow_sub-result c).After-unwrap-r).some-label

pub overflow_cast-result : goal.overflow_cast-result
overflow_cast-result c = let w = walked (goal.at.overflow_cast-result c).After-unwrap-r in omega (arith, w.few-moves)

pub returns : goal.returns
returns c = let w = walked (goal.at.returns c).After-unwrap-r in record { totals = w.totals; links = w.links; tails = w.tails; marks = w.labels; events = w.events }

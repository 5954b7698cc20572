-- From a text to what is printed: an area too short, a text refused, a profile walked.
-- The laws of Judged and Graphs say what each of them comes to; here they meet what the calls ensure.
use Rattle.std.proofs.Common.{◌≡◌, refl, ap, not}
use Rattle.std.proofs.lemmas.Result.{err_from_is_err_and}
use Rattle.graphs.specs.Refusals.{short}
use Rattle.report.specs.Report.{lent_areas}
use Rattle.report.proofs.Judged.{short-reported, long-reported}
use Rattle.report.proofs.Graphs.{Read, read_as, can-walk, can-print, walk-reported}
use Rattle.report.proofs.text.walk_text.Goals.{After-are_long, In_ok-profile}
use Rattle.report.proofs.text.walk_text.Goals as goal

-- What the test says of the areas lent.
tested : (c : After-are_long) → c.are_long.result ≡ not (short (lent_areas c.args.after.now c.args.tail.now c.args.marks.now c.args.events.now c.args.output.now))
tested c = let z = c.args in c.are_long.ensures z.after.now z.tail.now z.marks.now z.events.now z.output.now refl refl refl refl refl

-- The image in the areas is that of a profile loaded.
found : (c : In_ok-profile) → Read c.args.text.now c.args.after.now c.args.tail.now c.in_ok-profile.profile.n c.in_ok-profile.profile.m c.in_ok-profile.profile.start.0 c.read_profile.new.after c.read_profile.new.tail
found c = let e = c.in_ok-profile.ensures in read_as _ _ _ _ _ _ _ _ e.answer e.links e.tails

pub returns-then-not-are_long : goal.returns-then-not-are_long
returns-then-not-are_long c =
    let z = c.args in
    let k = c.short_refusal in
    short-reported z.text.now z.after.now z.tail.now z.marks.now z.events.now z.output.now
    (tested (goal.at.returns-then-not-are_long c).After-are_long) _ _ _ (ap not c.if-not-are_long.true) k.ensures.number k.ensures.links k.ensures.tails

pub walk_whole-t-requires : goal.walk_whole-t-requires
walk_whole-t-requires c = let z = c.args in can-walk z.text.now z.after.now z.tail.now z.marks.now z.events.now z.output.now (tested (goal.at.walk_whole-t-requires c).After-are_long) (ap not c.if-not-are_long.false) _ _ _ _ _ (found (goal.at.walk_whole-t-requires c).In_ok-profile)

pub print_walk-requires : goal.print_walk-requires
print_walk-requires c = let z = c.args in let w = c.walk_whole-t in can-print z.text.now z.after.now z.tail.now z.marks.now z.events.now z.output.now (tested (goal.at.print_walk-requires c).After-are_long) (ap not c.if-not-are_long.false) _ _ _ _ _ (found (goal.at.print_walk-requires c).In_ok-profile) w.result _ w.ensures.totals w.ensures.events

pub returns-in_err-profile : goal.returns-in_err-profile
returns-in_err-profile c =
    let z = c.args in
    let e = c.in_err-profile.ensures in
    let p = err_from_is_err_and c.from_residual.result c.from_residual.ensures.1 in
    rw (p.1, p.2)
    (long-reported z.text.now z.after.now z.tail.now z.marks.now z.events.now z.output.now
    (tested (goal.at.returns-in_err-profile c).After-are_long) _ _ _ (ap not c.if-not-are_long.false) e.answer e.links e.tails)

pub returns : goal.returns
returns c = let z = c.args in let w = c.walk_whole-t in walk-reported z.text.now z.after.now z.tail.now z.marks.now z.events.now z.output.now (tested (goal.at.returns c).After-are_long) (ap not c.if-not-are_long.false) _ _ _ _ _ (found (goal.at.returns c).In_ok-profile) w.result _ w.ensures.totals w.ensures.events _ _ _ _ _ w.ensures.links w.ensures.tails w.ensures.marks c.print_walk.ensures.next c.print_walk.ensures.words

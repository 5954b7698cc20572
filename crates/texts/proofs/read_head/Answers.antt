-- `read_head` finds the first three lines.
-- By what each reading finds, from the place where the one before it ends.
use Rattle.std.proofs.Common.{◌≡◌, ap, not, ◌+◌, ◌∙◌}
use Rattle.std.proofs.Math.Option.{none, some}
use Rattle.texts.specs.Text.{line_names, names_at, head_at}
use Rattle.texts.proofs.Reading.{first-none, first_some, absent, present}
use Rattle.texts.proofs.read_head.Goals as goal

pub returns-then-not-begins_with : goal.returns-then-not-begins_with
unfolding head_at
returns-then-not-begins_with c = first-none _ (absent c.begins_with.ensures 26 (ap not c.if-not-begins_with.true))

pub returns-in_err-n : goal.returns-in_err-n
unfolding head_at
returns-in_err-n c =
    rw c.from_residual.ensures
    (first-none _ c.in_err-n.ensures
    ∙ first_some _ (present c.begins_with.ensures 26 (ap not c.if-not-begins_with.false)))

pub returns-in_err-m : goal.returns-in_err-m
unfolding head_at
returns-in_err-m c =
    rw c.from_residual-in_err-m.ensures
    (first-none _ c.in_err-m.ensures
    ∙ first_some _ c.in_ok-n.ensures
    ∙ first_some _ (present c.begins_with.ensures 26 (ap not c.if-not-begins_with.false)))

pub returns-in_err-start : goal.returns-in_err-start
unfolding head_at
returns-in_err-start c =
    rw c.from_residual-in_err-start.ensures
    (first-none _ c.in_err-start.ensures
    ∙ first_some _ c.in_ok-m.ensures
    ∙ first_some _ c.in_ok-n.ensures
    ∙ first_some _ (present c.begins_with.ensures 26 (ap not c.if-not-begins_with.false)))

pub returns-then-not-begins_with-2 : goal.returns-then-not-begins_with-2
unfolding head_at
returns-then-not-begins_with-2 c =
    let names : none ≡ names_at c.args.text.now c.in_ok-start.start.next line_names = absent c.begins_with-2.ensures (c.in_ok-start.start.next + 8) (ap not c.if-not-begins_with-2.true) in
    first-none _ names
    ∙ first_some _ c.in_ok-start.ensures
    ∙ first_some _ c.in_ok-m.ensures
    ∙ first_some _ c.in_ok-n.ensures
    ∙ first_some _ (present c.begins_with.ensures 26 (ap not c.if-not-begins_with.false))

pub returns : goal.returns
unfolding head_at
returns c =
    let names : some (c.in_ok-start.start.next + 8) ≡ names_at c.args.text.now c.in_ok-start.start.next line_names = present c.begins_with-2.ensures (c.in_ok-start.start.next + 8) (ap not c.if-not-begins_with-2.false) in
    first_some _ names
    ∙ first_some _ c.in_ok-start.ensures
    ∙ first_some _ c.in_ok-m.ensures
    ∙ first_some _ c.in_ok-n.ensures
    ∙ first_some _ (present c.begins_with.ensures 26 (ap not c.if-not-begins_with.false))

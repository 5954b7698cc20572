-- The marks are cleared, and those of the list are stored one by one.
-- The loop keeps that the marks are those of the words passed, whatever area was cleared.
use Rattle.std.proofs.Common.{◌≡◌, refl, ap, ◌∙◌, ℕ, min, arith, length, get_or, take}
use Rattle.lists.proofs.Words.{length-filled, cleared-filled}
use Rattle.graphs.specs.Results.{unless_blank}
use Rattle.walks.specs.Writing.{blank_marked}
use Rattle.walks.proofs.Blanks.{blanks-more, blanks-all}
use Rattle.walks.proofs.write.mark_blanks.Goals as goal

pub loop-x-init : goal.loop-x-init
loop-x-init c = (refl, λ area e. e)

pub loop-x-preserved : goal.loop-x-preserved
loop-x-preserved c =
    let a = c.args in
    let l = c.loop-x in
    let m = c.mark_blank in (
      m.auto.marks ∙ l.invariant.0,
      λ area e.
          let k : ℕ = min a.nodes (length area) in
          let i = l.invariant.1 area e in
          let n : length l.marks ≡ length area = ap length i ∙ length-filled (unless_blank (take l.x-index a.before.now) (λ x. 0)) k area (omega arith) in
          m.ensures ∙ (λ j. blank_marked (min a.nodes (n j)) (get_or a.before.now l.x-index 0) (i j)) ∙ blanks-more k a.before.now area l.x-index c.loop-x-test.true,
    )

pub returns : goal.returns
returns c =
    let a = c.args in
    let l = c.loop-x in
    let m = a.marks.now in
    let first = c.clear.ensures ∙ cleared-filled (min a.nodes (length m)) m in
    l.invariant.1 m first ∙ blanks-all (min a.nodes (length m)) a.before.now m l.x-index c.loop-x-test.false

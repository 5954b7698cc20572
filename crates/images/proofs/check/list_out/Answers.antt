-- `images::check::list_out` meets its contract: what it returns is condition 7, whatever the tails.
-- The loop keeps that every edge of the lists followed was new. One met again, or fewer than m met, is what the condition says.
use Rattle.std.proofs.Common.{◌≡◌, ℕ, ◌<◌, List, length, take, refl, sym, ◌∙◌, arith}
use Rattle.std.proofs.lemmas.List.{length-take}
use Rattle.images.proofs.Checks.{can-follow, met-again, met-more, met_all}
use Rattle.images.proofs.check.list_out.Goals as goal

-- The list that is followed begins at one of the first n words.
below : (n i : ℕ) (after : List ℕ) → i < length (take n after) → i < n
below n i after h = omega (arith, length-take n after)

pub flag_list-requires : goal.flag_list-requires
flag_list-requires c = can-follow c.requires (below _ _ _ c.loop-first-test.true) c.loop-first.invariant.1

pub returns-in_default : goal.returns-in_default
returns-in_default c = λ tail. sym (met-again c.requires (below _ _ _ c.loop-first-test.true) c.loop-first.invariant.1 _ refl (sym c.in_default.is ∙ c.flag_list.ensures.count) tail)

pub loop-first-preserved : goal.loop-first-preserved
loop-first-preserved c = (omega (arith, below _ _ _ c.loop-first-test.true), met-more c.requires (below _ _ _ c.loop-first-test.true) c.loop-first.invariant.1 _ refl (sym c.in-Some.is ∙ c.flag_list.ensures.count) c.flag_list.ensures.flags)

pub returns : goal.returns
returns c = let e : c.loop-first.first-index ≡ c.args.g.now.n = omega (arith, length-take c.args.g.now.n c.args.g.now.after.now) in met_all c.requires c.loop-first.invariant.1 e

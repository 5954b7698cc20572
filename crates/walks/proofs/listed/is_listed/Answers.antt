-- The library's search says whether an element is equal: that is membership.
use Rattle.std.proofs.Common.{◌∙◌}
use Rattle.lists.proofs.Members.{any-memb, eqb-turned}
use Rattle.walks.proofs.listed.is_listed.Goals as goal

pub returns : goal.returns
returns c = c.contains.ensures.value ∙ any-memb c.args.x _ c.args.list.now (eqb-turned c.args.x)

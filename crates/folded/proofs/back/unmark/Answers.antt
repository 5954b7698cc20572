use Rattle.std.proofs.Common.{refl}
use Rattle.lists.specs.Words.{at, put}
use Rattle.folded.proofs.back.unmark.Goals as goal

pub returns : goal.returns
unfolding at put
returns c = refl

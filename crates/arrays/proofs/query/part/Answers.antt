-- The code reads first positions by place.
use Rattle.arrays.proofs.Arrays.{query-part}
use Rattle.arrays.proofs.query.part.Goals as goal

pub returns : goal.returns
returns c = query-part _ _ c.requires

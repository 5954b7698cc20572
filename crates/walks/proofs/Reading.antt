-- Words as the code reads them: by place, where a definition reads them by node.
use Rattle.std.proofs.Common.{◌≡◌, ℕ, ◌-◌, get_or}
use Rattle.lists.proofs.Words.{read_past}
use Rattle.graphs.specs.Image.{Image, to}

-- The vertex that r leads to.
abbrev pub target : Image → ℕ → ℕ
target g r = get_or g.tail (r - g.n - 1) 0

pub target_is : (g : Image) (r : ℕ) → to g r ≡ target g r
target_is g r = read_past g.n g.tail r

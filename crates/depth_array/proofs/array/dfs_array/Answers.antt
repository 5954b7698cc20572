-- A search is refused and changes nothing, or it is the depth-first search of the array form.
-- It is asked first, on areas that are only read; where it is not refused the search can begin.
use Rattle.std.proofs.Common.{sym}
use Rattle.walks.proofs.ArrayBegins.{array-begins}
use Rattle.depth_array.proofs.array.dfs_array.Goals as goal

pub search-requires : goal.search-requires
search-requires c = array-begins _ _ _ _ _ _ (sym c.in_ok-check_array_walk.ensures)

-- What a call with a state has passed where it is not refused: sizes, areas, fields, and its own conditions.
use Rattle.std.proofs.Common.{◌≡◌, false, not, List, [], ◌∷◌, ◌++◌, ℕ, ◌+◌, ◌≤◌, arith, eqb, ltb, length, ltb-false}
use borrow.Author.Tests.{not-false}
use Rattle.lists.proofs.Tests.{neither}
use Rattle.graphs.specs.Refusals.{Refusal, refuse, first_of, Lent, lent, short, vertex_out, size_refusals}
use Rattle.graphs.proofs.Refusals.{all-false, long}
use Rattle.folding.specs.Machine.{Config}
use Rattle.folding.specs.Calls.{fields_in, state_number, work_areas}
use Rattle.folding.proofs.Fields.{Fields, fields-are}

pub record Passed (w : Config) (areas : List Lent) (own : List Refusal) : Type 0 where
  pub few_vertices : w.n ≤ 1000
  pub few_edges : w.m ≤ 4000
  pub areas-long : short areas ≡ false
  pub fields : Fields w
  pub own-false : first_of own ≡ 0

pub passed : (w : Config) (areas : List Lent) (own : List Refusal) → state_number w areas own ≡ 0 → Passed w areas own
passed w areas own h =
    let a = all-false (size_refusals w.n w.m areas ++ refuse 4 (vertex_out w.n w.start) ∷ refuse 8 (not (fields_in w)) ∷ []) own (omega arith) h in
    record {
      few_vertices = ltb-false 1000 w.n (neither (eqb w.n 0) (ltb 1000 w.n) a.0.0).1;
      few_edges = ltb-false 4000 w.m a.0.1.0;
      areas-long = a.0.1.1.0;
      fields = fields-are w (not-false (fields_in w) a.0.1.1.1.1.0);
      own-false = a.1;
    }

-- The areas of a step or a run are as long as stated.
pub record Lengths (w : Config) (k : ℕ) (area : List ℕ) : Type 0 where
  pub after-long : w.n + w.m ≤ length w.after
  pub tail-long : w.m ≤ length w.tail
  pub marks-long : w.n + w.m ≤ length w.marks
  pub area-long : k ≤ length area

pub lengths : (w : Config) (k : ℕ) (area : List ℕ) → short (work_areas w k area) ≡ false → Lengths w k area
lengths w k area h =
    let a = long (w.n + w.m) w.after (lent w.m w.tail ∷ lent (w.n + w.m) w.marks ∷ lent k area ∷ []) h in
    let b = long w.m w.tail (lent (w.n + w.m) w.marks ∷ lent k area ∷ []) a.1 in
    let c = long (w.n + w.m) w.marks (lent k area ∷ []) b.1 in
    record { after-long = a.0; tail-long = b.0; marks-long = c.0; area-long = (long k area [] c.1).0 }

-- The state fields in kind, as a test and as facts.
-- The test is the conjunction of the facts' tests.
use Rattle.std.proofs.Common.{◌≡◌, true, ◌&&◌, suc, ◌≤◌, ltb, leb, leb-true, le-leb}
use Rattle.lists.proofs.Tests.{and-true, both}
use Rattle.graphs.specs.Nodes.{is_vertex, is_link, is_node}
use Rattle.folding.specs.Machine.{Config}
use Rattle.folding.specs.Calls.{fields_in}

pub record Fields (w : Config) : Type 0 where
  pub v-in : is_vertex w.n w.v ≡ true
  pub e-in : is_link w.n w.m w.e ≡ true
  pub f-in : is_node w.n w.m w.f ≡ true
  pub phase-in : (ltb 0 w.phase && leb w.phase 6) ≡ true
  pub next_low : 2 ≤ w.next
  pub next_high : w.next ≤ suc w.n
  pub circular-in : w.circular ≤ 1

pub fields-yes : (w : Config) → Fields w → fields_in w ≡ true
unfolding fields_in
fields-yes w k = and-true k.v-in (and-true k.e-in (and-true k.f-in (and-true k.phase-in (and-true (and-true (le-leb 2 w.next k.next_low) (le-leb w.next (suc w.n) k.next_high)) (le-leb w.circular 1 k.circular-in)))))

pub fields-are : (w : Config) → fields_in w ≡ true → Fields w
unfolding fields_in
fields-are w h =
    let a = both (is_vertex w.n w.v) _ h in
    let b = both (is_link w.n w.m w.e) _ a.1 in
    let c = both (is_node w.n w.m w.f) _ b.1 in
    let d = both (ltb 0 w.phase && leb w.phase 6) _ c.1 in
    let e = both (leb 2 w.next && leb w.next (suc w.n)) (leb w.circular 1) d.1 in
    let f = both (leb 2 w.next) (leb w.next (suc w.n)) e.0 in
    record { v-in = a.0; e-in = b.0; f-in = c.0; phase-in = d.0; next_low = leb-true 2 w.next f.0; next_high = leb-true w.next (suc w.n) f.1; circular-in = leb-true w.circular 1 e.1 }

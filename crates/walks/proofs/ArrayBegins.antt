-- What a walk of an array form that is taken may rely on.
-- Its conditions are false, so the array form is sound, its events fit, and its areas are as long as stated.
use Rattle.std.proofs.Common.{◌≡◌, List, [], ◌∷◌, ◌++◌, reverse, ℕ, ◌+◌, ◌*◌, ◌≤◌, arith, length}
use lib.ListN.{length-reverse}
use Rattle.graphs.specs.Nodes.{Vertex}
use Rattle.graphs.specs.Events.{History}
use Rattle.graphs.specs.ArrayForm.{ArrayForm}
use Rattle.graphs.specs.Refusals.{Lent, lent}
use Rattle.graphs.proofs.Refusals.{long}
use Rattle.graphs.proofs.ArraySound.{ArraySound, array-search-sound}
use Rattle.graphs.proofs.Blanks.{Listed}
use Rattle.graphs.proofs.Room.{words-length, array-room}
use Rattle.walks.specs.Promises.{written_areas, array_walk_number, array_walk}
use Rattle.walks.specs.Writing.{Roomy}

pub record ArrayBegins (a : ArrayForm) (before : List ℕ) (start : ℕ) (marks increments events : List ℕ) : Type 0 where
  pub sound : ArraySound a
  pub start_vertex : Vertex a.n start
  pub listed : Listed a.n before start
  pub roomy : Roomy (a.n + a.m) (array_walk a before start) marks events
  pub long : a.n ≤ length increments

pub array-begins : (a : ArrayForm) (before : List ℕ) (start : ℕ) (marks increments events : List ℕ) → array_walk_number a before start marks increments events ≡ 0 → ArrayBegins a before start marks increments events
array-begins a before start marks increments events e =
    let nodes : ℕ = a.n + a.m in
    let own : List Lent = lent a.n increments ∷ [] in
    let areas : List Lent = written_areas nodes marks events ++ own in
    let P = array-search-sound a before start areas e in
    let S = P.sound in
    let p = long nodes marks (lent (6 * nodes) events ∷ own) P.areas-long in
    let q = long (6 * nodes) events own p.1 in
    let o = long a.n increments [] q.1 in
    let h : History = array_walk a before start in
    let fits = array-room a before start areas e in
    let few-n = S.few_vertices in
    let few-m = S.few_edges in
    record {
      sound = S;
      start_vertex = P.start_vertex;
      listed = P.listed;
      roomy = record { long_marks = p.0; room = omega (arith, fits, words-length (reverse h), length-reverse h, q.0); few = omega (arith, fits, words-length (reverse h), length-reverse h) };
      long = o.0;
    }

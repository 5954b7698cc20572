-- A depth-first search without recursion: the place it has come to, and what is left of the recursive search from there.
-- A place is the vertex being scanned, the edges of it passed and ahead, and a frame for each vertex on the path from the start. Each of
-- the three moves keeps what is left to do equal to the whole search.
use Rattle.std.proofs.Common.{◌≡◌, refl, sym, ap, ◌∙◌, subst, Bool, true, false, List, [], ◌∷◌, ℕ, ◌≤◌, suc, arith, length, length-append}
use mathlib.Core.List.{reverse_aux, IsSuffix, suffix_refl, IsSuffix-trans}
use Rattle.lists.specs.Members.{Mem, here, there, NoDup, memb}
use Rattle.lists.proofs.Members.{each-cons, mem-left, memb-false, mem-rest, mem-done, mem-nil}
use Rattle.graphs.specs.Nodes.{Vertex}
use Rattle.graphs.specs.Graph.{Graph, Closed}
use Rattle.graphs.specs.Events.{event, label, advance_tree, advance_nontree, retreat_tree, retreat_nontree, scan, History, ◌▸◌, known, labelled}
use Rattle.graphs.specs.Search.{recorder, cross, walk_edges, search, depth_first}
use Rattle.graphs.specs.Claims.{Ready}
use Rattle.graphs.proofs.Labels.{Labels, label-ok}
use Rattle.graphs.proofs.DepthGrowth.{suffix-then, walk-adds, search-adds, Can, search-unroll}

-- A vertex left by a tree edge: the vertex, the edges passed (the last of them first), the tree edge, the edges ahead.
pub data Frame : Type 0 where
  frame : ℕ → List ℕ → ℕ → List ℕ → Frame

-- The vertex of the topmost frame.
abbrev pub parent : List Frame → ℕ
parent [] = 0
parent (frame u du r ru ∷ s) = u

-- The tree edge of the topmost frame.
abbrev pub entering : List Frame → ℕ
entering [] = 0
entering (frame u du r ru ∷ s) = r

-- The vertices of the frames.
abbrev pub path : List Frame → List ℕ
path [] = []
path (frame u du r ru ∷ s) = u ∷ path s

-- v stands above the frames: the tree edge of the topmost leads to it, or it is the start.
abbrev pub Above : Graph → ℕ → List Frame → ℕ → Type 0
Above G start [] v = v ≡ start
Above G start (frame u du r ru ∷ s) v = (G.to r ≡ v) × Vertex G.size u × (G.out u ≡ reverse_aux du (r ∷ ru)) × Above G start s u

-- v is being scanned: `done` passed, `rest` ahead, the frames s below.
pub record Placed (G : Graph) (start v : ℕ) (done rest : List ℕ) (s : List Frame) : Type 0 where
  pub vertex : Vertex G.size v
  pub list : G.out v ≡ reverse_aux done rest
  pub above : Above G start s v
  pub distinct : NoDup (v ∷ path s)

-- ---- what is left to do
-- Searching a vertex, and traversing edges of one. A depth of as many as there are vertices is enough.
abbrev pub deep : Graph → List ℕ → ℕ → History → History
deep G before = search (recorder before) G G.size

abbrev pub walk : Graph → List ℕ → ℕ → List ℕ → History → History
walk G before = walk_edges (recorder before) G (deep G before)

-- What is left to do once the vertex above the frames is scanned.
abbrev pub unwind : Graph → List ℕ → List Frame → History → History
unwind G before [] h = h
unwind G before (frame u du r ru ∷ s) h = unwind G before s (walk G before u ru (h ▸ event retreat_tree r u) ▸ event scan 0 u)

-- From h on, the edges `rest` of v are still to be traversed.
abbrev pub finishing : Graph → List ℕ → List Frame → ℕ → List ℕ → History → History
finishing G before s v rest h = unwind G before s (walk G before v rest h ▸ event scan 0 v)

-- Edges of u may be passed, and are still to be passed.
pub of-done : (G : Graph) (u : ℕ) (du ru : List ℕ) → G.out u ≡ reverse_aux du ru → (d : ℕ) → Mem d du → Mem d (G.out u)
of-done G u du ru e d m = subst (λ (l : List ℕ). Mem d l) (sym e) (mem-done ru m)

pub of-rest : (G : Graph) (u : ℕ) (du ru : List ℕ) → G.out u ≡ reverse_aux du ru → (d : ℕ) → Mem d ru → Mem d (G.out u)
of-rest G u du ru e d m = subst (λ (l : List ℕ). Mem d l) (sym e) (mem-rest du m)

-- ---- it only adds
pub edges-add : (G : Graph) (before : List ℕ) (v : ℕ) (rest : List ℕ) (h : History) → IsSuffix h (walk G before v rest h)
edges-add G before = walk-adds G before (deep G before) (search-adds G before G.size)

pub unwind-adds : (G : Graph) (before : List ℕ) (s : List Frame) (h : History) → IsSuffix h (unwind G before s h)
unwind-adds G before [] h = suffix_refl h
unwind-adds G before (frame u du r ru ∷ s) h =
    let i : History = h ▸ event retreat_tree r u in
    let j : History = walk G before u ru i ▸ event scan 0 u in
    IsSuffix-trans {l₁ = h} {l₂ = j} {l₃ = unwind G before s j}
    (suffix-then (event scan 0 u) (IsSuffix-trans {l₁ = h} {l₂ = i} {l₃ = walk G before u ru i} (suffix-then (event retreat_tree r u) (suffix_refl h)) (edges-add G before u ru i)))
    (unwind-adds G before s j)

pub suffix-length : {h i : History} → IsSuffix h i → length h ≤ length i
suffix-length {h} s = subst (λ (l : History). length h ≤ length l) s.1 (omega (arith, length-append s.0 h))

-- ---- searching
-- A vertex that is not labelled can be searched, whatever other events came last.
pub can-search : (G : Graph) (before : List ℕ) (C : Closed G) (x : ℕ) (h : History) → Vertex G.size x → (Mem x (known before h) → ⊥) → Labels G.size (known before h) → Can G before C G.size x h
can-search G before C x h hx new L = record { vertex = hx; fresh = new; labels = L; enough = omega arith }

-- The paper's recursion: label, traverse the edges, scan.
pub deep-unroll : (G : Graph) (before : List ℕ) (C : Closed G) (x : ℕ) (h : History) → Vertex G.size x → (Mem x (known before h) → ⊥) → Labels G.size (known before h) → deep G before x h ≡ (walk G before x (G.out x) (h ▸ event label 0 x) ▸ event scan 0 x)
deep-unroll G before C x h hx new L = search-unroll G before C x h (can-search G before C x h hx new L)

-- ---- the search at a place
-- After the events h: v is being scanned, the vertices on the path are labelled, and what is left to do makes up the whole search.
pub record Scene (G : Graph) (before : List ℕ) (start : ℕ) (h : History) (v : ℕ) (done rest : List ℕ) (s : List Frame) : Type 0 where
  pub placed : Placed G start v done rest s
  pub labels : Labels G.size (known before h)
  pub seen : (x : ℕ) → Mem x (v ∷ path s) → Mem x (labelled h)
  pub future : finishing G before s v rest h ≡ depth_first G before start

module _ (G : Graph) (before : List ℕ) (start : ℕ) where
  -- The start is labelled.
  pub scene-first : Ready G before start → Scene G before start ([] ▸ event label 0 start) start [] (G.out start) []
  unfolding depth_first
  scene-first R =
      let L : Labels G.size before = record { once = R.once; all = R.vertices } in
      record {
        placed = record { vertex = R.start_vertex; list = refl; above = refl; distinct = (λ m. mem-nil m, tt) };
        labels = label-ok G.size start before R.start_vertex R.start_fresh L;
        seen = λ x m. m;
        future = sym (deep-unroll G before R.closed start [] R.start_vertex R.start_fresh L);
      }

  -- The next edge is ahead of v, so it is one of v's.
  pub scene-edge : {h : History} {v r : ℕ} {done rest : List ℕ} {s : List Frame} → Scene G before start h v done (r ∷ rest) s → Mem r (G.out v)
  scene-edge {v = v} {r = r} {done = done} {rest = rest} S = of-rest G v done (r ∷ rest) S.placed.list r (here refl)

  module _ (C : Closed G) {h : History} {v r : ℕ} {done rest : List ℕ} {s : List Frame} (S : Scene G before start h v done (r ∷ rest) s) where
    -- What is left, once the flag of the next edge is known.
    crossing : (b : Bool) → memb (G.to r) (known before h) ≡ b → finishing G before s v rest (cross (recorder before) G (deep G before) v r b h) ≡ depth_first G before start
    unfolding walk_edges
    crossing b e = ap (λ (f : Bool). finishing G before s v rest (cross (recorder before) G (deep G before) v r f h)) (sym e) ∙ S.future

    -- It leads to a labelled vertex: it is passed.
    pub scene-nontree : memb (G.to r) (known before h) ≡ true → Scene G before start (h ▸ event advance_nontree r v ▸ event retreat_nontree r v) v (r ∷ done) rest s
    scene-nontree e = record { placed = record { vertex = S.placed.vertex; list = S.placed.list; above = S.placed.above; distinct = S.placed.distinct }; labels = S.labels; seen = S.seen; future = crossing true e }

    -- It leads to an unlabelled vertex: that is labelled, and scanned next.
    pub scene-tree : memb (G.to r) (known before h) ≡ false → Scene G before start (h ▸ event advance_tree r v ▸ event label 0 (G.to r)) (G.to r) [] (G.out (G.to r)) (frame v done r rest ∷ s)
    scene-tree e =
        let P = S.placed in
        let x : ℕ = G.to r in
        let hx : Vertex G.size x = C v r P.vertex (scene-edge S) in
        let new : Mem x (known before h) → ⊥ = memb-false x (known before h) e in
        record {
          placed = record { vertex = hx; list = refl; above = (refl, P.vertex, P.list, P.above); distinct = (λ m. new (mem-left before (S.seen x m)), P.distinct) };
          labels = label-ok G.size x (known before h) hx new S.labels;
          seen = each-cons (λ y. Mem y (x ∷ labelled h)) x (v ∷ path s) (here refl) (λ y m. there (S.seen y m));
          future = sym (ap (λ (i : History). finishing G before s v rest (i ▸ event retreat_tree r v)) (deep-unroll G before C x (h ▸ event advance_tree r v) hx new S.labels)) ∙ crossing false e;
        }

    -- Two events more, at least, are still to come.
    pub scene-room-edge : suc (suc (length h)) ≤ length (depth_first G before start)
    scene-room-edge = go (memb (G.to r) (known before h)) refl
      where
        long : (b : Bool) → IsSuffix (cross (recorder before) G (deep G before) v r b h) (finishing G before s v rest (cross (recorder before) G (deep G before) v r b h))
        long b =
            let i : History = cross (recorder before) G (deep G before) v r b h in
            let j : History = walk G before v rest i ▸ event scan 0 v in
            IsSuffix-trans {l₁ = i} {l₂ = j} {l₃ = unwind G before s j} (suffix-then (event scan 0 v) (edges-add G before v rest i)) (unwind-adds G before s j)

        two : (b : Bool) → suc (suc (length h)) ≤ length (cross (recorder before) G (deep G before) v r b h)
        two true = omega arith
        two false = let k = suffix-length (search-adds G before G.size (G.to r) (h ▸ event advance_tree r v)) in omega arith

        go : (b : Bool) → memb (G.to r) (known before h) ≡ b → suc (suc (length h)) ≤ length (depth_first G before start)
        go b e = omega (arith, two b, suffix-length (long b), ap length (crossing b e))

  module _ {h : History} {v : ℕ} {done : List ℕ} where
    -- Nothing ahead: v is scanned, and the search goes back along the tree edge.
    pub scene-retreat : {u r : ℕ} {du ru : List ℕ} {s : List Frame} → Scene G before start h v done [] (frame u du r ru ∷ s) → Scene G before start (h ▸ event scan 0 v ▸ event retreat_tree r u) u (r ∷ du) ru s
    unfolding walk_edges
    scene-retreat S =
        let P = S.placed in
        record { placed = record { vertex = P.above.1; list = P.above.2; above = P.above.3; distinct = P.distinct.1 }; labels = S.labels; seen = λ x m. S.seen x (there m); future = S.future }

    pub scene-room-retreat : {u r : ℕ} {du ru : List ℕ} {s : List Frame} → Scene G before start h v done [] (frame u du r ru ∷ s) → suc (suc (length h)) ≤ length (depth_first G before start)
    unfolding walk_edges
    scene-room-retreat {u} {r} {du} {ru} {s} S =
        let i : History = h ▸ event scan 0 v ▸ event retreat_tree r u in
        let j : History = walk G before u ru i ▸ event scan 0 u in
        omega (arith, suffix-length (IsSuffix-trans {l₁ = i} {l₂ = j} {l₃ = unwind G before s j} (suffix-then (event scan 0 u) (edges-add G before u ru i)) (unwind-adds G before s j)), ap length S.future)

    -- Nothing ahead and no frame: the scan of the start ends the search.
    pub scene-end : Scene G before start h v done [] [] → (h ▸ event scan 0 v) ≡ depth_first G before start
    unfolding walk_edges
    scene-end S = S.future

-- The search over the array form, move by move.
-- An edge is its position: its rank on its vertex's list is the increment, and the tails differ from those lent only at the tree edges under way.
use mathlib.Core.List.{reverse_aux}
use borrow.Author.Tests.{not-true, not-false}
use Rattle.std.proofs.Common.{◌≡◌, refl, sym, ap, ◌∙◌, subst, ◌≢◌, Bool, true, false, cond, not, ◌&&◌, ◌||◌, List, [], ◌∷◌, ◌++◌, reverse, ℕ, zero, suc, ◌+◌, ◌-◌, ◌≤◌, ◌<◌, min, max, arith, eqb, length, get_or, set, drop, eq-eqb, ne_eqb}
use Rattle.lists.specs.Members.{Mem, here, there, memb}
use Rattle.lists.specs.Counts.{rank}
use Rattle.lists.specs.Words.{at, put, cleared, values_from}
use Rattle.lists.proofs.Tests.{Compared, equal, other, compare, zero_test}
use Rattle.lists.proofs.Members.{mem-memb, mem-left, memb-false, memb-append, mem-reverse}
use Rattle.lists.proofs.Counts.{rank-none}
use Rattle.lists.proofs.Words.{put-put, put-at, at-put, but, put-filled, at-filled, length-filled, cleared-filled, values_same, word-here, read_at}
use Rattle.graphs.specs.Nodes.{Vertex}
use Rattle.graphs.specs.Graph.{Graph}
use Rattle.graphs.specs.Events.{event, label, advance_tree, advance_nontree, retreat_tree, retreat_nontree, scan, History, ◌▸◌, known, labelled}
use Rattle.graphs.specs.ArrayForm.{ArrayForm, array_graph}
use Rattle.graphs.specs.Results.{blank_mark, unless_blank, last_tree, increment_word, increment_left}
use Rattle.graphs.proofs.ArraySound.{ArraySound}
use Rattle.graphs.proofs.Owned.{values-in, array_owned}
use Rattle.graphs.proofs.Room.{array-ready}
use Rattle.graphs.proofs.Places.{Frame, frame, parent, path, Above, of-rest, scene-edge}
use Rattle.graphs.proofs.Trees.{AllTrees, no-tree, all-trees}
use Rattle.graphs.proofs.Tails.{tails-length, tails-kept}
use Rattle.walks.specs.Writing.{total}
use Rattle.walks.specs.Moves.{Underway}
use Rattle.walks.proofs.Storing.{all-cleared}
use Rattle.walks.proofs.Writing.{Emits, Puts, Starts}
use Rattle.walks.proofs.Moves as moves
use Rattle.depth_array.specs.declared.array.Place.{Place}
use Rattle.depth_array.specs.Increments.{ahead, tails_left, last_from, Left, is_new, CanSearch, place, ArrayAt, SomeArrayAt, Onward, Ended}

-- ---- positions
-- Position p is named n + p.
abbrev names : ℕ → ℕ → ℕ → List ℕ
names n b k = values_from (λ p. n + p) b k

-- What does not stand in a list has the rank that it has behind the list.
rank-past : (x : ℕ) (l more : List ℕ) → (Mem x l → ⊥) → rank x (reverse_aux l more) ≡ rank x more
rank-past x [] more h = refl
rank-past x (y ∷ l) more h = rank-past x l (y ∷ more) (λ m. h (there m)) ∙ rw (ne_eqb x y (λ e. h (here e)))

-- A position's rank from the front is its distance from the first.
rank-names : (n b k p : ℕ) (more : List ℕ) → b < p → p ≤ b + k → rank (n + p) (reverse_aux (names n b k) more) ≡ length more + (p - b)
rank-names n b zero p more h q = absurd (omega arith)
rank-names n b (suc k) p more h q = go (compare (n + p) (n + suc b)) (λ x y. rank-names n (suc b) k p ((n + suc b) ∷ more) x y)
  where
    whole : ℕ
    whole = rank (n + p) (reverse_aux (names n (suc b) k) ((n + suc b) ∷ more))

    go : Compared (n + p) (n + suc b) → (suc b < p → p ≤ suc b + k → whole ≡ suc (length more) + (p - suc b)) → whole ≡ length more + (p - b)
    go (equal e t) ih =
        let first : cond (eqb (n + p) (n + suc b)) (suc (length more)) (rank (n + p) more) ≡ length more + (p - b) = rw t (omega arith) in
        rank-past (n + p) (names n (suc b) k) ((n + suc b) ∷ more) (λ m. (let z = values-in n (suc b) k (n + p) m in omega arith)) ∙ first
    go (other ne t) ih = let z = ih (omega arith) (omega arith) in omega arith

-- Positions with one in front.
record Front (n b k d : ℕ) (rest : List ℕ) : Type 0 where
  some : 0 < k
  first : d ≡ n + suc b
  next : rest ≡ names n (suc b) (k - 1)

front : (n b k d : ℕ) (rest : List ℕ) → (d ∷ rest) ≡ names n b k → Front n b k d rest
front n b zero d rest e = absurd (omega (arith, ap length e))
front n b (suc k) d rest e =
    let z : k ≡ suc k - 1 = omega arith in
    let t : rest ≡ names n (suc b) k = cc in
    record { some = omega arith; first = cc; next = t ∙ ap (names n (suc b)) z }

-- Positions of which some were passed.
record Passed (n b k : ℕ) (done rest : List ℕ) : Type 0 where
  few : length done ≤ k
  next : rest ≡ names n (b + length done) (k - length done)

passed : (n b k : ℕ) (done rest : List ℕ) → names n b k ≡ reverse_aux done rest → Passed n b k done rest
passed n b k [] rest e =
    let z : b ≡ b + 0 = omega arith in
    let y : k ≡ k - 0 = omega arith in
    record { few = omega arith; next = sym e ∙ (λ i. names n (z i) (y i)) }
passed n b k (d ∷ done) rest e =
    let P = passed n b k done (d ∷ rest) e in
    let F = front n (b + length done) (k - length done) d rest P.next in
    let s = F.some in
    let z : suc (b + length done) ≡ b + suc (length done) = omega arith in
    let y : k - length done - 1 ≡ k - suc (length done) = omega arith in
    record { few = omega arith; next = F.next ∙ (λ i. names n (z i) (y i)) }

-- ---- the position of an edge
record Stands (a : ArrayForm) (u r : ℕ) (rest : List ℕ) : Type 0 where
  pub p : ℕ
  pub named : r ≡ a.n + p
  pub low : at 0 a.firsts u ≤ p
  pub high : p < at 0 a.firsts (suc u)
  pub next : rest ≡ ahead a u (suc p)

module _ (a : ArrayForm) (A : ArraySound a) where
  stands : (u r : ℕ) (done rest : List ℕ) → Vertex a.n u → (array_graph a).out u ≡ reverse_aux done (r ∷ rest) → Stands a u r rest
  stands u r done rest hu e =
      let f : ℕ = at 0 a.firsts u in
      let g : ℕ = at 0 a.firsts (suc u) in
      let one = A.from_one u hu.0 (omega arith) in
      let rise = A.rising u (suc u) hu.0 (omega arith) (omega arith) in
      let P = passed a.n (f - 1) (g - f) done (r ∷ rest) e in
      let F = front a.n (f - 1 + length done) (g - f - length done) r rest P.next in
      let s = F.some in
      let q : suc (f - 1 + length done) ≡ f + length done = omega arith in
      let y : suc (f - 1 + length done) ≡ suc (f + length done) - 1 = omega arith in
      let z : g - f - length done - 1 ≡ g - suc (f + length done) = omega arith in
      record { p = f + length done; named = F.first ∙ ap (λ (x : ℕ). a.n + x) q; low = omega arith; high = omega arith; next = F.next ∙ (λ i. names a.n (y i) (z i)) }

  -- Its rank on the list is its distance from the first position.
  edge-rank : (u p : ℕ) → Vertex a.n u → at 0 a.firsts u ≤ p → p < at 0 a.firsts (suc u) → rank (a.n + p) (reverse ((array_graph a).out u)) ≡ suc (p - at 0 a.firsts u)
  edge-rank u p hu l g =
      let one = A.from_one u hu.0 (omega arith) in
      let r = rank-names a.n (at 0 a.firsts u - 1) (at 0 a.firsts (suc u) - at 0 a.firsts u) p [] (omega arith) (omega arith) in
      omega arith

  -- No edge is named 0.
  not_null : (u : ℕ) → Vertex a.n u → Mem 0 ((array_graph a).out u) → ⊥
  not_null u hu m = let e = (array_owned a A).edge u 0 hu m in omega arith

-- The edges ahead, of which there is one.
ahead-next : (a : ArrayForm) (v e : ℕ) → 1 ≤ e → e < at 0 a.firsts (suc v) → ahead a v e ≡ (a.n + e) ∷ ahead a v (suc e)
ahead-next a v e l g =
    let f : ℕ = at 0 a.firsts (suc v) in
    let z : f - e ≡ suc (f - suc e) = omega arith in
    let y : suc (e - 1) ≡ e = omega arith in
    let x : suc (e - 1) ≡ suc e - 1 = omega arith in
    ap (names a.n (e - 1)) z ∙ (λ i. (a.n + y i) ∷ names a.n (x i) (f - suc e))

ahead_none : (a : ArrayForm) (v e : ℕ) → e ≡ at 0 a.firsts (suc v) → ahead a v e ≡ []
ahead_none a v e q = let z : at 0 a.firsts (suc v) - e ≡ 0 = omega arith in ap (names a.n (e - 1)) z

-- ---- increments
module _ (G : Graph) (h : History) (area : List ℕ) where
  increment-at : (x : ℕ) → Vertex G.size x → at 0 (increment_left G h area) x ≡ increment_word G h x
  increment-at x hx = at-filled (increment_word G h) G.size area x hx.0 hx.1

  -- An increment of 0 is an unlabelled vertex.
  increment-test : (x : ℕ) → Vertex G.size x → eqb (at 0 (increment_left G h area) x) 0 ≡ not (memb x (labelled h))
  increment-test x hx = ap (λ (w : ℕ). eqb w 0) (increment-at x hx) ∙ go (memb x (labelled h))
    where
      go : (b : Bool) → eqb (cond b (max 1 (rank (last_from h x) (reverse (G.out x)))) 0) 0 ≡ not b
      go true = zero_test (max 1 (rank (last_from h x) (reverse (G.out x)))) (omega arith)
      go false = refl

  -- A tree advance along r from v, and the label of x: two words change.
  module _ (v r x : ℕ) (hv : Vertex G.size v) (hx : Vertex G.size x) (seen : Mem v (labelled h)) (new : Mem x (labelled h) → ⊥) (none : last_from h x ≡ 0) (null : Mem 0 (G.out x) → ⊥) (w : ℕ) (some : 1 ≤ w) (is : rank r (reverse (G.out v)) ≡ w) where
    abbrev later : History
    later = h ▸ event advance_tree r v ▸ event label 0 x

    word-child : increment_word G later x ≡ 1
    word-child =
        let z : rank (last_from h x) (reverse (G.out x)) ≡ 0 = ap (λ (k : ℕ). rank k (reverse (G.out x))) none ∙ rank-none 0 (reverse (G.out x)) (λ m. null ((mem-reverse (G.out x) 0).0 m)) in
        rw (eq-eqb x x refl, ne_eqb v x (λ e. new (subst (λ (y : ℕ). Mem y (labelled h)) e seen)), z)

    word-parent : increment_word G later v ≡ w
    word-parent = rw (ne_eqb v x (λ e. new (subst (λ (y : ℕ). Mem y (labelled h)) e seen)), mem-memb seen, eq-eqb v v refl, is) (omega arith)

    word_else : (y : ℕ) → Compared y x → Compared y v → but (but (increment_word G h) v w) x 1 y ≡ increment_word G later y
    word_else y (equal e t) d = ap (λ (b : Bool). cond b 1 (but (increment_word G h) v w y)) t ∙ sym (ap (increment_word G later) e ∙ word-child)
    word_else y (other ne t) (equal e u) = ap (λ (b : Bool). cond b 1 (but (increment_word G h) v w y)) t ∙ ap (λ (b : Bool). cond b w (increment_word G h y)) u ∙ sym (ap (increment_word G later) e ∙ word-parent)
    word_else y (other ne t) (other nv u) = rw (t, u, ne_eqb v y (λ e. nv (sym e)))

    increment-tree : put 0 (put 0 (increment_left G h area) v w) x 1 ≡ increment_left G later area
    increment-tree =
        ap (λ (l : List ℕ). put 0 l x 1) (put-filled (increment_word G h) G.size area v w hv.0 hv.1)
        ∙ put-filled (but (increment_word G h) v w) G.size area x 1 hx.0 hx.1
        ∙ ap (λ (l : List ℕ). l ++ drop G.size area) (values_same (but (but (increment_word G h) v w) x 1) (increment_word G later) 0 G.size (λ y p q. word_else y (compare y x) (compare y v)))

-- The start labelled.
increment-first : (G : Graph) (area : List ℕ) (start : ℕ) → Vertex G.size start → (Mem 0 (G.out start) → ⊥) → put 0 (cleared G.size area) start 1 ≡ increment_left G ([] ▸ event label 0 start) area
increment-first G area start hs null =
    ap (λ (l : List ℕ). put 0 l start 1) (cleared-filled G.size area)
    ∙ put-filled (λ x. 0) G.size area start 1 hs.0 hs.1
    ∙ ap (λ (l : List ℕ). l ++ drop G.size area) (values_same (but (λ x. 0) start 1) (increment_word G ([] ▸ event label 0 start)) 0 G.size (λ y p q. word y (compare y start)))
  where
    one : increment_word G ([] ▸ event label 0 start) start ≡ 1
    one = rw (eq-eqb start start refl, rank-none 0 (reverse (G.out start)) (λ m. null ((mem-reverse (G.out start) 0).0 m)))

    word : (y : ℕ) → Compared y start → but (λ x. 0) start 1 y ≡ increment_word G ([] ▸ event label 0 start) y
    word y (equal e t) = ap (λ (b : Bool). cond b 1 0) t ∙ sym (ap (increment_word G ([] ▸ event label 0 start)) e ∙ one)
    word y (other ne t) = rw t

-- ---- the last tree edge out of each vertex
last-own : (h : History) (r v x : ℕ) → last_from (h ▸ event advance_tree r v ▸ event label 0 x) v ≡ r
last-own h r v x = ap (λ (b : Bool). (cond b (r, v) (last_tree (λ y z. eqb z v) h)).0) (eq-eqb v v refl)

last-other : (h : History) (r v x u : ℕ) → v ≢ u → last_from (h ▸ event advance_tree r v ▸ event label 0 x) u ≡ last_from h u
last-other h r v x u ne = ap (λ (b : Bool). (cond b (r, v) (last_tree (λ y z. eqb z u) h)).0) (ne_eqb v u ne)

-- No tree edge leaves a vertex that is not labelled.
last_none : (h : History) (x : ℕ) → AllTrees (λ r u. Mem u (labelled h)) h → (Mem x (labelled h) → ⊥) → last_from h x ≡ 0
last_none h x trees new = ap (λ (p : ℕ × ℕ). p.0) (no-tree (λ r u. eqb u x) h (all-trees (λ r u m. ne_eqb u x (λ e. new (subst (λ (y : ℕ). Mem y (labelled h)) e m))) h trees))

-- The path keeps its last tree edges.
left-keep : (h i : History) (s : List Frame) → ((u : ℕ) → Mem u (path s) → last_from i u ≡ last_from h u) → Left h s → Left i s
left-keep h i [] k l = tt
left-keep h i (frame u du r ru ∷ s) k l = (k u (here refl) ∙ l.0, left-keep h i s (λ x m. k x (there m)) l.1)

-- ---- words by position
first-put : (l : List ℕ) (v w : ℕ) → put 0 l v w ≡ set l (v - 1) w
unfolding put
first-put l v w = refl

tail_at : (n : ℕ) (l : List ℕ) (e : ℕ) → at n l (n + e) ≡ get_or l (e - 1) 0
unfolding at
tail_at n l e = let z : n + e - suc n ≡ e - 1 = omega arith in ap (λ (i : ℕ). get_or l i 0) z

tail-put : (n : ℕ) (l : List ℕ) (e w : ℕ) → put n l (n + e) w ≡ set l (e - 1) w
unfolding put
tail-put n l e w = let z : n + e - suc n ≡ e - 1 = omega arith in ap (λ (i : ℕ). set l i w) z

-- ---- frames
-- Frames of which there is one.
record Framed (s : List Frame) : Type 0 where
  u : ℕ
  du : List ℕ
  r : ℕ
  ru : List ℕ
  below : List Frame
  is : s ≡ frame u du r ru ∷ below

framed : (s : List Frame) → parent s ≢ 0 → Framed s
framed [] ne = absurd (ne refl)
framed (frame u du r ru ∷ s) ne = record { u = u; du = du; r = r; ru = ru; below = s; is = refl }

unframed : (G : Graph) (start : ℕ) (s : List Frame) (v : ℕ) → Above G start s v → parent s ≡ 0 → s ≡ []
unframed G start [] v up e = refl
unframed G start (frame u du r ru ∷ s) v up e = absurd (let hu = up.1 in omega arith)

-- ---- at a place
-- The numbers at a place.
pub record Within (n m : ℕ) (firsts tails increments : List ℕ) (p : Place) : Type 0 where
  pub few_vertices : n ≤ 1000
  pub few_edges : m ≤ 4000
  pub long_firsts : n < length firsts
  pub long_tails : m ≤ length tails
  pub long-increments : n ≤ length increments
  pub low-vertex : 1 ≤ p.v.0
  pub high-vertex : p.v.0 ≤ n
  pub low : 1 ≤ p.p.0
  pub from : get_or firsts (p.v.0 - 1) 0 ≤ p.p.0
  pub up_to : p.p.0 ≤ get_or firsts p.v.0 0

-- The numbers where an edge is ahead: its position is one, and its tail a vertex.
pub record Tail (n m : ℕ) (tails marks : List ℕ) (p : Place) : Type 0 where
  pub high : p.p.0 ≤ m
  pub low-tail : 1 ≤ get_or tails (p.p.0 - 1) 0
  pub high-tail : get_or tails (p.p.0 - 1) 0 ≤ n
  pub long_marks : n ≤ length marks
  pub few : 2 + total p.tally ≤ 10000

-- The numbers where v is left along a tree edge: its parent is a vertex, and the edge has a position.
pub record Back (n m : ℕ) (firsts increments : List ℕ) (p : Place) : Type 0 where
  pub low-parent : 1 ≤ p.f.0
  pub high-parent : p.f.0 ≤ n
  pub some : 1 ≤ get_or increments (p.f.0 - 1) 0
  pub low : 1 ≤ get_or firsts (p.f.0 - 1) 0 + get_or increments (p.f.0 - 1) 0 - 1
  pub high : get_or firsts (p.f.0 - 1) 0 + get_or increments (p.f.0 - 1) 0 - 1 ≤ m
  pub few : 2 + total p.tally ≤ 10000

module _ {a : ArrayForm} {before : List ℕ} {start : ℕ} {marks₀ increments₀ events₀ tails marks increments events : List ℕ} {p : Place} (A : ArrayAt a before start marks₀ increments₀ events₀ tails marks increments events p) where
  abbrev G : Graph
  G = array_graph a

  -- The vertex being scanned, the position next to traverse, and the trailer.
  abbrev v : ℕ
  v = p.v.0

  abbrev e : ℕ
  e = p.p.0

  abbrev f : ℕ
  f = p.f.0

  -- The search underway, with the edges `rest` ahead and the frames s.
  abbrev Way : List ℕ → List Frame → Type 0
  Way rest s = Underway G (a.n + a.m) before start A.h v A.done rest s marks₀ events₀ marks events p.tally

  vertex : Vertex a.n v
  vertex = A.underway.scene.placed.vertex

  tails-same : length tails ≡ length a.tails
  tails-same = ap length A.bent ∙ tails-length (λ du fs. parent fs) a.n a.tails A.s

  increments-same : length increments ≡ length increments₀
  increments-same = ap length A.increments_left ∙ length-filled (increment_word G A.h) a.n increments₀ A.long

  pub within : Within a.n a.m a.firsts tails increments p
  within =
      let S = A.sound in
      let hv = vertex in
      let l = A.low in
      let g = A.high in
      let one = S.from_one v hv.0 (omega arith) in
      record {
        few_vertices = S.few_vertices;
        few_edges = S.few_edges;
        long_firsts = omega (arith, S.long_firsts);
        long_tails = omega (arith, S.long_tails, tails-same);
        long-increments = omega (arith, A.long, increments-same);
        low-vertex = hv.0;
        high-vertex = hv.1;
        low = omega arith;
        from = omega (arith, read_at a.firsts v);
        up_to = omega (arith, word-here a.firsts v);
      }

  -- The word of a vertex in the increment area.
  increment-is : (x : ℕ) → get_or increments (x - 1) 0 ≡ at 0 (increment_left G A.h increments₀) x
  increment-is x = sym (read_at increments x) ∙ ap (λ (l : List ℕ). at 0 l x) A.increments_left

  -- ---- along an edge
  module _ (more : e < at 0 a.firsts (suc v)) where
    abbrev r : ℕ
    r = a.n + e

    -- The vertex that it leads to, as the code reads it.
    abbrev x : ℕ
    x = get_or tails (e - 1) 0

    on : Way (r ∷ ahead a v (suc e)) A.s
    on = subst (λ (l : List ℕ). Way l A.s) (ahead-next a v e within.low more) A.underway

    leads : G.to r ≡ x
    leads =
        let P = on.scene.placed in
        sym (tails-kept (array_owned a A.sound) (λ du fs. parent fs) a.tails start A.s v v r P.above vertex (scene-edge G before start on.scene) P.distinct.0)
        ∙ ap (λ (l : List ℕ). at a.n l r) (sym A.bent)
        ∙ tail_at a.n tails e

    target : Vertex a.n x
    target = subst (Vertex a.n) leads (moves.target-vertex on)

    pub tail : Tail a.n a.m tails marks p
    tail =
        let w = within in
        let top = A.sound.from_one (suc v) (omega arith) (omega arith) in
        record { high = omega (arith, more); low-tail = target.0; high-tail = target.1; long_marks = omega (arith, (moves.move-lengths on).0, on.roomy.long_marks); few = moves.ahead-few on }

    -- The increment and the mark of that vertex tell whether it is labelled or on the blank.
    abbrev new-words : Bool
    new-words = is_new (get_or increments (get_or tails (e - 1) 0 - 1) 0) (get_or marks (get_or tails (e - 1) 0 - 1) 0)

    new-test : new-words ≡ not (memb x (known before A.h))
    new-test =
        (λ i. labelled-is i && not (eqb (mark-is i) blank_mark))
        ∙ go (memb x before) (memb x (labelled A.h)) refl
        ∙ ap not (sym (memb-append x (labelled A.h) before))
      where
        labelled-is : eqb (get_or increments (x - 1) 0) 0 ≡ not (memb x (labelled A.h))
        labelled-is = ap (λ (w : ℕ). eqb w 0) (increment-is x) ∙ increment-test G A.h increments₀ x target

        mark-is : get_or marks (x - 1) 0 ≡ unless_blank before (λ y. rank y (labelled A.h)) x
        mark-is =
            let b = target in
            sym (read_at marks x)
            ∙ ap (λ (l : List ℕ). at 0 l x) on.held.marked
            ∙ at-filled (unless_blank before (λ y. rank y (labelled A.h))) (a.n + a.m) marks₀ x target.0 (omega arith)

        go : (b l : Bool) → memb x (labelled A.h) ≡ l → (not l && not (eqb (cond b blank_mark (rank x (labelled A.h))) blank_mark)) ≡ not (l || b)
        go b true e = refl
        go true false e = refl
        go false false e = ap (λ (k : ℕ). not (eqb k blank_mark)) (rank-none x (labelled A.h) (memb-false x (labelled A.h) e))

    -- It leads to a labelled vertex, or one on the blank: on to the next position.
    module _ {t₁ t₂ events₁ events₂ : List ℕ} (one : Emits 3 (a.n + e) v events p.tally events₁ t₁) (two : Emits 4 (a.n + e) v events₁ t₁ events₂ t₂) where
      pub nontree-words : total t₂ ≡ 2 + total p.tally
      nontree-words = moves.pass-total on one two

      pub nontree-move : new-words ≡ false → ArrayAt a before start marks₀ increments₀ events₀ tails marks increments events₂ (place v (e + 1) f t₂)
      nontree-move old =
          let i : History = A.h ▸ event advance_nontree r v ▸ event retreat_nontree r v in
          let m : memb x (known before A.h) ≡ true = not-false (memb x (known before A.h)) (sym new-test ∙ old) in
          let l = A.low in
          let z : suc e ≡ e + 1 = omega arith in
          record {
            sound = A.sound;
            long = A.long;
            h = i;
            done = r ∷ A.done;
            s = A.s;
            underway =
                subst (λ (k : ℕ). Underway G (a.n + a.m) before start i v (r ∷ A.done) (ahead a v k) A.s marks₀ events₀ marks events₂ t₂) z
                (moves.pass-goes on one two (ap (λ (k : ℕ). memb k (known before A.h)) leads ∙ m));
            low = omega arith;
            high = omega (arith, more);
            trailer = A.trailer;
            left = left-keep A.h i A.s (λ u k. refl) A.left;
            increments_left = A.increments_left;
            bent = A.bent;
          }

    -- It leads to an unlabelled vertex: that is labelled, and scanned next.
    module _ {t₁ t₂ events₁ marks₂ events₂ : List ℕ} (one : Emits 2 (a.n + e) v events p.tally events₁ t₁) (two : Puts (get_or tails (e - 1) 0) marks events₁ t₁ marks₂ events₂ t₂) where
      unseen : new-words ≡ true → memb x (known before A.h) ≡ false
      unseen fresh = not-true (memb x (known before A.h)) (sym new-test ∙ fresh)

      pub tree-words : new-words ≡ true → total t₂ ≡ 2 + total p.tally
      tree-words fresh = moves.tree-total on one x leads two (unseen fresh)

      pub tree-move : new-words ≡ true
          → ArrayAt a before start marks₀ increments₀ events₀ (set tails (e - 1) f) marks₂ (set (set increments (v - 1) (e - get_or a.firsts (v - 1) 0 + 1)) (get_or tails (e - 1) 0 - 1) 1) events₂
          (place (get_or tails (e - 1) 0) (get_or a.firsts (get_or tails (e - 1) 0 - 1) 0) v t₂)
      tree-move fresh =
          let i : History = A.h ▸ event advance_tree r v ▸ event label 0 x in
          let s : List Frame = frame v A.done r (ahead a v (suc e)) ∷ A.s in
          let hx = target in
          let S = A.underway.scene in
          let seen : Mem v (labelled A.h) = S.seen v (here refl) in
          let new : Mem x (labelled A.h) → ⊥ = λ k. memb-false x (known before A.h) (unseen fresh) (mem-left before k) in
          let w : ℕ = e - get_or a.firsts (v - 1) 0 + 1 in
          let rise = A.sound.rising x (suc x) hx.0 (omega arith) (omega arith) in
          let is : rank r (reverse (G.out v)) ≡ w = omega (arith, edge-rank a A.sound v e vertex A.low more, read_at a.firsts v) in
          record {
            sound = A.sound;
            long = A.long;
            h = i;
            done = [];
            s = s;
            underway = subst (λ (e : ℕ). Underway G (a.n + a.m) before start i x [] (ahead a x e) s marks₀ events₀ marks₂ events₂ t₂) (read_at a.firsts x) (moves.tree-goes on one x leads two (unseen fresh));
            low = omega (arith, read_at a.firsts x);
            high = omega (arith, read_at a.firsts x);
            trailer = refl;
            left = (last-own A.h r v x, left-keep A.h i A.s (λ u k. last-other A.h r v x u (λ e. S.placed.distinct.0 (subst (λ (z : ℕ). Mem z (path A.s)) (sym e) k))) A.left);
            increments_left =
                sym (first-put (set increments (v - 1) w) x 1)
                ∙ ap (λ (l : List ℕ). put 0 l x 1) (sym (first-put increments v w) ∙ ap (λ (l : List ℕ). put 0 l v w) A.increments_left)
                ∙ increment-tree G A.h increments₀ v r x vertex hx seen new (last_none A.h x A.underway.trees new) (not_null a A.sound x hx) w (omega arith) is;
            bent = sym (tail-put a.n tails e f) ∙ (λ j. put a.n (A.bent j) r (A.trailer j));
          }

  -- ---- no edge ahead
  module _ (end : e ≡ at 0 a.firsts (suc v)) where
    done_at : Way [] A.s
    done_at = subst (λ (l : List ℕ). Way l A.s) (ahead_none a v e end) A.underway

    -- Back along a tree edge.
    module _ (child : f ≢ 0) where
      F : Framed A.s
      F = framed A.s (λ e. child (A.trailer ∙ e))

      abbrev u : ℕ
      u = F.u

      behind : Way [] (frame u F.du F.r F.ru ∷ F.below)
      behind = subst (λ (s : List Frame). Way [] s) F.is done_at

      is-parent : f ≡ u
      is-parent = A.trailer ∙ ap parent F.is

      parent-vertex : Vertex a.n u
      parent-vertex = behind.scene.placed.above.1

      left_back : Left A.h (frame u F.du F.r F.ru ∷ F.below)
      left_back = subst (Left A.h) F.is A.left

      stand : Stands a u F.r F.ru
      stand = stands a A.sound u F.r F.du F.ru parent-vertex behind.scene.placed.above.2

      bent-back : tails ≡ put a.n (tails_left a F.below) F.r (parent F.below)
      bent-back = A.bent ∙ ap (tails_left a) F.is

      -- The parent's increment is the place of its last tree edge.
      word_back : get_or increments (f - 1) 0 ≡ suc (stand.p - at 0 a.firsts u)
      word_back =
          let R : rank F.r (reverse (G.out u)) ≡ suc (stand.p - at 0 a.firsts u) = ap (λ (k : ℕ). rank k (reverse (G.out u))) stand.named ∙ edge-rank a A.sound u stand.p parent-vertex stand.low stand.high in
          let seen : memb u (labelled A.h) ≡ true = mem-memb (behind.scene.seen u (there (here refl))) in
          let w : increment_word G A.h u ≡ suc (stand.p - at 0 a.firsts u) = rw (seen, left_back.0, R) (omega arith) in
          increment-is f ∙ ap (at 0 (increment_left G A.h increments₀)) is-parent ∙ increment-at G A.h increments₀ u parent-vertex ∙ w

      -- So its position is found.
      position : get_or a.firsts (f - 1) 0 + get_or increments (f - 1) 0 - 1 ≡ stand.p
      position =
          let O = stand in
          omega (arith, word_back, sym (read_at a.firsts f) ∙ ap (at 0 a.firsts) is-parent)

      pub back : Back a.n a.m a.firsts increments p
      back =
          let O = stand in
          let w = parent-vertex in
          let q = is-parent in
          let one = A.sound.from_one u w.0 (omega arith) in
          let top = A.sound.from_one (suc u) (omega arith) (omega arith) in
          let e = position in
          record { low-parent = omega arith; high-parent = omega arith; low = omega arith; high = omega arith; some = omega (arith, word_back); few = moves.back-few behind }

      module _ {t₁ t₂ events₁ events₂ : List ℕ} (one : Emits 6 0 v events p.tally events₁ t₁) where
        back_at : Emits 5 F.r u events₁ t₁ events₂ t₂
            → ArrayAt a before start marks₀ increments₀ events₀ (set tails (stand.p - 1) v) marks increments events₂ (place u (stand.p + 1) (get_or tails (stand.p - 1) 0) t₂)
        back_at two =
            let O = stand in
            let P = behind.scene.placed in
            let q : ℕ = O.p in
            let i : History = A.h ▸ event scan 0 v ▸ event retreat_tree F.r u in
            let z : suc q ≡ q + 1 = omega arith in
            let edge : Mem F.r (G.out u) = of-rest G u F.du (F.r ∷ F.ru) P.above.2 F.r (here refl) in
            let er = (array_owned a A.sound).edge u F.r parent-vertex edge in
            let old : List ℕ = tails_left a F.below in
            let kept = tails-kept (array_owned a A.sound) (λ du fs. parent fs) a.tails start F.below u u F.r P.above.3 parent-vertex edge P.distinct.1.0 in
            let straight : at a.n old F.r ≡ v = kept ∙ P.above.0 in
            record {
              sound = A.sound;
              long = A.long;
              h = i;
              done = F.r ∷ F.du;
              s = F.below;
              underway = subst (λ (l : List ℕ). Underway G (a.n + a.m) before start i u (F.r ∷ F.du) l F.below marks₀ events₀ marks events₂ t₂) (O.next ∙ ap (ahead a u) z) (moves.back-goes behind one two);
              low = omega arith;
              high = omega arith;
              trailer =
                  sym (tail_at a.n tails q)
                  ∙ (λ j. at a.n (bent-back j) (sym O.named j))
                  ∙ at-put a.n old F.r (parent F.below) er.0 (omega (arith, er.1, tails-length (λ du fs. parent fs) a.n a.tails F.below, A.sound.long_tails));
              left = left-keep A.h i F.below (λ y k. refl) left_back.1;
              increments_left = A.increments_left;
              bent =
                  sym (tail-put a.n tails q v)
                  ∙ (λ j. put a.n (bent-back j) (sym O.named j) v)
                  ∙ put-put a.n old F.r (parent F.below) v
                  ∙ ap (put a.n old F.r) (sym straight)
                  ∙ put-at a.n old F.r;
            }

        -- Position e and the parent, as the code has them.
        module _ (e : ℕ) (is : e ≡ get_or a.firsts (f - 1) 0 + get_or increments (f - 1) 0 - 1) (two : Emits 5 (a.n + e) f events₁ t₁ events₂ t₂) where
          found : ◌≡◌ {A = ℕ × ℕ} (stand.p, u) (e, f)
          found = λ j. (sym (is ∙ position) j, sym is-parent j)

          two_back : Emits 5 F.r u events₁ t₁ events₂ t₂
          two_back = subst (λ (k : ℕ). Emits 5 k u events₁ t₁ events₂ t₂) (sym stand.named) (subst (λ (k : ℕ × ℕ). Emits 5 (a.n + k.0) k.1 events₁ t₁ events₂ t₂) (sym found) two)

          pub back-words : total t₂ ≡ 2 + total p.tally
          back-words = moves.back_total behind one two_back

          pub back-move : ArrayAt a before start marks₀ increments₀ events₀ (set tails (e - 1) v) marks increments events₂ (place f (e + 1) (get_or tails (e - 1) 0) t₂)
          back-move =
              subst (λ (k : ℕ × ℕ). ArrayAt a before start marks₀ increments₀ events₀ (set tails (k.0 - 1) v) marks increments events₂ (place k.1 (k.0 + 1) (get_or tails (k.0 - 1) 0) t₂))
              found (back_at two_back)

    -- The start is being scanned.
    module _ (root : f ≡ 0) where
      none : A.s ≡ []
      none = unframed G start A.s v A.underway.scene.placed.above (sym A.trailer ∙ root)

      bottom : Way [] []
      bottom = subst (λ (s : List Frame). Way [] s) none done_at

      -- Its scan is the last event.
      pub ended : {t₁ events₁ : List ℕ} → Emits 6 0 start events p.tally events₁ t₁ → Ended a before start marks₀ increments₀ events₀ tails marks increments events₁ t₁
      ended w = record {
        held = moves.end-held bottom w;
        increments_left = A.increments_left ∙ ap (λ (i : History). increment_left G i increments₀) (moves.end_is bottom);
        tails_left = A.bent ∙ ap (tails_left a) none;
      }

-- ---- the start
module _ {a : ArrayForm} {before : List ℕ} {start : ℕ} {marks increments events : List ℕ} (C : CanSearch a before start marks increments events) where
  pub begun : {marks₁ increments₁ events₁ t₁ : List ℕ}
      → increments₁ ≡ cleared (min a.n (length increments)) increments
      → Starts (a.n + a.m) before start marks events marks₁ events₁ t₁
      → ArrayAt a before start marks increments events a.tails marks₁ (set increments₁ (start - 1) 1) events₁ (place start (get_or a.firsts (start - 1) 0) 0 t₁)
  begun {marks₁} {increments₁} {events₁} {t₁} c w =
      let G : Graph = array_graph a in
      let hs = C.start_vertex in
      let rise = C.sound.rising start (suc start) hs.0 (omega arith) (omega arith) in
      record {
        sound = C.sound;
        long = C.long;
        h = [] ▸ event label 0 start;
        done = [];
        s = [];
        underway = subst (λ (e : ℕ). Underway G (a.n + a.m) before start ([] ▸ event label 0 start) start [] (ahead a start e) [] marks events marks₁ events₁ t₁) (read_at a.firsts start) (moves.begun (array-ready a C.sound before start hs C.listed) (omega arith) C.roomy w);
        low = omega (arith, read_at a.firsts start);
        high = omega (arith, read_at a.firsts start);
        trailer = refl;
        left = tt;
        increments_left =
            sym (first-put increments₁ start 1)
            ∙ ap (λ (l : List ℕ). put 0 l start 1) (c ∙ all-cleared a.n increments C.long)
            ∙ increment-first G increments start hs (not_null a C.sound start hs);
        bent = refl;
      }

-- ---- from place to place
module _ {n m : ℕ} {firsts tails marks increments events : List ℕ} {p : Place} {tails₁ marks₁ increments₁ events₁ : List ℕ} {q : Place}
    (o : Onward n m firsts tails marks increments events p tails₁ marks₁ increments₁ events₁ q) where
  pub some-onward : SomeArrayAt n m firsts tails marks increments events p → SomeArrayAt n m firsts tails₁ marks₁ increments₁ events₁ q
  some-onward S = record {
    before = S.before;
    start = S.start;
    tails₀ = S.tails₀;
    marks₀ = S.marks₀;
    increments₀ = S.increments₀;
    events₀ = S.events₀;
    is = o S.before S.start S.tails₀ S.marks₀ S.increments₀ S.events₀ S.is;
  }

  -- An edge is ahead of that place, or none.
  pub onward-ahead : SomeArrayAt n m firsts tails marks increments events p → q.p.0 < get_or firsts q.v.0 0
      → SomeArrayAt n m firsts tails₁ marks₁ increments₁ events₁ q × (q.p.0 < at 0 firsts (suc q.v.0))
  onward-ahead S l = (some-onward S, omega (arith, word-here firsts q.v.0))

  pub onward_done : SomeArrayAt n m firsts tails marks increments events p → get_or firsts q.v.0 0 ≤ q.p.0 → q.p.0 ≡ at 0 firsts (suc q.v.0)
  onward_done S l = let w = within (some-onward S).is in omega (arith, word-here firsts q.v.0)

  pub onward_then : {tails₂ marks₂ increments₂ events₂ : List ℕ} {r : Place} → Onward n m firsts tails₁ marks₁ increments₁ events₁ q tails₂ marks₂ increments₂ events₂ r
      → Onward n m firsts tails marks increments events p tails₂ marks₂ increments₂ events₂ r
  onward_then w before start tails₀ marks₀ increments₀ events₀ A = w before start tails₀ marks₀ increments₀ events₀ (o before start tails₀ marks₀ increments₀ events₀ A)

-- What a move along the next edge reads and writes, and what one back along the trailer does.
module _ {n m : ℕ} {firsts tails marks increments events : List ℕ} {p : Place} where
  pub advance-reads : SomeArrayAt n m firsts tails marks increments events p × (p.p.0 < at 0 firsts (suc p.v.0)) → Within n m firsts tails increments p × Tail n m tails marks p
  advance-reads z = (within z.0.is, tail z.0.is z.1)

  pub retreat-reads : SomeArrayAt n m firsts tails marks increments events p × (p.p.0 ≡ at 0 firsts (suc p.v.0)) × (p.f.0 ≢ 0) → Within n m firsts tails increments p × Back n m firsts increments p
  retreat-reads z = (within z.0.is, back z.0.is z.1 z.2)

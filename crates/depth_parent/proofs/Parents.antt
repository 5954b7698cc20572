-- Laws of the search by parent edges: what each move makes of the tree edges so far, and so of the parent area.
-- A tree advance enters a vertex that no tree edge has left yet; every other event leaves the tree edge into each vertex as it is.
use Rattle.std.proofs.Common.{◌≡◌, refl, sym, ap, ◌∙◌, subst, ◌≢◌, Bool, true, false, not, cond, ◌&&◌, List, [], ◌∷◌, ◌++◌, ℕ, ◌+◌, ◌-◌, ◌≤◌, ◌<◌, min, arith, eqb, length, get_or, set, drop, eq-eqb, ne_eqb}
use mathlib.Core.List.{reverse_aux}
use borrow.Author.Tests.{not-true, not-false}
use Rattle.lists.specs.Members.{Mem, here, there, memb}
use Rattle.lists.specs.Words.{at, put, cleared}
use Rattle.lists.proofs.Tests.{Compared, equal, other, compare}
use Rattle.lists.proofs.Members.{mem-left, memb-false}
use Rattle.lists.proofs.Words.{but, put-filled, values_same, at-filled, length-filled, cleared-filled, read_at}
use Rattle.graphs.specs.Nodes.{Vertex, Edge}
use Rattle.graphs.specs.Graph.{Graph}
use Rattle.graphs.specs.Events.{event, label, advance_tree, advance_nontree, retreat_tree, retreat_nontree, scan, same, History, ◌▸◌, known, labelled}
use Rattle.graphs.specs.Image.{Image, edges_of, to, graph_of}
use Rattle.graphs.specs.Results.{last_tree, entry, parent_word, parent_left}
use Rattle.graphs.specs.Claims.{Ready}
use Rattle.graphs.specs.Refusals.{lent}
use Rattle.graphs.proofs.Refusals.{long}
use Rattle.graphs.proofs.Sound.{head0, Linked, linked-rest, Sound}
use Rattle.graphs.proofs.Places.{Frame, frame, entering, path, Above, of-rest}
use Rattle.graphs.proofs.Room.{profile-ready}
use Rattle.graphs.proofs.Trees.{AllTrees, all-trees}
use Rattle.walks.specs.Promises.{walk_number}
use Rattle.walks.specs.Writing.{total}
use Rattle.depth_parent.specs.declared.Place.{Place}
use Rattle.depth_parent.specs.Parents.{Entered, place, ParentAt, SomeParentAt, Goes, CanSearch, Ended}
use Rattle.walks.specs.Moves.{Underway}
use Rattle.walks.proofs.Reading.{target, target_is}
use Rattle.walks.proofs.Begins.{begins}
use Rattle.walks.proofs.Storing.{all-cleared}
use Rattle.walks.proofs.Writing.{Emits, Puts, Starts, held_test}
use Rattle.walks.proofs.Moves as moves

-- ---- the tree edge into a vertex
-- What holds of every tree edge, and of none, holds of the last that passes a test.
last-tree : (Q : ℕ → ℕ → Type 0) (f : ℕ → ℕ → Bool) → Q 0 0 → (h : History) → AllTrees Q h → Q (last_tree f h).0 (last_tree f h).1
last-tree Q f q [] a = q
last-tree Q f q (event k r u ∷ h) a = go (same k advance_tree) (f r u) a.0 (last-tree Q f q h a.1)
  where
    go : (b c : Bool) → (b ≡ true → Q r u) → Q (last_tree f h).0 (last_tree f h).1 → Q (cond (b && c) (r, u) (last_tree f h)).0 (cond (b && c) (r, u) (last_tree f h)).1
    go true true t i = t refl
    go true false t i = i
    go false c t i = i

-- The vertices on the path keep their tree edges.
entered-same : (G : Graph) (h i : History) (s : List Frame) (v : ℕ) → ((y : ℕ) → Mem y (v ∷ path s) → entry G i y ≡ entry G h y) → Entered G h s v → Entered G i s v
entered-same G h i [] v f e = f v (here refl) ∙ e
entered-same G h i (frame u du r ru ∷ s) v f e = (f v (here refl) ∙ e.0, entered-same G h i s u (λ y m. f y (there m)) e.1)

-- The trailer is the tree edge into v.
entered-edge : (G : Graph) (h : History) (s : List Frame) (v : ℕ) → Entered G h s v → (entry G h v).0 ≡ entering s
entered-edge G h [] v e = ap (λ (p : ℕ × ℕ). p.0) e
entered-edge G h (frame u du r ru ∷ s) v e = ap (λ (p : ℕ × ℕ). p.0) e.0

-- The word of v: the tree edge into the vertex of the topmost frame.
entered-word : (G : Graph) (h : History) (u r v : ℕ) (du ru : List ℕ) (s : List Frame) → Entered G h (frame u du r ru ∷ s) v → parent_word G h v ≡ entering s
entered-word G h u r v du ru s e = ap (λ (p : ℕ × ℕ). (entry G h p.1).0) e.0 ∙ entered-edge G h s u e.1

-- A tree advance from v to x, which is not labelled.
module _ (G : Graph) (h : History) (r v x : ℕ) (is : G.to r ≡ x) (new : Mem x (labelled h) → ⊥) where
  abbrev treed : History
  treed = h ▸ event advance_tree r v ▸ event label 0 x

  entry_new : entry G treed x ≡ (r, v)
  entry_new = rw (eq-eqb (G.to r) x is)

  entry_old : (y : ℕ) → (x ≡ y → ⊥) → entry G treed y ≡ entry G h y
  entry_old y ne = rw (ne_eqb (G.to r) y (λ e. ne (sym is ∙ e)))

  -- Every tree edge leaves a labelled vertex.
  module _ (low : 0 < x) (from : Mem v (labelled h)) (trees : AllTrees (λ e u. Mem u (labelled h)) h) where
    -- x is not v, nor the parent of any vertex.
    not-from : x ≡ v → ⊥
    not-from e = new (subst (λ (y : ℕ). Mem y (labelled h)) (sym e) from)

    not-parent : (y : ℕ) → x ≡ (entry G h y).1 → ⊥
    not-parent y = last-tree (λ e u. x ≡ u → ⊥) (λ e u. eqb (G.to e) y) (λ e. (let k : x ≡ 0 = e in omega arith)) h (all-trees (λ e u m q. new (subst (λ (z : ℕ). Mem z (labelled h)) (sym q) m)) h trees)

    word-tree : (y : ℕ) → but (parent_word G h) x (entry G h v).0 y ≡ parent_word G treed y
    word-tree y = go (compare y x)
      where
        go : Compared y x → but (parent_word G h) x (entry G h v).0 y ≡ parent_word G treed y
        go (equal e t) = rw t (sym (ap (λ (p : ℕ × ℕ). (entry G treed p.1).0) (ap (entry G treed) e ∙ entry_new) ∙ ap (λ (p : ℕ × ℕ). p.0) (entry_old v not-from)))
        go (other ne t) = rw t (sym (ap (λ (p : ℕ × ℕ). (entry G treed p.1).0) (entry_old y (λ e. ne (sym e))) ∙ ap (λ (p : ℕ × ℕ). p.0) (entry_old (entry G h y).1 (not-parent y))))

    -- The word of x becomes the tree edge into v.
    parents-tree : (area : List ℕ) → x ≤ G.size → put 0 (parent_left G h area) x (entry G h v).0 ≡ parent_left G treed area
    parents-tree area high =
        put-filled (parent_word G h) G.size area x (entry G h v).0 low high
        ∙ ap (λ (ws : List ℕ). ws ++ drop G.size area) (values_same (but (parent_word G h) x (entry G h v).0) (parent_word G treed) 0 G.size (λ y a b. word-tree y))

-- ---- lists of a sound image
module _ {g : Image} (S : Sound g) where
  -- The first edge of u, and the edge after r, as the code reads them.
  first_word : (u : ℕ) → Vertex g.n u → get_or g.after (u - 1) 0 ≡ head0 (edges_of g u)
  first_word u hu = sym (read_at g.after u) ∙ S.first u hu

  module _ (u r : ℕ) (done rest : List ℕ) (hu : Vertex g.n u) (e : edges_of g u ≡ reverse_aux done (r ∷ rest)) where
    next_word : get_or g.after (r - 1) 0 ≡ head0 rest
    next_word = sym (read_at g.after r) ∙ (linked-rest g.after done (r ∷ rest) (subst (Linked g.after) e (S.linked u hu))).0

    edge_of : Edge g.n g.m r
    edge_of = S.edge u r hu (of-rest (graph_of g) u done (r ∷ rest) e r (here refl))

  -- The tree edge of a frame is an edge.
  trailer-edge : (start : ℕ) (s : List Frame) (v : ℕ) → Above (graph_of g) start s v → (entering s ≡ 0 → ⊥) → Edge g.n g.m (entering s)
  trailer-edge start [] v a ne = absurd (ne refl)
  trailer-edge start (frame u du r ru ∷ s) v a ne = edge_of u r du ru a.1 a.2

-- e is the next edge.
record Next (e : ℕ) (rest : List ℕ) : Type 0 where
  later : List ℕ
  is : rest ≡ e ∷ later

next_edge : (e : ℕ) (rest : List ℕ) → e ≡ head0 rest → (e ≡ 0 → ⊥) → Next e rest
next_edge e [] h ne = absurd (ne h)
next_edge e (y ∷ l) h ne = record { later = l; is = ap (λ (z : ℕ). z ∷ l) (sym h) }

-- f is the tree edge of the topmost frame.
pub record Framed (f : ℕ) (s : List Frame) : Type 0 where
  pub vertex : ℕ
  pub passed : List ℕ
  pub ahead : List ℕ
  pub below : List Frame
  pub is : s ≡ frame vertex passed f ahead ∷ below

framed : (f : ℕ) (s : List Frame) → f ≡ entering s → (f ≡ 0 → ⊥) → Framed f s
framed f [] h ne = absurd (ne h)
framed f (frame u du r ru ∷ s) h ne = record { vertex = u; passed = du; ahead = ru; below = s; is = ap (λ (e : ℕ). frame u du e ru ∷ s) (sym h) }

-- ---- at a place
-- What a move reads and writes lies in its areas.
pub record Bounds (g : Image) (v : ℕ) (marks parents : List ℕ) : Type 0 where
  pub vertex : Vertex g.n v
  pub few_vertices : g.n ≤ 1000
  pub few_edges : g.m ≤ 4000
  pub long_after : g.n + g.m ≤ length g.after
  pub long_tail : g.m ≤ length g.tail
  pub long_marks : g.n + g.m ≤ length marks
  pub long-parents : g.n ≤ length parents

-- The next edge and the vertex that it leads to.
pub record Ahead (g : Image) (e : ℕ) : Type 0 where
  pub edge : Edge g.n g.m e
  pub leads : Vertex g.n (target g e)

module _ {g : Image} {before : List ℕ} {start : ℕ} {marks₀ parents₀ events₀ marks parents events : List ℕ} {p : Place} (A : ParentAt g before start marks₀ parents₀ events₀ marks parents events p) where
  -- The areas keep their lengths.
  place-lengths : (length marks ≡ length marks₀) × ((length parents ≡ length parents₀) × (length events ≡ length events₀))
  place-lengths =
      let e = moves.move-lengths A.underway in
      (e.0, (ap length A.parents_left ∙ length-filled (parent_word (graph_of g) A.h) g.n parents₀ A.long, e.1))

  pub place-bounds : Bounds g p.v.0 marks parents
  place-bounds =
      let S = A.sound in
      record {
        vertex = A.underway.scene.placed.vertex;
        few_vertices = S.few_vertices;
        few_edges = S.few_edges;
        long_after = S.long_after;
        long_tail = S.long_tail;
        long_marks = omega (arith, A.underway.roomy.long_marks, place-lengths.0);
        long-parents = omega (arith, A.long, place-lengths.1.0);
      }

  -- The search underway, with the edges `rest` ahead and the frames s.
  abbrev Way : List ℕ → List Frame → Type 0
  Way rest s = Underway (graph_of g) (g.n + g.m) before start A.h p.v.0 A.done rest s marks₀ events₀ marks events p.tally

  -- An edge is ahead.
  module _ (more : p.e.0 ≡ 0 → ⊥) where
    N : Next p.e.0 A.rest
    N = next_edge p.e.0 A.rest A.next more

    ahead : Way (p.e.0 ∷ N.later) A.s
    ahead = subst (λ (l : List ℕ). Way l A.s) N.is A.underway

    -- The vertex that it leads to.
    abbrev x : ℕ
    x = target g p.e.0

    is-target : to g p.e.0 ≡ x
    is-target = target_is g p.e.0

    pub place-ahead : Ahead g p.e.0
    place-ahead =
        let P = ahead.scene.placed in
        let e : Edge g.n g.m p.e.0 = edge_of A.sound p.v.0 p.e.0 A.done N.later P.vertex P.list in
        record { edge = e; leads = subst (Vertex g.n) is-target (moves.target-vertex ahead) }

    pub advance-few : 2 + total p.tally ≤ 10000
    advance-few = moves.ahead-few ahead

    -- The mark of its target tells whether that is labelled.
    mark-test : eqb (get_or marks (x - 1) 0) 0 ≡ not (memb x (known before A.h))
    mark-test = let b = place-ahead.leads in ap (λ (w : ℕ). eqb w 0) (sym (read_at marks x)) ∙ held_test A.underway.held x b.0 (omega arith)

    -- It leads to a labelled vertex.
    module _ {a ev : List ℕ} (one : Emits 3 p.e.0 p.v.0 events p.tally ev a) where
      module _ {b ev' : List ℕ} (two : Emits 4 p.e.0 p.v.0 ev a ev' b) where
        pub pass-total : total b ≡ 2 + total p.tally
        pass-total = moves.pass-total ahead one two

        pub pass-at : (get_or marks (x - 1) 0 ≡ 0 → ⊥)
            → ParentAt g before start marks₀ parents₀ events₀ marks parents ev' (place p.v.0 (get_or g.after (p.e.0 - 1) 0) p.f.0 b)
        pass-at ne =
            let P = ahead.scene.placed in
            let i : History = A.h ▸ event advance_nontree p.e.0 p.v.0 ▸ event retreat_nontree p.e.0 p.v.0 in
            let seen : memb x (known before A.h) ≡ true = not-false _ (sym mark-test ∙ ne_eqb (get_or marks (x - 1) 0) 0 ne) in
            record {
              sound = A.sound;
              long = A.long;
              h = i;
              done = p.e.0 ∷ A.done;
              rest = N.later;
              s = A.s;
              underway = moves.pass-goes ahead one two (ap (λ (y : ℕ). memb y (known before A.h)) is-target ∙ seen);
              entered = entered-same (graph_of g) A.h i A.s p.v.0 (λ y m. refl) A.entered;
              parents_left = A.parents_left;
              next = next_word A.sound p.v.0 p.e.0 A.done N.later P.vertex P.list;
              trailer = A.trailer;
            }

    -- It leads to a vertex that is not labelled.
    module _ {a ev : List ℕ} (one : Emits 2 p.e.0 p.v.0 events p.tally ev a) where
      module _ {b mk ev' : List ℕ} (two : Puts x marks ev a mk ev' b) where
        pub tree-total : get_or marks (x - 1) 0 ≡ 0 → total b ≡ 2 + total p.tally
        tree-total z = moves.tree-total ahead one x is-target two (not-true _ (sym mark-test ∙ eq-eqb (get_or marks (x - 1) 0) 0 z))

        pub tree-at : get_or marks (x - 1) 0 ≡ 0
            → ParentAt g before start marks₀ parents₀ events₀ mk (set parents (x - 1) p.f.0) ev' (place x (get_or g.after (x - 1) 0) p.e.0 b)
        unfolding put
        tree-at z =
            let G : Graph = graph_of g in
            let h : History = A.h in
            let i : History = h ▸ event advance_tree p.e.0 p.v.0 ▸ event label 0 x in
            let hx : Vertex g.n x = place-ahead.leads in
            let unseen : memb x (known before h) ≡ false = not-true _ (sym mark-test ∙ eq-eqb (get_or marks (x - 1) 0) 0 z) in
            let new : Mem x (labelled h) → ⊥ = λ m. memb-false x (known before h) unseen (mem-left before m) in
            let same : (y : ℕ) → Mem y (p.v.0 ∷ path A.s) → entry G i y ≡ entry G h y =
            λ y m. entry_old G h p.e.0 p.v.0 x is-target new y (λ e. new (subst (λ (w : ℕ). Mem w (labelled h)) (sym e) (A.underway.scene.seen y m))) in
            let from : Mem p.v.0 (labelled h) = A.underway.scene.seen p.v.0 (here refl) in
            record {
              sound = A.sound;
              long = A.long;
              h = i;
              done = [];
              rest = edges_of g x;
              s = frame p.v.0 A.done p.e.0 N.later ∷ A.s;
              underway = moves.tree-goes ahead one x is-target two unseen;
              entered = (entry_new G h p.e.0 p.v.0 x is-target new, entered-same G h i A.s p.v.0 same A.entered);
              parents_left =
                  (λ j. put 0 (A.parents_left j) x ((A.trailer ∙ sym (entered-edge G h A.s p.v.0 A.entered)) j))
                  ∙ parents-tree G h p.e.0 p.v.0 x is-target new hx.0 from A.underway.trees parents₀ hx.1;
              next = first_word A.sound x hx;
              trailer = refl;
            }

  -- No edge is ahead.
  module _ (none : p.e.0 ≡ 0) where
    done_at : Way [] A.s
    done_at = go A.rest A.next A.underway
      where
        go : (rest : List ℕ) → p.e.0 ≡ head0 rest → Way rest A.s → Way [] A.s
        go [] q U = U
        go (y ∷ l) q U = absurd (let e = edge_of A.sound p.v.0 y A.done l U.scene.placed.vertex U.scene.placed.list in let k : p.e.0 ≡ y = q in omega arith)

    -- The trailer is a tree edge.
    module _ (some : p.f.0 ≡ 0 → ⊥) where
      pub top : Framed p.f.0 A.s
      top = framed p.f.0 A.s A.trailer some

      -- The vertex that it leaves.
      abbrev pub back : ℕ
      back = top.vertex

      behind : Way [] (frame back top.passed p.f.0 top.ahead ∷ top.below)
      behind = subst (λ (s : List Frame). Way [] s) top.is done_at

      entered-back : Entered (graph_of g) A.h (frame back top.passed p.f.0 top.ahead ∷ top.below) p.v.0
      entered-back = subst (λ (s : List Frame). Entered (graph_of g) A.h s p.v.0) top.is A.entered

      pub retreat-few : 2 + total p.tally ≤ 10000
      retreat-few = moves.back-few behind

      pub retreat-edge : Edge g.n g.m p.f.0
      retreat-edge = let a = behind.scene.placed.above in edge_of A.sound back p.f.0 top.passed top.ahead a.1 a.2

      -- The parent word of v is the trailer of the vertex that the search goes back to.
      word_back : get_or parents (p.v.0 - 1) 0 ≡ entering top.below
      word_back =
          sym (read_at parents p.v.0)
          ∙ ap (λ (l : List ℕ). at 0 l p.v.0) A.parents_left
          ∙ at-filled (parent_word (graph_of g) A.h) g.n parents₀ p.v.0 behind.scene.placed.vertex.0 behind.scene.placed.vertex.1
          ∙ entered-word (graph_of g) A.h back p.f.0 p.v.0 top.passed top.ahead top.below entered-back

      -- Null: that vertex is the start. Else it is where that edge leads to.
      pub back_start : get_or parents (p.v.0 - 1) 0 ≡ 0 → start ≡ back
      back_start z = go top.below (sym word_back ∙ z) behind.scene.placed.above.3
        where
          go : (s : List Frame) → entering s ≡ 0 → Above (graph_of g) start s back → start ≡ back
          go [] e a = sym a
          go (frame u du r ru ∷ s) e a = absurd (let k = edge_of A.sound u r du ru a.1 a.2 in let q : r ≡ 0 = e in omega arith)

      module _ (ne : get_or parents (p.v.0 - 1) 0 ≡ 0 → ⊥) where
        pub back-edge : Edge g.n g.m (get_or parents (p.v.0 - 1) 0)
        back-edge = subst (Edge g.n g.m) (sym word_back) (trailer-edge A.sound start top.below back behind.scene.placed.above.3 (λ e. ne (word_back ∙ e)))

        pub back_target : target g (get_or parents (p.v.0 - 1) 0) ≡ back
        back_target = sym (target_is g (get_or parents (p.v.0 - 1) 0)) ∙ ap (to g) word_back ∙ go top.below (λ e. ne (word_back ∙ e)) behind.scene.placed.above.3
          where
            go : (s : List Frame) → (entering s ≡ 0 → ⊥) → Above (graph_of g) start s back → to g (entering s) ≡ back
            go [] n a = absurd (n refl)
            go (frame u du r ru ∷ s) n a = a.0

      module _ {a ev : List ℕ} (one : Emits 6 0 p.v.0 events p.tally ev a) where
        module _ (u : ℕ) {b ev' : List ℕ} (two : Emits 5 p.f.0 u ev a ev' b) (is : u ≡ back) where
          two_back : Emits 5 p.f.0 back ev a ev' b
          two_back = subst (λ (y : ℕ). Emits 5 p.f.0 y ev a ev' b) is two

          pub retreat-total : total b ≡ 2 + total p.tally
          retreat-total = moves.back_total behind one two_back

          pub retreat-at : ParentAt g before start marks₀ parents₀ events₀ marks parents ev' (place u (get_or g.after (p.f.0 - 1) 0) (get_or parents (p.v.0 - 1) 0) b)
          retreat-at =
              let G : Graph = graph_of g in
              let h : History = A.h in
              let i : History = h ▸ event scan 0 p.v.0 ▸ event retreat_tree p.f.0 back in
              let P = behind.scene.placed in
              record {
                sound = A.sound;
                long = A.long;
                h = i;
                done = p.f.0 ∷ top.passed;
                rest = top.ahead;
                s = top.below;
                underway = subst (λ (y : ℕ). Underway G (g.n + g.m) before start i y (p.f.0 ∷ top.passed) top.ahead top.below marks₀ events₀ marks ev' b)
                    (sym is) (moves.back-goes behind one two_back);
                entered = entered-same G h i top.below u (λ y m. refl) (subst (λ (y : ℕ). Entered G h top.below y) (sym is) entered-back.1);
                parents_left = A.parents_left;
                next = next_word A.sound back p.f.0 top.passed top.ahead P.above.1 P.above.2;
                trailer = word_back;
              }

    -- There is no trailer: the start is being scanned.
    module _ (nil : p.f.0 ≡ 0) where
      bottom : Way [] []
      bottom = go A.s A.trailer done_at
        where
          go : (s : List Frame) → p.f.0 ≡ entering s → Way [] s → Way [] []
          go [] q U = U
          go (frame u du r ru ∷ s) q U = absurd (let a = U.scene.placed.above in let e = edge_of A.sound u r du ru a.1 a.2 in let k : p.f.0 ≡ r = q in omega arith)

      -- The scan of the start is the last event.
      pub search-ends : {t ev : List ℕ} → Emits 6 0 start events p.tally ev t → Ended g before start marks₀ parents₀ events₀ marks parents ev t
      search-ends w = record { held = moves.end-held bottom w; parents_left = A.parents_left ∙ ap (λ (i : History). parent_left (graph_of g) i parents₀) (moves.end_is bottom) }

-- ---- the beginning
module _ {g : Image} {before : List ℕ} {start : ℕ} {marks₀ parents₀ events₀ : List ℕ} (C : CanSearch g before start marks₀ parents₀ events₀) where
  ready : Ready (graph_of g) before start
  ready = profile-ready g C.sound before start C.start_vertex C.listed

  pub open_at : {marks parents events t : List ℕ} → parents ≡ cleared (min g.n (length parents₀)) parents₀ → Starts (g.n + g.m) before start marks₀ events₀ marks events t
      → ParentAt g before start marks₀ parents₀ events₀ marks parents events (place start (get_or g.after (start - 1) 0) 0 t)
  open_at c w = record {
    sound = C.sound;
    long = C.long;
    h = [] ▸ event label 0 start;
    done = [];
    rest = edges_of g start;
    s = [];
    underway = moves.begun ready (omega arith) C.roomy w;
    entered = refl;
    parents_left = c ∙ all-cleared g.n parents₀ C.long ∙ cleared-filled g.n parents₀;
    next = first_word C.sound start C.start_vertex;
    trailer = refl;
  }

-- ---- from place to place
module _ {g : Image} {start : ℕ} {marks parents events marks' parents' events' : List ℕ} {p p' : Place} (S : SomeParentAt g start marks parents events p) (k : Goes g start marks parents events p marks' parents' events' p') where
  pub goes_some : SomeParentAt g start marks' parents' events' p'
  goes_some = record { before = S.before; marks₀ = S.marks₀; parents₀ = S.parents₀; events₀ = S.events₀; is = k S.before S.marks₀ S.parents₀ S.events₀ S.is }

-- What a move along the next edge reads and writes, and what one back along the trailer does.
module _ {g : Image} {start : ℕ} {marks parents events : List ℕ} {p : Place} where
  pub advance-reads : SomeParentAt g start marks parents events p × (p.e.0 ≢ 0) → Bounds g p.v.0 marks parents × Ahead g p.e.0
  advance-reads z = (place-bounds z.0.is, place-ahead z.0.is z.1)

  pub retreat-reads : SomeParentAt g start marks parents events p × (p.e.0 ≡ 0) × (p.f.0 ≢ 0)
      → Bounds g p.v.0 marks parents × Edge g.n g.m p.f.0 × (get_or parents (p.v.0 - 1) 0 ≢ 0 → Edge g.n g.m (get_or parents (p.v.0 - 1) 0))
  retreat-reads z = (place-bounds z.0.is, retreat-edge z.0.is z.1 z.2, back-edge z.0.is z.1 z.2)

pub goes_then : {g : Image} {start : ℕ} {marks parents events marks' parents' events' marks'' parents'' events'' : List ℕ} {p p' p'' : Place} → Goes g start marks parents events p marks' parents' events' p'
    → Goes g start marks' parents' events' p' marks'' parents'' events'' p''
    → Goes g start marks parents events p marks'' parents'' events'' p''
goes_then k l before marks₀ parents₀ events₀ A = l before marks₀ parents₀ events₀ (k before marks₀ parents₀ events₀ A)

-- ---- the walk
-- A walk taken can begin.
pub walk_begins : (g : Image) (before : List ℕ) (start : ℕ) (marks parents events : List ℕ) → walk_number g before start marks events (lent g.n parents ∷ []) ≡ 0 → CanSearch g before start marks parents events
walk_begins g before start marks parents events taken =
    let B = begins g before start marks events (lent g.n parents ∷ []) taken in
    record { sound = B.sound; start_vertex = B.start_vertex; listed = B.listed; roomy = B.depth-room; long = (long g.n parents [] B.own-long).0 }

-- An image and its stated words alone: the same numbers, the same lists, the same searches.
-- Where every after word is a link, a list never leaves the stated words; where one is none, the call is refused before lists are looked at.
use Rattle.std.proofs.Common.{◌≡◌, refl, sym, ap, ◌∙◌, subst, Bool, true, false, cond, not, ◌||◌, List, [], ◌∷◌, ◌++◌, map, ℕ, zero, suc, ◌+◌, ◌-◌, ◌≤◌, ◌<◌, arith, length, take, length-take, eqb, ltb, ltb-true, ltb-false, lt-ltb, le-ltb}
use Rattle.lists.specs.Members.{Mem, here, there}
use Rattle.lists.specs.Counts.{count_in, all_to}
use Rattle.lists.specs.Words.{at}
use Rattle.lists.proofs.Counts.{all_same}
use Rattle.lists.proofs.Words.{at_take, values_same}
use Rattle.graphs.specs.Nodes.{Vertex, Edge, is_vertex, is_link}
use Rattle.graphs.specs.Graph.{Reached}
use Rattle.graphs.specs.Events.{History, labelled}
use Rattle.graphs.specs.Search.{depth_first, breadth_first}
use Rattle.graphs.specs.Image.{Image, stated, SameLinks, chain, looked_for, edges_of, to, graph_of, lists_to}
use Rattle.graphs.specs.ArrayForm.{array_of, numbers_of}
use Rattle.graphs.specs.Refusals.{Refusal, refuse, first_of, Lent, short, vertices_out, edges_out, vertex_out, after_out, tail_out, list_out, size_refusals, image_areas, image_refusals, blank_refusals, image_number, search_number}
use Rattle.graphs.specs.Claims.{SameLinksClaim}
use Rattle.graphs.proofs.Nodes.{link-not-null}
use Rattle.graphs.proofs.Refusals.{all-false, checked-sound}
use Rattle.graphs.proofs.Sound.{links-in, lists-edges, profile_sound, image-sound, graph-closed}
use Rattle.graphs.proofs.Room.{profile-ready}
use Rattle.graphs.proofs.Depth.{depth-first}
use Rattle.graphs.proofs.Agreeing.{Agreeing, depth_same, breadth-same}

-- The stated words of an area are as many as stated exactly where the area has as many.
pub short-stated : (k : ℕ) (area : List ℕ) → ltb (length (take k area)) k ≡ ltb (length area) k
short-stated k area = go (ltb (length area) k) refl
  where
    go : (b : Bool) → ltb (length area) k ≡ b → ltb (length (take k area)) k ≡ b
    go true e = lt-ltb (length (take k area)) k (omega (arith, length-take k area, ltb-true (length area) k e))
    go false e = le-ltb (length (take k area)) k (omega (arith, length-take k area, ltb-false (length area) k e))

module _ (g : Image) where
  same_after : (x : ℕ) → 0 < x → x ≤ g.n + g.m → at 0 (stated g).after x ≡ at 0 g.after x
  same_after x p q = at_take 0 (g.n + g.m) g.after x p (omega arith)

  same-to : (r : ℕ) → Edge g.n g.m r → to (stated g) r ≡ to g r
  same-to r e = at_take g.n g.m g.tail r e.0 e.1

  -- ---- the conditions
  after_same : after_out (stated g) ≡ after_out g
  unfolding after_out
  after_same = ap not (all_same (λ x. is_link g.n g.m (at 0 (stated g).after x)) (λ x. is_link g.n g.m (at 0 g.after x)) (g.n + g.m) (λ x p q. ap (is_link g.n g.m) (same_after x p q)))

  tail-same : tail_out g.n g.m (stated g).tail ≡ tail_out g.n g.m g.tail
  unfolding tail_out
  tail-same = ap not (all_same (λ k. is_vertex g.n (at 0 (stated g).tail k)) (λ k. is_vertex g.n (at 0 g.tail k)) g.m (λ k p q. ap (is_vertex g.n) (at_take 0 g.m g.tail k p (omega arith))))

  module _ (in-kind : after_out g ≡ false) where
    chain_same : (k x : ℕ) → is_link g.n g.m x ≡ true → chain k (stated g).after x ≡ chain k g.after x
    chain_same zero x h = refl
    chain_same (suc k) zero h = refl
    chain_same (suc k) (suc y) h =
        let e : Edge g.n g.m (suc y) = link-not-null g.n g.m (suc y) h (omega arith) in
        ap (λ (l : List ℕ). suc y ∷ l)
        (ap (chain k (stated g).after) (same_after (suc y) (omega arith) e.1) ∙ chain_same k (at 0 g.after (suc y)) (links-in g in-kind (suc y) (omega arith) e.1))

    edges-same : (u : ℕ) → Vertex g.n u → edges_of (stated g) u ≡ edges_of g u
    unfolding edges_of
    edges-same u hu =
        ap (chain (looked_for g) (stated g).after) (same_after u hu.0 (omega arith))
        ∙ chain_same (looked_for g) (at 0 g.after u) (links-in g in-kind u hu.0 (omega arith))

    lists-same : (k : ℕ) → k ≤ g.n → lists_to (stated g) k ≡ lists_to g k
    lists-same zero h = refl
    lists-same (suc k) h = let a = lists-same k (omega arith) in let b = edges-same (suc k) (omega arith) in λ i. a i ++ b i

    list_same : list_out (stated g) ≡ list_out g
    unfolding list_out
    list_same = ap (λ (l : List ℕ). not (all_to (λ k. eqb (count_in (g.n + k) l) 1) g.m)) (lists-same g.n (omega arith))

  image-same : (own : List Refusal) → first_of (image_refusals (stated g) ++ own) ≡ first_of (image_refusals g ++ own)
  image-same own = go (after_out g) refl
    where
      go : (b : Bool) → after_out g ≡ b → first_of (image_refusals (stated g) ++ own) ≡ first_of (image_refusals g ++ own)
      go true e =
          ap (λ (x : Bool). first_of (refuse 5 x ∷ refuse 6 (tail_out g.n g.m (stated g).tail) ∷ refuse 7 (list_out (stated g)) ∷ own)) (after_same ∙ e)
          ∙ ap (λ (x : Bool). first_of (refuse 5 x ∷ refuse 6 (tail_out g.n g.m g.tail) ∷ refuse 7 (list_out g) ∷ own)) (sym e)
      go false e = λ i. first_of (refuse 5 (after_same i) ∷ refuse 6 (tail-same i) ∷ refuse 7 (list_same e i) ∷ own)

  areas-same : (areas others : List Lent) → short areas ≡ short others → short (image_areas (stated g) ++ areas) ≡ short (image_areas g ++ others)
  areas-same areas others e = λ i. short-stated (g.n + g.m) g.after i || (short-stated g.m g.tail i || e i)

  checked-same : (areas others : List Lent) → short areas ≡ short others → image_number (stated g) areas ≡ image_number g others
  unfolding image_number
  checked-same areas others e =
      (λ i. first_of (refuse 1 (vertices_out g.n) ∷ refuse 2 (edges_out g.m) ∷ refuse 3 (areas-same areas others e i) ∷ image_refusals (stated g)))
      ∙ ap (λ (k : ℕ). cond (vertices_out g.n) 1 (cond (edges_out g.m) 2 (cond (short (image_areas g ++ others)) 3 k))) (image-same [])

  number_same : (before : List ℕ) (start : ℕ) (areas others : List Lent) → short areas ≡ short others
      → search_number (stated g) before start areas ≡ search_number g before start others
  unfolding search_number
  number_same before start areas others e =
      (λ i. first_of (refuse 1 (vertices_out g.n) ∷ refuse 2 (edges_out g.m) ∷ refuse 3 (areas-same areas others e i) ∷ refuse 4 (vertex_out g.n start) ∷ (image_refusals (stated g) ++ blank_refusals g.n before start)))
      ∙ ap (λ (k : ℕ). cond (vertices_out g.n) 1 (cond (edges_out g.m) 2 (cond (short (image_areas g ++ others)) 3 (cond (vertex_out g.n start) 4 k)))) (image-same (blank_refusals g.n before start))

  -- ---- a sound image
  module _ (areas : List Lent) (h : image_number g areas ≡ 0) where
    in-kind : after_out g ≡ false
    unfolding image_number
    in-kind = (all-false (size_refusals g.n g.m (image_areas g ++ areas) ++ image_refusals g) [] (omega arith) h).0.1.1.1.0

    tos-same : (l : List ℕ) → ((r : ℕ) → Mem r l → Edge g.n g.m r) → map (to (stated g)) l ≡ map (to g) l
    tos-same [] e = refl
    tos-same (r ∷ l) e = let a = same-to r (e r (here refl)) in let b = tos-same l (λ x m. e x (there m)) in λ i. a i ∷ b i

    array-stated : array_of (stated g) ≡ array_of g
    array-stated =
        let lists = lists-same in-kind g.n (omega arith) in
        let firsts =
        values_same (λ u. suc (length (lists_to (stated g) (u - 1)))) (λ u. suc (length (lists_to g (u - 1)))) 0 (suc g.n)
        (λ u p q. ap (λ (l : List ℕ). suc (length l)) (lists-same in-kind (u - 1) (omega arith))) in
        let tails = ap (map (to (stated g))) lists ∙ tos-same (lists_to g g.n) (lists-edges g in-kind g.n (omega arith)) in
        λ i. record { n = g.n; m = g.m; firsts = firsts i; tails = tails i }

    agreeing : Agreeing (graph_of g) (graph_of (stated g))
    agreeing =
        let S = (image-sound g areas h).0 in
        record { size = refl; lists = λ u hu. sym (edges-same in-kind u hu); targets = λ u r hu m. sym (same-to r (S.edge u r hu m)); closed = graph-closed g S }

-- ---- two images
module _ (g h : Image) (L : SameLinks g h) where
  array_same : (areas : List Lent) → image_number g areas ≡ 0 → (array_of g ≡ array_of h) × (numbers_of g ≡ numbers_of h)
  array_same areas e =
      let f : image_number h areas ≡ 0 = sym (checked-same h areas areas refl) ∙ ap (λ (x : Image). image_number x areas) (sym L) ∙ (checked-same g areas areas refl ∙ e) in
      let a = sym (array-stated g areas e) in
      let b = array-stated h areas f in
      let c = sym (lists-same g (in-kind g areas e) g.n (omega arith)) in
      let d = lists-same h (in-kind h areas f) h.n (omega arith) in
      (a ∙ ap array_of L ∙ b, c ∙ ap numbers_of L ∙ d)

  module _ (before : List ℕ) (start : ℕ) (areas : List Lent) (e : search_number g before start areas ≡ 0) where
    taken-there : search_number h before start areas ≡ 0
    taken-there = sym (number_same h before start areas areas refl) ∙ ap (λ (x : Image). search_number x before start areas) (sym L) ∙ (number_same g before start areas areas refl ∙ e)

    depth-stated : depth_first (graph_of g) before start ≡ depth_first (graph_of h) before start
    depth-stated =
        depth_same (agreeing g areas ((checked-sound g before start areas).0 e).0) before start (profile_sound g before start areas e).start_vertex
        ∙ ap (λ (x : Image). depth_first (graph_of x) before start) L
        ∙ sym (depth_same (agreeing h areas ((checked-sound h before start areas).0 taken-there).0) before start (profile_sound h before start areas taken-there).start_vertex)

    breadth-stated : breadth_first (graph_of g) before start ≡ breadth_first (graph_of h) before start
    breadth-stated =
        breadth-same (agreeing g areas ((checked-sound g before start areas).0 e).0) before start (profile_sound g before start areas e).start_vertex
        ∙ ap (λ (x : Image). breadth_first (graph_of x) before start) L
        ∙ sym (breadth-same (agreeing h areas ((checked-sound h before start areas).0 taken-there).0) before start (profile_sound h before start areas taken-there).start_vertex)

    -- What is reached is what the search labels.
    labels-reached : (x : Image) → search_number x before start areas ≡ 0 → Reached (graph_of x) before start (labelled (depth_first (graph_of x) before start))
    labels-reached x f = let P = profile_sound x before start areas f in (depth-first (graph_of x) before start (profile-ready x P.sound before start P.start_vertex P.listed)).complete.labels

    reached-stated : (vs : List ℕ) → Reached (graph_of g) before start vs → Reached (graph_of h) before start vs
    reached-stated vs E =
        let A = labels-reached g e in
        let B : Reached (graph_of h) before start (labelled (depth_first (graph_of g) before start)) = subst (λ (i : History). Reached (graph_of h) before start (labelled i)) (sym depth-stated) (labels-reached h taken-there) in
        record { once = E.once; exact = λ x. (λ m. (B.exact x).0 ((A.exact x).1 ((E.exact x).0 m)), λ l. (E.exact x).1 ((A.exact x).0 ((B.exact x).1 l))) }

pub same-links : SameLinksClaim
same-links g h L = record {
  checked = λ areas others e. sym (checked-same g areas areas refl) ∙ ap (λ (x : Image). image_number x areas) L ∙ checked-same h areas others e;
  number = λ before start areas others e. sym (number_same g before start areas areas refl) ∙ ap (λ (x : Image). search_number x before start areas) L ∙ number_same h before start areas others e;
  array = array_same g h L;
  reached = reached-stated g h L;
  depth = depth-stated g h L;
  breadth = breadth-stated g h L;
}

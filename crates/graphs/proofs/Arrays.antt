-- The array form of a sound image, in areas of any length, is the same graph, up to the list of edge numbers.
-- Each edge stands on one list, once, so all lists together have m edges; the list of u is the part of them between two first positions.
use Rattle.std.proofs.Common.{◌≡◌, refl, sym, ap, ◌∙◌, subst, ◌⊎◌, inl, inr, true, false, not, List, [], ◌∷◌, ◌++◌, map, append-nil, append_assoc, ℕ, zero, suc, ◌+◌, ◌-◌, ◌≤◌, ◌<◌, arith, eqb, leb, length, get_or, take, drop, length-append, drop-cons, eqb-true, eq-eqb, ne_eqb, le-leb, le-ltb}
use lib.ListN.{length-map, get_or-append}
use lib.Seq.{take-append_seam, drop-append_seam}
use Rattle.lists.specs.Members.{Mem, here, there, NoDup}
use Rattle.lists.specs.Counts.{count_in}
use Rattle.lists.specs.Words.{at, overlay, values_from}
use Rattle.lists.proofs.Tests.{and-true, Compared, equal, other, compare}
use Rattle.lists.proofs.Members.{mem-nil, mem-left, mem-right, mem-append, append-nodup}
use Rattle.lists.proofs.Counts.{count-mem, count_most, all_of, count-all}
use Rattle.lists.proofs.Words.{length-values, at-filled}
use Rattle.graphs.specs.Nodes.{Vertex, Edge, is_vertex}
use Rattle.graphs.specs.Image.{Image, edges_of, to, lists_to}
use Rattle.graphs.specs.ArrayForm.{ArrayForm, is_ordered, array_graph, array_of, numbers_of, array_left, numbers_left}
use Rattle.graphs.specs.Refusals.{tail_out, array_number}
use Rattle.graphs.specs.Claims.{SameGraph, ArrayClaim}
use Rattle.graphs.proofs.Nodes.{vertex-yes}
use Rattle.graphs.proofs.Sound.{Sound, image-sound}

-- ---- words
mapped : (f : ℕ → ℕ) (l : List ℕ) (i : ℕ) → i < length l → get_or (map f l) i 0 ≡ f (get_or l i 0)
mapped f [] i h = absurd (omega arith)
mapped f (y ∷ l) zero h = refl
mapped f (y ∷ l) (suc i) h = mapped f l i (omega arith)

at_map : (b : ℕ) (f : ℕ → ℕ) (l : List ℕ) (x : ℕ) → b < x → x ≤ b + length l → at b (map f l) x ≡ f (at b l x)
unfolding at
at_map b f l x p q = mapped f l (x - suc b) (omega arith)

stands : (l : List ℕ) (i : ℕ) → i < length l → Mem (get_or l i 0) l
stands [] i h = absurd (omega arith)
stands (y ∷ l) zero h = here refl
stands (y ∷ l) (suc i) h = there (stands l i (omega arith))

mem-at : (b : ℕ) (l : List ℕ) (x : ℕ) → b < x → x ≤ b + length l → Mem (at b l x) l
unfolding at
mem-at b l x p q = stands l (x - suc b) (omega arith)

-- The words in front of an area are those put there.
at-over : (b : ℕ) (ws area : List ℕ) (x : ℕ) → b < x → x ≤ b + length ws → at b (overlay ws area) x ≡ at b ws x
unfolding at
at-over b ws area x p q = get_or-append ws (drop (length ws) area) 0 (x - suc b) (omega arith)

-- The words of the nodes n + b + 1 to n + b + k are a part of the area.
pub part-values : (n : ℕ) (l : List ℕ) (b k : ℕ) → b + k ≤ length l → map (at n l) (values_from (λ p. n + p) b k) ≡ take k (drop b l)
unfolding at
part-values n l b zero h = refl
part-values n l b (suc k) h =
    let e : n + suc b - suc n ≡ b = omega arith in
    rw (drop-cons l b 0 (omega arith), e) (ap (λ (r : List ℕ). get_or l b 0 ∷ r) (part-values n l (suc b) k (omega arith)))

-- ---- all lists
-- The whole begins with the front.
pub record Begins (front whole : List ℕ) : Type 0 where
  pub rest : List ℕ
  pub splits : whole ≡ front ++ rest

pub lists-begin : (g : Image) (u k : ℕ) → u ≤ k → Begins (lists_to g u) (lists_to g k)
lists-begin g zero k h = record { rest = lists_to g k; splits = refl }
lists-begin g (suc u) zero h = absurd (omega arith)
lists-begin g (suc u) (suc k) h = go (compare u k) (λ q. lists-begin g (suc u) k q)
  where
    go : Compared u k → (suc u ≤ k → Begins (lists_to g (suc u)) (lists_to g k)) → Begins (lists_to g (suc u)) (lists_to g (suc k))
    go (equal e t) ih = record { rest = []; splits = ap (λ (x : ℕ). lists_to g (suc x)) (sym e) ∙ sym (append-nil (lists_to g (suc u))) }
    go (other ne t) ih =
        let b = ih (omega arith) in
        record { rest = b.rest ++ edges_of g (suc k); splits = ap (λ (l : List ℕ). l ++ edges_of g (suc k)) b.splits ∙ append_assoc (lists_to g (suc u)) b.rest (edges_of g (suc k)) }

begins-length : {front whole : List ℕ} → Begins front whole → length front ≤ length whole
begins-length {front} {whole} b = omega (arith, ap length b.splits, length-append front b.rest)

module _ (g : Image) (S : Sound g) where
  lists-owned : (k : ℕ) → k ≤ g.n → (r : ℕ) → Mem r (lists_to g k) → Edge g.n g.m r × (S.owner r ≤ k)
  lists-owned zero h r m = absurd (mem-nil m)
  lists-owned (suc k) h r m = go (mem-append (lists_to g k) (edges_of g (suc k)) m) (λ q. lists-owned k (omega arith) r q)
    where
      go : Mem r (lists_to g k) ⊎ Mem r (edges_of g (suc k)) → (Mem r (lists_to g k) → Edge g.n g.m r × (S.owner r ≤ k)) → Edge g.n g.m r × (S.owner r ≤ suc k)
      go (inl q) ih = let z = ih q in (z.0, omega arith)
      go (inr q) ih = let u : Vertex g.n (suc k) = omega arith in let e : S.owner r ≡ suc k = S.own-edge (suc k) r u q in (S.edge (suc k) r u q, omega arith)

  lists-once : (k : ℕ) → k ≤ g.n → NoDup (lists_to g k)
  lists-once zero h = tt
  lists-once (suc k) h =
      let u : Vertex g.n (suc k) = omega arith in
      append-nodup (lists_to g k) (edges_of g (suc k)) (lists-once k (omega arith)) (S.once (suc k) u)
      (λ r m q. (let a = lists-owned k (omega arith) r m in let e : S.owner r ≡ suc k = S.own-edge (suc k) r u q in omega arith))

  lists-all : (k u r : ℕ) → 0 < u → u ≤ k → Mem r (edges_of g u) → Mem r (lists_to g k)
  lists-all zero u r p q m = absurd (omega arith)
  lists-all (suc k) u r p q m = go (compare u (suc k)) (λ z. lists-all k u r p z m)
    where
      go : Compared u (suc k) → (u ≤ k → Mem r (lists_to g k)) → Mem r (lists_to g (suc k))
      go (equal e t) ih = mem-right (lists_to g k) (subst (λ (x : ℕ). Mem r (edges_of g x)) e m)
      go (other ne t) ih = mem-left (edges_of g (suc k)) (ih (omega arith))

  -- All lists together have m edges.
  pub lists_length : length (lists_to g g.n) ≡ g.m
  lists_length =
      eqb-true (length (lists_to g g.n)) g.m
      (count-all g.n g.m (lists_to g g.n) (lists-once g.n (omega arith)) (λ r m. (lists-owned g.n (omega arith) r m).0)
      ∙ all_of (λ k. eqb (count_in (g.n + k) (lists_to g g.n)) 1) g.m (λ k p q. eq-eqb (count_in (g.n + k) (lists_to g g.n)) 1 (once (g.n + k) (omega arith))))
    where
      once : (r : ℕ) → Edge g.n g.m r → count_in r (lists_to g g.n) ≡ 1
      once r e =
          let o = S.listed r e in
          omega (arith, count_most r (lists_to g g.n) (lists-once g.n (omega arith)), count-mem (lists-all g.n (S.owner r) r o.0.0 o.0.1 o.1))

  pub lists-few : (u : ℕ) → u ≤ g.n → length (lists_to g u) ≤ g.m
  lists-few u h = omega (arith, begins-length (lists-begin g u g.n h), lists_length)

-- ---- the array form, in areas of any length
module _ (g : Image) (S : Sound g) (firsts tails numbers : List ℕ) where
  abbrev a : ArrayForm
  a = array_left g firsts tails

  abbrev all : List ℕ
  all = numbers_of g

  firsts-length : length (array_of g).firsts ≡ suc g.n
  firsts-length = length-values (λ u. suc (length (lists_to g (u - 1)))) 0 (suc g.n)

  tails-length : length (array_of g).tails ≡ g.m
  tails-length = length-map all (to g) ∙ lists_length g S

  first-at : (v : ℕ) → v ≤ g.n → at 0 a.firsts (suc v) ≡ suc (length (lists_to g v))
  first-at v h =
      let e : suc v - 1 ≡ v = omega arith in
      ap (λ (k : ℕ). at 0 ((array_of g).firsts ++ drop k firsts) (suc v)) firsts-length
      ∙ at-filled (λ u. suc (length (lists_to g (u - 1)))) (suc g.n) firsts (suc v) (omega arith) (omega arith)
      ∙ ap (λ (x : ℕ). suc (length (lists_to g x))) e

  -- The tail of a position is where its edge leads.
  tail_at : (b x : ℕ) → b < x → x ≤ b + g.m → at b a.tails x ≡ to g (at b all x)
  tail_at b x p q =
      at-over b (array_of g).tails tails x p (omega (arith, tails-length))
      ∙ at_map b (to g) all x p (omega (arith, lists_length g S))

  firsts-in-order : is_ordered a ≡ true
  firsts-in-order =
      and-true (eq-eqb (at 0 a.firsts 1) 1 (first-at 0 (omega arith)))
      (and-true (eq-eqb (at 0 a.firsts (suc g.n)) (suc g.m) (first-at g.n (omega arith) ∙ ap suc (lists_length g S)))
      (all_of (λ u. leb (at 0 a.firsts u) (at 0 a.firsts (suc u))) g.n rising))
    where
      rising : (u : ℕ) → 0 < u → u ≤ g.n → leb (at 0 a.firsts u) (at 0 a.firsts (suc u)) ≡ true
      rising zero p q = absurd (omega arith)
      rising (suc v) p q = le-leb (at 0 a.firsts (suc v)) (at 0 a.firsts (suc (suc v))) (omega (arith, first-at v (omega arith), first-at (suc v) q, length-append (lists_to g v) (edges_of g (suc v))))

  tails-in : tail_out g.n g.m a.tails ≡ false
  unfolding tail_out
  tails-in = ap not (all_of (λ k. is_vertex g.n (at 0 a.tails k)) g.m vertex)
    where
      vertex : (k : ℕ) → 0 < k → k ≤ g.m → is_vertex g.n (at 0 a.tails k) ≡ true
      vertex k p q =
          let e : Edge g.n g.m (at 0 all k) = (lists-owned g S g.n (omega arith) (at 0 all k) (mem-at 0 all k p (omega (arith, lists_length g S)))).0 in
          ap (is_vertex g.n) (tail_at 0 k p (omega arith)) ∙ vertex-yes g.n (to g (at 0 all k)) (S.target (at 0 all k) e)

  query-taken : (x : ℕ) → Vertex g.n x → array_number a x [] ≡ 0
  unfolding array_number
  query-taken x h =
      rw (
        ne_eqb g.n 0 (λ e. (let z : g.n ≡ 0 = e in omega arith)),
        le-ltb 1000 g.n S.few_vertices,
        le-ltb 4000 g.m S.few_edges,
        le-ltb (length a.firsts) (g.n + 1) (omega (arith, firsts-length, length-append (array_of g).firsts (drop (length (array_of g).firsts) firsts))),
        le-ltb (length a.tails) g.m (omega (arith, tails-length, length-append (array_of g).tails (drop (length (array_of g).tails) tails))),
        vertex-yes g.n x h,
        firsts-in-order,
        tails-in,
      )

  list-part : (u : ℕ) → Vertex g.n u → map (at g.n (numbers_left g numbers)) ((array_graph a).out u) ≡ edges_of g u
  list-part zero h = absurd (omega arith)
  list-part (suc v) h =
      let b = lists-begin g (suc v) g.n h.1 in
      let past = drop (length all) numbers in
      let one = first-at v (omega arith) in
      let two = first-at (suc v) h.1 in
      let sum = length-append (lists_to g v) (edges_of g (suc v)) in
      let from : at 0 a.firsts (suc v) - 1 ≡ length (lists_to g v) = omega arith in
      let long : at 0 a.firsts (suc (suc v)) - at 0 a.firsts (suc v) ≡ length (edges_of g (suc v)) = omega arith in
      let whole : numbers_left g numbers ≡ lists_to g v ++ (edges_of g (suc v) ++ (b.rest ++ past)) =
      ap (λ (l : List ℕ). l ++ past) b.splits ∙ append_assoc (lists_to g (suc v)) b.rest past ∙ append_assoc (lists_to g v) (edges_of g (suc v)) (b.rest ++ past) in
      (λ i. map (at g.n (numbers_left g numbers)) (values_from (λ p. g.n + p) (from i) (long i)))
      ∙ part-values g.n (numbers_left g numbers) (length (lists_to g v)) (length (edges_of g (suc v))) (omega (arith, begins-length b, length-append all past))
      ∙ ap (λ (l : List ℕ). take (length (edges_of g (suc v))) (drop (length (lists_to g v)) l)) whole
      ∙ ap (take (length (edges_of g (suc v)))) (drop-append_seam (lists_to g v) (edges_of g (suc v) ++ (b.rest ++ past)))
      ∙ take-append_seam (edges_of g (suc v)) (b.rest ++ past)

  same_graph : SameGraph g a (numbers_left g numbers)
  same_graph =
      record {
        same_n = refl;
        same_m = refl;
        taken = query-taken;
        lists = list-part;
        targets = λ p e. tail_at g.n p e.0 e.1 ∙ ap (to g) (sym (at-over g.n all numbers p e.0 (omega (arith, lists_length g S))));
      }

pub array_same : ArrayClaim
array_same g areas firsts tails numbers h = same_graph g (image-sound g areas h).0 firsts tails numbers

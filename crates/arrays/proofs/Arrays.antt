-- Laws of the array form: what a query that is taken may read, and what it gets.
-- First positions that begin with 1, never fall and end with m + 1 lie between 1 and m + 1.
use Rattle.std.proofs.Common.{◌≡◌, refl, sym, ap, ◌∙◌, Bool, true, false, ◌&&◌, List, [], ◌∷◌, ◌++◌, map, ℕ, zero, suc, ◌+◌, ◌-◌, ◌≤◌, ◌<◌, add-one, arith, eqb, leb, length, get_or, take, drop, eqb-true, eq-eqb, ne_eqb, leb-true, le-leb}
use borrow.Author.Tests.{lt-leb, not-false}
use Rattle.std.specs.Prelude.{Some}
use Rattle.std.specs.Bool.{MatchBool}
use Rattle.std.specs.List.{IsAllAdjacentAnswer}
use Rattle.std.specs.List.Sorted.{IsNonDecreasing}
use Rattle.std.specs.Ordering.{is_le, is_some_and, nat_cmp}
use Rattle.std.proofs.lemmas.List.{get_or-take, length-take-le}
use Rattle.std.proofs.lemmas.List.Sorted.{non_decreasing_from_is_sorted}
use Rattle.lists.specs.Counts.{all_to}
use Rattle.lists.specs.Words.{at, values_from}
use Rattle.lists.proofs.Tests.{both, Compared, equal, other, compare}
use Rattle.lists.proofs.Counts.{all-at, all_of, all-fails}
use Rattle.lists.proofs.Words.{read_at, word-here}
use Rattle.graphs.specs.Nodes.{Vertex}
use Rattle.graphs.specs.Image.{to}
use Rattle.graphs.specs.ArrayForm.{ArrayForm, is_ordered, array_graph, array_left, numbers_left}
use Rattle.graphs.specs.Refusals.{refuse, vertex_out, first_out, tail_out, size_refusals, array_areas, array_number, lent, unless_refused}
use Rattle.graphs.proofs.Nodes.{vertex-is}
use Rattle.graphs.proofs.Refusals.{refused, all-false, long}
use Rattle.graphs.proofs.Arrays.{part-values, array_same}
use Rattle.arrays.specs.Arrays.{part_of, queried}
use Rattle.arrays.specs.Querying.{Asked}
use Rattle.arrays.specs.Claims.{QueryClaim, ConvertClaim}

-- ---- first positions
pub next_word : (l : List ℕ) (i : ℕ) → at 0 l (suc (suc i)) ≡ get_or l (i + 1) 0
next_word l i = word-here l (suc i) ∙ ap (λ (j : ℕ). get_or l j 0) (sym (add-one i))

-- The first positions up to that of k + 1 never fall.
abbrev pub Rising : List ℕ → ℕ → Type 0
Rising firsts k = (u : ℕ) → 0 < u → u ≤ k → at 0 firsts u ≤ at 0 firsts (suc u)

rising : (firsts : List ℕ) (n : ℕ) → Rising firsts n → (i j : ℕ) → 0 < i → i ≤ j → j ≤ suc n → at 0 firsts i ≤ at 0 firsts j
rising firsts n h i zero p q r = absurd (omega arith)
rising firsts n h i (suc j) p q r = go (compare i (suc j)) (λ s. rising firsts n h i j p s (omega arith))
  where
    go : Compared i (suc j) → (i ≤ j → at 0 firsts i ≤ at 0 firsts j) → at 0 firsts i ≤ at 0 firsts (suc j)
    go (equal e t) ih = rw e (omega arith)
    go (other ne t) ih = let z = ih (omega arith) in let s = h j (omega arith) (omega arith) in omega arith

-- First positions that do not break their rule.
pub record InOrder (a : ArrayForm) : Type 0 where
  pub begins : at 0 a.firsts 1 ≡ 1
  pub ends : at 0 a.firsts (suc a.n) ≡ suc a.m
  pub rises : Rising a.firsts a.n

-- The test of two neighbours.
abbrev pub rise : ArrayForm → ℕ → Bool
rise a u = leb (at 0 a.firsts u) (at 0 a.firsts (suc u))

pub in-order : (a : ArrayForm) → first_out a ≡ false → InOrder a
in-order a h =
    let one = both (eqb (at 0 a.firsts 1) 1) (eqb (at 0 a.firsts (suc a.n)) (suc a.m) && all_to (rise a) a.n) (not-false _ h) in
    let two = both (eqb (at 0 a.firsts (suc a.n)) (suc a.m)) (all_to (rise a) a.n) one.1 in
    record {
      begins = eqb-true (at 0 a.firsts 1) 1 one.0;
      ends = eqb-true (at 0 a.firsts (suc a.n)) (suc a.m) two.0;
      rises = λ u p q. leb-true (at 0 a.firsts u) (at 0 a.firsts (suc u)) (all-at (rise a) a.n two.1 u p q);
    }

-- The first n + 1 words never fall exactly where the first positions do not.
sorted-rises : (a : ArrayForm) (r : Bool) → a.n + 1 ≤ length a.firsts → IsAllAdjacentAnswer (λ x y b. is_some_and is_le (Some (nat_cmp x y)) ≡ b) (take (a.n + 1) a.firsts) r → r ≡ all_to (rise a) a.n
sorted-rises a r h s = go r (non_decreasing_from_is_sorted (take (a.n + 1) a.firsts) r s)
  where
    words : List ℕ
    words = take (a.n + 1) a.firsts

    long-words : length words ≡ a.n + 1
    long-words = length-take-le (a.n + 1) a.firsts h

    here : (k : ℕ) → k < a.n + 1 → at 0 a.firsts (suc k) ≡ get_or words k 0
    here k p = word-here a.firsts k ∙ sym (get_or-take (a.n + 1) a.firsts k 0 p)

    go : (b : Bool) → MatchBool b (IsNonDecreasing words) ((k : ℕ) × (k + 1 < length words) × ((d : ℕ) → get_or words (k + 1) d < get_or words k d)) → b ≡ all_to (rise a) a.n
    go true m = sym (all_of (rise a) a.n rises)
      where
        rises : (u : ℕ) → 0 < u → u ≤ a.n → rise a u ≡ true
        rises zero p q = absurd (omega arith)
        rises (suc k) p q = le-leb (at 0 a.firsts (suc k)) (at 0 a.firsts (suc (suc k))) (omega (arith, here k (omega arith), here (suc k) (omega arith), m k (suc k) 0 (omega arith) (omega (arith, long-words))))
    go false m =
        let k = m.0 in
        let below : k + 1 < a.n + 1 = omega (arith, m.1, long-words) in
        sym (all-fails (rise a) a.n (suc k) (omega arith) (omega arith) (lt-leb (at 0 a.firsts (suc k)) (at 0 a.firsts (suc (suc k))) (omega (arith, here k (omega arith), next_word a.firsts k, get_or-take (a.n + 1) a.firsts (k + 1) 0 below, m.2 0))))

-- What the first of the first n + 1 words, the last, and the neighbours say of the rule.
module _ (a : ArrayForm) (h : a.n + 1 ≤ length a.firsts) where
  rule : is_ordered a ≡ (eqb (get_or (take (a.n + 1) a.firsts) 0 0) 1 && (eqb (get_or (take (a.n + 1) a.firsts) a.n 0) (a.m + 1) && all_to (rise a) a.n))
  rule =
      let begin = word-here a.firsts 0 ∙ sym (get_or-take (a.n + 1) a.firsts 0 0 (omega arith)) in
      let end = word-here a.firsts a.n ∙ sym (get_or-take (a.n + 1) a.firsts a.n 0 (omega arith)) in
      (λ i. eqb (begin i) 1 && (eqb (end i) (sym (add-one a.m) i) && all_to (rise a) a.n))

  pub wrong-begin : (get_or (take (a.n + 1) a.firsts) 0 0 ≡ 1 → ⊥) → false ≡ is_ordered a
  wrong-begin ne = sym (rule ∙ rw (ne_eqb (get_or (take (a.n + 1) a.firsts) 0 0) 1 ne) refl)

  module _ (one : get_or (take (a.n + 1) a.firsts) 0 0 ≡ 1) where
    begun : is_ordered a ≡ (eqb (get_or (take (a.n + 1) a.firsts) a.n 0) (a.m + 1) && all_to (rise a) a.n)
    begun = rule ∙ rw (eq-eqb (get_or (take (a.n + 1) a.firsts) 0 0) 1 one) refl

    pub wrong-end : eqb (get_or (take (a.n + 1) a.firsts) a.n 0) (a.m + 1) ≡ false → false ≡ is_ordered a
    wrong-end e = sym (begun ∙ rw e refl)

    pub neighbours : eqb (get_or (take (a.n + 1) a.firsts) a.n 0) (a.m + 1) ≡ true → {r : Bool} → IsAllAdjacentAnswer (λ x y b. is_some_and is_le (Some (nat_cmp x y)) ≡ b) (take (a.n + 1) a.firsts) r → r ≡ is_ordered a
    neighbours e {r} s = sorted-rises a r h s ∙ sym (begun ∙ rw e refl)

-- ---- queries
pub asked : (a : ArrayForm) (u : ℕ) → array_number a u [] ≡ 0 → Asked a u
unfolding array_number
asked a u h =
    let own = refuse 4 (vertex_out a.n u) ∷ refuse 5 (first_out a) ∷ refuse 6 (tail_out a.n a.m a.tails) ∷ [] in
    let s = all-false (size_refusals a.n a.m (array_areas a ++ [])) own (omega arith) h in
    let o = all-false own [] (omega arith) s.1 in
    let firsts-long = long (a.n + 1) a.firsts (lent a.m a.tails ∷ []) s.0.1.1.0 in
    let v : Vertex a.n u = vertex-is a.n u (not-false _ o.0.0) in
    let f : InOrder a = in-order a o.0.1.0 in
    record {
      vertex = v.0;
      second = omega (arith, firsts-long.0);
      low = omega (arith, f.begins, read_at a.firsts u, rising a.firsts a.n f.rises 1 u (omega arith) v.0 (omega arith));
      rises = omega (arith, read_at a.firsts u, word-here a.firsts u, f.rises u v.0 v.1);
      high = omega (arith, f.ends, word-here a.firsts u, rising a.firsts a.n f.rises (suc u) (suc a.n) (omega arith) (omega arith) (omega arith));
      long_tails = (long a.m a.tails [] firsts-long.1).0;
    }

pub query-taken : (a : ArrayForm) (u : ℕ) → array_number a u [] ≡ 0 → queried a u ≡ part_of a u
unfolding queried
query-taken a u h = ap (λ (k : ℕ). unless_refused k (part_of a u) []) h

pub query-edges : QueryClaim
query-edges a u h =
    let k = asked a u h in
    query-taken a u h ∙ sym (part-values a.n a.tails (at 0 a.firsts u - 1) (at 0 a.firsts (suc u) - at 0 a.firsts u) (omega (arith, read_at a.firsts u, word-here a.firsts u)))

-- Positions b + 1 to b + k, where f is h of the number that g gives.
map-twice : (f g h : ℕ → ℕ) (n b k : ℕ) → ((p : ℕ) → n + b < p → p ≤ n + b + k → f p ≡ h (g p)) → map f (values_from (λ p. n + p) b k) ≡ map h (map g (values_from (λ p. n + p) b k))
map-twice f g h n b zero e = refl
map-twice f g h n b (suc k) e = (λ i. e (n + suc b) (omega arith) (omega arith) i ∷ map-twice f g h n (suc b) k (λ p q r. e p (omega arith) (omega arith)) i)

pub convert-queries : ConvertClaim
convert-queries g areas firsts tails h u v =
    let a = array_left g firsts tails in
    let same = array_same g areas firsts tails [] h in
    let k = asked a u (same.taken u v) in
    query-edges a u (same.taken u v)
    ∙ map-twice (array_graph a).to (at g.n (numbers_left g [])) (to g) g.n (at 0 a.firsts u - 1) (at 0 a.firsts (suc u) - at 0 a.firsts u)
    (λ p q r. same.targets p (omega arith, omega (arith, read_at a.firsts u, word-here a.firsts u)))
    ∙ ap (map (to g)) (same.lists u v)

pub query-refused : (a : ArrayForm) (u k : ℕ) → k ≡ array_number a u [] → (k ≡ 0 → ⊥) → [] ≡ queried a u
unfolding queried
query-refused a u k is h = refused (array_number a u []) (part_of a u) [] (λ e. h (is ∙ e))

-- The part that the code hands out.
pub query-part : (a : ArrayForm) (u : ℕ) → Asked a u → take (get_or a.firsts u 0 - 1 - (get_or a.firsts (u - 1) 0 - 1)) (drop (get_or a.firsts (u - 1) 0 - 1) a.tails) ≡ part_of a u
query-part a u q =
    let from : get_or a.firsts (u - 1) 0 ≡ at 0 a.firsts u = sym (read_at a.firsts u) in
    let many : get_or a.firsts u 0 - 1 - (get_or a.firsts (u - 1) 0 - 1) ≡ at 0 a.firsts (suc u) - at 0 a.firsts u = omega (arith, q.rises, q.vertex, from, word-here a.firsts u) in
    (λ i. take (many i) (drop (from i - 1) a.tails))

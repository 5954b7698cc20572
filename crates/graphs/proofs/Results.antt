-- The marks that a search leaves, kept store by store; the tally.
-- A label's store makes the filled area of one label more; a rank of 0 is an unlabelled vertex.
use Rattle.std.proofs.Common.{◌≡◌, refl, sym, ap, ◌∙◌, subst, ◌↔◌, Bool, true, false, cond, not, ◌&&◌, ◌||◌, List, [], ◌∷◌, ◌++◌, ℕ, suc, ◌+◌, ◌%◌, ◌≤◌, ◌<◌, arith, length, eqb, leb, le-leb, ne_eqb}
use borrow.Author.Tests.{lt-leb, eqb-false}
use Rattle.lists.specs.Members.{Mem, memb, cons_if}
use Rattle.lists.specs.Counts.{bump, rank}
use Rattle.lists.specs.Words.{at, put, filled}
use Rattle.lists.proofs.Tests.{or-true, or-none, and_none, and-unit, zero_test, Compared, equal, other, compare}
use Rattle.lists.proofs.Members.{memb-true, mem-memb, memb-of-not, memb-append}
use Rattle.lists.proofs.Counts.{rank-test, rank-none, rank_most}
use Rattle.lists.proofs.Words.{but, put-filled, at-filled, length-filled, cleared-filled, filled-same, refilled}
use Rattle.graphs.specs.Nodes.{Vertex}
use Rattle.graphs.specs.Events.{Kind, event, label, advance_tree, advance_nontree, retreat_nontree, retreat_tree, scan, traverse, History, ◌▸◌, known, labelled, named, same, count, scanned}
use Rattle.graphs.specs.Circles.{active}
use Rattle.graphs.specs.Refusals.{vertices_out, edges_out, vertex_out, after_out, tail_out, list_out, sound, search_number, array_number, array_search_number}
use Rattle.graphs.specs.Results.{blank_mark, unless_blank, marks_first, marks_left, active_mark, mark_now, marks_now, rest_mark, marks_rest}
use Rattle.graphs.specs.Claims.{TallyClaim, NoBlanksClaim}

-- ---- marks
-- A store for an element that is not on the blank changes the mark of that element alone.
put-unless : (before : List ℕ) (f g : ℕ → ℕ) (k : ℕ) (area : List ℕ) (u w : ℕ) → (Mem u before → ⊥) → ((x : ℕ) → but f u w x ≡ g x) → 0 < u → u ≤ k → put 0 (filled (unless_blank before f) k area) u w ≡ filled (unless_blank before g) k area
put-unless before f g k area u w off e p q =
    put-filled (unless_blank before f) k area u w p q
    ∙ filled-same (but (unless_blank before f) u w) (unless_blank before g) k area (λ x a b. go x (compare x u) (e x))
  where
    go : (x : ℕ) → Compared x u → but f u w x ≡ g x → but (unless_blank before f) u w x ≡ unless_blank before g x
    go x (equal z t) i = rw (t, memb-of-not x before (λ m. off (subst (λ (y : ℕ). Mem y before) z m))) (sym (ap (λ (b : Bool). cond b w (f x)) t) ∙ i)
    go x (other ne t) i = rw t (ap (cond (memb x before) blank_mark) (sym (ap (λ (b : Bool). cond b w (f x)) t) ∙ i))

-- What is asked of the mark of x: 65,535 is not 0, so elements on the blank count as labelled.
unless-test : (before : List ℕ) (f : ℕ → ℕ) (x : ℕ) (ls : List ℕ) → eqb (f x) 0 ≡ not (memb x ls) → eqb (unless_blank before f x) 0 ≡ not (memb x (ls ++ before))
unless-test before f x ls e = go (memb x before) e ∙ ap not (sym (memb-append x ls before))
  where
    go : (b : Bool) → eqb (f x) 0 ≡ not (memb x ls) → eqb (cond b blank_mark (f x)) 0 ≡ not (memb x ls || b)
    go true i = ap not (sym (or-true (memb x ls)))
    go false i = i ∙ ap not (sym (or-none (memb x ls)))

-- The mark of x reads 65,535 exactly where x is on the blank, where nothing else has that mark.
unless-blank : (before : List ℕ) (f : ℕ → ℕ) (k : ℕ) (area : List ℕ) (x : ℕ) → eqb (f x) blank_mark ≡ false → 0 < x → x ≤ k → (at 0 (filled (unless_blank before f) k area) x ≡ blank_mark) ↔ Mem x before
unless-blank before f k area x ne p q =
    let w : at 0 (filled (unless_blank before f) k area) x ≡ unless_blank before f x = at-filled (unless_blank before f) k area x p q in
    (λ e. on (memb x before) refl (sym w ∙ e), λ m. w ∙ ap (λ (b : Bool). cond b blank_mark (f x)) (mem-memb m))
  where
    on : (b : Bool) → memb x before ≡ b → cond b blank_mark (f x) ≡ blank_mark → Mem x before
    on true e i = memb-true x before e
    on false e i = absurd (eqb-false (f x) blank_mark ne i)

pub marks-first-blank : (k : ℕ) (before area : List ℕ) (x : ℕ) → 0 < x → x ≤ k → (at 0 (marks_first k before area) x ≡ blank_mark) ↔ Mem x before
marks-first-blank k before area x p q = unless-blank before (λ y. 0) k area x refl p q

pub marks-label : (k : ℕ) (before : List ℕ) (h : History) (area : List ℕ) (u : ℕ) → (Mem u before → ⊥) → 0 < u → u ≤ k → put 0 (marks_left k before h area) u (suc (length (labelled h))) ≡ marks_left k before (h ▸ event label 0 u) area
marks-label k before h area u off p q = put-unless before (λ x. rank x (labelled h)) (λ x. rank x (u ∷ labelled h)) k area u (suc (length (labelled h))) off (λ x. refl) p q

pub marks-first : (k : ℕ) (before area : List ℕ) (u : ℕ) → (Mem u before → ⊥) → 0 < u → u ≤ k → put 0 (marks_first k before area) u 1 ≡ marks_left k before ([] ▸ event label 0 u) area
marks-first k before area u off p q = put-unless before (λ x. 0) (λ x. rank x (u ∷ [])) k area u 1 off (λ x. refl) p q

pub marks-test : (k : ℕ) (before : List ℕ) (h : History) (area : List ℕ) (x : ℕ) → 0 < x → x ≤ k → eqb (at 0 (marks_left k before h area) x) 0 ≡ not (memb x (known before h))
marks-test k before h area x p q = ap (λ (w : ℕ). eqb w 0) (at-filled (unless_blank before (λ y. rank y (labelled h))) k area x p q) ∙ unless-test before (λ y. rank y (labelled h)) x (labelled h) (rank-test x (labelled h))

pub marks_length : (k : ℕ) (before : List ℕ) (h : History) (area : List ℕ) → k ≤ length area → length (marks_left k before h area) ≡ length area
marks_length k before h area p = length-filled (unless_blank before (λ x. rank x (labelled h))) k area p

-- ---- marks while a folded walk is under way
-- An element labelled now is not yet scanned.
pub marks-now-label : (k : ℕ) (before : List ℕ) (h : History) (area : List ℕ) (u : ℕ) → (Mem u before → ⊥) → (Mem u (scanned h) → ⊥) → 0 < u → u ≤ k
    → put 0 (marks_now k before h area) u (active_mark + suc (length (labelled h))) ≡ marks_now k before (h ▸ event label 0 u) area
marks-now-label k before h area u off new p q = put-unless before (mark_now h) (mark_now (h ▸ event label 0 u)) k area u (active_mark + suc (length (labelled h))) off (λ x. go x (compare x u)) p q
  where
    go : (x : ℕ) → Compared x u → but (mark_now h) u (active_mark + suc (length (labelled h))) x ≡ mark_now (h ▸ event label 0 u) x
    go x (equal e t) = rw (t, memb-of-not x (scanned h) (λ m. new (subst (λ (y : ℕ). Mem y (scanned h)) e m)))
    go x (other ne t) = rw t

pub marks-now-first : (k : ℕ) (before area : List ℕ) (u : ℕ) → (Mem u before → ⊥) → 0 < u → u ≤ k → put 0 (marks_first k before area) u (active_mark + 1) ≡ marks_now k before ([] ▸ event label 0 u) area
marks-now-first k before area u off p q = put-unless before (λ x. 0) (mark_now ([] ▸ event label 0 u)) k area u (active_mark + 1) off (λ x. go x (eqb x u) refl) p q
  where
    go : (x : ℕ) (b : Bool) → eqb x u ≡ b → but (λ y. 0) u (active_mark + 1) x ≡ mark_now ([] ▸ event label 0 u) x
    go x true t = rw t
    go x false t = rw t

-- A mark is 0 exactly where the vertex is unlabelled and not on the blank.
pub marks-now-test : (k : ℕ) (before : List ℕ) (h : History) (area : List ℕ) (x : ℕ) → 0 < x → x ≤ k → eqb (at 0 (marks_now k before h area) x) 0 ≡ not (memb x (known before h))
marks-now-test k before h area x p q =
    ap (λ (w : ℕ). eqb w 0) (at-filled (unless_blank before (mark_now h)) k area x p q)
    ∙ unless-test before (mark_now h) x (labelled h) (go (memb x (labelled h)) (memb x (scanned h)) (rank-test x (labelled h)))
  where
    go : (a b : Bool) → eqb (rank x (labelled h)) 0 ≡ not a → eqb (cond (a && not b) (active_mark + rank x (labelled h)) (rank x (labelled h))) 0 ≡ not a
    go true true e = e
    go true false e = zero_test (active_mark + rank x (labelled h)) (omega arith)
    go false b e = e

-- The marks of up to 1,000 elements labelled are below 65,535.
module _ (k : ℕ) (before : List ℕ) (h : History) (area : List ℕ) (few : length (labelled h) ≤ 1000) where
  mark-below : (x : ℕ) (b : Bool) → cond b (active_mark + rank x (labelled h)) (rank x (labelled h)) < blank_mark
  mark-below x true = omega (arith, rank_most x (labelled h))
  mark-below x false = omega (arith, rank_most x (labelled h))

  mark-not-blank : (x : ℕ) → eqb (mark_now h x) blank_mark ≡ false
  mark-not-blank x = ne_eqb (mark_now h x) blank_mark (λ e. (let z : mark_now h x ≡ 65535 = e in let l : mark_now h x < 65535 = mark-below x (active x h) in omega arith))

  pub marks-now-blank : (x : ℕ) → 0 < x → x ≤ k → (at 0 (marks_now k before h area) x ≡ blank_mark) ↔ Mem x before
  marks-now-blank x p q = unless-blank before (mark_now h) k area x (mark-not-blank x) p q

  -- A mark of 32,768 or more, but not 65,535, is one of a vertex labelled and not yet scanned.
  pub marks-now-active : (x : ℕ) → (Mem x before → Mem x (labelled h) → ⊥) → 0 < x → x ≤ k → (leb active_mark (at 0 (marks_now k before h area) x) && not (eqb (at 0 (marks_now k before h area) x) blank_mark)) ≡ active x h
  marks-now-active x apart p q = ap (λ (w : ℕ). leb active_mark w && not (eqb w blank_mark)) (at-filled (unless_blank before (mark_now h)) k area x p q) ∙ go (memb x before) refl
    where
      number : (b : Bool) → leb active_mark (cond b (active_mark + rank x (labelled h)) (rank x (labelled h))) ≡ b
      number true = le-leb active_mark (active_mark + rank x (labelled h)) (omega arith)
      number false = lt-leb active_mark (rank x (labelled h)) (omega (arith, rank_most x (labelled h)))

      go : (b : Bool) → memb x before ≡ b → (leb active_mark (cond b blank_mark (mark_now h x)) && not (eqb (cond b blank_mark (mark_now h x)) blank_mark)) ≡ active x h
      go true e = sym (ap (λ (z : Bool). z && not (memb x (scanned h))) (memb-of-not x (labelled h) (apart (memb-true x before e))))
      go false e = (λ i. number (active x h) i && not (mark-not-blank x i)) ∙ and-unit (active x h)

  -- A scan leaves the number.
  pub marks-now-scan : (v : ℕ) → (Mem v before → ⊥) → 0 < v → v ≤ k → put 0 (marks_now k before h area) v (at 0 (marks_now k before h area) v % active_mark) ≡ marks_now k before (h ▸ event scan 0 v) area
  marks-now-scan v off p q =
      ap (λ (w : ℕ). put 0 (marks_now k before h area) v (w % active_mark)) (at-filled (unless_blank before (mark_now h)) k area v p q ∙ ap (λ (b : Bool). cond b blank_mark (mark_now h v)) (memb-of-not v before off))
      ∙ put-unless before (mark_now h) (mark_now (h ▸ event scan 0 v)) k area v (mark_now h v % active_mark) off (λ x. go x (compare x v)) p q
    where
      number : (b : Bool) → cond b (active_mark + rank v (labelled h)) (rank v (labelled h)) % active_mark ≡ rank v (labelled h)
      number true = omega (arith, rank_most v (labelled h))
      number false = omega (arith, rank_most v (labelled h))

      go : (x : ℕ) → Compared x v → but (mark_now h) v (mark_now h v % active_mark) x ≡ mark_now (h ▸ event scan 0 v) x
      go x (equal e t) = rw (t, and_none (memb x (labelled h))) (number (active v h) ∙ ap (λ (y : ℕ). rank y (labelled h)) (sym e))
      go x (other ne t) = rw t

-- The end of a roll-back restores 65,535 where it stood and 0 elsewhere.
pub marks-now-rest : (n m : ℕ) (before : List ℕ) (h : History) (area : List ℕ) → length (labelled h) ≤ 1000 → ((x : ℕ) → Mem x (labelled h) → Vertex n x) → marks_rest n (marks_now (n + m) before h area) ≡ marks_first (n + m) before area
marks-now-rest n m before h area few v =
    refilled (unless_blank before (mark_now h)) (λ x. rest_mark (at 0 (marks_now (n + m) before h area) x)) (unless_blank before (λ x. 0)) n m area
    (λ x p q. ap rest_mark (at-filled (unless_blank before (mark_now h)) (n + m) area x p (omega arith)) ∙ low x (memb x before))
    (λ x p q. high x (memb x before) (λ e. (let w = v x e in omega arith)))
  where
    low : (x : ℕ) (b : Bool) → rest_mark (cond b blank_mark (mark_now h x)) ≡ cond b blank_mark 0
    low x true = refl
    low x false = ap (λ (b : Bool). cond b blank_mark 0) (mark-not-blank (n + m) before h area few x)

    high : (x : ℕ) (b : Bool) → (Mem x (labelled h) → ⊥) → cond b blank_mark (mark_now h x) ≡ cond b blank_mark 0
    high x true ne = refl
    high x false ne = rw (memb-of-not x (labelled h) ne) (rank-none x (labelled h) ne)

pub marks-now-length : (k : ℕ) (before : List ℕ) (h : History) (area : List ℕ) → k ≤ length area → length (marks_now k before h area) ≡ length area
marks-now-length k before h area p = length-filled (unless_blank before (mark_now h)) k area p

-- Where all that is labelled is scanned, the marks are the numbers.
pub marks-now-end : (k : ℕ) (before : List ℕ) (h : History) (area : List ℕ) → ((x : ℕ) → Mem x (labelled h) → Mem x (scanned h)) → marks_now k before h area ≡ marks_left k before h area
marks-now-end k before h area all = filled-same (unless_blank before (mark_now h)) (unless_blank before (λ x. rank x (labelled h))) k area (λ x p q. ap (cond (memb x before) blank_mark) (go x (memb x (labelled h)) refl))
  where
    go : (x : ℕ) (b : Bool) → memb x (labelled h) ≡ b → mark_now h x ≡ rank x (labelled h)
    go x true e = rw (e, mem-memb (all x (memb-true x (labelled h) e)))
    go x false e = rw e

-- ---- no element on the blank
pub no-blanks : NoBlanksClaim
unfolding sound search_number array_number array_search_number
no-blanks = record {
  searches = λ g start areas. refl;
  array_searches = λ a start areas. refl;
  sounds = λ g start. ap (λ (b : Bool). not (vertices_out g.n || (edges_out g.m || (vertex_out g.n start || (after_out g || (tail_out g.n g.m g.tail || b)))))) (or-none (list_out g));
  first = λ k area. sym (cleared-filled k area);
  marks = λ k h area. refl;
}

-- ---- counts
pub named-length : (k : Kind) (h : History) → length (named k h) ≡ count k h
named-length k [] = refl
named-length k (event j r u ∷ h) = go (same k j) (named-length k h)
  where
    go : (b : Bool) → length (named k h) ≡ count k h → length (cons_if b u (named k h)) ≡ bump b (count k h)
    go true e = ap suc e
    go false e = e

pub tally-sums : TallyClaim
tally-sums [] = refl
tally-sums (event label r u ∷ h) = let e = tally-sums h in omega arith
tally-sums (event advance_tree r u ∷ h) = let e = tally-sums h in omega arith
tally-sums (event advance_nontree r u ∷ h) = let e = tally-sums h in omega arith
tally-sums (event retreat_nontree r u ∷ h) = let e = tally-sums h in omega arith
tally-sums (event retreat_tree r u ∷ h) = let e = tally-sums h in omega arith
tally-sums (event scan r u ∷ h) = let e = tally-sums h in omega arith
tally-sums (event traverse r u ∷ h) = let e = tally-sums h in omega arith

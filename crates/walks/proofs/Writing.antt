-- What a walk has written, kept event by event.
-- The areas and the tally are functions of the events so far, so an event more is a law of those functions.
use Rattle.std.proofs.Common.{◌≡◌, refl, sym, ap, ◌∙◌, Bool, true, false, not, cond, List, [], ◌∷◌, reverse, ℕ, suc, ◌+◌, ◌-◌, ◌*◌, ◌≤◌, ◌<◌, arith, eqb, le-leb, length, get_or, set}
use Rattle.lists.specs.Members.{Mem, memb, cons_if}
use Rattle.lists.specs.Counts.{rank}
use Rattle.lists.specs.Words.{at, put, pasted, filled}
use Rattle.lists.proofs.Tests.{and-true}
use Rattle.lists.proofs.Words.{length-filled, length-overlay}
use Rattle.graphs.specs.Events.{Kind, event, label, advance_tree, advance_nontree, retreat_tree, retreat_nontree, scan, traverse, code, words, same, History, ◌▸◌, known, labelled, tally}
use Rattle.graphs.specs.Results.{unless_blank, marks_first}
use Rattle.graphs.proofs.Results.{marks-label, marks-test, marks_length, named-length, tally-sums}
use Rattle.walks.specs.Writing.{no_events, total, counted, has_room, tally_after, events_after, can_label, label_tally, label_marks, label_events, blanks_marked, Held, Roomy}
use Rattle.walks.proofs.Storing.{all_first}
use Rattle.walks.proofs.Events.{words-many, events-next}

-- ---- one event more
-- It is counted.
tally-next : (h : History) (j : Kind) (r u : ℕ) → set (tally h) (code j - 1) (suc (get_or (tally h) (code j - 1) 0)) ≡ tally (h ▸ event j r u)
tally-next h label r u = refl
tally-next h advance_tree r u = refl
tally-next h advance_nontree r u = refl
tally-next h retreat_nontree r u = refl
tally-next h retreat_tree r u = refl
tally-next h scan r u = refl
tally-next h traverse r u = refl

code-low : (j : Kind) → (1 ≤ code j) × (code j ≤ 7)
code-low label = (omega arith, omega arith)
code-low advance_tree = (omega arith, omega arith)
code-low advance_nontree = (omega arith, omega arith)
code-low retreat_nontree = (omega arith, omega arith)
code-low retreat_tree = (omega arith, omega arith)
code-low scan = (omega arith, omega arith)
code-low traverse = (omega arith, omega arith)

-- ---- what is held
module _ {k : ℕ} {before : List ℕ} {h : History} {marks₀ events₀ marks events t : List ℕ} (H : Held k before h marks₀ events₀ marks events t) where
  -- As many events are tallied as there are.
  pub held-total : total t ≡ length h
  held-total = ap total H.counts ∙ tally-sums h

  -- The first count is the number of vertices labelled.
  pub held-labels : get_or t 0 0 ≡ length (labelled h)
  held-labels = ap (λ (l : List ℕ). get_or l 0 0) H.counts ∙ sym (named-length label h)

  -- A mark of 0 is a node neither labelled nor on the blank.
  pub held_test : (x : ℕ) → 0 < x → x ≤ k → eqb (at 0 marks x) 0 ≡ not (memb x (known before h))
  held_test x a b = ap (λ (l : List ℕ). eqb (at 0 l x) 0) H.marked ∙ marks-test k before h marks₀ x a b

  -- With room for one event more.
  module _ {all : History} (R : Roomy k all marks₀ events₀) where
    -- The areas keep their lengths.
    pub held-lengths : length h ≤ length all → (length marks ≡ length marks₀) × (length events ≡ length events₀)
    held-lengths l = (
      ap length H.marked ∙ marks_length k before h marks₀ R.long_marks,
      ap length H.written ∙ length-overlay (words (reverse h)) events₀ (omega (arith, words-many h, R.room)),
    )

    -- One event more has room.
    pub can-emit : suc (length h) ≤ length all → (j : Kind) → has_room (code j) t (length events) ≡ true
    can-emit l j =
        let e = held-lengths (omega arith) in
        let w = held-total in
        and-true (le-leb 1 (code j) (code-low j).0)
        (and-true (le-leb (code j) 7 (code-low j).1)
        (and-true (le-leb (total t) 10000 (omega (arith, R.few))) (le-leb (3 * total t + 3) (length events) (omega (arith, R.room, e.1)))))

    pub can-label : suc (length h) ≤ length all → (u : ℕ) → 0 < u → u ≤ k → can_label u t (length marks) (length events) ≡ true
    can-label l u a b = let e = held-lengths (omega arith) in and-true (le-leb 1 u a) (and-true (le-leb u (length marks) (omega (arith, R.long_marks, e.0))) (can-emit l label))

    words-held : 3 * total t ≡ 3 * length h
    words-held = ap (λ (c : ℕ). 3 * c) held-total

    -- An event that labels nothing.
    pub held-emit : suc (length h) ≤ length all → (j : Kind) (r u : ℕ) → same label j ≡ false
        → Held k before (h ▸ event j r u) marks₀ events₀ marks (pasted (3 * total t) (code j ∷ r ∷ u ∷ []) events) (counted (code j) t)
    held-emit l j r u q = record {
      marked = H.marked ∙ ap (λ (b : Bool). filled (unless_blank before (λ x. rank x (cons_if b u (labelled h)))) k marks₀) (sym q);
      written = (λ i. pasted (words-held i) (code j ∷ r ∷ u ∷ []) (H.written i)) ∙ events-next h events₀ j r u (omega (arith, R.room));
      counts = ap (counted (code j)) H.counts ∙ tally-next h j r u;
    }

    -- A label.
    pub held-label : suc (length h) ≤ length all → (u : ℕ) → (Mem u before → ⊥) → 0 < u → u ≤ k
        → Held k before (h ▸ event label 0 u) marks₀ events₀ (put 0 marks u (suc (get_or t 0 0))) (pasted (3 * total t) (1 ∷ 0 ∷ u ∷ []) events) (counted 1 t)
    held-label l u off a b = record {
      marked = (λ i. put 0 (H.marked i) u (suc (held-labels i))) ∙ marks-label k before h marks₀ u off a b;
      written = (λ i. pasted (words-held i) (1 ∷ 0 ∷ u ∷ []) (H.written i)) ∙ events-next h events₀ label 0 u (omega (arith, R.room));
      counts = ap (counted 1) H.counts ∙ tally-next h label 0 u;
    }

-- Nothing emitted, in the marks first.
pub held_none : (k : ℕ) (before marks₀ events : List ℕ) → Held k before [] marks₀ events (marks_first k before marks₀) events no_events
held_none k before marks₀ events = record { marked = refl; written = refl; counts = refl }

-- ---- what the functions that write ensure
-- An event written and counted; u labelled besides; all marks first and the start labelled.
abbrev pub Emits : ℕ → ℕ → ℕ → (events t events' t' : List ℕ) → Type 0
Emits k r u events t events' t' = (t' ≡ tally_after k t (length events)) × (events' ≡ events_after k r u t events)

abbrev pub Puts : ℕ → (marks events t marks' events' t' : List ℕ) → Type 0
Puts u marks events t marks' events' t' = (t' ≡ label_tally u t (length marks) (length events)) × ((marks' ≡ label_marks u t marks (length events)) × (events' ≡ label_events u t (length marks) events))

abbrev pub Starts : ℕ → List ℕ → ℕ → (marks events marks' events' t' : List ℕ) → Type 0
Starts nodes before start marks events marks' events' t' =
    (t' ≡ label_tally start no_events (length marks) (length events))
    × ((marks' ≡ label_marks start no_events (blanks_marked nodes before marks) (length events)) × (events' ≡ label_events start no_events (length marks) events))

-- What is held after such a call, where there is room.
module _ {k : ℕ} {before : List ℕ} {h all : History} {marks₀ events₀ marks events t events' t' : List ℕ} (H : Held k before h marks₀ events₀ marks events t) (R : Roomy k all marks₀ events₀) (l : suc (length h) ≤ length all) where
  pub emitted : (j : Kind) (r u : ℕ) → same label j ≡ false → Emits (code j) r u events t events' t' → Held k before (h ▸ event j r u) marks₀ events₀ marks events' t'
  emitted j r u q e =
      let E = held-emit H R l j r u q in
      let c = can-emit H R l j in
      record {
        marked = E.marked;
        written = e.1 ∙ ap (λ (b : Bool). cond b (pasted (3 * total t) (code j ∷ r ∷ u ∷ []) events) events) c ∙ E.written;
        counts = e.0 ∙ ap (λ (b : Bool). cond b (counted (code j) t) t) c ∙ E.counts;
      }

  pub labelling : {marks' : List ℕ} (u : ℕ) → (Mem u before → ⊥) → 0 < u → u ≤ k → Puts u marks events t marks' events' t' → Held k before (h ▸ event label 0 u) marks₀ events₀ marks' events' t'
  labelling u off p q e =
      let E = held-label H R l u off p q in
      let c = can-label H R l u p q in
      record {
        marked = e.1.0 ∙ ap (λ (b : Bool). cond b (put 0 marks u (suc (get_or t 0 0))) marks) c ∙ E.marked;
        written = e.1.1 ∙ ap (λ (b : Bool). cond b (pasted (3 * total t) (1 ∷ 0 ∷ u ∷ []) events) events) c ∙ E.written;
        counts = e.0 ∙ ap (λ (b : Bool). cond b (counted 1 t) t) c ∙ E.counts;
      }

-- The start labelled.
pub beginning : {k : ℕ} {before : List ℕ} {all : History} {marks₀ events₀ marks events t : List ℕ} → Roomy k all marks₀ events₀ → 1 ≤ length all → (start : ℕ) → (Mem start before → ⊥) → 0 < start → start ≤ k → Starts k before start marks₀ events₀ marks events t → Held k before ([] ▸ event label 0 start) marks₀ events₀ marks events t
beginning {k} {before} {all} {marks₀} {events₀} R l start off a b w =
    let N = held_none k before marks₀ events₀ in
    let c : blanks_marked k before marks₀ ≡ marks_first k before marks₀ = all_first k before marks₀ R.long_marks in
    let n : length (marks_first k before marks₀) ≡ length marks₀ = length-filled (unless_blank before (λ x. 0)) k marks₀ R.long_marks in
    labelling N R l start off a b (
      w.0 ∙ ap (λ (i : ℕ). label_tally start no_events i (length events₀)) (sym n),
      (w.1.0 ∙ ap (λ (m : List ℕ). label_marks start no_events m (length events₀)) c, w.1.1 ∙ ap (λ (i : ℕ). label_events start no_events i events₀) (sym n)),
    )

-- The steps back, as they are stored: an edge put back, a scan ended, a vertex left while rolling back.
-- A step fits by the tests of the words that it reads, and then what is stored is what the step leaves.
use Rattle.std.proofs.Common.{◌≡◌, refl, sym, ap, ◌∙◌, ◌≢◌, Bool, true, false, cond, ◌&&◌, List, [], ◌∷◌, ◌++◌, ℕ, suc, ◌+◌, ◌-◌, ◌*◌, ◌≤◌, ◌<◌, arith, eqb, Option, Some, None, length, get_or, set, take, drop, take-append-drop, eq-eqb, ne_eqb, le-leb}
use Rattle.std.proofs.lemmas.Option.{none-some, cond_some}
use Rattle.std.proofs.lemmas.List.{length-take, get_or-take}
use borrow.Author.Tests.{lt-leb}
use Rattle.lists.specs.Words.{at, put, pasted, filled}
use Rattle.lists.proofs.Words.{read_past, pasted-none, at_other, read_at, filled_next, filled-ahead, filled-same, filled-behind, take-filled}
use Rattle.lists.proofs.Tests.{and-true, both}
use Rattle.graphs.specs.Nodes.{is_edge, is_link, is_node}
use Rattle.graphs.specs.Results.{rest_mark, marks_rest}
use Rattle.graphs.proofs.Nodes.{edge-is}
use Rattle.folding.specs.Machine.{Config, relink, retreat, finish, undo_tree, undo_open, rolling_back, relinked, scanned_marks, target, closed, upward, fits, enact}
use Rattle.folded.specs.Steps.{Attempt, out, made, trying, upward_in}
use Rattle.folded.proofs.Stores.{store-past, unfit-left, fit-made}

-- ---- marks
-- At the end of a roll-back: the first i marks are done.
pub record Resting (i : ℕ) (marks left : List ℕ) : Type 0 where
  pub so_far : left ≡ marks_rest i marks
  pub within : i ≤ length marks

rest-next : (marks : List ℕ) (i : ℕ) → i < length marks → set (marks_rest i marks) i (rest_mark (get_or (marks_rest i marks) i 0)) ≡ marks_rest (i + 1) marks
rest-next marks i h =
    let f : ℕ → ℕ = λ x. rest_mark (at 0 marks x) in
    let s : suc i - 1 ≡ i = omega arith in
    let n : suc i ≡ i + 1 = omega arith in
    let word : get_or (marks_rest i marks) i 0 ≡ at 0 marks (suc i) = filled-ahead f i marks h ∙ sym (read_at marks (suc i) ∙ ap (λ (j : ℕ). get_or marks j 0) s) in
    ap (λ (x : ℕ). set (marks_rest i marks) i (rest_mark x)) word ∙ filled_next f i marks h ∙ ap (λ (k : ℕ). marks_rest k marks) n

pub rest_more : {i : ℕ} {marks left : List ℕ} → Resting i marks left → i < length marks → {mark : ℕ} → mark ≡ rest_mark (get_or left i 0) → Resting (i + 1) marks (set left i mark)
rest_more {i} {marks} {left} R h e = record {
  so_far = ap (set left i) e ∙ ap (λ (l : List ℕ). set l i (rest_mark (get_or l i 0))) R.so_far ∙ rest-next marks i h;
  within = omega arith;
}

-- The first n marks done by themselves, with the others behind them.
rest-behind : (marks : List ℕ) (n : ℕ) → marks_rest n (take n marks) ++ drop n marks ≡ marks_rest n marks
rest-behind marks n =
    let f : ℕ → ℕ = λ x. rest_mark (at 0 marks x) in
    let z : n + 0 ≡ n = omega arith in
    ap (λ (l : List ℕ). l ++ drop n marks)
    (filled-same (λ x. rest_mark (at 0 (take n marks) x)) f n (take n marks) (λ x p q. ap rest_mark (read_at (take n marks) x ∙ get_or-take n marks (x - 1) 0 (omega arith) ∙ sym (read_at marks x)))
    ∙ ap (λ (j : ℕ). filled f n (take j marks)) (sym z) ∙ sym (take-filled f n 0 marks) ∙ ap (λ (j : ℕ). take j (filled f n marks)) z)
    ∙ (λ i. take n (filled f n marks) ++ sym (filled-behind f n marks) i)
    ∙ take-append-drop n (filled f n marks)

pub rest_all : (n : ℕ) (marks : List ℕ) {i : ℕ} {left : List ℕ} → Resting i (take n marks) left → n ≤ length marks → length (take n marks) ≤ i → left ++ drop n marks ≡ marks_rest n marks
rest_all n marks {i} R h q =
    let e : i ≡ n = omega (arith, R.within, length-take n marks) in
    ap (λ (l : List ℕ). l ++ drop n marks) (R.so_far ∙ ap (λ (k : ℕ). marks_rest k (take n marks)) e) ∙ rest-behind marks n

-- ---- tests
fails-first : {a : Bool} (b : Bool) → a ≡ false → (a && b) ≡ false
fails-first b e = ap (λ (c : Bool). c && b) e

fails-second : (a : Bool) {b : Bool} → b ≡ false → (a && b) ≡ false
fails-second true e = e
fails-second false e = refl

-- Two tests that do not both pass do not pass with a third.
fails-third : (a b c : Bool) → (a && b) ≡ false → (a && (b && c)) ≡ false
fails-third true b c e = fails-first c e
fails-third false b c e = refl

-- ---- the tree edge into v
-- r is an edge, and its tail word can be a trailer.
abbrev leads_up : Config → ℕ → Bool
leads_up w r = is_edge w.n w.m r && is_node w.n w.m (target w r)

-- r where it is, and else none.
abbrev edge_if : Bool → ℕ → Option ℕ
edge_if b r = cond b (Some r) None

-- a(f) by the tests, as the code makes them.
module _ (w : Config) {r : ℕ} (e : r ≡ upward w) where
  by-test : {b : Bool} → leads_up w r ≡ b → edge_if b r ≡ upward_in w
  by-test h = ap (λ (b : Bool). edge_if b r) (sym h) ∙ ap (λ (x : ℕ). edge_if (leads_up w x) x) e

  pub no_edge : is_edge w.n w.m r ≡ false → None ≡ upward_in w
  no_edge h = by-test (fails-first (is_node w.n w.m (target w r)) h)

  pub no-trailer : w.n + w.m < get_or w.tail (r - w.n - 1) 0 → None ≡ upward_in w
  no-trailer h = by-test (fails-second (is_edge w.n w.m r) (ap (is_node w.n w.m) (read_past w.n w.tail r) ∙ lt-leb (get_or w.tail (r - w.n - 1) 0) (w.n + w.m) h))

  pub edge-upward : is_edge w.n w.m r ≡ true → get_or w.tail (r - w.n - 1) 0 ≤ w.n + w.m → Some r ≡ upward_in w
  edge-upward h q = by-test (and-true h (ap (is_node w.n w.m) (read_past w.n w.tail r) ∙ le-leb (get_or w.tail (r - w.n - 1) 0) (w.n + w.m) q))

-- r is a(f), an edge, and its tail word can be a trailer.
pub record Upward (w : Config) (r : ℕ) : Type 0 where
  pub read : r ≡ upward w
  pub low : w.n < r
  pub edge : is_edge w.n w.m (upward w) ≡ true
  pub trailer : is_node w.n w.m (target w (upward w)) ≡ true

-- It is, where one is read; and where none is, the tests fail.
module _ (w : Config) where
  pub upward-is : {r : ℕ} → Some r ≡ upward_in w → Upward w r
  upward-is {r} e =
      let (t, q) = cond_some (leads_up w (upward w)) (upward w) r (sym e) in
      let z = both (is_edge w.n w.m (upward w)) (is_node w.n w.m (target w (upward w))) t in
      let x = edge-is w.n w.m (upward w) z.0 in
      record { read = sym q; low = omega (arith, x.0); edge = z.0; trailer = z.1 }

  no-upward : None ≡ upward_in w → leads_up w (upward w) ≡ false
  no-upward e = go (leads_up w (upward w)) e
    where
      go : (b : Bool) → None ≡ edge_if b (upward w) → b ≡ false
      go true q = absurd (none-some (upward w) q)
      go false q = refl

-- ---- the steps tried
-- What a step stores, with the sizes, the start and the counts as they are; and a step made, with k events in the area.
abbrev pub stored : Config → (v e f phase : ℕ) → (after tail marks : List ℕ) → Config
stored w v e f phase after tail marks = record { n = w.n; m = w.m; start = w.start; v = v; e = e; f = f; phase = phase; next = w.next; circular = w.circular; after = after; tail = tail; marks = marks }

abbrev pub done : Config → ℕ → List ℕ → Attempt
done w k area = record { fit = true; config = w; count = k; area = area }

module _ (w : Config) (k : ℕ) (area : List ℕ) where
  -- No event leaves the area as it is.
  silent : (x : Config) → done x k area ≡ made (record { config = x; events = [] }) k area
  silent x = let z : k ≡ k + 0 = omega arith in λ i. done x (z i) (sym (pasted-none (3 * k) area) i)

  -- An edge put back: unless a(f) is no node, e, f, a(f) become f, a(f), e.
  pub relink-out : w.n + w.m < get_or w.after (w.f - 1) 0 → out w k area ≡ trying w relink k area
  unfolding fits at
  relink-out h = sym (unfit-left w relink k area (lt-leb (get_or w.after (w.f - 1) 0) (w.n + w.m) h))

  pub relink-made : {phase : ℕ} → phase ≡ relinked (eqb w.phase rolling_back) → get_or w.after (w.f - 1) 0 ≤ w.n + w.m
      → done (stored w w.v w.f (get_or w.after (w.f - 1) 0) phase (set w.after (w.f - 1) w.e) w.tail w.marks) k area ≡ trying w relink k area
  unfolding fits enact at put
  relink-made p h =
      ap (λ (x : ℕ). done (stored w w.v w.f (get_or w.after (w.f - 1) 0) x (set w.after (w.f - 1) w.e) w.tail w.marks) k area) p
      ∙ silent (enact w relink).config
      ∙ sym (fit-made w relink k area (le-leb (get_or w.after (w.f - 1) 0) (w.n + w.m) h))

  -- The scan of the start ended: unless v is another.
  pub finish-out : w.v ≢ w.start → out w k area ≡ trying w finish k area
  unfolding fits
  finish-out h = sym (unfit-left w finish k area (ne_eqb w.v w.start h))

  pub finish-made : {left marks : List ℕ} → w.v ≡ w.start → marks ≡ scanned_marks w → left ≡ pasted (3 * k) (6 ∷ 0 ∷ w.v ∷ []) area → done (stored w w.v w.e w.f 3 (set w.after (w.v - 1) w.e) w.tail marks) (k + 1) left ≡ trying w finish k area
  unfolding fits enact put
  finish-made h q p = (λ i. done (stored w w.v w.e w.f 3 (closed w) w.tail (q i)) (k + 1) (p i)) ∙ sym (fit-made w finish k area (eq-eqb w.v w.start h))

  -- The start left: the marks of the vertices become 0, but 65,535 stays.
  pub undo-open-out : w.v ≢ w.start → out w k area ≡ trying w undo_open k area
  unfolding fits
  undo-open-out h = sym (unfit-left w undo_open k area (ne_eqb w.v w.start h))

  pub undo-open-made : {left : List ℕ} → w.v ≡ w.start → left ≡ marks_rest w.n w.marks
      → done (stored w w.v w.e w.f 5 (set w.after (w.v - 1) w.e) w.tail left) k area ≡ trying w undo_open k area
  unfolding fits enact put
  undo-open-made h p =
      ap (λ (x : List ℕ). done (stored w w.v w.e w.f 5 (set w.after (w.v - 1) w.e) w.tail x) k area) p
      ∙ silent (enact w undo_open).config
      ∙ sym (fit-made w undo_open k area (eq-eqb w.v w.start h))

  -- Along the tree edge into v, unless there is none.
  pub undo-tree-out : None ≡ upward_in w → out w k area ≡ trying w undo_tree k area
  unfolding fits
  undo-tree-out e = sym (unfit-left w undo_tree k area (no-upward w e))

  pub retreat-out : None ≡ upward_in w → out w k area ≡ trying w retreat k area
  unfolding fits
  retreat-out e = sym (unfit-left w retreat k area (fails-third (is_edge w.n w.m (upward w)) (is_node w.n w.m (target w (upward w))) (is_link w.n w.m (at 0 (closed w) (upward w))) (no-upward w e)))

  module _ {r : ℕ} where
    -- v left, rolling back.
    pub undo-tree-made : Upward w r → done (stored w w.f r (get_or w.tail (r - w.n - 1) 0) w.phase (set w.after (w.v - 1) w.e) (set w.tail (r - w.n - 1) w.v) w.marks) k area ≡ trying w undo_tree k area
    unfolding fits enact put
    undo-tree-made U =
        let word = sym (read_past w.n w.tail r) in
        let shut = store-past w.n w.tail r w.v in
        (λ i. done (stored w w.f r (word i) w.phase (closed w) (shut i) w.marks) k area)
        ∙ ap (λ (x : ℕ). done (stored w w.f x (target w x) w.phase (closed w) (put w.n w.tail x w.v) w.marks) k area) U.read
        ∙ silent (enact w undo_tree).config
        ∙ sym (fit-made w undo_tree k area (and-true U.edge U.trailer))

    -- The scan of v ended, which reads a(r) besides. The store into a(v) leaves a(r).
    module _ (U : Upward w r) (low : 0 < w.v) (high : w.v ≤ w.n) where
      link-read : get_or w.after (r - 1) 0 ≡ at 0 (closed w) r
      unfolding at
      link-read = let a = U.low in sym (at_other 0 w.after w.v r w.e low (omega arith) (λ e. let z : r ≡ w.v = e in omega arith))

      pub retreat-barred : is_link w.n w.m (get_or w.after (r - 1) 0) ≡ false → out w k area ≡ trying w retreat k area
      unfolding fits
      retreat-barred h =
          let no = ap (λ (x : ℕ). is_link w.n w.m (at 0 (closed w) x)) (sym U.read) ∙ ap (is_link w.n w.m) (sym link-read) ∙ h in
          sym (unfit-left w retreat k area (fails-second (is_edge w.n w.m (upward w)) (fails-second (is_node w.n w.m (target w (upward w))) no)))

      pub retreat-made : {left marks : List ℕ} → is_link w.n w.m (get_or w.after (r - 1) 0) ≡ true → marks ≡ scanned_marks w → left ≡ pasted (3 * k) (6 ∷ 0 ∷ w.v ∷ 5 ∷ r ∷ w.f ∷ []) area
          → done (stored w w.f (get_or w.after (r - 1) 0) r 1 (set (set w.after (w.v - 1) w.e) (r - 1) (get_or w.tail (r - w.n - 1) 0)) (set w.tail (r - w.n - 1) w.v) marks) (k + 2) left ≡ trying w retreat k area
      unfolding fits enact put
      retreat-made h q p =
          let word = sym (read_past w.n w.tail r) in
          let shut = store-past w.n w.tail r w.v in
          let linked = ap (λ (x : ℕ). is_link w.n w.m (at 0 (closed w) x)) (sym U.read) ∙ ap (is_link w.n w.m) (sym link-read) ∙ h in
          (λ i. done (stored w w.f (link-read i) r 1 (put 0 (closed w) r (word i)) (shut i) (q i)) (k + 2) (p i))
          ∙ ap (λ (x : ℕ). done (stored w w.f (at 0 (closed w) x) x 1 (put 0 (closed w) x (target w x)) (put w.n w.tail x w.v) (scanned_marks w)) (k + 2) (pasted (3 * k) (6 ∷ 0 ∷ w.v ∷ 5 ∷ x ∷ w.f ∷ []) area)) U.read
          ∙ sym (fit-made w retreat k area (and-true U.edge (and-true U.trailer linked)))

-- What the steps forward leave, from the tests that the code makes.
use Rattle.std.proofs.Common.{◌≡◌, sym, ap, ◌∙◌, ◌≢◌, Bool, true, false, cond, List, [], ◌∷◌, ℕ, suc, ◌+◌, ◌-◌, ◌*◌, ◌≤◌, ◌<◌, arith, set, get_or, le-leb, eq-eqb, ne_eqb}
use borrow.Author.Tests.{lt-leb}
use Rattle.lists.specs.Words.{at, put, pasted}
use Rattle.lists.proofs.Words.{read_past, read_at}
use Rattle.graphs.specs.Nodes.{is_vertex, is_link}
use Rattle.graphs.proofs.Nodes.{vertex-yes}
use Rattle.folding.specs.Machine.{Config, tree, nontree, fresh, label_mark, circling, target, closed, fits, enact}
use Rattle.folded.specs.Steps.{Attempt, out, trying, onward}
use Rattle.folded.proofs.Stores.{store-first, store-past, unfit-left, fit-made}

-- A tree edge does not fit where no label is left, or where a(t(e)) is no link.
module _ (w : Config) (k : ℕ) (area : List ℕ) (x : ℕ) (is : x ≡ target w w.e) (low : 0 < x) (high : x ≤ w.n) where
  vertex : is_vertex w.n (target w w.e) ≡ true
  vertex = ap (is_vertex w.n) (sym is) ∙ vertex-yes w.n x (low, high)

  pub tree-full : w.n < w.next → trying w tree k area ≡ out w k area
  unfolding fits
  tree-full h = unfit-left w tree k area (rw (vertex, lt-leb w.next w.n h))

  pub tree-no-link : w.next ≤ w.n → (r : ℕ) → r ≡ at 0 (closed w) x → is_link w.n w.m r ≡ false → trying w tree k area ≡ out w k area
  unfolding fits
  tree-no-link h r is-r e =
      let link : is_link w.n w.m (at 0 (closed w) (target w w.e)) ≡ false = ap (is_link w.n w.m) (sym (is-r ∙ ap (at 0 (closed w)) is)) ∙ e in
      unfit-left w tree k area (rw (vertex, le-leb w.next w.n h) link)

  tree-fits : w.next ≤ w.n → is_link w.n w.m (at 0 (closed w) (target w w.e)) ≡ true → fits w tree ≡ true
  unfolding fits
  tree-fits h e = rw (vertex, le-leb w.next w.n h) e

  -- It fits, and the stores that the code makes are those of the step.
  pub tree-made : w.next ≤ w.n → (r : ℕ) → r ≡ at 0 (closed w) x → is_link w.n w.m r ≡ true → {events : List ℕ} → events ≡ pasted (3 * k) (2 ∷ w.e ∷ w.v ∷ 1 ∷ 0 ∷ x ∷ []) area
      → ◌≡◌ {A = Attempt} (record { fit = true; config = record { n = w.n; m = w.m; start = w.start; v = x; e = r; f = w.v; phase = w.phase; next = w.next + 1; circular = w.circular; after = set w.after (w.v - 1) w.e; tail = set w.tail (w.e - w.n - 1) w.f; marks = set w.marks (x - 1) (w.next + 32768) }; count = k + 2; area = events }) (trying w tree k area)
  unfolding enact
  tree-made h r is-r e {events = events} written =
      let link : r ≡ at 0 (closed w) (target w w.e) = is-r ∙ ap (at 0 (closed w)) is in
      let fit : fits w tree ≡ true = tree-fits h (ap (is_link w.n w.m) (sym link) ∙ e) in
      let more : w.next + 1 ≡ suc w.next = omega arith in
      let a : set w.after (w.v - 1) w.e ≡ closed w = store-first w.after w.v w.e in
      let t : set w.tail (w.e - w.n - 1) w.f ≡ put w.n w.tail w.e w.f = store-past w.n w.tail w.e w.f in
      let number : w.next + 32768 ≡ label_mark w.next = omega arith in
      let m : set w.marks (x - 1) (w.next + 32768) ≡ put 0 w.marks (target w w.e) (label_mark w.next) = store-first w.marks x (w.next + 32768) ∙ (λ i. put 0 w.marks (is i) (number i)) in
      let all : events ≡ pasted (3 * k) (2 ∷ w.e ∷ w.v ∷ 1 ∷ 0 ∷ target w w.e ∷ []) area = written ∙ (λ i. pasted (3 * k) (2 ∷ w.e ∷ w.v ∷ 1 ∷ 0 ∷ is i ∷ []) area) in
      (λ i. record { fit = true; config = record { n = w.n; m = w.m; start = w.start; v = is i; e = link i; f = w.v; phase = w.phase; next = more i; circular = w.circular; after = a i; tail = t i; marks = m i }; count = k + 2; area = all i })
      ∙ sym (fit-made w tree k area fit)

-- An edge to a labelled vertex fits where a(e) is a link.
module _ (w : Config) (k : ℕ) (area : List ℕ) (vertex : is_vertex w.n (target w w.e) ≡ true) where
  pub nontree-no-link : is_link w.n w.m (get_or w.after (w.e - 1) 0) ≡ false → trying w nontree k area ≡ out w k area
  unfolding fits at
  nontree-no-link e = unfit-left w nontree k area (rw (vertex) e)

  nontree-fits : is_link w.n w.m (get_or w.after (w.e - 1) 0) ≡ true → fits w nontree ≡ true
  unfolding fits at
  nontree-fits e = rw (vertex) e

  pub nontree-made : is_link w.n w.m (get_or w.after (w.e - 1) 0) ≡ true → {circular : ℕ} → circular ≡ cond (circling w) 1 w.circular → {events : List ℕ} → events ≡ pasted (3 * k) (3 ∷ w.e ∷ w.v ∷ 4 ∷ w.e ∷ w.v ∷ []) area
      → ◌≡◌ {A = Attempt} (record { fit = true; config = record { n = w.n; m = w.m; start = w.start; v = w.v; e = get_or w.after (w.e - 1) 0; f = w.e; phase = w.phase; next = w.next; circular = circular; after = set w.after (w.e - 1) w.f; tail = w.tail; marks = w.marks }; count = k + 2; area = events }) (trying w nontree k area)
  unfolding enact
  nontree-made e figure written =
      let link : get_or w.after (w.e - 1) 0 ≡ at 0 w.after w.e = sym (read_at w.after w.e) in
      let a : set w.after (w.e - 1) w.f ≡ put 0 w.after w.e w.f = store-first w.after w.e w.f in
      (λ i. record { fit = true; config = record { n = w.n; m = w.m; start = w.start; v = w.v; e = link i; f = w.e; phase = w.phase; next = w.next; circular = figure i; after = a i; tail = w.tail; marks = w.marks }; count = k + 2; area = written i })
      ∙ sym (fit-made w nontree k area (nontree-fits e))

-- t(e) and its mark, read by place.
module _ (w : Config) where
  word : target w w.e ≡ get_or w.tail (w.e - w.n - 1) 0
  word = read_past w.n w.tail w.e

  pub target-vertex : is_vertex w.n (get_or w.tail (w.e - w.n - 1) 0) ≡ true → is_vertex w.n (target w w.e) ≡ true
  target-vertex e = ap (is_vertex w.n) word ∙ e

  pub mark : get_or w.marks (get_or w.tail (w.e - w.n - 1) 0 - 1) 0 ≡ at 0 w.marks (target w w.e)
  mark = sym (read_at w.marks (get_or w.tail (w.e - w.n - 1) 0)) ∙ ap (at 0 w.marks) (sym word)

-- The step forward is picked by the mark of t(e); where t(e) is no vertex, neither fits.
module _ (w : Config) (k : ℕ) (area : List ℕ) where
  picked : (b : Bool) → fresh w ≡ b → {r : Attempt} → r ≡ trying w (cond b tree nontree) k area → r ≡ trying w (onward w) k area
  picked b e left = left ∙ ap (λ (c : Bool). trying w (cond c tree nontree) k area) (sym e)

  pub onward-tree : get_or w.marks (get_or w.tail (w.e - w.n - 1) 0 - 1) 0 ≡ 0 → {r : Attempt} → r ≡ trying w tree k area → r ≡ trying w (onward w) k area
  onward-tree e = picked true (eq-eqb _ 0 (sym (mark w) ∙ e))

  pub onward-nontree : get_or w.marks (get_or w.tail (w.e - w.n - 1) 0 - 1) 0 ≢ 0 → {r : Attempt} → r ≡ trying w nontree k area → r ≡ trying w (onward w) k area
  onward-nontree ne = picked false (ne_eqb _ 0 (λ e. ne (mark w ∙ e)))

  pub onward-unfit : is_vertex w.n (get_or w.tail (w.e - w.n - 1) 0) ≡ false → trying w (onward w) k area ≡ out w k area
  unfolding fits
  onward-unfit e = go (fresh w)
    where
      none : is_vertex w.n (target w w.e) ≡ false
      none = ap (is_vertex w.n) (word w) ∙ e

      go : (b : Bool) → trying w (cond b tree nontree) k area ≡ out w k area
      go true = unfit-left w tree k area (rw none)
      go false = unfit-left w nontree k area (rw none)

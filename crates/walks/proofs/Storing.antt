-- Words stored one after the other, as the functions that write them store them.
use Rattle.std.proofs.Common.{◌≡◌, refl, sym, ap, ◌∙◌, Bool, true, false, cond, ◌&&◌, List, [], ◌∷◌, ℕ, zero, suc, ◌+◌, ◌-◌, ◌*◌, ◌/◌, ◌≤◌, ◌<◌, min, arith, ltb, leb, length, get_or, set, leb-true, leb-false, lt-ltb, le-ltb, le-leb}
use borrow.Author.Tests.{lt-leb}
use Rattle.lists.specs.Words.{put, pasted, cleared}
use Rattle.lists.proofs.Words.{pasted-none, pasted-next}
use Rattle.lists.proofs.Tests.{and_none, both}
use Rattle.graphs.specs.Results.{marks_first}
use Rattle.walks.specs.Writing.{total, counted, has_room, tally_after, events_after, can_label, label_tally, label_marks, label_events}

-- One word more is cleared.
pub cleared-next : (i : ℕ) (area : List ℕ) → i < length area → set (cleared i area) i 0 ≡ cleared (suc i) area
cleared-next i [] h = absurd (omega arith)
cleared-next zero (x ∷ area) h = refl
cleared-next (suc i) (x ∷ area) h = ap (λ (l : List ℕ). 0 ∷ l) (cleared-next i area (omega arith))

-- Where there are k words, k are cleared.
pub all-cleared : (k : ℕ) (area : List ℕ) → k ≤ length area → cleared (min k (length area)) area ≡ cleared k area
all-cleared k area h = let e : min k (length area) ≡ k = omega arith in ap (λ (j : ℕ). cleared j area) e

-- Where there are k marks, so many are first.
pub all_first : (k : ℕ) (before area : List ℕ) → k ≤ length area → marks_first (min k (length area)) before area ≡ marks_first k before area
all_first k before area h = let e : min k (length area) ≡ k = omega arith in ap (λ (j : ℕ). marks_first j before area) e

-- Three words stored are three words pasted.
pub three-stored : (at : ℕ) (area : List ℕ) (a b c : ℕ) → at + 3 ≤ length area → set (set (set area at a) (at + 1) b) (at + 2) c ≡ pasted at (a ∷ b ∷ c ∷ []) area
three-stored at area a b c h =
    let le : at ≤ length area = omega arith in
    let zero-on : at ≡ at + length {A = ℕ} [] = omega arith in
    let first : set area at a ≡ pasted at (a ∷ []) area = (λ i. set (sym (pasted-none at area) i) (zero-on i) a) ∙ pasted-next at area le [] a (omega arith) in
    let second : set (pasted at (a ∷ []) area) (at + 1) b ≡ pasted at (a ∷ b ∷ []) area = pasted-next at area le (a ∷ []) b (omega arith) in
    let third : set (pasted at (a ∷ b ∷ []) area) (at + 2) c ≡ pasted at (a ∷ b ∷ c ∷ []) area = pasted-next at area le (a ∷ b ∷ []) c (omega arith) in
    ap (λ (l : List ℕ). set (set l (at + 1) b) (at + 2) c) first ∙ ap (λ (l : List ℕ). set l (at + 2) c) second ∙ third

-- Seven counts and their total.
pub seven-sum : (t : List ℕ) → length t ≡ 7 → get_or t 0 0 + get_or t 1 0 + get_or t 2 0 + get_or t 3 0 + get_or t 4 0 + get_or t 5 0 + get_or t 6 0 ≡ total t
seven-sum (a ∷ b ∷ c ∷ d ∷ e ∷ f ∷ g ∷ []) h = omega arith
seven-sum [] h = absurd (omega arith)
seven-sum (a ∷ []) h = absurd (omega arith)
seven-sum (a ∷ b ∷ []) h = absurd (omega arith)
seven-sum (a ∷ b ∷ c ∷ []) h = absurd (omega arith)
seven-sum (a ∷ b ∷ c ∷ d ∷ []) h = absurd (omega arith)
seven-sum (a ∷ b ∷ c ∷ d ∷ e ∷ []) h = absurd (omega arith)
seven-sum (a ∷ b ∷ c ∷ d ∷ e ∷ f ∷ []) h = absurd (omega arith)
seven-sum (a ∷ b ∷ c ∷ d ∷ e ∷ f ∷ g ∷ x ∷ t) h = absurd (omega arith)

-- No count is more than the total.
pub count_most : (t : List ℕ) (k : ℕ) → get_or t k 0 ≤ total t
count_most [] k = omega arith
count_most (x ∷ t) zero = omega arith
count_most (x ∷ t) (suc k) = omega (arith, count_most t k)

-- What room for an event comes to.
pub record Room (k : ℕ) (t : List ℕ) (a : ℕ) : Type 0 where
  pub low : 1 ≤ k
  pub high : k ≤ 7
  pub few : total t ≤ 10000
  pub room : 3 * total t + 3 ≤ a

pub room-is : (k : ℕ) (t : List ℕ) (a : ℕ) → has_room k t a ≡ true → Room k t a
room-is k t a h =
    let x = both (leb 1 k) (leb k 7 && (leb (total t) 10000 && leb (3 * total t + 3) a)) h in
    let y = both (leb k 7) (leb (total t) 10000 && leb (3 * total t + 3) a) x.1 in
    let z = both (leb (total t) 10000) (leb (3 * total t + 3) a) y.1 in
    record { low = leb-true 1 k x.0; high = leb-true k 7 y.0; few = leb-true (total t) 10000 z.0; room = leb-true (3 * total t + 3) a z.1 }

-- The tests of room, one after the other.
pub no-room-kind : (k : ℕ) (t : List ℕ) (a : ℕ) → 7 < k → false ≡ has_room k t a
no-room-kind k t a h = sym (ap (λ (b : Bool). leb 1 k && (b && (leb (total t) 10000 && leb (3 * total t + 3) a))) (lt-leb k 7 h) ∙ and_none (leb 1 k))

pub room-asks : (k : ℕ) (t : List ℕ) (a : ℕ) → 1 ≤ k → k ≤ 7 → ltb (total t) (min (a / 3) 10001) ≡ has_room k t a
room-asks k t a l h = go (leb (total t) 10000) (leb (3 * total t + 3) a) refl refl
  where
    go : (x y : Bool) → leb (total t) 10000 ≡ x → leb (3 * total t + 3) a ≡ y → ltb (total t) (min (a / 3) 10001) ≡ has_room k t a
    go true true p q = let m = leb-true (total t) 10000 p in let r = leb-true (3 * total t + 3) a q in lt-ltb (total t) (min (a / 3) 10001) (omega arith) ∙ sym (rw (le-leb 1 k l, le-leb k 7 h, p, q))
    go true false p q = let r = leb-false (3 * total t + 3) a q in le-ltb (total t) (min (a / 3) 10001) (omega arith) ∙ sym (rw (le-leb 1 k l, le-leb k 7 h, p, q))
    go false y p q = let m = leb-false (total t) 10000 p in le-ltb (total t) (min (a / 3) 10001) (omega arith) ∙ sym (rw (le-leb 1 k l, le-leb k 7 h, p))

-- An event that has no room is not written, and one that has room is.
module _ (k r u : ℕ) (t events : List ℕ) where
  pub not_written : has_room k t (length events) ≡ false → (t ≡ tally_after k t (length events)) × (events ≡ events_after k r u t events)
  not_written e = (sym (ap (λ (b : Bool). cond b (counted k t) t) e), sym (ap (λ (b : Bool). cond b (pasted (3 * total t) (k ∷ r ∷ u ∷ []) events) events) e))

  pub written : has_room k t (length events) ≡ true → (at : ℕ) → at ≡ 3 * total t → (set t (k - 1) (get_or t (k - 1) 0 + 1) ≡ tally_after k t (length events)) × (set (set (set events at k) (at + 1) r) (at + 2) u ≡ events_after k r u t events)
  written e at is =
      let R = room-is k t (length events) e in
      let n : get_or t (k - 1) 0 + 1 ≡ suc (get_or t (k - 1) 0) = omega arith in (
        ap (set t (k - 1)) n ∙ sym (ap (λ (b : Bool). cond b (counted k t) t) e),
        three-stored at events k r u (omega (arith, R.room)) ∙ ap (λ (i : ℕ). pasted i (k ∷ r ∷ u ∷ []) events) is ∙ sym (ap (λ (b : Bool). cond b (pasted (3 * total t) (k ∷ r ∷ u ∷ []) events) events) e),
      )

-- The same of a label.
module _ (u : ℕ) (t marks events : List ℕ) where
  pub not-labelled : can_label u t (length marks) (length events) ≡ false
      → (t ≡ label_tally u t (length marks) (length events)) × ((marks ≡ label_marks u t marks (length events)) × (events ≡ label_events u t (length marks) events))
  not-labelled e = (
    sym (ap (λ (b : Bool). cond b (counted 1 t) t) e),
    (sym (ap (λ (b : Bool). cond b (put 0 marks u (suc (get_or t 0 0))) marks) e), sym (ap (λ (b : Bool). cond b (pasted (3 * total t) (1 ∷ 0 ∷ u ∷ []) events) events) e)),
  )

  pub no-label-past : length marks < u → can_label u t (length marks) (length events) ≡ false
  no-label-past h = ap (λ (b : Bool). leb 1 u && (b && has_room 1 t (length events))) (lt-leb u (length marks) h) ∙ and_none (leb 1 u)

  pub no-label-room : 1 ≤ u → u ≤ length marks → has_room 1 t (length events) ≡ false → can_label u t (length marks) (length events) ≡ false
  no-label-room a b e = rw (le-leb 1 u a, le-leb u (length marks) b, e)

  pub is-labelled : 1 ≤ u → u ≤ length marks → has_room 1 t (length events) ≡ true → {t' events' : List ℕ} → (t' ≡ tally_after 1 t (length events)) × (events' ≡ events_after 1 0 u t events)
      → (t' ≡ label_tally u t (length marks) (length events)) × ((set marks (u - 1) (get_or t 0 0 + 1) ≡ label_marks u t marks (length events)) × (events' ≡ label_events u t (length marks) events))
  unfolding put
  is-labelled a b e w =
      let can : can_label u t (length marks) (length events) ≡ true = rw (le-leb 1 u a, le-leb u (length marks) b, e) in
      let n : get_or t 0 0 + 1 ≡ suc (get_or t 0 0) = omega arith in (
        w.0 ∙ ap (λ (c : Bool). cond c (counted 1 t) t) (e ∙ sym can),
        (ap (set marks (u - 1)) n ∙ sym (ap (λ (c : Bool). cond c (put 0 marks u (suc (get_or t 0 0))) marks) can), w.1 ∙ ap (λ (c : Bool). cond c (pasted (3 * total t) (1 ∷ 0 ∷ u ∷ []) events) events) (e ∙ sym can)),
      )

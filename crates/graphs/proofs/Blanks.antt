-- The list of elements already on the blank, where it is not refused: each an element, none twice, the start not among them.
-- A strictly rising list has nothing twice.
use Rattle.std.proofs.Common.{◌≡◌, refl, false, true, ◌&&◌, List, [], ◌∷◌, ℕ, ◌≤◌, ◌<◌, arith, ltb, leb, ltb-true, leb-true, lt-ltb, le-leb}
use borrow.Author.Tests.{not-false}
use Rattle.lists.specs.Members.{Mem, here, there, NoDup}
use Rattle.lists.proofs.Tests.{both, and-true}
use Rattle.lists.proofs.Members.{mem-nil, each-cons, memb-false}
use Rattle.graphs.specs.Nodes.{Vertex}
use Rattle.graphs.specs.Refusals.{rises, blanks_out, start_blank}
use Rattle.graphs.specs.Claims.{StrictlyRising, RisesClaim}

pub record Listed (n : ℕ) (before : List ℕ) (start : ℕ) : Type 0 where
  pub vertices : (x : ℕ) → Mem x before → Vertex n x
  pub once : NoDup before
  pub start_fresh : Mem start before → ⊥

rises-within : (n k : ℕ) (l : List ℕ) → rises n k l ≡ true → (x : ℕ) → Mem x l → (k < x) × (x ≤ n)
rises-within n k [] h x m = absurd (mem-nil m)
rises-within n k (y ∷ l) h x m =
    let a = both (ltb k y && leb y n) (rises n y l) h in
    let b = both (ltb k y) (leb y n) a.0 in
    let p = ltb-true k y b.0 in
    let q = leb-true y n b.1 in
    each-cons (λ z. (k < z) × (z ≤ n)) y l (p, q) (λ z i. (let w = rises-within n y l a.1 z i in omega arith)) x m

rises-once : (n k : ℕ) (l : List ℕ) → rises n k l ≡ true → NoDup l
rises-once n k [] h = tt
rises-once n k (y ∷ l) h =
    let a = both (ltb k y && leb y n) (rises n y l) h in
    (λ m. (let w = rises-within n y l a.1 y m in omega arith), rises-once n y l a.1)

rises-rising : (n k : ℕ) (l : List ℕ) → rises n k l ≡ true → StrictlyRising l
rises-rising n k [] h = tt
rises-rising n k (y ∷ l) h =
    let a = both (ltb k y && leb y n) (rises n y l) h in
    (λ z m. (rises-within n y l a.1 z m).0, rises-rising n y l a.1)

rising-rises : (n k : ℕ) (l : List ℕ) → StrictlyRising l → ((x : ℕ) → Mem x l → (k < x) × (x ≤ n)) → rises n k l ≡ true
rising-rises n k [] r h = refl
rising-rises n k (y ∷ l) r h =
    let p = h y (here refl) in
    and-true (and-true (lt-ltb k y p.0) (le-leb y n p.1)) (rising-rises n y l r.1 (λ x m. (r.0 x m, (h x (there m)).1)))

pub rises-as-said : RisesClaim
rises-as-said n l = (λ h. (rises-rising n 0 l h, rises-within n 0 l h), λ h. rising-rises n 0 l h.0 h.1)

pub listed_of : (n : ℕ) (before : List ℕ) (start : ℕ) → blanks_out n before ≡ false → start_blank start before ≡ false → Listed n before start
listed_of n before start h s =
    let r = not-false (rises n 0 before) h in
    record { vertices = rises-within n 0 before r; once = rises-once n 0 before r; start_fresh = memb-false start before s }

-- Laws of counts, sums and ranks.
-- By recursion on the list, with a member taken out of it where two lists are compared.
use Rattle.std.proofs.Common.{◌≡◌, refl, sym, ap, ◌∙◌, subst, Bool, true, false, not, cond, ◌||◌, ◌&&◌, List, [], ◌∷◌, ◌++◌, ℕ, zero, suc, ◌+◌, ◌-◌, ◌≤◌, ◌<◌, arith, length, eqb, eqb-true, eq-eqb, ne_eqb}
use Rattle.lists.specs.Members.{Mem, here, there, memb, NoDup, Same, without}
use Rattle.lists.specs.Counts.{bump, count_in, sum_of, rank, all_to}
use Rattle.lists.proofs.Tests.{clash, and-true, both, zero_test, Compared, equal, other, compare}
use Rattle.lists.proofs.Members.{mem-nil, mem-tail, each-cons, mem-one, memb-true, mem-memb, memb-false, memb-of-not, without-mem, mem-without, without-nodup, without-none, pigeonhole}

pub bump-grow : (b : Bool) (k : ℕ) → k ≤ bump b k
bump-grow true k = omega arith
bump-grow false k = omega arith

-- ---- counts
pub count-append : (x : ℕ) (k l : List ℕ) → count_in x (k ++ l) ≡ count_in x k + count_in x l
count-append x [] l = omega arith
count-append x (y ∷ k) l = go (eqb x y) (count-append x k l)
  where
    go : (b : Bool) → count_in x (k ++ l) ≡ count_in x k + count_in x l → bump b (count_in x (k ++ l)) ≡ bump b (count_in x k) + count_in x l
    go true ih = omega arith
    go false ih = ih

pub count-mem : {x : ℕ} {l : List ℕ} → Mem x l → 1 ≤ count_in x l
count-mem {x} (here {y} {l} e) = rw (eq-eqb x y e) (omega arith)
count-mem {x} (there {y} {l} m) = let a = count-mem m in let b = bump-grow (eqb x y) (count_in x l) in omega arith

pub mem-count : (x : ℕ) (l : List ℕ) → 1 ≤ count_in x l → Mem x l
mem-count x [] h = absurd (omega arith)
mem-count x (y ∷ l) h = go (eqb x y) refl h (λ k. mem-count x l k)
  where
    go : (b : Bool) → eqb x y ≡ b → 1 ≤ bump b (count_in x l) → (1 ≤ count_in x l → Mem x l) → Mem x (y ∷ l)
    go true e k ih = here (eqb-true x y e)
    go false e k ih = there (ih k)

pub count_none : (x : ℕ) (l : List ℕ) → (Mem x l → ⊥) → count_in x l ≡ 0
count_none x [] h = refl
count_none x (y ∷ l) h = rw (ne_eqb x y (λ e. h (here e))) (count_none x l (λ m. h (there m)))

-- What is counted at most once does not stand twice.
pub count-once : (l : List ℕ) → ((x : ℕ) → Mem x l → count_in x l ≤ 1) → NoDup l
count-once [] h = tt
count-once (y ∷ l) h = (λ m. twice (h y (here refl)) m, count-once l (λ x m. (let a = h x (there m) in let b = bump-grow (eqb x y) (count_in x l) in omega arith)))
  where
    twice : count_in y (y ∷ l) ≤ 1 → Mem y l → ⊥
    twice q m =
        let a : suc (count_in y l) ≤ 1 = subst (λ (b : Bool). bump b (count_in y l) ≤ 1) (eq-eqb y y refl) q in
        let b = count-mem m in
        omega arith

-- What does not stand twice is counted at most once.
pub count_most : (x : ℕ) (l : List ℕ) → NoDup l → count_in x l ≤ 1
count_most x [] h = omega arith
count_most x (y ∷ l) h = go (compare x y) (count_most x l h.1)
  where
    go : Compared x y → count_in x l ≤ 1 → count_in x (y ∷ l) ≤ 1
    go (equal e t) ih = rw t (let z : count_in x l ≡ 0 = count_none x l (λ m. h.0 (subst (λ (w : ℕ). Mem w l) e m)) in omega arith)
    go (other ne t) ih = rw t ih

-- A count is a sum.
pub count-sum : (x : ℕ) (l : List ℕ) → count_in x l ≡ sum_of (λ y. bump (eqb x y) 0) l
count-sum x [] = refl
count-sum x (y ∷ l) = go (eqb x y) (count-sum x l)
  where
    go : (b : Bool) → count_in x l ≡ sum_of (λ z. bump (eqb x z) 0) l → bump b (count_in x l) ≡ bump b 0 + sum_of (λ z. bump (eqb x z) 0) l
    go true ih = omega arith
    go false ih = omega arith

-- ---- sums
pub sum_same : (f g : ℕ → ℕ) → ((x : ℕ) → f x ≡ g x) → (l : List ℕ) → sum_of f l ≡ sum_of g l
sum_same f g e [] = refl
sum_same f g e (x ∷ l) = let a = e x in let b = sum_same f g e l in omega arith

-- A sum that is not 0 has a term that is not 0.
pub sum-some : (f : ℕ → ℕ) (l : List ℕ) → 1 ≤ sum_of f l → (x : ℕ) × Mem x l × (1 ≤ f x)
sum-some f [] h = absurd (omega arith)
sum-some f (x ∷ l) h = go (f x) refl (sum-some f l)
  where
    go : (k : ℕ) → f x ≡ k → (1 ≤ sum_of f l → (y : ℕ) × Mem y l × (1 ≤ f y)) → (y : ℕ) × Mem y (x ∷ l) × (1 ≤ f y)
    go zero e ih = let a = ih (omega arith) in (a.0, there a.1, a.2)
    go (suc k) e ih = (x, here refl, omega arith)

pub length-sum : (l : List ℕ) → length l ≡ sum_of (λ x. 1) l
length-sum [] = refl
length-sum (x ∷ l) = let h = length-sum l in omega arith

-- A member taken out of the list, and of its sum.
take_out : (f : ℕ → ℕ) (x : ℕ) (l : List ℕ) → NoDup l → Mem x l → sum_of f l ≡ f x + sum_of f (without (x ∷ []) l)
take_out f x [] h m = absurd (mem-nil m)
take_out f x (y ∷ l) h m = go (compare y x) (λ k. take_out f x l h.1 k)
  where
    go : Compared y x → (Mem x l → sum_of f l ≡ f x + sum_of f (without (x ∷ []) l)) → sum_of f (y ∷ l) ≡ f x + sum_of f (without (x ∷ []) (y ∷ l))
    go (equal e t) ih =
        let gone : without (x ∷ []) l ≡ l = without-none (x ∷ []) l (λ z q k. h.0 (subst (λ (w : ℕ). Mem w l) (mem-one k ∙ sym e) q)) in
        rw (mem-memb {l = x ∷ []} (here e), gone, e)
    go (other ne t) ih =
        let i = ih (mem-tail m (λ e. ne (sym e))) in
        rw (memb-of-not y (x ∷ []) (λ k. ne (mem-one k))) (omega arith)

-- Two lists with the same members, nothing twice, have the same sums.
pub same_sum : (f : ℕ → ℕ) (k l : List ℕ) → NoDup k → NoDup l → Same k l → sum_of f k ≡ sum_of f l
same_sum f [] [] h j s = refl
same_sum f [] (y ∷ l) h j s = absurd (mem-nil ((s y).1 (here refl)))
same_sum f (x ∷ k) l h j s =
    ap (λ (z : ℕ). f x + z) (same_sum f k (without (x ∷ []) l) h.1 (without-nodup (x ∷ []) l j) (λ z. (in-l z, in-k z)))
    ∙ sym (take_out f x l j ((s x).0 (here refl)))
  where
    in-l : (z : ℕ) → Mem z k → Mem z (without (x ∷ []) l)
    in-l z m = mem-without (x ∷ []) l ((s z).0 (there m)) (λ q. h.0 (subst (λ (y : ℕ). Mem y k) (mem-one q) m))

    in-k : (z : ℕ) → Mem z (without (x ∷ []) l) → Mem z k
    in-k z m = let q = without-mem (x ∷ []) l m in mem-tail ((s z).1 q.0) (λ e. q.1 (here e))

pub same_length : (k l : List ℕ) → NoDup k → NoDup l → Same k l → length k ≡ length l
same_length k l h j s = length-sum k ∙ same_sum (λ x. 1) k l h j s ∙ sym (length-sum l)

-- A list, nothing twice, that has all of b + 1 to b + n has at least n members.
covers : (b n : ℕ) (l : List ℕ) → NoDup l → ((x : ℕ) → b < x → x ≤ b + n → Mem x l) → n ≤ length l
covers b zero l h q = omega arith
covers b (suc n) l h q =
    omega (
      arith,
      length-sum l,
      take_out (λ x. 1) last l h (q last (omega arith) (omega arith)),
      length-sum rest,
      covers b n rest (without-nodup (last ∷ []) l h) (λ x p r. mem-without (last ∷ []) l (q x p (omega arith)) (λ m. (let e : x ≡ last = mem-one m in omega arith))),
    )
  where
    last : ℕ
    last = b + suc n

    rest : List ℕ
    rest = without (last ∷ []) l

-- ---- tests at each number
pub all-at : (f : ℕ → Bool) (k : ℕ) → all_to f k ≡ true → (x : ℕ) → 0 < x → x ≤ k → f x ≡ true
all-at f zero h x p q = absurd (omega arith)
all-at f (suc k) h x p q = go (compare x (suc k)) (both (all_to f k) (f (suc k)) h) (λ a c. all-at f k a x p c)
  where
    go : Compared x (suc k) → (all_to f k ≡ true) × (f (suc k) ≡ true) → (all_to f k ≡ true → x ≤ k → f x ≡ true) → f x ≡ true
    go (equal e t) z ih = ap f e ∙ z.1
    go (other ne t) z ih = ih z.0 (omega arith)

pub all_of : (f : ℕ → Bool) (k : ℕ) → ((x : ℕ) → 0 < x → x ≤ k → f x ≡ true) → all_to f k ≡ true
all_of f zero h = refl
all_of f (suc k) h = and-true (all_of f k (λ x p q. h x p (omega arith))) (h (suc k) (omega arith) (omega arith))

-- Two tests that agree at each of 1 to k.
pub all_same : (f g : ℕ → Bool) (k : ℕ) → ((x : ℕ) → 0 < x → x ≤ k → f x ≡ g x) → all_to f k ≡ all_to g k
all_same f g zero h = refl
all_same f g (suc k) h = let e = all_same f g k (λ x p q. h x p (omega arith)) in let l = h (suc k) (omega arith) (omega arith) in λ i. e i && l i

pub all-fails : (f : ℕ → Bool) (k x : ℕ) → 0 < x → x ≤ k → f x ≡ false → all_to f k ≡ false
all-fails f k x p q e = go (all_to f k) refl
  where
    go : (b : Bool) → all_to f k ≡ b → b ≡ false
    go true h = clash (sym (all-at f k h x p q) ∙ e)
    go false h = refl

-- What is counted once at each place is counted once.
pub all-counted : (b n : ℕ) (l : List ℕ) → all_to (λ k. eqb (count_in (b + k) l) 1) n ≡ true → (x : ℕ) → b < x → x ≤ b + n → count_in x l ≡ 1
all-counted b n l h x p q =
    let back : b + (x - b) ≡ x = omega arith in
    subst (λ (y : ℕ). count_in y l ≡ 1) back (eqb-true (count_in (b + (x - b)) l) 1 (all-at (λ k. eqb (count_in (b + k) l) 1) n h (x - b) (omega arith) (omega arith)))

-- A list of numbers of b + 1 to b + n, none twice, has n members exactly where each of the numbers is counted once.
pub count-all : (b n : ℕ) (l : List ℕ) → NoDup l → ((x : ℕ) → Mem x l → (b < x) × (x ≤ b + n)) → eqb (length l) n ≡ all_to (λ k. eqb (count_in (b + k) l) 1) n
count-all b n l h q = go (compare (length l) n)
  where
    -- With n members, a number that is none of them would be one too many.
    member : length l ≡ n → (x : ℕ) → b < x → x ≤ b + n → (t : Bool) → memb x l ≡ t → Mem x l
    member e x p r true m = memb-true x l m
    member e x p r false m = absurd (let k = pigeonhole b n (x ∷ l) (memb-false x l m, h) (each-cons (λ y. (b < y) × (y ≤ b + n)) x l (p, r) q) in omega arith)

    fewer : (length l ≡ n → ⊥) → (t : Bool) → all_to (λ k. eqb (count_in (b + k) l) 1) n ≡ t → t ≡ false
    fewer ne true a = absurd (ne (omega (arith, pigeonhole b n l h q, covers b n l h (λ x p r. mem-count x l (omega (arith, all-counted b n l a x p r))))))
    fewer ne false a = refl

    go : Compared (length l) n → eqb (length l) n ≡ all_to (λ k. eqb (count_in (b + k) l) 1) n
    go (equal e t) =
        t ∙ sym (all_of (λ k. eqb (count_in (b + k) l) 1) n (λ k p r. eq-eqb (count_in (b + k) l) 1 (omega (arith, count_most (b + k) l h, count-mem (member e (b + k) (omega arith) (omega arith) (memb (b + k) l) refl)))))
    go (other ne t) = t ∙ sym (fewer ne (all_to (λ k. eqb (count_in (b + k) l) 1) n) refl)

-- ---- ranks
pub rank-none : (x : ℕ) (l : List ℕ) → (Mem x l → ⊥) → rank x l ≡ 0
rank-none x [] h = refl
rank-none x (y ∷ l) h = rw (ne_eqb x y (λ e. h (here e))) (rank-none x l (λ m. h (there m)))

-- A rank is 0 exactly where nothing stands.
pub rank-test : (x : ℕ) (l : List ℕ) → eqb (rank x l) 0 ≡ not (memb x l)
rank-test x [] = refl
rank-test x (y ∷ l) = go (eqb x y) (rank-test x l)
  where
    go : (b : Bool) → eqb (rank x l) 0 ≡ not (memb x l) → eqb (cond b (suc (length l)) (rank x l)) 0 ≡ not (b || memb x l)
    go true ih = zero_test (suc (length l)) (omega arith)
    go false ih = ih

pub rank_most : (x : ℕ) (l : List ℕ) → rank x l ≤ length l
rank_most x [] = omega arith
rank_most x (y ∷ l) = go (eqb x y) (rank_most x l)
  where
    go : (b : Bool) → rank x l ≤ length l → cond b (suc (length l)) (rank x l) ≤ suc (length l)
    go true h = omega arith
    go false h = omega arith

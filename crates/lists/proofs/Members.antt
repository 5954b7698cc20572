-- Laws of membership: its test, appended and reversed lists, lists in which nothing stands twice, the pigeonhole.
-- By recursion on the list or on where the member stands.
use Rattle.std.proofs.Common.{◌≡◌, refl, sym, ap, ◌∙◌, subst, ◌≢◌, ◌⊎◌, inl, inr, Bool, true, false, not, ◌||◌, List, [], ◌∷◌, ◌++◌, reverse, ℕ, zero, suc, ◌+◌, ◌≤◌, ◌<◌, arith, length, eqb, eqb-true, eq-eqb, ne_eqb}
use mathlib.Core.List.{reverse_aux}
use borrow.Author.Tests.{eqb-false}
use Rattle.std.specs.List.{list_any}
use Rattle.lists.specs.Members.{Mem, here, there, memb, NoDup, Same, cons_if, without}
use Rattle.lists.proofs.Tests.{clash, or-true}

pub mem-nil : {x : ℕ} → Mem x [] → ⊥
mem-nil m = elim m [ ]

-- A member is the first or stands further on.
pub mem-cons : {x y : ℕ} {l : List ℕ} → Mem x (y ∷ l) → (x ≡ y) ⊎ Mem x l
mem-cons (here e) = inl e
mem-cons (there m) = inr m

-- Not the first, so further on.
pub mem-tail : {x y : ℕ} {l : List ℕ} → Mem x (y ∷ l) → x ≢ y → Mem x l
mem-tail (here e) ne = absurd (ne e)
mem-tail (there m) ne = m

-- P of the first and of all further on is P of all.
pub each-cons : (P : ℕ → Type 0) (y : ℕ) (l : List ℕ) → P y → ((x : ℕ) → Mem x l → P x) → (x : ℕ) → Mem x (y ∷ l) → P x
each-cons P y l h a x (here {l = k} e) = subst P (sym e) h
each-cons P y l h a x (there {l = k} m) = a x m

-- ---- the test
pub memb-true : (x : ℕ) (l : List ℕ) → memb x l ≡ true → Mem x l
memb-true x [] h = clash (sym h)
memb-true x (y ∷ l) h = go (eqb x y) refl (memb-true x l) h
  where
    go : (b : Bool) → eqb x y ≡ b → (memb x l ≡ true → Mem x l) → (b || memb x l) ≡ true → Mem x (y ∷ l)
    go true e ih h = here (eqb-true x y e)
    go false e ih h = there (ih h)

pub mem-memb : {x : ℕ} {l : List ℕ} → Mem x l → memb x l ≡ true
mem-memb {x} (here {y} {l} e) = rw (eq-eqb x y e)
mem-memb {x} (there {y} {l} m) = rw (mem-memb m) (or-true (eqb x y))

pub memb-false : (x : ℕ) (l : List ℕ) → memb x l ≡ false → Mem x l → ⊥
memb-false x l h m = clash (sym (mem-memb m) ∙ h)

pub memb-of-not : (x : ℕ) (l : List ℕ) → (Mem x l → ⊥) → memb x l ≡ false
memb-of-not x l h = go (memb x l) refl
  where
    go : (b : Bool) → memb x l ≡ b → b ≡ false
    go true e = absurd (h (memb-true x l e))
    go false e = refl

-- The library's search of a list, by a test that says what `eqb x` says.
pub any-memb : (x : ℕ) (test : ℕ → Bool) (l : List ℕ) → ((y : ℕ) → test y ≡ eqb x y) → list_any test l ≡ memb x l
any-memb x test [] same = refl
any-memb x test (y ∷ l) same = rw (same y, any-memb x test l same)

pub eqb-turned : (x y : ℕ) → eqb y x ≡ eqb x y
eqb-turned x y = go (eqb x y) refl
  where
    go : (b : Bool) → eqb x y ≡ b → eqb y x ≡ b
    go true e = eq-eqb y x (sym (eqb-true x y e))
    go false e = ne_eqb y x (λ h. eqb-false x y e (sym h))

-- ---- appended and reversed
pub mem-left : {x : ℕ} {k : List ℕ} (l : List ℕ) → Mem x k → Mem x (k ++ l)
mem-left l (here e) = here e
mem-left l (there m) = there (mem-left l m)

pub mem-right : {x : ℕ} (k : List ℕ) {l : List ℕ} → Mem x l → Mem x (k ++ l)
mem-right [] m = m
mem-right (y ∷ k) m = there (mem-right k m)

pub mem-append : {x : ℕ} (k l : List ℕ) → Mem x (k ++ l) → Mem x k ⊎ Mem x l
mem-append [] l m = inr m
mem-append {x} (y ∷ k) l m = go (mem-cons m) (λ q. mem-append k l q)
  where
    up : Mem x k ⊎ Mem x l → Mem x (y ∷ k) ⊎ Mem x l
    up (inl q) = inl (there q)
    up (inr q) = inr q

    go : (x ≡ y) ⊎ Mem x (k ++ l) → (Mem x (k ++ l) → Mem x k ⊎ Mem x l) → Mem x (y ∷ k) ⊎ Mem x l
    go (inl e) ih = inl (here e)
    go (inr q) ih = up (ih q)

pub memb-append : (x : ℕ) (k l : List ℕ) → memb x (k ++ l) ≡ (memb x k || memb x l)
memb-append x [] l = refl
memb-append x (y ∷ k) l = go (eqb x y) (memb-append x k l)
  where
    go : (b : Bool) → memb x (k ++ l) ≡ (memb x k || memb x l) → (b || memb x (k ++ l)) ≡ ((b || memb x k) || memb x l)
    go true ih = refl
    go false ih = ih

pub mem-rest : {x : ℕ} (done : List ℕ) {rest : List ℕ} → Mem x rest → Mem x (reverse_aux done rest)
mem-rest [] m = m
mem-rest (d ∷ ds) m = mem-rest ds (there m)

pub mem-done : {x : ℕ} {done : List ℕ} (rest : List ℕ) → Mem x done → Mem x (reverse_aux done rest)
mem-done rest (here {y} {l} e) = mem-rest l (here e)
mem-done rest (there {y} {l} m) = mem-done (y ∷ rest) m

pub mem_reverse_aux : {x : ℕ} (done rest : List ℕ) → Mem x (reverse_aux done rest) → Mem x done ⊎ Mem x rest
mem_reverse_aux [] rest m = inr m
mem_reverse_aux {x} (d ∷ ds) rest m = go (mem_reverse_aux ds (d ∷ rest) m)
  where
    split : Mem x (d ∷ rest) → Mem x (d ∷ ds) ⊎ Mem x rest
    split (here {l = l} e) = inl (here e)
    split (there {l = l} q) = inr q

    go : Mem x ds ⊎ Mem x (d ∷ rest) → Mem x (d ∷ ds) ⊎ Mem x rest
    go (inl q) = inl (there q)
    go (inr q) = split q

-- Reversing changes no membership.
pub mem-reverse : (l : List ℕ) → Same (reverse l) l
mem-reverse l x = (λ m. go (mem_reverse_aux l [] m), λ m. mem-done [] m)
  where
    go : Mem x l ⊎ Mem x [] → Mem x l
    go (inl q) = q
    go (inr q) = absurd (mem-nil q)

-- ---- nothing twice
-- Nothing twice in the whole: nothing twice in the rest, and none of the rest done.
pub record Split (done rest : List ℕ) : Type 0 where
  pub once : NoDup rest
  pub apart : (x : ℕ) → Mem x rest → Mem x done → ⊥

split_step : (d : ℕ) (ds rest : List ℕ) → Split ds (d ∷ rest) → Split (d ∷ ds) rest
split_step d ds rest s = record { once = s.once.1; apart = go }
  where
    go : (x : ℕ) → Mem x rest → Mem x (d ∷ ds) → ⊥
    go x m (here {l = l} e) = s.once.0 (subst (λ (z : ℕ). Mem z rest) e m)
    go x m (there {l = l} k) = s.apart x (there m) k

pub split : (done rest : List ℕ) → NoDup (reverse_aux done rest) → Split done rest
split [] rest h = record { once = h; apart = λ x m k. mem-nil k }
split (d ∷ ds) rest h = split_step d ds rest (split ds (d ∷ rest) h)

pub append-nodup : (k l : List ℕ) → NoDup k → NoDup l → ((x : ℕ) → Mem x k → Mem x l → ⊥) → NoDup (k ++ l)
append-nodup [] l hk hl d = hl
append-nodup (x ∷ k) l hk hl d = (λ m. none (mem-append k l m), append-nodup k l hk.1 hl (λ y p q. d y (there p) q))
  where
    none : Mem x k ⊎ Mem x l → ⊥
    none (inl q) = hk.0 q
    none (inr q) = d x (here refl) q

pub nodup-left : (k l : List ℕ) → NoDup (k ++ l) → NoDup k
nodup-left [] l h = tt
nodup-left (x ∷ k) l h = (λ m. h.0 (mem-left l m), nodup-left k l h.1)

pub nodup-apart : (k l : List ℕ) → NoDup (k ++ l) → (x : ℕ) → Mem x k → Mem x l → ⊥
nodup-apart [] l h x m q = mem-nil m
nodup-apart (y ∷ k) l h x m q = go (mem-cons m) (λ z. nodup-apart k l h.1 x z q)
  where
    go : (x ≡ y) ⊎ Mem x k → (Mem x k → ⊥) → ⊥
    go (inl e) ih = h.0 (subst (λ (z : ℕ). Mem z (k ++ l)) e (mem-right k q))
    go (inr z) ih = ih z

-- ---- without
pub without-mem : {x : ℕ} (gone l : List ℕ) → Mem x (without gone l) → Mem x l × (Mem x gone → ⊥)
without-mem gone [] m = absurd (mem-nil m)
without-mem {x} gone (y ∷ l) m = go (memb y gone) refl (λ q. without-mem gone l q) m
  where
    first : (Mem x (without gone l) → Mem x l × (Mem x gone → ⊥)) → memb y gone ≡ false → (x ≡ y) ⊎ Mem x (without gone l) → Mem x (y ∷ l) × (Mem x gone → ⊥)
    first ih e (inl q) = (here q, λ k. memb-false y gone e (subst (λ (z : ℕ). Mem z gone) q k))
    first ih e (inr q) = let r = ih q in (there r.0, r.1)

    go : (b : Bool) → memb y gone ≡ b → (Mem x (without gone l) → Mem x l × (Mem x gone → ⊥)) → Mem x (cons_if (not b) y (without gone l)) → Mem x (y ∷ l) × (Mem x gone → ⊥)
    go true e ih q = let r = ih q in (there r.0, r.1)
    go false e ih q = first ih e (mem-cons q)

pub mem-without : {x : ℕ} (gone l : List ℕ) → Mem x l → (Mem x gone → ⊥) → Mem x (without gone l)
mem-without gone [] m ne = absurd (mem-nil m)
mem-without {x} gone (y ∷ l) m ne = go (memb y gone) refl (λ q. mem-without gone l q ne) (mem-cons m)
  where
    go : (b : Bool) → memb y gone ≡ b → (Mem x l → Mem x (without gone l)) → (x ≡ y) ⊎ Mem x l → Mem x (cons_if (not b) y (without gone l))
    go true e ih (inl q) = absurd (ne (subst (λ (z : ℕ). Mem z gone) (sym q) (memb-true y gone e)))
    go true e ih (inr q) = ih q
    go false e ih (inl q) = here q
    go false e ih (inr q) = there (ih q)

pub without-nodup : (gone l : List ℕ) → NoDup l → NoDup (without gone l)
without-nodup gone [] h = tt
without-nodup gone (y ∷ l) h = go (without-nodup gone l h.1) (memb y gone)
  where
    go : NoDup (without gone l) → (b : Bool) → NoDup (cons_if (not b) y (without gone l))
    go ih true = ih
    go ih false = (λ m. h.0 (without-mem gone l m).0, ih)

-- Nothing goes where nothing is gone.
pub without-none : (gone l : List ℕ) → ((x : ℕ) → Mem x l → Mem x gone → ⊥) → without gone l ≡ l
without-none gone [] h = refl
without-none gone (y ∷ l) h = rw (memb-of-not y gone (h y (here refl)), without-none gone l (λ x m. h x (there m)))

-- All goes where all is gone.
pub without_all : (gone l : List ℕ) → ((x : ℕ) → Mem x l → Mem x gone) → without gone l ≡ []
without_all gone [] h = refl
without_all gone (y ∷ l) h = rw (mem-memb (h y (here refl)), without_all gone l (λ x m. h x (there m)))

pub without-append : (gone k l : List ℕ) → without gone (k ++ l) ≡ without gone k ++ without gone l
without-append gone [] l = refl
without-append gone (y ∷ k) l = go (not (memb y gone)) (without-append gone k l)
  where
    go : (b : Bool) → without gone (k ++ l) ≡ without gone k ++ without gone l → cons_if b y (without gone (k ++ l)) ≡ cons_if b y (without gone k) ++ without gone l
    go true ih = ap (λ (z : List ℕ). y ∷ z) ih
    go false ih = ih

abbrev one : ℕ → List ℕ
one x = x ∷ []

pub mem-one : {z x : ℕ} → Mem z (x ∷ []) → z ≡ x
mem-one (here e) = e
mem-one (there m) = absurd (mem-nil m)

-- ---- the pigeonhole
without-length : (x : ℕ) (l : List ℕ) → NoDup l → length l ≤ suc (length (without (one x) l))
without-length x [] h = omega arith
without-length x (y ∷ l) h = go (without-length x l h.1) (memb y (one x)) refl
  where
    gone : Mem y (one x) → without (one x) l ≡ l
    gone m = without-none (one x) l (λ z q k. h.0 (subst (λ (w : ℕ). Mem w l) (mem-one k ∙ sym (mem-one m)) q))

    go : length l ≤ suc (length (without (one x) l)) → (b : Bool) → memb y (one x) ≡ b → suc (length l) ≤ suc (length (cons_if (not b) y (without (one x) l)))
    go ih true e = rw (gone (memb-true y (one x) e)) (omega arith)
    go ih false e = omega arith

-- Numbers of b + 1 to b + n, none twice, are at most n.
pub pigeonhole : (b n : ℕ) (l : List ℕ) → NoDup l → ((x : ℕ) → Mem x l → (b < x) × (x ≤ b + n)) → length l ≤ n
pigeonhole b zero [] h q = omega arith
pigeonhole b zero (x ∷ l) h q = let k = q x (here refl) in omega arith
pigeonhole b (suc n) l h q = omega (arith, without-length (b + suc n) l h, pigeonhole b n (without (one (b + suc n)) l) (without-nodup (one (b + suc n)) l h) below)
  where
    below : (x : ℕ) → Mem x (without (one (b + suc n)) l) → (b < x) × (x ≤ b + n)
    below x m = let k = without-mem (one (b + suc n)) l m in let y = q x k.0 in let ne : x ≢ b + suc n = λ e. k.1 (here e) in (y.0, omega arith)

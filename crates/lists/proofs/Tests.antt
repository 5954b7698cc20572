-- Tests taken apart and put together.
-- By cases on their values.
use Rattle.std.proofs.Common.{◌≡◌, refl, sym, Bool, true, false, ◌&&◌, ◌||◌, ℕ, ◌<◌, arith, eqb, eqb-true, ne_eqb}
use borrow.Author.Tests.{eqb-false}

pub clash : {A : Type 0} → ◌≡◌ {A = Bool} true false → A
clash e = absurd (let z : ◌≡◌ {A = ℕ} 0 1 = cc in omega arith)

pub and-true : {a b : Bool} → a ≡ true → b ≡ true → (a && b) ≡ true
and-true p q = λ i. p i && q i

pub both : (a b : Bool) → (a && b) ≡ true → (a ≡ true) × (b ≡ true)
both true true e = (refl, refl)
both true false e = clash (sym e)
both false true e = clash (sym e)
both false false e = clash (sym e)

pub or-true : (b : Bool) → (b || true) ≡ true
or-true true = refl
or-true false = refl

pub or-none : (b : Bool) → (b || false) ≡ b
or-none true = refl
or-none false = refl

pub and_none : (b : Bool) → (b && false) ≡ false
and_none true = refl
and_none false = refl

pub and-unit : (b : Bool) → (b && true) ≡ b
and-unit true = refl
and-unit false = refl

-- Neither of two tests passes.
pub neither : (a b : Bool) → (a || b) ≡ false → (a ≡ false) × (b ≡ false)
neither true true e = clash e
neither true false e = clash e
neither false true e = clash e
neither false false e = (refl, refl)

pub zero_test : (x : ℕ) → 0 < x → eqb x 0 ≡ false
zero_test x h = ne_eqb x 0 (λ e. (let k : x ≡ 0 = e in omega arith))

-- A number is equal to another, or not.
pub data Compared (x y : ℕ) : Type 0 where
  equal : x ≡ y → eqb x y ≡ true → Compared x y
  other : (x ≡ y → ⊥) → eqb x y ≡ false → Compared x y

pub compare : (x y : ℕ) → Compared x y
compare x y = go (eqb x y) refl
  where
    go : (b : Bool) → eqb x y ≡ b → Compared x y
    go true e = equal (eqb-true x y e) e
    go false e = other (eqb-false x y e) e

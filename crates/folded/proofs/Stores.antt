-- Words as the steps store them: by place, where a definition stores them by node; and what a step leaves by whether it fits.
use Rattle.std.proofs.Common.{◌≡◌, refl, sym, ap, ◌∙◌, ◌≢◌, Bool, true, false, cond, List, ℕ, suc, ◌-◌, ◌≤◌, ◌<◌, arith, length, get_or, set}
use Rattle.lists.specs.Words.{at, put}
use Rattle.lists.proofs.Words.{at-put, at_other, read_at}
use Rattle.folding.specs.Machine.{Config, Step, fits, enact}
use Rattle.folded.specs.Steps.{out, made, trying}

-- A store at node x of an area that begins with node 1.
pub store-first : (l : List ℕ) (x w : ℕ) → set l (x - 1) w ≡ put 0 l x w
unfolding put
store-first l x w = refl

-- A store at node r of an area that begins with node n + 1.
pub store-past : (n : ℕ) (l : List ℕ) (r w : ℕ) → set l (r - n - 1) w ≡ put n l r w
unfolding put
store-past n l r w = let e : r - n - 1 ≡ r - suc n = omega arith in ap (λ (i : ℕ). set l i w) e

-- The word of x once that of v is e: e where x is v, and else the word as it was.
pub read-own : (l : List ℕ) (x v e : ℕ) → x ≡ v → 0 < v → v ≤ length l → e ≡ at 0 (put 0 l v e) x
read-own l x v e is low high = sym (at-put 0 l v e low (omega arith)) ∙ ap (λ (y : ℕ). at 0 (put 0 l v e) y) (sym is)

pub read-other : (l : List ℕ) (x v e : ℕ) → x ≢ v → 0 < x → 0 < v → get_or l (x - 1) 0 ≡ at 0 (put 0 l v e) x
read-other l x v e ne low vlow = sym (read_at l x) ∙ sym (at_other 0 l v x e vlow low ne)

-- A step that does not fit leaves all as it was, and one that fits is made.
module _ (w : Config) (p : Step) (k : ℕ) (area : List ℕ) where
  pub unfit-left : fits w p ≡ false → trying w p k area ≡ out w k area
  unfolding trying
  unfit-left e = ap (λ (b : Bool). cond b (made (enact w p) k area) (out w k area)) e

  pub fit-made : fits w p ≡ true → trying w p k area ≡ made (enact w p) k area
  unfolding trying
  fit-made e = ap (λ (b : Bool). cond b (made (enact w p) k area) (out w k area)) e

-- What breaks the rule of first positions, of areas of any length, and what fulfils it.
use Rattle.std.proofs.Common.{◌≡◌, refl, sym, ap, ◌∙◌, Bool, true, false, not, List, ℕ, suc, ◌+◌, ◌≤◌, ◌<◌, add-one, arith, get_or, eq-eqb, le-leb}
use Rattle.lists.specs.Words.{at}
use Rattle.lists.proofs.Tests.{and-true, Compared, equal, other, compare}
use Rattle.lists.proofs.Counts.{all_of}
use Rattle.lists.proofs.Words.{word-here}
use Rattle.graphs.specs.Refusals.{first_out}
use Rattle.arrays.specs.Arrays.{array_in}
use Rattle.arrays.proofs.Arrays.{next_word, Rising, InOrder, rise, in-order}

module _ (n m : ℕ) (firsts tails : List ℕ) where
  broken : (InOrder (array_in n m firsts tails) → ⊥) → true ≡ first_out (array_in n m firsts tails)
  broken h = go (first_out (array_in n m firsts tails)) refl
    where
      go : (b : Bool) → first_out (array_in n m firsts tails) ≡ b → true ≡ b
      go true e = refl
      go false e = absurd (h (in-order (array_in n m firsts tails) e))

  pub wrong-begin : (get_or firsts 0 0 ≡ 1 → ⊥) → true ≡ first_out (array_in n m firsts tails)
  wrong-begin h = broken (λ o. h (sym (word-here firsts 0) ∙ o.begins))

  pub wrong-end : (get_or firsts n 0 ≡ m + 1 → ⊥) → true ≡ first_out (array_in n m firsts tails)
  wrong-end h = broken (λ o. h (sym (word-here firsts n) ∙ o.ends ∙ sym (add-one m)))

  pub falls : (i : ℕ) → i < n → get_or firsts (i + 1) 0 < get_or firsts i 0 → true ≡ first_out (array_in n m firsts tails)
  falls i p h = broken (λ o. (let z = o.rises (suc i) (omega arith) (omega arith) in omega (arith, word-here firsts i, next_word firsts i)))

  pub all_right : get_or firsts 0 0 ≡ 1 → get_or firsts n 0 ≡ m + 1 → (i : ℕ) → n ≤ i → Rising firsts i → false ≡ first_out (array_in n m firsts tails)
  all_right b e i h r =
      sym (ap not (and-true (eq-eqb (at 0 firsts 1) 1 (word-here firsts 0 ∙ b))
      (and-true (eq-eqb (at 0 firsts (suc n)) (suc m) (word-here firsts n ∙ e ∙ add-one m))
      (all_of (rise (array_in n m firsts tails)) n (λ u p q. le-leb (at 0 firsts u) (at 0 firsts (suc u)) (r u p (omega arith)))))))

pub rising-more : (firsts : List ℕ) (i : ℕ) → Rising firsts i → get_or firsts i 0 ≤ get_or firsts (i + 1) 0 → Rising firsts (i + 1)
rising-more firsts i r h u p q = go (compare u (suc i))
  where
    go : Compared u (suc i) → at 0 firsts u ≤ at 0 firsts (suc u)
    go (equal e t) = rw e (omega (arith, word-here firsts i, next_word firsts i))
    go (other ne t) = r u p (omega arith)

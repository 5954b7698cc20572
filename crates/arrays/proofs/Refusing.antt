-- A call that meets the sizes, then its areas, then conditions of its own.
use Rattle.std.proofs.Common.{◌≡◌, true, false, ℕ, List, ◌∷◌, ◌++◌, sym, ◌∙◌}
use Rattle.refusals.specs.declared.Refusal as reason
use Rattle.refusals.specs.Numbers.{number_of}
use Rattle.refusals.proofs.Numbers.{refused-not-taken}
use Rattle.graphs.specs.Refusals.{Refusal, refuse, Lent, short, first_of, sizes_out, size_refusals}
use Rattle.graphs.proofs.Refusals.{first-true, first-false, first-refused, first_rest, sizes-numbered}

module _ (n m : ℕ) (areas : List Lent) (own : List Refusal) where
  pub by-sizes : (r : reason.Refusal) → number_of r ≡ first_of (sizes_out n m) → number_of r ≡ first_of (size_refusals n m areas ++ own)
  by-sizes r e = first-refused (sizes_out n m) (refuse 3 (short areas) ∷ own) e (refused-not-taken r)

  pub by-areas : 0 ≡ first_of (sizes_out n m) → short areas ≡ true → 3 ≡ first_of (size_refusals n m areas ++ own)
  by-areas e h = first-true own h ∙ sym (first_rest (sizes_out n m) (refuse 3 (short areas) ∷ own) (sizes-numbered n m) (sym e))

  pub by-own : 0 ≡ first_of (sizes_out n m) → short areas ≡ false → first_of own ≡ first_of (size_refusals n m areas ++ own)
  by-own e h = first-false 3 own h ∙ sym (first_rest (sizes_out n m) (refuse 3 (short areas) ∷ own) (sizes-numbered n m) (sym e))

-- The number of a call with a state, from that of its first five conditions; and what the number says of the reply.
use Rattle.std.proofs.Common.{◌≡◌, refl, sym, ap, ◌∙◌, ◌≢◌, Bool, true, false, not, List, [], ◌∷◌, ◌++◌, ℕ, zero, suc, arith}
use Rattle.graphs.specs.Refusals.{Refusal, refuse, first_of, Lent, vertex_out, size_refusals}
use Rattle.graphs.proofs.Refusals.{first-front, first_rest}
use Rattle.folding.specs.Machine.{Config}
use Rattle.folding.specs.Calls.{Reply, refusing, unless, over, fields_in, state_number, Call, roll_back, roll_back_number, area_of, number_of, perform, serve}

-- The five conditions that every call with a state meets first.
abbrev common : Config → List Lent → List Refusal
common w areas = size_refusals w.n w.m areas ++ refuse 4 (vertex_out w.n w.start) ∷ refuse 8 (not (fields_in w)) ∷ []

module _ (w : Config) (areas : List Lent) (own : List Refusal) {k : ℕ} (e : k ≡ state_number w areas []) where
  -- One of them is true.
  pub number-first : k ≢ 0 → state_number w areas own ≡ k
  number-first ne = first-front (common w areas) own (λ z. ne (e ∙ z)) ∙ sym e

  -- None of them is true: the call's own conditions decide.
  pub number-own : k ≡ 0 → state_number w areas own ≡ first_of own
  number-own z = first_rest (common w areas) own (omega arith) (sym e ∙ z)

-- ---- the reply
pub unless-refused : (k : ℕ) (w : Config) (area : List ℕ) (r : Reply) → k ≢ 0 → unless k w area r ≡ refusing k w area
unless-refused zero w area r ne = absurd (ne refl)
unless-refused (suc k) w area r ne = refl

pub serve-refused : (w : Config) (c : Call) {k : ℕ} → number_of w c ≡ k → k ≢ 0 → serve w c ≡ refusing k w (area_of c)
unfolding serve
serve-refused w c {k} e ne = ap (λ (j : ℕ). unless j w (area_of c) (perform w c)) e ∙ unless-refused k w (area_of c) (perform w c) ne

pub serve-taken : (w : Config) (c : Call) → number_of w c ≡ 0 → serve w c ≡ perform w c
unfolding serve
serve-taken w c e = ap (λ (j : ℕ). unless j w (area_of c) (perform w c)) e

-- ---- a roll-back order
module _ (w : Config) {k : ℕ} (e : k ≡ state_number w [] []) where
  pub order-refused : k ≢ 0 → serve w roll_back ≡ refusing k w []
  unfolding roll_back_number
  order-refused ne = serve-refused w roll_back (number-first w [] (refuse 9 (over w) ∷ []) e ne) ne

  pub order-over : k ≡ 0 → over w ≡ true → serve w roll_back ≡ refusing 9 w []
  unfolding roll_back_number
  order-over z o = serve-refused w roll_back (number-own w [] (refuse 9 (over w) ∷ []) e z ∙ ap (λ (b : Bool). first_of (refuse 9 b ∷ [])) o) (omega arith)

  pub order-taken : k ≡ 0 → over w ≡ false → serve w roll_back ≡ perform w roll_back
  unfolding roll_back_number
  order-taken z o = serve-taken w roll_back (number-own w [] (refuse 9 (over w) ∷ []) e z ∙ ap (λ (b : Bool). first_of (refuse 9 b ∷ [])) o)

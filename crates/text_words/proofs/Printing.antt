-- The lent word for the bytes printed: a refused call leaves it, a call taken stores it.
use Rattle.std.proofs.Common.{◌≡◌, refl, ap, ◌∙◌, List, ℕ, zero, suc}
use Rattle.report.specs.Report.{Told, telling}
use Rattle.text_words.specs.Told.{word_unless, told_in}

pub word_kept : (k new old : ℕ) → (k ≡ 0 → ⊥) → old ≡ word_unless k new old
word_kept zero new old h = absurd (h refl)
word_kept (suc k) new old h = refl

module _ (number bytes printed : ℕ) (after tail marks events output : List ℕ) (x : Told) (e : telling number bytes after tail marks events output ≡ x) where
  pub printed-kept : (number ≡ 0 → ⊥) → telling number printed after tail marks events output ≡ told_in printed x
  printed-kept h = (λ i. telling number (word_kept number bytes printed h i) after tail marks events output) ∙ ap (told_in printed) e

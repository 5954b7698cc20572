-- What reading a text hands back, from the reader's answer.
-- By the answer: both are one number, or three sizes.
use Rattle.std.proofs.Common.{◌≡◌, refl, ap, ◌∙◌, ℕ}
use Rattle.texts.specs.Loading.{Reading, refused, loaded}
use Rattle.texts.specs.Answers.{Answer, refused_with, sizes, answer_to}
use Rattle.text_words.specs.Told.{Sizes, sized, handed_sizes}

-- The sizes and the start of an answer; as they were where it is a number.
abbrev answer_sizes : Answer → (n m start : ℕ) → Sizes
answer_sizes (refused_with k) n m start = sized k n m start
answer_sizes (sizes v e s) n m start = sized 0 v e s

module _ (n m start : ℕ) where
  same : (x : Reading) → answer_sizes (answer_to x) n m start ≡ handed_sizes x n m start
  same (refused k) = refl
  same (loaded p) = refl

  pub sizes-handed : {a : Answer} (x : Reading) → a ≡ answer_to x → answer_sizes a n m start ≡ handed_sizes x n m start
  sizes-handed x e = ap (λ (a : Answer). answer_sizes a n m start) e ∙ same x

-- What a walk promised, and what becomes of its tally in seven words, is a walk whose tally is stored.
use Rattle.std.proofs.Common.{◌≡◌, refl, sym, ap, ◌∙◌, ℕ, zero, suc, List}
use Rattle.std.specs.Prelude.{Result}
use Rattle.lists.specs.Words.{overlay}
use Rattle.graphs.specs.Events.{History, tally}
use Rattle.graphs.specs.Refusals.{unless_refused}
use Rattle.refusals.specs.declared.Refusal as refusals
use Rattle.refusals.specs.Numbers.{number_in}
use Rattle.walks.specs.Promises.{walked_of, tallied, Promised}
use Rattle.walks.proofs.Begins.{walked-number, answered}
use Rattle.tally_words.specs.Tallied.{Tallied}

-- A refused walk stores nothing, so it is the tally of the events that is stored.
stored-tally : (k : ℕ) (h : History) (counts : List ℕ) → unless_refused k (overlay (tallied k h) counts) counts ≡ unless_refused k (overlay (tally h) counts) counts
stored-tally zero h counts = refl
stored-tally (suc k) h counts = refl

pub handed-over : {j k nodes r : ℕ} {before : List ℕ} {h : History} {marks events counts' marks' events' : List ℕ} (counts : List ℕ) (w : Result (List ℕ) refusals.Refusal)
    → Promised k nodes before h marks events (walked_of w) marks' events' → k ≡ j → r ≡ number_in w → counts' ≡ unless_refused r (overlay (walked_of w).tally counts) counts
    → Tallied j h nodes before marks events counts r counts' marks' events'
handed-over {r = r} {h = h} counts w P long number stored =
    let is = walked-number w in
    let q = answered P (is ∙ sym number) in
    (number ∙ sym is ∙ P.number_is ∙ long, stored ∙ ap (λ (t : List ℕ). unless_refused r (overlay t counts) counts) q.0 ∙ stored-tally r h counts, q.1.0, q.1.1)

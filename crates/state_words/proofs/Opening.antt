-- What an opening hands back, from what is seen of its reply.
-- By its number: a refused opening leaves what was lent, one that is taken has the state at the start.
use Rattle.std.proofs.Common.{◌≡◌, refl, sym, ◌∙◌, subst, ◌≢◌, false, not, List, [], ◌∷◌, ◌++◌, ℕ, zero, suc, ◌+◌, ◌≤◌, ◌<◌, arith, length}
use Rattle.graphs.specs.Image.{Image}
use Rattle.graphs.specs.Refusals.{Lent, lent, short, search_number, unless_refused}
use Rattle.folding.specs.Calls.{unless, unopened, open_number, opened_at, open_reply, opening}
use Rattle.std.specs.Prelude.{Option, Some, None}
use Rattle.states.specs.declared.values.Reason.{Reason}
use Rattle.states.specs.Answers.{answer_of, Seen, seen_of}
use Rattle.state_words.specs.Handed.{number_in, open_number_in}
use Rattle.tally_words.proofs.Numbers.{says-short, search-long, search-short}

-- The number of a call that is taken.
pub taken-number : (why : Option Reason) → 0 ≡ number_in (answer_of why)
taken-number (Some why) = refl
taken-number None = refl

-- What is seen of an opening with the number k.
pub record Opened (g : Image) (before : List ℕ) (start : ℕ) (marks events : List ℕ) (k : ℕ) (s : Seen) : Type 0 where
  pub number : number_in s.answer ≡ k
  pub marks_left : s.config.marks ≡ unless_refused k (opened_at g before start marks).marks marks
  pub events-left : s.area ≡ unless_refused k (open_reply g before start marks events).area events
  pub state-left : k ≡ 0 → s.config ≡ opened_at g before start marks

module _ (g : Image) (before : List ℕ) (start : ℕ) (marks events state : List ℕ) where
  by_number : (k : ℕ) → Opened g before start marks events k (seen_of (unless k (unopened g start marks) events (open_reply g before start marks events)))
  by_number zero = record { number = refl; marks_left = refl; events-left = refl; state-left = λ z. refl }
  by_number (suc k) = record { number = refl; marks_left = refl; events-left = refl; state-left = λ z. absurd (let q : suc k ≡ 0 = z in omega arith) }

  open-long : 9 ≤ length state → open_number g before start marks events ≡ open_number_in g before start marks events state
  unfolding open_number
  open-long h = search-long g before start (lent (g.n + g.m) marks ∷ lent 3 events ∷ []) 9 state h

  -- Nine words or more for the state; k is the number of the answer.
  pub opened : {s : Seen} {k : ℕ} → s ≡ seen_of (opening g before start marks events) → k ≡ number_in s.answer → 9 ≤ length state → (k ≡ open_number_in g before start marks events state) × Opened g before start marks events k s
  unfolding opening
  opened {s} e q h =
      let n = open_number g before start marks events in
      let p : Opened g before start marks events n s = subst (Opened g before start marks events n) (sym e) (by_number n) in
      let is = q ∙ p.number in
      (is ∙ open-long h, subst (λ (j : ℕ). Opened g before start marks events j s) (sym is) p)

  -- Fewer; k is the number that the call gets for short areas.
  pub open-short : {k : ℕ} → ((areas : List Lent) → false ≡ not (short areas) → k ≡ search_number g before start areas) → length state < 9 → (k ≡ open_number_in g before start marks events state) × (k ≢ 0)
  open-short e h =
      let own = lent (g.n + g.m) marks ∷ lent 3 events ∷ [] in
      let is = e (own ++ (lent 9 state ∷ [])) (says-short 9 state h own) in
      (is, λ z. search-short g before start own 9 state h (sym is ∙ z))

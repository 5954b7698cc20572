-- What a call on a state in words hands back, and what accepting one does.
-- Fewer than nine words hold no state; else all is what is seen of the reply.
use Rattle.std.proofs.Common.{◌≡◌, refl, sym, ap, ◌∙◌, List, ℕ, ◌≤◌, ◌<◌, length, le-leb}
use borrow.Author.Tests.{lt-leb}
use Rattle.lists.specs.Words.{overlay}
use Rattle.folding.specs.Calls as calls
use Rattle.folding.specs.Calls.{Call, ran, taken, refused, refusing, area_of, serve}
use Rattle.states.specs.declared.values.State.{State}
use Rattle.states.specs.declared.values.Reason.{Reason}
use Rattle.states.specs.Answers.{answer_of, config_of, Seen, seen_of}
use Rattle.std.specs.Prelude.{Option, Some, None}
use Rattle.panel.specs.Panel.{Counted}
use Rattle.panel.specs.Panel.{counted_by, accepted_of}
use Rattle.state_words.specs.Handed.{state_in, config_words, reason_number, reason_in, served_in, Handed, handing, handed_by, handed, accepted_in}

-- ---- a call
module _ (state after tail marks : List ℕ) (c : Call) where
  served-short : length state < 9 → served_in state after tail marks c ≡ refusing 3 (config_of (state_in state) after tail marks) (area_of c)
  served-short h = rw (lt-leb 9 (length state) h)

  served-long : 9 ≤ length state → served_in state after tail marks c ≡ serve (config_of (state_in state) after tail marks) c
  served-long h = rw (le-leb 9 (length state) h)

  -- Fewer than nine words: the call is refused with number 3.
  pub handed-short : (steps made reason : ℕ) → length state < 9 → handing 3 steps made reason state after tail marks (area_of c) ≡ handed (served_in state after tail marks c) steps made reason state
  handed-short steps made reason h = ap (λ (q : calls.Reply). handed q steps made reason state) (sym (served-short h))

  -- Nine words or more: the call is served on the state read out of them.
  pub seen-served : {s : State} → 9 ≤ length state → s ≡ state_in state → seen_of (serve (config_of s after tail marks) c) ≡ seen_of (served_in state after tail marks c)
  seen-served h e = ap (λ (s : State). seen_of (serve (config_of s after tail marks) c)) e ∙ ap seen_of (sym (served-long h))

-- What is handed back, from what is seen of a reply.
abbrev pub handed_seen : calls.Answer → Seen → (steps made reason : ℕ) → List ℕ → Handed
handed_seen (ran why) s steps made reason state = handing 0 s.steps s.count (reason_number why) (overlay (config_words s.config) state) s.config.after s.config.tail s.config.marks s.area
handed_seen taken s steps made reason state = handing 0 s.steps s.count 0 (overlay (config_words s.config) state) s.config.after s.config.tail s.config.marks s.area
handed_seen (refused k) s steps made reason state = handing k steps made reason state s.config.after s.config.tail s.config.marks s.area

module _ (steps made reason : ℕ) (state : List ℕ) where
  by_answer : (a : calls.Answer) (q : calls.Reply) → handed_seen a (seen_of q) steps made reason state ≡ handed_by a q steps made reason state
  by_answer (ran why) q = refl
  by_answer taken q = refl
  by_answer (refused k) q = refl

  pub seen-handed : {s : Seen} (q : calls.Reply) → s ≡ seen_of q → handed_seen s.answer s steps made reason state ≡ handed q steps made reason state
  seen-handed q e = ap (λ (s : Seen). handed_seen s.answer s steps made reason state) e ∙ by_answer q.answer q

  -- Of a call that is taken.
  pub seen-taken : (why : Option Reason) (s : Seen)
      → handing 0 s.steps s.count (reason_in (answer_of why)) (overlay (config_words s.config) state) s.config.after s.config.tail s.config.marks s.area ≡ handed_seen (answer_of why) s steps made reason state
  seen-taken (Some why) s = refl
  seen-taken None s = refl

-- ---- accepting
module _ (figure : ℕ) (state : List ℕ) where
  -- Fewer than nine words: it is refused with number 3.
  pub accepted-short : length state < 9 → accepted_in figure state ≡ counted_by 3 (record { figure = figure }) (state_in state)
  accepted-short h = rw (lt-leb 9 (length state) h)

  -- Nine words or more: it is what is counted of the state read out of them.
  pub counted-in : {s : State} {r : Counted} → 9 ≤ length state → s ≡ state_in state → r ≡ accepted_of (record { figure = figure }) s → r ≡ accepted_in figure state
  counted-in h e f = f ∙ ap (accepted_of (record { figure = figure })) e ∙ rw (le-leb 9 (length state) h)

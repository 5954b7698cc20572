-- What every walk writes, event by event.
use Rattle.std.specs.Prelude.{◌≡◌, Bool, cond, ◌&&◌, List, [], ◌∷◌, ℕ, suc, ◌-◌, ◌+◌, ◌*◌, ◌≤◌, min, leb, length, get_or, set}
use Rattle.lists.specs.Counts.{sum_of}
use Rattle.lists.specs.Words.{put, pasted}
use Rattle.graphs.specs.Events.{History, tally}
use Rattle.graphs.specs.Results.{events_left, blank_mark, marks_first, marks_left}

-- The tally of no events.
abbrev pub no_events : List ℕ
no_events = 0 ∷ 0 ∷ 0 ∷ 0 ∷ 0 ∷ 0 ∷ 0 ∷ []

-- The number of events tallied.
abbrev pub total : List ℕ → ℕ
total t = sum_of (λ k. k) t

-- One event more, of the kind whose number is k.
abbrev pub counted : ℕ → List ℕ → List ℕ
counted k t = set t (k - 1) (suc (get_or t (k - 1) 0))

-- An event of that kind can be written behind those tallied, in an area of a words; and no more are tallied than the longest walk has.
abbrev pub has_room : ℕ → List ℕ → ℕ → Bool
has_room k t a = leb 1 k && (leb k 7 && (leb (total t) 10000 && leb (3 * total t + 3) a))

-- The tally and the event area once it is written; as they were where it cannot be.
abbrev pub tally_after : ℕ → List ℕ → ℕ → List ℕ
tally_after k t a = cond (has_room k t a) (counted k t) t

abbrev pub events_after : ℕ → ℕ → ℕ → List ℕ → List ℕ → List ℕ
events_after k r u t events = cond (has_room k t (length events)) (pasted (3 * total t) (k ∷ r ∷ u ∷ []) events) events

-- u can be labelled, in a mark area of b words.
abbrev pub can_label : ℕ → List ℕ → ℕ → ℕ → Bool
can_label u t b a = leb 1 u && (leb u b && has_room 1 t a)

-- The tally, the mark area and the event area once it is labelled; as they were where it cannot be.
abbrev pub label_tally : ℕ → List ℕ → ℕ → ℕ → List ℕ
label_tally u t b a = cond (can_label u t b a) (counted 1 t) t

abbrev pub label_marks : ℕ → List ℕ → List ℕ → ℕ → List ℕ
label_marks u t marks a = cond (can_label u t (length marks) a) (put 0 marks u (suc (get_or t 0 0))) marks

abbrev pub label_events : ℕ → List ℕ → ℕ → List ℕ → List ℕ
label_events u t b events = cond (can_label u t b (length events)) (pasted (3 * total t) (1 ∷ 0 ∷ u ∷ []) events) events

-- One element on the blank marked, where it is one of the first k nodes.
abbrev pub blank_marked : ℕ → ℕ → List ℕ → List ℕ
blank_marked k x marks = cond (leb 1 x && leb x k) (put 0 marks x blank_mark) marks

-- The marks of so many nodes first, all where there are fewer marks: cleared but for the elements `before` on the blank.
abbrev pub blanks_marked : ℕ → List ℕ → List ℕ → List ℕ
blanks_marked nodes before marks = marks_first (min nodes (length marks)) before marks

-- The areas of a walk after the events h, with the elements `before` on the blank: `marks₀` and `events₀` are the areas as lent, the first
-- k marks those of the nodes.
pub record Held (k : ℕ) (before : List ℕ) (h : History) (marks₀ events₀ marks events t : List ℕ) : Type 0 where
  pub marked : marks ≡ marks_left k before h marks₀
  pub written : events ≡ events_left h events₀
  pub counts : t ≡ tally h

-- Room for the events up to `all` in the areas lent.
pub record Roomy (k : ℕ) (all : History) (marks₀ events₀ : List ℕ) : Type 0 where
  pub long_marks : k ≤ length marks₀
  pub room : 3 * length all ≤ length events₀
  pub few : length all ≤ 10000

-- A whole-run walk whose tally is stored in seven lent words: they are one area more, behind those of its own.
use Rattle.std.specs.Prelude.{◌≡◌, List, [], ◌∷◌, ◌++◌, ℕ, ◌+◌}
use Rattle.lists.specs.Words.{overlay}
use Rattle.graphs.specs.Events.{History, tally}
use Rattle.graphs.specs.Results.{marks_left, events_left}
use Rattle.graphs.specs.Image.{Image}
use Rattle.graphs.specs.ArrayForm.{ArrayForm}
use Rattle.graphs.specs.Refusals.{Lent, lent, unless_refused, array_search_number}
use Rattle.walks.specs.Promises.{written_areas, walk_number, depth_walk, breadth_walk, array_walk}

-- What is promised of a walk with these events: the number r that it returns, and the counts, marks and event words that it leaves. Refused, it
-- leaves all as it was.
abbrev pub Tallied : (number : ℕ) → History → (nodes : ℕ) (before marks events counts : List ℕ) (r : ℕ) (counts' marks' events' : List ℕ) → Type 0
Tallied number h nodes before marks events counts r counts' marks' events' =
    (r ≡ number)
    × (counts' ≡ unless_refused r (overlay (tally h) counts) counts)
    × (marks' ≡ unless_refused r (marks_left nodes before h marks) marks)
    × (events' ≡ unless_refused r (events_left h events) events)

-- Of a linked image: the number of a walk with areas of its own and seven words for the tally.
abbrev pub tallied_number : Image → List ℕ → ℕ → List Lent → (marks events counts : List ℕ) → ℕ
tallied_number g before start own marks events counts = walk_number g before start marks events (own ++ (lent 7 counts ∷ []))

-- Depth-first; breadth-first.
abbrev pub DepthTallied : Image → List ℕ → ℕ → List Lent → (marks events counts : List ℕ) (r : ℕ) (counts' marks' events' : List ℕ) → Type 0
DepthTallied g before start own marks events counts = Tallied (tallied_number g before start own marks events counts) (depth_walk g before start) (g.n + g.m) before marks events counts

abbrev pub BreadthTallied : Image → List ℕ → ℕ → List Lent → (marks events counts : List ℕ) (r : ℕ) (counts' marks' events' : List ℕ) → Type 0
BreadthTallied g before start own marks events counts = Tallied (tallied_number g before start own marks events counts) (breadth_walk g before start) (g.n + g.m) before marks events counts

-- Over the array form, with n increments.
abbrev pub array_tallied_number : ArrayForm → List ℕ → ℕ → (marks increments events counts : List ℕ) → ℕ
array_tallied_number a before start marks increments events counts = array_search_number a before start (written_areas (a.n + a.m) marks events ++ lent a.n increments ∷ lent 7 counts ∷ [])

abbrev pub ArrayTallied : ArrayForm → List ℕ → ℕ → (marks increments events counts : List ℕ) (r : ℕ) (counts' marks' events' : List ℕ) → Type 0
ArrayTallied a before start marks increments events counts = Tallied (array_tallied_number a before start marks increments events counts) (array_walk a before start) (a.n + a.m) before marks events counts

-- What is claimed of the walks, as types; proofs/Claims has the theorems. `dfs_recursive` and `dfs_parent` promise `DepthPromise`, `bfs_queue`
-- and `bfs_folded` `BreadthPromise`, `dfs_array` `ArrayPromise`: the claims cite what the contracts cite.
use Rattle.std.specs.Prelude.{◌≡◌, ◌↔◌, true, false, List, ◌++◌, reverse, ℕ, ◌+◌, ◌*◌, ◌≤◌, length, take}
use Rattle.lists.specs.Counts.{sum_of}
use Rattle.lists.specs.Words.{at}
use Rattle.graphs.specs.Events.{History, tally, words, renamed}
use Rattle.graphs.specs.Results.{events_left}
use Rattle.graphs.specs.Image.{Image, SameLinks, graph_of}
use Rattle.graphs.specs.ArrayForm.{ArrayForm, array_graph, array_left, numbers_left}
use Rattle.graphs.specs.Refusals.{Lent, short, image_areas, sound}
use Rattle.graphs.specs.Claims.{DepthClaim, BreadthClaim, Unnamed, Untouched, SameSearch}
use Rattle.walks.specs.Promises.{Walked}
use Rattle.walks.specs.Promises.{written_areas, walk_number, array_walk_number, depth_walk, array_walk, breadth_walk, DepthPromise, BreadthPromise, ArrayPromise}

-- A walk of a linked image is taken exactly where the profile, with the elements already on the blank, is sound and every area is as long
-- as stated.
abbrev pub TakenClaim : Type 0
TakenClaim = (g : Image) (before : List ℕ) (start : ℕ) (marks events : List ℕ) (own : List Lent)
    → (walk_number g before start marks events own ≡ 0) ↔ ((sound g before start ≡ true) × (short (image_areas g ++ (written_areas (g.n + g.m) marks events ++ own)) ≡ false))

-- The events fit the area lent, and the tally adds up to their number.
pub record Fits (h : History) (events : List ℕ) : Type 0 where
  pub room : length (words (reverse h)) ≤ length events
  pub number : sum_of (λ k. k) (tally h) ≡ length h

-- Demand 2 for the walks of a linked image: their events are those of the paper's definitions, of every vertex reachable off the elements
-- already on the blank and no other; these are not touched.
pub record AsDefined (g : Image) (before : List ℕ) (start : ℕ) (events : List ℕ) : Type 0 where
  pub depth : DepthClaim (graph_of g) before start (depth_walk g before start)
  pub breadth : BreadthClaim (graph_of g) before start (breadth_walk g before start)
  pub depth_blanks : Untouched (graph_of g) before (depth_walk g before start)
  pub breadth_blanks : Unnamed before (breadth_walk g before start)
  pub depth_fits : Fits (depth_walk g before start) events
  pub breadth_fits : Fits (breadth_walk g before start) events

abbrev pub WalkClaim : Type 0
WalkClaim = (g : Image) (before : List ℕ) (start : ℕ) (marks events : List ℕ) (own : List Lent) → walk_number g before start marks events own ≡ 0 → AsDefined g before start events

-- Demand 2 for the walk of an array form.
abbrev pub ArrayWalkClaim : Type 0
ArrayWalkClaim = (a : ArrayForm) (before : List ℕ) (start : ℕ) (marks increments events : List ℕ) → array_walk_number a before start marks increments events ≡ 0
    → DepthClaim (array_graph a) before start (array_walk a before start) × Untouched (array_graph a) before (array_walk a before start) × Fits (array_walk a before start) events

-- Wherever a walk of an image is taken, so is the walk of the array form that a conversion leaves, and it is the same walk: the list of edge
-- numbers turns its events into those of the image's; marks, tally and increments are equal as they stand.
abbrev pub ConvertedClaim : Type 0
ConvertedClaim = (g : Image) (before : List ℕ) (start : ℕ) (marks events increments : List ℕ) (own : List Lent) (firsts tails numbers : List ℕ)
    → walk_number g before start marks events own ≡ 0 → g.n ≤ length increments
    → (array_walk_number (array_left g firsts tails) before start marks increments events ≡ 0) × SameSearch g (array_left g firsts tails) (numbers_left g numbers) before start

-- ---- the walkers agree
-- The event words that a walk has written, by its tally.
abbrev pub told_by : Walked → List ℕ → List ℕ
told_by r events = take (3 * sum_of (λ k. k) r.tally) events

-- Two walks leave the same tally, the same event words, and the same marks of so many nodes.
pub record SameWalk (nodes : ℕ) (r s : Walked) (marks events others told : List ℕ) : Type 0 where
  pub tallies : r.tally ≡ s.tally
  pub events_told : told_by r events ≡ told_by s told
  pub marks_left : take nodes marks ≡ take nodes others

-- Two walks of the same search that are taken, of images with the same links, each in areas of its own, with the same elements on the blank
-- and the same start: the depth-first ones, recursive and by parent edges, and the breadth-first ones, by a queue and folded.
pub record SameClaim : Type 0 where
  pub depth : (a g : Image) → SameLinks a g → (before : List ℕ) (start : ℕ) (own more : List Lent) (marks events marks' events' others room others' room' : List ℕ) (r s : Walked)
      → DepthPromise a before start own marks events r marks' events' → DepthPromise g before start more others room s others' room'
      → r.number ≡ 0 → s.number ≡ 0 → SameWalk (g.n + g.m) r s marks' events' others' room'
  pub breadth : (a g : Image) → SameLinks a g → (before : List ℕ) (start : ℕ) (own more : List Lent) (marks events marks' events' others room others' room' : List ℕ) (r s : Walked)
      → BreadthPromise a before start own marks events r marks' events' → BreadthPromise g before start more others room s others' room'
      → r.number ≡ 0 → s.number ≡ 0 → SameWalk (g.n + g.m) r s marks' events' others' room'

-- So does the walk of the array form that a conversion leaves, lent the same marks and event words, once the list of edge numbers has turned
-- its events back.
abbrev pub TurnedBackClaim : Type 0
TurnedBackClaim = (g : Image) (before : List ℕ) (start : ℕ) (own : List Lent) (firsts tails numbers increments marks events marks' events' marks'' events'' : List ℕ) (r s : Walked)
    → g.n ≤ length increments → DepthPromise g before start own marks events r marks' events' → r.number ≡ 0
    → ArrayPromise (array_left g firsts tails) before start increments marks events s marks'' events''
    → (r.tally ≡ s.tally) × ((marks' ≡ marks'') × (events' ≡ events_left (renamed (at g.n (numbers_left g numbers)) (array_walk (array_left g firsts tails) before start)) events))

-- What is claimed of the two searches (demand 2), as types; proofs/ has the theorems of these names.
use Rattle.std.specs.Prelude.{◌≡◌, ◌↔◌, true, false, not, ◌||◌, List, [], ◌∷◌, ◌++◌, map, reverse, ℕ, suc, ◌+◌, ◌*◌, ◌≤◌, ◌<◌, length}
use Rattle.lists.specs.Members.{Mem, NoDup}
use Rattle.lists.specs.Counts.{count_in, sum_of, rank}
use Rattle.lists.specs.Words.{at, cleared, filled}
use Rattle.graphs.specs.Nodes.{Vertex, Edge, is_vertex}
use Rattle.graphs.specs.Graph.{Graph, Closed, Reached, met}
use Rattle.graphs.specs.Events.{Kind, History, ◌▸◌, event, label, advance_tree, advance_nontree, retreat_tree, retreat_nontree, scan, traverse, named, edges_by, labelled, scanned, traversed, count, tally, words, renamed}
use Rattle.graphs.specs.Depth.{DepthFirst}
use Rattle.graphs.specs.Breadth.{BreadthFirst}
use Rattle.graphs.specs.Search.{recorder, search, depth_first, drain, breadth_first}
use Rattle.graphs.specs.Results.{marks_first, marks_left, parent_word, increment_word, increment_left}
use Rattle.graphs.specs.Circles.{Circular, circular_of}
use Rattle.graphs.specs.Image.{Image, SameLinks, edges_of, to, graph_of}
use Rattle.graphs.specs.ArrayForm.{ArrayForm, array_graph, array_of, numbers_of, array_left, numbers_left}
use Rattle.graphs.specs.Refusals.{Lent, first_of, refuse, vertices_out, edges_out, vertex_out, after_out, tail_out, list_out, short, size_refusals, image_areas, image_refusals, rises, blanks_out, start_blank, sound, image_number, search_number, array_number, array_search_number}

-- A search may begin: a graph, vertices labelled beforehand, and a start that is not among them.
pub record Ready (G : Graph) (before : List ℕ) (start : ℕ) : Type 0 where
  pub closed : Closed G
  pub vertices : (x : ℕ) → Mem x before → Vertex G.size x
  pub once : NoDup before
  pub start_vertex : Vertex G.size start
  pub start_fresh : Mem start before → ⊥

-- Every element reachable from the start is labelled, once, and scanned, once, and no other; of each element labelled, every
-- reference is traversed as often as it stands on the element's list, and no other.
pub record Complete (G : Graph) (before : List ℕ) (start : ℕ) (h : History) : Type 0 where
  pub labels : Reached G before start (labelled h)
  pub scans : Reached G before start (scanned h)
  pub edges : (r : ℕ) → count_in r (traversed h) ≡ sum_of (λ u. count_in r (G.out u)) (labelled h)

-- h is the one depth-first search, whatever the fuel, if that is enough; it is complete, each advance has its retreat, and each element
-- labelled but the start has its tree advance.
pub record DepthClaim (G : Graph) (before : List ℕ) (start : ℕ) (h : History) : Type 0 where
  pub one : (i : History) → DepthFirst G before start i ↔ (i ≡ h)
  pub fuel : (k : ℕ) → G.size ≤ k → search (recorder before) G k start [] ≡ h
  pub complete : Complete G before start h
  pub advances : count advance_tree h + count advance_nontree h ≡ met G (labelled h)
  pub tree_pairs : count advance_tree h ≡ count retreat_tree h
  pub nontree_pairs : count advance_nontree h ≡ count retreat_nontree h
  pub tree_labels : suc (count advance_tree h) ≡ count label h
  pub label_scans : count scan h ≡ count label h
  pub no_traverses : count traverse h ≡ 0

-- h is the one breadth-first search, whatever the fuel, if that is enough; it is complete, and scans in the order of labelling.
pub record BreadthClaim (G : Graph) (before : List ℕ) (start : ℕ) (h : History) : Type 0 where
  pub one : (i : History) → BreadthFirst G before start i ↔ (i ≡ h)
  pub fuel : (k : ℕ) → G.size ≤ k → drain (recorder before) G k (start ∷ []) ([] ▸ event label 0 start) ≡ h
  pub complete : Complete G before start h
  pub in_order : scanned h ≡ labelled h
  pub traverses : count traverse h ≡ met G (labelled h)

-- Demand 2, depth-first: of every graph and start.
abbrev pub DepthFirstClaim : Type 0
DepthFirstClaim = (G : Graph) (before : List ℕ) (start : ℕ) → Ready G before start → DepthClaim G before start (depth_first G before start)

-- Demand 2, breadth-first.
abbrev pub BreadthFirstClaim : Type 0
BreadthFirstClaim = (G : Graph) (before : List ℕ) (start : ℕ) → Ready G before start → BreadthClaim G before start (breadth_first G before start)

-- No event of any kind names a vertex labelled beforehand. (So none stands in the queue, which holds the vertices labelled.)
abbrev pub Unnamed : List ℕ → History → Type 0
Unnamed before h = (k : Kind) (x : ℕ) → Mem x before → Mem x (named k h) → ⊥

-- Depth-first, the vertices labelled beforehand have no event of their own, every reference to one is nontree, and in the parent and
-- increment areas they count as unreached.
pub record Untouched (G : Graph) (before : List ℕ) (h : History) : Type 0 where
  pub no_event : Unnamed before h
  pub nontree : (r : ℕ) → Mem (G.to r) before → count_in r (edges_by advance_nontree h) ≡ count_in r (traversed h)
  pub parent : (x : ℕ) → Mem x before → parent_word G h x ≡ 0
  pub increment : (x : ℕ) → Mem x before → increment_word G h x ≡ 0

-- Of every graph, vertices labelled beforehand and start, in either search.
abbrev pub UntouchedClaim : Type 0
UntouchedClaim = (G : Graph) (before : List ℕ) (start : ℕ) → Ready G before start → Untouched G before (depth_first G before start) × Unnamed before (breadth_first G before start)

-- Of every graph, vertices labelled beforehand and start, the figure of the whole depth-first search is 1 exactly where some vertex reached
-- has a path of one edge or more back to itself, off the vertices labelled beforehand, and else 0.
abbrev pub CircularClaim : Type 0
CircularClaim = (G : Graph) (before : List ℕ) (start : ℕ) → Ready G before start
    → ((circular_of G (depth_first G before start) ≡ 1) ↔ Circular G before start) × (circular_of G (depth_first G before start) ≤ 1)

-- A search is taken exactly where the profile is sound and the areas are as long as stated.
abbrev pub SoundClaim : Type 0
SoundClaim = (g : Image) (before : List ℕ) (start : ℕ) (areas : List Lent)
    → (search_number g before start areas ≡ 0) ↔ ((sound g before start ≡ true) × (short (image_areas g ++ areas) ≡ false))

-- An image that the checker takes is a sound profile with every list and every start off it that are in order.
abbrev pub CheckedClaim : Type 0
CheckedClaim = (g : Image) (before : List ℕ) (start : ℕ) (areas : List Lent) → (search_number g before start areas ≡ 0)
    ↔ ((image_number g areas ≡ 0) × (is_vertex g.n start ≡ true) × (blanks_out g.n before ≡ false) × (start_blank start before ≡ false))

-- Each number of a list is below all that follow it.
abbrev pub StrictlyRising : List ℕ → Type 0
StrictlyRising [] = Unit {0}
StrictlyRising (x ∷ l) = ((y : ℕ) → Mem y l → x < y) × StrictlyRising l

-- The test of a list of elements passes exactly where it is strictly rising and within 1 to n.
abbrev pub RisesClaim : Type 0
RisesClaim = (n : ℕ) (l : List ℕ) → (rises n 0 l ≡ true) ↔ (StrictlyRising l × ((x : ℕ) → Mem x l → Vertex n x))

-- With no element on the blank, the number of a search, what is sound, and the marks are as document 01 alone has them.
pub record NoBlanksClaim : Type 0 where
  pub searches : (g : Image) (start : ℕ) (areas : List Lent)
      → search_number g [] start areas ≡ first_of (size_refusals g.n g.m (image_areas g ++ areas) ++ refuse 4 (vertex_out g.n start) ∷ image_refusals g)
  pub array_searches : (a : ArrayForm) (start : ℕ) (areas : List Lent) → array_search_number a [] start areas ≡ array_number a start areas
  pub sounds : (g : Image) (start : ℕ)
      → sound g [] start ≡ not (vertices_out g.n || (edges_out g.m || (vertex_out g.n start || (after_out g || (tail_out g.n g.m g.tail || list_out g)))))
  pub first : (k : ℕ) (area : List ℕ) → marks_first k [] area ≡ cleared k area
  pub marks : (k : ℕ) (h : History) (area : List ℕ) → marks_left k [] h area ≡ filled (λ x. rank x (labelled h)) k area

-- ---- the stated words alone
-- Two images get the same numbers, where what each call is lent besides is as long as stated or is not, alike; where they are taken they have
-- the same array form, the same elements reached and the same searches.
pub record Alike (g h : Image) : Type 0 where
  pub checked : (areas others : List Lent) → short areas ≡ short others → image_number g areas ≡ image_number h others
  pub number : (before : List ℕ) (start : ℕ) (areas others : List Lent) → short areas ≡ short others → search_number g before start areas ≡ search_number h before start others
  pub array : (areas : List Lent) → image_number g areas ≡ 0 → (array_of g ≡ array_of h) × (numbers_of g ≡ numbers_of h)
  pub reached : (before : List ℕ) (start : ℕ) (areas : List Lent) → search_number g before start areas ≡ 0 → (vs : List ℕ) → Reached (graph_of g) before start vs → Reached (graph_of h) before start vs
  pub depth : (before : List ℕ) (start : ℕ) (areas : List Lent) → search_number g before start areas ≡ 0 → depth_first (graph_of g) before start ≡ depth_first (graph_of h) before start
  pub breadth : (before : List ℕ) (start : ℕ) (areas : List Lent) → search_number g before start areas ≡ 0 → breadth_first (graph_of g) before start ≡ breadth_first (graph_of h) before start

-- What is checked, converted and searched depends on the stated words alone: whatever the words, and whatever the areas hold past them.
abbrev pub SameLinksClaim : Type 0
SameLinksClaim = (g h : Image) → SameLinks g h → Alike g h

-- Of a sound profile, the events of either search fit 6 (n + m) words.
abbrev pub RoomClaim : Type 0
RoomClaim = (g : Image) (before : List ℕ) (start : ℕ) (areas : List Lent) → search_number g before start areas ≡ 0
    → (length (words (reverse (depth_first (graph_of g) before start))) ≤ 6 * (g.n + g.m)) × (length (words (reverse (breadth_first (graph_of g) before start))) ≤ 6 * (g.n + g.m))

-- So do those of a depth-first search of an array form.
abbrev pub ArrayRoomClaim : Type 0
ArrayRoomClaim = (a : ArrayForm) (before : List ℕ) (start : ℕ) (areas : List Lent) → array_search_number a before start areas ≡ 0
    → length (words (reverse (depth_first (array_graph a) before start))) ≤ 6 * (a.n + a.m)

-- The seven counts add up to the number of events.
abbrev pub TallyClaim : Type 0
TallyClaim = (h : History) → sum_of (λ k. k) (tally h) ≡ length h

-- The array form is the same graph as the image, up to the list of edge numbers: position p, named n + p, is the edge that stands at p
-- in that list. Every query of it, and every search, is taken.
pub record SameGraph (g : Image) (a : ArrayForm) (numbers : List ℕ) : Type 0 where
  pub same_n : a.n ≡ g.n
  pub same_m : a.m ≡ g.m
  pub taken : (x : ℕ) → Vertex g.n x → array_number a x [] ≡ 0
  pub lists : (u : ℕ) → Vertex g.n u → map (λ p. at g.n numbers p) ((array_graph a).out u) ≡ edges_of g u
  pub targets : (p : ℕ) → Edge g.n g.m p → (array_graph a).to p ≡ to g (at g.n numbers p)

-- So is what a conversion leaves in any areas.
abbrev pub ArrayClaim : Type 0
ArrayClaim = (g : Image) (areas : List Lent) (firsts tails numbers : List ℕ) → image_number g areas ≡ 0 → SameGraph g (array_left g firsts tails) (numbers_left g numbers)

-- The two searches are the same: the list of edge numbers turns the events of the array form's into those of the image's; labels, tally
-- and increments are equal as they stand.
pub record SameSearch (g : Image) (a : ArrayForm) (numbers before : List ℕ) (start : ℕ) : Type 0 where
  pub events : renamed (at g.n numbers) (depth_first (array_graph a) before start) ≡ depth_first (graph_of g) before start
  pub marks : (k : ℕ) (area : List ℕ) → marks_left k before (depth_first (array_graph a) before start) area ≡ marks_left k before (depth_first (graph_of g) before start) area
  pub tallies : tally (depth_first (array_graph a) before start) ≡ tally (depth_first (graph_of g) before start)
  pub increments : (area : List ℕ) → increment_left (array_graph a) (depth_first (array_graph a) before start) area ≡ increment_left (graph_of g) (depth_first (graph_of g) before start) area

-- So they are wherever the two forms are the same graph.
abbrev pub RenamedClaim : Type 0
RenamedClaim = (g : Image) (areas : List Lent) (a : ArrayForm) (numbers before : List ℕ) (start : ℕ)
    → image_number g areas ≡ 0 → SameGraph g a numbers → Vertex g.n start → SameSearch g a numbers before start

-- The events of either search of a sound profile fit 6 (n + m) words.
-- A depth-first search has two events for each vertex labelled and each edge met, a breadth-first one no more; met are at most m.
use Rattle.std.proofs.Common.{◌≡◌, refl, List, [], ◌∷◌, reverse, ℕ, ◌+◌, ◌*◌, ◌≤◌, arith, length}
use lib.ListN.{length-reverse}
use Rattle.graphs.specs.Nodes.{Vertex}
use Rattle.graphs.specs.Graph.{Graph, Closed, Reached, met}
use Rattle.graphs.specs.Events.{Event, event, History, words, labelled}
use Rattle.graphs.specs.Search.{depth_first, breadth_first}
use Rattle.graphs.specs.Image.{Image, graph_of}
use Rattle.graphs.specs.ArrayForm.{ArrayForm, array_graph}
use Rattle.graphs.specs.Claims.{Ready, RoomClaim, ArrayRoomClaim}
use Rattle.graphs.proofs.Labels.{Labels, labels-few, reached-labels}
use Rattle.graphs.proofs.Sound.{Sound, profile_sound}
use Rattle.graphs.proofs.ArraySound.{ArraySound, array-search-sound}
use Rattle.graphs.proofs.Blanks.{Listed}
use Rattle.graphs.proofs.Owned.{Owned, met-most, image-owned, array_owned}
use Rattle.graphs.proofs.Depth.{depth-first, depth-length}
use Rattle.graphs.proofs.Breadth.{breadth-first, breadth-length}

pub words-length : (es : List Event) → length (words es) ≡ 3 * length es
words-length [] = refl
words-length (event k r u ∷ es) = let h = words-length es in omega arith

-- A search may begin at any vertex that is not on the blank.
pub closed-ready : {G : Graph} → Closed G → (before : List ℕ) (start : ℕ) → Vertex G.size start → Listed G.size before start → Ready G before start
closed-ready C before start hs B = record { closed = C; vertices = B.vertices; once = B.once; start_vertex = hs; start_fresh = B.start_fresh }

owned-ready : {G : Graph} {m : ℕ} → Owned G m → (before : List ℕ) (start : ℕ) → Vertex G.size start → Listed G.size before start → Ready G before start
owned-ready O = closed-ready O.target

pub profile-ready : (g : Image) → Sound g → (before : List ℕ) (start : ℕ) → Vertex g.n start → Listed g.n before start → Ready (graph_of g) before start
profile-ready g S = owned-ready (image-owned g S)

pub array-ready : (a : ArrayForm) → ArraySound a → (before : List ℕ) (start : ℕ) → Vertex a.n start → Listed a.n before start → Ready (array_graph a) before start
array-ready a S = owned-ready (array_owned a S)

-- Labelled vertices and edges met are at most n and m.
module _ {G : Graph} {m : ℕ} (O : Owned G m) (before : List ℕ) (start : ℕ) (hs : Vertex G.size start) (B : Listed G.size before start) where
  fits-room : (h : History) → Reached G before start (labelled h) → length h ≤ 2 * (met G (labelled h) + length (labelled h)) → length (words (reverse h)) ≤ 6 * (G.size + m)
  fits-room h R k =
      let L : Labels G.size (labelled h) = reached-labels G before start (owned-ready O before start hs B) (labelled h) R in
      omega (arith, words-length (reverse h), length-reverse h, labels-few G.size (labelled h) L, met-most O (labelled h) L)

  pub depth-room : length (words (reverse (depth_first G before start))) ≤ 6 * (G.size + m)
  depth-room = let R = owned-ready O before start hs B in fits-room (depth_first G before start) (depth-first G before start R).complete.labels (omega (arith, depth-length G before start R))

  pub breadth-room : length (words (reverse (breadth_first G before start))) ≤ 6 * (G.size + m)
  breadth-room = let R = owned-ready O before start hs B in fits-room (breadth_first G before start) (breadth-first G before start R).complete.labels (omega (arith, breadth-length G before start R))

pub room : RoomClaim
room g before start areas h =
    let P = profile_sound g before start areas h in
    let O = image-owned g P.sound in
    (depth-room O before start P.start_vertex P.listed, breadth-room O before start P.start_vertex P.listed)

pub array-room : ArrayRoomClaim
array-room a before start areas h = let P = array-search-sound a before start areas h in depth-room (array_owned a P.sound) before start P.start_vertex P.listed

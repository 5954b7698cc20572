-- The two searches, executable: over any state that can be asked whether a vertex is labelled, can label one and can take an event.
use Rattle.std.specs.Prelude.{Bool, true, false, List, [], ◌∷◌, ◌++◌, ℕ, zero, suc}
use Rattle.lists.specs.Members.{memb}
use Rattle.graphs.specs.Graph.{Graph}
use Rattle.graphs.specs.Events.{Event, event, label, advance_tree, advance_nontree, retreat_nontree, retreat_tree, scan, traverse, History, ◌▸◌, known}

-- What a search asks of its state.
pub record Searcher (S : Type 0) : Type 0 where
  pub seen : ℕ → S → Bool
  pub mark : ℕ → S → S
  pub emit : Event → S → S

-- The state that is only the events so far.
abbrev pub recorder : List ℕ → Searcher History
recorder before = record { seen = λ x h. memb x (known before h); mark = λ x h. h; emit = λ x h. h ▸ x }

-- ---- depth-first
-- Traversing reference r, which leaves u. The flag: it leads to a labelled element. `rec` searches an element.
abbrev pub cross : {S : Type 0} → Searcher S → Graph → (ℕ → S → S) → ℕ → ℕ → Bool → S → S
cross W G rec u r true s = W.emit (event retreat_nontree r u) (W.emit (event advance_nontree r u) s)
cross W G rec u r false s = W.emit (event retreat_tree r u) (rec (G.to r) (W.emit (event advance_tree r u) s))

-- Traversing references of u, in order.
unfoldable pub walk_edges : {S : Type 0} → Searcher S → Graph → (ℕ → S → S) → ℕ → List ℕ → S → S
walk_edges W G rec u [] s = s
walk_edges W G rec u (r ∷ rs) s = walk_edges W G rec u rs (cross W G rec u r (W.seen (G.to r) s) s)

-- Searching u, to a depth of at most k.
unfoldable pub search : {S : Type 0} → Searcher S → Graph → ℕ → ℕ → S → S
search W G zero u s = s
search W G (suc k) u s = W.emit (event scan 0 u) (walk_edges W G (search W G k) u (G.out u) (W.emit (event label 0 u) (W.mark u s)))

-- The events of the depth-first search from start. A depth of as many as there are vertices is enough.
unfoldable pub depth_first : Graph → List ℕ → ℕ → History
depth_first G before start = search (recorder before) G G.size start []

-- ---- breadth-first
-- The vertices labelled but not yet scanned, the least recently labelled first, beside the state.
pub record Front (S : Type 0) : Type 0 where
  pub queue : List ℕ
  pub state : S

-- An edge leads to x. The flag: x is labelled.
abbrev pub arrive : {S : Type 0} → Searcher S → ℕ → Bool → Front S → Front S
arrive W x true f = f
arrive W x false f = record { queue = f.queue ++ (x ∷ []); state = W.emit (event label 0 x) (W.mark x f.state) }

-- Traversing r, which leaves v.
abbrev pub traverse_one : {S : Type 0} → Searcher S → Graph → ℕ → ℕ → Front S → Front S
traverse_one W G v r f = arrive W (G.to r) (W.seen (G.to r) f.state) (record { queue = f.queue; state = W.emit (event traverse r v) f.state })

-- Traversing references of v, in order.
unfoldable pub traverse_all : {S : Type 0} → Searcher S → Graph → ℕ → List ℕ → Front S → Front S
traverse_all W G v [] f = f
traverse_all W G v (r ∷ rs) f = traverse_all W G v rs (traverse_one W G v r f)

-- Scanning what waits in the queue, at most k vertices.
unfoldable pub drain : {S : Type 0} → Searcher S → Graph → ℕ → List ℕ → S → S
drain W G zero q s = s
drain W G (suc k) [] s = s
drain W G (suc k) (v ∷ q) s = let f = traverse_all W G v (G.out v) (record { queue = q; state = s }) in drain W G k f.queue (W.emit (event scan 0 v) f.state)

-- The events of the breadth-first search from start. As many scans as there are vertices are enough.
unfoldable pub breadth_first : Graph → List ℕ → ℕ → History
breadth_first G before start = drain (recorder before) G G.size (start ∷ []) ([] ▸ event label 0 start)

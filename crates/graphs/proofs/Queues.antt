-- A breadth-first search as a queue runs it: the vertices that wait, the one being scanned, and what is left of the search from there.
-- Each edge traversed and each scan ended keeps what is left to do equal to the whole search.
use Rattle.std.proofs.Common.{◌≡◌, refl, sym, ap, ◌∙◌, Bool, true, false, List, [], ◌∷◌, ◌++◌, ℕ, zero, suc, ◌+◌, ◌≤◌, arith, length}
use mathlib.Core.List.{IsSuffix, suffix_refl, IsSuffix-trans}
use Rattle.lists.specs.Members.{here, memb}
use Rattle.lists.proofs.Members.{memb-true, memb-false}
use Rattle.graphs.specs.Graph.{Graph, Closed}
use Rattle.graphs.specs.Events.{event, label, scan, traverse, History, ◌▸◌, labelled, scanned, known}
use Rattle.graphs.specs.Search.{recorder, Front, arrive, traverse_all, drain, breadth_first}
use Rattle.graphs.specs.Claims.{Ready}
use Rattle.graphs.proofs.DepthGrowth.{suffix-then}
use Rattle.graphs.proofs.Breadth.{Kept, pass, join, begin, few, first}
use Rattle.graphs.proofs.Places.{suffix-length}

-- The queue and the events, beside each other.
abbrev pub front : List ℕ → History → Front History
front q h = record { queue = q; state = h }

-- Traversing edges of v.
abbrev pub across : Graph → List ℕ → ℕ → List ℕ → List ℕ → History → Front History
across G before v rest q h = traverse_all (recorder before) G v rest (front q h)

-- What is left once v is scanned: at most k vertices more.
abbrev pub draining : Graph → List ℕ → ℕ → ℕ → Front History → History
draining G before k v f = drain (recorder before) G k f.queue (f.state ▸ event scan 0 v)

-- After the events h the vertices q wait, the least recently labelled first.
pub record Waiting (G : Graph) (before : List ℕ) (start : ℕ) (h : History) (q : List ℕ) : Type 0 where
  pub kept : Kept G before start (scanned h) [] q (labelled h)
  pub fuel : ℕ
  pub enough : G.size ≤ fuel + length (scanned h)
  pub future : drain (recorder before) G fuel q h ≡ breadth_first G before start

-- v is being scanned, its edges `rest` are still to be traversed, and the vertices q wait behind it.
pub record Scanning (G : Graph) (before : List ℕ) (start : ℕ) (h : History) (v : ℕ) (rest q : List ℕ) : Type 0 where
  pub kept : Kept G before start (v ∷ scanned h) rest q (labelled h)
  pub fuel : ℕ
  pub enough : G.size ≤ suc fuel + length (scanned h)
  pub future : draining G before fuel v (across G before v rest q h) ≡ breadth_first G before start

-- ---- it only adds
arrive-adds : (before : List ℕ) (x : ℕ) (b : Bool) (f : Front History) → IsSuffix f.state (arrive (recorder before) x b f).state
arrive-adds before x true f = suffix_refl f.state
arrive-adds before x false f = suffix-then (event label 0 x) (suffix_refl f.state)

across-adds : (G : Graph) (before : List ℕ) (v : ℕ) (rest : List ℕ) (f : Front History) → IsSuffix f.state (traverse_all (recorder before) G v rest f).state
unfolding traverse_all
across-adds G before v [] f = suffix_refl f.state
across-adds G before v (r ∷ rs) f =
    let h : History = f.state ▸ event traverse r v in
    let i : Front History = arrive (recorder before) (G.to r) (memb (G.to r) (known before f.state)) (front f.queue h) in
    let j : Front History = traverse_all (recorder before) G v rs i in
    IsSuffix-trans {l₁ = f.state} {l₂ = i.state} {l₃ = j.state}
    (IsSuffix-trans {l₁ = f.state} {l₂ = h} {l₃ = i.state} (suffix-then (event traverse r v) (suffix_refl f.state)) (arrive-adds before (G.to r) (memb (G.to r) (known before f.state)) (front f.queue h)))
    (across-adds G before v rs i)

drain-adds : (G : Graph) (before : List ℕ) (k : ℕ) (q : List ℕ) (h : History) → IsSuffix h (drain (recorder before) G k q h)
unfolding drain
drain-adds G before zero q h = suffix_refl h
drain-adds G before (suc k) [] h = suffix_refl h
drain-adds G before (suc k) (v ∷ q) h =
    let f : Front History = across G before v (G.out v) q h in
    let j : History = f.state ▸ event scan 0 v in
    IsSuffix-trans {l₁ = h} {l₂ = j} {l₃ = drain (recorder before) G k f.queue j}
    (suffix-then (event scan 0 v) (across-adds G before v (G.out v) (front q h)))
    (drain-adds G before k f.queue j)

draining-adds : (G : Graph) (before : List ℕ) (k v : ℕ) (rest q : List ℕ) (h : History) → suc (length h) ≤ length (draining G before k v (across G before v rest q h))
draining-adds G before k v rest q h =
    let f : Front History = across G before v rest q h in
    omega (arith, suffix-length (across-adds G before v rest (front q h)), suffix-length (drain-adds G before k f.queue (f.state ▸ event scan 0 v)))

module _ (G : Graph) (before : List ℕ) (start : ℕ) where
  -- The start is labelled, and waits.
  pub queue-first : Ready G before start → Waiting G before start ([] ▸ event label 0 start) (start ∷ [])
  unfolding breadth_first
  queue-first R = record { kept = first G before start R; fuel = G.size; enough = omega arith; future = refl }

  -- The first that waits begins to be scanned.
  pub queue-begin : Closed G → {h : History} {v : ℕ} {q : List ℕ} → Waiting G before start h (v ∷ q) → Scanning G before start h v (G.out v) q
  unfolding drain
  queue-begin C {h} {v} {q} W = go W.fuel W.enough W.future
    where
      go : (k : ℕ) → G.size ≤ k + length (scanned h) → drain (recorder before) G k (v ∷ q) h ≡ breadth_first G before start → Scanning G before start h v (G.out v) q
      go zero enough future = absurd (let l = few G before start W.kept in omega arith)
      go (suc k) enough future = record { kept = begin G before start v C W.kept; fuel = k; enough = enough; future = future }

  module _ {h : History} {v : ℕ} {q : List ℕ} where
    -- Of the next edge it is known whether it leads to a labelled vertex.
    arriving : {r : ℕ} {rest : List ℕ} (S : Scanning G before start h v (r ∷ rest) q) (b : Bool) → memb (G.to r) (known before h) ≡ b → draining G before S.fuel v (traverse_all (recorder before) G v rest (arrive (recorder before) (G.to r) b (front q (h ▸ event traverse r v)))) ≡ breadth_first G before start
    unfolding traverse_all
    arriving {r} {rest} S b e = ap (λ (f : Bool). draining G before S.fuel v (traverse_all (recorder before) G v rest (arrive (recorder before) (G.to r) f (front q (h ▸ event traverse r v))))) (sym e) ∙ S.future

    -- It does: it is traversed.
    pub queue-pass : {r : ℕ} {rest : List ℕ} → Scanning G before start h v (r ∷ rest) q → memb (G.to r) (known before h) ≡ true → Scanning G before start (h ▸ event traverse r v) v rest q
    queue-pass {r} {rest} S e = record { kept = pass G before start r rest (memb-true (G.to r) (known before h) e) S.kept; fuel = S.fuel; enough = S.enough; future = arriving S true e }

    -- It does not: besides, that vertex is labelled, and waits behind the others.
    pub queue-join : {r : ℕ} {rest : List ℕ} → Scanning G before start h v (r ∷ rest) q → memb (G.to r) (known before h) ≡ false → Scanning G before start (h ▸ event traverse r v ▸ event label 0 (G.to r)) v rest (q ++ (G.to r ∷ []))
    queue-join {r} {rest} S e = record { kept = pass G before start r rest (here refl) (join G before start r rest (memb-false (G.to r) (known before h) e) S.kept); fuel = S.fuel; enough = S.enough; future = arriving S false e }

    -- No edge is left: v is scanned.
    pub queue-scan : Scanning G before start h v [] q → Waiting G before start (h ▸ event scan 0 v) q
    unfolding traverse_all
    queue-scan S = record { kept = S.kept; fuel = S.fuel; enough = omega (arith, S.enough); future = S.future }

    -- ---- events still to come
    pub queue-room : {rest : List ℕ} → Scanning G before start h v rest q → suc (length h) ≤ length (breadth_first G before start)
    queue-room {rest} S = omega (arith, draining-adds G before S.fuel v rest q h, ap length S.future)

  -- Nothing waits: the search has ended.
  pub queue-end : {h : History} → Waiting G before start h [] → h ≡ breadth_first G before start
  unfolding drain
  queue-end {h} W = go W.fuel W.future
    where
      go : (k : ℕ) → drain (recorder before) G k [] h ≡ breadth_first G before start → h ≡ breadth_first G before start
      go zero e = e
      go (suc k) e = e

  -- While an edge is ahead, its events and a scan are still to come.
  pub queue-room-edge : {h : History} {v r : ℕ} {rest q : List ℕ} → Scanning G before start h v (r ∷ rest) q → memb (G.to r) (known before h) ≡ false → suc (suc (suc (length h))) ≤ length (breadth_first G before start)
  queue-room-edge S e = queue-room (queue-join S e)

-- The moves of a depth-first search without recursion: each writes its two events and leads to the next place.
-- What is left of the search from a place leaves room for them; the two walks add what they keep besides.
use Rattle.std.proofs.Common.{◌≡◌, refl, sym, ap, ◌∙◌, subst, true, false, List, [], ◌∷◌, ℕ, suc, ◌+◌, ◌≤◌, ◌<◌, arith, length}
use mathlib.Core.List.{IsSuffix-trans}
use Rattle.lists.specs.Members.{Mem, here, there, memb}
use Rattle.lists.proofs.Tests.{clash}
use Rattle.lists.proofs.Members.{mem-right, memb-false}
use Rattle.graphs.specs.Nodes.{Vertex}
use Rattle.graphs.specs.Graph.{Graph}
use Rattle.graphs.specs.Events.{event, label, advance_tree, advance_nontree, retreat_tree, retreat_nontree, scan, History, ◌▸◌, known, labelled}
use Rattle.graphs.specs.Search.{depth_first}
use Rattle.graphs.specs.Claims.{Ready}
use Rattle.graphs.proofs.DepthGrowth.{suffix-then}
use Rattle.graphs.proofs.Places.{Frame, frame, walk, unwind, edges-add, unwind-adds, suffix-length, Scene, scene-first, scene-edge, scene-tree, scene-nontree, scene-retreat, scene-end, scene-room-edge, scene-room-retreat}
use Rattle.graphs.proofs.Trees.{all-trees}
use Rattle.walks.specs.Writing.{total, Held, Roomy}
use Rattle.walks.specs.Moves.{Underway}
use Rattle.walks.proofs.Writing.{Emits, Puts, Starts, held-total, held-lengths, emitted, labelling, beginning}

module _ {G : Graph} {nodes : ℕ} {before : List ℕ} {start : ℕ} {marks₀ events₀ : List ℕ} where
  -- The start is labelled.
  module _ (R : Ready G before start) (within : G.size ≤ nodes) (roomy : Roomy nodes (depth_first G before start) marks₀ events₀) where
    pub begun : {marks events t : List ℕ} → Starts nodes before start marks₀ events₀ marks events t
        → Underway G nodes before start ([] ▸ event label 0 start) start [] (G.out start) [] marks₀ events₀ marks events t
    begun w =
        let v = R.start_vertex in
        let S = scene-first G before start R in
        record { ready = R; within = within; roomy = roomy; scene = S; trees = (λ e. here refl, tt); held = beginning roomy (omega (arith, ap length S.future)) start R.start_fresh v.0 (omega arith) w }

  -- The areas keep their lengths.
  pub move-lengths : {h : History} {v : ℕ} {done rest : List ℕ} {s : List Frame} {marks events t : List ℕ} → Underway G nodes before start h v done rest s marks₀ events₀ marks events t
      → (length marks ≡ length marks₀) × (length events ≡ length events₀)
  move-lengths {h} {v} {done} {rest} {s} U =
      let j : History = walk G before v rest h ▸ event scan 0 v in
      let adds = IsSuffix-trans {l₁ = h} {l₂ = j} {l₃ = unwind G before s j} (suffix-then (event scan 0 v) (edges-add G before v rest h)) (unwind-adds G before s j) in
      held-lengths U.held U.roomy (omega (arith, suffix-length adds, ap length U.scene.future))

  -- An edge r is ahead of v.
  module _ {h : History} {v r : ℕ} {done rest : List ℕ} {s : List Frame} {marks events t : List ℕ} (U : Underway G nodes before start h v done (r ∷ rest) s marks₀ events₀ marks events t) where
    room-ahead : suc (suc (length h)) ≤ length (depth_first G before start)
    room-ahead = scene-room-edge G before start U.ready.closed U.scene

    pub target-vertex : Vertex G.size (G.to r)
    target-vertex = U.ready.closed v r U.scene.placed.vertex (scene-edge G before start U.scene)

    -- Two events more are few.
    pub ahead-few : 2 + total t ≤ 10000
    ahead-few = omega (arith, room-ahead, held-total U.held, U.roomy.few)

    -- It leads to a labelled vertex.
    module _ {t' events' : List ℕ} (one : Emits 3 r v events t events' t') where
      passing : Held nodes before (h ▸ event advance_nontree r v) marks₀ events₀ marks events' t'
      passing = emitted U.held U.roomy (omega (arith, room-ahead)) advance_nontree r v refl one

      module _ {t'' events'' : List ℕ} (two : Emits 4 r v events' t' events'' t'') where
        passed-held : Held nodes before (h ▸ event advance_nontree r v ▸ event retreat_nontree r v) marks₀ events₀ marks events'' t''
        passed-held = emitted passing U.roomy room-ahead retreat_nontree r v refl two

        pub pass-total : total t'' ≡ 2 + total t
        pass-total = omega (arith, held-total U.held, held-total passed-held)

        pub pass-goes : memb (G.to r) (known before h) ≡ true → Underway G nodes before start (h ▸ event advance_nontree r v ▸ event retreat_nontree r v) v (r ∷ done) rest s marks₀ events₀ marks events'' t''
        pass-goes e = record {
          ready = U.ready;
          within = U.within;
          roomy = U.roomy;
          scene = scene-nontree G before start U.ready.closed U.scene e;
          trees = (λ q. clash (sym q), (λ q. clash (sym q), U.trees));
          held = passed-held;
        }

    -- It leads to a vertex x that is not labelled.
    module _ {t' events' : List ℕ} (one : Emits 2 r v events t events' t') where
      entering-held : Held nodes before (h ▸ event advance_tree r v) marks₀ events₀ marks events' t'
      entering-held = emitted U.held U.roomy (omega (arith, room-ahead)) advance_tree r v refl one

      module _ (x : ℕ) (is : G.to r ≡ x) where
        target-low : 0 < x
        target-low = subst (λ (y : ℕ). 0 < y) is target-vertex.0

        target-high : x ≤ nodes
        target-high = subst (λ (y : ℕ). y ≤ nodes) is (let a = target-vertex in let b = U.within in omega arith)

        module _ {t'' marks'' events'' : List ℕ} (two : Puts x marks events' t' marks'' events'' t'') where
          off : memb x (known before h) ≡ false → Mem x before → ⊥
          off e m = memb-false x (known before h) e (mem-right (labelled h) m)

          entered-held : memb x (known before h) ≡ false → Held nodes before (h ▸ event advance_tree r v ▸ event label 0 x) marks₀ events₀ marks'' events'' t''
          entered-held e = labelling entering-held U.roomy room-ahead x (off e) target-low target-high two

          pub tree-total : memb x (known before h) ≡ false → total t'' ≡ 2 + total t
          tree-total e = omega (arith, held-total U.held, held-total (entered-held e))

          pub tree-goes : memb x (known before h) ≡ false → Underway G nodes before start (h ▸ event advance_tree r v ▸ event label 0 x) x [] (G.out x) (frame v done r rest ∷ s) marks₀ events₀ marks'' events'' t''
          tree-goes e = record {
            ready = U.ready;
            within = U.within;
            roomy = U.roomy;
            scene = subst (λ (y : ℕ). Scene G before start (h ▸ event advance_tree r v ▸ event label 0 y) y [] (G.out y) (frame v done r rest ∷ s)) is (scene-tree G before start U.ready.closed U.scene (ap (λ (y : ℕ). memb y (known before h)) is ∙ e));
            trees = (λ q. clash (sym q), (λ q. there (U.scene.seen v (here refl)), all-trees (λ y u m. there m) h U.trees));
            held = entered-held e;
          }

  -- No edge is ahead, and the topmost frame is that of u, left by r.
  module _ {h : History} {v u r : ℕ} {done du ru : List ℕ} {s : List Frame} {marks events t : List ℕ} (U : Underway G nodes before start h v done [] (frame u du r ru ∷ s) marks₀ events₀ marks events t) where
    room_back : suc (suc (length h)) ≤ length (depth_first G before start)
    room_back = scene-room-retreat G before start U.scene

    pub back-few : 2 + total t ≤ 10000
    back-few = omega (arith, room_back, held-total U.held, U.roomy.few)

    module _ {t' events' : List ℕ} (one : Emits 6 0 v events t events' t') where
      scanned-held : Held nodes before (h ▸ event scan 0 v) marks₀ events₀ marks events' t'
      scanned-held = emitted U.held U.roomy (omega (arith, room_back)) scan 0 v refl one

      module _ {t'' events'' : List ℕ} (two : Emits 5 r u events' t' events'' t'') where
        back-held : Held nodes before (h ▸ event scan 0 v ▸ event retreat_tree r u) marks₀ events₀ marks events'' t''
        back-held = emitted scanned-held U.roomy room_back retreat_tree r u refl two

        pub back_total : total t'' ≡ 2 + total t
        back_total = omega (arith, held-total U.held, held-total back-held)

        pub back-goes : Underway G nodes before start (h ▸ event scan 0 v ▸ event retreat_tree r u) u (r ∷ du) ru s marks₀ events₀ marks events'' t''
        back-goes = record {
          ready = U.ready;
          within = U.within;
          roomy = U.roomy;
          scene = scene-retreat G before start U.scene;
          trees = (λ q. clash (sym q), (λ q. clash (sym q), U.trees));
          held = back-held;
        }

  -- No edge is ahead, and there is no frame: the scan of the start is the last event.
  module _ {h : History} {v : ℕ} {done : List ℕ} {marks events t : List ℕ} (U : Underway G nodes before start h v done [] [] marks₀ events₀ marks events t) where
    pub end_is : (h ▸ event scan 0 start) ≡ depth_first G before start
    end_is = ap (λ (y : ℕ). h ▸ event scan 0 y) (sym U.scene.placed.above) ∙ scene-end G before start U.scene

    pub end-held : {t' events' : List ℕ} → Emits 6 0 start events t events' t' → Held nodes before (depth_first G before start) marks₀ events₀ marks events' t'
    end-held {t'} {events'} w = subst (λ (i : History). Held nodes before i marks₀ events₀ marks events' t') end_is (emitted U.held U.roomy (omega (arith, ap length end_is)) scan 0 start refl w)

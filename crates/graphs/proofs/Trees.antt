-- The tree edges of a depth-first search lead to reached vertices, and never to the start; so a parent word is 0 for the start, its
-- children and the unreached, and an increment is 0 exactly for the unreached.
-- Along the derivation: a tree edge leads to a vertex not labelled before, and the start is labelled first.
use Rattle.std.proofs.Common.{◌≡◌, refl, sym, ap, ◌∙◌, subst, Bool, true, false, cond, ◌&&◌, List, [], ◌∷◌, reverse, ℕ, ◌≤◌, arith, eqb, ne_eqb}
use Rattle.lists.specs.Members.{Mem, here, there}
use Rattle.lists.specs.Counts.{rank}
use Rattle.lists.proofs.Tests.{clash}
use Rattle.lists.proofs.Counts.{rank-none}
use Rattle.lists.proofs.Members.{mem-reverse, mem-left, mem-memb, memb-of-not}
use Rattle.graphs.specs.Graph.{Graph, Leads, stays}
use Rattle.graphs.specs.Events.{event, advance_tree, History, same, labelled, known}
use Rattle.graphs.specs.Depth.{Searches, searches}
use Rattle.graphs.specs.Search.{depth_first}
use Rattle.graphs.specs.Results.{last_tree, entry, parent_word, increment_word}
use Rattle.graphs.specs.Claims.{Ready}
use Rattle.graphs.proofs.Labels.{leads-vertex}
use Rattle.graphs.proofs.Follow.{Keeps, follow-walk}
use Rattle.graphs.proofs.Depth.{depth-relates, depth-reached}

-- P holds of every tree advance.
abbrev pub AllTrees : (ℕ → ℕ → Type 0) → History → Type 0
AllTrees P [] = Unit {0}
AllTrees P (event k r u ∷ h) = (same k advance_tree ≡ true → P r u) × AllTrees P h

-- Where no tree advance passes the test, there is no last one that does.
pub no-tree : (f : ℕ → ℕ → Bool) (h : History) → AllTrees (λ r u. f r u ≡ false) h → last_tree f h ≡ (0, 0)
no-tree f [] a = refl
no-tree f (event k r u ∷ h) a = go (same k advance_tree) a.0 (no-tree f h a.1)
  where
    go : (b : Bool) → (b ≡ true → f r u ≡ false) → last_tree f h ≡ (0, 0) → cond (b && f r u) (r, u) (last_tree f h) ≡ (0, 0)
    go true q e = rw (q refl) e
    go false q e = e

pub all-trees : {P Q : ℕ → ℕ → Type 0} → ((r u : ℕ) → P r u → Q r u) → (h : History) → AllTrees P h → AllTrees Q h
all-trees f [] a = tt
all-trees f (event k r u ∷ h) a = (λ e. f r u (a.0 e), all-trees f h a.1)

module _ (G : Graph) (before : List ℕ) (start : ℕ) where
  -- A tree edge leads to a reached vertex that is not the start.
  abbrev Into : ℕ → ℕ → Type 0
  Into r u = Leads G before start (G.to r) × (G.to r ≡ start → ⊥)

  -- Once the start is labelled, every tree edge leads to another vertex.
  record Trees (h : History) : Type 0 where
    trees : AllTrees Into h
    started : Mem start (labelled h)

  keeps-trees : Keeps G before start Trees
  keeps-trees = record {
    labels = λ u h l T. record { trees = (λ e. clash (sym e), T.trees); started = there T.started };
    advances = λ u r h l n T. record { trees = (λ e. (l, λ q. n (subst (λ (x : ℕ). Mem x (known before h)) (sym q) (mem-left before T.started))), T.trees); started = T.started };
    retreats = λ u r h T. record { trees = (λ e. clash (sym e), T.trees); started = T.started };
    passes = λ u r h T. record { trees = (λ e. clash (sym e), (λ e. clash (sym e), T.trees)); started = T.started };
    scans = λ u h T. record { trees = (λ e. clash (sym e), T.trees); started = T.started };
  }

  -- The search labels the start first.
  search-trees : {i : History} → Searches G before start [] i → Trees i
  search-trees (searches {i = j} t) = keeps-trees.scans start j (follow-walk keeps-trees t (stays refl) (λ r m. m) (record { trees = (λ e. clash (sym e), tt); started = here refl }))

  -- All events.
  abbrev whole : History
  whole = depth_first G before start

  module _ (R : Ready G before start) where
    trees : AllTrees Into whole
    trees = (search-trees (depth-relates G before start R)).trees

    -- No tree edge leads to the start, or to what is not reached.
    no-entry : (x : ℕ) → (Leads G before start x → x ≡ start) → entry G whole x ≡ (0, 0)
    no-entry x h = no-tree (λ r u. eqb (G.to r) x) whole (all-trees (λ r u i. ne_eqb (G.to r) x (λ e. i.1 (e ∙ h (subst (Leads G before start) e i.0)))) whole trees)

    null-entry : entry G whole 0 ≡ (0, 0)
    null-entry = no-entry 0 (λ l. absurd (let v = leads-vertex G before start R l in omega arith))

    -- A parent word is 0 for the start and the unreached.
    pub parent-none : (x : ℕ) → (Leads G before start x → x ≡ start) → parent_word G whole x ≡ 0
    parent-none x h = ap (λ (p : ℕ × ℕ). (entry G whole p.1).0) (no-entry x h) ∙ ap (λ (p : ℕ × ℕ). p.0) null-entry

    -- And for the children of the start.
    pub parent-child : (x : ℕ) → (entry G whole x).1 ≡ start → parent_word G whole x ≡ 0
    parent-child x e = ap (λ (u : ℕ). (entry G whole u).0) e ∙ ap (λ (p : ℕ × ℕ). p.0) (no-entry start (λ l. refl))

    -- An increment is 0 for the unreached, and at least 1 for the reached.
    pub increment-none : (x : ℕ) → (Leads G before start x → ⊥) → increment_word G whole x ≡ 0
    increment-none x h = rw (memb-of-not x (labelled whole) (λ m. h (((depth-reached G before start R).exact x).0 m)))

    pub increment-some : (x : ℕ) → Leads G before start x → 1 ≤ increment_word G whole x
    increment-some x l = rw (mem-memb (((depth-reached G before start R).exact x).1 l)) (omega arith)

    -- It is 1 for a reached vertex without a tree edge.
    pub increment-one : (x : ℕ) → Leads G before start x → (Mem 0 (G.out x) → ⊥) → (last_tree (λ r u. eqb u x) whole).0 ≡ 0 → increment_word G whole x ≡ 1
    increment-one x l ne e =
        let z : rank (last_tree (λ r u. eqb u x) whole).0 (reverse (G.out x)) ≡ 0 = ap (λ (r : ℕ). rank r (reverse (G.out x))) e ∙ rank-none 0 (reverse (G.out x)) (λ m. ne ((mem-reverse (G.out x) 0).0 m)) in
        rw (mem-memb (((depth-reached G before start R).exact x).1 l)) (omega arith)

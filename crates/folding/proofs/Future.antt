-- The events so far at a place are the first of all: their counts, and their order.
-- What is left of the recursive search only adds to them.
use Rattle.std.proofs.Common.{◌≡◌, sym, ap, ◌∙◌, subst, List, [], ◌∷◌, ◌++◌, reverse, ℕ, ◌+◌, ◌≤◌, ◌<◌, arith}
use mathlib.Core.List.{reverse-append, reverse_aux, reverse_aux-eq, reverse_aux-reverse_aux-nil, IsPrefix, IsSuffix, IsSuffix-trans}
use Rattle.lists.proofs.Counts.{bump-grow}
use Rattle.graphs.specs.Events.{Kind, Event, event, advance_tree, advance_nontree, scan, History, ◌▸◌, same, count}
use Rattle.graphs.specs.Search.{depth_first}
use Rattle.graphs.specs.Image.{Image, graph_of}
use Rattle.graphs.proofs.DepthGrowth.{suffix-then}
use Rattle.graphs.proofs.Places.{Frame, walk, finishing, edges-add, unwind-adds}

-- All events of line A.
abbrev pub all_of : Image → List ℕ → ℕ → History
all_of g before start = depth_first (graph_of g) before start

-- ---- counts
abbrev pub advances : History → ℕ
advances h = count advance_tree h + count advance_nontree h

abbrev pub scans : History → ℕ
scans h = count scan h

count-append : (k : Kind) (t h : History) → count k h ≤ count k (t ++ h)
count-append k [] h = omega arith
count-append k (event j r u ∷ t) h = let a = count-append k t h in let b = bump-grow (same k j) (count k (t ++ h)) in omega arith

suffix-count : (k : Kind) {h i : History} → IsSuffix h i → count k h ≤ count k i
suffix-count k {h} s = subst (λ (l : History). count k h ≤ count k l) s.1 (count-append k s.0 h)

-- ---- it only adds
-- all goes on from h, with a scan at least still to come.
pub record Short (h all : History) : Type 0 where
  pub first : IsSuffix h all
  pub advanced : advances h ≤ advances all
  pub to-scan : scans h < scans all

pub short : (g : Image) (before : List ℕ) (s : List Frame) (v : ℕ) (rest : List ℕ) (h : History) → Short h (finishing (graph_of g) before s v rest h)
short g before s v rest h =
    let i : History = walk (graph_of g) before v rest h in
    let j : History = finishing (graph_of g) before s v rest h in
    let a : IsSuffix h i = edges-add (graph_of g) before v rest h in
    let b : IsSuffix (i ▸ event scan 0 v) j = unwind-adds (graph_of g) before s (i ▸ event scan 0 v) in
    let c : IsSuffix h j = IsSuffix-trans {l₁ = h} {l₂ = i ▸ event scan 0 v} {l₃ = j} (suffix-then (event scan 0 v) a) b in
    let t = suffix-count advance_tree c in
    let n = suffix-count advance_nontree c in
    let x = suffix-count scan a in
    let y = suffix-count scan b in
    record { first = c; advanced = omega arith; to-scan = omega arith }

-- ---- in order
-- The events in order, with those of a step behind them.
pub in_order : (es : List Event) (h : History) → reverse h ++ es ≡ reverse (reverse_aux es h)
in_order es h = sym (reverse_aux-reverse_aux-nil es h ∙ reverse_aux-eq h es)

pub prefix-of : {h i : History} → IsSuffix h i → IsPrefix (reverse h) (reverse i)
prefix-of {h} {i} s = (reverse s.0, sym (reverse-append s.0 h) ∙ ap reverse s.1)

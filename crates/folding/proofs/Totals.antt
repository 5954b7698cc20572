-- Under every list of calls, all steps are at most 14,000 and all events at most 10,000; the next label number counts the labels.
-- Until a roll-back order is taken the steps are those of the search, and after it those since the order.
use Rattle.std.proofs.Common.{◌≡◌, refl, sym, ap, ◌∙◌, subst, Bool, true, false, ◌||◌, List, [], ◌∷◌, reverse, ℕ, zero, suc, ◌+◌, ◌*◌, ◌≤◌, arith, length, length-append}
use mathlib.Core.List.{reverse-reverse}
use Rattle.lists.proofs.Tests.{clash}
use Rattle.graphs.specs.Nodes.{Vertex}
use Rattle.graphs.specs.Events.{History, labelled}
use Rattle.graphs.specs.Image.{Image, graph_of}
use Rattle.graphs.specs.Refusals.{lent}
use Rattle.graphs.proofs.Sound.{Sound}
use Rattle.graphs.proofs.Blanks.{Listed}
use Rattle.graphs.proofs.Depth.{depth-first}
use Rattle.graphs.proofs.Room.{words-length, profile-ready, room}
use Rattle.folding.specs.Machine.{Config}
use Rattle.folding.specs.Calls.{unless, Call, run_for, single, roll_back, perform, roll_back_number, serve, open_number}
use Rattle.folding.specs.Lines.{Line, orders, add_if, noted, calls, line_a, line_b, folded}
use Rattle.folding.specs.Claims.{Agrees}
use Rattle.folding.proofs.Future.{all_of, advances, scans, Short, short}
use Rattle.folding.proofs.Invariant.{Trace, Holds, at-walking, at-restoring, at-rolling, at-end, at-undone}
use Rattle.folding.proofs.Calls.{trace_of, Held, call-held}
use Rattle.folding.proofs.Agreement.{counts-most, profile, marks-long, held, agreement}

-- A roll-back order makes no step.
order-steps : (w : Config) → (serve w roll_back).steps ≡ 0
unfolding serve
order-steps w = go (roll_back_number w)
  where
    go : (k : ℕ) → (unless k w [] (perform w roll_back)).steps ≡ 0
    go zero = refl
    go (suc k) = refl

-- A call that is taken as a roll-back order makes no step.
ordered-steps : (w : Config) (c : Call) → orders c (serve w c).answer ≡ true → (serve w c).steps ≡ 0
ordered-steps w (run_for k area) e = clash (sym e)
ordered-steps w (single area) e = clash (sym e)
ordered-steps w roll_back e = order-steps w

module _ (g : Image) (S : Sound g) (before : List ℕ) (start : ℕ) (hs : Vertex g.n start) (blank : Listed g.n before start) (marks : List ℕ) (long : g.n + g.m ≤ length marks) where
  -- The steps of the search, and those since the order.
  abbrev Near : Line → Type 0
  Near l = l.steps ≤ 2 * advances (all_of g before start) + scans (all_of g before start) + l.since

  near-calm : (t : Trace) → Holds g before start marks t → t.rolling ≡ false → t.steps ≤ 2 * advances (all_of g before start) + scans (all_of g before start)
  near-calm t (at-walking v done rest s stale C fut calm cnt) z = let sh = subst (Short t.history) fut (short g before s v rest t.history) in omega (arith, sh.advanced, sh.to-scan)
  near-calm t (at-restoring v done rest s stale C fut calm cnt) z = let sh = subst (Short t.history) fut (short g before s v [] t.history) in omega (arith, sh.advanced, sh.to-scan)
  near-calm t (at-rolling v done rest s stale C sh ro cnt) z = clash (sym ro ∙ z)
  near-calm t (at-end K e calm cnt) z = omega arith
  near-calm t (at-undone K x ro cnt) z = clash (sym ro ∙ z)

  since-most : (t : Trace) → Holds g before start marks t → (t.rolling ≡ false → t.since ≡ 0) → t.since ≤ advances (all_of g before start) + scans (all_of g before start)
  since-most t (at-walking v done rest s stale C fut calm cnt) z = omega (arith, z calm)
  since-most t (at-restoring v done rest s stale C fut calm cnt) z = omega (arith, z calm)
  since-most t (at-rolling v done rest s stale C sh ro cnt) z = omega arith
  since-most t (at-end K e calm cnt) z = omega (arith, z calm)
  since-most t (at-undone K x ro cnt) z = cnt

  near_call : (l : Line) (c : Call) → Held g S before start hs blank marks long l → Held g S before start hs blank marks long (noted l c (serve l.config c)) → Near l
      → Near (noted l c (serve l.config c))
  near_call l c H K N = go l.rolling (orders c (serve l.config c).answer) refl refl
    where
      go : (a b : Bool) → l.rolling ≡ a → orders c (serve l.config c).answer ≡ b → Near (noted l c (serve l.config c))
      go true b e f = let z : add_if l.rolling l.since (serve l.config c).steps ≡ l.since + (serve l.config c).steps = ap (λ (x : Bool). add_if x l.since (serve l.config c).steps) e in omega arith
      go false false e f = let z = near-calm (trace_of (noted l c (serve l.config c)) K.history) K.holds (λ i. e i || f i) in omega arith
      go false true e f = let z = near-calm (trace_of l H.history) H.holds e in omega (arith, ordered-steps l.config c f)

  near-calls : (l : Line) (cs : List Call) → Held g S before start hs blank marks long l → Near l → Near (calls folded l cs)
  unfolding calls
  near-calls l [] H N = N
  near-calls l (c ∷ cs) H N =
      let K = call-held g S before start hs blank marks long l c H in
      near-calls (noted l c (serve l.config c)) cs K (near_call l c H K N)

  steps-most : (l : Line) → Held g S before start hs blank marks long l → Near l → l.steps ≤ 14000
  steps-most l H N =
      let k = counts-most g S before start hs blank marks long in
      omega (arith, k.0, k.1, S.few_vertices, S.few_edges, since-most (trace_of l H.history) H.holds H.calm)

-- All steps that the calls of a line make.
pub steps-few : (g : Image) (before : List ℕ) (start : ℕ) (marks area : List ℕ) → open_number g before start marks area ≡ 0 → (cs : List Call)
    → (line_b folded g before start marks area cs).steps ≤ 14000
unfolding calls
steps-few g before start marks area h cs =
    let P = profile g before start marks area h in
    let L = marks-long g before start marks area h in
    steps-most g P.sound before start P.start_vertex P.listed marks L (line_b folded g before start marks area cs) (held g before start marks area h cs)
    (near-calls g P.sound before start P.start_vertex P.listed marks L (line_b folded g before start marks area []) cs (held g before start marks area h []) (omega arith))

-- All events of a line.
pub events-few : (g : Image) (before : List ℕ) (start : ℕ) (marks area : List ℕ) → open_number g before start marks area ≡ 0 → (cs : List Call)
    → length (line_b folded g before start marks area cs).events ≤ 10000
unfolding open_number
events-few g before start marks area h cs =
    let P = profile g before start marks area h in
    let E = (depth-first (graph_of g) before start (profile-ready g P.sound before start P.start_vertex P.listed)).complete.labels in
    let A : Agrees g (labelled (all_of g before start)) (line_a g before start) (line_b folded g before start marks area cs) = agreement g g refl before start marks area h (labelled (all_of g before start)) E cs in
    let p = A.first in
    omega (arith, length-append (line_b folded g before start marks area cs).events p.0, ap length p.1, words-length (line_a g before start), (room g before start (lent (g.n + g.m) marks ∷ lent 3 area ∷ []) h).0, P.sound.few_vertices, P.sound.few_edges)

-- The next label number, in every phase.
next-held : {g : Image} {before : List ℕ} {start : ℕ} {marks : List ℕ} (t : Trace) → Holds g before start marks t → t.config.next ≡ suc (length (labelled t.history))
next-held t (at-walking v done rest s stale C fut calm cnt) = ap (λ (w : Config). w.next) C.is-config
next-held t (at-restoring v done rest s stale C fut calm cnt) = ap (λ (w : Config). w.next) C.is-config
next-held t (at-rolling v done rest s stale C sh ro cnt) = ap (λ (w : Config). w.next) C.is-config
next-held t (at-end K e calm cnt) = ap (λ (w : Config). w.next) K.is-config
next-held t (at-undone K x ro cnt) = ap (λ (w : Config). w.next) K.is-config

-- The next label number of a line is one more than the elements that it has labelled.
pub next-counts : (g : Image) (before : List ℕ) (start : ℕ) (marks area : List ℕ) → open_number g before start marks area ≡ 0 → (cs : List Call)
    → (line_b folded g before start marks area cs).config.next ≡ suc (length (labelled (reverse (line_b folded g before start marks area cs).events)))
next-counts g before start marks area h cs =
    let l : Line = line_b folded g before start marks area cs in
    let H = held g before start marks area h cs in
    next-held (trace_of l H.history) H.holds ∙ ap (λ (i : History). suc (length (labelled i))) (sym (ap reverse H.events ∙ reverse-reverse H.history))

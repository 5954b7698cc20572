-- The folded depth-first search, step by step (document 01, "The folded depth-first walk"; its moves are steps here).
use Rattle.std.specs.Prelude.{Bool, true, false, cond, ◌&&◌, not, List, [], ◌∷◌, ℕ, suc, ◌+◌, ◌%◌, eqb, ltb, leb}
use Rattle.lists.specs.Words.{at, put}
use Rattle.graphs.specs.Nodes.{is_vertex, is_edge, is_link, is_node}
use Rattle.graphs.specs.Events.{Event, event, label, advance_tree, advance_nontree, retreat_nontree, retreat_tree, scan}
use Rattle.graphs.specs.Results.{active_mark, blank_mark, marks_rest}

-- A state with its links and marks: v the element being scanned, e the reference next to traverse or 0, f the trailer, next the next label number.
pub record Config : Type 0 where
  pub n : ℕ
  pub m : ℕ
  pub start : ℕ
  pub v : ℕ
  pub e : ℕ
  pub f : ℕ
  pub phase : ℕ
  pub next : ℕ
  pub circular : ℕ
  pub after : List ℕ
  pub tail : List ℕ
  pub marks : List ℕ

-- The six phases, each with document 01's word. Walking.
abbrev pub walking : ℕ
walking = 1

-- Document 01: restoring.
abbrev pub restoring : ℕ
restoring = 2

-- Document 01: ended.
abbrev pub finished : ℕ
finished = 3

-- Document 01: winding back.
abbrev pub rolling_back : ℕ
rolling_back = 4

-- Document 01: withdrawn.
abbrev pub rolled_back : ℕ
rolled_back = 5

-- Document 01: accepted.
abbrev pub accepted : ℕ
accepted = 6

-- The tail word t(r).
abbrev pub target : Config → ℕ → ℕ
target w r = at w.n w.tail r

-- The steps. Document 01's moves: Tree; Nontree; Turn is relink; Close is retreat, or finish where f is 0; Close while winding
-- is undo_tree, or undo_open where f is 0.
pub data Step : Type 0 where
  tree nontree relink retreat finish undo_tree undo_open : Step

-- The search goes forward: walking, with a reference next to traverse.
abbrev pub forward : Config → Bool
forward w = eqb w.phase walking && not (eqb w.e 0)

-- The mark of t(e), before any store.
abbrev pub mark_ahead : Config → ℕ
mark_ahead w = at 0 w.marks (target w w.e)

-- t(e) is unmarked.
abbrev pub fresh : Config → Bool
fresh w = eqb (mark_ahead w) 0

-- ---- marks (document 02, items 5 and 7)
-- Labelling marks an element 32,768 plus its number.
abbrev pub label_mark : ℕ → ℕ
label_mark k = active_mark + k

-- Its scan leaves the mark's remainder by 32,768.
abbrev pub scan_mark : ℕ → ℕ
scan_mark mark = mark % active_mark

-- A mark of 32,768 or more counts as not yet scanned, but 65,535 is that of an element on the blank (item 7).
abbrev pub unscanned : ℕ → Bool
unscanned mark = leb active_mark mark && not (eqb mark blank_mark)

-- t(e) counts as not yet scanned.
abbrev pub circling : Config → Bool
circling w = unscanned (mark_ahead w)

-- The marks once v is scanned.
abbrev pub scanned_marks : Config → List ℕ
scanned_marks w = put 0 w.marks w.v (scan_mark (at 0 w.marks w.v))

-- ---- the step to come
-- The step that comes: by whether the search goes forward, t(e) is unmarked, f is a reference, f is 0, and it is rolling back.
abbrev pub pick_step : Bool → Bool → Bool → Bool → Bool → Step
pick_step true true c d b = tree
pick_step true false c d b = nontree
pick_step false a true d b = relink
pick_step false a false true false = finish
pick_step false a false true true = undo_open
pick_step false a false false false = retreat
pick_step false a false false true = undo_tree

-- The step to come (the move to come).
unfoldable pub step_of : Config → Step
step_of w = pick_step (forward w) (fresh w) (ltb w.n w.f) (eqb w.f 0) (eqb w.phase rolling_back)

-- The after words once a(v) has become e, the first store of a tree step and of a close.
abbrev pub closed : Config → List ℕ
closed w = put 0 w.after w.v w.e

-- a(f), read after that store.
abbrev pub upward : Config → ℕ
upward w = at 0 (closed w) w.f

-- The words that a step reads are in kind, each as the step would read it.
unfoldable pub fits : Config → Step → Bool
fits w tree = is_vertex w.n (target w w.e) && (leb w.next w.n && is_link w.n w.m (at 0 (closed w) (target w w.e)))
fits w nontree = is_vertex w.n (target w w.e) && is_link w.n w.m (at 0 w.after w.e)
fits w relink = is_node w.n w.m (at 0 w.after w.f)
fits w retreat = is_edge w.n w.m (upward w) && (is_node w.n w.m (target w (upward w)) && is_link w.n w.m (at 0 (closed w) (upward w)))
fits w finish = eqb w.v w.start
fits w undo_tree = is_edge w.n w.m (upward w) && is_node w.n w.m (target w (upward w))
fits w undo_open = eqb w.v w.start

-- Where a step leads, and the events it emits.
pub record Stepped : Type 0 where
  pub config : Config
  pub events : List Event

-- The phase after a relink: walking becomes restoring; rolling back goes on.
abbrev pub relinked : Bool → ℕ
relinked true = rolling_back
relinked false = restoring

-- What a step does: its stores in the paper's order, each reading what the earlier ones left.
unfoldable pub enact : Config → Step → Stepped
enact w tree = record {
  config = record { n = w.n; m = w.m; start = w.start; v = target w w.e; e = at 0 (closed w) (target w w.e); f = w.v; phase = w.phase; next = suc w.next; circular = w.circular; after = closed w; tail = put w.n w.tail w.e w.f; marks = put 0 w.marks (target w w.e) (label_mark w.next) };
  events = event advance_tree w.e w.v ∷ event label 0 (target w w.e) ∷ [];
}
enact w nontree = record {
  config = record { n = w.n; m = w.m; start = w.start; v = w.v; e = at 0 w.after w.e; f = w.e; phase = w.phase; next = w.next; circular = cond (circling w) 1 w.circular; after = put 0 w.after w.e w.f; tail = w.tail; marks = w.marks };
  events = event advance_nontree w.e w.v ∷ event retreat_nontree w.e w.v ∷ [];
}
enact w relink = record {
  config = record { n = w.n; m = w.m; start = w.start; v = w.v; e = w.f; f = at 0 w.after w.f; phase = relinked (eqb w.phase rolling_back); next = w.next; circular = w.circular; after = put 0 w.after w.f w.e; tail = w.tail; marks = w.marks };
  events = [];
}
enact w retreat = record {
  config = record { n = w.n; m = w.m; start = w.start; v = w.f; e = at 0 (closed w) (upward w); f = upward w; phase = walking; next = w.next; circular = w.circular; after = put 0 (closed w) (upward w) (target w (upward w)); tail = put w.n w.tail (upward w) w.v; marks = scanned_marks w };
  events = event scan 0 w.v ∷ event retreat_tree (upward w) w.f ∷ [];
}
enact w finish = record {
  config = record { n = w.n; m = w.m; start = w.start; v = w.v; e = w.e; f = w.f; phase = finished; next = w.next; circular = w.circular; after = closed w; tail = w.tail; marks = scanned_marks w };
  events = event scan 0 w.v ∷ [];
}
enact w undo_tree = record {
  config = record { n = w.n; m = w.m; start = w.start; v = w.f; e = upward w; f = target w (upward w); phase = w.phase; next = w.next; circular = w.circular; after = closed w; tail = put w.n w.tail (upward w) w.v; marks = w.marks };
  events = [];
}
enact w undo_open = record {
  config = record { n = w.n; m = w.m; start = w.start; v = w.v; e = w.e; f = w.f; phase = rolled_back; next = w.next; circular = w.circular; after = closed w; tail = w.tail; marks = marks_rest w.n w.marks };
  events = [];
}

-- The step to come is in kind.
abbrev pub can_step : Config → Bool
can_step w = fits w (step_of w)

-- The step to come, made.
abbrev pub step : Config → Stepped
step w = enact w (step_of w)

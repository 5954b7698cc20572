-- A step tried on any words that its areas hold: it fits and is made, or it is out of kind and nothing changes.
use Rattle.std.specs.Prelude.{◌≡◌, ◌≢◌, Bool, true, false, cond, ◌&&◌, List, ℕ, suc, ◌+◌, ◌*◌, ◌≤◌, ◌<◌, length, Option, Some, None}
use Rattle.lists.specs.Words.{pasted}
use Rattle.graphs.specs.Nodes.{is_edge, is_node}
use Rattle.graphs.specs.Events.{words}
use Rattle.folding.specs.Machine.{Config, Step, tree, nontree, fresh, target, upward, fits, Stepped, enact}
use Rattle.states.specs.declared.values.State.{State}
use Rattle.states.specs.Answers.{config_of}
use Rattle.folded.specs.declared.areas.Areas.{Areas}
use Rattle.folded.specs.declared.tried.Tried as code

-- Whether the step fits, what it leaves, how many events the area holds, and the area.
pub record Attempt : Type 0 where
  pub fit : Bool
  pub config : Config
  pub count : ℕ
  pub area : List ℕ

-- Out of kind: nothing changes.
abbrev pub out : Config → ℕ → List ℕ → Attempt
out w k area = record { fit = false; config = w; count = k; area = area }

-- Made: its events stand behind the first k.
abbrev pub made : Stepped → ℕ → List ℕ → Attempt
made s k area = record { fit = true; config = s.config; count = k + length s.events; area = pasted (3 * k) (words s.events) area }

-- A step tried.
unfoldable pub trying : Config → Step → ℕ → List ℕ → Attempt
trying w p k area = cond (fits w p) (made (enact w p) k area) (out w k area)

-- What the code tells of it: `kept` is what it is given, with the areas as they are left, and k the number of events before it.
abbrev pub tried : Option code.Tried → (kept : Config) → ℕ → List ℕ → Attempt
tried (Some r) kept k area = record { fit = true; config = config_of r.state kept.after kept.tail kept.marks; count = r.made; area = area }
tried None kept k area = out kept k area

-- The step forward: along a tree edge where t(e) is unmarked.
abbrev pub onward : Config → Step
onward w = cond (fresh w) tree nontree

-- a(f) as a close reads it; none where it is no edge, or its tail word cannot be a trailer.
abbrev pub upward_in : Config → Option ℕ
upward_in w = cond (is_edge w.n w.m (upward w) && is_node w.n w.m (target w (upward w))) (Some (upward w)) None

-- Sizes within the limits, state fields in kind, and areas of a after words, t tail words and k marks as long as stated.
pub record Ready (s : State) (a t k : ℕ) : Type 0 where
  pub few_vertices : s.n ≤ 1000
  pub few_edges : s.m ≤ 4000
  pub v_low : 0 < s.v.0
  pub v_high : s.v.0 ≤ s.n
  pub e_low : s.e.0 ≢ 0 → s.n < s.e.0
  pub e_high : s.e.0 ≤ s.n + s.m
  pub f_high : s.f ≤ s.n + s.m
  pub next_high : s.next ≤ suc s.n
  pub long_after : s.n + s.m ≤ a
  pub long_tail : s.m ≤ t
  pub long_marks : s.n + s.m ≤ k

-- The state, with the words that its areas hold.
abbrev pub held : State → Areas → Config
held s a = config_of s a.after.now a.tail.now a.marks.now

-- Areas as long as the sizes of a state ask, whose fields are in kind.
abbrev pub Lent : State → Areas → Type 0
Lent s a = Ready s (length a.after.now) (length a.tail.now) (length a.marks.now)

-- Behind k events there is room for two more.
abbrev pub Room : ℕ → Areas → Type 0
Room k a = 3 * k + 6 ≤ length a.events.now

-- The areas stay where they are: only their words differ.
abbrev pub Same : Areas → Areas → Type 0
Same a b = (b.after.ghost_name ≡ a.after.ghost_name) × (b.tail.ghost_name ≡ a.tail.ghost_name) × (b.marks.ghost_name ≡ a.marks.ghost_name) × (b.events.ghost_name ≡ a.events.ghost_name)

-- What the step p leaves once it is tried on areas behind k events.
abbrev pub Tries : State → Step → ℕ → (old new : Areas) → Option code.Tried → Type 0
Tries s p k old new r = tried r (held s new) k new.events.now ≡ trying (held s old) p k old.events.now

-- The two lines (document 01, "Agreement of the two lines"): one recursive search, and a folded search under a list of calls.
use Rattle.std.specs.Prelude.{Bool, true, false, ◌||◌, List, [], ◌∷◌, ◌++◌, reverse, ℕ, ◌+◌}
use Rattle.graphs.specs.Events.{Event}
use Rattle.graphs.specs.Search.{depth_first}
use Rattle.graphs.specs.Image.{Image, graph_of}
use Rattle.folding.specs.Machine.{Config}
use Rattle.folding.specs.Calls.{Answer, ran, taken, refused, Reply, Call, run_for, single, roll_back, serve, opening}

-- The events of line A, in order: a depth-first search from the start, the elements on the blank being labelled before.
abbrev pub line_a : Image → List ℕ → ℕ → List Event
line_a g before start = reverse (depth_first (graph_of g) before start)

-- Whatever can be opened and called as line B is: our folded search, and the wrong ones that the claims refute.
pub record Walker : Type 0 where
  pub opens : Image → List ℕ → ℕ → List ℕ → List ℕ → Reply
  pub serves : Config → Call → Reply

-- Our folded search.
abbrev pub folded : Walker
folded = record { opens = opening; serves = serve }

-- Line B: the state, links and marks; the events, in order; the steps made; whether a roll-back order was taken, and the steps made
-- since the first; the answers, the last of them first.
pub record Line : Type 0 where
  pub config : Config
  pub events : List Event
  pub steps : ℕ
  pub rolling : Bool
  pub since : ℕ
  pub answers : List Answer

-- A roll-back order was taken.
abbrev pub orders : Call → Answer → Bool
orders (run_for k area) a = false
orders (single area) a = false
orders roll_back (ran why) = false
orders roll_back taken = true
orders roll_back (refused k) = false

-- k more, once an order was taken; else none.
abbrev pub add_if : Bool → ℕ → ℕ → ℕ
add_if true a k = a + k
add_if false a k = 0

-- The line after a call and its reply: moves made add up what runs taken return, and 1 for each single step taken.
abbrev pub noted : Line → Call → Reply → Line
noted l c r = record { config = r.config; events = l.events ++ r.events; steps = l.steps + r.steps; rolling = l.rolling || orders c r.answer; since = add_if l.rolling l.since r.steps; answers = r.answer ∷ l.answers }

-- A list of calls, each on what the one before it left.
unfoldable pub calls : Walker → Line → List Call → Line
calls W l [] = l
calls W l (c ∷ cs) = calls W (noted l c (W.serves l.config c)) cs

-- What an opening leaves.
abbrev pub begun : Reply → Line
begun r = record { config = r.config; events = r.events; steps = 0; rolling = false; since = 0; answers = r.answer ∷ [] }

-- Line B of a walker: an opening, with the same elements on the blank, the marks and the event area it is lent, and a list of calls.
abbrev pub line_b : Walker → Image → List ℕ → ℕ → List ℕ → List ℕ → List Call → Line
line_b W g before start marks area cs = calls W (begun (W.opens g before start marks area)) cs

-- The links as the folded search bends them, as a function of the place it has come to.
-- The after words of the edges passed lead back, the tail of a tree edge under way holds what the trailer was at its frame.
use Rattle.std.proofs.Common.{List, [], ◌∷◌, ℕ, suc, ◌+◌, length}
use Rattle.lists.specs.Words.{put}
use Rattle.graphs.specs.Events.{History, labelled}
use Rattle.graphs.specs.Results.{marks_now}
use Rattle.graphs.specs.Circles.{circular_of}
use Rattle.graphs.specs.Image.{Image, graph_of}
use Rattle.graphs.proofs.Sound.{head0}
use Rattle.graphs.proofs.Places.{Frame, frame, parent}
use Rattle.graphs.proofs.Tails.{bent_tails}
use Rattle.folding.specs.Machine.{Config}

-- The trailer: the last edge passed, or the parent.
abbrev pub top : List ℕ → ℕ → ℕ
top [] par = par
top (d ∷ ds) par = d

-- The edges passed, linked in reverse order, the first of them to the parent.
abbrev pub bend : List ℕ → ℕ → List ℕ → List ℕ
bend [] par l = l
bend (d ∷ ds) par l = put 0 (bend ds par l) d (top ds par)

-- The after and the tail area below a place, built from the bottom frame up.
abbrev pub bent_after : Image → List Frame → List ℕ
bent_after g [] = g.after
bent_after g (frame u du r ru ∷ s) = bend du (parent s) (put 0 (bent_after g s) u r)

abbrev pub bent_tail : Image → List Frame → List ℕ
bent_tail g s = bent_tails (λ du fs. top du (parent fs)) g.n g.tail s

-- The state, links and marks at a place, after the events h; `area` is the mark area as it was lent, `stale` the word a(v).
abbrev pub config_at : Image → List ℕ → ℕ → List ℕ → ℕ → ℕ → List ℕ → List ℕ → List Frame → ℕ → History → Config
config_at g before start area ph v done rest s stale h = record { n = g.n; m = g.m; start = start; v = v; e = head0 rest; f = top done (parent s); phase = ph; next = suc (length (labelled h)); circular = circular_of (graph_of g) h; after = bend done (parent s) (put 0 (bent_after g s) v stale); tail = bent_tail g s; marks = marks_now (g.n + g.m) before h area }

-- The same where the search has ended or is rolled back.
abbrev pub config_end : Image → ℕ → ℕ → ℕ → List ℕ → History → Config
config_end g start ph e marks h = record { n = g.n; m = g.m; start = start; v = start; e = e; f = 0; phase = ph; next = suc (length (labelled h)); circular = circular_of (graph_of g) h; after = g.after; tail = g.tail; marks = marks }

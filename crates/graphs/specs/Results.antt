-- What a search leaves in the areas lent to a walker, as functions of its events (document 01, "Events").
use Rattle.std.specs.Prelude.{Bool, cond, ◌&&◌, List, [], ◌∷◌, reverse, ℕ, ◌+◌, max, eqb}
use Rattle.lists.specs.Members.{memb}
use Rattle.lists.specs.Counts.{rank}
use Rattle.lists.specs.Words.{at, overlay, filled}
use Rattle.graphs.specs.Graph.{Graph}
use Rattle.graphs.specs.Events.{event, advance_tree, History, words, same, labelled}
use Rattle.graphs.specs.Circles.{active}

-- The event area: the events in order; the words past the last event stay.
abbrev pub events_left : History → List ℕ → List ℕ
events_left h area = overlay (words (reverse h)) area

-- The mark of an element already on the blank (document 02, item 7).
abbrev pub blank_mark : ℕ
blank_mark = 65535

-- The mark of x: 65,535 where it is on the blank, else this.
abbrev pub unless_blank : List ℕ → (ℕ → ℕ) → ℕ → ℕ
unless_blank before f x = cond (memb x before) blank_mark (f x)

-- The marks of k nodes before anything is labelled: 65,535 for the elements on the blank, 0 for the rest.
abbrev pub marks_first : ℕ → List ℕ → List ℕ → List ℕ
marks_first k before area = filled (unless_blank before (λ x. 0)) k area

-- The marks of k nodes: 65,535 for the elements on the blank; 1 for the start, then 2, 3 and on in order of labelling, 0 for the rest.
abbrev pub marks_left : ℕ → List ℕ → History → List ℕ → List ℕ
marks_left k before h area = filled (unless_blank before (λ x. rank x (labelled h))) k area

-- What an element labelled and not yet scanned has in its mark beside its number, in a folded walk (document 02, item 5).
abbrev pub active_mark : ℕ
active_mark = 32768

-- The mark of x while a folded walk is under way, where it is not on the blank: its number, and 32,768 more until it is scanned.
abbrev pub mark_now : History → ℕ → ℕ
mark_now h x = cond (active x h) (active_mark + rank x (labelled h)) (rank x (labelled h))

-- The marks of k nodes while a folded walk is under way.
abbrev pub marks_now : ℕ → List ℕ → History → List ℕ → List ℕ
marks_now k before h area = filled (unless_blank before (mark_now h)) k area

-- What the end of a roll-back leaves in a mark: 65,535 where it stood, else 0.
abbrev pub rest_mark : ℕ → ℕ
rest_mark mark = cond (eqb mark blank_mark) blank_mark 0

-- The marks of the n elements at the end of a roll-back.
abbrev pub marks_rest : ℕ → List ℕ → List ℕ
marks_rest n marks = filled (λ x. rest_mark (at 0 marks x)) n marks

-- The queue area: the labelled elements in order, then 0.
abbrev pub queue_left : ℕ → History → List ℕ → List ℕ
queue_left n h area = filled (at 0 (reverse (labelled h))) n area

-- The last advance along a tree reference that passes a test: the reference and the element it leaves; 0 and 0 where there is none.
abbrev pub last_tree : (ℕ → ℕ → Bool) → History → ℕ × ℕ
last_tree f [] = (0, 0)
last_tree f (event k r u ∷ h) = cond (same k advance_tree && f r u) (r, u) (last_tree f h)

-- The tree reference into x, and the parent of x.
abbrev pub entry : Graph → History → ℕ → ℕ × ℕ
entry G h x = last_tree (λ r u. eqb (G.to r) x) h

-- A parent word: the tree reference into the element's parent.
abbrev pub parent_word : Graph → History → ℕ → ℕ
parent_word G h x = (entry G h (entry G h x).1).0

-- The parent area.
abbrev pub parent_left : Graph → History → List ℕ → List ℕ
parent_left G h area = filled (parent_word G h) G.size area

-- An increment: the place in its list of the last tree reference, 1 for a reached element without one, 0 for the unreached.
abbrev pub increment_word : Graph → History → ℕ → ℕ
increment_word G h x = cond (memb x (labelled h)) (max 1 (rank (last_tree (λ r u. eqb u x) h).0 (reverse (G.out x)))) 0

-- The increment area.
abbrev pub increment_left : Graph → History → List ℕ → List ℕ
increment_left G h area = filled (increment_word G h) G.size area

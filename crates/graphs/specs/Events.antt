-- Events (document 01, "Events").
use Rattle.std.specs.Prelude.{Bool, cond, ◌||◌, List, [], ◌∷◌, ◌++◌, ℕ, eqb}
use Rattle.lists.specs.Members.{cons_if}
use Rattle.lists.specs.Counts.{bump}

-- The seven kinds of event.
pub data Kind : Type 0 where
  label advance_tree advance_nontree retreat_nontree retreat_tree scan traverse : Kind

-- Their numbers.
abbrev pub code : Kind → ℕ
code label = 1
code advance_tree = 2
code advance_nontree = 3
code retreat_nontree = 4
code retreat_tree = 5
code scan = 6
code traverse = 7

-- Kind, reference, element.
pub data Event : Type 0 where
  event : Kind → ℕ → ℕ → Event

-- The words of events, three for each.
abbrev pub words : List Event → List ℕ
words [] = []
words (event k r u ∷ es) = code k ∷ r ∷ u ∷ words es

-- The events so far, the last of them first. `reverse` gives them in order.
abbrev pub History : Type 0
History = List Event

-- One event more.
infixl 20 ◌▸◌
abbrev pub ◌▸◌ : History → Event → History
h ▸ x = x ∷ h

-- The two kinds are one.
abbrev pub same : Kind → Kind → Bool
same j k = eqb (code j) (code k)

-- The elements that the events of a kind name, the last of them first.
abbrev pub named : Kind → History → List ℕ
named j [] = []
named j (event k r u ∷ h) = cons_if (same j k) u (named j h)

-- The references that they name, the last of them first.
abbrev pub edges_by : Kind → History → List ℕ
edges_by j [] = []
edges_by j (event k r u ∷ h) = cons_if (same j k) r (edges_by j h)

-- The elements labelled, the last of them first.
abbrev pub labelled : History → List ℕ
labelled h = named label h

-- The elements scanned, the last of them first.
abbrev pub scanned : History → List ℕ
scanned h = named scan h

-- The elements that count as labelled, where some were labelled before the search.
abbrev pub known : List ℕ → History → List ℕ
known before h = labelled h ++ before

-- The kinds that begin the traversing of an edge: 2 and 3 depth-first, 7 breadth-first.
abbrev pub begins : Kind → Bool
begins k = same k advance_tree || (same k advance_nontree || same k traverse)

-- The references traversed, the last of them first.
abbrev pub traversed : History → List ℕ
traversed [] = []
traversed (event k r u ∷ h) = cons_if (begins k) r (traversed h)

-- How many events have a kind.
abbrev pub count : Kind → History → ℕ
count j [] = 0
count j (event k r u ∷ h) = bump (same j k) (count j h)

-- The tally: seven counts.
abbrev pub tally : History → List ℕ
tally h = count label h ∷ count advance_tree h ∷ count advance_nontree h ∷ count retreat_nontree h ∷ count retreat_tree h ∷ count scan h ∷ count traverse h ∷ []

-- The new number of reference r; null stays null.
abbrev pub rename : (ℕ → ℕ) → ℕ → ℕ
rename f r = cond (eqb r 0) 0 (f r)

-- The events, each with the new number of its reference.
abbrev pub renamed : (ℕ → ℕ) → History → History
renamed f [] = []
renamed f (event k r u ∷ h) = renamed f h ▸ event k (rename f r) u

-- The search over the array form: the tails as a function of the place, and what its moves ask of each other.
use Rattle.std.specs.Prelude.{◌≡◌, Bool, not, ◌&&◌, List, [], ◌∷◌, ℕ, suc, ◌+◌, ◌-◌, ◌≤◌, eqb, length}
use Rattle.lists.specs.Words.{at, values_from}
use Rattle.graphs.specs.Events.{History}
use Rattle.graphs.specs.ArrayForm.{ArrayForm, array_graph}
use Rattle.graphs.specs.Results.{blank_mark, last_tree, increment_left}
use Rattle.graphs.proofs.ArraySound.{ArraySound}
use Rattle.graphs.proofs.Places.{Frame, frame, parent}
use Rattle.graphs.proofs.Tails.{bent_tails}
use Rattle.arrays.specs.Arrays.{array_in}
use Rattle.walks.specs.Promises.{array_walk}
use Rattle.walks.specs.Writing.{Held}
use Rattle.walks.specs.Moves.{Underway}
use Rattle.walks.proofs.ArrayBegins.{ArrayBegins}
use Rattle.depth_array.specs.declared.array.Place.{Place}

-- The edges of v from position p on.
abbrev pub ahead : ArrayForm → ℕ → ℕ → List ℕ
ahead a v p = values_from (λ x. a.n + x) (p - 1) (at 0 a.firsts (suc v) - p)

-- The tail of each tree edge under way holds the parent of the vertex that the edge leaves.
abbrev pub tails_left : ArrayForm → List Frame → List ℕ
tails_left a s = bent_tails (λ du fs. parent fs) a.n a.tails s

-- The last tree edge out of u; 0 where there is none.
abbrev pub last_from : History → ℕ → ℕ
last_from h u = (last_tree (λ x y. eqb y u) h).0

-- The last tree edge out of each vertex on the path is the one of its frame.
abbrev pub Left : History → List Frame → Type 0
Left h [] = Unit {0}
Left h (frame u du r ru ∷ s) = (last_from h u ≡ r) × Left h s

-- A vertex with this increment and this mark is not labelled: the increment is 0, and the mark is not that of an element on the blank.
abbrev pub is_new : ℕ → ℕ → Bool
is_new increment mark = eqb increment 0 && not (eqb mark blank_mark)

-- The search can begin.
abbrev pub CanSearch : (a : ArrayForm) (before : List ℕ) (start : ℕ) (marks increments events : List ℕ) → Type 0
CanSearch a before start marks increments events = ArrayBegins a before start marks increments events

-- The place of these numbers.
abbrev pub place : (v p f : ℕ) → List ℕ → Place
place v p f t = record { v = record { 0 = v }; p = record { 0 = p }; f = record { 0 = f }; tally = t }

-- At a place q, with the elements `before` on the blank: the edges ahead begin with its position, the trailer is the parent of its vertex,
-- and tails and increments are those that the events so far leave.
pub record ArrayAt (a : ArrayForm) (before : List ℕ) (start : ℕ) (marks₀ increments₀ events₀ tails marks increments events : List ℕ) (q : Place) : Type 0 where
  pub sound : ArraySound a
  pub long : a.n ≤ length increments₀
  pub h : History
  pub done : List ℕ
  pub s : List Frame
  pub underway : Underway (array_graph a) (a.n + a.m) before start h q.v.0 done (ahead a q.v.0 q.p.0) s marks₀ events₀ marks events q.tally
  pub low : at 0 a.firsts q.v.0 ≤ q.p.0
  pub high : q.p.0 ≤ at 0 a.firsts (suc q.v.0)
  pub trailer : q.f.0 ≡ parent s
  pub left : Left h s
  pub increments_left : increments ≡ increment_left (array_graph a) h increments₀
  pub bent : tails ≡ tails_left a s

pub record SomeArrayAt (n m : ℕ) (firsts tails marks increments events : List ℕ) (q : Place) : Type 0 where
  pub before : List ℕ
  pub start : ℕ
  pub tails₀ : List ℕ
  pub marks₀ : List ℕ
  pub increments₀ : List ℕ
  pub events₀ : List ℕ
  pub is : ArrayAt (array_in n m firsts tails₀) before start marks₀ increments₀ events₀ tails marks increments events q

-- From one place the search goes on to another, whatever the areas were as lent.
abbrev pub Onward : (n m : ℕ) (firsts tails marks increments events : List ℕ) → Place → (tails' marks' increments' events' : List ℕ) → Place → Type 0
Onward n m firsts tails marks increments events q tails' marks' increments' events' q' =
    (before : List ℕ) (start : ℕ) (tails₀ marks₀ increments₀ events₀ : List ℕ) → ArrayAt (array_in n m firsts tails₀) before start marks₀ increments₀ events₀ tails marks increments events q
    → ArrayAt (array_in n m firsts tails₀) before start marks₀ increments₀ events₀ tails' marks' increments' events' q'

-- It has ended.
pub record Ended (a : ArrayForm) (before : List ℕ) (start : ℕ) (marks₀ increments₀ events₀ tails marks increments events t : List ℕ) : Type 0 where
  pub held : Held (a.n + a.m) before (array_walk a before start) marks₀ events₀ marks events t
  pub increments_left : increments ≡ increment_left (array_graph a) (array_walk a before start) increments₀
  pub tails_left : tails ≡ a.tails

-- How the checker of images looks for condition 7: it flags the edges of all lists, one after the other.
use Rattle.std.specs.Prelude.{◌≡◌, Bool, true, false, cond, List, [], ◌∷◌, ℕ, suc, ◌+◌, ◌≤◌, eqb, length, replicate, Option, Some, None}
use Rattle.lists.specs.Members.{Mem}
use Rattle.lists.specs.Words.{at, put}
use Rattle.graphs.specs.Nodes.{Edge, is_link}
use Rattle.graphs.specs.Image.{Image, chain}
use Rattle.graphs.specs.Refusals.{after_out}
use Rattle.images.specs.declared.image.Image as code

-- The image in two areas.
abbrev pub image : (n m : ℕ) (after tail : List ℕ) → Image
image n m after tail = record { n = n; m = m; after = after; tail = tail }

-- The image that a call is lent.
abbrev pub image_of : code.Image → Image
image_of g = image g.n g.m g.after.now g.tail.now

-- Sizes within the limits, and an after area as long as stated.
pub record Sized (n m : ℕ) (after : List ℕ) : Type 0 where
  pub few_vertices : n ≤ 1000
  pub few_edges : m ≤ 4000
  pub long_after : n + m ≤ length after

-- Besides, every after word is null or an edge, whatever the tails.
pub record Chained (n m : ℕ) (after : List ℕ) : Type 0 where
  pub sized : Sized n m after
  pub links : (tail : List ℕ) → after_out (image n m after tail) ≡ false

-- The list that begins with an edge. One edge more than m is looked for, so that a ring of all edges does not pass for a list.
abbrev pub list_from : ℕ → List ℕ → ℕ → List ℕ
list_from m after first = chain (suc m) after first

-- Whether every edge so far was new, how many were, and the flags.
pub record Flagging : Type 0 where
  pub new : Bool
  pub count : ℕ
  pub flags : List ℕ

-- The edges flagged one after the other, up to the first that has its flag already.
abbrev pub flag_all : ℕ → List ℕ → ℕ → List ℕ → Flagging
flag_all n flags count [] = record { new = true; count = count; flags = flags }
flag_all n flags count (r ∷ rs) = cond (eqb (at n flags r) 0) (flag_all n (put n flags r 1) (suc count) rs) (record { new = false; count = count; flags = flags })

-- How many edges are flagged, where each of them was new.
abbrev pub flagged : Flagging → Option ℕ
flagged f = cond f.new (Some f.count) None

-- No edge is flagged yet.
abbrev pub no_flags : List ℕ
no_flags = replicate 4000 0

-- A list can be followed: its words are links, and so far the edges `done` were flagged, each of them new.
pub record Follows (n m first : ℕ) (after flags : List ℕ) (count : ℕ) : Type 0 where
  pub chained : Chained n m after
  pub first_link : is_link n m first ≡ true
  pub done : List ℕ
  pub edges : (x : ℕ) → Mem x done → Edge n m x
  pub flagged : flag_all n no_flags 0 done ≡ record { new = true; count = count; flags = flags }

-- An opening, by its number.
-- What the start's labelling leaves is one mark and one event, where there is room for them.
use Rattle.std.proofs.Common.{◌≡◌, sym, ap, ◌∙◌, ◌≢◌, Bool, not, ◌&&◌, List, [], ◌∷◌, ℕ, ◌+◌, ◌≤◌, arith, leb, length}
use Rattle.lists.specs.Members.{Mem}
use Rattle.lists.specs.Words.{put, overlay}
use Rattle.lists.proofs.Words.{put-put}
use Rattle.graphs.specs.Nodes.{Vertex}
use Rattle.graphs.specs.Events.{event, label, words, ◌▸◌}
use Rattle.graphs.specs.Image.{Image}
use Rattle.graphs.specs.Results.{marks_first}
use Rattle.graphs.specs.Refusals.{Lent, lent, short, search_number}
use Rattle.graphs.proofs.Refusals.{long}
use Rattle.graphs.proofs.Results.{marks-first}
use Rattle.graphs.proofs.Sound.{profile_sound}
use Rattle.folding.specs.Calls.{refusing, unless, unopened, open_number, opened_at, open_reply, opening}
use Rattle.walks.proofs.Numbers.{more-lent, own-test}
use Rattle.walks.specs.Writing.{Roomy}
use Rattle.walks.proofs.Writing.{Starts, beginning}
use Rattle.states.proofs.Numbers.{unless-refused}

-- The number that the code finds, from its tests of the areas.
pub numbered : (g : Image) (before : List ℕ) (start : ℕ) (marks area : List ℕ) {nodes k : ℕ} {all : Bool}
    → nodes ≡ g.n + g.m
    → all ≡ (leb nodes (length marks) && leb 3 (length area))
    → ((areas : List Lent) → all ≡ not (short areas) → k ≡ search_number g before start areas)
    → k ≡ search_number g before start (lent (g.n + g.m) marks ∷ lent 3 area ∷ [])
numbered g before start marks area e a number =
    number (lent (g.n + g.m) marks ∷ lent 3 area ∷ []) (a ∙ ap (λ (j : ℕ). leb j (length marks) && leb 3 (length area)) e ∙ more-lent (g.n + g.m) marks (lent 3 area ∷ []) _ (own-test 3 area))

module _ (g : Image) (before : List ℕ) (start : ℕ) (marks area : List ℕ) {k : ℕ} (e : k ≡ search_number g before start (lent (g.n + g.m) marks ∷ lent 3 area ∷ [])) where
  number_is : open_number g before start marks area ≡ k
  unfolding open_number
  number_is = sym e

  pub open-refused : k ≢ 0 → opening g before start marks area ≡ refusing k (unopened g start marks) area
  unfolding opening
  open-refused ne = ap (λ (j : ℕ). unless j (unopened g start marks) area (open_reply g before start marks area)) number_is ∙ unless-refused k (unopened g start marks) area (open_reply g before start marks area) ne

  pub open_taken : k ≡ 0 → opening g before start marks area ≡ open_reply g before start marks area
  unfolding opening
  open_taken z = ap (λ (j : ℕ). unless j (unopened g start marks) area (open_reply g before start marks area)) (number_is ∙ z)

  -- What an opening taken may rely on.
  pub record Opens : Type 0 where
    pub start_vertex : Vertex g.n start
    pub off : Mem start before → ⊥
    pub long_after : g.n + g.m ≤ length g.after
    pub long_marks : g.n + g.m ≤ length marks
    pub long-area : 3 ≤ length area

  pub opens : k ≡ 0 → Opens
  opens z =
      let P = profile_sound g before start (lent (g.n + g.m) marks ∷ lent 3 area ∷ []) (sym e ∙ z) in
      let a = long (g.n + g.m) marks (lent 3 area ∷ []) P.areas-long in
      record { start_vertex = P.start_vertex; off = P.listed.start_fresh; long_after = P.sound.long_after; long_marks = a.0; long-area = (long 3 area [] a.1).0 }

  pub opened : {marks' area' t : List ℕ} → k ≡ 0 → Starts (g.n + g.m) before start marks area marks' area' t
      → (put 0 marks' start 32769 ≡ (opened_at g before start marks).marks) × (area' ≡ overlay (words (event label 0 start ∷ [])) area)
  opened z w =
      let O = opens z in
      let x = O.start_vertex in
      let R : Roomy (g.n + g.m) ([] ▸ event label 0 start) marks area = record { long_marks = O.long_marks; room = O.long-area; few = omega arith } in
      let H = beginning R (omega arith) start O.off x.0 (omega arith) w in
      let first = marks-first (g.n + g.m) before marks start O.off x.0 (omega arith) in
      (ap (λ (l : List ℕ). put 0 l start 32769) (H.marked ∙ sym first) ∙ put-put 0 (marks_first (g.n + g.m) before marks) start 1 32769, H.written)

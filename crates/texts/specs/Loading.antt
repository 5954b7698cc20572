-- Reading a profile's text into lent areas: when it is refused, and the words that it leaves.
use Rattle.std.specs.Prelude.{Bool, false, cond, not, ◌&&◌, ◌||◌, List, [], ◌∷◌, ◌++◌, map, ℕ, zero, suc, ◌+◌, eqb, length}
use Rattle.std.proofs.Math.Option.{Option, none, some}
use Rattle.lists.specs.Members.{cons_if}
use Rattle.lists.specs.Words.{overlay, values_from}
use Rattle.graphs.specs.Nodes.{is_vertex}
use Rattle.graphs.specs.Image.{Image}
use Rattle.graphs.specs.Refusals.{refuse, first_of, lent, size_refusals, vertex_out, text_out}
use Rattle.texts.specs.Text.{Line, Listing, listing_of}

-- ---- the image of a listing
-- The edges of the value lines from u, in line order; r is the edge of the first line.
abbrev pub edges_from : ℕ → ℕ → List Line → List ℕ
edges_from u r [] = []
edges_from u r (l ∷ ls) = cons_if (eqb l.from u) r (edges_from u (suc r) ls)

-- The first of them; 0 where there is none.
abbrev pub first_from : ℕ → ℕ → List Line → ℕ
first_from u r [] = 0
first_from u r (l ∷ ls) = cond (eqb l.from u) r (first_from u (suc r) ls)

-- For each value line, the edge of the next line from the same element.
abbrev pub nexts_from : ℕ → List Line → List ℕ
nexts_from r [] = []
nexts_from r (l ∷ ls) = first_from l.from (suc r) ls ∷ nexts_from (suc r) ls

-- The after words: of each element its first edge, of each edge the next on the same list. The k-th value line is edge n + k.
unfoldable pub after_of : Listing → List ℕ
after_of p = values_from (λ u. first_from u (suc p.n) p.lines) 0 p.n ++ nexts_from (suc p.n) p.lines

-- The tail words.
abbrev pub tail_of : Listing → List ℕ
tail_of p = map (λ l. l.to) p.lines

-- The image that a listing leaves in two areas.
abbrev pub image_in : Listing → List ℕ → List ℕ → Image
image_in p after tail = record { n = p.n; m = p.m; after = overlay (after_of p) after; tail = overlay (tail_of p) tail }

-- ---- refusals
-- 6: a from or to is not in 1 to n.
abbrev pub line_out : ℕ → Line → Bool
line_out n l = not (is_vertex n l.from && is_vertex n l.to)

unfoldable pub lines_out : ℕ → List Line → Bool
lines_out n [] = false
lines_out n (l ∷ ls) = line_out n l || lines_out n ls

-- A text in its form is refused by 1, 2, 3, 4, 6, in this order.
unfoldable pub listing_number : Listing → List ℕ → List ℕ → ℕ
listing_number p after tail =
    first_of (size_refusals p.n p.m (lent (p.n + p.m) after ∷ lent p.m tail ∷ [])
    ++ refuse 4 (vertex_out p.n p.start) ∷ refuse 6 (lines_out p.n p.lines) ∷ [])

-- What becomes of a text: refused with a number, or loaded.
pub data Reading : Type 0 where
  refused : ℕ → Reading
  loaded : Listing → Reading

abbrev pub decided : ℕ → Listing → Reading
decided zero p = loaded p
decided (suc k) p = refused (suc k)

abbrev pub judged : Option Listing → List ℕ → List ℕ → Reading
judged none after tail = refused 12
judged (some p) after tail = decided (listing_number p after tail) p

-- 13 first, then 12, then the others.
unfoldable pub reading : List ℕ → List ℕ → List ℕ → Reading
reading text after tail = cond (text_out (length text)) (refused 13) (judged (listing_of text) after tail)

-- ---- what is left
-- The after area.
abbrev pub after_left : Reading → List ℕ → List ℕ
after_left (refused k) after = after
after_left (loaded p) after = overlay (after_of p) after

-- The tail area.
abbrev pub tail_left : Reading → List ℕ → List ℕ
tail_left (refused k) tail = tail
tail_left (loaded p) tail = overlay (tail_of p) tail

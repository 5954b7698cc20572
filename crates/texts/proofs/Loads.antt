-- A profile loaded is sound, its lists have the edges of its value lines in line order, and its edges lead where the lines say.
-- The after words of the lines chain those from one element; each line's edge stands on the list of its from alone, once.
use Rattle.std.proofs.Common.{◌≡◌, refl, sym, ap, ◌∙◌, subst, ◌⊎◌, inl, inr, Bool, true, false, cond, not, ◌||◌, List, [], ◌∷◌, ◌++◌, map, append_assoc, ℕ, zero, suc, ◌+◌, ◌-◌, ◌≤◌, ◌<◌, arith, eqb, ltb, length, get_or, drop, length-append, drop-drop, drop_at, get_or-drop, eq-eqb, ne_eqb, ltb-false}
use Rattle.std.proofs.Math.Option.{Option, none, some, some-injective, none-ne-some}
use lib.ListN.{length-map}
use borrow.Author.Tests.{eqb-false, not-false}
use Rattle.lists.specs.Members.{Mem, here, there, cons_if}
use Rattle.lists.specs.Counts.{bump, count_in}
use Rattle.lists.specs.Words.{at, values_from, filled}
use Rattle.lists.proofs.Tests.{both, neither, Compared, equal, other, compare}
use Rattle.lists.proofs.Members.{mem-nil, each-cons, mem-append}
use Rattle.lists.proofs.Counts.{count-append, all_of}
use Rattle.lists.proofs.Words.{length-values, at-filled}
use Rattle.graphs.specs.Nodes.{Vertex, is_vertex, is_link}
use Rattle.graphs.specs.Image.{Image, chain, edges_of, to, lists_to}
use Rattle.graphs.specs.Refusals.{refuse, lent, vertex_out, after_out, tail_out, list_out, text_out, size_refusals, sound}
use Rattle.graphs.proofs.Nodes.{vertex-is, edge-yes, link-of-edge}
use Rattle.graphs.proofs.Refusals.{all-false, long}
use Rattle.texts.specs.Text.{Line, Listing, listing_of}
use Rattle.texts.specs.Loading.{Reading, refused, loaded, decided, judged, reading, edges_from, first_from, nexts_from, after_of, tail_of, image_in, line_out, lines_out, listing_number}
use Rattle.texts.specs.Claims.{LoadClaim}
use Rattle.texts.proofs.Texts.{as_many}

-- ---- what is loaded
abbrev said : Reading → Option Listing
said (refused k) = none
said (loaded p) = some p

-- A text is loaded only where it says this profile and no condition turns it back.
pub taken : (text after tail : List ℕ) (p : Listing) → reading text after tail ≡ loaded p → (listing_of text ≡ some p) × (listing_number p after tail ≡ 0)
unfolding reading
taken text after tail p e = in-form (text_out (length text)) (listing_of text) (ap said e)
  where
    right : (q : Listing) (k : ℕ) → listing_number q after tail ≡ k → said (decided k q) ≡ some p → (some q ≡ some p) × (listing_number p after tail ≡ 0)
    right q zero h d = (d, subst (λ (l : Listing). listing_number l after tail ≡ 0) (some-injective q p d) h)
    right q (suc k) h d = absurd (none-ne-some p d)

    in-form : (b : Bool) (o : Option Listing) → said (cond b (refused 13) (judged o after tail)) ≡ some p → (o ≡ some p) × (listing_number p after tail ≡ 0)
    in-form true o d = absurd (none-ne-some p d)
    in-form false none d = absurd (none-ne-some p d)
    in-form false (some q) d = right q (listing_number q after tail) refl d

-- A profile loaded is within the limits, and fits the areas.
pub record Fits (p : Listing) (after tail : List ℕ) : Type 0 where
  pub some-vertex : 0 < p.n
  pub few_vertices : p.n ≤ 1000
  pub few_edges : p.m ≤ 4000
  pub fits_after : p.n + p.m ≤ length after
  pub fits-tail : p.m ≤ length tail

-- So it is with every text loaded.
pub loaded-fits : (text after tail : List ℕ) (p : Listing) → reading text after tail ≡ loaded p → Fits p after tail
unfolding listing_number
loaded-fits text after tail p e =
    let sizes = size_refusals p.n p.m (lent (p.n + p.m) after ∷ lent p.m tail ∷ []) in
    let vertices = refuse 4 (vertex_out p.n p.start) ∷ refuse 6 (lines_out p.n p.lines) ∷ [] in
    let c = (all-false (sizes ++ vertices) [] (omega arith) (taken text after tail p e).1).0 in
    let v = neither (eqb p.n 0) (ltb 1000 p.n) c.0 in
    let some-n = eqb-false p.n 0 v.0 in
    let a = long (p.n + p.m) after (lent p.m tail ∷ []) c.1.1.0 in
    record { some-vertex = omega arith; few_vertices = ltb-false 1000 p.n v.1; few_edges = ltb-false 4000 p.m c.1.0; fits_after = a.0; fits-tail = (long p.m tail [] a.1).0 }

-- ---- words
-- The words in front are those put there.
words-mem : (ws rest : List ℕ) (i : ℕ) → i < length ws → Mem (get_or (ws ++ rest) i 0) ws
words-mem [] rest i h = absurd (omega arith)
words-mem (w ∷ ws) rest zero h = here refl
words-mem (w ∷ ws) rest (suc i) h = there (words-mem ws rest i (omega arith))

word-mem : (ws rest : List ℕ) (x : ℕ) → 0 < x → x ≤ length ws → Mem (at 0 (ws ++ rest) x) ws
unfolding at
word-mem ws rest x p q = words-mem ws rest (x - suc zero) (omega arith)

-- The words of an area from place k on, as the words of nodes.
word_at : (b : ℕ) (area : List ℕ) (k w : ℕ) (ws : List ℕ) → drop k area ≡ w ∷ ws → at b area (suc (b + k)) ≡ w
unfolding at
word_at b area k w ws e =
    let place : suc (b + k) - suc b ≡ k + 0 = omega arith in
    ap (λ (i : ℕ). get_or area i 0) place ∙ sym (get_or-drop k area 0 0) ∙ ap (λ (l : List ℕ). get_or l 0 0) e

-- The words after the first of them.
drop-next : (area : List ℕ) (k w : ℕ) (ws : List ℕ) → drop k area ≡ w ∷ ws → drop (suc k) area ≡ ws
drop-next area k w ws e =
    let one : suc k ≡ k + 1 = omega arith in
    ap (λ (i : ℕ). drop i area) one ∙ sym (drop-drop 1 k area) ∙ ap (drop 1) e

-- The words put into an area, read node by node.
words-read : (b : ℕ) (area : List ℕ) (k : ℕ) (ws rest : List ℕ) → drop k area ≡ ws ++ rest → map (at b area) (values_from (λ r. r) (b + k) (length ws)) ≡ ws
words-read b area k [] rest e = refl
words-read b area k (w ∷ ws) rest e =
    let one : suc (b + k) ≡ b + suc k = omega arith in
    let ih = words-read b area (suc k) ws rest (drop-next area k w (ws ++ rest) e) in
    λ i. word_at b area k w (ws ++ rest) e i ∷ (ap (λ (c : ℕ). map (at b area) (values_from (λ r. r) c (length ws))) one ∙ ih) i

-- ---- links of lines
-- The first edge from an element is null or the edge of a line.
first_link : (n m u r : ℕ) (ls : List Line) → n < r → r + length ls ≤ suc (n + m) → is_link n m (first_from u r ls) ≡ true
first_link n m u r [] p q = refl
first_link n m u r (l ∷ ls) p q = go (eqb l.from u) (first_link n m u (suc r) ls (omega arith) (omega arith))
  where
    go : (b : Bool) → is_link n m (first_from u (suc r) ls) ≡ true → is_link n m (cond b r (first_from u (suc r) ls)) ≡ true
    go true ih = link-of-edge n m r (edge-yes n m r (p, omega arith))
    go false ih = ih

nexts-link : (n m r : ℕ) (ls : List Line) → n < r → r + length ls ≤ suc (n + m) → (w : ℕ) → Mem w (nexts_from r ls) → is_link n m w ≡ true
nexts-link n m r [] p q w h = absurd (mem-nil h)
nexts-link n m r (l ∷ ls) p q w h = each-cons (λ x. is_link n m x ≡ true) _ _ (first_link n m l.from (suc r) ls (omega arith) (omega arith)) (nexts-link n m (suc r) ls (omega arith) (omega arith)) w h

values-each : (P : ℕ → Type 0) (f : ℕ → ℕ) (b k : ℕ) → ((x : ℕ) → P (f x)) → (w : ℕ) → Mem w (values_from f b k) → P w
values-each P f b zero h w m = absurd (mem-nil m)
values-each P f b (suc k) h w m = each-cons P _ _ (h (suc b)) (values-each P f (suc b) k h) w m

length-nexts : (r : ℕ) (ls : List Line) → length (nexts_from r ls) ≡ length ls
length-nexts r [] = refl
length-nexts r (l ∷ ls) = ap suc (length-nexts (suc r) ls)

-- A line that is in: its from and its to are elements.
line-in : (n : ℕ) (l : Line) (ls : List Line) → lines_out n (l ∷ ls) ≡ false → (is_vertex n l.from ≡ true) × (is_vertex n l.to ≡ true) × (lines_out n ls ≡ false)
unfolding lines_out
line-in n l ls e =
    let z = neither (line_out n l) (lines_out n ls) e in
    let y = both (is_vertex n l.from) (is_vertex n l.to) (not-false _ z.0) in
    (y.0, y.1, z.1)

tails-in : (n : ℕ) (ls : List Line) → lines_out n ls ≡ false → (w : ℕ) → Mem w (map (λ (l : Line). l.to) ls) → is_vertex n w ≡ true
tails-in n [] e w m = absurd (mem-nil m)
tails-in n (l ∷ ls) e w m = let z = line-in n l ls e in each-cons (λ x. is_vertex n x ≡ true) _ _ z.1 (tails-in n ls z.2) w m

-- ---- chains of lines
-- The after words of the edges of these lines, from edge k + 1 on, chain the lines from u.
chain-lines : (after : List ℕ) (u fuel k : ℕ) (ls : List Line) (rest : List ℕ) → drop k after ≡ nexts_from (suc k) ls ++ rest → length ls < fuel → chain fuel after (first_from u (suc k) ls) ≡ edges_from u (suc k) ls
chain-lines after u zero k ls rest e h = absurd (omega arith)
chain-lines after u (suc fuel) k [] rest e h = refl
chain-lines after u (suc fuel) k (l ∷ ls) rest e h =
    let past = drop-next after k (first_from l.from (suc (suc k)) ls) (nexts_from (suc (suc k)) ls ++ rest) e in
    go (compare l.from u) (chain-lines after u fuel (suc k) ls rest past (omega arith)) (chain-lines after u (suc fuel) (suc k) ls rest past (omega arith))
  where
    go : Compared l.from u → chain fuel after (first_from u (suc (suc k)) ls) ≡ edges_from u (suc (suc k)) ls → chain (suc fuel) after (first_from u (suc (suc k)) ls) ≡ edges_from u (suc (suc k)) ls → chain (suc fuel) after (first_from u (suc k) (l ∷ ls)) ≡ edges_from u (suc k) (l ∷ ls)
    go (equal q t) on off =
        let zero-add : 0 + k ≡ k = omega arith in
        let word : at 0 after (suc k) ≡ first_from u (suc (suc k)) ls = ap (λ (i : ℕ). at 0 after (suc i)) (sym zero-add) ∙ word_at 0 after k _ _ e ∙ ap (λ (v : ℕ). first_from v (suc (suc k)) ls) q in
        rw t (ap (λ (es : List ℕ). suc k ∷ es) (ap (chain fuel after) word ∙ on))
    go (other q t) on off = rw t off

-- ---- counts of lines
-- An edge before these lines stands nowhere among theirs.
count-before : (x u r : ℕ) (ls : List Line) → x < r → count_in x (edges_from u r ls) ≡ 0
count-before x u r [] h = refl
count-before x u r (l ∷ ls) h = go (eqb l.from u) (count-before x u (suc r) ls (omega arith))
  where
    go : (b : Bool) → count_in x (edges_from u (suc r) ls) ≡ 0 → count_in x (cons_if b r (edges_from u (suc r) ls)) ≡ 0
    go true ih = rw (ne_eqb x r (omega arith)) ih
    go false ih = ih

-- The from of the line whose edge is x.
abbrev from_of : ℕ → ℕ → List Line → ℕ
from_of x r [] = 0
from_of x r (l ∷ ls) = cond (eqb x r) l.from (from_of x (suc r) ls)

from_in : (n x r : ℕ) (ls : List Line) → lines_out n ls ≡ false → r ≤ x → x < r + length ls → is_vertex n (from_of x r ls) ≡ true
from_in n x r [] e p q = absurd (omega arith)
from_in n x r (l ∷ ls) e p q = let z = line-in n l ls e in go (compare x r) z.0 (λ a. from_in n x (suc r) ls z.2 a (omega arith))
  where
    go : Compared x r → is_vertex n l.from ≡ true → (suc r ≤ x → is_vertex n (from_of x (suc r) ls) ≡ true) → is_vertex n (from_of x r (l ∷ ls)) ≡ true
    go (equal d t) first ih = rw t first
    go (other d t) first ih = rw t (ih (omega arith))

-- A line's edge stands among those from u once where u is the line's from, and else not.
count-lines : (x u r : ℕ) (ls : List Line) → r ≤ x → x < r + length ls → count_in x (edges_from u r ls) ≡ bump (eqb (from_of x r ls) u) 0
count-lines x u r [] p q = absurd (omega arith)
count-lines x u r (l ∷ ls) p q = go (compare x r) (eqb l.from u) refl (λ a. count-lines x u (suc r) ls a (omega arith))
  where
    go : Compared x r → (b : Bool) → eqb l.from u ≡ b → (suc r ≤ x → count_in x (edges_from u (suc r) ls) ≡ bump (eqb (from_of x (suc r) ls) u) 0) → count_in x (cons_if b r (edges_from u (suc r) ls)) ≡ bump (eqb (from_of x r (l ∷ ls)) u) 0
    go (equal d t) true e ih = rw (t, e) (ap suc (count-before x u (suc r) ls (omega arith)))
    go (equal d t) false e ih = rw (t, e) (count-before x u (suc r) ls (omega arith))
    go (other d t) true e ih = rw t (ih (omega arith))
    go (other d t) false e ih = rw t (ih (omega arith))

-- What stands once on the list of v, and on no other, is counted once in the lists from that of v on.
count-lists : (g : Image) (x v : ℕ) → 0 < v → ((u : ℕ) → Vertex g.n u → count_in x (edges_of g u) ≡ bump (eqb v u) 0) → (k : ℕ) → k ≤ g.n → (k < v → count_in x (lists_to g k) ≡ 0) × (v ≤ k → count_in x (lists_to g k) ≡ 1)
count-lists g x v h one zero q = (λ a. refl, λ a. absurd (omega arith))
count-lists g x v h one (suc k) q = go (count-lists g x v h one k (omega arith)) (compare v (suc k)) (one (suc k) (omega arith)) (count-append x (lists_to g k) (edges_of g (suc k)))
  where
    go : (k < v → count_in x (lists_to g k) ≡ 0) × (v ≤ k → count_in x (lists_to g k) ≡ 1) → Compared v (suc k) → count_in x (edges_of g (suc k)) ≡ bump (eqb v (suc k)) 0 → count_in x (lists_to g (suc k)) ≡ count_in x (lists_to g k) + count_in x (edges_of g (suc k)) → (suc k < v → count_in x (lists_to g (suc k)) ≡ 0) × (v ≤ suc k → count_in x (lists_to g (suc k)) ≡ 1)
    go ih (equal d t) last sum = let z : count_in x (edges_of g (suc k)) ≡ 1 = rw t at last in (λ a. absurd (omega arith), λ a. (let i = ih.0 (omega arith) in omega arith))
    go ih (other d t) last sum = let z : count_in x (edges_of g (suc k)) ≡ 0 = rw t at last in (λ a. (let i = ih.0 (omega arith) in omega arith), λ a. (let i = ih.1 (omega arith) in omega arith))

-- ---- the image of a listing
module _ (p : Listing) (after tail : List ℕ) (many : length p.lines ≡ p.m) where
  abbrev left : Image
  left = image_in p after tail

  -- The edge of the first line, the first edge from each element, and the after words of the edges.
  abbrev begin : ℕ
  begin = suc p.n

  abbrev first : ℕ → ℕ
  first u = first_from u begin p.lines

  abbrev nexts : List ℕ
  nexts = nexts_from begin p.lines

  abbrev past : List ℕ
  past = drop (length (after_of p)) after

  after-words : left.after ≡ values_from first 0 p.n ++ (nexts ++ past)
  unfolding after_of
  after-words = append_assoc (values_from first 0 p.n) nexts past

  next-words : drop p.n left.after ≡ nexts ++ past
  next-words = ap (drop p.n) after-words ∙ drop_at (values_from first 0 p.n) (nexts ++ past) p.n (length-values first 0 p.n)

  first_word : (u : ℕ) → Vertex p.n u → at 0 left.after u ≡ first u
  first_word u h =
      let same : left.after ≡ filled first p.n left.after = after-words ∙ ap (λ (ws : List ℕ). values_from first 0 p.n ++ ws) (sym next-words) in
      ap (λ (ws : List ℕ). at 0 ws u) same ∙ at-filled first p.n left.after u h.0 h.1

  list-lines : (u : ℕ) → Vertex p.n u → edges_of left u ≡ edges_from u begin p.lines
  unfolding edges_of
  list-lines u h = ap (chain (suc p.m) left.after) (first_word u h) ∙ chain-lines left.after u (suc p.m) p.n p.lines past next-words (omega arith)

  line-targets : map (to left) (values_from (λ r. r) p.n p.m) ≡ tail_of p
  line-targets =
      let rest = drop (length (tail_of p)) tail in
      let same : p.n + 0 ≡ p.n = omega arith in
      let all : length (tail_of p) ≡ p.m = length-map p.lines (λ (l : Line). l.to) ∙ many in
      (λ i. map (to left) (values_from (λ r. r) (sym same i) (sym all i))) ∙ words-read p.n left.tail 0 (tail_of p) rest refl

  -- Condition 5 is false: every after word is null or an edge.
  links : (w : ℕ) → Mem w (after_of p) → is_link p.n p.m w ≡ true
  unfolding after_of
  links w h = go (mem-append (values_from first 0 p.n) nexts h)
    where
      go : Mem w (values_from first 0 p.n) ⊎ Mem w nexts → is_link p.n p.m w ≡ true
      go (inl q) = values-each (λ x. is_link p.n p.m x ≡ true) first 0 p.n (λ u. first_link p.n p.m u begin p.lines (omega arith) (omega arith)) w q
      go (inr q) = nexts-link p.n p.m begin p.lines (omega arith) (omega arith) w q

  length-after : length (after_of p) ≡ p.n + p.m
  unfolding after_of
  length-after = omega (arith, length-append (values_from first 0 p.n) nexts, length-values first 0 p.n, length-nexts begin p.lines)

  after-in : after_out left ≡ false
  unfolding after_out
  after-in = ap not (all_of _ (p.n + p.m) (λ x a b. links _ (word-mem (after_of p) past x a (omega (arith, length-after)))))

  module _ (lines-in : lines_out p.n p.lines ≡ false) where
    -- Condition 6 is false: every tail is an element.
    tail-in : tail_out p.n p.m left.tail ≡ false
    unfolding tail_out
    tail-in = ap not (all_of _ p.m (λ x a b. tails-in p.n p.lines lines-in _ (word-mem (tail_of p) (drop (length (tail_of p)) tail) x a (omega (arith, length-map p.lines (λ (l : Line). l.to))))))

    -- Condition 7 is false: every edge stands on the list of its line's from, once.
    counted : (k : ℕ) → 0 < k → k ≤ p.m → count_in (p.n + k) (lists_to left p.n) ≡ 1
    counted k a b =
        let x = p.n + k in
        let v = from_of x begin p.lines in
        let in-n = vertex-is p.n v (from_in p.n x begin p.lines lines-in (omega arith) (omega arith)) in
        (count-lists left x v in-n.0 (λ u h. ap (count_in x) (list-lines u h) ∙ count-lines x u begin p.lines (omega arith) (omega arith)) p.n (omega arith)).1 in-n.1

    list-in : list_out left ≡ false
    unfolding list_out
    list-in = ap not (all_of _ p.m (λ k a b. eq-eqb _ 1 (counted k a b)))

pub load-claim : LoadClaim
unfolding listing_number sound
load-claim text after tail p e =
    let t = taken text after tail p e in
    let many = as_many text p t.0 in
    let c = all-false (size_refusals p.n p.m (lent (p.n + p.m) after ∷ lent p.m tail ∷ []) ++ refuse 4 (vertex_out p.n p.start) ∷ refuse 6 (lines_out p.n p.lines) ∷ []) [] (omega arith) t.1 in
    let a = after-in p after tail many in
    let b = tail-in p after tail many c.0.1.1.1.1.0 in
    let d = list-in p after tail many c.0.1.1.1.1.0 in
    record {
      profile_sound = λ i. not (c.0.0 i || (c.0.1.0 i || (c.0.1.1.1.0 i || (a i || (b i || (d i || false))))));
      lists = list-lines p after tail many;
      targets = line-targets p after tail many;
    }

-- Laws of the reader of a profile: what writing and linking value lines leaves, and what the parts read say of the whole text.
-- Value lines are written one by one from the first, and linked one by one from the last.
use Rattle.std.proofs.Common.{◌≡◌, refl, sym, ap, ◌∙◌, Bool, false, cond, List, [], ◌∷◌, ◌++◌, map, append_assoc, ℕ, zero, suc, ◌+◌, ◌-◌, ◌≤◌, ◌<◌, arith, add-one, eqb, ltb, length, get_or, set, take, drop, replicate, length-append, length-drop, drop_of_length-le, length-take-le, take_all, take-suc, drop-cons, drop_at, eq-eqb, ne_eqb, ltb-false, lt-ltb, le-ltb}
use Rattle.std.proofs.Math.Option.{Option, none, some}
use mathlib.Core.List.{map-append}
use Rattle.std.specs.Prelude as std
use Rattle.std.specs.Prelude.{Err, ok_or}
use Rattle.refusals.specs.declared.Refusal.{Refusal}
use lib.ListN.{length-map}
use lib.Seq.{set_at, get_or_at}
use borrow.Author.Tests.{not-false}
use Rattle.lists.specs.Words.{at, put, overlay, pasted, cleared, values_from}
use Rattle.lists.proofs.Tests.{Compared, equal, other, compare, both, neither}
use Rattle.lists.proofs.Words.{but, values_same, values-zero, length-values, put-filled, at-filled, length-pasted, pasted-none, pasted-front, pasted-next}
use Rattle.graphs.specs.Nodes.{Vertex, is_vertex}
use Rattle.graphs.specs.Refusals.{refuse, lent, size_refusals, vertex_out}
use Rattle.graphs.proofs.Nodes.{vertex-is}
use Rattle.graphs.proofs.Refusals.{all-false, long}
use Rattle.texts.specs.Text.{Line, Listing, and_then, line_at, lines_at, head_at, listing_of}
use Rattle.texts.specs.Loading.{first_from, nexts_from, after_of, line_out, lines_out, listing_number, Reading, refused, loaded, decided, judged, reading, after_left, tail_left}
use Rattle.texts.specs.Answers.{Answer, refused_with, sizes, answer_to}
use Rattle.texts.specs.Lines.{listed, Placed, CanLink}
use Rattle.texts.proofs.Texts.{length-lines}

abbrev froms : List Line → List ℕ
froms ls = map (λ l. l.from) ls

abbrev tos : List Line → List ℕ
tos ls = map (λ l. l.to) ls

blank : Line
blank = record { from = 0; to = 0 }

-- ---- one reading after another
-- Where the second found something, the first did.
record Chain {A B : Type 0} (x : Option A) (f : A → Option B) (b : B) : Type 0 where
  value : A
  found : x ≡ some value
  next : f value ≡ some b

chained : {A B : Type 0} (x : Option A) (f : A → Option B) (b : B) → and_then x f ≡ some b → Chain x f b
chained none f b e = absurd (let z : ◌≡◌ {A = ℕ} 0 1 = cc in omega arith)
chained (some a) f b e = record { value = a; found = refl; next = e }

-- What was found, where it was asked for or refused.
pub none-refused : {A : Type 0} (o : std.Option A) {r e : Refusal} → Err e ≡ ok_or o r → e ≡ r
none-refused std.None h = cc
none-refused (std.Some a) h = cc

-- ---- writing
-- The words of the first k lines are pasted, and the next line's word is stored behind them.
paste-line : (f : Line → ℕ) (b k : ℕ) (ls : List Line) (area : List ℕ) → k < length ls → b + length ls ≤ length area → set (pasted b (map f (take k ls)) area) (b + k) (f (get_or ls k blank)) ≡ pasted b (map f (take (k + 1) ls)) area
paste-line f b k ls area h q =
    let l : length (map f (take k ls)) ≡ k = length-map (take k ls) f ∙ length-take-le k ls (omega arith) in
    ap (λ (i : ℕ). set (pasted b (map f (take k ls)) area) (b + i) (f (get_or ls k blank))) (sym l)
    ∙ pasted-next b area (omega arith) (map f (take k ls)) (f (get_or ls k blank)) (omega arith)
    ∙ rw (add-one k, take-suc ls k blank h, map-append)

-- The first k lines are written, and the others stand in the text from place next on.
pub record Written (text : List ℕ) (n m : ℕ) (ls : List Line) (after₀ tail₀ : List ℕ) (k next : ℕ) (after tail : List ℕ) : Type 0 where
  pub number : length ls ≡ m
  pub left : lines_at text next (m - k) ≡ some (drop k ls)
  pub after-words : after ≡ pasted n (froms (take k ls)) after₀
  pub tail-words : tail ≡ pasted 0 (tos (take k ls)) tail₀

module _ {text : List ℕ} {n m : ℕ} {ls : List Line} {after₀ tail₀ : List ℕ} where
  pub written_none : (at : ℕ) → lines_at text at m ≡ some ls → Written text n m ls after₀ tail₀ 0 at after₀ tail₀
  written_none at e =
      let z : m - 0 ≡ m = omega arith in
      record {
        number = length-lines text at m ls e;
        left = rw z e;
        after-words = sym (pasted-none n after₀);
        tail-words = sym (pasted-none 0 tail₀);
      }

  module _ {k next : ℕ} {after tail : List ℕ} (h : Written text n m ls after₀ tail₀ k next after tail) where
    -- Where a line is left, one is found.
    pub written_out : k < m → none ≡ line_at text next → ⊥
    unfolding lines_at
    written_out q e =
        let j : m - k ≡ suc (m - suc k) = omega arith in
        let l : and_then (line_at text next) _ ≡ some (drop k ls) = rw j at h.left in
        let z : ◌≡◌ {A = ℕ} 0 1 = cc in
        omega arith

    pub written_next : {from to past : ℕ} → k < m → n + m ≤ length after₀ → m ≤ length tail₀ → some (record { line = record { from = from; to = to }; next = past }) ≡ line_at text next → Written text n m ls after₀ tail₀ (k + 1) past (set after (n + k) from) (set tail k to)
    unfolding lines_at
    written_next {from} {to} {past} q a t e =
        let lt : k < length ls = omega (arith, h.number) in
        let j : m - k ≡ suc (m - suc k) = omega arith in
        let line : Line = record { from = from; to = to } in
        let l : and_then (line_at text next) (λ l. and_then (lines_at text l.next (m - suc k)) (λ ls. some (l.line ∷ ls))) ≡ some (drop k ls) = rw j at h.left in
        let b = chained (lines_at text past (m - suc k)) (λ ls. some (line ∷ ls)) (drop k ls) (rw (← e) at l) in
        let c : line ∷ b.value ≡ get_or ls k blank ∷ drop (suc k) ls = cc (drop-cons ls k blank lt) in
        let here : line ≡ get_or ls k blank = cc in
        let i : 0 + k ≡ k = omega arith in
        record {
          number = h.number;
          left = rw add-one cc;
          after-words = (λ i. set (h.after-words i) (n + k) (here i).from) ∙ paste-line (λ l. l.from) n k ls after₀ lt (omega (arith, h.number));
          tail-words = (λ i. set (h.tail-words i) k (here i).to) ∙ rw i at (paste-line (λ l. l.to) 0 k ls tail₀ lt (omega (arith, h.number)));
        }

    pub written_all : m ≤ k → (after ≡ pasted n (froms ls) after₀) × (tail ≡ overlay (tos ls) tail₀)
    written_all q =
        let w : take k ls ≡ ls = take_all k ls (omega (arith, h.number)) in
        (h.after-words ∙ ap (λ (l : List Line). pasted n (froms l) after₀) w, h.tail-words ∙ ap (λ (l : List Line). pasted 0 (tos l) tail₀) w ∙ pasted-front (tos ls) tail₀)

-- ---- a word of a vertex in front of other words
module _ (f : ℕ → ℕ) (n : ℕ) (rest : List ℕ) (u : ℕ) (v : Vertex n u) where
  past : drop n (values_from f 0 n ++ rest) ≡ rest
  past = drop_at (values_from f 0 n) rest n (length-values f 0 n)

  front_at : get_or (values_from f 0 n ++ rest) (u - 1) 0 ≡ f u
  unfolding at
  front_at = ap (λ (l : List ℕ). get_or (values_from f 0 n ++ l) (u - 1) 0) (sym past) ∙ at-filled f n (values_from f 0 n ++ rest) u v.0 v.1

  front-set : (w : ℕ) → set (values_from f 0 n ++ rest) (u - 1) w ≡ values_from (but f u w) 0 n ++ rest
  unfolding put
  front-set w =
      ap (λ (l : List ℕ). set (values_from f 0 n ++ l) (u - 1) w) (sym past)
      ∙ put-filled f n (values_from f 0 n ++ rest) u w v.0 v.1
      ∙ ap (λ (l : List ℕ). values_from (but f u w) 0 n ++ l) past

-- ---- linking
-- The after words where all lines but the first k are linked, and r is the edge of the first one linked.
abbrev half : (r n k : ℕ) → List Line → List ℕ → List ℕ
half r n k ls area = values_from (λ u. first_from u r (drop k ls)) 0 n ++ (froms (take k ls) ++ (nexts_from r (drop k ls) ++ drop (n + length ls) area))

eqb-flip : (x y : ℕ) → eqb x y ≡ eqb y x
eqb-flip x y = go (compare x y)
  where
    go : Compared x y → eqb x y ≡ eqb y x
    go (equal e t) = t ∙ sym (eq-eqb y x (sym e))
    go (other ne t) = t ∙ sym (ne_eqb y x (λ e. ne (sym e)))

from-vertex : (n : ℕ) (ls : List Line) (k : ℕ) → lines_out n ls ≡ false → k < length ls → Vertex n (get_or ls k blank).from
unfolding lines_out
from-vertex n [] k e h = absurd (omega arith)
from-vertex n (l ∷ ls) zero e h =
    vertex-is n l.from (both (is_vertex n l.from) (is_vertex n l.to) (not-false _ (neither (line_out n l) (lines_out n ls) e).0)).0
from-vertex n (l ∷ ls) (suc k) e h = from-vertex n ls k (neither (line_out n l) (lines_out n ls) e).1 (omega arith)

-- One line more is linked: the last of the first k + 1.
module _ (r n k : ℕ) (ls : List Line) (area : List ℕ) (h : k < length ls) where
  abbrev from : ℕ
  from = (get_or ls k blank).from

  abbrev first : ℕ → ℕ
  first u = first_from u (suc r) (drop (suc k) ls)

  abbrev rest : List ℕ
  rest = nexts_from (suc r) (drop (suc k) ls) ++ drop (n + length ls) area

  abbrev words : (ℕ → ℕ) → ℕ → List ℕ
  words f w = values_from f 0 n ++ (froms (take k ls) ++ (w ∷ rest))

  cut : half (suc r) n (suc k) ls area ≡ words first from
  cut = rw (take-suc ls k blank h, map-append, append_assoc)

  joined : half r n k ls area ≡ words (λ u. cond (eqb from u) r (first u)) (first from)
  joined = ap (λ (l : List Line). values_from (λ u. first_from u r l) 0 n ++ (froms (take k ls) ++ (nexts_from r l ++ drop (n + length ls) area))) (drop-cons ls k blank h)

  front : (f : ℕ → ℕ) → length (values_from f 0 n ++ froms (take k ls)) ≡ n + k
  front f = let q : k ≤ length ls = omega arith in simp (length-append, length-map, length-values, length-take-le k ls q)

  at_edge : (f : ℕ → ℕ) (w : ℕ) → get_or (words f w) (n + k) 0 ≡ w
  at_edge f w = rw (← append_assoc) (get_or_at (values_from f 0 n ++ froms (take k ls)) w rest 0 (n + k) (front f))

  set-edge : (f : ℕ → ℕ) (w x : ℕ) → set (words f w) (n + k) x ≡ words f x
  set-edge f w x =
      ap (λ (l : List ℕ). set l (n + k) x) (sym (append_assoc (values_from f 0 n) (froms (take k ls)) (w ∷ rest)))
      ∙ set_at (values_from f 0 n ++ froms (take k ls)) w rest x (n + k) (front f)
      ∙ append_assoc (values_from f 0 n) (froms (take k ls)) (x ∷ rest)

  half-from : get_or (half (suc r) n (suc k) ls area) (n + k) 0 ≡ from
  half-from = ap (λ (l : List ℕ). get_or l (n + k) 0) cut ∙ at_edge first from

  -- The edge gets the first of its vertex's list, and the vertex gets the edge.
  half-next : Vertex n from → set (set (half (suc r) n (suc k) ls area) (n + k) (get_or (half (suc r) n (suc k) ls area) (from - 1) 0)) (from - 1) r ≡ half r n k ls area
  half-next v =
      let w : get_or (half (suc r) n (suc k) ls area) (from - 1) 0 ≡ first from = ap (λ (l : List ℕ). get_or l (from - 1) 0) cut ∙ front_at first n (froms (take k ls) ++ (from ∷ rest)) from v in
      (λ i. set (set (cut i) (n + k) (w i)) (from - 1) r)
      ∙ ap (λ (l : List ℕ). set l (from - 1) r) (set-edge first from (first from))
      ∙ front-set first n (froms (take k ls) ++ (first from ∷ rest)) from v r
      ∙ ap (λ (l : List ℕ). l ++ (froms (take k ls) ++ (first from ∷ rest))) (values_same (but first from r) (λ u. cond (eqb from u) r (first u)) 0 n (λ u p q. rw (eqb-flip u from)))
      ∙ sym joined

-- The course of it: all lines but the first k are linked.
pub record Linked (n m k : ℕ) (ls : List Line) (area after : List ℕ) : Type 0 where
  pub number : length ls ≡ m
  pub vertices : lines_out n ls ≡ false
  pub long : n + m ≤ length area
  pub upto : k ≤ m
  pub words : after ≡ half (suc (n + k)) n k ls area

length-nexts : (r : ℕ) (ls : List Line) → length (nexts_from r ls) ≡ length ls
length-nexts r [] = refl
length-nexts r (l ∷ ls) = ap suc (length-nexts (suc r) ls)

module _ {n m : ℕ} {ls : List Line} {area : List ℕ} where
  -- At the beginning every list is empty, and no line is linked.
  pub linked-none : {entry after : List ℕ} → Placed n m ls area entry → after ≡ cleared n entry → Linked n m m ls area after
  linked-none p e =
      let t : ls ≡ take m ls = sym (take_all m ls (omega (arith, p.number))) in
      let d : [] ≡ drop m ls = sym (drop_of_length-le ls {i = m} (omega (arith, p.number))) in
      record {
        number = p.number;
        vertices = p.vertices;
        long = p.long;
        upto = omega arith;
        words = e
            ∙ ap (λ (l : List ℕ). cleared n l) p.words
            ∙ ap (λ (l : List ℕ). replicate n 0 ++ l) (drop_at (take n area) (froms ls ++ drop (n + length (froms ls)) area) n (length-take-le n area (omega (arith, p.long))))
            ∙ ap (λ (l : List ℕ). l ++ (froms ls ++ drop (n + length (froms ls)) area)) (sym (values-zero (λ u. 0) 0 n (λ u a b. refl)))
            ∙ (λ i. values_from (λ u. first_from u (suc (n + m)) (d i)) 0 n ++ (froms (t i) ++ (nexts_from (suc (n + m)) (d i) ++ drop (n + length-map ls (λ l. l.from) i) area)));
      }

  linked-length : {k : ℕ} {after : List ℕ} → Linked n m k ls area after → length after ≡ length area
  linked-length {k} h =
      let q : k ≤ length ls = omega (arith, h.number, h.upto) in
      ap length h.words ∙ simp (length-append, length-map, length-values, length-nexts, length-take-le k ls q, length-drop) (omega (arith, h.long, h.number, h.upto))

  from-word : {after : List ℕ} (k : ℕ) → Linked n m (suc k) ls area after → get_or after (n + k) 0 ≡ (get_or ls k blank).from
  from-word k h = ap (λ (l : List ℕ). get_or l (n + k) 0) h.words ∙ half-from (n + suc k) n k ls area (omega (arith, h.number, h.upto))

  -- The word of the next edge to be linked is a vertex.
  linked-from : {after : List ℕ} (k : ℕ) → Linked n m k ls area after → 0 < k → Vertex n (get_or after (n + (k - 1)) 0)
  linked-from zero h z = absurd (omega arith)
  linked-from (suc k) h z =
      let e : suc k - 1 ≡ k = omega arith in
      rw (e, from-word k h) (from-vertex n ls k h.vertices (omega (arith, h.number, h.upto)))

  -- One line more is linked, the last of the first k.
  pub linked-next : {after : List ℕ} (k : ℕ) → Linked n m k ls area after → 0 < k → Linked n m (k - 1) ls area (set (set after (n + (k - 1)) (get_or after (get_or after (n + (k - 1)) 0 - 1) 0)) (get_or after (n + (k - 1)) 0 - 1) (n + (k - 1) + 1))
  linked-next zero h z = absurd (omega arith)
  linked-next {after} (suc k) h z =
      let b : suc k - 1 ≡ k = omega arith in
      let r : n + suc k ≡ suc (n + k) = omega arith in
      let s : suc (n + k) ≡ n + suc k = sym r in
      let q : k < length ls = omega (arith, h.number, h.upto) in
      let f = from-word k h in
      rw (b, add-one (n + k)) record {
        number = h.number;
        vertices = h.vertices;
        long = h.long;
        upto = omega (arith, h.upto);
        words = (λ i. set (set (h.words i) (n + k) (get_or (h.words i) (f i - 1) 0)) (f i - 1) (s i))
            ∙ half-next (n + suc k) n k ls area q (from-vertex n ls k h.vertices q)
            ∙ ap (λ (e : ℕ). half e n k ls area) r;
      }

  pub linked-all : {after : List ℕ} (start : ℕ) → Linked n m 0 ls area after → after ≡ overlay (after_of (listed n m start ls)) area
  unfolding after_of
  linked-all start h =
      let z : n + 0 ≡ n = omega arith in
      let values = values_from (λ u. first_from u (suc n) ls) 0 n in
      let l : n + length ls ≡ length (values ++ nexts_from (suc n) ls) = simp (length-append, length-values, length-nexts) in
      h.words
      ∙ ap (λ (e : ℕ). half (suc e) n 0 ls area) z
      ∙ sym (append_assoc values (nexts_from (suc n) ls) (drop (n + length ls) area))
      ∙ ap (λ (e : ℕ). (values ++ nexts_from (suc n) ls) ++ drop e area) l

-- What the code needs where a line is left: sums that fit, places inside the area, and a vertex.
pub record Room (n k : ℕ) (after : List ℕ) : Type 0 where
  pub few : n + k ≤ 5000
  pub long : n + k ≤ length after
  pub vertex : Vertex n (get_or after (n + (k - 1)) 0)

pub placed-length : {n m : ℕ} {ls : List Line} {area entry : List ℕ} → Placed n m ls area entry → length entry ≡ length area
placed-length {n} {m} {ls} {area} p = ap length p.words ∙ length-pasted n area (omega (arith, p.long)) (froms ls) (omega (arith, p.long, p.number, length-map ls (λ l. l.from)))

-- The vertices' words are cleared.
pub cleared-front : {n m : ℕ} {ls : List Line} {area entry front : List ℕ} → Placed n m ls area entry → front ≡ replicate (length (take n entry)) 0 → front ++ drop n entry ≡ cleared n entry
cleared-front {n} {entry = entry} p e =
    let long = length-take-le n entry (omega (arith, placed-length p, p.long)) in
    ap (λ (l : List ℕ). l ++ drop n entry) (e ∙ ap (λ (k : ℕ). replicate k 0) long)

module _ {n m k : ℕ} {entry begun after : List ℕ} (can : CanLink n m entry) (e : begun ≡ cleared n entry) (inv : (ls : List Line) (area : List ℕ) → Linked n m m ls area begun → Linked n m k ls area after) where
  course : Linked n m k can.lines can.area after
  course = inv can.lines can.area (linked-none can.placed e)

  pub link-length : length after ≡ length entry
  link-length = linked-length course ∙ sym (placed-length can.placed)

  pub link-room : 0 < k → Room n k after
  link-room h =
      record {
        few = omega (arith, can.few_vertices, can.few_edges, course.upto);
        long = omega (arith, linked-length course, course.long, course.upto);
        vertex = linked-from k course h;
      }

-- ---- the answer
-- What the reader promises: its answer, and the areas that it leaves.
abbrev pub Promised : (text after tail : List ℕ) → Answer → (left-after left-tail : List ℕ) → Type 0
Promised text after tail answer left-after left-tail =
    (answer ≡ answer_to (reading text after tail))
    × ((left-after ≡ after_left (reading text after tail) after) × (left-tail ≡ tail_left (reading text after tail) tail))

-- A text in its form, whose listing has the number k.
pub record InForm (text after tail : List ℕ) (n m start next k : ℕ) : Type 0 where
  pub lines : List Line
  pub found : lines_at text next m ≡ some lines
  pub number : listing_number (listed n m start lines) after tail ≡ k
  pub reads : reading text after tail ≡ decided k (listed n m start lines)

-- A listing that is not refused.
pub record Taken (n m : ℕ) (ls : List Line) (after tail : List ℕ) : Type 0 where
  pub few_vertices : n ≤ 1000
  pub few_edges : m ≤ 4000
  pub long_after : n + m ≤ length after
  pub long_tail : m ≤ length tail
  pub vertices : lines_out n ls ≡ false

listing-taken : (n m start : ℕ) (ls : List Line) (after tail : List ℕ) → listing_number (listed n m start ls) after tail ≡ 0 → Taken n m ls after tail
unfolding listing_number
listing-taken n m start ls after tail e =
    let t = (all-false (size_refusals n m (lent (n + m) after ∷ lent m tail ∷ []) ++ refuse 4 (vertex_out n start) ∷ refuse 6 (lines_out n ls) ∷ []) [] (omega arith) e).0 in
    let a = long (n + m) after (lent m tail ∷ []) t.1.1.0 in
    record {
      few_vertices = ltb-false 1000 n (neither (eqb n 0) (ltb 1000 n) t.0).1;
      few_edges = ltb-false 4000 m t.1.0;
      long_after = a.0;
      long_tail = (long m tail [] a.1).0;
      vertices = t.1.1.1.1.0;
    }

module _ (text after tail : List ℕ) where
  refusal : {k : ℕ} → reading text after tail ≡ refused k → Promised text after tail (refused_with k) after tail
  refusal e = (ap answer_to (sym e), (ap (λ (r : Reading). after_left r after) (sym e), ap (λ (r : Reading). tail_left r tail) (sym e)))

  pub answer-long : 65536 < length text → Promised text after tail (refused_with 13) after tail
  unfolding reading
  answer-long h = refusal (rw (lt-ltb 65536 (length text) h))

  module _ (h : length text ≤ 65536) where
    short : reading text after tail ≡ judged (listing_of text) after tail
    unfolding reading
    short = rw (le-ltb 65536 (length text) h)

    pub answer-no-head : none ≡ head_at text → Promised text after tail (refused_with 12) after tail
    unfolding listing_of
    answer-no-head e = refusal (short ∙ rw (← e))

    module _ {n m start next : ℕ} (e : some (record { n = n; m = m; start = start; next = next }) ≡ head_at text) where
      listing : listing_of text ≡ and_then (lines_at text next m) (λ ls. some (listed n m start ls))
      unfolding listing_of
      listing = rw (← e)

      pub answer-no-lines : none ≡ and_then (lines_at text next m) (λ ls. some (lines_out n ls)) → Promised text after tail (refused_with 12) after tail
      answer-no-lines q = refusal (short ∙ ap (λ (p : Option Listing). judged p after tail) (listing ∙ go (lines_at text next m) q))
        where
          go : (found : Option (List Line)) → none ≡ and_then found (λ ls. some (lines_out n ls)) → and_then found (λ ls. some (listed n m start ls)) ≡ none
          go none q = refl
          go (some ls) q = absurd (let z : ◌≡◌ {A = ℕ} 0 1 = cc in omega arith)

      pub in-form : {out : Bool} {k : ℕ} → some out ≡ and_then (lines_at text next m) (λ ls. some (lines_out n ls)) → ((ls : List Line) → out ≡ lines_out n ls → k ≡ listing_number (listed n m start ls) after tail) → InForm text after tail n m start next k
      in-form {out} {k} q number =
          let b = chained (lines_at text next m) (λ ls. some (lines_out n ls)) out (sym q) in
          let o : out ≡ lines_out n b.value = cc in
          let l : listing_of text ≡ some (listed n m start b.value) = listing ∙ ap (λ (x : Option (List Line)). and_then x (λ ls. some (listed n m start ls))) b.found in
          record {
            lines = b.value;
            found = b.found;
            number = sym (number b.value o);
            reads = short ∙ ap (λ (p : Option Listing). judged p after tail) l ∙ ap (λ (i : ℕ). decided i (listed n m start b.value)) (sym (number b.value o));
          }

module _ {text after tail : List ℕ} {n m start next k : ℕ} (f : InForm text after tail n m start next k) where
  pub answer-number : (k ≡ 0 → ⊥) → Promised text after tail (refused_with k) after tail
  answer-number ne = refusal text after tail (f.reads ∙ go k ne)
    where
      go : (k : ℕ) → (k ≡ 0 → ⊥) → decided k (listed n m start f.lines) ≡ refused k
      go zero ne = absurd (ne refl)
      go (suc k) ne = refl

module _ {text after tail : List ℕ} {n m start next : ℕ} (f : InForm text after tail n m start next 0) where
  pub form-taken : Taken n m f.lines after tail
  form-taken = listing-taken n m start f.lines after tail f.number

  pub form-placed : {left : List ℕ} → left ≡ pasted n (froms f.lines) after → Placed n m f.lines after left
  form-placed e =
      record {
        number = length-lines text next m f.lines f.found;
        vertices = form-taken.vertices;
        long = form-taken.long_after;
        words = e;
      }

  pub form-links : {left : List ℕ} → left ≡ pasted n (froms f.lines) after → CanLink n m left
  form-links e =
      record {
        few_vertices = form-taken.few_vertices;
        few_edges = form-taken.few_edges;
        lines = f.lines;
        area = after;
        placed = form-placed e;
      }

  pub answer-loaded : {left-after left-tail : List ℕ} → left-after ≡ overlay (after_of (listed n m start f.lines)) after → left-tail ≡ overlay (tos f.lines) tail → Promised text after tail (sizes n m start) left-after left-tail
  answer-loaded a t =
      let e : reading text after tail ≡ loaded (listed n m start f.lines) = f.reads in
      (ap answer_to (sym e), (a ∙ ap (λ (r : Reading). after_left r after) (sym e), t ∙ ap (λ (r : Reading). tail_left r tail) (sym e)))

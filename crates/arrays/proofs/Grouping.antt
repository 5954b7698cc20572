-- Laws of the converter: what its two loops have written so far.
-- The list of u is what was written and what is still to follow; the lists of 1 to u are pasted one behind the other.
use Rattle.std.proofs.Common.{◌≡◌, refl, sym, ap, ◌∙◌, subst, false, List, [], ◌∷◌, ◌++◌, map, append-nil, append_assoc, ℕ, zero, suc, ◌+◌, ◌-◌, ◌≤◌, ◌<◌, add-one, arith, length, get_or, set, length-append}
use mathlib.Core.List.{map-append}
use lib.ListN.{length-map}
use Rattle.lists.specs.Members.{Mem, here, there}
use Rattle.lists.specs.Words.{overlay, pasted, values_from}
use Rattle.lists.proofs.Words.{read_past, length-values, values-append, pasted-front, pasted-none, pasted-next, pasted-pasted, length-pasted, read_at}
use Rattle.graphs.specs.Nodes.{Edge}
use Rattle.graphs.specs.Image.{Image, edges_of, to, lists_to}
use Rattle.graphs.specs.ArrayForm.{array_of, numbers_of}
use Rattle.graphs.specs.Refusals.{Lent, lent, short, image_areas, image_number}
use Rattle.graphs.proofs.Refusals.{long}
use Rattle.graphs.proofs.Sound.{Sound, head0, Linked, image-sound}
use Rattle.graphs.proofs.Arrays.{lists-few}
use Rattle.arrays.specs.Arrays.{converted_areas, convert_number}
use Rattle.arrays.specs.Grouping.{CanList, CanGroup}

-- A word stored at position q, behind the words pasted from position p on.
store : (p q w : ℕ) (area ws now : List ℕ) → now ≡ pasted (p - 1) ws area → 1 ≤ p → q ≡ p + length ws → q ≤ length area → set now (q - 1) w ≡ pasted (p - 1) (ws ++ (w ∷ [])) area
store p q w area ws now h a b c =
    let e : q - 1 ≡ p - 1 + length ws = omega arith in
    (λ i. set (h i) (e i) w) ∙ pasted-next (p - 1) area (omega arith) ws w (omega arith)

-- Words pasted from position p on, behind words in front.
behind : (p : ℕ) (area ws vs now new : List ℕ) → now ≡ pasted 0 ws area → p ≡ suc (length ws) → length ws ≤ length area → new ≡ pasted (p - 1) vs now → new ≡ pasted 0 (ws ++ vs) area
behind p area ws vs now new h e a k =
    let z : p - 1 ≡ 0 + length ws = omega arith in
    k ∙ (λ i. pasted (z i) vs (h i)) ∙ pasted-pasted 0 area (omega arith) ws vs (omega arith)

-- ---- one list
-- What is written of the list of u, from position p on, when edge r is to be written at position q.
pub record Listed (g : Image) (u p : ℕ) (tails₀ numbers₀ tails numbers : List ℕ) (q r : ℕ) : Type 0 where
  done : List ℕ
  rest : List ℕ
  splits : edges_of g u ≡ done ++ rest
  edges : (x : ℕ) → Mem x rest → Edge g.n g.m x
  links : Linked g.after rest
  next : r ≡ head0 rest
  place : q ≡ p + length done
  tails-so : tails ≡ pasted (p - 1) (map (to g) done) tails₀
  numbers-so : numbers ≡ pasted (p - 1) done numbers₀

-- What a turn reads and writes lies in its areas, where r is an edge.
pub record Turn (g : Image) (tails numbers : List ℕ) (q r : ℕ) : Type 0 where
  pub edge : 0 < r → g.n < r
  pub within : r ≤ g.n + g.m
  pub low : 1 ≤ q
  pub high : 0 < r → q ≤ g.m
  pub few_vertices : g.n ≤ 1000
  pub few_edges : g.m ≤ 4000
  pub long_after : g.n + g.m ≤ length g.after
  pub long_tail : g.m ≤ length g.tail
  pub long_tails : g.m ≤ length tails
  pub long_numbers : g.m ≤ length numbers

bounded : (r k : ℕ) → (0 < r → r ≤ k) → r ≤ k
bounded zero k h = omega arith
bounded (suc r) k h = h (omega arith)

-- r is the next edge.
record Next (r : ℕ) (rest : List ℕ) : Type 0 where
  later : List ℕ
  is : rest ≡ r ∷ later

next_edge : (r : ℕ) (rest : List ℕ) → r ≡ head0 rest → 0 < r → Next r rest
next_edge r [] e h = absurd (omega (arith, e))
next_edge r (y ∷ l) e h = record { later = l; is = ap (λ (z : ℕ). z ∷ l) (sym e) }

module _ {g : Image} {u : ℕ} {tails₀ numbers₀ : List ℕ} {p : ℕ} (H : CanList g u tails₀ numbers₀ p) where
  S : Sound g
  S = (image-sound g [] H.taken).0

  -- The first edge is read where the after area has a word.
  pub list-first : (u ≤ 1000) × (u ≤ length g.after)
  list-first = omega (arith, H.vertex, S.few_vertices, S.long_after)

  pub list-start : Listed g u p tails₀ numbers₀ tails₀ numbers₀ p (get_or g.after (u - 1) 0)
  list-start = record {
    done = [];
    rest = edges_of g u;
    splits = refl;
    edges = λ x k. S.edge u x H.vertex k;
    links = S.linked u H.vertex;
    next = sym (read_at g.after u) ∙ S.first u H.vertex;
    place = omega arith;
    tails-so = sym (pasted-none (p - 1) tails₀);
    numbers-so = sym (pasted-none (p - 1) numbers₀);
  }

  module _ {tails numbers : List ℕ} {q r : ℕ} (L : Listed g u p tails₀ numbers₀ tails numbers q r) where
    list-few : q + length L.rest ≤ suc g.m
    list-few = omega (arith, H.few, L.place, ap length L.splits, length-append L.done L.rest)

    pub list-lengths : (length tails ≡ length tails₀) × (length numbers ≡ length numbers₀)
    list-lengths =
        let a = list-few in
        let b = length-map L.done (to g) in (
          ap length L.tails-so ∙ length-pasted (p - 1) tails₀ (omega (arith, H.first, H.long_tails, L.place)) (map (to g) L.done) (omega (arith, H.first, H.long_tails, L.place)),
          ap length L.numbers-so ∙ length-pasted (p - 1) numbers₀ (omega (arith, H.first, H.long_numbers, L.place)) L.done (omega (arith, H.first, H.long_numbers, L.place)),
        )

    -- The list is written.
    pub list-end : r ≡ 0 → (q ≡ p + length (edges_of g u)) × ((tails ≡ pasted (p - 1) (map (to g) (edges_of g u)) tails₀) × (numbers ≡ pasted (p - 1) (edges_of g u) numbers₀))
    list-end e = go L.rest L.next L.splits L.edges
      where
        go : (rest : List ℕ) → r ≡ head0 rest → edges_of g u ≡ L.done ++ rest → ((x : ℕ) → Mem x rest → Edge g.n g.m x) → (q ≡ p + length (edges_of g u)) × ((tails ≡ pasted (p - 1) (map (to g) (edges_of g u)) tails₀) × (numbers ≡ pasted (p - 1) (edges_of g u) numbers₀))
        go [] h s a = rw (s ∙ append-nil L.done) (L.place, (L.tails-so, L.numbers-so))
        go (y ∷ l) h s a = absurd (let z = a y (here refl) in let k : r ≡ y = h in omega arith)

    N : 0 < r → Next r L.rest
    N = next_edge r L.rest L.next

    list-edge : 0 < r → Edge g.n g.m r
    list-edge h = L.edges r (subst (Mem r) (sym (N h).is) (here refl))

    pub list-turn : Turn g tails numbers q r
    list-turn = record {
      edge = λ h. (list-edge h).0;
      within = bounded r (g.n + g.m) (λ h. (list-edge h).1);
      low = omega (arith, H.first, L.place);
      high = λ h. omega (arith, list-few, ap length (N h).is);
      few_vertices = S.few_vertices;
      few_edges = S.few_edges;
      long_after = S.long_after;
      long_tail = S.long_tail;
      long_tails = omega (arith, H.long_tails, list-lengths.0);
      long_numbers = omega (arith, H.long_numbers, list-lengths.1);
    }

    pub list-more : 0 < r → Listed g u p tails₀ numbers₀ (set tails (q - 1) (get_or g.tail (r - g.n - 1) 0)) (set numbers (q - 1) r) (q + 1) (get_or g.after (r - 1) 0)
    list-more h =
        let k = list-turn in
        let next = N h in
        let links : Linked g.after (r ∷ next.later) = subst (Linked g.after) next.is L.links in
        let room : q ≤ g.m = k.high h in
        record {
          done = L.done ++ (r ∷ []);
          rest = next.later;
          splits = L.splits ∙ ap (λ (l : List ℕ). L.done ++ l) next.is ∙ sym (append_assoc L.done (r ∷ []) next.later);
          edges = λ x e. L.edges x (subst (Mem x) (sym next.is) (there e));
          links = links.1;
          next = sym (read_at g.after r) ∙ links.0;
          place = omega (arith, L.place, length-append L.done (r ∷ []));
          tails-so =
              ap (λ (w : ℕ). set tails (q - 1) w) (sym (read_past g.n g.tail r))
              ∙ store p q (to g r) tails₀ (map (to g) L.done) tails L.tails-so H.first (omega (arith, L.place, length-map L.done (to g))) (omega (arith, H.long_tails))
              ∙ ap (λ (l : List ℕ). pasted (p - 1) l tails₀) (sym (map-append (to g) L.done (r ∷ [])));
          numbers-so = store p q r numbers₀ L.done numbers L.numbers-so H.first L.place (omega (arith, H.long_numbers));
        }

-- ---- all lists
-- The first position of each element, as the array form has it.
abbrev first_at : Image → ℕ → ℕ
first_at g v = suc (length (lists_to g (v - 1)))

-- What is written of the lists of 1 to u, when position p is the next.
pub record Grouped (g : Image) (firsts₀ tails₀ numbers₀ firsts tails numbers : List ℕ) (p u : ℕ) : Type 0 where
  few : u ≤ g.n
  place : p ≡ suc (length (lists_to g u))
  firsts-so : firsts ≡ pasted 0 (values_from (first_at g) 0 u) firsts₀
  tails-so : tails ≡ pasted 0 (map (to g) (lists_to g u)) tails₀
  numbers-so : numbers ≡ pasted 0 (lists_to g u) numbers₀

-- The list of the next element joins the lists so far.
lists-more : (g : Image) (u : ℕ) → lists_to g (u + 1) ≡ lists_to g u ++ edges_of g (u + 1)
lists-more g u = ap (lists_to g) (add-one u) ∙ ap (λ (v : ℕ). lists_to g u ++ edges_of g v) (sym (add-one u))

lists-longer : (g : Image) (u : ℕ) → length (lists_to g (u + 1)) ≡ length (lists_to g u) + length (edges_of g (u + 1))
lists-longer g u = ap length (lists-more g u) ∙ length-append (lists_to g u) (edges_of g (u + 1))

module _ {g : Image} {firsts₀ tails₀ numbers₀ : List ℕ} (H : CanGroup g firsts₀ tails₀ numbers₀) where
  whole : Sound g
  whole = (image-sound g [] H.taken).0

  pub group-start : Grouped g firsts₀ tails₀ numbers₀ firsts₀ tails₀ numbers₀ 1 0
  group-start = record { few = omega arith; place = refl; firsts-so = sym (pasted-none 0 firsts₀); tails-so = sym (pasted-none 0 tails₀); numbers-so = sym (pasted-none 0 numbers₀) }

  module _ {firsts tails numbers : List ℕ} {p u : ℕ} (G : Grouped g firsts₀ tails₀ numbers₀ firsts tails numbers p u) where
    few-lists : length (lists_to g u) ≤ g.m
    few-lists = lists-few g whole u G.few

    pub group-few : (u ≤ g.n) × (g.n ≤ 1000)
    group-few = (G.few, whole.few_vertices)

    pub group-lengths : (length firsts ≡ length firsts₀) × ((length tails ≡ length tails₀) × (length numbers ≡ length numbers₀))
    group-lengths =
        let a = few-lists in
        let b = length-values (first_at g) 0 u in
        let d = length-map (lists_to g u) (to g) in (
          ap length G.firsts-so ∙ length-pasted 0 firsts₀ (omega arith) (values_from (first_at g) 0 u) (omega (arith, H.long_firsts, G.few)),
          (
            ap length G.tails-so ∙ length-pasted 0 tails₀ (omega arith) (map (to g) (lists_to g u)) (omega (arith, H.long_tails)),
            ap length G.numbers-so ∙ length-pasted 0 numbers₀ (omega arith) (lists_to g u) (omega (arith, H.long_numbers)),
          ),
        )

    pub group-list : u < g.n → CanList g (u + 1) tails numbers p
    group-list h =
        let s = group-lengths in
        record {
          taken = H.taken;
          vertex = omega arith;
          first = omega (arith, G.place);
          few = omega (arith, G.place, lists-few g whole (u + 1) (omega arith), lists-longer g u);
          long_tails = omega (arith, H.long_tails);
          long_numbers = omega (arith, H.long_numbers);
        }

    -- The next first position is stored.
    first-stored : set firsts u p ≡ pasted 0 (values_from (first_at g) 0 (u + 1)) firsts₀
    first-stored =
        let e : u ≡ u + 1 - 1 = omega arith in
        let k : u ≡ suc (0 + u) - 1 = omega arith in
        let w : p ≡ first_at g (suc (0 + u)) = G.place ∙ ap (λ (v : ℕ). suc (length (lists_to g v))) k in
        (λ i. set firsts (e i) (w i))
        ∙ store 1 (u + 1) (first_at g (suc (0 + u))) firsts₀ (values_from (first_at g) 0 u) firsts G.firsts-so (omega arith) (omega (arith, length-values (first_at g) 0 u)) (omega (arith, H.long_firsts, G.few))
        ∙ ap (λ (ws : List ℕ). pasted 0 ws firsts₀) (sym (values-append (first_at g) 0 u 1))

    pub group-more : {tails' numbers' : List ℕ} {q : ℕ} → u < g.n
        → (q ≡ p + length (edges_of g (u + 1))) × ((tails' ≡ pasted (p - 1) (map (to g) (edges_of g (u + 1))) tails) × (numbers' ≡ pasted (p - 1) (edges_of g (u + 1)) numbers))
        → Grouped g firsts₀ tails₀ numbers₀ (set firsts u p) tails' numbers' q (u + 1)
    group-more {tails'} {numbers'} {q} h made =
        let a = few-lists in
        let b = length-map (lists_to g u) (to g) in
        record {
          few = omega arith;
          place = omega (arith, made.0, G.place, lists-longer g u);
          firsts-so = first-stored;
          tails-so =
              behind p tails₀ (map (to g) (lists_to g u)) (map (to g) (edges_of g (u + 1))) tails tails' G.tails-so (omega (arith, G.place)) (omega (arith, H.long_tails)) made.1.0
              ∙ ap (λ (ws : List ℕ). pasted 0 ws tails₀) (sym (map-append (to g) (lists_to g u) (edges_of g (u + 1))) ∙ ap (map (to g)) (sym (lists-more g u)));
          numbers-so = behind p numbers₀ (lists_to g u) (edges_of g (u + 1)) numbers numbers' G.numbers-so G.place (omega (arith, H.long_numbers)) made.1.1 ∙ ap (λ (ws : List ℕ). pasted 0 ws numbers₀) (sym (lists-more g u));
        }

    -- Every list is written, and the last first position is stored.
    pub group-end : g.n ≤ u → (set firsts g.n p ≡ overlay (array_of g).firsts firsts₀) × ((tails ≡ overlay (array_of g).tails tails₀) × (numbers ≡ overlay (numbers_of g) numbers₀))
    group-end h =
        let e : u ≡ g.n = omega (arith, G.few) in (
          ap (λ (v : ℕ). set firsts v p) (sym e) ∙ first-stored ∙ ap (λ (v : ℕ). pasted 0 (values_from (first_at g) 0 v) firsts₀) (add-one u ∙ ap suc e) ∙ pasted-front (array_of g).firsts firsts₀,
          (
            G.tails-so ∙ ap (λ (v : ℕ). pasted 0 (map (to g) (lists_to g v)) tails₀) e ∙ pasted-front (array_of g).tails tails₀,
            G.numbers-so ∙ ap (λ (v : ℕ). pasted 0 (lists_to g v) numbers₀) e ∙ pasted-front (numbers_of g) numbers₀,
          ),
        )

-- ---- the converter's number
-- Where the areas that it writes are long enough, the number is the checker's.
pub convert-same : (g : Image) (areas : List Lent) → short areas ≡ false → image_number g [] ≡ image_number g areas
unfolding image_number
convert-same g areas h = rw h refl

pub areas-long : (g : Image) (areas : List Lent) → short (image_areas g ++ areas) ≡ false → short areas ≡ false
areas-long g areas h = (long g.m g.tail areas (long (g.n + g.m) g.after (lent g.m g.tail ∷ areas) h).1).1

-- Where the number is 0 there is room.
pub convert-group : {g : Image} {firsts tails numbers : List ℕ} → 0 ≡ convert_number g firsts tails numbers → CanGroup g firsts tails numbers
convert-group {g} {firsts} {tails} {numbers} h =
    let areas = converted_areas g firsts tails numbers in
    let all = (image-sound g areas (sym h)).1 in
    let one = long (g.n + 1) firsts (lent g.m tails ∷ lent g.m numbers ∷ []) all in
    let two = long g.m tails (lent g.m numbers ∷ []) one.1 in
    let three = long g.m numbers [] two.1 in
    record { taken = convert-same g areas all ∙ sym h; long_firsts = one.0; long_tails = two.0; long_numbers = three.0 }

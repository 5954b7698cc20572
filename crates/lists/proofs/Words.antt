-- Laws of words in areas: what a store changes, what it leaves, and areas that are filled.
-- From the laws of stores into lists, at the place of a node.
use Rattle.std.proofs.Common.{◌≡◌, refl, sym, ap, ◌∙◌, ◌≢◌, Bool, true, false, cond, List, [], ◌∷◌, ◌++◌, append_assoc, ℕ, zero, suc, ◌+◌, ◌-◌, ◌≤◌, ◌<◌, arith, add-zero, eqb, ltb, length, get_or, set, take, drop, replicate, take-append-drop, length-set, length-append, length-take, length-drop, set-set, get_or-set_same, get_or-set_other, take_at, drop_at, take-suc, drop-cons, drop-set-lt, drop-drop, get_or-take, length-take-le, ltb-true, ltb-false, ne_eqb}
use lib.ListN.{length-replicate, get_or-append}
use lib.Seq.{get_or_at, set_comm, set-get_or, set-append_left, set_at, set_out, append_snoc, take-set-lt, take-set-le, take-append-add, drop-append-add, drop-append_seam, take-nil}
use Rattle.lists.specs.Words.{at, put, overlay, pasted, cleared, values_from, filled}
use Rattle.lists.proofs.Tests.{Compared, equal, other, compare}

-- The word of node x in an area that begins with node 1, as code reads it: by place.
pub read_at : (area : List ℕ) (x : ℕ) → at 0 area x ≡ get_or area (x - 1) 0
unfolding at
read_at area x = refl

pub word-here : (area : List ℕ) (i : ℕ) → at 0 area (suc i) ≡ get_or area i 0
unfolding at
word-here area i = let e : suc i - 1 ≡ i = omega arith in ap (λ (j : ℕ). get_or area j 0) e

-- The same in an area that begins with node n + 1.
pub read_past : (n : ℕ) (area : List ℕ) (r : ℕ) → at n area r ≡ get_or area (r - n - 1) 0
unfolding at
read_past n area r = let e : r - suc n ≡ r - n - 1 = omega arith in ap (λ (i : ℕ). get_or area i 0) e

module _ (b : ℕ) where
  pub length-put : (area : List ℕ) (x w : ℕ) → length (put b area x w) ≡ length area
  unfolding put
  length-put area x w = length-set area _ w

  pub put-put : (area : List ℕ) (x v w : ℕ) → put b (put b area x v) x w ≡ put b area x w
  unfolding put
  put-put area x v w = set-set area _ v w

  pub put-at : (area : List ℕ) (x : ℕ) → put b area x (at b area x) ≡ area
  unfolding put at
  put-at area x = set-get_or area (x - suc b) 0

  apart : (x y : ℕ) → b < x → b < y → x ≢ y → (x - suc b) ≢ (y - suc b)
  apart x y hx hy ne e = ne (omega (arith, e))

  pub put-comm : (area : List ℕ) (x y v w : ℕ) → b < x → b < y → x ≢ y → put b (put b area x v) y w ≡ put b (put b area y w) x v
  unfolding put
  put-comm area x y v w hx hy ne = set_comm area (x - suc b) (y - suc b) v w (apart x y hx hy ne)

  pub at-put : (area : List ℕ) (x w : ℕ) → b < x → x ≤ b + length area → at b (put b area x w) x ≡ w
  unfolding put at
  at-put area x w hx hl = get_or-set_same area (x - suc b) w 0 (omega arith)

  pub at_other : (area : List ℕ) (x y w : ℕ) → b < x → b < y → y ≢ x → at b (put b area x w) y ≡ at b area y
  unfolding put at
  at_other area x y w hx hy ne = get_or-set_other area (x - suc b) (y - suc b) w 0 (apart y x hy hx ne)

  -- A store leaves the words past k, if its node is one of b + 1 to b + k.
  pub put-past : (k : ℕ) (area : List ℕ) (x w : ℕ) → b < x → x ≤ b + k → drop k (put b area x w) ≡ drop k area
  unfolding put
  put-past k area x w h q = drop-set-lt k area (x - suc b) w (omega arith)

  -- The first k words of an area: what they are read as, and a store, which stays where it is.
  pub at_take : (k : ℕ) (area : List ℕ) (x : ℕ) → b < x → x ≤ b + k → at b (take k area) x ≡ at b area x
  unfolding at
  at_take k area x h q = get_or-take k area (x - suc b) 0 (omega arith)

  pub take_put : (k : ℕ) (area : List ℕ) (x w : ℕ) → take k (put b area x w) ≡ put b (take k area) x w
  unfolding put
  take_put k area x w = go (ltb (x - suc b) k) refl
    where
      go : (c : Bool) → ltb (x - suc b) k ≡ c → take k (set area (x - suc b) w) ≡ set (take k area) (x - suc b) w
      go true e = take-set-lt k area (x - suc b) w (ltb-true (x - suc b) k e)
      go false e =
          let h = ltb-false (x - suc b) k e in
          take-set-le k area (x - suc b) w h ∙ sym (set_out (take k area) (x - suc b) w (omega (arith, length-take k area)))

-- ---- filled areas
length_front : (ws : List ℕ) (k : ℕ) (area : List ℕ) → length ws ≡ k → k ≤ length area → length (ws ++ drop k area) ≡ length area
length_front ws k area e h = omega (arith, length-append ws (drop k area), length-drop k area)

pub length-cleared : (k : ℕ) (area : List ℕ) → k ≤ length area → length (cleared k area) ≡ length area
length-cleared k area h = length_front (replicate k 0) k area (length-replicate {A = ℕ} k 0) h

pub overlay-past : (ws area : List ℕ) → drop (length ws) (overlay ws area) ≡ drop (length ws) area
overlay-past ws area = drop-append_seam ws (drop (length ws) area)

pub length-overlay : (ws area : List ℕ) → length ws ≤ length area → length (overlay ws area) ≡ length area
length-overlay ws area h = length_front ws (length ws) area refl h

pub length-values : (f : ℕ → ℕ) (b k : ℕ) → length (values_from f b k) ≡ k
length-values f b zero = refl
length-values f b (suc k) = ap suc (length-values f (suc b) k)

-- Filling n words leaves those behind them, and those past n + m.
pub filled-behind : (f : ℕ → ℕ) (n : ℕ) (area : List ℕ) → drop n (filled f n area) ≡ drop n area
filled-behind f n area = drop_at (values_from f 0 n) (drop n area) n (length-values f 0 n)

pub filled-past : (f : ℕ → ℕ) (n m : ℕ) (area : List ℕ) → drop (n + m) (filled f n area) ≡ drop (n + m) area
filled-past f n m area =
    ap (λ (k : ℕ). drop (k + m) (filled f n area)) (sym (length-values f 0 n))
    ∙ drop-append-add (values_from f 0 n) (drop n area) m
    ∙ drop-drop m n area

-- Zeros everywhere are an area cleared.
pub values-zero : (f : ℕ → ℕ) (b k : ℕ) → ((x : ℕ) → b < x → x ≤ b + k → f x ≡ 0) → values_from f b k ≡ replicate k 0
values-zero f b zero h = refl
values-zero f b (suc k) h = λ i. h (suc b) (omega arith) (omega arith) i ∷ values-zero f (suc b) k (λ x p q. h x (omega arith) (omega arith)) i

pub values_same : (f g : ℕ → ℕ) (b k : ℕ) → ((x : ℕ) → b < x → x ≤ b + k → f x ≡ g x) → values_from f b k ≡ values_from g b k
values_same f g b zero h = refl
values_same f g b (suc k) h = λ i. h (suc b) (omega arith) (omega arith) i ∷ values_same f g (suc b) k (λ x p q. h x (omega arith) (omega arith)) i

-- Areas filled with the same values are the same.
pub filled-same : (f g : ℕ → ℕ) (k : ℕ) (area : List ℕ) → ((x : ℕ) → 0 < x → x ≤ k → f x ≡ g x) → filled f k area ≡ filled g k area
filled-same f g k area h = ap (λ (ws : List ℕ). ws ++ drop k area) (values_same f g 0 k (λ x p q. h x p (omega arith)))

-- The value w at u, and f elsewhere.
abbrev pub but : (ℕ → ℕ) → ℕ → ℕ → ℕ → ℕ
but f u w x = cond (eqb x u) w (f x)

values-set : (f : ℕ → ℕ) (b k u w : ℕ) → b < u → u ≤ b + k → set (values_from f b k) (u - suc b) w ≡ values_from (but f u w) b k
values-set f b zero u w h q = absurd (omega arith)
values-set f b (suc k) u w h q = go (compare (suc b) u) (λ p r. values-set f (suc b) k u w p r)
  where
    go : Compared (suc b) u → (suc b < u → u ≤ suc b + k → set (values_from f (suc b) k) (u - suc (suc b)) w ≡ values_from (but f u w) (suc b) k) → set (values_from f b (suc k)) (u - suc b) w ≡ values_from (but f u w) b (suc k)
    go (equal e t) ih =
        let z : u - suc b ≡ 0 = omega arith in
        let s : values_from f (suc b) k ≡ values_from (but f u w) (suc b) k = values_same f (but f u w) (suc b) k (λ x p r. rw (ne_eqb x u (omega arith))) in
        rw (z, t) (λ i. w ∷ s i)
    go (other ne t) ih =
        let z : u - suc b ≡ suc (u - suc (suc b)) = omega arith in
        rw (z, t) (λ i. f (suc b) ∷ ih (omega arith) (omega arith) i)

-- A store into a filled area changes one value.
pub put-filled : (f : ℕ → ℕ) (k : ℕ) (area : List ℕ) (u w : ℕ) → 0 < u → u ≤ k → put 0 (filled f k area) u w ≡ filled (but f u w) k area
unfolding put
put-filled f k area u w h q =
    set-append_left (values_from f 0 k) (drop k area) (u - suc zero) w (omega (arith, length-values f 0 k))
    ∙ ap (λ (ws : List ℕ). ws ++ drop k area) (values-set f 0 k u w h (omega arith))

pub cleared-filled : (k : ℕ) (area : List ℕ) → cleared k area ≡ filled (λ x. 0) k area
cleared-filled k area = ap (λ (ws : List ℕ). ws ++ drop k area) (sym (values-zero (λ x. 0) 0 k (λ x p q. refl)))

values-at : (f : ℕ → ℕ) (b k i : ℕ) → i < k → get_or (values_from f b k) i 0 ≡ f (suc (b + i))
values-at f b zero i h = absurd (omega arith)
values-at f b (suc k) zero h = ap (λ (x : ℕ). f (suc x)) (sym (add-zero b))
values-at f b (suc k) (suc i) h = let e : suc b + i ≡ b + suc i = omega arith in values-at f (suc b) k i (omega arith) ∙ ap (λ (x : ℕ). f (suc x)) e

pub at-filled : (f : ℕ → ℕ) (k : ℕ) (area : List ℕ) (x : ℕ) → 0 < x → x ≤ k → at 0 (filled f k area) x ≡ f x
unfolding at
at-filled f k area x h q =
    let e : suc (0 + (x - suc zero)) ≡ x = omega arith in
    get_or-append (values_from f 0 k) (drop k area) 0 (x - suc zero) (omega (arith, length-values f 0 k))
    ∙ values-at f 0 k (x - suc zero) (omega arith)
    ∙ ap f e

pub length-filled : (f : ℕ → ℕ) (k : ℕ) (area : List ℕ) → k ≤ length area → length (filled f k area) ≡ length area
length-filled f k area h = length_front (values_from f 0 k) k area (length-values f 0 k) h

-- The first k + i words of an area whose first k are filled.
drop-take : (k i : ℕ) (l : List ℕ) → drop k (take (k + i) l) ≡ take i (drop k l)
drop-take zero i l = let e : 0 + i ≡ i = omega arith in ap (λ (j : ℕ). take j l) e
drop-take (suc k) i [] = let e : suc k + i ≡ suc (k + i) = omega arith in ap (λ (j : ℕ). drop (suc k) (take j [])) e ∙ sym (take-nil i)
drop-take (suc k) i (x ∷ l) = let e : suc k + i ≡ suc (k + i) = omega arith in ap (λ (j : ℕ). drop (suc k) (take j (x ∷ l))) e ∙ drop-take k i l

pub take-filled : (f : ℕ → ℕ) (k i : ℕ) (area : List ℕ) → take (k + i) (filled f k area) ≡ filled f k (take (k + i) area)
take-filled f k i area =
    ap (λ (j : ℕ). take (j + i) (filled f k area)) (sym (length-values f 0 k))
    ∙ take-append-add (values_from f 0 k) (drop k area) i
    ∙ ap (λ (l : List ℕ). values_from f 0 k ++ l) (sym (drop-take k i area))

pub values-append : (f : ℕ → ℕ) (b n m : ℕ) → values_from f b (n + m) ≡ values_from f b n ++ values_from f (b + n) m
values-append f b zero m = let e : zero + m ≡ m = omega arith in let z : b ≡ b + zero = omega arith in λ i. values_from f (z i) (e i)
values-append f b (suc n) m =
    let e : suc n + m ≡ suc (n + m) = omega arith in
    let z : suc b + n ≡ b + suc n = omega arith in
    ap (λ (k : ℕ). values_from f b k) e
    ∙ ap (λ (l : List ℕ). f (suc b) ∷ l) (values-append f (suc b) n m ∙ ap (λ (c : ℕ). values_from f (suc b) n ++ values_from f c m) z)

-- An area filled to n + m and then to n is one area filled.
pub refilled : (f g h : ℕ → ℕ) (n m : ℕ) (area : List ℕ) → ((x : ℕ) → 0 < x → x ≤ n → g x ≡ h x) → ((x : ℕ) → n < x → x ≤ n + m → f x ≡ h x) → filled g n (filled f (n + m) area) ≡ filled h (n + m) area
refilled f g h n m area low high =
    let split : filled f (n + m) area ≡ values_from f 0 n ++ (values_from f (0 + n) m ++ drop (n + m) area) =
    ap (λ (ws : List ℕ). ws ++ drop (n + m) area) (values-append f 0 n m) ∙ append_assoc (values_from f 0 n) (values_from f (0 + n) m) (drop (n + m) area) in
    ap (λ (l : List ℕ). values_from g 0 n ++ drop n l) split
    ∙ ap (λ (l : List ℕ). values_from g 0 n ++ l) (drop_at (values_from f 0 n) (values_from f (0 + n) m ++ drop (n + m) area) n (length-values f 0 n))
    ∙ sym (append_assoc (values_from g 0 n) (values_from f (0 + n) m) (drop (n + m) area))
    ∙ (λ i. (values_same g h 0 n (λ x p q. low x p (omega arith)) i ++ values_same f h (0 + n) m (λ x p q. high x (omega arith) (omega arith)) i) ++ drop (n + m) area)
    ∙ ap (λ (ws : List ℕ). ws ++ drop (n + m) area) (sym (values-append h 0 n m))

-- The next word is stored behind those filled so far; until then it is as it was.
pub filled_next : (f : ℕ → ℕ) (i : ℕ) (area : List ℕ) → i < length area → set (filled f i area) i (f (suc i)) ≡ filled f (suc i) area
filled_next f i area h =
    let one : i + 1 ≡ suc i = omega arith in
    let same : values_from f 0 i ++ (f (suc i) ∷ []) ≡ values_from f 0 (suc i) = (let z : i ≡ 0 + i = omega arith in ap (λ (b : ℕ). values_from f 0 i ++ (f (suc b) ∷ [])) z) ∙ sym (values-append f 0 i 1) ∙ ap (values_from f 0) one in
    ap (λ (l : List ℕ). set (values_from f 0 i ++ l) i (f (suc i))) (drop-cons area i 0 h)
    ∙ set_at (values_from f 0 i) (get_or area i 0) (drop (suc i) area) (f (suc i)) i (length-values f 0 i)
    ∙ sym (append_assoc (values_from f 0 i) (f (suc i) ∷ []) (drop (suc i) area))
    ∙ ap (λ (ws : List ℕ). ws ++ drop (suc i) area) same

pub filled-ahead : (f : ℕ → ℕ) (i : ℕ) (area : List ℕ) → i < length area → get_or (filled f i area) i 0 ≡ get_or area i 0
filled-ahead f i area h =
    ap (λ (l : List ℕ). get_or (values_from f 0 i ++ l) i 0) (drop-cons area i 0 h)
    ∙ get_or_at (values_from f 0 i) (get_or area i 0) (drop (suc i) area) 0 i (length-values f 0 i)

-- ---- words pasted into an area
-- The words in front are an overlay.
pub pasted-front : (ws area : List ℕ) → pasted 0 ws area ≡ overlay ws area
pasted-front ws area = let e : 0 + length ws ≡ length ws = omega arith in ap (λ (k : ℕ). ws ++ drop k area) e

-- No words.
pub pasted-none : (k : ℕ) (area : List ℕ) → pasted k [] area ≡ area
pasted-none k area = let e : k + 0 ≡ k = omega arith in ap (λ (j : ℕ). take k area ++ drop j area) e ∙ take-append-drop k area

module _ (k : ℕ) (area : List ℕ) (h : k ≤ length area) where
  front : length (take k area) ≡ k
  front = length-take-le k area h

  pub length-pasted : (ws : List ℕ) → k + length ws ≤ length area → length (pasted k ws area) ≡ length area
  length-pasted ws q = simp (length-append, length-drop) (omega (arith, front))

  -- The next word is stored behind those pasted so far.
  pub pasted-next : (ws : List ℕ) (w : ℕ) → k + length ws < length area → set (pasted k ws area) (k + length ws) w ≡ pasted k (ws ++ (w ∷ [])) area
  pasted-next ws w q =
      let n : length (take k area ++ ws) ≡ k + length ws = length-append (take k area) ws ∙ ap (λ (i : ℕ). i + length ws) front in
      let more : suc (k + length ws) ≡ k + length (ws ++ (w ∷ [])) = omega (arith, length-append ws (w ∷ [])) in
      ap (λ (l : List ℕ). set l (k + length ws) w) (sym (append_assoc (take k area) ws (drop (k + length ws) area)) ∙ ap (λ (l : List ℕ). (take k area ++ ws) ++ l) (drop-cons area (k + length ws) 0 q))
      ∙ set_at (take k area ++ ws) (get_or area (k + length ws) 0) (drop (suc (k + length ws)) area) w (k + length ws) n
      ∙ append_assoc (take k area) ws (w ∷ drop (suc (k + length ws)) area)
      ∙ ap (λ (l : List ℕ). take k area ++ l) (sym (append_assoc ws (w ∷ []) (drop (suc (k + length ws)) area)))
      ∙ ap (λ (i : ℕ). take k area ++ ((ws ++ (w ∷ [])) ++ drop i area)) more

  -- The word before those pasted so far is stored.
  pub pasted-before : (ws : List ℕ) (w : ℕ) → k < length area → set (pasted (suc k) ws area) k w ≡ pasted k (w ∷ ws) area
  pasted-before ws w q =
      let past : suc k + length ws ≡ k + suc (length ws) = omega arith in
      ap (λ (l : List ℕ). set l k w) (ap (λ (l : List ℕ). l ++ (ws ++ drop (suc k + length ws) area)) (take-suc area k 0 q) ∙ append_snoc (take k area) (get_or area k 0) (ws ++ drop (suc k + length ws) area))
      ∙ set_at (take k area) (get_or area k 0) (ws ++ drop (suc k + length ws) area) w k front
      ∙ ap (λ (i : ℕ). take k area ++ (w ∷ (ws ++ drop i area))) past

  -- Words pasted behind words pasted.
  pub pasted-pasted : (ws vs : List ℕ) → k + length ws ≤ length area → pasted (k + length ws) vs (pasted k ws area) ≡ pasted k (ws ++ vs) area
  pasted-pasted ws vs q =
      let n : length (take k area ++ ws) ≡ k + length ws = length-append (take k area) ws ∙ ap (λ (i : ℕ). i + length ws) front in
      let whole : pasted k ws area ≡ (take k area ++ ws) ++ drop (k + length ws) area = sym (append_assoc (take k area) ws (drop (k + length ws) area)) in
      let kept : take (k + length ws) (pasted k ws area) ≡ take k area ++ ws = ap (take (k + length ws)) whole ∙ take_at (take k area ++ ws) (drop (k + length ws) area) (k + length ws) n in
      let past : drop (k + length ws) (pasted k ws area) ≡ drop (k + length ws) area = ap (drop (k + length ws)) whole ∙ drop_at (take k area ++ ws) (drop (k + length ws) area) (k + length ws) n in
      let sum : k + length ws + length vs ≡ k + length (ws ++ vs) = omega (arith, length-append ws vs) in
      let rest : drop (k + length ws + length vs) (pasted k ws area) ≡ drop (k + length (ws ++ vs)) area =
      sym (drop-drop (length vs) (k + length ws) (pasted k ws area)) ∙ ap (drop (length vs)) past ∙ drop-drop (length vs) (k + length ws) area ∙ ap (λ (i : ℕ). drop i area) sum in
      ap (λ (l : List ℕ). l ++ (vs ++ drop (k + length ws + length vs) (pasted k ws area))) kept
      ∙ ap (λ (l : List ℕ). (take k area ++ ws) ++ (vs ++ l)) rest
      ∙ append_assoc (take k area) ws (vs ++ drop (k + length (ws ++ vs)) area)
      ∙ ap (λ (l : List ℕ). take k area ++ l) (sym (append_assoc ws vs (drop (k + length (ws ++ vs)) area)))

-- Laws of the image checker: how it tests each word of an area, and how flagging the edges of all lists finds condition 7.
-- Edges flagged one after the other are all new exactly where none stands twice; their count is then m exactly where each stands once.
use Rattle.std.proofs.Common.{◌≡◌, refl, sym, ap, ◌∙◌, subst, ⊎_elim, Bool, true, false, not, cond, ◌&&◌, ◌||◌, List, [], ◌∷◌, ◌++◌, ℕ, zero, suc, ◌+◌, ◌-◌, ◌≤◌, ◌<◌, arith, add-one, eqb, length, take, get_or, set, eqb-true, eq-eqb, ne_eqb}
use Rattle.std.specs.Prelude.{Some, None}
use Rattle.std.proofs.lemmas.Option.{none-some, cond_some}
use Rattle.std.proofs.lemmas.List.{length-take, get_or-take}
use lib.ListN.{length-replicate, get_or-replicate, get_or-eq_default}
use Rattle.lists.specs.Members.{Mem, here, there, NoDup}
use Rattle.lists.specs.Counts.{all_to}
use Rattle.lists.specs.Words.{at, put}
use Rattle.lists.proofs.Tests.{clash, Compared, equal, other, compare}
use Rattle.lists.proofs.Members.{mem-nil, each-cons, mem-one, mem-append, nodup-left, pigeonhole}
use Rattle.lists.proofs.Counts.{all-fails, count-once, count-all}
use Rattle.lists.proofs.Words.{word-here, length-put, at-put, at_other}
use Rattle.graphs.specs.Nodes.{Edge, is_link}
use Rattle.graphs.specs.Image.{Image, chain, edges_of, lists_to}
use Rattle.graphs.specs.Refusals.{after_out, list_out}
use Rattle.graphs.proofs.Nodes.{link-not-null}
use Rattle.graphs.proofs.Sound.{links-in, lists-edges, counted}
use Rattle.images.specs.Checking.{image, list_from, Sized, Chained, Flagging, flag_all, flagged, no_flags, Follows}

-- ---- a test of each word of an area
-- `out` says whether one of the first i words, of k, fails the test.
pub record Tested (test : ℕ → Bool) (area : List ℕ) (k i : ℕ) (out : Bool) : Type 0 where
  pub within : i ≤ k
  pub so : out ≡ not (all_to (λ x. test (at 0 area x)) i)

-- An area with fewer than k words does not pass a test that fails at 0: a missing word reads as 0.
pub short-out : (test : ℕ → Bool) (area : List ℕ) (k : ℕ) → length area < k → test 0 ≡ false → true ≡ not (all_to (λ x. test (at 0 area x)) k)
short-out test area k lt z =
    let missing : at 0 area (suc (length area)) ≡ 0 = word-here area (length area) ∙ get_or-eq_default area 0 (omega arith) in
    sym (ap not (all-fails (λ x. test (at 0 area x)) k (suc (length area)) (omega arith) lt (ap test missing ∙ z)))

pub tested-none : {test : ℕ → Bool} {area : List ℕ} {k : ℕ} → Tested test area k 0 false
tested-none = record { within = omega arith; so = refl }

not-and : (a b : Bool) → not (a && b) ≡ (not a || not b)
not-and true b = refl
not-and false b = refl

module _ {test : ℕ → Bool} {area : List ℕ} {k i : ℕ} {out : Bool} (t : Tested test area k i out) where
  pub tested-end : k ≤ i → out ≡ not (all_to (λ x. test (at 0 area x)) k)
  tested-end q = let e : i ≡ k = omega (arith, t.within) in rw e at t.so

  -- The test says b of the next word.
  pub tested-more : i < k → {b : Bool} → b ≡ test (get_or area i 0) → Tested test area k (i + 1) (out || not b)
  tested-more lt {b} e =
      let next : b ≡ test (at 0 area (suc i)) = e ∙ ap test (sym (word-here area i)) in
      let all = all_to (λ x. test (at 0 area x)) i in
      record {
        within = omega arith;
        so = rw (add-one i) ((λ j. t.so j || not (next j)) ∙ sym (not-and all (test (at 0 area (suc i)))));
      }

-- The first k words of an area that is as long are tested one by one.
module _ {test : ℕ → Bool} {area : List ℕ} {k i j : ℕ} {out : Bool} (t : Tested test area k i out) (same : j ≡ k) (long : k ≤ length area) where
  pub tested-next : i < length (take j area) → {b : Bool} → b ≡ test (get_or (take j area) i 0) → Tested test area k (i + 1) (out || not b)
  tested-next lt e =
      let below : i < j = omega (arith, length-take j area) in
      tested-more t (omega arith) (e ∙ ap test (get_or-take j area i 0 below))

  pub tested-all : length (take j area) ≤ i → out ≡ not (all_to (λ x. test (at 0 area x)) k)
  tested-all q = tested-end t (omega (arith, length-take j area))

-- ---- edges flagged one after the other
abbrev pub all_new : ℕ → List ℕ → Flagging
all_new count flags = record { new = true; count = count; flags = flags }

abbrev pub met_again : ℕ → List ℕ → Flagging
met_again count flags = record { new = false; count = count; flags = flags }

-- What the number of edges flagged says of whether all were new.
pub flagged-some : (f : Flagging) (k : ℕ) → Some k ≡ flagged f → f ≡ all_new k f.flags
flagged-some f k e =
    let (new, count) = cond_some f.new f.count k (sym e) in
    λ i. record { new = new i; count = count i; flags = f.flags }

pub flagged-none : (f : Flagging) → None ≡ flagged f → f.new ≡ false
flagged-none f e = go f.new e
  where
    go : (b : Bool) → None ≡ cond b (Some f.count) None → b ≡ false
    go true q = absurd (none-some f.count q)
    go false q = refl

module _ (n : ℕ) where
  flag-length : (flags : List ℕ) (count : ℕ) (l : List ℕ) → length (flag_all n flags count l).flags ≡ length flags
  flag-length flags count [] = refl
  flag-length flags count (r ∷ rs) = go (eqb (at n flags r) 0) (flag-length (put n flags r 1) (suc count) rs ∙ length-put n flags r 1)
    where
      next : Flagging
      next = flag_all n (put n flags r 1) (suc count) rs

      go : (b : Bool) → length next.flags ≡ length flags → length (cond b next (met_again count flags)).flags ≡ length flags
      go true ih = ih
      go false ih = refl

  -- Two lists, of which the first is all new.
  flag-append : (flags : List ℕ) (count : ℕ) (k l : List ℕ) {c : ℕ} {f : List ℕ} → flag_all n flags count k ≡ all_new c f → flag_all n flags count (k ++ l) ≡ flag_all n f c l
  flag-append flags count [] l e = λ i. flag_all n (e i).flags (e i).count l
  flag-append flags count (r ∷ rs) l {c} {f} e = go (eqb (at n flags r) 0) (λ q. flag-append (put n flags r 1) (suc count) rs l q) e
    where
      next : List ℕ → Flagging
      next x = flag_all n (put n flags r 1) (suc count) x

      go : (b : Bool) → (next rs ≡ all_new c f → next (rs ++ l) ≡ flag_all n f c l) → cond b (next rs) (met_again count flags) ≡ all_new c f → cond b (next (rs ++ l)) (met_again count flags) ≡ flag_all n f c l
      go true ih q = ih q
      go false ih q = clash (sym (ap (λ (x : Flagging). x.new) q))

  -- What is all new: none stands twice, none had a flag, and the count grows by their number.
  record New (flags : List ℕ) (count : ℕ) (l : List ℕ) (c : ℕ) : Type 0 where
    once : NoDup l
    clear : (x : ℕ) → Mem x l → at n flags x ≡ 0
    number : c ≡ count + length l

  module _ (m : ℕ) where
    -- There is a flag for each edge, and the list holds edges.
    abbrev Inside : List ℕ → List ℕ → Type 0
    Inside flags l = (m ≤ length flags) × ((x : ℕ) → Mem x l → Edge n m x)

    inside-put : (flags : List ℕ) (r : ℕ) (rs : List ℕ) → Inside flags (r ∷ rs) → Inside (put n flags r 1) rs
    inside-put flags r rs i = (omega (arith, i.0, length-put n flags r 1), λ x m. i.1 x (there m))

    flag-new : (flags : List ℕ) (count : ℕ) (l : List ℕ) → Inside flags l → (flag_all n flags count l).new ≡ true → New flags count l (flag_all n flags count l).count
    flag-new flags count [] i h = record { once = tt; clear = λ x m. absurd (mem-nil m); number = omega arith }
    flag-new flags count (r ∷ rs) i h = go (eqb (at n flags r) 0) refl (flag-new (put n flags r 1) (suc count) rs (inside-put flags r rs i)) h
      where
        next : Flagging
        next = flag_all n (put n flags r 1) (suc count) rs

        go : (b : Bool) → eqb (at n flags r) 0 ≡ b → (next.new ≡ true → New (put n flags r 1) (suc count) rs next.count) → (cond b next (met_again count flags)).new ≡ true → New flags count (r ∷ rs) (cond b next (met_again count flags)).count
        go true e ih q =
            let w = ih q in
            let er = i.1 r (here refl) in
            let none : Mem r rs → ⊥ = λ k. (let z : ◌≡◌ {A = ℕ} 1 0 = sym (at-put n flags r 1 er.0 (omega arith)) ∙ w.clear r k in omega arith) in
            record {
              once = (none, w.once);
              clear = each-cons (λ x. at n flags x ≡ 0) r rs (eqb-true (at n flags r) 0 e) (λ x k. sym (at_other n flags r x 1 er.0 (i.1 x (there k)).0 (λ z. none (subst (λ (y : ℕ). Mem y rs) z k))) ∙ w.clear x k);
              number = omega (arith, w.number);
            }
        go false e ih q = clash (sym q)

    new-flag : (flags : List ℕ) (count : ℕ) (l : List ℕ) → Inside flags l → NoDup l → ((x : ℕ) → Mem x l → at n flags x ≡ 0) → (flag_all n flags count l).new ≡ true
    new-flag flags count [] i h z = refl
    new-flag flags count (r ∷ rs) i h z = rw (eq-eqb (at n flags r) 0 (z r (here refl))) (new-flag (put n flags r 1) (suc count) rs (inside-put flags r rs i) h.1 clear)
      where
        clear : (x : ℕ) → Mem x rs → at n (put n flags r 1) x ≡ 0
        clear x k = at_other n flags r x 1 (i.1 r (here refl)).0 (i.1 x (there k)).0 (λ e. h.0 (subst (λ (y : ℕ). Mem y rs) e k)) ∙ z x (there k)

-- ---- a list is followed
module _ {n m first : ℕ} {after flags : List ℕ} {count : ℕ} (F : Follows n m first after flags count) where
  follows-edge : (first ≡ 0 → ⊥) → Edge n m first
  follows-edge ne = link-not-null n m first F.first_link ne

  pub follows-long : length flags ≡ 4000
  follows-long = sym (ap (λ (x : Flagging). length x.flags) F.flagged) ∙ flag-length n no_flags 0 F.done ∙ length-replicate {A = ℕ} 4000 0

  -- The edges flagged so far are no more than there are.
  pub follows-few : count ≤ m
  follows-few =
      let i : Inside n m no_flags F.done = (omega (arith, F.chained.sized.few_edges, length-replicate {A = ℕ} 4000 0), F.edges) in
      let w = flag-new n m no_flags 0 F.done i (ap (λ (x : Flagging). x.new) F.flagged) in
      omega (arith, w.number, ap (λ (x : Flagging). x.count) F.flagged, pigeonhole n m F.done w.once F.edges)

  follows-more : (first ≡ 0 → ⊥) → at n flags first ≡ 0 → Follows n m (at 0 after first) after (put n flags first 1) (suc count)
  follows-more ne z =
      let e = follows-edge ne in
      let one : flag_all n flags count (first ∷ []) ≡ all_new (suc count) (put n flags first 1) = rw (eq-eqb (at n flags first) 0 z) in
      record {
        chained = F.chained;
        first_link = links-in (image n m after []) (F.chained.links []) first (omega arith) e.1;
        done = F.done ++ (first ∷ []);
        edges = λ x k. ⊎_elim (F.edges x) (λ q. subst (Edge n m) (sym (mem-one q)) e) (mem-append F.done (first ∷ []) k);
        flagged = flag-append n no_flags 0 F.done (first ∷ []) F.flagged ∙ one;
      }

chain_next : (after : List ℕ) (k r : ℕ) → (r ≡ 0 → ⊥) → chain (suc k) after r ≡ r ∷ chain k after (at 0 after r)
chain_next after k zero ne = absurd (ne refl)
chain_next after k (suc y) ne = refl

chain-none : (after : List ℕ) (k : ℕ) → chain k after 0 ≡ []
chain-none after zero = refl
chain-none after (suc k) = refl

-- The work left from r on is the whole work. It has more fuel than there are edges without a flag.
pub record Along (n m : ℕ) (after : List ℕ) (whole : Flagging) (flags : List ℕ) (r c : ℕ) : Type 0 where
  pub follows : Follows n m r after flags c
  pub fuel : ℕ
  pub enough : m < fuel + c
  pub same : whole ≡ flag_all n flags c (chain fuel after r)

-- The numbers in a turn of the loop.
pub record Turn (n m : ℕ) (after flags : List ℕ) (r c : ℕ) : Type 0 where
  pub sized : Sized n m after
  pub edge : Edge n m r
  pub few : c ≤ m
  pub long-flags : length flags ≡ 4000

pub along-start : {n m first : ℕ} {after flags : List ℕ} {count : ℕ} → Follows n m first after flags count → (k : ℕ) → m < k + count → Along n m after (flag_all n flags count (chain k after first)) flags first count
along-start F k h = record { follows = F; fuel = k; enough = h; same = refl }

module _ {n m : ℕ} {after : List ℕ} {whole : Flagging} {flags : List ℕ} {r c : ℕ} (a : Along n m after whole flags r c) where
  pub along-end : r ≡ 0 → whole ≡ all_new c flags
  along-end z = a.same ∙ ap (λ (x : ℕ). flag_all n flags c (chain a.fuel after x)) z ∙ ap (flag_all n flags c) (chain-none after a.fuel)

  module _ (ne : r ≡ 0 → ⊥) where
    pub along-turn : Turn n m after flags r c
    along-turn = record { sized = a.follows.chained.sized; edge = follows-edge a.follows ne; few = follows-few a.follows; long-flags = follows-long a.follows }

    -- The flag of r, as the code reads it.
    flag-here : get_or flags (r - n - 1) 0 ≡ at n flags r
    unfolding at
    flag-here = let e : r - n - 1 ≡ r - suc n = omega arith in ap (λ (k : ℕ). get_or flags k 0) e

    along-next : whole ≡ flag_all n flags c (r ∷ chain (a.fuel - 1) after (at 0 after r))
    along-next =
        let e : a.fuel ≡ suc (a.fuel - 1) = omega (arith, a.enough, follows-few a.follows) in
        a.same ∙ ap (λ (k : ℕ). flag_all n flags c (chain k after r)) e ∙ ap (flag_all n flags c) (chain_next after (a.fuel - 1) r ne)

    pub along-again : (get_or flags (r - n - 1) 0 ≡ 0 → ⊥) → whole ≡ met_again c flags
    along-again nz = along-next ∙ rw (ne_eqb (at n flags r) 0 (λ e. nz (flag-here ∙ e)))

    pub along-more : get_or flags (r - n - 1) 0 ≡ 0 → Along n m after whole (set flags (r - n - 1) 1) (get_or after (r - 1) 0) (c + 1)
    unfolding at put
    along-more z =
        let e : r - n - 1 ≡ r - suc n = omega arith in
        let zero-here = sym flag-here ∙ z in
        rw (e, add-one c)
        (record {
          follows = follows-more a.follows ne zero-here;
          fuel = a.fuel - 1;
          enough = omega (arith, a.enough, follows-few a.follows);
          same = along-next ∙ rw (eq-eqb (at n flags r) 0 zero-here);
        })

-- ---- all lists are followed
lists-nodup : (g : Image) (k j : ℕ) → k ≤ j → NoDup (lists_to g j) → NoDup (lists_to g k)
lists-nodup g zero zero q h = tt
lists-nodup g (suc k) zero q h = absurd (omega arith)
lists-nodup g k (suc j) q h = go (compare k (suc j)) (λ p. lists-nodup g k j p (nodup-left (lists_to g j) (edges_of g (suc j)) h))
  where
    go : Compared k (suc j) → (k ≤ j → NoDup (lists_to g k)) → NoDup (lists_to g k)
    go (equal e t) ih = rw e h
    go (other ne t) ih = ih (omega arith)

module _ (g : Image) (links : after_out g ≡ false) (few : g.m ≤ 4000) where
  lists-inside : (k : ℕ) → k ≤ g.n → Inside g.n g.m no_flags (lists_to g k)
  lists-inside k q = (omega (arith, length-replicate {A = ℕ} 4000 0), lists-edges g links k q)

  none-flagged : (x : ℕ) → Edge g.n g.m x → at g.n no_flags x ≡ 0
  unfolding at
  none-flagged x e = get_or-replicate {A = ℕ} 4000 (x - suc g.n) 0 0 (omega (arith, e.0, e.1))

  -- An edge of the next list was met before: were each edge on one list, once, all would be new.
  list-again : (i : ℕ) {c : ℕ} {f : List ℕ} → i < g.n → flag_all g.n no_flags 0 (lists_to g i) ≡ all_new c f → (flag_all g.n f c (edges_of g (suc i))).new ≡ false → list_out g ≡ true
  list-again i {c} {f} lt e h = go (list_out g) refl
    where
      go : (b : Bool) → list_out g ≡ b → b ≡ true
      go true q = refl
      go false q =
          let once = count-once (lists_to g g.n) (λ x k. omega (arith, counted g q x (lists-edges g links g.n (omega arith) x k))) in
          let all = lists-inside (suc i) lt in
          let new = new-flag g.n g.m no_flags 0 (lists_to g (suc i)) all (lists-nodup g (suc i) g.n lt once) (λ x m. none-flagged x (all.1 x m)) in
          clash (sym new ∙ ap (λ (x : Flagging). x.new) (flag-append g.n no_flags 0 (lists_to g i) (edges_of g (suc i)) e) ∙ h)

  -- Every edge of every list was new: each edge is on one list, once, exactly where m were met.
  lists-new : {c : ℕ} {f : List ℕ} → flag_all g.n no_flags 0 (lists_to g g.n) ≡ all_new c f → not (eqb c g.m) ≡ list_out g
  unfolding list_out
  lists-new {c} e =
      let all = lists-inside g.n (omega arith) in
      let w = flag-new g.n g.m no_flags 0 (lists_to g g.n) all (ap (λ (x : Flagging). x.new) e) in
      let number : c ≡ length (lists_to g g.n) = omega (arith, w.number, ap (λ (x : Flagging). x.count) e) in
      ap (λ (k : ℕ). not (eqb k g.m)) number ∙ ap not (count-all g.n g.m (lists_to g g.n) w.once all.1)

-- The edges of the first i lists were flagged, all of them new.
abbrev pub Met : (n m : ℕ) (after flags : List ℕ) (count i : ℕ) → Type 0
Met n m after flags count i = (tail : List ℕ) → flag_all n no_flags 0 (lists_to (image n m after tail) i) ≡ all_new count flags

module _ {n m : ℕ} {after : List ℕ} (L : Chained n m after) where
  edges-here : (tail : List ℕ) (i : ℕ) → edges_of (image n m after tail) (suc i) ≡ list_from m after (get_or after i 0)
  unfolding edges_of
  edges-here tail i = ap (list_from m after) (word-here after i)

  module _ {flags : List ℕ} {count i : ℕ} (lt : i < n) (met : Met n m after flags count i) where
    -- What was read of the first n words.
    first-read : get_or (take n after) i 0 ≡ get_or after i 0
    first-read = get_or-take n after i 0 lt

    pub can-follow : Follows n m (get_or (take n after) i 0) after flags count
    can-follow =
        rw first-read
        (record {
          chained = L;
          first_link = subst (λ (r : ℕ). is_link n m r ≡ true) (word-here after i) (links-in (image n m after []) (L.links []) (suc i) (omega arith) (omega arith));
          done = lists_to (image n m after []) i;
          edges = lists-edges (image n m after []) (L.links []) i (omega arith);
          flagged = met [];
        })

    -- What following the next list gives.
    module _ {f : Flagging} (e : flag_all n flags count (list_from m after (get_or (take n after) i 0)) ≡ f) where
      next-list : (tail : List ℕ) → flag_all n flags count (edges_of (image n m after tail) (suc i)) ≡ f
      next-list tail = ap (flag_all n flags count) (edges-here tail i ∙ ap (list_from m after) (sym first-read)) ∙ e

    -- What following the next list says: an edge was met again, or how many edges are flagged now.
    module _ (f : Flagging) (e : flag_all n flags count (list_from m after (get_or (take n after) i 0)) ≡ f) where
      pub met-again : None ≡ flagged f → (tail : List ℕ) → list_out (image n m after tail) ≡ true
      met-again h tail = list-again (image n m after tail) (L.links tail) L.sized.few_edges i lt (met tail) (ap (λ (x : Flagging). x.new) (next-list e tail) ∙ flagged-none f h)

      pub met-more : {k : ℕ} {flags' : List ℕ} → Some k ≡ flagged f → flags' ≡ f.flags → Met n m after flags' k (i + 1)
      met-more {k} {flags'} h same tail =
          rw (add-one i)
          (flag-append n no_flags 0 (lists_to (image n m after tail) i) (edges_of (image n m after tail) (suc i)) (met tail)
          ∙ next-list e tail
          ∙ flagged-some f k h
          ∙ ap (all_new k) (sym same))

  pub met_all : {flags : List ℕ} {count i : ℕ} → Met n m after flags count i → i ≡ n → (tail : List ℕ) → not (eqb count m) ≡ list_out (image n m after tail)
  met_all {flags} {count} met e tail = lists-new (image n m after tail) (L.links tail) L.sized.few_edges (subst (λ (k : ℕ). flag_all n no_flags 0 (lists_to (image n m after tail) k) ≡ all_new count flags) e (met tail))

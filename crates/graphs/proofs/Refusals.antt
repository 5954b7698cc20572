-- A call that meets no condition: each of its conditions is false.
-- The number of a list of conditions is 0 only where the first is false and the number of the others is 0.
use Rattle.std.proofs.Common.{◌≡◌, refl, sym, ap, ◌∙◌, ◌↔◌, ◌≢◌, Bool, true, false, cond, not, ◌||◌, List, [], ◌∷◌, ◌++◌, ℕ, zero, suc, ◌≤◌, ◌<◌, arith, length, ltb, ltb-false}
use borrow.Author.Tests.{eqb-false}
use Rattle.lists.proofs.Tests.{clash, neither}
use Rattle.graphs.specs.Nodes.{is_vertex}
use Rattle.graphs.specs.Refusals.{Refusal, refuse, first_of, unless_refused, sizes_out, vertices_out, edges_out, vertex_out, after_out, tail_out, list_out, blanks_out, start_blank, Lent, lent, short, image_areas, sound, image_number, search_number}
use Rattle.graphs.specs.Claims.{SoundClaim, CheckedClaim}

-- A refused call leaves the old words.
pub refused : (k : ℕ) (new old : List ℕ) → (k ≡ 0 → ⊥) → old ≡ unless_refused k new old
refused zero new old h = absurd (h refl)
refused (suc k) new old h = refl

-- No number is 0.
abbrev pub Numbered : List Refusal → Type 0
Numbered [] = Unit {0}
Numbered (refuse k b ∷ cs) = (0 < k) × Numbered cs

abbrev pub AllFalse : List Refusal → Type 0
AllFalse [] = Unit {0}
AllFalse (refuse k b ∷ cs) = (b ≡ false) × AllFalse cs

passes : (k : ℕ) (b : Bool) (cs : List Refusal) → 0 < k → first_of (refuse k b ∷ cs) ≡ 0 → (b ≡ false) × (first_of cs ≡ 0)
passes k true cs h e = absurd (let z : k ≡ 0 = e in omega arith)
passes k false cs h e = (refl, e)

pub sizes-numbered : (n m : ℕ) → Numbered (sizes_out n m)
sizes-numbered n m = (omega arith, (omega arith, tt))

-- The first condition of a call: it is true, or the others decide.
pub first-true : {k : ℕ} {b : Bool} (cs : List Refusal) → b ≡ true → k ≡ first_of (refuse k b ∷ cs)
first-true cs e = rw e refl

pub first-false : (k : ℕ) {b : Bool} (cs : List Refusal) → b ≡ false → first_of cs ≡ first_of (refuse k b ∷ cs)
first-false k cs e = rw e refl

-- Areas that are not as long as stated, and areas that are.
pub tested-short : {long out : Bool} → long ≡ not out → long ≡ false → out ≡ true
tested-short {out = true} e h = refl
tested-short {out = false} e h = clash (sym e ∙ h)

pub tested-long : {long out : Bool} → long ≡ not out → long ≡ true → out ≡ false
tested-long {out = true} e h = clash (sym h ∙ e)
tested-long {out = false} e h = refl

-- A call that is refused by its first conditions.
pub first-refused : (cs own : List Refusal) {j : ℕ} → j ≡ first_of cs → (j ≡ 0 → ⊥) → j ≡ first_of (cs ++ own)
first-refused [] own e h = absurd (h e)
first-refused (refuse k true ∷ cs) own e h = e
first-refused (refuse k false ∷ cs) own e h = first-refused cs own e h

-- A call that is not refused by its first conditions nor by its own.
pub all-false : (cs own : List Refusal) → Numbered cs → first_of (cs ++ own) ≡ 0 → AllFalse cs × (first_of own ≡ 0)
all-false [] own n e = (tt, e)
all-false (refuse k b ∷ cs) own n e =
    let p = passes k b (cs ++ own) n.0 e in
    let q = all-false cs own n.1 p.1 in
    ((p.0, q.0), q.1)

-- Where all are false, there is no number.
pub none_first : (cs : List Refusal) → AllFalse cs → first_of cs ≡ 0
none_first [] a = refl
none_first (refuse k b ∷ cs) a = ap (λ (x : Bool). cond x k (first_of cs)) a.0 ∙ none_first cs a.1

-- The first conditions decide, unless none of them is true.
pub first-front : (cs own : List Refusal) → first_of cs ≢ 0 → first_of (cs ++ own) ≡ first_of cs
first-front [] own ne = absurd (ne refl)
first-front (refuse k true ∷ cs) own ne = refl
first-front (refuse k false ∷ cs) own ne = first-front cs own ne

pub first_rest : (cs own : List Refusal) → Numbered cs → first_of cs ≡ 0 → first_of (cs ++ own) ≡ first_of own
first_rest [] own n e = refl
first_rest (refuse k b ∷ cs) own n e = let p = passes k b cs n.0 e in ap (λ (x : Bool). cond x k (first_of (cs ++ own))) p.0 ∙ first_rest cs own n.1 p.1

pub long : (stated : ℕ) (area : List ℕ) (others : List Lent) → short (lent stated area ∷ others) ≡ false → (stated ≤ length area) × (short others ≡ false)
long stated area others e = let z = neither (ltb (length area) stated) (short others) e in (ltb-false (length area) stated z.0, z.1)

-- ---- sound
-- Of nine conditions in their order none is true, exactly where the third is false and none of the others is true.
none_true : (a b h c d e f i j : Bool) → (first_of (refuse 1 a ∷ refuse 2 b ∷ refuse 3 h ∷ refuse 4 c ∷ refuse 5 d ∷ refuse 6 e ∷ refuse 7 f ∷ refuse 17 i ∷ refuse 18 j ∷ []) ≡ 0) ↔ ((not (a || (b || (c || (d || (e || (f || (i || j))))))) ≡ true) × (h ≡ false))
none_true true b h c d e f i j = (λ q. absurd (eqb-false 1 0 refl q), λ q. clash (sym q.0))
none_true false true h c d e f i j = (λ q. absurd (eqb-false 2 0 refl q), λ q. clash (sym q.0))
none_true false false true c d e f i j = (λ q. absurd (eqb-false 3 0 refl q), λ q. clash q.1)
none_true false false false true d e f i j = (λ q. absurd (eqb-false 4 0 refl q), λ q. clash (sym q.0))
none_true false false false false true e f i j = (λ q. absurd (eqb-false 5 0 refl q), λ q. clash (sym q.0))
none_true false false false false false true f i j = (λ q. absurd (eqb-false 6 0 refl q), λ q. clash (sym q.0))
none_true false false false false false false true i j = (λ q. absurd (eqb-false 7 0 refl q), λ q. clash (sym q.0))
none_true false false false false false false false true j = (λ q. absurd (eqb-false 17 0 refl q), λ q. clash (sym q.0))
none_true false false false false false false false false true = (λ q. absurd (eqb-false 18 0 refl q), λ q. clash (sym q.0))
none_true false false false false false false false false false = (λ q. (refl, refl), λ q. refl)

pub taken-sound : SoundClaim
unfolding sound search_number
taken-sound g before start areas = none_true (vertices_out g.n) (edges_out g.m) (short (image_areas g ++ areas)) (vertex_out g.n start) (after_out g) (tail_out g.n g.m g.tail) (list_out g) (blanks_out g.n before) (start_blank start before)

-- Of nine conditions none is true, exactly where none but the fourth and the last two is true, and these are false.
none-but : (a b h c d e f i j : Bool) → (first_of (refuse 1 a ∷ refuse 2 b ∷ refuse 3 h ∷ refuse 4 (not c) ∷ refuse 5 d ∷ refuse 6 e ∷ refuse 7 f ∷ refuse 17 i ∷ refuse 18 j ∷ []) ≡ 0)
    ↔ ((first_of (refuse 1 a ∷ refuse 2 b ∷ refuse 3 h ∷ refuse 5 d ∷ refuse 6 e ∷ refuse 7 f ∷ []) ≡ 0) × (c ≡ true) × (i ≡ false) × (j ≡ false))
none-but true b h c d e f i j = (λ q. absurd (eqb-false 1 0 refl q), λ q. absurd (eqb-false 1 0 refl q.0))
none-but false true h c d e f i j = (λ q. absurd (eqb-false 2 0 refl q), λ q. absurd (eqb-false 2 0 refl q.0))
none-but false false true c d e f i j = (λ q. absurd (eqb-false 3 0 refl q), λ q. absurd (eqb-false 3 0 refl q.0))
none-but false false false false d e f i j = (λ q. absurd (eqb-false 4 0 refl q), λ q. clash (sym q.1))
none-but false false false true true e f i j = (λ q. absurd (eqb-false 5 0 refl q), λ q. absurd (eqb-false 5 0 refl q.0))
none-but false false false true false true f i j = (λ q. absurd (eqb-false 6 0 refl q), λ q. absurd (eqb-false 6 0 refl q.0))
none-but false false false true false false true i j = (λ q. absurd (eqb-false 7 0 refl q), λ q. absurd (eqb-false 7 0 refl q.0))
none-but false false false true false false false true j = (λ q. absurd (eqb-false 17 0 refl q), λ q. clash q.2)
none-but false false false true false false false false true = (λ q. absurd (eqb-false 18 0 refl q), λ q. clash q.3)
none-but false false false true false false false false false = (λ q. (refl, refl, refl, refl), λ q. refl)

pub checked-sound : CheckedClaim
unfolding image_number search_number
checked-sound g before start areas = none-but (vertices_out g.n) (edges_out g.m) (short (image_areas g ++ areas)) (is_vertex g.n start) (after_out g) (tail_out g.n g.m g.tail) (list_out g) (blanks_out g.n before) (start_blank start before)

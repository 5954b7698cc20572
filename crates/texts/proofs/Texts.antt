-- A text says a profile exactly if it is what is written of that profile, but for padding; from the claims of numbers alone.
-- By layers, number, field, line, lines, head: what lies ahead at a place, but for padding, is read, and what is read lay ahead.
use Rattle.std.proofs.Common.{◌≡◌, refl, sym, ap, ◌∙◌, subst, Bool, true, false, cond, not, List, [], ◌∷◌, ◌++◌, append_assoc, ℕ, zero, suc, ◌+◌, ◌*◌, ◌≤◌, ◌<◌, arith, eqb, length, get_or, drop, length-drop, drop_of_length-le, drop-cons, drop-drop, get_or-drop, eqb-true, eq-eqb}
use Rattle.std.proofs.Math.Option.{Option, none, some}
use lib.ListN.{get_or-eq_default}
use borrow.Author.Tests.{not-true}
use Rattle.lists.proofs.Tests.{clash, and-true, both}
use Rattle.numbers.specs.Decimal.{written, is_digit, digits_ahead, Field, number_at}
use Rattle.numbers.specs.Padding.{unpad}
use Rattle.texts.specs.Text.{Line, Listing, comma, line_feed, element_names, line_names, row, lines_text, text_of, Short, Writable, and_then, begins, names_at, stopped, field_at, Found, line_at, lines_at, Head, head_at, listing_of}
use Rattle.texts.specs.Claims.{TextClaim}
use Rattle.numbers.proofs.Numbers.{number-claim}
use Rattle.numbers.proofs.Padding.{unpad-claim, reading-claim}
use Rattle.texts.proofs.Plain.{byte-kept, no_digits, names-kept, no_padding}

-- ---- readings one after another
-- P of what is found, if anything is.
abbrev Finds : {A : Type 0} → (A → Type 0) → Option A → Type 0
Finds P none = Unit {0}
Finds P (some a) = P a

finds-then : {A B : Type 0} (Q : A → Type 0) (P : B → Type 0) (o : Option A) (f : A → Option B) → Finds Q o → ((a : A) → Q a → Finds P (f a)) → Finds P (and_then o f)
finds-then Q P none f q k = tt
finds-then Q P (some a) f q k = k a q

finds-if : {A : Type 0} (P : A → Type 0) (b : Bool) (a : A) → (b ≡ true → P a) → Finds P (cond b (some a) none)
finds-if P true a k = k refl
finds-if P false a k = tt

finds-any : {A : Type 0} (o : Option A) → Finds (λ a. Unit {0}) o
finds-any none = tt
finds-any (some a) = tt

finds-same : {A : Type 0} (o : Option A) → Finds (λ a. o ≡ some a) o
finds-same none = tt
finds-same (some a) = refl

found : {A : Type 0} (P : A → Type 0) {o : Option A} {a : A} → Finds P o → o ≡ some a → P a
found P h e = subst (λ o. Finds P o) e h

found-then : {A B : Type 0} {o : Option A} {a : A} {b : Option B} (f : A → Option B) → o ≡ some a → f a ≡ b → and_then o f ≡ b
found-then f e d = ap (λ o. and_then o f) e ∙ d

-- ---- as many value lines as references
lines-many : (text : List ℕ) (at k : ℕ) → Finds (λ (ls : List Line). length ls ≡ k) (lines_at text at k)
unfolding lines_at
lines-many text at zero = finds-if _ (eqb at (length text)) [] (λ e. refl)
lines-many text at (suc k) = finds-then _ _ (line_at text at) _ (finds-any (line_at text at)) (λ l u. finds-then _ _ (lines_at text l.next k) _ (lines-many text l.next k) (λ ls e. ap suc e))

pub length-lines : (text : List ℕ) (at k : ℕ) (ls : List Line) → lines_at text at k ≡ some ls → length ls ≡ k
length-lines text at k ls e = found (λ (l : List Line). length l ≡ k) (lines-many text at k) e

listing-many : (text : List ℕ) → Finds (λ (p : Listing). length p.lines ≡ p.m) (listing_of text)
unfolding listing_of
listing-many text = finds-then _ _ (head_at text) _ (finds-any (head_at text)) (λ h u. finds-then _ _ (lines_at text h.next h.m) _ (lines-many text h.next h.m) (λ ls e. e))

pub as_many : (text : List ℕ) (p : Listing) → listing_of text ≡ some p → length p.lines ≡ p.m
as_many text p e = found (λ (q : Listing). length q.lines ≡ q.m) (listing-many text) e

-- ---- lines of values
row-two : (x y : ℕ) (rest : List ℕ) → row (x ∷ y ∷ []) ++ rest ≡ written x ++ comma ∷ (written y ++ line_feed ∷ rest)
row-two x y rest = append_assoc (written x) (comma ∷ row (y ∷ [])) rest ∙ ap (λ (l : List ℕ). written x ++ comma ∷ l) (append_assoc (written y) (line_feed ∷ []) rest)

row-three : (x y z : ℕ) (rest : List ℕ) → row (x ∷ y ∷ z ∷ []) ++ rest ≡ written x ++ comma ∷ (written y ++ comma ∷ (written z ++ line_feed ∷ rest))
row-three x y z rest = append_assoc (written x) (comma ∷ row (y ∷ z ∷ [])) rest ∙ ap (λ (l : List ℕ). written x ++ comma ∷ l) (row-two y z rest)

-- ---- names
begins-is : (xs bs : List ℕ) → begins xs bs ≡ true → bs ≡ xs ++ drop (length xs) bs
begins-is [] bs e = refl
begins-is (x ∷ xs) [] e = clash (sym e)
begins-is (x ∷ xs) (b ∷ bs) e =
    let q = both (eqb x b) (begins xs bs) e in
    λ i. sym (eqb-true x b q.0) i ∷ begins-is xs bs q.1 i

-- ---- what lies ahead at a place, but for padding
record Ahead (text : List ℕ) (at : ℕ) (ws : List ℕ) : Type 0 where
  within : at ≤ length text
  rest : unpad (drop at text) ≡ ws

-- It is read, and behind it lies `rest`.
record Reads {A : Type 0} (found_at : Option A) (make : ℕ → A) (text rest : List ℕ) : Type 0 where
  next : ℕ
  found : found_at ≡ some (make next)
  ahead : Ahead text next rest

-- ---- what is read at a place: it lies there, in front of what lies at the next place, and its numbers fit
abbrev FieldRead : List ℕ → ℕ → ℕ → Field → Type 0
FieldRead text at stop f = (unpad (drop at text) ≡ written f.value ++ stop ∷ unpad (drop f.next text)) × (f.value ≤ 65535)

abbrev LineRead : List ℕ → ℕ → Found → Type 0
LineRead text at l = (unpad (drop at text) ≡ row (l.line.from ∷ l.line.to ∷ []) ++ unpad (drop l.next text)) × (l.line.from ≤ 65535) × (l.line.to ≤ 65535)

abbrev LinesRead : List ℕ → ℕ → List Line → Type 0
LinesRead text at ls = (unpad (drop at text) ≡ lines_text ls) × Short ls

abbrev HeadRead : List ℕ → Head → Type 0
HeadRead text h = (unpad text ≡ element_names ++ (row (h.n ∷ h.m ∷ h.start ∷ []) ++ (line_names ++ unpad (drop h.next text)))) × (h.n ≤ 65535) × (h.m ≤ 65535) × (h.start ≤ 65535)

abbrev ListingRead : List ℕ → Listing → Type 0
ListingRead text p = (unpad text ≡ text_of p) × (p.n ≤ 65535) × (p.m ≤ 65535) × (p.start ≤ 65535) × Short p.lines

-- ---- how far a reading comes
abbrev FieldNear : ℕ → Field → Type 0
FieldNear at f = f.next ≤ at + 6

abbrev LineNear : ℕ → Found → Type 0
LineNear at l = l.next ≤ at + 12

abbrev LinesNear : List ℕ → ℕ → ℕ → List Line → Type 0
LinesNear text at k ls = length text ≤ at + 12 * k

abbrev HeadNear : Head → Type 0
HeadNear h = h.next ≤ 52

abbrev ListingNear : List ℕ → Listing → Type 0
ListingNear text p = length text ≤ 12 * p.m + 52

-- ---- names and padding
names-were : (xs l rest : List ℕ) → no_digits xs ≡ true → unpad l ≡ xs ++ rest → (begins xs l ≡ true) × (unpad (drop (length xs) l) ≡ rest) × (length xs ≤ length l)
names-were [] l rest e h = (refl, h, omega arith)
names-were (x ∷ xs) [] rest e h = absurd (omega (arith, ap length (sym unpad-claim.nothing ∙ h)))
names-were (x ∷ xs) (c ∷ l) rest e h =
    let q = both (not (is_digit x)) (no_digits xs) e in
    let b = reading-claim.byte_was x (c ∷ l) (xs ++ rest) (not-true (is_digit x) q.0) h in
    let same : c ≡ x = ap (λ (k : List ℕ). get_or k 0 0) b.0 in
    let ih = names-were xs l rest q.1 b.1 in
    (and-true (eq-eqb x c (sym same)) ih.0, ih.1, omega (arith, ih.2))

names-ahead : (text : List ℕ) (at : ℕ) (names rest : List ℕ) → no_digits names ≡ true → Ahead text at (names ++ rest) → Reads (names_at text at names) (λ next. next) text rest
names-ahead text at names rest e h =
    let w = names-were names (drop at text) rest e h.rest in
    record {
      next = at + length names;
      found = ap (λ (b : Bool). cond b (some (at + length names)) none) w.0;
      ahead = record { within = omega (arith, h.within, w.2, length-drop at text); rest = ap unpad (sym (drop-drop (length names) at text)) ∙ w.1 };
    }

names-read : (text : List ℕ) (at : ℕ) (names : List ℕ) → no_digits names ≡ true → Finds (λ q. unpad (drop at text) ≡ names ++ unpad (drop q text)) (names_at text at names)
names-read text at names d =
    finds-if _ (begins names (drop at text)) (at + length names)
    (λ e. ap unpad (begins-is names (drop at text) e) ∙ names-kept names (drop (length names) (drop at text)) d ∙ ap (λ (l : List ℕ). names ++ unpad l) (drop-drop (length names) at text))

-- ---- what lies ahead is read
field-ahead : (text : List ℕ) (at x stop : ℕ) (rest : List ℕ) → x ≤ 65535 → is_digit stop ≡ false → Ahead text at (written x ++ stop ∷ rest)
    → Reads (field_at text at stop) (λ next. record { value = x; next = next }) text rest
unfolding field_at
field-ahead text at x stop rest fits other h =
    let none_ahead : digits_ahead (stop ∷ rest) ≡ [] = rw other in
    let f = reading-claim.reads text at x (stop ∷ rest) fits h.within h.rest none_ahead in
    let b = reading-claim.byte_was stop (drop f.next text) rest other f.behind in
    let same : f.next + 0 ≡ f.next = omega arith in
    let byte : get_or text f.next 0 ≡ stop = ap (λ (i : ℕ). get_or text i 0) (sym same) ∙ sym (get_or-drop f.next text 0 0) ∙ ap (λ (l : List ℕ). get_or l 0 0) b.0 in
    let one : f.next + 1 ≡ suc f.next = omega arith in
    let past : drop (suc f.next) text ≡ drop 1 (drop f.next text) = ap (λ (k : ℕ). drop k text) (sym one) ∙ sym (drop-drop 1 f.next text) in
    record {
      next = suc f.next;
      found = found-then (stopped text stop) f.found (rw (eq-eqb _ stop byte));
      ahead = record { within = omega (arith, f.within, length-drop f.next text, ap length b.0); rest = ap unpad past ∙ b.1 };
    }

line-ahead : (text : List ℕ) (at : ℕ) (l : Line) (rest : List ℕ) → l.from ≤ 65535 → l.to ≤ 65535 → Ahead text at (row (l.from ∷ l.to ∷ []) ++ rest)
    → Reads (line_at text at) (λ next. record { line = l; next = next }) text rest
unfolding line_at
line-ahead text at l rest f t h =
    let a = field-ahead text at l.from comma (written l.to ++ line_feed ∷ rest) f refl (rw (row-two l.from l.to rest) at h) in
    let b = field-ahead text a.next l.to line_feed rest t refl a.ahead in
    record { next = b.next; found = found-then _ a.found (found-then _ b.found refl); ahead = b.ahead }

lines-ahead : (text : List ℕ) (at : ℕ) (ls : List Line) → Short ls → Ahead text at (lines_text ls) → lines_at text at (length ls) ≡ some ls
unfolding lines_at
lines-ahead text at [] f h = rw (eq-eqb at (length text) (omega (arith, h.within, length-drop at text, ap length (reading-claim.end_was (drop at text) h.rest))))
lines-ahead text at (l ∷ ls) f h =
    let a = line-ahead text at l (lines_text ls) f.0 f.1 h in
    found-then _ a.found (found-then _ (lines-ahead text a.next ls f.2 a.ahead) refl)

head-ahead : (text : List ℕ) (p : Listing) (rest : List ℕ) → Writable p → Ahead text 0 (element_names ++ (row (p.n ∷ p.m ∷ p.start ∷ []) ++ (line_names ++ rest)))
    → Reads (head_at text) (λ next. record { n = p.n; m = p.m; start = p.start; next = next }) text rest
unfolding head_at
head-ahead text p rest w h =
    let a = names-ahead text 0 element_names (row (p.n ∷ p.m ∷ p.start ∷ []) ++ (line_names ++ rest)) refl h in
    let b = field-ahead text _ p.n comma _ w.n_fits refl (rw (row-three p.n p.m p.start (line_names ++ rest)) at a).ahead in
    let c = field-ahead text _ p.m comma _ w.m_fits refl b.ahead in
    let d = field-ahead text _ p.start line_feed (line_names ++ rest) w.start_fits refl c.ahead in
    let e = names-ahead text _ line_names rest refl d.ahead in
    record { next = e.next; found = found-then _ a.found (found-then _ b.found (found-then _ c.found (found-then _ d.found (found-then _ e.found refl)))); ahead = e.ahead }

reads-back : (text : List ℕ) (p : Listing) → Writable p → unpad text ≡ text_of p → listing_of text ≡ some p
unfolding text_of listing_of
reads-back text p w h =
    let a = head-ahead text p (lines_text p.lines) w (record { within = omega arith; rest = h }) in
    found-then _ a.found (found-then _ (ap (lines_at text a.next) (sym w.as_many) ∙ lines-ahead text a.next p.lines w.lines_fit a.ahead) refl)

-- ---- what is read lay ahead
field-read : (text : List ℕ) (at stop : ℕ) → 0 < stop → is_digit stop ≡ false → Finds (FieldRead text at stop) (field_at text at stop)
unfolding field_at
field-read text at stop h other =
    finds-then _ (FieldRead text at stop) (number_at text at) (stopped text stop) (finds-same (number_at text at))
    (λ f e. finds-if (FieldRead text at stop) _ _ (λ t. go f e (eqb-true _ stop t)))
  where
    go : (f : Field) → number_at text at ≡ some f → get_or text f.next 0 ≡ stop → FieldRead text at stop (record { value = f.value; next = suc f.next })
    go f e byte =
        let out : length text ≤ f.next → ⊥ = λ q. (let z : get_or text f.next 0 ≡ 0 = get_or-eq_default text 0 q in omega arith) in
        let within : f.next < length text = omega arith in
        let rest = drop (suc f.next) text in
        let past = ap unpad (drop-cons text f.next 0 within ∙ (λ i. byte i ∷ rest)) ∙ byte-kept stop rest other in
        (reading-claim.was_read text at f e ∙ ap (λ (l : List ℕ). written f.value ++ l) past, ((number-claim.found text at f).0 e).fits)

line_read : (text : List ℕ) (at : ℕ) → Finds (LineRead text at) (line_at text at)
unfolding line_at
line_read text at =
    finds-then _ (LineRead text at) (field_at text at comma) _ (field-read text at comma (omega arith) refl)
    (λ f a. finds-then _ (LineRead text at) (field_at text f.next line_feed) _ (field-read text f.next line_feed (omega arith) refl)
    (λ t b. (a.0 ∙ ap (λ (l : List ℕ). written f.value ++ comma ∷ l) b.0 ∙ sym (row-two f.value t.value (unpad (drop t.next text))), a.1, b.1)))

lines-read : (text : List ℕ) (at k : ℕ) → Finds (LinesRead text at) (lines_at text at k)
unfolding lines_at
lines-read text at zero =
    finds-if (LinesRead text at) (eqb at (length text)) []
    (λ e. (ap unpad (drop_of_length-le text {i = at} (let z = eqb-true at (length text) e in omega arith)) ∙ unpad-claim.nothing, tt))
lines-read text at (suc k) =
    finds-then _ (LinesRead text at) (line_at text at) _ (line_read text at)
    (λ l a. finds-then _ (LinesRead text at) (lines_at text l.next k) _ (lines-read text l.next k)
    (λ ls b. (a.0 ∙ ap (λ (t : List ℕ). row (l.line.from ∷ l.line.to ∷ []) ++ t) b.0, (a.1, a.2, b.1))))

-- A name, three fields and a name, one behind the other.
head-joined : (t u v w x rest : List ℕ) (n m s : ℕ) → t ≡ element_names ++ u → u ≡ written n ++ comma ∷ v → v ≡ written m ++ comma ∷ w
    → w ≡ written s ++ line_feed ∷ x → x ≡ line_names ++ rest → t ≡ element_names ++ (row (n ∷ m ∷ s ∷ []) ++ (line_names ++ rest))
head-joined t u v w x rest n m s a b c d e =
    let last = d ∙ ap (λ (l : List ℕ). written s ++ line_feed ∷ l) e in
    let values = b ∙ ap (λ (l : List ℕ). written n ++ comma ∷ l) (c ∙ ap (λ (l : List ℕ). written m ++ comma ∷ l) last) in
    a ∙ ap (λ (l : List ℕ). element_names ++ l) (values ∙ sym (row-three n m s (line_names ++ rest)))

head_read : (text : List ℕ) → Finds (HeadRead text) (head_at text)
unfolding head_at
head_read text =
    finds-then _ (HeadRead text) (names_at text 0 element_names) _ (names-read text 0 element_names refl)
    (λ p a. finds-then _ (HeadRead text) (field_at text p comma) _ (field-read text p comma (omega arith) refl)
    (λ n b. finds-then _ (HeadRead text) (field_at text n.next comma) _ (field-read text n.next comma (omega arith) refl)
    (λ m c. finds-then _ (HeadRead text) (field_at text m.next line_feed) _ (field-read text m.next line_feed (omega arith) refl)
    (λ s d. finds-then _ (HeadRead text) (names_at text s.next line_names) _ (names-read text s.next line_names refl)
    (λ q e. (head-joined _ _ _ _ _ (unpad (drop q text)) n.value m.value s.value a b.0 c.0 d.0 e, b.1, c.1, d.1))))))

listing-read : (text : List ℕ) → Finds (ListingRead text) (listing_of text)
unfolding listing_of text_of
listing-read text =
    finds-then _ (ListingRead text) (head_at text) _ (head_read text)
    (λ h a. finds-then _ (ListingRead text) (lines_at text h.next h.m) _ (lines-read text h.next h.m)
    (λ ls b. (a.0 ∙ ap (λ (l : List ℕ). element_names ++ (row (h.n ∷ h.m ∷ h.start ∷ []) ++ (line_names ++ l))) b.0, a.1, a.2, a.3, b.1)))

writes-back : (text : List ℕ) (p : Listing) → listing_of text ≡ some p → Writable p × (unpad text ≡ text_of p)
writes-back text p e =
    let r = found (ListingRead text) (listing-read text) e in
    (record { n_fits = r.1; m_fits = r.2; start_fits = r.3; lines_fit = r.4; as_many = as_many text p e }, r.0)

-- ---- texts that differ in padding only
alike : (s t : List ℕ) → unpad s ≡ unpad t → listing_of s ≡ listing_of t
alike s t e = go (listing_of s) (listing_of t) refl refl
  where
    go : (o q : Option Listing) → listing_of s ≡ o → listing_of t ≡ q → listing_of s ≡ listing_of t
    go (some p) q h k = let w = writes-back s p h in h ∙ sym (reads-back t p w.0 (sym e ∙ w.1))
    go none (some p) h k = let w = writes-back t p k in reads-back s p w.0 (e ∙ w.1) ∙ sym k
    go none none h k = h ∙ sym k

-- ---- how long a text is: a number and the byte behind it are 6 bytes at most
field-near : (text : List ℕ) (at stop : ℕ) → Finds (FieldNear at) (field_at text at stop)
unfolding field_at
field-near text at stop =
    finds-then _ (FieldNear at) (number_at text at) (stopped text stop) (finds-same (number_at text at))
    (λ f e. finds-if (FieldNear at) (eqb (get_or text f.next 0) stop) (record { value = f.value; next = suc f.next }) (λ t. go f e))
  where
    go : (f : Field) → number_at text at ≡ some f → suc f.next ≤ at + 6
    go f e = let s = (number-claim.found text at f).0 e in omega (arith, s.past, s.few)

line-near : (text : List ℕ) (at : ℕ) → Finds (LineNear at) (line_at text at)
unfolding line_at
line-near text at =
    finds-then (FieldNear at) (LineNear at) (field_at text at comma) _ (field-near text at comma)
    (λ f a. finds-then (FieldNear f.next) (LineNear at) (field_at text f.next line_feed) _ (field-near text f.next line_feed) (λ t b. omega arith))

lines-near : (text : List ℕ) (at k : ℕ) → Finds (LinesNear text at k) (lines_at text at k)
unfolding lines_at
lines-near text at zero = finds-if (LinesNear text at 0) (eqb at (length text)) [] (λ e. let z = eqb-true at (length text) e in omega arith)
lines-near text at (suc k) =
    finds-then (LineNear at) (LinesNear text at (suc k)) (line_at text at) _ (line-near text at)
    (λ l a. finds-then (LinesNear text l.next k) (LinesNear text at (suc k)) (lines_at text l.next k) _ (lines-near text l.next k) (λ ls b. omega arith))

-- Names end behind their bytes.
abbrev NamesNear : ℕ → List ℕ → ℕ → Type 0
NamesNear at names p = p ≤ at + length names

names-near : (text : List ℕ) (at : ℕ) (names : List ℕ) → Finds (NamesNear at names) (names_at text at names)
names-near text at names = finds-if (NamesNear at names) (begins names (drop at text)) (at + length names) (λ e. omega arith)

head_near : (text : List ℕ) → Finds HeadNear (head_at text)
unfolding head_at
head_near text =
    finds-then (NamesNear 0 element_names) HeadNear (names_at text 0 element_names) _ (names-near text 0 element_names)
    (λ p a. finds-then (FieldNear p) HeadNear (field_at text p comma) _ (field-near text p comma)
    (λ n b. finds-then (FieldNear n.next) HeadNear (field_at text n.next comma) _ (field-near text n.next comma)
    (λ m c. finds-then (FieldNear m.next) HeadNear (field_at text m.next line_feed) _ (field-near text m.next line_feed)
    (λ s d. finds-then (NamesNear s.next line_names) HeadNear (names_at text s.next line_names) _ (names-near text s.next line_names)
    (λ q e. omega arith)))))

listing-near : (text : List ℕ) → Finds (ListingNear text) (listing_of text)
unfolding listing_of
listing-near text =
    finds-then HeadNear (ListingNear text) (head_at text) _ (head_near text)
    (λ h a. finds-then (LinesNear text h.next h.m) (ListingNear text) (lines_at text h.next h.m) _ (lines-near text h.next h.m) (λ ls b. omega arith))

longest : (text : List ℕ) (p : Listing) → listing_of text ≡ some p → length text ≤ 12 * p.m + 52
longest text p e = found (ListingNear text) (listing-near text) e

pub text-claim : TextClaim
text-claim = record { says = λ text p. (writes-back text p, λ w. reads-back text p w.0 w.1); no_padding = no_padding; alike = alike; longest = longest }

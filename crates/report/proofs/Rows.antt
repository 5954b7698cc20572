-- Bytes printed one behind the other, and the lines of events: how they go on.
use Rattle.std.proofs.Common.{◌≡◌, refl, sym, ap, ◌∙◌, subst, List, [], ◌∷◌, ◌++◌, append_assoc, append-nil, ℕ, zero, suc, ◌+◌, ◌*◌, ◌≤◌, ◌<◌, arith, length, get_or, set, take, drop, replicate, length-append, le-leb, lt-ltb, le-ltb}
use Rattle.std.proofs.lemmas.List.{nil_from_length}
use lib.ListN.{length-replicate}
use lib.Seq.{take-append_seam, append_snoc}
use Rattle.lists.specs.Words.{overlay, pasted}
use Rattle.lists.proofs.Words.{pasted-front, pasted-next, pasted-pasted, length-pasted}
use Rattle.graphs.specs.Events.{Event, event, code, words}
use Rattle.graphs.specs.Refusals.{refuse, first_of, unless_refused, lent, short}
use Rattle.numbers.specs.Decimal.{written, put_at, past_at}
use Rattle.numbers.proofs.Numbers.{number-claim}
use Rattle.numbers.proofs.NumberLoops.{Put}
use Rattle.texts.specs.Text.{comma, line_feed, row}
use Rattle.report.specs.declared.walk.Totals.{Totals}
use Rattle.report.specs.Printed.{event_names, total_names, refused_name, event_rows, refusal_printed}
use Rattle.report.specs.Claims.{LineClaim}
use Rattle.report.specs.Inside.{rows, printed_from}

-- ---- room
-- Where there is room, the bytes are put.
printed-room : (bytes : List ℕ) (at : ℕ) (area : List ℕ) → at + length bytes ≤ length area → (past_at bytes at area ≡ at + length bytes) × (put_at bytes at area ≡ pasted at bytes area)
unfolding put_at past_at
printed-room bytes at area h = rw (le-leb (at + length bytes) (length area) h) (refl, refl)

-- ---- lines of events
-- The lines of words, from their events.
pub rows-events : (es : List Event) → rows (words es) ≡ event_rows es
rows-events [] = refl
rows-events (event k r u ∷ es) = ap (λ (l : List ℕ). row (code k ∷ r ∷ u ∷ []) ++ l) (rows-events es)

-- Lines behind those of whole events.
rows_append : (k : ℕ) (ws vs : List ℕ) → length ws ≡ 3 * k → rows (ws ++ vs) ≡ rows ws ++ rows vs
rows_append zero [] vs e = refl
rows_append zero (a ∷ ws) vs e = absurd (omega arith)
rows_append (suc k) [] vs e = absurd (omega arith)
rows_append (suc k) (a ∷ []) vs e = absurd (omega arith)
rows_append (suc k) (a ∷ b ∷ []) vs e = absurd (omega arith)
rows_append (suc k) (a ∷ b ∷ c ∷ ws) vs e =
    ap (λ (l : List ℕ). row (a ∷ b ∷ c ∷ []) ++ l) (rows_append k ws vs (omega arith))
    ∙ sym (append_assoc (row (a ∷ b ∷ c ∷ [])) (rows ws) (rows vs))

-- Three words are one line.
rows_three : (x : List ℕ) → length x ≡ 3 → rows x ≡ row (get_or x 0 0 ∷ get_or x 1 0 ∷ get_or x 2 0 ∷ [])
rows_three (a ∷ b ∷ c ∷ []) e = append-nil (row (a ∷ b ∷ c ∷ []))
rows_three (a ∷ b ∷ c ∷ d ∷ x) e = absurd (omega arith)
rows_three (a ∷ b ∷ []) e = absurd (omega arith)
rows_three (a ∷ []) e = absurd (omega arith)
rows_three [] e = absurd (omega arith)

-- ---- bytes behind bytes
-- These bytes were written from place `at` on, and `next` is the place past them.
abbrev pub Wrote : (at : ℕ) (start bytes : List ℕ) (next : ℕ) (area : List ℕ) → Type 0
Wrote at start bytes next area = (next ≡ at + length bytes) × (area ≡ pasted at bytes start)

-- So, and they are at most so many.
abbrev pub Near : (most at : ℕ) (start bytes : List ℕ) (next : ℕ) (area : List ℕ) → Type 0
Near most at start bytes next area = (next ≤ at + most) × Wrote at start bytes next area

module _ (at : ℕ) (start bytes : List ℕ) (next : ℕ) (area : List ℕ) (W : Wrote at start bytes next area) where
  -- The area is as long as before.
  wrote-same : at + length bytes ≤ length start → length area ≡ length start
  wrote-same h = ap length W.1 ∙ length-pasted at start (omega arith) bytes h

  -- One byte more.
  wrote-byte : (b : ℕ) → next < length start → Wrote at start (bytes ++ (b ∷ [])) (next + 1) (set area next b)
  wrote-byte b h =
      let p = W.0 in
      (omega (arith, length-append bytes (b ∷ [])), (λ i. set (W.1 i) (p i) b) ∙ pasted-next at start (omega arith) bytes b (omega arith))

  -- More bytes.
  wrote-more : at + length bytes ≤ length start → (more : List ℕ) (next' : ℕ) (area' : List ℕ) → Wrote next area more next' area' → Wrote at start (bytes ++ more) next' area'
  wrote-more h more next' area' N =
      let p = W.0 in
      let q = N.0 in
      (omega (arith, length-append bytes more), N.1 ∙ (λ i. pasted (p i) more (W.1 i)) ∙ pasted-pasted at start (omega arith) bytes more h)

-- ---- a number and the byte behind it
abbrev field : ℕ → ℕ → List ℕ
field x stop = written x ++ (stop ∷ [])

module _ (x at next : ℕ) (start area : List ℕ) (fits : x ≤ 65535) (h : at + 6 ≤ length start) (put : Put x at start next area) where
  pub number-wrote : Near 5 at start (written x) next area
  number-wrote =
      let few = (number-claim.size x fits).1 in
      let r = printed-room (written x) at start (omega arith) in
      (omega (arith, put.0 ∙ r.0), (put.0 ∙ r.0, put.1 ∙ r.1))

  pub field-wrote : (stop : ℕ) → Near 6 at start (field x stop) (next + 1) (set area next stop)
  field-wrote stop = let n = number-wrote.0 in (omega arith, wrote-byte at start (written x) next area number-wrote.1 stop (omega arith))

-- ---- lines
-- Three numbers make a line.
fields-row : (a b c : ℕ) → field a comma ++ (field b comma ++ field c line_feed) ≡ row (a ∷ b ∷ c ∷ [])
fields-row a b c = append_snoc (written a) comma (field b comma ++ field c line_feed) ∙ ap (λ (l : List ℕ). written a ++ comma ∷ l) (append_snoc (written b) comma (field c line_feed))

-- The bytes written are equal to these.
wrote-equal : (at : ℕ) (start bytes other : List ℕ) (next : ℕ) (area : List ℕ) → bytes ≡ other → Wrote at start bytes next area → Wrote at start other next area
wrote-equal at start bytes other next area e W = subst (λ (l : List ℕ). Wrote at start l next area) e W

pub row_wrote : (a b c at p q r : ℕ) (start s t u : List ℕ) → at + 18 ≤ length start
    → Near 6 at start (field a comma) p s → Near 6 p s (field b comma) q t → Near 6 q t (field c line_feed) r u → Near 18 at start (row (a ∷ b ∷ c ∷ [])) r u
row_wrote a b c at p q r start s t u h A B C =
    let i = A.0 in
    let j = B.0 in
    let k = C.0 in
    let n = A.1.0 in
    let o = B.1.0 in
    let m = wrote-same at start (field a comma) p s A.1 (omega arith) in
    let rest = wrote-more p s (field b comma) q t B.1 (omega arith) (field c line_feed) r u C.1 in
    let whole = wrote-more at start (field a comma) p s A.1 (omega arith) (field b comma ++ field c line_feed) r u rest in
    (omega arith, wrote-equal at start _ (row (a ∷ b ∷ c ∷ [])) r u (fields-row a b c) whole)

-- The lines of some events were written; those of the words left are still to be.
pub record Lines (ws left : List ℕ) (at : ℕ) (start : List ℕ) (next : ℕ) (area : List ℕ) : Type 0 where
  pub done : List ℕ
  pub many : ℕ
  pub parts : ws ≡ done ++ left
  pub whole : length done ≡ 3 * many
  pub lines : Near (18 * many) at start (rows done) next area

module _ {ws left : List ℕ} {at : ℕ} {start : List ℕ} {p : ℕ} {s : List ℕ} (W : Lines ws left at start p s) (made : ℕ) (whole : length ws ≡ 3 * made) (fits : at + 18 * made ≤ length start) where
  -- As many events as words.
  lines-many : 3 * W.many + length left ≡ 3 * made
  lines-many = omega (arith, whole, W.whole, ap length W.parts, length-append W.done left)

  -- There is room for a line more.
  pub lines-room : 3 ≤ length left → p + 18 ≤ length s
  lines-room h =
      let m = lines-many in
      let n = W.lines.0 in
      omega (arith, wrote-same at start (rows W.done) p s W.lines.1 (omega (arith, W.lines.1.0)))

  -- A line more.
  pub lines-next : (x others : List ℕ) (q : ℕ) (t : List ℕ) → left ≡ x ++ others → length x ≡ 3 → Near 18 p s (row (get_or x 0 0 ∷ get_or x 1 0 ∷ get_or x 2 0 ∷ [])) q t → Lines ws others at start q t
  lines-next x others q t e three N =
      let m = lines-many in
      let n = W.lines.0 in
      let some : length left ≡ 3 + length others = omega (arith, ap length e, length-append x others) in
      let put = wrote-more at start (rows W.done) p s W.lines.1 (omega (arith, W.lines.1.0)) (row (get_or x 0 0 ∷ get_or x 1 0 ∷ get_or x 2 0 ∷ [])) q t N.1 in
      let lines : rows W.done ++ row (get_or x 0 0 ∷ get_or x 1 0 ∷ get_or x 2 0 ∷ []) ≡ rows (W.done ++ x) = ap (λ (l : List ℕ). rows W.done ++ l) (sym (rows_three x three)) ∙ sym (rows_append W.many W.done x W.whole) in
      record {
        done = W.done ++ x;
        many = W.many + 1;
        parts = W.parts ∙ ap (λ (l : List ℕ). W.done ++ l) e ∙ sym (append_assoc W.done x others);
        whole = omega (arith, length-append W.done x, W.whole);
        lines = (omega (arith, N.0), wrote-equal at start _ (rows (W.done ++ x)) q t lines put);
      }

  -- All of them.
  pub lines-all : length left < 3 → Near (18 * made) at start (rows ws) p s
  lines-all h =
      let m = lines-many in
      let n = W.lines.0 in
      let none : left ≡ [] = nil_from_length left (omega arith) in
      let all : W.done ≡ ws = sym (W.parts ∙ ap (λ (l : List ℕ). W.done ++ l) none ∙ append-nil W.done) in
      (omega arith, wrote-equal at start (rows W.done) (rows ws) p s (ap rows all) W.lines.1)

-- Four parts in front of an area.
parts-wrote : (a b c d start s t u v : List ℕ) (n m p q : ℕ) → length (a ++ (b ++ (c ++ d))) ≤ length start → Wrote 0 start a n s → Wrote n s b m t → Wrote m t c p u → Wrote p u d q v → (q ≡ length (a ++ (b ++ (c ++ d)))) × (v ≡ overlay (a ++ (b ++ (c ++ d))) start)
parts-wrote a b c d start s t u v n m p q h A B C D =
    let k = length-append a (b ++ (c ++ d)) in
    let l = length-append b (c ++ d) in
    let o = length-append c d in
    let i = A.0 in
    let j = B.0 in
    let f = wrote-same 0 start a n s A (omega arith) in
    let g = wrote-same n s b m t B (omega arith) in
    let W : Wrote 0 start (a ++ (b ++ (c ++ d))) q v = wrote-more 0 start a n s A (omega arith) (b ++ (c ++ d)) q v (wrote-more n s b m t B (omega arith) (c ++ d) q v (wrote-more m t c p u C (omega arith) d q v D)) in
    (omega (arith, W.0), W.1 ∙ pasted-front (a ++ (b ++ (c ++ d))) start)

-- What is printed of a walk.
abbrev last_row : Totals → List ℕ
last_row t = row (t.elements ∷ t.moves ∷ t.circular ∷ [])

pub walk-wrote : (ws : List ℕ) (t : Totals) (start r s u v : List ℕ) (n m p q : ℕ) → 18 * t.events + 66 ≤ length start
    → Wrote 0 start event_names n r → Near (18 * t.events) n r (rows (take (3 * t.events) ws)) m s → Wrote m s total_names p u → Near 18 p u (last_row t) q v
    → (q ≡ length (printed_from ws t)) × (v ≡ overlay (printed_from ws t) start)
walk-wrote ws t start r s u v n m p q h A B C D =
    let lines = rows (take (3 * t.events) ws) in
    let i = length-append event_names (lines ++ (total_names ++ last_row t)) in
    let j = length-append lines (total_names ++ last_row t) in
    let k = length-append total_names (last_row t) in
    parts-wrote event_names lines total_names (last_row t) start r s u v n m p q (omega (arith, A.0, B.0, B.1.0, C.0, D.0, D.1.0)) A B.1 C D.1

-- ---- a refusal
-- A line is made: it is the first q bytes of an area of 14.
pub record Made (bytes : List ℕ) (q : ℕ) (area : List ℕ) : Type 0 where
  pub long : q ≡ length bytes
  pub line : take q area ≡ bytes
  pub most : q ≤ 14
  pub room : length area ≡ 14

-- It is made of the name, a number and a byte.
pub line_made : (k stop p q : ℕ) (s t : List ℕ) → Wrote 0 (replicate 14 0) refused_name p s → Near 6 p s (field k stop) q t → Made (refused_name ++ field k stop) q t
line_made k stop p q s t A B =
    let start : List ℕ = replicate 14 0 in
    let bytes : List ℕ = refused_name ++ field k stop in
    let h : length start ≡ 14 = length-replicate {A = ℕ} 14 0 in
    let i = B.0 in
    let n = A.0 in
    let m = B.1.0 in
    let f = wrote-same 0 start refused_name p s A (omega arith) in
    let g = wrote-same p s (field k stop) q t B.1 (omega arith) in
    let W : Wrote 0 start bytes q t = wrote-more 0 start refused_name p s A (omega arith) (field k stop) q t B.1 in
    let e : q ≡ length bytes = omega (arith, W.0) in
    record { long = e; line = (λ j. take (e j) (W.1 j)) ∙ take-append_seam bytes (drop (0 + length bytes) start); most = omega arith; room = g ∙ f ∙ h }

-- What a call that prints a line answers, and the area that it leaves.
abbrev number_of : (line output : List ℕ) → ℕ
number_of line output = first_of (refuse 3 (short (lent (length line) output ∷ [])) ∷ [])

abbrev pub LinePut : (line : List ℕ) (number bytes : ℕ) (output left : List ℕ) → Type 0
LinePut line number bytes output left =
    let k = number_of line output in (number ≡ k) × ((bytes ≡ length (unless_refused k line [])) × (left ≡ unless_refused k (overlay line output) output))

-- There is no room for it.
line-none : (line output : List ℕ) → length output < length line → LinePut line 3 0 output output
line-none line output h = rw (lt-ltb (length output) (length line) h) (refl, (refl, refl))

-- There is room.
line-put : (line output : List ℕ) → length line ≤ length output → LinePut line 0 (length line) output (overlay line output)
line-put line output h = rw (le-ltb (length output) (length line) h) (refl, (refl, refl))

-- The line of a refusal is the name, the number and a line feed.
line-is : (k : ℕ) → refused_name ++ field k line_feed ≡ refusal_printed k
unfolding refusal_printed
line-is k = refl

module _ (k q : ℕ) (area : List ℕ) (M : Made (refused_name ++ field k line_feed) q area) (output : List ℕ) where
  -- Its length.
  made-long : q ≡ length (refusal_printed k)
  made-long = M.long ∙ ap length (line-is k)

  -- There is no room for it.
  pub refusal-none : length output < q → LinePut (refusal_printed k) 3 0 output output
  refusal-none h = let l = made-long in line-none (refusal_printed k) output (omega arith)

  -- It is copied.
  pub refusal-copied : q ≤ length output → (next : ℕ) (out : List ℕ) → Wrote 0 output (take q area) next out → LinePut (refusal_printed k) 0 next output out
  refusal-copied h next out W =
      let l = made-long in
      let line = M.line ∙ line-is k in
      let e : next ≡ length (refusal_printed k) = omega (arith, W.0, ap length line) in
      let f : out ≡ overlay (refusal_printed k) output = W.1 ∙ ap (λ (w : List ℕ). pasted 0 w output) line ∙ pasted-front (refusal_printed k) output in
      let P = line-put (refusal_printed k) output (omega arith) in
      (P.0, (e ∙ P.1.0, f ∙ P.1.1))

-- Fourteen bytes have room for the line of any number.
pub line-room : LineClaim
line-room k output fits h =
    let l = ap length (line-is k) in
    let few = (number-claim.size k fits).1 in
    sym (line-put (refusal_printed k) output (omega (arith, length-append (written k) (line_feed ∷ [])))).0

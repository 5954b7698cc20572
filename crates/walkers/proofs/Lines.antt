-- The claims of specs/TwoLines: what the calls promise is the two lines of folding/, where demands 2 and 3 are proved of their events.
use Rattle.std.proofs.Common.{◌≡◌, refl, sym, ap, ◌∙◌, subst, cond, List, [], ◌∷◌, ◌++◌, reverse, ℕ, zero, suc, ◌+◌, ◌*◌, arith, eqb, length, take, drop, take_at}
use mathlib.Core.List.{reverse-reverse, IsPrefix}
use Rattle.lists.specs.Words.{overlay}
use Rattle.graphs.specs.Events.{Event, words, History}
use Rattle.graphs.specs.Results.{marks_left}
use Rattle.graphs.specs.Image.{Image, graph_of}
use Rattle.graphs.proofs.Depth.{depth-first}
use Rattle.graphs.proofs.Room.{words-length, profile-ready}
use Rattle.walks.proofs.Events.{words_append}
use Rattle.folding.specs.Calls.{taken, refused, Reply, unless, Call, area_of, serve, unopened, opening, open_reply, open_number}
use Rattle.folding.specs.Lines.{Line, line_a, line_b, folded, noted, calls, begun}
use Rattle.folding.specs.Claims.{Agrees}
use Rattle.folding.proofs.AnyInput.{demand1}
use Rattle.folding.proofs.Agreement.{profile, demand2, agreement, enough}
use Rattle.states.specs.Answers.{Seen, seen_of}
use Rattle.scripts.specs.Script.{scripted, replayed}
use Rattle.walkers.specs.TwoLines.{Kept, Account, written, opened, added, account, LineB, LineAClaim, account_of, TieClaim, Labels, LabelsClaim, ReplayLabelsClaim, Agree, TwoAreasClaim, ReplayClaim}
use Rattle.walkers.proofs.Claims.{told-taken}

-- ---- line A
-- The words of events stand in front of the area that they are written to, three for each.
in-front : (es : List Event) (k : ℕ) (area area' : List ℕ) → k ≡ length es → area' ≡ overlay (words es) area → take (3 * k) area' ≡ words es
in-front es k area area' n e = ap (take (3 * k)) e ∙ take_at (words es) (drop (length (words es)) area) (3 * k) (omega (arith, words-length es))

pub line-a : LineAClaim
line-a a before start A = told-taken A.walk A.walk_taken

-- ---- line B
-- The words that a call has written are those of its events.
tells : (r : Reply) (area : List ℕ) → r.area ≡ overlay (words r.events) area → written (seen_of r) ≡ words r.events
tells r area e = in-front r.events (length r.events) area r.area refl e

-- A line's account, with these event words.
abbrev account_with : Line → List ℕ → Account
account_with l ws = record { config = l.config; told = ws; steps = l.steps; rolling = l.rolling; since = l.since; answers = l.answers }

-- A call seen is added to the account as its reply is noted in the line.
one_more : (l : Line) (c : Call) → added (account_of l) c (seen_of (serve l.config c)) ≡ account_of (noted l c (serve l.config c))
one_more l c =
    let r : Reply = serve l.config c in
    ap (λ (ws : List ℕ). account_with (noted l c r) (words l.events ++ ws)) (tells r (area_of c) (demand1.call_confined l.config c).told)
    ∙ ap (account_with (noted l c r)) (sym (words_append l.events r.events))

-- So is every list of calls, from any line.
tied : (l : Line) (cs : List Call) (ss : List Seen) → Kept l.config cs ss → account (account_of l) cs ss ≡ account_of (calls folded l cs)
unfolding calls
tied l [] ss K = refl
tied l (c ∷ cs) [] K = absurd K
tied l (c ∷ cs) (s ∷ ss) K =
    ap (λ (a : Account). account a cs ss) (ap (added (account_of l) c) K.0 ∙ one_more l c)
    ∙ tied (noted l c (serve l.config c)) cs ss (subst (λ (x : Seen). Kept x.config cs ss) K.0 K.1)

pub tie : TieClaim
tie g before start B =
    let r : Reply = opening g before start B.marks B.area in
    ap (λ (a : Account). account a B.calls B.seen) (ap opened B.opens ∙ ap (account_with (begun r)) (tells r B.area (demand1.opening_confined g before start B.marks B.area).told))
    ∙ tied (begun r) B.calls B.seen (subst (λ (x : Seen). Kept x.config B.calls B.seen) B.opens B.kept)

-- ---- demand 2
-- A line that has ended has the events of the one depth-first search.
labelled : (g : Image) (before : List ℕ) (start : ℕ) (marks area : List ℕ) → open_number g before start marks area ≡ 0 → (cs : List Call)
    → Labels g before start marks (account_of (line_b folded g before start marks area cs))
labelled g before start marks area h cs =
    let l : Line = line_b folded g before start marks area cs in
    let P = profile g before start marks area h in
    let D = depth-first (graph_of g) before start (profile-ready g P.sound before start P.start_vertex P.listed) in
    let L = demand2.labelling g before start marks area h cs in
    record {
      events = λ f. ap words (sym (reverse-reverse l.events) ∙ ap reverse ((D.one (reverse l.events)).0 (L.events f)));
      labels = λ f. L.labels f ∙ ap (λ (i : History). marks_left (g.n + g.m) before i marks) ((D.one (reverse l.events)).0 (L.events f));
      no_labels = L.no_labels;
      circle = L.circle;
      history = reverse l.events;
      so_far = ap words (sym (reverse-reverse l.events));
      circular = L.circular;
      marks_now = L.marks_now;
      blanks = L.blanks;
      ending = λ k room s big roomy c. (
          let E = enough g before start marks area h cs k room big roomy in
          let at-end = ap (λ (x : Seen). x.config.phase) c in
          (λ calm. at-end ∙ E.0 calm, λ ro. at-end ∙ E.1 ro)
          );
    }

-- An opening that answers "taken" is not refused.
pub opened-zero : (g : Image) (before : List ℕ) (start : ℕ) (B : LineB g before start) → open_number g before start B.marks B.area ≡ 0
unfolding opening
opened-zero g before start B = go (open_number g before start B.marks B.area) (ap (λ (x : Seen). x.answer) (sym B.opens) ∙ B.open_taken)
  where
    go : (k : ℕ) → (unless k (unopened g start B.marks) B.area (open_reply g before start B.marks B.area)).answer ≡ taken → k ≡ 0
    go zero q = refl
    go (suc k) q = absurd (let e : refused (suc k) ≡ taken = q in let z : ◌≡◌ {A = ℕ} 0 1 = cc in omega arith)

pub labels-as-defined : LabelsClaim
labels-as-defined g before start B = rw (tie g before start B) (labelled g before start B.marks B.area (opened-zero g before start B) B.calls)

-- The calls of a script that is opened.
abbrev played : Image → (before : List ℕ) → ℕ → (marks area script : List ℕ) → List Call
played g before start marks area script = cond (eqb (open_number g before start marks area) 0) (scripted (begun (opening g before start marks area)) area script) []

pub replay-labels : ReplayLabelsClaim
replay-labels g before start marks area h script = labelled g before start marks area h (played g before start marks area script)

-- ---- the two lines
-- The words of the first events are the first words.
words-first : (es : List Event) {fs : List Event} → IsPrefix es fs → IsPrefix (words es) (words fs)
words-first es (gs, e) = (words gs, sym (words_append es gs) ∙ ap words e)

-- What is proved of the events of a line, of its event words.
in_words : (g : Image) (vs : List ℕ) (es : List Event) (l : Line) → Agrees g vs es l → Agree g vs (words es) (account_of l)
in_words g vs es l A = record { first = words-first l.events A.first; ends = A.ends; all = λ calm end. ap words (A.all calm end); bound = A.bound; below = A.below; restored = A.restored; faultless = A.faultless }

pub two-areas : TwoAreasClaim
two-areas a g L before start A B vs E =
    rw (line-a a before start A, tie g before start B)
    (in_words g vs (line_a a before start) (line_b folded g before start B.marks B.area B.calls) (agreement a g L before start B.marks B.area (opened-zero g before start B) vs E B.calls))

pub replay-agrees : ReplayClaim
replay-agrees a g L before start marks area h script vs E =
    in_words g vs (line_a a before start) (replayed g before start marks area script) (agreement a g L before start marks area h vs E (played g before start marks area script))

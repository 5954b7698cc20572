-- What is printed is in the output area, whatever the text or the number and the areas.
use Rattle.std.proofs.Common.{◌≡◌, refl, ap, ◌∙◌, Bool, true, false, cond, List, [], ◌∷◌, ℕ, ◌≤◌, arith, length, drop, length-append}
use Rattle.lists.specs.Words.{overlay}
use Rattle.graphs.specs.Refusals.{unless_refused, lent, short}
use Rattle.texts.specs.Loading.{Reading, refused, loaded}
use Rattle.std.specs.Prelude.{Result, Ok, Err, IsOk}
use Rattle.refusals.specs.declared.Refusal.{Refusal}
use Rattle.refusals.specs.Numbers.{number_in}
use Rattle.refusals.proofs.Numbers.{refused-not-taken}
use Rattle.report.specs.Printed.{walk_printed, refusal_printed}
use Rattle.report.specs.Report.{Told, graph_from, lent_areas, walk_reading, reported, report_of, telling, line_number, line_bytes, line_left}
use Rattle.report.proofs.Rows.{line-room}

reported-fits : (x : Reading) (after tail marks events output : List ℕ) → (reported x after tail marks events output).bytes ≤ length (reported x after tail marks events output).output
reported-fits (refused k) after tail marks events output = omega arith
reported-fits (loaded p) after tail marks events output = let ws = walk_printed (graph_from p) p.start in omega (arith, length-append ws (drop (length ws) output))

-- So it is in what the call answers.
pub printed-fits : (text after tail marks events output : List ℕ) {number bytes : ℕ} {after' tail' marks' events' output' : List ℕ} → telling number bytes after' tail' marks' events' output' ≡ report_of text after tail marks events output → bytes ≤ length output'
unfolding report_of
printed-fits text after tail marks events output e =
    let f = reported-fits (walk_reading (lent_areas after tail marks events output) text) after tail marks events output in
    omega (arith, f, ap (λ (t : Told). t.bytes) e, ap (λ (t : Told). length t.output) e)

-- The line of a refusal is in the area that it leaves.
pub line-fits : (k bytes : ℕ) (output left : List ℕ) → bytes ≡ line_bytes k output → left ≡ line_left k output → bytes ≤ length left
line-fits k bytes output left b l = let f = go (short (lent (length (refusal_printed k)) output ∷ [])) in omega (arith, b, ap length l)
  where
    go : (b : Bool) → length (unless_refused (cond b 3 0) (refusal_printed k) []) ≤ length (unless_refused (cond b 3 0) (overlay (refusal_printed k) output) output)
    go true = omega arith
    go false = omega (arith, length-append (refusal_printed k) (drop (length (refusal_printed k)) output))

-- Fourteen bytes have room for the line of any number: the call is taken.
pub line-taken : (k : ℕ) (output : List ℕ) (r : Result ℕ Refusal) → number_in r ≡ line_number k output → k ≤ 65535 → 14 ≤ length output → IsOk r
line-taken k output r e fits room = go r (e ∙ line-room k output fits room)
  where
    go : (a : Result ℕ Refusal) → number_in a ≡ 0 → IsOk a
    go (Ok bytes) z = refl
    go (Err refusal) z = absurd (refused-not-taken refusal z)

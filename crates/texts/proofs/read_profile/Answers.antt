-- Reading a profile: a refusal gives its number and leaves both areas; else the value lines are written and linked.
-- What the parts find of the text, its head, its value lines and its number, decides what the definition of reading says of it.
use Rattle.std.proofs.Common.{◌≡◌, ℕ, List, sym, ap, ◌∙◌}
use Rattle.std.proofs.lemmas.Result.{err_from_is_err_and}
use Rattle.refusals.proofs.Numbers.{refused-not-taken}
use Rattle.texts.specs.Text.{Line}
use Rattle.texts.specs.Loading.{lines_out, listing_number}
use Rattle.texts.specs.Lines.{listed}
use Rattle.texts.specs.Answers.{head_found, lines_found}
use Rattle.texts.proofs.Linking.{none-refused, InForm, in-form, form-taken, form-placed, form-links, answer-long, answer-no-head, answer-no-lines, answer-number, answer-loaded}
use Rattle.texts.proofs.read_profile.Goals.{In_ok-out}
use Rattle.texts.proofs.read_profile.Goals as goal

-- The text is in its form where it has a number.
formed : (c : In_ok-out) {k : ℕ}
    → ((ls : List Line) → c.in_ok-out.out ≡ lines_out c.in_ok-n.field-0.n ls → k ≡ listing_number (listed c.in_ok-n.field-0.n c.in_ok-n.field-0.m c.in_ok-n.field-0.start ls) c.args.after.now c.args.tail.now)
    → InForm c.args.text.now c.args.after.now c.args.tail.now c.in_ok-n.field-0.n c.in_ok-n.field-0.m c.in_ok-n.field-0.start c.in_ok-n.field-0.next k
formed c number =
    in-form
    c.args.text.now
    c.args.after.now
    c.args.tail.now
    c.if-text-gt65536.false
    (sym (ap head_found c.in_ok-n.ensures.ok_part) ∙ c.read_head.ensures)
    (sym (ap lines_found c.in_ok-out.ensures.ok_part) ∙ c.judge_lines.ensures)
    number

pub returns-then-text-gt65536 : goal.returns-then-text-gt65536
returns-then-text-gt65536 c =
    let all = answer-long _ _ _ c.if-text-gt65536.true in
    record { answer = all.0; links = all.1.0; tails = all.1.1 }

pub returns-in_err-n : goal.returns-in_err-n
returns-in_err-n c =
    let p = err_from_is_err_and c.from_residual.result c.from_residual.ensures.1 in
    let form = none-refused c.read_head.result c.in_err-n.ensures.value in
    let all = answer-no-head _ _ _ c.if-text-gt65536.false (sym (ap head_found c.in_err-n.ensures.ok_part) ∙ c.read_head.ensures) in
    record { answer = rw (p.1, p.2, form) all.0; links = all.1.0; tails = all.1.1 }

pub returns-in_err-out : goal.returns-in_err-out
returns-in_err-out c =
    let p = err_from_is_err_and c.from_residual-in_err-out.result c.from_residual-in_err-out.ensures.1 in
    let form = none-refused c.judge_lines.result c.in_err-out.ensures.value in
    let head = sym (ap head_found c.in_ok-n.ensures.ok_part) ∙ c.read_head.ensures in
    let all = answer-no-lines _ _ _ c.if-text-gt65536.false head (sym (ap lines_found c.in_err-out.ensures.ok_part) ∙ c.judge_lines.ensures) in
    record { answer = rw (p.1, p.2, form) all.0; links = all.1.0; tails = all.1.1 }

pub returns-in_err-check_listing : goal.returns-in_err-check_listing
returns-in_err-check_listing c =
    let p = err_from_is_err_and c.from_residual-in_err-check_listing.result c.from_residual-in_err-check_listing.ensures.1 in
    let f = formed (goal.at.returns-in_err-check_listing c).In_ok-out c.in_err-check_listing.ensures in
    let all = answer-number f (refused-not-taken c.in_err-check_listing.field-0.0) in
    record { answer = rw (p.1, p.2) all.0; links = all.1.0; tails = all.1.1 }

pub write_lines-requires : goal.write_lines-requires
write_lines-requires c =
    let t = form-taken (formed (goal.at.write_lines-requires c).In_ok-out c.in_ok-check_listing.ensures) in
    (t.long_after, t.long_tail)

pub link-requires : goal.link-requires
link-requires c =
    let f = formed (goal.at.link-requires c).In_ok-out c.in_ok-check_listing.ensures in
    form-links f (c.write_lines.ensures f.lines f.found).0

pub returns : goal.returns
returns c =
    let f = formed (goal.at.returns c).In_ok-out c.in_ok-check_listing.ensures in
    let w = c.write_lines.ensures f.lines f.found in
    let all = answer-loaded f (c.link.ensures _ f.lines _ (form-placed f w.0)) w.1 in
    record { answer = all.0; links = all.1.0; tails = all.1.1 }

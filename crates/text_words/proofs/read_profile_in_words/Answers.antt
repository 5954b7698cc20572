-- The reader's answer, a number or three sizes, is what is handed back of the text; the areas are as the reader leaves them.
use Rattle.texts.specs.Loading.{reading}
use Rattle.text_words.proofs.Sizes.{sizes-handed}
use Rattle.text_words.proofs.read_profile_in_words.Goals as goal

pub returns-in-Ok : goal.returns-in-Ok
returns-in-Ok c =
    let z = c.args in
    let e = c.in-Ok.ensures in
    record { answer = sizes-handed z.n.now z.m.now z.start.now (reading z.text.now z.after.now z.tail.now) e.answer; links = e.links; tails = e.tails }

pub returns-in-Err : goal.returns-in-Err
returns-in-Err c =
    let z = c.args in
    let e = c.in-Err.ensures in
    record { answer = rw c.number.ensures (sizes-handed z.n.now z.m.now z.start.now (reading z.text.now z.after.now z.tail.now) e.answer); links = e.links; tails = e.tails }

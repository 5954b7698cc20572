-- `begins_with` says whether the names stand in the text at a place.
use Rattle.std.proofs.Common.{List, ap, refl, ◌∙◌, ℕ, nat_eq, Bor}
use Rattle.std.specs.List.{starts_with}
use Rattle.texts.proofs.Reading.{names-tested, rest-behind}
use Rattle.texts.proofs.begins_with.Goals as goal

pub returns : goal.returns
returns c =
    let z = c.args in
    let rest = ap (λ (b : Bor (List ℕ)). b.now) c.unwrap_or.ensures ∙ rest-behind z.text.now z.at c.get.result _ refl c.get.ensures.lookup in
    c.starts_with.ensures.value ∙ ap (λ (l : List ℕ). starts_with nat_eq l z.names.now) rest ∙ names-tested z.names.now _

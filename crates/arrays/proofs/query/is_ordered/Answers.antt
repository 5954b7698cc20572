-- The first words are as the rule says exactly where the first of them, the last and the neighbours are.
use Rattle.std.proofs.Common.{sym, ◌∙◌, eqb-true}
use Rattle.arrays.specs.Arrays.{form_of}
use Rattle.arrays.proofs.Arrays.{wrong-begin, wrong-end, neighbours}
use Rattle.arrays.proofs.query.is_ordered.Goals.{then-firsts-eq1, else-firsts-eq1}
use Rattle.arrays.proofs.query.is_ordered.Goals as goal

pub returns-then-firsts-top : goal.returns-then-firsts-top
returns-then-firsts-top c =
    elim c.if-firsts-eq1.branch [
      | then-firsts-eq1 w ↦ neighbours (form_of c.args.a.now) c.requires.long_firsts w.if-firsts-eq1.true (sym w.value-is ∙ c.if-firsts-top.true) c.is_sorted.ensures.cases
      | else-firsts-eq1 w ↦ absurd (w.if-firsts-eq1.false (eqb-true _ _ (sym w.value-is ∙ c.if-firsts-top.true)))
    ]

pub returns-else-firsts-top : goal.returns-else-firsts-top
returns-else-firsts-top c =
    elim c.if-firsts-eq1.branch [
      | then-firsts-eq1 w ↦ c.if-firsts-top.false ∙ wrong-end (form_of c.args.a.now) c.requires.long_firsts w.if-firsts-eq1.true (sym w.value-is ∙ c.if-firsts-top.false)
      | else-firsts-eq1 w ↦ c.if-firsts-top.false ∙ wrong-begin (form_of c.args.a.now) c.requires.long_firsts w.if-firsts-eq1.false
    ]

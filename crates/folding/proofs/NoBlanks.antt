-- With no element on the blank, all is as before there were lists.
-- No mark of an element reads 65,535, so the exceptions for that mark say nothing.
use Rattle.std.proofs.Common.{sym, ap, ◌∙◌, Bool, cond, not, ◌&&◌, List, [], ℕ, ◌+◌, leb, ne_eqb}
use Rattle.lists.specs.Words.{at, put}
use Rattle.lists.proofs.Tests.{and-unit}
use Rattle.lists.proofs.Members.{mem-nil}
use Rattle.lists.proofs.Words.{cleared-filled, filled-same}
use Rattle.graphs.specs.Results.{active_mark, blank_mark, rest_mark}
use Rattle.folding.specs.Machine.{label_mark}
use Rattle.folding.specs.Lines.{folded}
use Rattle.folding.specs.Claims.{NoBlanksClaim}
use Rattle.folding.proofs.Agreement.{demand2}

pub no-blanks : NoBlanksClaim folded
no-blanks = record {
  opened = λ g start marks. ap (λ (l : List ℕ). put 0 l start (label_mark 1)) (sym (cleared-filled (g.n + g.m) marks));
  unread = λ g start marks area h cs x p q e. mem-nil (((demand2.labelling g [] start marks area h cs).blanks x p q).0 e);
  undone = λ n marks h. filled-same (λ x. rest_mark (at 0 marks x)) (λ x. 0) n marks (λ x p q. ap (λ (b : Bool). cond b blank_mark 0) (ne_eqb (at 0 marks x) blank_mark (h x p q))) ∙ sym (cleared-filled n marks);
  active_marks = λ mark h. ap (λ (b : Bool). leb active_mark mark && not b) (ne_eqb mark blank_mark h) ∙ and-unit (leb active_mark mark);
}

-- A counted card is a good card.
-- A card's number is 0, so its state was taken; of line B that means it had ended (folding's CardClaim, through the tie of the calls to line B
-- as defined). Accepting reads no links or marks.
use Rattle.std.proofs.Common.{◌≡◌, refl, sym, ap, ◌∙◌, subst, Bool, true, false, cond, List, [], ◌∷◌, ℕ, eqb-true}
use Rattle.lists.proofs.Tests.{clash}
use Rattle.graphs.specs.Events.{words}
use Rattle.graphs.specs.Image.{Image, SameLinks}
use Rattle.folding.specs.Machine.{Config, accepted}
use Rattle.folding.specs.Calls.{fields_in, accept_number}
use Rattle.folding.specs.Lines.{Line, line_a, line_b, folded}
use Rattle.folding.specs.Claims.{UnderWay}
use Rattle.folding.specs.Accepting.{GoodCard}
use Rattle.folding.proofs.Accepting.{good-card, once}
use Rattle.states.specs.declared.values.State.{State}
use Rattle.states.specs.Answers.{config_of}
use Rattle.walkers.specs.TwoLines.{Account, LineA, words_a, LineB, account_b, account_of}
use Rattle.walkers.proofs.Lines.{opened-zero, tie, line-a}
use Rattle.panel.specs.declared.Panel.{Panel}
use Rattle.panel.specs.Panel.{Accepted}
use Rattle.panel.specs.Panel.{AcceptPromise}
use Rattle.panel.specs.Claims.{Entry, accepting, shifting, left, EntryKept, Kept, is_shift, is_card, has_shift, since_shift}
use Rattle.panel.specs.GoodCards.{Has, Whole, Judged, NotAgain, GoodCardClaim, Good, AllGood, GoodCountClaim}
use Rattle.panel.proofs.Counts.{answer-is, taken-counts, counts}

-- Accepting reads the state alone.
state-alone : (s : State) (after tail marks : List ℕ) (figure : ℕ) → accept_number (config_of s after tail marks) figure ≡ accept_number (config_of s [] [] []) figure
unfolding accept_number fields_in
state-alone s after tail marks figure = refl

-- The number that accepting answers, of the state that a line has.
number_of : (b : Account) (s : State) → Has b s → (p q : Panel) (x : Accepted) → AcceptPromise p s x q → x.number ≡ accept_number b.config p.figure
number_of b s h p q x P =
    ap (λ (y : Accepted). y.number) P.1 ∙ answer-is p s
    ∙ sym (state-alone s b.config.after b.config.tail b.config.marks p.figure)
    ∙ ap (λ (w : Config). accept_number w p.figure) h

-- ---- the lines as defined
module _ (a g : Image) (L : SameLinks a g) (before : List ℕ) (start : ℕ) (A : LineA a before start) (B : LineB g before start) where
  abbrev line : Line
  line = line_b folded g before start B.marks B.area B.calls

  tied : account_b B ≡ account_of line
  tied = tie g before start B

  same-config : (account_b B).config ≡ line.config
  same-config = ap (λ (b : Account). b.config) tied

  card : (figure : ℕ) → GoodCard g (line_a a before start) figure line
  card figure = good-card a g L before start B.marks B.area (opened-zero g before start B) B.calls figure

  -- What is accepted is whole.
  whole_of : (figure : ℕ) → accept_number (account_b B).config figure ≡ 0 → Whole g (words_a A) (account_b B)
  whole_of figure z =
      let y : accept_number line.config figure ≡ 0 = subst (λ (w : Config). accept_number w figure ≡ 0) same-config z in
      let C = card figure in
      record {
        phase = (once.had_ended (account_b B).config figure z).0;
        after = ap (λ (w : Config). w.after) same-config ∙ (C.restored y).0;
        tail = ap (λ (w : Config). w.tail) same-config ∙ (C.restored y).1;
        events = ap (λ (b : Account). b.told) tied ∙ ap words (C.all y) ∙ sym (line-a a before start A);
      }

  judged : (figure : ℕ) (x : Accepted) → x.number ≡ accept_number (account_b B).config figure → Judged g (words_a A) (account_b B) figure x
  judged figure x n =
      let C = card figure in
      let m : x.number ≡ accept_number line.config figure = n ∙ ap (λ (w : Config). accept_number w figure) same-config in
      let f = ap (λ (w : Config). w.phase) same-config in
      record {
        counted = λ k. (λ z. f ∙ (C.counted k).0 (sym m ∙ z), λ q. m ∙ (C.counted k).1 (sym f ∙ q));
        whole = λ z. whole_of figure (sym n ∙ z);
        unfinished = λ q. m ∙ C.unfinished (subst UnderWay f q);
        withdrawn = λ q. m ∙ C.withdrawn (sym f ∙ q);
        full = λ q k. m ∙ C.full (sym f ∙ q) k;
      }

-- What accepting leaves where it is taken is in phase 6.
not-again : (p q : Panel) (s : State) (x : Accepted) → AcceptPromise p s x q → NotAgain x
not-again p q s x P z p' q' y Q e =
    let six : x.state.phase ≡ accepted = ap (λ (v : Accepted). v.state.phase) P.1 ∙ (taken-counts p s (sym (ap (λ (v : Accepted). v.number) P.1) ∙ z)).1 in
    once.never_again (config_of x.state [] [] []) p'.figure six (sym (ap (λ (v : Accepted). v.number) Q.1 ∙ answer-is p' x.state) ∙ e)

pub good-cards : GoodCardClaim
good-cards a g L before start A B s h p q x P = (judged a g L before start A B p.figure x (number_of (account_b B) s h p q x P), not-again p q s x P)

-- ---- a log
entry-good : (p : Panel) (x : Entry) → EntryKept p x → is_card x ≡ true → Good x
entry-good p (accepting s x q) k c = (λ a g L before start A B h. (good-cards a g L before start A B s h p q x k).0.whole (eqb-true x.number 0 c), not-again p q s x k)
entry-good p (shifting q) k c = clash (sym c)

all-good : (p : Panel) (log : List Entry) → Kept p log → AllGood log
all-good p [] k = tt
all-good p (x ∷ xs) k = (entry-good p x k.0, all-good (left x) xs k.1)

-- The calls behind the last shift start are some of them.
since-good : (log : List Entry) → AllGood log → AllGood (since_shift log)
since-good [] a = tt
since-good (x ∷ xs) a = go (has_shift xs) (is_shift x) (since-good xs a.1)
  where
    go : (b c : Bool) → AllGood (since_shift xs) → AllGood (cond b (since_shift xs) (cond c xs (x ∷ xs)))
    go true c r = r
    go false true r = a.1
    go false false r = a

pub good-count : GoodCountClaim
good-count p log k s = (counts p log k s, since-good log (all-good p log k))

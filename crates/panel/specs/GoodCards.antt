-- A counted card is a good card, over what callers see: line A's walk, line B's opening and any list of calls, and accepting the state that B
-- then has, on any record.
use Rattle.std.specs.Prelude.{◌≡◌, ◌↔◌, ◌≢◌, true, List, [], ◌∷◌, ℕ, ◌≤◌, ◌<◌}
use Rattle.graphs.specs.Image.{Image, SameLinks}
use Rattle.folding.specs.Machine.{finished, rolled_back}
use Rattle.folding.specs.Claims.{UnderWay}
use Rattle.states.specs.declared.values.State.{State}
use Rattle.states.specs.Answers.{config_of}
use Rattle.walkers.specs.TwoLines.{Account, LineA, words_a, LineB, account_b}
use Rattle.panel.specs.declared.Panel.{Panel}
use Rattle.panel.specs.Panel.{Accepted}
use Rattle.panel.specs.Panel.{AcceptPromise}
use Rattle.panel.specs.Claims.{Entry, accepting, shifting, is_card, since_shift, cards, Kept, Counting, left_by}

-- s is the state that line B then has.
abbrev pub Has : Account → State → Type 0
Has b s = config_of s b.config.after b.config.tail b.config.marks ≡ b.config

-- B's account b, on the image g: it has ended, with every link as loaded and all of A's event words.
pub record Whole (g : Image) (line_aWords : List ℕ) (b : Account) : Type 0 where
  pub phase : b.config.phase ≡ finished
  pub after : b.config.after ≡ g.after
  pub tail : b.config.tail ≡ g.tail
  pub events : b.told ≡ line_aWords

-- Accepting that state on a record with this figure answered x.
pub record Judged (g : Image) (line_aWords : List ℕ) (b : Account) (figure : ℕ) (x : Accepted) : Type 0 where
  -- Below 999,999 it is taken exactly where B has ended; and what is taken is whole.
  pub counted : figure < 999999 → (x.number ≡ 0) ↔ (b.config.phase ≡ finished)
  pub whole : x.number ≡ 0 → Whole g line_aWords b
  -- Else its number: 10 while a step is to come, 9 once rolled back, 11 where the figure is at its limit.
  pub unfinished : UnderWay b.config.phase → x.number ≡ 10
  pub withdrawn : b.config.phase ≡ rolled_back → x.number ≡ 9
  pub full : b.config.phase ≡ finished → 999999 ≤ figure → x.number ≡ 11

-- A state that accepting has left is never taken again, on any record.
abbrev pub NotAgain : Accepted → Type 0
NotAgain x = x.number ≡ 0 → (p q : Panel) (y : Accepted) → AcceptPromise p x.state y q → y.number ≢ 0

-- Any two lines, each in areas of its own, the state that line B has, any record.
abbrev pub GoodCardClaim : Type 0
GoodCardClaim = (a g : Image) → SameLinks a g → (before : List ℕ) (start : ℕ) (A : LineA a before start) (B : LineB g before start)
    → (s : State) → Has (account_b B) s → (p q : Panel) (x : Accepted) → AcceptPromise p s x q
    → Judged g (words_a A) (account_b B) p.figure x × NotAgain x

-- A good card in a log: whatever lines A and B there are of which B had this state, it had ended, whole; and what accepting left is not taken
-- again.
abbrev pub Good : Entry → Type 0
Good (accepting s x q) = ((a g : Image) → SameLinks a g → (before : List ℕ) (start : ℕ) (A : LineA a before start) (B : LineB g before start)
    → Has (account_b B) s → Whole g (words_a A) (account_b B)) × NotAgain x
Good (shifting q) = ⊥

abbrev pub AllGood : List Entry → Type 0
AllGood [] = Unit {0}
AllGood (x ∷ xs) = (is_card x ≡ true → Good x) × AllGood xs

-- The figure counts the cards accepted since the last shift start, and every one of them is good.
abbrev pub GoodCountClaim : Type 0
GoodCountClaim = (p : Panel) (log : List Entry) → Kept p log → Counting p log → ((left_by p log).figure ≡ cards (since_shift log)) × AllGood (since_shift log)

-- A counted card is a good card: what accepting the state of line B means, after any list of calls.
use Rattle.std.specs.Prelude.{◌≡◌, ◌↔◌, ◌≢◌, List, ℕ, ◌≤◌, ◌<◌}
use Rattle.graphs.specs.Events.{Event}
use Rattle.graphs.specs.Image.{Image, SameLinks}
use Rattle.folding.specs.Machine.{Config, finished, rolled_back, accepted}
use Rattle.folding.specs.Calls.{Call, accept_number, open_number}
use Rattle.folding.specs.Lines.{Walker, Line, line_a, line_b, calls}
use Rattle.folding.specs.Claims.{UnderWay}

-- Line B, after a list of calls, on the image g, beside line A's events, is accepted on a panel with this figure.
pub record GoodCard (g : Image) (events_a : List Event) (figure : ℕ) (l : Line) : Type 0 where
  -- Below 999,999 it is taken exactly where B has ended.
  pub counted : figure < 999999 → (accept_number l.config figure ≡ 0) ↔ (l.config.phase ≡ finished)
  -- A card that is taken has every link as loaded, and all of A's events.
  pub restored : accept_number l.config figure ≡ 0 → (l.config.after ≡ g.after) × (l.config.tail ≡ g.tail)
  pub all : accept_number l.config figure ≡ 0 → l.events ≡ events_a
  -- Else its number: 10 while a step is to come, 9 once rolled back, 11 where the figure is at its limit.
  pub unfinished : UnderWay l.config.phase → accept_number l.config figure ≡ 10
  pub withdrawn : l.config.phase ≡ rolled_back → accept_number l.config figure ≡ 9
  pub full : l.config.phase ≡ finished → 999999 ≤ figure → accept_number l.config figure ≡ 11

-- Line A on an image a, line B on an image g with the same links in areas of its own, which an opening takes; every list of calls, every figure.
abbrev pub CardClaim : Walker → Type 0
CardClaim W = (a g : Image) → SameLinks a g → (before : List ℕ) (start : ℕ) (marks area : List ℕ) → open_number g before start marks area ≡ 0
    → (cs : List Call) (figure : ℕ) → GoodCard g (line_a a before start) figure (line_b W g before start marks area cs)

-- On any state at all: what is taken had ended, below the limit; a state in phase 6 is not taken, and no list of calls leads out of it.
pub record OnceClaim (W : Walker) : Type 0 where
  pub had_ended : (w : Config) (figure : ℕ) → accept_number w figure ≡ 0 → (w.phase ≡ finished) × (figure < 999999)
  pub never_again : (w : Config) (figure : ℕ) → w.phase ≡ accepted → accept_number w figure ≢ 0
  pub stays : (l : Line) (cs : List Call) → l.config.phase ≡ accepted → (calls W l cs).config ≡ l.config

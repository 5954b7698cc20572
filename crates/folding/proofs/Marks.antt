-- Marks and circular of a step, on any words.
-- By the step to come.
use Rattle.std.proofs.Common.{◌≡◌, refl, sym, ap, ◌∙◌, ◌≢◌, Bool, true, false, cond, ◌&&◌, not, List, ℕ, drop, eqb, ltb, eqb-true, ne_eqb, le-leb}
use borrow.Author.Tests.{eqb-false, lt-leb}
use Rattle.lists.specs.Words.{at}
use Rattle.lists.proofs.Words.{at-filled, filled-behind}
use Rattle.graphs.specs.Results.{blank_mark, rest_mark, marks_rest}
use Rattle.folding.specs.Machine.{Config, walking, rolling_back, rolled_back, forward, mark_ahead, fresh, unscanned, Step, tree, nontree, relink, retreat, finish, undo_tree, undo_open, pick_step, step_of, relinked, enact, step}
use Rattle.folding.specs.Claims.{marks_by, EndsRollBack, MarksClaim}

-- Every step but the last of a roll-back changes marks by its events alone.
by-events : (w : Config) (s : Step) → (enact w s).config.phase ≢ rolled_back → (enact w s).config.marks ≡ marks_by w.next (enact w s).events w.marks
unfolding enact
by-events w tree n = refl
by-events w nontree n = refl
by-events w relink n = refl
by-events w retreat n = refl
by-events w finish n = refl
by-events w undo_tree n = refl
by-events w undo_open n = absurd (n refl)

-- The step to come, by what it is picked by.
picked : (w : Config) {a b c : Bool} → forward w ≡ a → fresh w ≡ b → eqb w.phase rolling_back ≡ c → step_of w ≡ pick_step a b (ltb w.n w.f) (eqb w.f 0) c
unfolding step_of
picked w p q r = λ i. pick_step (p i) (q i) (ltb w.n w.f) (eqb w.f 0) (r i)

-- A step of a roll-back has no event.
rolled : (w : Config) (b c d : Bool) → (enact w (pick_step false b c d true)).config.phase ≢ rolled_back → (enact w (pick_step false b c d true)).config.marks ≡ w.marks
unfolding enact
rolled w b true d n = refl
rolled w b false true n = absurd (n refl)
rolled w b false false n = refl

rolling-step : (w : Config) → w.phase ≡ rolling_back → step_of w ≡ pick_step false (fresh w) (ltb w.n w.f) (eqb w.f 0) true
rolling-step w p = picked w (ap (λ (k : ℕ). eqb k walking && not (eqb w.e 0)) p) refl (ap (λ (k : ℕ). eqb k rolling_back) p)

-- The last one restores 65,535 where it stood.
ended : (w : Config) (b c d : Bool) → w.phase ≡ rolling_back → (enact w (pick_step false b c d true)).config.phase ≡ rolled_back → (enact w (pick_step false b c d true)).config.marks ≡ marks_rest w.n w.marks
unfolding enact
ended w b true d p e = absurd (eqb-false rolling_back rolled_back refl (sym (ap (λ (k : ℕ). relinked (eqb k rolling_back)) p) ∙ e))
ended w b false true p e = refl
ended w b false false p e = absurd (eqb-false rolling_back rolled_back refl (sym p ∙ e))

last : (w : Config) → EndsRollBack w → (step w).config.marks ≡ marks_rest w.n w.marks
last w (p, end) = rw (rolling-step w p) (ended w (fresh w) (ltb w.n w.f) (eqb w.f 0) p (rw (rolling-step w p) at end))

-- ---- circular
-- A step back leaves the figure.
kept : (w : Config) (b c d r : Bool) → (enact w (pick_step false b c d r)).config.circular ≡ w.circular
unfolding enact
kept w b true d r = refl
kept w b false true true = refl
kept w b false true false = refl
kept w b false false true = refl
kept w b false false false = refl

-- A step forward asks the mark of t(e).
asked : (w : Config) (b : Bool) → step_of w ≡ pick_step true b (ltb w.n w.f) (eqb w.f 0) (eqb w.phase rolling_back) → (b ≡ true → mark_ahead w ≡ 0)
    → (step w).config.circular ≡ cond (unscanned (mark_ahead w)) 1 w.circular
unfolding enact
asked w true e z = ap (λ (s : Step). (enact w s).config.circular) e ∙ ap (λ (k : ℕ). cond (unscanned k) 1 w.circular) (sym (z refl))
asked w false e z = ap (λ (s : Step). (enact w s).config.circular) e

met : (w : Config) → forward w ≡ true → (step w).config.circular ≡ cond (unscanned (mark_ahead w)) 1 w.circular
met w f = asked w (fresh w) (picked w f refl refl) (eqb-true (mark_ahead w) 0)

pub marks-claim : MarksClaim
marks-claim = record {
  marks = λ w n. by-events w (step_of w) n;
  rolling = λ w p n. rw (rolling-step w p) (rolled w (fresh w) (ltb w.n w.f) (eqb w.f 0) (rw (rolling-step w p) at n));
  blanks = λ w end x low high e. ap (λ (ms : List ℕ). at 0 ms x) (last w end) ∙ at-filled (λ y. rest_mark (at 0 w.marks y)) w.n w.marks x low high ∙ ap rest_mark e;
  others = λ w end x low high ne. ap (λ (ms : List ℕ). at 0 ms x) (last w end) ∙ at-filled (λ y. rest_mark (at 0 w.marks y)) w.n w.marks x low high ∙ ap (λ (b : Bool). cond b blank_mark 0) (ne_eqb (at 0 w.marks x) blank_mark ne);
  past = λ w end. ap (drop w.n) (last w end) ∙ filled-behind (λ y. rest_mark (at 0 w.marks y)) w.n w.marks;
  meets = λ w f h ne. met w f ∙ (λ i. cond (le-leb 32768 (mark_ahead w) h i && not (ne_eqb (mark_ahead w) blank_mark ne i)) 1 w.circular);
  passes = λ w f h. met w f ∙ ap (λ (b : Bool). cond (b && not (eqb (mark_ahead w) blank_mark)) 1 w.circular) (lt-leb 32768 (mark_ahead w) h);
  passes_blank = λ w f e. met w f ∙ ap (λ (k : ℕ). cond (unscanned k) 1 w.circular) e;
  back = λ w f. ap (λ (s : Step). (enact w s).config.circular) (picked w f refl refl) ∙ kept w (fresh w) (ltb w.n w.f) (eqb w.f 0) (eqb w.phase rolling_back);
}

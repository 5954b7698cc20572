-- A line under a script: each call on the part of the event area that it is lent, and the script's calls one after the other.
-- What a call leaves in its part stands behind the events so far; put back, the area begins with the events of all.
use Rattle.std.proofs.Common.{◌≡◌, refl, sym, ap, ◌∙◌, subst, Bool, true, false, cond, List, [], ◌∷◌, ◌++◌, append_assoc, ℕ, zero, suc, ◌+◌, ◌-◌, ◌*◌, ◌≤◌, ◌<◌, min, arith, Option, Some, None, Result, Ok, Err, eqb, leb, length, get_or, take, drop, length-append, length-drop, take-append-drop, take_all, drop-drop, leb-true, leb-false, ne_eqb}
use lib.Seq.{take-append_seam, drop-append-le}
use borrow.Rule.Slice.PartMut.{mid_of, put_mid}
use Rattle.lists.specs.Words.{overlay}
use Rattle.lists.proofs.Words.{overlay-past}
use Rattle.graphs.specs.Events.{Event, words}
use Rattle.graphs.specs.Image.{Image}
use Rattle.graphs.proofs.Room.{words-length}
use Rattle.walks.proofs.Events.{words_append}
use Rattle.folding.specs.Machine.{Config}
use Rattle.folding.specs.Calls.{refused, refusing, unless, Call, run_for, single, roll_back, area_of, serve, open_number, unopened, open_reply, opening}
use Rattle.folding.specs.Lines.{Line, noted, calls, begun, line_b, folded}
use Rattle.folding.specs.Claims.{Confined}
use Rattle.folding.proofs.AnyInput.{demand1}
use Rattle.folding.proofs.Totals.{steps-few, events-few}
use Rattle.states.specs.declared.values.Reply.{Reply}
use Rattle.states.specs.declared.values.Reason.{Reason}
use Rattle.states.specs.Answers.{Seen, answer_of, config_of, seen_of, told, told_taken}
use Rattle.refusals.specs.declared.Refusal.{Refusal}
use Rattle.refusals.specs.Numbers.{number_of}
use Rattle.scripts.specs.Script.{lent_to, called_by, called, scripted, replayed, seen_line, told_line, steps_in, events_in, after_call, Playing}
use Rattle.scripts.specs.declared.order.Order.{Order}
use Rattle.scripts.specs.declared.order.Order.TheVariants.{Run, Step, RollBack}
use Rattle.scripts.specs.declared.play.Replayed.{Replayed}

-- ---- areas
-- As many as asked for, or what there is.
take-least : (k room : ℕ) (area : List ℕ) → k ≡ min room (length area) → take k area ≡ take room area
take-least k room area e = go (leb room (length area)) refl
  where
    go : (b : Bool) → leb room (length area) ≡ b → take k area ≡ take room area
    go true q = let h = leb-true room (length area) q in let z : k ≡ room = omega arith in ap (λ (j : ℕ). take j area) z
    go false q = let h = leb-false room (length area) q in take_all k area (omega arith) ∙ sym (take_all room area (omega arith))

-- Words laid over the part behind the words in front: the area begins with both.
put-behind : (ws vs area : List ℕ) (k : ℕ) → length vs ≤ length (take k (drop (length ws) area)) → put_mid (length ws) k (overlay ws area) (overlay vs (mid_of (length ws) k (overlay ws area))) ≡ overlay (ws ++ vs) area
put-behind ws vs area k h =
    let rest : List ℕ = drop (length ws) area in
    (λ i. take-append_seam ws rest i ++ ((vs ++ drop (length vs) (take k (overlay-past ws area i))) ++ drop k (overlay-past ws area i)))
    ∙ ap (λ (l : List ℕ). ws ++ l)
    (append_assoc vs (drop (length vs) (take k rest)) (drop k rest)
    ∙ ap (λ (l : List ℕ). vs ++ l) (sym (drop-append-le (length vs) (take k rest) (drop k rest) h) ∙ ap (drop (length vs)) (take-append-drop k rest) ∙ drop-drop (length vs) (length ws) area))
    ∙ sym (append_assoc ws vs (drop (length ws + length vs) area))
    ∙ ap (λ (j : ℕ). (ws ++ vs) ++ drop j area) (sym (length-append ws vs))

-- ---- one call more
-- What is seen once a call is noted, from what is seen of the call.
noted-told : (p : Replayed) (a : Result Reply Refusal) (after tail marks part area : List ℕ) → told_line (after_call p a) after tail marks area
    ≡ record { answer = (told a (config_of p.state after tail marks) part).answer; steps = p.steps + (told a (config_of p.state after tail marks) part).steps; count = p.events + (told a (config_of p.state after tail marks) part).count; config = (told a (config_of p.state after tail marks) part).config; area = area }
noted-told p (Ok r) after tail marks part area = refl
noted-told p (Err k) after tail marks part area =
    let steps : p.steps ≡ p.steps + 0 = omega arith in
    let events : p.events ≡ p.events + 0 = omega arith in
    λ i. record { answer = refused (number_of k); steps = steps i; count = events i; config = config_of p.state after tail marks; area = area }

-- The steps and the events of a call are those that are seen of it.
steps-told : (a : Result Reply Refusal) (kept : Config) (area : List ℕ) → steps_in a ≡ (told a kept area).steps
steps-told (Ok r) kept area = refl
steps-told (Err k) kept area = refl

events-told : (a : Result Reply Refusal) (kept : Config) (area : List ℕ) → events_in a ≡ (told a kept area).count
events-told (Ok r) kept area = refl
events-told (Err k) kept area = refl

part-told : (a : Result Reply Refusal) (kept : Config) (area : List ℕ) → area ≡ (told a kept area).area
part-told (Ok r) kept area = refl
part-told (Err k) kept area = refl

module _ (p : Replayed) (after tail marks now area : List ℕ) (l : Line) (e : told_line p after tail marks now ≡ seen_line area l) where
  config-is : config_of p.state after tail marks ≡ l.config
  config-is = ap (λ (s : Seen). s.config) e

  now-is : now ≡ overlay (words l.events) area
  now-is = ap (λ (s : Seen). s.area) e

  from_is : length (words l.events) ≡ 3 * p.events
  from_is = words-length l.events ∙ ap (λ (s : Seen). 3 * s.count) (sym e)

  -- The events so far are in the area.
  from_in : 3 * p.events ≤ length now
  from_in = omega (arith, from_is, ap length now-is, length-append (words l.events) (drop (length (words l.events)) area))

  past : drop (3 * p.events) now ≡ drop (length (words l.events)) area
  past = (λ i. drop (sym from_is i) (now-is i)) ∙ overlay-past (words l.events) area

  -- The part that a call is lent.
  part-is : (room k : ℕ) → k ≡ min room (length now - 3 * p.events) → mid_of (3 * p.events) k now ≡ lent_to area l room
  part-is room k h = take-least k room (drop (3 * p.events) now) (omega (arith, length-drop (3 * p.events) now)) ∙ ap (take room) past

  -- The part put back, with the call's events in front of it.
  area-is : (part : List ℕ) (k : ℕ) (fs : List Event) → part ≡ overlay (words fs) (mid_of (3 * p.events) k now) → length (words fs) ≤ length (mid_of (3 * p.events) k now) → put_mid (3 * p.events) k now part ≡ overlay (words (l.events ++ fs)) area
  area-is part k fs q h =
      ap (put_mid (3 * p.events) k now) q
      ∙ (λ i. put_mid (sym from_is i) k (now-is i) (overlay (words fs) (mid_of (sym from_is i) k (now-is i))))
      ∙ put-behind (words l.events) (words fs) area k (omega (arith, ap (λ (x : List ℕ). length (take k x)) past))
      ∙ ap (λ (ws : List ℕ). overlay ws area) (sym (words_append l.events fs))

  -- The line after a call on a part: the part is put back.
  call-seen : (r : Result Reply Refusal) (after' tail' marks' part : List ℕ) (k : ℕ) (c : Call) → area_of c ≡ mid_of (3 * p.events) k now → told r (config_of p.state after' tail' marks') part ≡ seen_of (serve l.config c)
      → told_line (after_call p r) after' tail' marks' (put_mid (3 * p.events) k now part) ≡ seen_line area (noted l c (serve l.config c))
  call-seen r after' tail' marks' part k c a h =
      let C : Confined l.config (area_of c) (serve l.config c) = demand1.call_confined l.config c in
      let fs : List Event = (serve l.config c).events in
      let count : p.events + length fs ≡ length (l.events ++ fs) = ap (λ (s : Seen). s.count + length fs) e ∙ sym (length-append l.events fs) in
      let left : part ≡ (serve l.config c).area = part-told r (config_of p.state after' tail' marks') part ∙ ap (λ (s : Seen). s.area) h in
      let put : put_mid (3 * p.events) k now part ≡ overlay (words (l.events ++ fs)) area = area-is part k fs (left ∙ C.told ∙ ap (overlay (words fs)) a) (omega (arith, C.fits, ap length a)) in
      noted-told p r after' tail' marks' part (put_mid (3 * p.events) k now part)
      ∙ ap (λ (s : Seen). record { answer = s.answer; steps = p.steps + s.steps; count = p.events + s.count; config = s.config; area = put_mid (3 * p.events) k now part }) h
      ∙ (λ i. record { answer = (serve l.config c).answer; steps = (e i).steps + (serve l.config c).steps; count = count i; config = (serve l.config c).config; area = put i })

  -- A call that is lent as many words as the script says, or what is left.
  lent-more : (room k : ℕ) (r : Result Reply Refusal) (after' tail' marks' part : List ℕ) (c : List ℕ → Call) → ((x : List ℕ) → area_of (c x) ≡ x) → k ≡ min room (length now - 3 * p.events)
      → told r (config_of p.state after' tail' marks') part ≡ seen_of (serve (config_of p.state after tail marks) (c (mid_of (3 * p.events) k now)))
      → told_line (after_call p r) after' tail' marks' (put_mid (3 * p.events) k now part) ≡ seen_line area (calls folded l (c (lent_to area l room) ∷ []))
  unfolding calls
  lent-more room k r after' tail' marks' part c own is h =
      let lent : mid_of (3 * p.events) k now ≡ lent_to area l room = part-is room k is in
      call-seen r after' tail' marks' part k (c (lent_to area l room)) (own (lent_to area l room) ∙ sym lent) (h ∙ (λ i. seen_of (serve (config-is i) (c (lent i)))))

  -- What is seen is the line after the call that the code names.
  abbrev SeenBy : Option Order → ℕ → ℕ → Seen → Type 0
  SeenBy order budget room s = s ≡ seen_line area (calls folded l (called order budget (lent_to area l room)))

  by_name : {order : Option Order} (o : Option Order) (budget room : ℕ) {s : Seen} → order ≡ o → SeenBy o budget room s → SeenBy order budget room s
  by_name o budget room e h = h ∙ ap (λ (x : Option Order). seen_line area (calls folded l (called x budget (lent_to area l room)))) (sym e)

  pub run_more : {order : Option Order} (budget room k : ℕ) {q : Replayed} (r : Result Reply Refusal) (after' tail' marks' part : List ℕ) → order ≡ Some Run → k ≡ min room (length now - 3 * p.events) → q ≡ after_call p r
      → told r (config_of p.state after' tail' marks') part ≡ seen_of (serve (config_of p.state after tail marks) (run_for budget (mid_of (3 * p.events) k now)))
      → SeenBy order budget room (told_line q after' tail' marks' (put_mid (3 * p.events) k now part))
  run_more budget room k r after' tail' marks' part o is is-q h =
      by_name (Some Run) budget room o
      (ap (λ (x : Replayed). told_line x after' tail' marks' (put_mid (3 * p.events) k now part)) is-q
      ∙ lent-more room k r after' tail' marks' part (run_for budget) (λ x. refl) is h)

  pub step-more : {order : Option Order} (budget room k : ℕ) {q : Replayed} (r : Result Reply Refusal) (after' tail' marks' part : List ℕ) → order ≡ Some Step → k ≡ min room (length now - 3 * p.events) → q ≡ after_call p r
      → told r (config_of p.state after' tail' marks') part ≡ seen_of (serve (config_of p.state after tail marks) (single (mid_of (3 * p.events) k now)))
      → SeenBy order budget room (told_line q after' tail' marks' (put_mid (3 * p.events) k now part))
  step-more budget room k r after' tail' marks' part o is is-q h =
      by_name (Some Step) budget room o
      (ap (λ (x : Replayed). told_line x after' tail' marks' (put_mid (3 * p.events) k now part)) is-q
      ∙ lent-more room k r after' tail' marks' part single (λ x. refl) is h)

  -- A roll-back order is lent no area.
  pub order-more : {order : Option Order} (budget room : ℕ) {q : Replayed} (r : Result Reply Refusal) → order ≡ Some RollBack → q ≡ after_call p r
      → told r (config_of p.state after tail marks) [] ≡ seen_of (serve (config_of p.state after tail marks) roll_back)
      → SeenBy order budget room (told_line q after tail marks now)
  unfolding calls
  order-more budget room r o is-q h =
      by_name (Some RollBack) budget room o
      ((λ i. told_line (is-q i) after tail marks (sym (take-append-drop (3 * p.events) now) i))
      ∙ call-seen r after tail marks [] 0 roll_back refl (h ∙ (λ i. seen_of (serve (config-is i) roll_back))))

  -- No call is named.
  pub none_more : {order : Option Order} (budget room : ℕ) → order ≡ None → SeenBy order budget room (told_line p after tail marks now)
  unfolding calls
  none_more budget room o = by_name None budget room o e

-- ---- few steps and events
calls-append : (l : Line) (cs ds : List Call) → calls folded l (cs ++ ds) ≡ calls folded (calls folded l cs) ds
unfolding calls
calls-append l [] ds = refl
calls-append l (c ∷ cs) ds = calls-append (noted l c (serve l.config c)) cs ds

-- The steps and events of all, after one call more.
line-few : (g : Image) (before : List ℕ) (start : ℕ) (marks area : List ℕ) → open_number g before start marks area ≡ 0 → (cs : List Call) (c : Call) (l : Line) → l ≡ line_b folded g before start marks area cs → (l.steps + (serve l.config c).steps ≤ 14000) × (length (l.events ++ (serve l.config c).events) ≤ 10000)
unfolding calls
line-few g before start marks area h cs c l e =
    let more : line_b folded g before start marks area (cs ++ (c ∷ [])) ≡ noted l c (serve l.config c) = calls-append (begun (opening g before start marks area)) cs (c ∷ []) ∙ ap (λ (x : Line). noted x c (serve x.config c)) (sym e) in
    (subst (λ (x : Line). x.steps ≤ 14000) more (steps-few g before start marks area h (cs ++ (c ∷ []))), subst (λ (x : Line). length x.events ≤ 10000) more (events-few g before start marks area h (cs ++ (c ∷ []))))

module _ {p : Replayed} {after tail marks now : List ℕ} (P : Playing p after tail marks now) where
  -- The words of the events so far are in the area.
  pub from_low : 3 * p.events ≤ length now
  from_low = from_in p after tail marks now P.area₀ (line_b folded P.image P.before P.start P.marks₀ P.area₀ P.list) P.line

  pub few : (r : Result Reply Refusal) (after' tail' marks' part : List ℕ) (c : Call) → told r (config_of p.state after' tail' marks') part ≡ seen_of (serve (config_of p.state after tail marks) c) → (p.steps + steps_in r ≤ 4294967295) × (p.events + events_in r ≤ 4294967295)
  few r after' tail' marks' part c h =
      let l : Line = line_b folded P.image P.before P.start P.marks₀ P.area₀ P.list in
      let F = line-few P.image P.before P.start P.marks₀ P.area₀ P.opened P.list c l refl in
      let k = ap (λ (w : Config). seen_of (serve w c)) (ap (λ (s : Seen). s.config) P.line) in
      let kept = config_of p.state after' tail' marks' in
      let steps : steps_in r ≡ (serve l.config c).steps = steps-told r kept part ∙ ap (λ (s : Seen). s.steps) (h ∙ k) in
      let made : events_in r ≡ length (serve l.config c).events = events-told r kept part ∙ ap (λ (s : Seen). s.count) (h ∙ k) in
      let a : p.steps ≡ l.steps = ap (λ (s : Seen). s.steps) P.line in
      let b : p.events ≡ length l.events = ap (λ (s : Seen). s.count) P.line in
      let j = length-append l.events (serve l.config c).events in
      (omega (arith, F.0), omega (arith, F.1))

-- ---- a script
scripted-short : (l : Line) (area script : List ℕ) → length script < 3 → scripted l area script ≡ []
unfolding scripted
scripted-short l area (call ∷ budget ∷ room ∷ rest) h = absurd (omega arith)
scripted-short l area (call ∷ budget ∷ []) h = refl
scripted-short l area (call ∷ []) h = refl
scripted-short l area [] h = refl

next-three : (script : List ℕ) → 3 ≤ length script → script ≡ get_or script 0 0 ∷ get_or script 1 0 ∷ get_or script 2 0 ∷ drop 3 script
next-three (call ∷ budget ∷ room ∷ rest) h = refl
next-three (call ∷ budget ∷ []) h = absurd (omega arith)
next-three (call ∷ []) h = absurd (omega arith)
next-three [] h = absurd (omega arith)

-- A script performed in part: the calls so far, and what the words that are left lead to.
pub record Played (g : Image) (before : List ℕ) (start : ℕ) (old area script left : List ℕ) (p : Replayed) (after tail marks now : List ℕ) : Type 0 where
  pub opened : open_number g before start old area ≡ 0
  pub list : List Call
  pub line : told_line p after tail marks now ≡ seen_line area (line_b folded g before start old area list)
  pub rest : replayed g before start old area script ≡ calls folded (line_b folded g before start old area list) (scripted (line_b folded g before start old area list) area left)

module _ {g : Image} {before : List ℕ} {start : ℕ} {old area script left : List ℕ} {p : Replayed} {after tail marks now : List ℕ} (P : Played g before start old area script left p after tail marks now) where
  pub playing : Playing p after tail marks now
  playing = record { image = g; before = before; start = start; marks₀ = old; area₀ = area; list = P.list; opened = P.opened; line = P.line }

  -- The next three words.
  pub next-played : (order : Option Order) {others : List ℕ} {q : Replayed} {after' tail' marks' now' : List ℕ} → 3 ≤ length left → others ≡ drop 3 left
      → ((budget : ℕ) (lent : List ℕ) → called_by (get_or left 0 0) budget lent ≡ called order budget lent)
      → ((area : List ℕ) (l : Line) → told_line p after tail marks now ≡ seen_line area l → told_line q after' tail' marks' now' ≡ seen_line area (calls folded l (called order (get_or left 1 0) (lent_to area l (get_or left 2 0)))))
      → Played g before start old area script others q after' tail' marks' now'
  unfolding scripted
  next-played order {others = others} h is named f =
      let l : Line = line_b folded g before start old area P.list in
      let new : List Call = called_by (get_or left 0 0) (get_or left 1 0) (lent_to area l (get_or left 2 0)) in
      let more = sym (calls-append (begun (opening g before start old area)) P.list new) in
      record {
        opened = P.opened;
        list = P.list ++ new;
        line = f area l P.line ∙ ap (λ (cs : List Call). seen_line area (calls folded l cs)) (sym (named (get_or left 1 0) (lent_to area l (get_or left 2 0)))) ∙ ap (seen_line area) more;
        rest = P.rest
            ∙ ap (λ (s : List ℕ). calls folded l (scripted l area s)) (next-three left h)
            ∙ ap (λ (s : List ℕ). calls folded l (new ++ scripted (calls folded l new) area s)) (sym is)
            ∙ calls-append l new (scripted (calls folded l new) area others)
            ∙ ap (λ (x : Line). calls folded x (scripted x area others)) more;
      }

  -- Fewer than three words are left.
  pub last-played : length left < 3 → told_line p after tail marks now ≡ seen_line area (replayed g before start old area script)
  unfolding calls
  last-played h =
      let l : Line = line_b folded g before start old area P.list in
      P.line ∙ ap (seen_line area) (sym (P.rest ∙ ap (calls folded l) (scripted-short l area left h)))

-- ---- the opening
-- A call that is taken is not refused.
not-both : (why : Option Reason) (k : ℕ) → answer_of why ≡ refused k → ⊥
not-both None k e = cc
not-both (Some why) k e = cc

module _ (g : Image) (before : List ℕ) (start : ℕ) (old area script : List ℕ) where
  -- An opening writes its events in front of its area.
  opening-seen : seen_of (opening g before start old area) ≡ seen_line area (begun (opening g before start old area))
  unfolding opening
  opening-seen = go (open_number g before start old area)
    where
      go : (k : ℕ) → seen_of (unless k (unopened g start old) area (open_reply g before start old area)) ≡ seen_line area (begun (unless k (unopened g start old) area (open_reply g before start old area)))
      go zero = refl
      go (suc k) = refl

  -- The answer of an opening of this number.
  answer-is : {s : Seen} → s ≡ seen_of (opening g before start old area) → (k : ℕ) → open_number g before start old area ≡ k → s.answer ≡ (unless k (unopened g start old) area (open_reply g before start old area)).answer
  unfolding opening
  answer-is h k q = ap (λ (s : Seen). s.answer) h ∙ ap (λ (j : ℕ). (unless j (unopened g start old) area (open_reply g before start old area)).answer) q

  -- A refused opening: its number.
  pub refused-by : (k : Refusal) {kept : Config} {now : List ℕ} → seen_of (refusing (number_of k) kept now) ≡ seen_of (opening g before start old area) → number_of k ≡ open_number g before start old area
  refused-by k h = go (open_number g before start old area) refl
    where
      go : (j : ℕ) → open_number g before start old area ≡ j → number_of k ≡ open_number g before start old area
      go zero q = absurd (not-both None (number_of k) (sym (answer-is h zero q)))
      go (suc j) q = let e : refused (number_of k) ≡ refused (suc j) = answer-is h (suc j) q in let n : number_of k ≡ suc j = cc in n ∙ sym q

  -- A refused opening: no call is made.
  pub none_made : (k : Refusal) {kept : Config} {now : List ℕ} → seen_of (refusing (number_of k) kept now) ≡ seen_of (opening g before start old area) → seen_of (refusing (number_of k) kept now) ≡ seen_line area (replayed g before start old area script)
  unfolding calls
  none_made k h = h ∙ opening-seen ∙ ap (λ (b : Bool). seen_line area (line_b folded g before start old area (cond b (scripted (begun (opening g before start old area)) area script) []))) (sym (go (open_number g before start old area) refl))
    where
      go : (j : ℕ) → open_number g before start old area ≡ j → eqb (open_number g before start old area) 0 ≡ false
      go zero q = absurd (not-both None (number_of k) (sym (answer-is h zero q)))
      go (suc j) q = ne_eqb (open_number g before start old area) 0 (omega arith)

  -- An opening that is taken: no word of the script is performed yet.
  pub first-played : (o : Reply) {after tail marks now : List ℕ} → told_taken o after tail marks now ≡ seen_of (opening g before start old area)
      → Played g before start old area script script (record { last = Ok o.why; steps = o.steps; events = o.events; state = o.state }) after tail marks now
  unfolding calls
  first-played o h =
      let z : open_number g before start old area ≡ 0 = go (open_number g before start old area) refl in
      record {
        opened = z;
        list = [];
        line = h ∙ opening-seen;
        rest = ap (λ (k : ℕ). line_b folded g before start old area (cond (eqb k 0) (scripted (begun (opening g before start old area)) area script) [])) z;
      }
    where
      go : (k : ℕ) → open_number g before start old area ≡ k → open_number g before start old area ≡ 0
      go zero q = q
      go (suc k) q = absurd (not-both o.why (suc k) (answer-is h (suc k) q))

-- The words of events in their area: one event more, and its words stand behind those of the events before.
use Rattle.std.proofs.Common.{◌≡◌, refl, sym, ap, ◌∙◌, List, [], ◌∷◌, ◌++◌, reverse, ℕ, ◌+◌, ◌*◌, ◌≤◌, arith, length}
use mathlib.Core.List.{reverse_aux-eq}
use lib.ListN.{length-reverse}
use Rattle.lists.specs.Words.{overlay, pasted}
use Rattle.lists.proofs.Words.{pasted-front, pasted-pasted}
use Rattle.graphs.specs.Events.{Kind, Event, event, code, words, History, ◌▸◌}
use Rattle.graphs.specs.Results.{events_left}
use Rattle.graphs.proofs.Room.{words-length}

pub words_append : (es fs : List Event) → words (es ++ fs) ≡ words es ++ words fs
words_append [] fs = refl
words_append (event k r u ∷ es) fs = ap (λ (l : List ℕ). code k ∷ r ∷ u ∷ l) (words_append es fs)

-- Its words stand behind those of the events before.
words-next : (h : History) (j : Kind) (r u : ℕ) → words (reverse (h ▸ event j r u)) ≡ words (reverse h) ++ (code j ∷ r ∷ u ∷ [])
words-next h j r u = ap words (reverse_aux-eq h (event j r u ∷ [])) ∙ words_append (reverse h) (event j r u ∷ [])

pub words-many : (h : History) → length (words (reverse h)) ≡ 3 * length h
words-many h = omega (arith, words-length (reverse h), length-reverse h)

pub events-next : (h : History) (area : List ℕ) (j : Kind) (r u : ℕ) → 3 * length h ≤ length area → pasted (3 * length h) (code j ∷ r ∷ u ∷ []) (events_left h area) ≡ events_left (h ▸ event j r u) area
events-next h area j r u p =
    let ws : List ℕ = words (reverse h) in
    let vs : List ℕ = code j ∷ r ∷ u ∷ [] in
    let m : 3 * length h ≡ length ws = sym (words-many h) in
    let q' : 0 + length ws ≤ length area = omega arith in
    let m' : 3 * length h ≡ 0 + length ws = omega arith in
    ap (λ (k : ℕ). pasted k vs (overlay ws area)) m'
    ∙ ap (pasted (0 + length ws) vs) (sym (pasted-front ws area))
    ∙ pasted-pasted 0 area (omega arith) ws vs q'
    ∙ pasted-front (ws ++ vs) area
    ∙ ap (λ (l : List ℕ). overlay l area) (sym (words-next h j r u))

-- What the bent links hold where the search reads them.
-- A word is bent only where its node's owner is on the path, so the words of every other vertex are as loaded.
use Rattle.std.proofs.Common.{◌≡◌, refl, sym, ap, ◌∙◌, subst, ◌≢◌, List, [], ◌∷◌, ℕ, ◌<◌, arith, length}
use mathlib.Core.List.{reverse_aux}
use Rattle.lists.specs.Members.{Mem, here, there, NoDup}
use Rattle.lists.specs.Words.{at, put}
use Rattle.lists.proofs.Members.{Split, split}
use Rattle.lists.proofs.Words.{length-put, put-comm, at_other}
use Rattle.graphs.specs.Nodes.{Vertex, Edge}
use Rattle.graphs.specs.Image.{Image, edges_of, to, graph_of}
use Rattle.graphs.proofs.Sound.{head0, Linked, linked-rest, Sound}
use Rattle.graphs.proofs.Owned.{image-owned}
use Rattle.graphs.proofs.Places.{Frame, frame, parent, path, Above, Placed, of-done, of-rest}
use Rattle.graphs.proofs.Tails.{tails-length, tails-kept}
use Rattle.folding.proofs.Bent.{top, bend, bent_after, bent_tail}

pub at-bend : (done : List ℕ) (par : ℕ) (l : List ℕ) (x : ℕ) → 0 < x → ((d : ℕ) → Mem d done → (0 < d) × (x ≢ d)) → at 0 (bend done par l) x ≡ at 0 l x
at-bend [] par l x h q = refl
at-bend (d ∷ ds) par l x h q =
    at_other 0 (bend ds par l) d x (top ds par) (q d (here refl)).0 h (q d (here refl)).1
    ∙ at-bend ds par l x h (λ y m. q y (there m))

pub length-bend : (done : List ℕ) (par : ℕ) (l : List ℕ) → length (bend done par l) ≡ length l
length-bend [] par l = refl
length-bend (d ∷ ds) par l = length-put 0 (bend ds par l) d (top ds par) ∙ length-bend ds par l

-- a store to a node that is not among those bent goes below them
pub put-bend : (done : List ℕ) (par : ℕ) (l : List ℕ) (x w : ℕ) → 0 < x → ((d : ℕ) → Mem d done → (0 < d) × (x ≢ d)) → put 0 (bend done par l) x w ≡ bend done par (put 0 l x w)
put-bend [] par l x w h q = refl
put-bend (d ∷ ds) par l x w h q =
    put-comm 0 (bend ds par l) d x (top ds par) w (q d (here refl)).0 h (λ e. (q d (here refl)).1 (sym e))
    ∙ ap (λ (k : List ℕ). put 0 k d (top ds par)) (put-bend ds par l x w h (λ y m. q y (there m)))

pub length-bent_after : (g : Image) (s : List Frame) → length (bent_after g s) ≡ length g.after
length-bent_after g [] = refl
length-bent_after g (frame u du r ru ∷ s) = length-bend du (parent s) (put 0 (bent_after g s) u r) ∙ length-put 0 (bent_after g s) u r ∙ length-bent_after g s

pub length-bent_tail : (g : Image) (s : List Frame) → length (bent_tail g s) ≡ length g.tail
length-bent_tail g s = tails-length (λ du fs. top du (parent fs)) g.n g.tail s

module _ (g : Image) (S : Sound g) (start : ℕ) where
  pub clean : (s : List Frame) (v : ℕ) → Above (graph_of g) start s v → (x : ℕ) → 0 < x → (Mem (S.owner x) (path s) → ⊥) → at 0 (bent_after g s) x ≡ at 0 g.after x
  clean [] v a x h q = refl
  clean (frame u du r ru ∷ s) v a x h q =
      at-bend du (parent s) (put 0 (bent_after g s) u r) x h off
      ∙ at_other 0 (bent_after g s) u x r a.1.0 h (λ e. q (here (ap S.owner e ∙ S.own-self u a.1)))
      ∙ clean s u a.3 x h (λ m. q (there m))
    where
      off : (d : ℕ) → Mem d du → (0 < d) × (x ≢ d)
      off d m =
          let k : Mem d (edges_of g u) = of-done (graph_of g) u du (r ∷ ru) a.2 d m in
          let z : Edge g.n g.m d = S.edge u d a.1 k in
          (omega arith, λ e. q (here (ap S.owner e ∙ S.own-edge u d a.1 k)))

  -- a reference ahead of v still has its tail
  pub ahead-tail : (v : ℕ) (done rest : List ℕ) (s : List Frame) → Placed (graph_of g) start v done rest s → (x : ℕ) → Mem x rest → at g.n (bent_tail g s) x ≡ to g x
  ahead-tail v done rest s P x m = tails-kept (image-owned g S) (λ du fs. top du (parent fs)) g.tail start s v v x P.above P.vertex (of-rest (graph_of g) v done rest P.list x m) P.distinct.0

  -- the edges passed differ from those ahead and from the element
  pub off-done : (v : ℕ) (done rest : List ℕ) → Vertex g.n v → edges_of g v ≡ reverse_aux done rest → (x : ℕ) → Mem x rest → (d : ℕ) → Mem d done → (0 < d) × (x ≢ d)
  off-done v done rest hv e x mx d md =
      let z : Edge g.n g.m d = S.edge v d hv (of-done (graph_of g) v done rest e d md) in
      let sp : Split done rest = split done rest (subst NoDup e (S.once v hv)) in
      (omega arith, λ q. sp.apart x mx (subst (λ (y : ℕ). Mem y done) (sym q) md))

  pub off-vertex : (v : ℕ) (done rest : List ℕ) → Vertex g.n v → edges_of g v ≡ reverse_aux done rest → (d : ℕ) → Mem d done → (0 < d) × (v ≢ d)
  off-vertex v done rest hv e d md =
      let z : Edge g.n g.m d = S.edge v d hv (of-done (graph_of g) v done rest e d md) in
      (omega arith, λ q. (let w : v ≡ d = q in omega arith))

  pub next_word : (v : ℕ) (done : List ℕ) (r : ℕ) (rs : List ℕ) → Vertex g.n v → edges_of g v ≡ reverse_aux done (r ∷ rs) → at 0 g.after r ≡ head0 rs
  next_word v done r rs hv e = (linked-rest g.after done (r ∷ rs) (subst (Linked g.after) e (S.linked v hv))).0

  -- a reference ahead of v still has its word
  pub ahead : (v : ℕ) (done rest : List ℕ) (s : List Frame) (stale : ℕ) → Placed (graph_of g) start v done rest s → (x : ℕ) → Mem x rest → at 0 (bend done (parent s) (put 0 (bent_after g s) v stale)) x ≡ at 0 g.after x
  ahead v done rest s stale P x mx =
      let k : Mem x (edges_of g v) = of-rest (graph_of g) v done rest P.list x mx in
      let z : Edge g.n g.m x = S.edge v x P.vertex k in
      let pos : 0 < x = omega arith in
      let hv : Vertex g.n v = P.vertex in
      at-bend done (parent s) (put 0 (bent_after g s) v stale) x pos (off-done v done rest P.vertex P.list x mx)
      ∙ at_other 0 (bent_after g s) v x stale hv.0 pos (λ q. (let w : x ≡ v = q in omega arith))
      ∙ clean s v P.above x pos (λ m. P.distinct.0 (subst (λ (y : ℕ). Mem y (path s)) (S.own-edge v x P.vertex k) m))

  -- below v nothing of v is bent
  pub below : (v : ℕ) (s : List Frame) → Vertex g.n v → Above (graph_of g) start s v → NoDup (v ∷ path s) → at 0 (bent_after g s) v ≡ head0 (edges_of g v)
  below v s hv a nd = clean s v a v hv.0 (λ m. nd.0 (subst (λ (y : ℕ). Mem y (path s)) (S.own-self v hv) m)) ∙ S.first v hv

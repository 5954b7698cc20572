-- Lists of labelled vertices: each a vertex, none twice; and what it means that one such list has grown out of another.
-- Growth is transitive, and whatever is new in it has all its edges' targets labelled.
use Rattle.std.proofs.Common.{◌≡◌, sym, subst, ◌⊎◌, inl, inr, List, ◌∷◌, ◌++◌, ℕ, suc, ◌≤◌, arith, length}
use Rattle.lists.specs.Members.{Mem, there, NoDup}
use Rattle.lists.specs.Counts.{count_in}
use Rattle.lists.proofs.Counts.{count-mem, mem-count, count-once, count_most}
use Rattle.lists.proofs.Members.{mem-cons, each-cons, mem-append, pigeonhole}
use Rattle.graphs.specs.Nodes.{Vertex}
use Rattle.graphs.specs.Graph.{Graph, Leads, stays, along, Reached}
use Rattle.graphs.specs.Claims.{Ready}

pub record Labels (n : ℕ) (ls : List ℕ) : Type 0 where
  pub once : NoDup ls
  pub all : (x : ℕ) → Mem x ls → Vertex n x

pub label-ok : (n u : ℕ) (ls : List ℕ) → Vertex n u → (Mem u ls → ⊥) → Labels n ls → Labels n (u ∷ ls)
label-ok n u ls hu new L = record { once = (new, L.once); all = each-cons (Vertex n) u ls hu L.all }

pub labels-few : (n : ℕ) (ls : List ℕ) → Labels n ls → length ls ≤ n
labels-few n ls L = pigeonhole 0 n ls L.once (λ x m. let k = L.all x m in (k.0, omega arith))

-- One vertex more does not fit where all are labelled.
pub labels_full : {A : Type 0} (n u : ℕ) (ls : List ℕ) → Vertex n u → (Mem u ls → ⊥) → Labels n ls → n ≤ length ls → A
labels_full n u ls hu new L h = absurd (let k : suc (length ls) ≤ n = labels-few n (u ∷ ls) (label-ok n u ls hu new L) in omega arith)

-- Every edge out of x leads to a labelled vertex.
abbrev pub Done : Graph → List ℕ → ℕ → Type 0
Done G ls x = (r : ℕ) → Mem r (G.out x) → Mem (G.to r) ls

pub record Grown (G : Graph) (p q : List ℕ) : Type 0 where
  pub keeps : (x : ℕ) → Mem x p → Mem x q
  pub labels : Labels G.size q
  pub longer : length p ≤ length q
  pub closes : (x : ℕ) → Mem x q → Mem x p ⊎ Done G q x

module _ (G : Graph) where
  pub grown-refl : (p : List ℕ) → Labels G.size p → Grown G p p
  grown-refl p L = record { keeps = λ x m. m; labels = L; longer = omega arith; closes = λ x m. inl m }

  pub grown-trans : (p q r : List ℕ) → Grown G p q → Grown G q r → Grown G p r
  grown-trans p q r a b = record { keeps = λ x m. b.keeps x (a.keeps x m); labels = b.labels; longer = omega (arith, a.longer, b.longer); closes = λ x m. go x (b.closes x m) }
    where
      on : (x : ℕ) → Mem x p ⊎ Done G q x → Mem x p ⊎ Done G r x
      on x (inl m) = inl m
      on x (inr d) = inr (λ e m. b.keeps (G.to e) (d e m))

      go : (x : ℕ) → Mem x q ⊎ Done G r x → Mem x p ⊎ Done G r x
      go x (inl m) = on x (a.closes x m)
      go x (inr d) = inr d

  -- u was labelled, the list has grown to q, and all edges out of u lead to labelled vertices: so it has grown from before u.
  pub grown-label : (u : ℕ) (p q : List ℕ) → Grown G (u ∷ p) q → Done G q u → Grown G p q
  grown-label u p q a d = record { keeps = λ x m. a.keeps x (there m); labels = a.labels; longer = omega (arith, a.longer); closes = λ x m. go x (a.closes x m) }
    where
      at-u : (x : ℕ) → (x ≡ u) ⊎ Mem x p → Mem x p ⊎ Done G q x
      at-u x (inl e) = inr (subst (Done G q) (sym e) d)
      at-u x (inr m) = inl m

      go : (x : ℕ) → Mem x (u ∷ p) ⊎ Done G q x → Mem x p ⊎ Done G q x
      go x (inl m) = at-u x (mem-cons m)
      go x (inr c) = inr c

-- A list that has each vertex as often as one of the reached vertices is one of the reached vertices.
pub reached-counts : (G : Graph) (off : List ℕ) (start : ℕ) (vs us : List ℕ) → ((x : ℕ) → count_in x us ≡ count_in x vs) → Reached G off start vs → Reached G off start us
reached-counts G off start vs us same R = record {
  once = count-once us (λ x m. (let a = same x in let b = count_most x vs R.once in omega arith));
  exact = λ x. (λ m. (R.exact x).0 (mem-count x vs (let a = same x in let b = count-mem m in omega arith)), λ l. mem-count x us (let a = same x in let b = count-mem ((R.exact x).1 l) in omega arith));
}

-- What a path leads to is a vertex.
pub leads-vertex : (G : Graph) (off : List ℕ) (start : ℕ) → Ready G off start → {x : ℕ} → Leads G off start x → Vertex G.size x
leads-vertex G off start R (stays e) = subst (Vertex G.size) (sym e) R.start_vertex
leads-vertex G off start R (along {v} r l m e f) = subst (Vertex G.size) e (R.closed v r (leads-vertex G off start R l) m)

pub reached-labels : (G : Graph) (off : List ℕ) (start : ℕ) → Ready G off start → (vs : List ℕ) → Reached G off start vs → Labels G.size vs
reached-labels G off start R vs E = record { once = E.once; all = λ x m. leads-vertex G off start R ((E.exact x).0 m) }

-- Vertices among which is the start, each reached, none twice, and whose edges lead to them or off: these are the reached vertices.
module _ (G : Graph) (off : List ℕ) (start : ℕ) (ls : List ℕ) (starts : Mem start ls) (closes : (x : ℕ) → Mem x ls → Done G (ls ++ off) x) where
  reaches_all : {x : ℕ} → Leads G off start x → Mem x ls
  reaches_all (stays e) = subst (λ (y : ℕ). Mem y ls) (sym e) starts
  reaches_all (along {v} {x} r l m e ne) = go (mem-append ls off (subst (λ (y : ℕ). Mem y (ls ++ off)) e (closes v (reaches_all l) r m)))
    where
      go : Mem x ls ⊎ Mem x off → Mem x ls
      go (inl k) = k
      go (inr k) = absurd (ne k)

  pub reached-exactly : NoDup ls → ((x : ℕ) → Mem x ls → Leads G off start x) → Reached G off start ls
  reached-exactly once only = record { once = once; exact = λ x. (only x, reaches_all) }

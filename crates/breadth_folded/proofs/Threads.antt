-- Laws of the search folded into the links: the after words as a function of the queue, read, joined by one more and left by the first.
-- The last node of each list is owned by its vertex alone, so the bent words of different vertices are different words.
use Rattle.std.proofs.Common.{◌≡◌, refl, sym, ap, ◌∙◌, subst, ◌≢◌, List, [], ◌∷◌, ◌++◌, ℕ, suc, ◌+◌, ◌-◌, ◌≤◌, ◌<◌, arith, length, get_or, set}
use Rattle.lists.specs.Members.{Mem, here, there, NoDup}
use Rattle.lists.specs.Words.{at, put}
use Rattle.lists.proofs.Members.{each-cons, pigeonhole}
use Rattle.lists.proofs.Words.{length-put, put-put, put-at, put-comm, at-put, at_other, read_at}
use Rattle.graphs.specs.Nodes.{Vertex, Edge}
use Rattle.graphs.specs.Events.{event, label, scan, traverse, History, ◌▸◌}
use Rattle.graphs.specs.Image.{Image, chain, edges_of, graph_of}
use Rattle.graphs.proofs.Labels.{Labels}
use Rattle.graphs.proofs.Sound.{head0, Linked, Sound, chain-of, edges_left, left-falls, graph-closed}
use Rattle.graphs.proofs.Queues.{Waiting, Scanning, queue-begin, queue-scan, queue-end}
use Rattle.images.specs.Checking.{image}
use Rattle.breadth_folded.specs.declared.Scanned.{Scanned}
use Rattle.walks.specs.Promises.{walk_number}
use Rattle.walks.specs.Writing.{total, Held}
use Rattle.breadth_folded.specs.Threads.{last_of, last_node, last_from, threaded, rear, Ends, FoldedAt, SomeFoldedAt, FoldedScanned, Scans, CanSearch, Ended}
use Rattle.walks.proofs.Begins.{begins}
use Rattle.walks.proofs.Writing.{Emits, Puts, Starts, held-total}
use Rattle.walks.proofs.Reading.{target}
use Rattle.walks.proofs.Scans.{first-waits, first-held, waiting-queued, scanning-queued, waiting-room, InScan, scan-few, scan-kept, scan-same, over-held, over-total, leads-vertex, crossed-total, edge-pass, edge-queue, edge-join, edge-total}

-- ---- the last node of a list
last_mem : (x : ℕ) (l : List ℕ) → Mem (last_of x l) (x ∷ l)
last_mem x [] = here refl
last_mem x (r ∷ rs) = there (last_mem r rs)

-- Its word is null.
last-null : (after : List ℕ) (x : ℕ) (l : List ℕ) → Linked after (x ∷ l) → at 0 after (last_of x l) ≡ 0
last-null after x [] h = h.0
last-null after x (r ∷ rs) h = last-null after r rs h.1

-- Words that agree along a list link it alike.
linked-same : (a b : List ℕ) (l : List ℕ) → ((z : ℕ) → Mem z l → at 0 b z ≡ at 0 a z) → Linked a l → Linked b l
linked-same a b [] e h = tt
linked-same a b (r ∷ rs) e h = (e r (here refl) ∙ h.0, linked-same a b rs (λ z m. e z (there m)) h.1)

-- ---- following a list to its end
-- f is a node of a list that ends with `end`, and a the next node.
pub record Following (n m : ℕ) (after : List ℕ) (end f a : ℕ) : Type 0 where
  rest : List ℕ
  ends : last_of f rest ≡ end
  links : Linked after rest
  next : a ≡ head0 rest
  edges : (r : ℕ) → Mem r rest → Edge n m r
  short : length rest ≤ m

module _ {n m x : ℕ} {after : List ℕ} (E : Ends n m x after) where
  ends-chain : chain (suc m) after (at 0 after x) ≡ E.list
  ends-chain = ap (chain (suc m) after) E.linked.0 ∙ chain-of after (suc m) E.list E.linked.1 (λ z k. let e = E.edges z k in omega arith) (omega (arith, E.short))

  -- What the code finds is the end of the list.
  ends_last : last_from m after x ≡ last_of x E.list
  ends_last = ap (last_of x) ends-chain

  pub follow-start : Following n m after (last_from m after x) x (get_or after (x - 1) 0)
  follow-start = record { rest = E.list; ends = sym ends_last; links = E.linked.1; next = sym (read_at after x) ∙ E.linked.0; edges = E.edges; short = E.short }

  module _ {end f a : ℕ} (F : Following n m after end f a) where
    pub follow-end : a ≡ 0 → f ≡ end
    follow-end e = go F.rest F.ends F.next F.edges
      where
        go : (rest : List ℕ) → last_of f rest ≡ end → a ≡ head0 rest → ((r : ℕ) → Mem r rest → Edge n m r) → f ≡ end
        go [] h k p = h
        go (r ∷ rs) h k p = absurd (let z = p r (here refl) in let q : a ≡ r = k in omega arith)

    -- The next edge lies in the area, and the list from there is shorter.
    pub record Step : Type 0 where
      pub edge : Edge n m a
      pub high : a ≤ length after
      pub small : a ≤ 5000
      pub following : Following n m after end a (get_or after (a - 1) 0)
      pub less : edges_left m after (get_or after (a - 1) 0) < edges_left m after a

    pub follow-step : (a ≡ 0 → ⊥) → Step
    follow-step ne = go F.rest F.ends F.links F.next F.edges F.short
      where
        go : (rest : List ℕ) → last_of f rest ≡ end → Linked after rest → a ≡ head0 rest → ((r : ℕ) → Mem r rest → Edge n m r) → length rest ≤ m → Step
        go [] h l k p s = absurd (ne k)
        go (r ∷ rs) h l k p s =
            let edge : Edge n m a = subst (Edge n m) (sym k) (p r (here refl)) in
            let word : get_or after (a - 1) 0 ≡ head0 rs = sym (read_at after a) ∙ ap (at 0 after) k ∙ l.0 in
            let positive : (z : ℕ) → Mem z (r ∷ rs) → 0 < z = λ z q. (let w = p z q in omega arith) in
            record {
              edge = edge;
              high = omega (arith, E.long);
              small = omega (arith, E.few_vertices, E.few_edges);
              following = record { rest = rs; ends = ap (λ (y : ℕ). last_of y rs) k ∙ h; links = l.1; next = word; edges = λ z q. p z (there q); short = omega arith };
              less = subst (λ (y : ℕ). edges_left m after y < edges_left m after a) (ap (at 0 after) (sym k) ∙ read_at after a) (subst (λ (y : ℕ). edges_left m after (at 0 after r) < edges_left m after y) (sym k) (left-falls m after r rs l positive s));
            }

-- ---- the words of a queue
tail-queued : {n y : ℕ} {w : List ℕ} → Labels n (y ∷ w) → Labels n w
tail-queued Q = record { once = Q.once.1; all = λ x k. Q.all x (there k) }

module _ {g : Image} (S : Sound g) where
  own : (x : ℕ) → Vertex g.n x → (z : ℕ) → Mem z (x ∷ edges_of g x) → S.owner z ≡ x
  own x hx = each-cons (λ z. S.owner z ≡ x) x (edges_of g x) (S.own-self x hx) (λ z k. S.own-edge x z hx k)

  node : (x : ℕ) → Vertex g.n x → (z : ℕ) → Mem z (x ∷ edges_of g x) → (0 < z) × (z ≤ g.n + g.m)
  node x hx = each-cons (λ z. (0 < z) × (z ≤ g.n + g.m)) x (edges_of g x) (hx.0, omega (arith, hx.1)) (λ z k. let e = S.edge x z hx k in (omega (arith, e.0), e.1))

  linked-list : (x : ℕ) → Vertex g.n x → Linked g.after (x ∷ edges_of g x)
  linked-list x hx = (S.first x hx, S.linked x hx)

  last-owner : (x : ℕ) → Vertex g.n x → S.owner (last_node g x) ≡ x
  last-owner x hx = own x hx (last_node g x) (last_mem x (edges_of g x))

  last-node : (x : ℕ) → Vertex g.n x → (0 < last_node g x) × (last_node g x ≤ g.n + g.m)
  last-node x hx = node x hx (last_node g x) (last_mem x (edges_of g x))

  last_rest : (x : ℕ) → Vertex g.n x → at 0 g.after (last_node g x) ≡ 0
  last_rest x hx = last-null g.after x (edges_of g x) (linked-list x hx)

  -- Nodes of one list are no last node of another.
  other_last : (x y z : ℕ) → Vertex g.n y → S.owner z ≡ x → x ≢ y → z ≢ last_node g y
  other_last x y z hy o ne e = ne (sym o ∙ ap S.owner e ∙ last-owner y hy)

  threaded-length : (w : List ℕ) → length (threaded g w) ≡ length g.after
  threaded-length [] = refl
  threaded-length (x ∷ []) = refl
  threaded-length (x ∷ y ∷ q) = length-put 0 (threaded g (y ∷ q)) (last_node g x) y ∙ threaded-length (y ∷ q)

  -- A node that is the last of no list but perhaps that of the last in the queue has its word as loaded.
  threaded-other : (w : List ℕ) → Labels g.n w → (z : ℕ) → 0 < z → ((x : ℕ) → Mem x w → z ≢ last_node g x) → at 0 (threaded g w) z ≡ at 0 g.after z
  threaded-other [] Q z p ne = refl
  threaded-other (x ∷ []) Q z p ne = refl
  threaded-other (x ∷ y ∷ q) Q z p ne = at_other 0 (threaded g (y ∷ q)) (last_node g x) z y (last-node x (Q.all x (here refl))).0 p (ne x (here refl)) ∙ threaded-other (y ∷ q) (tail-queued Q) z p (λ u k. ne u (there k))

  -- The list of a vertex that does not wait is as loaded.
  threaded-out : (w : List ℕ) → Labels g.n w → (x z : ℕ) → (Mem x w → ⊥) → 0 < z → S.owner z ≡ x → at 0 (threaded g w) z ≡ at 0 g.after z
  threaded-out w Q x z out p o = threaded-other w Q z p (λ y k. other_last x y z (Q.all y k) o (λ e. out (subst (λ (u : ℕ). Mem u w) (sym e) k)))

  first-apart : (v y : ℕ) (q : List ℕ) → Labels g.n (v ∷ y ∷ q) → (x : ℕ) → Mem x (y ∷ q) → last_node g x ≢ last_node g v
  first-apart v y q Q x k = other_last x v (last_node g x) (Q.all v (here refl)) (last-owner x (Q.all x (there k))) (λ e. Q.once.0 (subst (λ (u : ℕ). Mem u (y ∷ q)) e k))

  -- The list of the last in the queue is as loaded, too.
  threaded-rear : (v : ℕ) (q : List ℕ) → Labels g.n (v ∷ q) → (z : ℕ) → 0 < z → S.owner z ≡ rear v q → at 0 (threaded g (v ∷ q)) z ≡ at 0 g.after z
  threaded-rear v [] Q z p o = refl
  threaded-rear v (y ∷ q) Q z p o =
      at_other 0 (threaded g (y ∷ q)) (last_node g v) z y (last-node v (Q.all v (here refl))).0 p
      (other_last (rear y q) v z (Q.all v (here refl)) o (λ e. Q.once.0 (subst (λ (u : ℕ). Mem u (y ∷ q)) e (last_mem y q))))
      ∙ threaded-rear y q (tail-queued Q) z p o

  -- From the last node of the first the next is reached, from that of the only one null.
  threaded-first : (v : ℕ) (q : List ℕ) → Labels g.n (v ∷ q) → at 0 (threaded g (v ∷ q)) (last_node g v) ≡ head0 q
  threaded-first v [] Q = last_rest v (Q.all v (here refl))
  threaded-first v (y ∷ q) Q =
      let k = last-node v (Q.all v (here refl)) in
      at-put 0 (threaded g (y ∷ q)) (last_node g v) y k.0 (omega (arith, k.1, S.long_after, threaded-length (y ∷ q)))

  -- One more joins.
  threaded-join : (v : ℕ) (q : List ℕ) (x : ℕ) → Labels g.n (v ∷ q) → put 0 (threaded g (v ∷ q)) (last_node g (rear v q)) x ≡ threaded g (v ∷ (q ++ (x ∷ [])))
  threaded-join v [] x Q = refl
  threaded-join v (y ∷ q) x Q =
      put-comm 0 (threaded g (y ∷ q)) (last_node g v) (last_node g (rear y q)) y x
      (last-node v (Q.all v (here refl))).0 (last-node (rear y q) (Q.all (rear y q) (there (last_mem y q)))).0 (λ e. first-apart v y q Q (rear y q) (last_mem y q) (sym e))
      ∙ ap (λ (l : List ℕ). put 0 l (last_node g v) y) (threaded-join y q x (tail-queued Q))

  -- The first leaves.
  threaded-leave : (v : ℕ) (q : List ℕ) → Labels g.n (v ∷ q) → put 0 (threaded g (v ∷ q)) (last_node g v) 0 ≡ threaded g q
  threaded-leave v [] Q = ap (put 0 g.after (last_node g v)) (sym (last_rest v (Q.all v (here refl)))) ∙ put-at 0 g.after (last_node g v)
  threaded-leave v (y ∷ q) Q =
      let hv : Vertex g.n v = Q.all v (here refl) in
      let word : at 0 (threaded g (y ∷ q)) (last_node g v) ≡ 0 = threaded-out (y ∷ q) (tail-queued Q) v (last_node g v) Q.once.0 (last-node v hv).0 (last-owner v hv) ∙ last_rest v hv in
      put-put 0 (threaded g (y ∷ q)) (last_node g v) y 0 ∙ ap (put 0 (threaded g (y ∷ q)) (last_node g v)) (sym word) ∙ put-at 0 (threaded g (y ∷ q)) (last_node g v)

  -- The list of the last in the queue can be followed to its end.
  rear-ends : (v : ℕ) (q : List ℕ) → Labels g.n (v ∷ q) → (x : ℕ) → x ≡ rear v q → Ends g.n g.m x (threaded g (v ∷ q))
  rear-ends v q Q x e =
      let hx : Vertex g.n x = Q.all x (subst (λ (u : ℕ). Mem u (v ∷ q)) (sym e) (last_mem v q)) in
      record {
        few_vertices = S.few_vertices;
        few_edges = S.few_edges;
        long = omega (arith, S.long_after, threaded-length (v ∷ q));
        vertex = hx;
        list = edges_of g x;
        linked = linked-same g.after (threaded g (v ∷ q)) (x ∷ edges_of g x) (λ z k. threaded-rear v q Q z (node x hx z k).0 (own x hx z k ∙ e)) (linked-list x hx);
        edges = λ r k. S.edge x r hx k;
        short = pigeonhole g.n g.m (edges_of g x) (S.once x hx) (λ r k. S.edge x r hx k);
      }

  rear-last : (v : ℕ) (q : List ℕ) → Labels g.n (v ∷ q) → (x : ℕ) → x ≡ rear v q → last_from g.m (threaded g (v ∷ q)) x ≡ last_node g x
  unfolding rear-ends
  rear-last v q Q x e = ends_last (rear-ends v q Q x e)

-- ---- vertices that wait
rear-join : (v : ℕ) (q : List ℕ) (x : ℕ) → rear v (q ++ (x ∷ [])) ≡ x
rear-join v [] x = refl
rear-join v (y ∷ q) x = rear-join y q x

-- A store as the code makes it.
store_word : (l : List ℕ) (u w : ℕ) → set l (u - 1) w ≡ put 0 l u w
unfolding put
store_word l u w = refl

-- ---- scanning v
-- e is v or one of its edges, and `rest` are the edges behind it.
record OnList (g : Image) (v e : ℕ) (rest : List ℕ) : Type 0 where
  ends : last_of e rest ≡ last_node g v
  linked : Linked g.after (e ∷ rest)
  on_list : (z : ℕ) → Mem z (e ∷ rest) → Mem z (v ∷ edges_of g v)
  edges : (r : ℕ) → Mem r rest → Edge g.n g.m r
  once : NoDup (e ∷ rest)

list-start : {g : Image} → Sound g → {v : ℕ} → Vertex g.n v → OnList g v v (edges_of g v)
list-start S {v} hv = record {
  ends = refl;
  linked = linked-list S v hv;
  on_list = λ z k. k;
  edges = λ r k. S.edge v r hv k;
  once = (λ k. (let e = S.edge v v hv k in omega (arith, e.0, hv.1)), S.once v hv);
}

list-next : {g : Image} {v e a : ℕ} {later : List ℕ} → OnList g v e (a ∷ later) → OnList g v a later
list-next L = record { ends = L.ends; linked = L.linked.1; on_list = λ z k. L.on_list z (there k); edges = λ r k. L.edges r (there k); once = L.once.1 }

-- v is being scanned, and e is v or the last edge traversed; `last` is the last node of the last that waits.
pub record Passing (g : Image) (before : List ℕ) (start v : ℕ) (marks₀ events₀ t₀ after marks events t : List ℕ) (last e : ℕ) : Type 0 where
  h : History
  rest : List ℕ
  q : List ℕ
  in-scan : InScan g before start h v rest q marks₀ events₀ marks events t
  links : after ≡ threaded g (v ∷ q)
  end : last ≡ last_node g (rear v q)
  on_list : OnList g v e rest
  more : total t₀ ≤ total t

-- a is the next edge, and x the vertex that it leads to.
pub record Ahead (g : Image) (after marks : List ℕ) (last a x : ℕ) : Type 0 where
  pub edge : Edge g.n g.m a
  pub high : a ≤ length after
  pub last-low : 0 < last
  pub last-high : last ≤ length after
  pub last-small : last ≤ 5000
  pub long_tail : g.m ≤ length g.tail
  pub target : Vertex g.n x
  pub long_marks : g.n + g.m ≤ length marks
  pub few_vertices : g.n ≤ 1000
  pub few_edges : g.m ≤ 4000

-- What a turn leaves.
pub record Turned (g : Image) (before : List ℕ) (start v : ℕ) (marks₀ events₀ t₀ t after marks events t' : List ℕ) (last e : ℕ) : Type 0 where
  pub passing : Passing g before start v marks₀ events₀ t₀ after marks events t' last e
  pub more : total t < total t'
  pub few : total t' ≤ 10000

-- The same by other names.
pub turned_as : {g : Image} {before : List ℕ} {start v : ℕ} {marks₀ events₀ t₀ t after marks events t₂ after' marks' events' t' : List ℕ} {last e last' : ℕ} → Turned g before start v marks₀ events₀ t₀ t after marks events t₂ last e
    → after' ≡ after → marks' ≡ marks → events' ≡ events → t' ≡ t₂ → last' ≡ last
    → Turned g before start v marks₀ events₀ t₀ t after' marks' events' t' last' e
turned_as {t₂ = t₂} {t' = t'} T a b c d f =
    let P = T.passing in
    let same : total t' ≡ total t₂ = ap total d in
    record {
      passing = record {
        h = P.h;
        rest = P.rest;
        q = P.q;
        in-scan = scan-same P.in-scan b c d;
        links = a ∙ P.links;
        end = f ∙ P.end;
        on_list = P.on_list;
        more = omega (arith, P.more, same);
      };
      more = omega (arith, T.more, same);
      few = omega (arith, T.few, same);
    }

-- a stands first of the edges ahead.
record Next (a : ℕ) (rest : List ℕ) : Type 0 where
  later : List ℕ
  is : rest ≡ a ∷ later

next_edge : (n a : ℕ) (rest q : List ℕ) → ((y : ℕ) → Mem y q → Vertex n y) → a ≡ head0 (rest ++ q) → n < a → Next a rest
next_edge n a [] [] p e h = absurd (let z : a ≡ 0 = e in omega arith)
next_edge n a [] (y ∷ q) p e h = absurd (let z : a ≡ y = e in let k = p y (here refl) in omega arith)
next_edge n a (r ∷ rs) q p e h = record { later = rs; is = ap (λ (z : ℕ). z ∷ rs) (sym e) }

module _ {g : Image} {before : List ℕ} {start v f : ℕ} {marks₀ events₀ after₁ marks₁ events₁ t₁ : List ℕ} (F : FoldedAt g before start v f marks₀ events₀ after₁ marks₁ events₁ t₁) where
  scan-queued : Labels g.n (v ∷ F.q)
  scan-queued = waiting-queued F.waiting

  scan-vertex : Vertex g.n v
  scan-vertex = scan-queued.all v (here refl)

  pub scan-first : (0 < v) × ((v ≤ 1000) × (v ≤ length after₁))
  scan-first = (scan-vertex.0, (omega (arith, scan-vertex.1, F.sound.few_vertices), omega (arith, scan-vertex.1, F.sound.long_after, ap length F.links, threaded-length F.sound (v ∷ F.q))))

  pub scan-start : Passing g before start v marks₀ events₀ t₁ after₁ marks₁ events₁ t₁ f v
  scan-start = record {
    h = F.h;
    rest = edges_of g v;
    q = F.q;
    in-scan = record { roomy = F.roomy; scanning = queue-begin (graph_of g) before start (graph-closed g F.sound) F.waiting; held = F.held };
    links = F.links;
    end = F.last;
    on_list = list-start F.sound scan-vertex;
    more = omega arith;
  }

  module _ {after marks events t : List ℕ} {last e : ℕ} (P : Passing g before start v marks₀ events₀ t₁ after marks events t last e) where
    passing-queued : Labels g.n (v ∷ P.q)
    passing-queued = scanning-queued P.in-scan.scanning

    -- The areas keep their lengths.
    pub passing-lengths : (length after ≡ length g.after) × ((length marks ≡ length marks₀) × (length events ≡ length events₀))
    passing-lengths = (ap length P.links ∙ threaded-length F.sound (v ∷ P.q), scan-kept P.in-scan)

    here-node : (0 < e) × (e ≤ g.n + g.m)
    here-node = node F.sound v scan-vertex e (P.on_list.on_list e (here refl))

    -- The code reads the next edge or, past the last, the next that waits.
    passing-read : at 0 after e ≡ head0 (P.rest ++ P.q)
    passing-read = ap (λ (l : List ℕ). at 0 l e) P.links ∙ go P.rest P.on_list.ends P.on_list.linked P.on_list.once
      where
        Q : Labels g.n (v ∷ P.q)
        Q = passing-queued

        go : (rest : List ℕ) → last_of e rest ≡ last_node g v → Linked g.after (e ∷ rest) → NoDup (e ∷ rest) → at 0 (threaded g (v ∷ P.q)) e ≡ head0 (rest ++ P.q)
        go [] h l d = ap (at 0 (threaded g (v ∷ P.q))) h ∙ threaded-first F.sound v P.q Q
        go (r ∷ rs) h l d =
            threaded-other F.sound (v ∷ P.q) Q e here-node.0
            (each-cons (λ x. e ≢ last_node g x) v P.q
            (λ z. d.0 (subst (λ (u : ℕ). Mem u (r ∷ rs)) (h ∙ sym z) (last_mem r rs)))
            (λ x k. other_last F.sound v x e (Q.all x (there k)) (own F.sound v scan-vertex e (P.on_list.on_list e (here refl))) (λ z. Q.once.0 (subst (λ (u : ℕ). Mem u P.q) (sym z) k))))
            ∙ l.0

    -- ---- an edge is ahead
    module _ {a : ℕ} (word : a ≡ get_or after (e - 1) 0) (test : g.n < a) where
      N : Next a P.rest
      N = next_edge g.n a P.rest P.q (λ y k. passing-queued.all y (there k)) (word ∙ sym (read_at after e) ∙ passing-read) test

      I : InScan g before start P.h v (a ∷ N.later) P.q marks₀ events₀ marks events t
      I = subst (λ (l : List ℕ). InScan g before start P.h v l P.q marks₀ events₀ marks events t) N.is P.in-scan

      L : OnList g v e (a ∷ N.later)
      L = subst (OnList g v e) N.is P.on_list

      is-edge : Edge g.n g.m a
      is-edge = L.edges a (here refl)

      abbrev X : ℕ
      X = target g a

      rear-vertex : Vertex g.n (rear v P.q)
      rear-vertex = passing-queued.all (rear v P.q) (last_mem v P.q)

      scan-ahead : Ahead g after marks last a X
      scan-ahead =
          let k = last-node F.sound (rear v P.q) rear-vertex in
          let l = passing-lengths in
          let s = F.sound in
          let end = P.end in
          record {
            edge = is-edge;
            high = omega (arith, is-edge.1, s.long_after, l.0);
            last-low = omega (arith, k.0, end);
            last-high = omega (arith, k.1, end, s.long_after, l.0);
            last-small = omega (arith, k.1, end, s.few_vertices, s.few_edges);
            long_tail = s.long_tail;
            target = leads-vertex I;
            long_marks = omega (arith, F.roomy.long_marks, l.1.0);
            few_vertices = s.few_vertices;
            few_edges = s.few_edges;
          }

      -- The edge is traversed.
      module _ {events₂ t₂ : List ℕ} (one : Emits 7 a v events t events₂ t₂) where
        -- It leads to a labelled vertex.
        pub scan-pass : (get_or marks (X - 1) 0 ≡ 0 → ⊥) → Turned g before start v marks₀ events₀ t₁ t after marks events₂ t₂ last a
        scan-pass ne = record {
          passing = record {
            h = P.h ▸ event traverse a v;
            rest = N.later;
            q = P.q;
            in-scan = edge-pass I one ne;
            links = P.links;
            end = P.end;
            on_list = list-next L;
            more = omega (arith, crossed-total I one, P.more);
          };
          more = omega (arith, crossed-total I one);
          few = omega (arith, scan-few (edge-pass I one ne));
        }

        -- It does not.
        module _ (null : get_or marks (X - 1) 0 ≡ 0) where
          joined-queued : Labels g.n (v ∷ (P.q ++ (X ∷ [])))
          joined-queued = scanning-queued (edge-queue I one null)

          -- The new one waits behind the others.
          joined-links : set after (last - 1) X ≡ threaded g (v ∷ (P.q ++ (X ∷ [])))
          joined-links = store_word after last X ∙ (λ i. put 0 (P.links i) (P.end i) X) ∙ threaded-join F.sound v P.q X passing-queued

          pub scan-ends : Ends g.n g.m X (set after (last - 1) X)
          scan-ends = subst (Ends g.n g.m X) (sym joined-links) (rear-ends F.sound v (P.q ++ (X ∷ [])) joined-queued X (sym (rear-join v P.q X)))

          pub scan-join : {marks₃ events₃ t₃ : List ℕ} {last₃ : ℕ}
              → Puts X marks events₂ t₂ marks₃ events₃ t₃
              → last₃ ≡ last_from g.m (set after (last - 1) X) X
              → Turned g before start v marks₀ events₀ t₁ t (set after (last - 1) X) marks₃ events₃ t₃ last₃ a
          scan-join two l =
              let back : rear v (P.q ++ (X ∷ [])) ≡ X = rear-join v P.q X in
              record {
                passing = record {
                  h = P.h ▸ event traverse a v ▸ event label 0 X;
                  rest = N.later;
                  q = P.q ++ (X ∷ []);
                  in-scan = edge-join I one null two;
                  links = joined-links;
                  end = l ∙ ap (λ (w : List ℕ). last_from g.m w X) joined-links ∙ rear-last F.sound v (P.q ++ (X ∷ [])) joined-queued X (sym back) ∙ ap (last_node g) (sym back);
                  on_list = list-next L;
                  more = omega (arith, edge-total I one null two, P.more);
                };
                more = omega (arith, edge-total I one null two);
                few = omega (arith, scan-few (edge-join I one null two));
              }

    -- ---- no edge is ahead
    module _ {a : ℕ} (word : a ≡ get_or after (e - 1) 0) (test : a ≤ g.n) where
      none_ahead : P.rest ≡ []
      none_ahead = go P.rest (word ∙ sym (read_at after e) ∙ passing-read) P.on_list.edges
        where
          go : (rest : List ℕ) → a ≡ head0 (rest ++ P.q) → ((r : ℕ) → Mem r rest → Edge g.n g.m r) → rest ≡ []
          go [] k p = refl
          go (r ∷ rs) k p = absurd (let z : a ≡ r = k in let w = p r (here refl) in omega arith)

      pub scan-end : {events₂ t₂ : List ℕ} → Emits 6 0 v events t events₂ t₂ → FoldedScanned g before start v marks₀ events₀ after marks events₂ t₁ (record { e = e; f = last; next = a; tally = t₂ })
      scan-end w = record {
        h = P.h ▸ event scan 0 v;
        q = P.q;
        queued = passing-queued;
        waiting = queue-scan (graph_of g) before start (subst (λ (l : List ℕ). Scanning (graph_of g) before start P.h v l P.q) none_ahead P.in-scan.scanning);
        held = over-held P.in-scan w;
        links = P.links;
        end = sym (ap (last_of e) none_ahead) ∙ P.on_list.ends;
        next = word ∙ sym (read_at after e) ∙ passing-read ∙ ap (λ (l : List ℕ). head0 (l ++ P.q)) none_ahead;
        last = P.end;
        more = omega (arith, over-total P.in-scan w, P.more);
      }

-- ---- whatever the areas were as lent
-- What the loop of a scan keeps: a is the word of e, and v is being scanned.
pub record ScanKept (n m v f : ℕ) (after₁ tail marks₁ events₁ t₁ after marks events t : List ℕ) (last e a : ℕ) : Type 0 where
  pub word : a ≡ get_or after (e - 1) 0
  pub within : {before : List ℕ} {start : ℕ} {after₀ marks₀ events₀ : List ℕ} → FoldedAt (image n m after₀ tail) before start v f marks₀ events₀ after₁ marks₁ events₁ t₁
      → Passing (image n m after₀ tail) before start v marks₀ events₀ t₁ after marks events t last e

module _ {n m v f : ℕ} {after₁ tail marks₁ events₁ t₁ after marks events t : List ℕ} {last e a : ℕ}
    (K : SomeFoldedAt n m v f after₁ tail marks₁ events₁ t₁) (I : ScanKept n m v f after₁ tail marks₁ events₁ t₁ after marks events t last e a) where
  pub some-passing : Passing (image n m K.after₀ tail) K.before K.start v K.marks₀ K.events₀ t₁ after marks events t last e
  some-passing = I.within K.is

  pub some-ahead : n < a → Ahead (image n m K.after₀ tail) after marks last a (get_or tail (a - n - 1) 0)
  some-ahead h = scan-ahead K.is some-passing I.word h

-- ---- from scan to scan
-- The vertices w wait: v the first of them, 0 where there is none, and f the last node of the last.
pub record Searching (g : Image) (before : List ℕ) (start : ℕ) (marks₀ events₀ after marks events t : List ℕ) (f v : ℕ) : Type 0 where
  h : History
  w : List ℕ
  waiting : Waiting (graph_of g) before start h w
  held : Held (g.n + g.m) before h marks₀ events₀ marks events t
  links : after ≡ threaded g w
  first : v ≡ head0 w
  last : (y : ℕ) (q : List ℕ) → w ≡ y ∷ q → f ≡ last_node g (rear y q)

-- Where the first that waits leads on.
pub record Leading (g : Image) (after : List ℕ) (e : ℕ) : Type 0 where
  pub low : 0 < e
  pub high : e ≤ length after
  pub small : e ≤ 5000

module _ {g : Image} {before : List ℕ} {start : ℕ} {marks₀ events₀ : List ℕ} (C : CanSearch g before start marks₀ events₀) where
  first-queued : Labels g.n (start ∷ [])
  first-queued = waiting-queued (first-waits g C.sound before start C.start_vertex C.listed)

  pub search-ends : Ends g.n g.m start g.after
  search-ends = rear-ends C.sound start [] first-queued start refl

  -- The start waits.
  pub search-start : {marks events t : List ℕ} {f : ℕ}
      → Starts (g.n + g.m) before start marks₀ events₀ marks events t
      → f ≡ last_from g.m g.after start
      → Searching g before start marks₀ events₀ g.after marks events t f start
  search-start w l = record {
    h = [] ▸ event label 0 start;
    w = start ∷ [];
    waiting = first-waits g C.sound before start C.start_vertex C.listed;
    held = first-held g C.sound before start C.start_vertex C.listed C.roomy w;
    links = refl;
    first = refl;
    last = λ y q e. l ∙ rear-last C.sound start [] first-queued start refl ∙ (let a : start ≡ y = cc in let b : [] ≡ q = cc in λ i. last_node g (rear (a i) (b i)));
  }

  module _ {after marks events t : List ℕ} {f v : ℕ} (Z : Searching g before start marks₀ events₀ after marks events t f v) where
    -- One waits.
    search-next : (v ≡ 0 → ⊥) → FoldedAt g before start v f marks₀ events₀ after marks events t
    search-next ne = go Z.w Z.waiting Z.links Z.first Z.last
      where
        go : (w : List ℕ) → Waiting (graph_of g) before start Z.h w → after ≡ threaded g w → v ≡ head0 w → ((y : ℕ) (q : List ℕ) → w ≡ y ∷ q → f ≡ last_node g (rear y q)) → FoldedAt g before start v f marks₀ events₀ after marks events t
        go [] W l e k = absurd (ne e)
        go (y ∷ q) W l e k = record {
          sound = C.sound;
          start_vertex = C.start_vertex;
          roomy = C.roomy;
          h = Z.h;
          q = q;
          waiting = subst (λ (x : ℕ). Waiting (graph_of g) before start Z.h (x ∷ q)) (sym e) W;
          held = Z.held;
          links = l ∙ ap (λ (x : ℕ). threaded g (x ∷ q)) (sym e);
          last = k y q refl ∙ ap (λ (x : ℕ). last_node g (rear x q)) (sym e);
        }

    pub some_next : (v ≡ 0 → ⊥) → SomeFoldedAt g.n g.m v f after g.tail marks events t
    some_next ne = record { before = before; start = start; after₀ = g.after; marks₀ = marks₀; events₀ = events₀; is = search-next ne }

    -- None waits.
    pub search-end : v ≡ 0 → Ended g before start marks₀ events₀ after marks events t
    search-end e = go Z.w Z.waiting Z.links Z.first
      where
        go : (w : List ℕ) → Waiting (graph_of g) before start Z.h w → after ≡ threaded g w → v ≡ head0 w → Ended g before start marks₀ events₀ after marks events t
        go [] W l k = record { held = subst (λ (h : History). Held (g.n + g.m) before h marks₀ events₀ marks events t) (queue-end (graph_of g) before start W) Z.held; links = l }
        go (y ∷ q) W l k = absurd (let z : v ≡ y = k in let p = (waiting-queued W).all y (here refl) in omega arith)

    -- The first was scanned: the word of its last node, which leads on to the next, is cleared.
    module _ (ne : v ≡ 0 → ⊥) {after' marks' events' : List ℕ} {s : Scanned} (P : Scans g.n g.m v f g.tail after marks events t after' marks' events' s) where
      D : FoldedScanned g before start v marks₀ events₀ after' marks' events' t s
      D = P before start g.after marks₀ events₀ (search-next ne)

      pub search-leading : Leading g after' s.e
      search-leading =
          let k = last-node C.sound v (D.queued.all v (here refl)) in
          let l : length after' ≡ length g.after = ap length D.links ∙ threaded-length C.sound (v ∷ D.q) in
          let e : s.e ≡ last_node g v = D.end in
          record {
            low = omega (arith, k.0);
            high = omega (arith, k.1, C.sound.long_after);
            small = omega (arith, k.1, C.sound.few_vertices, C.sound.few_edges);
          }

      pub search-less : 10000 - total s.tally < 10000 - total t
      search-less = omega (arith, D.more, held-total D.held, waiting-room D.waiting (graph-closed g C.sound), C.roomy.few)

      pub search-more : Searching g before start marks₀ events₀ (set after' (s.e - 1) 0) marks' events' s.tally s.f s.next
      search-more = record {
        h = D.h;
        w = D.q;
        waiting = D.waiting;
        held = D.held;
        links = store_word after' s.e 0 ∙ (λ i. put 0 (D.links i) (D.end i) 0) ∙ threaded-leave C.sound v D.q D.queued;
        first = D.next;
        last = λ y q e. D.last ∙ ap (λ (l : List ℕ). last_node g (rear v l)) e;
      }

-- Of a search underway, v₁ and those behind it wait.
module _ {g : Image} {before : List ℕ} {start v₁ f₁ : ℕ} {marks₀ events₀ after₁ marks₁ events₁ t₁ : List ℕ} (F : FoldedAt g before start v₁ f₁ marks₀ events₀ after₁ marks₁ events₁ t₁) where
  pub search-underway : Searching g before start marks₀ events₀ after₁ marks₁ events₁ t₁ f₁ v₁
  search-underway = record {
    h = F.h;
    w = v₁ ∷ F.q;
    waiting = F.waiting;
    held = F.held;
    links = F.links;
    first = refl;
    last = λ y q e. F.last ∙ (let a : v₁ ≡ y = cc in let b : F.q ≡ q = cc in λ i. last_node g (rear (a i) (b i)));
  }

-- ---- the whole walk
-- It is taken, and can begin.
pub can_begin : (g : Image) (before : List ℕ) (start : ℕ) (marks events : List ℕ) → 0 ≡ walk_number g before start marks events [] → CanSearch g before start marks events
can_begin g before start marks events taken =
    let B = begins g before start marks events [] (sym taken) in
    record { sound = B.sound; start_vertex = B.start_vertex; listed = B.listed; roomy = B.breadth-room }

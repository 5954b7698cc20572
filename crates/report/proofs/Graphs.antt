-- The walk of the image that a text leaves in two areas is that of the graph that the text says; so is what is printed of it.
-- The lists and targets of the two graphs agree, so keeping every edge's number is a renaming of the one to the other.
use Rattle.std.proofs.Common.{◌≡◌, refl, sym, ap, ◌∙◌, subst, Bool, false, cond, not, ◌||◌, List, [], ◌∷◌, ◌++◌, map, reverse, ℕ, zero, suc, ◌+◌, ◌-◌, ◌*◌, ◌≤◌, arith, length, take, drop, length-append, length-drop, take_at, le-ltb}
use lib.ListN.{length-map, length-reverse, get_or-append}
use Rattle.lists.specs.Members.{Mem, here, there}
use Rattle.lists.specs.Counts.{sum_of}
use Rattle.lists.specs.Words.{at, overlay}
use Rattle.lists.proofs.Tests.{zero_test}
use Rattle.lists.proofs.Members.{mem-nil}
use Rattle.graphs.specs.Nodes.{Vertex, Edge}
use Rattle.graphs.specs.Graph.{met}
use Rattle.graphs.specs.Events.{event, History, ◌▸◌, words, labelled, rename, renamed}
use Rattle.graphs.specs.Results.{marks_left, events_left}
use Rattle.graphs.specs.Circles.{circular_of}
use Rattle.graphs.specs.Image.{Image, edges_of, to, graph_of}
use Rattle.graphs.specs.Refusals.{Lent, lent, short}
use Rattle.graphs.specs.Claims.{Ready}
use Rattle.graphs.proofs.Refusals.{taken-sound}
use Rattle.graphs.proofs.Sound.{Profile, profile_sound, graph-closed}
use Rattle.graphs.proofs.Labels.{reached-labels}
use Rattle.graphs.proofs.Depth.{depth-first}
use Rattle.graphs.proofs.Room.{words-length, profile-ready, room}
use Rattle.graphs.proofs.Renamed.{Renaming, depth-renamed}
use Rattle.graphs.proofs.CirclesRenamed.{circular-renamed}
use Rattle.walks.specs.Promises.{depth_walk}
use Rattle.folding.specs.Calls.{open_number}
use Rattle.images.specs.Checking.{image}
use Rattle.texts.specs.Text.{Line, Listing, row}
use Rattle.texts.specs.Loading.{Reading, loaded, reading, after_of, tail_of, image_in, after_left, tail_left}
use Rattle.texts.specs.Answers.{sizes, answer_to}
use Rattle.texts.specs.Claims.{Loads}
use Rattle.texts.proofs.Texts.{as_many}
use Rattle.texts.proofs.Loads.{taken, Fits, loaded-fits, load-claim}
use Rattle.walks.proofs.Numbers.{own-long}
use Rattle.report.specs.declared.walk.Totals.{Totals}
use Rattle.report.specs.Printed.{event_names, total_names, event_rows, printed_of, walk_printed}
use Rattle.report.specs.Inside.{rows, printed_from, totals_in, CanWalk}
use Rattle.report.specs.Report.{graph_from, walk_from, lent_areas, reported, report_of, telling}
use Rattle.report.proofs.Rows.{rows-events}
use Rattle.report.proofs.Judged.{Long, long-areas, reading-long, said-loaded}

-- ---- numbers kept
-- Numbers that are kept give the same list.
map_same : (l : List ℕ) → map (λ r. r) l ≡ l
map_same [] = refl
map_same (x ∷ l) = ap (λ (k : List ℕ). x ∷ k) (map_same l)

-- Events whose references keep their numbers are the same events.
renamed-same : (h : History) → renamed (λ r. r) h ≡ h
renamed-same [] = refl
renamed-same (event k r u ∷ h) = λ i. renamed-same h i ▸ event k (keeps r i) u
  where
    keeps : (r : ℕ) → rename (λ r. r) r ≡ r
    keeps zero = refl
    keeps (suc r) = ap (λ (b : Bool). cond b 0 (suc r)) (zero_test (suc r) (omega arith))

-- Two sums over a list agree where their terms do at each member.
sum-members : (f g : ℕ → ℕ) (l : List ℕ) → ((x : ℕ) → Mem x l → f x ≡ g x) → sum_of f l ≡ sum_of g l
sum-members f g [] h = refl
sum-members f g (x ∷ l) h = λ i. h x (here refl) i + sum-members f g l (λ y m. h y (there m)) i

-- An area does not get shorter by words laid over it.
overlay-longer : (ws area : List ℕ) → length area ≤ length (overlay ws area)
overlay-longer ws area = omega (arith, length-append ws (drop (length ws) area), length-drop (length ws) area)

-- ---- a profile loaded
module _ (text after tail marks events : List ℕ) (p : Listing) (e : reading text after tail ≡ loaded p) (marks-long : 5000 ≤ length marks) (events-long : 54003 ≤ length events) where
  -- The image that it leaves.
  abbrev g : Image
  g = image_in p after tail

  -- What an opening is lent besides the image.
  abbrev areas : List Lent
  areas = lent (p.n + p.m) marks ∷ lent 3 events ∷ []

  -- It is sound, with the lists and targets of its lines.
  L : Loads p after tail
  L = load-claim text after tail p e

  -- It is within the limits, and fits the areas.
  F : Fits p after tail
  F = loaded-fits text after tail p e

  -- Its walk can be opened.
  opens : open_number g [] p.start marks events ≡ 0
  unfolding open_number
  opens =
      let a = le-ltb (length g.after) (p.n + p.m) (omega (arith, F.fits_after, overlay-longer (after_of p) after)) in
      let t = le-ltb (length g.tail) p.m (omega (arith, F.fits-tail, overlay-longer (tail_of p) tail)) in
      let k = le-ltb (length marks) (p.n + p.m) (omega (arith, F.few_vertices, F.few_edges)) in
      let v = le-ltb (length events) 3 (omega arith) in
      (taken-sound g [] p.start areas).1 (L.profile_sound, λ i. a i || (t i || (k i || (v i || false))))

  -- A sound image, and a start in it.
  P : Profile g [] p.start areas
  unfolding open_number
  P = profile_sound g [] p.start areas opens

  -- An edge leads where its line says.
  same_target : (r : ℕ) → Edge p.n p.m r → to g r ≡ at p.n (tail_of p) r
  unfolding at
  same_target r h =
      let many = length-map p.lines (λ (l : Line). l.to) ∙ as_many text p (taken text after tail p e).0 in
      get_or-append (tail_of p) (drop (length (tail_of p)) tail) 0 (r - suc p.n) (let z = h in omega arith)

  -- The graph of the image is the graph that the text says, number by number.
  same_graph : Renaming (graph_of g) (graph_from p) (λ r. r)
  same_graph =
      let S = P.sound in
      record {
        size = refl;
        lists = λ u hu. map_same (edges_of g u) ∙ L.lists u hu;
        positive = λ u r hu m. (let z = S.edge u r hu m in omega arith);
        closed = graph-closed g S;
        targets = λ u r hu m. same_target r (S.edge u r hu m);
      }

  -- A search of that graph may begin.
  pub search-ready : Ready (graph_from p) [] p.start
  search-ready =
      let S = P.sound in
      record {
        closed = λ u r hu m. (let k = subst (Mem r) (sym (L.lists u hu)) m in subst (Vertex p.n) (same_target r (S.edge u r hu k)) (graph-closed g S u r hu k));
        vertices = λ x m. absurd (mem-nil m);
        once = tt;
        start_vertex = P.start_vertex;
        start_fresh = mem-nil;
      }

  -- The events of its walk.
  abbrev h : History
  h = depth_walk g [] p.start

  -- The two walks are one.
  same-walk : h ≡ walk_from p
  same-walk = sym (renamed-same h) ∙ depth-renamed same_graph [] p.start P.start_vertex

  -- The elements that it reaches have the same lists.
  same_met : met (graph_of g) (labelled h) ≡ met (graph_from p) (labelled h)
  same_met =
      let R = profile-ready g P.sound [] p.start P.start_vertex P.listed in
      let N = reached-labels (graph_of g) [] p.start R (labelled h) (depth-first (graph_of g) [] p.start R).complete.labels in
      sum-members (λ u. length (edges_of g u)) (λ u. length ((graph_from p).out u)) (labelled h) (λ u m. ap length (L.lists u (N.all u m)))

  -- So the figure is the same.
  same-circular : circular_of (graph_of g) h ≡ circular_of (graph_from p) h
  same-circular = circular-renamed same_graph [] p.start (profile-ready g P.sound [] p.start P.start_vertex P.listed) ∙ ap (circular_of (graph_from p)) (sym same-walk)

  -- At most 10,000 events.
  few-events : length h ≤ 10000
  unfolding open_number
  few-events = omega (arith, words-length (reverse h), length-reverse h, (room g [] p.start areas opens).0, F.few_vertices, F.few_edges)

  -- What is printed from the event words and the totals is what is printed of the graph's walk.
  same-printed : printed_from (events_left h events) (totals_in g p.start) ≡ walk_printed (graph_from p) p.start
  unfolding walk_printed
  same-printed =
      let many : length (words (reverse h)) ≡ 3 * length h = omega (arith, words-length (reverse h), length-reverse h) in
      let lines : rows (take (3 * length h) (events_left h events)) ≡ event_rows (reverse h) = ap rows (take_at (words (reverse h)) (drop (length (words (reverse h))) events) (3 * length h) many) ∙ rows-events (reverse h) in
      (λ i. event_names ++ (lines i ++ (total_names ++ row (length (labelled h) ∷ (2 * same_met i + length (labelled h)) ∷ same-circular i ∷ []))))
      ∙ ap (printed_of (graph_from p)) same-walk

-- ---- walking it
-- The image that the reader leaves, with the sizes and the start that it answers, is that of a profile loaded.
pub record Read (text after tail : List ℕ) (n m start : ℕ) (after' tail' : List ℕ) : Type 0 where
  pub listing : Listing
  pub is : reading text after tail ≡ loaded listing
  pub same-image : image n m after' tail' ≡ image_in listing after tail
  pub same_start : start ≡ listing.start

-- So it is where the reader answers sizes.
pub read_as : (text after tail : List ℕ) (n m start : ℕ) (after' tail' : List ℕ) → sizes n m start ≡ answer_to (reading text after tail) → after' ≡ after_left (reading text after tail) after → tail' ≡ tail_left (reading text after tail) tail → Read text after tail n m start after' tail'
read_as text after tail n m start after' tail' e a t =
    let s = said-loaded (reading text after tail) n m start e in
    let a' = a ∙ ap (λ (x : Reading). after_left x after) s.is in
    let t' = t ∙ ap (λ (x : Reading). tail_left x tail) s.is in
    record { listing = s.listing; is = s.is; same-image = λ i. image (s.same_n i) (s.same_m i) (a' i) (t' i); same_start = s.same_start }

module _ (text after tail marks events output : List ℕ) {is-long : Bool} (e : is-long ≡ not (short (lent_areas after tail marks events output))) (q : not is-long ≡ false)
    (n m start : ℕ) (after' tail' : List ℕ) (R : Read text after tail n m start after' tail') where
  -- The areas are as long as stated.
  B : Long after tail marks events output
  B = long-areas after tail marks events output (own-long (lent_areas after tail marks events output) e q)

  -- The profile loaded.
  abbrev p : Listing
  p = R.listing

  -- The image in the areas.
  abbrev left : Image
  left = image n m after' tail'

  -- Its walk is that of the graph that the text says.
  walk_is : depth_walk left [] start ≡ walk_from p
  walk_is = (λ z. depth_walk (R.same-image z) [] (R.same_start z)) ∙ same-walk text after tail marks events p R.is B.marks-long B.events-long

  -- It can be walked with the marks and events lent.
  pub can-walk : CanWalk left start marks events
  can-walk = record { opens = (λ z. open_number (R.same-image z) [] (R.same_start z) marks events) ∙ opens text after tail marks events p R.is B.marks-long B.events-long; long = B.events-long }

  module _ (t : Totals) (events' : List ℕ) (is-t : t ≡ totals_in left start) (is-events : events' ≡ events_left (depth_walk left [] start) events) where
    -- What is printed of the walk.
    printed-is : printed_from events' t ≡ walk_printed (graph_from p) p.start
    printed-is =
        (λ z. printed_from (is-events z) (is-t z))
        ∙ (λ z. printed_from (events_left (depth_walk (R.same-image z) [] (R.same_start z)) events) (totals_in (R.same-image z) (R.same_start z)))
        ∙ same-printed text after tail marks events p R.is B.marks-long B.events-long

    -- The events are in their area, and what is printed of them in the output area.
    pub can-print : (3 * t.events ≤ length events') × (18 * t.events + 66 ≤ length output)
    can-print =
        let made : t.events ≡ length (depth_walk (image_in p after tail) [] p.start) = (λ z. (is-t z).events) ∙ (λ z. length (depth_walk (R.same-image z) [] (R.same_start z))) in
        let few = few-events text after tail marks events p R.is B.marks-long B.events-long in
        let l = overlay-longer (words (reverse (depth_walk left [] start))) events in
        (omega (arith, ap length is-events, B.events-long), omega (arith, B.output-long))

    -- What is reported of the walk.
    pub walk-reported : (bytes : ℕ) (after'' tail'' marks' output' : List ℕ) → after'' ≡ after' → tail'' ≡ tail' → marks' ≡ marks_left (n + m) [] (depth_walk left [] start) marks → bytes ≡ length (printed_from events' t) → output' ≡ overlay (printed_from events' t) output
        → telling 0 bytes after'' tail'' marks' events' output' ≡ report_of text after tail marks events output
    unfolding report_of
    walk-reported bytes after'' tail'' marks' output' a l k b o =
        let bytes-is = b ∙ ap length printed-is in
        let output-is = o ∙ ap (λ (ws : List ℕ). overlay ws output) printed-is in
        let after_is = a ∙ (λ z. (R.same-image z).after) in
        let tail-is = l ∙ (λ z. (R.same-image z).tail) in
        let marks-is = k ∙ (λ z. marks_left ((R.same-image z).n + (R.same-image z).m) [] (walk_is z) marks) in
        let events-is = is-events ∙ ap (λ (h : History). events_left h events) walk_is in
        (λ z. record { number = 0; bytes = bytes-is z; output = output-is z; after = after_is z; tail = tail-is z; marks = marks-is z; events = events-is z })
        ∙ ap (λ (x : Reading). reported x after tail marks events output) (sym R.is ∙ reading-long text after tail marks events output (own-long (lent_areas after tail marks events output) e q))

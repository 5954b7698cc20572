-- What is claimed of a profile's text and of loading it, as types; proofs/ has the theorems.
use Rattle.std.specs.Prelude.{◌≡◌, ◌↔◌, true, false, List, [], map, ℕ, suc, ◌+◌, ◌*◌, ◌≤◌, length}
use Rattle.std.proofs.Math.Option.{some}
use Rattle.lists.specs.Words.{values_from}
use Rattle.graphs.specs.Nodes.{Vertex}
use Rattle.graphs.specs.Image.{edges_of, to}
use Rattle.graphs.specs.Refusals.{sound, text_out}
use Rattle.numbers.specs.Padding.{has_padding, unpad}
use Rattle.texts.specs.Text.{Listing, Writable, text_of, listing_of}
use Rattle.texts.specs.Loading.{loaded, reading, edges_from, tail_of, image_in}

-- A text says a profile exactly if it is what is written of that profile, but for padding; what is written has none. Texts that differ in
-- padding only say the same, and none is in form alone. A text has at most 12 bytes for each reference, and 52 more.
pub record TextClaim : Type 0 where
  pub says : (text : List ℕ) (p : Listing) → (listing_of text ≡ some p) ↔ (Writable p × (unpad text ≡ text_of p))
  pub no_padding : (p : Listing) → has_padding (text_of p) ≡ false
  pub alike : (s t : List ℕ) → unpad s ≡ unpad t → listing_of s ≡ listing_of t
  pub longest : (text : List ℕ) (p : Listing) → listing_of text ≡ some p → length text ≤ 12 * p.m + 52

-- Texts that differ in padding only are refused or loaded alike, into any areas, where both are over 65,536 bytes or none is. Where one of them
-- is loaded, none is over.
pub record ReadAlikeClaim : Type 0 where
  pub padding_only : (s t after tail : List ℕ) → text_out (length s) ≡ text_out (length t) → unpad s ≡ unpad t → reading s after tail ≡ reading t after tail
  pub where_loaded : (s t after tail : List ℕ) (p : Listing) → unpad s ≡ unpad t → reading s after tail ≡ loaded p → reading t after tail ≡ loaded p

-- A profile loaded is sound. Each element's list has the edges of its value lines, in line order; the k-th value line is edge n + k,
-- which leads to the line's to.
pub record Loads (p : Listing) (after tail : List ℕ) : Type 0 where
  pub profile_sound : sound (image_in p after tail) [] p.start ≡ true
  pub lists : (u : ℕ) → Vertex p.n u → edges_of (image_in p after tail) u ≡ edges_from u (suc p.n) p.lines
  pub targets : map (to (image_in p after tail)) (values_from (λ r. r) p.n p.m) ≡ tail_of p

abbrev pub LoadClaim : Type 0
LoadClaim = (text after tail : List ℕ) (p : Listing) → reading text after tail ≡ loaded p → Loads p after tail

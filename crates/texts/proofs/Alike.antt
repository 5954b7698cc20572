-- Texts that differ in padding only are refused or loaded alike: a text is read by its length and by what it says.
-- One that is loaded has 4,000 references at most, so no padding makes it too long.
use Rattle.std.proofs.Common.{◌≡◌, sym, ◌∙◌, false, cond, List, ℕ, ◌≤◌, arith, length, le-ltb}
use Rattle.std.proofs.Math.Option.{some}
use Rattle.graphs.specs.Refusals.{text_out}
use Rattle.numbers.specs.Padding.{unpad}
use Rattle.texts.specs.Text.{Listing, listing_of}
use Rattle.texts.specs.Loading.{refused, loaded, judged, reading}
use Rattle.texts.specs.Claims.{ReadAlikeClaim}
use Rattle.texts.proofs.Texts.{text-claim}
use Rattle.texts.proofs.Loads.{taken, loaded-fits}

padding_only : (s t after tail : List ℕ) → text_out (length s) ≡ text_out (length t) → unpad s ≡ unpad t → reading s after tail ≡ reading t after tail
unfolding reading
padding_only s t after tail e h = λ i. cond (e i) (refused 13) (judged (text-claim.alike s t h i) after tail)

-- A text of at most 4,000 references is not over 65,536 bytes.
pub few-short : (text : List ℕ) (p : Listing) → listing_of text ≡ some p → p.m ≤ 4000 → text_out (length text) ≡ false
few-short text p e few = le-ltb 65536 (length text) (omega (arith, text-claim.longest text p e))

-- So two of them that differ in padding only are within it together.
pub same_size : (s t : List ℕ) (p : Listing) → unpad s ≡ unpad t → listing_of s ≡ some p → p.m ≤ 4000 → text_out (length s) ≡ text_out (length t)
same_size s t p h e few = few-short s p e few ∙ sym (few-short t p (sym (text-claim.alike s t h) ∙ e) few)

where_loaded : (s t after tail : List ℕ) (p : Listing) → unpad s ≡ unpad t → reading s after tail ≡ loaded p → reading t after tail ≡ loaded p
where_loaded s t after tail p h e = sym (padding_only s t after tail (same_size s t p h (taken s after tail p e).0 (loaded-fits s after tail p e).few_edges) h) ∙ e

pub read_alike : ReadAlikeClaim
read_alike = record { padding_only = padding_only; where_loaded = where_loaded }

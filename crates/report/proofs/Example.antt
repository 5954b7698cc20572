-- Document 01's printed examples and document 02's shared file: by computation, numbers from the claim of what is written.
use Rattle.std.proofs.Common.{◌≡◌, refl, ap, ◌∙◌, true, List, [], ◌∷◌, ◌++◌, ℕ, ◌+◌, arith, ltb, ltb-true}
use mathlib.Core.Option.{some}
use Rattle.lists.specs.Words.{at}
use Rattle.texts.specs.Text.{listing_of, head_at, lines_at, line_at, field_at}
use Rattle.texts.specs.Loading.{lines_out}
use Rattle.numbers.specs.Decimal.{number_at, written}
use Rattle.numbers.specs.Padding.{unpad}
use Rattle.numbers.proofs.Numbers.{writing-claim}
use Rattle.graphs.specs.Search.{depth_first, search, walk_edges}
use Rattle.report.specs.Printed.{walk_printed, refusal_printed}
use Rattle.report.specs.Report.{graph_from, walk_reading}
use Rattle.report.specs.Example.{example_text, padded_text, example_printed, example, refused_six, ExampleClaim, shared_text, shared_printed, shared, SharedFileClaim}

says : listing_of example_text ≡ some example
unfolding listing_of head_at lines_at line_at field_at number_at
says = refl

padded_says : listing_of padded_text ≡ some example
unfolding listing_of head_at lines_at line_at field_at number_at
padded_says = refl

-- A number below ten is printed as its digit.
digit : (x : ℕ) → ltb x 10 ≡ true → written x ≡ (48 + x) ∷ []
digit x t = writing-claim.one x (ltb-true x 10 t)

eleven : written 11 ≡ 49 ∷ 49 ∷ []
eleven = writing-claim.more 11 (omega arith) ∙ ap (λ (l : List ℕ). l ++ (49 ∷ [])) (digit 1 refl)

one_text : unpad padded_text ≡ example_text
unfolding unpad
one_text = rw (digit 1 refl, digit 2 refl, digit 3 refl, digit 4 refl)

prints : walk_printed (graph_from example) example.start ≡ example_printed
unfolding walk_printed depth_first search walk_edges at
prints = rw (digit 0 refl, digit 1 refl, digit 2 refl, digit 3 refl, digit 4 refl, digit 5 refl, digit 6 refl, digit 7 refl, eleven)

refuses : refusal_printed 6 ≡ refused_six
unfolding refusal_printed
refuses = rw (digit 6 refl)

-- The printed example.
pub printed-example : ExampleClaim
unfolding listing_of head_at lines_at line_at field_at number_at lines_out walk_reading
printed-example = record {
  says = says;
  padded_says = padded_says;
  one_text = one_text;
  prints = prints;
  refuses = refuses;
  in_order = refl;
}

-- ---- the shared file
shared_says : listing_of shared_text ≡ some shared
unfolding listing_of head_at lines_at line_at field_at number_at
shared_says = refl

shared-prints : walk_printed (graph_from shared) shared.start ≡ shared_printed
unfolding walk_printed depth_first search walk_edges at
shared-prints = rw (digit 0 refl, digit 1 refl, digit 2 refl, digit 3 refl, digit 4 refl, digit 5 refl, digit 6 refl, digit 9 refl)

pub shared-file : SharedFileClaim
shared-file = record { says = shared_says; prints = shared-prints }

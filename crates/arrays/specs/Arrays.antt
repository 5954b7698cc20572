-- Converting an image to array form, and asking an array form for the references of one element.
use Rattle.std.specs.Prelude.{List, [], ◌∷◌, ℕ, suc, ◌+◌, ◌-◌, take, drop}
use Rattle.lists.specs.Words.{at}
use Rattle.graphs.specs.Image.{Image}
use Rattle.graphs.specs.ArrayForm.{ArrayForm}
use Rattle.graphs.specs.Refusals.{unless_refused, Lent, lent, image_number, array_number}
use Rattle.arrays.specs.declared.form.ArrayForm as code

-- The areas that the converter writes: n + 1 first positions, m tails, m edge numbers.
abbrev pub converted_areas : Image → List ℕ → List ℕ → List ℕ → List Lent
converted_areas g firsts tails numbers = lent (g.n + 1) firsts ∷ lent g.m tails ∷ lent g.m numbers ∷ []

-- The converter's number.
abbrev pub convert_number : Image → List ℕ → List ℕ → List ℕ → ℕ
convert_number g firsts tails numbers = image_number g (converted_areas g firsts tails numbers)

-- The array form in two areas.
abbrev pub array_in : (n m : ℕ) (firsts tails : List ℕ) → ArrayForm
array_in n m firsts tails = record { n = n; m = m; firsts = firsts; tails = tails }

-- The array form that a call is lent.
abbrev pub form_of : code.ArrayForm → ArrayForm
form_of a = array_in a.n a.m a.firsts.now a.tails.now

-- The part of the tail area from the first position of u up to the next element's.
abbrev pub part_of : ArrayForm → ℕ → List ℕ
part_of a u = take (at 0 a.firsts (suc u) - at 0 a.firsts u) (drop (at 0 a.firsts u - 1) a.tails)

-- What a query gets: that part, or the empty one where it is refused.
unfoldable pub queried : ArrayForm → ℕ → List ℕ
queried a u = unless_refused (array_number a u []) (part_of a u) []

-- The number of each refusal in the table, and of an answer.
use Rattle.std.specs.Prelude.{ℕ, Result, Ok, Err}
use Rattle.refusals.specs.declared.Refusal.{Refusal}
use Rattle.refusals.specs.declared.Refusal.TheVariants.{Vertices, Edges, Area, Vertex, Link, Tail, List, State, Over, Unfinished, Figure, Form, Length, Blanks, BlankStart}

abbrev pub number_of : Refusal → ℕ
number_of Vertices = 1
number_of Edges = 2
number_of Area = 3
number_of Vertex = 4
number_of Link = 5
number_of Tail = 6
number_of List = 7
number_of State = 8
number_of Over = 9
number_of Unfinished = 10
number_of Figure = 11
number_of Form = 12
number_of Length = 13
number_of Blanks = 17
number_of BlankStart = 18

-- 0 where the call is taken.
abbrev pub number_in : {A : Type 0} → Result A Refusal → ℕ
number_in (Ok x) = 0
number_in (Err r) = number_of r

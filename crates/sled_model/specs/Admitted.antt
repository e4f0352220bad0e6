-- Which results of a body the arguments of an application admit, over a list of arguments.
use Rattle.std.specs.Prelude.{ℕ, ◌+◌, Bool, true, ◌&&◌, List, [], ◌∷◌, map, filter, slice_get}
use Rattle.sled_model.specs.declared.constructor.Constructor.{Constructor}
use Rattle.sled_model.specs.declared.raw.RawEntry.{RawEntry}
use Rattle.sled_model.specs.declared.pattern.Argument.{Argument}
use Rattle.sled_model.specs.Results.{Meaning, Known, results_from, choice_match, argument_admits, choice_of}

-- the arguments, the first of which is for operand number j of the constructor, admit what its body bound
abbrev pub list_admits : List Known → Constructor → List RawEntry → ℕ → List Argument → Bool
list_admits known c inner j [] = true
list_admits known c inner j (a ∷ arguments) = argument_admits known (choice_of c inner j) a && list_admits known c inner (j + 1) arguments

-- the results of constructor number k's body that the arguments admit
abbrev pub applied : List Known → ℕ → List Argument → Meaning
applied known k arguments bytes i =
    results_from (slice_get known k) (λ c. map (choice_match k arguments) (filter (λ a. list_admits known c.constructor a.binds 0 arguments) (c.body bytes i)))

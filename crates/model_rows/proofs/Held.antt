-- An operand that is an instance is of that instance alone, and an entry that is a choice of what was taken.
use Rattle.std.proofs.Common.{◌≡◌, List, [], ◌∷◌, ap, sym, ◌∙◌}
use Rattle.sled_model.specs.declared.instance.Instance.{Instance}
use Rattle.sled_model.specs.declared.instance.Operand.{Operand, Row_of-Instance, end_of-Instance, more_of-Instance, items-the_row-Operand, items_hidden-the_row-Operand-0}
use Rattle.sled_model.specs.declared.instance.Operand.TheBlock.{hidden-the_row-Instance-1}
use Rattle.sled_model.specs.declared.instance.Operand.TheVariants.{Sub, Sub'}
use Rattle.sled_model.specs.declared.constructor.ConstructorId.{ConstructorId}
use Rattle.sled_model.specs.declared.pattern.Argument.{Argument}
use Rattle.sled_model.specs.declared.raw.RawEntry.{RawEntry, items-the_row-RawEntry, items_hidden-the_row-RawEntry-0}
use Rattle.sled_model.specs.declared.raw.RawEntry.TheVariants.{Choice, Choice'}
use Rattle.sled_model.specs.declared.pattern.Argument.TheVariants.{Inner, Inner'}
use Rattle.sled_model.specs.declared.pattern.Argument.TheBlock.{hidden-the_row-Pattern-0}
use Rattle.sled_model.specs.declared.pattern.Pattern.{Pattern, Row_of-Pattern, end_of-Pattern, more_of-Pattern, items-the_row-Argument, items_hidden-the_row-Argument-2}
use Rattle.sled_model.specs.declared.pattern.Pattern.TheVariants.{Apply, Apply'}
use denote.Hole.Carrier.{hidden}

held_row : {n : _} → Row_of-Instance n → List Instance
held_row end_of-Instance = []
held_row (more_of-Instance k s operands none) = record { constructor = k; operands = items-the_row-Operand _ operands } ∷ []

held : Operand → List Instance
held (Sub' s i) = held_row i
held _ = []

held_sub : (i : Instance) → held (Sub i) ≡ i ∷ []
unfolding held held_row hidden-the_row-Instance-1 hidden
held_sub i = ap (λ os. record { constructor = i.constructor; operands = os } ∷ []) (items_hidden-the_row-Operand-0 i.operands)

pub sub_same : (i j : Instance) → Sub i ≡ Sub j → i ≡ j
sub_same i j e = let q : (i ∷ []) ≡ (j ∷ []) = sym (held_sub i) ∙ ap held e ∙ held_sub j in cc

-- an entry that is a choice is of its constructor, entries and arguments alone
taken : RawEntry → List (ConstructorId × List RawEntry × List Argument)
taken (Choice' k s inner arguments) = (k, items-the_row-RawEntry _ inner, arguments) ∷ []
taken _ = []

taken_constructor : ConstructorId → List (ConstructorId × List RawEntry × List Argument) → ConstructorId
taken_constructor k [] = k
taken_constructor k (t ∷ ts) = t.0

taken_entries : List (ConstructorId × List RawEntry × List Argument) → List RawEntry
taken_entries [] = []
taken_entries (t ∷ ts) = t.1

taken_arguments : List (ConstructorId × List RawEntry × List Argument) → List Argument
taken_arguments [] = []
taken_arguments (t ∷ ts) = t.2

module _ (k j : ConstructorId) (inner outer : List RawEntry) (arguments others : List Argument) where
  taken_choice : taken (Choice k (record { entries = inner }) arguments) ≡ (k, inner, arguments) ∷ []
  unfolding taken
  taken_choice = ap (λ es. let p : ConstructorId × List RawEntry × List Argument = (k, es, arguments) in p ∷ []) (items_hidden-the_row-RawEntry-0 inner)

  other_choice : taken (Choice j (record { entries = outer }) others) ≡ (j, outer, others) ∷ []
  unfolding taken
  other_choice = ap (λ es. let p : ConstructorId × List RawEntry × List Argument = (j, es, others) in p ∷ []) (items_hidden-the_row-RawEntry-0 outer)

  pub choice_same : Choice k (record { entries = inner }) arguments ≡ Choice j (record { entries = outer }) others → (k ≡ j) × (inner ≡ outer) × (arguments ≡ others)
  unfolding taken_constructor taken_entries taken_arguments
  choice_same e =
      let same : ((k, inner, arguments) ∷ []) ≡ ((j, outer, others) ∷ []) = sym taken_choice ∙ ap taken e ∙ other_choice in
      (ap (taken_constructor k) same, ap taken_entries same, ap taken_arguments same)

-- an argument that is an application is of its arguments alone
given_in : {n : _} → Row_of-Pattern n → List (List Argument)
given_in end_of-Pattern = []
given_in (more_of-Pattern p ps) = given_by p
  where
    given_by : Pattern → List (List Argument)
    given_by (Apply' k s arguments) = items-the_row-Argument _ arguments ∷ []
    given_by _ = []

given : Argument → List (List Argument)
given (Inner' s p) = given_in p
given _ = []

given_inner : (k : ConstructorId) (arguments : List Argument) → given (Inner (Apply k arguments)) ≡ arguments ∷ []
unfolding given given_in hidden-the_row-Pattern-0 hidden
given_inner k arguments = ap (λ as'. as' ∷ []) (items_hidden-the_row-Argument-2 arguments)

pub inner_same : (k j : ConstructorId) (arguments others : List Argument) → Inner (Apply k arguments) ≡ Inner (Apply j others) → arguments ≡ others
inner_same k j arguments others e = let q : (arguments ∷ []) ≡ (others ∷ []) = sym (given_inner k arguments) ∙ ap given e ∙ given_inner j others in cc

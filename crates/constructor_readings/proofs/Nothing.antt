-- Patterns in which no field stands bare and no operand stands, and disjunctions of such patterns.
use Rattle.std.proofs.Common.{◌≡◌, ℕ, List, [], ◌∷◌, ◌++◌, All, refl, sym, ap, ◌∙◌, subst}
use Rattle.std.proofs.lemmas.List.Elements.{All-head, All-tail}
use Rattle.sled_model.specs.declared.pattern.Pattern.{Pattern, Row_of-Pattern, end_of-Pattern, more_of-Pattern, items-the_row-Pattern, items_hidden-the_row-Pattern-1}
use Rattle.sled_model.specs.declared.pattern.Argument.TheBlock.{hidden-the_row-Pattern-0, hidden-the_row-Pattern-1}
use denote.Hole.Carrier.{hidden}
use Rattle.sled_model.specs.declared.pattern.Pattern.TheVariants.{Token, Limit, Bind, Operand, Label', Both', Either', Chain', Loose', Apply', Empty, Label, Both, Either, Chain, Loose}
use Rattle.sled_model.specs.Leaves.{AllLeaves, AllLeavesOfRow, NamesNoConstructor}
use Rattle.sled_model.specs.Results.{operands_in, operands_in_row}
use Rattle.sled_model.specs.SolvingOrder.{bare_fields, row_fields}
use Rattle.match_meaning.specs.Readable.{RowReadsNothing, SidesReadNothing, RowSidesReadNothing}

abbrev pub ReadsNothing : Pattern → Type 0
ReadsNothing p = (bare_fields p ≡ []) × (operands_in p ≡ [])

no_parts : (xs ys : List ℕ) → xs ++ ys ≡ [] → (xs ≡ []) × (ys ≡ [])
no_parts [] ys h = (refl, h)
no_parts (x ∷ xs) ys h = cc

mutual
  -- where nothing is read, no disjunction reads anything
  pub nothing_sides : (p : Pattern) → ReadsNothing p → SidesReadNothing p
  nothing_sides (Label' l s p) h = nothing_row p h
  nothing_sides (Both' s ps) h = nothing_row ps h
  nothing_sides (Either' s ps) h = h
  nothing_sides (Chain' s ps) h = nothing_row ps h
  nothing_sides (Loose' s p) h = nothing_row p h
  nothing_sides _ h = tt

  nothing_row : {n : _} (ps : Row_of-Pattern n) → RowReadsNothing ps → RowSidesReadNothing ps
  nothing_row end_of-Pattern h = tt
  nothing_row (more_of-Pattern p ps) h =
      let fields = no_parts (bare_fields p) (row_fields ps) h.0 in
      let operands = no_parts (operands_in p) (operands_in_row ps) h.1 in
      (nothing_sides p (fields.0, operands.0), nothing_row ps (fields.1, operands.1))

-- ---- patterns seen as lists

row_sides : {n : _} (ps : Row_of-Pattern n) → All SidesReadNothing (items-the_row-Pattern _ ps) → RowSidesReadNothing ps
row_sides end_of-Pattern h = tt
row_sides (more_of-Pattern p ps) h =
    let items = items-the_row-Pattern _ ps in
    (All-head SidesReadNothing p items h, row_sides ps (All-tail SidesReadNothing p items h))

sides_in : (ps : List Pattern) → All SidesReadNothing ps → RowSidesReadNothing (hidden-the_row-Pattern-1 ps)
sides_in ps h = row_sides (hidden-the_row-Pattern-1 ps) (subst (λ xs. All SidesReadNothing xs) (sym (items_hidden-the_row-Pattern-1 ps)) h)

pub sides-Both : (ps : List Pattern) → All SidesReadNothing ps → SidesReadNothing (Both ps)
sides-Both ps h = sides_in ps h

pub sides-Chain : (ps : List Pattern) → All SidesReadNothing ps → SidesReadNothing (Chain ps)
sides-Chain ps h = sides_in ps h

pub sides-Either : (ps : List Pattern) → ReadsNothing (Either ps) → SidesReadNothing (Either ps)
sides-Either ps h = h

pub sides-Label : (l : ℕ) (p : Pattern) → SidesReadNothing p → SidesReadNothing (Label l p)
unfolding hidden-the_row-Pattern-0 hidden
sides-Label l p h = (h, tt)

pub sides-Loose : (p : Pattern) → SidesReadNothing p → SidesReadNothing (Loose p)
unfolding hidden-the_row-Pattern-0 hidden
sides-Loose p h = (h, tt)

-- ---- patterns that name no constructor

mutual
  -- no operand stands in a pattern that names no constructor
  pub plain_operands : (p : Pattern) → AllLeaves NamesNoConstructor p → operands_in p ≡ []
  plain_operands (Label' l s p) h = plain_row p h
  plain_operands (Both' s ps) h = plain_row ps h
  plain_operands (Either' s ps) h = plain_row ps h
  plain_operands (Chain' s ps) h = plain_row ps h
  plain_operands (Loose' s p) h = plain_row p h
  plain_operands (Operand k) h = absurd h
  plain_operands (Apply' k s arguments) h = absurd h
  plain_operands _ h = refl

  plain_row : {n : _} (ps : Row_of-Pattern n) → AllLeavesOfRow NamesNoConstructor ps → operands_in_row ps ≡ []
  plain_row end_of-Pattern h = refl
  plain_row (more_of-Pattern p ps) h = ap (λ ks. ks ++ operands_in_row ps) (plain_operands p h.0) ∙ plain_row ps h.1

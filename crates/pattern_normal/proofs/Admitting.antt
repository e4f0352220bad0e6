-- What arguments admit is no matter of the values that are read.
use Rattle.std.proofs.Common.{◌≡◌, ℕ, ◌+◌, List, [], ◌∷◌, filter, Option, Some, None, slice_get, refl, sym, ap, ◌∙◌}
use Rattle.std.specs.Prelude.{◌&&◌, ◌==◌, position, option_and_then}
use Rattle.std.specs.Option.{option_map}
use Rattle.std.proofs.lemmas.Option.{slice_get-map}
use Rattle.token_bits.specs.declared.tokens.Tokens.{Tokens}
use Rattle.sled_model.specs.declared.constructor.Constructor.{Constructor}
use Rattle.sled_model.specs.declared.raw.RawEntry.{items_hidden-the_row-RawEntry-0}
use Rattle.sled_model.specs.declared.pattern.Argument.{Argument}
use Rattle.sled_model.specs.declared.pattern.Argument.TheVariants.{Any, Name, Inner'}
use Rattle.sled_model.specs.declared.pattern.Pattern.{Pattern, Row_of-Pattern, end_of-Pattern, more_of-Pattern, Row_of-Argument, end_of-Argument, more_of-Argument}
use Rattle.sled_model.specs.declared.pattern.Pattern.TheVariants.{Token, Limit, Bind, Operand, Label', Both', Either', Chain', Loose', Apply', Empty}
use Rattle.sled_model.specs.Results.{Known, operands_in, is_choice, choice_of, argument_admits, box_admits, application_admits, arguments_admit}
use Rattle.sled_model.specs.Admitted.{list_admits}
use Rattle.sled_model.proofs.Filters.{filter-map}
use Rattle.sled_model.proofs.AdmittedLaws as law
use Rattle.pattern_normal.specs.declared.skeleton.Spot.{Spot, Row_of-Spot, items-the_row-Spot}
use Rattle.pattern_normal.specs.declared.skeleton.Spot.TheVariants.{Value, Mark, Choice'}
use Rattle.pattern_normal.specs.Skeletons.{read_spot, read_row, read_entries, is_choice_spot}
use Rattle.pattern_normal.proofs.SkeletonLaws.{read_row-row}

pub ruleset operand_laws = (law.operands_in-Both, law.operands_in-Either, law.operands_in-Chain, law.operands_in-Loose, law.operands_in-Label)

choice_seen : (tokens : Tokens) (w : List ℕ) (s : Spot) → is_choice (read_spot tokens w s) ≡ is_choice_spot s
choice_seen tokens w (Value f at) = refl
choice_seen tokens w (Mark l at) = refl
choice_seen tokens w (Choice' k s inner arguments) = refl

-- the choices that are read are those of the spots
pub choices_read : (tokens : Tokens) (w : List ℕ) (spots : List Spot) (n : ℕ) → slice_get (filter is_choice (read_entries tokens w spots)) n ≡ option_map (read_spot tokens w) (slice_get (filter is_choice_spot spots) n)
choices_read tokens w spots n =
    ap (λ es. slice_get es n) (filter-map is_choice is_choice_spot (read_spot tokens w) (choice_seen tokens w) spots)
    ∙ slice_get-map (read_spot tokens w) (filter is_choice_spot spots) n

-- the choice of the spots for an operand
abbrev pub spot_for : Constructor → List Spot → ℕ → Option Spot
spot_for c spots k = option_and_then (slice_get (filter is_choice_spot spots)) (position (λ j. j == k) (operands_in c.body))

and_then_read : (tokens : Tokens) (w : List ℕ) (spots : List Spot) (o : Option ℕ)
    → option_and_then (slice_get (filter is_choice (read_entries tokens w spots))) o ≡ option_map (read_spot tokens w) (option_and_then (slice_get (filter is_choice_spot spots)) o)
and_then_read tokens w spots None = refl
and_then_read tokens w spots (Some n) = choices_read tokens w spots n

pub choice_read : (tokens : Tokens) (w : List ℕ) (c : Constructor) (spots : List Spot) (k : ℕ) → choice_of c (read_entries tokens w spots) k ≡ option_map (read_spot tokens w) (spot_for c spots k)
choice_read tokens w c spots k = and_then_read tokens w spots (position (λ j. j == k) (operands_in c.body))

entries_read : {n : _} (tokens : Tokens) (w : List ℕ) (inner : Row_of-Spot n) → read_row tokens w inner ≡ read_entries tokens w (items-the_row-Spot _ inner)
entries_read tokens w inner = read_row-row tokens w inner

module _ (tokens : Tokens) (v w : List ℕ) (known : List Known) where
  mutual
    argument_same : (a : Argument) (o : Option Spot) → argument_admits known (option_map (read_spot tokens v) o) a ≡ argument_admits known (option_map (read_spot tokens w) o) a
    argument_same Any o = refl
    argument_same (Name n) o = refl
    argument_same (Inner' s p) o = box_same p o

    box_same : {n : _} (p : Row_of-Pattern n) (o : Option Spot) → box_admits known (option_map (read_spot tokens v) o) p ≡ box_admits known (option_map (read_spot tokens w) o) p
    box_same end_of-Pattern o = refl
    box_same (more_of-Pattern p ps) o = application_same p o

    application_same : (p : Pattern) (o : Option Spot) → application_admits known (option_map (read_spot tokens v) o) p ≡ application_admits known (option_map (read_spot tokens w) o) p
    application_same (Apply' k t arguments) (Some (Choice' j s inner taken)) =
        let c = slice_get known k.0 in let spots = items-the_row-Spot _ inner in
        ap (λ b. (j.0 == k.0) && b)
        (ap (λ es. arguments_admit known c es 0 arguments) (items_hidden-the_row-RawEntry-0 (read_row tokens v inner) ∙ entries_read tokens v inner)
        ∙ arguments_same arguments c spots 0
        ∙ sym (ap (λ es. arguments_admit known c es 0 arguments) (items_hidden-the_row-RawEntry-0 (read_row tokens w inner) ∙ entries_read tokens w inner)))
    application_same p (Some (Value f at)) = refl
    application_same p (Some (Mark l at)) = refl
    application_same p None = refl
    application_same (Token c) (Some (Choice' j s inner taken)) = refl
    application_same (Limit f relation limit) (Some (Choice' j s inner taken)) = refl
    application_same (Bind f) (Some (Choice' j s inner taken)) = refl
    application_same (Operand k) (Some (Choice' j s inner taken)) = refl
    application_same (Label' l t p) (Some (Choice' j s inner taken)) = refl
    application_same (Both' t ps) (Some (Choice' j s inner taken)) = refl
    application_same (Either' t ps) (Some (Choice' j s inner taken)) = refl
    application_same (Chain' t ps) (Some (Choice' j s inner taken)) = refl
    application_same (Loose' t p) (Some (Choice' j s inner taken)) = refl
    application_same Empty (Some (Choice' j s inner taken)) = refl

    arguments_same : {n : _} (arguments : Row_of-Argument n) (c : Option Known) (spots : List Spot) (j : ℕ)
        → arguments_admit known c (read_entries tokens v spots) j arguments ≡ arguments_admit known c (read_entries tokens w spots) j arguments
    arguments_same end_of-Argument (Some c) spots j = refl
    arguments_same end_of-Argument None spots j = refl
    arguments_same (more_of-Argument a arguments) None spots j = refl
    arguments_same (more_of-Argument a arguments) (Some c) spots j =
        let here = ap (λ o. argument_admits known o a) (choice_read tokens v c.constructor spots j) ∙ argument_same a (spot_for c.constructor spots j)
        ∙ sym (ap (λ o. argument_admits known o a) (choice_read tokens w c.constructor spots j)) in
        ap (λ b. b && arguments_admit known (Some c) (read_entries tokens v spots) (j + 1) arguments) here
        ∙ ap (λ b. argument_admits known (choice_of c.constructor (read_entries tokens w spots) j) a && b) (arguments_same arguments (Some c) spots (j + 1))

  pub list_same : (c : Constructor) (spots : List Spot) (j : ℕ) (arguments : List Argument) → list_admits known c (read_entries tokens v spots) j arguments ≡ list_admits known c (read_entries tokens w spots) j arguments
  list_same c spots j [] = refl
  list_same c spots j (a ∷ arguments) =
      let here = ap (λ o. argument_admits known o a) (choice_read tokens v c spots j) ∙ argument_same a (spot_for c spots j)
      ∙ sym (ap (λ o. argument_admits known o a) (choice_read tokens w c spots j)) in
      ap (λ b. b && list_admits known c (read_entries tokens v spots) (j + 1) arguments) here
      ∙ ap (λ b. argument_admits known (choice_of c (read_entries tokens w spots) j) a && b) (list_same c spots (j + 1) arguments)

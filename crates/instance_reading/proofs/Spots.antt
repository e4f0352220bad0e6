-- What spots hold is what they are read as.
use Rattle.std.proofs.Common.{ℕ, ◌≡◌, ◌==◌, ◌<◌, cond, List, [], ◌∷◌, ◌++◌, length, map, take, get_or, filter, slice_get, Option, Some, None, option_and_then, ℤ, pos, ◌+◌, refl, sym, ap, ◌∙◌}
use Rattle.std.specs.List.{filter_map, cons_option}
use Rattle.std.specs.Option.{option_map}
use Rattle.std.proofs.lemmas.List.{take_more}
use Rattle.std.proofs.lemmas.Option.{slice_get-map}
use Rattle.token_bits.specs.declared.tokens.Tokens.{Tokens}
use Rattle.sled_model.specs.declared.raw.RawEntry.{RawEntry}
use Rattle.sled_model.specs.Instances.{label_read, first_or_zero}
use Rattle.sled_model.specs.Results.{is_choice}
use Rattle.pattern_normal.specs.declared.skeleton.Spot.{Spot}
use Rattle.pattern_normal.specs.declared.skeleton.Spot.TheVariants.{Value, Mark, Choice'}
use Rattle.pattern_normal.specs.Skeletons.{read_spot, read_entries, is_choice_spot}
use Rattle.instance_reading.specs.Entries.{value_read, values_read, spot_label, AreAddresses, AreSpotAddresses, place_among, chosen_by, chosen_spot}

module _ (tokens : Tokens) (window : List ℕ) where
  abbrev read : Spot → RawEntry
  read spot = read_spot tokens window spot

  -- one value more
  pub values_more : (spots : List Spot) (i : ℕ) (spot : Spot) → i < length spots → spot ≡ get_or spots i spot
      → values_read (read_entries tokens window (take (i + 1) spots)) ≡ values_read (read_entries tokens window (take i spots)) ++ values_read (read spot ∷ [])
  values_more spots i spot l e =
      ap (λ x. values_read (map read x)) (take_more spots i spot l ∙ ap (λ x. take i spots ++ x ∷ []) (sym e)) ∙ appended (take i spots)
    where
      appended : (front : List Spot) → values_read (map read (front ++ spot ∷ [])) ≡ values_read (map read front) ++ values_read (read spot ∷ [])
      appended [] = refl
      appended (x ∷ xs) = by_value _ _ _ (value_read (read x)) (appended xs)
        where
          by_value : (ys zs ws : List ℤ) (o : Option ℤ) → ys ≡ zs ++ ws → cons_option o ys ≡ cons_option o zs ++ ws
          by_value ys zs ws None h = h
          by_value ys zs ws (Some v) h = ap (λ ys. v ∷ ys) h

  labels_read : (l : ℕ) (spots : List Spot) → filter_map (label_read l) (read_entries tokens window spots) ≡ filter_map (spot_label l) spots
  labels_read l [] = refl
  labels_read l (Value f at ∷ spots) = labels_read l spots
  labels_read l (Mark m at ∷ spots) = ap (cons_option (cond (m == l) (Some at) None)) (labels_read l spots)
  labels_read l (Choice' k s inner arguments ∷ spots) = labels_read l spots

  pub addresses_read : (location n : ℕ) (spots : List Spot) (addresses : List ℤ) → AreSpotAddresses location spots n addresses → AreAddresses location (read_entries tokens window spots) n addresses
  addresses_read location n spots addresses h = record {
    one_each = h.one_each;
    each = λ l within. h.each l within ∙ ap (λ ls. pos (location + first_or_zero ls)) (sym (labels_read l spots));
  }

  choices : (spots : List Spot) → filter is_choice (map read spots) ≡ map read (filter is_choice_spot spots)
  choices [] = refl
  choices (Value f at ∷ spots) = choices spots
  choices (Mark l at ∷ spots) = choices spots
  choices (Choice' k s inner arguments ∷ spots) = ap (λ es. read (Choice' k s inner arguments) ∷ es) (choices spots)

  pub chosen_read : (standing : List ℕ) (spots : List Spot) (operand : ℕ) → chosen_by standing (read_entries tokens window spots) operand ≡ option_map read (chosen_spot standing spots operand)
  chosen_read standing spots operand = by_place (place_among standing operand)
    where
      by_place : (o : Option ℕ) → option_and_then (slice_get (filter is_choice (map read spots))) o ≡ option_map read (option_and_then (slice_get (filter is_choice_spot spots)) o)
      by_place None = refl
      by_place (Some k) = ap (λ es. slice_get es k) (choices spots) ∙ slice_get-map read (filter is_choice_spot spots) k

-- What is read of a choice, seen as a list.
use Rattle.std.proofs.Common.{◌≡◌, ℕ, List, ◌∷◌, map, refl, ap, ◌∙◌}
use Rattle.token_bits.specs.declared.tokens.Tokens.{Tokens}
use Rattle.sled_model.specs.declared.constructor.ConstructorId.{ConstructorId}
use Rattle.sled_model.specs.declared.pattern.Argument.{Argument}
use Rattle.sled_model.specs.declared.raw.RawEntry.TheVariants as raw
use Rattle.pattern_normal.specs.declared.skeleton.Spot.{Spot, Row_of-Spot, end_of-Spot, more_of-Spot, items-the_row-Spot, items_hidden-the_row-Spot-0}
use Rattle.pattern_normal.specs.declared.skeleton.Spot.TheBlock.{hidden-the_row-Spot-0}
use Rattle.pattern_normal.specs.declared.skeleton.Spot.TheVariants.{Choice}
use Rattle.pattern_normal.specs.Skeletons.{read_spot, read_row, read_entries}

module _ (tokens : Tokens) (window : List ℕ) where
  pub read_row-row : {n : _} (spots : Row_of-Spot n) → read_row tokens window spots ≡ map (read_spot tokens window) (items-the_row-Spot _ spots)
  read_row-row end_of-Spot = refl
  read_row-row (more_of-Spot spot spots) = ap (λ es. read_spot tokens window spot ∷ es) (read_row-row spots)

  pub read_choice : (k : ConstructorId) (spots : List Spot) (arguments : List Argument)
      → read_spot tokens window (Choice k (record { entries = spots }) arguments) ≡ raw.Choice k (record { entries = read_entries tokens window spots }) arguments
  read_choice k spots arguments =
      ap (λ es. raw.Choice k (record { entries = es }) arguments) (read_row-row (hidden-the_row-Spot-0 spots) ∙ ap (map (read_spot tokens window)) (items_hidden-the_row-Spot-0 spots))

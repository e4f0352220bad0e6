-- What a constructor's declaration does not meet, stage by stage.
use Rattle.std.proofs.Common.{◌≡◌, ℕ, Some, None, refl, sym, subst}
use Rattle.std.specs.Prelude.{Option}
use Rattle.constructor_meaning.specs.Conditions.{conditions}
use Rattle.constructor_meaning.specs.Constructing.{Constructing}
use Rattle.constructor_meaning.specs.Unmet.{first_unmet}
use Rattle.sled_elab.specs.Conditions.{IsUnmetMade, IsUnmetBehind, IsUnmetOf}
use Rattle.sled_elab.specs.Declarations.{Described}

module _ (d : Described) (c : Constructing) where
  -- a condition that is asked before the equations are solved
  pub unmet_first : (n : ℕ) → first_unmet (conditions d.spec d.declared c) ≡ Some n → IsUnmetOf d c (Some n)
  unmet_first n is = subst (λ o. IsUnmetBehind d c o (Some n)) (sym is) refl

  -- or, where those are met, what is said of the constructors that are made, in the description that was kept
  pub unmet_later : (kept : Described) (unmet : Option ℕ) → kept ≡ d → first_unmet (conditions d.spec d.declared c) ≡ None → IsUnmetMade kept c unmet → IsUnmetOf d c unmet
  unmet_later kept unmet same met h = subst (λ o. IsUnmetBehind d c o unmet) (sym met) (subst (λ e. IsUnmetMade e c unmet) same h)

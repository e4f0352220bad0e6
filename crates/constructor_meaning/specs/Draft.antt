-- What is known of a declaration before its equations are solved.
use Rattle.sled_model.specs.declared.spec.Spec.{Spec}
use Rattle.tree_meaning.specs.Scopes.{Declared}
use Rattle.constructor_meaning.specs.declared.draft.Draft.{Draft}
use Rattle.constructor_meaning.specs.Constructing.{Constructing}
use Rattle.constructor_meaning.specs.Measured.{EachMeasured}
use Rattle.constructor_meaning.specs.Read.{IsReadingOf}

-- it was read, and these are the measures of its bodies
pub record IsDraftOf (spec : Spec) (declared : Declared) (c : Constructing) (draft : Draft) : Type 0 where
  pub reading : IsReadingOf declared c draft.reading
  pub measures : EachMeasured spec draft.reading.kinds draft.reading.body.bodies draft.measures.items

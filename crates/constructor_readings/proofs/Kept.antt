-- A description keeps its readings where classes and fields are added.
use Rattle.std.proofs.Common.{◌≡◌, ℕ, List, [], ◌∷◌, ◌++◌, length, All, sym, subst, arith}
use Rattle.std.proofs.lemmas.List.Elements.{All-nil}
use Rattle.token_bits.specs.declared.tokens.Tokens.{Tokens}
use Rattle.sled_model.specs.declared.spec.Spec.{Spec}
use Rattle.sled_model.specs.Specs.{IsSpec}
use Rattle.sled_model.specs.Results.{known_from}
use Rattle.sled_model.proofs.LeafLemmas.{Grows}
use Rattle.sled_model.proofs.ShapeKnown.{BodiesAgree}
use Rattle.match_meaning.specs.Readable.{IsReadable, IsReadableSpec, HasShortBody}
use Rattle.constructor_readings.specs.Accepted.{HasReadings}
use Rattle.constructor_readings.proofs.Grown.{known_grown, bodies_grown}
use Rattle.constructor_readings.proofs.SolvedGrown.{all_readable}

-- the description with other tokens, of which its own are the first
pub tokens_kept : (spec : Spec) → IsSpec spec → (tokens : Tokens) (class_names field_names : List (List ℕ)) → Grows spec.tokens tokens (length spec.type_names) (length spec.type_names)
    → HasReadings spec → HasReadings (record spec { tokens = tokens; class_names = class_names; field_names = field_names })
tokens_kept spec sound tokens class_names field_names grows h =
    let n = length spec.type_names in record {
      constructors = all_readable spec.tokens tokens n grows spec.constructors h.constructors;
      agree = bodies_grown spec.tokens tokens n grows sound.tokens [] spec.constructors sound.constructors h.agree;
      short = subst (λ known. All HasShortBody known) (sym (known_grown spec.tokens tokens n grows sound.tokens [] spec.constructors sound.constructors)) h.short;
    }

-- a description without constructors has readings
pub no_constructors : (spec : Spec) → spec.constructors ≡ [] → HasReadings spec
no_constructors spec none = record {
  constructors = subst (λ cs. All (IsReadable spec.tokens) cs) (sym none) (All-nil (IsReadable spec.tokens));
  agree = subst (λ cs. BodiesAgree spec.tokens [] cs) (sym none) tt;
  short = subst (λ cs. All HasShortBody (known_from spec.tokens [] cs)) (sym none) (All-nil HasShortBody);
}

-- each result of a constructor's body in a description with readings means one instance
pub readable_of : (spec : Spec) → IsSpec spec → HasReadings spec → IsReadableSpec spec
readable_of spec sound h = record { is_spec = sound; constructors = h.constructors; short = h.short }

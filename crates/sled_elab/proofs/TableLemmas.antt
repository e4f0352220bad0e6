-- What stays true of a description, and of its table of types, where a class is added.
use Rattle.std.proofs.Common.{◌≡◌, ℕ, List, [], ◌∷◌, ◌++◌, length, map, sym, subst, ◌∙◌, append-nil, append_assoc, arith}
use Rattle.std.specs.Prelude.{Bool, fold, Result, Ok, Err, IfOk}
use Rattle.std.proofs.lemmas.List.{length-append}
use Rattle.sled_parser.specs.declared.tree.FieldTree.{FieldTree}
use Rattle.token_bits.specs.declared.tokens.Tokens.{Tokens}
use Rattle.sled_model.specs.declared.spec.Spec.{Spec}
use Rattle.sled_model.specs.Specs.{IsSpec}
use Rattle.sled_model.proofs.LeafLemmas.{Grows, slice_get-front}
use Rattle.type_tables.specs.declared.table.TypeTable.{TypeTable}
use Rattle.type_tables.specs.Tables.{IsTableOf}
use Rattle.type_tables.proofs.Growth.{tokens_added}
use Rattle.sled_elab.specs.Declarations.{Described, class_of, field_of, field_name, with_class_alone, with_field, with_class}

-- the description with more fields of class number c
abbrev pub with_fields : ℕ → Spec → List FieldTree → Spec
with_fields c spec fs = record spec {
  tokens = record spec.tokens { fields = spec.tokens.fields ++ map (field_of c) fs };
  field_names = spec.field_names ++ map field_name fs;
}

pub spec_with_fields : (c : ℕ) (d : Described) (fs : List FieldTree) → (fold (with_field c) d fs).spec ≡ with_fields c d.spec fs
spec_with_fields c d [] = λ i. record d.spec {
  tokens = record d.spec.tokens { fields = sym (append-nil d.spec.tokens.fields) i };
  field_names = sym (append-nil d.spec.field_names) i;
}
spec_with_fields c d (f ∷ fs) =
    spec_with_fields c (with_field c d f) fs
    ∙ (λ i. record d.spec {
      tokens = record d.spec.tokens { fields = append_assoc d.spec.tokens.fields (field_of c f ∷ []) (map (field_of c) fs) i };
      field_names = append_assoc d.spec.field_names (f.name ∷ []) (map field_name fs) i;
    })

module _ (d : Described) (width : List ℕ) (little : Bool) (fields : List FieldTree) where
  -- the classes and fields with these
  abbrev pub class_tokens : Tokens
  class_tokens = record {
    classes = d.spec.tokens.classes ++ class_of width little ∷ [];
    fields = d.spec.tokens.fields ++ map (field_of (length d.spec.tokens.classes)) fields;
  }

  pub class_grows : Grows d.spec.tokens class_tokens (length d.spec.type_names) (length d.spec.type_names)
  class_grows = record {
    classes = λ k less. slice_get-front d.spec.tokens.classes (class_of width little ∷ []) k less;
    fields = λ k less. slice_get-front d.spec.tokens.fields (map (field_of (length d.spec.tokens.classes)) fields) k less;
    more = let longer = length-append d.spec.tokens.fields (map (field_of (length d.spec.tokens.classes)) fields) in omega arith;
    types = omega arith;
  }

module _ (d : Described) (sound : IsSpec d.spec) (name width : List ℕ) (little : Bool) (fields : List FieldTree) (table : TypeTable) where
  pub class_table : IsTableOf d.spec table → IsTableOf (with_class d name width little fields).spec table
  class_table h =
      subst (λ spec. IsTableOf spec table) (sym (spec_with_fields (length d.spec.tokens.classes) (with_class_alone d name width little) fields))
      (tokens_added d.spec sound (class_tokens d width little fields) (d.spec.class_names ++ name ∷ []) (d.spec.field_names ++ map field_name fields)
      (class_grows d width little fields) table h)

-- the same description has the same table
pub same_table : (spec other : Spec) (table : TypeTable) → other ≡ spec → IsTableOf spec table → IsTableOf other table
same_table spec other table same h = subst (λ s. IsTableOf s table) (sym same) h

pub if_ok_weaker : {A E : Type 0} (r : Result A E) (P Q : A → Type 0) → ((a : A) → P a → Q a) → IfOk r P → IfOk r Q
if_ok_weaker (Ok a) P Q weaker h = weaker a h
if_ok_weaker (Err e) P Q weaker h = tt

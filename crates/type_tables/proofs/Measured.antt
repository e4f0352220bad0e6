-- The measures of a constructor, from those of its operands' types.
use Rattle.std.proofs.Common.{◌≡◌, ⊎_elim, ℕ, ◌+◌, List, [], length, map, get_or, sum_by, slice_get, Option, Some, None, Result, Ok, Err, IfOk, refl, sym, ap, ◌∙◌, subst, arith}
use Rattle.std.specs.Option.{option_map_or}
use Rattle.std.proofs.lemmas.Bool.{cases_lt}
use Rattle.token_bits.specs.declared.tokens.Tokens.{Tokens}
use Rattle.sled_model.specs.declared.constructor.TypeId.{TypeId}
use Rattle.sled_model.specs.declared.constructor.OperandKind.{OperandKind}
use Rattle.sled_model.specs.declared.constructor.OperandKind.TheVariants.{Plain, Extended, Typed, Whole, Sliced}
use Rattle.sled_model.specs.declared.constructor.Constructor.{Constructor}
use Rattle.sled_model.specs.declared.pattern.Pattern.{Pattern}
use Rattle.sled_model.specs.declared.spec.Spec.{Spec}
use Rattle.sled_model.specs.Leaves.{IsNoApplication, AllLeaves}
use Rattle.sled_model.specs.Measures.{Weighed, Sized, capped, each_from, weighed, weight, kind_weight, operand_weight, sized, size, kind_size, operand_size, number_size, constructor_weight, constructor_size}
use Rattle.sled_model.specs.Shapes.{type_shapes, kind_shapes, operand_shapes, body_shapes, known_shapes}
use Rattle.sled_model.specs.Specs.{IsSpec}
use Rattle.sled_model.proofs.MeasureLaws.{weight_unapplied, size_unapplied, weight_same_capped, size_same_capped}
use Rattle.sled_model.proofs.ShapeContexts.{operands_form}
use Rattle.pattern_shapes.specs.declared.form.Form.{Form}
use Rattle.pattern_shapes.specs.Forms.{SameMembers, operand_context, IsFormOf}
use Rattle.pattern_shapes.proofs.Joined.{same_self}
use Rattle.pattern_shapes.proofs.FormLemmas.{form_elsewhere}
use Rattle.sled_base.specs.declared.faults.NoMemory.{NoMemory}
use Rattle.type_tables.specs.declared.measures.Measures.{Measures}
use Rattle.type_tables.specs.declared.types.TypeEntry.{TypeEntry}
use Rattle.type_tables.specs.declared.table.TypeTable.{TypeTable}
use Rattle.type_tables.specs.Types.{weight_in, size_in, shapes_in}
use Rattle.type_tables.specs.Tables.{IsEntryOf, IsTableOf, body_weight, body_size, AreMeasures, AreMeasuresOf}
use Rattle.type_tables.proofs.Lists.{mapped_at, found_below}
use Rattle.type_tables.proofs.Added.{empty_entry, no_entry}

-- a measure of what is found
field_of : {A : Type 0} (f : TypeEntry → A) (o : Option TypeEntry) → option_map_or f o (f no_entry) ≡ f (option_map_or (λ (entry : TypeEntry). entry) o no_entry)
field_of f None = refl
field_of f (Some entry) = refl

more_capped : (a m n : ℕ) → capped m ≡ capped n → capped (a + m) ≡ capped (a + n)
more_capped a m n e = omega (arith, e)

capped_twice : (n : ℕ) → capped (capped n) ≡ capped n
capped_twice n = omega arith

module _ (spec : Spec) (sound : IsSpec spec) (table : TypeTable) (h : IsTableOf spec table) where
  abbrev types : List TypeEntry
  types = table.types.items

  abbrev weights : List Weighed
  weights = each_from (weighed spec.tokens) [] spec.constructors

  abbrev sizes : List Sized
  sizes = each_from sized [] spec.constructors

  -- what is found of a type in the table is so, and nothing is found where it is no type of the description
  found_of : (t : TypeId) (o : Option TypeEntry) → slice_get types t.0 ≡ o → IsEntryOf spec t (option_map_or (λ entry. entry) o no_entry)
  found_of t (Some entry) e = h.entries t entry e
  found_of t None e = ⊎_elim
      (λ less. absurd (let found = found_below types t.0 less in cc (e, found.1)))
      (λ past. empty_entry spec sound t (let same = h.count in omega arith))
      (cases_lt t.0 (length types))

  abbrev entry_of : TypeId → TypeEntry
  entry_of t = option_map_or (λ entry. entry) (slice_get types t.0) no_entry

  entry_is : (t : TypeId) → IsEntryOf spec t (entry_of t)
  entry_is t = found_of t (slice_get types t.0) refl

  kind_weighs : (kind : OperandKind) → weight_in types kind ≡ capped (kind_weight weights kind)
  kind_weighs (Typed t) = field_of (λ (entry : TypeEntry). entry.weight) (slice_get types t.0) ∙ (entry_is t).weight
  kind_weighs (Plain f) = refl
  kind_weighs (Extended f) = refl
  kind_weighs Whole = refl
  kind_weighs Sliced = refl

  kind_sizes : (kind : OperandKind) → size_in types kind ≡ capped (kind_size sizes kind)
  kind_sizes (Typed t) = field_of (λ (entry : TypeEntry). entry.size) (slice_get types t.0) ∙ (entry_is t).size
  kind_sizes (Plain f) = refl
  kind_sizes (Extended f) = refl
  kind_sizes Whole = refl
  kind_sizes Sliced = refl

  kind_has_shapes : (kind : OperandKind) → SameMembers (shapes_in types kind) (kind_shapes (known_shapes spec) kind)
  kind_has_shapes (Typed t) =
      subst (λ ss. SameMembers ss (type_shapes (known_shapes spec) t)) (sym (field_of (λ (entry : TypeEntry). entry.shapes) (slice_get types t.0))) (entry_is t).shapes
  kind_has_shapes (Plain f) = same_self []
  kind_has_shapes (Extended f) = same_self []
  kind_has_shapes Whole = same_self []
  kind_has_shapes Sliced = same_self []

  module _ (kinds : List OperandKind) where
    operand_weighs : (o : Option OperandKind) → option_map_or (weight_in types) o 0 ≡ capped (option_map_or (kind_weight weights) o 0)
    operand_weighs None = refl
    operand_weighs (Some kind) = kind_weighs kind

    operand_sizes : (o : Option OperandKind) → option_map_or (size_in types) o 0 ≡ capped (option_map_or (kind_size sizes) o 0)
    operand_sizes None = refl
    operand_sizes (Some kind) = kind_sizes kind

    operand_has_shapes : (o : Option OperandKind) → SameMembers (option_map_or (shapes_in types) o []) (option_map_or (kind_shapes (known_shapes spec)) o [])
    operand_has_shapes None = same_self []
    operand_has_shapes (Some kind) = kind_has_shapes kind

    module _ (body : Pattern) (plain : AllLeaves IsNoApplication body) where
      pub weight_measured : capped (weight spec.tokens [] (λ k. get_or (map (weight_in types) kinds) k 0) body) ≡ capped (body_weight spec kinds body)
      weight_measured =
          let given : ℕ → ℕ = λ k. get_or (map (weight_in types) kinds) k 0 in
          ap capped (weight_unapplied spec.tokens [] weights given body plain)
          ∙ weight_same_capped spec.tokens spec.constructors given (operand_weight weights kinds)
          (λ k. ap capped (mapped_at (weight_in types) kinds k 0 ∙ operand_weighs (slice_get kinds k)) ∙ capped_twice (operand_weight weights kinds k)) body

      pub size_measured : capped (1 + sum_by number_size kinds + size [] (λ k. get_or (map (size_in types) kinds) k 0) body) ≡ capped (body_size spec kinds body)
      size_measured =
          let given : ℕ → ℕ = λ k. get_or (map (size_in types) kinds) k 0 in
          let same = ap capped (size_unapplied [] sizes given body plain)
          ∙ size_same_capped sizes given (operand_size sizes kinds)
          (λ k. ap capped (mapped_at (size_in types) kinds k 0 ∙ operand_sizes (slice_get kinds k)) ∙ capped_twice (operand_size sizes kinds k)) body in
          more_capped (1 + sum_by number_size kinds) _ _ same

      pub form_measured : (form : Form) → IsFormOf (operand_context spec.tokens (map (shapes_in types) kinds)) body form
          → IsFormOf (body_shapes spec.tokens (known_shapes spec) kinds) body form
      form_measured form is =
          let cx = operand_context spec.tokens (map (shapes_in types) kinds) in let dx = body_shapes spec.tokens (known_shapes spec) kinds in
          form_elsewhere cx dx body form
          (operands_form cx dx refl
          (λ k. subst (λ ss. SameMembers ss (operand_shapes (known_shapes spec) kinds k)) (sym (mapped_at (shapes_in types) kinds k [])) (operand_has_shapes (slice_get kinds k))) body plain) is

-- ---- what is measured over the table's types

module _ (table : TypeTable) (tokens : Tokens) (kinds : List OperandKind) (body : Pattern) (plain : AllLeaves IsNoApplication body) where
  pub measured : (es : List TypeEntry) → es ≡ table.types.items → (r : Result Measures NoMemory)
      → IfOk r (λ m. IsFormOf (operand_context tokens (map (shapes_in es) kinds)) body m.form)
      → IfOk r (λ m. m.weight ≡ capped (weight tokens [] (λ k. get_or (map (weight_in es) kinds) k 0) body))
      → IfOk r (λ m. m.size ≡ capped (1 + sum_by number_size kinds + size [] (λ k. get_or (map (size_in es) kinds) k 0) body))
      → IfOk r (λ m. (spec : Spec) → IsSpec spec → spec.tokens ≡ tokens → IsTableOf spec table → AreMeasures spec kinds body m)
  measured es e (Err x) form weighs sized_so = tt
  measured es e (Ok m) form weighs sized_so = λ spec sound same h. record {
    form = form_measured spec sound table h kinds body plain m.form
        (subst (λ us. IsFormOf (operand_context spec.tokens (map (shapes_in us) kinds)) body m.form) e
        (subst (λ u. IsFormOf (operand_context u (map (shapes_in es) kinds)) body m.form) (sym same) form));
    weight = weighs ∙ ap (λ us. capped (weight tokens [] (λ k. get_or (map (weight_in us) kinds) k 0) body)) e
        ∙ ap (λ u. capped (weight u [] (λ k. get_or (map (weight_in table.types.items) kinds) k 0) body)) (sym same) ∙ weight_measured spec sound table h kinds body plain;
    size = sized_so ∙ ap (λ us. capped (1 + sum_by number_size kinds + size [] (λ k. get_or (map (size_in us) kinds) k 0) body)) e
        ∙ size_measured spec sound table h kinds body plain;
  }

-- ---- what the measures of a constructor say of it

module _ (spec : Spec) (c : Constructor) (m : Measures) (are : AreMeasuresOf spec c m) where
  pub weight_of_constructor : m.weight ≡ capped (constructor_weight spec c)
  weight_of_constructor = are.weight

  pub size_of_constructor : m.size ≡ capped (constructor_size spec c)
  size_of_constructor = are.size

  pub form_of_constructor : IsFormOf (body_shapes spec.tokens (known_shapes spec) c.operands) c.body m.form
  form_of_constructor = are.form

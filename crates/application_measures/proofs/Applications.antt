-- What an application comes to, over its operands.
use Rattle.std.proofs.Common.{◌≡◌, ℕ, zero, suc, ◌<◌, ◌≤◌, ⊎_elim, true, cond, nat_lt, List, [], ◌∷◌, ◌++◌, length, set, map, sum, get_or, slice_get, Option, Some, None, IsSomeAnd, refl, sym, ap, subst, ◌∙◌, arith}
use Rattle.std.specs.Option.{option_map_or}
use Rattle.std.proofs.lemmas.Bool.{cases_lt, lt-ltb, le-ltb}
use Rattle.std.proofs.lemmas.List.{map-append, length-map, length-set, get_or-set_same, get_or-set_other}
use Rattle.token_bits.proofs.Sound.{All-slice_get}
use Rattle.token_bits.specs.declared.tokens.Tokens.{Tokens}
use Rattle.sled_model.specs.declared.shape.Shape.{Shape}
use Rattle.sled_model.specs.declared.spec.Spec.{Spec}
use Rattle.sled_model.specs.declared.constructor.ConstructorId.{ConstructorId}
use Rattle.sled_model.specs.declared.constructor.TypeId.{TypeId}
use Rattle.sled_model.specs.declared.constructor.OperandKind.{OperandKind}
use Rattle.sled_model.specs.declared.constructor.OperandKind.TheVariants.{Plain, Extended, Typed, Whole, Sliced}
use Rattle.sled_model.specs.declared.constructor.Constructor.{Constructor}
use Rattle.sled_model.specs.declared.pattern.Argument.{Argument}
use Rattle.sled_model.specs.declared.pattern.Argument.TheVariants.{Inner}
use Rattle.sled_model.specs.declared.pattern.Argument.TheBlock.{hidden-the_row-Pattern-0, hidden-the_row-Argument-2}
use denote.Hole.Carrier.{hidden}
use Rattle.sled_model.specs.declared.pattern.Pattern.{Pattern, Row_of-Pattern, end_of-Pattern, more_of-Pattern, Row_of-Argument, end_of-Argument, more_of-Argument, items-the_row-Argument, items_hidden-the_row-Argument-2}
use Rattle.sled_model.specs.declared.pattern.Pattern.TheVariants.{Token, Limit, Bind, Operand, Label', Both', Either', Chain', Loose', Apply', Empty, Apply}
use Rattle.sled_model.specs.Leaves.{IsTyped, AllLeaves, AllLeavesOfRow}
use Rattle.sled_model.specs.Measures.{Weighed, Sized, Measured, capped, weighed, weight, row_weights, kind_weight, operand_weight, argument_weights, application_weight, product, boxed_number, sized, measured, pattern_weight}
use Rattle.sled_model.specs.Shapes.{Shaped, ShapeContext, spec_shapes, known_shapes, shaped, shapes, field_shapes, type_shapes, kind_shapes, operand_shapes, argument_shapes, application_shapes}
use Rattle.sled_model.specs.Specs.{IsSpec, IsBodyLeaf, IsConstructorOf}
use Rattle.sled_model.proofs.MeasureLaws as law
use Rattle.sled_model.proofs.ShapeContexts.{IsLeaf, AllLeaves-weaker, HasSameForm, HasSameShapes, same_form}
use Rattle.pattern_normal.proofs.Constructors.{each_at, each_past}
use Rattle.pattern_shapes.specs.declared.form.Form.{Form}
use Rattle.pattern_shapes.specs.Forms.{SameMembers, operand_context, IsFormOf}
use Rattle.pattern_shapes.proofs.Joined.{same_self, same_then}
use Rattle.type_tables.specs.declared.types.TypeEntry.{TypeEntry}
use Rattle.type_tables.specs.declared.table.TypeTable.{TypeTable}
use Rattle.type_tables.specs.Types.{weight_in, shapes_in}
use Rattle.type_tables.specs.Tables.{IsEntryOf, IsTableOf}
use Rattle.type_tables.proofs.Lists.{mapped_at, found_below}
use Rattle.type_tables.proofs.Added.{empty_entry, no_entry}
use Rattle.application_measures.specs.declared.applied.Operands.{Operands}
use Rattle.application_measures.specs.declared.measures.ArmMeasures.{ArmMeasures}
use Rattle.application_measures.specs.declared.table.ApplicationTable.{ApplicationTable}
use Rattle.application_measures.specs.Arms.{AreArmMeasures, AreOperandsOf, IsInner, IsPut, weights_of, argument_or, inner_shapes, inner_weight}
use Rattle.application_measures.specs.Tables.{IsApplicationTableOf, sizes_of, lens_of}

capped_twice : (n : ℕ) → capped (capped n) ≡ capped n
capped_twice n = omega arith

-- ---- arguments, as a list

module _ (spec : Spec) where
  shape_rows : {n : _} (as' : Row_of-Argument n) → argument_shapes (spec_shapes spec) as' ≡ map (inner_shapes spec) (items-the_row-Argument _ as')
  shape_rows end_of-Argument = refl
  shape_rows (more_of-Argument a as') = ap (λ os. inner_shapes spec a ∷ os) (shape_rows as')

  weight_rows : {n : _} (as' : Row_of-Argument n)
      → argument_weights spec.tokens (weights_of spec) (λ k. 0) as' ≡ map (inner_weight spec) (items-the_row-Argument _ as')
  weight_rows end_of-Argument = refl
  weight_rows (more_of-Argument a as') = ap (λ os. inner_weight spec a ∷ os) (weight_rows as')

  shapes_applied : (k : ConstructorId) (arguments : List Argument)
      → shapes (spec_shapes spec) (Apply k arguments) ≡ application_shapes (known_shapes spec) k.0 (map (inner_shapes spec) arguments)
  shapes_applied k arguments = ap (application_shapes (known_shapes spec) k.0)
      (shape_rows (hidden-the_row-Argument-2 arguments) ∙ ap (map (inner_shapes spec)) (items_hidden-the_row-Argument-2 arguments))

  weight_applied : (k : ConstructorId) (arguments : List Argument)
      → pattern_weight spec (Apply k arguments) ≡ application_weight (weights_of spec) k.0 (map (inner_weight spec) arguments)
  weight_applied k arguments = ap (application_weight (weights_of spec) k.0)
      (weight_rows (hidden-the_row-Argument-2 arguments) ∙ ap (map (inner_weight spec)) (items_hidden-the_row-Argument-2 arguments))

-- ---- operands that a body may name

typed_within : (kinds : List OperandKind) (j : ℕ) → IsSomeAnd (slice_get kinds j) IsTyped → j < length kinds
typed_within [] j h = absurd h
typed_within (kind ∷ kinds) zero h = omega arith
typed_within (kind ∷ kinds) (suc j) h = let less = typed_within kinds j h in omega arith

-- a body has its weight from those of the operands that there are
module _ (tokens : Tokens) (kinds : List OperandKind) (known others : List Weighed) (f g : ℕ → ℕ) (same : (k : ℕ) → k < length kinds → f k ≡ g k) where
  mutual
    weight_typed : (p : Pattern) → AllLeaves (IsBodyLeaf tokens kinds) p → weight tokens known f p ≡ weight tokens others g p
    weight_typed (Token c) h = refl
    weight_typed (Limit l relation limit) h = refl
    weight_typed (Bind l) h = refl
    weight_typed (Operand k) h = same k (typed_within kinds k h.operand)
    weight_typed (Label' l s p) h = ap boxed_number (weights_typed p h)
    weight_typed (Both' s ps) h = ap product (weights_typed ps h)
    weight_typed (Either' s ps) h = ap sum (weights_typed ps h)
    weight_typed (Chain' s ps) h = ap product (weights_typed ps h)
    weight_typed (Loose' s p) h = ap boxed_number (weights_typed p h)
    weight_typed (Apply' k s arguments) h = absurd h.alone
    weight_typed Empty h = refl

    weights_typed : {n : _} (ps : Row_of-Pattern n) → AllLeavesOfRow (IsBodyLeaf tokens kinds) ps → row_weights tokens known f ps ≡ row_weights tokens others g ps
    weights_typed end_of-Pattern h = refl
    weights_typed (more_of-Pattern p ps) h = ap (λ n. n ∷ row_weights tokens known f ps) (weight_typed p h.0) ∙ ap (λ ns. weight tokens others g p ∷ ns) (weights_typed ps h.1)

-- and its shapes
module _ (cx dx : ShapeContext) (kinds : List OperandKind) (tokens : cx.tokens ≡ dx.tokens)
    (same : (k : ℕ) → k < length kinds → SameMembers (cx.operands k) (dx.operands k)) where
  equal_same : (ss ts : List Shape) → ss ≡ ts → SameMembers ss ts
  equal_same ss ts e = subst (SameMembers ss) e (same_self ss)

  leaf_typed : (p : Pattern) → IsLeaf p → IsBodyLeaf dx.tokens kinds p → HasSameShapes cx dx p
  leaf_typed (Token c) leaf h = same_self (shapes dx (Token c))
  leaf_typed (Limit f relation limit) leaf h = equal_same (field_shapes cx.tokens f) (field_shapes dx.tokens f) (ap (λ t. field_shapes t f) tokens)
  leaf_typed (Bind f) leaf h = equal_same (field_shapes cx.tokens f) (field_shapes dx.tokens f) (ap (λ t. field_shapes t f) tokens)
  leaf_typed (Operand k) leaf h = same k (typed_within kinds k h.operand)
  leaf_typed (Label' l s p) leaf h = absurd leaf
  leaf_typed (Both' s ps) leaf h = absurd leaf
  leaf_typed (Either' s ps) leaf h = absurd leaf
  leaf_typed (Chain' s ps) leaf h = absurd leaf
  leaf_typed (Loose' s p) leaf h = absurd leaf
  leaf_typed (Apply' k s arguments) leaf h = absurd h.alone
  leaf_typed Empty leaf h = same_self (shapes dx Empty)

  form_typed : (p : Pattern) → AllLeaves (IsBodyLeaf dx.tokens kinds) p → HasSameForm cx dx p
  form_typed p h = same_form cx dx p (AllLeaves-weaker (IsBodyLeaf dx.tokens kinds) (HasSameShapes cx dx) leaf_typed p h)

-- ---- what a number of a table is

found_capped : {A : Type 0} (f : A → ℕ) (xs : List A) (k : ℕ) → get_or (map (λ x. capped (f x)) xs) k 0 ≡ capped (option_map_or f (slice_get xs k) 0)
found_capped f [] k = refl
found_capped f (x ∷ xs) zero = refl
found_capped f (x ∷ xs) (suc k) = found_capped f xs k

-- ---- an application of constructor number k

module _ (spec : Spec) (sound : IsSpec spec) (k : ConstructorId) (arguments : List Argument) where
  abbrev sx : ShapeContext
  sx = spec_shapes spec

  abbrev inner_shape_list : List (Option (List Shape))
  inner_shape_list = map (inner_shapes spec) arguments

  abbrev inner_weight_list : List (Option ℕ)
  inner_weight_list = map (inner_weight spec) arguments

  module _ (c : Constructor) (at : slice_get spec.constructors k.0 ≡ Some c) (operands : Operands) (are : AreOperandsOf spec c.operands arguments operands) where
    body_sound : AllLeaves (IsBodyLeaf spec.tokens c.operands) c.body
    body_sound = (All-slice_get (IsConstructorOf spec.tokens (length spec.type_names)) spec.constructors k.0 c at sound.constructors).body

    abbrev cx : ShapeContext
    cx = operand_context spec.tokens operands.shapes

    abbrev dx : List Shaped → ShapeContext
    dx known = record { tokens = spec.tokens; operands = λ j. argument_or inner_shape_list j (operand_shapes (known_shapes spec) c.operands j); known = known }

    applied_form : (known : List Shaped) → slice_get (known_shapes spec) k.0 ≡ Some (shaped spec.tokens known c) → (form : Form) → IsFormOf cx c.body form
        → IsFormOf sx (Apply k arguments) (record { shapes = form.shapes; agree = true; closed = true; alike = true })
    applied_form known is form h =
        let same = form_typed cx (dx known) c.operands refl are.shapes c.body body_sound in
        let here : shapes (dx known) c.body ≡ shapes sx (Apply k arguments) =
        sym (shapes_applied spec k arguments
        ∙ ap (λ o. option_map_or (λ (d : Shaped). d.body (λ j. argument_or inner_shape_list j (operand_shapes (known_shapes spec) d.constructor.operands j))) o []) is) in
        record {
          members = same_then form.shapes (shapes cx c.body) (shapes sx (Apply k arguments)) h.members (subst (SameMembers (shapes cx c.body)) here same.members);
          once = h.once;
          agree = refl;
          closed = refl;
          alike = refl;
        }

    abbrev given : ℕ → ℕ
    given j = get_or operands.weights j 0

    abbrev meant : ℕ → ℕ
    meant j = argument_or inner_weight_list j (operand_weight (weights_of spec) c.operands j)

    -- what is meant of the operands that there are
    abbrev either_of : ℕ → ℕ
    either_of j = cond (nat_lt j (length c.operands)) (meant j) (given j)

    meant_below : (j : ℕ) → j < length c.operands → either_of j ≡ meant j
    meant_below j less = ap (λ b. cond b (meant j) (given j)) (lt-ltb j (length c.operands) less)

    given_past : (j : ℕ) → length c.operands ≤ j → either_of j ≡ given j
    given_past j past = ap (λ b. cond b (meant j) (given j)) (le-ltb j (length c.operands) past)

    same_capped : (j : ℕ) → capped (given j) ≡ capped (either_of j)
    same_capped j = ⊎_elim
        (λ less. ap capped (are.weights j less) ∙ capped_twice (meant j) ∙ ap capped (sym (meant_below j less)))
        (λ past. ap capped (sym (given_past j past)))
        (cases_lt j (length c.operands))

    applied_weight : (known : List Weighed) → slice_get (weights_of spec) k.0 ≡ Some (weighed spec.tokens known c)
        → capped (weight spec.tokens [] given c.body) ≡ capped (pattern_weight spec (Apply k arguments))
    applied_weight known is =
        law.weight_same_capped spec.tokens [] given either_of same_capped c.body
        ∙ ap capped (weight_typed spec.tokens c.operands [] known either_of meant meant_below c.body body_sound
        ∙ sym (weight_applied spec k arguments
        ∙ ap (λ o. option_map_or (λ (d : Weighed). d.body (λ j. argument_or inner_weight_list j (operand_weight (weights_of spec) d.constructor.operands j))) o 0) is))

    pub applied_measures : (table : ApplicationTable) → IsApplicationTableOf spec table → (form : Form) (m : ArmMeasures) → IsFormOf cx c.body form
        → m.form ≡ record { shapes = form.shapes; agree = true; closed = true; alike = true }
        → m.weight ≡ capped (weight spec.tokens [] given c.body) → m.size ≡ get_or table.sizes k.0 0 → m.len ≡ get_or table.lens k.0 0
        → AreArmMeasures spec (Apply k arguments) m
    applied_measures table of form m h formed weighs sizes lens = record {
      form = subst (IsFormOf sx (Apply k arguments)) (sym formed) (applied_form _ (each_at (shaped spec.tokens) spec.constructors k.0 c at) form h);
      weight = weighs ∙ applied_weight _ (each_at (weighed spec.tokens) spec.constructors k.0 c at);
      size = sizes ∙ ap (λ ns. get_or ns k.0 0) of.sizes ∙ found_capped (λ (d : Sized). d.size) (sizes_of spec) k.0;
      len = lens ∙ ap (λ ns. get_or ns k.0 0) of.lens ∙ found_capped (λ (d : Measured). d.len) (lens_of spec) k.0;
    }

  -- where there is no such constructor, it has nothing
  module _ (none : slice_get spec.constructors k.0 ≡ None) (m : ArmMeasures) (h : AreArmMeasures spec (Operand 0) m) where
    pub nothing_applied : AreArmMeasures spec (Apply k arguments) m
    nothing_applied = record {
      form = record {
        members = subst (SameMembers m.form.shapes) (sym (shapes_applied spec k arguments
            ∙ ap (λ o. option_map_or (λ (d : Shaped). d.body (λ j. argument_or inner_shape_list j (operand_shapes (known_shapes spec) d.constructor.operands j))) o [])
            (each_past (shaped spec.tokens) spec.constructors k.0 none))) h.form.members;
        once = h.form.once;
        agree = h.form.agree;
        closed = h.form.closed;
        alike = h.form.alike;
      };
      weight = h.weight ∙ ap capped (sym (weight_applied spec k arguments
          ∙ ap (λ o. option_map_or (λ (d : Weighed). d.body (λ j. argument_or inner_weight_list j (operand_weight (weights_of spec) d.constructor.operands j))) o 0)
          (each_past (weighed spec.tokens) spec.constructors k.0 none)));
      size = h.size ∙ ap (λ o. capped (option_map_or (λ (d : Sized). d.size) o 0)) (sym (each_past sized spec.constructors k.0 none));
      len = h.len ∙ ap (λ o. capped (option_map_or (λ (d : Measured). d.len) o 0)) (sym (each_past (measured spec.tokens) spec.constructors k.0 none));
    }

-- ---- one argument more

module _ {A : Type 0} where
  pub more_none : (xs : List (Option A)) (j : ℕ) (other : A) → argument_or (xs ++ None ∷ []) j other ≡ argument_or xs j other
  more_none [] zero other = refl
  more_none [] (suc j) other = refl
  more_none (x ∷ xs) zero other = refl
  more_none (x ∷ xs) (suc j) other = more_none xs j other

  pub more_here : (xs : List (Option A)) (x other : A) → argument_or (xs ++ Some x ∷ []) (length xs) other ≡ x
  more_here [] x other = refl
  more_here (y ∷ xs) x other = more_here xs x other

  pub more_elsewhere : (xs : List (Option A)) (x : A) (j : ℕ) (other : A) → (j ≡ length xs → ⊥) → argument_or (xs ++ Some x ∷ []) j other ≡ argument_or xs j other
  more_elsewhere [] x zero other differ = absurd (differ refl)
  more_elsewhere [] x (suc j) other differ = refl
  more_elsewhere (y ∷ xs) x zero other differ = refl
  more_elsewhere (y ∷ xs) x (suc j) other differ = more_elsewhere xs x j other (λ e. differ (ap suc e))

module _ (spec : Spec) (kinds : List OperandKind) (arguments : List Argument) (a : Argument) where
  abbrev more : List Argument
  more = arguments ++ a ∷ []

  pub operands_kept : (operands : Operands) → AreOperandsOf spec kinds arguments operands → IsInner spec a None → AreOperandsOf spec kinds more operands
  operands_kept operands are inner = record {
    shape_count = are.shape_count;
    weight_count = are.weight_count;
    shapes = λ j less. let other = operand_shapes (known_shapes spec) kinds j in
        subst (SameMembers (get_or operands.shapes j []))
        (sym (ap (λ os. argument_or os j other) (map-append (inner_shapes spec) arguments (a ∷ []) ∙ ap (λ o. map (inner_shapes spec) arguments ++ o ∷ []) inner.0)
        ∙ more_none (map (inner_shapes spec) arguments) j other)) (are.shapes j less);
    weights = λ j less. let other = operand_weight (weights_of spec) kinds j in
        are.weights j less ∙ ap capped (sym (ap (λ os. argument_or os j other) (map-append (inner_weight spec) arguments (a ∷ []) ∙ ap (λ o. map (inner_weight spec) arguments ++ o ∷ []) inner.1)
        ∙ more_none (map (inner_weight spec) arguments) j other));
  }

-- ---- an inner application, put in place of its operand

module _ {A : Type 0} (olds news : List A) (i : ℕ) (x : A) (within : i < length olds → news ≡ set olds i x) (past : length olds ≤ i → news ≡ olds) where
  put_long : length news ≡ length olds
  put_long = ⊎_elim (λ less. ap length (within less) ∙ length-set olds i x) (λ more. ap length (past more)) (cases_lt i (length olds))

  put_here : (d : A) → i < length olds → get_or news i d ≡ x
  put_here d less = ap (λ xs. get_or xs i d) (within less) ∙ get_or-set_same olds i x d less

  put_elsewhere : (j : ℕ) (d : A) → (j ≡ i → ⊥) → get_or news j d ≡ get_or olds j d
  put_elsewhere j d differ = ⊎_elim
      (λ less. ap (λ xs. get_or xs j d) (within less) ∙ get_or-set_other olds i j x d differ)
      (λ more. ap (λ xs. get_or xs j d) (past more))
      (cases_lt i (length olds))

apart : (i j : ℕ) (P : Type 0) → (j ≡ i → P) → ((j ≡ i → ⊥) → P) → P
apart i j P here elsewhere = ⊎_elim
    (λ less. elsewhere (λ e. absurd (omega arith)))
    (λ past. ⊎_elim (λ more. elsewhere (λ e. absurd (omega arith))) (λ last. here (omega arith)) (cases_lt i j))
    (cases_lt j i)

module _ (spec : Spec) (kinds : List OperandKind) (arguments : List Argument) (a : Argument) (old new : Operands) (i : ℕ) (m : ArmMeasures)
    (at : i ≡ length arguments) (are : AreOperandsOf spec kinds arguments old) (inner : IsInner spec a (Some m))
    (within : i < length old.shapes → new ≡ record { shapes = set old.shapes i m.form.shapes; weights = set old.weights i m.weight })
    (past : length old.shapes ≤ i → new ≡ old) where
  abbrev firsts : List (Option (List Shape))
  firsts = map (inner_shapes spec) arguments

  abbrev loads : List (Option ℕ)
  loads = map (inner_weight spec) arguments

  long_firsts : length firsts ≡ i
  long_firsts = (let e : length firsts ≡ length arguments = length-map arguments (inner_shapes spec) in omega (arith, e))

  long_loads : length loads ≡ i
  long_loads = (let e : length loads ≡ length arguments = length-map arguments (inner_weight spec) in omega (arith, e))

  shapes_within : i < length old.shapes → new.shapes ≡ set old.shapes i m.form.shapes
  shapes_within less = ap (λ (x : Operands). x.shapes) (within less)

  shapes_past : length old.shapes ≤ i → new.shapes ≡ old.shapes
  shapes_past more = ap (λ (x : Operands). x.shapes) (past more)

  weights_within : i < length old.weights → new.weights ≡ set old.weights i m.weight
  weights_within less = ap (λ (x : Operands). x.weights) (within (let n = are.shape_count in let l = are.weight_count in omega arith))

  weights_past : length old.weights ≤ i → new.weights ≡ old.weights
  weights_past more = ap (λ (x : Operands). x.weights) (past (let n = are.shape_count in let l = are.weight_count in omega arith))

  firsts_now : (j : ℕ) (other : List Shape) → argument_or (map (inner_shapes spec) (arguments ++ a ∷ [])) j other ≡ argument_or (firsts ++ Some inner.0 ∷ []) j other
  firsts_now j other = ap (λ os. argument_or os j other) (map-append (inner_shapes spec) arguments (a ∷ []) ∙ ap (λ o. firsts ++ o ∷ []) inner.2)

  loads_now : (j other : ℕ) → argument_or (map (inner_weight spec) (arguments ++ a ∷ [])) j other ≡ argument_or (loads ++ Some inner.1 ∷ []) j other
  loads_now j other = ap (λ os. argument_or os j other) (map-append (inner_weight spec) arguments (a ∷ []) ∙ ap (λ o. loads ++ o ∷ []) inner.4)

  shapes_put : (j : ℕ) → j < length kinds
      → SameMembers (get_or new.shapes j []) (argument_or (map (inner_shapes spec) (arguments ++ a ∷ [])) j (operand_shapes (known_shapes spec) kinds j))
  shapes_put j less =
      let other = operand_shapes (known_shapes spec) kinds j in
      subst (SameMembers (get_or new.shapes j [])) (sym (firsts_now j other)) (apart i j _
      (λ e. let here : i < length old.shapes = (let n = are.shape_count in omega arith) in
      let mine : get_or new.shapes j [] ≡ m.form.shapes = ap (λ n. get_or new.shapes n []) e ∙ put_here old.shapes new.shapes i m.form.shapes shapes_within shapes_past [] here in
      let theirs : argument_or (firsts ++ Some inner.0 ∷ []) j other ≡ inner.0 = ap (λ n. argument_or (firsts ++ Some inner.0 ∷ []) n other) (e ∙ sym long_firsts) ∙ more_here firsts inner.0 other in
      subst (SameMembers (get_or new.shapes j [])) (sym theirs) (subst (λ ss. SameMembers ss inner.0) (sym mine) inner.3))
      (λ differ. subst (SameMembers (get_or new.shapes j [])) (sym (more_elsewhere firsts inner.0 j other (λ e. differ (e ∙ long_firsts))))
      (subst (λ ss. SameMembers ss (argument_or firsts j other)) (sym (put_elsewhere old.shapes new.shapes i m.form.shapes shapes_within shapes_past j [] differ)) (are.shapes j less))))

  weights_put : (j : ℕ) → j < length kinds
      → get_or new.weights j 0 ≡ capped (argument_or (map (inner_weight spec) (arguments ++ a ∷ [])) j (operand_weight (weights_of spec) kinds j))
  weights_put j less =
      let other = operand_weight (weights_of spec) kinds j in
      apart i j _
      (λ e. let here : i < length old.weights = (let n = are.weight_count in omega arith) in
      ap (λ n. get_or new.weights n 0) e ∙ put_here old.weights new.weights i m.weight weights_within weights_past 0 here ∙ inner.5
      ∙ ap capped (sym (loads_now j other ∙ ap (λ n. argument_or (loads ++ Some inner.1 ∷ []) n other) (e ∙ sym long_loads) ∙ more_here loads inner.1 other)))
      (λ differ. put_elsewhere old.weights new.weights i m.weight weights_within weights_past j 0 differ ∙ are.weights j less
      ∙ ap capped (sym (loads_now j other ∙ more_elsewhere loads inner.1 j other (λ e. differ (e ∙ long_loads)))))

  pub operands_put : AreOperandsOf spec kinds (arguments ++ a ∷ []) new
  operands_put = record {
    shape_count = put_long old.shapes new.shapes i m.form.shapes shapes_within shapes_past ∙ are.shape_count;
    weight_count = put_long old.weights new.weights i m.weight weights_within weights_past ∙ are.weight_count;
    shapes = shapes_put;
    weights = weights_put;
  }

pub operands_next : (spec : Spec) (kinds : List OperandKind) (arguments : List Argument) (a : Argument) (old new : Operands) (inner : Option ArmMeasures) (i : ℕ) → i ≡ length arguments
    → AreOperandsOf spec kinds arguments old → IsInner spec a inner → IsPut inner i old new → AreOperandsOf spec kinds (arguments ++ a ∷ []) new
operands_next spec kinds arguments a old new None i at are inner put =
    subst (AreOperandsOf spec kinds (arguments ++ a ∷ [])) (sym put) (operands_kept spec kinds arguments a old are inner)
operands_next spec kinds arguments a old new (Some m) i at are inner put = operands_put spec kinds arguments a old new i m at are inner put.0 put.1

-- ---- an argument that is an application

pub inner_is : (spec : Spec) (p : Pattern) (m : ArmMeasures) → AreArmMeasures spec p m → IsInner spec (Inner p) (Some m)
unfolding hidden-the_row-Pattern-0 hidden
inner_is spec p m h = (shapes (spec_shapes spec) p, pattern_weight spec p, refl, h.form.members, refl, h.weight)

-- ---- operands that have what their types have

field_of : {A : Type 0} (f : TypeEntry → A) (o : Option TypeEntry) → option_map_or f o (f no_entry) ≡ f (option_map_or (λ (entry : TypeEntry). entry) o no_entry)
field_of f None = refl
field_of f (Some entry) = refl

module _ (spec : Spec) (sound : IsSpec spec) (table : TypeTable) (h : IsTableOf spec table) where
  abbrev types : List TypeEntry
  types = table.types.items

  found_of : (t : TypeId) (o : Option TypeEntry) → slice_get types t.0 ≡ o → IsEntryOf spec t (option_map_or (λ entry. entry) o no_entry)
  found_of t (Some entry) e = h.entries t entry e
  found_of t None e = ⊎_elim
      (λ less. absurd (let found = found_below types t.0 less in cc (e, found.1)))
      (λ past. empty_entry spec sound t (let same = h.count in omega arith))
      (cases_lt t.0 (length types))

  entry_is : (t : TypeId) → IsEntryOf spec t (option_map_or (λ entry. entry) (slice_get types t.0) no_entry)
  entry_is t = found_of t (slice_get types t.0) refl

  kind_weighs : (kind : OperandKind) → weight_in types kind ≡ capped (kind_weight (weights_of spec) kind)
  kind_weighs (Typed t) = field_of (λ (entry : TypeEntry). entry.weight) (slice_get types t.0) ∙ (entry_is t).weight
  kind_weighs (Plain f) = refl
  kind_weighs (Extended f) = refl
  kind_weighs Whole = refl
  kind_weighs Sliced = refl

  kind_has_shapes : (kind : OperandKind) → SameMembers (shapes_in types kind) (kind_shapes (known_shapes spec) kind)
  kind_has_shapes (Typed t) =
      subst (λ ss. SameMembers ss (type_shapes (known_shapes spec) t)) (sym (field_of (λ (entry : TypeEntry). entry.shapes) (slice_get types t.0))) (entry_is t).shapes
  kind_has_shapes (Plain f) = same_self []
  kind_has_shapes (Extended f) = same_self []
  kind_has_shapes Whole = same_self []
  kind_has_shapes Sliced = same_self []

  operand_weighs : (o : Option OperandKind) → option_map_or (weight_in types) o 0 ≡ capped (option_map_or (kind_weight (weights_of spec)) o 0)
  operand_weighs None = refl
  operand_weighs (Some kind) = kind_weighs kind

  operand_has_shapes : (o : Option OperandKind) → SameMembers (option_map_or (shapes_in types) o []) (option_map_or (kind_shapes (known_shapes spec)) o [])
  operand_has_shapes None = same_self []
  operand_has_shapes (Some kind) = kind_has_shapes kind

  pub operands_alone : (kinds : List OperandKind) → AreOperandsOf spec kinds [] (record { shapes = map (shapes_in types) kinds; weights = map (weight_in types) kinds })
  operands_alone kinds = record {
    shape_count = length-map kinds (shapes_in types);
    weight_count = length-map kinds (weight_in types);
    shapes = λ j less. subst (λ ss. SameMembers ss (operand_shapes (known_shapes spec) kinds j)) (sym (mapped_at (shapes_in types) kinds j [])) (operand_has_shapes (slice_get kinds j));
    weights = λ j less. mapped_at (weight_in types) kinds j 0 ∙ operand_weighs (slice_get kinds j);
  }

-- The results of a pattern among constructors have its shapes, where those of the constructors' bodies do.
use Rattle.std.proofs.Common.{◌≡◌, ⊎_elim, ℕ, ◌+◌, Bool, true, false, cond, List, [], ◌∷◌, ◌++◌, map, Option, Some, None, refl, subst}
use Rattle.std.specs.List.{AllZip, slice_get}
use Rattle.std.specs.Option.{option_map_or}
use Rattle.std.proofs.lemmas.List.Elements.{Contains-append_left, Contains-append_right, Contains-append_cases}
use Rattle.std.proofs.lemmas.Slice.Zip.{all_zipped_more}
use Rattle.token_bits.specs.declared.tokens.Tokens.{Tokens}
use Rattle.sled_model.specs.declared.raw.Match.{Match}
use Rattle.sled_model.specs.declared.shape.Shape.{Shape}
use Rattle.sled_model.specs.declared.constructor.TypeId.{TypeId}
use Rattle.sled_model.specs.declared.constructor.OperandKind.{OperandKind}
use Rattle.sled_model.specs.declared.constructor.OperandKind.TheVariants.{Plain, Extended, Typed, Whole, Sliced}
use Rattle.sled_model.specs.declared.constructor.Constructor.{Constructor}
use Rattle.sled_model.specs.declared.pattern.Pattern.{Pattern}
use Rattle.sled_model.specs.declared.pattern.Pattern.TheVariants.{Token, Limit, Bind, Operand, Label', Both', Either', Chain', Loose', Apply', Empty}
use Rattle.sled_model.specs.Leaves.{IsNoApplication, AllLeaves}
use Rattle.sled_model.specs.Results.{Known, Context, results, results_from, makes, choice_match, choices_from, kind_results, operand_results, known_from}
use Rattle.sled_model.specs.Measures.{each_from}
use Rattle.sled_model.specs.Shapes.{Shaped, ShapeContext, shapes, type_shapes, kind_shapes, operand_shapes, body_shapes, shaped, conjunctions_agree}
use Rattle.sled_model.proofs.Members.{Contains-map_cases}
use Rattle.sled_model.proofs.ShapeLemmas.{AreAmong}
use Rattle.sled_model.proofs.ShapeContexts.{IsLeaf, AllLeaves-weaker}
use Rattle.sled_model.proofs.ShapeResults.{HasShape-at, AreShaped, IsShaped, HasItsShapes, shaped_none, shaped_plain_leaf, results_shaped}

-- ---- what is known of a constructor

-- the two say the same constructor, and each result of its body has one of its shapes
pub record IsKnownShape (tokens : Tokens) (c : Known) (s : Shaped) : Type 0 where
  pub same : c.constructor ≡ s.constructor
  pub shaped : IsShaped tokens c.body s.shapes

-- constructor by constructor
abbrev pub AreKnownShapes : Tokens → List Known → List Shaped → Type 0
AreKnownShapes tokens = AllZip (IsKnownShape tokens)

-- what a pattern stands among has these shapes
pub record AreShapesOf (cx : Context) (sx : ShapeContext) : Type 0 where
  pub tokens : cx.tokens ≡ sx.tokens
  pub known : AreKnownShapes sx.tokens cx.known sx.known
  pub operands : (k : ℕ) → AreAmong (operand_shapes sx.known cx.operands k) (sx.operands k)

-- ---- operands

module _ (tokens : Tokens) where
  shaped_choices : (b : Bool) (k : ℕ) (found : List Match) (ss : List Shape) → AreShaped tokens found ss → AreShaped tokens (cond b (map (choice_match k []) found) []) (cond b ss [])
  shaped_choices false k found ss h = shaped_none tokens [] [] refl
  shaped_choices true k found ss h = λ a m.
      let from = Contains-map_cases (choice_match k []) found a m in
      let of = h from.0 from.1 in
      HasShape-at tokens ss (choice_match k [] from.0) a from.2 (record { shape = of.shape; member = of.member; len = of.len; loose = of.loose })

  choices_shaped : (k : ℕ) (known : List Known) (shapes : List Shaped) (t : TypeId) → AreKnownShapes tokens known shapes
      → IsShaped tokens (choices_from k known t) (type_shapes shapes t)
  choices_shaped k [] [] t h = λ bytes i. shaped_none tokens [] [] refl
  choices_shaped k [] (s ∷ ss) t h = absurd h
  choices_shaped k (c ∷ cs) [] t h = absurd h
  choices_shaped k (c ∷ cs) (s ∷ ss) t h = λ bytes i a m.
      let firsts = cond (makes t s.constructor.result) s.shapes [] in let rest = type_shapes ss t in
      let all = shaped_choices (makes t c.constructor.result) k (c.body bytes i) s.shapes (h.0.shaped bytes i) in
      let first = subst (λ (x : Constructor). AreShaped tokens (cond (makes t c.constructor.result) (map (choice_match k []) (c.body bytes i)) []) (cond (makes t x.result) s.shapes [])) h.0.same all in
      ⊎_elim
      (λ l. let of = first a l in record { shape = of.shape; member = Contains-append_left firsts rest of.shape of.member; len = of.len; loose = of.loose })
      (λ r. let of = choices_shaped (k + 1) cs ss t h.1 bytes i a r in record { shape = of.shape; member = Contains-append_right firsts rest of.shape of.member; len = of.len; loose = of.loose })
      (Contains-append_cases (cond (makes t c.constructor.result) (map (choice_match k []) (c.body bytes i)) []) (choices_from (k + 1) cs t bytes i) a m)

module _ (tokens : Tokens) (known : List Known) (shapes : List Shaped) (h : AreKnownShapes tokens known shapes) where
  kind_shaped : (kind : OperandKind) → IsShaped tokens (kind_results known kind) (kind_shapes shapes kind)
  kind_shaped (Typed t) = choices_shaped tokens 0 known shapes t h
  kind_shaped (Plain f) = λ bytes i. shaped_none tokens [] [] refl
  kind_shaped (Extended f) = λ bytes i. shaped_none tokens [] [] refl
  kind_shaped Whole = λ bytes i. shaped_none tokens [] [] refl
  kind_shaped Sliced = λ bytes i. shaped_none tokens [] [] refl

  kinds_shaped : (o : Option OperandKind) → IsShaped tokens (λ bytes i. results_from o (λ kind. kind_results known kind bytes i)) (option_map_or (kind_shapes shapes) o [])
  kinds_shaped None = λ bytes i. shaped_none tokens [] [] refl
  kinds_shaped (Some kind) = kind_shaped kind

wider : (tokens : Tokens) (found : List Match) (ss ts : List Shape) → AreAmong ss ts → AreShaped tokens found ss → AreShaped tokens found ts
wider tokens found ss ts among h a m = let of = h a m in record { shape = of.shape; member = among of.shape of.member; len = of.len; loose = of.loose }

-- ---- patterns

module _ (cx : Context) (sx : ShapeContext) (h : AreShapesOf cx sx) where
  pub shaped_leaf : (p : Pattern) → IsLeaf p → IsNoApplication p → HasItsShapes cx sx p
  shaped_leaf (Token c) leaf none = shaped_plain_leaf cx sx h.tokens (Token c) leaf tt
  shaped_leaf (Limit f relation limit) leaf none = shaped_plain_leaf cx sx h.tokens (Limit f relation limit) leaf tt
  shaped_leaf (Bind f) leaf none = shaped_plain_leaf cx sx h.tokens (Bind f) leaf tt
  shaped_leaf (Operand k) leaf none = λ bytes i.
      wider sx.tokens (operand_results cx k bytes i) (operand_shapes sx.known cx.operands k) (sx.operands k) (h.operands k) (kinds_shaped sx.tokens cx.known sx.known h.known (slice_get cx.operands k) bytes i)
  shaped_leaf (Label' l s p) leaf none = absurd leaf
  shaped_leaf (Both' s ps) leaf none = absurd leaf
  shaped_leaf (Either' s ps) leaf none = absurd leaf
  shaped_leaf (Chain' s ps) leaf none = absurd leaf
  shaped_leaf (Loose' s p) leaf none = absurd leaf
  shaped_leaf (Apply' k s arguments) leaf none = absurd none
  shaped_leaf Empty leaf none = shaped_plain_leaf cx sx h.tokens Empty leaf tt

  -- among constructors with these shapes, each result of a pattern without applications has one of its shapes, where the
  -- conjunctions agree
  pub operands_shaped : (p : Pattern) → AllLeaves IsNoApplication p → conjunctions_agree sx p ≡ true → HasItsShapes cx sx p
  operands_shaped p none agree = results_shaped cx sx p (AllLeaves-weaker IsNoApplication (HasItsShapes cx sx) shaped_leaf p none) agree

-- ---- descriptions

-- no body has an application, and the conjunctions of each body agree over the constructors before it
abbrev pub BodiesAgree : Tokens → List Shaped → List Constructor → Type 0
BodiesAgree tokens known [] = Unit {0}
BodiesAgree tokens known (c ∷ cs) =
    AllLeaves IsNoApplication c.body × (conjunctions_agree (body_shapes tokens known c.operands) c.body ≡ true) × BodiesAgree tokens (known ++ shaped tokens known c ∷ []) cs

-- one more constructor
pub known_step : (tokens : Tokens) (known : List Known) (shapes : List Shaped) (c : Constructor) → AreKnownShapes tokens known shapes → AllLeaves IsNoApplication c.body
    → conjunctions_agree (body_shapes tokens shapes c.operands) c.body ≡ true
    → AreKnownShapes tokens (known ++ record { constructor = c; body = results (record { tokens = tokens; operands = c.operands; known = known }) c.body } ∷ []) (shapes ++ shaped tokens shapes c ∷ [])
known_step tokens known shapes c h none agree =
    let cx : Context = record { tokens = tokens; operands = c.operands; known = known } in
    let sx = body_shapes tokens shapes c.operands in
    let now : Known = record { constructor = c; body = results cx c.body } in
    all_zipped_more (IsKnownShape tokens) known shapes now (shaped tokens shapes c) h
    (record { same = refl; shaped = operands_shaped cx sx (record { tokens = refl; known = h; operands = λ k a m. m }) c.body none agree })

-- so the constructors of a description have the shapes that are known of them
pub constructors_shaped : (tokens : Tokens) (known : List Known) (shapes : List Shaped) (cs : List Constructor) → AreKnownShapes tokens known shapes → BodiesAgree tokens shapes cs
    → AreKnownShapes tokens (known_from tokens known cs) (each_from (shaped tokens) shapes cs)
constructors_shaped tokens known shapes [] h agree = h
constructors_shaped tokens known shapes (c ∷ cs) h agree =
    let now : Known = record { constructor = c; body = results (record { tokens = tokens; operands = c.operands; known = known }) c.body } in
    constructors_shaped tokens (known ++ now ∷ []) (shapes ++ shaped tokens shapes c ∷ []) cs (known_step tokens known shapes c h agree.0 agree.1) agree.2

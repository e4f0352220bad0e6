-- An application has the shapes of the body, with those of each inner application in place of its operand's.
use Rattle.std.proofs.Common.{◌≡◌, ℕ, zero, suc, ◌+◌, ◌<◌, Bool, true, false, ◌&&◌, not, eqb, List, [], ◌∷◌, length, get_or, Contains, Some, None, refl, sym, ap, ◌∙◌, subst, arith}
use Rattle.std.specs.Prelude.{unwrap_or, option_and_then}
use Rattle.std.specs.List.{AllZip, AllPairs, slice_get, position, prefix_len}
use Rattle.std.proofs.lemmas.Bool.{and_parts, cond-true, cond-false, eqb-true, eq-eqb, lt-ltb}
use Rattle.std.proofs.lemmas.Option.{same_Some}
use Rattle.token_bits.specs.declared.tokens.Tokens.{Tokens}
use Rattle.sled_model.specs.declared.raw.Match.{Match}
use Rattle.sled_model.specs.declared.raw.RawEntry.{RawEntry, items_hidden-the_row-RawEntry-0}
use Rattle.sled_model.specs.declared.raw.RawEntry.TheVariants.{Choice}
use Rattle.sled_model.specs.declared.shape.Shape.{Shape}
use Rattle.sled_model.specs.declared.pattern.Argument.{Argument}
use Rattle.sled_model.specs.declared.pattern.Argument.TheVariants.{Any, Name, Inner'}
use Rattle.sled_model.specs.declared.pattern.Pattern.{Pattern, Row_of-Pattern, end_of-Pattern, more_of-Pattern, Row_of-Argument, end_of-Argument, more_of-Argument}
use Rattle.sled_model.specs.declared.pattern.Pattern.TheVariants.{Token, Limit, Bind, Operand, Label', Both', Either', Chain', Loose', Apply', Empty}
use Rattle.sled_model.specs.Results.{Known, operands_in, choice_of, argument_admits, application_admits, arguments_admit}
use Rattle.sled_model.specs.Shapes.{Shaped, ShapeContext, operand_shapes, argument_shapes, shapes_of_argument, shape_bytes}
use Rattle.sled_model.specs.declared.constructor.OperandKind.{OperandKind}
use Rattle.std.specs.Option.{option_map_or}
use Rattle.sled_model.proofs.ShapeLemmas.{AreAmong}
use Rattle.sled_model.proofs.ShapeChosen.{choices}
use Rattle.sled_model.proofs.ShapeKnown.{AreKnownShapes, IsKnownShape}

-- the result has a shape that stands in both lists
pub record HasShapeInBoth (tokens : Tokens) (ss ts : List Shape) (a : Match) : Type 0 where
  pub shape : Shape
  pub first : Contains ss shape
  pub second : Contains ts shape
  pub len : a.len ≡ shape_bytes tokens shape
  pub loose : a.loose ≡ shape.loose

-- ---- lists, place by place

zip_from_places : {X Y : Type 0} (R : X → Y → Type 0) (js : List X) (es : List Y) → length es ≡ length js
    → ((n : ℕ) (d : X) (e : Y) → n < length js → slice_get es n ≡ Some e → R (get_or js n d) e) → AllZip R js es
zip_from_places R [] [] same h = tt
zip_from_places R [] (e ∷ es) same h = absurd (omega arith)
zip_from_places R (j ∷ js) [] same h = absurd (omega arith)
zip_from_places R (j ∷ js) (e ∷ es) same h = (h 0 j e (omega arith) refl, zip_from_places R js es (omega arith) (λ n d x l is. h (suc n) d x (omega arith) is))

zipped_at : {X Y : Type 0} (R : X → Y → Type 0) (xs : List X) (ys : List Y) (k : ℕ) (x : X) (y : Y) → AllZip R xs ys → slice_get xs k ≡ Some x → slice_get ys k ≡ Some y → R x y
zipped_at R [] ys k x y h e f = cc
zipped_at R (a ∷ xs) [] k x y h e f = cc
zipped_at R (a ∷ xs) (b ∷ ys) zero x y h e f = subst (λ z. R z y) (same_Some a x e) (subst (λ z. R a z) (same_Some b y f) h.0)
zipped_at R (a ∷ xs) (b ∷ ys) (suc k) x y h e f = zipped_at R xs ys k x y h.1 e f

-- ---- the choice for an operand

not_equal : (j k : ℕ) → (j ≡ k → ⊥) → not (eqb j k) ≡ true
not_equal j k h = by_test (eqb j k) refl
  where
    by_test : (b : Bool) → eqb j k ≡ b → not (eqb j k) ≡ true
    by_test true e = absurd (h (eqb-true j k e))
    by_test false e = ap not e

place_of : (js : List ℕ) (n d : ℕ) → AllPairs (λ i j. i ≡ j → ⊥) js → n < length js → prefix_len (λ i. not (eqb i (get_or js n d))) js ≡ n
place_of [] n d once l = absurd (omega arith)
place_of (j ∷ js) zero d once l = cond-false (not (eqb j j)) (1 + prefix_len (λ i. not (eqb i j)) js) 0 (ap not (eq-eqb j j refl))
place_of (j ∷ js) (suc n) d once l =
    let k = get_or js n d in
    let rest = place_of js n d (λ x y e lt within. once (suc x) (suc y) e (omega arith) (omega arith)) (omega arith) in
    cond-true (not (eqb j k)) (1 + prefix_len (λ i. not (eqb i k)) js) 0 (not_equal j k (once 0 (suc n) d (omega arith) l)) ∙ omega (arith, rest)

position_of : (js : List ℕ) (n d : ℕ) → AllPairs (λ i j. i ≡ j → ⊥) js → n < length js → position (λ i. eqb i (get_or js n d)) js ≡ Some n
position_of js n d once l =
    let at = place_of js n d once l in let p = prefix_len (λ i. not (eqb i (get_or js n d))) js in
    cond-true _ (Some p) None (lt-ltb p (length js) (omega arith)) ∙ ap Some at

choice_at : (c : Known) (inner : List RawEntry) (n d : ℕ) (e : RawEntry) → AllPairs (λ i j. i ≡ j → ⊥) (operands_in c.constructor.body) → n < length (operands_in c.constructor.body)
    → slice_get (choices inner) n ≡ Some e → choice_of c.constructor inner (get_or (operands_in c.constructor.body) n d) ≡ Some e
choice_at c inner n d e once l is = ap (option_and_then (slice_get (choices inner))) (position_of (operands_in c.constructor.body) n d once l) ∙ is

-- ---- arguments that admit

-- whether the argument for operand number j admits the entry
abbrev pub admits_at : {n : _} → List Known → Row_of-Argument n → ℕ → RawEntry → Bool
admits_at known end_of-Argument j e = true
admits_at known (more_of-Argument a arguments) zero e = argument_admits known (Some e) a
admits_at known (more_of-Argument a arguments) (suc j) e = admits_at known arguments j e

admitted_at : {n : _} (known : List Known) (arguments : Row_of-Argument n) (c : Known) (inner : List RawEntry) (o j : ℕ) (e : RawEntry)
    → arguments_admit known (Some c) inner o arguments ≡ true → choice_of c.constructor inner (o + j) ≡ Some e → admits_at known arguments j e ≡ true
admitted_at known end_of-Argument c inner o j e h is = refl
admitted_at known (more_of-Argument a arguments) c inner o zero e h is =
    let parts = and_parts (argument_admits known (choice_of c.constructor inner o) a) (arguments_admit known (Some c) inner (o + 1) arguments) h in
    let here : choice_of c.constructor inner o ≡ Some e = ap (choice_of c.constructor inner) (omega arith) ∙ is in
    subst (λ x. argument_admits known x a ≡ true) here parts.0
admitted_at known (more_of-Argument a arguments) c inner o (suc j) e h is =
    let parts = and_parts (argument_admits known (choice_of c.constructor inner o) a) (arguments_admit known (Some c) inner (o + 1) arguments) h in
    admitted_at known arguments c inner (o + 1) j e parts.1 (ap (choice_of c.constructor inner) (omega arith) ∙ is)

-- ---- what is known of choices

-- where the choice comes from
pub record Origin (known : List Known) (whole : List Shaped) (e : RawEntry) : Type 0 where
  pub number : ℕ
  pub constructor : Known
  pub shaped : Shaped
  pub is_known : slice_get known number ≡ Some constructor
  pub is_shaped : slice_get whole number ≡ Some shaped
  pub bytes : List ℕ
  pub place : ℕ
  pub result : Match
  pub found : Contains (constructor.body bytes place) result
  pub entry : e ≡ Choice (record { 0 = number }) (record { entries = result.binds }) []

-- a choice has one of the shapes of its constructor
pub own_shape : (tokens : Tokens) (known : List Known) (whole : List Shaped) → AreKnownShapes tokens known whole → (e : RawEntry) (o : Origin known whole e) (ss : List Shape)
    → AreAmong o.shaped.shapes ss → HasShapeInBoth tokens o.shaped.shapes ss o.result
own_shape tokens known whole known_shapes e o ss among =
    let h = zipped_at (IsKnownShape tokens) known whole o.number o.constructor o.shaped known_shapes o.is_known o.is_shaped in
    let of = h.shaped o.bytes o.place o.result o.found in
    record { shape = of.shape; first = of.member; second = among of.shape of.member; len = of.len; loose = of.loose }

-- each operand stands once in the body, each result has a choice for each, and where R allows these, and so gives operands these
-- shapes, the body has the shape that it has with them
pub record IsKnownChoice (tokens : Tokens) (known : List Known) (whole : List Shaped) (c : Known) (s : Shaped) : Type 0 where
  pub once : AllPairs (λ i j. i ≡ j → ⊥) (operands_in c.constructor.body)
  pub count : (bytes : List ℕ) (i : ℕ) (a : Match) → Contains (c.body bytes i) a → length (choices a.binds) ≡ length (operands_in c.constructor.body)
  pub chosen : (R : ℕ → RawEntry → Bool) (ops : ℕ → List Shape)
      → ((j : ℕ) (e : RawEntry) → R j e ≡ true → (o : Origin known whole e) → AreAmong o.shaped.shapes (operand_shapes whole s.constructor.operands j)
      → HasShapeInBoth tokens o.shaped.shapes (ops j) o.result)
      → (bytes : List ℕ) (i : ℕ) (a : Match) → Contains (c.body bytes i) a → AllZip (λ j e. R j e ≡ true) (operands_in c.constructor.body) (choices a.binds)
      → HasShapeInBoth tokens s.shapes (s.body ops) a

abbrev pub AreKnownChoices : Tokens → List Known → List Shaped → Type 0
AreKnownChoices tokens known whole = AllZip (IsKnownChoice tokens known whole) known whole

-- ---- applications

abbrev mutual
  -- each argument that is an inner pattern is an application
  pub HaveInnerApplications : {n : _} → Row_of-Argument n → Type 0
  HaveInnerApplications end_of-Argument = Unit {0}
  HaveInnerApplications (more_of-Argument a arguments) = IsOpenOrApplied a × HaveInnerApplications arguments

  pub IsOpenOrApplied : Argument → Type 0
  IsOpenOrApplied (Inner' s p) = IsInnerApplication p
  IsOpenOrApplied _ = Unit {0}

  pub IsInnerApplication : {n : _} → Row_of-Pattern n → Type 0
  IsInnerApplication end_of-Pattern = ⊥
  IsInnerApplication (more_of-Pattern p ps) = HasInnerApplications p

  pub HasInnerApplications : Pattern → Type 0
  HasInnerApplications (Apply' k s arguments) = HaveInnerApplications arguments
  HasInnerApplications _ = ⊥

module _ (tokens : Tokens) (known : List Known) (sx : ShapeContext) (known_shapes : AreKnownShapes tokens known sx.known) (known_choices : AreKnownChoices tokens known sx.known) where
  abbrev pub operands_of : {n : _} → Row_of-Argument n → List OperandKind → ℕ → List Shape
  operands_of arguments kinds j = unwrap_or (option_and_then (λ a. a) (slice_get (argument_shapes sx arguments) j)) (operand_shapes sx.known kinds j)

  abbrev ArgumentFits : Argument → Type 0
  ArgumentFits x = (e : RawEntry) (o : Origin known sx.known e) (ss : List Shape) → AreAmong o.shaped.shapes ss → argument_admits known (Some e) x ≡ true
      → HasShapeInBoth tokens o.shaped.shapes (unwrap_or (shapes_of_argument sx x) ss) o.result

  abbrev EachFits : {n : _} → Row_of-Argument n → Type 0
  EachFits end_of-Argument = Unit {0}
  EachFits (more_of-Argument a arguments) = ArgumentFits a × EachFits arguments

  fits_at : {n : _} (arguments : Row_of-Argument n) → EachFits arguments → (j : ℕ) (e : RawEntry) → admits_at known arguments j e ≡ true → (o : Origin known sx.known e) (ss : List Shape)
      → AreAmong o.shaped.shapes ss → HasShapeInBoth tokens o.shaped.shapes (unwrap_or (option_and_then (λ a. a) (slice_get (argument_shapes sx arguments) j)) ss) o.result
  fits_at end_of-Argument h j e admits o ss among = own_shape tokens known sx.known known_shapes e o ss among
  fits_at (more_of-Argument a arguments) h zero e admits o ss among = h.0 e o ss among admits
  fits_at (more_of-Argument a arguments) h (suc j) e admits o ss among = fits_at arguments h.1 j e admits o ss among

  -- a result of the constructor's body that the arguments admit has one of the shapes of the application
  pub applied : {n : _} (arguments : Row_of-Argument n) → EachFits arguments → (k : ℕ) (c : Known) (s : Shaped) → slice_get known k ≡ Some c → slice_get sx.known k ≡ Some s
      → (bytes : List ℕ) (i : ℕ) (a : Match) → Contains (c.body bytes i) a → arguments_admit known (Some c) a.binds 0 arguments ≡ true
      → HasShapeInBoth tokens s.shapes (s.body (operands_of arguments s.constructor.operands)) a
  applied arguments fits k c s is_known is_shaped bytes i a found admitted =
      let h = zipped_at (IsKnownChoice tokens known sx.known) known sx.known k c s known_choices is_known is_shaped in
      let js = operands_in c.constructor.body in
      let zip = zip_from_places (λ j e. admits_at known arguments j e ≡ true) js (choices a.binds) (h.count bytes i a found)
      (λ n d e l is. admitted_at known arguments c a.binds 0 (get_or js n d) e admitted (ap (choice_of c.constructor a.binds) (omega arith) ∙ choice_at c a.binds n d e h.once l is)) in
      h.chosen (admits_at known arguments) (operands_of arguments s.constructor.operands)
      (λ j e r o among. fits_at arguments fits j e r o (operand_shapes sx.known s.constructor.operands j) among) bytes i a found zip

  mutual
    pub each_fits : {n : _} (arguments : Row_of-Argument n) → HaveInnerApplications arguments → EachFits arguments
    each_fits end_of-Argument h = tt
    each_fits (more_of-Argument a arguments) h = (argument_fits a h.0, each_fits arguments h.1)

    argument_fits : (x : Argument) → IsOpenOrApplied x → ArgumentFits x
    argument_fits Any h = λ e o ss among admits. own_shape tokens known sx.known known_shapes e o ss among
    argument_fits (Name n) h = λ e o ss among admits. own_shape tokens known sx.known known_shapes e o ss among
    argument_fits (Inner' s (more_of-Pattern (Apply' k t arguments) ps)) h = λ e o ss among admits.
        let told = subst (λ x. application_admits known (Some x) (Apply' k t arguments) ≡ true) o.entry admits in
        let items = ap (λ xs. eqb o.number k.0 && arguments_admit known (slice_get known k.0) xs 0 arguments) (items_hidden-the_row-RawEntry-0 o.result.binds) in
        let parts = and_parts (eqb o.number k.0) (arguments_admit known (slice_get known k.0) o.result.binds 0 arguments) (sym items ∙ told) in
        let same = eqb-true o.number k.0 parts.0 in
        let is_known : slice_get known k.0 ≡ Some o.constructor = ap (slice_get known) (sym same) ∙ o.is_known in
        let is_shaped : slice_get sx.known k.0 ≡ Some o.shaped = ap (slice_get sx.known) (sym same) ∙ o.is_shaped in
        let whole = λ (x : Shaped). x.body (operands_of arguments x.constructor.operands) in
        let here : whole o.shaped ≡ option_map_or whole (slice_get sx.known k.0) [] = ap (λ x. option_map_or whole x []) (sym is_shaped) in
        subst (λ ts. HasShapeInBoth tokens o.shaped.shapes ts o.result) here
        (applied arguments (each_fits arguments h) k.0 o.constructor o.shaped is_known is_shaped o.bytes o.place o.result o.found
        (subst (λ x. arguments_admit known x o.result.binds 0 arguments ≡ true) is_known parts.1))
    argument_fits (Inner' s (more_of-Pattern (Token c) ps)) h = absurd h
    argument_fits (Inner' s (more_of-Pattern (Limit f relation limit) ps)) h = absurd h
    argument_fits (Inner' s (more_of-Pattern (Bind f) ps)) h = absurd h
    argument_fits (Inner' s (more_of-Pattern (Operand j) ps)) h = absurd h
    argument_fits (Inner' s (more_of-Pattern (Label' l t p) ps)) h = absurd h
    argument_fits (Inner' s (more_of-Pattern (Both' t qs) ps)) h = absurd h
    argument_fits (Inner' s (more_of-Pattern (Either' t qs) ps)) h = absurd h
    argument_fits (Inner' s (more_of-Pattern (Chain' t qs) ps)) h = absurd h
    argument_fits (Inner' s (more_of-Pattern (Loose' t p) ps)) h = absurd h
    argument_fits (Inner' s (more_of-Pattern Empty ps)) h = absurd h

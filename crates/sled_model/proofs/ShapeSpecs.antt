-- The results of a pattern among the constructors of a description have its shapes.
use Rattle.std.proofs.Common.{◌≡◌, ⊎_elim, ℕ, zero, suc, ◌+◌, Bool, true, false, cond, List, [], ◌∷◌, ◌++◌, length, map, filter, Contains, Option, Some, None, refl, sym, ap, ◌∙◌, subst, arith}
use Rattle.std.specs.List.{AllZip, AllPairs, slice_get, list_any, flat_map}
use Rattle.std.proofs.lemmas.Bool.{cond_both, or_cases, or_left, or_right}
use Rattle.std.specs.Option.{option_map_or}
use Rattle.std.proofs.lemmas.List.Concat.{flat_map-append}
use Rattle.sled_model.specs.declared.spec.Spec.{Spec}
use Rattle.sled_model.specs.declared.pattern.Pattern.{Pattern, items-the_row-Argument}
use Rattle.sled_model.specs.declared.pattern.Pattern.TheVariants.{Token, Limit, Bind, Operand, Label', Both', Either', Chain', Loose', Apply', Empty}
use Rattle.std.proofs.lemmas.List.Elements.{Contains-append_left, Contains-append_right, Contains-append_cases}
use Rattle.std.proofs.lemmas.Slice.Zip.{all_zipped_more}
use Rattle.token_bits.specs.declared.tokens.Tokens.{Tokens}
use Rattle.sled_model.specs.declared.raw.Match.{Match}
use Rattle.sled_model.specs.declared.raw.RawEntry.{RawEntry}
use Rattle.sled_model.specs.declared.raw.RawEntry.TheVariants.{Choice}
use Rattle.sled_model.specs.declared.shape.Shape.{Shape}
use Rattle.sled_model.specs.declared.constructor.TypeId.{TypeId}
use Rattle.sled_model.specs.declared.constructor.OperandKind.{OperandKind}
use Rattle.sled_model.specs.declared.constructor.OperandKind.TheVariants.{Plain, Extended, Typed, Whole, Sliced}
use Rattle.sled_model.specs.declared.constructor.Constructor.{Constructor}
use Rattle.sled_model.specs.Leaves.{IsNoApplication, AllLeaves}
use Rattle.sled_model.specs.Measures.{each_from}
use Rattle.sled_model.specs.Results.{Known, Context, results, results_from, makes, choice_match, choices_from, kind_results, operand_results, operands_in, known_from, arm_context, arguments_admit}
use Rattle.sled_model.specs.Shapes.{Shaped, ShapeContext, shapes, type_shapes, kind_shapes, operand_shapes, body_shapes, shaped, spec_shapes, conjunctions_agree, is_same_shape}
use Rattle.sled_model.proofs.Filters.{keeps}
use Rattle.sled_model.proofs.Members.{Contains-nil, Contains-here, Contains-there, Contains-at, Contains-cons_cases, Contains-map_cases, Contains-filter_cases}
use Rattle.sled_model.proofs.ShapeLemmas.{AreAmong, same_shape_equal, same_shape_self}
use Rattle.sled_model.proofs.ShapeContexts.{IsLeaf, AllLeaves-weaker, HasShapesAmong, shapes-within, agree-within}
use Rattle.sled_model.proofs.ShapeResults.{HasShape-at, HasItsShapes, shaped_from, results_shaped}
use Rattle.sled_model.proofs.ShapeKnown.{IsKnownShape, AreKnownShapes, BodiesAgree, AreShapesOf, shaped_leaf, constructors_shaped, known_step}
use Rattle.sled_model.proofs.ShapeChosen.{IsFixed, IsChosen, choices, results_chosen}
use Rattle.sled_model.proofs.ShapeApplied.{operands_of, applied, each_fits, HaveInnerApplications, HasShapeInBoth, Origin, IsKnownChoice, AreKnownChoices, own_shape}

-- ---- shapes of more constructors

kind_grows : (known more : List Shaped) (kind : OperandKind) → AreAmong (kind_shapes known kind) (kind_shapes (known ++ more) kind)
kind_grows known more (Typed t) = λ a m.
    let f = λ (c : Shaped). cond (makes t c.constructor.result) c.shapes [] in
    subst (λ ss. Contains ss a) (sym (flat_map-append f known more)) (Contains-append_left (flat_map f known) (flat_map f more) a m)
kind_grows known more (Plain f) = λ a m. m
kind_grows known more (Extended f) = λ a m. m
kind_grows known more Whole = λ a m. m
kind_grows known more Sliced = λ a m. m

kinds_grow : (known more : List Shaped) (o : Option OperandKind) → AreAmong (option_map_or (kind_shapes known) o []) (option_map_or (kind_shapes (known ++ more)) o [])
kinds_grow known more None = λ a m. m
kinds_grow known more (Some kind) = kind_grows known more kind

among_leaf : (tokens : Tokens) (known : List Shaped) (f g : ℕ → List Shape) → ((j : ℕ) → AreAmong (f j) (g j)) → (p : Pattern) → IsLeaf p → IsNoApplication p
    → HasShapesAmong (record { tokens = tokens; operands = f; known = known }) (record { tokens = tokens; operands = g; known = known }) p
among_leaf tokens known f g h (Token c) leaf applies = λ a m. m
among_leaf tokens known f g h (Limit field relation limit) leaf applies = λ a m. m
among_leaf tokens known f g h (Bind field) leaf applies = λ a m. m
among_leaf tokens known f g h (Operand k) leaf applies = h k
among_leaf tokens known f g h (Label' l s p) leaf applies = absurd leaf
among_leaf tokens known f g h (Both' s ps) leaf applies = absurd leaf
among_leaf tokens known f g h (Either' s ps) leaf applies = absurd leaf
among_leaf tokens known f g h (Chain' s ps) leaf applies = absurd leaf
among_leaf tokens known f g h (Loose' s p) leaf applies = absurd leaf
among_leaf tokens known f g h (Apply' k s arguments) leaf applies = absurd applies
among_leaf tokens known f g h Empty leaf applies = λ a m. m

-- ---- shapes that stand in both lists

common : List Shape → List Shape → List Shape
common ss ts = filter (λ a. list_any (is_same_shape a) ts) ss

any_member : (ts : List Shape) (a : Shape) → list_any (is_same_shape a) ts ≡ true → Contains ts a
any_member [] a h = cc
any_member (t ∷ ts) a h = ⊎_elim
    (λ e. Contains-at (t ∷ ts) t a (sym (same_shape_equal a t e)) (Contains-here t ts))
    (λ r. Contains-there t ts a (any_member ts a r))
    (or_cases (is_same_shape a t) (list_any (is_same_shape a) ts) h)

member_any : (ts : List Shape) (a : Shape) → Contains ts a → list_any (is_same_shape a) ts ≡ true
member_any [] a m = absurd (Contains-nil a m)
member_any (t ∷ ts) a m = ⊎_elim
    (λ e. or_left (is_same_shape a t) (list_any (is_same_shape a) ts) (subst (λ b. is_same_shape a b ≡ true) (sym e) (same_shape_self a)))
    (λ r. or_right (is_same_shape a t) (list_any (is_same_shape a) ts) (member_any ts a r))
    (Contains-cons_cases t ts a m)

filter_member : (p : Shape → Bool) (xs : List Shape) (y : Shape) → Contains xs y → p y ≡ true → Contains (filter p xs) y
filter_member p [] y m h = absurd (Contains-nil y m)
filter_member p (x ∷ xs) y m h = ⊎_elim
    (λ (e : x ≡ y). subst (λ zs. Contains zs y) (sym (keeps p x xs (ap p e ∙ h))) (Contains-at (x ∷ filter p xs) x y e (Contains-here x (filter p xs))))
    (λ r. let rest = filter_member p xs y r h in cond_both (p x) (x ∷ filter p xs) (filter p xs) (λ zs. Contains zs y) (λ yes. Contains-there x (filter p xs) y rest) (λ no. rest))
    (Contains-cons_cases x xs y m)

common_first : (ss ts : List Shape) → AreAmong (common ss ts) ss
unfolding common
common_first ss ts a m = (Contains-filter_cases (λ x. list_any (is_same_shape x) ts) ss a m).0

common_second : (ss ts : List Shape) → AreAmong (common ss ts) ts
unfolding common
common_second ss ts a m = any_member ts a (Contains-filter_cases (λ x. list_any (is_same_shape x) ts) ss a m).1

common_both : (ss ts : List Shape) (a : Shape) → Contains ss a → Contains ts a → Contains (common ss ts) a
unfolding common
common_both ss ts a m n = filter_member (λ x. list_any (is_same_shape x) ts) ss a m (member_any ts a n)

-- ---- where a choice comes from

-- the result is a choice, of a constructor whose shapes are among these
record IsChoice (known : List Known) (whole : List Shaped) (ss : List Shape) (a : Match) : Type 0 where
  entry : RawEntry
  origin : Origin known whole entry
  binds : choices a.binds ≡ entry ∷ []
  len : a.len ≡ origin.result.len
  loose : a.loose ≡ origin.result.loose
  among : AreAmong origin.shaped.shapes ss

wider_choice : (known : List Known) (whole : List Shaped) (ss ts : List Shape) (a : Match) → AreAmong ss ts → IsChoice known whole ss a → IsChoice known whole ts a
wider_choice known whole ss ts a within h =
    record { entry = h.entry; origin = h.origin; binds = h.binds; len = h.len; loose = h.loose; among = λ b m. within b (h.among b m) }

module _ (tokens : Tokens) (known : List Known) (whole : List Shaped) where
  chosen_here : (k : ℕ) (b : Bool) (c : Known) (s : Shaped) → slice_get known k ≡ Some c → slice_get whole k ≡ Some s → (bytes : List ℕ) (i : ℕ) (a : Match)
      → Contains (cond b (map (choice_match k []) (c.body bytes i)) []) a → IsChoice known whole (cond b s.shapes []) a
  chosen_here k false c s is_known is_shaped bytes i a m = absurd (Contains-nil a m)
  chosen_here k true c s is_known is_shaped bytes i a m =
      let from = Contains-map_cases (choice_match k []) (c.body bytes i) a m in
      let e : RawEntry = Choice (record { 0 = k }) (record { entries = from.0.binds }) [] in
      subst (IsChoice known whole s.shapes) from.2 (record {
        entry = e;
        origin = record { number = k; constructor = c; shaped = s; is_known = is_known; is_shaped = is_shaped; bytes = bytes; place = i; result = from.0; found = from.1; entry = refl };
        binds = refl;
        len = refl;
        loose = refl;
        among = λ x n. n;
      })

  choices_origin : (k : ℕ) (cs : List Known) (ss : List Shaped) (t : TypeId) → ((n : ℕ) (c : Known) → slice_get cs n ≡ Some c → slice_get known (k + n) ≡ Some c)
      → ((n : ℕ) (s : Shaped) → slice_get ss n ≡ Some s → slice_get whole (k + n) ≡ Some s) → AreKnownShapes tokens cs ss
      → (bytes : List ℕ) (i : ℕ) (a : Match) → Contains (choices_from k cs t bytes i) a → IsChoice known whole (type_shapes ss t) a
  choices_origin k [] ss t there these h bytes i a m = absurd (Contains-nil a m)
  choices_origin k (c ∷ cs) [] t there these h bytes i a m = absurd h
  choices_origin k (c ∷ cs) (s ∷ ss) t there these h bytes i a m =
      let firsts = cond (makes t s.constructor.result) s.shapes [] in let rest = type_shapes ss t in
      let here : slice_get known k ≡ Some c = ap (slice_get known) (omega arith) ∙ there 0 c refl in
      let this : slice_get whole k ≡ Some s = ap (slice_get whole) (omega arith) ∙ these 0 s refl in
      ⊎_elim
      (λ l. wider_choice known whole firsts (firsts ++ rest) a (Contains-append_left firsts rest)
      (subst (λ (x : Constructor). IsChoice known whole (cond (makes t x.result) s.shapes []) a) h.0.same (chosen_here k (makes t c.constructor.result) c s here this bytes i a l)))
      (λ r. wider_choice known whole rest (firsts ++ rest) a (Contains-append_right firsts rest)
      (choices_origin (k + 1) cs ss t (λ n d e. ap (slice_get known) (omega arith) ∙ there (suc n) d e) (λ n d e. ap (slice_get whole) (omega arith) ∙ these (suc n) d e) h.1 bytes i a r))
      (Contains-append_cases (cond (makes t c.constructor.result) (map (choice_match k []) (c.body bytes i)) []) (choices_from (k + 1) cs t bytes i) a m)

  module _ (h : AreKnownShapes tokens known whole) where
    kind_origin : (kind : OperandKind) (bytes : List ℕ) (i : ℕ) (a : Match) → Contains (kind_results known kind bytes i) a → IsChoice known whole (kind_shapes whole kind) a
    kind_origin (Typed t) bytes i a m =
        choices_origin 0 known whole t (λ n c e. ap (slice_get known) (omega arith) ∙ e) (λ n s e. ap (slice_get whole) (omega arith) ∙ e) h bytes i a m
    kind_origin (Plain f) bytes i a m = absurd (Contains-nil a m)
    kind_origin (Extended f) bytes i a m = absurd (Contains-nil a m)
    kind_origin Whole bytes i a m = absurd (Contains-nil a m)
    kind_origin Sliced bytes i a m = absurd (Contains-nil a m)

    operand_origin : (kinds : List OperandKind) (k : ℕ) (bytes : List ℕ) (i : ℕ) (a : Match) → Contains (results_from (slice_get kinds k) (λ kind. kind_results known kind bytes i)) a
        → IsChoice known whole (operand_shapes whole kinds k) a
    operand_origin [] k bytes i a m = absurd (Contains-nil a m)
    operand_origin (kind ∷ kinds) zero bytes i a m = kind_origin kind bytes i a m
    operand_origin (kind ∷ kinds) (suc k) bytes i a m = operand_origin kinds k bytes i a m

-- ---- constructors

module _ (tokens : Tokens) (known : List Known) (whole : List Shaped) (h : AreKnownShapes tokens known whole) (c : Constructor)
    (applies : AllLeaves IsNoApplication c.body) (fixed : IsFixed c.body) (agree : conjunctions_agree (body_shapes tokens whole c.operands) c.body ≡ true) where
  within : (f g : ℕ → List Shape) → ((j : ℕ) → AreAmong (f j) (g j))
      → AllLeaves (HasShapesAmong (record { tokens = tokens; operands = f; known = whole }) (record { tokens = tokens; operands = g; known = whole })) c.body
  within f g more = AllLeaves-weaker IsNoApplication _ (among_leaf tokens whole f g more) c.body applies

  module _ (R : ℕ → RawEntry → Bool) (ops : ℕ → List Shape)
      (each : (j : ℕ) (e : RawEntry) → R j e ≡ true → (o : Origin known whole e) → AreAmong o.shaped.shapes (operand_shapes whole c.operands j) → HasShapeInBoth tokens o.shaped.shapes (ops j) o.result) where
    both_operands : ℕ → List Shape
    both_operands j = common (operand_shapes whole c.operands j) (ops j)

    both_first : (j : ℕ) → AreAmong (both_operands j) (operand_shapes whole c.operands j)
    unfolding both_operands
    both_first j = common_first (operand_shapes whole c.operands j) (ops j)

    both_second : (j : ℕ) → AreAmong (both_operands j) (ops j)
    unfolding both_operands
    both_second j = common_second (operand_shapes whole c.operands j) (ops j)

    operand_chosen : (k : ℕ) (bytes : List ℕ) (i : ℕ) (a : Match) → Contains (operand_results (record { tokens = tokens; operands = c.operands; known = known }) k bytes i) a
        → IsChosen tokens (λ j e. R j e ≡ true) (k ∷ []) (both_operands k) a
    unfolding both_operands
    operand_chosen k bytes i a m =
        let ss = operand_shapes whole c.operands k in
        let x = operand_origin tokens known whole h c.operands k bytes i a m in record {
          count = ap length x.binds;
          shape = λ z.
              let r = (subst (AllZip (λ j e. R j e ≡ true) (k ∷ [])) x.binds z).0 in
              let b = each k x.entry r x.origin x.among in
              record { shape = b.shape; member = common_both ss (ops k) b.shape (x.among b.shape b.first) b.second; len = x.len ∙ b.len; loose = x.loose ∙ b.loose };
        }

    body_chosen : (bytes : List ℕ) (i : ℕ) (a : Match) → Contains (results (record { tokens = tokens; operands = c.operands; known = known }) c.body bytes i) a
        → IsChosen tokens (λ j e. R j e ≡ true) (operands_in c.body) (shapes (record { tokens = tokens; operands = both_operands; known = whole }) c.body) a
    body_chosen =
        results_chosen (record { tokens = tokens; operands = c.operands; known = known }) (record { tokens = tokens; operands = both_operands; known = whole }) refl (λ j e. R j e ≡ true) operand_chosen c.body fixed
        (agree-within (record { tokens = tokens; operands = both_operands; known = whole }) (body_shapes tokens whole c.operands) c.body (within both_operands (operand_shapes whole c.operands) both_first) agree)

    body_both : (bytes : List ℕ) (i : ℕ) (a : Match) → Contains (results (record { tokens = tokens; operands = c.operands; known = known }) c.body bytes i) a
        → AllZip (λ j e. R j e ≡ true) (operands_in c.body) (choices a.binds)
        → HasShapeInBoth tokens (shapes (body_shapes tokens whole c.operands) c.body) (shapes (record { tokens = tokens; operands = ops; known = whole }) c.body) a
    body_both bytes i a m zip =
        let of = (body_chosen bytes i a m).shape zip in
        let sx : ShapeContext = record { tokens = tokens; operands = both_operands; known = whole } in record {
          shape = of.shape;
          first = shapes-within sx (body_shapes tokens whole c.operands) c.body (within both_operands (operand_shapes whole c.operands) both_first) of.shape of.member;
          second = shapes-within sx (record { tokens = tokens; operands = ops; known = whole }) c.body (within both_operands ops both_second) of.shape of.member;
          len = of.len;
          loose = of.loose;
        }

-- ---- more constructors

slice_get-front : {X : Type 0} (xs ys : List X) (k : ℕ) (x : X) → slice_get xs k ≡ Some x → slice_get (xs ++ ys) k ≡ Some x
slice_get-front [] ys k x e = cc
slice_get-front (z ∷ xs) ys zero x e = e
slice_get-front (z ∷ xs) ys (suc k) x e = slice_get-front xs ys k x e

module _ (tokens : Tokens) (known later : List Known) (whole more : List Shaped) where
  abbrev origin-front : (e : RawEntry) → Origin known whole e → Origin (known ++ later) (whole ++ more) e
  origin-front e o = record {
    number = o.number;
    constructor = o.constructor;
    shaped = o.shaped;
    is_known = slice_get-front known later o.number o.constructor o.is_known;
    is_shaped = slice_get-front whole more o.number o.shaped o.is_shaped;
    bytes = o.bytes;
    place = o.place;
    result = o.result;
    found = o.found;
    entry = o.entry;
  }

  -- what is known of choices stays so
  still_choices : (cs : List Known) (ss : List Shaped) → AllZip (IsKnownChoice tokens known whole) cs ss → AllZip (IsKnownChoice tokens (known ++ later) (whole ++ more)) cs ss
  still_choices [] [] h = tt
  still_choices [] (s ∷ ss) h = absurd h
  still_choices (c ∷ cs) [] h = absurd h
  still_choices (c ∷ cs) (s ∷ ss) h = (
    record {
      once = h.0.once;
      count = h.0.count;
      chosen = λ R ops each. h.0.chosen R ops
          (λ j e r o among. each j e r (origin-front e o) (λ a m. kinds_grow whole more (slice_get s.constructor.operands j) a (among a m)));
    },
    still_choices cs ss h.1,
  )

-- each body has each operand once, and none in a disjunction
abbrev pub BodiesChoose : List Constructor → Type 0
BodiesChoose [] = Unit {0}
BodiesChoose (c ∷ cs) = IsFixed c.body × AllPairs (λ i j. i ≡ j → ⊥) (operands_in c.body) × BodiesChoose cs

pub constructors_choose : (tokens : Tokens) (known : List Known) (whole : List Shaped) (cs : List Constructor) → AreKnownShapes tokens known whole → AreKnownChoices tokens known whole
    → BodiesAgree tokens whole cs → BodiesChoose cs → AreKnownChoices tokens (known_from tokens known cs) (each_from (shaped tokens) whole cs)
constructors_choose tokens known whole [] h g agree choose = g
constructors_choose tokens known whole (c ∷ cs) h g agree choose =
    let now : Known = record { constructor = c; body = results (record { tokens = tokens; operands = c.operands; known = known }) c.body } in
    let last = shaped tokens whole c in
    let new : IsKnownChoice tokens (known ++ now ∷ []) (whole ++ last ∷ []) now last = record {
      once = choose.1;
      count = λ bytes i a m. (body_chosen tokens known whole h c agree.0 choose.0 agree.1 (λ j e. true) (operand_shapes whole c.operands)
          (λ j e r o among. own_shape tokens known whole h e o (operand_shapes whole c.operands j) among) bytes i a m).count;
      chosen = λ R ops each bytes i a m zip. body_both tokens known whole h c agree.0 choose.0 agree.1 R ops
          (λ j e r o among. each j e r (origin-front tokens known (now ∷ []) whole (last ∷ []) e o) (λ x n. kinds_grow whole (last ∷ []) (slice_get c.operands j) x (among x n))) bytes i a m zip;
    } in
    constructors_choose tokens (known ++ now ∷ []) (whole ++ last ∷ []) cs (known_step tokens known whole c h agree.0 agree.1)
    (all_zipped_more (IsKnownChoice tokens (known ++ now ∷ []) (whole ++ last ∷ [])) known whole now last (still_choices tokens known (now ∷ []) whole (last ∷ []) known whole g) new)
    agree.2 choose.2

-- ---- patterns with applications

-- each inner argument of an application is an application
abbrev pub AppliesRightly : Pattern → Type 0
AppliesRightly (Apply' k s arguments) = HaveInnerApplications arguments
AppliesRightly _ = Unit {0}

known_partner : {X Y : Type 0} (R : X → Y → Type 0) (xs : List X) (ys : List Y) (k : ℕ) (x : X) → AllZip R xs ys → slice_get xs k ≡ Some x → (y : Y) × (slice_get ys k ≡ Some y)
known_partner R [] ys k x h e = cc
known_partner R (a ∷ xs) [] k x h e = absurd h
known_partner R (a ∷ xs) (b ∷ ys) zero x h e = (b, refl)
known_partner R (a ∷ xs) (b ∷ ys) (suc k) x h e = known_partner R xs ys k x h.1 e

module _ (cx : Context) (sx : ShapeContext) (h : AreShapesOf cx sx) (g : AreKnownChoices sx.tokens cx.known sx.known) where
  applied_leaf : (p : Pattern) → IsLeaf p → AppliesRightly p → HasItsShapes cx sx p
  applied_leaf (Token c) leaf inner = shaped_leaf cx sx h (Token c) leaf tt
  applied_leaf (Limit f relation limit) leaf inner = shaped_leaf cx sx h (Limit f relation limit) leaf tt
  applied_leaf (Bind f) leaf inner = shaped_leaf cx sx h (Bind f) leaf tt
  applied_leaf (Operand k) leaf inner = shaped_leaf cx sx h (Operand k) leaf tt
  applied_leaf (Label' l s p) leaf inner = absurd leaf
  applied_leaf (Both' s ps) leaf inner = absurd leaf
  applied_leaf (Either' s ps) leaf inner = absurd leaf
  applied_leaf (Chain' s ps) leaf inner = absurd leaf
  applied_leaf (Loose' s p) leaf inner = absurd leaf
  applied_leaf (Apply' k s arguments) leaf inner = λ bytes i.
      let entries = items-the_row-Argument _ arguments in
      let ss = shapes sx (Apply' k s arguments) in
      shaped_from sx.tokens ss (slice_get cx.known k.0) _ (λ c is a m.
      let from = Contains-map_cases (choice_match k.0 entries) _ a m in
      let admitted = λ (b : Match). arguments_admit cx.known (slice_get cx.known k.0) b.binds 0 arguments in
      let kept = Contains-filter_cases admitted (c.body bytes i) from.0 from.1 in
      let partner = known_partner (IsKnownShape sx.tokens) cx.known sx.known k.0 c h.known is in
      let whole = λ (x : Shaped). x.body (operands_of sx.tokens cx.known sx h.known g arguments x.constructor.operands) in
      let here : whole partner.0 ≡ ss = ap (λ x. option_map_or whole x []) (sym partner.1) in
      let b = applied sx.tokens cx.known sx h.known g arguments (each_fits sx.tokens cx.known sx h.known g arguments inner) k.0 c partner.0 is partner.1 bytes i from.0 kept.0
      (subst (λ x. arguments_admit cx.known x from.0.binds 0 arguments ≡ true) is kept.1) in
      HasShape-at sx.tokens ss (choice_match k.0 entries from.0) a from.2
      (record { shape = b.shape; member = subst (λ ts. Contains ts b.shape) here b.second; len = b.len; loose = b.loose }))
  applied_leaf Empty leaf inner = shaped_leaf cx sx h Empty leaf tt

  -- among constructors with these shapes, each result of a pattern has one of its shapes, where the conjunctions agree
  pub known_shaped : (p : Pattern) → AllLeaves AppliesRightly p → conjunctions_agree sx p ≡ true → HasItsShapes cx sx p
  known_shaped p inner agree = results_shaped cx sx p (AllLeaves-weaker AppliesRightly (HasItsShapes cx sx) applied_leaf p inner) agree

-- in the context of a description's arms, where the bodies of its constructors are as the language asks
pub arm_shaped : (spec : Spec) → BodiesAgree spec.tokens [] spec.constructors → BodiesChoose spec.constructors → (p : Pattern) → AllLeaves AppliesRightly p
    → conjunctions_agree (spec_shapes spec) p ≡ true → HasItsShapes (arm_context spec) (spec_shapes spec) p
arm_shaped spec agree choose =
    known_shaped (arm_context spec) (spec_shapes spec)
    (record { tokens = refl; known = constructors_shaped spec.tokens [] [] spec.constructors tt agree; operands = λ k a m. m })
    (constructors_choose spec.tokens [] [] spec.constructors tt tt agree choose)

-- The bodies of constructors that are added are short, where each of their shapes is.
use Rattle.std.proofs.Common.{◌≡◌, ℕ, ◌≤◌, Bool, true, false, cond, leb, List, [], ◌∷◌, ◌++◌, ◌↔◌, ◌&&◌, All, Contains, Option, Some, None, slice_get, refl, sym, ap, ◌∙◌, subst, arith}
use Rattle.std.specs.List.{flat_map}
use Rattle.std.specs.Option.{option_map_or}
use Rattle.std.proofs.lemmas.Bool.{and_parts, leb-true}
use Rattle.std.proofs.lemmas.List.{append-nil}
use Rattle.std.proofs.lemmas.List.Concat.{flat_map-append}
use Rattle.std.proofs.lemmas.List.Elements.{All-nil, All-cons, All-head, All-tail, All-push, All-weaker}
use Rattle.token_bits.specs.declared.tokens.Tokens.{Tokens}
use Rattle.sled_model.specs.declared.raw.Match.{Match}
use Rattle.sled_model.specs.declared.shape.Shape.{Shape}
use Rattle.sled_model.specs.declared.constructor.TypeId.{TypeId}
use Rattle.sled_model.specs.declared.constructor.OperandKind.{OperandKind}
use Rattle.sled_model.specs.declared.constructor.OperandKind.TheVariants.{Plain, Extended, Typed, Whole, Sliced}
use Rattle.sled_model.specs.declared.constructor.Constructor.{Constructor}
use Rattle.sled_model.specs.Leaves.{IsNoApplication, AllLeaves}
use Rattle.sled_model.specs.Measures.{each_from}
use Rattle.sled_model.specs.Results.{Known, Context, results, makes, known_from}
use Rattle.sled_model.specs.Shapes.{Shaped, ShapeContext, shapes, kind_shapes, operand_shapes, body_shapes, shaped, conjunctions_agree, shape_bytes, lengths_within}
use Rattle.sled_model.proofs.Members.{Contains-here, Contains-there, list_all_at_member}
use Rattle.sled_model.proofs.ShapeLemmas.{lengths_within-same}
use Rattle.sled_model.proofs.ShapeContexts.{HasSameForm, operands_form}
use Rattle.sled_model.proofs.ShapeResults.{HasShape}
use Rattle.sled_model.proofs.ShapeKnown.{AreKnownShapes, BodiesAgree, operands_shaped, known_step}
use Rattle.match_meaning.specs.Readable.{HasShortBody}

-- ---- lists

all_members : {X : Type 0} (P : X → Type 0) (xs : List X) → ((x : X) → Contains xs x → P x) → All P xs
all_members P [] h = All-nil P
all_members P (x ∷ xs) h = All-cons P x xs (h x (Contains-here x xs)) (all_members P xs (λ y m. h y (Contains-there x xs y m)))

pub known_append : (tokens : Tokens) (known : List Known) (cs ds : List Constructor) → known_from tokens known (cs ++ ds) ≡ known_from tokens (known_from tokens known cs) ds
known_append tokens known [] ds = refl
known_append tokens known (c ∷ cs) ds =
    known_append tokens (known ++ record { constructor = c; body = results (record { tokens = tokens; operands = c.operands; known = known }) c.body } ∷ []) cs ds

pub bodies_append : (tokens : Tokens) (whole : List Shaped) (cs ds : List Constructor) → BodiesAgree tokens whole cs → BodiesAgree tokens (each_from (shaped tokens) whole cs) ds
    → BodiesAgree tokens whole (cs ++ ds)
bodies_append tokens whole [] ds h g = g
bodies_append tokens whole (c ∷ cs) ds h g = (h.0, h.1, bodies_append tokens (whole ++ shaped tokens whole c ∷ []) cs ds h.2 g)

-- ---- one body

-- the body applies no constructor, its conjunctions agree over these constructors, and each of its shapes has 32 bytes at most
pub record IsFit (tokens : Tokens) (whole : List Shaped) (c : Constructor) : Type 0 where
  pub alone : AllLeaves IsNoApplication c.body
  pub agree : conjunctions_agree (body_shapes tokens whole c.operands) c.body ≡ true
  pub least : ℕ
  pub lengths : lengths_within least 32 tokens (shapes (body_shapes tokens whole c.operands) c.body) ≡ true

-- none of the operands is of the type that is made
abbrev pub MakesNoOperand : List OperandKind → Option TypeId → Type 0
MakesNoOperand kinds made = (k : ℕ) (t : TypeId) → slice_get kinds k ≡ Some (Typed t) → makes t made ≡ false

-- the constructor has these operands, and makes this type
pub record IsOf (kinds : List OperandKind) (made : Option TypeId) (c : Constructor) : Type 0 where
  pub operands : c.operands ≡ kinds
  pub result : c.result ≡ made

module _ (tokens : Tokens) where
  abbrev body_of : List Known → Constructor → Known
  body_of known c = record { constructor = c; body = results (record { tokens = tokens; operands = c.operands; known = known }) c.body }

  short_match : (least : ℕ) (ss : List Shape) → lengths_within least 32 tokens ss ≡ true → (a : Match) → HasShape tokens ss a → a.len ≤ 32
  short_match least ss within a h =
      let test = list_all_at_member (λ (s : Shape). leb least (shape_bytes tokens s) && leb (shape_bytes tokens s) 32) ss h.shape within h.member in
      let parts = and_parts (leb least (shape_bytes tokens h.shape)) (leb (shape_bytes tokens h.shape) 32) test in
      omega (arith, h.len, leb-true (shape_bytes tokens h.shape) 32 parts.1)

  short_body : (known : List Known) (whole : List Shaped) (c : Constructor) → AreKnownShapes tokens known whole → IsFit tokens whole c → HasShortBody (body_of known c)
  short_body known whole c h fit = λ bytes i.
      let cx : Context = record { tokens = tokens; operands = c.operands; known = known } in
      let sx = body_shapes tokens whole c.operands in
      all_members (λ (m : Match). m.len ≤ 32) (results cx c.body bytes i)
      (λ a m. short_match fit.least (shapes sx c.body) fit.lengths a
      (operands_shaped cx sx (record { tokens = refl; known = h; operands = λ k s n. n }) c.body fit.alone fit.agree bytes i a m))

  -- ---- more constructors

  module _ (kinds : List OperandKind) (made : Option TypeId) (apart : MakesNoOperand kinds made) where
    kind_kept : (whole : List Shaped) (s : Shaped) → s.constructor.result ≡ made → (kind : OperandKind) → ((t : TypeId) → kind ≡ Typed t → makes t made ≡ false)
        → kind_shapes (whole ++ s ∷ []) kind ≡ kind_shapes whole kind
    kind_kept whole s is (Typed t) other =
        let f = λ (c : Shaped). cond (makes t c.constructor.result) c.shapes [] in
        flat_map-append f whole (s ∷ [])
        ∙ ap (λ o. flat_map f whole ++ (cond (makes t o) s.shapes [] ++ [])) is
        ∙ ap (λ b. flat_map f whole ++ (cond b s.shapes [] ++ [])) (other t refl) ∙ append-nil (flat_map f whole)
    kind_kept whole s is (Plain f) other = refl
    kind_kept whole s is (Extended f) other = refl
    kind_kept whole s is Whole other = refl
    kind_kept whole s is Sliced other = refl

    operand_kept : (whole : List Shaped) (s : Shaped) → s.constructor.result ≡ made → (k : ℕ) → operand_shapes (whole ++ s ∷ []) kinds k ≡ operand_shapes whole kinds k
    operand_kept whole s is k = by_kind (slice_get kinds k) refl where
      by_kind : (o : Option OperandKind) → slice_get kinds k ≡ o → option_map_or (kind_shapes (whole ++ s ∷ [])) o [] ≡ option_map_or (kind_shapes whole) o []
      by_kind None at = refl
      by_kind (Some kind) at = kind_kept whole s is kind (λ t same. apart k t (at ∙ ap Some same))

    abbrev IsHere : Constructor → Type 0
    IsHere c = IsOf kinds made c

    fit_kept : (whole : List Shaped) (s : Shaped) → s.constructor.result ≡ made → (c : Constructor) → IsHere c → IsFit tokens whole c → IsFit tokens (whole ++ s ∷ []) c
    fit_kept whole s is c of fit =
        let before = body_shapes tokens whole c.operands in
        let later = body_shapes tokens (whole ++ s ∷ []) c.operands in
        let same : (k : ℕ) → later.operands k ≡ before.operands k =
        λ k. subst (λ (ks : List OperandKind). operand_shapes (whole ++ s ∷ []) ks k ≡ operand_shapes whole ks k) (sym of.operands) (operand_kept whole s is k) in
        let form : HasSameForm later before c.body = operands_form later before refl (λ k. subst (λ ss. (a : Shape) → Contains (later.operands k) a ↔ Contains ss a) (same k) (λ a. (λ m. m, λ m. m))) c.body fit.alone in
        record {
          alone = fit.alone;
          agree = form.agree ∙ fit.agree;
          least = fit.least;
          lengths = lengths_within-same fit.least 32 tokens (shapes later c.body) (shapes before c.body) form.members ∙ fit.lengths;
        }

    fits_kept : (whole : List Shaped) (s : Shaped) → s.constructor.result ≡ made → (cs : List Constructor) → All IsHere cs → All (IsFit tokens whole) cs → All (IsFit tokens (whole ++ s ∷ [])) cs
    fits_kept whole s is [] of fits = All-nil (IsFit tokens (whole ++ s ∷ []))
    fits_kept whole s is (c ∷ cs) of fits =
        All-cons (IsFit tokens (whole ++ s ∷ [])) c cs (fit_kept whole s is c (All-head IsHere c cs of) (All-head (IsFit tokens whole) c cs fits))
        (fits_kept whole s is cs (All-tail IsHere c cs of) (All-tail (IsFit tokens whole) c cs fits))

    -- constructors with the same operands, none of which is of the type that they make, may be added one after the other where each may be
    pub fit_added : (known : List Known) (whole : List Shaped) (cs : List Constructor) → AreKnownShapes tokens known whole → All IsHere cs → All (IsFit tokens whole) cs
        → All HasShortBody known → BodiesAgree tokens whole cs × All HasShortBody (known_from tokens known cs)
    fit_added known whole [] h of fits short = (tt, short)
    fit_added known whole (c ∷ cs) h of fits short =
        let fit = All-head (IsFit tokens whole) c cs fits in
        let later = fit_added (known ++ body_of known c ∷ []) (whole ++ shaped tokens whole c ∷ []) cs (known_step tokens known whole c h fit.alone fit.agree) (All-tail IsHere c cs of)
        (fits_kept whole (shaped tokens whole c) (All-head IsHere c cs of).result cs (All-tail IsHere c cs of) (All-tail (IsFit tokens whole) c cs fits))
        (All-push HasShortBody known (body_of known c) short (short_body known whole c h fit)) in
        ((fit.alone, fit.agree, later.0), later.1)

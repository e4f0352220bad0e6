-- Types that no constructor makes, and types over one constructor more.
use Rattle.std.proofs.Common.{◌≡◌, ℕ, ◌+◌, ◌<◌, ◌≤◌, max, Bool, true, false, if◌then◌else◌, eqb, List, [], ◌∷◌, ◌++◌, length, All, IfSome, Option, Some, None, refl, ap, ◌∙◌, arith, add-zero}
use Rattle.std.specs.List.{list_any, flat_map}
use Rattle.std.proofs.lemmas.Bool.{eqb-true}
use Rattle.std.proofs.lemmas.List.{append-nil}
use Rattle.std.proofs.lemmas.List.Concat.{flat_map-append}
use Rattle.std.proofs.lemmas.List.Folds.{list_any_none}
use Rattle.std.proofs.lemmas.List.Elements.{All-head, All-tail, All-weaker}
use Rattle.token_bits.specs.declared.tokens.Tokens.{Tokens}
use Rattle.sled_model.specs.declared.constructor.TypeId.{TypeId}
use Rattle.sled_model.specs.declared.constructor.OperandKind.{OperandKind}
use Rattle.sled_model.specs.declared.constructor.OperandKind.TheVariants.{Plain, Extended, Typed, Whole, Sliced}
use Rattle.sled_model.specs.declared.constructor.Constructor.{Constructor}
use Rattle.sled_model.specs.declared.spec.Spec.{Spec}
use Rattle.sled_model.specs.Measures.{Weighed, Sized, each_from, weighed, type_weight, sized, type_size}
use Rattle.sled_model.specs.Results.{makes}
use Rattle.sled_model.specs.Shapes.{Shaped, shaped, type_shapes}
use Rattle.sled_model.specs.Specs.{IsSpec, IsKnownKind, IsConstructorOf}
use Rattle.sled_model.proofs.MeasureLaws.{type_weight_push, type_size_push}
use Rattle.type_tables.specs.Types.{is_of_type}

pub type_shapes_push : (known : List Shaped) (s : Shaped) (t : TypeId)
    → type_shapes (known ++ s ∷ []) t ≡ type_shapes known t ++ (if makes t s.constructor.result then s.shapes else [])
type_shapes_push known s t =
    let f = λ (c : Shaped). if makes t c.constructor.result then c.shapes else [] in
    flat_map-append f known (s ∷ []) ∙ ap (λ ss. flat_map f known ++ ss) (append-nil (f s))

-- ---- types that are not made

-- the constructor makes none but the first n types
abbrev pub MakesBelow : ℕ → Constructor → Type 0
MakesBelow n c = IfSome c.result (λ t. t.0 < n)

not_true : (b : Bool) → (b ≡ true → ⊥) → b ≡ false
not_true true h = absurd (h refl)
not_true false h = refl

not_made : (n : ℕ) (o : Option TypeId) (t : TypeId) → IfSome o (λ r. r.0 < n) → n ≤ t.0 → makes t o ≡ false
not_made n None t h past = refl
not_made n (Some r) t h past = not_true (eqb r.0 t.0) (λ e. let same : r.0 ≡ t.0 = eqb-true r.0 t.0 e in let less : r.0 < n = h in omega arith)

module _ (n : ℕ) (t : TypeId) (past : n ≤ t.0) where
  pub weight_unmade : (tokens : Tokens) (known : List Weighed) (cs : List Constructor) → All (MakesBelow n) cs
      → type_weight (each_from (weighed tokens) known cs) t ≡ type_weight known t
  weight_unmade tokens known [] h = refl
  weight_unmade tokens known (c ∷ cs) h =
      let w = weighed tokens known c in
      weight_unmade tokens (known ++ w ∷ []) cs (All-tail (MakesBelow n) c cs h) ∙ type_weight_push known w t
      ∙ ap (λ b. type_weight known t + (if b then w.weight else 0)) (not_made n c.result t (All-head (MakesBelow n) c cs h) past) ∙ add-zero (type_weight known t)

  pub size_unmade : (known : List Sized) (cs : List Constructor) → All (MakesBelow n) cs → type_size (each_from sized known cs) t ≡ type_size known t
  size_unmade known [] h = refl
  size_unmade known (c ∷ cs) h =
      let s = sized known c in
      size_unmade (known ++ s ∷ []) cs (All-tail (MakesBelow n) c cs h) ∙ type_size_push known s t
      ∙ ap (λ b. max (type_size known t) (if b then s.size else 0)) (not_made n c.result t (All-head (MakesBelow n) c cs h) past) ∙ omega arith

  pub shapes_unmade : (tokens : Tokens) (known : List Shaped) (cs : List Constructor) → All (MakesBelow n) cs
      → type_shapes (each_from (shaped tokens) known cs) t ≡ type_shapes known t
  shapes_unmade tokens known [] h = refl
  shapes_unmade tokens known (c ∷ cs) h =
      let s = shaped tokens known c in
      shapes_unmade tokens (known ++ s ∷ []) cs (All-tail (MakesBelow n) c cs h) ∙ type_shapes_push known s t
      ∙ ap (λ b. type_shapes known t ++ (if b then s.shapes else [])) (not_made n c.result t (All-head (MakesBelow n) c cs h) past) ∙ append-nil (type_shapes known t)

  not_of_type : (tokens : Tokens) (kind : OperandKind) → IsKnownKind tokens n kind → is_of_type t.0 kind ≡ false
  not_of_type tokens (Plain f) h = refl
  not_of_type tokens (Extended f) h = refl
  not_of_type tokens (Typed id) h = not_true (eqb id.0 t.0) (λ e. let same : id.0 ≡ t.0 = eqb-true id.0 t.0 e in let less : id.0 < n = h in omega arith)
  not_of_type tokens Whole h = refl
  not_of_type tokens Sliced h = refl

  pub not_used : (tokens : Tokens) (cs : List Constructor) → All (IsConstructorOf tokens n) cs → list_any (λ (c : Constructor). list_any (is_of_type t.0) c.operands) cs ≡ false
  not_used tokens cs h = list_any_none (λ (c : Constructor). list_any (is_of_type t.0) c.operands) cs
      (All-weaker (IsConstructorOf tokens n) (λ c. list_any (is_of_type t.0) c.operands ≡ false)
      (λ c known. list_any_none (is_of_type t.0) c.operands (All-weaker (IsKnownKind tokens n) (λ kind. is_of_type t.0 kind ≡ false) (not_of_type tokens) c.operands known.operands)) cs h)

pub made_below : (spec : Spec) → IsSpec spec → All (MakesBelow (length spec.type_names)) spec.constructors
made_below spec sound =
    All-weaker (IsConstructorOf spec.tokens (length spec.type_names)) (MakesBelow (length spec.type_names)) (λ c known. known.result) spec.constructors sound.constructors

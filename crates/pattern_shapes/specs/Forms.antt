-- Lists of shapes without repeats, and what is said of a pattern's shapes.
use Rattle.std.specs.Prelude.{◌≡◌, ◌≢◌, ◌↔◌, Bool, ◌&&◌, List, [], ◌∷◌, ◌++◌, map, fold, get_or, Contains, AllPairs, if◌then◌else◌}
use Rattle.std.specs.List.{list_any, list_all, flat_map}
use Rattle.token_bits.specs.declared.tokens.Tokens.{Tokens}
use Rattle.sled_model.specs.declared.shape.Shape.{Shape}
use Rattle.sled_model.specs.declared.pattern.Pattern.{Pattern}
use Rattle.sled_model.specs.Shapes.{ShapeContext, shapes, both_shape, chain_shape, fold_shapes, members_agree, lefts_are_closed, is_same_shape, conjunctions_agree, chains_are_closed, sides_have_one_shape}
use Rattle.pattern_shapes.specs.declared.form.Form.{Form}
use Rattle.pattern_shapes.specs.declared.join.Joint.{Joint}
use Rattle.pattern_shapes.specs.declared.join.Joint.TheVariants.{Both, Chain}

-- a shape is in the one list exactly where it is in the other
abbrev pub SameMembers : List Shape → List Shape → Type 0
SameMembers ss ts = (a : Shape) → Contains ss a ↔ Contains ts a

-- whether the shape is in the list
abbrev pub has : List Shape → Shape → Bool
has ss a = list_any (is_same_shape a) ss

-- the shape, at the end of the list where it is not in it yet
abbrev pub with_shape : List Shape → Shape → List Shape
with_shape ss a = if has ss a then ss else ss ++ a ∷ []

-- the list with those of the other that are not in it yet
abbrev pub with_shapes : List Shape → List Shape → List Shape
with_shapes ss ts = fold with_shape ss ts

-- no shape stands twice
abbrev pub IsOnce : List Shape → Type 0
IsOnce ss = AllPairs (λ a b. a ≢ b) ss

-- two shapes, joined
abbrev pub joint_shape : Joint → Shape → Shape → Shape
joint_shape Both = both_shape
joint_shape Chain = chain_shape

-- the form says so: these are its shapes, each stands once, and this is whether they are as the language asks
pub record IsForm (ss : List Shape) (agreed ended same : Bool) (form : Form) : Type 0 where
  pub members : SameMembers form.shapes ss
  pub once : IsOnce form.shapes
  pub agree : form.agree ≡ agreed
  pub closed : form.closed ≡ ended
  pub alike : form.alike ≡ same

-- what a pattern stands among where operand number k has the shapes of list number k, or else none, and no constructor is known
abbrev pub operand_context : Tokens → List (List Shape) → ShapeContext
operand_context tokens operands = record { tokens = tokens; operands = λ k. get_or operands k []; known = [] }

-- the form is the pattern's
abbrev pub IsFormOf : ShapeContext → Pattern → Form → Type 0
IsFormOf cx p = IsForm (shapes cx p) (conjunctions_agree cx p) (chains_are_closed cx p) (sides_have_one_shape cx p)

-- the form is that of the patterns at one place
abbrev pub IsFormOfBoth : ShapeContext → List Pattern → Form → Type 0
IsFormOfBoth cx ps =
    IsForm (fold_shapes both_shape (map (shapes cx) ps)) (list_all (conjunctions_agree cx) ps && members_agree (map (shapes cx) ps))
    (list_all (chains_are_closed cx) ps) (list_all (sides_have_one_shape cx) ps)

-- the form is that of any of the patterns, where it is not asked yet that they have one shape
abbrev pub IsFormOfAny : ShapeContext → List Pattern → Form → Type 0
IsFormOfAny cx ps =
    IsForm (flat_map (shapes cx) ps) (list_all (conjunctions_agree cx) ps)
    (list_all (chains_are_closed cx) ps) (list_all (sides_have_one_shape cx) ps)

-- the form is that of each of the patterns where the one before it ends
abbrev pub IsFormOfChain : ShapeContext → List Pattern → Form → Type 0
IsFormOfChain cx ps =
    IsForm (fold_shapes chain_shape (map (shapes cx) ps)) (list_all (conjunctions_agree cx) ps)
    (list_all (chains_are_closed cx) ps && lefts_are_closed (map (shapes cx) ps)) (list_all (sides_have_one_shape cx) ps)

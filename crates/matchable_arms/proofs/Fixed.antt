-- A body whose disjunctions read nothing has its operands outside of them.
use Rattle.std.proofs.Common.{◌≡◌, ℕ, List, [], ◌∷◌, ◌++◌, length, All, refl}
use Rattle.std.proofs.lemmas.List.Elements.{All-head, All-tail}
use Rattle.token_bits.specs.declared.tokens.Tokens.{Tokens}
use Rattle.sled_model.specs.declared.constructor.Constructor.{Constructor}
use Rattle.sled_model.specs.declared.pattern.Pattern.{Pattern, Row_of-Pattern, end_of-Pattern, more_of-Pattern}
use Rattle.sled_model.specs.declared.pattern.Pattern.TheVariants.{Token, Limit, Bind, Operand, Label', Both', Either', Chain', Loose', Apply', Empty}
use Rattle.sled_model.specs.Leaves.{AllLeaves, AllLeavesOfRow, IsNoApplication}
use Rattle.sled_model.specs.Results.{operands_in, operands_in_row}
use Rattle.sled_model.specs.Specs.{IsBodyLeaf, IsConstructorOf}
use Rattle.sled_model.proofs.ShapeChosen.{IsFixed, IsFixedRow}
use Rattle.sled_model.proofs.ShapeContexts.{AllLeaves-weaker}
use Rattle.sled_model.proofs.ShapeSpecs.{BodiesChoose}
use Rattle.match_meaning.specs.Readable.{SidesReadNothing, RowSidesReadNothing, IsReadable}
use Rattle.matchable_arms.specs.Once.{HasOperandsOnce}

no_parts : (xs ys : List ℕ) → xs ++ ys ≡ [] → (xs ≡ []) × (ys ≡ [])
no_parts [] ys h = (refl, h)
no_parts (x ∷ xs) ys h = cc

mutual
  -- where no operand stands, none stands in a disjunction
  quiet_fixed : (p : Pattern) → AllLeaves IsNoApplication p → operands_in p ≡ [] → IsFixed p
  quiet_fixed (Token c) alone h = tt
  quiet_fixed (Limit f relation limit) alone h = tt
  quiet_fixed (Bind f) alone h = tt
  quiet_fixed (Operand k) alone h = tt
  quiet_fixed (Label' l s p) alone h = quiet_row p alone h
  quiet_fixed (Both' s ps) alone h = quiet_row ps alone h
  quiet_fixed (Either' s ps) alone h = (h, quiet_row ps alone h)
  quiet_fixed (Chain' s ps) alone h = quiet_row ps alone h
  quiet_fixed (Loose' s p) alone h = quiet_row p alone h
  quiet_fixed (Apply' k s arguments) alone h = absurd alone
  quiet_fixed Empty alone h = tt

  quiet_row : {n : _} (ps : Row_of-Pattern n) → AllLeavesOfRow IsNoApplication ps → operands_in_row ps ≡ [] → IsFixedRow ps
  quiet_row end_of-Pattern alone h = tt
  quiet_row (more_of-Pattern p ps) alone h =
      let none = no_parts (operands_in p) (operands_in_row ps) h in
      (quiet_fixed p alone.0 none.0, quiet_row ps alone.1 none.1)

mutual
  fixed : (p : Pattern) → AllLeaves IsNoApplication p → SidesReadNothing p → IsFixed p
  fixed (Token c) alone h = tt
  fixed (Limit f relation limit) alone h = tt
  fixed (Bind f) alone h = tt
  fixed (Operand k) alone h = tt
  fixed (Label' l s p) alone h = fixed_row p alone h
  fixed (Both' s ps) alone h = fixed_row ps alone h
  fixed (Either' s ps) alone h = (h.1, quiet_row ps alone h.1)
  fixed (Chain' s ps) alone h = fixed_row ps alone h
  fixed (Loose' s p) alone h = fixed_row p alone h
  fixed (Apply' k s arguments) alone h = absurd alone
  fixed Empty alone h = tt

  fixed_row : {n : _} (ps : Row_of-Pattern n) → AllLeavesOfRow IsNoApplication ps → RowSidesReadNothing ps → IsFixedRow ps
  fixed_row end_of-Pattern alone h = tt
  fixed_row (more_of-Pattern p ps) alone h = (fixed p alone.0 h.0, fixed_row ps alone.1 h.1)

-- the bodies of constructors that can be read, in which each operand stands once, have each operand once and none in a disjunction
pub bodies_choose : (tokens : Tokens) (types : ℕ) (cs : List Constructor) → All (IsConstructorOf tokens types) cs → All (IsReadable tokens) cs → All HasOperandsOnce cs → BodiesChoose cs
bodies_choose tokens types [] known readable once = tt
bodies_choose tokens types (c ∷ cs) known readable once =
    let body = (All-head (IsConstructorOf tokens types) c cs known).body in
    let alone = AllLeaves-weaker (IsBodyLeaf tokens c.operands) IsNoApplication (λ p leaf h. h.alone) c.body body in (
      fixed c.body alone (All-head (IsReadable tokens) c cs readable).sides,
      All-head HasOperandsOnce c cs once,
      bodies_choose tokens types cs (All-tail (IsConstructorOf tokens types) c cs known) (All-tail (IsReadable tokens) c cs readable) (All-tail HasOperandsOnce c cs once),
    )

use Rattle.std.proofs.Common.{◌≡◌, ◌+◌, [], ◌∷◌, ◌++◌, map, take, slice_get, Some, None, sym, ap, subst, ◌∙◌, arith}
use Rattle.std.specs.Option.{option_copied}
use Rattle.std.proofs.lemmas.List.{take_more, length-take-le}
use Rattle.std.proofs.lemmas.Result.{IfOk-weaker}
use Rattle.sled_model.specs.declared.pattern.Pattern.TheVariants.{Apply, Operand}
use Rattle.type_tables.specs.Types.{shapes_in, weight_in}
use Rattle.application_measures.specs.Arms.{AreArmMeasures, ArePartsOf, AreOperandsOf, IsInner}
use Rattle.application_measures.proofs.Mirrors.{parts_more}
use Rattle.application_measures.proofs.Applications.{nothing_applied, inner_is, operands_alone, operands_next}
use Rattle.application_measures.proofs.measures.+measures.Goals as goal

pub application-returns-in_default : goal.application-returns-in_default
application-returns-in_default t c =
    let spec = c.args.spec.now in let k = c.args.k in let arguments = c.args.arguments.now in
    let none : slice_get spec.constructors k.0 ≡ None = sym c.constructor.ensures ∙ ap option_copied c.in_default.is in
    IfOk-weaker c.leaf.result (AreArmMeasures spec (Operand 0)) (AreArmMeasures spec (Apply k arguments))
    (λ m h. nothing_applied spec c.requires.spec k arguments none m h) c.leaf.ensures

pub inner_of-returns-in_ok-arm_measures-in-Inner : goal.inner_of-returns-in_ok-arm_measures-in-Inner
inner_of-returns-in_ok-arm_measures-in-Inner t c =
    let spec = c.args.spec.now in let m = c.in_ok-arm_measures-in-Inner.field-0 in
    subst (λ a. IsInner spec a (Some m)) (sym c.in-Inner.is)
    (inner_is spec c.in-Inner.pattern m (subst (λ p. AreArmMeasures spec p m) c.get.ensures c.in_ok-arm_measures-in-Inner.ensures))

pub parts_of-loop-member-preserved : goal.parts_of-loop-member-preserved
parts_of-loop-member-preserved t c =
    let spec = c.args.spec.now in let members = c.args.members.now in let i = c.loop-member.member-index in let p = c.member-item.result in
    let m = c.in_ok-arm_measures.field-0 in
    let more : take (i + 1) members ≡ take i members ++ p ∷ [] = take_more members i p (omega arith) ∙ ap (λ x. take i members ++ x ∷ []) (sym c.member-item.is) in
    subst (λ ps. ArePartsOf spec ps c.add.new.self) (sym more)
    (subst (ArePartsOf spec (take i members ++ p ∷ [])) (sym c.in_ok-add.ensures)
    (parts_more spec (take i members) p c.loop-member.parts m c.loop-member.invariant c.in_ok-arm_measures.ensures))

pub operands_of-put-requires : goal.operands_of-put-requires
operands_of-put-requires t c = let are = c.loop-at.invariant in are.shape_count ∙ sym are.weight_count

pub operands_of-loop-at-init : goal.operands_of-loop-at-init
operands_of-loop-at-init t c =
    let spec = c.args.spec.now in let kinds = c.args.kinds.now in let of = c.requires.table in
    subst (AreOperandsOf spec kinds [])
    (sym (c.in_ok-operands.ensures ∙ ap (λ ts. record { shapes = map (shapes_in ts) kinds; weights = map (weight_in ts) kinds }) c.as_slice.ensures.value))
    (operands_alone spec c.requires.spec c.args.table.now.types of.types kinds)

pub operands_of-loop-at-preserved : goal.operands_of-loop-at-preserved
operands_of-loop-at-preserved t c =
    let spec = c.args.spec.now in let kinds = c.args.kinds.now in let arguments = c.args.arguments.now in let i = c.loop-at.at in let a = c.index-arguments-at.result in
    let more : take (i + 1) arguments ≡ take i arguments ++ a ∷ [] = take_more arguments i a (omega arith) ∙ ap (λ x. take i arguments ++ x ∷ []) (sym c.index-arguments-at.is) in
    subst (λ as'. AreOperandsOf spec kinds as' c.put.new.self) (sym more)
    (operands_next spec kinds (take i arguments) a c.loop-at.operands c.put.new.self c.in_ok-inner_of.field-0 i (sym (length-take-le i arguments (omega arith)))
    c.loop-at.invariant c.in_ok-inner_of.ensures c.put.ensures)

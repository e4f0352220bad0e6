use Rattle.std.proofs.Common.{◌<◌, ◌++◌, [], ◌∷◌, length, map, take, ap, sym, ◌∙◌, arith, rules}
use Rattle.std.proofs.lemmas.Result.{on_ok_weaker, on_err_weaker}
use Rattle.sled_model.specs.declared.instance.Operand.TheViews.{the_lemmas}
use Rattle.asm_text.specs.Instances.{constructor_name, separator_before, joined, operand_text}
use Rattle.asm_text.proofs.PrefixLemmas.{prefix_first, prefix_then, prefix_same, appended_then, OnErr-always}
use Rattle.asm_text.proofs.TextLaws.{operand_text-inner, joined_more, joined_prefix}
use Rattle.asm_text.proofs.WritableLaws.{InstanceHasText_inner}
use Rattle.asm_text.proofs.instances.+write.Goals as goal

pub write_known-returns-in_err-write_head-clause-prefix : goal.write_known-returns-in_err-write_head-clause-prefix
write_known-returns-in_err-write_head-clause-prefix t c =
    let spec = c.args.spec.now in let i = c.args.instance.now in
    let head = constructor_name spec i.constructor ++ 40 ∷ [] in let operands = joined (map (operand_text spec) i.operands) in
    OnErr-always c.from_residual.result
    (prefix_first c.args.text.now.items c.write_head.new.text.items (head ++ operands) (41 ∷ [])
    (prefix_first c.args.text.now.items c.write_head.new.text.items head operands c.in_err-write_head.ensures.prefix))

pub write_known-returns-in_err-write_operands-clause-prefix : goal.write_known-returns-in_err-write_operands-clause-prefix
write_known-returns-in_err-write_operands-clause-prefix t c =
    let spec = c.args.spec.now in let i = c.args.instance.now in
    let head = constructor_name spec i.constructor ++ 40 ∷ [] in let operands = joined (map (operand_text spec) i.operands) in
    let same = ap (λ os. joined (map (operand_text spec) os)) c.as_slice.ensures in
    OnErr-always c.from_residual-in_err-write_operands.result
    (prefix_first c.args.text.now.items c.write_operands.new.text.items (head ++ operands) (41 ∷ [])
    (prefix_then c.args.text.now.items c.write_head.new.text.items c.write_operands.new.text.items head operands c.in_ok-write_head.ensures.written
    (prefix_same c.write_head.new.text.items c.write_operands.new.text.items _ operands same c.in_err-write_operands.ensures.prefix)))

pub write_known-returns-clause-prefix : goal.write_known-returns-clause-prefix
write_known-returns-clause-prefix t c =
    let spec = c.args.spec.now in let i = c.args.instance.now in
    let head = constructor_name spec i.constructor ++ 40 ∷ [] in let operands = joined (map (operand_text spec) i.operands) in
    let same = ap (λ os. joined (map (operand_text spec) os)) c.as_slice.ensures in
    let so_far = appended_then c.args.text.now.items c.write_head.new.text.items c.write_operands.new.text.items head operands c.in_ok-write_head.ensures.written
    (c.in_ok-write_operands.ensures.written ∙ ap (λ t. c.write_head.new.text.items ++ t) same) in
    on_err_weaker c.write_bytes.result (prefix_then c.args.text.now.items c.write_operands.new.text.items c.write_bytes.new.text.items (head ++ operands) (41 ∷ []) so_far) c.write_bytes.ensures.prefix

pub write_operand-returns-in-Sub-clause-written : goal.write_operand-returns-in-Sub-clause-written
write_operand-returns-in-Sub-clause-written t c =
    let a = c.args in
    let same = operand_text-inner a.spec.now a.operand.now c.in-Sub.inner c.get.result.now c.in-Sub.is c.get.ensures in
    on_ok_weaker c.write_known.result (λ e. e ∙ ap (λ t. a.text.now.items ++ t) same) c.write_known.ensures.written

pub write_operand-returns-in-Sub-clause-prefix : goal.write_operand-returns-in-Sub-clause-prefix
write_operand-returns-in-Sub-clause-prefix t c =
    let a = c.args in
    let same = operand_text-inner a.spec.now a.operand.now c.in-Sub.inner c.get.result.now c.in-Sub.is c.get.ensures in
    on_err_weaker c.write_known.result (prefix_same a.text.now.items c.write_known.new.text.items _ _ same) c.write_known.ensures.prefix

pub write_operand-write_known-requires : goal.write_operand-write_known-requires
write_operand-write_known-requires t c =
    let a = c.args in
    (first_of (search (rules, the_lemmas), search rules), InstanceHasText_inner a.spec.now a.operand.now c.in-Sub.inner c.get.result.now c.in-Sub.is c.get.ensures c.requires)

pub write_operands-returns-in_err-write_separator-clause-prefix : goal.write_operands-returns-in_err-write_separator-clause-prefix
write_operands-returns-in_err-write_separator-clause-prefix t c =
    let f = operand_text c.args.spec.now in let xs = c.args.operands.now in let i = c.loop-number.number in let x = c.index-operands-number.result in
    let within : i < length xs = omega arith in
    OnErr-always c.from_residual.result
    (joined_prefix f xs i x within c.index-operands-number.is c.args.text.now.items c.loop-number.text.items c.write_separator.new.text.items c.loop-number.invariant
    (prefix_first c.loop-number.text.items c.write_separator.new.text.items (separator_before i) (f x) c.in_err-write_separator.ensures.prefix))

pub write_operands-returns-in_err-write_operand-clause-prefix : goal.write_operands-returns-in_err-write_operand-clause-prefix
write_operands-returns-in_err-write_operand-clause-prefix t c =
    let f = operand_text c.args.spec.now in let xs = c.args.operands.now in let i = c.loop-number.number in let x = c.index-operands-number.result in
    let within : i < length xs = omega arith in
    OnErr-always c.from_residual-in_err-write_operand.result
    (joined_prefix f xs i x within c.index-operands-number.is c.args.text.now.items c.loop-number.text.items c.write_operand.new.text.items c.loop-number.invariant
    (prefix_then c.loop-number.text.items c.write_separator.new.text.items c.write_operand.new.text.items (separator_before i) (f x) c.in_ok-write_separator.ensures.written c.in_err-write_operand.ensures.prefix))

pub write_operands-loop-number-preserved : goal.write_operands-loop-number-preserved
write_operands-loop-number-preserved t c =
    let f = operand_text c.args.spec.now in let xs = c.args.operands.now in let i = c.loop-number.number in let x = c.index-operands-number.result in
    let within : i < length xs = omega arith in
    appended_then c.args.text.now.items c.loop-number.text.items c.write_operand.new.text.items (joined (map f (take i xs))) (separator_before i ++ f x) c.loop-number.invariant
    (appended_then c.loop-number.text.items c.write_separator.new.text.items c.write_operand.new.text.items (separator_before i) (f x) c.in_ok-write_separator.ensures.written c.in_ok-write_operand.ensures.written)
    ∙ ap (λ v. c.args.text.now.items ++ v) (sym (joined_more f xs i x within c.index-operands-number.is))

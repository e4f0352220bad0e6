use Rattle.std.proofs.Common.{◌≡◌, ◌++◌, [], ◌∷◌, slice_get, Some, ap, sym, ◌∙◌}
use Rattle.std.specs.Option.{option_copied}
use Rattle.std.proofs.lemmas.Result.{on_err_weaker}
use Rattle.asm_text.specs.Instances.{constructor_name}
use Rattle.asm_text.proofs.PrefixLemmas.{prefix_first, prefix_then, prefix_same, OnErr-always}
use Rattle.asm_text.proofs.TextLaws.{constructor_name-known}
use Rattle.asm_text.proofs.instances.write_head.Goals as goal

pub returns-in_err-write_bytes-in-Some-clause-prefix : goal.returns-in_err-write_bytes-in-Some-clause-prefix
returns-in_err-write_bytes-in-Some-clause-prefix c =
    let a = c.args in
    let known : slice_get a.spec.now.constructors a.constructor.0 ≡ Some c.in-Some.known.now = sym c.constructor.ensures ∙ ap option_copied c.in-Some.is in
    let name = constructor_name-known a.spec.now a.constructor c.in-Some.known.now c.as_slice.result.now known c.as_slice.ensures in
    OnErr-always c.from_residual.result
    (prefix_first a.text.now.items c.write_bytes.new.text.items (constructor_name a.spec.now a.constructor) (40 ∷ [])
    (prefix_same a.text.now.items c.write_bytes.new.text.items c.as_slice.result.now (constructor_name a.spec.now a.constructor) name c.in_err-write_bytes-in-Some.ensures.prefix))

pub returns-clause-prefix : goal.returns-clause-prefix
returns-clause-prefix c =
    let a = c.args in
    let known : slice_get a.spec.now.constructors a.constructor.0 ≡ Some c.in-Some.known.now = sym c.constructor.ensures ∙ ap option_copied c.in-Some.is in
    let name = constructor_name-known a.spec.now a.constructor c.in-Some.known.now c.as_slice.result.now known c.as_slice.ensures in
    let so_far : c.write_bytes.new.text.items ≡ a.text.now.items ++ constructor_name a.spec.now a.constructor =
    c.in_ok-write_bytes-in-Some.ensures.written ∙ ap (λ t. a.text.now.items ++ t) name in
    on_err_weaker c.write_bytes-in-Some.result
    (prefix_then a.text.now.items c.write_bytes.new.text.items c.write_bytes-in-Some.new.text.items (constructor_name a.spec.now a.constructor) (40 ∷ []) so_far)
    c.write_bytes-in-Some.ensures.prefix

use Rattle.std.proofs.Common.{◌+◌, ◌≤◌, length, All}
use Rattle.std.proofs.lemmas.Result.{IfOk-weaker}
use Rattle.sled_model.specs.declared.constructor.OperandKind.TheVariants.{Typed}
use Rattle.sled_model.specs.declared.raw.Match.{Match}
use Rattle.sled_model.specs.Results.{kind_results}
use Rattle.sled_model.specs.PatternContexts.{known_in}
use Rattle.sled_model.proofs.Local.{kind-local}
use Rattle.sled_model.proofs.ContextLemmas.{are_local, meaning_within}
use Rattle.sled_model.proofs.choices.operand_results.Goals as goal

pub returns-in-Some-Typed-clause-within : goal.returns-in-Some-Typed-clause-within
returns-in-Some-Typed-clause-within c =
    let a = c.args in let near = a.near.now in let kind = Typed c.in-Some-Typed.of in let n = length near.window.now in
    IfOk-weaker c.type_results.result _ (All (λ (x : Match). a.at + x.len ≤ n))
    (λ found is. rw is (meaning_within (kind_results (known_in near) kind) (kind-local (known_in near) kind (are_local near.tokens.now near.constructors.now)) near.window.now a.at c.requires.at))
    c.type_results.ensures

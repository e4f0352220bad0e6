use Rattle.std.proofs.Common.{sym, subst}
use Rattle.sled_model.specs.declared.spec.Spec.{Spec}
use Rattle.sled_model.specs.declared.statement.Statement.{Statement}
use Rattle.match_meaning.specs.Matchable.{IsMatchable}
use Rattle.disassembler.specs.Example.{description}
use Rattle.disassembler.proofs.Taken.{matchable_of, taking_of}
use Rattle.disassembler.proofs.Worked.{three_arms-matchable}
use Rattle.disassembler.proofs.tests.run.Goals as goal

pub prepare-requires : goal.prepare-requires
prepare-requires c =
    subst (λ (spec : Spec). IsMatchable spec c.in_ok-statement.statement) (sym c.in_ok-spec.ensures)
    (subst (λ (statement : Statement). IsMatchable description statement) (sym c.in_ok-statement.ensures) (three_arms-matchable c.args.skip c.requires))

pub list-answer-requires : goal.list-answer-requires
list-answer-requires c =
    let d = c.in_ok-decoder.decoder in let ready = c.in_ok-decoder.ensures.prepared in
    let all = taking_of d.spec.now d.statement.now (matchable_of d ready) in
    (all.0, (ready, all.1))

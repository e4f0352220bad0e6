use Rattle.std.proofs.Common.{rules, ap, ◌∙◌, FitsSigned, w64}
use Rattle.std.proofs.lemmas.Int.{to_z-of_z}
use Rattle.eq_solver.specs.Isolated.{others, turned}
use Rattle.eq_solver.proofs.Isolates.{gives}
use Rattle.eq_solver.proofs.isolate.value_of.Goals as goal

pub returns-clause-gives : goal.returns-clause-gives
returns-clause-gives c =
    let f : FitsSigned w64 c.turned.result = search rules in
    let g : FitsSigned w64 c.args.equation.now.rest = search rules in
    gives c.args.turn c.args.target c.args.equation.now _ _ c.requires.only (c.in_ok-others.ensures ∙ ap (others c.args.turn) c.as_slice.ensures)
    (to_z-of_z w64 c.turned.result f ∙ c.turned.ensures ∙ ap (turned c.args.turn) (to_z-of_z w64 c.args.equation.now.rest g))

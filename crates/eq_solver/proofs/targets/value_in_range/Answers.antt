use Rattle.std.proofs.Common.{nat_eq, of_z, w64, MatchBool, subst}
use Rattle.eq_solver.specs.Ranges.{StaysInRange}
use Rattle.eq_solver.proofs.Staying.{made, unit_turn}
use Rattle.eq_solver.proofs.targets.value_in_range.Goals as goal

pub is_in_range-requires-clause-target : goal.is_in_range-requires-clause-target
is_in_range-requires-clause-target c =
    (made c.args.tokens.now c.args.equation.now c.args.target (nat_eq (of_z w64 c.args.target.coefficient) 1) c.in_ok-value.value c.requires.plain c.requires.target
    (unit_turn c.args.target.coefficient c.requires.target.one) c.in_ok-value.ensures.is c.in_ok-value.ensures.gives).order

pub is_in_range-requires-clause-given : goal.is_in_range-requires-clause-given
is_in_range-requires-clause-given c =
    (made c.args.tokens.now c.args.equation.now c.args.target (nat_eq (of_z w64 c.args.target.coefficient) 1) c.in_ok-value.value c.requires.plain c.requires.target
    (unit_turn c.args.target.coefficient c.requires.target.one) c.in_ok-value.ensures.is c.in_ok-value.ensures.gives).terms

pub is_in_range-requires-clause-rest : goal.is_in_range-requires-clause-rest
is_in_range-requires-clause-rest c =
    (made c.args.tokens.now c.args.equation.now c.args.target (nat_eq (of_z w64 c.args.target.coefficient) 1) c.in_ok-value.value c.requires.plain c.requires.target
    (unit_turn c.args.target.coefficient c.requires.target.one) c.in_ok-value.ensures.is c.in_ok-value.ensures.gives).rest

pub returns-then-branch : goal.returns-then-branch
returns-then-branch c =
    let stays = subst (λ b. MatchBool b (StaysInRange c.args.tokens.now c.in_ok-value.value) (StaysInRange c.args.tokens.now c.in_ok-value.value → ⊥)) c.if-branch.true c.in_ok-is_in_range.ensures in
    (made c.args.tokens.now c.args.equation.now c.args.target (nat_eq (of_z w64 c.args.target.coefficient) 1) c.in_ok-value.value c.requires.plain c.requires.target
    (unit_turn c.args.target.coefficient c.requires.target.one) c.in_ok-value.ensures.is c.in_ok-value.ensures.gives).given stays

pub returns-else-branch : goal.returns-else-branch
returns-else-branch c =
    let not_stays = subst (λ b. MatchBool b (StaysInRange c.args.tokens.now c.in_ok-value.value) (StaysInRange c.args.tokens.now c.in_ok-value.value → ⊥)) c.if-branch.false c.in_ok-is_in_range.ensures in
    (made c.args.tokens.now c.args.equation.now c.args.target (nat_eq (of_z w64 c.args.target.coefficient) 1) c.in_ok-value.value c.requires.plain c.requires.target
    (unit_turn c.args.target.coefficient c.requires.target.one) c.in_ok-value.ensures.is c.in_ok-value.ensures.gives).not_given not_stays

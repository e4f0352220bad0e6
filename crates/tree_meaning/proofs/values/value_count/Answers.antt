use Rattle.std.proofs.Common.{◌+◌, ◌-◌, ◌^◌, ◌≤◌, sym, ap, ◌∙◌, arith}
use Rattle.std.specs.Prelude.{Option}
use Rattle.std.specs.Option.{option_map_or}
use Rattle.token_bits.specs.declared.tokens.Field.{Field}
use Rattle.tree_meaning.proofs.ValueLemmas.{field_bits, power_small, shifted}
use Rattle.tree_meaning.proofs.values.value_count.Goals as goal

pub returns-in-Some-clause-value : goal.returns-in-Some-clause-value
returns-in-Some-clause-value c =
    let f : Field = c.in-Some.field in
    let bits = field_bits c.args.tokens.now c.args.field.0 f c.requires (sym c.in-Some.ensures) in
    let few : f.hi - f.lo + 1 ≤ 32 = omega arith in
    shifted (f.hi - f.lo + 1) few ∙ ap (λ (o : Option Field). option_map_or (λ (g : Field). 2 ^ (g.hi - g.lo + 1)) o 0) c.in-Some.ensures

pub returns-in-Some-clause-small : goal.returns-in-Some-clause-small
returns-in-Some-clause-small c =
    let f : Field = c.in-Some.field in
    let bits = field_bits c.args.tokens.now c.args.field.0 f c.requires (sym c.in-Some.ensures) in
    let few : f.hi - f.lo + 1 ≤ 32 = omega arith in
    let small = power_small (f.hi - f.lo + 1) few in
    omega (arith, shifted (f.hi - f.lo + 1) few, small)

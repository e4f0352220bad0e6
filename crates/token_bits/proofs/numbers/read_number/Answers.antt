use Rattle.std.proofs.Common.{take, sym, ap, ◌∙◌, arith}
use Rattle.token_bits.specs.Tokens.{number_of, in_order}
use Rattle.token_bits.proofs.NumberLemmas.{number_of-big, number_of-little, big_below, little_below, four_below}
use Rattle.token_bits.proofs.numbers.read_number.Goals as goal

pub overflow_cast-result : goal.overflow_cast-result
overflow_cast-result c = omega (arith, c.read_uint.ensures, four_below _ c.args.count (big_below c.args.count c.args.bytes.now (λ i. let h = c.type_inv.bytes i in omega arith)) c.requires.few)

pub overflow_cast-result-in-Little : goal.overflow_cast-result-in-Little
overflow_cast-result-in-Little c = omega (arith, c.read_uint-in-Little.ensures, four_below _ c.args.count (little_below c.args.count c.args.bytes.now (λ i. let h = c.type_inv.bytes i in omega arith)) c.requires.few)

pub returns-in-Big : goal.returns-in-Big
returns-in-Big c = record {
  number = c.read_uint.ensures ∙ number_of-big c.args.count c.args.bytes.now c.requires.room ∙ ap (λ order. number_of (in_order order (take c.args.count c.args.bytes.now))) (sym c.in-Big.is);
  fits = omega (arith, c.read_uint.ensures, big_below c.args.count c.args.bytes.now (λ i. let h = c.type_inv.bytes i in omega arith));
}

pub returns-in-Little : goal.returns-in-Little
returns-in-Little c = record {
  number = c.read_uint-in-Little.ensures ∙ number_of-little c.args.count c.args.bytes.now c.requires.room ∙ ap (λ order. number_of (in_order order (take c.args.count c.args.bytes.now))) (sym c.in-Little.is);
  fits = omega (arith, c.read_uint-in-Little.ensures, little_below c.args.count c.args.bytes.now (λ i. let h = c.type_inv.bytes i in omega arith));
}

use Rattle.std.proofs.Common.{◌+◌, ◌-◌, ◌*◌, ◌/◌, ◌%◌, ◌^◌, ap, ◌∙◌, arith}
use Rattle.token_bits.proofs.BitsLemmas.{with_bits_below, with_bits-shifted}
use Rattle.token_bits.proofs.tokens.Field.with_value.Goals as goal

pub returns : goal.returns
returns c =
    let lo = c.args.self.lo in let hi = c.args.self.hi in
    ap (λ n. (n / 2 ^ (hi + 1) * 2 ^ (hi - lo + 1) % 2 ^ 64 + c.from.result) * 2 ^ lo % 2 ^ 64 + n % (1 * 2 ^ lo % 2 ^ 64)) c.from-token.ensures
    ∙ ap (λ v. (c.args.token / 2 ^ (hi + 1) * 2 ^ (hi - lo + 1) % 2 ^ 64 + v) * 2 ^ lo % 2 ^ 64 + c.args.token % (1 * 2 ^ lo % 2 ^ 64)) c.from.ensures
    ∙ with_bits-shifted lo hi c.requires.order c.args.value c.requires.value c.args.token c.requires.within c.ranges.token.fits

pub overflow_add-result : goal.overflow_add-result
overflow_add-result c =
    omega (arith, returns c, with_bits_below c.args.self.lo c.args.self.hi c.requires.order c.args.value c.requires.value c.args.token 32 c.requires.within c.ranges.token.fits)

pub overflow_cast-result-3 : goal.overflow_cast-result-3
overflow_cast-result-3 c =
    omega (arith, returns c, with_bits_below c.args.self.lo c.args.self.hi c.requires.order c.args.value c.requires.value c.args.token 32 c.requires.within c.ranges.token.fits)

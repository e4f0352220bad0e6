use Rattle.std.proofs.Common.{sym, arith}
use Rattle.token_bits.proofs.PutLemmas.{put_fits, put_sound}
use Rattle.token_bits.proofs.tokens.Tokens.put_field.Goals as goal

pub write_at-requires-clause-fits : goal.write_at-requires-clause-fits
write_at-requires-clause-fits c =
    omega (
      arith,
      c.with_value.ensures,
      put_fits c.args.self.now c.args.field c.in-Some.field c.in-Some-class.class (sym c.in-Some.ensures) (sym c.in-Some-class.ensures)
          c.requires.sound c.args.value c.requires.value c.in-Some-token_at.number c.in-Some-token_at.ensures.fits,
    )

pub returns-in-Some-token_at : goal.returns-in-Some-token_at
returns-in-Some-token_at c =
    put_sound c.args.self.now c.args.field c.in-Some.field c.in-Some-class.class (sym c.in-Some.ensures) (sym c.in-Some-class.ensures)
    c.requires.sound c.args.value c.requires.value c.in-Some-token_at.number c.in-Some-token_at.ensures.fits
    c.args.at c.with_value.result c.args.window.now c.write_at.new.window c.requires.room (sym c.in-Some-token_at.ensures.number) c.with_value.ensures c.write_at.ensures

use Rattle.std.proofs.Common.{sym, ap, ◌∙◌}
use Rattle.sled_model.specs.declared.raw.RawEntry.TheVariants as raw
use Rattle.pattern_normal.specs.Skeletons.{read_spot as read_spot_of, read_entries as read_entries_of}
use Rattle.pattern_normal.proofs.SkeletonLaws.{read_choice}
use Rattle.pattern_normal.proofs.skeleton.+read.Goals as goal

pub read_spot-returns-in_ok-copy_arguments-in-Choice : goal.read_spot-returns-in_ok-copy_arguments-in-Choice
read_spot-returns-in_ok-copy_arguments-in-Choice t c =
    let tokens = c.args.tokens.now in let window = c.args.window.now in let k = c.in-Choice.constructor in let spots = c.in-Choice.inner.entries in
    ap (λ es. raw.Choice k (record { entries = es }) c.in_ok-copy_arguments-in-Choice.field-0) (c.in_ok-read_entries-in-Choice.ensures ∙ ap (read_entries_of tokens window) c.as_slice.ensures)
    ∙ ap (λ arguments. raw.Choice k (record { entries = read_entries_of tokens window spots }) arguments) (c.in_ok-copy_arguments-in-Choice.ensures ∙ c.as_slice-in-Choice.ensures)
    ∙ sym (read_choice tokens window k spots c.in-Choice.arguments) ∙ ap (read_spot_of tokens window) (sym c.in-Choice.is)

use Rattle.std.proofs.Common.{drop}
use Rattle.sled_model.specs.declared.instance.Operand.{Operand}
use Rattle.match_meaning.specs.Names.{IsNameValue}
use Rattle.name_values.specs.Values.{entries_at}
use Rattle.name_values.proofs.entries.name_value.Given as goal

abbrev pub invariant-loop-i : goal.invariant-loop-i
invariant-loop-i l = (value : Operand) → IsNameValue l.place.spec.now l.place.location l.name l.k (entries_at l.place (drop l.i l.spots)) value → IsNameValue l.place.spec.now l.place.location l.name l.k (entries_at l.place l.spots) value

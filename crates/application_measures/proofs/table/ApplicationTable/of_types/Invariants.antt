use Rattle.std.proofs.Common.{◌≡◌, ℕ, length, get_or}
use Rattle.type_tables.specs.Tables.{IsTableOf}
use Rattle.application_measures.proofs.Tabled.{first_types}
use Rattle.application_measures.proofs.table.ApplicationTable.of_types.Given as goal

abbrev pub invariant-loop-t : goal.invariant-loop-t
invariant-loop-t l = record {
  types : IsTableOf (first_types l.spec l._t) l.types;
  count : length l.type_lens ≡ l._t;
  none : (t : ℕ) → get_or l.type_lens t 0 ≡ 0;
}

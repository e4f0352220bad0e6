use Rattle.application_measures.specs.Tables.{IsApplicationTableOf}
use Rattle.application_measures.proofs.Tabled.{first_constructors}
use Rattle.application_measures.proofs.table.ApplicationTable.of.Given as goal

abbrev pub invariant-loop-constructor : goal.invariant-loop-constructor
invariant-loop-constructor l = IsApplicationTableOf (first_constructors l.spec l.constructor-index) l.table

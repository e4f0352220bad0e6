use Rattle.std.proofs.Common.{◌≡◌}
use Rattle.sled_base.specs.declared.faults.ShelfFault.TheVariants.{NoMemory}
use Rattle.sled_base.proofs.shelf.MemShelfShelf.load.Goals as goal

pub returns-then-contains-clause-no_memory : goal.returns-then-contains-clause-no_memory
returns-then-contains-clause-no_memory c is any =
    let none : c.fail.result ≡ NoMemory = cc in
    c.fail.ensures.no_memory none any

pub returns-in-None-clause-no_memory : goal.returns-in-None-clause-no_memory
returns-in-None-clause-no_memory c is any =
    let none : c.fail-in-None.result ≡ NoMemory = cc in
    c.fail-in-None.ensures.no_memory none any

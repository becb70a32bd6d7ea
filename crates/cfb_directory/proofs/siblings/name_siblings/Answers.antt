use Rattle.cfb_directory.specs.Spelled.{names_in}
use Rattle.cfb_directory.specs.Walks.{directory_of}
use Rattle.cfb_directory.proofs.RisingLaws.{rising_apart, rising_found}
use Rattle.cfb_directory.proofs.siblings.name_siblings.Goals as goal

pub returns-then-rise-clause-answer : goal.returns-then-rise-clause-answer
returns-then-rise-clause-answer c = rising_apart (directory_of c.args.sectors.now) (names_in c.in_ok-names.names) c.args.family.now c.in_ok-names.ensures (rw c.if-rise.true at c.rise.ensures)

pub returns-then-rise-clause-named : goal.returns-then-rise-clause-named
returns-then-rise-clause-named c = λ q. rising_found (directory_of c.args.sectors.now) (names_in c.in_ok-names.names) c.args.family.now q c.in_ok-names.ensures

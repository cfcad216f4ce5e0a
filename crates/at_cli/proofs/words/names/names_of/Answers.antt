use Rattle.std.proofs.Common.{refl}
use Rattle.at_cli.proofs.FileNames.{names_tested}
use Rattle.at_cli.proofs.words.names.names_of.Goals as goal

pub returns-in-One : goal.returns-in-One
returns-in-One c = rw c.in-One.is (names_tested _ _ c.tested.result refl c.tested.ensures.same c.tested.ensures.in_order)

pub returns-in-Two : goal.returns-in-Two
returns-in-Two c = rw c.in-Two.is (names_tested _ _ c.tested-in-Two.result refl c.tested-in-Two.ensures.same c.tested-in-Two.ensures.in_order)

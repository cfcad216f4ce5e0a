use Rattle.std.proofs.Common.{refl}
use Rattle.at_cli.proofs.FileNames.{name_counted}
use Rattle.at_cli.proofs.words.values.is_file_name.Goals as goal

pub returns-in-None : goal.returns-in-None
returns-in-None c = ((λ t text g. absurd (c.in-None.ensures text g)), λ h. refl)

pub returns-in-Some : goal.returns-in-Some
returns-in-Some c = name_counted c.args.name.now c.in-Some.count.now c.number_within.result c.is_some.result c.is_some.ensures c.in-Some.ensures.0 c.in-Some.ensures.1 c.number_within.ensures

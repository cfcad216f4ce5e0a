use Rattle.at_cli.proofs.words.values.digits_or_seven.Goals as goal

pub returns-in-Some : goal.returns-in-Some
returns-in-Some c = rw c.in-Some.is c.digits_named.ensures

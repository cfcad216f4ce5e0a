use Rattle.at_scan.proofs.members.TableNames.none.Goals as goal

pub returns : goal.returns
returns c w = record { own = c.none.ensures.plain w; properties = c.none-2.ensures.plain w }

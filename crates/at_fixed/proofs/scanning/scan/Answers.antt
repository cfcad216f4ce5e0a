use Rattle.at_fixed.proofs.scanning.scan.Goals as goal

pub returns : goal.returns
returns c = c.scanned_of.ensures.reads c.args.notation c.args.text.now c.requires c.read_mantissa-front.ensures c.read_exponent-power.ensures

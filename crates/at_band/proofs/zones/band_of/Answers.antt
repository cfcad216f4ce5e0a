use Rattle.std.proofs.Common.{sym, subst}
use Rattle.at_band.specs.Banded.{IsPartOf}
use Rattle.at_band.proofs.Parts.{thinned_part}
use Rattle.at_band.proofs.zones.band_of.Goals as goal

pub returns-clause-kept : goal.returns-clause-kept
returns-clause-kept c = subst (IsPartOf c.args.shape.now c.args.heights) (sym c.in_ok-part.ensures) (thinned_part c.args.shape.now c.args.heights c.requires.ordered)

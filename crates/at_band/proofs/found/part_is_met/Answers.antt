use Rattle.std.proofs.Common.{rules}
use Rattle.at_band.specs.Banded.{MeetsWithin}
use Rattle.at_geom.proofs.Finding.{found_means}
use Rattle.at_band.proofs.found.part_is_met.Goals as goal

pub returns : goal.returns
returns c = found_means (MeetsWithin c.args.heights.low c.args.heights.high c.args.a c.args.b) c.some_segment.ensures (λ e b said. search rules)

use Rattle.std.proofs.Common.{sym, subst, ◌∙◌}
use Rattle.at_band.specs.Banded.{IsPartOf}
use Rattle.at_band.proofs.Parts.{thinned_part, zone_by_part}
use Rattle.at_band.proofs.zones.zone_of.Goals as goal

pub returns-clause-kept : goal.returns-clause-kept
returns-clause-kept c =
    zone_by_part c.args.shape.now c.in_ok-part.part (record { heights = c.args.heights; bands = c.in_ok-bands.bands }) c.in_ok-cuts.cuts.items
    (subst (IsPartOf c.args.shape.now c.args.heights) (sym c.in_ok-part.ensures) (thinned_part c.args.shape.now c.args.heights c.requires.ordered))
    c.in_ok-bands.ensures.kept (c.in_ok-bands.ensures.same ∙ c.as_slice.ensures.value) c.in_ok-cuts.ensures.within c.in_ok-cuts.ensures.covering

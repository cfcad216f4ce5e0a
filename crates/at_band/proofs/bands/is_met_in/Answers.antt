use Rattle.std.proofs.Common.{sym, ◌∙◌}
use Rattle.at_band.proofs.bands.is_met_in.Goals as goal

pub returns : goal.returns
returns c = (λ t. (sym c.spans.ensures ∙ c.if-not-spans.false, c.segment_meets_band.ensures.0 t), λ h. c.segment_meets_band.ensures.1 h.1)

use Rattle.std.proofs.Common.{sym, ◌∙◌}
use Rattle.at_band.proofs.found.edge_is_met.Goals as goal

pub returns : goal.returns
returns c = (λ t. (sym c.spans.ensures ∙ c.if-not-spans.false, c.segments_meet.ensures.0 t), λ h. c.segments_meet.ensures.1 h.1)

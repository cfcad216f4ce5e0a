use Rattle.std.proofs.Common.{◌+◌, arith}
use Rattle.at_scan.proofs.ShortStrings.{short_text}
use Rattle.at_scan.proofs.short_texts.short_text_end.Goals as goal

pub returns-then-stands : goal.returns-then-stands
returns-then-stands c = short_text c.args.text.now c.args.at (c.args.at + 1 + c.common_lanes.result) (omega arith) (c.stands-2.ensures.inside c.if-stands.true) (c.stands.ensures.byte c.if-not-stands.false)
    (c.stands-2.ensures.byte c.if-stands.true) c.common_lanes.ensures.passes

use Rattle.at_fixed.proofs.GapMasks.{ends_twice}
use Rattle.at_fixed.proofs.ends.ends_of.Goals as goal

pub returns : goal.returns
returns c =
    let (lead, behind, near) = ends_twice c.args.text.now c.args.count c.read_sign-sign.result.end c.behind_sign.result (c.in_ok-first.first, c.in_ok-first.second) c.requires.inside c.behind_sign.ensures c.in_ok-first.ensures in
    (record { sign = c.read_sign-sign.ensures; lead = lead; behind = behind }, near)

use Rattle.std.proofs.Common.{◌≡◌, length, rules}
use Rattle.std.specs.Vec.{vec_len}
use Rattle.at_hull.proofs.Sorted.{without_end}
use Rattle.at_hull.proofs.hulls.without_last.Goals as goal

pub returns : goal.returns
returns c =
    let e : vec_len c.args.way ≡ length c.args.way.items = search rules in
    without_end c.args.way.items c.pop.new.self.items (vec_len c.args.way) e c.pop.ensures.rest

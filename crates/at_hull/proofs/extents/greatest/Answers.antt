use Rattle.std.proofs.Common.{rules}
use Rattle.std.specs.Int.{int_max}
use Rattle.at_hull.proofs.Ranges.{greater, chosen_in_range}
use Rattle.at_hull.proofs.extents.greatest.Goals as goal

pub returns : goal.returns
returns c = (
  chosen_in_range 300000000000000 int_max (greater 300000000000000) c.max.result c.args.a.x c.args.b.x (search rules) (search rules) (search rules) c.max.ensures.value c.requires.a_in_range.0 c.requires.b_in_range.0,
  chosen_in_range 300000000000000 int_max (greater 300000000000000) c.max-2.result c.args.a.y c.args.b.y (search rules) (search rules) (search rules) c.max-2.ensures.value c.requires.a_in_range.1 c.requires.b_in_range.1,
)

use Rattle.std.specs.Prelude.{FitsSigned}
use Rattle.std.specs.Int.{w128}
use Rattle.std.proofs.Common.{rules, refl}
use Rattle.std.proofs.lemmas.Int.{wrapping_add_is}
use Rattle.at_query.proofs.Joining.{joins_counts, joins_areas}
use Rattle.at_geojson.proofs.joined.runs.joined_numbers.Goals as goal

pub returns-in-Count-Count : goal.returns-in-Count-Count
returns-in-Count-Count c = joins_counts c.args.left.now c.args.right.now _ _ _ c.in-Count-Count.is-0 c.in-Count-Count.is-1 refl

pub returns-in-Area-Area : goal.returns-in-Area-Area
returns-in-Area-Area c =
    let a_fits : FitsSigned w128 c.in-Area-Area.a = search rules in
    let b_fits : FitsSigned w128 c.in-Area-Area.b = search rules in
    joins_areas c.args.left.now c.args.right.now _ _ _ c.in-Area-Area.is-0 c.in-Area-Area.is-1 (wrapping_add_is w128 c.in-Area-Area.a c.in-Area-Area.b a_fits b_fits)

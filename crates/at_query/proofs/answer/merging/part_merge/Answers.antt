use Rattle.std.specs.Prelude.{FitsSigned}
use Rattle.std.specs.Int.{w128}
use Rattle.std.proofs.Common.{rules, refl}
use Rattle.std.proofs.lemmas.Int.{wrapping_add_is}
use Rattle.at_query.proofs.Joining.{joins_offsets, joins_counts, joins_areas, joins_spreads, joins_entries, joins_hulls}
use Rattle.at_query.proofs.answer.merging.part_merge.Goals as goal

pub returns-in_ok-joined_offsets-in-Offsets-Offsets-clause-joined : goal.returns-in_ok-joined_offsets-in-Offsets-Offsets-clause-joined
returns-in_ok-joined_offsets-in-Offsets-Offsets-clause-joined c = joins_offsets c.args.left c.args.right _ _ _ c.in-Offsets-Offsets.is-0 c.in-Offsets-Offsets.is-1 c.in_ok-joined_offsets-in-Offsets-Offsets.ensures

pub returns-in-Count-Count-clause-joined : goal.returns-in-Count-Count-clause-joined
returns-in-Count-Count-clause-joined c = joins_counts c.args.left c.args.right _ _ _ c.in-Count-Count.is-0 c.in-Count-Count.is-1 refl

pub returns-in-Area-Area-clause-joined : goal.returns-in-Area-Area-clause-joined
returns-in-Area-Area-clause-joined c =
    let a_fits : FitsSigned w128 c.in-Area-Area.a = search rules in
    let b_fits : FitsSigned w128 c.in-Area-Area.b = search rules in
    joins_areas c.args.left c.args.right _ _ _ c.in-Area-Area.is-0 c.in-Area-Area.is-1 (wrapping_add_is w128 c.in-Area-Area.a c.in-Area-Area.b a_fits b_fits)

pub returns-in-Spread-Spread-clause-joined : goal.returns-in-Spread-Spread-clause-joined
returns-in-Spread-Spread-clause-joined c = joins_spreads c.args.left c.args.right _ _ _ c.in-Spread-Spread.is-0 c.in-Spread-Spread.is-1 c.joined_spread.ensures

pub returns-in_ok-joined_entries-in-Entries-Entries-clause-joined : goal.returns-in_ok-joined_entries-in-Entries-Entries-clause-joined
returns-in_ok-joined_entries-in-Entries-Entries-clause-joined c = joins_entries c.args.left c.args.right _ _ _ c.in-Entries-Entries.is-0 c.in-Entries-Entries.is-1 c.in_ok-joined_entries-in-Entries-Entries.ensures

pub returns-in_ok-joined_hulls-in-Hull-Hull-clause-joined : goal.returns-in_ok-joined_hulls-in-Hull-Hull-clause-joined
returns-in_ok-joined_hulls-in-Hull-Hull-clause-joined c = joins_hulls c.args.left c.args.right _ _ _ c.in-Hull-Hull.is-0 c.in-Hull-Hull.is-1 c.in_ok-joined_hulls-in-Hull-Hull.ensures.joins c.in_ok-joined_hulls-in-Hull-Hull.ensures.own.1

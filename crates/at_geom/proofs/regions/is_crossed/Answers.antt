use Rattle.std.specs.Prelude.{FitsSigned}
use Rattle.std.specs.Int.{w64, w128}
use Rattle.std.proofs.Common.{rules}
use Rattle.std.proofs.lemmas.Int.{to_z-of_z}
use Rattle.at_geom.proofs.Crossings.{no_pass, passes}
use Rattle.at_geom.proofs.regions.is_crossed.Goals as goal

pub returns-then-begins_low-ends_low : goal.returns-then-begins_low-ends_low
returns-then-begins_low-ends_low c =
    let f : FitsSigned w128 c.args.side = c.ranges.side in
    let (a, b, p) : FitsSigned w64 c.args.a.y × FitsSigned w64 c.args.b.y × FitsSigned w64 c.args.p.y = search rules in
    simp to_z-of_z (passes c.args.p c.args.a c.args.b c.args.side c.requires.side_of_line c.requires.off_line (simp to_z-of_z at c.if-begins_low-ends_low.true))

pub returns-else-begins_low-ends_low : goal.returns-else-begins_low-ends_low
returns-else-begins_low-ends_low c =
    let (a, b, p) : FitsSigned w64 c.args.a.y × FitsSigned w64 c.args.b.y × FitsSigned w64 c.args.p.y = search rules in
    simp to_z-of_z (no_pass c.args.p c.args.a c.args.b (simp to_z-of_z at c.if-begins_low-ends_low.false))

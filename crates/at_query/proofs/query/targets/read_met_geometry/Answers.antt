use Rattle.std.proofs.Common.{◌+◌, sym, subst}
use Rattle.at_query.specs.declared.query.queries.Test.TheVariants.{MeetsShape}
use Rattle.std.proofs.lemmas.Result.{MatchResult-weaker}
use Rattle.at_query.specs.declared.query.filters.TestRead.{TestRead}
use Rattle.at_text.specs.declared.halts.Halt.{Halt}
use Rattle.at_text.specs.Halts.{IfStopped}
use Rattle.at_query.specs.Readers.{Ends, Stops, GeometryTarget, test_in}
use Rattle.at_query.proofs.GeometryParts.{geometry_ends, geometry_stops}
use Rattle.at_query.proofs.query.targets.read_met_geometry.Goals as goal

pub returns-in-Ok : goal.returns-in-Ok
returns-in-Ok c =
    let P = GeometryTarget c.args.rules.digits c.args.rules.how in
    let w = c.args.text.now in let at = c.args.at in
    let read =
    subst (λ z. Ends P w at (at + c.in-Ok.prefix.taken) (record { test = MeetsShape c.in-Ok.prefix.shape; fault = z })) (sym c.offset_of.ensures)
    (geometry_ends c.args.rules.digits c.args.rules.how w at c.requires.inside c.in-Ok.prefix c.in-Ok.ensures)
    in
    MatchResult-weaker c.met_read.result c.met_read.ensures
    (λ (r : TestRead) e. subst (λ (z : TestRead). Ends P w at z.end (test_in z)) (sym e) read)
    (λ (h : Halt) e. subst (λ (z : Halt). IfStopped z (Stops P w at)) (sym e) tt)

pub returns-in-Err-Found : goal.returns-in-Err-Found
returns-in-Err-Found c =
    let h = rw c.in-Err-Found.field-0-is at c.in-Err-Found.ensures in
    rw c.in-Err-Found.field-0-is (geometry_stops c.args.rules.digits c.args.rules.how c.args.text.now c.args.at c.requires.inside c.in-Err-Found.fault h)

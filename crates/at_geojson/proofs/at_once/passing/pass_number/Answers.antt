-- A number is a scalar.
use Rattle.std.proofs.Common.{true, refl, inr}
use Rattle.at_scan.proofs.Taken.{number_taken}
use Rattle.at_geojson.proofs.at_once.passing.pass_number.Goals as goal

pub returns : goal.returns
returns c = let t = number_taken c.args.text.now c.args.at (record { len = c.in_ok-len.len; whole = true }) c.requires.inside c.in_ok-len.ensures.taken refl in (t.order, t.within, inr (inr t.word))

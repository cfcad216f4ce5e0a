use Rattle.at_fixed.proofs.Points.{fraction_by}
use Rattle.at_fixed.proofs.scanning.read_fraction.Goals as goal

pub returns : goal.returns
returns c =
    let run = c.read_digits-fraction.ensures in
    fraction_by c.args.notation c.args.text.now c.args.whole c.read_digits-fraction.result c.may_end.result c.requires.reads c.requires.point
    run.order run.within run.digits run.stops run.fits run.dropped run.keeps c.may_end.ensures

-- No names are plain names.
use Rattle.at_scan_tests.proofs.tests.twin_place.Goals as goal

pub loop-at-init : goal.loop-at-init
loop-at-init c = c.none-names.ensures.plain c.args.text.now

use Rattle.at_cli.specs.Made.{feature_line}
use Rattle.at_cli.proofs.MadeSizes.{texts_more}
use Rattle.at_cli.proofs.made.push_features.Goals as goal

pub loop-index-preserved : goal.loop-index-preserved
loop-index-preserved c = (texts_more feature_line c.loop-index.index c.args.text.now.items c.loop-index.text.items c.push_numbered.new.text.items c.loop-index.invariant.0 c.in_ok-push_numbered.ensures, c.in_ok-renew_feature_row.ensures.texts)

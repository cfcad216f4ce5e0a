use Rattle.std.proofs.Common.{refl}
use Rattle.at_lex.specs.Runs.{the_null, the_true, the_false}
use Rattle.at_nest.specs.Tree.{literal}
use Rattle.at_geojson.specs.declared.atoms.atom.GeoAtom.TheVariants.{Null, Plain}
use Rattle.at_geojson.proofs.ScalarFolds.{folds_one, null_folds, plain_folds}
use Rattle.at_geojson.proofs.atoms.scalars.run_atom.Goals as goal

pub returns-in-Null-clause-fold : goal.returns-in-Null-clause-fold
returns-in-Null-clause-fold c = folds_one c.args.algebra.now (Null c.args.at) c.args.at c.args.text.now (literal c.args.at the_null) (refl, c.in-Null.ensures) (null_folds c.args.algebra.now c.args.at)

pub returns-in-True-clause-fold : goal.returns-in-True-clause-fold
returns-in-True-clause-fold c = folds_one c.args.algebra.now (Plain c.args.at) c.args.at c.args.text.now (literal c.args.at the_true) (refl, c.in-True.ensures) (plain_folds c.args.algebra.now c.args.at the_true (λ e. cc))

pub returns-in-False-clause-fold : goal.returns-in-False-clause-fold
returns-in-False-clause-fold c = folds_one c.args.algebra.now (Plain c.args.at) c.args.at c.args.text.now (literal c.args.at the_false) (refl, c.in-False.ensures) (plain_folds c.args.algebra.now c.args.at the_false (λ e. cc))

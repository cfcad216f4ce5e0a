-- Each object is read behind those before it.
use Rattle.std.proofs.Common.{◌∙◌, ap, arith}
use Rattle.at_geojson.specs.declared.atoms.atom.Items.{Items}
use Rattle.at_geojson.proofs.FeatureJoins.{objects_begin, objects_can_join, objects_go_on}
use Rattle.at_geojson.proofs.at_once.object_runs.objects_behind.Goals as goal

pub objects-init : goal.objects-init
objects-init c = let ok = c.in_ok-run.ensures.ok in
    objects_begin c.args.text.now.algebra.now c.args.text.now.base c.args.text.now.bytes.now c.args.whole c.skip_spaces-end.result c.in_ok-run.run' c.requires.whole c.requires.object
    (ap (λ (i : Items). i.geometries) ok ∙ c.into_items.ensures.geometries) (ap (λ (i : Items). i.features) ok ∙ c.into_items.ensures.features) c.skip_spaces-end.ensures.order c.skip_spaces-end.ensures.within c.skip_spaces-end.ensures.spaces

pub joined_run-requires : goal.joined_run-requires
joined_run-requires c = let one = c.into_items-in-Ok in
    objects_can_join c.args.text.now.algebra.now c.args.text.now.base c.args.text.now.bytes.now c.objects.end c.objects.run c.in-Ok.next one.result c.objects.invariant c.in-Ok.ensures one.ensures.geometries one.ensures.features

pub objects-smaller : goal.objects-smaller
objects-smaller c = omega (arith, c.in-Ok.ensures.order, c.in-Ok.ensures.item.within)

pub objects-preserved : goal.objects-preserved
objects-preserved c = let one = c.into_items-in-Ok in let joined = c.in_ok-run-in-Ok in
    objects_go_on c.args.text.now.algebra.now c.args.text.now.base c.args.text.now.bytes.now c.objects.end c.objects.run c.in-Ok.next one.result c.objects.invariant c.in-Ok.ensures one.ensures.geometries one.ensures.features
    joined.run' joined.ensures.geometries joined.ensures.features

use Rattle.std.proofs.Common.{[], sym, ◌∙◌, ap}
use Rattle.std.proofs.lemmas.Result.{IfOk-weaker}
use Rattle.at_geojson.specs.Gathering.{member_twins}
use Rattle.at_geojson.proofs.ObjectReads.{twin_object, object_folds}
use Rattle.at_geojson.proofs.objects.object_atoms.object_atom.Goals as goal

pub returns-in-Some-clause-fold : goal.returns-in-Some-clause-fold
returns-in-Some-clause-fold c ms h = twin_object c.args.algebra.now c.args.at c.args.members.items ms c.in-Some.fault h (ap (member_twins []) (sym c.as_slice.ensures.value) ∙ (sym c.in_ok-fault.ensures ∙ c.in-Some.is))

pub returns-in-None-clause-fold : goal.returns-in-None-clause-fold
returns-in-None-clause-fold c = IfOk-weaker c.members_atom.result _ _ (λ r d. object_folds c.args.algebra.now c.args.at c.args.members.items r (ap (member_twins []) (sym c.as_slice.ensures.value) ∙ (sym c.in_ok-fault.ensures ∙ c.in-None.is)) d) c.members_atom.ensures.made

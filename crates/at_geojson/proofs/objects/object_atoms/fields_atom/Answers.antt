use Rattle.std.proofs.Common.{sym, subst}
use Rattle.at_geojson.specs.declared.atoms.atom.Roles.{Roles}
use Rattle.at_geojson.specs.Atoms.{IsOwnRole}
use Rattle.at_geojson.proofs.FieldFolds.{own_role}
use Rattle.at_geojson.proofs.objects.object_atoms.fields_atom.Goals as goal

pub returns-clause-own : goal.returns-clause-own
returns-clause-own c =
    subst (λ (roles : Roles). IsOwnRole c.args.algebra.now roles.role) (sym c.deref_mut.ensures.value) (own_role c.args.algebra.now c.args.at c.kind-kind.result c.args.fields.now c.in_ok-roles.roles.value.role c.requires c.in_ok-roles.ensures.role)

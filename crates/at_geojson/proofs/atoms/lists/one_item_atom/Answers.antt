-- An array of one item that is no coordinates and no object, or of any other.
use Rattle.std.proofs.Common.{IfOk, All, List, [], ◌∷◌, ◌++◌, sym, ◌∙◌, ap, subst}
use Rattle.std.proofs.lemmas.List.Elements.{All-nil, All-cons}
use Rattle.at_geojson.specs.declared.atoms.atom.GeoAtom.{GeoAtom}
use Rattle.at_geojson.specs.declared.atoms.atom.GeoAtom.TheVariants as atoms
use Rattle.at_geojson.specs.Atoms.{IsOwn}
use Rattle.at_geojson.specs.Arrays.{ClosesItems}
use Rattle.at_geojson.proofs.MixedFolds.{one_other}
use Rattle.at_geojson.proofs.atoms.lists.one_item_atom.Goals as goal

pub returns-in-Other-clause-fold : goal.returns-in-Other-clause-fold
returns-in-Other-clause-fold c = let x = c.in-Other.other in
    subst (λ (z : GeoAtom). ClosesItems c.args.algebra.now c.args.at (z ∷ []) (atoms.Other (record { at = c.args.at; least = x.at }))) (sym c.in-Other.is) (one_other c.args.algebra.now c.args.at x)

pub array_atom-requires : goal.array_atom-requires
array_atom-requires c =
    let item = c.args.item in
    let one = c.in_ok-push.ensures.items ∙ ap (λ (z : List GeoAtom). z ++ item ∷ []) c.in_ok-items.ensures.items in
    subst (All (IsOwn c.args.algebra.now)) (sym one) (All-cons (IsOwn c.args.algebra.now) item [] c.requires (All-nil (IsOwn c.args.algebra.now)))

pub returns-clause-fold : goal.returns-clause-fold
returns-clause-fold c =
    let item = c.args.item in
    let one = c.in_ok-push.ensures.items ∙ ap (λ (z : List GeoAtom). z ++ item ∷ []) c.in_ok-items.ensures.items in
    subst (λ (z : List GeoAtom). IfOk c.array_atom.result (ClosesItems c.args.algebra.now c.args.at z)) one c.array_atom.ensures.fold

-- Behind the offsets there is nothing.
use Rattle.std.proofs.Common.{◌≡◌, ◌++◌, ℕ, List, [], sym, ◌∙◌, ap, subst, append-nil}
use Rattle.std.proofs.lemmas.Bool.{eqb-true}
use Rattle.std.proofs.lemmas.List.{nil_from_length}
use Rattle.at_query.specs.Parts.{JoinsParts}
use Rattle.at_query.proofs.Joining.{joins_offsets}
use Rattle.at_geojson.proofs.joined.runs.adds_nothing.Goals as goal

pub returns-in-Offsets-Offsets : goal.returns-in-Offsets-Offsets
returns-in-Offsets-Offsets c is =
    let left = c.args.left.now in
    let a : List ℕ = c.in-Offsets-Offsets.field-0-0 in
    let b : List ℕ = c.in-Offsets-Offsets.more in
    let none : b ≡ [] = sym c.as_slice.ensures ∙ nil_from_length c.as_slice.result.now (eqb-true _ 0 (sym c.is_empty.ensures ∙ is)) in
    subst (λ z. JoinsParts left c.args.right.now z) (sym c.in-Offsets-Offsets.is-0)
    (joins_offsets left c.args.right.now a b a c.in-Offsets-Offsets.is-0 c.in-Offsets-Offsets.is-1 (sym (append-nil a) ∙ ap (λ z. a ++ z) (sym none)))

use Rattle.std.proofs.Common.{[], ◌∷◌, ◌∙◌, ap, sym}
use Rattle.std.proofs.lemmas.Result.{IfOk-weaker}
use Rattle.at_query.specs.declared.answer.parts.Part.TheVariants.{Entries}
use Rattle.at_query.specs.Accumulators.{added_by}
use Rattle.at_query.proofs.Joining.{joins_entries}
use Rattle.at_query.proofs.answer.adding.add_entry.Goals as goal

pub returns : goal.returns
returns c =
    let one = ap (added_by c.args.feature) c.in-Entries.is ∙ ap (λ e. Entries (e ∷ [])) (sym c.entry_of.ensures) in
    IfOk-weaker c.push.result _ _ (λ u e. joins_entries c.args.part.now _ _ _ _ c.in-Entries.is one e) c.push.ensures

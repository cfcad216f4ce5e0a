-- A value alone is several items, one in number.
use Rattle.std.proofs.lemmas.Result.{IfOk-weaker}
use Rattle.at_nest.proofs.SeveralAhead.{attempt_items}
use Rattle.at_nest.proofs.algebra.Algebra.items.Goals as goal

pub returns : goal.returns
returns g c = IfOk-weaker c.value.result _ _ (λ a h. attempt_items (g.Self.Algebra.is_own c.args.self.now) (g.Self.Algebra.is_fold c.args.self.now) (g.Self.Algebra.is_run c.args.self.now) c.args.at c.args.text.now a c.requires.begins h) c.value.ensures

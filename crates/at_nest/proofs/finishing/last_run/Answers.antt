-- The value may stand behind the items, or the text stops at it.
use Rattle.std.proofs.Common.{sym, ◌∙◌, ap, Err}
use Rattle.std.proofs.lemmas.Option.{none-some}
use Rattle.at_nest.specs.Shown.{shown}
use Rattle.at_nest.specs.KeptItems.{OwnAtom}
use Rattle.at_nest.specs.NextItems.{next_of, stop_of}
use Rattle.at_nest.proofs.LastBytes.{ends_run, same_halt}
use Rattle.at_nest.proofs.finishing.last_run.Goals as goal

pub returns-in-None : goal.returns-in-None
returns-in-None g c = let own = g.A.Algebra.is_own c.args.algebra.now in let fold = g.A.Algebra.is_fold c.args.algebra.now in let run = g.A.Algebra.is_run c.args.algebra.now in
    ends_run (OwnAtom own fold run) (shown c.args.body) (shown c.read_value.new.body) c.in_ok-read_value.field-0 c.args.from c.args.text.now c.in_ok-atom.atom c.requires.whole (λ t spells. (c.in_ok-atom.ensures.own, c.in_ok-atom.ensures.fold t spells)) c.in_ok-read_value.ensures c.answer_of.result
    (λ e. c.answer_of.ensures) (λ halt e. absurd (none-some halt (sym c.in-None.is ∙ e)))

pub returns-in-Some : goal.returns-in-Some
returns-in-Some g c = let own = g.A.Algebra.is_own c.args.algebra.now in let fold = g.A.Algebra.is_fold c.args.algebra.now in let run = g.A.Algebra.is_run c.args.algebra.now in
    ends_run (OwnAtom own fold run) (shown c.args.body) (shown c.read_value.new.body) c.in_ok-read_value.field-0 c.args.from c.args.text.now c.in_ok-atom.atom c.requires.whole (λ t spells. (c.in_ok-atom.ensures.own, c.in_ok-atom.ensures.fold t spells)) c.in_ok-read_value.ensures (Err c.stop_of.result)
    (λ e. absurd (none-some c.in-Some.halt (sym e ∙ c.in-Some.is))) (λ halt e. ap Err (c.stop_of.ensures ∙ ap (stop_of (next_of (shown c.read_value.new.body))) (same_halt c.in-Some.halt halt (sym c.in-Some.is ∙ e))))

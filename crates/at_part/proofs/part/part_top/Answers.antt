use Rattle.std.proofs.Common.{◌≡◌, sym, subst}
use Rattle.at_cli.specs.Outcomes.{TheOutcome, Outcome, answered, stopped, AreRefused, AreAccepted, SayNoLine}
use Rattle.at_cli.specs.Failures.{asked_names, meanings_of}
use Rattle.at_part.proofs.Asking.{one_filter, behind, behind_complete, failed_behind}
use Rattle.at_part.proofs.part.part_top.Goals as goal

pub returns-clause-unnamed : goal.returns-clause-unnamed
returns-clause-unnamed g c none = absurd (none c.in-Some.asked.filter _ c.in-Some.ensures)

pub returns-clause-answered : goal.returns-clause-answered
returns-clause-answered g c f rest e zero =
    let it = one_filter c.in-Some.asked.filter f _ _ _ c.in-Some.ensures e in
    let (text, grown, same, empty, what) = c.top.ensures.answered zero in
    (text, grown, same, empty, behind c.in-Some.asked.filter f _ rest (g.S.Shelf.files c.args.shelf) _ (λ words told. TheOutcome words told (answered text)) it.0 it.1 c.new-shelf.ensures.files what)

pub returns-clause-stopped : goal.returns-clause-stopped
returns-clause-stopped g c f rest e status =
    let it = one_filter c.in-Some.asked.filter f _ _ _ c.in-Some.ensures e in
    let (line, told, what) = c.top.ensures.stopped status in
    (line, told, behind c.in-Some.asked.filter f _ rest (g.S.Shelf.files c.args.shelf) _ (λ words told. TheOutcome words told (stopped c.top.result line)) it.0 it.1 c.new-shelf.ensures.files what)

pub returns-clause-refused : goal.returns-clause-refused
returns-clause-refused g c f rest e status =
    let it = one_filter c.in-Some.asked.filter f _ _ _ c.in-Some.ensures e in
    let (refusal, is, stays, told) = c.top.ensures.refused status in
    (refusal, subst (λ words. AreRefused words refusal) it.1 is, told)

pub returns-clause-refuses : goal.returns-clause-refuses
returns-clause-refuses g c f rest e refusal is =
    let it = one_filter c.in-Some.asked.filter f _ _ _ c.in-Some.ensures e in
    c.top.ensures.refuses refusal (subst (λ words. AreRefused words refusal) (sym it.1) is)

pub returns-clause-write_failed : goal.returns-clause-write_failed
returns-clause-write_failed g c f rest e status =
    let it = one_filter c.in-Some.asked.filter f _ _ _ c.in-Some.ensures e in
    let (text, failed, grown, told, what) = c.top.ensures.write_failed status in
    (text, failed, grown, told, behind c.in-Some.asked.filter f _ rest (g.S.Shelf.files c.args.shelf) _ (λ words told. TheOutcome words told (answered text)) it.0 it.1 c.new-shelf.ensures.files what)

pub returns-clause-complete : goal.returns-clause-complete
returns-clause-complete g c f rest e =
    let it = one_filter c.in-Some.asked.filter f _ _ _ c.in-Some.ensures e in
    behind_complete c.in-Some.asked.filter f _ rest (g.S.Shelf.files c.args.shelf) _ c.top.result (λ words told. (outcome : Outcome) × TheOutcome words told outcome × (c.top.result ≡ outcome.status)) it.0 it.1 c.new-shelf.ensures.files c.top.ensures.complete

pub returns-clause-read_failed : goal.returns-clause-read_failed
returns-clause-read_failed g c f rest e status =
    let it = one_filter c.in-Some.asked.filter f _ _ _ c.in-Some.ensures e in
    let (line, accepted, (told, failed, was_told)) = c.top.ensures.read_failed status in
    let counts = c.new-shelf.ensures.counts in (
      line,
      subst (λ words. AreAccepted words line) it.1 accepted,
      (told, c.top.new.shelf.shelf, failed_behind c.in-Some.asked.filter (asked_names line) told _ (meanings_of g.S.Shelf c.args.shelf) _ (g.S.Shelf.files c.top.new.shelf.shelf) c.new-shelf.ensures.files counts.0 counts.1 counts.4 counts.3 failed, was_told),
    )

pub returns-clause-usage : goal.returns-clause-usage
returns-clause-usage g c f rest e none =
    let it = one_filter c.in-Some.asked.filter f _ _ _ c.in-Some.ensures e in
    c.top.ensures.usage (subst SayNoLine (sym it.1) none)

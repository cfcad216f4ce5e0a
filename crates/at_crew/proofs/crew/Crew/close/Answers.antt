use Rattle.std.proofs.Common.{◌∙◌, ◌<◌, false, get_or, sym, ap, subst, arith}
use Rattle.std.proofs.lemmas.List.{get_or-set_other}
use Rattle.std.specs.Mem.Slots.{slots_items, slots_len, slots_filled, slots_counts}
use Rattle.at_crew.specs.Views.{claimed, merged, times}
use Rattle.at_crew.specs.Rule.{OneWhere}
use Rattle.at_crew.proofs.Claims.{some-inj, some≢none}
use Rattle.at_crew.proofs.Closes.{whole_read, claimed_once, merged_once}
use Rattle.at_crew.proofs.crew.Crew.close.Goals as goal

pub take-requires : goal.take-requires
take-requires g c = let n = c.close_with-closed.ensures.counts.1 in let z = c.args.self.sized in let lt : 0 < slots_len c.close_with-closed.result.slots = omega (arith, n, z) in
    (lt, c.close_with-closed.ensures.values.1 0 (omega arith) lt)

pub unreachable-requires : goal.unreachable-requires
unreachable-requires g c = let k = c.close_with-closed.result.slots in let f = g.J.Job.facts c.args.self.table.shared.key in let i = c.args.chief.sits.0 in let h = c.requires.home in let s = c.requires.some in
    let r = whole_read g.J.Job.stands f (g.J.Job.count f) c.args.self.blocks c.args.chief.seat.id c.args.chief.seat.me.0 (slots_items c.close_with-closed.result.words) (slots_items c.close_with-closed.result.slots) c.close_with-closed.ensures.values.2 i.0 (omega (arith, i, h)) (omega (arith, i, s))
    (sym (slots_counts c.close_with-closed.result.slots).0 ∙ c.close_with-closed.ensures.counts.1 ∙ c.args.self.sized.0) c.take.result c.take.ensures.value in
    some≢none (sym r.1 ∙ c.in_default.is)

pub discard_rest-requires-clause-rest : goal.discard_rest-requires-clause-rest
discard_rest-requires-clause-rest g c = λ k le lt. (let o = c.take.ensures.others in
    ap (λ q. get_or q k false) o.1 ∙ get_or-set_other (slots_filled c.close_with-closed.result.slots) 0 k false false (λ e. omega (arith, e, le)) ∙ c.close_with-closed.ensures.values.1 k (omega arith) (omega (arith, lt, o.2)))

pub returns-clause-whole : goal.returns-clause-whole
returns-clause-whole g c = let f = g.J.Job.facts c.args.self.table.shared.key in let i = c.args.chief.sits.0 in let h = c.requires.home in let s = c.requires.some in
    let r = whole_read g.J.Job.stands f (g.J.Job.count f) c.args.self.blocks c.args.chief.seat.id c.args.chief.seat.me.0 (slots_items c.close_with-closed.result.words) (slots_items c.close_with-closed.result.slots) c.close_with-closed.ensures.values.2 i.0 (omega (arith, i, h)) (omega (arith, i, s))
    (sym (slots_counts c.close_with-closed.result.slots).0 ∙ c.close_with-closed.ensures.counts.1 ∙ c.args.self.sized.0) c.take.result c.take.ensures.value in
    subst (λ x. g.J.Job.stands (g.J.Job.facts c.args.self.table.shared.key) x 0 c.args.self.blocks) (some-inj (sym r.1 ∙ c.in-Some.is)) r.2

pub returns-clause-claimed : goal.returns-clause-claimed
returns-clause-claimed g c = let f = g.J.Job.facts c.args.self.table.shared.key in let i = c.args.chief.sits.0 in let h = c.requires.home in let s = c.requires.some in λ x.
    subst (λ w. OneWhere (x < c.args.self.blocks) (times x (claimed w))) (sym (ap (λ q. q.me.0) c.of-lists.ensures))
    (claimed_once g.J.Job.stands f (g.J.Job.count f) c.args.self.blocks c.args.chief.seat.id c.args.chief.seat.me.0 (slots_items c.close_with-closed.result.words) (slots_items c.close_with-closed.result.slots) c.close_with-closed.ensures.values.2 i.0 (omega (arith, i, h)) (omega (arith, i, s))
    (sym (slots_counts c.close_with-closed.result.slots).0 ∙ c.close_with-closed.ensures.counts.1 ∙ c.args.self.sized.0) x)

pub returns-clause-merged : goal.returns-clause-merged
returns-clause-merged g c = let f = g.J.Job.facts c.args.self.table.shared.key in let i = c.args.chief.sits.0 in let h = c.requires.home in let s = c.requires.some in λ x.
    subst (λ w. OneWhere ((0 < x) × (x < c.args.self.blocks)) (times x (merged w))) (sym (ap (λ q. q.me.0) c.of-lists.ensures))
    (merged_once g.J.Job.stands f (g.J.Job.count f) c.args.self.blocks c.args.chief.seat.id c.args.chief.seat.me.0 (slots_items c.close_with-closed.result.words) (slots_items c.close_with-closed.result.slots) c.close_with-closed.ensures.values.2 i.0 (omega (arith, i, h)) (omega (arith, i, s))
    (sym (slots_counts c.close_with-closed.result.slots).0 ∙ c.close_with-closed.ensures.counts.1 ∙ c.args.self.sized.0) x)

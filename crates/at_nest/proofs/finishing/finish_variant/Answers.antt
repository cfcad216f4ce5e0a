-- The lead is put behind nothing, and behind it the items; then the text ends in what is pending, or stops.
use Rattle.std.proofs.Common.{sym, subst, ap, Option, [], Err, refl}
use Rattle.at_text.specs.Spans.{span_of}
use Rattle.at_lex.specs.declared.tokens.Start.TheVariants.{Out}
use Rattle.at_nest.specs.declared.finishing.NestEnd.{NestEnd}
use Rattle.at_nest.specs.declared.pieces.SpanStop.{SpanStop}
use Rattle.at_nest.specs.Shown.{Shown, shown}
use Rattle.at_nest.specs.Unions.{empty_form}
use Rattle.at_nest.specs.KeptItems.{IsAtomOf, OwnAtom, IsShown}
use Rattle.at_nest.specs.VariantMeanings.{HoldsVariant}
use Rattle.at_nest.specs.TextAnswers.{Answers}
use Rattle.at_nest.proofs.WholeTexts.{lead_pends, answers_lead, opens_whole, opens_broken, pends_whole, items_whole, whole_goes, whole_stops, broken_stops, first_halt}
use Rattle.at_nest.proofs.finishing.finish_variant.Goals as goal

pub last-requires-clause-pending : goal.last-requires-clause-pending
last-requires-clause-pending g c κs within = let h = subst (HoldsVariant _ Out c.args.span.from (span_of c.args.source.now.bytes.now c.args.span.from c.args.span.to)) c.in-AllLead.is c.requires.held in
    lead_pends (span_of c.args.source.now.bytes.now c.args.span.from c.args.span.to) h.0

pub last-requires-clause-held : goal.last-requires-clause-held
last-requires-clause-held g c κs within =
    (0, [], empty_form, subst (λ (z : Shown g.row.A-Atom.Denot). IsShown (IsAtomOf g.A.Algebra c.args.source.now.algebra.now) 0 [] z empty_form) (sym c.new-body.ensures) (refl, tt))

pub last-requires-in-None-clause-held : goal.last-requires-in-None-clause-held
last-requires-in-None-clause-held g c κs within = let h = subst (HoldsVariant _ Out c.args.span.from (span_of c.args.source.now.bytes.now c.args.span.from c.args.span.to)) c.in-Whole.is c.requires.held in
    items_whole _ c.args.source.now.bytes.now c.args.span.from c.args.span.to c.in-Whole.lead (shown c.new-body.result) (shown c.in-Whole.behind) (shown c.join_items.new.body) c.in_ok-join_items-in-Whole.field-0 c.in-Whole.pend c.in-Whole.end c.requires.order c.requires.end c.new-body.ensures h c.in_ok-join_items-in-Whole.ensures c.in-None.is

pub returns-in-AllLead : goal.returns-in-AllLead
returns-in-AllLead g c = let own = g.A.Algebra.is_own c.args.source.now.algebra.now in let fold = g.A.Algebra.is_fold c.args.source.now.algebra.now in let run = g.A.Algebra.is_run c.args.source.now.algebra.now in
    let h = subst (HoldsVariant (OwnAtom own fold run) Out c.args.span.from (span_of c.args.source.now.bytes.now c.args.span.from c.args.span.to)) c.in-AllLead.is c.requires.held in
    answers_lead (OwnAtom own fold run) c.args.span.from (span_of c.args.source.now.bytes.now c.args.span.from c.args.span.to) (shown c.new-body.result) c.last.result c.new-body.ensures c.last.ensures

pub join_items-requires-clause-end : goal.join_items-requires-clause-end
join_items-requires-clause-end g c κs within = let h = subst (HoldsVariant _ Out c.args.span.from (span_of c.args.source.now.bytes.now c.args.span.from c.args.span.to)) c.in-Whole.is c.requires.held in
    (opens_whole _ c.args.source.now.bytes.now c.args.span.from c.args.span.to c.in-Whole.lead (shown c.new-body.result) (shown c.in-Whole.behind) c.in-Whole.pend c.in-Whole.end c.requires.order c.requires.end c.new-body.ensures h).fits

pub join_items-requires-clause-held : goal.join_items-requires-clause-held
join_items-requires-clause-held g c κs within = let h = subst (HoldsVariant _ Out c.args.span.from (span_of c.args.source.now.bytes.now c.args.span.from c.args.span.to)) c.in-Whole.is c.requires.held in
    (opens_whole _ c.args.source.now.bytes.now c.args.span.from c.args.span.to c.in-Whole.lead (shown c.new-body.result) (shown c.in-Whole.behind) c.in-Whole.pend c.in-Whole.end c.requires.order c.requires.end c.new-body.ensures h).meets

pub last-requires-in-None-clause-pending : goal.last-requires-in-None-clause-pending
last-requires-in-None-clause-pending g c κs within = let h = subst (HoldsVariant _ Out c.args.span.from (span_of c.args.source.now.bytes.now c.args.span.from c.args.span.to)) c.in-Whole.is c.requires.held in
    (pends_whole _ c.args.source.now.bytes.now c.args.span.from c.args.span.to c.in-Whole.lead (shown c.in-Whole.behind) c.in-Whole.pend c.in-Whole.end c.requires.order c.requires.end h).pending

pub returns-in-None : goal.returns-in-None
returns-in-None g c = let h = subst (HoldsVariant _ Out c.args.span.from (span_of c.args.source.now.bytes.now c.args.span.from c.args.span.to)) c.in-Whole.is c.requires.held in
    whole_goes _ c.args.source.now.bytes.now c.args.span.from c.args.span.to c.in-Whole.lead (shown c.new-body.result) (shown c.in-Whole.behind) (shown c.join_items.new.body) c.in_ok-join_items-in-Whole.field-0 c.in-Whole.pend c.in-Whole.end c.last-in-None.result c.requires.order c.requires.end c.new-body.ensures h c.in_ok-join_items-in-Whole.ensures c.in-None.is c.last-in-None.ensures

pub returns-in-Whole : goal.returns-in-Whole
returns-in-Whole g c = let own = g.A.Algebra.is_own c.args.source.now.algebra.now in let fold = g.A.Algebra.is_fold c.args.source.now.algebra.now in let run = g.A.Algebra.is_run c.args.source.now.algebra.now in
    let h = subst (HoldsVariant (OwnAtom own fold run) Out c.args.span.from (span_of c.args.source.now.bytes.now c.args.span.from c.args.span.to)) c.in-Whole.is c.requires.held in
    subst (λ (e : NestEnd). Answers (OwnAtom own fold run) c.args.span.from (span_of c.args.source.now.bytes.now c.args.span.from c.args.span.to) (Err e)) (sym c.stop_of.ensures)
    (whole_stops (OwnAtom own fold run) c.args.source.now.bytes.now c.args.span.from c.args.span.to c.in-Whole.lead (shown c.new-body.result) (shown c.in-Whole.behind) (shown c.join_items.new.body) c.in_ok-join_items-in-Whole.field-0 c.in-Whole.pend c.in-Whole.end c.in-Some.halt c.requires.order c.requires.end c.new-body.ensures h c.in_ok-join_items-in-Whole.ensures c.in-Some.is)

pub join_items-requires-in-Broken-clause-end : goal.join_items-requires-in-Broken-clause-end
join_items-requires-in-Broken-clause-end g c κs within = let h = subst (HoldsVariant _ Out c.args.span.from (span_of c.args.source.now.bytes.now c.args.span.from c.args.span.to)) c.in-Broken.is c.requires.held in
    (opens_broken _ c.args.source.now.bytes.now c.args.span.from c.args.span.to c.in-Broken.lead (shown c.new-body.result) (shown c.in-Broken.behind) c.in-Broken.end c.requires.order c.requires.end c.new-body.ensures h).fits

pub join_items-requires-in-Broken-clause-held : goal.join_items-requires-in-Broken-clause-held
join_items-requires-in-Broken-clause-held g c κs within = let h = subst (HoldsVariant _ Out c.args.span.from (span_of c.args.source.now.bytes.now c.args.span.from c.args.span.to)) c.in-Broken.is c.requires.held in
    (opens_broken _ c.args.source.now.bytes.now c.args.span.from c.args.span.to c.in-Broken.lead (shown c.new-body.result) (shown c.in-Broken.behind) c.in-Broken.end c.requires.order c.requires.end c.new-body.ensures h).meets

pub returns-in-None-2 : goal.returns-in-None-2
returns-in-None-2 g c = let own = g.A.Algebra.is_own c.args.source.now.algebra.now in let fold = g.A.Algebra.is_fold c.args.source.now.algebra.now in let run = g.A.Algebra.is_run c.args.source.now.algebra.now in
    let h = subst (HoldsVariant (OwnAtom own fold run) Out c.args.span.from (span_of c.args.source.now.bytes.now c.args.span.from c.args.span.to)) c.in-Broken.is c.requires.held in
    subst (λ (e : NestEnd). Answers (OwnAtom own fold run) c.args.span.from (span_of c.args.source.now.bytes.now c.args.span.from c.args.span.to) (Err e)) (sym c.stop_of-in-None-2.ensures)
    (broken_stops (OwnAtom own fold run) c.args.source.now.bytes.now c.args.span.from c.args.span.to c.in-Broken.lead (shown c.new-body.result) (shown c.in-Broken.behind) (shown c.join_items-in-Broken.new.body) c.in_ok-join_items-in-Broken.field-0 c.in-Broken.end c.in-Broken.end c.requires.order c.requires.end c.new-body.ensures h c.in_ok-join_items-in-Broken.ensures (sym (ap (λ (r : Option SpanStop). first_halt r c.in-Broken.end) c.in-None-2.is)))

pub returns : goal.returns
returns g c = let own = g.A.Algebra.is_own c.args.source.now.algebra.now in let fold = g.A.Algebra.is_fold c.args.source.now.algebra.now in let run = g.A.Algebra.is_run c.args.source.now.algebra.now in
    let h = subst (HoldsVariant (OwnAtom own fold run) Out c.args.span.from (span_of c.args.source.now.bytes.now c.args.span.from c.args.span.to)) c.in-Broken.is c.requires.held in
    subst (λ (e : NestEnd). Answers (OwnAtom own fold run) c.args.span.from (span_of c.args.source.now.bytes.now c.args.span.from c.args.span.to) (Err e)) (sym c.stop_of-in-Some-2.ensures)
    (broken_stops (OwnAtom own fold run) c.args.source.now.bytes.now c.args.span.from c.args.span.to c.in-Broken.lead (shown c.new-body.result) (shown c.in-Broken.behind) (shown c.join_items-in-Broken.new.body) c.in_ok-join_items-in-Broken.field-0 c.in-Broken.end c.in-Some-2.halt c.requires.order c.requires.end c.new-body.ensures h c.in_ok-join_items-in-Broken.ensures (sym (ap (λ (r : Option SpanStop). first_halt r c.in-Broken.end) c.in-Some-2.is)))

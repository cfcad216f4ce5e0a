-- Behind a whole left span the token of both, and then the right one's items.
use Rattle.std.proofs.Common.{Option, subst, ◌++◌}
use Rattle.at_nest.specs.declared.pieces.SpanStop.{SpanStop}
use Rattle.at_nest.specs.Shown.{shown}
use Rattle.at_nest.specs.KeptItems.{OwnAtom}
use Rattle.at_nest.proofs.UnionsHeld.{put_whole, put_broken, union_all, union_whole, union_broken, right_is, Together, TogetherBroken}
use Rattle.at_nest.proofs.variants.join_behind.Goals as goal

pub join_items-requires-clause-end : goal.join_items-requires-clause-end
join_items-requires-clause-end g c κs within = let h = c.requires.held in
    (put_whole _ c.args.source.now.bytes.now h.0 h.1 h.2 h.3 c.args.lead (shown c.args.body) c.args.from c.in-Whole.to c.in-Whole.behind c.in-Whole.pend c.in-Whole.end (right_is _ c.args.source.now.bytes.now h.0 h.1 h.2 h.3 c.args.lead (shown c.args.body) c.args.from c.args.right _ c.in-Whole.is h.4)).fits

pub join_items-requires-clause-held : goal.join_items-requires-clause-held
join_items-requires-clause-held g c κs within = let h = c.requires.held in
    (put_whole _ c.args.source.now.bytes.now h.0 h.1 h.2 h.3 c.args.lead (shown c.args.body) c.args.from c.in-Whole.to c.in-Whole.behind c.in-Whole.pend c.in-Whole.end (right_is _ c.args.source.now.bytes.now h.0 h.1 h.2 h.3 c.args.lead (shown c.args.body) c.args.from c.args.right _ c.in-Whole.is h.4)).meets

pub join_items-requires-in-Broken-clause-end : goal.join_items-requires-in-Broken-clause-end
join_items-requires-in-Broken-clause-end g c κs within = let h = c.requires.held in
    (put_broken _ c.args.source.now.bytes.now h.0 h.1 h.2 h.3 c.args.lead (shown c.args.body) c.args.from c.in-Broken.to c.in-Broken.behind c.in-Broken.last (right_is _ c.args.source.now.bytes.now h.0 h.1 h.2 h.3 c.args.lead (shown c.args.body) c.args.from c.args.right _ c.in-Broken.is h.4)).fits

pub join_items-requires-in-Broken-clause-held : goal.join_items-requires-in-Broken-clause-held
join_items-requires-in-Broken-clause-held g c κs within = let h = c.requires.held in
    (put_broken _ c.args.source.now.bytes.now h.0 h.1 h.2 h.3 c.args.lead (shown c.args.body) c.args.from c.in-Broken.to c.in-Broken.behind c.in-Broken.last (right_is _ c.args.source.now.bytes.now h.0 h.1 h.2 h.3 c.args.lead (shown c.args.body) c.args.from c.args.right _ c.in-Broken.is h.4)).meets

pub returns-in-AllLead : goal.returns-in-AllLead
returns-in-AllLead g c = λ s at w x n. union_all _ c.args.source.now.bytes.now s at w x c.args.lead (shown c.args.body) c.args.from c.in-AllLead.end (right_is _ c.args.source.now.bytes.now s at w x c.args.lead (shown c.args.body) c.args.from c.args.right _ c.in-AllLead.is n)

pub returns-in-None : goal.returns-in-None
returns-in-None g c = let own = g.A.Algebra.is_own c.args.source.now.algebra.now in let fold = g.A.Algebra.is_fold c.args.source.now.algebra.now in let run = g.A.Algebra.is_run c.args.source.now.algebra.now in
    λ s at w x n. subst (λ (r : Option SpanStop). Together (OwnAtom own fold run) r s at (w ++ x) c.args.lead (shown c.join_items.new.body) c.in-Whole.pend c.in-Whole.end) c.in-None.is
    (union_whole (OwnAtom own fold run) c.args.source.now.bytes.now s at w x c.args.lead (shown c.args.body) c.args.from c.in-Whole.to c.in-Whole.behind c.in-Whole.pend c.in-Whole.end (shown c.join_items.new.body) c.in_ok-join_items-in-Whole.field-0 c.in_ok-join_items-in-Whole.ensures
    (right_is (OwnAtom own fold run) c.args.source.now.bytes.now s at w x c.args.lead (shown c.args.body) c.args.from c.args.right _ c.in-Whole.is n))

pub returns-in-Some : goal.returns-in-Some
returns-in-Some g c = let own = g.A.Algebra.is_own c.args.source.now.algebra.now in let fold = g.A.Algebra.is_fold c.args.source.now.algebra.now in let run = g.A.Algebra.is_run c.args.source.now.algebra.now in
    λ s at w x n. subst (λ (r : Option SpanStop). Together (OwnAtom own fold run) r s at (w ++ x) c.args.lead (shown c.join_items.new.body) c.in-Whole.pend c.in-Whole.end) c.in-Some.is
    (union_whole (OwnAtom own fold run) c.args.source.now.bytes.now s at w x c.args.lead (shown c.args.body) c.args.from c.in-Whole.to c.in-Whole.behind c.in-Whole.pend c.in-Whole.end (shown c.join_items.new.body) c.in_ok-join_items-in-Whole.field-0 c.in_ok-join_items-in-Whole.ensures
    (right_is (OwnAtom own fold run) c.args.source.now.bytes.now s at w x c.args.lead (shown c.args.body) c.args.from c.args.right _ c.in-Whole.is n))

pub returns-in-None-2 : goal.returns-in-None-2
returns-in-None-2 g c = let own = g.A.Algebra.is_own c.args.source.now.algebra.now in let fold = g.A.Algebra.is_fold c.args.source.now.algebra.now in let run = g.A.Algebra.is_run c.args.source.now.algebra.now in
    λ s at w x n. subst (λ (r : Option SpanStop). TogetherBroken (OwnAtom own fold run) r s at (w ++ x) c.args.lead (shown c.join_items-in-Broken.new.body) c.in-Broken.last) c.in-None-2.is
    (union_broken (OwnAtom own fold run) c.args.source.now.bytes.now s at w x c.args.lead (shown c.args.body) c.args.from c.in-Broken.to c.in-Broken.behind c.in-Broken.last (shown c.join_items-in-Broken.new.body) c.in_ok-join_items-in-Broken.field-0 c.in_ok-join_items-in-Broken.ensures
    (right_is (OwnAtom own fold run) c.args.source.now.bytes.now s at w x c.args.lead (shown c.args.body) c.args.from c.args.right _ c.in-Broken.is n))

pub returns-in-Some-2 : goal.returns-in-Some-2
returns-in-Some-2 g c = let own = g.A.Algebra.is_own c.args.source.now.algebra.now in let fold = g.A.Algebra.is_fold c.args.source.now.algebra.now in let run = g.A.Algebra.is_run c.args.source.now.algebra.now in
    λ s at w x n. subst (λ (r : Option SpanStop). TogetherBroken (OwnAtom own fold run) r s at (w ++ x) c.args.lead (shown c.join_items-in-Broken.new.body) c.in-Broken.last) c.in-Some-2.is
    (union_broken (OwnAtom own fold run) c.args.source.now.bytes.now s at w x c.args.lead (shown c.args.body) c.args.from c.in-Broken.to c.in-Broken.behind c.in-Broken.last (shown c.join_items-in-Broken.new.body) c.in_ok-join_items-in-Broken.field-0 c.in_ok-join_items-in-Broken.ensures
    (right_is (OwnAtom own fold run) c.args.source.now.bytes.now s at w x c.args.lead (shown c.args.body) c.args.from c.args.right _ c.in-Broken.is n))

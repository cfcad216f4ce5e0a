-- What is taken goes on behind the left variant; where nothing is wanted, the left one stops.
use Rattle.std.proofs.lemmas.Result.{IfOk-weaker}
use Rattle.at_nest.proofs.Behind.{can_take, taken_union, none_union}
use Rattle.at_nest.proofs.fragments.joined.Goals as goal

pub taken-requires-clause-held : goal.taken-requires-clause-held
taken-requires-clause-held g c κs within = let h = c.requires.held in
    can_take _ c.args.source.now.bytes.now h.0 h.1 h.2 h.3 c.args.left c.args.right.now c.args.wanted c.in-Some.slot c.in-Some.is h.4

pub join_variants-requires-clause-held : goal.join_variants-requires-clause-held
join_variants-requires-clause-held g c κs within = let h = c.requires.held in
    (h.0, h.1, h.2, h.3, taken_union _ c.args.source.now.bytes.now h.0 h.1 h.2 h.3 c.args.left c.args.right.now c.args.wanted c.in-Some.slot c.in_ok-behind-in-Some.behind c.in-Some.is c.in_ok-behind-in-Some.ensures.same h.4)

pub returns-in-None-clause-union : goal.returns-in-None-clause-union
returns-in-None-clause-union g c = λ s at w x h. none_union _ c.args.source.now.bytes.now s at w x c.args.left c.args.right.now c.args.wanted c.in-None.is h

pub returns-in_ok-behind-in-Some-clause-union : goal.returns-in_ok-behind-in-Some-clause-union
returns-in_ok-behind-in-Some-clause-union g c = IfOk-weaker c.join_variants.result _ _
    (λ v f s at w x h. f s at w x (taken_union _ c.args.source.now.bytes.now s at w x c.args.left c.args.right.now c.args.wanted c.in-Some.slot c.in_ok-behind-in-Some.behind c.in-Some.is c.in_ok-behind-in-Some.ensures.same h))
    c.join_variants.ensures

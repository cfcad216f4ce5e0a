use Rattle.std.proofs.Common.{◌≡◌, ◌∙◌, [], ◌∷◌, Some, None, ap}
use Rattle.at_crew.proofs.Pairs.{begins, turned_two}
use Rattle.at_crew.proofs.crew.Crew.take_two.Goals as goal

pub exchange-requires : goal.exchange-requires
exchange-requires g c = let s = c.args.seat.now in (c.requires.of, (Some c.requires.two.0, begins s.me.1 c.args.first (Some c.requires.two.0) ((c.args.second, Some c.requires.two.1) ∷ []) c.requires.two.2))

pub exchange-requires-2 : goal.exchange-requires-2
exchange-requires-2 g c = let s = c.args.seat.now in let two = c.requires.two in
    let e : c.turn.new.self.me.1 ≡ (c.args.second, Some c.requires.two.1) ∷ (c.args.first, None) ∷ [] = turned_two s.me.1 c.exchange.new.seat.me.1 c.turn.new.self.me.1 c.args.first c.args.second (Some two.0) None (Some two.1) two.2 (ap (λ m. m.1) c.exchange.ensures.3) (ap (λ m. m.1) c.turn.ensures.2) in
    (c.turn.ensures.0 ∙ (c.exchange.ensures.0 ∙ c.requires.of), (Some c.requires.two.1, begins c.turn.new.self.me.1 c.args.second (Some two.1) ((c.args.first, None) ∷ []) e))

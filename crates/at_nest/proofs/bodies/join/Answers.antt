-- Each item goes behind what is kept; then the open levels stand as they are.
use Rattle.std.proofs.Common.{◌++◌, List, sym, ◌∙◌, ap, subst, append-nil}
use Rattle.std.specs.Vec.Iter.{into_iter_items}
use Rattle.at_nest.specs.declared.levels.Open.{Open}
use Rattle.at_nest.specs.declared.pieces.Piece.{Piece}
use Rattle.at_nest.specs.Shown.{shown, show_as, open_levels, opens_of}
use Rattle.at_nest.specs.KeptItems.{IsAtomOf}
use Rattle.at_nest.proofs.Showing.{open_append}
use Rattle.at_nest.proofs.Joining.{taken_front, can_add, joins_halt, so_far_next, joins_all, none_left, SoFar}
use Rattle.at_nest.proofs.bodies.join.Goals as goal

pub add-requires-clause-held : goal.add-requires-clause-held
add-requires-clause-held g c κs within = can_add _ c.args.source.now.bytes.now (shown c.args.body.now) (shown c.args.behind) (shown c.loop-piece.body) c.loop-piece.yielded c.in-Some.piece (into_iter_items c.next.new.self) c.requires.held
    (sym c.into_iter-piece-iterator.ensures.into_iter_gives.0 ∙ (taken_front _ _ _ c.loop-piece.yielded_by ∙ ap (λ (z : List (Piece g.row.A-Atom.Denot)). c.loop-piece.yielded ++ z) c.in-Some.ensures.steps.0)) c.loop-piece.invariant.2

pub returns-then-is_some : goal.returns-then-is_some
returns-then-is_some g c = joins_halt _ c.args.source.now.bytes.now (shown c.args.body.now) (shown c.args.behind) (shown c.loop-piece.body) (shown c.add.new.body) c.loop-piece.yielded c.in-Some.piece (into_iter_items c.next.new.self) c.in_ok-halt.halt
    (sym c.is_some.ensures ∙ c.if-is_some.true)
    (sym c.into_iter-piece-iterator.ensures.into_iter_gives.0 ∙ (taken_front _ _ _ c.loop-piece.yielded_by ∙ ap (λ (z : List (Piece g.row.A-Atom.Denot)). c.loop-piece.yielded ++ z) c.in-Some.ensures.steps.0)) c.loop-piece.invariant.2 c.in_ok-halt.ensures

pub loop-piece-preserved : goal.loop-piece-preserved
loop-piece-preserved g c = (
  tt,
  tt,
  so_far_next _ c.args.source.now.bytes.now (shown c.args.body.now) (shown c.loop-piece.body) (shown c.add.new.body) c.loop-piece.yielded c.in-Some.piece c.in_ok-halt.halt
      (sym c.is_some.ensures ∙ c.if-is_some.false) c.loop-piece.invariant.2 c.in_ok-halt.ensures,
)

pub returns : goal.returns
returns g c = joins_all (IsAtomOf g.A.Algebra c.args.source.now.algebra.now) c.args.source.now.bytes.now (shown c.args.body.now) (shown c.args.behind) (shown c.loop-piece.body) _
    (subst (λ (z : List (Piece g.row.A-Atom.Denot)). SoFar (IsAtomOf g.A.Algebra c.args.source.now.algebra.now) c.args.source.now.bytes.now (shown c.args.body.now) z (shown c.loop-piece.body))
    (sym (sym c.into_iter-piece-iterator.ensures.into_iter_gives.0 ∙ (taken_front _ _ _ c.loop-piece.yielded_by
    ∙ (ap (λ (z : List (Piece g.row.A-Atom.Denot)). c.loop-piece.yielded ++ z) (none_left c.loop-piece.piece-iterator c.in-None.ensures.steps.0) ∙ append-nil c.loop-piece.yielded))))
    c.loop-piece.invariant.2)
    (ap (λ (z : List (Open g.row.A-Atom.Denot)). show_as c.loop-piece.body.outer.items (open_levels z)) c.in_ok-append.ensures
    ∙ ap (λ z. show_as c.loop-piece.body.outer.items z) (open_append (opens_of c.loop-piece.body.levels) (opens_of c.args.behind.levels)))

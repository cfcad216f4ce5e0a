use Rattle.std.proofs.Common.{All, pos, sym, subst}
use Rattle.std.proofs.lemmas.List.Elements.{All-push}
use Rattle.at_geom.specs.declared.positions.Pos.{Pos}
use Rattle.at_geom.specs.Segments.{IsInRange}
use Rattle.at_hull.proofs.OneHull.{next_within, next_waits}
use Rattle.at_hull.proofs.builder.push_outside.Goals as goal

-- read past the end
abbrev none : Pos
none = record { x = pos 0; y = pos 0 }

pub loop-p-preserved-then-is_within : goal.loop-p-preserved-then-is_within
loop-p-preserved-then-is_within c = record {
  held = next_within _ c.args.hull.now c.loop-p.waiting.items c.args.points.now c.loop-p.p-index none c.loop-p-test.true c.requires.own (c.is_within.ensures c.if-is_within.true) c.loop-p.invariant.held;
  in_range = c.loop-p.invariant.in_range;
}

pub loop-p-preserved : goal.loop-p-preserved
loop-p-preserved c = record {
  held = next_waits _ c.args.hull.now c.loop-p.waiting.items c.push.new.self.items c.args.points.now c.loop-p.p-index none c.loop-p-test.true c.in_ok-push.ensures.items c.loop-p.invariant.held;
  in_range = subst (All IsInRange) (sym c.in_ok-push.ensures.items) (All-push IsInRange c.loop-p.waiting.items _ c.loop-p.invariant.in_range (c.requires.points_in_range c.loop-p.p-index none c.loop-p-test.true));
}

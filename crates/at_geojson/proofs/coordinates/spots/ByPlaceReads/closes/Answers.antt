-- The same bytes are the same position, and else the values are those that were read there.
use Rattle.std.proofs.Common.{sym, ◌∙◌, ap}
use Rattle.std.specs.Cmp.Lexicographic.{same_text}
use Rattle.at_geom.specs.declared.positions.Pos.{Pos}
use Rattle.at_geojson.specs.Passing.{same_values}
use Rattle.at_geojson.proofs.MadeFolds.{passed_value, same_bytes}
use Rattle.at_geojson.proofs.coordinates.spots.ByPlaceReads.closes.Goals as goal

pub returns-then-eq : goal.returns-then-eq
returns-then-eq c p q _ h _ k =
    same_bytes c.args.text.now.algebra.now 0 c.args.text.now.bytes.now c.args.first.from c.args.first.to c.args.last.from c.args.last.to p q c.requires.first c.requires.order c.requires.last c.requires.inside c.requires.within
    (same_text _ _ (sym c.if-eq.true ∙ c.eq.ensures)) h k

pub returns : goal.returns
returns c p q _ h _ k =
    let one = c.in_ok-one.one in let other = c.in_ok-other.other in
    let e = passed_value c.args.text.now.algebra.now c.args.text.now.base c.args.text.now.bytes.now c.args.first.from c.args.first.to p one h c.if-one-first.false c.in_ok-one.ensures in
    let f = passed_value c.args.text.now.algebra.now c.args.text.now.base c.args.text.now.bytes.now c.args.last.from c.args.last.to q other k c.if-other-last.false c.in_ok-other.ensures in
    c.same_pos.ensures ∙ (ap (λ (z : Pos). same_values z other.pair.pos) e ∙ ap (λ (z : Pos). same_values p z) f)

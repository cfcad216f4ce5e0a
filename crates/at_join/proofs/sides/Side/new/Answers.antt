use Rattle.std.proofs.Common.{subst, ap, ◌∙◌}
use Rattle.std.specs.List.Sorted.{IsPermutation}
use Rattle.std.proofs.lemmas.List.Elements.{All-weaker}
use Rattle.at_join.specs.declared.outlines.Outline.{Outline}
use Rattle.at_join.specs.Boxes.{IsWide}
use Rattle.at_join.specs.Sides.{Cover, IsOutlineOf, outlined}
use Rattle.at_join.proofs.Rows.{IsKnown, known_outlines}
use Rattle.at_join.proofs.sides.Side.new.Goals as goal

pub returns-clause-side : goal.returns-clause-side
returns-clause-side c =
    let es = c.args.entries in
    let outlines = c.sort_by_cached_key.new.self.items in
    let moved = subst (λ l. IsPermutation l outlines) (c.in_ok-outlines.ensures ∙ ap (outlined 0) c.as_slice.ensures) c.sort_by_cached_key.ensures.permutation in
    let known = known_outlines es outlines c.requires moved in
    record {
      outlines = moved;
      wide = All-weaker (IsKnown es) (λ (q : Outline). IsWide q.extent) (λ q k. k.1) outlines known;
      indices = All-weaker (IsKnown es) (IsOutlineOf es) (λ q k. k.0) outlines known;
      runs = subst (λ l. Cover 16 c.in_ok-runs.runs.items l) c.as_slice-2.ensures.value c.in_ok-runs.ensures;
      blocks = subst (λ l. Cover 256 c.in_ok-blocks.blocks.items l) c.as_slice-3.ensures.value c.in_ok-blocks.ensures;
      fields = subst (λ l. Cover 4096 c.in_ok-fields.fields.items l) c.as_slice-4.ensures.value c.in_ok-fields.ensures;
    }

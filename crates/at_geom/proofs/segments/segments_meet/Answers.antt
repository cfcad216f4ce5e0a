use Rattle.std.proofs.Common.{sym, ◌∙◌}
use Rattle.std.proofs.lemmas.Bool.{false≢true}
use Rattle.at_geom.proofs.CommonPoint.{common_point_in, common_point_out}
use Rattle.at_geom.proofs.segments.segments_meet.Goals as goal
use Rattle.at_geom.proofs.segments.segments_meet.Goals.{then-not-boxes_overlap-via-then-not-boxes_overlap, then-not-boxes_overlap-via-else-not-boxes_overlap+then-not-lies_across}

pub returns-then-not-boxes_overlap : goal.returns-then-not-boxes_overlap
returns-then-not-boxes_overlap c = (
  λ t. absurd (false≢true t),
  λ h.
      let p = common_point_out c.args.a c.args.b c.args.c c.args.d h in
      elim c.then-not-boxes_overlap.branch [
        | then-not-boxes_overlap-via-then-not-boxes_overlap w ↦
            absurd (false≢true (sym w.if-not-boxes_overlap.true ∙ c.boxes_overlap.ensures.1 (p.overlap_x.0, p.overlap_x.1, p.overlap_y.0, p.overlap_y.1)))
        | then-not-boxes_overlap-via-else-not-boxes_overlap+then-not-lies_across w ↦
            absurd (false≢true (sym w.if-not-lies_across.true ∙ w.lies_across.ensures.1 p.apart_cd))
      ],
)

pub returns : goal.returns
returns c =
    let o = c.boxes_overlap.ensures.0 c.if-not-boxes_overlap.false in
    let s = c.lies_across.ensures.0 c.if-not-lies_across.false in (
      λ t. common_point_in c.args.a c.args.b c.args.c c.args.d (record { overlap_x = (o.0, o.1); overlap_y = (o.2, o.3); apart_cd = s; apart_ab = c.lies_across-2.ensures.0 t }),
      λ h. c.lies_across-2.ensures.1 (common_point_out c.args.a c.args.b c.args.c c.args.d h).apart_ab,
    )

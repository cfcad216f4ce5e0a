use Rattle.at_wkt.proofs.LineAnswers.{stopped_inside, refused_prefix, whole_prefix}
use Rattle.at_wkt.proofs.line.reading.read_geometry.Goals as goal

pub refusal_of-requires-clause-inside : goal.refusal_of-requires-clause-inside
refusal_of-requires-clause-inside c = stopped_inside c.args.text.now c.in-Err.halt (λ n h. h.within) c.in-Err.ensures

pub returns-in-Err : goal.returns-in-Err
returns-in-Err c = refused_prefix c.args.digits c.args.how c.args.base c.args.text.now c.in-Err.halt c.refusal_of.result c.refusal_of.ensures c.in-Err.ensures

pub returns-in-Ok : goal.returns-in-Ok
returns-in-Ok c =
    let s = c.in-Ok.ensures in
    let n = c.nothing_gathered-gathered in
    whole_prefix n.result c.read_whole.new.gathered s.meaning n.ensures.points n.ensures.lines n.ensures.polygons n.ensures.fault s.gathers c.args.digits c.args.how c.args.base c.args.text.now c.in-Ok.end c.kept_shape.result s.spelt c.kept_shape.ensures

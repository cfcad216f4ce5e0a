use Rattle.at_wkt.proofs.LineAnswers.{stopped_inside, refused_line, line_answers}
use Rattle.at_wkt.proofs.line.reading.read_line.Goals as goal

pub refusal_of-requires-clause-inside : goal.refusal_of-requires-clause-inside
refusal_of-requires-clause-inside c = stopped_inside c.args.text.now c.in-Err.halt (λ n h. h.within) c.in-Err.ensures

pub returns-in-Err : goal.returns-in-Err
returns-in-Err c = refused_line c.args.digits c.args.how c.args.base c.args.text.now c.in-Err.halt c.refusal_of.result c.refusal_of.ensures c.in-Err.ensures

pub returns-in-Ok : goal.returns-in-Ok
returns-in-Ok c =
    let s = c.in-Ok.ensures in
    let n = c.nothing_gathered-gathered in
    line_answers n.result c.read_between.new.gathered s.meaning n.ensures.points n.ensures.lines n.ensures.polygons n.ensures.fault s.gathers c.args.digits c.args.how c.args.base c.args.text.now c.line_answer.result s.spells c.line_answer.ensures

use Rattle.std.proofs.Common.{take}
use Rattle.at_wkt.specs.Readers.{gathered_shape}
use Rattle.at_wkt.proofs.LineAnswers.{line_gathered}
use Rattle.at_wkt.proofs.FileAnswers.{line_read}
use Rattle.at_wkt.proofs.line.rooms.Room.check_line.Goals as goal

pub returns-in-Ok : goal.returns-in-Ok
returns-in-Ok c =
    let s = c.in-Ok.ensures in
    line_read c.args.digits c.args.how c.args.at (take c.args.len c.args.ahead.now) c.read_between.new.gathered.fault (gathered_shape c.read_between.new.gathered)
    (line_gathered c.clear.new.gathered c.read_between.new.gathered s.meaning c.clear.ensures.points c.clear.ensures.lines c.clear.ensures.polygons c.clear.ensures.fault s.gathers
    c.args.digits c.args.how c.args.at (take c.args.len c.args.ahead.now) s.spells)

pub returns-in-Err : goal.returns-in-Err
returns-in-Err c = c.stopped_line.ensures c.args.digits c.args.how

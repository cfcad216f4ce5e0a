use Rattle.std.proofs.Common.{Option, take, subst, sym, ◌∙◌}
use Rattle.at_wkt.proofs.Names.{Fault, SpellsLine, faulty, gathered_shape}
use Rattle.at_wkt.proofs.line.rooms.Room.read_line.Goals as goal

pub returns-in-Some : goal.returns-in-Some
returns-in-Some c =
    let shape = gathered_shape c.read_front-read.new.gathered in
    let P : Option Fault → Type 0 = λ z. SpellsLine c.args.digits c.args.how c.args.at (take c.args.len c.args.ahead.now) z shape in
    faulty shape (subst P (sym c.show.ensures.fault ∙ c.in-Some.is) c.in-Ok.ensures)

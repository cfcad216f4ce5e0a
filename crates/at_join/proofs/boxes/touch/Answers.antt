use Rattle.std.specs.Prelude.{FitsSigned}
use Rattle.std.specs.Int.{w64}
use Rattle.std.proofs.Common.{sym, ◌∙◌, rules}
use Rattle.std.proofs.lemmas.Bool.{and_left}
use Rattle.std.proofs.lemmas.Int.{to_z-of_z}
use Rattle.at_geom.proofs.Found.{second_decides}
use Rattle.at_join.proofs.boxes.touch.Goals as goal

pub returns-then-along_x : goal.returns-then-along_x
returns-then-along_x c =
    let (a, b, i, j) : FitsSigned w64 c.args.x.low.x × FitsSigned w64 c.args.x.high.x × FitsSigned w64 c.args.x.low.y × FitsSigned w64 c.args.x.high.y = search rules in
    let (k, l, m, n) : FitsSigned w64 c.args.y.low.x × FitsSigned w64 c.args.y.high.x × FitsSigned w64 c.args.y.low.y × FitsSigned w64 c.args.y.high.y = search rules in
    second_decides (simp to_z-of_z at c.are_ordered-along_x.ensures) c.if-along_x.true (simp to_z-of_z at c.are_ordered-along_y.ensures)

pub returns-else-along_x : goal.returns-else-along_x
returns-else-along_x c =
    let (a, b, k, l) : FitsSigned w64 c.args.x.low.x × FitsSigned w64 c.args.x.high.x × FitsSigned w64 c.args.y.low.x × FitsSigned w64 c.args.y.high.x = search rules in
    let apart = sym (simp to_z-of_z at c.are_ordered-along_x.ensures) ∙ c.if-along_x.false in
    c.if-along_x.false ∙ sym (and_left _ _ apart)

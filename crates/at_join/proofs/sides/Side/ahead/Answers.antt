use Rattle.at_join.proofs.Covering.{stretch_off}
use Rattle.at_join.proofs.sides.Side.ahead.Goals as goal

pub returns-then-is_clear-clause-clear : goal.returns-then-is_clear-clause-clear
returns-then-is_clear-clause-clear c =
    let (number, at, off) = c.is_clear.ensures c.if-is_clear.true in
    let side = c.args.self.now in
    stretch_off 4096 number c.args.at side.fields.items c.as_slice.result.now side.outlines.items c.args.window c.as_slice.ensures.value c.requires.side.fields at off

pub returns-then-is_clear-2-clause-clear : goal.returns-then-is_clear-2-clause-clear
returns-then-is_clear-2-clause-clear c =
    let (number, at, off) = c.is_clear-2.ensures c.if-is_clear-2.true in
    let side = c.args.self.now in
    stretch_off 256 number c.args.at side.blocks.items c.as_slice-2.result.now side.outlines.items c.args.window c.as_slice-2.ensures.value c.requires.side.blocks at off

pub returns-then-is_clear-3-clause-clear : goal.returns-then-is_clear-3-clause-clear
returns-then-is_clear-3-clause-clear c =
    let (number, at, off) = c.is_clear-3.ensures c.if-is_clear-3.true in
    let side = c.args.self.now in
    stretch_off 16 number c.args.at side.runs.items c.as_slice-3.result.now side.outlines.items c.args.window c.as_slice-3.ensures.value c.requires.side.runs at off

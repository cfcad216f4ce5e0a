use Rattle.std.proofs.Common.{◌+◌, ◌≤◌, subst}
use Rattle.std.specs.Prelude.{count_by}
use Rattle.at_query.specs.Results.{pairs_of}
use Rattle.at_join.specs.Cells.{Lists, InCells, ListsEach, belongs}
use Rattle.at_join.specs.Sides.{IsGrid}
use Rattle.at_join.proofs.CellPairs.{cell_told}
use Rattle.at_join.proofs.Spreads.{cell_stepped, grid_span}
use Rattle.at_join.proofs.grid.Grid.cell_pairs.Goals as goal

pub cell_rect-requires-clause-span : goal.cell_rect-requires-clause-span
cell_rect-requires-clause-span g c = grid_span c.self.inside.a c.self.inside.b c.in-Some.joint c.self.inside.joint c.self.invariant c.in-Some.is

pub returns-in_err-push_cell-clause-steps : goal.returns-in_err-push_cell-clause-steps
returns-in_err-push_cell-clause-steps g c =
    let a = c.self.inside.a in
    let b = c.self.inside.b in
    let grid = subst (IsGrid a b) c.in-Some.is c.self.invariant in
    subst (λ (v : Lists). c.push_cell.new.steps ≤ c.args.steps.now + count_by (belongs v.first v.second c.args.cell) (pairs_of v.first v.second)) c.self.view_is
    (cell_stepped a b c.in-Some.joint c.args.cell c.cell_rect.result c.push_cell.new.steps c.args.steps.now grid c.cell_rect.ensures c.in_err-push_cell.ensures.steps)

pub returns-clause-pairs : goal.returns-clause-pairs
returns-clause-pairs g c =
    let a = c.self.inside.a in
    let b = c.self.inside.b in
    let grid = subst (IsGrid a b) c.in-Some.is c.self.invariant in
    subst (λ (v : Lists). ListsEach (InCells v.first v.second c.args.cell (c.args.cell + 1)) c.from_vec-2.result) c.self.view_is
    (cell_told a b c.in-Some.joint c.args.cell c.cell_rect.result c.new-pairs.result.items c.push_cell.new.pairs.items c.from_vec-2.result grid c.cell_rect.ensures c.new-pairs.ensures.items c.from_vec-2.ensures c.in_ok-push_cell.ensures.pairs)

pub returns-clause-steps : goal.returns-clause-steps
returns-clause-steps g c =
    let a = c.self.inside.a in
    let b = c.self.inside.b in
    let grid = subst (IsGrid a b) c.in-Some.is c.self.invariant in
    subst (λ (v : Lists). c.push_cell.new.steps ≤ c.args.steps.now + count_by (belongs v.first v.second c.args.cell) (pairs_of v.first v.second)) c.self.view_is
    (cell_stepped a b c.in-Some.joint c.args.cell c.cell_rect.result c.push_cell.new.steps c.args.steps.now grid c.cell_rect.ensures c.in_ok-push_cell.ensures.steps)

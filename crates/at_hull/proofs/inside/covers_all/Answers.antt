use Rattle.std.proofs.Common.{List, All, length, get_or, pos, ◌<◌, ◌≤◌, subst}
use Rattle.std.proofs.lemmas.List.{take_all}
use Rattle.std.proofs.lemmas.List.Elements.{All-more}
use Rattle.at_geom.specs.declared.positions.Pos.{Pos}
use Rattle.at_hull.specs.Within.{IsWithin}
use Rattle.at_hull.proofs.Insides.{covered}
use Rattle.at_hull.proofs.inside.covers_all.Goals as goal

-- read past the end
abbrev none : Pos
none = record { x = pos 0; y = pos 0 }

pub loop-p-preserved : goal.loop-p-preserved
loop-p-preserved c =
    let hull : List Pos = c.args.hull.now in
    let seen : List Pos = c.as_slice-p-items.result.now in
    let it = subst (λ (h : List Pos). IsWithin h (get_or seen c.loop-p.p-index none)) c.as_slice.ensures (c.is_within.ensures c.if-not-is_within.false) in
    let one = subst (λ (xs : List Pos). c.loop-p.p-index < length xs × IsWithin hull (get_or xs c.loop-p.p-index none)) c.as_slice-p-items.ensures (c.loop-p-test.true, it) in
    All-more (IsWithin hull) c.args.others.now c.loop-p.p-index none one.0 c.loop-p.invariant one.1

pub returns : goal.returns
returns c = λ _.
    let ended = subst (λ (xs : List Pos). length xs ≤ c.loop-p.p-index) c.as_slice-p-items.ensures c.loop-p-test.false in
    let all = subst (All (IsWithin c.args.hull.now)) (take_all c.loop-p.p-index c.args.others.now ended) c.loop-p.invariant in
    λ ps qs h k. covered c.args.hull.now c.args.others.now all ps qs h k

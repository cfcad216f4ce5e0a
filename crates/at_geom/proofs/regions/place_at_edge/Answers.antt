use Rattle.std.specs.Prelude.{FitsSigned}
use Rattle.std.specs.Int.{w64}
use Rattle.std.proofs.Common.{◌≡◌, ◌≢◌, ℤ, pos, sym, ◌∙◌, arith, rules}
use Rattle.std.proofs.lemmas.Bool.{false≢true}
use Rattle.std.proofs.lemmas.Int.{ints, to_z-of_z}
use Rattle.at_geom.specs.declared.positions.Pos.{Pos}
use Rattle.at_geom.specs.Segments.{IsOn, turn}
use Rattle.at_geom.proofs.CommonPoint.{on_in, on_out}
use Rattle.at_geom.proofs.Crossings.{not_level, zero_not_crossed}
use Rattle.at_geom.proofs.regions.place_at_edge.Goals as goal

pub returns-then-not-is_between : goal.returns-then-not-is_between
returns-then-not-is_between c =
    let (a, b, p) : FitsSigned w64 c.args.a.y × FitsSigned w64 c.args.b.y × FitsSigned w64 c.args.p.y = search rules in
    let level = simp to_z-of_z at c.is_between.ensures in
    not_level c.args.p c.args.a c.args.b (λ h. false≢true (sym c.if-not-is_between.true ∙ level.1 h))

pub returns-then-is_between : goal.returns-then-is_between
returns-then-is_between c =
    let (a, b, p, d) : FitsSigned w64 c.args.a.y × FitsSigned w64 c.args.b.y × FitsSigned w64 c.args.p.y × FitsSigned w64 c.args.a.x = search rules in
    let (e, q) : FitsSigned w64 c.args.b.x × FitsSigned w64 c.args.p.x = search rules in
    let level = simp to_z-of_z at c.is_between.ensures in
    let beside = simp to_z-of_z at c.is_between-then-side-eq0.ensures in
    let zero : c.turn-side.result ≡ pos 0 = omega (arith, ints) in
    on_in c.args.p c.args.a c.args.b (record { between_x = beside.0 c.if-is_between.true; between_y = level.0 c.if-not-is_between.false; on_line = sym c.turn-side.ensures ∙ zero })

pub returns-else-is_between : goal.returns-else-is_between
returns-else-is_between c =
    let (d, e, q) : FitsSigned w64 c.args.a.x × FitsSigned w64 c.args.b.x × FitsSigned w64 c.args.p.x = search rules in
    let beside = simp to_z-of_z at c.is_between-then-side-eq0.ensures in
    let zero : c.turn-side.result ≡ pos 0 = omega (arith, ints) in (
      λ h. false≢true (sym c.if-is_between.false ∙ beside.1 (on_out c.args.p c.args.a c.args.b h).between_x),
      zero_not_crossed c.args.p c.args.a c.args.b (sym c.turn-side.ensures ∙ zero),
    )

off_line : (p a b : Pos) (side : ℤ) → side ≡ turn a b p → side ≢ pos 0 → ¬ IsOn p a b
off_line p a b side e f h = f (e ∙ (on_out p a b h).on_line)

pub returns-then-is_crossed : goal.returns-then-is_crossed
returns-then-is_crossed c = (off_line c.args.p c.args.a c.args.b _ c.turn-side.ensures (omega (arith, ints)), sym c.is_crossed.ensures ∙ c.if-is_crossed.true)

pub returns-else-is_crossed : goal.returns-else-is_crossed
returns-else-is_crossed c = (off_line c.args.p c.args.a c.args.b _ c.turn-side.ensures (omega (arith, ints)), sym c.is_crossed.ensures ∙ c.if-is_crossed.false)

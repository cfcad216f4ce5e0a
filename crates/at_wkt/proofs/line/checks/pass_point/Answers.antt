use Rattle.std.proofs.Common.{[], ◌∷◌, ◌≡◌, ◌==◌, true, arith, Some, None, Ok, refl, sym, ◌∙◌, ap, subst}
use Rattle.at_wkt.proofs.Names.{Read, NumbersRead, position_faults, SpellsPoint, next, EnclosedPosition, PartStands, Grows, added_point, point_faults, added_position, none_kept}
use Rattle.at_wkt.proofs.BodySteps.{point_choice}
use Rattle.at_wkt.proofs.PartAnswers.{enclosed_stands, opened_stands, none_faults}
use Rattle.at_wkt.proofs.CheckAnswers.{part_passed}
use Rattle.at_wkt.proofs.line.checks.pass_point.Goals as goal

pub returns-then-position : goal.returns-then-position
returns-then-position c =
    let w = c.args.source.now.text.now in let rules = c.args.source.now.rules in let digits = rules.digits in let how = rules.how in
    let (read, stands, none, same) = c.in_ok-position.ensures in
    let here : (next w c.args.from.at == 0x28) ≡ true = rw c.requires.opener refl in
    let part = opened_stands SpellsPoint EnclosedPosition (λ p. Some p) None point_choice (point_faults digits how) (added_point digits how) rules.base w c.args.from.at c.args.from.dimension (position_faults digits how) (added_position digits how)
    (λ x. none_faults (position_faults digits how x)) (λ x. refl) [] (read.pos ∷ []) (omega (arith, c.requires.inside)) here (Ok (record { fault = read.fault; behind = read.behind }))
    (enclosed_stands rules w c.args.from.at c.args.from.dimension c.requires.inside c.requires.opener read [] (read.pos ∷ []) stands (sym (ap (λ z. z.is_last) same) ∙ c.if-position.true) refl) in
    let P : Read → Type 0 = λ z. PartStands SpellsPoint (point_faults digits how) (Grows none_kept [] []) rules.base w c.args.from.at c.args.from.dimension z in
    let F : NumbersRead → Read = λ z. record { fault = None; behind = z.behind } in
    (refl, subst P (ap (λ f. record { fault = f; behind = read.behind }) none ∙ ap F (sym same)) (part_passed SpellsPoint (point_faults digits how) rules.base w c.args.from.at c.args.from.dimension _ part))

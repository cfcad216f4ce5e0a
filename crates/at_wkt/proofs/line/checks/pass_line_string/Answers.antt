use Rattle.std.proofs.Common.{[], ◌+◌, ◌≡◌, ◌==◌, true, arith, Some, None, Ok, refl, sym, ◌∙◌, ap}
use Rattle.at_wkt.proofs.Names.{SpellsRing, SpellsList, Line, next, fault_of_path, faults_of_path, line_faults, none_kept}
use Rattle.at_wkt.proofs.BodySteps.{list_choice}
use Rattle.at_wkt.proofs.PathAnswers.{path_stands}
use Rattle.at_wkt.proofs.PartAnswers.{opened_stands, none_faults}
use Rattle.at_wkt.proofs.line.checks.pass_line_string.Goals as goal

pub returns-in-None : goal.returns-in-None
returns-in-None c =
    let rules = c.args.source.now.rules in
    let (closes, (list, count, stands)) = c.in_ok-row.ensures in
    let here : (next c.args.source.now.text.now c.args.from.at == 0x28) ≡ true = rw c.requires.opener refl in (
      refl,
      opened_stands SpellsList SpellsRing (λ ps. Some ps) None list_choice (line_faults rules.digits rules.how) none_kept rules.base c.args.source.now.text.now c.args.from.at c.args.from.dimension (faults_of_path rules.digits rules.how Line) none_kept
          (λ x. none_faults (faults_of_path rules.digits rules.how Line x)) (λ x. refl) [] [] (omega (arith, c.requires.inside)) here (Ok (record { fault = None; behind = c.in_ok-row.row.last.behind }))
          (path_stands c.args.source.now.rules c.args.source.now.text.now c.args.from.at c.args.from.dimension c.requires.inside c.requires.opener Line list _ _ stands None
          (sym c.in-None.is ∙ (c.line_fault.ensures ∙ ap (λ z. fault_of_path Line z closes (rules.base + c.args.from.at)) (sym count))) refl refl),
    )

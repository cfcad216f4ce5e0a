use Rattle.std.proofs.Common.{◌+◌, None, refl, sym, ◌∙◌, ap}
use Rattle.at_wkt.proofs.Names.{Ring, fault_of_path}
use Rattle.at_wkt.proofs.PathAnswers.{path_stands}
use Rattle.at_wkt.proofs.line.checks.pass_closed.Goals as goal

pub returns-in-None : goal.returns-in-None
returns-in-None c =
    let passed = c.in_ok-list.list in
    let (list, count, stands) = c.in_ok-list.ensures in (
      refl,
      path_stands c.args.source.now.rules c.args.source.now.text.now c.args.from.at c.args.from.dimension c.requires.inside c.requires.opener Ring list _ _ stands None
          (sym c.in-None.is ∙ (c.ring_fault.ensures ∙ ap (λ z. fault_of_path Ring z passed.closes (c.args.source.now.rules.base + c.args.from.at)) (sym count))) refl refl,
    )

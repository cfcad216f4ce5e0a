use Rattle.std.proofs.Common.{◌+◌}
use Rattle.std.proofs.lemmas.Bool.{not-false, not-true}
use Rattle.at_wkt.proofs.Names.{SpellsPosition, Stuck, Item}
use Rattle.at_wkt.proofs.PartAnswers.{enclosed_stuck, enclosed_comma, enclosed_stands}
use Rattle.at_text.proofs.Exits.{exits}
use Rattle.at_wkt.proofs.line.parts.read_enclosed.Goals as goal

pub returns-in_err-read : goal.returns-in_err-read
returns-in_err-read c = exits c.from_residual.result c.in_err-read.field-0.0 _ (Stuck (Item SpellsPosition) c.args.source.now.rules.base c.args.source.now.text.now (c.args.from.at + 1) c.args.from.dimension) _ c.from_residual.ensures.1
    (enclosed_stuck c.args.source.now.rules c.args.source.now.text.now c.args.from.at c.args.from.dimension c.requires.inside c.requires.opener) c.in_err-read.ensures

pub returns-then-not-read : goal.returns-then-not-read
returns-then-not-read c = enclosed_comma c.args.source.now.rules c.args.source.now.text.now c.args.from.at c.args.from.dimension c.requires.inside c.requires.opener c.in_ok-read.read c.in_ok-read.ensures (not-true c.in_ok-read.read.is_last c.if-not-read.true)

pub returns : goal.returns
returns c = enclosed_stands c.args.source.now.rules c.args.source.now.text.now c.args.from.at c.args.from.dimension c.requires.inside c.requires.opener c.in_ok-read.read _ _ c.in_ok-read.ensures (not-false c.in_ok-read.read.is_last c.if-not-read.false) c.in_ok-push.ensures.items

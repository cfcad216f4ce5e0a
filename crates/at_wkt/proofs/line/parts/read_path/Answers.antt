use Rattle.std.proofs.Common.{◌+◌, length, ◌∙◌, ap}
use Rattle.at_wkt.proofs.Names.{SpellsPosition, Items, Stuck, fault_of_path}
use Rattle.at_wkt.proofs.PathAnswers.{path_added, path_stuck}
use Rattle.at_text.proofs.Exits.{exits}
use Rattle.at_wkt.proofs.line.parts.read_path.Goals as goal

pub returns-in_err-read : goal.returns-in_err-read
returns-in_err-read c = exits c.from_residual-in_err-read.result c.in_err-read.field-0.0 _ (Stuck (Items SpellsPosition) c.args.source.now.rules.base c.args.source.now.text.now (c.args.from.at + 1) c.args.from.dimension) _ c.from_residual-in_err-read.ensures.1
    (path_stuck c.args.source.now.rules c.args.source.now.text.now c.args.from.at c.args.from.dimension c.requires.inside c.requires.opener) c.in_err-read.ensures

pub returns : goal.returns
returns c =
    let read = c.in_ok-read.read in
    path_added c.args.source.now.rules c.args.source.now.text.now c.args.from.at c.args.from.dimension c.requires.inside c.requires.opener c.args.role c.read_positions.new.path.items read _ c.from_vec.result _ _ c.in_ok-read.ensures c.path_fault-own.result
    (c.path_fault-own.ensures ∙ ap (λ z. fault_of_path c.args.role z read.closes (c.args.source.now.rules.base + c.args.from.at)) (ap length c.as_slice-count.ensures.value))
    (ap (λ z. record { fault = z; behind = read.behind }) c.first_fault.ensures) c.from_vec.ensures c.in_ok-push.ensures.items

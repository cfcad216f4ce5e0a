use Rattle.std.proofs.Common.{map, string_bytes, sym}
use Rattle.at_cli.specs.Steps.{shown}
use Rattle.at_cli.proofs.OneLine.{says_none}
use Rattle.at_cli.proofs.SaidLines.{said_by_words}
use Rattle.at_cli.proofs.words.said.said_by.Goals as goal

pub returns-in_err-pieces : goal.returns-in_err-pieces
returns-in_err-pieces c = rw c.from_residual.ensures (λ line h. says_none (map string_bytes c.args.words.now) line (sym c.in_err-pieces.ensures) h)

pub returns : goal.returns
returns c = said_by_words (map string_bytes c.args.words.now) (shown c.in_ok-pieces.pieces) c.said_in.result c.in_ok-pieces.ensures c.said_in.ensures

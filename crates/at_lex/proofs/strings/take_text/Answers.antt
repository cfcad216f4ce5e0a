use Rattle.at_lex.specs.StringStates.{state_of}
use Rattle.at_lex.proofs.JsonString.{string_at}
use Rattle.at_lex.proofs.strings.take_text.Goals as goal

pub returns : goal.returns
returns c =
    let s = c.scan_text-scanned.ensures in
    rw c.is_whole.ensures (string_at (state_of c.scan_text-scanned.result.state) c.args.text.now c.scan_text-scanned.result.len s.fits s.goes s.stops)

use Rattle.std.proofs.Common.{◌<◌, ◌+◌, length, arith, ap, refl}
use Rattle.at_lex.specs.StringStates.{inside, escaped, closed, step}
use Rattle.at_lex.proofs.TextScans.{goes_one, goes_plain, within_plain, stops_plain}
use Rattle.at_lex.proofs.strings.scan_text.Goals as goal

pub returns-then-end-text : goal.returns-then-end-text
returns-then-end-text c =
    let w = c.args.text.now in let n = c.loop-len.len in let k = c.plain_len.result in
    record {
      fits = omega arith;
      goes = goes_plain w n k c.loop-len.invariant.goes c.plain_len.ensures;
      stops = λ less. absurd (omega arith);
    }

pub returns-then-text-end-eq34 : goal.returns-then-text-end-eq34
returns-then-text-end-eq34 c =
    let w = c.args.text.now in let n = c.loop-len.len in let k = c.plain_len.result in
    let within = within_plain w n k c.loop-len.invariant.fits c.plain_len.ensures in
    let below : n + k < length w = omega (arith, within, c.if-end-text.false) in
    record {
      fits = omega (arith, below);
      goes = goes_one w (n + k) inside closed below (goes_plain w n k c.loop-len.invariant.goes c.plain_len.ensures) (ap (step inside) c.if-text-end-eq34.true);
      stops = λ less. refl;
    }

pub returns-then-text-end-ne92 : goal.returns-then-text-end-ne92
returns-then-text-end-ne92 c =
    let w = c.args.text.now in let n = c.loop-len.len in let k = c.plain_len.result in
    let within = within_plain w n k c.loop-len.invariant.fits c.plain_len.ensures in
    record {
      fits = within;
      goes = goes_plain w n k c.loop-len.invariant.goes c.plain_len.ensures;
      stops = λ below. stops_plain w n k c.loop-len.invariant.fits c.plain_len.ensures below c.if-text-end-eq34.false c.if-text-end-ne92.true;
    }

pub scan_escape-escape-requires-clause-goes : goal.scan_escape-escape-requires-clause-goes
scan_escape-escape-requires-clause-goes c =
    let w = c.args.text.now in let n = c.loop-len.len in let k = c.plain_len.result in
    let within = within_plain w n k c.loop-len.invariant.fits c.plain_len.ensures in
    goes_one w (n + k) inside escaped (omega (arith, within, c.if-end-text.false)) (goes_plain w n k c.loop-len.invariant.goes c.plain_len.ensures) (ap (step inside) c.if-text-end-ne92.false)

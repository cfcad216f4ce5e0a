use Rattle.std.proofs.Common.{◌≡◌, ◌≤◌, ◌∙◌, refl, arith, take, length, length-take}
use Rattle.at_wkt.proofs.LineAnswers.{line_spelled}
use Rattle.at_wkt.proofs.LineFronts.{skips_within, spelt_within}
use Rattle.at_wkt.proofs.line.reading.read_ahead.Goals as goal

pub returns-in-Ok : goal.returns-in-Ok
returns-in-Ok c ends =
    let s = c.in-Ok.ensures in
    let w = c.args.ahead.now.text.now in let len = c.args.len in let begin = c.skip_blanks-start.result in
    let last : c.skip_blanks.result ≡ len = grind (arith, ends) in
    let end : c.in-Ok.end ≤ len = omega (arith, last, c.skip_blanks.ensures.order) in
    let start : begin ≤ len = omega (arith, end, s.spelt.order) in
    let all : len ≡ length (take len w) = omega (arith, length-take len w, c.requires) in
    record {
      meaning = s.meaning;
      spells = line_spelled c.args.ahead.now.rules.digits c.args.ahead.now.rules.how c.args.ahead.now.rules.base (take len w) begin (skips_within w len c.requires 0 begin c.skip_blanks-start.ensures start)
          c.in-Ok.end s.meaning (spelt_within w len c.requires begin c.in-Ok.end s.spelt end) c.skip_blanks.result
          (skips_within w len c.requires c.in-Ok.end c.skip_blanks.result c.skip_blanks.ensures (omega (arith, last))) (last ∙ all) _ _ refl refl;
      gathers = s.gathers;
    }

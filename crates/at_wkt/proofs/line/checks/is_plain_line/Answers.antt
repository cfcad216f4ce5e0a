use Rattle.std.proofs.Common.{◌≡◌, ◌≤◌, ◌∙◌, None, sym, refl, arith, take, length, length-take}
use Rattle.at_wkt.proofs.LineAnswers.{line_spelled}
use Rattle.at_wkt.proofs.LineFronts.{skips_within, spelt_within}
use Rattle.at_wkt.proofs.line.checks.is_plain_line.Goals as goal

pub returns-in-Some : goal.returns-in-Some
returns-in-Some c ends =
    let (m, none, spelt) = c.in-Some.ensures in
    let w = c.args.ahead.now.text.now in let len = c.args.len in
    let last : c.skip_blanks.result ≡ len = grind (arith, ends) in
    let end : c.in-Some.end ≤ len = omega (arith, last, c.skip_blanks.ensures.order) in
    let start : c.skip_blanks-start.result ≤ len = omega (arith, end, spelt.order) in
    let all : len ≡ length (take len w) = omega (arith, length-take len w, c.requires.inside) in (
      m.shape,
      line_spelled c.args.ahead.now.rules.digits c.args.ahead.now.rules.how c.args.ahead.now.rules.base (take len w) c.skip_blanks-start.result (skips_within w len c.requires.inside 0 c.skip_blanks-start.result c.skip_blanks-start.ensures start)
          c.in-Some.end m (spelt_within w len c.requires.inside c.skip_blanks-start.result c.in-Some.end spelt end) c.skip_blanks.result
          (skips_within w len c.requires.inside c.in-Some.end c.skip_blanks.result c.skip_blanks.ensures (omega (arith, last))) (last ∙ all) None m.shape (sym none) refl,
    )

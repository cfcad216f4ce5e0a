use Rattle.at_fixed.proofs.Spelled.{fixed_by}
use Rattle.at_fixed.proofs.numbers.any_number.Goals as goal

pub returns-then-scanned-clause-value : goal.returns-then-scanned-clause-value
returns-then-scanned-clause-value c =
    let (n, h, e, kept) = c.scan-scanned.ensures.value c.if-scanned.true in
    fixed_by c.args.notation _ c.args.digits c.args.how c.value_of.result n h e (c.value_of.ensures n kept)

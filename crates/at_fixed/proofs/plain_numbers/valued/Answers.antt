use Rattle.std.proofs.Common.{◌∙◌, ap, Ok, FitsSigned, w64, rules}
use Rattle.std.proofs.lemmas.Int.{to_z-of_z}
use Rattle.at_fixed.proofs.Spelled.{scanned_plain}
use Rattle.at_fixed.proofs.plain_numbers.valued.Goals as goal

pub returns-in-Ok : goal.returns-in-Ok
returns-in-Ok c notation w h =
    let fits : FitsSigned w64 c.in-Ok.value = search rules in
    scanned_plain notation w c.args.digits c.args.how c.args.scanned _ h (λ n k. ap Ok (to_z-of_z w64 c.in-Ok.value fits) ∙ c.in-Ok.ensures n k)

use Rattle.std.proofs.Common.{List, sym, subst, ◌∙◌, arith}
use Rattle.std.proofs.lemmas.Int.{ints}
use Rattle.std.proofs.lemmas.Result.{IfOk-weaker}
use Rattle.at_band.specs.declared.thinning.Heights.{Heights}
use Rattle.at_band.specs.Banded.{AreCovering}
use Rattle.at_band.proofs.zones.zones_of.Goals as goal

pub returns-clause-covering : goal.returns-clause-covering
returns-clause-covering c =
    let begins = c.heights_of-whole.ensures.begins in
    let ends = c.heights_of-whole.ensures.ends in
    IfOk-weaker c.zones_at.result _ _
    (λ zones e. subst (λ (all : List Heights). AreCovering c.args.around.low.y c.args.around.high.y all) (sym (e ∙ c.as_slice.ensures.value))
    (λ y h k. c.in_ok-cuts.ensures.covering y (omega (arith, ints, begins, h)) (omega (arith, ints, ends, k))))
    c.zones_at.ensures.same

use Rattle.std.proofs.Common.{leb, cond, refl}
use Rattle.std.proofs.lemmas.Simd.{zip2_splat, length-chunk}
use lib.Lanes.{chunk}
use Rattle.at_fixed.proofs.Lanes.{joined, splat_is, digit_run}
use Rattle.at_fixed.proofs.eights.leading_count.Goals as goal

pub returns : goal.returns
returns c =
    let v = chunk c.args.at 8 c.args.text.now in
    let long = length-chunk c.args.at 8 c.args.text.now c.requires in
    digit_run c.args.text.now c.args.at _ _ c.requires c.type_inv.text c.first_set.ensures _
    (joined (λ a b. cond (leb a b) 255 0) _ _ v (splat_is v 8 10 long) (zip2_splat _ v 8 48 long)) refl

use Rattle.std.proofs.Common.{leb, cond, refl, arith}
use Rattle.std.proofs.lemmas.Simd.{zip2_splat, length-chunk}
use lib.Lanes.{chunk}
use Rattle.at_fixed.proofs.Lanes.{joined, splat_is}
use Rattle.at_fixed.proofs.GapMasks.{gaps_marked}
use Rattle.at_fixed.proofs.gaps.first_gaps.Goals as goal

pub returns : goal.returns
returns c =
    let v = chunk 0 32 c.args.text.now in
    let long = length-chunk 0 32 c.args.text.now c.requires in
    gaps_marked c.args.text.now 0 32 _ _ (omega arith) c.requires c.type_inv.text
    (joined (λ a b. cond (leb a b) 255 0) _ _ v (splat_is v 32 10 long) (zip2_splat _ v 32 48 long)) refl

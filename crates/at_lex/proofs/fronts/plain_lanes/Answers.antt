use Rattle.std.proofs.Common.{leb, cond, refl, arith}
use Rattle.std.proofs.lemmas.Simd.{zip2_splat, zip2_of_maps, splat_is_map, length-chunk}
use lib.Lanes.{chunk}
use Rattle.at_lex.specs.Strings.{is_plain}
use Rattle.at_lex.proofs.FrontMasks.{front_at}
use Rattle.at_lex.proofs.fronts.plain_lanes.Goals as goal

pub returns : goal.returns
returns c =
    let w = c.args.text.now in
    let v = chunk c.args.at 32 w in
    let long = length-chunk c.args.at 32 w c.requires in
    front_at is_plain w c.args.at 32 c.first_set.result _ _ (omega arith) c.requires c.type_inv.text
    (zip2_of_maps _ _ _ v (zip2_of_maps (λ a b. cond (leb a b) 255 0) _ _ v (zip2_splat _ v 32 2 long) (splat_is_map v 32 0x20 long)) (zip2_splat _ v 32 0x5C long)) c.first_set.ensures refl

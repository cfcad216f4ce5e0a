use Rattle.std.proofs.Common.{leb, cond, refl, arith}
use Rattle.std.proofs.lemmas.Simd.{zip2_splat, zip2_of_maps, splat_is_map, length-chunk}
use lib.Lanes.{chunk}
use Rattle.at_lex.proofs.FrontMasks.{front_at}
use Rattle.at_scan.specs.Places.{is_common}
use Rattle.at_scan.proofs.short_texts.common_lanes.Goals as goal

pub returns : goal.returns
returns c =
    let w = c.args.text.now in
    let v = chunk c.args.at 16 w in
    let long = length-chunk c.args.at 16 w c.requires in
    front_at is_common w c.args.at 16 c.first_set.result _ _ (omega arith) c.requires c.type_inv.text
    (zip2_of_maps _ _ _ v (zip2_of_maps (λ a b. cond (leb a b) 255 0) _ _ v (splat_is_map v 16 0x5F long) (zip2_of_maps _ _ _ v (zip2_splat _ v 16 2 long) (splat_is_map v 16 0x21 long)))
    (zip2_splat _ v 16 0x5C long)) c.first_set.ensures refl

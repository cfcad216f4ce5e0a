-- A lane is marked where the byte is none of the four.
use Rattle.std.proofs.Common.{refl, arith}
use Rattle.std.proofs.lemmas.Simd.{zip2_splat, zip2_of_maps, length-chunk}
use lib.Lanes.{chunk}
use Rattle.at_text.specs.Texts.{is_space}
use Rattle.at_lex.proofs.FrontMasks.{front_at}
use Rattle.at_scan.proofs.places.space_lanes.Goals as goal

pub returns : goal.returns
returns c =
    let w = c.args.text.now in
    let v = chunk c.args.at 16 w in
    let long = length-chunk c.args.at 16 w c.requires in
    front_at is_space w c.args.at 16 c.first_set.result _ _ (omega arith) c.requires c.type_inv.text
    (zip2_of_maps _ _ _ v (zip2_of_maps _ _ _ v (zip2_splat _ v 16 0x20 long) (zip2_splat _ v 16 0x09 long))
    (zip2_of_maps _ _ _ v (zip2_splat _ v 16 0x0A long) (zip2_splat _ v 16 0x0D long))) c.first_set.ensures refl

-- A lane is marked where the byte is no blank.
use Rattle.std.proofs.Common.{refl, arith}
use Rattle.std.proofs.lemmas.Simd.{zip2_splat, length-chunk}
use lib.Lanes.{chunk}
use Rattle.at_lex.proofs.FrontMasks.{front_at}
use Rattle.at_scan.specs.Places.{is_blank}
use Rattle.at_scan.proofs.places.blank_lanes.Goals as goal

pub returns : goal.returns
returns c =
    let w = c.args.text.now in
    let v = chunk c.args.at 16 w in
    front_at is_blank w c.args.at 16 c.first_set.result _ _ (omega arith) c.requires c.type_inv.text (zip2_splat _ v 16 0x20 (length-chunk c.args.at 16 w c.requires)) c.first_set.ensures refl

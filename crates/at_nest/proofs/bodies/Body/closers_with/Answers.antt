use Rattle.std.proofs.Common.{◌-◌, List, Some, length, sym, ◌∙◌, ap, slice_get}
use Rattle.std.proofs.lemmas.Option.{IfSome_then}
use Rattle.at_nest.specs.declared.pieces.Piece.{Piece}
use Rattle.at_nest.proofs.Nests.{last_got}
use Rattle.at_nest.proofs.bodies.Body.closers_with.Goals as goal

pub returns-in-Some : goal.returns-in-Some
returns-in-Some g c = let last = sym (c.in-Some.ensures.value ∙ (ap (λ (z : List (Piece g.row.T.Denot)). slice_get z (length z - 1)) c.as_slice.ensures.value ∙ last_got c.args.self.now.outer.items)) in
    IfSome_then c.longer.result c.longer.ensures (λ r d. (d.0, last ∙ ap Some d.1, d.2))

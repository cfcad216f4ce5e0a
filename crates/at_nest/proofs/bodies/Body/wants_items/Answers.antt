-- The innermost level is an array, or the last item before the first open level is a comma.
use Rattle.std.proofs.Common.{◌-◌, Option, List, length, sym, ◌∙◌, ap, slice_get}
use Rattle.at_nest.specs.declared.levels.Open.{Open}
use Rattle.at_nest.specs.declared.pieces.Piece.{Piece}
use Rattle.at_nest.specs.Shown.{open_levels, opens_of}
use Rattle.at_nest.specs.Refusals.{is_comma_last, items_in}
use Rattle.at_nest.proofs.Nests.{last_got, open_top, open_none}
use Rattle.at_nest.proofs.bodies.Body.wants_items.Goals as goal

pub returns-in-Some : goal.returns-in-Some
returns-in-Some g c =
    let top = open_top (opens_of c.args.self.now.levels) c.in-Some.open.now (sym c.in-Some.ensures) in
    c.is_array.ensures ∙ ap (λ z. items_in z c.args.self.now.outer.items) (sym top.1)

pub returns-in-Some-last : goal.returns-in-Some-last
returns-in-Some-last g c =
    let none = open_none (opens_of c.args.self.now.levels) c.in-None.ensures in
    let got = c.in-Some-last.ensures.value ∙ (ap (λ (z : List (Piece g.row.T.Denot)). slice_get z (length z - 1)) c.as_slice.ensures.value ∙ last_got c.args.self.now.outer.items) in
    c.is_comma.ensures ∙ (ap (λ (z : Option (Piece g.row.T.Denot)). is_comma_last z) got ∙ ap (λ (z : List (Open g.row.T.Denot)). items_in (open_levels z) c.args.self.now.outer.items) (sym none))

pub returns-in-None-last : goal.returns-in-None-last
returns-in-None-last g c =
    let none = open_none (opens_of c.args.self.now.levels) c.in-None.ensures in
    let got = c.in-None-last.ensures.value ∙ (ap (λ (z : List (Piece g.row.T.Denot)). slice_get z (length z - 1)) c.as_slice.ensures.value ∙ last_got c.args.self.now.outer.items) in
    ap (λ (z : Option (Piece g.row.T.Denot)). is_comma_last z) got ∙ ap (λ (z : List (Open g.row.T.Denot)). items_in (open_levels z) c.args.self.now.outer.items) (sym none)

-- The extent of joined lists of positions is the extent round both extents.
-- For `add`, `add_lent`, `from_part`, `join`, `part_merge` and `part_of`.
use Rattle.std.proofs.Common.{◌≡◌, List, [], ◌∷◌, ◌++◌, Option, Some, None, refl, sym, ap, ◌∙◌}
use Rattle.at_geom.specs.declared.positions.Pos.{Pos}
use Rattle.at_geom.specs.declared.rectangles.Extent.{Extent}
use Rattle.at_geom.specs.Shapes.{widened, extent_of}
use Rattle.at_geom.proofs.Covering.{int_min_assoc, int_max_assoc}
use Rattle.at_query.specs.Joined.{around_both}

around_widened : (p : Pos) (e f : Option Extent) → around_both (Some (widened p e)) f ≡ Some (widened p (around_both e f))
around_widened p None None = refl
around_widened p (Some e) (Some f) = rw (
  int_min_assoc p.x e.low.x f.low.x,
  int_min_assoc p.y e.low.y f.low.y,
  int_max_assoc p.x e.high.x f.high.x,
  int_max_assoc p.y e.high.y f.high.y,
)
around_widened p _ _ = refl

pub extent_of-append : (ps qs : List Pos) → extent_of (ps ++ qs) ≡ around_both (extent_of ps) (extent_of qs)
extent_of-append [] qs = refl
extent_of-append (p ∷ ps) qs = ap (λ e. Some (widened p e)) (extent_of-append ps qs) ∙ sym (around_widened p (extent_of ps) (extent_of qs))

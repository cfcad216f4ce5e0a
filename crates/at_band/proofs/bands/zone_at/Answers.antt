use Rattle.std.proofs.Common.{Option, Some, None, sym, subst}
use Rattle.std.specs.Prelude.{IfSome, MatchOption}
use Rattle.at_band.specs.Banded.{IsZoneOf}
use Rattle.at_band.proofs.bands.zone_at.Goals as goal

some_by_match : {X : Type 0} (r : Option X) (A : Type 0) (P Q : X → Type 0) → ((x : X) → P x → Q x) → MatchOption r A P → IfSome r Q
some_by_match None A P Q f h = tt
some_by_match (Some x) A P Q f h = f x h

pub returns : goal.returns
returns c = some_by_match c.get.result _ _ _ (λ zone k. subst (IsZoneOf c.args.shape.now) (sym (k.1 zone.now)) (c.requires c.part_at.result zone.now k.0)) c.get.ensures.lookup.3

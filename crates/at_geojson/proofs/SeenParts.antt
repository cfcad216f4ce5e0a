-- The part of a feature, by what is seen of its shape and by whether all tests on texts hold of its. For `value`.
use Rattle.std.proofs.Common.{◌≡◌, ℕ, Bool, true, false, List, [], ◌∷◌, flat_map, Option, Some, None, Result, Ok, Err, refl, sym, subst}
use Rattle.at_text.specs.declared.faults.Fault.{Fault}
use Rattle.at_geom.specs.declared.shapes.Shape.{Shape}
use Rattle.at_query.specs.declared.query.queries.Query.{Query}
use Rattle.at_query.specs.declared.features.Feature.{Feature}
use Rattle.at_query.specs.declared.features.TextPair.{TextPair}
use Rattle.at_query.specs.declared.answer.parts.Part.{Part}
use Rattle.at_query.specs.declared.answer.parts.Part.TheVariants as parts
use Rattle.at_query.specs.Parts.{IsPart}
use Rattle.at_query.specs.Keeping.{Asked, selects}
use Rattle.at_query.specs.TextTests.{texts_hold, pair_of}
use Rattle.at_query.proofs.TextsHold.{measured_part, offset_part, asked_part}
use Rattle.at_geojson.specs.declared.atoms.atom.GeoAtom.{GeoAtom}
use Rattle.at_geojson.specs.declared.at_once.plain_geometries.Seen.{Seen}
use Rattle.at_geojson.specs.declared.at_once.plain_geometries.Seen.TheVariants as seens
use Rattle.at_geojson.specs.Atoms.{IfOwnShape}
use Rattle.at_geojson.specs.Objects.{feature_shape, JoinsFeature}
use Rattle.at_geojson.specs.PlainGeometries.{IsSeenOf, IsSeen}
use Rattle.at_geojson.specs.Features.{IsGeometryOf, IsPartHeld, IsOwnSeen, IfOwnGeometry}

pub measured_held : (query : Query) (f : Feature) (part : Part) → selects query.verb ≡ false → IsSeenOf query f.shape (seens.Measured part) → texts_hold query.tests f.texts ≡ true → IsPart query (f ∷ []) part
measured_held query f part isnt (measure, e, h) hold = measured_part query f measure part isnt e h hold

pub offset_held : (query : Query) (f : Feature) (part : Part) → selects query.verb ≡ true → IsSeenOf query f.shape (seens.Measured part) → texts_hold query.tests f.texts ≡ true → IsPart query (f ∷ []) (parts.Offsets (f.at ∷ []))
offset_held query f part is (measure, e, h) hold = offset_part query f measure is e hold

pub shape_held : (query : Query) (at : ℕ) (g : Shape) (some : List TextPair) (part : Part) → some ≡ flat_map pair_of query.tests → IsPart query (record { at = at; shape = g; texts = some } ∷ []) part
    → (shape : Shape) (texts : List TextPair) → IsSeenOf query shape (seens.Shape g) → texts_hold query.tests texts ≡ true → IsPart query (record { at = at; shape = shape; texts = texts } ∷ []) part
shape_held query at g some part e h shape texts same hold =
    subst (λ z. IsPart query (record { at = at; shape = z; texts = texts } ∷ []) part) same (asked_part query at g some texts part e hold h)

abbrev seen_ok : Seen → Result Seen Fault
seen_ok seen = Ok seen

same_seen : (a b : Seen) → seen_ok a ≡ seen_ok b → a ≡ b
same_seen a b e = cc

pub held_joins : (asked : Asked) (at : ℕ) (s : Result Shape Fault) (seen : Seen) (texts : List TextPair) (hold : Bool) (part : Part) → IsSeen asked.query s (Ok seen) → hold ≡ texts_hold asked.query.tests texts → IsPartHeld asked at seen hold part → JoinsFeature asked.query at s (Ok texts) (Ok part)
held_joins asked at (Ok shape) seen texts hold part (other, e, h) same is = (part, refl, is shape texts (subst (IsSeenOf asked.query shape) (sym (same_seen seen other e)) h) same)
held_joins asked at (Err fault) seen texts hold part e same is = absurd (cc)

pub fault_joins : (asked : Asked) (at : ℕ) (s : Result Shape Fault) (fault : Fault) (texts : List TextPair) → IsSeen asked.query s (Err fault) → JoinsFeature asked.query at s (Ok texts) (Err fault)
fault_joins asked at (Ok shape) fault texts (other, e, h) = absurd (cc)
fault_joins asked at (Err g) fault texts e = cc

own_seen : (asked : Asked) (shape : Shape) (seen : Seen) → IsSeenOf asked.query shape seen → IfOwnShape asked (Ok shape) → IsOwnSeen seen
own_seen asked shape (seens.Measured part) h own = tt
own_seen asked shape (seens.Shape g) h own = subst (λ z. IfOwnShape asked (Ok z)) (sym h) own

own_shape : (asked : Asked) (s : Result Shape Fault) (seen : Seen) → IsSeen asked.query s (Ok seen) → IfOwnShape asked s → IsOwnSeen seen
own_shape asked (Err fault) seen e own = absurd (cc)
own_shape asked (Ok shape) seen (other, e, h) own = subst IsOwnSeen (sym (same_seen seen other e)) (own_seen asked shape other h own)

pub own_geometry : (asked : Asked) (geometry : Option (Result Seen Fault)) (o : Option GeoAtom) → IsGeometryOf asked.query geometry o → IfOwnShape asked (feature_shape o) → IfOwnGeometry geometry
own_geometry asked None o h own = tt
own_geometry asked (Some (Err fault)) o h own = tt
own_geometry asked (Some (Ok seen)) o h own = own_shape asked (feature_shape o) seen h own

-- The features of a sequence of at most 2^28 bytes are few, and their coordinates are in range: what an exact answer asks of them.
-- For the answers of at_run.
use Rattle.std.proofs.Common.{◌≡◌, ℕ, ◌+◌, ◌*◌, ◌^◌, ◌≤◌, Bool, true, false, not, cond, List, [], ◌∷◌, filter, drop, length, refl, sym, ◌∙◌, ap, subst, arith, length-append, length-drop}
use Rattle.std.specs.List.{slice_split}
use Rattle.std.proofs.lemmas.Grind.{flat_map-append}
use Rattle.std.proofs.lemmas.List.Elements.{All-nil, All-append}
use Rattle.at_text.specs.Texts.{base_of}
use Rattle.at_fixed.specs.declared.rounding.Coords.{Coords}
use Rattle.at_geom.specs.Shapes.{positions}
use Rattle.at_query.specs.declared.features.Feature.{Feature}
use Rattle.at_query.specs.Ranges.{IsFeatureInRange, AreFeaturesInRange}
use Rattle.at_query.specs.Results.{all_positions}
use Rattle.at_query.specs.Parts.{AreFew}
use Rattle.at_geojson.specs.Roles.{features_of}
use Rattle.at_query.proofs.ShapeSizes.{parts_size, split_size, few_of_size}
use Rattle.at_seq.proofs.JsonSizes.{text_features_size}
use Rattle.at_seq.proofs.JsonFeatures.{json_features_in_range}
use Rattle.at_text.specs.Separated.{Piece, placed}
use Rattle.at_seq.specs.Records.{is_separator, pieces_from, are_spaces, records_of}
use Rattle.at_seq.specs.Sequences.{AreRecordFeatures, AreSeqFeatures}

-- ---- how many bytes records have

abbrev text_size : List Piece → ℕ
text_size [] = 0
text_size (p ∷ ps) = length p.text + text_size ps

placed_size : (at : ℕ) (parts : List (List ℕ)) → text_size (placed at parts) ≡ parts_size parts
placed_size at [] = refl
placed_size at (text ∷ rest) = ap (λ n. length text + n) (placed_size (at + length text + 1) rest)

kept_size : (p : Piece → Bool) (rs : List Piece) → text_size (filter p rs) ≤ text_size rs
kept_size p [] = omega arith
kept_size p (r ∷ rs) = go (p r) (kept_size p rs) where
  go : (b : Bool) → text_size (filter p rs) ≤ text_size rs → text_size (cond b (r ∷ filter p rs) (filter p rs)) ≤ text_size (r ∷ rs)
  go true s = omega (arith, s)
  go false s = omega (arith, s)

behind_size : (ps : List Piece) → text_size (drop 1 ps) ≤ text_size ps
behind_size [] = omega arith
behind_size (p ∷ ps) = omega arith

records_size : (bytes : List ℕ) → text_size (records_of bytes) ≤ length bytes
records_size bytes =
    let at = base_of bytes in
    let rest = drop at bytes in
    let k = kept_size (λ (p : Piece). not (are_spaces p.text)) (drop 1 (pieces_from at rest)) in
    let b = behind_size (pieces_from at rest) in
    let p = placed_size at (slice_split is_separator rest) in
    let s = split_size is_separator rest in
    let d = length-drop at bytes in
    omega (arith, k, b, p, s, d)

module _ (digits : ℕ) (how : Coords) where
  -- ---- few features, in range

  features_size : (rs : List Piece) (fs : List Feature) → AreRecordFeatures digits how rs fs → 4 * length (all_positions fs) + length fs ≤ text_size rs
  features_size [] fs e = let a = ap (λ z. 4 * length (all_positions z) + length z) e in omega (arith, a)
  features_size (r ∷ rs) fs (t, others, is, more, e) =
      let ts = features_of digits how t in
      let here = text_features_size digits how r.at r.text t is in
      let behind = features_size rs others more in
      let both = ap (λ z. 4 * length (all_positions z) + length z) e in
      let spots = ap length (flat_map-append (λ (f : Feature). positions f.shape) ts others) ∙ length-append (all_positions ts) (all_positions others) in
      let counts = length-append ts others in
      omega (arith, here, behind, both, spots, counts)

  pub seq_features_few : (bytes : List ℕ) (fs : List Feature) → length bytes ≤ 2 ^ 28 → AreSeqFeatures digits how bytes fs → AreFew fs
  seq_features_few bytes fs short are =
      let s = features_size (records_of bytes) fs are in
      let l = records_size bytes in
      few_of_size fs (length bytes) (omega (arith, s, l)) short

  records_in_range : (rs : List Piece) (fs : List Feature) → AreRecordFeatures digits how rs fs → AreFeaturesInRange fs
  records_in_range [] fs e = subst AreFeaturesInRange (sym e) (All-nil IsFeatureInRange)
  records_in_range (r ∷ rs) fs (t, others, is, more, e) =
      subst AreFeaturesInRange (sym e) (All-append IsFeatureInRange (features_of digits how t) others (json_features_in_range digits how t) (records_in_range rs others more))

  pub seq_features_in_range : (bytes : List ℕ) (fs : List Feature) → AreSeqFeatures digits how bytes fs → AreFeaturesInRange fs
  seq_features_in_range bytes fs are = records_in_range (records_of bytes) fs are

-- The features of a file of lines of at most 2^28 bytes are few, and their coordinates are in range: what an exact answer asks of them.
-- For `answer`.
use Rattle.std.proofs.Common.{◌≡◌, ℕ, ◌+◌, ◌*◌, ◌^◌, ◌≤◌, ◌==◌, Bool, true, false, not, cond, if◌then◌else◌, List, [], ◌∷◌, length, map, filter, drop, Option, Some, None, refl, ap, ◌∙◌, arith, length-append, length-drop}
use Rattle.std.specs.List.{slice_split}
use Rattle.std.proofs.lemmas.List.Elements.{All-nil, All-cons}
use Rattle.at_text.specs.Texts.{base_of}
use Rattle.at_text.specs.Separated.{placed}
use Rattle.at_fixed.specs.declared.rounding.Coords.{Coords}
use Rattle.at_geom.specs.Shapes.{positions}
use Rattle.at_wkt.specs.Geometry.{Geometry}
use Rattle.at_wkt.specs.Lines.{FileLine, pieces_from, is_line_feed, without_return, line_of, is_blank_text, lines_of}
use Rattle.at_query.specs.declared.features.Feature.{Feature}
use Rattle.at_query.specs.Ranges.{IsFeatureInRange, AreFeaturesInRange}
use Rattle.at_query.specs.Results.{all_positions}
use Rattle.at_query.specs.Parts.{AreFew}
use Rattle.at_query.proofs.ShapeRanges.{shape_in}
use Rattle.at_query.proofs.LineBytes.{weight_of, line_size}
use Rattle.at_query.proofs.ShapeSizes.{size, positions_size, shape_size, parts_size, split_size, few_of_size}
use Rattle.at_lex.specs.Strings.{Character}
use Rattle.at_run.specs.Labels.{SpellsLabelled}
use Rattle.at_run.specs.Features.{AreLineFeatures, AreFileFeatures}

-- ---- how many bytes lines have

abbrev text_size : List FileLine → ℕ
text_size [] = 0
text_size (l ∷ ls) = length l.text + text_size ls

pub placed_size : (at : ℕ) (ps : List (List ℕ)) → text_size (placed at ps) ≡ parts_size ps
placed_size at [] = refl
placed_size at (p ∷ ps) = ap (λ n. length p + n) (placed_size (at + length p + 1) ps)

return_size : (w : List ℕ) → length (without_return w) ≤ length w
return_size [] = omega arith
return_size (b ∷ []) = go (b == 0x0D) where
  go : (t : Bool) → length (if t then [] else b ∷ []) ≤ 1
  go true = omega arith
  go false = omega arith
return_size (b ∷ c ∷ w) = omega (arith, return_size (c ∷ w))

ends_size : (ls : List FileLine) → text_size (map line_of ls) ≤ text_size ls
ends_size [] = omega arith
ends_size (l ∷ ls) = omega (arith, ends_size ls, return_size l.text)

kept_size : (p : FileLine → Bool) (ls : List FileLine) → text_size (filter p ls) ≤ text_size ls
kept_size p [] = omega arith
kept_size p (l ∷ ls) = go (p l) (kept_size p ls) where
  go : (b : Bool) → text_size (filter p ls) ≤ text_size ls → text_size (cond b (l ∷ filter p ls) (filter p ls)) ≤ text_size (l ∷ ls)
  go true s = omega (arith, s)
  go false s = omega (arith, s)

lines_size : (bytes : List ℕ) → text_size (lines_of bytes) ≤ length bytes
lines_size bytes =
    let at = base_of bytes in let rest = drop at bytes in let pieces = pieces_from at rest in
    omega (arith, kept_size (λ l. not (is_blank_text l.text)) (map line_of pieces), ends_size pieces, placed_size at (slice_split is_line_feed rest), split_size is_line_feed rest, length-drop at bytes)

-- ---- features

-- a line has the bytes of its geometry at least
labelled_size : (label : Option (List Character)) (g : Geometry) (at : ℕ) (w : List ℕ) → SpellsLabelled label g at w → 4 * weight_of g + 1 ≤ length w
labelled_size None g at w h = line_size g at w h
labelled_size (Some cs) g at w (a, v, e, ha, (s, r, f, hs, hr)) =
    omega (arith, line_size g ((at + length a) + length s) r hr, ap length e, ap length f, length-append {A = ℕ})

module _ (digits : ℕ) (how : Coords) where
  features_size : (ls : List FileLine) (fs : List Feature) → AreLineFeatures digits how ls fs → 4 * length (all_positions fs) + length fs ≤ text_size ls
  features_size [] fs e = let a = ap (λ z. 4 * length (all_positions z) + length z) e in omega (arith, a)
  features_size (l ∷ ls) fs (f, rest, e, is, more) =
      let w = positions_size f.shape ∙ ap size is.shape ∙ shape_size digits how is.geometry in
      let a = ap (λ z. 4 * length (all_positions z) + length z) e in
      omega (arith, labelled_size is.label is.geometry l.at l.text is.spelled, w, features_size ls rest more, a, length-append (positions f.shape) (all_positions rest))

  pub features_in_range : (ls : List FileLine) (fs : List Feature) → AreLineFeatures digits how ls fs → AreFeaturesInRange fs
  features_in_range [] fs e = rw e (All-nil IsFeatureInRange)
  features_in_range (l ∷ ls) fs (f, rest, e, is, more) = rw e (All-cons IsFeatureInRange f rest (rw is.shape (shape_in digits how is.geometry)) (features_in_range ls rest more))

  pub file_features_few : (bytes : List ℕ) (fs : List Feature) → length bytes ≤ 2 ^ 28 → AreFileFeatures digits how bytes fs → AreFew fs
  file_features_few bytes fs le are = let s = features_size (lines_of bytes) fs are in let l = lines_size bytes in few_of_size fs (length bytes) (omega (arith, s, l)) le

-- The features of a file without a fault are proper: their rings are closed, their coordinates are in range, and their offsets rise.
-- For `answer` and `answer_join`.
use Rattle.std.proofs.Common.{◌≡◌, ℕ, ◌+◌, ◌≤◌, inl, inr, Bool, true, false, not, cond, List, [], ◌∷◌, length, map, filter, drop, Option, Some, None, sym, ap, ◌∙◌, arith}
use Rattle.std.specs.List.{AllByRecursion, slice_split}
use Rattle.std.proofs.lemmas.Option.{none-some}
use Rattle.at_text.specs.declared.faults.Fault.{Fault}
use Rattle.at_text.specs.Texts.{base_of, utf8_fault}
use Rattle.at_text.specs.Separated.{placed}
use Rattle.at_fixed.specs.declared.rounding.Coords.{Coords}
use Rattle.at_nest.specs.Tree.{Tree}
use Rattle.at_nest.specs.Syntax.{IsFileOf}
use Rattle.at_nest.proofs.OneTree.{one_tree}
use Rattle.at_wkt.specs.Meaning.{shape_of}
use Rattle.at_wkt.specs.Lines.{FileLine, pieces_from, is_line_feed, line_of, is_blank_text, lines_of}
use Rattle.at_query.specs.declared.features.Feature.{Feature}
use Rattle.at_query.specs.Parts.{AreRising, IsProperFeature, AreProperFeatures}
use Rattle.at_query.proofs.ShapeRanges.{shape_in}
use Rattle.at_query.proofs.ProperShapes.{empties, not_empty, no_first, geometry_closed, at_of}
use Rattle.at_geojson.specs.Roles.{features_of}
use Rattle.at_geojson.specs.Wholes.{faults_of}
use Rattle.at_seq.proofs.JsonFeatures.{climbs_rise, text_climbs, text_features_proper}
use Rattle.at_run.specs.Features.{IsLineFeature, AreLineFeatures, AreFileFeatures}
use Rattle.at_run.specs.LineFaults.{HasFaults, HaveFaults, HasLinesFaultBehind, HasLinesFault}
use Rattle.at_run.specs.JsonFiles.{HasJsonFaultBehind, HasJsonFileFault}
use Rattle.at_run.proofs.LabelledLines.{one_labelled}

-- ---- offsets

-- the offsets rise from n on
abbrev AreFrom : ℕ → List FileLine → Type 0
AreFrom n [] = Unit {0}
AreFrom n (l ∷ ls) = (n ≤ l.at) × AreFrom (l.at + 1) ls

from_less : (m n : ℕ) (ls : List FileLine) → m ≤ n → AreFrom n ls → AreFrom m ls
from_less m n [] le h = tt
from_less m n (l ∷ ls) le h = (omega (arith, le, h.0), h.1)

placed_from : (at : ℕ) (ps : List (List ℕ)) → AreFrom at (placed at ps)
placed_from at [] = tt
placed_from at (p ∷ ps) = (omega arith, from_less (at + 1) (at + length p + 1) (placed (at + length p + 1) ps) (omega arith) (placed_from (at + length p + 1) ps))

ends_from : (n : ℕ) (ls : List FileLine) → AreFrom n ls → AreFrom n (map line_of ls)
ends_from n [] h = tt
ends_from n (l ∷ ls) h = (h.0, ends_from (l.at + 1) ls h.1)

kept_from : (p : FileLine → Bool) (n : ℕ) (ls : List FileLine) → AreFrom n ls → AreFrom n (filter p ls)
kept_from p n [] h = tt
kept_from p n (l ∷ ls) h = go (p l) (kept_from p (l.at + 1) ls h.1) where
  go : (t : Bool) → AreFrom (l.at + 1) (filter p ls) → AreFrom n (cond t (l ∷ filter p ls) (filter p ls))
  go true k = (h.0, k)
  go false k = from_less n (l.at + 1) (filter p ls) (omega (arith, h.0)) k

lines_from : (bytes : List ℕ) → AreFrom 0 (lines_of bytes)
lines_from bytes =
    let at = base_of bytes in
    let pieces = pieces_from at (drop at bytes) in
    kept_from (λ (l : FileLine). not (is_blank_text l.text)) 0 (map line_of pieces)
    (ends_from 0 pieces (from_less 0 at pieces (omega arith) (placed_from at (slice_split is_line_feed (drop at bytes)))))

module _ (digits : ℕ) (how : Coords) where
  rising_behind : (n : ℕ) (ls : List FileLine) (fs : List Feature) → AreFrom (n + 1) ls → AreLineFeatures digits how ls fs → AreRising (n ∷ map at_of fs)
  rising_behind n [] fs h e = rw e tt
  rising_behind n (l ∷ ls) fs h (f, rest, e, is, more) = rw e ((omega (arith, h.0, is.at)), rising_behind f.at ls rest (rw is.at h.1) more)

  rising : (n : ℕ) (ls : List FileLine) (fs : List Feature) → AreFrom n ls → AreLineFeatures digits how ls fs → AreRising (map at_of fs)
  rising n [] fs h e = rw e tt
  rising n (l ∷ ls) fs h (f, rest, e, is, more) = rw e (rising_behind f.at ls rest (rw is.at h.1) more)

  -- ---- features

  proper_feature : (l : FileLine) (f : Feature) (faults : List Fault) → IsLineFeature digits how l f → HasFaults digits how l faults → faults ≡ [] → IsProperFeature f
  proper_feature l f faults is (inl (fault, h, e)) none = absurd (not_empty fault [] (sym e ∙ none))
  proper_feature l f faults is (inr (label, g, p, e)) none =
      let same : f.shape ≡ shape_of digits how g = is.shape ∙ ap (shape_of digits how) (one_labelled l.at l.text is.label label is.geometry g is.spelled p).1 in
      record { closed = rw same (geometry_closed digits how g (sym e ∙ none)); in_range = rw same (shape_in digits how g) }

  proper_lines : (ls : List FileLine) (fs : List Feature) (faults : List Fault) → AreLineFeatures digits how ls fs → HaveFaults digits how ls faults → faults ≡ [] → AllByRecursion IsProperFeature fs
  proper_lines [] fs faults e have none = rw e tt
  proper_lines (l ∷ ls) fs faults (f, rest, e, is, more) (first, others, h, hs, j) none =
      let (a, b) = empties first others (sym j ∙ none) in
      rw e (proper_feature l f first is h a, proper_lines ls rest others more hs b)

  proper_behind : (encoding : Option Fault) (bytes : List ℕ) (fs : List Feature) → HasLinesFaultBehind digits how encoding bytes None → AreFileFeatures digits how bytes fs → AllByRecursion IsProperFeature fs
  proper_behind (Some fault) bytes fs h are = absurd (none-some fault h)
  proper_behind None bytes fs (faults, have, e) are = proper_lines (lines_of bytes) fs faults are have (no_first faults e)

  pub file_features_proper : (bytes : List ℕ) (fs : List Feature) → HasLinesFault digits how bytes None → AreFileFeatures digits how bytes fs → AreProperFeatures fs
  file_features_proper bytes fs h are = record {
    rising = rising 0 (lines_of bytes) fs (lines_from bytes) are;
    features = proper_behind (utf8_fault bytes) bytes fs h are;
  }

  -- ---- a file of GeoJSON

  -- the tree of a file without a fault has none
  none_behind : (encoding : Option Fault) (bytes : List ℕ) (t : Tree) → HasJsonFaultBehind digits how encoding bytes None → IsFileOf bytes t → faults_of digits how t ≡ []
  none_behind (Some fault) bytes t h is = absurd (none-some fault h)
  none_behind None bytes t (faults, inl (fault, h, k), e) is = absurd (not_empty fault [] (sym k ∙ no_first faults e))
  none_behind None bytes t (faults, inr (u, also, k), e) is = ap (faults_of digits how) (sym (one_tree _ _ t u is also)) ∙ (sym k ∙ no_first faults e)

  pub json_features_proper : (bytes : List ℕ) (t : Tree) → HasJsonFileFault digits how bytes None → IsFileOf bytes t → AreProperFeatures (features_of digits how t)
  json_features_proper bytes t h is =
      let none = none_behind (utf8_fault bytes) bytes t h is in
      record { rising = climbs_rise _ _ _ (text_climbs digits how t _ _ is none); features = text_features_proper digits how t none }

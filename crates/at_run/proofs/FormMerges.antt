-- The merged fragment of one form stands for both spans in the reader's form.
-- For most public calls of the crate, `answer`, `answer_join`, `finish_pieces` among them.
use Rattle.std.proofs.Common.{◌≡◌, ℕ, List, length, drop, refl}
use Rattle.std.proofs.lemmas.List.{take_rest}
use Rattle.at_text.specs.Spans.{StandsAt, AreNeighbours, IsMerged}
use Rattle.at_text.specs.Texts.{base_of}
use Rattle.at_wkt.specs.Folding.{OwnFold, StandsFor}
use Rattle.at_wkt.specs.declared.file.fragments.LineFragment.{LineFragment}
use Rattle.at_query.specs.Keeping.{Asked as JsonAsked}
use Rattle.at_run.specs.declared.forms.Form.TheVariants.{GeoJson}
use Rattle.at_query.specs.declared.answer.gathered.Gathered.{Gathered}
use Rattle.at_run.specs.declared.readers.FileFragment.{FileFragment}
use Rattle.at_run.specs.declared.readers.FileFragment.TheVariants.{Lines, Json, Unread}
use Rattle.at_run.specs.declared.json_fragments.JsonFragment.{JsonFragment}
use Rattle.at_run.specs.Gathering.{Asked, IsOwn, IsGathered}
use Rattle.at_run.specs.JsonFragments.{StandsForText}
use Rattle.at_run.specs.Readers.{Asks, of_lines, of_json, StandsInForm}

-- beside a fragment of a form stands one of the same form
pub lines_beside : (asks : Asks) (bytes : List ℕ) (left right : FileFragment) (l : LineFragment Gathered) → left ≡ Lines l → ((i : ℕ) × (j : ℕ) × (k : ℕ) × AreNeighbours (StandsInForm asks) bytes i j k left right)
    → (r : LineFragment Gathered) × (right ≡ Lines r)
lines_beside asks bytes left (Lines r) l is h = (r, refl)
lines_beside asks bytes left (Json r) l is (i, j, k, n) = let a = (rw is at n.left).0 in let b = n.right.0 in absurd (cc)
lines_beside asks bytes left Unread l is (i, j, k, n) = let a = (rw is at n.left).0 in let b = n.right in absurd (cc)

pub json_beside : (asks : Asks) (bytes : List ℕ) (left right : FileFragment) (l : JsonFragment) → left ≡ Json l → ((i : ℕ) × (j : ℕ) × (k : ℕ) × AreNeighbours (StandsInForm asks) bytes i j k left right)
    → (r : JsonFragment) × (right ≡ Json r)
json_beside asks bytes left (Json r) l is h = (r, refl)
json_beside asks bytes left (Lines r) l is (i, j, k, n) = let a = (rw is at n.left).0 in let b = n.right.0 in absurd (cc)
json_beside asks bytes left Unread l is (i, j, k, n) = let a = (rw is at n.left).0 in let b = n.right in absurd (cc)

module _ (asks : Asks) (bytes : List ℕ) (left right : FileFragment) where
  -- of a sequence nothing is read yet, nor of both spans
  pub merged_unread : left ≡ Unread → IsMerged (StandsInForm asks) bytes left right Unread
  merged_unread is = rw is (λ i j k n. n.left)

  pub merged_lines : (asked : Asked) (l r both : LineFragment Gathered) → left ≡ Lines l → right ≡ Lines r → asked ≡ of_lines asks
      → IsMerged (StandsFor (OwnFold (IsOwn asked) (IsGathered asked))) bytes l r both → IsMerged (StandsInForm asks) bytes left right (Lines both)
  merged_lines asked l r both left_is right_is same h =
      rw (left_is, right_is) (λ i j k n. (n.left.0, (rw same at h) i j k (record { first = n.first; second = n.second; within = n.within; left = n.left.1; right = n.right.1 })))

  pub lines_neighbours : (asked : Asked) (l r : LineFragment Gathered) → left ≡ Lines l → right ≡ Lines r → asked ≡ of_lines asks → ((i : ℕ) × (j : ℕ) × (k : ℕ) × AreNeighbours (StandsInForm asks) bytes i j k left right)
      → (i : ℕ) × (j : ℕ) × (k : ℕ) × AreNeighbours (StandsFor (OwnFold (IsOwn asked) (IsGathered asked))) bytes i j k l r
  lines_neighbours asked l r left_is right_is same h = let (i, j, k, n) = rw (left_is, right_is) at h in
      rw same (i, j, k, record { first = n.first; second = n.second; within = n.within; left = n.left.1; right = n.right.1 })

  module _ (asked : JsonAsked) (l r : JsonFragment) (left_is : left ≡ Json l) (right_is : right ≡ Json r) (same : asked ≡ of_json asks) where
    pub merged_json : (both : JsonFragment) → IsMerged (StandsForText asked) bytes l r both → IsMerged (StandsInForm asks) bytes left right (Json both)
    merged_json both h =
        rw (left_is, right_is) (λ i j k n. (n.left.0, (rw same at h) i j k (record { first = n.first; second = n.second; within = n.within; left = n.left.1; right = n.right.1 })))

    pub json_neighbours : ((i : ℕ) × (j : ℕ) × (k : ℕ) × AreNeighbours (StandsInForm asks) bytes i j k left right)
        → (i : ℕ) × (j : ℕ) × (k : ℕ) × AreNeighbours (StandsForText asked) bytes i j k l r
    json_neighbours h = let (i, j, k, n) = rw (left_is, right_is) at h in
        rw same (i, j, k, record { first = n.first; second = n.second; within = n.within; left = n.left.1; right = n.right.1 })

pub json_piece : (asks : Asks) (asked : JsonAsked) (base : ℕ) (piece : List ℕ) (l : JsonFragment) → asks.form ≡ GeoJson → asked ≡ of_json asks
    → StandsForText asked base piece l → StandsInForm asks base piece (Json l)
json_piece asks asked base piece l form same h = (form, rw same at h)

-- of all bytes from the text's first on
pub json_whole : (asks : Asks) (asked : JsonAsked) (bytes : List ℕ) (whole : FileFragment) (l : JsonFragment) → whole ≡ Json l → asked ≡ of_json asks
    → StandsAt (StandsInForm asks) bytes (base_of bytes) (length bytes) whole → StandsForText asked (base_of bytes) (drop (base_of bytes) bytes) l
json_whole asks asked bytes whole l is same h = let stands = rw is at h in rw same (rw take_rest at stands.1)

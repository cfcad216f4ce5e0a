-- Worked values: query lines, printed answers, and features of which a query holds.
use Rattle.std.proofs.Common.{◌≡◌, ℕ, pos, List, [], ◌∷◌, Some, None, IsTrue, refl, codes, inl, inr, arith}
use Rattle.std.specs.Fmt.{digits}
use Rattle.at_geom.specs.declared.positions.Pos.{Pos}
use Rattle.at_geom.specs.declared.shapes.Shape.{Shape}
use Rattle.at_geom.specs.Shapes.{Meet}
use Rattle.at_query.specs.declared.query.queries.Query.{Query}
use Rattle.at_query.specs.declared.features.Feature.{Feature}
use Rattle.at_query.specs.declared.answer.answers.Answer.TheVariants.{Offsets, Number, Spread}
use Rattle.at_query.specs.declared.query.queries.Verb.TheVariants as verbs
use Rattle.at_query.specs.declared.query.queries.Test.TheVariants.{InBox}
use Rattle.at_fixed.specs.declared.rounding.Coords.TheVariants.{Round}
use Rattle.at_text.specs.Texts.{is_digit}
use Rattle.at_query.specs.Spelling.{Placed, SpellsPlaced, SpelledBox, SpellsBox, SpelledQuery, in_box, meets_box, IsSpelled}
use Rattle.at_query.specs.Queries.{spelled_fault}
use Rattle.at_query.specs.Results.{IsResult}
use Rattle.at_query.specs.Printing.{printed}

abbrev whole_at : List ℕ → ℕ → Placed
whole_at ds i = record { number = record { sign = []; whole = ds; fraction = None; exponent = None }; at = i }

abbrev turned_box : SpelledBox
turned_box = record { at = 18; low_x = whole_at (codes "2") 22; low_y = whole_at (codes "2") 24; high_x = whole_at (codes "1") 26; high_y = whole_at (codes "1") 28 }

abbrev turned : SpelledQuery
turned = record { verb = verbs.Count; tests = meets_box turned_box ∷ [] }

corner : (d i : ℕ) (delimiter : List ℕ) → IsTrue (is_digit d) → SpellsPlaced (whole_at (d ∷ []) i) delimiter i (d ∷ delimiter)
corner d i delimiter h = (d ∷ [], delimiter, refl, (refl, (record { sign = tt; digits = ((h, tt), tt); exponent = tt }, refl)), refl)

turned_box_is_spelled : SpellsBox turned_box 18 (codes "box(2 2,1 1)")
turned_box_is_spelled =
    (refl, (codes "box(", codes "2 2,1 1)", refl, refl, (codes "2 ", codes "2,1 1)", refl, corner 0x32 22 (codes " ") refl, (codes "2,", codes "1 1)", refl, corner 0x32 24 (codes ",") refl, (codes "1 ", codes "1)", refl, corner 0x31 26 (codes " ") refl, corner 0x31 28 (codes ")") refl)))))

-- the word `box` stands at 18
turned_is_spelled : IsSpelled (codes "count where meets box(2 2,1 1)") turned
turned_is_spelled = (
  codes "count",
  codes " where meets box(2 2,1 1)",
  refl,
  refl,
  (codes " where ", codes "meets box(2 2,1 1)", refl, refl, (codes "meets box(2 2,1 1)", [], refl, (codes "meets ", codes "box(2 2,1 1)", refl, refl, turned_box_is_spelled), refl)),
)

turned_is_refused : spelled_fault 7 Round turned ≡ Some 18
turned_is_refused = refl

-- count where in box(0 0,300001 1) with nine digits: at the number
too_large : spelled_fault 9 Round (record {
  verb = verbs.Count;
  tests = in_box (record { at = 15; low_x = whole_at (codes "0") 19; low_y = whole_at (codes "0") 21; high_x = whole_at (codes "300001") 23; high_y = whole_at (codes "1") 30 }) ∷ [];
}) ≡ Some 23
too_large = refl

some_offsets : printed 7 (Offsets (0 ∷ 12 ∷ [])) ≡ codes "0\n12\n"
unfolding digits
some_offsets = refl

some_area : printed 7 (Number (pos 750000000000000)) ≡ codes "750000000000000\n"
unfolding digits
some_area = refl

abbrev place : ℕ → ℕ → Pos
place x y = record { x = pos x; y = pos y }

some_extent : printed 7 (Spread (Some (record { low = place 5000000 0; high = place 3605000000 20000000 }))) ≡ codes "0.5000000 0.0000000 360.5000000 2.0000000\n"
unfolding digits
some_extent = refl

no_extent : printed 7 (Spread None) ≡ codes "empty\n"
no_extent = refl

abbrev line : List Pos → Shape
line ps = record { points = []; lines = ps ∷ []; polygons = [] }

abbrev feature : ℕ → List Pos → Feature
feature at ps = record { at = at; shape = line ps; texts = [] }

-- (0 0,2 2) meets (2 2,3 0) at its end, and (1 1,5 5) along it
touches : Meet (line (place 2 2 ∷ place 3 0 ∷ [])) (line (place 0 0 ∷ place 2 2 ∷ []))
touches = inl (inl (inl (record { n = 1; j = 0; k = 1; some_parts = omega arith; on_first = omega arith; on_second = omega arith; same_x = refl; same_y = refl })))

overlaps : Meet (line (place 1 1 ∷ place 5 5 ∷ [])) (line (place 0 0 ∷ place 2 2 ∷ []))
overlaps = inl (inl (inl (record { n = 2; j = 0; k = 1; some_parts = omega arith; on_first = omega arith; on_second = omega arith; same_x = refl; same_y = refl })))

abbrev inside : Query
inside = record { verb = verbs.Select; tests = InBox (record { low = place 0 0; high = place 1 1 }) ∷ [] }

abbrev dot : ℕ → List Pos → Feature
dot i ps = record { at = i; shape = record { points = ps; lines = []; polygons = [] }; texts = [] }

-- select where in box(0 0,1 1): a point in it, one that is EMPTY, and one outside
one_of_three : IsResult inside (dot 0 (place 1 1 ∷ []) ∷ dot 12 [] ∷ dot 24 (place 2 0 ∷ []) ∷ []) (Offsets (0 ∷ []))
one_of_three = (
  dot 0 (place 1 1 ∷ []) ∷ [],
  inl ((refl, tt), ([], refl, inr ((λ h. cc), inr ((λ h. cc), refl)))),
  refl,
)

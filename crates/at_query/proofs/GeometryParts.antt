-- What a shape is to meet: a box, or a geometry, whose word begins with another letter.
-- For `read_query`.
use Rattle.std.proofs.Common.{◌≡◌, ℕ, ◌+◌, ◌-◌, ◌≤◌, ◌==◌, inl, inr, Bool, true, false, not, List, [], ◌∷◌, ◌++◌, length, take, drop, codes, Option, None, is_none, if◌then◌else◌, option_map, refl, sym, ◌∙◌, ap, subst, arith, append_assoc, take-append-drop, length-append, nat_lt, lit≤, true≢false}
use Rattle.std.specs.Char.{to_ascii_uppercase}
use Rattle.std.specs.Str.{str_to_ascii_uppercase}
use Rattle.std.proofs.Math.Seq.{take-append_seam}
use Rattle.std.proofs.lemmas.Bool.{eqb-true, not-true}
use Rattle.at_text.specs.declared.faults.Fault.{Fault}
use Rattle.at_text.specs.declared.faults.FaultKind.TheVariants.{Syntax, Ended}
use Rattle.at_text.specs.Faults.{first_of, fault_at}
use Rattle.at_fixed.specs.declared.rounding.Coords.{Coords}
use Rattle.at_geom.specs.declared.shapes.Shape.{Shape}
use Rattle.at_wkt.specs.declared.answers.Prefix.{Prefix}
use Rattle.at_wkt.specs.Geometry.{Geometry, point, SpellsGeometry, WktGeometry}
use Rattle.at_geom.specs.Shapes.{empty_shape}
use Rattle.at_wkt.specs.Meaning.{shape_of, faults_of}
use Rattle.at_wkt.specs.Answers.{IsPrefixOf, IsPrefixFault}
use Rattle.at_query.specs.declared.query.queries.Test.TheVariants.{MeetsShape}
use Rattle.at_fixed.specs.NumberSoFar.{between}
use Rattle.at_query.specs.Readers.{Ends, Stops, TestMeaning, met_box, Box, geometry_meaning, BoxTarget, GeometryTarget, Target}
use Rattle.at_query.proofs.Parted.{Lives, Begins, When, Tells}
use Rattle.at_query.proofs.StringParts.{slice_part, slice_fits, language_within, language_viable, language_dead}

-- ---- the first letter

abbrev pub is_b : ℕ → Bool
is_b b = b == 0x62

abbrev pub is_no_b : ℕ → Bool
is_no_b b = not (b == 0x62)

-- a letter other than B in either case
no_b : (b letter : ℕ) (t : Bool) → (b == 0x62) ≡ t → to_ascii_uppercase b ≡ letter → (letter == 0x42) ≡ false → not t ≡ true
no_b b letter false e u h = refl
no_b b letter true e u h =
    let capital : 0x42 ≡ letter = ap to_ascii_uppercase (sym (eqb-true b 0x62 e)) ∙ u in
    absurd (true≢false (ap (λ z. z == 0x42) capital ∙ h))

first_letter : (a r v : List ℕ) (letter : ℕ) (rest : List ℕ) → v ≡ a ++ r → str_to_ascii_uppercase a ≡ letter ∷ rest → (letter == 0x42) ≡ false
    → (b : ℕ) × (t : List ℕ) × (v ≡ b ∷ t) × (is_no_b b ≡ true)
first_letter [] r v letter rest e u h = absurd (let none : [] ≡ letter ∷ rest = u in cc)
first_letter (b ∷ a) r v letter rest e u h = let upper : to_ascii_uppercase b ≡ letter = cc in (b, a ++ r, e, no_b b letter (b == 0x62) refl upper h)

pub geometry_letter : (g : Geometry) (at : ℕ) (v : List ℕ) → SpellsGeometry at v g → (b : ℕ) × (t : List ℕ) × (v ≡ b ∷ t) × (is_no_b b ≡ true)
geometry_letter (point p) at v (d, (a, r, e, h, q)) = first_letter a r v 0x50 (codes "OINT") e h refl
geometry_letter _ at v (d, (a, r, e, h, q)) = first_letter a r v _ _ e h refl

either_at : (m : ℕ) (t : Bool) → (if t then fault_at Syntax m else fault_at Ended m).at ≡ m
either_at m true = refl
either_at m false = refl

abbrev meant : Shape → Option Fault → TestMeaning
meant s o = record { test = MeetsShape (if is_none o then s else empty_shape); fault = option_map (λ (f : Fault). f.at) o }

module _ (digits : ℕ) (how : Coords) where
  -- ---- a geometry

  module _ (w : List ℕ) (i : ℕ) (within : i ≤ length w) where
    module _ (prefix : Prefix) (h : IsPrefixOf digits how i (take (length w - i) (drop i w)) prefix) where
      meaning_is : record { test = MeetsShape prefix.shape; fault = option_map (λ (f : Fault). f.at) prefix.fault } ≡ geometry_meaning digits how h.geometry
      meaning_is =
          ap (λ z. record { test = MeetsShape z; fault = option_map (λ (f : Fault). f.at) prefix.fault }) h.shape_is ∙ ap (meant (shape_of digits how h.geometry)) h.fault_is

      meaning_same : (g : Geometry) → shape_of digits how g ≡ shape_of digits how h.geometry → first_of (faults_of digits how g) ≡ prefix.fault → geometry_meaning digits how g ≡ geometry_meaning digits how h.geometry
      meaning_same g es ef = ap (λ z. meant z (first_of (faults_of digits how g))) es ∙ ap (meant (shape_of digits how h.geometry)) (ef ∙ h.fault_is)

      pub geometry_ends : Ends (GeometryTarget digits how) w i (i + prefix.taken) (record { test = MeetsShape prefix.shape; fault = option_map (λ (f : Fault). f.at) prefix.fault })
      geometry_ends = record {
        order = omega arith;
        within = slice_fits w i prefix.taken within h.fits;
        sound = (h.geometry, meaning_is, subst (λ z. SpellsGeometry i z h.geometry) (slice_part w i prefix.taken) h.spelled);
        only = λ m v r s (g, em, sg) e.
            let line : v ++ r ≡ take prefix.taken (take (length w - i) (drop i w)) ++ s = e ∙ ap (λ z. z ++ s) (sym (slice_part w i prefix.taken)) in
            let (ev, es, ef) = h.only g v r s sg line in
            (em ∙ (meaning_same g es ef ∙ sym meaning_is), ev ∙ slice_part w i prefix.taken);
      }

    module _ (fault : Fault) (h : IsPrefixFault i (take (length w - i) (drop i w)) fault) where
      place : fault.at ≡ i + h.taken
      place = ap (λ (f : Fault). f.at) h.place ∙ either_at (i + h.taken) (nat_lt h.taken (length (take (length w - i) (drop i w))))

      pub geometry_stops : Stops (GeometryTarget digits how) w i fault.at
      geometry_stops =
          let none : (v x : List ℕ) → WktGeometry i v → v ++ x ≡ between w i (i + h.taken) → ⊥ = (λ v x (g, s) line.
          let front : v ++ x ≡ take h.taken (take (length w - i) (drop i w)) = line ∙ sym (slice_part w i h.taken) in
          let all : take (length w - i) (drop i w) ≡ v ++ (x ++ drop h.taken (take (length w - i) (drop i w))) =
          sym (take-append-drop h.taken (take (length w - i) (drop i w))) ∙ (ap (λ z. z ++ drop h.taken (take (length w - i) (drop i w))) (sym front) ∙ append_assoc v x (drop h.taken (take (length w - i) (drop i w)))) in
          let front_is : take (length v) (take (length w - i) (drop i w)) ≡ v = ap (take (length v)) all ∙ take-append_seam v (x ++ drop h.taken (take (length w - i) (drop i w))) in
          let fits : length v ≤ length (take (length w - i) (drop i w)) = omega (arith, ap length all, length-append v (x ++ drop h.taken (take (length w - i) (drop i w)))) in
          h.no_geometry (length v) fits (g, subst (λ z. SpellsGeometry i z g) (sym front_is) s)) in
          let there : Stops (GeometryTarget digits how) w i (i + h.taken) = record {
            order = omega arith;
            within = language_within (WktGeometry i) w i h.taken within h.longest;
            viable = (let (more, (g, s)) = language_viable (WktGeometry i) w i h.taken within h.longest in (geometry_meaning digits how g, more, (g, refl, s)));
            dead = λ m v r (g, em, s) on. language_dead (WktGeometry i) w i h.taken within h.longest none v r (g, s) on;
          } in
          subst (Stops (GeometryTarget digits how) w i) (sym place) there

  pub geometry_lives : Lives (GeometryTarget digits how)
  geometry_lives at = (
    geometry_meaning digits how (point None),
    codes "POINTEMPTY",
    (
      point None,
      refl,
      (2, (codes "POINT", codes "EMPTY", refl, refl, ([], codes "EMPTY", refl, tt, ([], codes "EMPTY", refl, inl (refl, lit≤ tt, lit≤ tt), ([], codes "EMPTY", refl, tt, refl))))),
    ),
  )

  -- ---- one of the two

  pub met_tells : Tells (BoxTarget digits how) (Box digits how) (λ at. met_box)
  met_tells = record { to = λ b at v h. (b, refl, h); from = λ m at v (b, em, h). (b, em, h) }

  box_begins : Begins is_b (BoxTarget digits how)
  box_begins m at v (bm, em, (b, eb, (ei, (v1, v2, ev, word, more)))) = (0x62, codes "ox(" ++ v2, ev ∙ ap (λ z. z ++ v2) word, refl)

  geometry_begins : Begins is_no_b (GeometryTarget digits how)
  geometry_begins m at v (g, em, s) = geometry_letter g at v s

  pub when_box : When (Target digits how) (BoxTarget digits how) (λ m. m) is_b
  when_box = record {
    to = λ m at v h. inl h;
    from = λ m at v h. elim h [
      | inl box ↦ inl (m, refl, box)
      | inr geometry ↦ (let (b, t, e, h2) = geometry_begins m at v geometry in inr (b, t, e, not-true (b == 0x62) h2))
    ];
    begins = box_begins;
  }

  pub when_geometry : When (Target digits how) (GeometryTarget digits how) (λ m. m) is_no_b
  when_geometry = record {
    to = λ m at v h. inr h;
    from = λ m at v h. elim h [
      | inl box ↦ (let (b, t, e, h2) = box_begins m at v box in inr (b, t, e, ap not h2))
      | inr geometry ↦ inl (m, refl, geometry)
    ];
    begins = geometry_begins;
  }

  pub target_lives : Lives (Target digits how)
  target_lives at = let (m, v, h) = geometry_lives at in (m, v, inr h)

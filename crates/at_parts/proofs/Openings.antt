-- The front of a file, and the opening of the frame, as fronts.
-- For `sound_parts` and `first_syntax_fault`.
use Rattle.std.proofs.Common.{◌≡◌, ℕ, List, [], ◌∷◌, ◌++◌, true, Some, map, flat_map, codes, nat_lt, refl, sym, ◌∙◌, ap, subst, arith, append_assoc, append-nil, length-append, ◌+◌, length}
use Rattle.std.proofs.lemmas.Bool.{and_parts, ltb-true}
use Rattle.std.proofs.lemmas.Str.{is_utf8-from_IsUtf8, IsUtf8-from_ascii, chars-IsAscii}
use Rattle.std.proofs.lemmas.Str.Ascii.{IsAscii-nil, IsAscii-cons}
use Rattle.std.specs.Str.{IsAscii}
use Rattle.std.specs.Char.Escape.{encode_utf16}
use Rattle.std.specs.List.{list_all}
use Rattle.at_text.specs.Parts.{Exactly, ◌▸◌}
use Rattle.at_lex.specs.Strings.{Character, plain, is_plain, AreCharacters, units_behind, units_of, stretch_units}
use Rattle.at_nest.specs.Tree.{text, Trees, Members, no_members, member_and, Spells}
use Rattle.at_nest.proofs.TreeParts.{named_parts, after_parts}
use Rattle.at_nest.proofs.OneTree.{padded_on}
use Rattle.at_scan.specs.declared.kinds.Kind.TheVariants.{FeatureCollection}
use Rattle.at_geojson.specs.Names.{kind_of}
use Rattle.at_parts.specs.Collections.{FirstMembers, OpensFeatures, opening}
use Rattle.at_parts.proofs.Fronts.{FeaturesBegin, Opened}
use Rattle.at_parts.proofs.Wholes.{Front, members_of}

-- ---- ASCII

all_ascii : (w : List ℕ) → list_all (λ b. nat_lt b 128) w ≡ true → IsAscii w
all_ascii [] h = IsAscii-nil
all_ascii (b ∷ w) h = let (p, q) = and_parts (nat_lt b 128) (list_all (λ c. nat_lt c 128) w) h in IsAscii-cons b w (ltb-true b 128 p) (all_ascii w q)

plain_string : (w : List ℕ) → list_all is_plain w ≡ true → AreCharacters (map plain w)
plain_string [] h = tt
plain_string (b ∷ w) h = let (p, q) = and_parts (is_plain b) (list_all is_plain w) h in (p, plain_string w q)

plain_units : (s w : List ℕ) → units_behind s (map plain w) ≡ stretch_units (s ++ w)
plain_units s [] = ap stretch_units (sym (append-nil s))
plain_units s (b ∷ w) = plain_units (s ++ b ∷ []) w ∙ ap stretch_units (append_assoc s (b ∷ []) w)

ascii_units : (w : List ℕ) → list_all (λ b. nat_lt b 128) w ≡ true → units_of (map plain w) ≡ flat_map encode_utf16 w
ascii_units w h =
    let ascii = all_ascii w h in
    plain_units [] w ∙ rw (is_utf8-from_IsUtf8 w (IsUtf8-from_ascii w ascii)) (ap (flat_map encode_utf16) (chars-IsAscii w ascii))

-- ---- the opening

abbrev type_member : Members
type_member = member_and (map plain (codes "type")) 1 (text 8 (map plain (codes "FeatureCollection"))) no_members

opening_opens : Opened (map plain (codes "features")) 28 39 type_member 1 (codes "\"type\":\"FeatureCollection\",\"features\":[")
opening_opens =
    let begins : FeaturesBegin (map plain (codes "features")) 28 39 28 (codes "\"features\":[") =
    ([], codes "\"features\"", [], _, refl, tt, tt, (refl, (plain_string (codes "features") refl, refl)), (_, refl, ([], refl, tt, refl))) in
    ([], codes "\"type\"", [], _, refl, tt, tt, (refl, (plain_string (codes "type") refl, refl)), (_, refl, ([], codes "\"FeatureCollection\"", [], _, refl, tt, tt, (refl, (plain_string (codes "FeatureCollection") refl, refl)), (_, refl, begins))))

pub opening_front : Front 0 opening
opening_front = record {
  name = map plain (codes "features");
  name_at = 28;
  array_at = 39;
  members = type_member;
  before = [];
  opened = codes "\"type\":\"FeatureCollection\",\"features\":[";
  last = [];
  split = refl;
  are_before = tt;
  are_last = tt;
  opens = opening_opens;
  named = rw (ascii_units (codes "features") refl);
  no_features = rw (ascii_units (codes "type") refl);
}

pub opening_kind : (more : Members) (ts : Trees) → kind_of (members_of 0 opening opening_front ts more) ≡ Some FeatureCollection
unfolding opening_front
opening_kind more ts = rw (ascii_units (codes "type") refl, ascii_units (codes "FeatureCollection") refl)

-- ---- a file's front

comma_place : (at : ℕ) (f a x b r s c v d q g : List ℕ) → f ≡ a ++ (x ++ (b ++ r)) → r ≡ 0x3A ∷ s → s ≡ c ++ (v ++ (d ++ q)) → q ≡ 0x2C ∷ g → at + length f ≡ at + length a + length x + length b + 1 + length c + length v + length d + 1 + length g
comma_place at f a x b r s c v d q g e1 e2 e3 e4 = omega (arith, length-append {A = ℕ}, ap length e1, ap length e2, ap length e3, ap length e4)

module _ (n : List Character) (i k : ℕ) where
  opened_from : (ms : Members) (at : ℕ) (f g : List ℕ) → FirstMembers ms at f → FeaturesBegin n i k (at + length f) g → Opened n i k ms at (f ++ g)
  opened_from no_members at f g h b = subst (λ o. FeaturesBegin n i k at (o ++ g)) (sym h) (subst (λ o. FeaturesBegin n i k o g) (ap (λ o. at + length o) h ∙ (omega arith)) b)
  opened_from (member_and m j t ms) at f g h begins =
      let (a, x, b, r, ef, ha, hb, hx, (s, er, (c, v, d, q, es, hc, hd, hv, hq))) = named_parts m j (λ o y. Spells o y t) (Exactly (codes ",") ▸ FirstMembers ms) at f h in
      let here : ℕ = at + length a + length x + length b + 1 + length c + length v + length d in
      let (y, eq, hy) = after_parts 0x2C (FirstMembers ms) here q hq in
      let rest = opened_from ms (here + 1) y g hy (subst (λ o. FeaturesBegin n i k o g) (comma_place at f a x b r s c v d q y ef er es eq) begins) in
      (a, x, b, r ++ g, padded_on f a x b r g ef, ha, hb, hx, (s ++ g, ap (λ o. o ++ g) er, (c, v, d, q ++ g, padded_on s c v d q g es, hc, hd, hv, (y ++ g, ap (λ o. o ++ g) eq, rest))))

pub front_is : (ms : Members) (at : ℕ) (w : List ℕ) → OpensFeatures ms at w → Front at w
front_is ms at w (none, (a, w1, e1, ha, (c, w2, e2, hc, (f, w3, e3, hf, (p, w4, e4, (d, q, e5, hd, (v, b, e6, (name, named, hv), hb)), (colon, w5, e7, hcolon, (s, w6, e8, hs, (br, l, e9, hbr, hl)))))))) =
    let begins : FeaturesBegin name (at + length a + length c + length f + length d) (at + length a + length c + length f + length d + length v + length b + 1 + length s) (at + length a + length c + length f) (d ++ (v ++ (b ++ (0x3A ∷ (s ++ (0x5B ∷ [])))))) =
    (d, v, b, 0x3A ∷ (s ++ (0x5B ∷ [])), refl, hd, hb, (refl, hv), (s ++ (0x5B ∷ []), refl, (s, refl, hs, refl))) in
    let one : at + length a + length c ≡ at + length a + 1 = ap (λ o. at + length a + length o) hc in
    record {
      name = name;
      name_at = at + length a + length c + length f + length d;
      array_at = at + length a + length c + length f + length d + length v + length b + 1 + length s;
      members = ms;
      before = a;
      opened = f ++ (d ++ (v ++ (b ++ (0x3A ∷ (s ++ (0x5B ∷ []))))));
      last = l;
      split = e1 ∙ (ap (λ o. a ++ o) (e2 ∙ ap (λ o. o ++ w2) hc) ∙ (ap (λ o. a ++ (0x7B ∷ o)) (e3 ∙ ap (λ o. f ++ o) (e4 ∙ (ap (λ o. o ++ w4) (e5 ∙ ap (λ o. d ++ o) e6) ∙ ap (λ o. (d ++ (v ++ b)) ++ o) (e7 ∙ (ap (λ o. o ++ w5) hcolon ∙ ap (λ o. 0x3A ∷ o) (e8 ∙ ap (λ o. s ++ o) (e9 ∙ ap (λ o. o ++ l) hbr)))))))
          ∙ (simp append_assoc)));
      are_before = ha;
      are_last = hl;
      opens = opened_from name (at + length a + length c + length f + length d) (at + length a + length c + length f + length d + length v + length b + 1 + length s) ms (at + length a + 1) f (d ++ (v ++ (b ++ (0x3A ∷ (s ++ (0x5B ∷ []))))))
          (subst (λ o. FirstMembers ms o f) one hf) (subst (λ o. FeaturesBegin name (at + length a + length c + length f + length d) (at + length a + length c + length f + length d + length v + length b + 1 + length s) (o + length f) (d ++ (v ++ (b ++ (0x3A ∷ (s ++ (0x5B ∷ []))))))) one begins);
      named = named;
      no_features = none;
    }

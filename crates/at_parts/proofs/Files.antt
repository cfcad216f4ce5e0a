-- Where all parts of a file are sound, it has no fault, and its features are theirs.
-- For `sound_parts`, and where a text begins for `first_syntax_fault`.
use Rattle.std.proofs.Common.{◌≡◌, ℕ, inr, List, [], ◌∷◌, ◌++◌, true, Option, Some, None, map, refl, sym, ◌∙◌, ap, subst, arith, append_assoc, append-nil, length-append, length-drop, ◌+◌, ◌<◌, ◌≤◌, length, drop, ⊎_elim}
use Rattle.std.proofs.lemmas.Option.{none-some}
use Rattle.std.proofs.lemmas.List.{drop-append-le}
use Rattle.std.proofs.lemmas.Str.{is_utf8-from_IsUtf8, IsUtf8-from_ascii}
use Rattle.std.proofs.lemmas.Str.Ascii.{IsAscii-nil, IsAscii-cons}
use Rattle.std.specs.Str.{IsAscii}
use Rattle.std.specs.Prelude.{option_map}
use Rattle.at_text.specs.declared.faults.Fault.{Fault}
use Rattle.at_text.specs.Faults.{first_fault}
use Rattle.at_text.specs.Texts.{is_space, base_of, utf8_fault}
use Rattle.at_fixed.specs.declared.rounding.Coords.{Coords}
use Rattle.at_lex.specs.Spans.{AreSpaces}
use Rattle.at_lex.specs.Strings.{Character}
use Rattle.at_wkt.proofs.LineMerges.{base_within}
use Rattle.at_nest.specs.Tree.{Tree, object, Members, no_members, member_and, IsTextOf}
use Rattle.at_nest.specs.Syntax.{IsFileOf}
use Rattle.at_nest.proofs.OneTree.{tail, one_tree}
use Rattle.at_query.specs.declared.features.Feature.{Feature}
use Rattle.at_scan.specs.declared.kinds.Kind.TheVariants.{FeatureCollection}
use Rattle.at_geojson.specs.Names.{kind_of}
use Rattle.at_geojson.specs.Roles.{features_of}
use Rattle.at_run.specs.JsonFiles.{HasJsonFileFault}
use Rattle.at_parts.specs.Moved.{feature_moved, fault_moved}
use Rattle.at_parts.specs.Collections.{FilePart, joined, opening, closing, framed, marker, IsListed, IsSound, AreSound, SoundPartsMakeTheWhole}
use Rattle.at_parts.proofs.Filtered.{unfiltered}
use Rattle.at_parts.proofs.Encodings.{encoding_of_both}
use Rattle.at_parts.proofs.Fronts.{Opened}
use Rattle.at_parts.proofs.Wholes.{Front, members_of, whole_parts}
use Rattle.at_parts.proofs.Openings.{front_is}
use Rattle.at_parts.proofs.Stands.{none_first, whole_file, no_file_fault, items_fine, begun_some}
use Rattle.at_parts.proofs.Joined.{InRow, parts_in_row, all_fine, moved_twice}

-- ---- where the text of a file begins

abbrev pub body_of : List ℕ → List ℕ
body_of bytes = drop (base_of bytes) bytes

-- the front has more bytes than a byte order mark
long_opened : (n : List Character) (i k : ℕ) (ms : Members) (at : ℕ) (w : List ℕ) → Opened n i k ms at w → 2 ≤ length w
long_opened n i k no_members at w (a, v, b, s, e, ha, hb, hv, (r, f, (c, g, hc, ek))) = omega (arith, length-append {A = ℕ}, ap length e, ap length f, ap length g)
long_opened n i k (member_and m j t ms) at w (a, v, b, s, e, ha, hb, hv, (r, f, (c, x, d, q, g, hc, hd, hx, (y, h, _)))) = omega (arith, length-append {A = ℕ}, ap length e, ap length f, ap length g, ap length h)

base_on : (front r : List ℕ) → 3 ≤ length front → base_of (front ++ r) ≡ base_of front
base_on (x ∷ y ∷ z ∷ front) r h = refl
base_on _ r h = absurd (omega (arith, h))

-- the text of a file begins where that of its front does
pub record SameBase (front r : List ℕ) : Type 0 where
  pub base : base_of (front ++ r) ≡ base_of front
  pub body : body_of (front ++ r) ≡ body_of front ++ r
  pub size : base_of front + length (body_of front) ≡ length front

pub same_base : (front r : List ℕ) → Front (base_of front) (body_of front) → SameBase front r
same_base front r f =
    let within = base_within front in
    let size = length-drop (base_of front) front in
    let long : 3 ≤ length front = omega (arith, length-append {A = ℕ}, ap length f.split, long_opened f.name f.name_at f.array_at f.members (base_of front + length f.before + 1) f.opened f.opens, size) in
    let base = base_on front r long in
    record { base = base; body = ap (λ n. drop n (front ++ r)) base ∙ drop-append-le (base_of front) front r within; size = omega (arith, size, within) }

pub file_text : (front r : List ℕ) (t : Tree) → SameBase front r → IsFileOf (front ++ r) t → IsTextOf (base_of front) (body_of front ++ r) t
file_text front r t s h = subst (λ o. IsTextOf o (body_of front ++ r) t) s.base (subst (λ o. IsTextOf (base_of (front ++ r)) o t) s.body h)

pub text_file : (front r : List ℕ) (t : Tree) → SameBase front r → IsTextOf (base_of front) (body_of front ++ r) t → IsFileOf (front ++ r) t
text_file front r t s h = subst (λ o. IsTextOf (base_of (front ++ r)) o t) (sym s.body) (subst (λ o. IsTextOf o (body_of front ++ r) t) (sym s.base) h)

-- ---- the encoding

-- the first byte is one of ASCII
abbrev BeginsAscii : List ℕ → Type 0
BeginsAscii w = (c : ℕ) × (rest : List ℕ) × (w ≡ c ∷ rest) × (c < 0x80)

both_none : (o p : Option Fault) (d : ℕ) → None ≡ first_fault o (option_map (fault_moved d) p) → (o ≡ None) × (p ≡ None)
both_none None None d e = (refl, refl)
both_none None (Some g) d e = absurd (none-some (fault_moved d g) e)
both_none (Some f) p d e = absurd (none_first f (option_map (fault_moved d) p) e)

encoding_split : (a b : List ℕ) → BeginsAscii b → utf8_fault (a ++ b) ≡ None → (utf8_fault a ≡ None) × (utf8_fault b ≡ None)
encoding_split a b h e = both_none (utf8_fault a) (utf8_fault b) (length a) (sym e ∙ encoding_of_both a b (inr h))

encoding_both : (a b : List ℕ) → BeginsAscii b → utf8_fault a ≡ None → utf8_fault b ≡ None → utf8_fault (a ++ b) ≡ None
encoding_both a b h e f = encoding_of_both a b (inr h) ∙ (ap (λ o. first_fault o (option_map (fault_moved (length a)) (utf8_fault b))) e ∙ ap (λ o. option_map (fault_moved (length a)) o) f)

space_small : (b : ℕ) → is_space b ≡ true → b < 128
space_small b h = grind (arith, h)

small_spaces : (s w : List ℕ) → AreSpaces s → IsAscii w → IsAscii (s ++ w)
small_spaces [] w h k = k
small_spaces (b ∷ s) w (h, hs) k = IsAscii-cons b (s ++ w) (space_small b h) (small_spaces s w hs k)

comma_begins : (s x w r : List ℕ) → AreSpaces s → w ≡ s ++ (0x2C ∷ x) → BeginsAscii (w ++ r)
comma_begins [] x w r h e = (0x2C, x ++ r, ap (λ o. o ++ r) e, omega arith)
comma_begins (b ∷ s) x w r (h, hs) e = (b, (s ++ (0x2C ∷ x)) ++ r, ap (λ o. o ++ r) e, space_small b h)

brace_begins : (w r : List ℕ) → w ≡ 0x7B ∷ r → BeginsAscii w
brace_begins w r e = (0x7B, r, e, omega arith)

module _ (digits : ℕ) (how : Coords) where
  -- what the frame says of the encoding of what is within it
  framed_encoded : (w r : List ℕ) → w ≡ 0x7B ∷ r → HasJsonFileFault digits how (framed w) None → utf8_fault w ≡ None
  framed_encoded w r e none =
      let h = (whole_file digits how (framed w) none).0 in
      (encoding_split w closing ((0x5D, 0x7D ∷ [], refl, omega arith)) (encoding_split opening (w ++ closing) (brace_begins (w ++ closing) (r ++ closing) (ap (λ o. o ++ closing) e)) h).1).0

  part_encoded : (w : List ℕ) (own : List Feature) → IsSound digits how w own → utf8_fault w ≡ None
  part_encoded w own s = ⊎_elim (λ h. framed_encoded w s.rest s.begins h.no_fault) listed (unfiltered digits how w own s.told) where
    listed : IsListed digits how w own → utf8_fault w ≡ None
    listed h = (encoding_split w marker ((0x2C, tail marker, refl, omega arith)) (framed_encoded (w ++ marker) (s.rest ++ marker) (ap (λ o. o ++ marker) s.begins) h.no_fault)).0

  row_begins : (ps : List FilePart) (at : ℕ) (fs : List Feature) (end : List ℕ) → AreSound digits how at ps fs → BeginsAscii end → BeginsAscii (joined ps ++ end)
  row_begins [] at fs end h b = b
  row_begins (p ∷ ps) at fs end h b = brace_begins (joined (p ∷ ps) ++ end) ((h.3.rest ++ (p.comma ++ joined ps)) ++ end) (ap (λ o. (o ++ (p.comma ++ joined ps)) ++ end) h.3.begins)

  row_encoded : (ps : List FilePart) (at : ℕ) (fs : List Feature) (end : List ℕ) → AreSound digits how at ps fs → BeginsAscii end → utf8_fault end ≡ None → utf8_fault (joined ps ++ end) ≡ None
  row_encoded [] at fs end h b e = e
  row_encoded (p ∷ ps) at fs end (own, here, rest, sound, (s, x, g, hs, (c, r, i, hc, hr)), moved, sounds, _) b e =
      let comma : p.comma ≡ s ++ (0x2C ∷ r) = g ∙ ap (λ o. s ++ o) (i ∙ ap (λ o. o ++ r) hc) in
      let behind : List ℕ = joined ps ++ end in
      let small : IsAscii p.comma = subst IsAscii (sym comma) (small_spaces s (0x2C ∷ r) hs (IsAscii-cons 0x2C r (omega arith) (subst IsAscii (append-nil r) (small_spaces r [] hr IsAscii-nil)))) in
      let rest_encoded = encoding_both p.comma behind (row_begins ps (at + length p.text + length p.comma) rest end sounds b) (rw (is_utf8-from_IsUtf8 p.comma (IsUtf8-from_ascii p.comma small))) (row_encoded ps (at + length p.text + length p.comma) rest end sounds b e) in
      let text_encoded = part_encoded p.text own sound in
      let bytes : p.text ++ (p.comma ++ behind) ≡ joined (p ∷ ps) ++ end = sym (append_assoc p.text (p.comma ++ joined ps) end ∙ ap (λ o. p.text ++ o) (append_assoc p.comma (joined ps) end)) in
      subst (λ o. utf8_fault o ≡ None) bytes (encoding_both p.text (p.comma ++ behind) (comma_begins s r p.comma behind hs comma) text_encoded rest_encoded)

-- ---- the whole

pub sound_parts : (digits : ℕ) (how : Coords) → SoundPartsMakeTheWhole digits how
sound_parts digits how front parts end first own last (ms, opens) sounds e (alone, p, q) =
    let at : ℕ = base_of front in
    let w : List ℕ = body_of front in
    let f : Front at w = front_is ms at w opens in
    let d : ℕ = length (joined parts) in
    let bytes : List ℕ = front ++ (joined parts ++ end) in
    let s = same_base front end f in
    let (encoded, (t, ht, twins, roles)) = whole_file digits how (front ++ end) e.no_fault in
    let (u, hu, g) = e.has in
    let wh = whole_parts at w f end t (file_text front end t s ht) in
    let feats : own ≡ features_of digits how t = g ∙ ap (λ o. features_of digits how o) (one_tree (base_of (front ++ end)) (body_of (front ++ end)) t u ht hu) in
    let tree : object e.at e.members ≡ t = one_tree (base_of (front ++ end)) (body_of (front ++ end)) t (object e.at e.members) ht e.is_file in
    let named : e.members ≡ members_of at w f wh.items wh.more = cc (tree, wh.is) in
    let kind : kind_of (members_of at w f wh.items wh.more) ≡ Some FeatureCollection = ap kind_of (sym named) ∙ e.is_collection in
    let fine = items_fine digits how at w f wh.items wh.more (at + length f.before) t own wh.is kind twins roles feats in
    let some = begun_some wh.items (at + length w) wh.features wh.behind e.rest wh.spelled (sym e.begins ∙ wh.split) in
    let row : InRow digits how (at + length w) (joined parts) first = subst (λ o. InRow digits how o (joined parts) first) (sym s.size) (parts_in_row digits how parts (length front) first sounds) in
    let all = all_fine digits how at w f (joined parts) end t first own row wh some fine kind twins in
    let last_is : last ≡ map (feature_moved d) own = q ∙ (sym (moved_twice d (length front) alone) ∙ ap (map (feature_moved d)) (sym p)) in
    let whole : IsFileOf bytes all.tree = text_file front (joined parts ++ end) all.tree (same_base front (joined parts ++ end) f) all.spelled in
    let begins = brace_begins end e.rest e.begins in
    let parted = encoding_split front end begins encoded in
    let utf : utf8_fault bytes ≡ None = encoding_both front (joined parts ++ end) (row_begins digits how parts (length front) first end sounds begins) parted.0 (row_encoded digits how parts (length front) first end sounds begins parted.1) in
    (no_file_fault digits how bytes all.tree utf whole all.no_twins all.no_faults, (all.tree, whole, ap (λ o. first ++ o) last_is ∙ all.has))

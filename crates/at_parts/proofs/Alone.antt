-- A part that is asked alone is items: its array of features ends where the frame closes it, and not before.
-- For `sound_parts` and `first_syntax_fault`.
use Rattle.std.proofs.Common.{◌≡◌, ℕ, ◌⊎◌, inl, inr, List, [], ◌∷◌, ◌++◌, IsTrue, Bool, not, ◌==◌, Option, Some, None, IfSome, flat_map, codes, refl, sym, ◌∙◌, ap, subst, append_assoc, append-nil, ◌+◌, length, drop, ⊎_elim}
use Rattle.std.proofs.lemmas.Option.{same_Some}
use Rattle.std.specs.List.{AllByRecursion}
use Rattle.at_text.specs.declared.faults.Fault.{Fault}
use Rattle.at_text.specs.declared.faults.FaultKind.TheVariants.{Form}
use Rattle.at_text.specs.Faults.{tier_of, first_of, fault_at}
use Rattle.at_text.specs.Texts.{is_space, utf8_fault, base_of}
use Rattle.at_fixed.specs.declared.rounding.Coords.{Coords}
use Rattle.at_lex.specs.Spans.{AreSpaces}
use Rattle.at_lex.specs.Strings.{Character, character_text, string_text}
use Rattle.at_nest.specs.Tree.{Tree, object, Trees, no_trees, tree_and, Members, no_members, member_and, Spells, SpellsItems}
use Rattle.at_nest.specs.Twins.{twins_of}
use Rattle.at_nest.specs.Syntax.{JsonText, IsFileOf}
use Rattle.at_wkt.proofs.Leads.{append_cases}
use Rattle.at_nest.proofs.Begun.{unlike}
use Rattle.at_nest.proofs.TreeParts.{items_parts, items_made, further_items_parts, further_members_parts, object_parts}
use Rattle.at_nest.proofs.OneTree.{head, tail, clash, same_items}
use Rattle.at_query.specs.declared.features.Feature.{Feature}
use Rattle.at_geojson.specs.Roles.{root_reading, item_reading, role_faults_of}
use Rattle.at_geojson.specs.Wholes.{faults_of}
use Rattle.at_geojson.proofs.Tiers.{twins_third}
use Rattle.at_run.specs.JsonFiles.{HasJsonFaultBehind, HasJsonFileFault}
use Rattle.at_parts.specs.Collections.{opening, closing, framed, SeemsToLeave, IsAlone}
use Rattle.at_parts.proofs.CommaItems.{AreSome, all_both, within}
use Rattle.at_parts.proofs.LaterFaults.{first_has, syntax_tier}
use Rattle.at_parts.proofs.Encodings.{encoding_fault}
use Rattle.at_parts.proofs.Fronts.{Closing}
use Rattle.at_parts.proofs.Wholes.{members_of, whole_parts}
use Rattle.at_parts.proofs.Meanings.{items_read, empty_parts, root_is}
use Rattle.at_parts.proofs.Openings.{opening_front, opening_kind}
use Rattle.at_parts.proofs.Stands.{not_nil, an_object, Stands, in_frame}

-- ---- a part whose features end within it

-- what is closed by the frame is the text, or ends within it
abbrev EndsWithin : List ℕ → List ℕ → List ℕ → Type 0
EndsWithin w v y = (x : List ℕ) × (w ≡ v ++ (0x5D ∷ x)) × (y ≡ x ++ closing)

cut : (w v y : List ℕ) → w ++ closing ≡ v ++ (0x5D ∷ y) → (w ≡ v) ⊎ EndsWithin w v y
cut w v y e = elim (append_cases w closing v (0x5D ∷ y) e) [
  | inl (same, f) ↦ inl same
  | inr (inl (c, x, f, k)) ↦ absurd (no_second x y (ap tail k))
  | inr (inr (c, x, f, k)) ↦ inr (x, f ∙ ap (λ o. v ++ (o ∷ x)) (sym (ap head k)), ap tail k)
] where
  no_second : (x y : List ℕ) → 0x7D ∷ [] ≡ x ++ (0x5D ∷ y) → ⊥
  no_second [] y k = clash 0x7D 0x5D refl (ap head k)
  no_second (d ∷ x) y k = not_nil x 0x5D y (ap tail k)

abbrev is_plain : ℕ → Bool
is_plain b = not (b == 0x5D)

abbrev NoBracket : List ℕ → Type 0
NoBracket p = AllByRecursion (λ b. IsTrue (is_plain b)) p

spaces_plain : (s : List ℕ) → AreSpaces s → NoBracket s
spaces_plain [] h = tt
spaces_plain (b ∷ s) (h, hs) = (ap not (unlike is_space b 0x5D refl h), spaces_plain s hs)

plain_both : (a b : List ℕ) → NoBracket a → NoBracket b → NoBracket (a ++ b)
plain_both a b h k = all_both (λ b. IsTrue (is_plain b)) a b h k

-- where the object ends at once, no bracket closes behind the features
no_end : {P : Type 0} (s z x : List ℕ) → AreSpaces s → AreSpaces z → s ++ (0x7D ∷ z) ≡ x ++ closing → P
no_end s z x hs hz e =
    let (y, f, g) = within is_plain (s ++ 0x7D ∷ []) z x 0x5D (0x7D ∷ []) (plain_both s (0x7D ∷ []) (spaces_plain s hs) (refl, tt)) refl (append_assoc s (0x7D ∷ []) z ∙ e) in
    let (u, i, j) = within is_plain z [] y 0x5D (0x7D ∷ []) (spaces_plain z hz) refl (append-nil z ∙ g) in
    not_nil u 0x5D (0x7D ∷ []) j

-- a further member begins within the part
abbrev Further : List ℕ → Type 0
Further x = (s a z : List ℕ) × (x ≡ s ++ (0x2C ∷ (a ++ (0x22 ∷ z)))) × AreSpaces s × AreSpaces a

member_within : (more : Members) (at : ℕ) (x y : List ℕ) → Closing more at y → y ≡ x ++ closing → Further x
member_within no_members at x y c e = no_end c.spaces c.end x c.are_spaces c.are_end (sym (c.split ∙ ap (λ o. c.spaces ++ (o ++ (0x7D ∷ c.end))) c.further) ∙ e)
member_within (member_and m j u us) at x y c e =
    let (q, eq, (a, v, b, r, f, ha, hb, (ej, (hm, hv)), _)) = further_members_parts m j u us (at + length c.spaces) c.others c.further in
    opened_by c.spaces c.others c.end q a v (b ++ r) m c.are_spaces ha c.split eq f hv
  where
    opened_by : (s o n q a v r : List ℕ) (cs : List Character) → AreSpaces s → AreSpaces a → y ≡ s ++ (o ++ (0x7D ∷ n)) → o ≡ 0x2C ∷ q → q ≡ a ++ (v ++ r) → v ≡ string_text cs → Further x
    opened_by s o n q a v r cs hs ha e1 e2 e3 e4 =
        let p : List ℕ = s ++ (0x2C ∷ (a ++ (0x22 ∷ []))) in
        let rest : List ℕ = ((flat_map character_text cs ++ 0x22 ∷ []) ++ r) ++ (0x7D ∷ n) in
        let bytes : p ++ rest ≡ x ++ closing = (simp append_assoc) ∙ (sym (e1 ∙ ap (λ c. s ++ (c ++ (0x7D ∷ n))) (e2 ∙ ap (λ c. 0x2C ∷ c) (e3 ∙ ap (λ c. a ++ (c ++ r)) e4))) ∙ e) in
        let (z, g, _) = within is_plain p rest x 0x5D (0x7D ∷ []) (plain_both s (0x2C ∷ (a ++ (0x22 ∷ []))) (spaces_plain s hs) (refl, plain_both a (0x22 ∷ []) (spaces_plain a ha) (refl, tt))) refl bytes in
        (s, a, z, g ∙ (append_assoc s (0x2C ∷ (a ++ (0x22 ∷ []))) z ∙ ap (λ c. s ++ (0x2C ∷ c)) (append_assoc a (0x22 ∷ []) z)), hs, ha)

-- ---- the last item is an object

module _ (digits : ℕ) (how : Coords) where
  abbrev EndsInBrace : List ℕ → Type 0
  EndsInBrace v = (p s : List ℕ) × (v ≡ p ++ (0x7D ∷ s)) × AreSpaces s

  last_brace : (ts : Trees) (at : ℕ) (v : List ℕ) → SpellsItems at v ts → AreSome ts → (items_read digits how ts).faults ≡ [] → EndsInBrace v
  last_brace no_trees at v h some e = absurd some
  last_brace (tree_and t no_trees) at v h some e =
      let (a, x, b, r, f, ha, hb, hx, hr) = items_parts t no_trees at v h in
      let (i, ms, k) = an_object digits how t (empty_parts (item_reading digits how t).faults [] e).0 in
      let (o, (w, g, hw)) = object_parts ms i (at + length a) x (subst (λ c. Spells (at + length a) x c) k hx) in
      (a ++ (0x7B ∷ w), b, f ∙ (ap (λ c. a ++ (c ++ (b ++ r))) g ∙ (ap (λ c. a ++ ((0x7B ∷ (w ++ 0x7D ∷ [])) ++ (b ++ c))) hr ∙ (simp (append_assoc, append-nil)))), hb)
  last_brace (tree_and t (tree_and u us)) at v h some e =
      let (a, x, b, r, f, ha, hb, hx, hr) = items_parts t (tree_and u us) at v h in
      let (q, g, hq) = further_items_parts u us (at + length a + length x + length b) r hr in
      let (p, s, k, hs) = last_brace (tree_and u us) (at + length a + length x + length b + 1) q (items_made u us (at + length a + length x + length b + 1) q hq) tt (empty_parts (item_reading digits how t).faults (items_read digits how (tree_and u us)).faults e).1 in
      (a ++ (x ++ (b ++ (0x2C ∷ p))), s, f ∙ (ap (λ c. a ++ (x ++ (b ++ c))) (g ∙ ap (λ c. 0x2C ∷ c) k) ∙ (simp append_assoc)), hs)

  -- items that end in an object, a bracket and a further member look like the end of the features
  seems : (w v x : List ℕ) → w ≡ v ++ (0x5D ∷ x) → EndsInBrace v → Further x → SeemsToLeave w
  seems w v x e (p, s, f, hs) (b, a, z, g, hb, ha) = (
    p,
    0x7D ∷ (s ++ (0x5D ∷ (b ++ (0x2C ∷ (a ++ (0x22 ∷ [])))))),
    z,
    rw (e, f, g) (simp append_assoc),
    (codes "}", _, refl, refl, (s, _, refl, hs, (codes "]", _, refl, refl, (b, _, refl, hb, (codes ",", _, refl, refl, (a, 0x22 ∷ [], refl, ha, refl)))))),
  )

-- ---- the item 0

module _ (digits : ℕ) (how : Coords) where
  -- a file whose first fault is a Form is a tree's: one of the encoding, or of the syntax, is none
  form_tree : (o : Option Fault) (bytes : List ℕ) (i : ℕ) → utf8_fault bytes ≡ o → HasJsonFaultBehind digits how o bytes (Some (fault_at Form i)) → (t : Tree) × IsFileOf bytes t × (Some (fault_at Form i) ≡ first_of (faults_of digits how t))
  form_tree (Some g) bytes i e h = let (n, k, _) = encoding_fault bytes g e in clash 4 1 refl (ap (λ c. tier_of c.kind) (same_Some (fault_at Form i) g h ∙ k))
  form_tree None bytes i e (faults, inl (f, h, g), first) =
      clash 4 2 refl (ap (λ c. tier_of c.kind) (same_Some (fault_at Form i) f (first ∙ ap first_of g)) ∙ syntax_tier (JsonText (base_of bytes)) (base_of bytes) (drop (base_of bytes) bytes) f h)
  form_tree None bytes i e (faults, inr (t, h, g), first) = (t, h, first ∙ ap first_of g)

  opening_root : (more : Members) (items : Trees) (o : ℕ) (t : Tree) → t ≡ object o (members_of 0 opening opening_front items more) → root_reading digits how t ≡ items_read digits how items
  opening_root more items o t e = ap (λ p. root_reading digits how p) e
      ∙ root_is opening_front.name opening_front.name_at opening_front.array_at opening_front.named digits how o opening_front.members more items opening_front.no_features (opening_kind more items)

  -- where the features end within the part, the item behind it is none of them
  no_form : (w v x : List ℕ) (ts : Trees) (i : ℕ) → w ≡ v ++ (0x5D ∷ x) → SpellsItems (0 + length opening) v ts → (items_read digits how ts).faults ≡ [] → HasJsonFileFault digits how (framed (w ++ codes ",0")) (Some (fault_at Form i)) → ⊥
  no_form w v x ts i e h none fault =
      let (t, ht, first) = form_tree (utf8_fault (framed (w ++ codes ",0"))) (framed (w ++ codes ",0")) i refl fault in
      let wh = whole_parts 0 opening opening_front ((w ++ codes ",0") ++ closing) t ht in
      let bytes : v ++ (0x5D ∷ (x ++ (codes ",0" ++ closing))) ≡ wh.features ++ (0x5D ∷ wh.behind) = (simp append_assoc) ∙ (ap (λ c. (c ++ codes ",0") ++ closing) (sym e) ∙ wh.split) in
      let same = same_items ts wh.items (0 + length opening) (0 + length opening) v (x ++ (codes ",0" ++ closing)) wh.features wh.behind h wh.spelled refl bytes in
      let roles : role_faults_of digits how t ≡ [] = ap (λ c. c.faults) (opening_root wh.more wh.items (0 + length opening_front.before) t wh.is) ∙ (ap (λ c. (items_read digits how c).faults) (sym same.same) ∙ none) in
      let all : faults_of digits how t ≡ twins_of t = ap (λ c. twins_of t ++ c) roles ∙ append-nil (twins_of t) in
      let third = first_has (λ f. tier_of f.kind ≡ 3) (twins_of t) (twins_third t) in
      clash 4 3 refl (subst (λ o. IfSome o (λ f. tier_of f.kind ≡ 3)) (sym (first ∙ ap first_of all)) third)

  -- ---- the part is items

  ends_whole : (w : List ℕ) (own : List Feature) (ts : Trees) (more : Members) (v y : List ℕ) → IsAlone digits how w own → AreSome ts → SpellsItems (0 + length opening) v ts → (items_read digits how ts).faults ≡ []
      → Closing more (0 + length opening + length v + 1) y → (w ≡ v) ⊎ EndsWithin w v y → w ≡ v
  ends_whole w own ts more v y s some h none c (inl e) = e
  ends_whole w own ts more v y s some h none c (inr (x, e, f)) =
      let leaves : SeemsToLeave w = seems digits how w v x e (last_brace digits how ts (0 + length opening) v h some none) (member_within more (0 + length opening + length v + 1) x y c f) in
      absurd (⊎_elim (λ never. never leaves) (no_form w v x ts (length opening + length w + 1) e h none) s.stays)

  pub alone_stands : (w r : List ℕ) (own : List Feature) → w ≡ 0x7B ∷ r → IsAlone digits how w own → Stands digits how (0 + length opening) w own
  alone_stands w r own begins s =
      let fr = in_frame digits how w r own begins s.no_fault s.has in
      let whole : w ≡ fr.whole.features = ends_whole w own fr.whole.items fr.whole.more fr.whole.features fr.whole.behind s fr.some fr.whole.spelled fr.fine.no_faults fr.whole.closes (cut w fr.whole.features fr.whole.behind fr.whole.split) in
      record { items = fr.whole.items; some = fr.some; spelled = subst (λ c. SpellsItems (0 + length opening) c fr.whole.items) (sym whole) fr.whole.spelled; fine = fr.fine }

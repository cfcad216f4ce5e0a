-- Features, or other objects, one behind another in an array, which are joined as they are read. For `items` and `value`.
use Rattle.std.proofs.Common.{◌≡◌, ◌==◌, ◌||◌, ◌&&◌, if◌then◌else◌, nat_lt, true, Some, inl, inr, ℕ, suc, ◌+◌, ◌<◌, ◌≤◌, List, [], ◌∷◌, ◌++◌, length, drop, slice_index, Result, IfOk, refl, sym, ◌∙◌, ap, subst, arith, append_assoc, append-nil, length-append}
use Rattle.std.proofs.lemmas.List.Elements.{All-nil, All-cons, All-append}
use Rattle.std.specs.declared.alloc.Global.{Global}
use Rattle.std.specs.declared.boxed.Box.{Box}
use denote.RawPtr.{null_ptr}
use Rattle.at_text.specs.Parts.{Nothing, ◌▸◌}
use Rattle.at_text.specs.Faults.{fault_at}
use Rattle.at_text.specs.declared.faults.FaultKind.TheVariants.{Form}
use Rattle.at_text.specs.declared.halts.Halt.{Halt}
use Rattle.at_fixed.specs.NumberSoFar.{between}
use Rattle.at_fixed.proofs.DigitParts.{part-none, part-length, part-part, part-cons}
use Rattle.at_lex.specs.Spans.{AreSpaces, opening}
use Rattle.at_lex.specs.declared.tokens.Bracket.{Bracket}
use Rattle.at_nest.specs.declared.algebra.Attempt.{Attempt}
use Rattle.at_nest.specs.declared.algebra.Attempt.TheVariants.{Whole as WholeAttempt, Unsaid as UnsaidAttempt}
use Rattle.at_nest.specs.Tree.{Tree, Spells, Padded, SpellsItems, SpellsFurtherItems}
use Rattle.at_nest.specs.Passing.{IsPadded}
use Rattle.at_nest.proofs.Ahead.{value_brackets}
use Rattle.at_nest.proofs.Passed.{padded_gives}
use Rattle.at_nest.proofs.TreeParts.{padded_parts, padded_made, after_parts, after_made}
use Rattle.at_nest.specs.Folds.{trees, HasBrackets, IsAttempt, IsItemsAttempt}
use Rattle.at_query.specs.declared.features.TextPair.{TextPair}
use Rattle.at_query.specs.Keeping.{Asked}
use Rattle.at_geojson.specs.declared.atoms.atom.GeoAtom.{GeoAtom}
use Rattle.at_geojson.specs.declared.atoms.atom.GeoAtom.TheVariants as atoms
use Rattle.at_geojson.specs.declared.atoms.atom.Items.{Items}
use Rattle.at_geojson.specs.declared.atoms.atom.ObjectAtom.{ObjectAtom}
use Rattle.at_geojson.specs.declared.atoms.atom.Role.TheVariants as roles
use Rattle.at_geojson.specs.declared.coordinates.pairs.Whole.{Whole}
use Rattle.at_geojson.specs.declared.at_once.features.FeatureRead.{FeatureRead}
use Rattle.at_geojson.specs.Atoms.{both_forms, IsOwn, IsFold, IsRun, AreJoined, AreOwnItems, IfOwnShape, IfOwnPart}
use Rattle.at_geojson.specs.Gathering.{is_any_object, item_geometries, item_features, JoinsShapes, JoinsFound, AreJoinable}
use Rattle.at_geojson.specs.Values.{IsWhole}
use Rattle.at_geojson.specs.Features.{IsFeatureRead}
use Rattle.at_geojson.specs.FeatureRuns.{IsNextObject, AreItemsAt, AreFeaturesRead, AreItemsWhole, IsObjectBehind, IsAttemptOf}
use Rattle.at_geojson.proofs.OwnFolds.{joinable}
use Rattle.at_geojson.proofs.ValueParts.{front_split, attempt_of}
use Rattle.at_geojson.proofs.RunFolds.{object_brackets, run_joined, taken_own, joined_covers, joined_both, joined_own}

-- ---- further items behind those of an array

padded_longer : (Part Then Longer : ℕ → List ℕ → Type 0) (n : ℕ) (r e : List ℕ) → (Padded Part ▸ Then) n r → ((m : ℕ) (rest : List ℕ) → m + length rest ≡ n + length r → Then m rest → Longer m (rest ++ e)) → (Padded Part ▸ Longer) n (r ++ e)
padded_longer Part Then Longer n r e h more =
    let (a, v, b, rest, split, sa, sb, part, goes_on) = padded_parts Part Then n r h in
    let all : length r ≡ length a + (length v + (length b + length rest)) = ap (λ z. length z) split ∙ (length-append a (v ++ (b ++ rest)) ∙ ap (λ k. length a + k) (length-append v (b ++ rest) ∙ ap (λ k. length v + k) (length-append b rest))) in
    let size : n + length a + length v + length b + length rest ≡ n + length r = omega (arith, all) in
    padded_made Part Longer n (r ++ e) (a, v, b, rest ++ e, ap (λ z. z ++ e) split ∙ (append_assoc a (v ++ (b ++ rest)) e ∙ ap (λ z. a ++ z) (append_assoc v (b ++ rest) e ∙ ap (λ z. v ++ z) (append_assoc b rest e))), sa, sb, part, more (n + length a + length v + length b) rest size goes_on)

further_longer : (ts us : List Tree) (n : ℕ) (r e : List ℕ) → SpellsFurtherItems n r (trees ts) → SpellsFurtherItems (n + length r) e (trees us) → SpellsFurtherItems n (r ++ e) (trees (ts ++ us))
further_longer [] us n r e h more =
    let none : length r ≡ 0 = ap (λ z. length z) h in
    let here : n + length r ≡ n = omega (arith, none) in
    subst (λ z. SpellsFurtherItems n (z ++ e) (trees us)) (sym h) (subst (λ k. SpellsFurtherItems k e (trees us)) here more)
further_longer (t ∷ ts) us n r e h more = let (rest, split, padded) = after_parts 0x2C (Padded (λ j z. Spells j z t) ▸ (λ j z. SpellsFurtherItems j z (trees ts))) n r h in after_made 0x2C (Padded (λ j z. Spells j z t) ▸ (λ j z. SpellsFurtherItems j z (trees (ts ++ us)))) n (r ++ e) (
  rest ++ e,
  ap (λ z. z ++ e) split,
  padded_longer (λ j z. Spells j z t) (λ j z. SpellsFurtherItems j z (trees ts)) (λ j z. SpellsFurtherItems j z (trees (ts ++ us))) (n + 1) rest e padded
      (λ m behind size goes_on. let whole : length r ≡ suc (length rest) = ap (λ z. length z) split in let there : n + length r ≡ m + length behind = omega (arith, size, whole) in further_longer ts us m behind e goes_on (subst (λ k. SpellsFurtherItems k e (trees us)) there more)),
)

items_longer : (t : Tree) (ts us : List Tree) (n : ℕ) (v e : List ℕ) → SpellsItems n v (trees (t ∷ ts)) → SpellsFurtherItems (n + length v) e (trees us) → SpellsItems n (v ++ e) (trees ((t ∷ ts) ++ us))
items_longer t ts us n v e h more = padded_longer (λ j z. Spells j z t) (λ j z. SpellsFurtherItems j z (trees ts)) (λ j z. SpellsFurtherItems j z (trees (ts ++ us))) n v e h
    (λ m rest size goes_on. further_longer ts us m rest e goes_on (subst (λ k. SpellsFurtherItems k e (trees us)) (sym size) more))

module _ (base : ℕ) (w : List ℕ) where
  alone : (t : Tree) (from to : ℕ) → to ≤ length w → IsPadded (λ j v. Spells j v t) base w from to → (Padded (λ j v. Spells j v t) ▸ Nothing) (base + from) (between w from to)
  alone t from to fits h = subst (λ z. (Padded (λ j v. Spells j v t) ▸ Nothing) (base + from) z) (append-nil (between w from to)) (padded_gives (λ j v. Spells j v t) Nothing base w from to [] fits h refl)

  pub one_there : (t : Tree) (at end : ℕ) → at < end → end ≤ length w → IsPadded (λ j v. Spells j v t) base w at end → HasBrackets t → AreItemsAt base w at end t []
  one_there t at end h fits item b = record { order = h; within = fits; spells = alone t at end fits item; brackets = All-cons HasBrackets t [] b (All-nil HasBrackets) }

  pub more_there : (t : Tree) (ts : List Tree) (at end last : ℕ) (u : Tree) → AreItemsAt base w at end t ts → slice_index w end ≡ 0x2C → end < last → last ≤ length w → IsPadded (λ j v. Spells j v u) base w (end + 1) last → HasBrackets u
      → AreItemsAt base w at last t (ts ++ u ∷ [])
  more_there t ts at end last u h comma order fits item b =
      let v : List ℕ = between w at end in
      let e : List ℕ = between w (end + 1) last in
      let size : at + length v ≡ end = part-length w at end (omega (arith, h.order)) h.within in
      let here : base + (end + 1) ≡ base + at + length v + 1 = omega (arith, size) in
      let bytes : v ++ (0x2C ∷ e) ≡ between w at last = ap (λ z. v ++ z) (ap (λ z. z ∷ e) (sym comma) ∙ sym (part-cons w end last order fits)) ∙ sym (part-part w at end last (omega (arith, h.order)) (omega (arith, order)) fits) in
      record {
        order = omega (arith, h.order, order);
        within = fits;
        spells = subst (λ z. SpellsItems (base + at) z (trees ((t ∷ ts) ++ u ∷ []))) bytes
            (items_longer t ts (u ∷ []) (base + at) v (0x2C ∷ e) h.spells (after_made 0x2C (Padded (λ j z. Spells j z u) ▸ Nothing) (base + at + length v) (0x2C ∷ e) (e, refl, subst (λ n. (Padded (λ j z. Spells j z u) ▸ Nothing) n e) here (alone u (end + 1) last fits item))));
        brackets = All-append HasBrackets (t ∷ ts) (u ∷ []) h.brackets (All-cons HasBrackets u [] b (All-nil HasBrackets));
      }

-- ---- features

earlier : (a b : ℕ) → a < b → nat_lt a b ≡ true
earlier a b h = grind (arith, h)

-- of two places at which an item has no role the first is told
forms_join : (a b : ℕ) → a < b → JoinsShapes (both_forms a) (both_forms b) (both_forms a)
forms_join a b h = (fault_at Form a, refl, ap (λ t. if t || ((a == b) && true) then Some (fault_at Form a) else Some (fault_at Form b)) (sym (earlier a b h)))

module _ (asked : Asked) (base : ℕ) (w : List ℕ) (alloc : Global) where
  -- the atom of a feature
  abbrev pub atom_of : ℕ → FeatureRead → List TextPair → ObjectAtom
  atom_of at p texts = record { at = base + at; roles = record { ptr = null_ptr; alloc = alloc; value = record { role = roles.Feature p.part; texts = texts } } }

  module _ (at : ℕ) (p : FeatureRead) (r : IsFeatureRead asked base w at p) where
    abbrev pub whole : IsWhole asked base w at (record { end = p.end; atom = atoms.Object (atom_of at p r.texts) })
    whole = r.whole (atom_of at p r.texts) refl refl refl

    pub feature_within : p.end ≤ length w
    feature_within = whole.within

    pub feature_order : at < p.end
    feature_order = whole.order

    brackets : HasBrackets whole.tree
    brackets = object_brackets asked (atoms.Object (atom_of at p r.texts)) whole.tree refl whole.fold

    alone_joined : (one : Items) → one.geometries ≡ both_forms (base + at) → one.features ≡ p.part → AreJoined asked one (whole.tree ∷ [])
    alone_joined one eg ef = joined_covers asked (atoms.Object (atom_of at p r.texts)) (whole.tree ∷ []) one refl eg ef (inl (whole.tree, refl, whole.fold))

    pub features_begin : (one : Items) → one.geometries ≡ both_forms (base + at) → one.features ≡ p.part → (end : ℕ) → p.end ≤ end → end ≤ length w → AreSpaces (between w p.end end) → AreFeaturesRead asked base w at end one
    features_begin one eg ef end h fits spaces = record {
      own = (subst (IfOwnShape asked) (sym eg) tt, subst (IfOwnPart asked) (sym ef) r.own);
      geometries = eg;
      first = whole.tree;
      others = [];
      there = one_there base w whole.tree at end (omega (arith, whole.order, h)) fits
          (record { first = at; last = p.end; before = omega arith; order = omega (arith, whole.order); behind = h; spaces = subst AreSpaces (sym (part-none w at (omega (arith, whole.order, whole.within)))) tt; is_part = whole.spells; more_spaces = spaces }) brackets;
      joined = alone_joined one eg ef;
    }

    module _ (start end : ℕ) (old : Items) (before : AreFeaturesRead asked base w start end old) where
      pub can_join : AreJoinable old.features p.part
      can_join = joinable asked old.features p.part before.own.1 r.own

      pub features_go_on : (last : ℕ) (new : Items) → IsNextObject w end at → new.geometries ≡ old.geometries → JoinsFound old.features p.part new.features
          → p.end ≤ last → last ≤ length w → AreSpaces (between w p.end last) → AreFeaturesRead asked base w start last new
      features_go_on last new next same parts h fits spaces =
          let one : Items = record { geometries = both_forms (base + at); features = p.part } in
          let kept = same ∙ before.geometries in
          let shapes : JoinsShapes old.geometries one.geometries new.geometries =
          subst (λ z. JoinsShapes z one.geometries new.geometries) (sym before.geometries) (subst (λ z. JoinsShapes (both_forms (base + start)) one.geometries z) (sym kept) (forms_join (base + start) (base + at) (omega (arith, before.there.order, next.order)))) in
          record {
            own = joined_own asked old one new shapes parts before.own (tt, r.own);
            geometries = kept;
            first = before.first;
            others = before.others ++ whole.tree ∷ [];
            there = more_there base w before.first before.others start end last whole.tree before.there next.comma (omega (arith, next.order, whole.order, h)) fits
                (record { first = at; last = p.end; before = omega (arith, next.order); order = omega (arith, whole.order); behind = h; spaces = next.spaces; is_part = whole.spells; more_spaces = spaces }) brackets;
            joined = joined_both asked (before.first ∷ before.others) (whole.tree ∷ []) old one new shapes parts before.joined (alone_joined one refl refl);
          }

-- ---- other objects

module _ (asked : Asked) (base : ℕ) (w : List ℕ) where
  abbrev pub run_to : ℕ → Box Items Global → Whole
  run_to end run = record { end = end; atom = atoms.Run run }

  pub objects_begin : (p : Whole) (end : ℕ) (run : Box Items Global) → IsWhole asked base w 0 p → is_any_object p.atom ≡ true → run.value.geometries ≡ item_geometries p.atom → run.value.features ≡ item_features p.atom
      → p.end ≤ end → end ≤ length w → AreSpaces (between w p.end end) → AreItemsWhole asked base w 0 (run_to end run)
  objects_begin p end run h n eg ef behind fits spaces = record {
    own = taken_own asked p.atom run.value eg ef h.own;
    first = h.tree;
    others = [];
    there = one_there base w h.tree 0 end (omega (arith, h.order, behind)) fits
        (record { first = 0; last = p.end; before = omega arith; order = omega (arith, h.order); behind = behind; spaces = subst AreSpaces (sym (part-none w 0 (omega arith))) tt; is_part = h.spells; more_spaces = spaces })
        (object_brackets asked p.atom h.tree n h.fold);
    covers = inr (inl (run, refl, joined_covers asked p.atom (h.tree ∷ []) run.value n eg ef (inl (h.tree, refl, h.fold))));
  }

  module _ (end : ℕ) (old : Box Items Global) (p : Whole) (one : Items) (before : AreItemsWhole asked base w 0 (run_to end old)) (next : IsObjectBehind asked base w end p)
      (eg : one.geometries ≡ item_geometries p.atom) (ef : one.features ≡ item_features p.atom) where
    one_own : AreOwnItems asked one
    one_own = taken_own asked p.atom one eg ef next.item.own

    pub objects_can_join : AreJoinable old.value.features one.features
    objects_can_join = joinable asked old.value.features one.features before.own.1 one_own.1

    pub objects_go_on : (new : Box Items Global) → JoinsShapes old.value.geometries one.geometries new.value.geometries → JoinsFound old.value.features one.features new.value.features → AreItemsWhole asked base w 0 (run_to p.end new)
    objects_go_on new j k = record {
      own = joined_own asked old.value one new.value j k before.own one_own;
      first = before.first;
      others = before.others ++ next.item.tree ∷ [];
      there = more_there base w before.first before.others 0 end p.end next.item.tree before.there next.comma next.order next.item.within next.item.spells (object_brackets asked p.atom next.item.tree next.object next.item.fold);
      covers = inr (inl (
        new,
        refl,
        joined_both asked (before.first ∷ before.others) (next.item.tree ∷ []) old.value one new.value j k (run_joined asked old (before.first ∷ before.others) before.covers)
            (joined_covers asked p.atom (next.item.tree ∷ []) one next.object eg ef (inl (next.item.tree, refl, next.item.fold))),
      ));
    }

-- ---- what stands at a text's front

module _ (asked : Asked) (base : ℕ) (w : List ℕ) where
  pub item_alone : (p : Whole) → (b : Bracket) × (more : List ℕ) × (w ≡ opening b ∷ more) → IsWhole asked base w 0 p → AreItemsWhole asked base w 0 p
  item_alone p (b, more, e) h = record {
    own = h.own;
    first = h.tree;
    others = [];
    there = one_there base w h.tree 0 p.end h.order h.within
        (record { first = 0; last = p.end; before = omega arith; order = omega arith; behind = omega arith; spaces = subst AreSpaces (sym (part-none w 0 (omega arith))) tt; is_part = h.spells; more_spaces = subst AreSpaces (sym (part-none w p.end h.within)) tt })
        (value_brackets (base + 0) (between w 0 p.end) (drop p.end w) more b h.tree (sym (front_split w p.end) ∙ e) h.spells);
    covers = inl (h.tree, refl, h.fold);
  }

-- what the algebra answers
items_attempt_of : (asked : Asked) (at : ℕ) (w : List ℕ) (p : Whole) → AreItemsWhole asked at w 0 p → IsItemsAttempt (IsOwn asked) (IsFold asked) (IsRun asked) at w (WholeAttempt p.end p.atom)
items_attempt_of asked at w p h = (
  between w 0 p.end,
  drop p.end w,
  front_split w p.end,
  omega (arith, part-length w 0 p.end (omega arith) h.there.within),
  h.first,
  h.others,
  subst (λ n. SpellsItems n (between w 0 p.end) (trees (h.first ∷ h.others))) (let e : at + 0 ≡ at = omega arith in e) h.there.spells,
  h.there.brackets,
  h.own,
  h.covers,
)

module _ (asked : Asked) (at : ℕ) (w : List ℕ) (found : Result Whole Halt) where
  pub value_told : IfOk found (IsWhole asked at w 0) → (a : Attempt GeoAtom) → IsAttemptOf found a → IsAttempt (IsOwn asked) (IsFold asked) at w a
  value_told h (WholeAttempt len atom) e = attempt_of asked at w (record { end = len; atom = atom }) (subst (λ r. IfOk r (IsWhole asked at w 0)) e h)
  value_told h (UnsaidAttempt looked) e = tt

  pub items_told : IfOk found (AreItemsWhole asked at w 0) → (a : Attempt GeoAtom) → IsAttemptOf found a → IsItemsAttempt (IsOwn asked) (IsFold asked) (IsRun asked) at w a
  items_told h (WholeAttempt len atom) e = items_attempt_of asked at w (record { end = len; atom = atom }) (subst (λ r. IfOk r (AreItemsWhole asked at w 0)) e h)
  items_told h (UnsaidAttempt looked) e = tt

-- The text of a collection, told by its front: what stands behind the front is items, a closing bracket, further members, the end of the object and white space; each such text is one, and there is no other.
-- For `sound_parts` and `first_syntax_fault`.
use Rattle.std.proofs.Common.{◌≡◌, ℕ, List, [], ◌∷◌, ◌++◌, IsTrue, None, codes, refl, sym, ◌∙◌, ap, subst, arith, append_assoc, append-nil, length-append, ◌+◌, length}
use Rattle.at_text.specs.Texts.{is_space}
use Rattle.at_lex.specs.Strings.{Character}
use Rattle.at_lex.specs.Spans.{AreSpaces}
use Rattle.at_nest.specs.Tree.{Tree, object, Trees, Members, Spells, SpellsItems, SpellsMembers, SpellsFurtherMembers, IsTextOf}
use Rattle.at_nest.proofs.TreeParts.{text_parts, text_made, object_parts, object_made}
use Rattle.at_nest.proofs.OneTree.{kind, tail, clash, same_front, starts, no_space_first, inner}
use Rattle.at_geojson.specs.Names.{is_named, member_named}
use Rattle.at_parts.proofs.Fronts.{Opened, Closing, all_members, opened_parts, opened_made, kind_is}
use Rattle.at_parts.proofs.CommaItems.{spaces_before, spaces_off}

-- white space, the bracket of the object, the members before the features and the name of these, and white space
pub record Front (at : ℕ) (w : List ℕ) : Type 0 where
  pub name : List Character
  pub name_at : ℕ
  pub array_at : ℕ
  pub members : Members
  pub before : List ℕ
  pub opened : List ℕ
  pub last : List ℕ
  pub split : w ≡ before ++ (0x7B ∷ (opened ++ last))
  pub are_before : AreSpaces before
  pub are_last : AreSpaces last
  pub opens : Opened name name_at array_at members (at + length before + 1) opened
  pub named : IsTrue (is_named (codes "features") name)
  pub no_features : member_named (codes "features") members ≡ None

-- all members of the object: those of the front, the items under their name, and further ones
abbrev pub members_of : (at : ℕ) (w : List ℕ) → Front at w → Trees → Members → Members
members_of at w f ts more = all_members f.name f.name_at f.array_at f.members ts more

-- what stands behind the front, where both are the text of the tree
pub record Whole (at : ℕ) (w : List ℕ) (f : Front at w) (r : List ℕ) (t : Tree) : Type 0 where
  pub items : Trees
  pub more : Members
  pub features : List ℕ
  pub behind : List ℕ
  pub split : r ≡ features ++ (0x5D ∷ behind)
  pub spelled : SpellsItems (at + length w) features items
  pub closes : Closing more (at + length w + length features + 1) behind
  pub is : t ≡ object (at + length f.before) (members_of at w f items more)

is_object : (u : Tree) (at : ℕ) (v y r : List ℕ) → Spells at v u → 0x7B ∷ r ≡ v ++ y → (ms : Members) × (w : List ℕ) × (u ≡ object at ms) × (v ≡ 0x7B ∷ (w ++ 0x7D ∷ [])) × SpellsMembers (at + 1) w ms × (r ≡ w ++ (0x7D ∷ y))
is_object (object i ms) at v y r h e = let (f, (w, g, k)) = object_parts ms i at v h in (ms, w, ap (λ o. object o ms) f, g, k, ap tail (e ∙ inner 0x7D v w y 0x7B g))
is_object u at v y r h e = clash 3 (kind u) refl (kind_is u at 0x7B v y r h e)

module _ (at : ℕ) (w : List ℕ) (f : Front at w) where
  front_on : (r : List ℕ) → w ++ r ≡ f.before ++ (0x7B ∷ (f.opened ++ (f.last ++ r)))
  front_on r = rw f.split (simp append_assoc)

  front_size : at + length f.before + 1 + length f.opened + length f.last ≡ at + length w
  front_size = omega (arith, length-append {A = ℕ}, ap length f.split)

  pub whole_parts : (r : List ℕ) (t : Tree) → IsTextOf at (w ++ r) t → Whole at w f r t
  whole_parts r t h =
      let (c, v, d, q, e, hc, hd, hv, hq) = text_parts t at (w ++ r) h in
      let st = starts t (at + length c) v hv in
      let s = same_front is_space f.before c (0x7B ∷ (f.opened ++ (f.last ++ r))) (v ++ (d ++ q)) f.are_before hc (sym (front_on r) ∙ e) refl (no_space_first v st.byte st.others _ st.split st.space) in
      let (us, x, et, ev, hx, rest) = is_object t (at + length c) v (d ++ q) (f.opened ++ (f.last ++ r)) hv s.1 in
      let hx2 : SpellsMembers (at + length f.before + 1) x us = subst (λ o. SpellsMembers (at + length o + 1) x us) (sym s.0) hx in
      let ends : d ≡ d ++ q = sym (ap (λ o. d ++ o) hq ∙ append-nil d) in
      let (items, more, h, is) = opened_parts f.name f.name_at f.array_at f.members (at + length f.before + 1) f.opened (f.last ++ r) f.opens us x (d ++ q) (subst AreSpaces ends hd) hx2 rest in
      let (z, g, k, behind) = spaces_off f.last f.are_last (at + length f.before + 1 + length f.opened) r h.features h.behind items h.spelled h.split in
      let place : at + length f.before + 1 + length f.opened + length h.features + 1 ≡ at + length w + length z + 1 = omega (arith, ap length g, length-append f.last z, front_size) in
      record {
        items = items;
        more = more;
        features = z;
        behind = h.behind;
        split = behind;
        spelled = subst (λ o. SpellsItems o z items) front_size k;
        closes = subst (λ o. Closing more o h.behind) place h.closes;
        is = cc (et, s.0, is);
      }

  pub whole_made : (r : List ℕ) (items : Trees) (more : Members) (features behind : List ℕ) → r ≡ features ++ (0x5D ∷ behind) → SpellsItems (at + length w) features items → Closing more (at + length w + length features + 1) behind
      → IsTextOf at (w ++ r) (object (at + length f.before) (members_of at w f items more))
  whole_made r items more features behind e h c =
      let here : ℕ = at + length f.before + 1 + length f.opened in
      let front : here + length f.last ≡ at + length w = front_size in
      let inside : List ℕ = f.last ++ features in
      let place : at + length w + length features + 1 + length c.spaces ≡ here + length (f.last ++ features) + 1 + length c.spaces = omega (arith, length-append f.last features, front) in
      let body : List ℕ = f.opened ++ (inside ++ (0x5D ∷ (c.spaces ++ c.others))) in
      let members = opened_made f.name f.name_at f.array_at items more inside c.spaces c.others f.members (at + length f.before + 1) f.opened f.opens
      (spaces_before f.last f.are_last here features items (subst (λ o. SpellsItems o features items) (sym front) h)) c.are_spaces (subst (λ o. SpellsFurtherMembers o c.others more) place c.further) in
      let bytes : w ++ r ≡ f.before ++ ((0x7B ∷ (body ++ 0x7D ∷ [])) ++ (c.end ++ [])) = front_on r ∙ ap (λ o. f.before ++ (0x7B ∷ (f.opened ++ (f.last ++ o)))) (e ∙ ap (λ o. features ++ (0x5D ∷ o)) c.split) ∙ (simp (append_assoc, append-nil)) in
      let spelled = object_made (members_of at w f items more) (at + length f.before) (at + length f.before) (0x7B ∷ (body ++ 0x7D ∷ [])) (refl, (body, refl, members)) in
      text_made (object (at + length f.before) (members_of at w f items more)) at (w ++ r) (f.before, 0x7B ∷ (body ++ 0x7D ∷ []), c.end, [], bytes, f.are_before, c.are_end, spelled, refl)

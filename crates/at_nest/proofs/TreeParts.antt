-- The words of the grammar, told by what stands behind what: each is both taken apart and put together. Where white
-- space, a part, white space and a rest stand, they are four stretches, and so on.
-- For the proofs over what is spelled, here and in the crates above.
use Rattle.std.proofs.Common.{◌≡◌, ℕ, ◌↔◌, List, [], ◌∷◌, ◌++◌, refl, sym, ◌∙◌, ap, subst, arith, append_assoc, append-nil, length-append, ◌+◌, length, codes}
use Rattle.at_text.specs.Parts.{Nothing, Exactly, ◌▸◌, At}
use Rattle.at_lex.specs.Strings.{Character, SpellsString}
use Rattle.at_lex.specs.Spans.{AreSpaces}
use Rattle.at_nest.specs.Tree.{Tree, array, object, Trees, tree_and, Members, member_and, Padded, WithName, Spells, SpellsItems, SpellsFurtherItems, SpellsMembers, SpellsFurtherMembers, IsTextOf}

-- ---- the shapes

-- white space, a part, white space, and then the rest
abbrev pub PaddedParts : (ℕ → List ℕ → Type 0) → (ℕ → List ℕ → Type 0) → ℕ → List ℕ → Type 0
PaddedParts Part Then at w = (a v b r : List ℕ) × (w ≡ a ++ (v ++ (b ++ r))) × AreSpaces a × AreSpaces b × Part (at + length a) v × Then (at + length a + length v + length b) r

-- the byte, and then the rest
abbrev pub AfterParts : ℕ → (ℕ → List ℕ → Type 0) → ℕ → List ℕ → Type 0
AfterParts byte Then at w = (r : List ℕ) × (w ≡ byte ∷ r) × Then (at + 1) r

-- a part between two bytes
abbrev pub BetweenParts : ℕ → ℕ → (ℕ → List ℕ → Type 0) → ℕ → List ℕ → Type 0
BetweenParts opener closer Part at w = (v : List ℕ) × (w ≡ opener ∷ (v ++ closer ∷ [])) × Part (at + 1) v

-- ---- each word is its shape

module _ (Part Then : ℕ → List ℕ → Type 0) (at : ℕ) (w : List ℕ) where
  pub padded_parts : (Padded Part ▸ Then) at w → PaddedParts Part Then at w
  padded_parts (p, r, e, (a, q, f, ha, (v, b, g, hv, hb)), hr) =
      let size : length p ≡ length a + (length v + length b) = ap length f ∙ (length-append a q ∙ ap (λ k. length a + k) (ap length g ∙ length-append v b)) in
      let there : at + length p ≡ at + length a + length v + length b = omega (arith, size) in
      (a, v, b, r, e ∙ (ap (λ z. z ++ r) (f ∙ ap (λ z. a ++ z) g) ∙ (append_assoc a (v ++ b) r ∙ ap (λ z. a ++ z) (append_assoc v b r))), ha, hb, hv, subst (λ k. Then k r) there hr)

  pub padded_made : PaddedParts Part Then at w → (Padded Part ▸ Then) at w
  padded_made (a, v, b, r, e, ha, hb, hv, hr) =
      let size : length (a ++ (v ++ b)) ≡ length a + (length v + length b) = length-append a (v ++ b) ∙ ap (λ k. length a + k) (length-append v b) in
      let there : at + length a + length v + length b ≡ at + length (a ++ (v ++ b)) = omega (arith, size) in
      (a ++ (v ++ b), r, e ∙ sym (append_assoc a (v ++ b) r ∙ ap (λ z. a ++ z) (append_assoc v b r)), (a, v ++ b, refl, ha, (v, b, refl, hv, hb)), subst (λ k. Then k r) there hr)

  pub padded_is : (Padded Part ▸ Then) at w ↔ PaddedParts Part Then at w
  padded_is = (padded_parts, padded_made)

module _ (byte : ℕ) (Then : ℕ → List ℕ → Type 0) (at : ℕ) (w : List ℕ) where
  pub after_parts : (Exactly (byte ∷ []) ▸ Then) at w → AfterParts byte Then at w
  after_parts (c, r, e, f, hr) = (r, e ∙ ap (λ z. z ++ r) f, subst (λ z. Then (at + length z) r) f hr)

  pub after_made : AfterParts byte Then at w → (Exactly (byte ∷ []) ▸ Then) at w
  after_made (r, e, hr) = (byte ∷ [], r, e, refl, hr)

  pub after_is : (Exactly (byte ∷ []) ▸ Then) at w ↔ AfterParts byte Then at w
  after_is = (after_parts, after_made)

module _ (opener closer : ℕ) (Part : ℕ → List ℕ → Type 0) (at : ℕ) (w : List ℕ) where
  pub between_parts : (Exactly (opener ∷ []) ▸ Part ▸ Exactly (closer ∷ [])) at w → BetweenParts opener closer Part at w
  between_parts h = let (r, e, (v, c, f, hv, g)) = after_parts opener (Part ▸ Exactly (closer ∷ [])) at w h in
      (v, e ∙ ap (λ z. opener ∷ z) (f ∙ ap (λ z. v ++ z) g), hv)

  pub between_made : BetweenParts opener closer Part at w → (Exactly (opener ∷ []) ▸ Part ▸ Exactly (closer ∷ [])) at w
  between_made (v, e, hv) = after_made opener (Part ▸ Exactly (closer ∷ [])) at w (v ++ closer ∷ [], e, (v, closer ∷ [], refl, hv, refl))

  pub between_is : (Exactly (opener ∷ []) ▸ Part ▸ Exactly (closer ∷ [])) at w ↔ BetweenParts opener closer Part at w
  between_is = (between_parts, between_made)

-- a name, a colon and a value, and then the rest
abbrev pub NamedParts : List Character → ℕ → (ℕ → List ℕ → Type 0) → (ℕ → List ℕ → Type 0) → ℕ → List ℕ → Type 0
NamedParts name i Value Then at w = PaddedParts (At i (SpellsString name)) (AfterParts 0x3A (PaddedParts Value Then)) at w

module _ (name : List Character) (i : ℕ) (Value Then : ℕ → List ℕ → Type 0) (at : ℕ) (w : List ℕ) where
  -- the rest belongs to the value as well
  pub named_behind : (WithName name i Value ▸ Then) at w → (Padded (At i (SpellsString name)) ▸ Exactly (codes ":") ▸ (Padded Value ▸ Then)) at w
  named_behind (p, r, e, (n, q, f, hn, (c, v, g, colon, hv)), hr) =
      let size : length p ≡ length n + (length c + length v) = ap length f ∙ (length-append n q ∙ ap (λ k. length n + k) (ap length g ∙ length-append c v)) in
      let there : at + length p ≡ at + length n + length c + length v = omega (arith, size) in
      let value : (Exactly (codes ":") ▸ (Padded Value ▸ Then)) (at + length n) (c ++ (v ++ r)) = (c, v ++ r, refl, colon, (v, r, refl, hv, subst (λ k. Then k r) there hr)) in
      let bytes : w ≡ n ++ (c ++ (v ++ r)) = e ∙ (ap (λ z. z ++ r) (f ∙ ap (λ z. n ++ z) g) ∙ (append_assoc n (c ++ v) r ∙ ap (λ z. n ++ z) (append_assoc c v r))) in
      (n, c ++ (v ++ r), bytes, hn, value)

  pub named_parts : (WithName name i Value ▸ Then) at w → NamedParts name i Value Then at w
  named_parts h =
      let (a, x, b, s, d, ha, hb, hx, hs) = padded_parts (At i (SpellsString name)) (Exactly (codes ":") ▸ (Padded Value ▸ Then)) at w (named_behind h) in
      let (y, k, h) = after_parts 0x3A (Padded Value ▸ Then) (at + length a + length x + length b) s hs in
      (a, x, b, s, d, ha, hb, hx, (y, k, padded_parts Value Then (at + length a + length x + length b + 1) y h))

  pub named_made : NamedParts name i Value Then at w → (WithName name i Value ▸ Then) at w
  named_made (a, x, b, s, d, ha, hb, hx, (y, k, h)) =
      let after = after_made 0x3A (Padded Value ▸ Then) (at + length a + length x + length b) s (y, k, padded_made Value Then (at + length a + length x + length b + 1) y h) in
      let (n, m, e, hn, (c, u, f, colon, (v, r, g, hv, hr))) = padded_made (At i (SpellsString name)) (Exactly (codes ":") ▸ (Padded Value ▸ Then)) at w (a, x, b, s, d, ha, hb, hx, after) in
      let size : length (n ++ (c ++ v)) ≡ length n + (length c + length v) = length-append n (c ++ v) ∙ ap (λ z. length n + z) (length-append c v) in
      let there : at + length n + length c + length v ≡ at + length (n ++ (c ++ v)) = omega (arith, size) in
      let bytes : w ≡ (n ++ (c ++ v)) ++ r = e ∙ (ap (λ z. n ++ z) (f ∙ ap (λ z. c ++ z) g) ∙ sym (append_assoc n (c ++ v) r ∙ ap (λ z. n ++ z) (append_assoc c v r))) in
      (n ++ (c ++ v), r, bytes, (n, c ++ v, refl, hn, (c, v, refl, colon, hv)), subst (λ z. Then z r) there hr)

  pub named_is : (WithName name i Value ▸ Then) at w ↔ NamedParts name i Value Then at w
  named_is = (named_parts, named_made)

-- ---- arrays and objects

abbrev pub ItemParts : Tree → Trees → ℕ → List ℕ → Type 0
ItemParts t ts = PaddedParts (λ j v. Spells j v t) (λ j r. SpellsFurtherItems j r ts)

abbrev pub MemberParts : List Character → ℕ → Tree → Members → ℕ → List ℕ → Type 0
MemberParts name i t ms = NamedParts name i (λ j v. Spells j v t) (λ j r. SpellsFurtherMembers j r ms)

module _ (t : Tree) (ts : Trees) (at : ℕ) (w : List ℕ) where
  pub items_parts : SpellsItems at w (tree_and t ts) → ItemParts t ts at w
  items_parts = padded_parts (λ j v. Spells j v t) (λ j r. SpellsFurtherItems j r ts) at w

  pub items_made : ItemParts t ts at w → SpellsItems at w (tree_and t ts)
  items_made = padded_made (λ j v. Spells j v t) (λ j r. SpellsFurtherItems j r ts) at w

  pub further_items_parts : SpellsFurtherItems at w (tree_and t ts) → AfterParts 0x2C (ItemParts t ts) at w
  further_items_parts h =
      let (r, e, k) = after_parts 0x2C (Padded (λ j v. Spells j v t) ▸ (λ j r. SpellsFurtherItems j r ts)) at w h in (r, e, padded_parts (λ j v. Spells j v t) (λ j r. SpellsFurtherItems j r ts) (at + 1) r k)

  pub further_items_made : AfterParts 0x2C (ItemParts t ts) at w → SpellsFurtherItems at w (tree_and t ts)
  further_items_made (r, e, k) = after_made 0x2C (Padded (λ j v. Spells j v t) ▸ (λ j r. SpellsFurtherItems j r ts)) at w (r, e, padded_made (λ j v. Spells j v t) (λ j r. SpellsFurtherItems j r ts) (at + 1) r k)

module _ (name : List Character) (i : ℕ) (t : Tree) (ms : Members) (at : ℕ) (w : List ℕ) where
  pub members_parts : SpellsMembers at w (member_and name i t ms) → MemberParts name i t ms at w
  members_parts = named_parts name i (λ j v. Spells j v t) (λ j r. SpellsFurtherMembers j r ms) at w

  pub members_made : MemberParts name i t ms at w → SpellsMembers at w (member_and name i t ms)
  members_made = named_made name i (λ j v. Spells j v t) (λ j r. SpellsFurtherMembers j r ms) at w

  pub further_members_parts : SpellsFurtherMembers at w (member_and name i t ms) → AfterParts 0x2C (MemberParts name i t ms) at w
  further_members_parts h = let (r, e, k) = after_parts 0x2C (WithName name i (λ j v. Spells j v t) ▸ (λ j r. SpellsFurtherMembers j r ms)) at w h in
      (r, e, named_parts name i (λ j v. Spells j v t) (λ j r. SpellsFurtherMembers j r ms) (at + 1) r k)

  pub further_members_made : AfterParts 0x2C (MemberParts name i t ms) at w → SpellsFurtherMembers at w (member_and name i t ms)
  further_members_made (r, e, k) = after_made 0x2C (WithName name i (λ j v. Spells j v t) ▸ (λ j r. SpellsFurtherMembers j r ms)) at w
      (r, e, named_made name i (λ j v. Spells j v t) (λ j r. SpellsFurtherMembers j r ms) (at + 1) r k)

module _ (ts : Trees) (i at : ℕ) (w : List ℕ) where
  pub array_parts : Spells at w (array i ts) → (i ≡ at) × BetweenParts 0x5B 0x5D (λ j v. SpellsItems j v ts) at w
  array_parts (f, h) = (f, between_parts 0x5B 0x5D (λ j v. SpellsItems j v ts) at w h)

  pub array_made : (i ≡ at) × BetweenParts 0x5B 0x5D (λ j v. SpellsItems j v ts) at w → Spells at w (array i ts)
  array_made (f, h) = (f, between_made 0x5B 0x5D (λ j v. SpellsItems j v ts) at w h)

module _ (ms : Members) (i at : ℕ) (w : List ℕ) where
  pub object_parts : Spells at w (object i ms) → (i ≡ at) × BetweenParts 0x7B 0x7D (λ j v. SpellsMembers j v ms) at w
  object_parts (f, h) = (f, between_parts 0x7B 0x7D (λ j v. SpellsMembers j v ms) at w h)

  pub object_made : (i ≡ at) × BetweenParts 0x7B 0x7D (λ j v. SpellsMembers j v ms) at w → Spells at w (object i ms)
  object_made (f, h) = (f, between_made 0x7B 0x7D (λ j v. SpellsMembers j v ms) at w h)

-- ---- whole texts

module _ (t : Tree) (at : ℕ) (w : List ℕ) where
  pub text_parts : IsTextOf at w t → PaddedParts (λ j v. Spells j v t) Nothing at w
  text_parts (a, x, e, ha, (v, b, f, hv, hb)) = (a, v, b, [], e ∙ ap (λ z. a ++ z) (f ∙ ap (λ z. v ++ z) (sym (append-nil b))), ha, hb, hv, refl)

  pub text_made : PaddedParts (λ j v. Spells j v t) Nothing at w → IsTextOf at w t
  text_made (a, v, b, r, e, ha, hb, hv, hr) = (a, v ++ b, e ∙ ap (λ z. a ++ (v ++ z)) (ap (λ z. b ++ z) hr ∙ append-nil b), ha, (v, b, refl, hv, hb))

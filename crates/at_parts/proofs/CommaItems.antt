-- Items that stand in a row, each with a comma behind it, and the items that follow them.
-- For `sound_parts` and `first_syntax_fault`.
use Rattle.std.proofs.Common.{◌≡◌, ℕ, List, [], ◌∷◌, ◌++◌, IsTrue, Bool, false, refl, sym, ◌∙◌, ap, subst, arith, append_assoc, append-nil, length-append, ◌+◌, length, true≢false}
use Rattle.std.specs.Bool.{⊤}
use Rattle.std.specs.List.{AllByRecursion}
use Rattle.at_text.specs.Texts.{is_space}
use Rattle.at_lex.specs.Spans.{AreSpaces}
use Rattle.at_nest.specs.Tree.{Trees, no_trees, tree_and, Spells, SpellsItems, SpellsFurtherItems}
use Rattle.at_nest.proofs.TreeParts.{PaddedParts, AfterParts, items_parts, items_made, further_items_parts, further_items_made}
use Rattle.at_nest.proofs.OneTree.{head, tail, clash, same_front, starts, not_closed, same_padded, no_space_first, ends_byte, more_ends, padded_on, behind, same_value}

abbrev pub appended : Trees → Trees → Trees
appended no_trees us = us
appended (tree_and t ts) us = tree_and t (appended ts us)

-- at least one
abbrev pub AreSome : Trees → Type 0
AreSome no_trees = ⊥
AreSome (tree_and t ts) = ⊤

-- each item with a comma behind it, and white space at the end
abbrev pub Lined : Trees → ℕ → List ℕ → Type 0
Lined no_trees at w = AreSpaces w
Lined (tree_and t ts) at w = PaddedParts (λ o v. Spells o v t) (AfterParts 0x2C (λ o r. Lined ts o r)) at w

pub some_appended : (ts us : Trees) → AreSome us → AreSome (appended ts us)
some_appended no_trees us h = h
some_appended (tree_and t ts) us h = tt

-- ---- bytes that pass a test

pub all_both : {X : Type 0} (P : X → Type 0) (a b : List X) → AllByRecursion P a → AllByRecursion P b → AllByRecursion P (a ++ b)
all_both P [] b h k = k
all_both P (c ∷ a) b (h, hs) k = (h, all_both P a b hs k)

pub spaces_both : (a b : List ℕ) → AreSpaces a → AreSpaces b → AreSpaces (a ++ b)
spaces_both a b h k = all_both (λ c. IsTrue (is_space c)) a b h k

pub spaces_behind : (a b : List ℕ) → AreSpaces (a ++ b) → AreSpaces b
spaces_behind [] b h = h
spaces_behind (c ∷ a) b (h, hs) = spaces_behind a b hs

-- bytes that pass before one that doesn't
pub within : (P : ℕ → Bool) (p r x : List ℕ) (c : ℕ) (y : List ℕ) → AllByRecursion (λ b. IsTrue (P b)) p → P c ≡ false → p ++ r ≡ x ++ (c ∷ y) → (z : List ℕ) × (x ≡ p ++ z) × (r ≡ z ++ (c ∷ y))
within P [] r x c y h f e = (x, refl, e)
within P (b ∷ p) r [] c y (h, hs) f e = absurd (true≢false (sym h ∙ (ap P (ap head e) ∙ f)))
within P (b ∷ p) r (d ∷ x) c y (h, hs) f e = let (z, i, j) = within P p r x c y hs f (ap tail e) in (z, ap (λ o. o ∷ x) (sym (ap head e)) ∙ ap (λ o. b ∷ o) i, j)

-- ---- white space before items

pub spaces_before : (s : List ℕ) → AreSpaces s → (at : ℕ) (v : List ℕ) (us : Trees) → SpellsItems (at + length s) v us → SpellsItems at (s ++ v) us
spaces_before s hs at v no_trees h = spaces_both s v hs h
spaces_before s hs at v (tree_and u us) h =
    let (a, x, d, r, f, ha, hd, hx, hr) = items_parts u us (at + length s) v h in
    let place : at + length s + length a ≡ at + length (s ++ a) = omega (arith, length-append s a) in
    let bytes : s ++ v ≡ (s ++ a) ++ (x ++ (d ++ r)) = ap (λ o. s ++ o) f ∙ sym (append_assoc s a (x ++ (d ++ r))) in
    items_made u us at (s ++ v) (s ++ a, x, d, r, bytes, spaces_both s a hs ha, hd, subst (λ o. Spells o x u) place hx, subst (λ o. SpellsFurtherItems (o + length x + length d) r us) place hr)

pub spaces_off : (s : List ℕ) → AreSpaces s → (at : ℕ) (r x y : List ℕ) (us : Trees) → SpellsItems at x us → s ++ r ≡ x ++ (0x5D ∷ y) → (v : List ℕ) × (x ≡ s ++ v) × SpellsItems (at + length s) v us × (r ≡ v ++ (0x5D ∷ y))
spaces_off s hs at r x y no_trees h e = let (v, f, g) = within is_space s r x 0x5D y hs refl e in (v, f, spaces_behind s v (subst AreSpaces f h), g)
spaces_off s hs at r x y (tree_and u us) h e =
    let (a, w, d, q, f, ha, hd, hw, hq) = items_parts u us at x h in
    let st = starts u (at + length a) w hw in
    let others : List ℕ = d ++ (q ++ (0x5D ∷ y)) in
    let (b, g, i) = within is_space s r a st.byte (st.others ++ others) hs st.space (e ∙ (padded_on x a w d q (0x5D ∷ y) f ∙ ap (λ o. a ++ (o ++ others)) st.split)) in
    let v : List ℕ = b ++ (w ++ (d ++ q)) in
    let place : at + length a ≡ at + length s + length b = omega (arith, ap length g, length-append s b) in (
      v,
      f ∙ (ap (λ o. o ++ (w ++ (d ++ q))) g ∙ append_assoc s b (w ++ (d ++ q))),
      items_made u us (at + length s) v (b, w, d, q, refl, spaces_behind s b (subst AreSpaces g ha), hd, subst (λ o. Spells o w u) place hw, subst (λ o. SpellsFurtherItems (o + length w + length d) q us) place hq),
      i ∙ (ap (λ o. b ++ (o ++ others)) (sym st.split) ∙ sym (padded_on v b w d q (0x5D ∷ y) refl)),
    )

-- ---- items behind others

-- further items where a comma stands
pub further_items_begun : (us : Trees) (at : ℕ) (w r y : List ℕ) → SpellsFurtherItems at w us → 0x2C ∷ r ≡ w ++ (0x5D ∷ y) → (x : List ℕ) × (w ≡ 0x2C ∷ x) × SpellsItems (at + 1) x us × AreSome us × (r ≡ x ++ (0x5D ∷ y))
further_items_begun no_trees at w r y h e = clash 0x2C 0x5D refl (ap head (e ∙ ap (λ o. o ++ (0x5D ∷ y)) h))
further_items_begun (tree_and u us) at w r y h e = let (x, f, k) = further_items_parts u us at w h in (x, f, items_made u us (at + 1) x k, tt, ap tail (e ∙ ap (λ o. o ++ (0x5D ∷ y)) f))

pub further_items_from : (us : Trees) (at : ℕ) (x : List ℕ) → AreSome us → SpellsItems (at + 1) x us → SpellsFurtherItems at (0x2C ∷ x) us
further_items_from no_trees at x h k = absurd h
further_items_from (tree_and u us) at x h k = further_items_made u us at (0x2C ∷ x) (x, refl, items_parts u us (at + 1) x k)

pub item_size : (at : ℕ) (w a x b r g : List ℕ) → w ≡ a ++ (x ++ (b ++ r)) → r ≡ 0x2C ∷ g → at + length a + length x + length b + 1 + length g ≡ at + length w
item_size at w a x b r g e h = omega (arith, length-append {A = ℕ}, ap length e, ap length h)

-- what goes on behind the items
pub record GoesOn (ts : Trees) (at : ℕ) (r : List ℕ) (us : Trees) (y : List ℕ) : Type 0 where
  pub behind_them : Trees
  pub bytes : List ℕ
  pub split : r ≡ bytes ++ (0x5D ∷ y)
  pub spelled : SpellsItems at bytes behind_them
  pub is : us ≡ appended ts behind_them

pub lined_parts : (ts : Trees) (at : ℕ) (w r : List ℕ) → Lined ts at w → (us : Trees) (x y : List ℕ) → SpellsItems at x us → w ++ r ≡ x ++ (0x5D ∷ y) → GoesOn ts (at + length w) r us y
lined_parts no_trees at w r h us x y k e = let (v, f, g, i) = spaces_off w h at r x y us k e in record { behind_them = us; bytes = v; split = i; spelled = g; is = refl }
lined_parts (tree_and t ts) at w r (a, x, b, q, f, ha, hb, hx, _) no_trees z y k e =
    let st = starts t (at + length a) x hx in
    let s = same_front is_space z a (0x5D ∷ y) (x ++ (b ++ (q ++ r))) k ha (sym e ∙ padded_on w a x b q r f) refl (no_space_first x st.byte st.others _ st.split st.space) in
    not_closed t x (b ++ (q ++ r)) [] y st tt s.1
lined_parts (tree_and t ts) at w r (a, x, b, q, f, ha, hb, hx, (g, eg, hg)) (tree_and u us) z y k e =
    let (c, v, d, p, i, hc, hd, hv, hp) = items_parts u us at z k in
    let st = starts t (at + length a) x hx in let su = starts u (at + length c) v hv in
    let s = same_padded t u a x b (q ++ r) c v d (p ++ (0x5D ∷ y)) ha hb hc hd (no_space_first x st.byte st.others _ st.split st.space) (no_space_first v su.byte su.others _ su.split su.space)
    (ends_byte _ 0x2C (g ++ r) (ap (λ o. o ++ r) eg) refl refl) (more_ends us (at + length c + length v + length d) p y hp) (sym (padded_on w a x b q r f) ∙ (e ∙ padded_on z c v d p (0x5D ∷ y) i))
    (λ l m n j. same_value t u (at + length a) (at + length c) x (b ++ (q ++ r)) v (d ++ (p ++ (0x5D ∷ y))) hx hv (behind at at a c refl l) m n j) in
    let place : at + length a + length x + length b ≡ at + length c + length v + length d = behind _ _ b d (behind _ _ x v (behind at at a c refl s.left) s.part) s.right in
    let (n, en, hn, _, rest) = further_items_begun us (at + length c + length v + length d) p (g ++ r) y hp (sym (ap (λ o. o ++ r) eg) ∙ s.rest) in
    let h = lined_parts ts (at + length a + length x + length b + 1) g r hg us n y (subst (λ o. SpellsItems (o + 1) n us) (sym place) hn) rest in
    record { behind_them = h.behind_them; bytes = h.bytes; split = h.split; spelled = subst (λ o. SpellsItems o h.bytes h.behind_them) (item_size at w a x b q g f eg) h.spelled; is = cc (s.same, h.is) }

pub lined_made : (ts : Trees) (at : ℕ) (w v : List ℕ) (us : Trees) → Lined ts at w → AreSome us → SpellsItems (at + length w) v us → SpellsItems at (w ++ v) (appended ts us)
lined_made no_trees at w v us h some k = spaces_before w h at v us k
lined_made (tree_and t ts) at w v us (a, x, b, q, f, ha, hb, hx, (g, eg, hg)) some k =
    let rest = lined_made ts (at + length a + length x + length b + 1) g v us hg some (subst (λ o. SpellsItems o v us) (sym (item_size at w a x b q g f eg)) k) in
    let further = further_items_from (appended ts us) (at + length a + length x + length b) (g ++ v) (some_appended ts us some) rest in
    items_made t (appended ts us) at (w ++ v) (a, x, b, q ++ v, padded_on w a x b q v f, ha, hb, hx, subst (λ o. SpellsFurtherItems (at + length a + length x + length b) o (appended ts us)) (sym (ap (λ o. o ++ v) eg)) further)

-- ---- more of them

pub lined_spaced : (s : List ℕ) → AreSpaces s → (at : ℕ) (w : List ℕ) (ts : Trees) → Lined ts (at + length s) w → Lined ts at (s ++ w)
lined_spaced s hs at w no_trees h = spaces_both s w hs h
lined_spaced s hs at w (tree_and t ts) (a, x, d, r, f, ha, hd, hx, (g, eg, hg)) =
    let place : at + length s + length a ≡ at + length (s ++ a) = omega (arith, length-append s a) in
    let bytes : s ++ w ≡ (s ++ a) ++ (x ++ (d ++ r)) = ap (λ o. s ++ o) f ∙ sym (append_assoc s a (x ++ (d ++ r))) in
    (s ++ a, x, d, r, bytes, spaces_both s a hs ha, hd, subst (λ o. Spells o x t) place hx, (g, eg, subst (λ o. Lined ts (o + length x + length d + 1) g) place hg))

-- items, white space, a comma, and those of a row
pub lined_more : (ts : Trees) (at : ℕ) (v s w : List ℕ) (us : Trees) → SpellsItems at v ts → AreSome ts → AreSpaces s → Lined us (at + length v + length s + 1) w → Lined (appended ts us) at (v ++ (s ++ (0x2C ∷ w)))
lined_more no_trees at v s w us h some hs k = absurd some
lined_more (tree_and t no_trees) at v s w us h some hs k =
    let (a, x, b, r, f, ha, hb, hx, hr) = items_parts t no_trees at v h in
    let bytes : v ++ (s ++ (0x2C ∷ w)) ≡ a ++ (x ++ ((b ++ s) ++ (0x2C ∷ w))) = ap (λ o. o ++ (s ++ (0x2C ∷ w))) (f ∙ ap (λ o. a ++ (x ++ (b ++ o))) hr) ∙ (simp (append_assoc, append-nil)) in
    let place : at + length v + length s + 1 ≡ at + length a + length x + length (b ++ s) + 1 = omega (arith, length-append {A = ℕ}, ap length f, ap length hr) in
    (a, x, b ++ s, 0x2C ∷ w, bytes, ha, spaces_both b s hb hs, hx, (w, refl, subst (λ o. Lined us o w) place k))
lined_more (tree_and t (tree_and u ts)) at v s w us h some hs k =
    let (a, x, b, r, f, ha, hb, hx, hr) = items_parts t (tree_and u ts) at v h in
    let (g, eg, hg) = further_items_parts u ts (at + length a + length x + length b) r hr in
    let here : ℕ = at + length a + length x + length b + 1 in
    let place : here + length g + length s + 1 ≡ at + length v + length s + 1 = ap (λ o. o + length s + 1) (item_size at v a x b r g f eg) in
    let rest = lined_more (tree_and u ts) here g s w us (items_made u ts here g hg) tt hs (subst (λ o. Lined us o w) (sym place) k) in
    (a, x, b, r ++ (s ++ (0x2C ∷ w)), padded_on v a x b r (s ++ (0x2C ∷ w)) f, ha, hb, hx, (g ++ (s ++ (0x2C ∷ w)), ap (λ o. o ++ (s ++ (0x2C ∷ w))) eg, rest))

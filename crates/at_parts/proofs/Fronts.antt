-- What stands before the features of a collection: whatever makes a text of it is items, a closing bracket, further members and the end of the object, and whatever is that makes a text of it.
-- For `sound_parts` and `first_syntax_fault`.
use Rattle.std.proofs.Common.{◌≡◌, ℕ, List, [], ◌∷◌, ◌++◌, refl, sym, ◌∙◌, ap, subst, arith, append_assoc, length-append, ◌+◌, length}
use Rattle.at_text.specs.Parts.{At}
use Rattle.at_text.specs.Texts.{is_space}
use Rattle.at_lex.specs.Strings.{Character, SpellsString}
use Rattle.at_lex.specs.Spans.{AreSpaces}
use Rattle.at_nest.specs.Tree.{Tree, array, Trees, Members, no_members, member_and, Spells, SpellsItems, SpellsMembers, SpellsFurtherMembers}
use Rattle.at_nest.proofs.TreeParts.{PaddedParts, AfterParts, NamedParts, members_parts, members_made, further_members_parts, further_members_made, array_parts, array_made}
use Rattle.at_nest.proofs.OneTree.{head, tail, clash, same_front, look, kind, starts, Ends, same_padded, no_space_first, ends_byte, more_members_end, name_same, padded_on, inner, behind, next_offset, same_value}

-- members, and others behind them
abbrev pub chained : Members → Members → Members
chained no_members more = more
chained (member_and name i t ms) more = member_and name i t (chained ms more)

-- ---- one member

-- the bytes of a name, a colon and a value, with the white space round them
abbrev pub named_bytes : List ℕ → List ℕ → List ℕ → List ℕ → List ℕ → List ℕ → List ℕ
named_bytes a x b c v d = a ++ (x ++ (b ++ (0x3A ∷ (c ++ (v ++ d)))))

named_on : (a x b c v d q : List ℕ) → a ++ (x ++ (b ++ (0x3A ∷ (c ++ (v ++ (d ++ q)))))) ≡ named_bytes a x b c v d ++ q
named_on a x b c v d q = simp append_assoc

named_split : (w a x b r s c v d q : List ℕ) → w ≡ a ++ (x ++ (b ++ r)) → r ≡ 0x3A ∷ s → s ≡ c ++ (v ++ (d ++ q)) → w ≡ named_bytes a x b c v d ++ q
named_split w a x b r s c v d q e f g = e ∙ (ap (λ n. a ++ (x ++ (b ++ n))) (f ∙ ap (λ n. 0x3A ∷ n) g) ∙ named_on a x b c v d q)

named_size : (at : ℕ) (a x b c v d : List ℕ) → at + length a + length x + length b + 1 + length c + length v + length d ≡ at + length (named_bytes a x b c v d)
named_size at a x b c v d = simp length-append (omega arith)

pub record SameNamed (m l : List Character) (j k : ℕ) (t u : Tree) (P Q : ℕ → List ℕ → Type 0) (at : ℕ) (v y w z : List ℕ) : Type 0 where
  pub front : List ℕ
  pub one : List ℕ
  pub other : List ℕ
  pub one_is : v ≡ front ++ one
  pub other_is : w ≡ front ++ other
  pub one_has : P (at + length front) one
  pub other_has : Q (at + length front) other
  pub rest : one ++ y ≡ other ++ z
  pub same_name : m ≡ l
  pub same_place : j ≡ k
  pub same_tree : t ≡ u

-- two members that begin the same bytes are the same, where what stands behind each ends a value
pub named_same : (m l : List Character) (j k : ℕ) (t u : Tree) (P Q : ℕ → List ℕ → Type 0) (at : ℕ) (v y w z : List ℕ) → ((o : ℕ) (r : List ℕ) → P o r → Ends (r ++ y)) → ((o : ℕ) (r : List ℕ) → Q o r → Ends (r ++ z))
    → NamedParts m j (λ o x. Spells o x t) P at v → NamedParts l k (λ o x. Spells o x u) Q at w → v ++ y ≡ w ++ z → SameNamed m l j k t u P Q at v y w z
named_same m l j k t u P Q at v y w z p_ends q_ends (a, x, b, r, f, ha, hb, (ej, (hm, hx)), (r1, er, (c, v1, d, r2, f2, hc, hd, hv, hr))) (a3, x3, b3, r3, f3, ha3, hb3, (ek, (hl, hx3)), (r4, er4, (c4, v4, d4, r5, f5, hc4, hd4, hv4, hr5))) e =
    let colon1 : r ++ y ≡ 0x3A ∷ (r1 ++ y) = ap (λ n. n ++ y) er in
    let colon4 : r3 ++ z ≡ 0x3A ∷ (r4 ++ z) = ap (λ n. n ++ z) er4 in
    let p = same_padded m l a x b (r ++ y) a3 x3 b3 (r3 ++ z) ha hb ha3 hb3 (no_space_first x 0x22 _ _ hx refl) (no_space_first x3 0x22 _ _ hx3 refl)
    (ends_byte _ 0x3A _ colon1 refl refl) (ends_byte _ 0x3A _ colon4 refl refl) (sym (padded_on v a x b r y f) ∙ (e ∙ padded_on w a3 x3 b3 r3 z f3))
    (λ n1 n2 n3 n4. name_same m l x x3 (b ++ (r ++ y)) (b3 ++ (r3 ++ z)) hm hl hx hx3 n4) in
    let i1 : ℕ = at + length a + length x + length b + 1 in let i4 : ℕ = at + length a3 + length x3 + length b3 + 1 in
    let io : i1 ≡ i4 = next_offset _ _ (behind _ _ b b3 (behind _ _ x x3 (behind at at a a3 refl p.left) p.part) p.right) in
    let inside : r1 ++ y ≡ r4 ++ z = ap tail (sym colon1 ∙ (p.rest ∙ colon4)) in
    let st = starts t (i1 + length c) v1 hv in let su = starts u (i4 + length c4) v4 hv4 in
    let q = same_padded t u c v1 d (r2 ++ y) c4 v4 d4 (r5 ++ z) hc hd hc4 hd4 (no_space_first v1 st.byte st.others _ st.split st.space) (no_space_first v4 su.byte su.others _ su.split su.space)
    (p_ends (i1 + length c + length v1 + length d) r2 hr) (q_ends (i4 + length c4 + length v4 + length d4) r5 hr5) (sym (padded_on r1 c v1 d r2 y f2) ∙ (inside ∙ padded_on r4 c4 v4 d4 r5 z f5))
    (λ n1 n2 n3 n4. same_value t u (i1 + length c) (i4 + length c4) v1 (d ++ (r2 ++ y)) v4 (d4 ++ (r5 ++ z)) hv hv4 (behind i1 i4 c c4 io n1) n2 n3 n4) in
    let bytes : named_bytes a3 x3 b3 c4 v4 d4 ≡ named_bytes a x b c v1 d = cc (p.left, p.part, p.right, q.left, q.part, q.right) in
    record {
      front = named_bytes a x b c v1 d;
      one = r2;
      other = r5;
      one_is = named_split v a x b r r1 c v1 d r2 f er f2;
      other_is = named_split w a3 x3 b3 r3 r4 c4 v4 d4 r5 f3 er4 f5 ∙ ap (λ n. n ++ r5) bytes;
      one_has = subst (λ o. P o r2) (named_size at a x b c v1 d) hr;
      other_has = subst (λ o. Q o r5) (named_size at a3 x3 b3 c4 v4 d4 ∙ ap (λ n. at + length n) bytes) hr5;
      rest = q.rest;
      same_name = p.same;
      same_place = ej ∙ (ap (λ n. at + length n) p.left ∙ sym ek);
      same_tree = q.same;
    }

-- ---- a value that begins with a bracket

pub kind_is : (u : Tree) (at b : ℕ) (v y r : List ℕ) → Spells at v u → b ∷ r ≡ v ++ y → look b ≡ kind u
kind_is u at b v y r h e = let st = starts u at v h in ap look (ap head (e ∙ ap (λ o. o ++ y) st.split)) ∙ st.looks

pub is_array : (u : Tree) (at : ℕ) (v y r : List ℕ) → Spells at v u → 0x5B ∷ r ≡ v ++ y → (ts : Trees) × (w : List ℕ) × (u ≡ array at ts) × (v ≡ 0x5B ∷ (w ++ 0x5D ∷ [])) × SpellsItems (at + 1) w ts × (r ≡ w ++ (0x5D ∷ y))
is_array (array i ts) at v y r h e = let (f, (w, g, k)) = array_parts ts i at v h in (ts, w, ap (λ o. array o ts) f, g, k, ap tail (e ∙ inner 0x5D v w y 0x5B g))
is_array u at v y r h e = clash 2 (kind u) refl (kind_is u at 0x5B v y r h e)

-- further members where a comma stands
pub further_begun : (us : Members) (at : ℕ) (w r z : List ℕ) → SpellsFurtherMembers at w us → 0x2C ∷ r ≡ w ++ (0x7D ∷ z) → (x : List ℕ) × (w ≡ 0x2C ∷ x) × SpellsMembers (at + 1) x us × (r ≡ x ++ (0x7D ∷ z))
further_begun no_members at w r z h e = clash 0x2C 0x7D refl (ap head (e ∙ ap (λ o. o ++ (0x7D ∷ z)) h))
further_begun (member_and m j u us) at w r z h e = let (x, f, k) = further_members_parts m j u us at w h in (x, f, members_made m j u us (at + 1) x k, ap tail (e ∙ ap (λ o. o ++ (0x7D ∷ z)) f))

-- a member of its pieces, before further ones
member_from : (m : List Character) (j : ℕ) (t : Tree) (ms : Members) (at : ℕ) (w a x b r s c v d q : List ℕ) → w ≡ a ++ (x ++ (b ++ r)) → r ≡ 0x3A ∷ s → s ≡ c ++ (v ++ (d ++ q)) → AreSpaces a → AreSpaces b → At j (SpellsString m) (at + length a) x → AreSpaces c → AreSpaces d
    → Spells (at + length a + length x + length b + 1 + length c) v t → SpellsFurtherMembers (at + length a + length x + length b + 1 + length c + length v + length d) q ms → SpellsMembers at w (member_and m j t ms)
member_from m j t ms at w a x b r s c v d q e f g ha hb hx hc hd hv hq = members_made m j t ms at w (a, x, b, r, e, ha, hb, hx, (s, f, (c, v, d, q, g, hc, hd, hv, hq)))

-- ---- the members before the features

-- what stands behind the array of the features
pub record Closing (more : Members) (at : ℕ) (w : List ℕ) : Type 0 where
  pub spaces : List ℕ
  pub others : List ℕ
  pub end : List ℕ
  pub split : w ≡ spaces ++ (others ++ (0x7D ∷ end))
  pub are_spaces : AreSpaces spaces
  pub are_end : AreSpaces end
  pub further : SpellsFurtherMembers (at + length spaces) others more

-- other further members of the same bytes, elsewhere
pub closing_with : (more others : Members) (from to : ℕ) (w : List ℕ) (c : Closing more from w) → SpellsFurtherMembers (to + length c.spaces) c.others others → Closing others to w
closing_with more others from to w c h = record { spaces = c.spaces; others = c.others; end = c.end; split = c.split; are_spaces = c.are_spaces; are_end = c.are_end; further = h }

-- items, the bracket that closes their array, and what stands behind it
pub record Inside (items : Trees) (more : Members) (at : ℕ) (r : List ℕ) : Type 0 where
  pub features : List ℕ
  pub behind : List ℕ
  pub split : r ≡ features ++ (0x5D ∷ behind)
  pub spelled : SpellsItems at features items
  pub closes : Closing more (at + length features + 1) behind

module _ (n : List Character) (i k : ℕ) where
  -- the name of the features, whose opening quote stands at i, a colon, and a bracket at k
  abbrev pub FeaturesBegin : ℕ → List ℕ → Type 0
  FeaturesBegin at w = PaddedParts (At i (SpellsString n)) (AfterParts 0x3A (λ j r. (c : List ℕ) × (r ≡ c ++ (0x5B ∷ [])) × AreSpaces c × (k ≡ j + length c))) at w

  abbrev pub Opened : Members → ℕ → List ℕ → Type 0
  Opened no_members at w = FeaturesBegin at w
  Opened (member_and m j t ms) at w = NamedParts m j (λ o v. Spells o v t) (AfterParts 0x2C (λ o r. Opened ms o r)) at w

  -- the members of the whole object
  abbrev pub all_members : Members → Trees → Members → Members
  all_members ms ts more = chained ms (member_and n i (array k ts) more)

  -- the members of the whole object are those of the front, and the bytes r are the rest of it, behind the opened array
  abbrev pub IsInside : Members → ℕ → List ℕ → Members → Type 0
  IsInside ms at r us = (items : Trees) × (more : Members) × Inside items more at r × (us ≡ all_members ms items more)

  begin_size : (at : ℕ) (f a v b s s1 c : List ℕ) → f ≡ a ++ (v ++ (b ++ s)) → s ≡ 0x3A ∷ s1 → s1 ≡ c ++ (0x5B ∷ []) → at + length a + length v + length b + 1 + length c + 1 ≡ at + length f
  begin_size at f a v b s s1 c e g h = omega (arith, length-append {A = ℕ}, ap length e, ap length g, ap length h)

  no_member_first : {P : Type 0} (m : List Character) (f r a v b s x z : List ℕ) → f ≡ a ++ (v ++ (b ++ s)) → AreSpaces a → SpellsString m 0 v → AreSpaces x → f ++ r ≡ x ++ (0x7D ∷ z) → P
  no_member_first m f r a v b s x z ef ha (hm, hv) h e =
      let p = same_front is_space x a (0x7D ∷ z) (v ++ (b ++ (s ++ r))) h ha (sym e ∙ padded_on f a v b s r ef) refl (no_space_first v 0x22 _ _ hv refl) in
      clash 0x7D 0x22 refl (ap head (p.1 ∙ ap (λ o. o ++ (b ++ (s ++ r))) hv))

  features_parts : (at : ℕ) (f r : List ℕ) → FeaturesBegin at f → (us : Members) (x z : List ℕ) → AreSpaces z → SpellsMembers at x us → f ++ r ≡ x ++ (0x7D ∷ z) → IsInside no_members (at + length f) r us
  features_parts at f r (a, v, b, s, ef, ha, hb, (ei, hv), _) no_members x z hz h e = no_member_first n f r a v b s x z ef ha hv h e
  features_parts at f r (a, v, b, s, ef, ha, hb, (ei, (hm, hv)), (s1, es, (c, ec, hc, ek))) (member_and m j u us) x z hz h e =
      let (a3, x3, b3, r3, f3, ha3, hb3, (ej, (hl, hx3)), (r4, er4, (c4, v4, d4, r5, f5, hc4, hd4, hv4, hr5))) = members_parts m j u us at x h in
      let colon1 : s ++ r ≡ 0x3A ∷ (s1 ++ r) = ap (λ o. o ++ r) es in
      let colon4 : r3 ++ (0x7D ∷ z) ≡ 0x3A ∷ (r4 ++ (0x7D ∷ z)) = ap (λ o. o ++ (0x7D ∷ z)) er4 in
      let p = same_padded n m a v b (s ++ r) a3 x3 b3 (r3 ++ (0x7D ∷ z)) ha hb ha3 hb3 (no_space_first v 0x22 _ _ hv refl) (no_space_first x3 0x22 _ _ hx3 refl)
      (ends_byte _ 0x3A _ colon1 refl refl) (ends_byte _ 0x3A _ colon4 refl refl) (sym (padded_on f a v b s r ef) ∙ (e ∙ padded_on x a3 x3 b3 r3 (0x7D ∷ z) f3))
      (λ n1 n2 n3 n4. name_same n m v x3 (b ++ (s ++ r)) (b3 ++ (r3 ++ (0x7D ∷ z))) hm hl hv hx3 n4) in
      let inside : s1 ++ r ≡ r4 ++ (0x7D ∷ z) = ap tail (sym colon1 ∙ (p.rest ∙ colon4)) in
      let i4 : ℕ = at + length a3 + length x3 + length b3 + 1 in
      let st = starts u (i4 + length c4) v4 hv4 in
      let opens : c ++ (0x5B ∷ r) ≡ s1 ++ r = sym (ap (λ o. o ++ r) ec ∙ append_assoc c (0x5B ∷ []) r) in
      let q = same_front is_space c c4 (0x5B ∷ r) (v4 ++ (d4 ++ (r5 ++ (0x7D ∷ z)))) hc hc4 (opens ∙ (inside ∙ padded_on r4 c4 v4 d4 r5 (0x7D ∷ z) f5)) refl (no_space_first v4 st.byte st.others _ st.split st.space) in
      let (ts, w, eu, ev, hts, er) = is_array u (i4 + length c4) v4 (d4 ++ (r5 ++ (0x7D ∷ z))) r hv4 q.1 in
      let place : at + length a + length v + length b + 1 + length c ≡ i4 + length c4 = behind _ _ c c4 (next_offset _ _ (behind _ _ b b3 (behind _ _ v x3 (behind at at a a3 refl p.left) p.part) p.right)) q.0 in
      let there : i4 + length c4 + 1 ≡ at + length f = ap (λ o. o + 1) (sym place) ∙ begin_size at f a v b s s1 c ef es ec in
      let size : length v4 ≡ 1 + (length w + 1) = ap length ev ∙ (simp length-append (omega arith)) in
      let next : i4 + length c4 + length v4 + length d4 ≡ at + length f + length w + 1 + length d4 = omega (arith, size, there) in
      let closes : Closing us (at + length f + length w + 1) (d4 ++ (r5 ++ (0x7D ∷ z))) = record { spaces = d4; others = r5; end = z; split = refl; are_spaces = hd4; are_end = hz; further = subst (λ o. SpellsFurtherMembers o r5 us) next hr5 } in
      (ts, us, record { features = w; behind = d4 ++ (r5 ++ (0x7D ∷ z)); split = er; spelled = subst (λ o. SpellsItems o w ts) there hts; closes = closes }, cc (p.same, p.left, eu, ei, ej, ek, place))

  comma_size : (at : ℕ) (f front one g : List ℕ) → f ≡ front ++ one → one ≡ 0x2C ∷ g → at + length front + 1 + length g ≡ at + length f
  comma_size at f front one g e h = omega (arith, length-append {A = ℕ}, ap length e, ap length h)

  -- the members in front are those of the front
  pub opened_parts : (ms : Members) (at : ℕ) (f r : List ℕ) → Opened ms at f → (us : Members) (x z : List ℕ) → AreSpaces z → SpellsMembers at x us → f ++ r ≡ x ++ (0x7D ∷ z) → IsInside ms (at + length f) r us
  opened_parts no_members at f r h us x z hz hx e = features_parts at f r h us x z hz hx e
  opened_parts (member_and m j t ms) at f r (a, v, b, s, ef, ha, hb, (ei, hv), _) no_members x z hz hx e = no_member_first m f r a v b s x z ef ha hv hx e
  opened_parts (member_and m j t ms) at f r h (member_and l o u us) x z hz hx e =
      let s = named_same m l j o t u (AfterParts 0x2C (λ c q. Opened ms c q)) (λ c q. SpellsFurtherMembers c q us) at f r x (0x7D ∷ z)
      (λ c q g. ends_byte _ 0x2C (g.0 ++ r) (ap (λ p. p ++ r) g.1) refl refl) (λ c q g. more_members_end us c q z g) h (members_parts l o u us at x hx) e in
      let (g, eg, hg) = s.one_has in
      let (y, ey, hy, rest) = further_begun us (at + length s.front) s.other (g ++ r) z s.other_has (sym (ap (λ p. p ++ r) eg) ∙ s.rest) in
      let (ts, more, inside, is) = opened_parts ms (at + length s.front + 1) g r hg us y z hz hy rest in
      (ts, more, subst (λ c. Inside ts more c r) (comma_size at f s.front s.one g s.one_is eg) inside, cc (s.same_name, s.same_place, s.same_tree, is))

  -- ---- the other way

  module _ (ts : Trees) (more : Members) (w b q : List ℕ) where
    features_made : (at : ℕ) (f : List ℕ) → FeaturesBegin at f → SpellsItems (at + length f) w ts → AreSpaces b → SpellsFurtherMembers (at + length f + length w + 1 + length b) q more → SpellsMembers at (f ++ (w ++ (0x5D ∷ (b ++ q)))) (all_members no_members ts more)
    features_made at f (a, v, d, s, ef, ha, hd, (ei, hv), (s1, es, (c, ec, hc, ek))) hts hb hq =
        let there : at + length f ≡ at + length a + length v + length d + 1 + length c + 1 = sym (begin_size at f a v d s s1 c ef es ec) in
        let next : at + length f + length w + 1 + length b ≡ at + length a + length v + length d + 1 + length c + length (0x5B ∷ (w ++ 0x5D ∷ [])) + length b = omega (arith, length-append w (0x5D ∷ []), there) in
        let t : List ℕ = w ++ (0x5D ∷ (b ++ q)) in
        let value : s1 ++ t ≡ c ++ ((0x5B ∷ (w ++ 0x5D ∷ [])) ++ (b ++ q)) = ap (λ o. o ++ t) ec ∙ (simp append_assoc) in
        let spelled = array_made ts k (at + length a + length v + length d + 1 + length c) (0x5B ∷ (w ++ 0x5D ∷ [])) (ek, (w, refl, subst (λ o. SpellsItems o w ts) there hts)) in
        member_from n i (array k ts) more at (f ++ t) a v d (s ++ t) (s1 ++ t) c (0x5B ∷ (w ++ 0x5D ∷ [])) b q (padded_on f a v d s t ef) (ap (λ o. o ++ t) es) value ha hd (ei, hv) hc hb spelled (subst (λ o. SpellsFurtherMembers o q more) next hq)

    -- members make further ones behind a comma
    further_from : (us : Members) (m : List Character) (j : ℕ) (u : Tree) (at : ℕ) (x : List ℕ) → SpellsMembers (at + 1) x (member_and m j u us) → SpellsFurtherMembers at (0x2C ∷ x) (member_and m j u us)
    further_from us m j u at x h = further_members_made m j u us at (0x2C ∷ x) (x, refl, members_parts m j u us (at + 1) x h)

    further_chained : (ms : Members) (at : ℕ) (x : List ℕ) → SpellsMembers (at + 1) x (all_members ms ts more) → SpellsFurtherMembers at (0x2C ∷ x) (all_members ms ts more)
    further_chained no_members at x h = further_from more n i (array k ts) at x h
    further_chained (member_and m j u us) at x h = further_from (all_members us ts more) m j u at x h

    pub opened_made : (ms : Members) (at : ℕ) (f : List ℕ) → Opened ms at f → SpellsItems (at + length f) w ts → AreSpaces b → SpellsFurtherMembers (at + length f + length w + 1 + length b) q more → SpellsMembers at (f ++ (w ++ (0x5D ∷ (b ++ q)))) (all_members ms ts more)
    opened_made no_members at f h hts hb hq = features_made at f h hts hb hq
    opened_made (member_and m j t ms) at f (a, x, d, s, ef, ha, hd, hx, (s1, es, (c, v, e, r, ev, hc, he, hv, (g, eg, hg)))) hts hb hq =
        let tail_of : List ℕ = w ++ (0x5D ∷ (b ++ q)) in
        let here : ℕ = at + length a + length x + length d + 1 + length c + length v + length e in
        let there : at + length f ≡ here + 1 + length g = sym (comma_size at f (named_bytes a x d c v e) r g (named_split f a x d s s1 c v e r ef es ev) eg) ∙ ap (λ o. o + 1 + length g) (sym (named_size at a x d c v e)) in
        let rest = opened_made ms (here + 1) g hg (subst (λ o. SpellsItems o w ts) there hts) hb (subst (λ o. SpellsFurtherMembers (o + length w + 1 + length b) q more) there hq) in
        let further = subst (λ o. SpellsFurtherMembers here o (all_members ms ts more)) (sym (ap (λ o. o ++ tail_of) eg)) (further_chained ms here (g ++ tail_of) rest) in
        member_from m j t (all_members ms ts more) at (f ++ tail_of) a x d (s ++ tail_of) (s1 ++ tail_of) c v e (r ++ tail_of) (padded_on f a x d s tail_of ef) (ap (λ o. o ++ tail_of) es) (padded_on s1 c v e r tail_of ev) ha hd hx hc he hv further

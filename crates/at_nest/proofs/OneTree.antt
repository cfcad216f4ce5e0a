-- A text spells at most one tree: white space and runs go on as long as they can, and the byte behind them tells what stands there.
-- For `finish`, `finish_span`, `merge` and `run_block`.
use Rattle.std.proofs.Common.{◌≡◌, ℕ, inl, inr, List, [], ◌∷◌, ◌++◌, Bool, true, false, cond, ◌==◌, IsTrue, flat_map, codes, refl, sym, ◌∙◌, ap, subst, arith, append_assoc, ◌+◌, length, true≢false}
use Rattle.std.specs.List.{AllByRecursion}
use Rattle.std.proofs.lemmas.Option.{none-some}
use Rattle.at_text.specs.Texts.{is_space, is_run}
use Rattle.at_fixed.specs.Numerals.{JsonNumber}
use Rattle.at_fixed.proofs.NumeralParts.{one_numeral}
use Rattle.at_fixed.proofs.Spelled.{json_is_wkt}
use Rattle.at_lex.specs.Strings.{Character, plain, escape, unit, AreCharacters, character_text, string_text, is_plain, IsCharacter}
use Rattle.at_lex.specs.Runs.{Literal, literal_text, the_null, the_true, the_false, JsonRun}
use Rattle.at_lex.specs.Spans.{AreSpaces}
use Rattle.at_lex.proofs.RunBytes.{word_run}
use Rattle.at_nest.proofs.JsonNumber as num
use Rattle.at_nest.specs.Tree.{Tree, literal, number, text, array, object, Trees, no_trees, tree_and, Members, no_members, member_and, Spells, SpellsItems, SpellsFurtherItems, SpellsMembers, SpellsFurtherMembers, IsTextOf}
use Rattle.at_nest.proofs.Begun.{unlike, pass, run_no_space}
use Rattle.at_nest.proofs.Runs.{no_nil}
use Rattle.at_nest.proofs.JsonMachine.{regroup, same_byte}
use Rattle.at_nest.proofs.Steps.{space_no_run}
use Rattle.at_nest.proofs.TreeParts.{PaddedParts, MemberParts, items_parts, further_items_parts, members_parts, further_members_parts, array_parts, object_parts, text_parts}

abbrev pub head : List ℕ → ℕ
head [] = 0
head (b ∷ w) = b

abbrev pub tail : List ℕ → List ℕ
tail [] = []
tail (b ∷ w) = w

pub clash : {P : Type 0} (a b : ℕ) → (a == b) ≡ false → a ≡ b → P
clash a b r e = absurd (true≢false (sym (same_byte b) ∙ (sym (ap (λ z. z == b) e) ∙ r)))

-- the first byte passes the test
abbrev pub begins : (ℕ → Bool) → List ℕ → Bool
begins P [] = false
begins P (b ∷ w) = P b

-- the longest front that passes a test is one
pub same_front : (P : ℕ → Bool) (a c x y : List ℕ) → AllByRecursion (λ b. IsTrue (P b)) a → AllByRecursion (λ b. IsTrue (P b)) c → a ++ x ≡ c ++ y → begins P x ≡ false → begins P y ≡ false → (a ≡ c) × (x ≡ y)
same_front P [] [] x y h k e p q = (refl, e)
same_front P (b ∷ a) (d ∷ c) x y (h, hs) (k, ks) e p q = let r = same_front P a c x y hs ks (ap tail e) p q in (ap (λ z. z ∷ a) (ap head e) ∙ ap (λ z. d ∷ z) r.0, r.1)
same_front P [] (d ∷ c) x y h (k, ks) e p q = absurd (true≢false (sym k ∙ (sym (ap (begins P) e) ∙ p)))
same_front P (b ∷ a) [] x y (h, hs) k e p q = absurd (true≢false (sym h ∙ (ap (begins P) e ∙ q)))

-- ---- strings

pub same_text : (cs ds : List Character) (y z : List ℕ) → AreCharacters cs → AreCharacters ds → flat_map character_text cs ++ (0x22 ∷ y) ≡ flat_map character_text ds ++ (0x22 ∷ z) → (cs ≡ ds) × (y ≡ z)
same_text [] [] y z h k e = (refl, ap tail e)
same_text (plain b ∷ cs) (plain c ∷ ds) y z (h, hs) (k, ks) e = let r = same_text cs ds y z hs ks (ap tail e) in (ap (λ n. plain n ∷ cs) (ap head e) ∙ ap (λ n. plain c ∷ n) r.0, r.1)
same_text (escape b ∷ cs) (escape c ∷ ds) y z (h, hs) (k, ks) e = let r = same_text cs ds y z hs ks (ap (λ w. tail (tail w)) e) in (ap (λ n. escape n ∷ cs) (ap (λ w. head (tail w)) e) ∙ ap (λ n. escape c ∷ n) r.0, r.1)
same_text (unit a b c d ∷ cs) (unit f g i j ∷ ds) y z (h, hs) (k, ks) e =
    let r = same_text cs ds y z hs ks (ap (λ w. tail (tail (tail (tail (tail (tail w)))))) e) in (
      ap (λ n. unit n b c d ∷ cs) (ap (λ w. head (tail (tail w))) e) ∙ (ap (λ n. unit f n c d ∷ cs) (ap (λ w. head (tail (tail (tail w)))) e)
          ∙ (ap (λ n. unit f g n d ∷ cs) (ap (λ w. head (tail (tail (tail (tail w))))) e) ∙ (ap (λ n. unit f g i n ∷ cs) (ap (λ w. head (tail (tail (tail (tail (tail w)))))) e) ∙ ap (λ n. unit f g i j ∷ n) r.0))),
      r.1,
    )
same_text _ (plain c ∷ ds) y z h (k, ks) e = absurd (true≢false (sym k ∙ ap is_plain (sym (ap head e))))
same_text (plain b ∷ cs) _ y z (h, hs) k e = absurd (true≢false (sym h ∙ ap is_plain (ap head e)))
same_text [] _ y z h k e = clash 0x22 0x5C refl (ap head e)
same_text _ [] y z h k e = clash 0x5C 0x22 refl (ap head e)
same_text (escape b ∷ cs) (unit f g i j ∷ ds) y z (h, hs) k e = let P : ℕ → Type 0 = λ n. IsCharacter (escape n) in absurd (true≢false (sym (subst P (ap (λ w. head (tail w)) e) h)))
same_text (unit a b c d ∷ cs) (escape f ∷ ds) y z h (k, ks) e = let P : ℕ → Type 0 = λ n. IsCharacter (escape n) in absurd (true≢false (sym (subst P (sym (ap (λ w. head (tail w)) e)) k)))

-- ---- runs

no_number : (l : Literal) → ¬ (JsonNumber (literal_text l))
no_number the_null h = let (t, e, q) = num.machine.goes num.start 0x6E (codes "ull") ((num.start-JsonNumber (literal_text the_null)).1 h) in none-some t e
no_number the_true h = let (t, e, q) = num.machine.goes num.start 0x74 (codes "rue") ((num.start-JsonNumber (literal_text the_true)).1 h) in none-some t e
no_number the_false h = let (t, e, q) = num.machine.goes num.start 0x66 (codes "alse") ((num.start-JsonNumber (literal_text the_false)).1 h) in none-some t e

one_literal : (l k : Literal) → literal_text l ≡ literal_text k → l ≡ k
one_literal the_null the_true e = clash 0x6E 0x74 refl (ap head e)
one_literal the_null the_false e = clash 0x6E 0x66 refl (ap head e)
one_literal the_true the_null e = clash 0x74 0x6E refl (ap head e)
one_literal the_true the_false e = clash 0x74 0x66 refl (ap head e)
one_literal the_false the_null e = clash 0x66 0x6E refl (ap head e)
one_literal the_false the_true e = clash 0x66 0x74 refl (ap head e)
one_literal _ _ e = refl

-- ---- the first byte tells the kind of a value

abbrev pub look : ℕ → ℕ
look b = cond (b == 0x22) 1 (cond (b == 0x5B) 2 (cond (b == 0x7B) 3 4))

abbrev pub kind : Tree → ℕ
kind (text i cs) = 1
kind (array i ts) = 2
kind (object i ms) = 3
kind _ = 4

pub record Starts (t : Tree) (v : List ℕ) : Type 0 where
  pub byte : ℕ
  pub others : List ℕ
  pub split : v ≡ byte ∷ others
  pub looks : look byte ≡ kind t
  pub space : is_space byte ≡ false
  pub closing : (byte == 0x5D) ≡ false

run_looks : (b : ℕ) → is_run b ≡ true → look b ≡ 4
run_looks b h = pass (b == 0x22) 1 _ _ (unlike is_run b 0x22 refl h) (pass (b == 0x5B) 2 _ _ (unlike is_run b 0x5B refl h) (pass (b == 0x7B) 3 4 _ (unlike is_run b 0x7B refl h) refl))

run_starts : (t : Tree) (v : List ℕ) → 4 ≡ kind t → JsonRun v → Starts t v
run_starts t [] k j = absurd (no_nil j)
run_starts t (b ∷ r) k j = let h : is_run b ≡ true = (word_run (b ∷ r) j).0 in
    record { byte = b; others = r; split = refl; looks = run_looks b h ∙ k; space = run_no_space b h; closing = unlike is_run b 0x5D refl h }

pub starts : (t : Tree) (at : ℕ) (v : List ℕ) → Spells at v t → Starts t v
starts (literal i l) at v (f, e) = run_starts (literal i l) v refl (inl (l, e))
starts (number i n) at v (f, (h, e)) = run_starts (number i n) v refl (inr (n, h, e))
starts (text i cs) at v (f, (h, e)) = record { byte = 0x22; others = flat_map character_text cs ++ 0x22 ∷ []; split = e; looks = refl; space = refl; closing = refl }
starts (array i ts) at v g = let (f, (w, e, h)) = array_parts ts i at v g in record { byte = 0x5B; others = w ++ 0x5D ∷ []; split = e; looks = refl; space = refl; closing = refl }
starts (object i ms) at v g = let (f, (w, e, h)) = object_parts ms i at v g in record { byte = 0x7B; others = w ++ 0x7D ∷ []; split = e; looks = refl; space = refl; closing = refl }

same_kind : (t u : Tree) (v y w z : List ℕ) → Starts t v → Starts u w → v ++ y ≡ w ++ z → kind t ≡ kind u
same_kind t u v y w z h k e = sym h.looks ∙ (ap look (ap head (ap (λ x. x ++ y) (sym h.split) ∙ (e ∙ ap (λ x. x ++ z) k.split))) ∙ k.looks)

-- ---- the same bytes

pub record Same {A : Type 0} (x y : A) (v w r q : List ℕ) : Type 0 where
  pub same : x ≡ y
  pub part : v ≡ w
  pub rest : r ≡ q

-- what stands behind a value: neither white space nor a byte of a run
pub record Ends (w : List ℕ) : Type 0 where
  pub no_space : begins is_space w ≡ false
  pub no_run : begins is_run w ≡ false

pub behind_spaces : (b r : List ℕ) → AreSpaces b → Ends r → begins is_run (b ++ r) ≡ false
behind_spaces [] r h k = k.no_run
behind_spaces (c ∷ b) r (h, hs) k = space_no_run c h

-- a part between white space, and what is behind it
pub record SamePadded {A : Type 0} (x y : A) (a v b r c w d q : List ℕ) : Type 0 where
  pub same : x ≡ y
  pub left : a ≡ c
  pub part : v ≡ w
  pub right : b ≡ d
  pub rest : r ≡ q

pub same_padded : {A : Type 0} (x y : A) (a v b r c w d q : List ℕ) → AreSpaces a → AreSpaces b → AreSpaces c → AreSpaces d → begins is_space (v ++ (b ++ r)) ≡ false → begins is_space (w ++ (d ++ q)) ≡ false → Ends r → Ends q
    → a ++ (v ++ (b ++ r)) ≡ c ++ (w ++ (d ++ q)) → (a ≡ c → begins is_run (b ++ r) ≡ false → begins is_run (d ++ q) ≡ false → v ++ (b ++ r) ≡ w ++ (d ++ q) → Same x y v w (b ++ r) (d ++ q)) → SamePadded x y a v b r c w d q
same_padded x y a v b r c w d q ha hb hc hd nv nw er eq e part =
    let s = same_front is_space a c (v ++ (b ++ r)) (w ++ (d ++ q)) ha hc e nv nw in
    let p = part s.0 (behind_spaces b r hb er) (behind_spaces d q hd eq) s.1 in
    let z = same_front is_space b d r q hb hd p.rest er.no_space eq.no_space in
    record { same = p.same; left = s.0; part = p.part; right = z.0; rest = z.1 }

pub no_space_first : (v : List ℕ) (b : ℕ) (o y : List ℕ) → v ≡ b ∷ o → is_space b ≡ false → begins is_space (v ++ y) ≡ false
no_space_first v b o y e h = ap (λ z. begins is_space (z ++ y)) e ∙ h

pub ends_byte : (w : List ℕ) (b : ℕ) (r : List ℕ) → w ≡ b ∷ r → is_space b ≡ false → is_run b ≡ false → Ends w
ends_byte w b r e h k = record { no_space = ap (begins is_space) e ∙ h; no_run = ap (begins is_run) e ∙ k }

pub more_ends : (ts : Trees) (at : ℕ) (r y : List ℕ) → SpellsFurtherItems at r ts → Ends (r ++ (0x5D ∷ y))
more_ends no_trees at r y h = ends_byte _ 0x5D y (ap (λ z. z ++ (0x5D ∷ y)) h) refl refl
more_ends (tree_and t ts) at r y k = let (v, e, h) = further_items_parts t ts at r k in ends_byte _ 0x2C (v ++ (0x5D ∷ y)) (ap (λ z. z ++ (0x5D ∷ y)) e) refl refl

pub more_members_end : (ms : Members) (at : ℕ) (r y : List ℕ) → SpellsFurtherMembers at r ms → Ends (r ++ (0x7D ∷ y))
more_members_end no_members at r y h = ends_byte _ 0x7D y (ap (λ z. z ++ (0x7D ∷ y)) h) refl refl
more_members_end (member_and name i t ms) at r y k = let (v, e, h) = further_members_parts name i t ms at r k in ends_byte _ 0x2C (v ++ (0x7D ∷ y)) (ap (λ z. z ++ (0x7D ∷ y)) e) refl refl

-- the text of a string, and what is behind it
pub name_same : (cs ds : List Character) (v w y z : List ℕ) → AreCharacters cs → AreCharacters ds → v ≡ string_text cs → w ≡ string_text ds → v ++ y ≡ w ++ z → Same cs ds v w y z
name_same cs ds v w y z h k e f g =
    let r = same_text cs ds y z h k (sym (append_assoc (flat_map character_text cs) (0x22 ∷ []) y) ∙ (ap tail (ap (λ x. x ++ y) (sym e) ∙ (g ∙ ap (λ x. x ++ z) f)) ∙ append_assoc (flat_map character_text ds) (0x22 ∷ []) z)) in
    record { same = r.0; part = e ∙ (ap string_text r.0 ∙ sym f); rest = r.1 }

run_same : (t u : Tree) (v w y z : List ℕ) → JsonRun v → JsonRun w → (v ≡ w → t ≡ u) → begins is_run y ≡ false → begins is_run z ≡ false → v ++ y ≡ w ++ z → Same t u v w y z
run_same t u v w y z h k same p q e = let r = same_front is_run v w y z (word_run v h) (word_run w k) e p q in record { same = same r.0; part = r.0; rest = r.1 }

same_offset : (i j at from : ℕ) → i ≡ at → j ≡ from → at ≡ from → i ≡ j
same_offset i j at from e f g = omega (arith, e, f, g)

pub next_offset : (at from : ℕ) → at ≡ from → at + 1 ≡ from + 1
next_offset at from e = omega (arith, e)

pub behind : (at from : ℕ) (a c : List ℕ) → at ≡ from → a ≡ c → at + length a ≡ from + length c
behind at from a c e f = ap (λ n. n + length a) e ∙ ap (λ z. from + length z) f

differ : {P : Type 0} (t u : Tree) (v y w z : List ℕ) → Starts t v → Starts u w → v ++ y ≡ w ++ z → (kind t ≡ kind u → ⊥) → P
differ t u v y w z h k e n = absurd (n (same_kind t u v y w z h k e))

pub inner : (b : ℕ) (v w y : List ℕ) (c : ℕ) → v ≡ c ∷ (w ++ b ∷ []) → v ++ y ≡ c ∷ (w ++ (b ∷ y))
inner b v w y c e = ap (λ z. z ++ y) e ∙ ap (λ z. c ∷ z) (append_assoc w (b ∷ []) y)

pub padded_on : (w a v b r q : List ℕ) → w ≡ a ++ (v ++ (b ++ r)) → w ++ q ≡ a ++ (v ++ (b ++ (r ++ q)))
padded_on w a v b r q e = ap (λ z. z ++ q) e ∙ sym (regroup a v b r q)

-- a value does not stand where a bracket closes
pub not_closed : {P : Type 0} (t : Tree) (v y w z : List ℕ) → Starts t v → AreSpaces w → w ++ (0x5D ∷ z) ≡ v ++ y → P
not_closed t v y [] z h k e = absurd (true≢false (sym (ap (λ b. b == 0x5D) (ap head (ap (λ x. x ++ y) (sym h.split) ∙ sym e))) ∙ h.closing))
not_closed t v y (c ∷ w) z h (k, ks) e = absurd (true≢false (sym k ∙ (ap is_space (ap head (e ∙ ap (λ x. x ++ y) h.split)) ∙ h.space)))

-- a value between white space, and further items or members up to the byte that closes
same_then : {A : Type 0} (More : ℕ → List ℕ → A → Type 0) (closer : ℕ) (t u : Tree) (ts us : A) (at from : ℕ) (v y w z : List ℕ) → ((x : A) (i : ℕ) (r y : List ℕ) → More i r x → Ends (r ++ (closer ∷ y)))
    → ((i n : ℕ) (a r b q : List ℕ) → Spells i a t → Spells n b u → i ≡ n → begins is_run r ≡ false → begins is_run q ≡ false → a ++ r ≡ b ++ q → Same t u a b r q)
    → ((i n : ℕ) (a r b q : List ℕ) → More i a ts → More n b us → i ≡ n → a ++ (closer ∷ r) ≡ b ++ (closer ∷ q) → Same ts us a b r q)
    → PaddedParts (λ j v. Spells j v t) (λ j z. More j z ts) at v → PaddedParts (λ j v. Spells j v u) (λ j z. More j z us) from w → at ≡ from → v ++ (closer ∷ y) ≡ w ++ (closer ∷ z)
    → Same {A = Tree × A} (t, ts) (u, us) v w y z
same_then More closer t u ts us at from v y w z ends value_same more_same (a, x, b, r, f, ha, hb, hx, hr) (c, g, d, q, i, hc, hd, hg, hq) o e =
    let st = starts t (at + length a) x hx in let su = starts u (from + length c) g hg in
    let p = same_padded t u a x b (r ++ (closer ∷ y)) c g d (q ++ (closer ∷ z)) ha hb hc hd (no_space_first x st.byte st.others _ st.split st.space) (no_space_first g su.byte su.others _ su.split su.space)
    (ends ts (at + length a + length x + length b) r y hr) (ends us (from + length c + length g + length d) q z hq) (sym (padded_on v a x b r (closer ∷ y) f) ∙ (e ∙ padded_on w c g d q (closer ∷ z) i))
    (λ l m n j. value_same (at + length a) (from + length c) x (b ++ (r ++ (closer ∷ y))) g (d ++ (q ++ (closer ∷ z))) hx hg (behind at from a c o l) m n j) in
    let s = more_same (at + length a + length x + length b) (from + length c + length g + length d) r y q z hr hq (behind _ _ b d (behind _ _ x g (behind at from a c o p.left) p.part) p.right) p.rest in
    record {
      same = ap (λ n. (n, ts)) p.same ∙ ap (λ n. (u, n)) s.same;
      part = f ∙ (ap (λ n. n ++ (x ++ (b ++ r))) p.left ∙ (ap (λ n. c ++ (n ++ (b ++ r))) p.part ∙ (ap (λ n. c ++ (g ++ (n ++ r))) p.right ∙ (ap (λ n. c ++ (g ++ (d ++ n))) s.part ∙ sym i))));
      rest = s.rest;
    }

-- where there is an item, the bracket that closes does not stand
no_item : (t : Tree) (ts : Trees) (at : ℕ) (v y w z : List ℕ) → AreSpaces v → SpellsItems at w (tree_and t ts) → v ++ (0x5D ∷ y) ≡ w ++ (0x5D ∷ z) → ⊥
no_item t ts at v y w z h k e =
    let (c, x, d, q, f, hc, hd, hx, hq) = items_parts t ts at w k in let st = starts t (at + length c) x hx in
    let r = same_front is_space v c (0x5D ∷ y) (x ++ (d ++ (q ++ (0x5D ∷ z)))) h hc (e ∙ padded_on w c x d q (0x5D ∷ z) f) refl (no_space_first x st.byte st.others _ st.split st.space) in
    not_closed t x (d ++ (q ++ (0x5D ∷ z))) [] y st tt r.1

no_member : (m : List Character) (j : ℕ) (t : Tree) (ts : Members) (at : ℕ) (v y w z : List ℕ) → AreSpaces v → SpellsMembers at w (member_and m j t ts) → v ++ (0x7D ∷ y) ≡ w ++ (0x7D ∷ z) → ⊥
no_member m j t ts at v y w z h k e =
    let (c, x, d, q, f, hc, hd, (g, (hm, hx)), hq) = members_parts m j t ts at w k in
    let r = same_front is_space v c (0x7D ∷ y) (x ++ (d ++ (q ++ (0x7D ∷ z)))) h hc (e ∙ padded_on w c x d q (0x7D ∷ z) f) refl (no_space_first x 0x22 _ _ hx refl) in
    clash 0x7D 0x22 refl (ap head (r.1 ∙ ap (λ n. n ++ (d ++ (q ++ (0x7D ∷ z)))) hx))

-- a name, a colon, a value, and further members
pub same_member : (m l : List Character) (j k : ℕ) (t u : Tree) (ts us : Members) (at from : ℕ) (v y w z : List ℕ)
    → ((i n : ℕ) (a r b q : List ℕ) → Spells i a t → Spells n b u → i ≡ n → begins is_run r ≡ false → begins is_run q ≡ false → a ++ r ≡ b ++ q → Same t u a b r q)
    → ((i n : ℕ) (a r b q : List ℕ) → SpellsFurtherMembers i a ts → SpellsFurtherMembers n b us → i ≡ n → a ++ (0x7D ∷ r) ≡ b ++ (0x7D ∷ q) → Same ts us a b r q)
    → MemberParts m j t ts at v → MemberParts l k u us from w → at ≡ from → v ++ (0x7D ∷ y) ≡ w ++ (0x7D ∷ z)
    → Same (member_and m j t ts) (member_and l k u us) v w y z
same_member m l j k t u ts us at from v y w z value_same more_same (a, x, b, r, f, ha, hb, (ej, (hm, hx)), (r1, er, parts1)) (a3, x3, b3, r3, f3, ha3, hb3, (ek, (hl, hx3)), (r4, er4, parts4)) o e =
    let colon1 : r ++ (0x7D ∷ y) ≡ 0x3A ∷ (r1 ++ (0x7D ∷ y)) = ap (λ n. n ++ (0x7D ∷ y)) er in
    let colon4 : r3 ++ (0x7D ∷ z) ≡ 0x3A ∷ (r4 ++ (0x7D ∷ z)) = ap (λ n. n ++ (0x7D ∷ z)) er4 in
    let p = same_padded m l a x b (r ++ (0x7D ∷ y)) a3 x3 b3 (r3 ++ (0x7D ∷ z)) ha hb ha3 hb3 (no_space_first x 0x22 _ _ hx refl) (no_space_first x3 0x22 _ _ hx3 refl)
    (ends_byte _ 0x3A _ colon1 refl refl) (ends_byte _ 0x3A _ colon4 refl refl) (sym (padded_on v a x b r (0x7D ∷ y) f) ∙ (e ∙ padded_on w a3 x3 b3 r3 (0x7D ∷ z) f3))
    (λ n1 n2 n3 n4. name_same m l x x3 (b ++ (r ++ (0x7D ∷ y))) (b3 ++ (r3 ++ (0x7D ∷ z))) hm hl hx hx3 n4) in
    let i1 : ℕ = at + length a + length x + length b + 1 in let i4 : ℕ = from + length a3 + length x3 + length b3 + 1 in
    let io : i1 ≡ i4 = next_offset _ _ (behind _ _ b b3 (behind _ _ x x3 (behind at from a a3 o p.left) p.part) p.right) in
    let q = same_then (λ i r us. SpellsFurtherMembers i r us) 0x7D t u ts us i1 i4 r1 y r4 z more_members_end value_same more_same parts1 parts4 io (ap tail (sym colon1 ∙ (p.rest ∙ colon4))) in
    let whole : r ≡ r3 = er ∙ (ap (λ n. 0x3A ∷ n) q.part ∙ sym er4) in
    record {
      same = ap (λ n. member_and n j t ts) p.same ∙ (ap (λ n. member_and l n t ts) (same_offset j k _ _ ej ek (behind at from a a3 o p.left)) ∙ ap (λ (n : Tree × Members). member_and l k n.0 n.1) q.same);
      part = f ∙ (ap (λ n. n ++ (x ++ (b ++ r))) p.left ∙ (ap (λ n. a3 ++ (n ++ (b ++ r))) p.part ∙ (ap (λ n. a3 ++ (x3 ++ (n ++ r))) p.right ∙ (ap (λ n. a3 ++ (x3 ++ (b3 ++ n))) whole ∙ sym f3))));
      rest = q.rest;
    }

-- ---- the tree

mutual
  pub same_value : (t u : Tree) (at from : ℕ) (v y w z : List ℕ) → Spells at v t → Spells from w u → at ≡ from → begins is_run y ≡ false → begins is_run z ≡ false → v ++ y ≡ w ++ z → Same t u v w y z
  same_value (literal i l) (literal j k) at from v y w z (f, e) (g, d) o p q s = run_same (literal i l) (literal j k) v w y z (inl (l, e)) (inl (k, d))
      (λ r. ap (λ n. literal n l) (same_offset i j at from f g o) ∙ ap (literal j) (one_literal l k (sym e ∙ (r ∙ d)))) p q s
  same_value (number i n) (number j m) at from v y w z (f, (h, e)) (g, (k, d)) o p q s = run_same (number i n) (number j m) v w y z (inr (n, h, e)) (inr (m, k, d))
      (λ r. ap (λ x. number x n) (same_offset i j at from f g o) ∙ ap (number j) (one_numeral n m (json_is_wkt n h) (json_is_wkt m k) (sym e ∙ (r ∙ d)))) p q s
  same_value (literal i l) (number j m) at from v y w z (f, e) (g, (k, d)) o p q s =
      run_same (literal i l) (number j m) v w y z (inl (l, e)) (inr (m, k, d)) (λ r. absurd (no_number l (m, k, sym e ∙ (r ∙ d)))) p q s
  same_value (number i n) (literal j k) at from v y w z (f, (h, e)) (g, d) o p q s =
      run_same (number i n) (literal j k) v w y z (inr (n, h, e)) (inl (k, d)) (λ r. absurd (no_number k (n, h, sym d ∙ (sym r ∙ e)))) p q s
  same_value (text i cs) (text j ds) at from v y w z (f, (h, e)) (g, (k, d)) o p q s =
      let r = name_same cs ds v w y z h k e d s in
      record { same = ap (λ n. text n cs) (same_offset i j at from f g o) ∙ ap (text j) r.same; part = r.part; rest = r.rest }
  same_value (array i ts) (array j us) at from v y w z hv hw o p q s =
      let (f, (v1, e, h)) = array_parts ts i at v hv in
      let (g, (w1, d, k)) = array_parts us j from w hw in
      let r = same_items ts us (at + 1) (from + 1) v1 y w1 z h k (next_offset at from o) (ap tail (sym (inner 0x5D v v1 y 0x5B e) ∙ (s ∙ inner 0x5D w w1 z 0x5B d))) in
      record { same = ap (λ n. array n ts) (same_offset i j at from f g o) ∙ ap (array j) r.same; part = e ∙ (ap (λ x. 0x5B ∷ (x ++ 0x5D ∷ [])) r.part ∙ sym d); rest = r.rest }
  same_value (object i ms) (object j ns) at from v y w z hv hw o p q s =
      let (f, (v1, e, h)) = object_parts ms i at v hv in
      let (g, (w1, d, k)) = object_parts ns j from w hw in
      let r = same_members ms ns (at + 1) (from + 1) v1 y w1 z h k (next_offset at from o) (ap tail (sym (inner 0x7D v v1 y 0x7B e) ∙ (s ∙ inner 0x7D w w1 z 0x7B d))) in
      record { same = ap (λ n. object n ms) (same_offset i j at from f g o) ∙ ap (object j) r.same; part = e ∙ (ap (λ x. 0x7B ∷ (x ++ 0x7D ∷ [])) r.part ∙ sym d); rest = r.rest }
  same_value t u at from v y w z h k o p q s = differ t u v y w z (starts t at v h) (starts u from w k) s (λ c. clash (kind t) (kind u) refl c)

  pub same_items : (ts us : Trees) (at from : ℕ) (v y w z : List ℕ) → SpellsItems at v ts → SpellsItems from w us → at ≡ from → v ++ (0x5D ∷ y) ≡ w ++ (0x5D ∷ z) → Same ts us v w y z
  same_items no_trees no_trees at from v y w z h k o e = let r = same_front is_space v w (0x5D ∷ y) (0x5D ∷ z) h k e refl refl in record { same = refl; part = r.0; rest = ap tail r.1 }
  same_items no_trees (tree_and u us) at from v y w z h k o e = absurd (no_item u us from v y w z h k e)
  same_items (tree_and t ts) no_trees at from v y w z h k o e = absurd (no_item t ts at w z v y k h (sym e))
  same_items (tree_and t ts) (tree_and u us) at from v y w z h k o e =
      let r = same_then (λ i r us. SpellsFurtherItems i r us) 0x5D t u ts us at from v y w z more_ends (same_value t u) (same_more ts us) (items_parts t ts at v h) (items_parts u us from w k) o e in
      record { same = ap (λ (n : Tree × Trees). tree_and n.0 n.1) r.same; part = r.part; rest = r.rest }

  pub same_more : (ts us : Trees) (at from : ℕ) (v y w z : List ℕ) → SpellsFurtherItems at v ts → SpellsFurtherItems from w us → at ≡ from → v ++ (0x5D ∷ y) ≡ w ++ (0x5D ∷ z) → Same ts us v w y z
  same_more no_trees no_trees at from v y w z h k o e = record { same = refl; part = h ∙ sym k; rest = ap tail (ap (λ n. n ++ (0x5D ∷ y)) (sym h) ∙ (e ∙ ap (λ n. n ++ (0x5D ∷ z)) k)) }
  same_more no_trees (tree_and u us) at from v y w z h hw o e = let (w1, i, k) = further_items_parts u us from w hw in clash 0x5D 0x2C refl (ap head (ap (λ n. n ++ (0x5D ∷ y)) (sym h) ∙ (e ∙ ap (λ n. n ++ (0x5D ∷ z)) i)))
  same_more (tree_and t ts) no_trees at from v y w z hv k o e = let (v1, f, h) = further_items_parts t ts at v hv in clash 0x2C 0x5D refl (ap head (ap (λ n. n ++ (0x5D ∷ y)) (sym f) ∙ (e ∙ ap (λ n. n ++ (0x5D ∷ z)) k)))
  same_more (tree_and t ts) (tree_and u us) at from v y w z hv hw o e =
      let (v1, f, h) = further_items_parts t ts at v hv in
      let (w1, i, k) = further_items_parts u us from w hw in
      let r = same_then (λ i r us. SpellsFurtherItems i r us) 0x5D t u ts us (at + 1) (from + 1) v1 y w1 z more_ends (same_value t u) (same_more ts us) h k (next_offset at from o) (ap tail (ap (λ n. n ++ (0x5D ∷ y)) (sym f) ∙ (e ∙ ap (λ n. n ++ (0x5D ∷ z)) i))) in
      record { same = ap (λ (n : Tree × Trees). tree_and n.0 n.1) r.same; part = f ∙ (ap (λ n. 0x2C ∷ n) r.part ∙ sym i); rest = r.rest }

  pub same_members : (ms ns : Members) (at from : ℕ) (v y w z : List ℕ) → SpellsMembers at v ms → SpellsMembers from w ns → at ≡ from → v ++ (0x7D ∷ y) ≡ w ++ (0x7D ∷ z) → Same ms ns v w y z
  same_members no_members no_members at from v y w z h k o e = let r = same_front is_space v w (0x7D ∷ y) (0x7D ∷ z) h k e refl refl in record { same = refl; part = r.0; rest = ap tail r.1 }
  same_members no_members (member_and m j u us) at from v y w z h k o e = absurd (no_member m j u us from v y w z h k e)
  same_members (member_and m j t ts) no_members at from v y w z h k o e = absurd (no_member m j t ts at w z v y k h (sym e))
  same_members (member_and m j t ts) (member_and l k u us) at from v y w z h g o e = same_member m l j k t u ts us at from v y w z (same_value t u) (same_more_members ts us) (members_parts m j t ts at v h) (members_parts l k u us from w g) o e

  pub same_more_members : (ms ns : Members) (at from : ℕ) (v y w z : List ℕ) → SpellsFurtherMembers at v ms → SpellsFurtherMembers from w ns → at ≡ from → v ++ (0x7D ∷ y) ≡ w ++ (0x7D ∷ z) → Same ms ns v w y z
  same_more_members no_members no_members at from v y w z h k o e = record { same = refl; part = h ∙ sym k; rest = ap tail (ap (λ n. n ++ (0x7D ∷ y)) (sym h) ∙ (e ∙ ap (λ n. n ++ (0x7D ∷ z)) k)) }
  same_more_members no_members (member_and m j u us) at from v y w z h hw o e = let (w1, i, k) = further_members_parts m j u us from w hw in clash 0x7D 0x2C refl (ap head (ap (λ n. n ++ (0x7D ∷ y)) (sym h) ∙ (e ∙ ap (λ n. n ++ (0x7D ∷ z)) i)))
  same_more_members (member_and m j t ts) no_members at from v y w z hv k o e = let (v1, f, h) = further_members_parts m j t ts at v hv in clash 0x2C 0x7D refl (ap head (ap (λ n. n ++ (0x7D ∷ y)) (sym f) ∙ (e ∙ ap (λ n. n ++ (0x7D ∷ z)) k)))
  same_more_members (member_and m j t ts) (member_and l k u us) at from v y w z hv hw o e =
      let (v1, f, h) = further_members_parts m j t ts at v hv in
      let (w1, i, g) = further_members_parts l k u us from w hw in
      let r = same_member m l j k t u ts us (at + 1) (from + 1) v1 y w1 z (same_value t u) (same_more_members ts us) h g (next_offset at from o) (ap tail (ap (λ n. n ++ (0x7D ∷ y)) (sym f) ∙ (e ∙ ap (λ n. n ++ (0x7D ∷ z)) i))) in
      record { same = r.same; part = f ∙ (ap (λ n. 0x2C ∷ n) r.part ∙ sym i); rest = r.rest }

-- the bytes spell at most one tree
pub one_tree : (at : ℕ) (w : List ℕ) (t u : Tree) → IsTextOf at w t → IsTextOf at w u → u ≡ t
one_tree at w t u h k =
    let (a, v, b, r, e, ha, hb, hv, hr) = text_parts t at w h in
    let (c, x, d, q, f, hc, hd, hx, hq) = text_parts u at w k in
    let st = starts t (at + length a) v hv in let su = starts u (at + length c) x hx in
    let p = same_padded t u a v b [] c x d [] ha hb hc hd (no_space_first v st.byte st.others _ st.split st.space) (no_space_first x su.byte su.others _ su.split su.space) nothing nothing
    (ap (λ n. a ++ (v ++ (b ++ n))) (sym hr) ∙ (sym e ∙ (f ∙ ap (λ n. c ++ (x ++ (d ++ n))) hq)))
    (λ l m n j. same_value t u (at + length a) (at + length c) v (b ++ []) x (d ++ []) hv hx (behind at at a c refl l) m n j) in
    sym p.same
  where
    nothing : Ends []
    nothing = record { no_space = refl; no_run = refl }

-- The machine reads the bytes of a value to their end, and is settled behind it.
-- For `finish`, `finish_span`, `merge` and `run_block`.
use Rattle.std.proofs.Common.{◌≡◌, ℕ, List, [], ◌∷◌, ◌++◌, Option, Some, None, option_map, option_and_then, Bool, true, false, cond, not, ◌&&◌, ◌==◌, refl, sym, ◌∙◌, ap, codes, true≢false, ◌+◌, length}
use Rattle.std.proofs.lemmas.Bool.{and_right, eqb-true, false_from_ne_true, true_from_ne_false}
use Rattle.std.proofs.lemmas.Option.{none-some, same_Some, option_and_then_some}
use Rattle.at_text.specs.Texts.{is_space, is_run}
use Rattle.at_text.proofs.Machine.{run}
use Rattle.at_nest.proofs.TreeParts as parts
use Rattle.at_nest.proofs.JsonNumber as num
use Rattle.at_lex.specs.Strings.{JsonString}
use Rattle.at_lex.specs.Runs.{Literal, literal_text, the_null, the_true, the_false}
use Rattle.at_lex.proofs.JsonString as str
use Rattle.at_lex.specs.Spans.{AreSpaces, begins_run}
use Rattle.at_nest.specs.Tree.{Tree, literal, number, text, array, object, Trees, no_trees, tree_and, Members as TreeMembers, no_members as no_tree_members, member_and, Spells, SpellsItems, SpellsFurtherItems, SpellsMembers, SpellsFurtherMembers}
use Rattle.at_nest.proofs.JsonMachine.{State, Frame, in_array, in_object, value, items, members, name, colon, after, in_number, in_string, in_name, in_word, step, within, begin_value, after_step, colon_step, same_byte, opening_split, regroup, regroup_member}
use Rattle.at_nest.specs.Borders.{ends_run, are_apart}
use Rattle.at_nest.proofs.Steps.{Settled, run_ended, is_clear, settled_run, number_none, still_spaces, space_no_run}

abbrev pub go : State → List ℕ → Option State
go = run step

pub run_then : (s t : State) (u w : List ℕ) → go s u ≡ Some t → go s (u ++ w) ≡ go t w
run_then s t [] w e = ap (λ x. go x w) (same_Some s t e)
run_then s t (b ∷ u) w e = option_and_then_some (λ x. go x u) (step s b) t e (λ v f g. ap (option_and_then (λ x. go x (u ++ w))) f ∙ run_then v t u w g)

-- the machine goes through the bytes of a value, which no space and no bracket begins
pub record Enters (st : List Frame) (w : List ℕ) : Type 0 where
  pub byte : ℕ
  pub others : List ℕ
  pub next : State
  pub last : State
  pub split : w ≡ byte ∷ others
  pub begins : begin_value st byte ≡ Some next
  pub goes : go next others ≡ Some last
  pub settled : Settled last (after st)
  pub clear : (x : List ℕ) → are_apart w x ≡ true → is_clear last x ≡ true
  pub no_space : is_space byte ≡ false
  pub no_closer : (byte == 0x5D) ≡ false

pub value_at : (st : List Frame) (w z : List ℕ) (h : Enters st w) → go (value st) (w ++ z) ≡ go h.last z
value_at st w z h = ap (λ x. go (value st) (x ++ z)) h.split
    ∙ (ap (option_and_then (λ x. go x (h.others ++ z))) (ap (λ c. cond c (Some (value st)) (begin_value st h.byte)) h.no_space ∙ h.begins)
    ∙ run_then h.next h.last h.others z h.goes)

pub items_at : (st : List Frame) (w z : List ℕ) (h : Enters (in_array ∷ st) w) → go (items st) (w ++ z) ≡ go h.last z
items_at st w z h = ap (λ x. go (items st) (x ++ z)) h.split
    ∙ (ap (option_and_then (λ x. go x (h.others ++ z))) (ap (λ c. cond c (Some (items st)) (cond (h.byte == 0x5D) (Some (after st)) (begin_value (in_array ∷ st) h.byte))) h.no_space
    ∙ (ap (λ c. cond c (Some (after st)) (begin_value (in_array ∷ st) h.byte)) h.no_closer ∙ h.begins))
    ∙ run_then h.next h.last h.others z h.goes)

-- ---- numbers, words, strings

pub on_number : (s : num.State) (st : List Frame) (u : List ℕ) → num.Rest s u → (n : num.State) × (go (in_number s st) u ≡ Some (in_number n st)) × (num.accepts n ≡ true)
on_number s st [] r = (s, refl, (num.machine.ends s).0 r)
on_number s st (c ∷ u) r = let (v, e, q) = num.machine.goes s c u r in let (n, f, a) = on_number v st u q in
    (n, ap (option_and_then (λ x. go x u)) (ap (λ o. within (option_map (λ t. in_number t st) o) (num.accepts s) (after_step st c)) e) ∙ f, a)

pub run_byte : (s v : num.State) (b : ℕ) → num.step s b ≡ Some v → is_run b ≡ true
run_byte s v b h = true_from_ne_false (is_run b) (λ e. none-some v (sym (number_none s b e) ∙ h))

number_ends : (s : num.State) (c : ℕ) (u : List ℕ) → num.Rest s (c ∷ u) → ends_run (c ∷ u) ≡ true
number_ends s c [] r = let (v, e, q) = num.machine.goes s c [] r in run_byte s v c e
number_ends s c (d ∷ u) r = let (v, e, q) = num.machine.goes s c (d ∷ u) r in number_ends v d u q

clear_run : (w x : List ℕ) → ends_run w ≡ true → are_apart w x ≡ true → not (true && begins_run x) ≡ true
clear_run w x e h = sym (ap (λ c. not (c && begins_run x)) e) ∙ h

pub on_word : (w : List ℕ) (st : List Frame) → go (in_word w st) w ≡ Some (in_word [] st)
on_word [] st = refl
on_word (c ∷ w) st = ap (option_and_then (λ x. go x w)) (ap (λ t. cond t (Some (in_word w st)) None) (same_byte c)) ∙ on_word w st

pub on_string : (s : str.State) (st : List Frame) (u : List ℕ) → str.Rest s u → (n : str.State) × (go (in_string s st) u ≡ Some (in_string n st)) × (str.accepts n ≡ true)
on_string s st [] r = (s, refl, (str.machine.ends s).0 r)
on_string s st (c ∷ u) r = let (v, e, q) = str.machine.goes s c u r in let (n, f, a) = on_string v st u q in
    (n, ap (option_and_then (λ x. go x u)) (ap (λ o. within (option_map (λ t. in_string t st) o) (str.accepts s) (after_step st c)) e) ∙ f, a)

pub on_name : (s : str.State) (st : List Frame) (u : List ℕ) → str.Rest s u → (n : str.State) × (go (in_name s st) u ≡ Some (in_name n st)) × (str.accepts n ≡ true)
on_name s st [] r = (s, refl, (str.machine.ends s).0 r)
on_name s st (c ∷ u) r = let (v, e, q) = str.machine.goes s c u r in let (n, f, a) = on_name v st u q in
    (n, ap (option_and_then (λ x. go x u)) (ap (λ o. within (option_map (λ t. in_name t st) o) (str.accepts s) (colon_step st c)) e) ∙ f, a)

-- ---- a byte that isn't another

-- a byte that passes a test that c doesn't pass
pub unlike : (P : ℕ → Bool) (b c : ℕ) → P c ≡ false → P b ≡ true → (b == c) ≡ false
unlike P b c h e = false_from_ne_true (b == c) (λ f. true≢false (sym e ∙ (ap P (eqb-true b c f) ∙ h)))

pub run_no_space : (b : ℕ) → is_run b ≡ true → is_space b ≡ false
run_no_space b h = false_from_ne_true (is_space b) (λ f. true≢false (sym h ∙ space_no_run b f))

-- a byte that begins a number is none of these
not_this : (b c : ℕ) (s : num.State) → num.step num.start c ≡ None → num.step num.start b ≡ Some s → (b == c) ≡ false
not_this b c s h e = false_from_ne_true (b == c) (λ f. none-some s (sym h ∙ (ap (num.step num.start) (sym (eqb-true b c f)) ∙ e)))

pub pass : {A : Type 0} (p : Bool) (x y z : A) → p ≡ false → y ≡ z → cond p x y ≡ z
pass p x y z e f = ap (λ c. cond c x y) e ∙ f

pub number_begins : (st : List Frame) (b : ℕ) (s : num.State) → num.step num.start b ≡ Some s → begin_value st b ≡ Some (in_number s st)
number_begins st b s e =
    pass (b == 0x5B) _ _ _ (not_this b 0x5B s refl e) (pass (b == 0x7B) _ _ _ (not_this b 0x7B s refl e) (pass (b == 0x22) _ _ _ (not_this b 0x22 s refl e)
    (pass (b == 0x6E) _ _ _ (not_this b 0x6E s refl e) (pass (b == 0x74) _ _ _ (not_this b 0x74 s refl e) (pass (b == 0x66) _ _ _ (not_this b 0x66 s refl e)
    (ap (option_map (λ v. in_number v st)) e))))))

-- ---- each kind of value

enters_at : (st : List Frame) (w : List ℕ) (c : ℕ) (r : List ℕ) (next last : State) → w ≡ c ∷ r → begin_value st c ≡ Some next → go next r ≡ Some last → Settled last (after st)
    → ((x : List ℕ) → are_apart w x ≡ true → is_clear last x ≡ true) → is_space c ≡ false → (c == 0x5D) ≡ false → Enters st w
enters_at st w c r next last e b g h k p q = record {
  byte = c;
  others = r;
  next = next;
  last = last;
  split = e;
  begins = b;
  goes = g;
  settled = h;
  clear = k;
  no_space = p;
  no_closer = q;
}

word_enters : (st : List Frame) (l : Literal) (w : List ℕ) → w ≡ literal_text l → Enters st w
word_enters st the_null w e = enters_at st w 0x6E (codes "ull") _ (in_word [] st) e refl (on_word (codes "ull") st) (refl, refl) (λ x h. clear_run w x (ap ends_run e) h) refl refl
word_enters st the_true w e = enters_at st w 0x74 (codes "rue") _ (in_word [] st) e refl (on_word (codes "rue") st) (refl, refl) (λ x h. clear_run w x (ap ends_run e) h) refl refl
word_enters st the_false w e = enters_at st w 0x66 (codes "alse") _ (in_word [] st) e refl (on_word (codes "alse") st) (refl, refl) (λ x h. clear_run w x (ap ends_run e) h) refl refl

number_enters : (st : List Frame) (w : List ℕ) → num.Rest num.start w → Enters st w
number_enters st [] r = absurd r
number_enters st (c ∷ u) r = let (s, e, q) = num.machine.goes num.start c u r in let (n, g, a) = on_number s st u q in
    enters_at st (c ∷ u) c u (in_number s st) (in_number n st) refl (number_begins st c s e) g (a, refl) (λ x h. clear_run (c ∷ u) x (number_ends num.start c u r) h)
    (run_no_space c (run_byte num.start s c e)) (not_this c 0x5D s refl e)

pub string_enters : (st : List Frame) (w : List ℕ) → JsonString w → Enters st w
string_enters st w h = let (u, e, r) = opening_split w h in let (n, f, a) = on_string str.inside st u r in
    enters_at st w 0x22 u (in_string str.inside st) (in_string n st) e refl f (a, refl) (λ x k. refl) refl refl

-- a name leads to where its colon is expected
pub record Named (st : List Frame) (w : List ℕ) : Type 0 where
  pub last : State
  pub first_goes : (z : List ℕ) → go (members st) (w ++ z) ≡ go last z
  pub goes : (z : List ℕ) → go (name st) (w ++ z) ≡ go last z
  pub settled : Settled last (colon st)
  pub clear : (x : List ℕ) → is_clear last x ≡ true

pub named : (st : List Frame) (w : List ℕ) → JsonString w → Named st w
named st w h = let (u, e, r) = opening_split w h in let (n, f, a) = on_name str.inside st u r in record {
  last = in_name n st;
  first_goes = λ z. ap (λ x. go (members st) (x ++ z)) e ∙ run_then (in_name str.inside st) (in_name n st) u z f;
  goes = λ z. ap (λ x. go (name st) (x ++ z)) e ∙ run_then (in_name str.inside st) (in_name n st) u z f;
  settled = (a, refl);
  clear = λ x. refl;
}

pub clear_spaces : (s : State) (b : List ℕ) (c : ℕ) (r : List ℕ) → AreSpaces b → is_run c ≡ false → is_clear s (b ++ (c ∷ r)) ≡ true
clear_spaces s [] c r h e = ap not (and_right (run_ended s) (is_run c) e)
clear_spaces s (d ∷ b) c r (h, hs) e = ap not (and_right (run_ended s) (is_run d) (space_no_run d h))

-- white space, a colon, white space, a value, and what the rest leads to
colon_run : (st : List Frame) (s : State) (b c v tail : List ℕ) (o : Option State) (enter : Enters (in_object ∷ st) v) → Settled s (colon st) → AreSpaces b → AreSpaces c
    → go enter.last tail ≡ o → go s (b ++ (0x3A ∷ (c ++ (v ++ tail)))) ≡ o
colon_run st s b c v tail o enter k hb hc q =
    settled_run s (colon st) b 0x3A (c ++ (v ++ tail)) k hb (clear_spaces s b 0x3A (c ++ (v ++ tail)) hb refl)
    ∙ (still_spaces (value (in_object ∷ st)) c (v ++ tail) tt hc
    ∙ (value_at (in_object ∷ st) v tail enter ∙ q))

mutual
  pub value_enters : (t : Tree) (st : List Frame) (at : ℕ) (w : List ℕ) → Spells at w t → Enters st w
  value_enters (literal i l) st at w (f, e) = word_enters st l w e
  value_enters (number i n) st at w (f, (h, e)) = number_enters st w ((num.start-JsonNumber w).1 (n, h, e))
  value_enters (text i cs) st at w (f, (h, e)) = string_enters st w (cs, h, e)
  value_enters (array i ts) st at w h = let (f, (v, e, s)) = parts.array_parts ts i at w h in
      enters_at st w 0x5B (v ++ (0x5D ∷ [])) (items st) (after st) e refl (items_run ts st (at + 1) v s) refl (λ x k. refl) refl refl
  value_enters (object i ms) st at w h = let (f, (v, e, s)) = parts.object_parts ms i at w h in
      enters_at st w 0x7B (v ++ (0x7D ∷ [])) (members st) (after st) e refl (members_run ms st (at + 1) v s) refl (λ x k. refl) refl refl

  items_run : (ts : Trees) (st : List Frame) (at : ℕ) (w : List ℕ) → SpellsItems at w ts → go (items st) (w ++ (0x5D ∷ [])) ≡ Some (after st)
  items_run no_trees st at w h = still_spaces (items st) w (0x5D ∷ []) tt h
  items_run (tree_and t ts) st at w h =
      let (a, v, b, r, e, ha, hb, s, q) = parts.items_parts t ts at w h in
      let enter : Enters (in_array ∷ st) v = value_enters t (in_array ∷ st) (at + length a) v s in
      ap (λ z. go (items st) (z ++ (0x5D ∷ []))) e ∙ (ap (go (items st)) (sym (regroup a v b r (0x5D ∷ [])))
      ∙ (still_spaces (items st) a (v ++ (b ++ (r ++ (0x5D ∷ [])))) tt ha
      ∙ (items_at st v (b ++ (r ++ (0x5D ∷ []))) enter
      ∙ more_run ts st (at + length a + length v + length b) enter.last b r enter.settled hb q)))

  more_run : (ts : Trees) (st : List Frame) (at : ℕ) (s : State) (b r : List ℕ) → Settled s (after (in_array ∷ st)) → AreSpaces b → SpellsFurtherItems at r ts
      → go s (b ++ (r ++ (0x5D ∷ []))) ≡ Some (after st)
  more_run no_trees st at s b r k hb e = ap (λ z. go s (b ++ (z ++ (0x5D ∷ [])))) e ∙ settled_run s (after (in_array ∷ st)) b 0x5D [] k hb (clear_spaces s b 0x5D [] hb refl)
  more_run (tree_and t ts) st at s b r k hb h =
      let (x, f, (a, v, c, y, e, ha, hc, sp, q)) = parts.further_items_parts t ts at r h in
      let enter : Enters (in_array ∷ st) v = value_enters t (in_array ∷ st) (at + 1 + length a) v sp in
      let tail : List ℕ = v ++ (c ++ (y ++ (0x5D ∷ []))) in
      ap (λ z. go s (b ++ (z ++ (0x5D ∷ [])))) (f ∙ ap (λ z. 0x2C ∷ z) e) ∙ (ap (λ z. go s (b ++ (0x2C ∷ z))) (sym (regroup a v c y (0x5D ∷ [])))
      ∙ (settled_run s (after (in_array ∷ st)) b 0x2C (a ++ tail) k hb (clear_spaces s b 0x2C (a ++ tail) hb refl)
      ∙ (still_spaces (value (in_array ∷ st)) a tail tt ha
      ∙ (value_at (in_array ∷ st) v (c ++ (y ++ (0x5D ∷ []))) enter
      ∙ more_run ts st (at + 1 + length a + length v + length c) enter.last c y enter.settled hc q))))

  members_run : (ms : TreeMembers) (st : List Frame) (at : ℕ) (w : List ℕ) → SpellsMembers at w ms → go (members st) (w ++ (0x7D ∷ [])) ≡ Some (after st)
  members_run no_tree_members st at w h = still_spaces (members st) w (0x7D ∷ []) tt h
  members_run (member_and cs i t ms) st at w h =
      let (a, n, b, r0, e, ha, hb, (ei, (hn, en)), (r1, e1, (c, v, d, r, e2, hc, hd, s, q))) = parts.members_parts cs i t ms at w h in
      let nm : Named st n = named st n (cs, hn, en) in
      let enter : Enters (in_object ∷ st) v = value_enters t (in_object ∷ st) (at + length a + length n + length b + 1 + length c) v s in
      let tail : List ℕ = v ++ (d ++ (r ++ (0x7D ∷ []))) in
      ap (λ z. go (members st) (z ++ (0x7D ∷ []))) (e ∙ ap (λ z. a ++ (n ++ (b ++ z))) (e1 ∙ ap (λ z. 0x3A ∷ z) e2)) ∙ (ap (go (members st)) (sym (regroup_member a n b c v d r (0x7D ∷ [])))
      ∙ (still_spaces (members st) a (n ++ (b ++ (0x3A ∷ (c ++ tail)))) tt ha
      ∙ (nm.first_goes (b ++ (0x3A ∷ (c ++ tail)))
      ∙ colon_run st nm.last b c v (d ++ (r ++ (0x7D ∷ []))) (Some (after st)) enter nm.settled hb hc (more_members_run ms st (at + length a + length n + length b + 1 + length c + length v + length d) enter.last d r enter.settled hd q))))

  more_members_run : (ms : TreeMembers) (st : List Frame) (at : ℕ) (s : State) (b r : List ℕ) → Settled s (after (in_object ∷ st)) → AreSpaces b → SpellsFurtherMembers at r ms
      → go s (b ++ (r ++ (0x7D ∷ []))) ≡ Some (after st)
  more_members_run no_tree_members st at s b r k hb e = ap (λ z. go s (b ++ (z ++ (0x7D ∷ [])))) e ∙ settled_run s (after (in_object ∷ st)) b 0x7D [] k hb (clear_spaces s b 0x7D [] hb refl)
  more_members_run (member_and cs i t ms) st at s b0 r0 k hb0 h =
      let (x, f, (a, n, b, r2, e, ha, hb, (ei, (hn, en)), (r1, e1, (c, v, d, r, e2, hc, hd, sp, q)))) = parts.further_members_parts cs i t ms at r0 h in
      let nm : Named st n = named st n (cs, hn, en) in
      let enter : Enters (in_object ∷ st) v = value_enters t (in_object ∷ st) (at + 1 + length a + length n + length b + 1 + length c) v sp in
      let tail : List ℕ = v ++ (d ++ (r ++ (0x7D ∷ []))) in
      ap (λ z. go s (b0 ++ (z ++ (0x7D ∷ [])))) (f ∙ ap (λ z. 0x2C ∷ z) (e ∙ ap (λ z. a ++ (n ++ (b ++ z))) (e1 ∙ ap (λ z. 0x3A ∷ z) e2)))
      ∙ (ap (λ z. go s (b0 ++ (0x2C ∷ z))) (sym (regroup_member a n b c v d r (0x7D ∷ [])))
      ∙ (settled_run s (after (in_object ∷ st)) b0 0x2C (a ++ (n ++ (b ++ (0x3A ∷ (c ++ tail))))) k hb0 (clear_spaces s b0 0x2C (a ++ (n ++ (b ++ (0x3A ∷ (c ++ tail))))) hb0 refl)
      ∙ (still_spaces (name st) a (n ++ (b ++ (0x3A ∷ (c ++ tail)))) tt ha
      ∙ (nm.goes (b ++ (0x3A ∷ (c ++ tail)))
      ∙ colon_run st nm.last b c v (d ++ (r ++ (0x7D ∷ []))) (Some (after st)) enter nm.settled hb hc (more_members_run ms st (at + 1 + length a + length n + length b + 1 + length c + length v + length d) enter.last d r enter.settled hd q)))))

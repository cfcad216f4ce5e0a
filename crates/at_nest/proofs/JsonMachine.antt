-- A machine for JSON texts, with a stack of what is open, and that it is one for the grammar.
-- For `finish`, `finish_span`, `merge` and `run_block`.
use Rattle.std.proofs.Common.{◌≡◌, ℕ, List, [], ◌∷◌, ◌++◌, Option, Some, None, option_map, IsTrue, Bool, true, false, cond, ◌==◌, refl, sym, ◌∙◌, ap, subst, arith, true≢false, append_assoc, append-nil, codes, ◌+◌, length}
use Rattle.std.proofs.lemmas.Option.{none-some, same_Some}
use Rattle.std.proofs.lemmas.Bool.{eqb-true, and_parts}
use Rattle.at_text.specs.Texts.{is_space}
use Rattle.at_text.proofs.Machine.{Accepts}
use Rattle.at_fixed.specs.Numerals.{JsonNumber}
use Rattle.at_nest.proofs.JsonNumber as num
use Rattle.at_lex.specs.Strings.{JsonString}
use Rattle.at_lex.specs.Runs.{Literal, literal_text, the_null, the_true, the_false}
use Rattle.at_lex.proofs.JsonString as str
use Rattle.at_lex.specs.Spans.{AreSpaces}
use Rattle.at_nest.specs.Tree.{Tree, literal, number, text, array, object, Trees, no_trees, tree_and, Members as TreeMembers, no_members as no_tree_members, member_and, Spells, SpellsItems, SpellsFurtherItems, SpellsMembers, SpellsFurtherMembers}
use Rattle.at_nest.specs.Syntax.{JsonText}
use Rattle.at_nest.proofs.TreeParts as parts
pub use Rattle.at_nest.specs.States.{Frame, in_array, in_object, State, value, items, members, name, colon, after, in_number, in_string, in_name, in_word, is_nil, accepts}

abbrev pub begin_value : List Frame → ℕ → Option State
begin_value st b = cond (b == 0x5B) (Some (items st)) (cond (b == 0x7B) (Some (members st)) (cond (b == 0x22) (Some (in_string str.inside st))
    (cond (b == 0x6E) (Some (in_word (codes "ull") st)) (cond (b == 0x74) (Some (in_word (codes "rue") st)) (cond (b == 0x66) (Some (in_word (codes "alse") st))
    (option_map (λ s. in_number s st) (num.step num.start b)))))))

abbrev pub after_byte : List Frame → ℕ → Option State
after_byte [] b = None
after_byte (in_array ∷ st) b = cond (b == 0x2C) (Some (value (in_array ∷ st))) (cond (b == 0x5D) (Some (after st)) None)
after_byte (in_object ∷ st) b = cond (b == 0x2C) (Some (name st)) (cond (b == 0x7D) (Some (after st)) None)

abbrev pub after_step : List Frame → ℕ → Option State
after_step st b = cond (is_space b) (Some (after st)) (after_byte st b)

abbrev pub colon_step : List Frame → ℕ → Option State
colon_step st b = cond (is_space b) (Some (colon st)) (cond (b == 0x3A) (Some (value (in_object ∷ st))) None)

-- on in a token, or past it where it may end
abbrev pub within : Option State → Bool → Option State → Option State
within (Some t) may_end past = Some t
within None may_end past = cond may_end past None

abbrev pub step : State → ℕ → Option State
step (value st) b = cond (is_space b) (Some (value st)) (begin_value st b)
step (items st) b = cond (is_space b) (Some (items st)) (cond (b == 0x5D) (Some (after st)) (begin_value (in_array ∷ st) b))
step (members st) b = cond (is_space b) (Some (members st)) (cond (b == 0x7D) (Some (after st)) (cond (b == 0x22) (Some (in_name str.inside st)) None))
step (name st) b = cond (is_space b) (Some (name st)) (cond (b == 0x22) (Some (in_name str.inside st)) None)
step (colon st) b = colon_step st b
step (after st) b = after_step st b
step (in_number s st) b = within (option_map (λ t. in_number t st) (num.step s b)) (num.accepts s) (after_step st b)
step (in_string s st) b = within (option_map (λ t. in_string t st) (str.step s b)) (str.accepts s) (after_step st b)
step (in_name s st) b = within (option_map (λ t. in_name t st) (str.step s b)) (str.accepts s) (colon_step st b)
step (in_word [] st) b = after_step st b
step (in_word (c ∷ w) st) b = cond (b == c) (Some (in_word w st)) None

-- ---- the grammar without offsets

mutual
  pub data Value : List ℕ → Type 0 where
    a_word : {w : List ℕ} (l : Literal) → w ≡ literal_text l → Value w
    a_number : {w : List ℕ} → JsonNumber w → Value w
    a_string : {w : List ℕ} → JsonString w → Value w
    an_array : {w : List ℕ} (v : List ℕ) → w ≡ 0x5B ∷ (v ++ 0x5D ∷ []) → Items v → Value w
    an_object : {w : List ℕ} (v : List ℕ) → w ≡ 0x7B ∷ (v ++ 0x7D ∷ []) → Members v → Value w

  pub data Items : List ℕ → Type 0 where
    no_items : {w : List ℕ} → AreSpaces w → Items w
    some_items : {w : List ℕ} (a v b r : List ℕ) → w ≡ a ++ (v ++ (b ++ r)) → AreSpaces a → Value v → AreSpaces b → More r → Items w

  pub data More : List ℕ → Type 0 where
    no_more : {w : List ℕ} → w ≡ [] → More w
    one_more : {w : List ℕ} (a v b r : List ℕ) → w ≡ 0x2C ∷ (a ++ (v ++ (b ++ r))) → AreSpaces a → Value v → AreSpaces b → More r → More w

  pub data Members : List ℕ → Type 0 where
    no_members : {w : List ℕ} → AreSpaces w → Members w
    some_members : {w : List ℕ} (a n b c v d r : List ℕ) → w ≡ a ++ (n ++ (b ++ (0x3A ∷ (c ++ (v ++ (d ++ r)))))) → AreSpaces a → JsonString n → AreSpaces b
        → AreSpaces c → Value v → AreSpaces d → MoreMembers r → Members w

  pub data MoreMembers : List ℕ → Type 0 where
    no_more_members : {w : List ℕ} → w ≡ [] → MoreMembers w
    one_more_member : {w : List ℕ} (a n b c v d r : List ℕ) → w ≡ 0x2C ∷ (a ++ (n ++ (b ++ (0x3A ∷ (c ++ (v ++ (d ++ r))))))) → AreSpaces a → JsonString n → AreSpaces b
        → AreSpaces c → Value v → AreSpaces d → MoreMembers r → MoreMembers w

-- what may follow, by what is open
abbrev pub After : List Frame → List ℕ → Type 0
After [] w = AreSpaces w
After (in_array ∷ st) w = (a r y : List ℕ) × (w ≡ a ++ (r ++ (0x5D ∷ y))) × AreSpaces a × More r × After st y
After (in_object ∷ st) w = (a r y : List ℕ) × (w ≡ a ++ (r ++ (0x7D ∷ y))) × AreSpaces a × MoreMembers r × After st y

abbrev pub ValueThen : List Frame → List ℕ → Type 0
ValueThen st w = (a v y : List ℕ) × (w ≡ a ++ (v ++ y)) × AreSpaces a × Value v × After st y

abbrev pub ItemsThen : List Frame → List ℕ → Type 0
ItemsThen st w = (x y : List ℕ) × (w ≡ x ++ (0x5D ∷ y)) × Items x × After st y

abbrev pub MembersThen : List Frame → List ℕ → Type 0
MembersThen st w = (x y : List ℕ) × (w ≡ x ++ (0x7D ∷ y)) × Members x × After st y

abbrev pub ColonThen : List Frame → List ℕ → Type 0
ColonThen st w = (b u : List ℕ) × (w ≡ b ++ (0x3A ∷ u)) × AreSpaces b × ValueThen (in_object ∷ st) u

abbrev pub NameThen : List Frame → List ℕ → Type 0
NameThen st w = (a n u : List ℕ) × (w ≡ a ++ (n ++ u)) × AreSpaces a × JsonString n × ColonThen st u

abbrev pub Suffix : State → List ℕ → Type 0
Suffix (value st) w = ValueThen st w
Suffix (items st) w = ItemsThen st w
Suffix (members st) w = MembersThen st w
Suffix (name st) w = NameThen st w
Suffix (colon st) w = ColonThen st w
Suffix (after st) w = After st w
Suffix (in_number s st) w = (u y : List ℕ) × (w ≡ u ++ y) × num.Rest s u × After st y
Suffix (in_string s st) w = (u y : List ℕ) × (w ≡ u ++ y) × str.Rest s u × After st y
Suffix (in_name s st) w = (u y : List ℕ) × (w ≡ u ++ y) × str.Rest s u × ColonThen st y
Suffix (in_word r st) w = (y : List ℕ) × (w ≡ r ++ y) × After st y

-- ---- one byte in front

-- where each way of a choice leads to P, so does the state that is chosen
pub either : {A : Type 0} (P : A → Type 0) (c : Bool) (s t : A) (o : Option A) → (c ≡ true → P s) → (o ≡ Some t → P t) → cond c (Some s) o ≡ Some t → P t
either P true s t o f g e = subst P (same_Some s t e) (f refl)
either P false s t o f g e = g e

pub only : {A : Type 0} (P : A → Type 0) (c : Bool) (s t : A) → (c ≡ true → P s) → cond c (Some s) None ≡ Some t → P t
only P c s t f e = either P c s t None f (λ g. absurd (none-some t g)) e

pub by_byte : {A : Type 0} (P : A → Type 0) (b c : ℕ) (s t : A) (o : Option A) → (b ≡ c → P s) → (o ≡ Some t → P t) → cond (b == c) (Some s) o ≡ Some t → P t
by_byte P b c s t o f g e = either P (b == c) s t o (λ q. f (eqb-true b c q)) g e

pub by_last : {A : Type 0} (P : A → Type 0) (b c : ℕ) (s t : A) → (b ≡ c → P s) → cond (b == c) (Some s) None ≡ Some t → P t
by_last P b c s t f e = only P (b == c) s t (λ q. f (eqb-true b c q)) e

-- on in a token, or past it where it may end
pub by_token : {A : Type 0} (P : State → Type 0) (f : A → State) (o : Option A) (p : Bool) (past : Option State) (t : State) → ((v : A) → o ≡ Some v → P (f v)) → (p ≡ true → past ≡ Some t → P t) → within (option_map f o) p past ≡ Some t → P t
by_token P f (Some v) p past t on off e = subst P (same_Some (f v) t e) (on v refl)
by_token P f None true past t on off e = off refl e
by_token P f None false past t on off e = absurd (none-some t e)

-- what a value begins with: a bracket, a quote, a literal's first byte, or a number's
pub by_value : (P : State → Type 0) (st : List Frame) (t : State) (b : ℕ) → (b ≡ 0x5B → P (items st)) → (b ≡ 0x7B → P (members st)) → (b ≡ 0x22 → P (in_string str.inside st))
    → ((l : Literal) (c : ℕ) (r : List ℕ) → c ∷ r ≡ literal_text l → b ≡ c → P (in_word r st)) → ((n : num.State) → num.step num.start b ≡ Some n → P (in_number n st)) → begin_value st b ≡ Some t → P t
by_value P st t b on_array on_object on_string on_word on_number e =
    by_byte P b 0x5B (items st) t _ on_array (by_byte P b 0x7B (members st) t _ on_object (by_byte P b 0x22 (in_string str.inside st) t _ on_string
    (by_byte P b 0x6E (in_word (codes "ull") st) t _ (on_word the_null 0x6E (codes "ull") refl) (by_byte P b 0x74 (in_word (codes "rue") st) t _ (on_word the_true 0x74 (codes "rue") refl)
    (by_byte P b 0x66 (in_word (codes "alse") st) t _ (on_word the_false 0x66 (codes "alse") refl) (begins_number (num.step num.start b) on_number)))))) e
  where
    begins_number : (o : Option num.State) → ((n : num.State) → o ≡ Some n → P (in_number n st)) → option_map (λ s. in_number s st) o ≡ Some t → P t
    begins_number None f e = absurd (none-some t e)
    begins_number (Some n) f e = subst P (same_Some (in_number n st) t e) (f n refl)

-- P holds where the bytes may follow in the state
abbrev Comes : List ℕ → Type 0 → State → Type 0
Comes w P t = Suffix t w → P

array_value : (st : List Frame) (b : ℕ) (w : List ℕ) → b ≡ 0x5B → ItemsThen st w → ValueThen st (b ∷ w)
array_value st b w e (x, y, f, h, k) = ([], 0x5B ∷ (x ++ 0x5D ∷ []), y, ap (λ c. c ∷ w) e ∙ ap (λ v. 0x5B ∷ v) (f ∙ sym (append_assoc x (0x5D ∷ []) y)), tt, an_array x refl h, k)

object_value : (st : List Frame) (b : ℕ) (w : List ℕ) → b ≡ 0x7B → MembersThen st w → ValueThen st (b ∷ w)
object_value st b w e (x, y, f, h, k) = ([], 0x7B ∷ (x ++ 0x7D ∷ []), y, ap (λ c. c ∷ w) e ∙ ap (λ v. 0x7B ∷ v) (f ∙ sym (append_assoc x (0x7D ∷ []) y)), tt, an_object x refl h, k)

value_begins : (st : List Frame) (t : State) (b : ℕ) (w : List ℕ) → begin_value st b ≡ Some t → Suffix t w → ValueThen st (b ∷ w)
value_begins st t b w = by_value (Comes w (ValueThen st (b ∷ w))) st t b (array_value st b w) (object_value st b w)
    (λ e h. (let (u, y, f, r, k) = h in ([], b ∷ u, y, ap (λ v. b ∷ v) f, tt, a_string ((str.opening-JsonString (b ∷ u)).0 (e, r)), k)))
    (λ l c r is e h. (let (y, f, k) = h in ([], b ∷ r, y, ap (λ v. b ∷ v) f, tt, a_word l (ap (λ x. x ∷ r) e ∙ is), k)))
    (λ s f h. (let (u, y, g, q, k) = h in ([], b ∷ u, y, ap (λ v. b ∷ v) g, tt, a_number ((num.start-JsonNumber (b ∷ u)).0 (num.machine.comes num.start s b u f q)), k)))

pub items_spaced : (b : ℕ) (x : List ℕ) → is_space b ≡ true → Items x → Items (b ∷ x)
items_spaced b x s (no_items h) = no_items (s, h)
items_spaced b x s (some_items a v c r e h i j k) = some_items (b ∷ a) v c r (ap (λ z. b ∷ z) e) (s, h) i j k

pub members_spaced : (b : ℕ) (x : List ℕ) → is_space b ≡ true → Members x → Members (b ∷ x)
members_spaced b x s (no_members h) = no_members (s, h)
members_spaced b x s (some_members a n c d v f r e h1 h2 h3 h4 h5 h6 h7) = some_members (b ∷ a) n c d v f r (ap (λ z. b ∷ z) e) (s, h1) h2 h3 h4 h5 h6 h7

pub after_spaced : (st : List Frame) (b : ℕ) (w : List ℕ) → is_space b ≡ true → After st w → After st (b ∷ w)
after_spaced [] b w s h = (s, h)
after_spaced (in_array ∷ st) b w s (a, r, y, e, h, k, q) = (b ∷ a, r, y, ap (λ z. b ∷ z) e, (s, h), k, q)
after_spaced (in_object ∷ st) b w s (a, r, y, e, h, k, q) = (b ∷ a, r, y, ap (λ z. b ∷ z) e, (s, h), k, q)

pub regroup : (a v b r q : List ℕ) → a ++ (v ++ (b ++ (r ++ q))) ≡ (a ++ (v ++ (b ++ r))) ++ q
regroup a v b r q = simp append_assoc

-- an item behind which the array is closed
abbrev pub ArrayParts : List Frame → List ℕ → Type 0
ArrayParts st w = (a v b r y : List ℕ) × (w ≡ (a ++ (v ++ (b ++ r))) ++ (0x5D ∷ y)) × AreSpaces a × Value v × AreSpaces b × More r × After st y

pub array_parts : (st : List Frame) (w : List ℕ) → ValueThen (in_array ∷ st) w → ArrayParts st w
array_parts st w (a, v, y, e, ha, hv, (b, r, y', e', hb, hr, k)) =
    (a, v, b, r, y', e ∙ (ap (λ z. a ++ (v ++ z)) e' ∙ regroup a v b r (0x5D ∷ y')), ha, hv, hb, hr, k)

pub items_from_value : (st : List Frame) (w : List ℕ) → ValueThen (in_array ∷ st) w → ItemsThen st w
items_from_value st w h = let (a, v, b, r, y, e, ha, hv, hb, hr, k) = array_parts st w h in
    (a ++ (v ++ (b ++ r)), y, e, some_items a v b r refl ha hv hb hr, k)

pub regroup_member : (a n b c v d r q : List ℕ) → a ++ (n ++ (b ++ (0x3A ∷ (c ++ (v ++ (d ++ (r ++ q))))))) ≡ (a ++ (n ++ (b ++ (0x3A ∷ (c ++ (v ++ (d ++ r))))))) ++ q
regroup_member a n b c v d r q = simp append_assoc

abbrev pub ObjectParts : List Frame → List ℕ → Type 0
ObjectParts st w = (a n b c v d r y : List ℕ) × (w ≡ (a ++ (n ++ (b ++ (0x3A ∷ (c ++ (v ++ (d ++ r))))))) ++ (0x7D ∷ y))
    × AreSpaces a × JsonString n × AreSpaces b × AreSpaces c × Value v × AreSpaces d × MoreMembers r × After st y

pub object_parts : (st : List Frame) (w : List ℕ) → NameThen st w → ObjectParts st w
object_parts st w (a, n, u, e1, ha, hn, (b, u', e2, hb, (c, v, y, e3, hc, hv, (d, r, y', e4, hd, hr, k)))) =
    (a, n, b, c, v, d, r, y', e1 ∙ (ap (λ z. a ++ (n ++ z)) (e2 ∙ ap (λ z. b ++ (0x3A ∷ z)) (e3 ∙ ap (λ z. c ++ (v ++ z)) e4)) ∙ regroup_member a n b c v d r (0x7D ∷ y')), ha, hn, hb, hc, hv, hd, hr, k)

pub members_from_name : (st : List Frame) (w : List ℕ) → NameThen st w → MembersThen st w
members_from_name st w h = let (a, n, b, c, v, d, r, y, e, ha, hn, hb, hc, hv, hd, hr, k) = object_parts st w h in
    (a ++ (n ++ (b ++ (0x3A ∷ (c ++ (v ++ (d ++ r)))))), y, e, some_members a n b c v d r refl ha hn hb hc hv hd hr, k)

name_begins : (st : List Frame) (b : ℕ) (w : List ℕ) → b ≡ 0x22 → Suffix (in_name str.inside st) w → NameThen st (b ∷ w)
name_begins st b w e (u, y, f, r, k) = ([], b ∷ u, y, ap (λ v. b ∷ v) f, tt, (str.opening-JsonString (b ∷ u)).0 (e, r), k)

after_byte_comes : (st : List Frame) (t : State) (b : ℕ) (w : List ℕ) → after_byte st b ≡ Some t → Suffix t w → After st (b ∷ w)
after_byte_comes [] t b w e = absurd (none-some t e)
after_byte_comes (in_array ∷ st) t b w e = by_byte (Comes w (After (in_array ∷ st) (b ∷ w))) b 0x2C (value (in_array ∷ st)) t _
    (λ q h. (let (a, v, c, x, y, f, ha, hv, hc, hx, k) = array_parts st w h in ([], 0x2C ∷ (a ++ (v ++ (c ++ x))), y, ap (λ z. z ∷ w) q ∙ ap (λ z. 0x2C ∷ z) f, tt, one_more a v c x refl ha hv hc hx, k)))
    (by_last (Comes w (After (in_array ∷ st) (b ∷ w))) b 0x5D (after st) t (λ g k. ([], [], w, ap (λ z. z ∷ w) g, tt, no_more refl, k))) e
after_byte_comes (in_object ∷ st) t b w e = by_byte (Comes w (After (in_object ∷ st) (b ∷ w))) b 0x2C (name st) t _
    (λ q h. (let (a, n, c, d, v, p, x, y, f, ha, hn, hc, hd, hv, hp, hx, k) = object_parts st w h in
    ([], 0x2C ∷ (a ++ (n ++ (c ++ (0x3A ∷ (d ++ (v ++ (p ++ x))))))), y, ap (λ z. z ∷ w) q ∙ ap (λ z. 0x2C ∷ z) f, tt, one_more_member a n c d v p x refl ha hn hc hd hv hp hx, k)))
    (by_last (Comes w (After (in_object ∷ st) (b ∷ w))) b 0x7D (after st) t (λ g k. ([], [], w, ap (λ z. z ∷ w) g, tt, no_more_members refl, k))) e

after_comes : (st : List Frame) (t : State) (b : ℕ) (w : List ℕ) → after_step st b ≡ Some t → Suffix t w → After st (b ∷ w)
after_comes st t b w = either (Comes w (After st (b ∷ w))) (is_space b) (after st) t _ (after_spaced st b w) (after_byte_comes st t b w)

colon_comes : (st : List Frame) (t : State) (b : ℕ) (w : List ℕ) → colon_step st b ≡ Some t → Suffix t w → ColonThen st (b ∷ w)
colon_comes st t b w = either (Comes w (ColonThen st (b ∷ w))) (is_space b) (colon st) t _ (λ q h. (let (c, u, f, i, k) = h in (b ∷ c, u, ap (λ z. b ∷ z) f, (q, i), k)))
    (by_last (Comes w (ColonThen st (b ∷ w))) b 0x3A (value (in_object ∷ st)) t (λ g k. ([], w, ap (λ z. z ∷ w) g, tt, k)))

pub comes : (s t : State) (b : ℕ) (w : List ℕ) → step s b ≡ Some t → Suffix t w → Suffix s (b ∷ w)
comes (value st) t b w e = either (Comes w (ValueThen st (b ∷ w))) (is_space b) (value st) t _ (λ q r. (let (a, v, y, f, h, k, l) = r in (b ∷ a, v, y, ap (λ z. b ∷ z) f, (q, h), k, l))) (value_begins st t b w) e
comes (items st) t b w e = let P : State → Type 0 = Comes w (ItemsThen st (b ∷ w)) in
    either P (is_space b) (items st) t _ (λ q r. (let (x, y, f, h, k) = r in (b ∷ x, y, ap (λ z. b ∷ z) f, items_spaced b x q h, k)))
    (by_byte P b 0x5D (after st) t _ (λ q r. ([], w, ap (λ z. z ∷ w) q, no_items tt, r)) (λ g r. items_from_value st (b ∷ w) (value_begins (in_array ∷ st) t b w g r))) e
comes (members st) t b w e = let P : State → Type 0 = Comes w (MembersThen st (b ∷ w)) in
    either P (is_space b) (members st) t _ (λ q r. (let (x, y, f, h, k) = r in (b ∷ x, y, ap (λ z. b ∷ z) f, members_spaced b x q h, k)))
    (by_byte P b 0x7D (after st) t _ (λ q r. ([], w, ap (λ z. z ∷ w) q, no_members tt, r)) (by_last P b 0x22 (in_name str.inside st) t (λ h k. members_from_name st (b ∷ w) (name_begins st b w h k)))) e
comes (name st) t b w e = either (Comes w (NameThen st (b ∷ w))) (is_space b) (name st) t _ (λ q r. (let (a, n, u, f, h, k, l) = r in (b ∷ a, n, u, ap (λ z. b ∷ z) f, (q, h), k, l)))
    (by_last (Comes w (NameThen st (b ∷ w))) b 0x22 (in_name str.inside st) t (name_begins st b w)) e
comes (colon st) t b w e = colon_comes st t b w e
comes (after st) t b w e = after_comes st t b w e
comes (in_number s st) t b w e = by_token (Comes w (Suffix (in_number s st) (b ∷ w))) (λ v. in_number v st) (num.step s b) (num.accepts s) (after_step st b) t
    (λ v f r. (let (u, y, h, q, k) = r in (b ∷ u, y, ap (λ z. b ∷ z) h, num.machine.comes s v b u f q, k))) (λ p f r. ([], b ∷ w, refl, (num.machine.ends s).1 p, after_comes st t b w f r)) e
comes (in_string s st) t b w e = by_token (Comes w (Suffix (in_string s st) (b ∷ w))) (λ v. in_string v st) (str.step s b) (str.accepts s) (after_step st b) t
    (λ v f r. (let (u, y, h, q, k) = r in (b ∷ u, y, ap (λ z. b ∷ z) h, str.machine.comes s v b u f q, k))) (λ p f r. ([], b ∷ w, refl, (str.machine.ends s).1 p, after_comes st t b w f r)) e
comes (in_name s st) t b w e = by_token (Comes w (Suffix (in_name s st) (b ∷ w))) (λ v. in_name v st) (str.step s b) (str.accepts s) (colon_step st b) t
    (λ v f r. (let (u, y, h, q, k) = r in (b ∷ u, y, ap (λ z. b ∷ z) h, str.machine.comes s v b u f q, k))) (λ p f r. ([], b ∷ w, refl, (str.machine.ends s).1 p, colon_comes st t b w f r)) e
comes (in_word [] st) t b w e = λ r. (b ∷ w, refl, after_comes st t b w e r)
comes (in_word (c ∷ x) st) t b w e = by_last (Comes w (Suffix (in_word (c ∷ x) st) (b ∷ w))) b c (in_word x st) t (λ h r. (let (y, f, k) = r in (y, ap (λ z. z ∷ w) h ∙ ap (λ z. c ∷ z) f, k))) e

pub wrong : {P : Type 0} → false ≡ true → P
wrong e = absurd (true≢false (sym e))

pub empty_after : (st : List Frame) → is_nil st ≡ true → After st []
empty_after [] h = tt
empty_after (f ∷ st) h = wrong h

pub ends_well : (s : State) → IsTrue (accepts s) → Suffix s []
ends_well (after st) h = empty_after st h
ends_well (in_number s st) h = let (p, q) = and_parts (num.accepts s) (is_nil st) h in ([], [], refl, (num.machine.ends s).1 p, empty_after st q)
ends_well (in_string s st) h = let (p, q) = and_parts (str.accepts s) (is_nil st) h in ([], [], refl, (str.machine.ends s).1 p, empty_after st q)
ends_well (in_word [] st) h = ([], refl, empty_after st h)
ends_well (in_word (c ∷ w) st) h = wrong h
ends_well _ h = wrong h

-- what the machine accepts is in the grammar
pub sound : (s : State) (w : List ℕ) → Accepts step accepts s w → Suffix s w
sound s [] h = ends_well s h
sound s (b ∷ w) (t, e, r) = comes s t b w e (sound t w r)

-- ---- trees for the grammar without offsets

mutual
  pub spells_value : (w : List ℕ) → Value w → (at : ℕ) → (t : Tree) × Spells at w t
  spells_value w (a_word l e) at = (literal at l, (refl, e))
  spells_value w (a_number (n, h, e)) at = (number at n, (refl, (h, e)))
  spells_value w (a_string (cs, h, e)) at = (text at cs, (refl, (h, e)))
  spells_value w (an_array v e h) at = let (ts, s) = spells_items v h (at + 1) in (array at ts, parts.array_made ts at at w (refl, (v, e, s)))
  spells_value w (an_object v e h) at = let (ms, s) = spells_members v h (at + 1) in (object at ms, parts.object_made ms at at w (refl, (v, e, s)))

  pub spells_items : (w : List ℕ) → Items w → (at : ℕ) → (ts : Trees) × SpellsItems at w ts
  spells_items w (no_items h) at = (no_trees, h)
  spells_items w (some_items a v b r e ha hv hb hr) at =
      let (t, s) = spells_value v hv (at + length a) in let (ts, q) = spells_more r hr (at + length a + length v + length b) in
      (tree_and t ts, parts.items_made t ts at w (a, v, b, r, e, ha, hb, s, q))

  pub spells_more : (w : List ℕ) → More w → (at : ℕ) → (ts : Trees) × SpellsFurtherItems at w ts
  spells_more w (no_more e) at = (no_trees, e)
  spells_more w (one_more a v b r e ha hv hb hr) at =
      let (t, s) = spells_value v hv (at + 1 + length a) in let (ts, q) = spells_more r hr (at + 1 + length a + length v + length b) in
      (tree_and t ts, parts.further_items_made t ts at w (a ++ (v ++ (b ++ r)), e, (a, v, b, r, refl, ha, hb, s, q)))

  pub spells_members : (w : List ℕ) → Members w → (at : ℕ) → (ms : TreeMembers) × SpellsMembers at w ms
  spells_members w (no_members h) at = (no_tree_members, h)
  spells_members w (some_members a n b c v d r e ha (cs, hn, f) hb hc hv hd hr) at =
      let i : ℕ = at + length a in let j : ℕ = i + length n + length b + 1 in
      let (t, s) = spells_value v hv (j + length c) in let (ms, q) = spells_more_members r hr (j + length c + length v + length d) in
      (member_and cs i t ms, parts.members_made cs i t ms at w (a, n, b, 0x3A ∷ (c ++ (v ++ (d ++ r))), e, ha, hb, (refl, (hn, f)), (c ++ (v ++ (d ++ r)), refl, (c, v, d, r, refl, hc, hd, s, q))))

  pub spells_more_members : (w : List ℕ) → MoreMembers w → (at : ℕ) → (ms : TreeMembers) × SpellsFurtherMembers at w ms
  spells_more_members w (no_more_members e) at = (no_tree_members, e)
  spells_more_members w (one_more_member a n b c v d r e ha (cs, hn, f) hb hc hv hd hr) at =
      let i : ℕ = at + 1 + length a in let j : ℕ = i + length n + length b + 1 in
      let (t, s) = spells_value v hv (j + length c) in let (ms, q) = spells_more_members r hr (j + length c + length v + length d) in (
        member_and cs i t ms,
        parts.further_members_made cs i t ms at w (
          a ++ (n ++ (b ++ (0x3A ∷ (c ++ (v ++ (d ++ r)))))),
          e,
          (a, n, b, 0x3A ∷ (c ++ (v ++ (d ++ r))), refl, ha, hb, (refl, (hn, f)), (c ++ (v ++ (d ++ r)), refl, (c, v, d, r, refl, hc, hd, s, q))),
        ),
      )

pub text_from : (at : ℕ) (w : List ℕ) → ValueThen [] w → JsonText at w
text_from at w (a, v, y, e, ha, hv, hy) = let (t, s) = spells_value v hv (at + length a) in
    (t, parts.text_made t at w (a, v, y, [], e ∙ ap (λ z. a ++ (v ++ z)) (sym (append-nil y)), ha, hy, s, refl))

-- ---- bytes

pub chosen_by : (o : Option State) (s : State) (b : ℕ) → is_space b ≡ true → cond (is_space b) (Some s) o ≡ Some s
chosen_by o s b h = ap (λ c. cond c (Some s) o) h

pub same_byte : (c : ℕ) → (c == c) ≡ true
same_byte c = grind arith

pub opening_split : (w : List ℕ) → JsonString w → (u : List ℕ) × (w ≡ 0x22 ∷ u) × str.Rest str.inside u
opening_split [] h = absurd ((str.opening-JsonString []).1 h)
opening_split (c ∷ u) h = let (e, r) = (str.opening-JsonString (c ∷ u)).1 h in (u, ap (λ z. z ∷ u) e, r)

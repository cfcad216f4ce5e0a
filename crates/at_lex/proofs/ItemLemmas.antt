-- The items that a reader finds: leads, strings and runs, whole, refused or begun.
-- For most public calls of the crate, `copy`, `from_slice`, `lex` among them.
use Rattle.std.proofs.Common.{◌≡◌, ◌≢◌, ℕ, zero, suc, ◌+◌, ◌-◌, ◌<◌, ◌≤◌, ◌⊎◌, inl, inr, List, [], ◌∷◌, ◌++◌, length, take, drop, Option, Some, None, Bool, true, false, cond, ◌==◌, not, refl, sym, ◌∙◌, ap, subst, arith, length-drop, take-append-drop, take-take, true≢false, drop-drop}
use Rattle.std.proofs.Math.ListN.{drop_of_length-le}
use native.Mathlib.Decide.{dec_lt}
use Rattle.std.proofs.Math.Seq.{take-add, drop-append-add}
use Rattle.std.proofs.lemmas.List.{take_all, length-take-le}
use Rattle.std.proofs.lemmas.Option.{none-some, same_Some}
use Rattle.at_text.specs.declared.prefixes.Taken.{Taken}
use Rattle.at_text.specs.Prefix.{Viable, TakesLongest}
use Rattle.at_text.specs.Texts.{is_run}
use Rattle.at_text.proofs.Machine.{run}
use Rattle.at_lex.specs.declared.tokens.Start.{Start}
use Rattle.at_lex.specs.declared.tokens.Start.TheVariants.{Out, InString}
use Rattle.at_lex.specs.declared.tokens.Lead.{Lead}
use Rattle.at_lex.specs.declared.tokens.Lead.TheVariants as leads
use Rattle.at_lex.specs.Strings.{JsonString}
use Rattle.at_lex.specs.StringStates.{State, inside, closed, step, accepts, lexical_of, StopsAt}
use Rattle.at_lex.specs.declared.tokens.Pend.{Pend}
use Rattle.at_lex.specs.declared.tokens.Token.{Token}
use Rattle.at_lex.specs.declared.tokens.TokenKind.{TokenKind}
use Rattle.at_lex.specs.declared.tokens.Item.{Item}
use Rattle.at_lex.specs.declared.tokens.Item.TheVariants.{Whole, End}
use Rattle.at_lex.specs.Spans.{begins_run, AreRun, AreSpaces, EndsRun, IsText, IsRefused, IsKind, IsToken, AreTokens, IsPend, left_behind, end_behind, ClosesText, StaysInText, end_of, IsLead, HasItems}
use Rattle.at_lex.specs.Stream.{Left, IsFirstItem, IsBegun, GivesItem, HasLeft, BeginsItems}
use Rattle.std.specs.List.{slice_get}
use Rattle.at_lex.specs.Fronts.{IsFront}
use Rattle.at_lex.proofs.FrontLemmas.{front_all, front_behind, run_stops}
use Rattle.at_lex.proofs.RunBytes.{run_append, some_run, some_bytes, run_out, spaces_out}
use Rattle.at_lex.proofs.Texts.{end_append, stays_append, stays_closes, closes_end, Reaches, read_text, lexical_run, is_within, within_no_out}
use Rattle.at_lex.proofs.JsonString.{string_at}

-- ---- refused

cut_no_word : (L : List ℕ → Type 0) (w : List ℕ) (t : Taken) (m : ℕ) → TakesLongest L w t → t.len < m → m ≤ length w → ¬ (L (take m w))
cut_no_word L w t m h less high word =
    let all : take (t.len + 1) w ++ drop (t.len + 1) (take m w) ≡ take m w =
    ap (λ v. v ++ drop (t.len + 1) (take m w)) (sym (take-take (t.len + 1) m w (omega (arith, less)))) ∙ take-append-drop (t.len + 1) (take m w) in
    h.longest.longest (omega (arith, less)) (drop (t.len + 1) (take m w), subst L (sym all) word)

-- bytes that go on behind their longest viable prefix, or end with one that is no word, are refused
pub refused : (L : List ℕ → Type 0) (w : List ℕ) (t : Taken) (m : ℕ) → TakesLongest L w t → t.len ≤ m → m ≤ length w → (t.len < m) ⊎ (t.whole ≡ false) → IsRefused L (take m w) t.len
refused L w t m h low high why = (
  no_word why,
  record {
    fits = (let e = length-take-le m w high in omega (arith, e));
    front = subst (Viable L) (sym (take-take t.len m w low)) h.longest.front;
    longest = λ below viable. let e = length-take-le m w high in
        let less : t.len < m = omega (arith, e, below) in
        h.longest.longest (omega (arith, less)) (subst (Viable L) (take-take (t.len + 1) m w (omega (arith, less))) viable);
  },
)
  where
    no_word : (t.len < m) ⊎ (t.whole ≡ false) → ¬ (L (take m w))
    no_word (inl less) word = cut_no_word L w t m h less high word
    no_word (inr e) word = elim (dec_lt t.len m) [
      | yes less ↦ cut_no_word L w t m h less high word
      | no above ↦ (let same : m ≡ t.len = omega (arith, low, above) in true≢false (sym (h.whole.1 (subst (λ n. L (take n w)) same word)) ∙ e))
    ]

-- ---- runs

-- a run with a byte behind it
pub ends_run : (w : List ℕ) (n k : ℕ) → begins_run w ≡ true → n ≤ length w → AreRun (take n w) → IsFront is_run (take (length w - n) (drop n w)) k → n + k < length w
    → EndsRun (take (n + k) w) (drop (n + k) w)
ends_run w n k begins fits h f below =
    let g = front_behind is_run w n k f in
    let all : AreRun (take (n + k) w) = subst AreRun (sym (take-add n k w)) (run_append (take n w) (take k (drop n w)) h (front_all is_run (drop n w) k g)) in
    let behind : begins_run (drop (n + k) w) ≡ false = subst (λ v. begins_run v ≡ false) (drop-drop k n w) (run_stops (drop n w) k g.stops) in
    let some : 0 < n + k = positive (n + k) refl behind in (
      some_run (take (n + k) w) (let e = length-take-le (n + k) w (omega (arith, below)) in omega (arith, e)) all,
      some_bytes (drop (n + k) w) (omega (arith, length-drop (n + k) w)),
      ap not behind,
    )
  where
    positive : (m : ℕ) → m ≡ n + k → begins_run (drop (n + k) w) ≡ false → 0 < n + k
    positive zero e b = absurd (true≢false (sym begins ∙ (ap (λ m. begins_run (drop m w)) e ∙ b)))
    positive (suc m) e b = omega (arith, e)

-- a run that reaches the end
pub all_run : (w : List ℕ) (n k : ℕ) → AreRun (take n w) → IsFront is_run (take (length w - n) (drop n w)) k → n + k ≡ length w → AreRun w
all_run w n k h f e =
    let g = front_behind is_run w n k f in
    subst AreRun (take_all (n + k) w (omega (arith, e))) (subst AreRun (sym (take-add n k w)) (run_append (take n w) (take k (drop n w)) h (front_all is_run (drop n w) k g)))

-- ---- strings

-- what a reader of a string has passed: the quote and bytes behind it
pub record HasBegun (w : List ℕ) (n : ℕ) (t : State) : Type 0 where
  pub tail : List ℕ
  pub count : ℕ
  pub whole : w ≡ 0x22 ∷ tail
  pub len : n ≡ suc count
  pub goes : run step inside (take count tail) ≡ Some t

no_opening : (n : ℕ) → ◌≡◌ {A = Option State} (Some inside) None → ⊥
no_opening n e = none-some inside (sym e)

pub has_begun : (w u : List ℕ) (n : ℕ) (t : State) → w ≡ 0x22 ∷ u → StopsAt w n t → HasBegun w n t
has_begun w u n t h k = grind arith

begun_bytes : (w : List ℕ) (n : ℕ) (t : State) (h : HasBegun w n t) → take n w ≡ 0x22 ∷ take h.count h.tail
begun_bytes w n t h = ap (λ v. take n v) h.whole ∙ ap (λ m. take m (0x22 ∷ h.tail)) h.len

left_bytes : (w : List ℕ) (n : ℕ) (t : State) (h : HasBegun w n t) → drop n w ≡ drop h.count h.tail
left_bytes w n t h = ap (λ v. drop n v) h.whole ∙ ap (λ m. drop m (0x22 ∷ h.tail)) h.len

begun_reaches : (w : List ℕ) (n : ℕ) (t : State) (h : HasBegun w n t) → Reaches t InString (take h.count h.tail)
begun_reaches w n t h = read_text t (take h.count h.tail) h.goes

-- the lexical state behind the bytes that are passed
begun_state : (w : List ℕ) (n : ℕ) (t : State) (h : HasBegun w n t) → end_of InString (take h.count h.tail) ≡ lexical_of t
begun_state w n t h = lexical_run inside t (take h.count h.tail) h.goes

taken_string : (w : List ℕ) (n : ℕ) (t : State) → StopsAt w n t → TakesLongest JsonString w (record { len = n; whole = accepts t })
taken_string w n t s = string_at t w n s.fits s.goes s.stops

closed_is : (t : State) → accepts t ≡ true → is_within t ≡ true → ⊥
closed_is t h k = grind arith

pub whole_text : (w u : List ℕ) (n : ℕ) (t : State) → w ≡ 0x22 ∷ u → StopsAt w n t → accepts t ≡ true → IsText (take n w) × JsonString (take n w)
whole_text w u n t e s a = let h = has_begun w u n t e s in (
  (take h.count h.tail, begun_bytes w n t h, elim (begun_reaches w n t h) [ inl (is, closes) ↦ closes | inr (is, stays) ↦ absurd (closed_is t a is) ]),
  (taken_string w n t s).whole.0 a,
)

unfinished_within : (w : List ℕ) (n : ℕ) (t : State) → HasBegun w n t → accepts t ≡ false → (is_within t ≡ true)
unfinished_within w n t h a = elim (begun_reaches w n t h) [ inl (is, closes) ↦ absurd (true≢false (sym (ap accepts is) ∙ a)) | inr (is, stays) ↦ is ]

unfinished_stays : (w : List ℕ) (n : ℕ) (t : State) (h : HasBegun w n t) → accepts t ≡ false → StaysInText InString (take h.count h.tail)
unfinished_stays w n t h a = elim (begun_reaches w n t h) [ inl (is, closes) ↦ absurd (true≢false (sym (ap accepts is) ∙ a)) | inr (is, stays) ↦ stays ]

pub unfinished_in_text : (w u : List ℕ) (n : ℕ) (t : State) → w ≡ 0x22 ∷ u → StopsAt w n t → accepts t ≡ false → lexical_of t ≢ Out
unfinished_in_text w u n t e s a = within_no_out t (unfinished_within w n t (has_begun w u n t e s) a)

some_closing : (s : Start) (k : ℕ) (v : List ℕ) → s ≢ Out → ClosesText s (take k v) → 0 < k
some_closing s k v h l = grind arith

-- a string that is refused at the place n and is closed by k bytes more
pub refused_text : (w u : List ℕ) (n k : ℕ) (t : State) → w ≡ 0x22 ∷ u → StopsAt w n t → accepts t ≡ false → n + k ≤ length w → ClosesText (lexical_of t) (take k (drop n w))
    → IsText (take (n + k) w) × IsRefused JsonString (take (n + k) w) n × (n < length (take (n + k) w))
refused_text w u n k t e s a fits closes =
    let h = has_begun w u n t e s in
    let some : 0 < k = some_closing (lexical_of t) k (drop n w) (within_no_out t (unfinished_within w n t h a)) closes in
    let split : take (n + k) w ≡ 0x22 ∷ (take h.count h.tail ++ take k (drop n w)) = take-add n k w ∙ ap (λ v. v ++ take k (drop n w)) (begun_bytes w n t h) in
    let P : Start → Type 0 = λ x. ClosesText x (take k (drop n w)) in (
      (take h.count h.tail ++ take k (drop n w), split, stays_closes InString (take h.count h.tail) (take k (drop n w)) (unfinished_stays w n t h a) (subst P (sym (begun_state w n t h)) closes)),
      refused JsonString w (record { len = n; whole = accepts t }) (n + k) (taken_string w n t s) (omega arith) fits (inl (omega (arith, some))),
      (let l = length-take-le (n + k) w fits in omega (arith, l, some)),
    )

-- a string that no byte closes
pub open_text : (w u : List ℕ) (n : ℕ) (t : State) → w ≡ 0x22 ∷ u → StopsAt w n t → accepts t ≡ false → StaysInText (lexical_of t) (drop n w)
    → ((v : List ℕ) × (w ≡ 0x22 ∷ v) × StaysInText InString v) × (end_of (lexical_of t) (drop n w) ≡ end_of Out w)
open_text w u n t e s a stays =
    let h = has_begun w u n t e s in
    let P : Start → Type 0 = λ x. StaysInText x (drop h.count h.tail) in
    let Q : List ℕ → Type 0 = λ v. StaysInText (lexical_of t) v in
    let all = take-append-drop h.count h.tail in
    let on : StaysInText InString (take h.count h.tail ++ drop h.count h.tail) =
    stays_append InString (take h.count h.tail) (drop h.count h.tail) (unfinished_stays w n t h a) (subst P (sym (begun_state w n t h)) (subst Q (left_bytes w n t h) stays)) in
    let R : List ℕ → Type 0 = λ v. StaysInText InString v in
    let state : end_of InString h.tail ≡ end_of (lexical_of t) (drop n w) =
    ap (end_of InString) (sym all) ∙ (end_append InString (take h.count h.tail) (drop h.count h.tail)
    ∙ (ap (λ (x : Start). end_of x (drop h.count h.tail)) (begun_state w n t h) ∙ ap (end_of (lexical_of t)) (sym (left_bytes w n t h)))) in
    ((h.tail, h.whole, subst R all on), sym state ∙ sym (ap (end_of Out) h.whole))

-- ---- leads

pub closes_lead : (s : Start) (at i : ℕ) (u after : List ℕ) → s ≢ Out → ClosesText s u → i ≡ at + length u → IsLead s at u (leads.TextEnds i) after
closes_lead s at i u after h k l = grind arith

-- what begins with a quote
pub quote_first : (w : List ℕ) → slice_get w 0 ≡ Some 0x22 → (u : List ℕ) × (w ≡ 0x22 ∷ u)
quote_first [] h = absurd (none-some 0x22 h)
quote_first (b ∷ w) h = (w, ap (λ c. c ∷ w) (same_Some b 0x22 h))

-- ---- how a piece begins outside text

front_run : (w : List ℕ) (n : ℕ) → IsFront is_run w n → AreRun (take n w)
front_run w n h = front_all is_run w n h

pub lead_none : (at : ℕ) (w : List ℕ) (n : ℕ) → IsFront is_run w n → n ≡ 0 → IsLead Out at (take n w) leads.Nothing (drop n w)
lead_none at w n h k = grind arith

pub lead_all : (at : ℕ) (w : List ℕ) (n : ℕ) → IsFront is_run w n → n ≢ 0 → n ≡ length w → IsLead Out at (take n w) leads.AllRun (drop n w)
lead_all at w n h some e = (some_run (take n w) (let l = length-take-le n w h.fits in omega (arith, l, some)) (front_run w n h), drop_of_length-le w (let k : length w ≤ n = omega (arith, e) in k))

pub lead_ends : (at : ℕ) (w : List ℕ) (n : ℕ) → IsFront is_run w n → n ≢ 0 → n ≢ length w → IsLead Out at (take n w) (leads.RunEnds (at + n)) (drop n w)
lead_ends at w n h some e = let l = length-take-le n w h.fits in let left = length-drop n w in (
  (let k : at + n ≡ at + length (take n w) = omega (arith, l) in k),
  (some_run (take n w) (omega (arith, l, some)) (front_run w n h), some_bytes (drop n w) (let f = h.fits in omega (arith, left, f, e)), ap not (run_stops w n h.stops)),
)

pub lead_begins : (at : ℕ) (w : List ℕ) (n : ℕ) (lead : Lead) → IsFront is_run w n → IsLead Out at (take n w) lead (drop n w) → IsBegun Out at w lead (record { at = at + n; rest = drop n w; state = Out })
lead_begins at w n lead h k = (take n w, sym (take-append-drop n w), k, (let l = length-take-le n w h.fits in let e : at + n ≡ at + length (take n w) = omega (arith, l) in e), sym (run_out (take n w) (front_run w n h)))

-- ---- the item behind white space

pub gives_whole : (old : Left) (n : ℕ) (t : Token) → old.state ≡ Out → n ≤ length old.rest → AreSpaces (take n old.rest) → IsFirstItem (old.at + n) (drop n old.rest) (Whole t)
    → GivesItem old (Whole t) (record { at = t.to; rest = left_behind t.kind (drop (t.to - old.at) old.rest); state = Out })
gives_whole old n t out fits spaces (v, r, e, (from, to, kind)) =
    let a = take n old.rest in
    let l : length a ≡ n = length-take-le n old.rest fits in
    let split : old.rest ≡ a ++ (v ++ r) = sym (take-append-drop n old.rest) ∙ ap (λ x. a ++ x) e in
    let shift : old.at + n ≡ old.at + length a = omega (arith, l) in
    let width : t.to - old.at ≡ length a + (length v + 0) = omega (arith, to, l) in
    let left : drop (t.to - old.at) old.rest ≡ r =
    ap (λ k. drop k old.rest) width ∙ (ap (drop (length a + (length v + 0))) split ∙ (drop-append-add a (v ++ r) (length v + 0) ∙ (drop-append-add v r 0 ∙ drop_none r))) in
    (a, v, r, out, split, spaces, subst (λ i. IsToken i v r t) shift (from, to, kind), ap (λ x. record { at = t.to; rest = left_behind t.kind x; state = Out }) left)
  where
    drop_none : (x : List ℕ) → drop 0 x ≡ x
    drop_none [] = refl
    drop_none (b ∷ x) = refl

pub gives_end : (old : Left) (n : ℕ) (pend : Pend) (end : Start) → n ≤ length old.rest → AreSpaces (take n old.rest) → old.state ≡ Out → IsFirstItem (old.at + n) (drop n old.rest) (End pend end)
    → GivesItem old (End pend end) old
gives_end old n pend end fits spaces out (is, state) =
    let a = take n old.rest in
    let l : length a ≡ n = length-take-le n old.rest fits in
    let shift : old.at + n ≡ old.at + length a = omega (arith, l) in
    let all : a ++ drop n old.rest ≡ old.rest = take-append-drop n old.rest in
    let last : end_of Out (drop n old.rest) ≡ end_of old.state old.rest =
    ap (λ (s : Start). end_of s (drop n old.rest)) (sym (spaces_out a spaces)) ∙ (sym (end_append Out a (drop n old.rest)) ∙ (ap (end_of Out) all ∙ ap (λ (s : Start). end_of s old.rest) (sym out))) in
    (a, drop n old.rest, sym all, spaces, subst (λ i. IsPend i (drop n old.rest) pend) shift is, state ∙ last, refl)

-- where bytes are left, the reader is outside text
pub out_left : (s : Start) (w : List ℕ) → (s ≢ Out → w ≡ []) → (length w == 0) ≡ false → s ≡ Out
out_left s w h k = grind arith

-- ---- items as a list

-- a whole token leads outside text again
kind_out : (at : ℕ) (v r : List ℕ) (kind : TokenKind) → IsKind at v r kind → end_of Out v ≡ Out
kind_out at v r kind h = grind (arith, closes_end, run_out)

past_token : (a v r : List ℕ) (at : ℕ) (kind : TokenKind) → AreSpaces a → IsKind at v r kind → end_of Out (a ++ (v ++ r)) ≡ end_of Out r
past_token a v r at kind h k = grind (arith, end_append, spaces_out, kind_out)

same_end : (b : Bool) → ◌≡◌ {A = Start} (cond b Out Out) Out
same_end b = grind arith

-- a token in front of what is left behind it
whole_items : (old : Left) (t : Token) (a v r : List ℕ) (ts : List Token) (pend : Pend) (end : Start) → old.state ≡ Out → old.rest ≡ a ++ (v ++ r) → AreSpaces a → IsToken (old.at + length a) v r t
    → AreTokens t.to (left_behind t.kind r) ts pend → end ≡ end_behind ts (end_of Out (left_behind t.kind r)) → HasLeft old (t ∷ ts) pend end
whole_items old t a v r ts pend end h k l m n p = grind (arith, past_token, same_end)

pub item_begins : (old new : Left) (item : Item) → GivesItem old item new → BeginsItems old item new
item_begins old new (Whole t) (a, v, r, out, split, spaces, is, e) = λ ts pend end h.
    let P : Left → Type 0 = λ l. HasLeft l ts pend end in
    let (tokens, state) = subst P e h in
    whole_items old t a v r ts pend end out split spaces is tokens state
item_begins old new (End pend end) (a, v, split, spaces, is, state, e) = ((a, v, split, spaces, is), state)

-- the lead and what is left behind it are the items of the piece
pub all_items : (s : Start) (at : ℕ) (w : List ℕ) (lead : Lead) (left : Left) (tokens : List Token) (pend : Pend) (end : Start) → IsBegun s at w lead left → HasLeft left tokens pend end
    → HasItems s at w (record { lead = lead; tokens = tokens; pend = pend; end = end })
all_items s at w lead left tokens pend end h k = grind (arith, end_append)

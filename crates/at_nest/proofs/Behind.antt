-- What goes on behind a span, from the state in which it ends.
-- For `merge`.
use Rattle.std.proofs.Common.{◌≡◌, ◌≢◌, ℕ, ◌+◌, ◌-◌, ◌≤◌, ◌==◌, false, Option, Some, None, List, [], ◌∷◌, ◌++◌, refl, sym, ◌∙◌, ap, subst, arith, append_assoc, length, length-append, take, drop}
use Rattle.std.proofs.lemmas.Bool.{ne_eqb}
use Rattle.std.proofs.lemmas.List.{take-append-drop, take-take, drop-take, drop-drop, length-take-le, length-drop}
use Rattle.at_text.specs.Spans.{span_of, AreNeighbours}
use Rattle.at_lex.specs.Spans.{after_byte, end_of, ClosesText, StaysInText}
use Rattle.at_lex.specs.declared.tokens.Start.{Start}
use Rattle.at_lex.specs.declared.tokens.Start.TheVariants.{Out, InString, InEscape}
use Rattle.at_nest.specs.declared.fragments.Escape.{Escape}
use Rattle.at_nest.specs.declared.fragments.Escape.TheVariants.{AsString, Unread}
use Rattle.at_nest.specs.declared.fragments.Parts.{Parts}
use Rattle.at_nest.specs.declared.fragments.Fragment.{Fragment}
use Rattle.at_nest.specs.declared.fragments.Slot.{Slot}
use Rattle.at_nest.specs.declared.fragments.Slot.TheVariants as slot
use Rattle.at_nest.specs.declared.variants.Variant.{Variant}
use Rattle.at_nest.specs.declared.variants.Variant.TheVariants.{AllLead, Whole, Broken}
use Rattle.at_nest.specs.KeptItems.{Content, IsPartOf}
use Rattle.at_nest.specs.VariantMeanings.{HoldsVariant, HaveUnion}
use Rattle.at_nest.specs.FragmentMeanings.{HoldsEscape, HoldsParts, HoldsSome, StandsFor, parts_of}
use Rattle.at_nest.specs.Slots.{end_in, slot_in, unless_taken, slot_behind, Stays, HoldsIn, CanTake, Takes, GoesOn, AreBeside}
use Rattle.at_nest.proofs.UnionsHeld.{broken_union}
use Rattle.at_nest.proofs.WholeTexts.{part_part}

-- ---- an escaped byte that is no quote and no backslash

after_plain : (b : ℕ) → b ≢ 0x22 → b ≢ 0x5C → after_byte InString b ≡ InString
after_plain b q e = let p : (b == 0x22) ≡ false = ne_eqb b 0x22 q in let r : (b == 0x5C) ≡ false = ne_eqb b 0x5C e in rw (r, p) refl

closes_escaped : (b : ℕ) (o u more : List ℕ) → after_byte InString b ≡ InString → b ∷ o ≡ u ++ more → ClosesText InString u → ClosesText InEscape u
closes_escaped b o [] more p e h = absurd h
closes_escaped b o (c ∷ u) more p e h = let same : c ≡ b = cc in subst (λ s. ClosesText s u) (ap (after_byte InString) same ∙ p) h

pub escape_union : (e : Escape) (w x : List ℕ) → HoldsEscape w e → HoldsEscape (w ++ x) e
escape_union AsString w x (b, o, e, q, s) = (b, o ++ x, ap (λ z. z ++ x) e, q, s)
escape_union Unread w x h = h

-- ---- the bytes of a part

behind_part : (bytes : List ℕ) (at : ℕ) (w x : List ℕ) → IsPartOf bytes at (w ++ x) → IsPartOf bytes (at + length w) x
behind_part bytes at w x (y, z, e, l) = (y ++ w, z, e ∙ (ap (λ r. y ++ r) (append_assoc w x z) ∙ sym (append_assoc y w (x ++ z))), ap (λ n. n + length w) l ∙ sym (length-append y w))

module _ {X : Type 0} (IsKept : X → Content → Type 0) where
  escaped : (at b : ℕ) (o : List ℕ) (v : Variant X) → after_byte InString b ≡ InString → HoldsVariant IsKept InString at (b ∷ o) v → HoldsVariant IsKept InEscape at (b ∷ o) v
  escaped at b o (AllLead end) p h = (subst (λ s. StaysInText s o) p h.0, h.1 ∙ ap (λ s. end_of s o) p)
  escaped at b o (Whole lead body pend end) p h = let w = h.is_whole in record {
    first = h.first;
    form = h.form;
    last = h.last;
    is_whole = record { middle = w.middle; split = w.split; lead = closes_escaped b o h.first (w.middle ++ h.last) p w.split w.lead; form = w.form; pending = w.pending; apart = w.apart; ended = w.ended };
    is_shown = h.is_shown;
    lead_at = h.lead_at;
    pend_at = h.pend_at;
    end_is = h.end_is ∙ ap (λ s. end_of s o) p;
  }
  escaped at b o (Broken lead body halt) p h = let w = h.is_broken in record {
    first = h.first;
    form = h.form;
    is_broken = record { more = w.more; split = w.split; lead = closes_escaped b o h.first w.more p w.split w.lead; stop = w.stop };
    is_shown = h.is_shown;
    lead_at = h.lead_at;
  }

  pub as_string : (at : ℕ) (w : List ℕ) (v : Variant X) → HoldsEscape w AsString → HoldsVariant IsKept InString at w v → HoldsVariant IsKept InEscape at w v
  as_string at w v (b, o, e, q, s) h = subst (λ z. HoldsVariant IsKept InEscape at z v) (sym e) (escaped at b o v (after_plain b q s) (subst (λ z. HoldsVariant IsKept InString at z v) e h))

  -- ---- the variant that is wanted is that of the bytes behind

  from_state : (s : Start) (at : ℕ) (x : List ℕ) (from to : ℕ) (out string : Variant X) (escape : Escape) → HoldsVariant IsKept Out at x out → HoldsVariant IsKept InString at x string → HoldsEscape x escape → from ≡ at → to ≡ at + length x
      → (q : Slot) × (slot_in escape (Some s) ≡ Some q) × HoldsIn IsKept s at x (record { from = from; to = to; out = out; string = string; escape = escape }) q
  from_state Out at x from to out string escape h k e f g = (slot.Out, refl, h)
  from_state InString at x from to out string escape h k e f g = (slot.String, refl, k)
  from_state InEscape at x from to out string AsString h k e f g = (slot.String, refl, as_string at x string e k)
  from_state InEscape at x from to out string Unread h k e f g = (slot.Bytes InEscape, refl, (refl, f, g))

  wanted_from : (s : Start) (at : ℕ) (x : List ℕ) (right : Parts X) → HoldsParts IsKept at x right → (q : Slot) × (slot_in right.escape (Some s) ≡ Some q) × HoldsIn IsKept s at x right q
  wanted_from s at x right h = from_state s at x right.from right.to right.out right.string right.escape h.out h.string h.escape h.from h.to

  -- ---- behind another variant that is taken, which is read again where both want it

  still_from : (taken : Option Slot) (s : Start) (at : ℕ) (x : List ℕ) (old new : Parts X) (wanted : Slot) → HoldsParts IsKept at x old → Stays taken old new → HoldsIn IsKept s at x old wanted → (q : Slot) × (unless_taken taken (Some wanted) (Some s) ≡ Some q) × HoldsIn IsKept s at x new q
  still_from (Some slot.Out) s at x old new slot.Out held stays h = (slot.Bytes s, refl, (refl, stays.from ∙ held.from, stays.to ∙ held.to))
  still_from (Some slot.String) s at x old new slot.String held stays h = (slot.Bytes s, refl, (refl, stays.from ∙ held.from, stays.to ∙ held.to))
  still_from _ s at x old new slot.Out held stays h = (slot.Out, refl, subst (HoldsVariant IsKept s at x) (sym (stays.out (λ e. absurd (cc)))) h)
  still_from _ s at x old new slot.String held stays h = (slot.String, refl, subst (HoldsVariant IsKept s at x) (sym (stays.string (λ e. absurd (cc)))) h)
  still_from (Some slot.Out) s at x old new (slot.Bytes q) held stays h = (slot.Bytes q, refl, (h.0, stays.from ∙ h.1, stays.to ∙ h.2))
  still_from _ s at x old new (slot.Bytes q) held stays h = (slot.Bytes q, refl, (h.0, stays.from ∙ h.1, stays.to ∙ h.2))

  none_behind : (e : Escape) (taken : Option Slot) → slot_behind e taken None ≡ None
  none_behind e (Some slot.Out) = refl
  none_behind e _ = refl

  behind_from : (bytes : List ℕ) (s : Start) (at : ℕ) (w x : List ℕ) (left : Variant X) (old new : Parts X) (taken : Option Slot) (end : Start) → end ≡ end_of s w → IsPartOf bytes at (w ++ x) → HoldsVariant IsKept s at w left → HoldsParts IsKept (at + length w) x old → Stays taken old new
      → GoesOn IsKept bytes s at w x left new (slot_behind old.escape taken (Some end))
  behind_from bytes s at w x left old new taken end e part h k stays =
      let f = wanted_from end (at + length w) x old k in
      let g = still_from taken end (at + length w) x old new f.0 k stays f.2 in
      subst (GoesOn IsKept bytes s at w x left new) (sym (ap (λ z. unless_taken taken z (Some end)) f.1 ∙ g.1)) (part, h, subst (λ z. HoldsIn IsKept z (at + length w) x new g.0) e g.2)

  pub goes_behind : (bytes : List ℕ) (s : Start) (at : ℕ) (w x : List ℕ) (left : Variant X) (old new : Parts X) (taken : Option Slot) → IsPartOf bytes at (w ++ x) → HoldsVariant IsKept s at w left → HoldsParts IsKept (at + length w) x old → Stays taken old new
      → GoesOn IsKept bytes s at w x left new (slot_behind old.escape taken (end_in left))
  goes_behind bytes s at w x (AllLead end) old new taken part h k stays = behind_from bytes s at w x (AllLead end) old new taken end h.1 part h k stays
  goes_behind bytes s at w x (Whole lead body pend end) old new taken part h k stays = behind_from bytes s at w x (Whole lead body pend end) old new taken end h.end_is part h k stays
  goes_behind bytes s at w x (Broken lead body halt) old new taken part h k stays = subst (GoesOn IsKept bytes s at w x (Broken lead body halt) new) (sym (none_behind old.escape taken)) (h, refl)

  -- ---- a left span that stops, and what is said of the left one from behind a backslash

  pub stop_union : (s : Start) (at : ℕ) (w x : List ℕ) (left : Variant X) → HoldsVariant IsKept s at w left → end_in left ≡ None → HoldsVariant IsKept s at (w ++ x) left
  stop_union s at w x (AllLead end) h e = absurd (cc)
  stop_union s at w x (Whole lead body pend end) h e = absurd (cc)
  stop_union s at w x (Broken lead body halt) h e = broken_union IsKept s at w x lead body halt h

  -- ---- what each step takes, and gives

  pub goes_with : (bytes : List ℕ) (s : Start) (at : ℕ) (w x : List ℕ) (left : Variant X) (right : Parts X) (wanted : Option Slot) (q : Slot) → wanted ≡ Some q → GoesOn IsKept bytes s at w x left right wanted → GoesOn IsKept bytes s at w x left right (Some q)
  goes_with bytes s at w x left right wanted q e h = subst (GoesOn IsKept bytes s at w x left right) e h

  pub can_take : (bytes : List ℕ) (s : Start) (at : ℕ) (w x : List ℕ) (left : Variant X) (right : Parts X) (wanted : Option Slot) (q : Slot) → wanted ≡ Some q → GoesOn IsKept bytes s at w x left right wanted → CanTake IsKept bytes right q
  can_take bytes s at w x left right wanted q e h = let u = goes_with bytes s at w x left right wanted q e h in (end_of s w, at + length w, x, behind_part bytes at w x u.0, u.2)

  pub taken_union : (bytes : List ℕ) (s : Start) (at : ℕ) (w x : List ℕ) (left : Variant X) (right : Parts X) (wanted : Option Slot) (q : Slot) (v : Variant X) → wanted ≡ Some q → Takes IsKept bytes right q v → GoesOn IsKept bytes s at w x left right wanted → HaveUnion IsKept bytes s at w x left v
  taken_union bytes s at w x left right wanted q v e takes h = let u = goes_with bytes s at w x left right wanted q e h in (u.0, u.1, takes (end_of s w) (at + length w) x (behind_part bytes at w x u.0) u.2)

  pub none_union : (bytes : List ℕ) (s : Start) (at : ℕ) (w x : List ℕ) (left : Variant X) (right : Parts X) (wanted : Option Slot) → wanted ≡ None → GoesOn IsKept bytes s at w x left right wanted → HoldsVariant IsKept s at (w ++ x) left
  none_union bytes s at w x left right wanted e h = let u = subst (GoesOn IsKept bytes s at w x left right) e h in stop_union s at w x left u.0 u.1

  -- ---- the variants of two spans

  pub out_goes : (bytes : List ℕ) (at : ℕ) (w x : List ℕ) (left right : Parts X) (end : Option Start) (wanted : Option Slot) → end ≡ end_in left.out → wanted ≡ slot_in right.escape end → AreBeside IsKept bytes at w x left right → GoesOn IsKept bytes Out at w x left.out right wanted
  out_goes bytes at w x left right end wanted e f b = subst (GoesOn IsKept bytes Out at w x left.out right) (sym (f ∙ ap (slot_in right.escape) e)) (goes_behind bytes Out at w x left.out right right None b.0 b.1.out b.2 (record { from = refl; to = refl; out = λ e. refl; string = λ e. refl }))

  pub string_goes : (bytes : List ℕ) (at : ℕ) (w x : List ℕ) (left right new : Parts X) (taken : Option Slot) (end : Option Start) (wanted : Option Slot) → end ≡ end_in left.string → wanted ≡ slot_behind right.escape taken end → AreBeside IsKept bytes at w x left right → Stays taken right new → GoesOn IsKept bytes InString at w x left.string new wanted
  string_goes bytes at w x left right new taken end wanted e f b stays = subst (GoesOn IsKept bytes InString at w x left.string new) (sym (f ∙ ap (slot_behind right.escape taken) e)) (goes_behind bytes InString at w x left.string right new taken b.0 b.1.string b.2 stays)

  pub both_ends : (bytes : List ℕ) (at : ℕ) (w x : List ℕ) (left right : Parts X) → AreBeside IsKept bytes at w x left right → right.to ≡ at + length (w ++ x)
  both_ends bytes at w x left right b = let n = length-append w x in omega (arith, b.2.to, n)

-- ---- a part of the bytes

pub part_length : (bytes : List ℕ) (i j : ℕ) → i ≤ j → j ≤ length bytes → i + length (span_of bytes i j) ≡ j
part_length bytes i j h k = let n = length-take-le (j - i) (drop i bytes) (omega (arith, length-drop i bytes)) in omega (arith, n)

parts_joined : (w : List ℕ) (n m : ℕ) → take n w ++ take m (drop n w) ≡ take (n + m) w
parts_joined w n m = ap (λ z. z ++ take m (drop n w)) (sym (take-take n (n + m) w (omega arith))) ∙ (ap (λ z. take n (take (n + m) w) ++ z) (sym (drop-take n m w)) ∙ take-append-drop n (take (n + m) w))

pub part_joined : (bytes : List ℕ) (i j k : ℕ) → i ≤ j → j ≤ k → span_of bytes i j ++ span_of bytes j k ≡ span_of bytes i k
part_joined bytes i j k h g = let e : i + (j - i) ≡ j = omega arith in let f : (j - i) + (k - j) ≡ k - i = omega arith in
    ap (λ z. span_of bytes i j ++ take (k - j) (drop z bytes)) (sym e) ∙ (ap (λ z. span_of bytes i j ++ take (k - j) z) (sym (drop-drop (j - i) i bytes)) ∙ (parts_joined (drop i bytes) (j - i) (k - j) ∙ ap (λ z. take z (drop i bytes)) f))

module _ {A X : Type 0} (IsKept : X → Content → Type 0) where
  pub parts_beside : (bytes : List ℕ) (i j k : ℕ) (left right : Fragment A X) (l r : Parts X) → parts_of left ≡ Some l → parts_of right ≡ Some r → AreNeighbours (StandsFor IsKept) bytes i j k left right → AreBeside IsKept bytes i (span_of bytes i j) (span_of bytes j k) l r
  parts_beside bytes i j k left right l r e f n = let h = n.first in let g = n.second in let m = n.within in (
    subst (IsPartOf bytes i) (sym (part_joined bytes i j k h g)) (part_part bytes i k (omega (arith, h, g)) m),
    subst (HoldsSome IsKept i (span_of bytes i j)) e n.left,
    subst (λ at. HoldsParts IsKept at (span_of bytes j k) r) (sym (part_length bytes i j h (omega (arith, g, m)))) (subst (HoldsSome IsKept j (span_of bytes j k)) f n.right),
  )

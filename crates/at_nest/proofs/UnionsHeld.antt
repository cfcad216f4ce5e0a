-- What is kept of two neighbouring spans, put together, stands for both.
-- For `finish`, `finish_span` and `merge`.
use Rattle.std.proofs.Common.{◌≡◌, ℕ, Option, Some, None, List, [], ◌++◌, refl, sym, ◌∙◌, ap, subst, arith, ◌+◌, ◌-◌, ◌≤◌, length, length-append, take, drop}
use Rattle.at_lex.specs.Spans.{end_of}
use Rattle.at_lex.specs.declared.tokens.Start.{Start}
use Rattle.at_nest.specs.declared.bodies.Body.{Body}
use Rattle.at_nest.specs.declared.pieces.SpanStop.{SpanStop as CodeHalt}
use Rattle.at_nest.specs.declared.variants.Variant.{Variant}
use Rattle.at_nest.specs.declared.variants.Variant.TheVariants.{AllLead, Whole, Broken}
use Rattle.at_nest.specs.Tree.{Tree}
use Rattle.at_nest.specs.Levels.{Form, Pushed, further, stopped, SpanStop, push_then}
use Rattle.at_nest.specs.Unions.{IsToken, Ends, merged, variant_of}
use Rattle.at_nest.specs.Variants.{IsAllLead, IsLeadEnd, IsBroken, IsVariant}
use Rattle.at_nest.specs.Shown.{Shown, shown}
use Rattle.at_nest.specs.KeptItems.{Content, free, IsShown, IsPushedAs, IsPartOf, halt_of}
use Rattle.at_nest.specs.Reading.{IsPlaced}
use Rattle.at_nest.specs.VariantMeanings.{HoldsWhole, HoldsBroken, HoldsVariant, CanMeet, Meets, Neighbours, HaveUnion}
use Rattle.at_nest.proofs.Joins.{end_append, at_end}
use Rattle.at_nest.proofs.Unions.{whole_end, token_of, all_lead_left, all_lead_broken, broken_left, lead_goes_on}
use Rattle.at_nest.proofs.Neighbours.{shown_right, shown_left, joint_bytes, joint_placed, whole_whole, whole_all, whole_broken}

module _ {X : Type 0} (IsKept : X → Content → Type 0) where
  -- the token between the two, and what is kept of them
  pub record Ready (bytes : List ℕ) (s : Start) (at : ℕ) (w x : List ℕ) (kept : Shown X) (from to : ℕ) (behind : Shown X) (f g : Form Tree) (joint more : List ℕ) : Type 0 where
    pub slice : take (to - from) (drop from bytes) ≡ joint
    pub order : from ≤ to
    pub fits : to ≤ length bytes
    pub left : IsShown IsKept at (w ++ x) kept f
    pub right : IsShown IsKept at (w ++ x) behind g
    pub placed : IsPlaced at (w ++ x) from joint
    pub token : IsToken joint more

  ready : (bytes : List ℕ) (s : Start) (at : ℕ) (w x : List ℕ) (lead : ℕ) (kept : Shown X) (from : ℕ) (end : Start) (to : ℕ) (behind : Shown X) (g : Form Tree) (y c : List ℕ) → IsPartOf bytes at (w ++ x) → (h : HoldsWhole IsKept s at w lead kept from end) → x ≡ y ++ c
      → IsLeadEnd (end_of s w) y c → to ≡ at + length w + length y → IsShown IsKept (at + length w) x behind g → Ready bytes s at w x kept from to behind h.form g (h.last ++ y) c
  ready bytes s at w x lead kept from end to behind g y c part h e l t k =
      let j = joint_bytes IsKept bytes at w x h.first h.is_whole.middle h.last y c from to part h.is_whole.split e h.pend_at t in
      record {
        slice = j.0;
        order = j.1;
        fits = j.2;
        left = shown_right IsKept at w x kept h.form h.is_shown;
        right = shown_left IsKept at w x behind g k;
        placed = joint_placed IsKept at w x h.first h.is_whole.middle h.last y c from h.is_whole.split e h.pend_at;
        token = token_of h.last y c h.is_whole.pending (subst (λ z. IsLeadEnd z y c) (whole_end free s at w h.first h.form h.last h.is_whole) l);
      }

  ready_meets : (bytes : List ℕ) (s : Start) (at : ℕ) (w x : List ℕ) (kept : Shown X) (from to : ℕ) (behind : Shown X) (f g : Form Tree) (joint more : List ℕ) → IsPartOf bytes at (w ++ x) → Ready bytes s at w x kept from to behind f g joint more
      → CanMeet IsKept bytes kept behind from (take (to - from) (drop from bytes))
  ready_meets bytes s at w x kept from to behind f g joint more part r =
      (at, w ++ x, f, g, more, part, r.left, r.right, subst (IsPlaced at (w ++ x) from) (sym r.slice) r.placed, subst (λ z. IsToken z more) (sym r.slice) r.token)

  -- the two can be put together
  pub record CanPut (bytes : List ℕ) (kept : Shown X) (from to : ℕ) (behind : Shown X) : Type 0 where
    pub order : from ≤ to
    pub fits : to ≤ length bytes
    pub meets : CanMeet IsKept bytes kept behind from (take (to - from) (drop from bytes))

  pub put_whole : (bytes : List ℕ) (s : Start) (at : ℕ) (w x : List ℕ) (lead : ℕ) (kept : Shown X) (from to : ℕ) (behind : Body X) (pend : ℕ) (end : Start) → Neighbours IsKept bytes s at w x lead kept from (Whole to behind pend end) → CanPut bytes kept from to (shown behind)
  put_whole bytes s at w x lead kept from to behind pend end n = let k = n.is_right in
      let r = ready bytes s at w x lead kept from n.left_end to (shown behind) k.form k.first (k.is_whole.middle ++ k.last) n.part n.is_left k.is_whole.split k.is_whole.lead k.lead_at k.is_shown in
      record { order = r.order; fits = r.fits; meets = ready_meets bytes s at w x kept from to (shown behind) n.is_left.form k.form (n.is_left.last ++ k.first) (k.is_whole.middle ++ k.last) n.part r }

  pub put_broken : (bytes : List ℕ) (s : Start) (at : ℕ) (w x : List ℕ) (lead : ℕ) (kept : Shown X) (from to : ℕ) (behind : Body X) (halt : CodeHalt) → Neighbours IsKept bytes s at w x lead kept from (Broken to behind halt) → CanPut bytes kept from to (shown behind)
  put_broken bytes s at w x lead kept from to behind halt n = let k = n.is_right in
      let r = ready bytes s at w x lead kept from n.left_end to (shown behind) k.form k.first k.is_broken.more n.part n.is_left k.is_broken.split k.is_broken.lead k.lead_at k.is_shown in
      record { order = r.order; fits = r.fits; meets = ready_meets bytes s at w x kept from to (shown behind) n.is_left.form k.form (n.is_left.last ++ k.first) k.is_broken.more n.part r }

  -- ---- the union

  abbrev pub Together : Option CodeHalt → Start → ℕ → List ℕ → ℕ → Shown X → ℕ → Start → Type 0
  Together None s at w lead kept pend end = HoldsWhole IsKept s at w lead kept pend end
  Together (Some i) s at w lead kept pend end = HoldsBroken IsKept s at w lead kept i

  together : (r : Option CodeHalt) (s : Start) (at : ℕ) (w u z : List ℕ) (lead : ℕ) (kept : Shown X) (pend : ℕ) (end : Start) (o : Pushed Tree) → IsVariant free s at w (variant_of u z o) → IsPushedAs IsKept at w kept r o → lead ≡ at + length u → pend + length z ≡ at + length w
      → end ≡ end_of s w → Together r s at w lead kept pend end
  together None s at w u z lead kept pend end (further k) h q l p e = record { first = u; form = k; last = z; is_whole = h; is_shown = q; lead_at = l; pend_at = p; end_is = e }
  together (Some i) s at w u z lead kept pend end (stopped k j) h q l p e = record { first = u; form = k; is_broken = subst (IsBroken free s at w u k) (sym q.1) h; is_shown = q.0; lead_at = l }
  together _ s at w u z lead kept pend end _ h q l p e = absurd q

  place_of : (from at : ℕ) (w u a v : List ℕ) → w ≡ u ++ (a ++ v) → from + length v ≡ at + length w → from ≡ at + length u + length a
  place_of from at w u a v e p = let wide : length w ≡ length u + (length a + length v) = ap (λ z. length z) e ∙ (length-append u (a ++ v) ∙ ap (λ n. length u + n) (length-append a v)) in omega (arith, wide, p)

  pub union_whole : (bytes : List ℕ) (s : Start) (at : ℕ) (w x : List ℕ) (lead : ℕ) (kept : Shown X) (from to : ℕ) (behind : Body X) (pend : ℕ) (end : Start) (new : Shown X) (r : Option CodeHalt) → Meets IsKept bytes kept (shown behind) new r from (take (to - from) (drop from bytes))
      → Neighbours IsKept bytes s at w x lead kept from (Whole to behind pend end) → Together r s at (w ++ x) lead new pend end
  union_whole bytes s at w x lead kept from to behind pend end new r meets n =
      let k = n.is_right in let h = n.is_left in
      let more : List ℕ = k.is_whole.middle ++ k.last in
      let q = ready bytes s at w x lead kept from n.left_end to (shown behind) k.form k.first more n.part h k.is_whole.split k.is_whole.lead k.lead_at k.is_shown in
      let m = meets at (w ++ x) h.form k.form more n.part q.left q.right k.is_whole.form.levels (subst (IsPlaced at (w ++ x) from) (sym q.slice) q.placed) (subst (λ z. IsToken z more) (sym q.slice) q.token) in
      let ends : Ends free (at + length h.first + length h.is_whole.middle) (h.last ++ k.first) more m.0 = subst (λ z. Ends free z (h.last ++ k.first) more m.0) (place_of from at w h.first h.is_whole.middle h.last h.is_whole.split h.pend_at) (subst (λ z. Ends free from z more m.0) q.slice m.1) in
      together r s at (w ++ x) h.first k.last lead new pend end _ (whole_whole s at w x h.first h.form h.last k.first k.form k.last m.0 h.is_whole k.is_whole ends) m.2 h.lead_at
      (omega (arith, k.pend_at, length-append w x)) (k.end_is ∙ sym (end_append s w x))

  abbrev pub TogetherBroken : Option CodeHalt → Start → ℕ → List ℕ → ℕ → Shown X → CodeHalt → Type 0
  TogetherBroken None s at w lead kept last = HoldsBroken IsKept s at w lead kept last
  TogetherBroken (Some i) s at w lead kept last = HoldsBroken IsKept s at w lead kept i

  together_broken : (r : Option CodeHalt) (s : Start) (at : ℕ) (w u : List ℕ) (lead : ℕ) (kept : Shown X) (last : CodeHalt) (o : Pushed Tree) → IsVariant free s at w (variant_of u [] (push_then (λ q. stopped q (halt_of last)) o)) → IsPushedAs IsKept at w kept r o → lead ≡ at + length u → TogetherBroken r s at w lead kept last
  together_broken None s at w u lead kept last (further k) h q l = record { first = u; form = k; is_broken = h; is_shown = q; lead_at = l }
  together_broken (Some i) s at w u lead kept last (stopped k j) h q l = record { first = u; form = k; is_broken = subst (IsBroken free s at w u k) (sym q.1) h; is_shown = q.0; lead_at = l }
  together_broken _ s at w u lead kept last _ h q l = absurd q

  pub stops_behind : (g : Form Tree) (i : SpanStop) (o : Pushed Tree) → push_then (λ q. merged free (further q) (stopped g i)) o ≡ push_then (λ q. stopped q i) (push_then (λ q. merged free (further q) (further g)) o)
  stops_behind g i (further k) = refl
  stops_behind g i (stopped k j) = refl

  pub union_broken : (bytes : List ℕ) (s : Start) (at : ℕ) (w x : List ℕ) (lead : ℕ) (kept : Shown X) (from to : ℕ) (behind : Body X) (last : CodeHalt) (new : Shown X) (r : Option CodeHalt) → Meets IsKept bytes kept (shown behind) new r from (take (to - from) (drop from bytes))
      → Neighbours IsKept bytes s at w x lead kept from (Broken to behind last) → TogetherBroken r s at (w ++ x) lead new last
  union_broken bytes s at w x lead kept from to behind last new r meets n =
      let k = n.is_right in let h = n.is_left in
      let more : List ℕ = k.is_broken.more in
      let q = ready bytes s at w x lead kept from n.left_end to (shown behind) k.form k.first more n.part h k.is_broken.split k.is_broken.lead k.lead_at k.is_shown in
      let m = meets at (w ++ x) h.form k.form more n.part q.left q.right k.is_broken.stop.form.levels (subst (IsPlaced at (w ++ x) from) (sym q.slice) q.placed) (subst (λ z. IsToken z more) (sym q.slice) q.token) in
      let ends : Ends free (at + length h.first + length h.is_whole.middle) (h.last ++ k.first) more m.0 = subst (λ z. Ends free z (h.last ++ k.first) more m.0) (place_of from at w h.first h.is_whole.middle h.last h.is_whole.split h.pend_at) (subst (λ z. Ends free from z more m.0) q.slice m.1) in
      let o : Pushed Tree = merged free (further h.form) m.0 in
      together_broken r s at (w ++ x) h.first lead new last (push_then (λ z. merged free (further z) (further k.form)) o)
      (subst (λ z. IsVariant free s at (w ++ x) (variant_of h.first [] z)) (stops_behind k.form (halt_of last) o)
      (whole_broken s at w x h.first h.form h.last k.first k.form (halt_of last) m.0 h.is_whole k.is_broken ends)) m.2 h.lead_at

  pub union_all : (bytes : List ℕ) (s : Start) (at : ℕ) (w x : List ℕ) (lead : ℕ) (kept : Shown X) (from : ℕ) (end : Start) → Neighbours IsKept bytes s at w x lead kept from (AllLead end) → HoldsWhole IsKept s at (w ++ x) lead kept from end
  union_all bytes s at w x lead kept from end n = let h = n.is_left in record {
    first = h.first;
    form = h.form;
    last = h.last ++ x;
    is_whole = whole_all s at w x h.first h.form h.last h.is_whole n.is_right.0;
    is_shown = shown_right IsKept at w x kept h.form h.is_shown;
    lead_at = h.lead_at;
    pend_at = omega (arith, h.pend_at, length-append h.last x, length-append w x);
    end_is = n.is_right.1 ∙ sym (end_append s w x);
  }

  -- the left span is all lead, or stops
  pub lead_union : (s : Start) (at : ℕ) (w x : List ℕ) (v : Variant X) → IsAllLead s w → HoldsVariant IsKept (end_of s w) (at + length w) x v → HoldsVariant IsKept s at (w ++ x) v
  lead_union s at w x (AllLead end) h k = (lead_goes_on s w x h k.0, k.1 ∙ sym (end_append s w x))
  lead_union s at w x (Whole lead body pend end) h k = record {
    first = w ++ k.first;
    form = k.form;
    last = k.last;
    is_whole = all_lead_left free s at w x k.first k.form k.last h k.is_whole;
    is_shown = shown_left IsKept at w x (shown body) k.form k.is_shown;
    lead_at = k.lead_at ∙ at_end at w k.first;
    pend_at = omega (arith, k.pend_at, length-append w x);
    end_is = k.end_is ∙ sym (end_append s w x);
  }
  lead_union s at w x (Broken lead body halt) h k = record {
    first = w ++ k.first;
    form = k.form;
    is_broken = all_lead_broken free s at w x k.first k.form (halt_of halt) h k.is_broken;
    is_shown = shown_left IsKept at w x (shown body) k.form k.is_shown;
    lead_at = k.lead_at ∙ at_end at w k.first;
  }

  pub broken_union : (s : Start) (at : ℕ) (w x : List ℕ) (lead : ℕ) (body : Body X) (halt : CodeHalt) → HoldsBroken IsKept s at w lead (shown body) halt → HoldsBroken IsKept s at (w ++ x) lead (shown body) halt
  broken_union s at w x lead body halt h = record {
    first = h.first;
    form = h.form;
    is_broken = broken_left free s at w x h.first h.form (halt_of halt) h.is_broken;
    is_shown = shown_right IsKept at w x (shown body) h.form h.is_shown;
    lead_at = h.lead_at;
  }

  pub union_lead : (bytes : List ℕ) (s : Start) (at : ℕ) (w x : List ℕ) (left right : Variant X) (e : Start) → left ≡ AllLead e → HaveUnion IsKept bytes s at w x left right → HoldsVariant IsKept s at (w ++ x) right
  union_lead bytes s at w x left right e q h = lead_union s at w x right (subst (HoldsVariant IsKept s at w) q h.1).0 h.2

  pub union_stop : (bytes : List ℕ) (s : Start) (at : ℕ) (w x : List ℕ) (left right : Variant X) (lead : ℕ) (body : Body X) (halt : CodeHalt) → left ≡ Broken lead body halt → HaveUnion IsKept bytes s at w x left right → HoldsVariant IsKept s at (w ++ x) left
  union_stop bytes s at w x left right lead body halt q h = subst (HoldsVariant IsKept s at (w ++ x)) (sym q) (broken_union s at w x lead body halt (subst (HoldsVariant IsKept s at w) q h.1))

  pub right_is : (bytes : List ℕ) (s : Start) (at : ℕ) (w x : List ℕ) (lead : ℕ) (kept : Shown X) (from : ℕ) (right v : Variant X) → right ≡ v → Neighbours IsKept bytes s at w x lead kept from right → Neighbours IsKept bytes s at w x lead kept from v
  right_is bytes s at w x lead kept from right v e n = subst (Neighbours IsKept bytes s at w x lead kept from) e n

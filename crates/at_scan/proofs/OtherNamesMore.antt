-- One more name behind those of members for which no kind asks.
use Rattle.std.proofs.Common.{◌≡◌, ℕ, zero, suc, ◌+◌, ◌-◌, ◌<◌, ◌≤◌, false, ◌||◌, bytes_eq, List, [], ◌∷◌, ◌++◌, All, length, take, get_or, sym, ◌∙◌, ap, subst, arith}
use Rattle.std.proofs.Math.Bool.{or-false}
use Rattle.std.proofs.Math.Seq.{take-length, take-append-add, take-append_seam, drop-append_seam, take-nil}
use Rattle.std.proofs.lemmas.List.{append_assoc, append-nil, length-append, length-take-le, take_more}
use Rattle.std.proofs.lemmas.List.Elements.{All-nil, All-cons, All-append, All-take, All-drop}
use Rattle.std.proofs.lemmas.List.Folds.{list_any-append}
use Rattle.at_scan.specs.declared.places.NamePlace.{NamePlace}
use Rattle.at_scan.specs.declared.members.FieldName.{FieldName}
use Rattle.at_scan.specs.declared.members.OtherName.{OtherName}
use Rattle.at_scan.specs.declared.members.OtherNames.{OtherNames}
use Rattle.at_scan.specs.Members.{name_in, IsPlainName, IsOtherName, is_named_among, known_in, is_among_others, AreUnlike, ArePlaced, ArePlainOthers, IsNextName, AreShortened, AreCut, AddsOther, AddsName, IsNextField}

-- ---- the known names

pub all_front : (P : OtherName → Type 0) (xs ys : List OtherName) → All P (xs ++ ys) → All P xs
all_front P xs ys h = subst (All P) (take-append_seam xs ys) (All-take P (length xs) (xs ++ ys) h)

pub all_behind : (P : OtherName → Type 0) (xs ys : List OtherName) → All P (xs ++ ys) → All P ys
all_behind P xs ys h = subst (All P) (drop-append_seam xs ys) (All-drop P (length xs) (xs ++ ys) h)

-- those in memory are cut
pub cut_far : (old new : OtherNames) → length old.near ≡ 8 → ArePlaced old → old.placed ≤ old.count → new.count ≡ old.count → new.placed ≡ old.placed → new.near ≡ old.near → new.far.items ≡ take (old.count - old.placed) old.far.items → AreShortened old new
cut_far old new len h less ec ep en ef =
    let few : old.placed ≤ length old.near = subst (λ n. old.placed ≤ n) (sym len) h.few in
    let front = take old.placed old.near in
    let long : length front ≡ old.placed = length-take-le old.placed old.near few in
    let count : length front + (old.count - old.placed) ≡ old.count = omega (arith, long, less) in
    record {
      count = ec;
      known = ap (λ n. take n new.near ++ new.far.items) ep ∙ (ap (λ ns. take old.placed ns ++ new.far.items) en ∙ (ap (λ ns. front ++ ns) ef
          ∙ (sym (take-append-add front old.far.items (old.count - old.placed)) ∙ ap (λ n. take n (front ++ old.far.items)) count)));
      few = subst (λ n. n ≤ 8) (sym ep) h.few;
      full = λ room. ef ∙ (ap (take (old.count - old.placed)) (h.full (subst (λ n. n < 8) ep room)) ∙ take-nil (old.count - old.placed));
    }

module _ (w : List ℕ) where
  among_more : (ns : List OtherName) (n : OtherName) (name : List ℕ) → is_named_among w (ns ++ n ∷ []) name ≡ (is_named_among w ns name || bytes_eq name (name_in w n.place))
  among_more ns n name = list_any-append (λ (m : OtherName). bytes_eq name (name_in w m.place)) ns (n ∷ []) ∙ ap (λ b. is_named_among w ns name || b) (or-false (bytes_eq name (name_in w n.place)))

  all_more : (ns : List OtherName) (n : OtherName) → All (IsOtherName w) ns → IsOtherName w n → All (IsOtherName w) (ns ++ n ∷ [])
  all_more ns n h k = All-append (IsOtherName w) ns (n ∷ []) h (All-cons (IsOtherName w) n [] k (All-nil (IsOtherName w)))

  unlike_front : (before ns : List OtherName) (k : ℕ) → AreUnlike w before ns → AreUnlike w before (take k ns)
  unlike_front before [] zero h = tt
  unlike_front before [] (suc k) h = tt
  unlike_front before (n ∷ ns) zero h = tt
  unlike_front before (n ∷ ns) (suc k) h = (h.0, unlike_front (before ++ n ∷ []) ns k h.1)

  unlike_more : (before ns : List OtherName) (n : OtherName) → AreUnlike w before ns → is_named_among w (before ++ ns) (name_in w n.place) ≡ false → AreUnlike w before (ns ++ n ∷ [])
  unlike_more before [] n h new = (subst (λ ms. is_named_among w ms (name_in w n.place) ≡ false) (append-nil before) new, tt)
  unlike_more before (m ∷ ns) n h new = (h.0, unlike_more (before ++ m ∷ []) ns n h.1 (subst (λ ms. is_named_among w ms (name_in w n.place) ≡ false) (sym (append_assoc before (m ∷ []) ns)) new))

  -- a name is none of those before it
  unlike_at : (before ns : List OtherName) (k : ℕ) (d : OtherName) → AreUnlike w before ns → k < length ns → is_named_among w (before ++ take k ns) (name_in w ((get_or ns k d).place)) ≡ false
  unlike_at before [] k d h inside = absurd (omega (arith, inside))
  unlike_at before (n ∷ ns) zero d h inside = subst (λ ms. is_named_among w ms (name_in w n.place) ≡ false) (sym (append-nil before)) h.0
  unlike_at before (n ∷ ns) (suc k) d h inside = subst (λ ms. is_named_among w ms (name_in w ((get_or ns k d).place)) ≡ false) (append_assoc before (n ∷ []) (take k ns)) (unlike_at (before ++ n ∷ []) ns k d h.1 (omega (arith, inside)))

  -- the name that is expected
  pub expected_new : (others : OtherNames) (n : NamePlace) → ArePlainOthers w others → IsNextName w others n → is_among_others w others (name_in w n) ≡ false
  expected_new others n h (known, e, same) =
      subst (λ name. is_among_others w others name ≡ false) (sym same)
      (subst (λ (m : OtherName). is_named_among w (take others.count (known_in others)) (name_in w m.place) ≡ false) (sym e.there)
      (unlike_at [] (known_in others) others.count known h.unlike e.inside))

  pub expected_adds : (old new : OtherNames) (n : NamePlace) → IsNextName w old n → new.count ≡ old.count + 1 → known_in new ≡ known_in old → (ArePlaced old → ArePlaced new) → AddsName w n old new
  expected_adds old new n (known, e, same) ec ek placed =
      let front : take new.count (known_in new) ≡ take old.count (known_in old) ++ known ∷ [] =
      ap (λ k. take k (known_in new)) ec ∙ (ap (take (old.count + 1)) ek ∙ (take_more (known_in old) old.count known e.inside ∙ ap (λ m. take old.count (known_in old) ++ m ∷ []) (sym e.there))) in
      let low : old.count + 1 ≤ length (known_in old) = omega (arith, e.inside) in
      record {
        names = λ name. ap (λ ns. is_named_among w ns name) front
            ∙ (among_more (take old.count (known_in old)) known name
            ∙ ap (λ m. is_among_others w old name || bytes_eq name m) (sym same));
        plain = λ h k. record {
          placed = placed h.placed;
          known = subst (λ m. m ≤ length (known_in new)) (sym ec) (subst (λ ns. old.count + 1 ≤ length ns) (sym ek) low);
          plain = subst (All (IsOtherName w)) (sym ek) h.plain;
          unlike = subst (AreUnlike w []) (sym ek) h.unlike;
        };
      }

  -- all known names are the object's own
  pub cut_known : (old mid : OtherNames) → ArePlainOthers w old → AreCut old mid → mid.count ≤ length (known_in mid)
  cut_known old mid h cut =
      let long : length (known_in mid) ≡ old.count = ap length cut.known ∙ length-take-le old.count (known_in old) h.known in
      omega (arith, cut.count, long)

  pub cut_plain : (old mid : OtherNames) → ArePlainOthers w old → AreCut old mid → All (IsOtherName w) (known_in mid)
  cut_plain old mid h cut = subst (All (IsOtherName w)) (sym cut.known) (All-take (IsOtherName w) old.count (known_in old) h.plain)

  pub other_adds : (old mid new : OtherNames) (n : OtherName) → ArePlainOthers w old → AreCut old mid → IsOtherName w n → is_named_among w (known_in mid) (name_in w n.place) ≡ false → AddsOther n mid new → AddsName w n.place old new
  other_adds old mid new n h cut is_name missing adds =
      let front = take old.count (known_in old) in
      let known : known_in new ≡ front ++ n ∷ [] = adds.known ∙ ap (λ ns. ns ++ n ∷ []) cut.known in
      let count : new.count ≡ old.count + 1 = adds.count ∙ ap (λ k. k + 1) cut.count in
      let long : length front ≡ old.count = length-take-le old.count (known_in old) h.known in
      let all : length (front ++ n ∷ []) ≡ old.count + 1 = length-append front (n ∷ []) ∙ ap (λ k. k + 1) long in
      let whole : take new.count (known_in new) ≡ front ++ n ∷ [] = ap (λ k. take k (known_in new)) count ∙ (ap (take (old.count + 1)) known ∙ (ap (λ k. take k (front ++ n ∷ [])) (sym all) ∙ take-length (front ++ n ∷ []))) in
      let low : old.count + 1 ≤ length (front ++ n ∷ []) = omega (arith, all) in
      let gone : is_named_among w front (name_in w n.place) ≡ false = subst (λ ns. is_named_among w ns (name_in w n.place) ≡ false) cut.known missing in
      record {
        names = λ name. ap (λ ns. is_named_among w ns name) whole ∙ among_more front n name;
        plain = λ _ k. record {
          placed = adds.placed;
          known = subst (λ m. m ≤ length (known_in new)) (sym count) (subst (λ ns. old.count + 1 ≤ length ns) (sym known) low);
          plain = subst (All (IsOtherName w)) (sym known) (all_more front n (All-take (IsOtherName w) old.count (known_in old) h.plain) is_name);
          unlike = subst (AreUnlike w []) (sym known) (unlike_more [] front n (unlike_front [] (known_in old) old.count h.unlike) gone);
        };
      }

-- the names behind one more of them
pub next_plain : (w : List ℕ) (old new : OtherNames) (n : FieldName) → ArePlainOthers w old → IsPlainName w n.place → IsNextField w old new n → ArePlainOthers w new
next_plain w old new n h k l = grind arith

-- A name without its mark is none of the known names.
use Rattle.std.proofs.Common.{◌≡◌, ℕ, ◌+◌, ◌/◌, ◌%◌, ◌^◌, ◌<◌, true, false, ◌||◌, bytes_eq, List, [], ◌∷◌, ◌++◌, All, length, take, get_or, slice_index, refl, sym, ◌∙◌, ap, subst, ⊎_elim}
use Rattle.std.specs.Int.{bit_at}
use Rattle.std.specs.Cmp.Lexicographic.{same_text}
use Rattle.std.proofs.lemmas.Bool.{cases_Bool}
use Rattle.std.proofs.lemmas.List.{take_more}
use Rattle.std.proofs.lemmas.List.Elements.{All-nil, All-cons, All-append, All-head, All-tail}
use Rattle.at_scan.specs.declared.members.OtherName.{OtherName}
use Rattle.at_scan.specs.Hashes.{tail_hash}
use Rattle.at_scan.specs.Members.{name_in, IsMarked, IsOtherName, is_named_among}

-- marks that are kept
pub still_marked : (old new : List ℕ) (names : List OtherName) → All (IsMarked old) names → ((n : OtherName) → IsMarked old n → IsMarked new n) → All (IsMarked new) names
still_marked old new names h keeps k d inside = keeps (get_or names k d) (h k d inside)

-- one name more
pub marked_more : (marks : List ℕ) (names : List OtherName) (n : OtherName) → All (IsMarked marks) names → IsMarked marks n → All (IsMarked marks) (names ++ n ∷ [])
marked_more marks names n h k = All-append (IsMarked marks) names (n ∷ []) h (All-cons (IsMarked marks) n [] k (All-nil (IsMarked marks)))

pub marked_next : (marks : List ℕ) (names : List OtherName) (k : ℕ) (d : OtherName) → All (IsMarked marks) (take k names) → k < length names → IsMarked marks (get_or names k d) → All (IsMarked marks) (take (k + 1) names)
marked_next marks names k d h inside is = subst (All (IsMarked marks)) (sym (take_more names k d inside)) (marked_more marks (take k names) (get_or names k d) h is)

module _ (w : List ℕ) (marks : List ℕ) (n : OtherName) (is_name : IsOtherName w n) where
  -- equal names have one mark
  same_mark : (m : OtherName) → IsOtherName w m → bytes_eq (name_in w n.place) (name_in w m.place) ≡ true → IsMarked marks m → IsMarked marks n
  same_mark m h same is =
      let hash : m.hash ≡ n.hash = h.hash ∙ (ap tail_hash {x = name_in w m.place} {y = name_in w n.place} (sym (same_text (name_in w n.place) (name_in w m.place) (sym same))) ∙ sym is_name.hash) in
      subst (λ k. bit_at (slice_index marks (k / 2 ^ 52 / 64)) (k / 2 ^ 52 % 64) ≡ 1) hash is

  pub unmarked_unknown : (names : List OtherName) → All (IsOtherName w) names → All (IsMarked marks) names → ¬ IsMarked marks n → is_named_among w names (name_in w n.place) ≡ false
  unmarked_unknown [] h marked unmarked = refl
  unmarked_unknown (m ∷ ms) h marked unmarked =
      ⊎_elim
      (λ same. absurd (unmarked (same_mark m (All-head (IsOtherName w) m ms h) same (All-head (IsMarked marks) m ms marked))))
      (λ unlike. ap (λ b. b || is_named_among w ms (name_in w n.place)) unlike ∙ unmarked_unknown ms (All-tail (IsOtherName w) m ms h) (All-tail (IsMarked marks) m ms marked) unmarked)
      (cases_Bool (bytes_eq (name_in w n.place) (name_in w m.place)))

-- Open levels in stretches, as one list.
-- For `finish`, `finish_span`, `merge` and `run_block`.
use Rattle.std.proofs.Common.{◌≡◌, ℕ, ◌-◌, ◌<◌, suc, Some, List, [], ◌∷◌, ◌++◌, refl, sym, ◌∙◌, ap, subst, append-nil, append_assoc, arith, length, get_or}
use Rattle.std.proofs.lemmas.Option.{none-some, same_Some, slice_get-get_or}
use Rattle.std.specs.List.{slice_get, slice_set}
use Rattle.at_nest.specs.declared.levels.Open.{Open}
use Rattle.at_nest.specs.declared.open_levels.Stretch.{Stretch}
use Rattle.at_nest.specs.Shown.{helds_of, open_levels, stretched}
use Rattle.at_nest.specs.Nests.{PutsLast}
use Rattle.at_nest.specs.Refusals.{last_of}
use Rattle.at_nest.proofs.Showing.{open_append}
use Rattle.at_nest.proofs.Nests.{last_got, last_behind, puts_last}

pub stretched_append : {X : Type 0} (ss ts : List (Stretch X)) → stretched (ss ++ ts) ≡ stretched ss ++ stretched ts
stretched_append [] ts = refl
stretched_append (s ∷ ss) ts = ap (λ z. (s.round.items ++ s.innermost ∷ []) ++ z) (stretched_append ss ts) ∙ sym (append_assoc (s.round.items ++ s.innermost ∷ []) (stretched ss) (stretched ts))

-- a stretch more
pub stretched_last : {X : Type 0} (ss : List (Stretch X)) (s : Stretch X) → stretched (ss ++ s ∷ []) ≡ stretched ss ++ (s.round.items ++ s.innermost ∷ [])
stretched_last ss s = stretched_append ss (s ∷ []) ∙ ap (λ z. stretched ss ++ z) (append-nil (s.round.items ++ s.innermost ∷ []))

-- ---- the innermost

last_join : {A : Type 0} (xs : List A) (y : A) (ys : List A) → last_of (xs ++ y ∷ ys) ≡ last_of (y ∷ ys)
last_join (x ∷ (z ∷ xs)) y ys = last_join (z ∷ xs) y ys
last_join _ y ys = refl

pub last_over : {A : Type 0} (xs ys : List A) (y : A) → last_of ys ≡ Some y → last_of (xs ++ ys) ≡ Some y
last_over xs [] y e = absurd (none-some y e)
last_over xs (z ∷ ys) y e = last_join xs z ys ∙ e

last_there : {A : Type 0} (x : A) (xs : List A) → (y : A) × (last_of (x ∷ xs) ≡ Some y)
last_there x [] = (x, refl)
last_there x (y ∷ xs) = last_there y xs

pub last_innermost : {X : Type 0} (ss : List (Stretch X)) (s : Stretch X) → last_of ss ≡ Some s → last_of (stretched ss) ≡ Some s.innermost
last_innermost [] s e = absurd (none-some s e)
last_innermost {X} (t ∷ []) s e = ap last_of (append-nil (t.round.items ++ t.innermost ∷ [])) ∙ (last_behind t.round.items t.innermost ∙ ap (λ (z : Stretch X). Some z.innermost) (same_Some t s e))
last_innermost (t ∷ (u ∷ ss)) s e = last_over (t.round.items ++ t.innermost ∷ []) (stretched (u ∷ ss)) s.innermost (last_innermost (u ∷ ss) s e)

pub last_at : {A : Type 0} (xs : List A) (n : ℕ) (x : A) → 0 < length xs → n ≡ length xs - 1 → x ≡ get_or xs n x → last_of xs ≡ Some x
last_at xs n x h e f = let below : n < length xs = omega (arith, h, e) in
    sym (last_got xs) ∙ (ap (slice_get xs) (sym e) ∙ (slice_get-get_or xs n x below ∙ ap Some (sym f)))

-- ---- another level in its place

pub puts_over : {X : Type 0} (xs ys zs : List (Open X)) (o y : Open X) → last_of ys ≡ Some y → PutsLast ys zs o → PutsLast (xs ++ ys) (xs ++ zs) o
puts_over xs ys zs o y e puts x h = let (hs, f, g) = puts x (e ∙ (sym (last_over xs ys y e) ∙ h)) in (
  hs ++ open_levels xs,
  open_append xs ys ∙ (ap (λ z. z ++ open_levels xs) f ∙ append_assoc (helds_of x) hs (open_levels xs)),
  open_append xs zs ∙ (ap (λ z. z ++ open_levels xs) g ∙ append_assoc (helds_of o) hs (open_levels xs)),
)

-- among the last levels
pub puts_end : {X : Type 0} (xs ys : List (Open X)) (n : ℕ) (o : Open X) → 0 < length ys → n ≡ length ys - 1 → PutsLast (xs ++ ys) (xs ++ slice_set ys n o) o
puts_end xs [] n o h e = absurd (omega (arith, h))
puts_end xs (y ∷ ys) n o h e = subst (λ z. PutsLast (xs ++ y ∷ ys) (xs ++ slice_set (y ∷ ys) z o) o) (sym e)
    (let (z, f) = last_there y ys in puts_over xs (y ∷ ys) (slice_set (y ∷ ys) (length (y ∷ ys) - 1) o) o z f (puts_last (y ∷ ys) o))

puts_one : {X : Type 0} (s t : Stretch X) (o : Open X) → t.round.items ≡ s.round.items → t.innermost ≡ o → PutsLast (stretched (s ∷ [])) (stretched (t ∷ [])) o
puts_one {X} s t o e f =
    let same : s.round.items ++ o ∷ [] ≡ stretched (t ∷ []) = ap (λ z. z ++ o ∷ []) (sym e) ∙ (ap (λ (z : Open X). t.round.items ++ z ∷ []) (sym f) ∙ sym (append-nil (t.round.items ++ t.innermost ∷ []))) in
    subst (λ z. PutsLast (stretched (s ∷ [])) z o) same
    (subst (λ z. PutsLast z (s.round.items ++ o ∷ []) o) (sym (append-nil (s.round.items ++ s.innermost ∷ []))) (puts_over s.round.items (s.innermost ∷ []) (o ∷ []) o s.innermost refl (puts_last (s.innermost ∷ []) o)))

-- in the last stretch
puts_stretch : {X : Type 0} (ss : List (Stretch X)) (s t : Stretch X) (o : Open X) → last_of ss ≡ Some s → t.round.items ≡ s.round.items → t.innermost ≡ o → PutsLast (stretched ss) (stretched (slice_set ss (length ss - 1) t)) o
puts_stretch [] s t o e f g = absurd (none-some s e)
puts_stretch {X} (k ∷ []) s t o e f g = puts_one k t o (f ∙ ap (λ (z : Stretch X). z.round.items) (sym (same_Some k s e))) g
puts_stretch (k ∷ (m ∷ ss)) s t o e f g = let i : length (k ∷ (m ∷ ss)) - 1 ≡ suc (length (m ∷ ss) - 1) = omega arith in
    subst (λ n. PutsLast (stretched (k ∷ (m ∷ ss))) (stretched (slice_set (k ∷ (m ∷ ss)) n t)) o) (sym i)
    (puts_over (k.round.items ++ k.innermost ∷ []) (stretched (m ∷ ss)) (stretched (slice_set (m ∷ ss) (length (m ∷ ss) - 1) t)) o s.innermost (last_innermost (m ∷ ss) s e) (puts_stretch (m ∷ ss) s t o e f g))

pub puts_before : {X : Type 0} (ss : List (Stretch X)) (s t : Stretch X) (n : ℕ) (o : Open X) (last : List (Open X)) → last ≡ [] → n ≡ length ss - 1 → last_of ss ≡ Some s → t.round.items ≡ s.round.items → t.innermost ≡ o
    → PutsLast (stretched ss ++ last) (stretched (slice_set ss n t) ++ last) o
puts_before ss s t n o last none e f g h =
    subst (λ z. PutsLast (stretched ss ++ z) (stretched (slice_set ss n t) ++ z) o) (sym none)
    (subst (λ z. PutsLast z (stretched (slice_set ss n t) ++ []) o) (sym (append-nil (stretched ss)))
    (subst (λ z. PutsLast (stretched ss) z o) (sym (append-nil (stretched (slice_set ss n t))))
    (subst (λ z. PutsLast (stretched ss) (stretched (slice_set ss z t)) o) (sym e) (puts_stretch ss s t o f g h))))

-- ---- taken out, and put behind

pub popped_stretch : {X : Type 0} (old new : List (Stretch X)) (s : Stretch X) (last : List (Open X)) → last ≡ [] → old ≡ new ++ s ∷ [] → stretched old ++ last ≡ (stretched new ++ s.round.items) ++ s.innermost ∷ []
popped_stretch old new s last e f = ap (λ z. stretched old ++ z) e ∙ (append-nil (stretched old) ∙ (ap stretched f ∙ (stretched_last new s ∙ sym (append_assoc (stretched new) s.round.items (s.innermost ∷ [])))))

pub added_stretch : {X : Type 0} (old new : List (Stretch X)) (s : Stretch X) (levels : List (Open X)) → new ≡ old ++ s ∷ [] → levels ≡ s.round.items ++ s.innermost ∷ [] → stretched new ≡ stretched old ++ levels
added_stretch old new s levels e f = ap stretched e ∙ (stretched_last old s ∙ ap (λ z. stretched old ++ z) (sym f))

pub appended : {X : Type 0} (old mid new ts : List (Stretch X)) (xs ys : List (Open X)) → stretched mid ≡ stretched old ++ xs → new ≡ mid ++ ts → stretched new ++ ys ≡ (stretched old ++ xs) ++ (stretched ts ++ ys)
appended old mid new ts xs ys e f = ap (λ z. z ++ ys) (ap stretched f ∙ (stretched_append mid ts ∙ ap (λ z. z ++ stretched ts) e)) ∙ append_assoc (stretched old ++ xs) (stretched ts) ys

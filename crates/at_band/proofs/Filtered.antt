-- What elements of a list decide, all of which pass a test.
-- For `copy`, `meets` and `new`.
use Rattle.std.proofs.Common.{◌≡◌, inl, inr, Bool, true, false, cond, List, [], ◌∷◌, length, refl, sym, ap, subst, ◌∙◌}
use Rattle.std.specs.Prelude.{count_by}
use Rattle.std.specs.List.{filter}
use Rattle.std.proofs.lemmas.List.Sums.{length-filter}
use Rattle.std.proofs.lemmas.Bool.{false≢true, false_from_ne_true, cond_both}
use Rattle.at_text.specs.Lists.{SomeOf}

pub drop_head : {X : Type 0} (t : X → Bool) (x : X) (xs : List X) → t x ≡ false → filter t (x ∷ xs) ≡ filter t xs
drop_head t x xs h = rw h refl

-- whether x passes or not
pub same_head : {X : Type 0} (t : X → Bool) (x : X) (xs ys : List X) → filter t xs ≡ filter t ys → filter t (x ∷ xs) ≡ filter t (x ∷ ys)
same_head t x xs ys e = ap (λ zs. cond (t x) (x ∷ zs) zs) e

some_kept : {X : Type 0} (P : X → Type 0) (t : X → Bool) → ((x : X) → P x → t x ≡ true) → (xs : List X) → SomeOf P xs → SomeOf P (filter t xs)
some_kept P t f [] h = absurd h
some_kept P t f (x ∷ xs) (inl h) = cond_both (t x) (x ∷ filter t xs) (filter t xs) (SomeOf P) (λ _. inl h) (λ e. absurd (false≢true (sym e ∙ f x h)))
some_kept P t f (x ∷ xs) (inr h) = cond_both (t x) (x ∷ filter t xs) (filter t xs) (SomeOf P) (λ _. inr (some_kept P t f xs h)) (λ _. some_kept P t f xs h)

some_found : {X : Type 0} (P : X → Type 0) (t : X → Bool) (xs : List X) → SomeOf P (filter t xs) → SomeOf P xs
some_found P t [] h = absurd h
some_found {X} P t (x ∷ xs) h =
    cond_both (t x) (x ∷ filter t xs) (filter t xs) (λ (zs : List X). SomeOf P zs → SomeOf P (x ∷ xs)) (λ _ k. elim k [ inl i ↦ inl i | inr i ↦ inr (some_found P t xs i) ]) (λ _ k. inr (some_found P t xs k)) h

-- two lists with the same elements that pass
pub same_some : {X : Type 0} (P : X → Type 0) (t : X → Bool) → ((x : X) → P x → t x ≡ true) → (xs ys : List X) → filter t xs ≡ filter t ys → SomeOf P xs → SomeOf P ys
same_some P t f xs ys e h = some_found P t ys (subst (SomeOf P) e (some_kept P t f xs h))

-- ---- a test and a weaker one

filter_twice : {X : Type 0} (t w : X → Bool) → ((x : X) → t x ≡ true → w x ≡ true) → (xs : List X) → filter t (filter w xs) ≡ filter t xs
filter_twice t w f [] = refl
filter_twice {X} t w f (x ∷ xs) =
    cond_both (w x) (x ∷ filter w xs) (filter w xs) (λ (zs : List X). filter t zs ≡ filter t (x ∷ xs)) (λ _. same_head t x (filter w xs) xs (filter_twice t w f xs))
    (λ e. filter_twice t w f xs ∙ sym (drop_head t x xs (false_from_ne_true (t x) (λ h. false≢true (sym e ∙ f x h)))))

pub same_filtered : {X : Type 0} (t w : X → Bool) → ((x : X) → t x ≡ true → w x ≡ true) → (xs ys : List X) → filter w xs ≡ filter w ys → filter t xs ≡ filter t ys
same_filtered t w f xs ys e = sym (filter_twice t w f xs) ∙ (ap (filter t) e ∙ filter_twice t w f ys)

pub same_count : {X : Type 0} (t w : X → Bool) → ((x : X) → t x ≡ true → w x ≡ true) → (xs ys : List X) → filter w xs ≡ filter w ys → count_by t xs ≡ count_by t ys
same_count t w f xs ys e = sym (length-filter t xs) ∙ (ap length (same_filtered t w f xs ys e) ∙ length-filter t ys)

-- What a seat with two slots has after plain steps.
-- For `run_crew`, `settle` and `work`.
use Rattle.std.proofs.Common.{◌≡◌, ◌∙◌, ℕ, List, [], ◌∷◌, Option, None, ap, sym}
use Rattle.atomic_table.specs.Table.{rest, turned}

module _ {P : Type 0} where
  abbrev pub head_part : List (ℕ × Option P) → Option P
  head_part [] = None
  head_part (x ∷ xs) = x.1

  -- a list that begins with a slot begins with it and goes on with its rest
  pub begins : (m : List (ℕ × Option P)) (a : ℕ) (r : Option P) (xs : List (ℕ × Option P)) → m ≡ (a, r) ∷ xs → m ≡ (a, r) ∷ rest m
  begins m a r xs e = e ∙ ap (λ t. (a, r) ∷ t) (sym (ap rest e))

  pub turned_two : (m m' m'' : List (ℕ × Option P)) (a b : ℕ) (r w : Option P) (x : Option P) → m ≡ (a, r) ∷ (b, x) ∷ [] → m' ≡ (a, w) ∷ rest m → m'' ≡ turned m' → m'' ≡ (b, x) ∷ (a, w) ∷ []
  turned_two m m' m'' a b r w x e e' e'' = e'' ∙ ap turned (e' ∙ ap (λ t. (a, w) ∷ rest t) e)

  pub same_part : (m : List (ℕ × Option P)) (a : ℕ) (r x : Option P) (xs : List (ℕ × Option P)) → m ≡ (a, x) ∷ xs → m ≡ (a, r) ∷ rest m → r ≡ x
  same_part m a r x xs e e' = sym (ap head_part e') ∙ ap head_part e

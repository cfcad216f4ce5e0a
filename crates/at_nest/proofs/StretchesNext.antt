-- What may stand behind stretches of open levels.
-- For `finish`, `finish_span`, `merge` and `run_block`.
use Rattle.std.proofs.Common.{◌≡◌, ℕ, List, [], ◌∷◌, ◌++◌, Result, Ok, Err, sym, ◌∙◌, ap, append-nil}
use Rattle.at_nest.specs.declared.finishing.Next.{Next}
use Rattle.at_nest.specs.declared.open_levels.Stretch.{Stretch}
use Rattle.at_nest.specs.Shown.{helds_of, open_levels, stretched}
use Rattle.at_nest.specs.NextItems.{levels_next}
use Rattle.at_nest.proofs.NextItems.{next_step, next_more, next_off}
use Rattle.at_nest.proofs.Stretches.{stretched_append}

pub in_stretch : {X : Type 0} (r : Result Next ℕ) (s : Stretch X) (n : Next) (k : Result Next ℕ) → levels_next r (open_levels s.round.items) ≡ Ok n → k ≡ levels_next (Ok n) (helds_of s.innermost) → k ≡ levels_next r (open_levels (stretched (s ∷ [])))
in_stretch r s n k e f = sym (ap (λ z. levels_next r (open_levels z)) (append-nil (s.round.items ++ s.innermost ∷ [])) ∙ next_step r s.round.items s.innermost n k e f)

pub off_stretch : {X : Type 0} (r : Result Next ℕ) (s : Stretch X) (i : ℕ) → levels_next r (open_levels s.round.items) ≡ Err i → Err i ≡ levels_next r (open_levels (stretched (s ∷ [])))
off_stretch r s i e = sym (ap (λ z. levels_next r (open_levels z)) (append-nil (s.round.items ++ s.innermost ∷ [])) ∙ next_off r s.round.items (s.innermost ∷ []) i e)

pub stretch_more : {X : Type 0} (r : Result Next ℕ) (ss : List (Stretch X)) (s : Stretch X) (n : Next) (k : Result Next ℕ) → levels_next r (open_levels (stretched ss)) ≡ Ok n → k ≡ levels_next (Ok n) (open_levels (stretched (s ∷ []))) → levels_next r (open_levels (stretched (ss ++ s ∷ []))) ≡ k
stretch_more r ss s n k e f = ap (λ z. levels_next r (open_levels z)) (stretched_append ss (s ∷ [])) ∙ next_more r (stretched ss) (stretched (s ∷ [])) n k e f

pub stretches_off : {X : Type 0} (r : Result Next ℕ) (ss ts : List (Stretch X)) (i : ℕ) → levels_next r (open_levels (stretched ss)) ≡ Err i → levels_next r (open_levels (stretched (ss ++ ts))) ≡ Err i
stretches_off r ss ts i e = ap (λ z. levels_next r (open_levels z)) (stretched_append ss ts) ∙ next_off r (stretched ss) (stretched ts) i e

-- What is behind a prefix of a text.
-- For `made_file`, `read_words` and `top`.
use Rattle.std.proofs.Common.{◌≡◌, ℕ, ◌==◌, Bool, true, false, cond, List, [], ◌∷◌, ◌++◌, refl, sym, ◌∙◌, ap, Option, Some, None, eq-eqb, MatchOption}
use Rattle.std.proofs.lemmas.Bool.{eqb-true}
use Rattle.std.proofs.lemmas.Option.{none-some, same_Some}
use Rattle.std.specs.Borrow.{Bor}
use Rattle.std.specs.Option.{option_copied}
use Rattle.std.specs.Str.Pattern.{FindsTextPrefix, StripsPrefix}
use Rattle.at_cli.specs.Steps.{behind}

by_test : {X : Type 0} (q : Bool) (o : Option X) (x : X) → cond q o None ≡ Some x → (q ≡ true) × (o ≡ Some x)
by_test true o x e = (refl, e)
by_test false o x e = absurd (none-some x e)

pub behind-append : (n t : List ℕ) → behind n (n ++ t) ≡ Some t
behind-append [] t = refl
behind-append (p ∷ n) t = rw (eq-eqb p p refl) (behind-append n t)

pub behind-is : (n s t : List ℕ) → behind n s ≡ Some t → s ≡ n ++ t
behind-is [] s t e = same_Some s t e
behind-is (p ∷ n) [] t e = absurd (none-some t e)
behind-is (p ∷ n) (b ∷ s) t e =
    let q = by_test (p == b) (behind n s) t e in
    let first : p ≡ b = eqb-true p b q.0 in
    let more : s ≡ n ++ t = behind-is n s t q.1 in
    cc

behind-none : (n s : List ℕ) (o : Option (List ℕ)) → behind n s ≡ o → ((rest : List ℕ) → s ≡ n ++ rest → ⊥) → None ≡ o
behind-none n s None e lacks = refl
behind-none n s (Some t) e lacks = absurd (lacks t (behind-is n s t e))

-- what `strip_prefix` gives
pub behind-stripped : (n s : List ℕ) (r : Option (Bor (List ℕ)))
    → MatchOption r (FindsTextPrefix n s None) (λ x. StripsPrefix (FindsTextPrefix n) s x.now) → option_copied r ≡ behind n s
behind-stripped n s None lacks = behind-none n s (behind n s) refl lacks
behind-stripped n s (Some x) (k, found, rest, size) =
    let split : s ≡ n ++ x.now = found.1 ∙ ap (λ t. n ++ t) (sym rest) in
    sym (ap (behind n) split ∙ behind-append n x.now)

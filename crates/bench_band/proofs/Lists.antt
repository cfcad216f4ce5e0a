use Rattle.std.proofs.Common.{◌≡◌, List, [], ◌∷◌, ◌++◌, sym, subst}
use Rattle.std.specs.Prelude.{All}
use Rattle.std.proofs.lemmas.List.Elements.{All-nil, All-cons, All-append}

pub all_pushed : {X : Type 0} (P : X → Type 0) (more xs : List X) (x : X) → more ≡ xs ++ x ∷ [] → All P xs → P x → All P more
all_pushed P more xs x e h k = subst (All P) (sym e) (All-append P xs (x ∷ []) h (All-cons P x [] k (All-nil P)))

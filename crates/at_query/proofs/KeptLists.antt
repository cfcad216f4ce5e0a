-- The elements of a list that have a property, of joined lists, and how many they are.
-- For most public calls of the crate, `add`, `add_lent`, `answer_of` among them.
use Rattle.std.proofs.Common.{◌≡◌, ◌≤◌, ◌∙◌, List, [], ◌∷◌, ◌++◌, length, arith, refl, sym, ap, subst, inl, inr, length-append}
use Rattle.std.specs.Prelude.{flat_map}
use Rattle.std.specs.List.{AllByRecursion}
use Rattle.at_query.specs.Results.{Keeps}

pub keeps-append : {X : Type 0} (P : X → Type 0) (xs ys vs ws : List X) → Keeps P xs vs → Keeps P ys ws → Keeps P (xs ++ ys) (vs ++ ws)
keeps-append P [] ys vs ws h k = rw h k
keeps-append P (x ∷ xs) ys vs ws (inl (p, (zs, e, h))) k = inl (p, (zs ++ ws, ap (λ l. l ++ ws) e, keeps-append P xs ys zs ws h k))
keeps-append P (x ∷ xs) ys vs ws (inr (n, h)) k = inr (n, keeps-append P xs ys vs ws h k)

-- and back
pub keeps_parts : {X : Type 0} (P : X → Type 0) (xs ys zs : List X) → Keeps P (xs ++ ys) zs → (vs : List X) × (ws : List X) × (zs ≡ vs ++ ws) × Keeps P xs vs × Keeps P ys ws
keeps_parts P [] ys zs h = ([], zs, refl, refl, h)
keeps_parts P (x ∷ xs) ys zs (inl (p, (rest, e, h))) =
    let (vs, ws, same, a, b) = keeps_parts P xs ys rest h in
    (x ∷ vs, ws, e ∙ ap (λ l. x ∷ l) same, inl (p, (vs, refl, a)), b)
keeps_parts P (x ∷ xs) ys zs (inr (n, h)) =
    let (vs, ws, same, a, b) = keeps_parts P xs ys zs h in
    (vs, ws, same, inr (n, a), b)

pub keeps_one : {X : Type 0} (P : X → Type 0) (x : X) → P x → Keeps P (x ∷ []) (x ∷ [])
keeps_one P x p = inl (p, ([], refl, refl))

pub drops_one : {X : Type 0} (P : X → Type 0) (x : X) → (¬ P x) → Keeps P (x ∷ []) []
drops_one P x n = inr (n, refl)

-- what holds of every element holds of those that are kept
pub kept_all : {X : Type 0} (P Q : X → Type 0) (xs ys : List X) → Keeps P xs ys → AllByRecursion Q xs → AllByRecursion Q ys
kept_all P Q [] ys h all = subst (AllByRecursion Q) (sym h) tt
kept_all P Q (x ∷ xs) ys (inl (p, (zs, e, h))) all = subst (AllByRecursion Q) (sym e) (all.0, kept_all P Q xs zs h all.1)
kept_all P Q (x ∷ xs) ys (inr (n, h)) all = kept_all P Q xs ys h all.1

-- a weight that is added up over the elements
pub kept_weight : {X Y : Type 0} (P : X → Type 0) (f : X → List Y) (xs ys : List X) → Keeps P xs ys → length (flat_map f ys) ≤ length (flat_map f xs)
kept_weight P f [] ys h = rw h (omega arith)
kept_weight P f (x ∷ xs) ys (inl (p, (zs, e, h))) = rw e (omega (arith, length-append (f x) (flat_map f zs), length-append (f x) (flat_map f xs), kept_weight P f xs zs h))
kept_weight P f (x ∷ xs) ys (inr (n, h)) = omega (arith, length-append (f x) (flat_map f xs), kept_weight P f xs ys h)

pub kept_length : {X : Type 0} (P : X → Type 0) (xs ys : List X) → Keeps P xs ys → length ys ≤ length xs
kept_length P [] ys h = rw h (omega arith)
kept_length P (x ∷ xs) ys (inl (p, (zs, e, h))) = rw e (omega (arith, kept_length P xs zs h))
kept_length P (x ∷ xs) ys (inr (n, h)) = omega (arith, kept_length P xs ys h)

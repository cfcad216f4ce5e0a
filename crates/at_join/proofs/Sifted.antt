-- Lists without some elements that haven't a property: what is found in them is what is found in the whole.
-- For `cell_pairs`, `merge` and `run`.
use Rattle.std.proofs.Common.{◌≡◌, ◌≤◌, Bool, List, [], ◌∷◌, ◌++◌, map, arith, refl, sym, ap, subst, ◌⊎◌, inl, inr}
use Rattle.std.specs.Prelude.{count_by, cond}
use Rattle.std.specs.List.{AllByRecursion}
use Rattle.std.proofs.lemmas.List.Sums.{sum_by-cons}
use Rattle.at_query.specs.Results.{Keeps, pairs_of}
use Rattle.at_join.specs.Meetings.{Finds}

-- ys are xs without some that haven't the property
abbrev pub Sifts : {X : Type 0} → (X → Type 0) → List X → List X → Type 0
Sifts P [] ys = ys ≡ []
Sifts {X} P (x ∷ xs) ys = ((zs : List X) × (ys ≡ x ∷ zs) × Sifts P xs zs) ⊎ ((¬ P x) × Sifts P xs ys)

sifts_append : {X : Type 0} (P : X → Type 0) (xs ys us vs : List X) → Sifts P xs us → Sifts P ys vs → Sifts P (xs ++ ys) (us ++ vs)
sifts_append P [] ys us vs h k = subst (λ l. Sifts P ys (l ++ vs)) (sym h) k
sifts_append P (x ∷ xs) ys us vs (inl (zs, e, r)) k = inl (zs ++ vs, ap (λ l. l ++ vs) e, sifts_append P xs ys zs vs r k)
sifts_append P (x ∷ xs) ys us vs (inr (n, r)) k = inr (n, sifts_append P xs ys us vs r k)

sifts_mapped : {X Z : Type 0} (P : Z → Type 0) (h : X → Z) (xs ys : List X) → Sifts (λ (x : X). P (h x)) xs ys → Sifts P (map h xs) (map h ys)
sifts_mapped P h [] ys e = rw e refl
sifts_mapped P h (x ∷ xs) ys (inl (zs, e, r)) = inl (map h zs, ap (map h) e, sifts_mapped P h xs zs r)
sifts_mapped P h (x ∷ xs) ys (inr (n, r)) = inr (n, sifts_mapped P h xs ys r)

pub sifts_pairs : {X : Type 0} (P : X × X → Type 0) (xs ys zs : List X) → AllByRecursion (λ (x : X). Sifts (λ (y : X). P (x, y)) ys zs) xs → Sifts P (pairs_of xs ys) (pairs_of xs zs)
sifts_pairs P [] ys zs h = refl
sifts_pairs {X} P (x ∷ xs) ys zs h =
    sifts_append P (map (λ (y : X). (x, y)) ys) (pairs_of xs ys) (map (λ (y : X). (x, y)) zs) (pairs_of xs zs)
    (sifts_mapped P (λ (y : X). (x, y)) ys zs h.0) (sifts_pairs P xs ys zs h.1)

-- those that are kept for a weaker property
pub sifts_kept : {X : Type 0} (P Q : X → Type 0) (xs ys : List X) → AllByRecursion (λ (x : X). P x → Q x) xs → Keeps Q xs ys → Sifts P xs ys
sifts_kept P Q [] ys a e = e
sifts_kept P Q (x ∷ xs) ys a (inl (q, (zs, e, r))) = inl (zs, e, sifts_kept P Q xs zs a.1 r)
sifts_kept P Q (x ∷ xs) ys a (inr (n, r)) = inr (λ p. n (a.0 p), sifts_kept P Q xs ys a.1 r)

keeps_there : {X : Type 0} (P : X → Type 0) (x : X) (xs ws zs ks : List X) → zs ≡ x ∷ ws → ((ls : List X) → Keeps P ws ls → Keeps P xs ls) → Keeps P zs ks → Keeps P (x ∷ xs) ks
keeps_there {X} P x xs ws zs ks e h k = elim (subst (λ (l : List X). Keeps P l ks) e k) [
  | inl (p, (vs, d, r)) ↦ inl (p, (vs, d, h vs r))
  | inr (n, r) ↦ inr (n, h ks r)
]

pub sifts_keeps : {X : Type 0} (P : X → Type 0) (xs zs ks : List X) → Sifts P xs zs → Keeps P zs ks → Keeps P xs ks
sifts_keeps {X} P [] zs ks e k = subst (λ (l : List X). Keeps P l ks) e k
sifts_keeps P (x ∷ xs) zs ks (inl (ws, e, r)) k = keeps_there P x xs ws zs ks e (λ ls. sifts_keeps P xs ws ls r) k
sifts_keeps P (x ∷ xs) zs ks (inr (n, r)) k = inr (n, sifts_keeps P xs zs ks r k)

pub finds_sifted : {X Y : Type 0} (P : X → Type 0) (f : X → Y) (xs zs : List X) (old new : List Y) → Sifts P xs zs → Finds P f zs old new → Finds P f xs old new
finds_sifted P f xs zs old new h (ks, k, e) = (ks, sifts_keeps P xs zs ks h k, e)

pub count_sifted : {X : Type 0} (p : X → Bool) (P : X → Type 0) (xs zs : List X) → Sifts P xs zs → count_by p zs ≤ count_by p xs
count_sifted p P [] zs e = let s = ap (count_by p) e in omega (arith, s)
count_sifted p P (x ∷ xs) zs (inl (ws, e, r)) =
    let i = count_sifted p P xs ws r in
    let s = ap (count_by p) e in
    let m = sum_by-cons (λ y. cond (p y) 1 0) x ws in
    let n = sum_by-cons (λ y. cond (p y) 1 0) x xs in
    omega (arith, i, s, m, n)
count_sifted p P (x ∷ xs) zs (inr (n, r)) =
    let i = count_sifted p P xs zs r in
    let m = sum_by-cons (λ y. cond (p y) 1 0) x xs in
    omega (arith, i, m)

-- How the content of a sink grows by one text after another.
-- For `tell_no_memory` and `top`.
use Rattle.std.proofs.Common.{◌≡◌, ℕ, ◌+◌, ◌-◌, ◌<◌, ◌≤◌, inl, inr, List, ◌++◌, length, take, drop, get_or, take-append-drop, suc, Option, Some, None, sym, ◌∙◌, ap, append_assoc, arith, length-append, subst}
use Rattle.std.proofs.lemmas.List.{take-append-le}
use Rattle.std.proofs.Math.Seq.{take-append-add, take-add, drop-cons}
use Rattle.std.proofs.lemmas.Grind.{flat_map-append}
use Rattle.std.specs.List.{flat_map}
use Rattle.at_io.specs.Counts.{Rose}
use Rattle.at_io.specs.Sinks.{Grows, GrowsByPrefix}

-- a text behind a text
pub grows_on : (u v w : Option (List ℕ)) (x y : List ℕ) → Grows u v x → Grows v w y → Grows u w (x ++ y)
grows_on None v w x y g h = tt
grows_on (Some old) v w x y g h = let P : Option (List ℕ) → Type 0 = λ o. Grows o w y in let more : w ≡ Some ((old ++ x) ++ y) = subst P g h in more ∙ ap Some (append_assoc old x y)

-- a prefix of a text behind a text
pub prefix_on : (u v w : Option (List ℕ)) (x y : List ℕ) → Grows u v x → GrowsByPrefix v w y → GrowsByPrefix u w (x ++ y)
prefix_on None v w x y g h = tt
prefix_on (Some old) v w x y g h =
    let P : Option (List ℕ) → Type 0 = λ o. GrowsByPrefix o w y in
    let (kept, short, e) = subst P g h in
    (length x + kept, omega (arith, length-append x y), e ∙ ap Some (append_assoc old x (take kept y) ∙ ap (λ t. old ++ t) (sym (take-append-add x y kept))))

-- a prefix of a text is one of a longer text
pub prefix_longer : (u v : Option (List ℕ)) (x y : List ℕ) → GrowsByPrefix u v x → GrowsByPrefix u v (x ++ y)
prefix_longer None v x y h = tt
prefix_longer (Some old) v x y (kept, short, e) = (kept, omega (arith, length-append x y), e ∙ ap (λ t. Some (old ++ t)) (sym (take-append-le kept x y short)))

-- a count that doesn't fall and then rose has risen
pub rose_on : (a b c : ℕ) → a ≤ b → Rose b c → Rose a c
rose_on a b c h (inl less) = inl (omega arith)
rose_on a b c h (inr last) = inr last

-- a prefix of one part behind the parts before it
pub prefix_at_part : {X : Type 0} (f : X → List ℕ) (parts : List X) (i : ℕ) (d : X) (piece : List ℕ) (u v w : Option (List ℕ)) → i < length parts
    → Grows u v (flat_map f (take i parts)) → piece ≡ f (get_or parts i d) → GrowsByPrefix v w piece → GrowsByPrefix u w (flat_map f parts)
prefix_at_part f parts i d piece u v w h g is kept =
    let whole : flat_map f parts ≡ (flat_map f (take i parts) ++ piece) ++ flat_map f (drop (suc i) parts) =
    ap (flat_map f) (sym (take-append-drop i parts)) ∙ flat_map-append f (take i parts) (drop i parts)
    ∙ ap (λ rest. flat_map f (take i parts) ++ flat_map f rest) (drop-cons parts i d h)
    ∙ ap (λ p. flat_map f (take i parts) ++ (p ++ flat_map f (drop (suc i) parts))) (sym is)
    ∙ sym (append_assoc (flat_map f (take i parts)) piece (flat_map f (drop (suc i) parts))) in
    let P : List ℕ → Type 0 = λ t. GrowsByPrefix u w t in
    subst P (sym whole) (prefix_longer u w (flat_map f (take i parts) ++ piece) (flat_map f (drop (suc i) parts)) (prefix_on u v w (flat_map f (take i parts)) piece g kept))

-- the text up to a place, and a piece from there to a later place
pub grows_to : (text : List ℕ) (at end : ℕ) (u v w : Option (List ℕ)) → at ≤ end
    → Grows u v (take at text) → Grows v w (take (end - at) (drop at text)) → Grows u w (take end text)
grows_to text at end u v w h g more =
    let whole : take end text ≡ take at text ++ take (end - at) (drop at text) = ap (λ n. take n text) (omega arith) ∙ take-add at (end - at) text in
    let P : List ℕ → Type 0 = λ t. Grows u w t in
    subst P (sym whole) (grows_on u v w (take at text) (take (end - at) (drop at text)) g more)

pub prefix_to : (text : List ℕ) (at end : ℕ) (u v w : Option (List ℕ)) → at ≤ end
    → Grows u v (take at text) → GrowsByPrefix v w (take (end - at) (drop at text)) → GrowsByPrefix u w text
prefix_to text at end u v w h g kept =
    let whole : text ≡ (take at text ++ take (end - at) (drop at text)) ++ drop end text =
    sym (take-append-drop end text) ∙ ap (λ t. t ++ drop end text) (ap (λ n. take n text) (omega arith) ∙ take-add at (end - at) text) in
    let P : List ℕ → Type 0 = λ t. GrowsByPrefix u w t in
    subst P (sym whole) (prefix_longer u w (take at text ++ take (end - at) (drop at text)) (drop end text) (prefix_on u v w (take at text) (take (end - at) (drop at text)) g kept))

-- A query over a list of features has one answer and one part: laws of the definitions, which no function's contract is needed for.
-- For the crates above.
use Rattle.std.proofs.Common.{◌≡◌, inl, inr, List, [], ◌∷◌, map, sym, ◌∙◌, ap, subst}
use Rattle.at_hull.proofs.Unique.{one_hull}
use Rattle.at_query.specs.declared.query.queries.Verb.{Verb}
use Rattle.at_query.specs.declared.query.queries.Verb.TheVariants as verbs
use Rattle.at_query.specs.declared.query.queries.Query.{Query}
use Rattle.at_query.specs.declared.features.Feature.{Feature}
use Rattle.at_query.specs.declared.answer.answers.Answer.{Answer}
use Rattle.at_query.specs.declared.answer.answers.Answer.TheVariants as answers
use Rattle.at_query.specs.declared.answer.parts.Part.{Part}
use Rattle.at_query.specs.declared.answer.parts.Part.TheVariants.{Entries, Hull}
use Rattle.at_query.specs.Holding.{Holds}
use Rattle.at_query.specs.Results.{Keeps, all_positions, IsAskedOf, IsResult, pairs_of, Joins, at_pair, IsJoined}
use Rattle.at_query.specs.Parts.{IsKeptOf, IsPart, IsSaid}

-- whatever the property is, it keeps one list of the elements of a list
pub one_kept : {X : Type 0} (P : X → Type 0) (xs ys zs : List X) → Keeps P xs ys → Keeps P xs zs → ys ≡ zs
one_kept P [] ys zs h k = h ∙ sym k
one_kept P (x ∷ xs) ys zs (inl (p, (us, e, h))) (inl (q, (vs, f, k))) = e ∙ (ap (λ l. x ∷ l) (one_kept P xs us vs h k) ∙ sym f)
one_kept P (x ∷ xs) ys zs (inl (p, h)) (inr (n, k)) = absurd (n p)
one_kept P (x ∷ xs) ys zs (inr (n, h)) (inl (q, k)) = absurd (n q)
one_kept P (x ∷ xs) ys zs (inr (n, h)) (inr (m, k)) = one_kept P xs ys zs h k

asked_once : (verb : Verb) (fs : List Feature) (a b : Answer) → IsAskedOf verb fs a → IsAskedOf verb fs b → a ≡ b
asked_once verbs.Hull fs a b (h, e, k) (g, f, l) = e ∙ (ap answers.Hull (one_hull (all_positions fs) h g k l) ∙ sym f)
asked_once verbs.Join fs a b e f = absurd e
asked_once _ fs a b e f = e ∙ sym f

kept_once : (verb : Verb) (fs : List Feature) (a b : Part) → IsKeptOf verb fs a → IsKeptOf verb fs b → a ≡ b
kept_once verbs.Hull fs a b (h, e, k) (g, f, l) = e ∙ (ap Hull (one_hull (all_positions fs) h g k.0 l.0) ∙ sym f)
kept_once _ fs a b e f = e ∙ sym f

pub one_result : (query : Query) (fs : List Feature) (a b : Answer) → IsResult query fs a → IsResult query fs b → a ≡ b
one_result query fs a b (ys, h, e) (zs, k, f) = asked_once query.verb zs a b (subst (λ l. IsAskedOf query.verb l a) (one_kept (Holds query) fs ys zs h k) e) f

pub one_part : (query : Query) (fs : List Feature) (a b : Part) → IsPart query fs a → IsPart query fs b → a ≡ b
one_part query fs a b (ys, h, e) (zs, k, f) = kept_once query.verb zs a b (subst (λ l. IsKeptOf query.verb l a) (one_kept (Holds query) fs ys zs h k) e) f

pub one_join : (query : Query) (fs gs : List Feature) (a b : Answer) → IsJoined query fs gs a → IsJoined query fs gs b → a ≡ b
one_join query fs gs a b (ys, h, e) (zs, k, f) = e ∙ (ap (λ ps. answers.Pairs (map at_pair ps)) (one_kept (Joins query) (pairs_of fs gs) ys zs h k) ∙ sym f)

-- and a part says one answer
pub one_said : (part : Part) (a b : Answer) → IsSaid part a → IsSaid part b → a ≡ b
one_said (Entries x) a b e f = absurd e
one_said _ a b e f = e ∙ sym f

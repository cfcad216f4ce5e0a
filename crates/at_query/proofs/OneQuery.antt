-- A line is one query, or has one fault: laws of the definitions, which no function's contract is needed for.
-- For the crates above.
use Rattle.std.proofs.Common.{◌≡◌, ℕ, inl, inr, List, sym, ◌∙◌}
use Rattle.std.proofs.lemmas.Option.{none-some, same_Some}
use Rattle.at_text.proofs.Machine.{longest_unique}
use Rattle.at_fixed.specs.declared.rounding.Coords.{Coords}
use Rattle.at_query.specs.declared.query.queries.Query.{Query}
use Rattle.at_query.specs.Spelling.{QueryText}
use Rattle.at_query.specs.Queries.{IsQueryOf, IsWrongAt, HasQueryFault}

module _ (digits : ℕ) (how : Coords) (text : List ℕ) where
  pub one_query : (p q : Query) → IsQueryOf digits how text p → IsQueryOf digits how text q → p ≡ q
  one_query p q h k = h.query_is ∙ (k.only h.line h.spelled).1

  one_wrong : (m n : ℕ) → IsWrongAt digits how text m → IsWrongAt digits how text n → m ≡ n
  one_wrong m n h k = same_Some m n (sym h.least ∙ k.only h.line h.spelled)

  pub one_query_fault : (m n : ℕ) → HasQueryFault digits how text m → HasQueryFault digits how text n → m ≡ n
  one_query_fault m n (inl h) (inl k) = longest_unique QueryText text m n h.longest k.longest
  one_query_fault m n (inl h) (inr k) = absurd (h.no_query (k.line, k.spelled))
  one_query_fault m n (inr h) (inl k) = absurd (k.no_query (h.line, h.spelled))
  one_query_fault m n (inr h) (inr k) = one_wrong m n h k

  pub query_or_fault : (q : Query) (n : ℕ) → IsQueryOf digits how text q → HasQueryFault digits how text n → ⊥
  query_or_fault q n h (inl k) = k.no_query (h.line, h.spelled)
  query_or_fault q n h (inr k) = none-some n (sym h.faultless ∙ k.only h.line h.spelled)

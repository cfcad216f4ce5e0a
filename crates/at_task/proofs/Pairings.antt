-- What is made of what is kept of two feeds is what is said of their bytes.
-- For the poll of `JoinFeed` and `run_join_feed`.
use Rattle.std.proofs.Common.{◌≡◌, ℕ, ◌≤◌, true, List, length, Result, Ok, Err, MatchResult, [], sym, subst}
use Rattle.at_query.specs.declared.query.queries.Verb.TheVariants as verbs
use Rattle.at_query.specs.declared.answer.answers.Answer.{Answer}
use Rattle.at_query.specs.Results.{IsJoined}
use Rattle.at_run.proofs.JoinedFiles.{all_pairs_joined}
use Rattle.at_query.specs.declared.answer.parts.Part.TheVariants.{Entries}
use Rattle.at_run.specs.Readers.{Asks}
use Rattle.at_task.specs.declared.ends.PairEnd.{PairEnd}
use Rattle.at_task.specs.declared.ends.PairEnd.TheVariants.{First, Second, FirstTooLarge, SecondTooLarge, Memory}
use Rattle.at_task.specs.declared.kept.Kept.{Kept}
use Rattle.at_task.specs.declared.kept.Kept.TheVariants.{Nothing}
use Rattle.at_task.specs.declared.join_feeds.Both.{Both}
use Rattle.at_task.specs.FeedEnds.{most_bytes, IsBytesPart}
use Rattle.at_task.specs.Keeping.{keeps_any, IsKept}
use Rattle.at_task.specs.Stages.{IsMade}
use Rattle.at_task.specs.PairEnds.{IsPaired, ArePairsOf, AreEntries, IsPairEnd, IsPairAnswered}

-- bytes of which something is kept are few enough
few_bytes : (asks : Asks) (bytes : List ℕ) (kept : Kept) → keeps_any kept ≡ true → IsKept asks bytes kept → length bytes ≤ most_bytes
few_bytes asks bytes Nothing e h = absurd (cc)
few_bytes asks bytes _ e h = h.0

module _ (asks_a asks_b : Asks) (a b : List ℕ) (first second : Kept) where
  pub paired_said : (out : Result Both PairEnd) → IsMade first second out → IsKept asks_a a first → IsKept asks_b b second → keeps_any second ≡ true → IsPaired asks_a asks_b a b out
  paired_said (Ok both) (e, f) h k there = (subst (IsKept asks_a a) e h, subst (IsKept asks_b b) f k)
  paired_said (Err (First fault)) e h k there = (subst (IsKept asks_a a) e h, few_bytes asks_b b second there k)
  paired_said (Err (Second fault)) ((entries, e), f) h k there =
      let part : IsBytesPart asks_a a (Entries entries) = subst (IsKept asks_a a) e h in
      ((part.0, part.1.faultless), subst (IsKept asks_b b) f k)
  paired_said (Err FirstTooLarge) e h k there = absurd e
  paired_said (Err SecondTooLarge) e h k there = absurd e
  paired_said (Err Memory) e h k there = tt

-- the pairs of the entries of both are what is answered of their bytes
module _ (asks_a asks_b : Asks) (a b : List ℕ) (both : Both) where
  pub joins_said : asks_a.query.verb ≡ verbs.Join → asks_b.query.verb ≡ verbs.Join → asks_b.query.tests ≡ [] → AreEntries asks_a asks_b a b both
      → (r : Result Answer PairEnd) → MatchResult r (ArePairsOf both) (λ end. end ≡ Memory) → IsPairAnswered asks_a asks_b a b r
  joins_said join_first join_second none (h, k) (Ok answer) (pairs, e, all) = record {
    first_faultless = (h.0, h.1.faultless);
    second_faultless = (k.0, k.1.faultless);
    first = h.1.features;
    are_first = h.1.are_features;
    second = k.1.features;
    are_second = k.1.are_features;
    is_joined = subst (IsJoined asks_a.query h.1.features k.1.features) (sym e)
        (all_pairs_joined asks_a.query asks_b.query h.1.features k.1.features both.first both.second pairs join_first join_second none h.1.is_part k.1.is_part all);
  }
  joins_said join_first join_second none h (Err end) e = subst (IsPairEnd asks_a asks_b a b) (sym e) tt

-- The fold that gives the tree itself, and what an answer tells of the bytes at any offset.
-- For `finish`, `finish_span`, `merge` and `run_block`.
use Rattle.std.proofs.Common.{◌≡◌, ℕ, List, Result, Ok, Err, true, false, if◌then◌else◌, refl, sym, ◌∙◌, ap, subst, arith, ◌+◌, ◌<◌, length, nat_lt}
use Rattle.at_text.specs.Prefix.{LongestViable}
use Rattle.at_text.specs.Syntax.{stop_fault}
use Rattle.at_text.specs.Faults.{fault_at}
use Rattle.at_text.specs.declared.faults.FaultKind.TheVariants as kinds
use Rattle.at_nest.specs.declared.finishing.NestEnd.{NestEnd}
use Rattle.at_nest.specs.declared.finishing.NestEnd.TheVariants.{Syntax, Ended, Memory}
use Rattle.at_nest.specs.Tree.{Tree, array, object, Trees, no_trees, tree_and, Members, no_members, member_and}
use Rattle.at_nest.specs.Syntax.{JsonText}
use Rattle.at_nest.specs.Forms.{fold_of, folds_of, folds_of_members}
use Rattle.at_nest.specs.Answers.{Answer, folded, syntax, ended, IsAnswer}
use Rattle.at_nest.specs.Folds.{trees}
use Rattle.at_nest.specs.KeptItems.{Content, one, free, tree_members}
use Rattle.at_nest.specs.TextAnswers.{Answers}
use Rattle.at_nest.proofs.Accepted.{accepted-JsonText}
use Rattle.at_nest.proofs.NextItems.{Tells}
use Rattle.at_nest.proofs.OneTree.{one_tree}

mutual
  pub fold_free : (t : Tree) → fold_of free t ≡ t
  fold_free (array i ts) = ap (array i) (folds_free ts)
  fold_free (object i ms) = ap (object i) (members_free ms)
  fold_free _ = refl

  folds_free : (ts : Trees) → trees (folds_of free ts) ≡ ts
  folds_free no_trees = refl
  folds_free (tree_and t ts) = ap (λ z. tree_and z (trees (folds_of free ts))) (fold_free t) ∙ ap (tree_and t) (folds_free ts)

  members_free : (ms : Members) → tree_members (folds_of_members free ms) ≡ ms
  members_free no_members = refl
  members_free (member_and name i t ms) = ap (λ z. member_and name i z (tree_members (folds_of_members free ms))) (fold_free t) ∙ ap (member_and name i t) (members_free ms)

-- a JSON text is one at every offset
text_moved : (at from : ℕ) (w : List ℕ) → JsonText at w → JsonText from w
text_moved at from w h = (accepted-JsonText from w).0 ((accepted-JsonText at w).1 h)

longest_moved : (at from : ℕ) (w : List ℕ) (n : ℕ) → LongestViable (JsonText at) w n → LongestViable (JsonText from) w n
longest_moved at from w n h = record {
  fits = h.fits;
  front = (let (v, l) = h.front in (v, text_moved at from _ l));
  longest = λ below (v, l). h.longest below (v, text_moved from at _ l);
}

inside_fault : (at : ℕ) (w : List ℕ) (i n : ℕ) → i ≡ at + n → n < length w → fault_at kinds.Syntax i ≡ stop_fault at w n
inside_fault at w i n e below = ap (fault_at kinds.Syntax) e ∙ sym (ap (λ b. if b then fault_at kinds.Syntax (at + n) else fault_at kinds.Ended (at + n)) (below_true n (length w) below))
  where
    below_true : (n m : ℕ) → n < m → nat_lt n m ≡ true
    below_true n m h = grind (arith, h)

end_fault : (at : ℕ) (w : List ℕ) → fault_at kinds.Ended (at + length w) ≡ stop_fault at w (length w)
end_fault at w = sym (ap (λ b. if b then fault_at kinds.Syntax (at + length w) else fault_at kinds.Ended (at + length w)) (never (length w)))
  where
    never : (n : ℕ) → nat_lt n n ≡ false
    never n = grind arith

-- what a right answer tells
pub told : {X : Type 0} (K : X → Content → Type 0) (at : ℕ) (w : List ℕ) (a : Answer Tree) (r : Result X NestEnd) → IsAnswer free at w a → Tells K r a → Answers K at w r
told K at w (folded t) (Ok x) (u, spells, same) k = (u, (spells, λ z other. one_tree at w u z spells other), subst (λ z. K x (one z)) (sym same ∙ fold_free u) k)
told K at w (syntax j) (Err (Syntax i)) (n, e, below, longest, none) k =
    record { no_word = λ h. none (text_moved at 0 w h); taken = n; longest = longest_moved 0 at w n longest; place = inside_fault at w i n (k ∙ e) below }
told K at w ended (Err Ended) (longest, none) k =
    record { no_word = λ h. none (text_moved at 0 w h); taken = length w; longest = longest_moved 0 at w (length w) longest; place = end_fault at w }
told K at w (folded t) (Err e) h k = untold e k
  where
    untold : (e : NestEnd) → Tells K (Err e) (folded t) → Answers K at w (Err e)
    untold (Syntax i) k = absurd k
    untold _ k = absurd k
told K at w (syntax j) (Ok x) h k = absurd k
told K at w (syntax j) (Err Ended) h k = absurd k
told K at w (syntax j) (Err Memory) h k = absurd k
told K at w ended (Ok x) h k = absurd k
told K at w ended (Err (Syntax i)) h k = absurd k
told K at w ended (Err Memory) h k = absurd k

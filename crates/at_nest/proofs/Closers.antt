-- Closing brackets one right behind another: one more of them, and all of them put behind what is kept.
-- For `finish`, `finish_span`, `merge` and `run_block`.
use Rattle.std.proofs.Common.{◌≡◌, ℕ, ◌+◌, ◌-◌, ◌%◌, ◌≤◌, zero, suc, Option, Some, None, List, [], ◌∷◌, ◌++◌, inl, inr, is_some, true, false, true≢false, refl, sym, ◌∙◌, ap, subst, append_assoc, append-nil, arith, length, take, slice_set}
use Rattle.std.proofs.Math.Nat.{add-mod_right}
use Rattle.std.proofs.lemmas.Option.{none-some}
use Rattle.at_lex.specs.declared.tokens.Bracket.{Bracket}
use Rattle.at_nest.specs.declared.pieces.Closers.{Closers}
use Rattle.at_nest.specs.declared.pieces.SpanStop.{SpanStop as CodeHalt}
use Rattle.at_nest.specs.declared.pieces.Piece.{Piece as CodePiece}
use Rattle.at_nest.specs.declared.pieces.Piece.TheVariants.{Closers as ClosersPiece}
use Rattle.at_nest.specs.Tree.{Tree}
use Rattle.at_nest.specs.Forms.{Piece, closes}
use Rattle.at_nest.specs.Levels.{Form, further, push, push_all, push_then}
use Rattle.at_nest.specs.Closers.{IsLonger, turn}
use Rattle.at_nest.specs.Refusals.{last_of}
use Rattle.at_nest.specs.Shown.{Shown, show_as, kept_outside}
use Rattle.at_nest.specs.KeptItems.{Content, free, closers, AreClosers, ArePieces, EachPiece, EachHeld, IsShown, IsPushedAs, IsOfItems, Pushes, PushesClosers}
use Rattle.at_nest.proofs.Adding.{push_all_append}
use Rattle.at_nest.proofs.Joining.{went_on, did_stop}
use Rattle.at_nest.proofs.Nests.{all_but_last}
use Rattle.at_nest.proofs.Showing.{pieces_append, pieces_cut, outside_pushes, only_one}

closers_add : (b o : Bracket) (i m n : ℕ) → closers b o i (m + n) ≡ closers b o i m ++ closers (turn b o m) (turn o b m) (i + m) n
closers_add b o i zero n = let e : i ≡ i + 0 = omega arith in let k : 0 + n ≡ n = omega arith in ap (closers b o i) k ∙ ap (λ z. closers b o z n) e
closers_add b o i (suc m) n = let e : (i + 1) + m ≡ i + suc m = omega arith in let k : suc m + n ≡ suc (m + n) = omega arith in
    ap (closers b o i) k ∙ ap (λ z. closes b i ∷ z) (closers_add o b (i + 1) m n ∙ ap (λ z. closers o b (i + 1) m ++ closers (turn o b m) (turn b o m) z n) e)

pub closers_more : (b o : Bracket) (i n : ℕ) → closers b o i n ++ (closes (turn b o n) (i + n) ∷ []) ≡ closers b o i (suc n)
closers_more b o i n = let k : n + 1 ≡ suc n = omega arith in sym (closers_add b o i n 1) ∙ ap (closers b o i) k

-- the second kind has no turn in one bracket
closers_same : (b o o2 : Bracket) (i n : ℕ) → (¬ (n ≡ 0) → o ≡ o2) → closers b o i (suc n) ≡ closers b o2 i (suc n)
closers_same b o o2 i zero h = refl
closers_same b o o2 i (suc n) h = ap (λ z. closers b z i (suc (suc n))) (h (λ e. omega (arith, e)))

longer_are : (q p r : Closers) (us vs : List (Piece Tree)) → AreClosers q us → AreClosers p vs → IsLonger q p r → AreClosers r (us ++ vs)
longer_are q p r us vs (m, eq, e) (n, ep, f) h = let k : suc (suc m + n) ≡ suc m + suc n = omega arith in
    (suc m + n, omega (arith, eq, ep, h.2, h.3, h.4), front ∙ (ap (λ z. closers r.first r.second r.from (suc m) ++ z) back ∙ (sym (closers_add r.first r.second r.from (suc m) (suc n)) ∙ ap (closers r.first r.second r.from) (sym k))))
  where
    front : us ++ vs ≡ closers r.first r.second r.from (suc m) ++ vs
    front = ap (λ z. z ++ vs) (e ∙ (ap (λ z. closers z q.second q.from (suc m)) (sym h.0) ∙ (ap (λ z. closers r.first q.second z (suc m)) (sym h.2) ∙ sym (closers_same r.first r.second q.second r.from m (λ k. h.1 (λ i. k (omega (arith, i, eq))))))))

    back : vs ≡ closers (turn r.first r.second (suc m)) (turn r.second r.first (suc m)) (r.from + suc m) (suc n)
    back = let i : p.from - r.from ≡ suc m = omega (arith, eq, h.2, h.4) in
        let j : p.from - 1 - r.from ≡ m = omega (arith, eq, h.2, h.4) in
        let at : p.from ≡ r.from + suc m = omega (arith, eq, h.2, h.4) in
        f ∙ (closers_same p.first p.second (turn r.first r.second m) p.from n (λ k. h.5.1 (λ l. k (omega (arith, l, ep))) ∙ ap (turn r.first r.second) j)
        ∙ (ap (λ z. closers z (turn r.first r.second m) p.from (suc n)) (h.5.0 ∙ ap (turn r.first r.second) i) ∙ ap (λ z. closers (turn r.first r.second (suc m)) (turn r.first r.second m) z (suc n)) at))

-- closing brackets before the first open level
closers_outside : (b o : Bracket) (i n : ℕ) (fo : List (Piece Tree)) → push_all free (closers b o i n) (record { outer = fo; levels = [] }) ≡ further (record { outer = fo ++ closers b o i n; levels = [] })
closers_outside b o i zero fo = ap (λ z. further (record { outer = z; levels = [] })) (sym (append-nil fo))
closers_outside b o i (suc n) fo = closers_outside o b (i + 1) n (fo ++ closes b i ∷ []) ∙ ap (λ z. further (record { outer = z; levels = [] })) (append_assoc fo (closes b i ∷ []) (closers o b (i + 1) n))

two_less : (n : ℕ) → n % 2 ≡ suc (suc n) % 2
two_less n = let e : n + 2 ≡ suc (suc n) = omega arith in sym (add-mod_right n 2) ∙ ap (λ z. z % 2) e

-- the first kind's turn comes behind an even number of brackets, and the second one's behind an odd number
pub turn_even : (b o : Bracket) (n : ℕ) → n % 2 ≡ 0 → turn b o n ≡ b
turn_even b o zero e = refl
turn_even b o (suc zero) e = absurd (omega (arith, e))
turn_even b o (suc (suc n)) e = turn_even b o n (two_less n ∙ e)

pub turn_odd : (b o : Bracket) (n : ℕ) → ¬ (n % 2 ≡ 0) → turn b o n ≡ o
turn_odd b o zero e = absurd (e refl)
turn_odd b o (suc zero) e = refl
turn_odd b o (suc (suc n)) e = turn_odd b o n (λ k. e (sym (two_less n) ∙ k))

set_last : {A : Type 0} (xs : List A) (x y : A) → last_of xs ≡ Some y → slice_set xs (length xs - 1) x ≡ take (length xs - 1) xs ++ x ∷ []
set_last [] x y e = absurd (none-some y e)
set_last (z ∷ []) x y e = refl
set_last (z ∷ (v ∷ xs)) x y e = let i : length (z ∷ (v ∷ xs)) - 1 ≡ suc (length (v ∷ xs) - 1) = omega arith in
    ap (λ n. slice_set (z ∷ (v ∷ xs)) n x) i ∙ (ap (λ u. z ∷ u) (set_last (v ∷ xs) x y e) ∙ ap (λ n. take n (z ∷ (v ∷ xs)) ++ x ∷ []) (sym i))

module _ {X : Type 0} (IsKept : X → Content → Type 0) where
  are_closers : (base : ℕ) (w : List ℕ) (q : Closers) (vs : List (Piece Tree)) → ArePieces IsKept base w (ClosersPiece q) vs → AreClosers q vs
  are_closers base w q vs (inl (p, e, u)) = absurd u
  are_closers base w q vs (inr k) = k

  -- where the brackets have been put behind what is kept before the first open level
  outside : (c : Closers) (ps fo : List (Piece Tree)) → AreClosers c ps → push_all free ps (record { outer = fo; levels = [] }) ≡ further (record { outer = fo ++ ps; levels = [] })
  outside c ps fo (n, g, p) = rw p (closers_outside c.first c.second c.from (suc n) fo)

  -- the last item has become longer
  pub longer_pushes : (old new : Shown X) (q p r : Closers) → old.levels ≡ [] → last_of old.outer ≡ Some (ClosersPiece q) → IsLonger q p r
      → new ≡ show_as (slice_set old.outer (length old.outer - 1) (ClosersPiece r)) old.levels → PushesClosers IsKept old new None p
  longer_pushes old new q p r e l longer d base w f ps h are = outside_pushes IsKept base w old new None new.outer f ps e h.1 (ap (λ z. (show_as new.outer z, None)) (ap (λ z. z.levels) d ∙ e)) (outside p ps f.outer are) kept
    where
      front : List (CodePiece X)
      front = take (length old.outer - 1) old.outer

      kept : EachPiece IsKept base w new.outer (f.outer ++ ps)
      kept = let s = pieces_cut IsKept base w front (ClosersPiece q) f.outer (subst (λ z. EachPiece IsKept base w z f.outer) (all_but_last old.outer (ClosersPiece q) l) h.0) in
          subst (λ z. EachPiece IsKept base w z (f.outer ++ ps)) (sym (ap (λ z. z.outer) d ∙ set_last old.outer (ClosersPiece r) (ClosersPiece q) l))
          (subst (EachPiece IsKept base w (front ++ ClosersPiece r ∷ [])) (sym (ap (λ z. z ++ ps) s.2 ∙ append_assoc s.0 s.1 ps))
          (pieces_append IsKept base w front s.0 (ClosersPiece r) (s.1 ++ ps) s.3 (inr (longer_are q p r s.1 ps (are_closers base w q s.1 s.4) are longer))))

  -- they stand alone
  pub kept_pushes : (old new : Shown X) (r : Option CodeHalt) (c : Closers) → old.levels ≡ [] → (new, r) ≡ kept_outside old.outer (ClosersPiece c) → PushesClosers IsKept old new r c
  kept_pushes old new r c e d base w f ps h are = outside_pushes IsKept base w old new r (old.outer ++ ClosersPiece c ∷ []) f ps e h.1 d (outside c ps f.outer are) (pieces_append IsKept base w old.outer f.outer (ClosersPiece c) ps h.0 (inr are))

  pub one_pushes : (old new : Shown X) (r : Option CodeHalt) (b : Bracket) (at : ℕ) (c : Closers) → c ≡ record { first = b; second = b; from = at; last = at } → PushesClosers IsKept old new r c → Pushes IsKept old new r (closes b at)
  one_pushes old new r b at c e pushes base w f h = only_one IsKept base w new r (push free f (closes b at))
      (subst (λ z. PushesClosers IsKept old new r z) e pushes base w f (closes b at ∷ []) h (0, omega arith, refl))

  -- what is kept is the same
  pub pushes_same : (old mid new : Shown X) (r : Option CodeHalt) (p : Piece Tree) → mid.outer ≡ old.outer → mid.levels ≡ old.levels → Pushes IsKept mid new r p → Pushes IsKept old new r p
  pushes_same old mid new r p e l pushes base w f h = pushes base w f (subst (λ z. EachPiece IsKept base w z f.outer) (sym e) h.0, subst (λ z. EachHeld IsKept z f.levels) (sym l) h.1)

  -- the brackets from the one offset up to the other were all pushed
  pub record Closed (old new : Shown X) (c : Closers) (at : ℕ) : Type 0 where
    pub order : c.from ≤ at
    pub items : IsOfItems IsKept new
    pub pushed : (base : ℕ) (w : List ℕ) (f : Form Tree) → IsShown IsKept base w old f → (k : Form Tree) × (push_all free (closers c.first c.second c.from (at - c.from)) f ≡ further k) × IsShown IsKept base w new k

  -- the bracket b, whose turn it is, was pushed
  pub closed_on : (old new new2 : Shown X) (c : Closers) (b : Bracket) (at : ℕ) (r : Option CodeHalt) → b ≡ turn c.first c.second (at - c.from) → is_some r ≡ false → Closed old new c at → Pushes IsKept new new2 r (closes b at) → Closed old new2 c (at + 1)
  closed_on old new new2 c b at (Some h) t n so pushes = absurd (true≢false n)
  closed_on old new new2 c b at None t n so pushes = record {
    order = omega (arith, so.order);
    items = (let (base, w, f, h) = so.items in let k = went_on IsKept base w new2 (push free f (closes b at)) (pushes base w f h) in (base, w, k.0, k.2));
    pushed = λ base w f h.
        let k = so.pushed base w f h in
        let n = went_on IsKept base w new2 (push free k.0 (closes b at)) (pushes base w k.0 k.2) in
        let m : ℕ = at - c.from in
        let front : List (Piece Tree) = closers c.first c.second c.from m in
        let i : (at + 1) - c.from ≡ suc m = omega (arith, so.order) in
        let j : c.from + m ≡ at = omega (arith, so.order) in
        let all : closers c.first c.second c.from ((at + 1) - c.from) ≡ front ++ (closes b at ∷ []) =
        ap (closers c.first c.second c.from) i ∙ (sym (closers_more c.first c.second c.from m) ∙ (ap (λ z. front ++ (closes z (c.from + m) ∷ [])) (sym t) ∙ ap (λ z. front ++ (closes b z ∷ [])) j)) in
        (n.0, ap (λ z. push_all free z f) all ∙ (push_all_append free front (closes b at ∷ []) f ∙ (ap (push_then (push_all free (closes b at ∷ []))) k.1 ∙ ap (push_then (push_all free [])) n.1)), n.2);
  }

  -- the last one was pushed
  pub closed_all : (old new new2 : Shown X) (c : Closers) (b : Bracket) (at : ℕ) (r : Option CodeHalt) → b ≡ turn c.first c.second (at - c.from) → is_some r ≡ false → at ≡ c.last → Closed old new c at → Pushes IsKept new new2 r (closes b at) → PushesClosers IsKept old new2 None c
  closed_all old new new2 c b at r t none e before pushes base w f ps h (n, g, p) =
      let so = closed_on old new new2 c b at r t none before pushes in
      let k = so.pushed base w f h in
      let i : (at + 1) - c.from ≡ suc n = omega (arith, e, g) in
      subst (IsPushedAs IsKept base w new2 None) (sym (ap (λ z. push_all free z f) (p ∙ ap (closers c.first c.second c.from) (sym i)) ∙ k.1)) k.2

  closed_stop : (old new new2 : Shown X) (c : Closers) (b : Bracket) (at : ℕ) (h : CodeHalt) → b ≡ turn c.first c.second (at - c.from) → at ≤ c.last → Closed old new c at → Pushes IsKept new new2 (Some h) (closes b at) → PushesClosers IsKept old new2 (Some h) c
  closed_stop old new new2 c b at h t below so pushes base w f ps shows (n, g, p) =
      let k = so.pushed base w f shows in
      let m : ℕ = at - c.from in
      let front : List (Piece Tree) = closers c.first c.second c.from m in
      let i : suc n ≡ m + suc (n - m) = omega (arith, below, so.order, g) in
      let j : c.from + m ≡ at = omega (arith, so.order) in
      let rest : List (Piece Tree) = closers (turn c.second c.first m) (turn c.first c.second m) (c.from + m + 1) (n - m) in
      let all : ps ≡ front ++ (closes b at ∷ rest) = p ∙ (ap (closers c.first c.second c.from) i ∙ (closers_add c.first c.second c.from m (suc (n - m)) ∙ (ap (λ z. front ++ (closes z (c.from + m) ∷ rest)) (sym t) ∙ ap (λ z. front ++ (closes b z ∷ rest)) j))) in
      let walk : push_all free ps f ≡ push_then (push_all free rest) (push free k.0 (closes b at)) = ap (λ z. push_all free z f) all ∙ (push_all_append free front (closes b at ∷ rest) f ∙ ap (push_then (push_all free (closes b at ∷ rest))) k.1) in
      subst (IsPushedAs IsKept base w new2 (Some h)) (sym walk) (did_stop IsKept base w new2 h (push free k.0 (closes b at)) (push_all free rest) (pushes base w k.0 k.2))

  -- those that are left were pushed at once
  pub closed_rest : (old new new2 : Shown X) (c rest : Closers) (at : ℕ) (r : Option CodeHalt) → rest.first ≡ turn c.first c.second (at - c.from) → rest.second ≡ turn c.second c.first (at - c.from) → rest.from ≡ at → rest.last ≡ c.last → at ≤ c.last → Closed old new c at
      → PushesClosers IsKept new new2 r rest → PushesClosers IsKept old new2 r c
  closed_rest old new new2 c rest at r e1 e2 e3 e4 below so pushes base w f ps shows (n, g, p) =
      let k = so.pushed base w f shows in
      let m : ℕ = at - c.from in
      let left : List (Piece Tree) = closers rest.first rest.second rest.from (suc (n - m)) in
      let i : suc n ≡ m + suc (n - m) = omega (arith, below, so.order, g) in
      let j : c.from + m ≡ rest.from = omega (arith, so.order, e3) in
      let same : closers (turn c.first c.second m) (turn c.second c.first m) (c.from + m) (suc (n - m)) ≡ left = ap (λ z. closers z (turn c.second c.first m) (c.from + m) (suc (n - m))) (sym e1) ∙ (ap (λ z. closers rest.first z (c.from + m) (suc (n - m))) (sym e2) ∙ ap (λ z. closers rest.first rest.second z (suc (n - m))) j) in
      let front : List (Piece Tree) = closers c.first c.second c.from m in
      let all : ps ≡ front ++ left = p ∙ (ap (closers c.first c.second c.from) i ∙ (closers_add c.first c.second c.from m (suc (n - m)) ∙ ap (λ z. front ++ z) same)) in
      let walk : push_all free ps f ≡ push_all free left k.0 = ap (λ z. push_all free z f) all ∙ (push_all_append free front left f ∙ ap (push_then (push_all free left)) k.1) in
      let size : rest.last ≡ rest.from + (n - m) = omega (arith, e3, e4, g, below, so.order) in
      subst (IsPushedAs IsKept base w new2 r) (sym walk) (pushes base w k.0 left k.2 (n - m, size, refl))

  pub closed_halt : (old new new2 : Shown X) (c : Closers) (b : Bracket) (at : ℕ) (r : Option CodeHalt) → b ≡ turn c.first c.second (at - c.from) → is_some r ≡ true → at ≤ c.last → Closed old new c at → Pushes IsKept new new2 r (closes b at) → PushesClosers IsKept old new2 r c
  closed_halt old new new2 c b at None t n below so pushes = absurd (true≢false (sym n))
  closed_halt old new new2 c b at (Some h) t n below so pushes = closed_stop old new new2 c b at h t below so pushes

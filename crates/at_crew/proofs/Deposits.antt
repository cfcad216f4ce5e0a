-- A deposit at a parent and at the root, as steps of the table.
-- For `claim`, `run_crew`, `settle` and `work`.
use Rattle.std.proofs.Common.{◌≡◌, ◌≢◌, ℕ, zero, suc, ◌+◌, ◌*◌, ◌/◌, ◌<◌, ◌⊎◌, Option, Some, None, bit_or, List, [], ◌∷◌, set, length, slice_index, slice_set, refl, sym, ap, ◌∙◌, subst, inl, inr, ⊎_elim, arith, length-set}
use mathlib.Core.Option.{some, none}
use mathlib.Core.Option as maybe
use lib.ListN.{get_elem?}
use Rattle.atomic_table.specs.Table.{State, Me, Act, takes, gives, chain, Valid, Allows, stepped, carried_after, homes_after, step}
use Rattle.atomic_table.proofs.Lists.{set_here, set_else}
use Rattle.at_crew.specs.declared.view.Climber.{Climber}
use Rattle.at_crew.specs.declared.view.View.{View}
use Rattle.at_crew.specs.declared.view.View.TheVariants.{Climbs}
use Rattle.at_crew.specs.Nodes.{IsNode, first_of, end_of, bit_of, sibling}
use Rattle.at_crew.specs.Views.{held_node, held_of, resting, climbing, OnSome}
use Rattle.at_crew.specs.Rule.{CrewRule}
use Rattle.at_crew.specs.Steps.{DepositTells, RootHomeTells, carried, kept as kept'}
use Rattle.at_crew.proofs.Tree.{Spans, spans_first, spans_right, spans_parent, first_small, node_bound}
use Rattle.at_crew.proofs.Claims.{some≢none}
use Rattle.at_crew.proofs.Turns.{turned_at, Laid, laid_same, laid_set, or_first, or_second, found_words}
use Rattle.at_crew.proofs.Firsts.{first_kept}
use Rattle.at_crew.proofs.Rests.{Holds, holds_node}
use Rattle.at_crew.proofs.Seconds.{second_kept, sib_home, sib_apart, sib_inside}
use Rattle.at_crew.proofs.Roots.{root_kept, nobody}

-- a seat's view and slots
abbrev pub me_of : {P F : Type 0} → View F → List (ℕ × Option P) → Me (Option P) (View F)
me_of w m = (w, m)

-- the act by which a pass gives all its slots home, and the slots then
abbrev pub all_home : {S : Type 0} → ℕ → Act S
all_home zero = gives
all_home (suc h) = chain gives gives

abbrev pub homes_then : {P : Type 0} → ℕ → ℕ → ℕ → P → List (maybe.Option (Option P)) → List (maybe.Option (Option P))
homes_then k zero n x homes = set homes (first_of k zero n) (some (Some x))
homes_then k (suc h) n x homes = set (set homes (first_of k h (2 * n + 1)) (some None)) (first_of k (suc h) n) (some (Some x))

gives_all : {P : Type 0} (k h n : ℕ) (x : P) (homes : List (maybe.Option (Option P)))
    → Valid homes (carried k h n (Some x)) (all_home h) × (homes_after homes (carried k h n (Some x)) (all_home h) ≡ homes_then k h n x homes) × (carried_after (carried k h n (Some x)) (all_home h) ≡ [])
gives_all k zero n x homes = (tt, refl, refl)
gives_all k (suc h) n x homes = ((tt, tt), refl, refl)

laid_then : {P : Type 0} (k l h n : ℕ) (x : P) (homes : List (maybe.Option (Option P))) → IsNode k l h n → Laid k h n homes (homes_then k h n x homes)
laid_then k l zero n x homes is = laid_set k zero n homes homes (first_of k zero n) (some (Some x)) (spans_first k l zero n is) (laid_same k zero n homes)
laid_then k l (suc h) n x homes is = laid_set k (suc h) n homes (set homes (first_of k h (2 * n + 1)) (some None)) (first_of k (suc h) n) (some (Some x)) (spans_first k l (suc h) n is)
    (laid_set k (suc h) n homes homes (first_of k h (2 * n + 1)) (some None) (spans_right k l h n is) (laid_same k (suc h) n homes))

there_then : {P : Type 0} (k h n : ℕ) (x : P) (homes : List (maybe.Option (Option P))) → first_of k h n < length homes → get_elem? (homes_then k h n x homes) (first_of k h n) ≡ some (some (Some x))
there_then k zero n x homes lt = set_here homes (first_of k zero n) (some (Some x)) lt
there_then k (suc h) n x homes lt = set_here (set homes (first_of k h (2 * n + 1)) (some None)) (first_of k (suc h) n) (some (Some x)) (let e = length-set homes (first_of k h (2 * n + 1)) (some None) in omega (arith, e, lt))

-- the act by which it keeps its own slot and takes another
abbrev pub one_more : {P : Type 0} → ℕ → ℕ → P → Act (Option P)
one_more zero o y = takes o (Some y)
one_more (suc h) o y = chain gives (takes o (Some y))

abbrev pub homes_less : {P : Type 0} → ℕ → ℕ → ℕ → ℕ → List (maybe.Option (Option P)) → List (maybe.Option (Option P))
homes_less k zero n o homes = set homes o none
homes_less k (suc h) n o homes = set (set homes (first_of k h (2 * n + 1)) (some None)) o none

takes_more : {P : Type 0} (k l h n o : ℕ) (x y : P) (homes : List (maybe.Option (Option P))) → IsNode k l h n → get_elem? homes o ≡ some (some (Some y)) → ((i : ℕ) → Spans k h n i → o ≢ i)
    → Valid homes (carried k h n (Some x)) (one_more h o y) × (homes_after homes (carried k h n (Some x)) (one_more h o y) ≡ homes_less k h n o homes) × (carried_after (carried k h n (Some x)) (one_more h o y) ≡ (o, Some y) ∷ kept' h (carried k h n (Some x)))
takes_more k l zero n o x y homes is there out = (there, refl, refl)
takes_more k l (suc h) n o x y homes is there out = ((tt, set_else homes (first_of k h (2 * n + 1)) o (some None) (out (first_of k h (2 * n + 1)) (spans_right k l h n is)) ∙ there), refl, refl)

laid_less : {P : Type 0} (k l h n o : ℕ) (homes : List (maybe.Option (Option P))) → IsNode k l h n → Spans k (suc h) (n / 2) o → Laid k (suc h) (n / 2) homes (homes_less k h n o homes)
laid_less k l zero n o homes is inside = laid_set k 1 (n / 2) homes homes o none inside (laid_same k 1 (n / 2) homes)
laid_less k l (suc h) n o homes is inside = laid_set k (suc (suc h)) (n / 2) homes (set homes (first_of k h (2 * n + 1)) (some None)) o none inside
    (laid_set k (suc (suc h)) (n / 2) homes homes (first_of k h (2 * n + 1)) (some None) (spans_parent k (suc h) n (first_of k h (2 * n + 1)) (spans_right k l h n is)) (laid_same k (suc (suc h)) (n / 2) homes))

module _ {P F : Type 0} (stands : F → P → ℕ → ℕ → Type 0) (f : F) (k : ℕ) (count : F → ℕ) (counted : k ≡ count f) (s : State (Option P) (View F)) (good : CrewRule stands f k s) (id : ℕ) (v : Climber F) (at : get_elem? s.views id ≡ some (Climbs v))
    (n h : ℕ) (held : v.held ≡ Some (held_node n h)) (x : P) (stood : stands f x (first_of k h n) (end_of k h n)) where
  mine' : Holds k s.words n h
  mine' = holds_node stands f k s good id v at n h held

  room : first_of k h n < length s.homes
  room = let a = first_small k mine'.level h n mine'.is in let b = good.deep in omega (arith, a, b)

  facts_count : count v.facts ≡ k
  facts_count = ap count (good.counted.each id (Climbs v) at).0 ∙ sym counted

  abbrev slots : List (ℕ × Option P)
  slots = carried k h n (Some x)

  abbrev u : ℕ
  u = slice_index s.words (n / 2)

  abbrev Deposits : Type 0
  Deposits = (w : View F) × (a : Act (Option P)) × Valid s.homes slots a × CrewRule stands f k (stepped s (n / 2) (bit_or u (bit_of n)) id slots w a) × DepositTells stands count (step k (n / 2) (bit_of n) 0 none) (Climbs v, slots) u (w, carried_after slots a)

  deposits_first : 1 < n → u ≡ 0 → Deposits
  deposits_first deep e = let g = gives_all k h n x s.homes in let or = or_first n u e in let small = node_bound k mine'.level h n mine'.is in
      let inside : n / 2 < length s.words = (let wide = good.wide in omega (arith, wide, small)) in
      let kept : CrewRule stands f k record { words = slice_set s.words (n / 2) (bit_of n); homes = homes_then k h n x s.homes; views = set s.views id (Climbs (resting v)) } =
      first_kept stands f k s good id v at n h held deep (slice_set s.words (n / 2) (bit_of n)) (turned_at s.words (n / 2) (bit_of n) inside) e
      (homes_then k h n x s.homes) (laid_then k mine'.level h n x s.homes mine'.is) x (there_then k h n x s.homes room) stood (length-set s.words (n / 2) (bit_of n)) in (
        Climbs (resting v),
        all_home h,
        g.0,
        subst (λ (z : ℕ × List (maybe.Option (Option P))). CrewRule stands f k record { words = slice_set s.words (n / 2) z.0; homes = z.1; views = set s.views id (Climbs (resting v)) }) (λ i. (sym or i, sym g.1 i)) kept,
        (
          facts_count,
          subst (λ o. OnSome o (λ p. ((u ≡ 0) × (me_of (Climbs (resting v)) (carried_after slots (all_home h)) ≡ me_of (Climbs (resting v)) []))
              ⊎ ((0 < u) × ((y : P) × (me_of (Climbs (resting v)) (carried_after slots (all_home h)) ≡ me_of (Climbs (climbing (held_node (n / 2) (p.height + 1)) v)) ((first_of k p.height (sibling p.node), Some y) ∷ kept' p.height slots)) × stands v.facts y (first_of k p.height (sibling p.node)) (end_of k p.height (sibling p.node)))))) (sym held)
              (inl (e, λ i. (Climbs (resting v), g.2 i))),
        ),
      )

  deposits_second : 1 < n → u + bit_of n ≡ 3 → Deposits
  deposits_second deep e = let or = or_second n u e in let small = node_bound k mine'.level h n mine'.is in
      let inside : n / 2 < length s.words = (let wide = good.wide in omega (arith, wide, small)) in
      let turn = turned_at s.words (n / 2) 3 inside in
      let o : ℕ = first_of k h (sibling n) in
      let theirs = sib_home stands f k s good id v at n h held deep (slice_set s.words (n / 2) 3) turn e in
      let g = takes_more k mine'.level h n (first_of k h (sibling n)) x theirs.0 s.homes mine'.is theirs.1 (sib_apart stands f k s good id v at n h held deep (slice_set s.words (n / 2) 3) turn e) in
      let kept : CrewRule stands f k record { words = slice_set s.words (n / 2) 3; homes = homes_less k h n (first_of k h (sibling n)) s.homes; views = set s.views id (Climbs (climbing (held_node (n / 2) (h + 1)) v)) } =
      second_kept stands f k s good id v at n h held deep (slice_set s.words (n / 2) 3) turn e
      (homes_less k h n (first_of k h (sibling n)) s.homes) (laid_less k mine'.level h n (first_of k h (sibling n)) s.homes mine'.is (sib_inside stands f k s good id v at n h held deep (slice_set s.words (n / 2) 3) turn e)) (length-set s.words (n / 2) 3) in
      let facts : f ≡ v.facts = sym (good.counted.each id (Climbs v) at).0 in (
        Climbs (climbing (held_node (n / 2) (h + 1)) v),
        one_more h (first_of k h (sibling n)) theirs.0,
        g.0,
        subst (λ (z : ℕ × List (maybe.Option (Option P))). CrewRule stands f k record { words = slice_set s.words (n / 2) z.0; homes = z.1; views = set s.views id (Climbs (climbing (held_node (n / 2) (h + 1)) v)) }) (λ i. (sym or i, sym g.1 i)) kept,
        (
          facts_count,
          subst (λ q. OnSome q (λ p. ((u ≡ 0) × (me_of (Climbs (climbing (held_node (n / 2) (h + 1)) v)) (carried_after slots (one_more h (first_of k h (sibling n)) theirs.0)) ≡ me_of (Climbs (resting v)) []))
              ⊎ ((0 < u) × ((y : P) × (me_of (Climbs (climbing (held_node (n / 2) (h + 1)) v)) (carried_after slots (one_more h (first_of k h (sibling n)) theirs.0)) ≡ me_of (Climbs (climbing (held_node (n / 2) (p.height + 1)) v)) ((first_of k p.height (sibling p.node), Some y) ∷ kept' p.height slots)) × stands v.facts y (first_of k p.height (sibling p.node)) (end_of k p.height (sibling p.node)))))) (sym held)
              (inr (omega (arith, e), (theirs.0, (λ i. (Climbs (climbing (held_node (n / 2) (h + 1)) v), g.2 i)), subst (λ (q : F). stands q theirs.0 (first_of k h (sibling n)) (end_of k h (sibling n))) facts theirs.2))),
        ),
      )

  pub deposits_at : 1 < n → (w : View F) × (a : Act (Option P)) × Valid s.homes slots a × CrewRule stands f k (stepped s (n / 2) (bit_or u (bit_of n)) id slots w a) × DepositTells stands count (step k (n / 2) (bit_of n) 0 none) (Climbs v, slots) u (w, carried_after slots a)
  deposits_at deep = ⊎_elim (deposits_first deep) (deposits_second deep) (found_words k s.words n good.marked deep (node_bound k mine'.level h n mine'.is) mine'.loose)

module _ {P F : Type 0} (stands : F → P → ℕ → ℕ → Type 0) (count : F → ℕ) (f : F) where
  pub deposits : (size b id : ℕ) (w : View F) (me : List (ℕ × Option P)) (n h : ℕ) (x : P) → size ≡ b → held_of w ≡ Some (held_node n h) → me ≡ carried b h n (Some x) → 1 < n → stands f x (first_of b h n) (end_of b h n)
      → Allows (CrewRule stands f (count f)) size id (w, me) (n / 2) (λ u. bit_or u (bit_of n)) (DepositTells stands count (step size (n / 2) (bit_of n) 0 none) (w, me))
  deposits size b id (Climbs v) me n h x e held is deep stood s good len at lt = let all : count f ≡ size = sym good.deep ∙ len in
      let stood' = subst (λ (k : ℕ). stands f x (first_of k h n) (end_of k h n)) (sym (all ∙ e)) stood in
      subst (λ (z : ℕ × List (ℕ × Option P)). (w : View F) × (a : Act (Option P)) × Valid s.homes z.1 a × CrewRule stands f (count f) (stepped s (n / 2) (bit_or (slice_index s.words (n / 2)) (bit_of n)) id z.1 w a)
      × DepositTells stands count (step z.0 (n / 2) (bit_of n) 0 none) (Climbs v, z.1) (slice_index s.words (n / 2)) (w, carried_after z.1 a)) (λ i. (all i, (ap (λ (k : ℕ). carried k h n (Some x)) (all ∙ e) ∙ sym is) i))
      (deposits_at stands f (count f) count refl s good id v at n h held x stood' deep)
  deposits size b id _ me n h x e held is deep stood s good len at lt = absurd (some≢none (sym held))

  -- the root
  root_homes_at : (s : State (Option P) (View F)) → CrewRule stands f (count f) s → (id : ℕ) (v : Climber F) → get_elem? s.views id ≡ some (Climbs v) → (h : ℕ) (x : P) → v.held ≡ Some (held_node 1 h) → stands f x (first_of (count f) h 1) (end_of (count f) h 1)
      → (w : View F) × (a : Act (Option P)) × Valid s.homes (carried (count f) h 1 (Some x)) a × CrewRule stands f (count f) (stepped s (count f) (bit_or (slice_index s.words (count f)) 1) id (carried (count f) h 1 (Some x)) w a) × (me_of w (carried_after (carried (count f) h 1 (Some x)) a) ≡ me_of (Climbs (resting v)) [])
  root_homes_at s good id v at h x held stood = let k : ℕ = count f in let g = gives_all (count f) h 1 x s.homes in let mine = holds_node stands f (count f) s good id v at 1 h held in
      let inside : count f < length s.words = (let wide = good.wide in omega (arith, wide)) in
      let turn = turned_at s.words (count f) 1 inside in
      let none : slice_index s.words (count f) ≡ 0 = nobody stands f (count f) s good id v at h held (slice_set s.words (count f) 1) turn in
      let or : bit_or (slice_index s.words (count f)) 1 ≡ 1 = ap (λ (y : ℕ). bit_or y 1) none in
      let lt : first_of (count f) h 1 < length s.homes = (let a = first_small (count f) mine.level h 1 mine.is in let b = good.deep in omega (arith, a, b)) in
      let kept : CrewRule stands f (count f) record { words = slice_set s.words (count f) 1; homes = homes_then (count f) h 1 x s.homes; views = set s.views id (Climbs (resting v)) } =
      root_kept stands f (count f) s good id v at h held (slice_set s.words (count f) 1) turn (homes_then (count f) h 1 x s.homes) (laid_then (count f) mine.level h 1 x s.homes mine.is) x (there_then (count f) h 1 x s.homes lt) stood (length-set s.words (count f) 1) in (
        Climbs (resting v),
        all_home h,
        g.0,
        subst (λ (z : ℕ × List (maybe.Option (Option P))). CrewRule stands f (count f) record { words = slice_set s.words (count f) z.0; homes = z.1; views = set s.views id (Climbs (resting v)) }) (λ i. (sym or i, sym g.1 i)) kept,
        λ i. (Climbs (resting v), g.2 i),
      )

  pub root_homes : (size b id : ℕ) (w : View F) (me : List (ℕ × Option P)) (h : ℕ) (x : P) → size ≡ b → held_of w ≡ Some (held_node 1 h) → me ≡ carried b h 1 (Some x) → stands f x (first_of b h 1) (end_of b h 1)
      → Allows (CrewRule stands f (count f)) size id (w, me) b (λ u. bit_or u 1) (RootHomeTells (step size b 1 0 none) (w, me))
  root_homes size b id (Climbs v) me h x e held is stood s good len at lt = let all : count f ≡ b = sym good.deep ∙ len ∙ e in
      let stood' = subst (λ (k : ℕ). stands f x (first_of k h 1) (end_of k h 1)) (sym all) stood in
      subst (λ (z : ℕ × List (ℕ × Option P)). (w : View F) × (a : Act (Option P)) × Valid s.homes z.1 a × CrewRule stands f (count f) (stepped s z.0 (bit_or (slice_index s.words z.0) 1) id z.1 w a)
      × (me_of w (carried_after z.1 a) ≡ me_of (Climbs (resting v)) [])) (λ i. (all i, (ap (λ (k : ℕ). carried k h 1 (Some x)) all ∙ sym is) i))
      (root_homes_at s good id v at h x held stood')
  root_homes size b id _ me h x e held is stood s good len at lt = absurd (some≢none (sym held))

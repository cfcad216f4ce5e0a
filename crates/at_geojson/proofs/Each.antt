-- Lists of atoms beside the trees for which they stand: what each item is in a role, and when one has not the role.
-- For `add`, `array`, `object` and `value`.
use Rattle.std.proofs.Common.{◌≡◌, suc, Bool, true, false, ◌&&◌, if◌then◌else◌, List, [], ◌∷◌, length, map, flat_map, Option, Some, None, is_some, option_map, option_and_then, refl, sym, ◌∙◌, ap}
use Rattle.std.specs.List.{list_all}
use Rattle.std.proofs.lemmas.Bool.{true≢false}
use Rattle.std.proofs.lemmas.Option.{none-some}
use Rattle.std.proofs.lemmas.List.Concat.{flat_map-cons}
use Rattle.at_text.specs.Faults.{comes_first, first_fault, first_of}
use Rattle.at_text.specs.declared.faults.Fault.{Fault}
use Rattle.at_text.proofs.FaultOrder.{first_of-append}
use Rattle.at_nest.specs.Folds.{AreFolds}
use Rattle.at_nest.specs.Tree.{Tree, Trees, no_trees, tree_and}
use Rattle.at_nest.specs.Twins.{twins_of, twins_of_items}
use Rattle.at_query.specs.Keeping.{Asked}
use Rattle.at_geojson.specs.declared.atoms.atom.GeoAtom.{GeoAtom}
use Rattle.at_geojson.specs.Names.{items_of}
use Rattle.at_geojson.specs.Coordinates.{each}
use Rattle.at_geojson.specs.Atoms.{Alike, twin_of, IsRead, IsFold}
use Rattle.at_geojson.specs.Gathering.{firsts}
use Rattle.at_geojson.proofs.Firsts.{firsts-cons}

-- ---- relations of lists

pub folds_map : (P Q : GeoAtom → Tree → Type 0) → ((a : GeoAtom) (t : Tree) → P a t → Q a t) → (aa : List GeoAtom) (ts : Trees) → AreFolds P aa ts → AreFolds Q aa ts
folds_map P Q f [] no_trees h = tt
folds_map P Q f (a ∷ aa) (tree_and t ts) h = (f a t h.0, folds_map P Q f aa ts h.1)
folds_map P Q f _ _ h = absurd h

-- neither of two has a fault
pub none_left : (o p : Option Fault) → first_fault o p ≡ None → o ≡ None
none_left None p e = refl
none_left (Some f) None e = e
none_left (Some f) (Some g) e = absurd (some_first f g e) where
  pick : (b : Bool) (f g : Fault) → (if b then Some f else Some g) ≡ None → ⊥
  pick true f g h = none-some f (sym h)
  pick false f g h = none-some g (sym h)

  some_first : (f g : Fault) → first_fault (Some f) (Some g) ≡ None → ⊥
  some_first f g h = pick (comes_first f g) f g h

pub none_behind : (o p : Option Fault) → first_fault o p ≡ None → p ≡ None
none_behind None p e = e
none_behind (Some f) p e = absurd (none-some f (sym (none_left (Some f) p e)))

-- ---- all items have a role, or one hasn't

module _ {X Y : Type 0} (f : Tree → Option Y) (view : GeoAtom → Option X) (R : X → Y → Type 0) where
  -- an item's value in the role, and what is kept of it
  abbrev pub Is : GeoAtom → Y → Type 0
  Is a y = (x : X) × (view a ≡ Some x) × R x y

  abbrev pub EachIs : List GeoAtom → List Y → Type 0
  EachIs [] [] = Unit {0}
  EachIs (a ∷ aa) (y ∷ ys) = Is a y × EachIs aa ys
  EachIs _ _ = ⊥

  pub one_some : (o : Option X) (p : Option Y) → Alike R o p → is_some o ≡ true → (x : X) × (y : Y) × (o ≡ Some x) × (p ≡ Some y) × R x y
  one_some (Some x) (Some y) r e = (x, y, refl, refl, r)
  one_some None None r e = absurd (true≢false (sym e))
  one_some _ _ r e = absurd r

  pub one_none : (o : Option X) (p : Option Y) → Alike R o p → is_some o ≡ false → p ≡ None
  one_none (Some x) p r e = absurd (true≢false e)
  one_none None (Some y) r e = absurd r
  one_none None None r e = refl

  both_true : (a b : Bool) → (a && b) ≡ true → (a ≡ true) × (b ≡ true)
  both_true true b e = (refl, e)
  both_true false b e = absurd (true≢false (sym e))

  pub all_some : (aa : List GeoAtom) (ts : Trees) → AreFolds (λ a t. Alike R (view a) (f t)) aa ts → list_all (λ a. is_some (view a)) aa ≡ true
      → (ys : List Y) × (each f (items_of ts) ≡ Some ys) × EachIs aa ys
  all_some [] no_trees h e = ([], refl, tt)
  all_some (a ∷ aa) (tree_and t ts) (h, hs) e =
      let b = both_true (is_some (view a)) (list_all (λ a. is_some (view a)) aa) e in
      let (x, y, ev, ef, r) = one_some (view a) (f t) h b.0 in
      let (ys, es, rs) = all_some aa ts hs b.1 in
      (y ∷ ys, ap (λ p. option_and_then (λ z. option_map (λ zs. z ∷ zs) (each f (items_of ts))) p) ef ∙ ap (λ q. option_map (λ zs. y ∷ zs) q) es, ((x, ev, r), rs))
  all_some [] (tree_and t ts) h e = absurd h
  all_some (a ∷ aa) no_trees h e = absurd h

  pub some_none : (aa : List GeoAtom) (ts : Trees) → AreFolds (λ a t. Alike R (view a) (f t)) aa ts → list_all (λ a. is_some (view a)) aa ≡ false → each f (items_of ts) ≡ None
  some_none [] no_trees h e = absurd (true≢false e)
  some_none (a ∷ aa) (tree_and t ts) (h, hs) e = go (is_some (view a)) refl (some_none aa ts hs) where
    rest : (p : Option Y) → each f (items_of ts) ≡ None → option_and_then (λ z. option_map (λ zs. z ∷ zs) (each f (items_of ts))) p ≡ None
    rest None n = refl
    rest (Some y) n = ap (λ q. option_map (λ zs. y ∷ zs) q) n

    go : (b : Bool) → is_some (view a) ≡ b → (list_all (λ a. is_some (view a)) aa ≡ false → each f (items_of ts) ≡ None) → each f (items_of (tree_and t ts)) ≡ None
    go true k more = rest (f t) (more (ap (λ c. c && list_all (λ a. is_some (view a)) aa) (sym k) ∙ e))
    go false k more = ap (λ p. option_and_then (λ z. option_map (λ zs. z ∷ zs) (each f (items_of ts))) p) (one_none (view a) (f t) h k)
  some_none [] (tree_and t ts) h e = absurd h
  some_none (a ∷ aa) no_trees h e = absurd h

  -- the first fault of all is that of the faults of each
  pub firsts_each : (g : GeoAtom → Option Fault) (G : Y → List Fault) → ((a : GeoAtom) (y : Y) → Is a y → g a ≡ first_of (G y))
      → (aa : List GeoAtom) (ys : List Y) → EachIs aa ys → firsts g aa ≡ first_of (flat_map G ys)
  firsts_each g G same [] [] h = refl
  firsts_each g G same (a ∷ aa) (y ∷ ys) h = firsts-cons g a aa ∙ (ap (λ o. first_fault o (firsts g aa)) (same a y h.0)
      ∙ (ap (first_fault (first_of (G y))) (firsts_each g G same aa ys h.1) ∙ (sym (first_of-append (G y) (flat_map G ys)) ∙ ap first_of (sym (flat_map-cons G y ys)))))
  firsts_each g G same _ _ h = absurd h

  -- where none has a fault, what is kept of each
  pub values_each : {Z : Type 0} (g : GeoAtom → Option Fault) (v : GeoAtom → Z) (w : Y → Z) → ((a : GeoAtom) (y : Y) → Is a y → g a ≡ None → v a ≡ w y)
      → (aa : List GeoAtom) (ys : List Y) → EachIs aa ys → firsts g aa ≡ None → map v aa ≡ map w ys
  values_each g v w same [] [] h e = refl
  values_each g v w same (a ∷ aa) (y ∷ ys) h e =
      let o = sym (firsts-cons g a aa) ∙ e in
      let one = same a y h.0 (none_left (g a) (firsts g aa) o) in
      let more = values_each g v w same aa ys h.1 (none_behind (g a) (firsts g aa) o) in
      ap (λ z. z ∷ map v aa) one ∙ ap (λ zs. w y ∷ zs) more
  values_each g v w same _ _ h e = absurd h

  pub length_each : (aa : List GeoAtom) (ys : List Y) → EachIs aa ys → length aa ≡ length ys
  length_each [] [] h = refl
  length_each (a ∷ aa) (y ∷ ys) h = ap suc (length_each aa ys h.1)
  length_each _ _ h = absurd h

-- ---- equal names in items

module _ (asked : Asked) where
  pub twins_items : (aa : List GeoAtom) (ts : Trees) → AreFolds (IsFold asked) aa ts → firsts twin_of aa ≡ first_of (twins_of_items ts)
  twins_items [] no_trees h = refl
  twins_items (a ∷ aa) (tree_and t ts) h = firsts-cons twin_of a aa ∙ (ap (λ o. first_fault o (firsts twin_of aa)) h.0.twins
      ∙ (ap (first_fault (first_of (twins_of t))) (twins_items aa ts h.1) ∙ sym (first_of-append (twins_of t) (twins_of_items ts))))
  twins_items _ _ h = absurd h

  pub reads : (aa : List GeoAtom) (ts : Trees) → AreFolds (IsFold asked) aa ts → firsts twin_of aa ≡ None → AreFolds (IsRead asked) aa ts
  reads [] no_trees h e = tt
  reads (a ∷ aa) (tree_and t ts) h e =
      let o = sym (firsts-cons twin_of a aa) ∙ e in
      (h.0.read (none_left (twin_of a) (firsts twin_of aa) o), reads aa ts h.1 (none_behind (twin_of a) (firsts twin_of aa) o))
  reads _ _ h e = absurd h

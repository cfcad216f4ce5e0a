-- The atom of an array by the sort of its items.
-- For `add`, `array` and `value`.
use Rattle.std.proofs.Common.{◌≡◌, ◌≢◌, inl, inr, ℕ, Bool, List, [], ◌∷◌, Some, None, refl, sym, ◌∙◌, ap, subst}
use Rattle.at_nest.specs.Folds.{AreFolds}
use Rattle.at_nest.specs.Tree.{array, Trees, no_trees}
use Rattle.at_query.specs.Keeping.{Asked, needs_shapes}
use Rattle.at_geojson.specs.declared.atoms.atom.GeoAtom.{GeoAtom}
use Rattle.at_geojson.specs.declared.atoms.atom.GeoAtom.TheVariants as atoms
use Rattle.at_geojson.specs.declared.atoms.sorts.Sort.{Sort}
use Rattle.at_geojson.specs.declared.atoms.sorts.Sort.TheVariants as sorts
use Rattle.at_geojson.specs.Atoms.{twin_of, IsRead, IsRun, IsFold}
use Rattle.at_geojson.specs.Gathering.{firsts, least_of, rank, sort_of_all, pair_atom, MakesPoints, MakesLists, MakesAreas}
use Rattle.at_geojson.specs.Arrays.{MakesItems, MakesNumbers, ClosesItems}
use Rattle.at_geojson.specs.Names.{items_of}
use Rattle.at_geojson.proofs.Each.{reads}
use Rattle.at_geojson.proofs.ItemFolds.{one_each, trees_of_items}
use Rattle.at_geojson.proofs.ArrayFolds.{HasNoForm, empty_read}
use Rattle.at_geojson.proofs.ArrayReads.{points_read, lists_read, areas_read, position_read, one_number, read_folds, twin_of_pair}
use Rattle.at_geojson.proofs.MixedFolds.{made_read, made_twin}

module _ (asked : Asked) (at : ℕ) where
  pub empty_folds : IsFold asked (atoms.Empty at) (array at no_trees)
  empty_folds = record { twins = refl; read = λ _. empty_read asked at }

  -- an array of which each item stands for one tree
  pub closes_each : (items : List GeoAtom) (r : GeoAtom) → ClosesItems asked at items r → (ts : Trees) → AreFolds (IsFold asked) items ts → IsFold asked r (array at ts)
  closes_each items r k ts h = subst (λ z. IsFold asked r (array at z)) (trees_of_items ts) (k (items_of ts) (one_each (IsFold asked) (IsRun asked) items ts h))

  module _ (items : List GeoAtom) (some : items ≢ []) (twins : firsts twin_of items ≡ None) where
    -- of items of one sort, of which such an atom is made
    sort_fold : (Makes : Bool → ℕ → List GeoAtom → GeoAtom → Type 0) (sort : Sort)
        → ((a : GeoAtom) (aa : List GeoAtom) (ts : Trees) → AreFolds (IsRead asked) (a ∷ aa) ts → rank (sort_of_all (a ∷ aa)) ≡ rank sort → (r : GeoAtom) → Makes (needs_shapes asked.query) (least_of (a ∷ aa)) (a ∷ aa) r → IsRead asked r (array at ts))
        → (b : Bool) (least : ℕ) (r : GeoAtom) → b ≡ needs_shapes asked.query → least ≡ least_of items → sort_of_all items ≡ sort → Makes b least items r → twin_of r ≡ None → (ts : Trees) → AreFolds (IsFold asked) items ts → IsFold asked r (array at ts)
    sort_fold Makes sort read b least r eb el es m none ts h = go items refl where
      m2 : Makes (needs_shapes asked.query) (least_of items) items r
      m2 = subst (λ z. Makes z (least_of items) items r) eb (subst (λ z. Makes b z items r) el m)

      go : (aa : List GeoAtom) → items ≡ aa → IsFold asked r (array at ts)
      go [] e = absurd (some e)
      go (a ∷ aa) e = read_folds asked at items ts r h twins none
          (read a aa ts (reads asked (a ∷ aa) ts (subst (λ z. AreFolds (IsFold asked) z ts) e h) (ap (firsts twin_of) (sym e) ∙ twins)) (ap (λ z. rank (sort_of_all z)) (sym e) ∙ ap rank es) r
          (subst (λ z. Makes (needs_shapes asked.query) (least_of z) z r) e m2))

    pub points_fold : (b : Bool) (least : ℕ) (r : GeoAtom) → b ≡ needs_shapes asked.query → least ≡ least_of items → sort_of_all items ≡ sorts.Position → MakesPoints b at least items r
        → (ts : Trees) → AreFolds (IsFold asked) items ts → IsFold asked r (array at ts)
    points_fold b least r eb el es m = sort_fold (λ n. MakesPoints n at) sorts.Position (points_read asked at) b least r eb el es m (ap twin_of m.result_is)

    pub lists_fold : (b : Bool) (least : ℕ) (r : GeoAtom) → b ≡ needs_shapes asked.query → least ≡ least_of items → sort_of_all items ≡ sorts.Points → MakesLists b at least items r
        → (ts : Trees) → AreFolds (IsFold asked) items ts → IsFold asked r (array at ts)
    lists_fold b least r eb el es m = sort_fold (λ n. MakesLists n at) sorts.Points (lists_read asked at) b least r eb el es m (ap twin_of m.result_is)

    pub areas_fold : (b : Bool) (least : ℕ) (r : GeoAtom) → b ≡ needs_shapes asked.query → least ≡ least_of items → sort_of_all items ≡ sorts.Lists → MakesAreas b at least items r
        → (ts : Trees) → AreFolds (IsFold asked) items ts → IsFold asked r (array at ts)
    areas_fold b least r eb el es m = sort_fold (λ n. MakesAreas n at) sorts.Lists (areas_read asked at) b least r eb el es m (ap twin_of m.result_is)

    made : (r : GeoAtom) (a : GeoAtom) (aa : List GeoAtom) (ts : Trees) (h : AreFolds (IsRead asked) (a ∷ aa) ts) → HasNoForm asked at ts → MakesItems asked at (a ∷ aa) r → IsRead asked r (array at ts)
    made r a aa ts h f m = subst (λ z. IsRead asked r (array at z)) (trees_of_items ts)
        (made_read asked at a aa r (items_of ts) (one_each (IsRead asked) (IsRun asked) (a ∷ aa) ts h) (subst (HasNoForm asked at) (sym (trees_of_items ts)) f) m)

    pub numbers_fold : (r : GeoAtom) → sort_of_all items ≡ sorts.Number → MakesNumbers asked at items r → (ts : Trees) → AreFolds (IsFold asked) items ts → IsFold asked r (array at ts)
    numbers_fold r es m ts h = go items refl m where
      go : (aa : List GeoAtom) → items ≡ aa → MakesNumbers asked at items r → IsFold asked r (array at ts)
      go [] e n = absurd (some e)
      go (a ∷ aa) e (inl p) =
          let read = reads asked (a ∷ aa) ts (subst (λ z. AreFolds (IsFold asked) z ts) e h) (ap (firsts twin_of) (sym e) ∙ twins) in
          read_folds asked at items ts r h twins (twin_of_pair at (least_of items) items r p)
          (position_read asked at a aa ts read (ap (λ z. rank (sort_of_all z)) (sym e) ∙ ap rank es) r (subst (λ z. pair_atom at (least_of z) z ≡ Some r) e p))
      go (a ∷ aa) e (inr p) =
          let read = reads asked (a ∷ aa) ts (subst (λ z. AreFolds (IsFold asked) z ts) e h) (ap (firsts twin_of) (sym e) ∙ twins) in
          read_folds asked at items ts r h twins (made_twin asked at items r p.1)
          (made r a aa ts read (one_number asked at a aa ts read (ap (λ z. rank (sort_of_all z)) (sym e) ∙ ap rank es) (subst (λ z. pair_atom at (least_of z) z ≡ None) e p.0)) (subst (λ z. MakesItems asked at z r) e p.1))

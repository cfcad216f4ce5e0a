-- What the functions that read geometries answer.
-- For `read_line`, `read_geometry` and `Room::check_line`.
use Rattle.std.proofs.Common.{◌≡◌, ℕ, ◌≤◌, ◌⊎◌, inl, inr, false, not, List, [], ◌∷◌, ◌++◌, length, map, flat_map, option_to_list, codes, Option, Some, None, Result, refl, sym, ◌∙◌, ap, subst, append-nil}
use Rattle.std.specs.Result.{MatchResult}
use Rattle.at_wkt.proofs.Names.{Fault, first_of, Coords, Halt, Kind, GeometryCollection, Head, Read, Gathered, shape_of, faults_of, Geometry, collection, no_geometries, geometry_and, IfStopped, next, Spelt, Stuck, HasCount, KeywordStands, KeywordBreaks, Body, BodyStands, PartStands, Leads}
use Rattle.at_wkt.specs.Meaning.{present}
use Rattle.at_wkt.proofs.Steps.{Same, When, when_leads, same_leads}
use Rattle.at_wkt.proofs.WordSteps.{Word, word_spelt, word_stuck}
use Rattle.at_wkt.proofs.BodySteps.{is_open, is_shut, word_begins}
use Rattle.at_text.proofs.Exits.{answers_by}

-- ---- what the members of a list give together

pub present_map : {X Y : Type 0} (f : X → Y) (xs : List (Option X)) → flat_map (λ o. map f (option_to_list o)) xs ≡ map f (present xs)
present_map f [] = refl
present_map f (None ∷ xs) = present_map f xs
present_map f (Some x ∷ xs) = ap (λ z. f x ∷ z) (present_map f xs)

pub present_flat : {X Y : Type 0} (f : X → List Y) (xs : List (Option X)) → flat_map (λ o. flat_map f (option_to_list o)) xs ≡ flat_map f (present xs)
present_flat f [] = refl
present_flat f (None ∷ xs) = present_flat f xs
present_flat f (Some x ∷ xs) = ap (λ z. z ++ flat_map (λ o. flat_map f (option_to_list o)) xs) (append-nil (f x)) ∙ ap (λ z. f x ++ z) (present_flat f xs)

-- ---- bodies

-- a part makes the body
pub made : {X : Type 0} (P : ℕ → X → ℕ → List ℕ → Type 0) (f : X → Geometry) → Same (λ d g at v. (x : X) × (g ≡ f x) × P d x at v) P (λ at x. f x)
made P f = record { to = λ d x at v h. (x, refl, h); from = λ d g at v h. h }

module _ (digits : ℕ) (how : Coords) (base : ℕ) (w : List ℕ) (head : Head) where
  -- where a part stands behind the head, the body does
  abbrev pub OnBody : {X : Type 0} → (ℕ → X → ℕ → List ℕ → Type 0) → (X → Geometry) → Type 0
  OnBody P f = Leads (Body head.kind) P base w head.behind.at head.behind.dimension head.behind.at head.behind.dimension f

  pub on_body : {X : Type 0} (P : ℕ → X → ℕ → List ℕ → Type 0) (f : X → Geometry) (kind : Kind) → head.kind ≡ kind → Same (Body kind) P (λ at x. f x) → head.behind.at ≤ length w → OnBody P f
  on_body P f kind e same inside = subst (λ z. Leads (Body z) P base w head.behind.at head.behind.dimension head.behind.at head.behind.dimension f) (sym e)
      (same_leads (Body kind) P (λ at x. f x) base w head.behind.at head.behind.dimension same inside)

  -- the part adds to each list what its geometry has
  pub part_body : {X : Type 0} {A : X → Type 0} (P : ℕ → X → ℕ → List ℕ → Type 0) (f : X → Geometry) (faults : X → List Fault) (old new : Gathered) (r : Result Read Halt) → OnBody P f → new.fault ≡ old.fault → ((x : X) → faults_of digits how (f x) ≡ faults x)
      → ((x : X) → A x → (new.points.items ≡ old.points.items ++ (shape_of digits how (f x)).points) × (new.lines.items ≡ old.lines.items ++ (shape_of digits how (f x)).lines) × (new.polygons.items ≡ old.polygons.items ++ (shape_of digits how (f x)).polygons))
      → MatchResult r (PartStands P faults A base w head.behind.at head.behind.dimension) (λ halt. IfStopped halt (Stuck P base w head.behind.at head.behind.dimension))
      → MatchResult r (BodyStands digits how base w head old new) (λ halt. IfStopped halt (Stuck (Body head.kind) base w head.behind.at head.behind.dimension))
  part_body P f faults old new r on fault ef es h = answers_by r _ (BodyStands digits how base w head old new) _ (Stuck (Body head.kind) base w head.behind.at head.behind.dimension) h
      (λ read q. let (points, lines, polygons) = es q.value q.added in record {
        geometry = f q.value;
        spelt = on.spelt read.behind.at read.behind.dimension q.value q.spelt;
        points = points;
        lines = lines;
        polygons = polygons;
        same = fault;
        fault = q.fault ∙ ap first_of (sym (ef q.value));
      })
      (λ n q. on.stuck n q)

  -- a collection of no members
  empty_when : When (Body GeometryCollection) (Word (codes "EMPTY") (collection no_geometries)) (λ at g. g) is_shut
  empty_when = record { to = λ d g at v (e, k). (no_geometries, e, k); from = from } where
    from : (d : ℕ) (g : Geometry) (at : ℕ) (v : List ℕ) → Body GeometryCollection d g at v → ((y : Geometry) × (g ≡ y) × Word (codes "EMPTY") (collection no_geometries) d y at v) ⊎ ((b : ℕ) × (t : List ℕ) × (v ≡ b ∷ t) × (is_shut b ≡ false))
    from d g at v (no_geometries, eg, h) = inl (g, refl, (eg, h))
    from d g at v (geometry_and f gs, eg, (a, b, ev, here, q)) = inr (0x28, b, ev ∙ ap (λ z. z ++ b) here, refl)

  pub empty_body : (old new : Gathered) (r : Result Read Halt) → new.fault ≡ old.fault → head.kind ≡ GeometryCollection → is_open (next w head.behind.at) ≡ false → head.behind.at ≤ length w → HasCount head.behind.dimension
      → new.points.items ≡ old.points.items → new.lines.items ≡ old.lines.items → new.polygons.items ≡ old.polygons.items
      → MatchResult r (λ read. KeywordStands w head.behind.at read.behind.at (codes "EMPTY") × (read.fault ≡ None) × (read.behind.dimension ≡ head.behind.dimension)) (λ halt. IfStopped halt (λ n. KeywordBreaks w head.behind.at n (codes "EMPTY")))
      → MatchResult r (BodyStands digits how base w head old new) (λ halt. IfStopped halt (Stuck (Body head.kind) base w head.behind.at head.behind.dimension))
  empty_body old new r fault kind shut inside some sp sl sg h =
      let i = head.behind.at in let c = head.behind.dimension in
      let on : OnBody (Word (codes "EMPTY") (collection no_geometries)) (λ g. g) = subst (λ z. Leads (Body z) (Word (codes "EMPTY") (collection no_geometries)) base w i c i c (λ g. g)) (sym kind)
      (when_leads (Body GeometryCollection) (Word (codes "EMPTY") (collection no_geometries)) (λ at g. g) is_shut is_shut base w i c empty_when (word_begins (collection no_geometries)) inside (ap not shut)) in
      answers_by r _ (BodyStands digits how base w head old new) _ (Stuck (Body head.kind) base w i c) h
      (λ read (word, ef, ed). record {
        geometry = collection no_geometries;
        spelt = subst (λ z. Spelt (Body head.kind) base w i c read.behind.at z (collection no_geometries)) (sym ed) (on.spelt read.behind.at c (collection no_geometries) (word_spelt (codes "EMPTY") (collection no_geometries) base w i read.behind.at c word some));
        points = sp ∙ sym (append-nil old.points.items);
        lines = sl ∙ sym (append-nil old.lines.items);
        polygons = sg ∙ sym (append-nil old.polygons.items);
        same = fault;
        fault = ef;
      })
      (λ n word. on.stuck n (word_stuck (codes "EMPTY") (collection no_geometries) base w i n c refl word some))

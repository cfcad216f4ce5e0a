-- What the functions that read lists of positions, and items of other kinds, answer.
-- For `read_line`, `read_geometry` and `Room::check_line`: the readers of `src/paths.rt`, and each loop over items.
use Rattle.std.proofs.Common.{ap₂, ◌≡◌, ℕ, ◌+◌, ◌<◌, ◌≤◌, Bool, true, false, not, ◌&&◌, ◌||◌, if◌then◌else◌, List, [], ◌∷◌, ◌++◌, length, map, flat_map, option_to_list, Option, Some, None, is_none, refl, sym, ◌∙◌, ap, subst, arith, append-nil, append_assoc, length-append}
use Rattle.std.specs.Ordering.{int_eq}
use Rattle.std.proofs.lemmas.List.{map-append, length-map}
use Rattle.std.proofs.lemmas.Grind.{flat_map-append}
use Rattle.at_wkt.proofs.Names.{Fault, first_fault, first_of, comes_first, Pos, Dimension, Rules, PositionRead, Read, Role, Line, Ring, ItemRead, Position, Positions, pos_of, position_faults, SpellsPosition, SpellsRing, PartStands, next, Spelt, Stuck, Item, Items, ItemsRead, HasCount, PositionStands, PositionsSoFar, ends_same, ItemsSoFar, ItemStands, Grows, added_path, fault_of_path, faults_of_path}
use Rattle.at_geom.specs.Closed.{last_of}
use Rattle.at_wkt.specs.declared.line.paths.ListRead.{ListRead}
use Rattle.at_wkt.specs.Positions.{items_faults, is_faultless, is_closed}
use Rattle.at_wkt.specs.Readers.{PositionsStand}
use Rattle.at_wkt.proofs.ListSteps.{items_start, items_more, items_stuck, items_end, position_lives, ring_leads}
use Rattle.at_text.proofs.FaultOrder.{first_of-append}

last_of-append : (p : Position) (ps : List Position) (q : Position) → last_of p (ps ++ (q ∷ [])) ≡ q
last_of-append p [] q = refl
last_of-append p (x ∷ ps) q = last_of-append x ps q

-- whether there is a first fault tells whether there is one
some_first : (f : Fault) (o : Option Fault) → is_none (first_fault (Some f) o) ≡ false
some_first f None = refl
some_first f (Some g) = go (comes_first f g) refl where
  go : (t : Bool) → comes_first f g ≡ t → is_none (first_fault (Some f) (Some g)) ≡ false
  go true e = ap (λ t. is_none (if t then Some f else Some g)) e
  go false e = ap (λ t. is_none (if t then Some f else Some g)) e

faultless_by : (fs : List Fault) → is_none (first_of fs) ≡ (elim fs [ [] ↦ true | f ∷ gs ↦ false ])
faultless_by [] = refl
faultless_by (f ∷ fs) = some_first f (first_of fs)

module _ (rules : Rules) (w : List ℕ) (i : ℕ) (c : Dimension) where
  digits : ℕ
  digits = rules.digits

  pub positions_start : (first : PositionRead) → PositionStands rules w i c first → PositionsSoFar rules w i c first first (first.pos ∷ []) first.fault
  positions_start first h = record {
    head = h.position;
    rest = [];
    reads = items_more SpellsPosition rules.base w i c i first.behind.at c first.behind.dimension [] h.position first.is_last (items_start SpellsPosition rules.base w i c) h.spelt;
    some = h.spelt.some;
    within = h.spelt.within;
    path_is = ap (λ z. z ∷ []) h.pos;
    fault_is = h.fault ∙ ap first_of (sym (append-nil (position_faults rules.digits rules.how h.position)));
    first_pos = h.pos;
    first_faulty = h.fault;
    last_pos = h.pos;
    last_faulty = h.fault;
    few = omega (arith, h.longer);
  }

  pub positions_more : (first last new : PositionRead) (path path' : List Pos) (fault fault' : Option Fault) → PositionsSoFar rules w i c first last path fault → last.is_last ≡ false
      → PositionStands rules w last.behind.at last.behind.dimension new → path' ≡ path ++ (new.pos ∷ []) → fault' ≡ first_fault fault new.fault → PositionsSoFar rules w i c first new path' fault'
  positions_more first last new path path' fault fault' h more n ep ef =
      let xs = h.head ∷ h.rest in
      let reads : ItemsRead SpellsPosition rules.base w i c last.behind.at last.behind.dimension false xs = subst (λ z. ItemsRead SpellsPosition rules.base w i c last.behind.at last.behind.dimension z xs) more h.reads in
      let faults : flat_map (position_faults rules.digits rules.how) (n.position ∷ []) ≡ position_faults rules.digits rules.how n.position = append-nil (position_faults rules.digits rules.how n.position) in
      record {
        head = h.head;
        rest = h.rest ++ (n.position ∷ []);
        reads = items_more SpellsPosition rules.base w i c last.behind.at new.behind.at last.behind.dimension new.behind.dimension xs n.position new.is_last reads n.spelt;
        some = n.spelt.some;
        within = n.spelt.within;
        path_is = ep ∙ (ap (λ z. z ++ (new.pos ∷ [])) h.path_is ∙ (ap (λ z. map (pos_of rules.digits rules.how) xs ++ (z ∷ [])) n.pos ∙ sym (map-append (pos_of rules.digits rules.how) xs (n.position ∷ []))));
        fault_is = ef ∙ (ap (λ z. first_fault z new.fault) h.fault_is ∙ (ap (first_fault (first_of (items_faults rules.digits rules.how xs))) n.fault
            ∙ (sym (first_of-append (items_faults rules.digits rules.how xs) (position_faults rules.digits rules.how n.position))
            ∙ ap first_of (ap (λ z. items_faults rules.digits rules.how xs ++ z) (sym faults) ∙ sym (flat_map-append (position_faults rules.digits rules.how) xs (n.position ∷ []))))));
        first_pos = h.first_pos;
        first_faulty = h.first_faulty;
        last_pos = n.pos ∙ ap (pos_of rules.digits rules.how) (sym (last_of-append h.head h.rest n.position));
        last_faulty = n.fault ∙ ap (λ z. first_of (position_faults rules.digits rules.how z)) (sym (last_of-append h.head h.rest n.position));
        few = omega (arith, h.few, n.longer, length-append h.rest (n.position ∷ []));
      }

  pub positions_stuck : (first last : PositionRead) (path : List Pos) (fault : Option Fault) (n : ℕ) → PositionsSoFar rules w i c first last path fault → last.is_last ≡ false
      → Stuck (Item SpellsPosition) rules.base w last.behind.at last.behind.dimension n → Stuck (Items SpellsPosition) rules.base w i c n
  positions_stuck first last path fault n h more q = items_stuck SpellsPosition rules.base w i c position_lives last.behind.at n last.behind.dimension (h.head ∷ h.rest)
      (subst (λ z. ItemsRead SpellsPosition rules.base w i c last.behind.at last.behind.dimension z (h.head ∷ h.rest)) more h.reads) q

  pub positions_stuck_first : (n : ℕ) → Stuck (Item SpellsPosition) rules.base w i c n → Stuck (Items SpellsPosition) rules.base w i c n
  positions_stuck_first n q = items_stuck SpellsPosition rules.base w i c position_lives i n c [] (items_start SpellsPosition rules.base w i c) q

  pub positions_end : (first last : PositionRead) (path : List Pos) (fault : Option Fault) (read : ListRead) → PositionsSoFar rules w i c first last path fault → last.is_last ≡ true
      → read.fault ≡ fault → read.closes ≡ ends_same first last → read.behind.at ≡ last.behind.at → read.behind.dimension ≡ last.behind.dimension → PositionsStand rules w i c path read
  positions_end first last path fault read h ended ef ec ee ed =
      let xs = h.head ∷ h.rest in
      let q = last_of h.head h.rest in
      let spelt : Spelt (Items SpellsPosition) rules.base w i c last.behind.at last.behind.dimension xs = items_end SpellsPosition rules.base w i c last.behind.at last.behind.dimension xs
      (subst (λ z. ItemsRead SpellsPosition rules.base w i c last.behind.at last.behind.dimension z xs) ended h.reads) h.within h.some in
      let none_first : is_none first.fault ≡ is_faultless rules.digits rules.how h.head = ap is_none h.first_faulty ∙ faultless_by (position_faults rules.digits rules.how h.head) in
      let none_last : is_none last.fault ≡ is_faultless rules.digits rules.how q = ap is_none h.last_faulty ∙ faultless_by (position_faults rules.digits rules.how q) in
      record {
        positions = xs;
        spelt = subst (λ z. Spelt (Items SpellsPosition) rules.base w i c read.behind.at z xs) (sym ed) (subst (λ z. Spelt (Items SpellsPosition) rules.base w i c z last.behind.dimension xs) (sym ee) spelt);
        list_is = h.path_is;
        fault = ef ∙ h.fault_is;
        closes = ec ∙ (ap (λ z. not (z && is_none last.fault) || (int_eq first.pos.x last.pos.x && int_eq first.pos.y last.pos.y)) none_first
            ∙ (ap (λ z. not (is_faultless rules.digits rules.how h.head && z) || (int_eq first.pos.x last.pos.x && int_eq first.pos.y last.pos.y)) none_last
            ∙ (ap (λ (z : Pos). not (is_faultless rules.digits rules.how h.head && is_faultless rules.digits rules.how q) || (int_eq z.x last.pos.x && int_eq z.y last.pos.y)) h.first_pos
            ∙ ap (λ (z : Pos). not (is_faultless rules.digits rules.how h.head && is_faultless rules.digits rules.how q) || (int_eq (pos_of rules.digits rules.how h.head).x z.x && int_eq (pos_of rules.digits rules.how h.head).y z.y)) h.last_pos)));
        few = omega (arith, h.few, ee);
      }

-- ---- items of any kind

module _ {X Y : Type 0} (P : ℕ → X → ℕ → List ℕ → Type 0) (faults : X → List Fault) (added : X → List Y) (old : List Y) (base : ℕ) (w : List ℕ) (i : ℕ) (c : Dimension) where
  pub so_far_start : (first : ItemRead) → first ≡ record { fault = None; is_last = false; behind = record { at = i; dimension = c } } → i ≤ length w → HasCount c → ItemsSoFar P faults added old old base w i c first
  so_far_start first is inside some = subst (ItemsSoFar P faults added old old base w i c) (sym is) (record {
    values = [];
    reads = items_start P base w i c;
    some = some;
    within = inside;
    fault = refl;
    grown = sym (append-nil old);
  })

  pub so_far_more : (last item new : ItemRead) (list list' : List Y) → ItemsSoFar P faults added old list base w i c last → last.is_last ≡ false → ItemStands P faults (Grows added list list') base w last.behind.at last.behind.dimension item
      → new ≡ record { fault = first_fault last.fault item.fault; is_last = item.is_last; behind = item.behind } → ItemsSoFar P faults added old list' base w i c new
  so_far_more last item new list list' h more q is = subst (ItemsSoFar P faults added old list' base w i c) (sym is) (record {
    values = h.values ++ (q.value ∷ []);
    reads = items_more P base w i c last.behind.at item.behind.at last.behind.dimension item.behind.dimension h.values q.value item.is_last (subst (λ z. ItemsRead P base w i c last.behind.at last.behind.dimension z h.values) more h.reads) q.spelt;
    some = q.spelt.some;
    within = q.spelt.within;
    fault = ap (λ z. first_fault z item.fault) h.fault ∙ (ap (first_fault (first_of (flat_map faults h.values))) q.fault ∙ (sym (first_of-append (flat_map faults h.values) (faults q.value))
        ∙ ap first_of (ap (λ z. flat_map faults h.values ++ z) (sym (append-nil (faults q.value))) ∙ sym (flat_map-append faults h.values (q.value ∷ [])))));
    grown = q.added ∙ (ap (λ z. z ++ added q.value) h.grown ∙ (append_assoc old (flat_map added h.values) (added q.value)
        ∙ ap (λ z. old ++ z) (ap (λ z. flat_map added h.values ++ z) (sym (append-nil (added q.value))) ∙ sym (flat_map-append added h.values (q.value ∷ [])))));
  })

  pub so_far_stuck : (last : ItemRead) (list : List Y) (n : ℕ) → ItemsSoFar P faults added old list base w i c last → last.is_last ≡ false → Stuck (Items P) base w last.behind.at last.behind.dimension n → Stuck (Items P) base w i c n
  so_far_stuck last list n h more q = (subst (λ z. ItemsRead P base w i c last.behind.at last.behind.dimension z h.values) more h.reads).stuck n q

  pub so_far_end : (last : ItemRead) (list : List Y) → (h : ItemsSoFar P faults added old list base w i c last) → last.is_last ≡ true → Spelt (Items P) base w i c last.behind.at last.behind.dimension h.values
  so_far_end last list h ended = items_end P base w i c last.behind.at last.behind.dimension h.values (subst (λ z. ItemsRead P base w i c last.behind.at last.behind.dimension z h.values) ended h.reads) h.within h.some

-- ---- lines and rings

pub first_of-option : (o : Option Fault) → first_of (option_to_list o) ≡ o
first_of-option None = refl
first_of-option (Some f) = refl

own_first : (own o fs : Option Fault) (gs : List Fault) → own ≡ o → fs ≡ first_of gs → first_fault own fs ≡ first_of (option_to_list o ++ gs)
own_first own o fs gs eo ef = ap₂ first_fault (eo ∙ sym (first_of-option o)) ef ∙ sym (first_of-append (option_to_list o) gs)

module _ (rules : Rules) (w : List ℕ) (i : ℕ) (c : Dimension) (inside : i < length w) (here : next w i ≡ 0x28) where
  pub path_stuck : (n : ℕ) → Stuck (Items SpellsPosition) rules.base w (i + 1) c n → Stuck SpellsRing rules.base w i c n
  path_stuck n h = (ring_leads rules.base w i c inside here).stuck n h

  faults_by : (role : Role) (own : Option Fault) (ps : Positions) (fs : Option Fault) → own ≡ fault_of_path role (length ps.items) (is_closed rules.digits rules.how ps.items) ps.at
      → fs ≡ first_of (items_faults rules.digits rules.how ps.items) → first_fault own fs ≡ first_of (faults_of_path rules.digits rules.how role ps)
  faults_by Line own ps fs eo ef = own_first own _ fs (items_faults rules.digits rules.how ps.items) eo ef
  faults_by Ring own ps fs eo ef = own_first own _ fs (items_faults rules.digits rules.how ps.items) eo ef

  -- a line or a ring, of which this is kept
  pub path_stands : {A : Positions → Type 0} (role : Role) (list : List Pos) (read : ListRead) (path : Read) → (h : PositionsStand rules w (i + 1) c list read) → (own : Option Fault)
      → own ≡ fault_of_path role (length list) read.closes (rules.base + i) → path ≡ record { fault = first_fault own read.fault; behind = read.behind } → A (record { at = rules.base + i; items = h.positions })
      → PartStands SpellsRing (faults_of_path rules.digits rules.how role) A rules.base w i c path
  path_stands {A} role list read path h own eo is kept =
      let ps : Positions = record { at = rules.base + i; items = h.positions } in
      let count : length list ≡ length h.positions = ap length h.list_is ∙ length-map h.positions (pos_of rules.digits rules.how) in
      subst (PartStands SpellsRing (faults_of_path rules.digits rules.how role) A rules.base w i c) (sym is) (record {
        value = ps;
        spelt = (ring_leads rules.base w i c inside here).spelt read.behind.at read.behind.dimension h.positions h.spelt;
        fault = faults_by role own ps read.fault (eo ∙ (ap (λ z. fault_of_path role z read.closes (rules.base + i)) count ∙ ap (λ z. fault_of_path role (length h.positions) z (rules.base + i)) h.closes)) h.fault;
        added = kept;
      })

  pub path_added : (role : Role) (list : List Pos) (read : ListRead) (path : Read) (shown : List Pos) (old new : List (List Pos)) → PositionsStand rules w (i + 1) c list read → (own : Option Fault)
      → own ≡ fault_of_path role (length list) read.closes (rules.base + i) → path ≡ record { fault = first_fault own read.fault; behind = read.behind } → shown ≡ list → new ≡ old ++ (shown ∷ [])
      → PartStands SpellsRing (faults_of_path rules.digits rules.how role) (Grows (added_path rules.digits rules.how) old new) rules.base w i c path
  path_added role list read path shown old new h own eo is same e = path_stands role list read path h own eo is (e ∙ ap (λ z. old ++ (z ∷ [])) (same ∙ h.list_is))

-- A line has one shape or one first fault: laws of the definitions, which no function's contract is needed for.
-- For the crates above.
use Rattle.std.proofs.Common.{◌≡◌, ℕ, if◌then◌else◌, List, ◌++◌, length, take, drop, Option, Some, None, is_none, refl, sym, ◌∙◌, ap, arith, length-take, take-append-drop}
use Rattle.std.proofs.lemmas.Option.{none-some, same_Some}
use Rattle.at_wkt.proofs.Names.{Fault, first_of, IsSyntaxFault, stop_fault, Coords, Shape, Prefix, Geometry, IsLineOf, WktLine, shape_of, faults_of, empty_shape, SpellsLine, HasLineShape, HasFirstLineFault, HasFaultOrShape, IsPrefixOf, IsPrefixFault, unspelled, faulty}
use Rattle.at_text.proofs.Machine.{longest_unique}
use Rattle.at_wkt.specs.Geometry.{WktGeometry}
use Rattle.at_wkt.proofs.OneGeometry.{one_line, one_prefix}

-- bytes that are no word of a language have one syntax fault
pub one_syntax_fault : (L : List ℕ → Type 0) (at : ℕ) (w : List ℕ) (f g : Fault) → IsSyntaxFault L at w f → IsSyntaxFault L at w g → f ≡ g
one_syntax_fault L at w f g p q = p.place ∙ (ap (stop_fault at w) (longest_unique L w p.taken q.taken p.longest q.longest) ∙ sym q.place)

-- and a text that no geometry begins has one
pub one_prefix_fault : (at : ℕ) (w : List ℕ) (f g : Fault) → IsPrefixFault at w f → IsPrefixFault at w g → f ≡ g
one_prefix_fault at w f g p q = p.place ∙ (ap (stop_fault at w) (longest_unique (WktGeometry at) w p.taken q.taken p.longest q.longest) ∙ sym q.place)

module _ (digits : ℕ) (how : Coords) where
  -- ---- a line

  -- a line spells at most one shape, and at most one list of faults
  pub one_meaning : (at : ℕ) (w : List ℕ) (g h : Geometry) → IsLineOf at w g → IsLineOf at w h → (shape_of digits how g ≡ shape_of digits how h) × (faults_of digits how g ≡ faults_of digits how h)
  one_meaning at w g h p q = let same = one_line at w g h p q in (ap (shape_of digits how) same, ap (faults_of digits how) same)

  -- so what a reader says of a line follows from the line's spelling alone
  pub spells_by : (at : ℕ) (w : List ℕ) (g : Geometry) → IsLineOf at w g → SpellsLine digits how at w (first_of (faults_of digits how g)) (shape_of digits how g)
  spells_by at w g p = record {
    geometry = g;
    spelled = p;
    fault_is = refl;
    shape_is = refl;
    only = λ other q. let (shape, faults) = one_meaning at w other g q p in (shape, ap first_of faults);
  }

  pub one_spells : (at : ℕ) (w : List ℕ) (f g : Option Fault) (s u : Shape) → SpellsLine digits how at w f s → SpellsLine digits how at w g u → (f ≡ g) × (s ≡ u)
  one_spells at w f g s u p q =
      let (shape, faults) = one_meaning at w p.geometry q.geometry p.spelled q.spelled in
      (p.fault_is ∙ (ap first_of faults ∙ sym q.fault_is), p.shape_is ∙ (shape ∙ sym q.shape_is))

  -- a line has one first fault, or one shape, and not both
  pub one_fault_or_shape : (at : ℕ) (w : List ℕ) (f g : Option Fault) → HasFaultOrShape digits how at w f → HasFaultOrShape digits how at w g → f ≡ g
  one_fault_or_shape at w None None p q = refl
  one_fault_or_shape at w None (Some g) (s, p) (unspelled q) = absurd (q.no_word (p.geometry, p.spelled))
  one_fault_or_shape at w None (Some g) (s, p) (faulty u q) = (one_spells at w None (Some g) s u p q).0
  one_fault_or_shape at w (Some f) None (unspelled p) (u, q) = absurd (p.no_word (q.geometry, q.spelled))
  one_fault_or_shape at w (Some f) None (faulty s p) (u, q) = (one_spells at w (Some f) None s u p q).0
  one_fault_or_shape at w (Some f) (Some g) (unspelled p) (unspelled q) = ap Some (one_syntax_fault (WktLine at) at w f g p q)
  one_fault_or_shape at w (Some f) (Some g) (unspelled p) (faulty u q) = absurd (p.no_word (q.geometry, q.spelled))
  one_fault_or_shape at w (Some f) (Some g) (faulty s p) (unspelled q) = absurd (q.no_word (p.geometry, p.spelled))
  one_fault_or_shape at w (Some f) (Some g) (faulty s p) (faulty u q) = (one_spells at w (Some f) (Some g) s u p q).0

  pub one_line_shape : (at : ℕ) (w : List ℕ) (s u : Shape) → HasLineShape digits how at w s → HasLineShape digits how at w u → s ≡ u
  one_line_shape at w s u p q = (one_spells at w None None s u p q).1

  pub one_first_fault : (at : ℕ) (w : List ℕ) (f g : Fault) → HasFirstLineFault digits how at w f → HasFirstLineFault digits how at w g → f ≡ g
  one_first_fault at w f g p q = same_Some f g (one_fault_or_shape at w (Some f) (Some g) p q)

  pub fault_or_shape : (at : ℕ) (w : List ℕ) (f : Fault) (s : Shape) → HasFirstLineFault digits how at w f → HasLineShape digits how at w s → ⊥
  fault_or_shape at w f s p q = none-some f (one_fault_or_shape at w None (Some f) (s, q) p)

  -- ---- a geometry that begins a text

  pub one_prefix_of : (at : ℕ) (w : List ℕ) (p q : Prefix) → IsPrefixOf digits how at w p → IsPrefixOf digits how at w q → p ≡ q
  one_prefix_of at w p q h k =
      let whole : take p.taken w ++ drop p.taken w ≡ take q.taken w ++ drop q.taken w = take-append-drop p.taken w ∙ sym (take-append-drop q.taken w) in
      let (same, text, rest) = one_prefix at (take p.taken w) (take q.taken w) (drop p.taken w) (drop q.taken w) h.geometry k.geometry h.spelled k.spelled whole in
      let taken : p.taken ≡ q.taken = omega (arith, ap length text, length-take p.taken w, length-take q.taken w, h.fits, k.fits) in
      let fault : p.fault ≡ q.fault = h.fault_is ∙ (ap (λ g. first_of (faults_of digits how g)) same ∙ sym k.fault_is) in
      let shape : p.shape ≡ q.shape = h.shape_is ∙ (ap (λ f. if is_none f then shape_of digits how h.geometry else empty_shape) fault ∙ (ap (λ g. if is_none q.fault then shape_of digits how g else empty_shape) same ∙ sym k.shape_is)) in
      ap (λ z. record { shape = z; taken = p.taken; fault = p.fault }) shape ∙ (ap (λ z. record { shape = q.shape; taken = z; fault = p.fault }) taken ∙ ap (λ z. record { shape = q.shape; taken = q.taken; fault = z }) fault)

  pub prefix_or_fault : (at : ℕ) (w : List ℕ) (p : Prefix) (f : Fault) → IsPrefixOf digits how at w p → IsPrefixFault at w f → ⊥
  prefix_or_fault at w p f h k = k.no_geometry p.taken h.fits (h.geometry, h.spelled)

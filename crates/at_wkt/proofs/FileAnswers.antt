-- The end of a line, and the first fault of a line that was read: what `Room::check_line` and the folds of lines answer.
-- For `check_line`, `finish_lines`, `merge_lines`, `read_geometry`, `read_line` and `run_lines`.
use Rattle.std.proofs.Common.{◌≡◌, ℕ, ◌+◌, ◌-◌, ◌<◌, ◌==◌, Bool, true, false, if◌then◌else◌, ◌&&◌, nat_lt, slice_index, List, [], ◌∷◌, ◌++◌, length, take, Option, Some, None, refl, sym, ◌∙◌, ap, arith}
use Rattle.std.proofs.Math.Seq.{take-length}
use Rattle.std.proofs.lemmas.List.{take_more}
use Rattle.at_wkt.proofs.Names.{Fault, Coords, Shape, SpellsLine, HasFaultOrShape, faulty, without_return}

-- ---- the end of a line

return_end : (front : List ℕ) → without_return (front ++ (0x0D ∷ [])) ≡ front
return_end (b ∷ c ∷ front) = ap (λ z. b ∷ z) (return_end (c ∷ front))
return_end _ = refl

no_return : (front : List ℕ) (b : ℕ) → (b == 0x0D) ≡ false → without_return (front ++ (b ∷ [])) ≡ front ++ (b ∷ [])
no_return [] b h = ap (λ t. if t then [] else b ∷ []) h
no_return (x ∷ []) b h = ap (λ z. x ∷ z) (no_return [] b h)
no_return (x ∷ y ∷ front) b h = ap (λ z. x ∷ z) (no_return (y ∷ front) b h)

-- the last byte of a piece that has one
last_byte : (w : List ℕ) → 0 < length w → w ≡ take (length w - 1) w ++ (slice_index w (length w - 1) ∷ [])
last_byte w h =
    let all : (length w - 1) + 1 ≡ length w = omega arith in
    let less : length w - 1 < length w = omega arith in
    sym (take-length w) ∙ (ap (λ z. take z w) (sym all) ∙ take_more w (length w - 1) 0 less)

some_true : (a : ℕ) (b : Bool) → (nat_lt 0 a && b) ≡ true → (0 < a) × (b ≡ true)
some_true a true h = (grind (arith, h), refl)
some_true a false h = absurd (grind (arith, h))

pub return_taken : (w : List ℕ) → (nat_lt 0 (length w) && (slice_index w (length w - 1) == 0x0D)) ≡ true → take (length w - 1) w ≡ without_return w
return_taken w h =
    let (some, byte) = some_true (length w) (slice_index w (length w - 1) == 0x0D) h in
    let same : slice_index w (length w - 1) ≡ 0x0D = eq_of (slice_index w (length w - 1)) byte in
    let text : w ≡ take (length w - 1) w ++ (0x0D ∷ []) = last_byte w some ∙ ap (λ z. take (length w - 1) w ++ (z ∷ [])) same in
    sym (ap without_return text ∙ return_end (take (length w - 1) w)) where
      eq_of : (a : ℕ) → (a == 0x0D) ≡ true → a ≡ 0x0D
      eq_of a h = grind (arith, h)

pub return_kept : (w : List ℕ) → (nat_lt 0 (length w) && (slice_index w (length w - 1) == 0x0D)) ≡ false → w ≡ without_return w
return_kept [] h = refl
return_kept (b ∷ v) h =
    let w : List ℕ = b ∷ v in
    let some : 0 < length w = omega arith in
    let text : w ≡ take (length w - 1) w ++ (slice_index w (length w - 1) ∷ []) = last_byte w some in
    let off : (slice_index w (length w - 1) == 0x0D) ≡ false = byte_off (length w) (slice_index w (length w - 1) == 0x0D) some h in
    text ∙ (sym (no_return (take (length w - 1) w) (slice_index w (length w - 1)) off) ∙ ap without_return (sym text)) where
      byte_off : (a : ℕ) (b : Bool) → 0 < a → (nat_lt 0 a && b) ≡ false → b ≡ false
      byte_off a true l h = absurd (grind (arith, l, h))
      byte_off a false l h = refl

-- ---- the first fault of a line

-- a line that was read to its end
pub line_read : (digits : ℕ) (how : Coords) (at : ℕ) (text : List ℕ) (fault : Option Fault) (shape : Shape) → SpellsLine digits how at text fault shape → HasFaultOrShape digits how at text fault
line_read digits how at text None shape s = (shape, s)
line_read digits how at text (Some f) shape s = faulty shape s

-- an option that is no fault
pub no_fault : (o : Option Fault) → ((f : Fault) → o ≡ Some f → ⊥) → o ≡ None
no_fault None h = refl
no_fault (Some f) h = absurd (h f refl)

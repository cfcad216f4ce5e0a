-- Bytes that are cut at a separator: their pieces are those of both parts; and the same pieces further on.
-- For `line_features`, `line_faults`, `sequence_features` and `sequence_faults`.
use Rattle.std.proofs.Common.{◌≡◌, ℕ, ◌+◌, Bool, true, List, [], ◌∷◌, ◌++◌, length, drop, map, refl, sym, ◌∙◌, ap, arith, append-nil, length-drop}
use Rattle.std.proofs.lemmas.List.{drop-append-le}
use Rattle.at_text.specs.Separated.{Piece, placed, separated_by}
use Rattle.at_text.specs.Texts.{base_of}
use Rattle.at_text.proofs.Separated.{glued, pieces_joined, pieces_parted, pieces_some}
use Rattle.at_wkt.proofs.LineMerges.{base_within}

abbrev pub piece_moved : ℕ → Piece → Piece
piece_moved d p = record { at = d + p.at; text = p.text }

pub placed_moved : (d at : ℕ) (ts : List (List ℕ)) → placed (d + at) ts ≡ map (piece_moved d) (placed at ts)
placed_moved d at [] = refl
placed_moved d at (t ∷ ts) =
    let further : d + at + length t + 1 ≡ d + (at + length t + 1) = omega arith in
    ap (λ n. record { at = d + at; text = t } ∷ placed n ts) further ∙ ap (λ z. record { at = d + at; text = t } ∷ z) (placed_moved d (at + length t + 1) ts)

-- an empty piece before further ones leaves the pieces before it as they are
glued_empty : (p : Piece) (ps : List Piece) (at : ℕ) (qs : List Piece) → glued (p ∷ ps) (record { at = at; text = [] } ∷ qs) ≡ p ∷ (ps ++ qs)
glued_empty p [] at qs = ap (λ z. record { at = p.at; text = z } ∷ qs) (append-nil p.text)
glued_empty p (r ∷ ps) at qs = ap (λ z. p ∷ z) (glued_empty r ps at qs)

-- the pieces of a file; a byte order mark stands before the first
abbrev pub file_pieces : (ℕ → Bool) → List ℕ → List Piece
file_pieces separates bytes = separated_by separates (base_of bytes) (drop (base_of bytes) bytes)

pub file_cut : (separates : ℕ → Bool) (b : ℕ) (a rest : List ℕ) → separates b ≡ true → base_of (a ++ b ∷ rest) ≡ base_of a
    → file_pieces separates (a ++ b ∷ rest) ≡ file_pieces separates a ++ separated_by separates (length a + 1) rest
file_cut separates b a rest cuts same =
    let within = base_within a in
    let (t, ps, e) = pieces_some separates (base_of a) (drop (base_of a) a) in
    let size : base_of a + length (drop (base_of a) a) ≡ length a = omega (arith, within, length-drop (base_of a) a) in
    ap (λ n. separated_by separates n (drop n (a ++ b ∷ rest))) same
    ∙ (ap (separated_by separates (base_of a)) (drop-append-le (base_of a) a (b ∷ rest) within)
    ∙ (pieces_joined separates (base_of a) (drop (base_of a) a) (b ∷ rest)
    ∙ (ap (λ n. glued (file_pieces separates a) (separated_by separates n (b ∷ rest))) size
    ∙ (ap (glued (file_pieces separates a)) (pieces_parted separates (length a) b rest cuts)
    ∙ (ap (λ z. glued z (record { at = length a; text = [] } ∷ separated_by separates (length a + 1) rest)) e
    ∙ (glued_empty (record { at = base_of a; text = t }) ps (length a) (separated_by separates (length a + 1) rest)
    ∙ sym (ap (λ z. z ++ separated_by separates (length a + 1) rest) e)))))))

-- Texts that are put together in groups are those that are put together one by one.
-- For `made_file` and `top`.
use Rattle.std.proofs.Common.{◌≡◌, ℕ, ◌+◌, ◌<◌, codes, decimal, List, [], ◌∷◌, ◌++◌, map, get_or, refl, sym, ap, ◌∙◌, arith, append-nil}
use Rattle.std.specs.List.{range_with_len}
use Rattle.std.proofs.lemmas.List.{append_assoc}
use Rattle.std.proofs.lemmas.List.FromFn.{get_or-map-range_with_len, map-range_with_len_more}
use Rattle.std.proofs.lemmas.Grind.{flat_map-append}
use Rattle.at_cli.specs.declared.squares.RowTexts.{RowTexts}
use Rattle.at_cli.specs.Made.{column, row, texts, line_by, wkt_line, before_feature, feature_by, feature_line}
use Rattle.at_cli.specs.Squares.{AreRowTexts, AreLineTexts, AreFeatureTexts, corners, column_texts}

-- a text is these parts put together
record Together (z : List ℕ) (parts : List (List ℕ)) : Type 0 where
  is : z ≡ texts parts

-- nothing
no_parts : Together [] []
no_parts = record { is = refl }

-- one part, and what stands behind it
one : {z : List ℕ} {more : List (List ℕ)} (part p : List ℕ) → p ≡ part → Together z more → Together (p ++ z) (part ∷ more)
one {z} part p e t = record { is = ap (λ x. x ++ z) e ∙ ap (λ x. part ++ x) t.is }

-- three parts that were put together before, and what stands behind them
three : {z : List ℕ} {more : List (List ℕ)} (a b c g : List ℕ) → g ≡ texts (a ∷ b ∷ c ∷ []) → Together z more → Together (g ++ z) (a ∷ b ∷ c ∷ more)
three {z} {more} a b c g e t = record { is = ap (λ x. x ++ z) e ∙ (ap (λ x. texts (a ∷ b ∷ c ∷ []) ++ x) t.is ∙ sym (flat_map-append (λ (part : List ℕ). part) (a ∷ b ∷ c ∷ []) more)) }

-- the corners of a square between two columns, written with these texts before and behind the numbers of its row
abbrev corner_parts : List ℕ → List ℕ → List ℕ → ℕ → List ℕ → List ℕ → List (List ℕ)
corner_parts before behind end row c d = c ∷ before ∷ decimal row ∷ behind ∷ d ∷ before ∷ decimal row ∷ behind ∷ d ∷ before ∷ decimal (row + 1) ∷ behind ∷ c ∷ before ∷ decimal (row + 1) ∷ behind ∷ c ∷ before ∷ decimal row ∷ end ∷ []

corners_together : (before behind end : List ℕ) (t : RowTexts) → AreRowTexts before behind end t → (c d : List ℕ) → Together (corners c d t) (corner_parts before behind end t.row c d)
corners_together before behind end t h c d =
    one c c refl (three before (decimal t.row) behind t.low.items h.low (one d d refl (three before (decimal t.row) behind t.low.items h.low
    (one d d refl (three before (decimal (t.row + 1)) behind t.high.items h.high (one c c refl (three before (decimal (t.row + 1)) behind t.high.items h.high
    (one c c refl (three before (decimal t.row) end t.last.items h.last no_parts)))))))))

-- what is put behind the text for a line is the line
pub line_together : (old middle new c d : List ℕ) (t : RowTexts) → AreLineTexts t → middle ≡ old ++ codes "POLYGON ((" → new ≡ middle ++ corners c d t
    → new ≡ old ++ line_by c d (decimal t.row) (decimal (t.row + 1))
line_together old middle new c d t h m e =
    e ∙ (ap (λ z. z ++ corners c d t) m ∙ (append_assoc old (codes "POLYGON ((") (corners c d t)
    ∙ ap (λ z. old ++ z) (one (codes "POLYGON ((") (codes "POLYGON ((") refl (corners_together (codes " ") (codes ",") (codes "))\n") t h c d)).is))

-- and for a feature, the feature
pub feature_together : (old middle new b i c d : List ℕ) (t : RowTexts) → AreFeatureTexts t
    → middle ≡ old ++ texts (b ∷ codes "{\"type\":\"Feature\",\"properties\":{\"name\":\"g" ∷ i ∷ codes "\"},\"geometry\":{\"type\":\"Polygon\",\"coordinates\":[[[" ∷ [])
    → new ≡ middle ++ corners c d t → new ≡ old ++ (b ++ feature_by i c d (decimal t.row) (decimal (t.row + 1)))
feature_together old middle new b i c d t h m e =
    let front = codes "{\"type\":\"Feature\",\"properties\":{\"name\":\"g" in let between = codes "\"},\"geometry\":{\"type\":\"Polygon\",\"coordinates\":[[[" in
    let four = b ∷ front ∷ i ∷ between ∷ [] in
    e ∙ (ap (λ z. z ++ corners c d t) m ∙ (append_assoc old (texts four) (corners c d t) ∙ ap (λ z. old ++ z)
    (ap (λ z. texts four ++ z) (corners_together (codes ".5,") (codes "],[") (codes "]]]}}") t h c d).is ∙ sym (flat_map-append (λ (part : List ℕ). part) four (corner_parts (codes ".5,") (codes "],[") (codes "]]]}}") t.row c d)))))

-- four texts, by what they are
pub four_texts : (a b c d p q r s : List ℕ) → a ≡ p → b ≡ q → c ≡ r → d ≡ s → texts (a ∷ b ∷ c ∷ d ∷ []) ≡ texts (p ∷ q ∷ r ∷ s ∷ [])
four_texts a b c d p q r s ea eb ec ed = sym (one a p (sym ea) (one b q (sym eb) (one c r (sym ec) (one d s (sym ed) no_parts)))).is

-- ---- the numbers of columns

pub numbers_more : (n : ℕ) (old new : List (List ℕ)) (one : List ℕ) → old ≡ map decimal (range_with_len 0 n) → one ≡ texts ([] ∷ decimal n ∷ [] ∷ []) → new ≡ old ++ one ∷ [] → new ≡ map decimal (range_with_len 0 (n + 1))
numbers_more n old new one is same e =
    e ∙ (ap (λ l. l ++ one ∷ []) is ∙ (ap (λ x. map decimal (range_with_len 0 n) ++ x ∷ []) (same ∙ append-nil (decimal n)) ∙ sym (map-range_with_len_more decimal 0 n n (omega arith))))

pub number_at : (columns : List (List ℕ)) (k : ℕ) (d : List ℕ) → columns ≡ column_texts → k < 361 → get_or columns k d ≡ decimal k
number_at columns k d e h = ap (λ l. get_or l k d) e ∙ get_or-map-range_with_len decimal 0 361 k k d h (omega arith)

-- the line of a square by the texts of its columns and of its row
pub line_at : (i r : ℕ) (old new left right : List ℕ) → left ≡ decimal (column i) → right ≡ decimal (column i + 1) → r ≡ row i → new ≡ old ++ line_by left right (decimal r) (decimal (r + 1)) → new ≡ old ++ wkt_line i
line_at i r old new left right l m n e =
    e ∙ (ap (λ z. old ++ line_by z right (decimal r) (decimal (r + 1))) l ∙ (ap (λ z. old ++ line_by (decimal (column i)) z (decimal r) (decimal (r + 1))) m
    ∙ ap (λ z. old ++ line_by (decimal (column i)) (decimal (column i + 1)) (decimal z) (decimal (z + 1))) n))

-- and the feature
pub feature_at : (i r : ℕ) (old new b number left right : List ℕ) → b ≡ before_feature i → number ≡ decimal i → left ≡ decimal (column i) → right ≡ decimal (column i + 1) → r ≡ row i
    → new ≡ old ++ (b ++ feature_by number left right (decimal r) (decimal (r + 1))) → new ≡ old ++ feature_line i
feature_at i r old new b number left right h k l m n e =
    e ∙ (ap (λ z. old ++ (z ++ feature_by number left right (decimal r) (decimal (r + 1)))) h ∙ (ap (λ z. old ++ (before_feature i ++ feature_by z left right (decimal r) (decimal (r + 1)))) k
    ∙ (ap (λ z. old ++ (before_feature i ++ feature_by (decimal i) z right (decimal r) (decimal (r + 1)))) l ∙ (ap (λ z. old ++ (before_feature i ++ feature_by (decimal i) (decimal (column i)) z (decimal r) (decimal (r + 1)))) m
    ∙ ap (λ z. old ++ (before_feature i ++ feature_by (decimal i) (decimal (column i)) (decimal (column i + 1)) (decimal z) (decimal (z + 1)))) n))))

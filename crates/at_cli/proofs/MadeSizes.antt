-- The made files one square more, and how many bytes they have at most.
-- For `made_file` and `top`.
use Rattle.std.proofs.Common.{◌≡◌, ℕ, zero, suc, ◌+◌, ◌*◌, ◌^◌, ◌<◌, ◌≤◌, Bool, true, false, nat_eq, if◌then◌else◌, codes, decimal, List, [], ◌∷◌, ◌++◌, length, flat_map, sym, ap, ◌∙◌, arith, add-one, append-nil, append_assoc, length-append}
use Rattle.std.specs.List.{range_with_len}
use Rattle.std.proofs.lemmas.Grind.{flat_map-append}
use Rattle.std.proofs.lemmas.Fmt.{length-decimal-le}
use Rattle.at_cli.specs.Made.{column, row, line_by, wkt_line, feature_by, feature_line, wkt_text, geojson_text}

range_more : (a n j : ℕ) → a + n ≡ j → range_with_len a (suc n) ≡ range_with_len a n ++ j ∷ []
range_more a zero j e = ap (λ z. z ∷ []) (omega (arith, e))
range_more a (suc n) j e = ap (λ l. a ∷ l) (range_more (a + 1) n j (omega (arith, e)))

-- what the numbers below one more give, behind what stood before
pub texts_more : (f : ℕ → List ℕ) (n : ℕ) (before old new : List ℕ) → old ≡ before ++ flat_map f (range_with_len 0 n) → new ≡ old ++ f n → new ≡ before ++ flat_map f (range_with_len 0 (n + 1))
texts_more f n before old new is e =
    let more : flat_map f (range_with_len 0 (n + 1)) ≡ flat_map f (range_with_len 0 n) ++ f n =
    ap (λ m. flat_map f (range_with_len 0 m)) (add-one n) ∙ (ap (flat_map f) (range_more 0 n n (omega arith)) ∙ (flat_map-append f (range_with_len 0 n) (n ∷ []) ∙ ap (λ l. flat_map f (range_with_len 0 n) ++ l) (append-nil (f n)))) in
    e ∙ (ap (λ l. l ++ f n) is ∙ (append_assoc before (flat_map f (range_with_len 0 n)) (f n) ∙ ap (λ l. before ++ l) (sym more)))

-- ---- sizes

-- so many bytes at most
record Short (xs : List ℕ) (most : ℕ) : Type 0 where
  le : length xs ≤ most

texts_size : (f : ℕ → List ℕ) (most a n : ℕ) → ((i : ℕ) → i < a + n → Short (f i) most) → Short (flat_map f (range_with_len a n)) (n * most)
texts_size f most a zero each = record { le = omega arith }
texts_size f most a (suc n) each =
    let one = (each a (omega arith)).le in
    let more = (texts_size f most (a + 1) n (λ i lt. each i (omega (arith, lt)))).le in
    record { le = omega (arith, one, more, length-append (f a) (flat_map f (range_with_len (a + 1) n))) }

both : {xs ys : List ℕ} {m n : ℕ} → Short xs m → Short ys n → Short (xs ++ ys) (m + n)
both {xs} {ys} h k = record { le = (let a = h.le in let b = k.le in omega (arith, a, b, length-append xs ys)) }

within : {xs : List ℕ} {m : ℕ} (n : ℕ) → Short xs m → m ≤ n → Short xs n
within n h le = record { le = (let a = h.le in omega (arith, le, a)) }

digits : (n : ℕ) → n < 10 ^ 8 → Short (decimal n) 8
digits n lt = record { le = length-decimal-le 8 n (omega arith) lt (omega (arith, lt)) }

none : Short [] 0
none = record { le = omega arith }

comma : Short (codes ",") 1
comma = record { le = omega arith }

space : Short (codes " ") 1
space = record { le = omega arith }

half : Short (codes ".5,") 3
half = record { le = omega arith }

between : Short (codes "],[") 3
between = record { le = omega arith }

module _ (c d r s : List ℕ) (hc : Short c 8) (hd : Short d 8) (hr : Short r 8) (hs : Short s 8) where
  line_size : Short (line_by c d r s) 110
  line_size =
      let head : Short (codes "POLYGON ((") 10 = record { le = omega arith } in
      let end : Short (codes "))\n") 3 = record { le = omega arith } in
      within 110 (both head (both hc (both space (both hr (both comma (both hd (both space (both hr (both comma (both hd (both space (both hs (both comma (both hc (both space (both hs (both comma (both hc (both space (both hr (both end none))))))))))))))))))))) (omega arith)

  feature_size : (i : List ℕ) → Short i 8 → Short (feature_by i c d r s) 240
  feature_size i hi =
      let head : Short (codes "{\"type\":\"Feature\",\"properties\":{\"name\":\"g") 41 = record { le = omega arith } in
      let mid : Short (codes "\"},\"geometry\":{\"type\":\"Polygon\",\"coordinates\":[[[") 52 = record { le = omega arith } in
      let end : Short (codes "]]]}}") 5 = record { le = omega arith } in
      within 240 (both head (both hi (both mid (both hc (both half (both hr (both between (both hd (both half (both hr (both between (both hd (both half (both hs (both between (both hc (both half (both hs (both between (both hc (both half (both hr (both end none))))))))))))))))))))))) (omega arith)

before_size : (b : Bool) → Short (if b then codes "\n" else codes ",\n") 2
before_size true = record { le = omega arith }
before_size false = record { le = omega arith }

square_size : (i : ℕ) → i < 1000000 → Short (wkt_line i) 110
square_size i lt = line_size (decimal (column i)) (decimal (column i + 1)) (decimal (row i)) (decimal (row i + 1))
    (digits (column i) (omega (arith, lt))) (digits (column i + 1) (omega (arith, lt))) (digits (row i) (omega (arith, lt))) (digits (row i + 1) (omega (arith, lt)))

numbered_size : (i : ℕ) → i < 1000000 → Short (feature_line i) 242
numbered_size i lt = both (before_size (nat_eq i 0)) (feature_size (decimal (column i)) (decimal (column i + 1)) (decimal (row i)) (decimal (row i + 1))
    (digits (column i) (omega (arith, lt))) (digits (column i + 1) (omega (arith, lt))) (digits (row i) (omega (arith, lt))) (digits (row i + 1) (omega (arith, lt))) (decimal i) (digits i (omega (arith, lt))))

pub wkt_short : (count : ℕ) → count ≤ 1000000 → length (wkt_text count) ≤ 2 ^ 28
wkt_short count le = let s = (texts_size wkt_line 110 0 count (λ i lt. square_size i (omega (arith, lt, le)))).le in omega (arith, s, le)

pub geojson_short : (count : ℕ) → count ≤ 1000000 → length (geojson_text count) ≤ 2 ^ 28
geojson_short count le =
    let head : Short (codes "{\"type\":\"FeatureCollection\",\"features\":[") 40 = record { le = omega arith } in
    let end : Short (codes "\n]}\n") 4 = record { le = omega arith } in
    let s = texts_size feature_line 242 0 count (λ i lt. numbered_size i (omega (arith, lt, le))) in
    (within (2 ^ 28) (both head (both s (both end none))) (omega (arith, le))).le

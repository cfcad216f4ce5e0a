-- The words of the kinds tried one after another.
-- For `read_line`, `read_geometry` and `Room::check_line`: the head of a geometry, and where no kind's word goes on.
use Rattle.std.proofs.Common.{◌≡◌, ◌≢◌, ℕ, ◌+◌, ◌-◌, ◌≤◌, ◌⊎◌, inl, inr, List, [], ◌∷◌, ◌++◌, length, take, sym, ◌∙◌, ap, subst, arith}
use Rattle.std.specs.List.{AllByRecursion}
use Rattle.std.specs.Str.{str_to_ascii_uppercase}
use Rattle.at_wkt.proofs.Names.{Kind, Point, LineString, Polygon, MultiPoint, MultiLineString, MultiPolygon, GeometryCollection, between, word_of, Matches, KeywordBreaks, KindBreaks, KindsTried}
use Rattle.at_fixed.proofs.DigitParts.{part-none}
use Rattle.at_wkt.proofs.ByteSteps.{word_broken}

pub tried_none : (w : List ℕ) (i : ℕ) → i ≤ length w → KindsTried w i 0 []
tried_none w i h = record {
  within = omega arith;
  kind = Point;
  text = ap str_to_ascii_uppercase (ap (between w i) (let same : i + 0 ≡ i = omega arith in same) ∙ part-none w i h);
  breaks = tt;
}

module _ (w : List ℕ) (i : ℕ) where
  Broken : ℕ → Kind → Type 0
  Broken longest k = (n : ℕ) × (n ≤ i + longest) × KeywordBreaks w i n (word_of k)

  abbrev AreBroken : ℕ → List Kind → Type 0
  AreBroken longest ks = AllByRecursion (λ k. (n : ℕ) × (n ≤ i + longest) × KeywordBreaks w i n (word_of k)) ks

  farther : (m n : ℕ) → m ≤ n → (ks : List Kind) → AreBroken m ks → AreBroken n ks
  farther m n h [] b = tt
  farther m n h (k ∷ ks) ((q, low, x), bs) = ((q, omega arith, x), farther m n h ks bs)

  one_more : (n : ℕ) (ks : List Kind) (k : Kind) → AreBroken n ks → (q : ℕ) × (q ≤ i + n) × KeywordBreaks w i q (word_of k) → AreBroken n (ks ++ (k ∷ []))
  one_more n [] k b x = (x, tt)
  one_more n (y ∷ ks) k (b, bs) x = (b, one_more n ks k bs x)

  pub tried_more : (longest longest' count : ℕ) (ks ks' : List Kind) (k : Kind) (word : List ℕ) → KindsTried w i longest ks → word ≡ word_of k → Matches w i word count → count ≢ length word
      → (longest ≤ longest') × (count ≤ longest') × ((longest' ≡ longest) ⊎ (longest' ≡ count)) → ks' ≡ ks ++ (k ∷ []) → KindsTried w i longest' ks'
  tried_more longest longest' count ks ks' k word h ew m differs (low, high, which) ek =
      let found : Matches w i (word_of k) count = subst (λ z. Matches w i z count) ew m in
      let unlike : count ≢ length (word_of k) = (λ e. differs (e ∙ ap length (sym ew))) in
      let broken : KeywordBreaks w i (i + count) (word_of k) = word_broken w i (word_of k) count found unlike in
      let all : AreBroken longest' (ks ++ (k ∷ [])) = one_more longest' ks k (farther longest longest' low ks h.breaks) (i + count, omega (arith, high), broken) in
      elim which [
        | inl e ↦ record {
          within = omega (arith, h.within, e);
          kind = h.kind;
          text = subst (λ z. str_to_ascii_uppercase (between w i (i + z)) ≡ take z (word_of h.kind)) (sym e) h.text;
          breaks = subst (AreBroken longest') (sym ek) all;
        }
        | inr e ↦ record {
          within = omega (arith, found.within, e);
          kind = k;
          text = subst (λ z. str_to_ascii_uppercase (between w i (i + z)) ≡ take z (word_of k)) (sym e) found.text;
          breaks = subst (AreBroken longest') (sym ek) all;
        }
      ]

  pub tried_all : (longest : ℕ) → KindsTried w i longest (Point ∷ LineString ∷ Polygon ∷ MultiPoint ∷ MultiLineString ∷ MultiPolygon ∷ GeometryCollection ∷ []) → KindBreaks w i (i + longest)
  tried_all longest h = record {
    kind = h.kind;
    text = h.text ∙ ap (λ z. take z (word_of h.kind)) (let same : longest ≡ (i + longest) - i = omega arith in same);
    breaks = each h.breaks;
    order = omega arith;
    within = h.within;
  } where
    each : AreBroken longest (Point ∷ LineString ∷ Polygon ∷ MultiPoint ∷ MultiLineString ∷ MultiPolygon ∷ GeometryCollection ∷ []) → (k : Kind) → (n : ℕ) × (n ≤ i + longest) × KeywordBreaks w i n (word_of k)
    each (a, (b, (c, (d, (e, (f, (g, z))))))) Point = a
    each (a, (b, (c, (d, (e, (f, (g, z))))))) LineString = b
    each (a, (b, (c, (d, (e, (f, (g, z))))))) Polygon = c
    each (a, (b, (c, (d, (e, (f, (g, z))))))) MultiPoint = d
    each (a, (b, (c, (d, (e, (f, (g, z))))))) MultiLineString = e
    each (a, (b, (c, (d, (e, (f, (g, z))))))) MultiPolygon = f
    each (a, (b, (c, (d, (e, (f, (g, z))))))) GeometryCollection = g

abbrev pub kinds : List Kind
kinds = Point ∷ LineString ∷ Polygon ∷ MultiPoint ∷ MultiLineString ∷ MultiPolygon ∷ GeometryCollection ∷ []

pub tried_end : (w : List ℕ) (i longest n : ℕ) → n ≡ 7 → KindsTried w i longest (take n kinds) → KindBreaks w i (i + longest)
tried_end w i longest n e h = tried_all w i longest (subst (λ z. KindsTried w i longest (take z kinds)) e h)

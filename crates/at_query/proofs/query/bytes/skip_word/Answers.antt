use Rattle.std.proofs.Common.{◌≡◌, ◌≢◌, ℕ, suc, ◌+◌, ◌<◌, ◌≤◌, ◌==◌, false, List, [], ◌∷◌, ◌++◌, length, take, drop, sym, ◌∙◌, ap, arith, take-append-drop, drop-cons, slice_index}
use Rattle.std.proofs.lemmas.List.{append_cancel_left}
use Rattle.at_wkt.proofs.Leads.{part-more}
use Rattle.at_fixed.specs.NumberSoFar.{between}
use Rattle.at_wkt.specs.Readers.{next}
use Rattle.at_query.specs.Readers.{WordBreaks}
use Rattle.at_query.proofs.query.bytes.skip_word.Goals as goal

apart : (a b : ℕ) → (a == b) ≡ false → a ≢ b
apart a b h = grind (arith, h)

word_breaks : (w : List ℕ) (i count : ℕ) (word : List ℕ) → count < length word → i + count ≤ length w → between w i (i + count) ≡ take count word
    → (next w (i + count) == slice_index word count) ≡ false → WordBreaks w i (i + count) word
word_breaks w i count word short within text differs =
    let order : i ≤ i + count = omega arith in
    record {
      order = order;
      within = within;
      front = take count word;
      byte = slice_index word count;
      rest = drop (suc count) word;
      word_is = sym (take-append-drop count word) ∙ ap (λ z. take count word ++ z) (drop-cons word count 0 short);
      text = text;
      differs = λ below e.
          let both : take count word ++ (next w (i + count) ∷ []) ≡ take count word ++ (slice_index word count ∷ []) =
          ap (λ z. z ++ (next w (i + count) ∷ [])) (sym text) ∙ (sym (part-more w i (i + count) order below) ∙ e) in
          let bytes : next w (i + count) ∷ [] ≡ slice_index word count ∷ [] = append_cancel_left (take count word) _ _ both in
          apart (next w (i + count)) (slice_index word count) differs cc;
    }

pub returns-then-not-stands : goal.returns-then-not-stands
returns-then-not-stands c = word_breaks c.args.text.now c.args.at c.loop-count.count c.args.word.now (omega arith) c.loop-count.invariant.within c.loop-count.invariant.text (sym c.stands.ensures ∙ c.if-not-stands.true)

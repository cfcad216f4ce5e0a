-- What follows the front of a made file's name, and which names are in order.
-- For `read_words` and `top`.
use Rattle.std.proofs.Common.{◌≡◌, ℕ, ◌^◌, ◌≤◌, ◌↔◌, ◌⊎◌, inl, inr, List, ◌∷◌, length, sym, ◌∙◌, ap, subst, Option, Some, None, IfSome, is_some, Bool, true, IsTrue, MatchOption, codes, option_to_list}
use Rattle.std.proofs.lemmas.Option.{none-some, same_Some}
use Rattle.std.specs.Borrow.{Bor}
use Rattle.std.specs.Option.{option_or, option_copied}
use Rattle.at_cli.specs.declared.words.names.Names.{Names}
use Rattle.at_cli.specs.declared.words.line.Line.{Line}
use Rattle.at_cli.specs.Values.{IsWhole, GoesOn, IsFileName}
use Rattle.at_cli.specs.LineOf.{HasNames}
use Rattle.at_cli.specs.Steps.{behind}
use Rattle.at_cli.proofs.Prefixes.{behind-append, behind-is}
use Rattle.at_cli.proofs.Spelled.{list_same}

-- what is behind the two fronts of a name that goes on with a text
goes : (name text : List ℕ) → GoesOn name text → (behind (codes "@g:") name ≡ Some text) ⊎ ((behind (codes "@g:") name ≡ None) × (behind (codes "@w:") name ≡ Some text))
goes name text (inl e) = inl (ap (behind (codes "@g:")) e ∙ behind-append (codes "@g:") text)
goes name text (inr e) = inr (ap (behind (codes "@g:")) e, ap (behind (codes "@w:")) e ∙ behind-append (codes "@w:") text)

abbrev Follows : List ℕ → Option (Bor (List ℕ)) → Type 0
Follows name r = MatchOption r ((text : List ℕ) → GoesOn name text → ⊥) (λ count. GoesOn name count.now × ((text : List ℕ) → GoesOn name text → text ≡ count.now))

follows : (name : List ℕ) (a b : Option (Bor (List ℕ))) → option_copied a ≡ behind (codes "@g:") name → option_copied b ≡ behind (codes "@w:") name → Follows name (option_or a b)
follows name (Some x) b e f = (
  inl (behind-is (codes "@g:") name x.now (sym e)),
  λ text g. elim (goes name text g) [
    | inl h ↦ same_Some text x.now (sym h ∙ sym e)
    | inr h ↦ absurd (none-some x.now (sym h.0 ∙ sym e))
  ],
)
follows name None (Some x) e f = (
  inr (behind-is (codes "@w:") name x.now (sym f)),
  λ text g. elim (goes name text g) [
    | inl h ↦ absurd (none-some text (e ∙ h))
    | inr h ↦ same_Some text x.now (sym h.1 ∙ sym f)
  ],
)
follows name None None e f = λ text g. elim (goes name text g) [ inl h ↦ none-some text (e ∙ h) | inr h ↦ none-some text (f ∙ h.1) ]

pub count_follows : (name : List ℕ) (r a b : Option (Bor (List ℕ))) → r ≡ option_or a b → option_copied a ≡ behind (codes "@g:") name → option_copied b ≡ behind (codes "@w:") name → Follows name r
count_follows name r a b is e f = subst (Follows name) (sym is) (follows name a b e f)

pub name_counted : (name count : List ℕ) (o : Option ℕ) (b : Bool) → b ≡ is_some o → GoesOn name count → ((text : List ℕ) → GoesOn name text → text ≡ count)
    → MatchOption o ((n : ℕ) → IsWhole 0 1000000 count n → ⊥) (IsWhole 0 1000000 count) → IsTrue b ↔ IsFileName name
name_counted name count None b is goes_on only none = ((λ t. let clash : is_some {T = ℕ} None ≡ true = sym is ∙ t in cc), λ h. let (n, whole) = h count goes_on in absurd (none n whole))
name_counted name count (Some n) b is goes_on only whole = (
  (λ t text g. (n, let P : List ℕ → Type 0 = λ x. IsWhole 0 1000000 x n in subst P (sym (only text g)) whole)),
  λ h. is,
)

-- the names that are tested are the line's, and no line has others
pub names_tested : (places : List (List ℕ)) (names : Names) (r : Option Names) → places ≡ names.query.now ∷ names.first.now ∷ option_to_list (option_copied names.second)
    → IfSome r (λ tested. tested ≡ names)
    → MatchOption r
    (length names.query.now ≤ 2 ^ 28 → IsFileName names.first.now → IfSome (option_copied names.second) IsFileName → ⊥)
    (λ tested. (length names.query.now ≤ 2 ^ 28) × IsFileName names.first.now × IfSome (option_copied names.second) IsFileName)
    → MatchOption r
    ((line : Line) → HasNames places line.query line.first line.second → ⊥)
    (λ tested. HasNames places tested.query.now tested.first.now (option_copied tested.second))
names_tested places names None are same refused = λ line h.
    let both : names.query.now ∷ names.first.now ∷ option_to_list (option_copied names.second) ≡ line.query ∷ line.first ∷ option_to_list line.second = sym are ∙ h.places in
    let query : line.query ≡ names.query.now = cc in
    let first : line.first ≡ names.first.now = cc in
    let last : option_to_list line.second ≡ option_to_list (option_copied names.second) = cc in
    let P : List ℕ → Type 0 = λ x. length x ≤ 2 ^ 28 in
    let Q : Option (List ℕ) → Type 0 = λ x. IfSome x IsFileName in
    refused (subst P query h.query_fits) (subst IsFileName first h.first_names) (subst Q (list_same line.second (option_copied names.second) last) h.second_names)
names_tested places names (Some tested) are same (query, first, second) =
    let P : Names → Type 0 = λ x. HasNames places x.query.now x.first.now (option_copied x.second) in
    subst P (sym same) (record { places = are; query_fits = query; first_names = first; second_names = second })

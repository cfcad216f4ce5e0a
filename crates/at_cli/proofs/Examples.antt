-- Worked lines: each option is tied to its own place of the line, and words that say no line.
use Rattle.std.proofs.Common.{◌≡◌, ◌==◌, ℕ, Bool, false, List, [], ◌∷◌, Option, Some, None, refl, arith, sym, ◌∙◌, ap, codes, lit<, lit≤, inl, inr, true≢false}
use Rattle.std.specs.Fmt.{digits}
use Rattle.std.proofs.lemmas.Fmt.{decimal_injective}
use Rattle.at_fixed.specs.declared.rounding.Coords.TheVariants.{Exact, Round}
use Rattle.at_cli.specs.declared.words.flags.Setting.TheVariants.{Form, Coords, Digits, Blocks, Workers, Feed}
use Rattle.at_run.specs.declared.forms.Form.TheVariants.{GeoJson, Wkt, Seq}
use Rattle.at_cli.specs.declared.words.line.Line.{Line}
use Rattle.at_cli.specs.Pieces.{apart, joined, positional}
use Rattle.at_cli.specs.Values.{IsFileName}
use Rattle.at_cli.specs.LineOf.{SaysLine}
use Rattle.at_cli.specs.Outcomes.{SayNoLine}
use Rattle.at_cli.specs.LineOf.{SpellsFeed}
use Rattle.at_cli.proofs.OneLine.{one_line, says_none, says_gathered, one_said_form}

-- a name that doesn't begin as a made file's is one
abbrev is_at : List ℕ → Bool
is_at [] = false
is_at (b ∷ w) = b == 0x40

plain : (b : ℕ) (t : List ℕ) → (b == 0x40) ≡ false → IsFileName (b ∷ t)
plain b t h text (inl e) = absurd (true≢false (sym (ap is_at e) ∙ h))
plain b t h text (inr e) = absurd (true≢false (sym (ap is_at e) ∙ h))

plain_name : IsFileName (codes "a.wkt")
plain_name = plain 0x61 (codes ".wkt") refl

other_name : IsFileName (codes "b.wkt")
other_name = plain 0x62 (codes ".wkt") refl

-- all six options in the order of the usage line, some apart and some joined; no two values are the same
abbrev all_words : List (List ℕ)
all_words = codes "--form" ∷ codes "wkt" ∷ codes "--coords=exact" ∷ codes "--digits=9" ∷ codes "--blocks=2" ∷ codes "--workers" ∷ codes "3" ∷ codes "--feed=5" ∷ codes "count" ∷ codes "a.wkt" ∷ []

abbrev all_line : Line
all_line = record { form = Some Wkt; how = Exact; digits = 9; blocks = 2; workers = 3; feed = Some 5; query = codes "count"; first = codes "a.wkt"; second = None }

all_said : SaysLine all_words all_line
unfolding digits
all_said = (
  apart Form (codes "wkt") ∷ joined Coords (codes "exact") ∷ joined Digits (codes "9") ∷ joined Blocks (codes "2") ∷ apart Workers (codes "3") ∷ joined Feed (codes "5") ∷ positional (codes "count") ∷ positional (codes "a.wkt") ∷ [],
  None,
  record { spelled = refl; are_pieces = (tt, (tt, (tt, (tt, (tt, (tt, (refl, (refl, tt)))))))) },
  record {
    form = (Wkt, refl, refl);
    how = refl;
    digits = inr (refl, refl);
    blocks = record { least = lit≤ tt; most = lit≤ tt; written = refl };
    workers = record { least = lit≤ tt; most = lit≤ tt; written = refl };
    feed = (5, refl, record { least = lit≤ tt; most = lit≤ tt; written = refl });
    can_feed = λ size told seq. cc;
    names = record { places = refl; query_fits = lit≤ tt; first_names = plain_name; second_names = tt };
  },
)

-- these words say this line alone
all_only : (line : Line) → SaysLine all_words line → line ≡ all_line
all_only line h = one_line all_words line all_line h all_said

-- in another order, behind the positionals, with a second file behind the end word
abbrev turned_words : List (List ℕ)
turned_words = codes "join" ∷ codes "a.wkt" ∷ codes "--workers=2" ∷ codes "--feed" ∷ codes "1048576" ∷ codes "--blocks" ∷ codes "3" ∷ codes "--digits" ∷ codes "7" ∷ codes "--coords" ∷ codes "round" ∷ codes "--form=geojson" ∷ codes "--" ∷ codes "b.wkt" ∷ []

abbrev turned_line : Line
turned_line = record { form = Some GeoJson; how = Round; digits = 7; blocks = 3; workers = 2; feed = Some 1048576; query = codes "join"; first = codes "a.wkt"; second = Some (codes "b.wkt") }

turned_said : SaysLine turned_words turned_line
unfolding digits
turned_said = (
  positional (codes "join") ∷ positional (codes "a.wkt") ∷ joined Workers (codes "2") ∷ apart Feed (codes "1048576") ∷ apart Blocks (codes "3") ∷ apart Digits (codes "7") ∷ apart Coords (codes "round") ∷ joined Form (codes "geojson") ∷ [],
  Some (codes "b.wkt" ∷ []),
  record { spelled = refl; are_pieces = (refl, (refl, (tt, (tt, (tt, (tt, (tt, (tt, tt)))))))) },
  record {
    form = (GeoJson, refl, refl);
    how = refl;
    digits = inl (refl, refl);
    blocks = record { least = lit≤ tt; most = lit≤ tt; written = refl };
    workers = record { least = lit≤ tt; most = lit≤ tt; written = refl };
    feed = (1048576, refl, record { least = lit≤ tt; most = lit≤ tt; written = refl });
    can_feed = λ size told seq. cc;
    names = record { places = refl; query_fits = lit≤ tt; first_names = plain_name; second_names = other_name };
  },
)

turned_only : (line : Line) → SaysLine turned_words line → line ≡ turned_line
turned_only line h = one_line turned_words line turned_line h turned_said

-- no option: the defaults
abbrev plain_words : List (List ℕ)
plain_words = codes "count" ∷ codes "a.wkt" ∷ []

abbrev plain_line : Line
plain_line = record { form = None; how = Round; digits = 7; blocks = 64; workers = 4; feed = None; query = codes "count"; first = codes "a.wkt"; second = None }

plain_said : SaysLine plain_words plain_line
plain_said = (
  positional (codes "count") ∷ positional (codes "a.wkt") ∷ [],
  None,
  record { spelled = refl; are_pieces = (refl, (refl, tt)) },
  record {
    form = refl;
    how = refl;
    digits = refl;
    blocks = refl;
    workers = refl;
    feed = refl;
    can_feed = λ size told seq. cc;
    names = record { places = refl; query_fits = lit≤ tt; first_names = plain_name; second_names = tt };
  },
)

plain_only : (line : Line) → SaysLine plain_words line → line ≡ plain_line
plain_only line h = one_line plain_words line plain_line h plain_said

-- a sequence, which no name alone says
abbrev seq_words : List (List ℕ)
seq_words = codes "--form=seq" ∷ codes "count" ∷ codes "a.wkt" ∷ []

abbrev seq_line : Line
seq_line = record plain_line { form = Some Seq }

seq_said : SaysLine seq_words seq_line
seq_said = (
  joined Form (codes "seq") ∷ positional (codes "count") ∷ positional (codes "a.wkt") ∷ [],
  None,
  record { spelled = refl; are_pieces = (tt, (refl, (refl, tt))) },
  record {
    form = (Seq, refl, refl);
    how = refl;
    digits = refl;
    blocks = refl;
    workers = refl;
    feed = refl;
    can_feed = λ size told seq. cc;
    names = record { places = refl; query_fits = lit≤ tt; first_names = plain_name; second_names = tt };
  },
)

seq_only : (line : Line) → SaysLine seq_words line → line ≡ seq_line
seq_only line h = one_line seq_words line seq_line h seq_said

-- an option that is given twice, one that is none, one without its value, a fourth positional
twice : SayNoLine (codes "--blocks=2" ∷ codes "--blocks" ∷ codes "2" ∷ codes "count" ∷ codes "a.wkt" ∷ [])
twice line h = says_none _ line refl h

unknown : SayNoLine (codes "--block=2" ∷ codes "count" ∷ codes "a.wkt" ∷ [])
unknown line h = says_none _ line refl h

valueless : SayNoLine (codes "count" ∷ codes "a.wkt" ∷ codes "--workers" ∷ [])
valueless line h = says_none _ line refl h

too_many : SayNoLine (codes "join" ∷ codes "a.wkt" ∷ codes "b.wkt" ∷ codes "c.wkt" ∷ [])
too_many line h = says_none _ line refl h

-- chunks of no bytes, a sequence in chunks
no_bytes : (feed : Option ℕ) → SpellsFeed (codes "0") feed → ⊥
unfolding digits
no_bytes feed (size, told, whole) = let none : 0 ≡ size = decimal_injective 0 size (lit< tt) (omega (arith, whole.most)) whole.written in omega (arith, whole.least, none)

no_chunk : SayNoLine (codes "--feed=0" ∷ codes "count" ∷ codes "a.wkt" ∷ [])
no_chunk line h = no_bytes line.feed (says_gathered _ _ line refl h).feed

fed_sequence : SayNoLine (codes "--feed=5" ∷ codes "--form=seq" ∷ codes "count" ∷ codes "a.wkt" ∷ [])
fed_sequence line h =
    let values = says_gathered _ _ line refl h in
    let (size, told, whole) = values.feed in
    values.can_feed size told (one_said_form (codes "seq") line.form (Some Seq) values.form (Seq, refl, refl))

-- What the code keeps of a span's items, and the items that it stands for. The fold is that of the trees themselves,
-- and each atom stands for its tree.
use Rattle.std.specs.Prelude.{◌≡◌, ℕ, ◌+◌, zero, suc, ◌⊎◌, Option, Some, None, List, [], ◌∷◌, ◌++◌, length}
use Rattle.std.specs.Bool.{⊤}
use Rattle.at_text.specs.declared.texts.Span.{Span}
use Rattle.at_lex.specs.Strings.{Character, AreCharacters, string_text, units_of}
use Rattle.at_lex.specs.declared.tokens.Bracket.{Bracket}
use Rattle.at_lex.specs.declared.tokens.Bracket.TheVariants.{Brace, Square}
use Rattle.at_nest.specs.declared.algebra.Algebra.{Ghosts}
use Rattle.at_nest.specs.declared.algebra.Member.{Member}
use Rattle.at_nest.specs.declared.levels.ArrayState.{ArrayState}
use Rattle.at_nest.specs.declared.levels.ArrayState.TheVariants as array
use Rattle.at_nest.specs.declared.levels.ObjectState.{ObjectState}
use Rattle.at_nest.specs.declared.levels.ObjectState.TheVariants as object
use Rattle.at_nest.specs.declared.levels.Step.{Step}
use Rattle.at_nest.specs.declared.pieces.Piece.{Piece as CodePiece}
use Rattle.at_nest.specs.declared.pieces.Piece.TheVariants.{Comma, Colon, Text, Value, Row as RowPiece}
use Rattle.at_nest.specs.declared.pieces.Piece.TheVariants.{Members as MembersPiece, Closers as ClosersPiece}
use Rattle.at_nest.specs.declared.pieces.Row.{Row}
use Rattle.at_nest.specs.declared.pieces.NamedValue.{NamedValue}
use Rattle.at_nest.specs.declared.pieces.MemberRow.{MemberRow}
use Rattle.at_nest.specs.declared.pieces.Awaited.{Awaited}
use Rattle.at_nest.specs.declared.pieces.Closers.{Closers}
use Rattle.at_nest.specs.declared.pieces.SpanStop.{SpanStop as CodeHalt}
use Rattle.at_nest.specs.declared.pieces.Within.{Within as CodeWithin}
use Rattle.at_nest.specs.declared.pieces.Within.TheVariants.{First as FirstByte, Run as RunByte, Text as TextByte}
use Rattle.at_nest.specs.Tree.{Tree, literal, number, text, array as array_tree, object as object_tree, Members}
use Rattle.at_nest.specs.Tree.{no_members, member_and}
use Rattle.at_nest.specs.Folds.{trees}
use Rattle.at_nest.specs.Forms.{Meaning, Mark, Piece, closes, mark, comma, colon, quoted, entry}
use Rattle.at_nest.specs.Levels.{Mode, at_items, at_value, at_after, at_members, at_name, at_colon, at_member}
use Rattle.at_nest.specs.Levels.{at_further, Level, Form, values_in, pairs_in, marks, pieces_of, push, push_all, Within}
use Rattle.at_nest.specs.Levels.{at_first, in_run, in_text, SpanStop, Pushed, further, stopped}
use Rattle.at_nest.specs.Stops.{AreLevels}
use Rattle.at_nest.specs.MemberMarks.{ValueMark, mark_of, tree_of, MemberMarks, marks_behind_comma, member_marks}
use Rattle.at_nest.specs.MemberMarks.{member_pairs}
use Rattle.at_nest.specs.Shown.{Held, array_level, object_level, Shown, Added, IsStep, value_next, kept_outside}
use Rattle.at_nest.specs.Shown.{put_back}

abbrev pub tree_members : List (List Character × ℕ × Tree) → Members
tree_members [] = no_members
tree_members (p ∷ ps) = member_and p.0 p.1 p.2 (tree_members ps)

-- the fold that gives the tree itself
abbrev pub free : Meaning Tree
free = record {
  of_literal = literal;
  of_number = number;
  of_text = text;
  of_array = λ i ts. array_tree i (trees ts);
  of_object = λ i ps. object_tree i (tree_members ps);
}

-- what an atom may stand for: a tree, or several trees one behind another in an array
pub data Content : Type 0 where
  one : Tree → Content
  run : List Tree → Content

-- an atom of the algebra's own that is what it makes of the tree, or of the trees
abbrev pub OwnAtom : {X : Type 0} → (X → Type 0) → (X → Tree → Type 0) → (X → List Tree → Type 0) → X → Content → Type 0
OwnAtom IsOwn IsFold IsRun x (one t) = IsOwn x × IsFold x t
OwnAtom IsOwn IsFold IsRun x (run ts) = IsOwn x × IsRun x ts

-- an atom of this algebra's that stands for the tree, or the trees
abbrev pub IsAtomOf : {A X : Type 0} → Ghosts A X → A → X → Content → Type 0
IsAtomOf algebras algebra = OwnAtom (algebras.is_own algebra) (algebras.is_fold algebra) (algebras.is_run algebra)

abbrev pub array_mode : ArrayState → Mode
array_mode array.Empty = at_items
array_mode array.Comma = at_value
array_mode array.Value = at_after

abbrev pub object_mode : ObjectState → Mode
object_mode object.Empty = at_members
object_mode object.Comma = at_name
object_mode (object.Named n) = at_colon
object_mode (object.Colon n) = at_member
object_mode object.Value = at_further

-- the name that has no value yet
abbrev pub pending_in : {X : Type 0} → Option (List Character × ℕ) → List (Mark X) → Option (List Character × ℕ)
pending_in o [] = o
pending_in o (comma i ∷ xs) = pending_in o xs
pending_in o (colon i ∷ xs) = pending_in o xs
pending_in None (quoted i cs ∷ xs) = pending_in (Some (cs, i)) xs
pending_in (Some p) (quoted i cs ∷ xs) = pending_in None xs
pending_in o (entry i x ∷ xs) = pending_in None xs

-- values one behind another, each behind a comma, with the offsets of both
abbrev pub row_marks : List (ℕ × ℕ × Tree) → List (Mark Tree)
row_marks [] = []
row_marks (e ∷ es) = comma e.0 ∷ entry e.1 e.2 ∷ row_marks es

abbrev pub row_trees : List (ℕ × ℕ × Tree) → List Tree
row_trees [] = []
row_trees (e ∷ es) = e.2 ∷ row_trees es

-- so many closing brackets, one right behind another, whose two kinds take turns, the first at the offset
abbrev pub closers : Bracket → Bracket → ℕ → ℕ → List (Piece Tree)
closers b c i zero = []
closers b c i (suc n) = closes b i ∷ closers c b (i + 1) n

-- at least one
abbrev pub AreClosers : Closers → List (Piece Tree) → Type 0
AreClosers r ps = (n : ℕ) × (r.last ≡ r.from + n) × (ps ≡ closers r.first r.second r.from (suc n))

-- in the bytes w, which stand at `at`, the string stands where the span says
abbrev pub IsTextAt : ℕ → List ℕ → Span → List Character → Type 0
IsTextAt at w span cs = AreCharacters cs × (a z : List ℕ) × (w ≡ a ++ (string_text cs ++ z))
    × (span.from ≡ at + length a) × (span.to ≡ span.from + length (string_text cs))

abbrev pub within_of : CodeWithin → Within
within_of FirstByte = at_first
within_of RunByte = in_run
within_of TextByte = in_text

abbrev pub halt_of : CodeHalt → SpanStop
halt_of h = record { kind = within_of h.within; item = h.item; place = h.place }

-- the bytes w stand at `base` in all bytes
abbrev pub IsPartOf : List ℕ → ℕ → List ℕ → Type 0
IsPartOf bytes base w = (y z : List ℕ) × (bytes ≡ y ++ (w ++ z)) × (base ≡ length y)

-- before the first open level, members begin, or have one more
abbrev pub BeginsMembers : {X : Type 0} → Shown X → Added X → Awaited → X → Type 0
BeginsMembers {X = X} old a m x = (s : MemberRow X) × (s.comma ≡ m.comma) × (s.colon ≡ m.colon)
    × (s.items.items ≡ record { name = m.name; value = x } ∷ []) × (a ≡ kept_outside old.outer (MembersPiece s))

abbrev pub LengthensMembers : {X : Type 0} → Shown X → Added X → MemberRow X → NamedValue X → Type 0
LengthensMembers {X = X} old a r m = (s : MemberRow X) × (s.comma ≡ r.comma) × (s.colon ≡ r.colon)
    × (s.items.items ≡ r.items.items ++ m ∷ []) × (a ≡ kept_outside old.outer (MembersPiece s))

-- the name stands in the bytes
abbrev pub HasName : {X : Type 0} → List ℕ → NamedValue X → Type 0
HasName bytes m = (base : ℕ) × (w : List ℕ) × (cs : List Character) × IsPartOf bytes base w × IsTextAt base w m.name cs

-- the member has the name that stands in the bytes
abbrev pub NamesMember : {X : Type 0} → List ℕ → NamedValue X → Member X → Type 0
NamesMember bytes m n = (n.name_at ≡ m.name.from) × (n.value ≡ m.value) × ((base : ℕ) (w : List ℕ) (cs : List Character)
    → IsPartOf bytes base w → IsTextAt base w m.name cs → n.name ≡ units_of cs)

-- the level that has a comma behind it
abbrev pub IsBehindComma : {X : Type 0} → Held X → Type 0
IsBehindComma (array_level i array.Comma xs) = ⊤
IsBehindComma (object_level i object.Comma ms) = ⊤
IsBehindComma _ = ⊥

module _ {X : Type 0} (IsKept : X → Content → Type 0) where
  -- in an array the atom stands for one tree, or for several one behind another
  abbrev pub Holds : X → List Tree → Type 0
  Holds x ts = ((t : Tree) × (ts ≡ t ∷ []) × IsKept x (one t)) ⊎ IsKept x (run ts)

  -- one behind another, the atoms stand for the trees, in order
  abbrev pub Each : List X → List Tree → Type 0
  Each [] ts = ts ≡ []
  Each (x ∷ xs) ts = (us : List Tree) × (vs : List Tree) × (ts ≡ us ++ vs) × Holds x us × Each xs vs

  -- an atom was put behind the others
  abbrev pub Gains : List X → X → List X → Type 0
  Gains xs x ys = (ts : List Tree) (us : List Tree) → Each xs ts → Holds x us → Each ys (ts ++ us)

  abbrev pub EachMember : List (Member X) → List (List Character × ℕ × Tree) → Type 0
  EachMember [] [] = ⊤
  EachMember (m ∷ ms) (p ∷ ps) = (m.name ≡ units_of p.0) × (m.name_at ≡ p.1) × IsKept m.value (one p.2)
      × EachMember ms ps
  EachMember _ _ = ⊥

  -- the name that is kept is the one that has no value yet
  abbrev pub IsNamed : ObjectState → Option (List Character × ℕ) → Type 0
  IsNamed (object.Named n) (Some p) = (n.units ≡ units_of p.0) × (n.at ≡ p.1)
  IsNamed (object.Colon n) (Some p) = (n.units ≡ units_of p.0) × (n.at ≡ p.1)
  IsNamed object.Empty None = ⊤
  IsNamed object.Comma None = ⊤
  IsNamed object.Value None = ⊤
  IsNamed _ _ = ⊥

  abbrev pub IsHeld : Held X → Level Tree → Type 0
  IsHeld (array_level i s xs) l = (l.bracket ≡ Square) × (l.from ≡ i) × (l.mode ≡ array_mode s)
      × Each xs (values_in free l.inside)
  IsHeld (object_level i s ms) l = (l.bracket ≡ Brace) × (l.from ≡ i) × (l.mode ≡ object_mode s)
      × EachMember ms (pairs_in free None l.inside) × IsNamed s (pending_in None l.inside)

  abbrev pub EachHeld : List (Held X) → List (Level Tree) → Type 0
  EachHeld [] [] = ⊤
  EachHeld (h ∷ hs) (l ∷ ls) = IsHeld h l × EachHeld hs ls
  EachHeld _ _ = ⊥

  abbrev pub IsHeldPiece : ℕ → List ℕ → CodePiece X → Piece Tree → Type 0
  IsHeldPiece at w (Comma i) (mark (comma j)) = i ≡ j
  IsHeldPiece at w (Colon i) (mark (colon j)) = i ≡ j
  IsHeldPiece at w (Text span x) (mark (quoted j cs)) = (span.from ≡ j) × IsTextAt at w span cs
      × IsKept x (one (text j cs))
  IsHeldPiece at w (Value i x) (mark (entry j t)) = (i ≡ j) × IsKept x (one t)
  IsHeldPiece at w _ _ = ⊥

  -- the row is of at least one value
  pub record IsRow (r : Row X) (ps : List (Piece Tree)) : Type 0 where
    pub tree : Tree
    pub others : List (ℕ × ℕ × Tree)
    pub split : ps ≡ marks (row_marks ((r.comma, r.first, tree) ∷ others))
    pub items : Each r.items.items (tree ∷ row_trees others)

  -- the names stand in the bytes, and each atom stands for its value
  abbrev pub EachNamed : ℕ → List ℕ → List (NamedValue X) → List MemberMarks → Type 0
  EachNamed at w [] [] = ⊤
  EachNamed at w (m ∷ ms) (e ∷ es) = (m.name.from ≡ e.name_at) × IsTextAt at w m.name e.characters
      × IsKept m.value (one (tree_of e.value)) × EachNamed at w ms es
  EachNamed at w _ _ = ⊥

  -- at least one member
  pub record AreMembers (at : ℕ) (w : List ℕ) (r : MemberRow X) (ps : List (Piece Tree)) : Type 0 where
    pub first : MemberMarks
    pub others : List MemberMarks
    pub split : ps ≡ marks (member_marks (first ∷ others))
    pub comma_is : r.comma ≡ first.comma_at
    pub colon_is : r.colon ≡ first.colon_at
    pub items : EachNamed at w r.items.items (first ∷ others)

  abbrev pub AreRow : ℕ → List ℕ → CodePiece X → List (Piece Tree) → Type 0
  AreRow at w (RowPiece r) ps = IsRow r ps
  AreRow at w (MembersPiece r) ps = AreMembers at w r ps
  AreRow at w (ClosersPiece r) ps = AreClosers r ps
  AreRow at w _ ps = ⊥

  -- what is kept of one item, or of a row of values, of members or of closing brackets
  abbrev pub ArePieces : ℕ → List ℕ → CodePiece X → List (Piece Tree) → Type 0
  ArePieces at w c ps = ((p : Piece Tree) × (ps ≡ p ∷ []) × IsHeldPiece at w c p) ⊎ AreRow at w c ps

  abbrev pub EachPiece : ℕ → List ℕ → List (CodePiece X) → List (Piece Tree) → Type 0
  EachPiece at w [] ps = ps ≡ []
  EachPiece at w (c ∷ cs) ps = (us : List (Piece Tree)) × (vs : List (Piece Tree)) × (ps ≡ us ++ vs)
      × ArePieces at w c us × EachPiece at w cs vs

  abbrev pub IsShown : ℕ → List ℕ → Shown X → Form Tree → Type 0
  IsShown at w s f = EachPiece at w s.outer f.outer × EachHeld s.levels f.levels

  -- what is kept, and where the span stops, stand for what the items push
  abbrev pub IsPushedAs : ℕ → List ℕ → Shown X → Option CodeHalt → Pushed Tree → Type 0
  IsPushedAs at w s None (further f) = IsShown at w s f
  IsPushedAs at w s (Some h) (stopped f i) = IsShown at w s f × (halt_of h ≡ i)
  IsPushedAs at w s _ _ = ⊥

  -- it stands for some items
  abbrev pub IsOfItems : Shown X → Type 0
  IsOfItems s = (base : ℕ) × (w : List ℕ) × (f : Form Tree) × IsShown base w s f

  -- an array's atoms, where the value is put into one
  abbrev pub GainsIn : Held X → X → List X → Type 0
  GainsIn (array_level i s xs) x ys = Gains xs x ys
  GainsIn (object_level i s ms) x ys = ⊤

  -- the level behind a value, which has become the atom, or the level as it was
  abbrev pub AddsTo : Held X → X → Step X → Type 0
  AddsTo old x step = (ys : List X) × GainsIn old x ys × IsStep old (value_next old x ys) step

  -- what is kept behind a value that is no string, and where the span stops
  abbrev pub PushesValue : Shown X → Shown X → Option CodeHalt → ℕ → X → Type 0
  PushesValue old new r i x = (base : ℕ) (w : List ℕ) (f : Form Tree) (t : Tree) → IsShown base w old f
      → IsKept x (one t) → IsPushedAs base w new r (push free f (mark (entry i t)))

  -- what is kept behind values that are no strings, the first at the offset, the others each behind a comma
  abbrev pub PushesItems : Shown X → Shown X → Option CodeHalt → ℕ → X → Type 0
  PushesItems old new r i x = (base : ℕ) (w : List ℕ) (f : Form Tree) (t : Tree) (others : List (ℕ × ℕ × Tree))
      → IsShown base w old f → Holds x (t ∷ row_trees others)
      → IsPushedAs base w new r (push_all free (marks (entry i t ∷ row_marks others)) f)

  -- what is kept behind a comma and such values
  abbrev pub PushesBehind : Shown X → Shown X → Option CodeHalt → ℕ → ℕ → X → Type 0
  PushesBehind old new r c i x = (base : ℕ) (w : List ℕ) (f : Form Tree) (t : Tree) (others : List (ℕ × ℕ × Tree))
      → IsShown base w old f → Holds x (t ∷ row_trees others)
      → IsPushedAs base w new r (push_all free (marks (row_marks ((c, i, t) ∷ others))) f)

  -- in place of the row, one with a value more, before the first open level
  abbrev pub LongerRow : Row X → Row X → X → Type 0
  LongerRow r s x = (s.comma ≡ r.comma) × (s.first ≡ r.first) × Gains r.items.items x s.items.items

  abbrev pub Lengthens : Shown X → Added X → Row X → X → Type 0
  Lengthens old a r x = (s : Row X) × LongerRow r s x × (a ≡ kept_outside old.outer (RowPiece s))

  -- what is kept behind a row of values
  abbrev pub PushesRow : Shown X → Shown X → Option CodeHalt → Row X → Type 0
  PushesRow old new r row = (base : ℕ) (w : List ℕ) (f : Form Tree) (ps : List (Piece Tree)) → IsShown base w old f
      → IsRow row ps → IsPushedAs base w new r (push_all free ps f)

  -- what is kept behind a comma, a name, a colon and a value
  abbrev pub PushesMember : Shown X → Shown X → Option CodeHalt → Awaited → X → Type 0
  PushesMember old new r m x = (base : ℕ) (w : List ℕ) (f : Form Tree) (cs : List Character) (v : ValueMark)
      → IsShown base w old f → IsTextAt base w m.name cs → IsKept x (one (tree_of v))
      → IsPushedAs base w new r
      (push_all free (marks (comma m.comma ∷ quoted m.name.from cs ∷ colon m.colon ∷ mark_of v ∷ [])) f)

  -- what is kept behind a value where a name and a colon stand before it
  abbrev pub PushesAwaited : Shown X → Shown X → Option CodeHalt → X → Type 0
  PushesAwaited old new r x = (base : ℕ) (w : List ℕ) (f : Form Tree) (v : ValueMark) → IsShown base w old f
      → IsKept x (one (tree_of v)) → IsPushedAs base w new r (push free f (mark (mark_of v)))

  -- what is kept behind a string
  abbrev pub PushesKeptText : Shown X → Shown X → Option CodeHalt → Span → X → Type 0
  PushesKeptText old new r span x = (base : ℕ) (w : List ℕ) (f : Form Tree) (cs : List Character) → IsShown base w old f
      → IsTextAt base w span cs → IsKept x (one (text span.from cs))
      → IsPushedAs base w new r (push free f (mark (quoted span.from cs)))

  -- what is kept behind members
  abbrev pub PushesMembers : List ℕ → Shown X → Shown X → Option CodeHalt → MemberRow X → Type 0
  PushesMembers bytes old new r row = (base : ℕ) (w : List ℕ) (f : Form Tree) (ps : List (Piece Tree))
      → IsPartOf bytes base w → IsShown base w old f → AreMembers base w row ps
      → IsPushedAs base w new r (push_all free ps f)

  -- the members stand in the bytes
  abbrev pub HasMembers : List ℕ → MemberRow X → Type 0
  HasMembers bytes r = (base : ℕ) × (w : List ℕ) × (e : MemberMarks) × (es : List MemberMarks) × IsPartOf bytes base w
      × EachNamed base w r.items.items (e ∷ es)

  -- members were put behind the others, one by one
  abbrev pub GainsMembers : List ℕ → List (Member X) → List (NamedValue X) → List (Member X) → Type 0
  GainsMembers bytes ms more all = (base : ℕ) (w : List ℕ) (ps : List (List Character × ℕ × Tree)) (es
      : List MemberMarks) → IsPartOf bytes base w → EachMember ms ps → EachNamed base w more es
      → EachMember all (ps ++ member_pairs es)

  -- the level is put back behind members whose first comma has been read
  abbrev pub PutsMembers : List ℕ → Shown X → Shown X → Option CodeHalt → Held X → MemberRow X → Type 0
  PutsMembers bytes old new r h row = (base : ℕ) (w : List ℕ) (fo : List (Piece Tree)) (l : Level Tree) (ls
      : List (Level Tree)) (e : MemberMarks) (es : List MemberMarks) → IsPartOf bytes base w
      → EachPiece base w old.outer fo → IsHeld h l → EachHeld old.levels ls
      → row.colon ≡ e.colon_at → EachNamed base w row.items.items (e ∷ es)
      → IsPushedAs base w new r (push_all free (marks (marks_behind_comma e (member_marks es)))
      (record { outer = fo; levels = l ∷ ls }))

  -- what is kept behind closing brackets
  abbrev pub PushesClosers : Shown X → Shown X → Option CodeHalt → Closers → Type 0
  PushesClosers old new r c = (base : ℕ) (w : List ℕ) (f : Form Tree) (ps : List (Piece Tree)) → IsShown base w old f
      → AreClosers c ps → IsPushedAs base w new r (push_all free ps f)

  -- atoms were put behind the others, one by one
  abbrev pub GainsAll : List X → List X → List X → Type 0
  GainsAll xs zs ys = (ts : List Tree) (us : List Tree) → Each xs ts → Each zs us → Each ys (ts ++ us)

  -- the level behind a row whose first comma has been read: an object takes no value there
  abbrev pub IsRowNext : Held X → List X → Option (Held X) → Type 0
  IsRowNext (array_level i s xs) zs (Some h) = (ys : List X) × (h ≡ array_level i array.Value ys) × GainsAll xs zs ys
  IsRowNext (object_level i s ms) zs None = ⊤
  IsRowNext _ zs o = ⊥

  -- the level is put back behind a row whose first comma has been read
  abbrev pub PutsRow : Shown X → Added X → Held X → Row X → Type 0
  PutsRow old a h row = (o : Option (Held X)) × IsRowNext h row.items.items o
      × (a ≡ put_back old.outer old.levels row.first h o)

  -- what is kept behind the item, and where the span stops
  abbrev pub Pushes : Shown X → Shown X → Option CodeHalt → Piece Tree → Type 0
  Pushes old new r p = (base : ℕ) (w : List ℕ) (f : Form Tree) → IsShown base w old f
      → IsPushedAs base w new r (push free f p)

  abbrev pub PushesText : Shown X → Shown X → Option CodeHalt → Span → List Character → Type 0
  PushesText old new r span cs = (base : ℕ) (w : List ℕ) (f : Form Tree) → IsShown base w old f
      → IsTextAt base w span cs → IsPushedAs base w new r (push free f (mark (quoted span.from cs)))

  -- the item may be put behind what is kept: both stand for items of the bytes
  abbrev pub CanAdd : List ℕ → Shown X → CodePiece X → Type 0
  CanAdd bytes s c = (base : ℕ) × (w : List ℕ) × (f : Form Tree) × (ps : List (Piece Tree)) × IsPartOf bytes base w
      × IsShown base w s f × ArePieces base w c ps

  abbrev pub Adds : List ℕ → Shown X → CodePiece X → Shown X → Option CodeHalt → Type 0
  Adds bytes old c new r = (base : ℕ) (w : List ℕ) (f : Form Tree) (ps : List (Piece Tree)) → IsPartOf bytes base w
      → IsShown base w old f → ArePieces base w c ps → IsPushedAs base w new r (push_all free ps f)

  abbrev pub CanJoin : List ℕ → Shown X → Shown X → Type 0
  CanJoin bytes s t = (base : ℕ) × (w : List ℕ) × (f : Form Tree) × (g : Form Tree) × IsPartOf bytes base w
      × IsShown base w s f × IsShown base w t g

  abbrev pub Joins : List ℕ → Shown X → Shown X → Shown X → Option CodeHalt → Type 0
  Joins bytes old behind new r = (base : ℕ) (w : List ℕ) (f g : Form Tree) → IsPartOf bytes base w
      → IsShown base w old f → IsShown base w behind g → AreLevels g.levels
      → IsPushedAs base w new r (push_all free (pieces_of g) f)

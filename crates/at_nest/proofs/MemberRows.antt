-- Members, each behind a comma: how they grow before the first open level, and what they do to the level behind which they are put.
-- For `finish`, `finish_span`, `merge` and `run_block`.
use Rattle.std.proofs.Common.{◌≡◌, ℕ, ◌+◌, ◌-◌, Option, Some, None, List, [], ◌∷◌, ◌++◌, inl, inr, refl, sym, ◌∙◌, ap, subst, arith, append_assoc, length, length-append, take, get_or, All}
use Rattle.std.proofs.Math.Seq.{take-append_seam}
use Rattle.std.proofs.lemmas.List.Elements.{All-nil, All-cons}
use Rattle.at_text.specs.declared.texts.Span.{Span}
use Rattle.at_lex.specs.Strings.{Character}
use Rattle.at_nest.specs.declared.algebra.Member.{Member}
use Rattle.at_nest.specs.declared.levels.ArrayState.{ArrayState}
use Rattle.at_nest.specs.declared.levels.ArrayState.TheVariants as array
use Rattle.at_nest.specs.declared.levels.ObjectState.{ObjectState}
use Rattle.at_nest.specs.declared.levels.ObjectState.TheVariants as object
use Rattle.at_nest.specs.declared.levels.Level.{Level as CodeLevel}
use Rattle.at_nest.specs.declared.levels.Step.TheVariants.{On}
use Rattle.at_nest.specs.declared.pieces.Piece.{Piece as CodePiece}
use Rattle.at_nest.specs.declared.pieces.Piece.TheVariants.{Comma, Colon, Text, Members as MembersPiece}
use Rattle.at_nest.specs.declared.pieces.NamedValue.{NamedValue}
use Rattle.at_nest.specs.declared.pieces.MemberRow.{MemberRow}
use Rattle.at_nest.specs.declared.pieces.Awaited.{Awaited}
use Rattle.at_nest.specs.declared.pieces.SpanStop.{SpanStop as CodeHalt}
use Rattle.at_nest.specs.Tree.{Tree, text}
use Rattle.at_nest.specs.Forms.{Mark, Piece, mark, comma, colon, quoted}
use Rattle.at_nest.specs.Walks.{colon_kind, text_kind}
use Rattle.at_nest.specs.Levels.{Mode, at_name, at_member, at_further, Level, pairs_in, marks, move, moves, further, with_mark, push_mark, push_all, push_then}
use Rattle.at_nest.specs.Shown.{Held, held_of, array_level, object_level, Shown, show_as, kept_outside, put_back, comma_next, stop_at}
use Rattle.at_nest.specs.MemberMarks.{ValueMark, string_value, other_value, mark_of, tree_of, MemberMarks, marks_behind_comma, member_marks, member_pairs, Awaits}
use Rattle.at_nest.specs.KeptItems.{Content, one, free, pending_in, EachMember, IsNamed, IsHeld, EachHeld, EachNamed, AreMembers, ArePieces, EachPiece, IsPushedAs, IsTextAt, IsPartOf, AddsTo, PushesMember, PushesAwaited, PushesMembers, BeginsMembers, LengthensMembers, HasMembers, HasName, NamesMember, GainsMembers, IsBehindComma, PutsMembers}
use Rattle.at_nest.proofs.Held.{with_one, IsMoved, text_moves, none_of, value_pairs, value_pending, pairs_append, pending_append, each_member_append}
use Rattle.at_nest.proofs.Pushes.{marks_append}
use Rattle.at_nest.proofs.Joining.{push_marks}
use Rattle.at_nest.proofs.Showing.{pieces_append, pieces_cut, outside_pushes}
use Rattle.at_nest.proofs.Rows.{push_outside, marks_outside, is_comma, comma_put, comma_refused}
use Rattle.at_nest.proofs.OwnItems.{named_cut, named_append}

-- ---- the marks of members

value_moves_on : (v : ValueMark) (xs : List (Mark Tree)) → moves at_member (mark_of v ∷ xs) ≡ moves at_further xs
value_moves_on (string_value i cs) xs = refl
value_moves_on (other_value i t) xs = refl

behind_moves : (e : MemberMarks) (es : List MemberMarks) → moves at_name (marks_behind_comma e (member_marks es)) ≡ Some at_further
behind_moves e [] = value_moves_on e.value []
behind_moves e (g ∷ es) = value_moves_on e.value (member_marks (g ∷ es)) ∙ behind_moves g es

behind_pairs : (e : MemberMarks) (es : List MemberMarks) → pairs_in free None (marks_behind_comma e (member_marks es)) ≡ member_pairs (e ∷ es)
behind_pairs e [] = value_pairs e.value (e.characters, e.name_at) []
behind_pairs e (g ∷ es) = value_pairs e.value (e.characters, e.name_at) (member_marks (g ∷ es)) ∙ ap (λ z. (e.characters, e.name_at, tree_of e.value) ∷ z) (behind_pairs g es)

behind_pending : (e : MemberMarks) (es : List MemberMarks) → pending_in None (marks_behind_comma e (member_marks es)) ≡ None
behind_pending e [] = value_pending e.value (e.characters, e.name_at) []
behind_pending e (g ∷ es) = value_pending e.value (e.characters, e.name_at) (member_marks (g ∷ es)) ∙ behind_pending g es

marks_more : (es gs : List MemberMarks) → member_marks (es ++ gs) ≡ member_marks es ++ member_marks gs
marks_more [] gs = refl
marks_more (e ∷ es) gs = ap (λ z. comma e.comma_at ∷ marks_behind_comma e z) (marks_more es gs)

pairs_more : (es gs : List MemberMarks) → member_pairs (es ++ gs) ≡ member_pairs es ++ member_pairs gs
pairs_more [] gs = refl
pairs_more (e ∷ es) gs = ap (λ z. (e.characters, e.name_at, tree_of e.value) ∷ z) (pairs_more es gs)

module _ {X : Type 0} (IsKept : X → Content → Type 0) where
  are_members : (r : MemberRow X) (base : ℕ) (w : List ℕ) (ps : List (Piece Tree)) → ArePieces IsKept base w (MembersPiece r) ps → AreMembers IsKept base w r ps
  are_members r base w ps (inl (p, e, h)) = absurd h
  are_members r base w ps (inr h) = h

  is_colon : (c : ℕ) (base : ℕ) (w : List ℕ) (ps : List (Piece Tree)) → ArePieces IsKept base w (Colon c) ps → ps ≡ mark (colon c) ∷ []
  is_colon c base w ps (inl (mark (colon j), e, h)) = e ∙ ap (λ n. mark (colon n) ∷ []) (sym h)
  is_colon c base w ps (inl (_, e, h)) = absurd h
  is_colon c base w ps (inr h) = absurd h

  is_text : (span : Span) (x : X) (base : ℕ) (w : List ℕ) (ps : List (Piece Tree)) → ArePieces IsKept base w (Text span x) ps → (cs : List Character) × (ps ≡ mark (quoted span.from cs) ∷ []) × IsTextAt base w span cs
  is_text span x base w ps (inl (mark (quoted j cs), e, h)) = (cs, e ∙ ap (λ n. mark (quoted n cs) ∷ []) (sym h.0), h.1)
  is_text span x base w ps (inl (_, e, h)) = absurd h
  is_text span x base w ps (inr h) = absurd h

  -- ---- before the first open level

  abbrev marks_of : Awaited → List Character → ValueMark → MemberMarks
  marks_of m cs v = record { comma_at = m.comma; name_at = m.name.from; characters = cs; colon_at = m.colon; value = v }

  pub members_begun : (old old2 new : Shown X) (r : Option CodeHalt) (m : Awaited) (x : X) → old.levels ≡ [] → old2.outer ≡ old.outer → BeginsMembers old2 (new, r) m x → PushesMember IsKept old new r m x
  members_begun old old2 new r m x e e2 (s, ec, ek, es, d) base w f cs v h t k = let xs : List (Mark Tree) = member_marks (marks_of m cs v ∷ []) in
      outside_pushes IsKept base w old new r (old2.outer ++ MembersPiece s ∷ []) f (marks xs) e h.1 d (push_outside xs f.outer)
      (pieces_append IsKept base w old2.outer f.outer (MembersPiece s) (marks xs) (subst (λ z. EachPiece IsKept base w z f.outer) (sym e2) h.0) (inr (record {
        first = marks_of m cs v;
        others = [];
        split = refl;
        comma_is = ec;
        colon_is = ek;
        items = subst (λ z. EachNamed IsKept base w z (marks_of m cs v ∷ [])) (sym es) (refl, t, k, tt);
      })))

  pub members_longer : (old old2 new : Shown X) (r : Option CodeHalt) (before : MemberRow X) (m : Awaited) (x : X) → old.levels ≡ [] → old.outer ≡ old2.outer ++ MembersPiece before ∷ [] → LengthensMembers old2 (new, r) before (record { name = m.name; value = x }) → PushesMember IsKept old new r m x
  members_longer old old2 new r before m x e e2 (row, ec, ek, es, d) base w f cs v h t k = outside_pushes IsKept base w old new r (old2.outer ++ MembersPiece row ∷ []) f more e h.1 d (push_outside (member_marks (marks_of m cs v ∷ [])) f.outer) kept
    where
      more : List (Piece Tree)
      more = marks (member_marks (marks_of m cs v ∷ []))

      kept : EachPiece IsKept base w (old2.outer ++ MembersPiece row ∷ []) (f.outer ++ more)
      kept = let s = pieces_cut IsKept base w old2.outer (MembersPiece before) f.outer (subst (λ z. EachPiece IsKept base w z f.outer) e2 h.0) in
          let q : AreMembers IsKept base w before s.1 = are_members before base w s.1 s.4 in
          subst (EachPiece IsKept base w (old2.outer ++ MembersPiece row ∷ [])) (sym (ap (λ z. z ++ more) s.2 ∙ append_assoc s.0 s.1 more))
          (pieces_append IsKept base w old2.outer s.0 (MembersPiece row) (s.1 ++ more) s.3 (inr (record {
            first = q.first;
            others = q.others ++ marks_of m cs v ∷ [];
            split = ap (λ z. z ++ more) q.split ∙ (sym (marks_append (member_marks (q.first ∷ q.others)) (member_marks (marks_of m cs v ∷ []))) ∙ ap marks (sym (marks_more (q.first ∷ q.others) (marks_of m cs v ∷ []))));
            comma_is = ec ∙ q.comma_is;
            colon_is = ek ∙ q.colon_is;
            items = subst (λ z. EachNamed IsKept base w z (q.first ∷ (q.others ++ marks_of m cs v ∷ []))) (sym es) (named_append IsKept base w before.items.items (record { name = m.name; value = x }) (q.first ∷ q.others) (marks_of m cs v) q.items (refl, t, k, tt));
          })))

  -- a value, where a comma, a name and a colon were the last
  pub member_behind : (old old2 new : Shown X) (r : Option CodeHalt) (m : Awaited) (y x : X) → old.levels ≡ [] → old2.levels ≡ [] → old.outer ≡ old2.outer ++ (Comma m.comma ∷ (Text m.name y ∷ (Colon m.colon ∷ []))) → PushesMember IsKept old2 new r m x → PushesAwaited IsKept old new r x
  member_behind old old2 new r m y x e el e2 pushes base w f v h k = here f.levels (subst (λ z. EachHeld IsKept z f.levels) e h.1)
    where
      front : List (CodePiece X)
      front = old2.outer

      three : EachPiece IsKept base w (((front ++ Comma m.comma ∷ []) ++ Text m.name y ∷ []) ++ Colon m.colon ∷ []) f.outer
      three = subst (λ z. EachPiece IsKept base w z f.outer) (e2 ∙ sym (append_assoc (front ++ Comma m.comma ∷ []) (Text m.name y ∷ []) (Colon m.colon ∷ []) ∙ append_assoc front (Comma m.comma ∷ []) (Text m.name y ∷ (Colon m.colon ∷ [])))) h.0

      here : (ls : List (Level Tree)) → EachHeld IsKept [] ls → IsPushedAs IsKept base w new r (push_mark f.outer ls (mark_of v))
      here [] u =
          let a = pieces_cut IsKept base w ((front ++ Comma m.comma ∷ []) ++ Text m.name y ∷ []) (Colon m.colon) f.outer three in
          let b = pieces_cut IsKept base w (front ++ Comma m.comma ∷ []) (Text m.name y) a.0 a.3 in
          let c = pieces_cut IsKept base w front (Comma m.comma) b.0 b.3 in
          let (cs, name, at) = is_text m.name y base w b.1 b.4 in
          let outer : f.outer ≡ ((c.0 ++ mark (comma m.comma) ∷ []) ++ mark (quoted m.name.from cs) ∷ []) ++ mark (colon m.colon) ∷ [] =
          a.2 ∙ (ap (λ z. a.0 ++ z) (is_colon m.colon base w a.1 a.4) ∙ ap (λ z. z ++ mark (colon m.colon) ∷ []) (b.2 ∙ (ap (λ z. b.0 ++ z) name ∙ ap (λ z. z ++ mark (quoted m.name.from cs) ∷ []) (c.2 ∙ ap (λ z. c.0 ++ z) (is_comma IsKept m.comma base w c.1 c.4))))) in
          subst (IsPushedAs IsKept base w new r) (push_outside (member_marks (marks_of m cs v ∷ [])) c.0 ∙ ap (λ z. further (record { outer = z; levels = [] })) (regroup c.0 cs ∙ ap (λ z. z ++ mark (mark_of v) ∷ []) (sym outer)))
          (pushes base w (record { outer = c.0; levels = [] }) cs v (c.3, subst (λ z. EachHeld IsKept z []) (sym el) tt) at k)
        where
          regroup : (c : List (Piece Tree)) (cs : List Character) → c ++ marks (member_marks (marks_of m cs v ∷ [])) ≡ (((c ++ mark (comma m.comma) ∷ []) ++ mark (quoted m.name.from cs) ∷ []) ++ mark (colon m.colon) ∷ []) ++ mark (mark_of v) ∷ []
          regroup c cs = sym (append_assoc ((c ++ mark (comma m.comma) ∷ []) ++ mark (quoted m.name.from cs) ∷ []) (mark (colon m.colon) ∷ []) (mark (mark_of v) ∷ [])
              ∙ (append_assoc (c ++ mark (comma m.comma) ∷ []) (mark (quoted m.name.from cs) ∷ []) (mark (colon m.colon) ∷ (mark (mark_of v) ∷ []))
              ∙ append_assoc c (mark (comma m.comma) ∷ []) (mark (quoted m.name.from cs) ∷ (mark (colon m.colon) ∷ (mark (mark_of v) ∷ [])))))
      here (l ∷ ls) u = absurd u

  pub members_outside : (bytes : List ℕ) (old new : Shown X) (r : Option CodeHalt) (row : MemberRow X) (outer : List (CodePiece X)) → old.levels ≡ [] → old.outer ≡ outer → (new, r) ≡ kept_outside outer (MembersPiece row) → PushesMembers IsKept bytes old new r row
  members_outside bytes old new r row outer e e2 d base w f ps part h k = outside_pushes IsKept base w old new r (outer ++ MembersPiece row ∷ []) f ps e h.1 d (marks_outside ps (member_marks (k.first ∷ k.others)) f.outer k.split)
      (pieces_append IsKept base w outer f.outer (MembersPiece row) ps (subst (λ z. EachPiece IsKept base w z f.outer) e2 h.0) (inr k))

  -- ---- in a level

  -- an object goes on with all of them
  pub members_in_object : (bytes : List ℕ) (old new : Shown X) (r : Option CodeHalt) (j at : ℕ) (s : ObjectState) (ms all : List (Member X)) (row : MemberRow X) → IsBehindComma (object_level j s ms) → GainsMembers IsKept bytes ms row.items.items all
      → (new, r) ≡ put_back old.outer old.levels at (object_level j s ms) (Some (object_level j object.Value all)) → PutsMembers IsKept bytes old new r (object_level j s ms) row
  members_in_object bytes old new r j at object.Comma ms all row b gains d base w fo l ls e es part ho k hl ek named =
      let xs : List (Mark Tree) = marks_behind_comma e (member_marks es) in
      let none : pending_in None l.inside ≡ None = none_of IsKept object.Comma (pending_in None l.inside) refl k.4 in
      let on : moves l.mode xs ≡ Some at_further = ap (λ z. moves z xs) k.2 ∙ behind_moves e es in
      let pairs : pairs_in free None (l.inside ++ xs) ≡ pairs_in free None l.inside ++ member_pairs (e ∷ es) = pairs_append None l.inside xs ∙ ap (λ z. pairs_in free None l.inside ++ z) (ap (λ o. pairs_in free o xs) none ∙ behind_pairs e es) in
      let pending : pending_in None (l.inside ++ xs) ≡ None = pending_append None l.inside xs ∙ (ap (λ o. pending_in o xs) none ∙ behind_pending e es) in
      let held : IsHeld IsKept (object_level j object.Value all) (record { bracket = l.bracket; from = l.from; inside = l.inside ++ xs; mode = at_further }) =
      (k.0, k.1, refl, subst (EachMember IsKept all) (sym pairs) (gains base w (pairs_in free None l.inside) (e ∷ es) part k.3 named), subst (IsNamed IsKept object.Value) (sym pending) tt) in
      subst (λ a. IsPushedAs IsKept base w a.0 a.1 (push_all free (marks xs) (record { outer = fo; levels = l ∷ ls }))) (sym d)
      (subst (IsPushedAs IsKept base w (show_as old.outer (object_level j object.Value all ∷ old.levels)) None) (sym (push_marks xs l.inside l.bracket l.from l.mode at_further fo ls on)) (ho, (held, hl)))
  members_in_object bytes old new r j at _ ms all row b gains d base w fo l ls e es part ho k hl ek named = absurd b

  first_named : (base : ℕ) (w : List ℕ) (ms : List (NamedValue X)) (e : MemberMarks) (es : List MemberMarks) (m : NamedValue X) → m ≡ get_or ms 0 m → EachNamed IsKept base w ms (e ∷ es) → (m.name.from ≡ e.name_at) × IsTextAt base w m.name e.characters
  first_named base w [] e es m i h = absurd h
  first_named base w (n ∷ ms) e es m i h = subst (λ z. (z.name.from ≡ e.name_at) × IsTextAt base w z.name e.characters) (sym i) (h.0, h.1)

  -- the level behind the name, and the colon that it doesn't take
  colon_stops : (base : ℕ) (w : List ℕ) (outer : List (CodePiece X)) (hs : List (Held X)) (fo : List (Piece Tree)) (ls : List (Level Tree)) (j k : ℕ) (ys : List X) (l : Level Tree) (more : List (Piece Tree)) → EachPiece IsKept base w outer fo → EachHeld IsKept hs ls → IsHeld IsKept (array_level j array.Value ys) l
      → IsPushedAs IsKept base w (show_as outer (array_level j array.Value ys ∷ hs)) (Some (stop_at k)) (push_then (push_all free more) (push_mark fo (l ∷ ls) (colon k)))
  colon_stops base w outer hs fo ls j k ys l more ho hl h = subst (λ md. IsPushedAs IsKept base w (show_as outer (array_level j array.Value ys ∷ hs)) (Some (stop_at k)) (push_then (push_all free more) (with_mark fo ls l (colon k) (move md colon_kind)))) (sym h.2) ((ho, (h, hl)), refl)

  -- an array takes the first name as a value, and no colon
  pub members_in_array : (bytes : List ℕ) (old new : Shown X) (r : Option CodeHalt) (j : ℕ) (s : ArrayState) (xs : List X) (x : X) (m : NamedValue X) (row : MemberRow X) (l2 : CodeLevel X) → IsBehindComma (array_level j s xs) → m ≡ get_or row.items.items 0 m
      → ((base : ℕ) (w : List ℕ) (cs : List Character) → IsPartOf bytes base w → IsTextAt base w m.name cs → IsKept x (one (text m.name.from cs))) → AddsTo IsKept (array_level j s xs) x (On l2) → (new, r) ≡ put_back old.outer old.levels row.colon (held_of l2) None
      → PutsMembers IsKept bytes old new r (array_level j s xs) row
  members_in_array bytes old new r j array.Comma xs x m row l2 b first is (ys, more, step) d base w fo l ls e es part ho k hl ek named =
      let (from, at) = first_named base w row.items.items e es m first named in
      let rest : List (Piece Tree) = mark (mark_of e.value) ∷ marks (member_marks es) in
      subst (λ a. IsPushedAs IsKept base w a.0 a.1 (push_all free (marks (marks_behind_comma e (member_marks es))) (record { outer = fo; levels = l ∷ ls }))) (sym d)
      (subst (λ n. IsPushedAs IsKept base w (show_as old.outer (held_of l2 ∷ old.levels)) (Some (stop_at row.colon)) (push_all free (marks (quoted e.name_at e.characters ∷ (colon n ∷ (mark_of e.value ∷ member_marks es)))) (record { outer = fo; levels = l ∷ ls }))) ek
      (subst (λ n. IsPushedAs IsKept base w (show_as old.outer (held_of l2 ∷ old.levels)) (Some (stop_at row.colon)) (push_all free (marks (quoted n e.characters ∷ (colon row.colon ∷ (mark_of e.value ∷ member_marks es)))) (record { outer = fo; levels = l ∷ ls }))) from
      (subst (λ z. IsPushedAs IsKept base w (show_as old.outer (z ∷ old.levels)) (Some (stop_at row.colon)) (push_all free (marks (quoted m.name.from e.characters ∷ (colon row.colon ∷ (mark_of e.value ∷ member_marks es)))) (record { outer = fo; levels = l ∷ ls }))) (sym step)
      (by_move rest (move l.mode text_kind) (text_moves IsKept (array_level j array.Comma xs) l m.name.from x ys e.characters refl k (is base w e.characters part at) more)))))
    where
      by_move : (rest : List (Piece Tree)) (o : Option Mode) → IsMoved IsKept (Some (array_level j array.Value ys)) o l (quoted m.name.from e.characters)
          → IsPushedAs IsKept base w (show_as old.outer (array_level j array.Value ys ∷ old.levels)) (Some (stop_at row.colon)) (push_then (push_all free (mark (colon row.colon) ∷ rest)) (with_mark fo ls l (quoted m.name.from e.characters) o))
      by_move rest None v = absurd v
      by_move rest (Some md) v = colon_stops base w old.outer old.levels fo ls j row.colon ys (with_one l (quoted m.name.from e.characters) md) rest ho hl v
  members_in_array bytes old new r j _ xs x m row l2 b first is adds d base w fo l ls e es part ho k hl ek named = absurd b

  behind_comma : (base : ℕ) (w : List ℕ) (row : MemberRow X) (ps : List (Piece Tree)) (q : AreMembers IsKept base w row ps) → ps ≡ mark (comma row.comma) ∷ marks (marks_behind_comma q.first (member_marks q.others))
  behind_comma base w row ps q = q.split ∙ ap (λ n. mark (comma n) ∷ marks (marks_behind_comma q.first (member_marks q.others))) (sym q.comma_is)

  -- a level that takes no comma
  pub members_refused : (bytes : List ℕ) (old new : Shown X) (r : Option CodeHalt) (outer : List (CodePiece X)) (hs : List (Held X)) (h : Held X) (row : MemberRow X) → old.levels ≡ h ∷ hs → old.outer ≡ outer → comma_next h ≡ None → (new, r) ≡ put_back outer hs row.comma h None → PushesMembers IsKept bytes old new r row
  members_refused bytes old new r outer hs h row e e2 c d base w f ps part k q = subst (λ z. IsPushedAs IsKept base w new r (push_all free z f)) (sym (behind_comma base w row ps q))
      (comma_refused IsKept base w old new r outer hs h row.comma f (marks (marks_behind_comma q.first (member_marks q.others))) e e2 c d k)

  -- a level that has the comma behind it
  pub members_put : (bytes : List ℕ) (old old2 new : Shown X) (r : Option CodeHalt) (h h2 : Held X) (row : MemberRow X) → old.levels ≡ h ∷ old2.levels → old2.outer ≡ old.outer → comma_next h ≡ Some h2 → PutsMembers IsKept bytes old2 new r h2 row → PushesMembers IsKept bytes old new r row
  members_put bytes old old2 new r h h2 row e e2 c puts base w f ps part k q = subst (λ z. IsPushedAs IsKept base w new r (push_all free z f)) (sym (behind_comma base w row ps q))
      (comma_put IsKept base w old new r old2.outer old2.levels h h2 row.comma f (marks (marks_behind_comma q.first (member_marks q.others))) e (sym e2) c k (λ fo l ls ho u v. puts base w fo l ls q.first q.others part ho u v q.colon_is q.items))

  -- ---- names in all bytes

  pub each_has_name : (bytes : List ℕ) (r : MemberRow X) → HasMembers IsKept bytes r → All (HasName bytes) r.items.items
  each_has_name bytes r (base, w, e, es, part, named) = each r.items.items (e ∷ es) named
    where
      each : (ms : List (NamedValue X)) (es : List MemberMarks) → EachNamed IsKept base w ms es → All (HasName bytes) ms
      each [] [] h = All-nil (HasName bytes)
      each (m ∷ ms) (e ∷ es) h = All-cons (HasName bytes) m ms (base, w, e.characters, part, h.1) (each ms es h.3)
      each _ _ h = absurd h

  pub gains_member : (bytes : List ℕ) (ms all all2 : List (Member X)) (more : List (NamedValue X)) (m : NamedValue X) (n : Member X) → GainsMembers IsKept bytes ms more all → NamesMember bytes m n → all2 ≡ all ++ n ∷ [] → GainsMembers IsKept bytes ms (more ++ m ∷ []) all2
  gains_member bytes ms all all2 more m n gains (at, same, name) e base w ps es part h k = let c = named_cut IsKept base w more m es k in
      let p : List Character × ℕ × Tree = (c.1.characters, c.1.name_at, tree_of c.1.value) in
      subst (λ z. EachMember IsKept z (ps ++ member_pairs es)) (sym e)
      (subst (EachMember IsKept (all ++ n ∷ [])) (append_assoc ps (member_pairs c.0) (p ∷ []) ∙ ap (λ z. ps ++ z) (sym (ap member_pairs c.2.0 ∙ pairs_more c.0 (c.1 ∷ []))))
      (each_member_append IsKept all (ps ++ member_pairs c.0) n p (gains base w ps c.0 part h c.2.1) (name base w c.1.characters part c.2.2.1) (at ∙ c.2.2.0) (subst (λ z. IsKept z (one (tree_of c.1.value))) (sym same) c.2.2.2)))

  -- what stands before the member that waits for its value
  pub without_awaited : (outer new : List (CodePiece X)) (m : Awaited) (n : ℕ) → Awaits outer m → n ≡ length outer - 3 → new ≡ take n outer → (y : X) × (outer ≡ new ++ (Comma m.comma ∷ (Text m.name y ∷ (Colon m.colon ∷ []))))
  without_awaited outer new m n (front, y, e) i f =
      let three : List (CodePiece X) = Comma m.comma ∷ (Text m.name y ∷ (Colon m.colon ∷ [])) in
      let size : length outer ≡ length front + 3 = ap (λ z. length z) e ∙ length-append front three in
      let here : n ≡ length front = omega (arith, i, size) in
      (y, e ∙ ap (λ z. z ++ three) (sym (f ∙ (ap (λ k. take k outer) here ∙ (ap (take (length front)) e ∙ take-append_seam front three)))))

  pub first_name : (bytes : List ℕ) (r : MemberRow X) (m : NamedValue X) → m ≡ get_or r.items.items 0 m → HasMembers IsKept bytes r → HasName bytes m
  first_name bytes r m i (base, w, e, es, part, named) = (base, w, e.characters, part, (first_named base w r.items.items e es m i named).1)

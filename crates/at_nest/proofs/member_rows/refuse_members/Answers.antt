-- The first name is a string.
use Rattle.std.proofs.Common.{None, inl, refl, subst}
use Rattle.std.proofs.lemmas.Result.{IfOk-weaker}
use Rattle.at_nest.specs.declared.levels.Level.TheVariants.{Array}
use Rattle.at_nest.specs.declared.levels.Step.{Step}
use Rattle.at_nest.specs.Tree.{text}
use Rattle.at_nest.specs.Shown.{shown, held_of}
use Rattle.at_nest.specs.KeptItems.{IsAtomOf, OwnAtom, AddsTo}
use Rattle.at_nest.proofs.Showing.{text_bytes}
use Rattle.at_nest.proofs.MemberRows.{first_name, members_in_array}
use Rattle.at_nest.proofs.member_rows.refuse_members.Goals as goal

pub scalar-requires-clause-whole : goal.scalar-requires-clause-whole
scalar-requires-clause-whole g c =
    let (base, w, cs, part, at) = first_name (IsAtomOf g.A.Algebra c.args.source.now.algebra.now) c.args.source.now.bytes.now c.args.row c.index.result.now c.index.ensures c.requires.row in
    inl (cs, at.0, text_bytes c.args.source.now.bytes.now base w c.index.result.now.name cs part at)

pub returns-in-On : goal.returns-in-On
returns-in-On g c = let own = g.A.Algebra.is_own c.args.source.now.algebra.now in let fold = g.A.Algebra.is_fold c.args.source.now.algebra.now in let run = g.A.Algebra.is_run c.args.source.now.algebra.now in
    let name = c.index.result.now.name in
    IfOk-weaker c.put.result _ _
    (λ r d. members_in_array (OwnAtom own fold run) c.args.source.now.bytes.now (shown c.args.body.now) (shown c.put.new.self) r c.args.level.from c.args.level.state c.args.level.items.items c.in_ok-atom.atom c.index.result.now c.args.row c.in-On.level c.requires.comma c.index.ensures
    (λ base w cs part at. (c.in_ok-atom.ensures.own, c.in_ok-atom.ensures.fold (text name.from cs) (refl, (at.0, text_bytes c.args.source.now.bytes.now base w name cs part at))))
    (subst (λ (z : Step g.row.A-Atom.Denot). AddsTo (OwnAtom own fold run) (held_of (Array c.args.level)) c.in_ok-atom.atom z) c.in-On.is c.in_ok-level.ensures) (d (held_of c.in-On.level) None refl))
    c.put.ensures

-- The name that is expected is none of the object's own, and is put to them.
use Rattle.std.proofs.Common.{◌+◌, refl, sym, ◌∙◌}
use Rattle.std.proofs.lemmas.Bool.{true≢false}
use Rattle.at_scan.proofs.OtherNamesMore.{expected_new, expected_adds}
use Rattle.at_scan.proofs.members.next_name.Goals as goal

pub returns-in-Some-clause-next : goal.returns-in-Some-clause-next
returns-in-Some-clause-next c =
    let w = c.args.text.now in let old = c.args.others.now in let n = c.in-Some.name.place in let next = c.in-Some.ensures.next in
    record {
      other = λ _. (
        expected_new w old n c.requires.names next,
        expected_adds w old (record { count = old.count + 1; placed = old.placed; near = old.near; far = old.far; marks = old.marks }) n next refl refl (λ h. record { few = h.few; full = h.full; marked = h.marked }),
      );
      field = λ no. absurd (true≢false (sym c.in-Some.ensures.other ∙ no));
    }

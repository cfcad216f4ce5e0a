use Rattle.std.proofs.Common.{All, subst, sym, ap}
use Rattle.std.proofs.Common.{◌+◌}
use Rattle.at_scan.specs.Members.{IsMarked, known_in}
use Rattle.at_scan.proofs.Marks.{still_marked, marked_more}
use Rattle.at_scan.proofs.members.OtherNames.push.Goals as goal

pub returns : goal.returns
returns c =
    let old = c.args.self.now in let n = c.args.name in let kept = c.in_ok-keep.ensures in let marks = c.mark.new.marks in
    let before : All (IsMarked marks) (known_in old) = still_marked old.marks marks (known_in old) c.requires.placed.marked (λ m had. c.mark.ensures.keeps m (subst (λ ms. IsMarked ms m) (sym kept.marks) had)) in
    record {
      count = ap (λ k. k + 1) kept.count;
      known = kept.known;
      placed = record {
        few = kept.few;
        full = kept.full;
        marked = subst (All (IsMarked marks)) (sym kept.known) (marked_more marks (known_in old) n before c.mark.ensures.name);
      };
    }

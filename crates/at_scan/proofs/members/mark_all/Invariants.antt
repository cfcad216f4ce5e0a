use Rattle.std.proofs.Common.{◌≡◌, All, length, take}
use Rattle.at_scan.specs.declared.members.OtherName.{OtherName}
use Rattle.at_scan.specs.Members.{IsMarked}
use Rattle.at_scan.proofs.members.mark_all.Given as goal

abbrev pub invariant-loop-name : goal.invariant-loop-name
invariant-loop-name l = (length l.marks ≡ 64) × All (IsMarked l.marks) (take l.name-index l.names) × ((n : OtherName) → IsMarked l.fn.marks n → IsMarked l.marks n)

use Rattle.std.proofs.Common.{All, take, sym, subst, ◌∙◌}
use Rattle.std.proofs.lemmas.Bool.{true≢false}
use Rattle.at_scan.specs.Members.{IsOtherName, known_in}
use Rattle.at_scan.proofs.Marks.{unmarked_unknown}
use Rattle.at_scan.proofs.OtherNamesMore.{all_front, all_behind}
use Rattle.at_scan.proofs.members.OtherNames.knows.Goals as goal

pub is_among-requires-clause-names : goal.is_among-requires-clause-names
is_among-requires-clause-names c = all_front (IsOtherName c.args.text.now) (take c.args.self.now.placed c.args.self.now.near) c.args.self.now.far.items c.requires.names

pub is_among-requires-else-is_among-clause-names : goal.is_among-requires-else-is_among-clause-names
is_among-requires-else-is_among-clause-names c = subst (All (IsOtherName c.args.text.now)) (sym c.as_slice.ensures.value) (all_behind (IsOtherName c.args.text.now) (take c.args.self.now.placed c.args.self.now.near) c.args.self.now.far.items c.requires.names)

pub returns-else-is_marked : goal.returns-else-is_marked
returns-else-is_marked c = c.if-is_marked.false ∙ sym (unmarked_unknown c.args.text.now c.args.self.now.marks c.args.name c.requires.name (known_in c.args.self.now) c.requires.names c.requires.placed.marked (λ is. absurd (true≢false (sym (c.is_marked.ensures.1 is) ∙ c.if-is_marked.false))))

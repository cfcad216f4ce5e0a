-- The last item is the one that is taken.
use Rattle.std.proofs.Common.{sym, ◌∙◌, ap}
use Rattle.at_nest.specs.NextItems.{only_of}
use Rattle.at_nest.proofs.NextItems.{only_last}
use Rattle.at_nest.proofs.finishing.only_atom.Goals as goal

pub returns : goal.returns
returns g c = c.atom_of.ensures ∙ (sym (only_last c.pop.new.self.items c.in-Some.piece) ∙ ap only_of (sym c.in-Some.ensures.items))

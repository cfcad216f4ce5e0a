-- A left span that is all lead, or that stops, takes no item from the right one.
use Rattle.at_nest.proofs.UnionsHeld.{union_lead, union_stop}
use Rattle.at_nest.proofs.variants.join_variants.Goals as goal

pub returns-in-AllLead : goal.returns-in-AllLead
returns-in-AllLead g c = λ s at w x h. union_lead _ c.args.source.now.bytes.now s at w x c.args.left c.args.right _ c.in-AllLead.is h

pub returns-in-Broken : goal.returns-in-Broken
returns-in-Broken g c = λ s at w x h. union_stop _ c.args.source.now.bytes.now s at w x c.args.left c.args.right _ _ _ c.in-Broken.is h

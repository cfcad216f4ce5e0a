use Rattle.std.proofs.Common.{rules}
use Rattle.at_run.specs.Readers.{StandsInForm}
use Rattle.at_task.proofs.MoreBytes.{read_more}
use Rattle.at_task.proofs.intake.Intake.take.Goals as goal

pub invariant_of-self : goal.invariant_of-self
invariant_of-self c = (read_more (StandsInForm c.self.inside.reader) c.self.inside.bytes.items c.args.chunk.now c.extend_from_slice.new.self.items c.self.inside.read c.self.inside.ranks.items (search rules) c.self.invariant.0, tt)

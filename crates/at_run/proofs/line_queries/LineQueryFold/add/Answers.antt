use Rattle.std.proofs.Common.{◌∷◌, [], take}
use Rattle.at_query.specs.GatheredParts.{counted_of}
use Rattle.at_run.proofs.LineParts.{joins_own, joins_lines}
use Rattle.at_run.proofs.line_queries.LineQueryFold.add.Goals as goal

pub returns-in_ok-fault-clause-own : goal.returns-in_ok-fault-clause-own
returns-in_ok-fault-clause-own c =
    joins_own c.args.part.now (counted_of c.in_ok-fault.fault) c.count_line.new.gathered c.count_line.ensures c.args.self.now c.requires.own (c.in_ok-fault.ensures (c.counts_all.ensures c.if-counts_all.true)).0

pub returns-in_ok-fault-clause-fold : goal.returns-in_ok-fault-clause-fold
returns-in_ok-fault-clause-fold c lines before =
    joins_lines c.args.part.now (counted_of c.in_ok-fault.fault) c.count_line.new.gathered c.count_line.ensures c.args.self.now lines (record { at = c.args.at; text = take c.args.len c.args.ahead.now } ∷ []) before
    (c.in_ok-fault.ensures (c.counts_all.ensures c.if-counts_all.true)).1

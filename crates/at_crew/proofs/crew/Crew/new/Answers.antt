use Rattle.std.proofs.Common.{◌≡◌, ◌∙◌, ℕ, ◌+◌, replicate, length, None, ap, subst, arith}
use Rattle.std.proofs.lemmas.List.{length-replicate}
use Rattle.atomic_table.specs.Table.{opening}
use Rattle.at_crew.specs.declared.view.View.TheVariants.{Leads}
use Rattle.at_crew.specs.Views.{leader}
use Rattle.at_crew.specs.Rule.{CrewRule}
use Rattle.std.proofs.lemmas.Nat.{pow_pos}
use Rattle.at_crew.proofs.Powers.{power_of}
use Rattle.at_crew.proofs.Opens.{opens}
use Rattle.at_crew.proofs.crew.Crew.new.Goals as goal

pub zeros-words-requires : goal.zeros-words-requires
zeros-words-requires g c = let d = power_of c.args.blocks c.requires.size in omega (arith, d.2)

pub vacant-requires : goal.vacant-requires
vacant-requires g c = let e = c.requires.count in let p = power_of c.args.blocks c.requires.size in
    subst (λ (k : ℕ). CrewRule {P = g.row.J-Part.Denot} g.J.Job.stands (g.J.Job.facts c.args.job.now) k (opening c.zeros-words.result.now (replicate c.args.blocks None) (Leads (leader (g.J.Job.facts c.args.job.now))))) e
    (opens g.J.Job.stands (g.J.Job.facts c.args.job.now) c.args.blocks (p.0, p.1) p.2 c.zeros-words.result.now c.zeros-words.ensures)

pub invariant_of-result : goal.invariant_of-result
invariant_of-result g c = let d = power_of c.args.blocks c.requires.size in let p = pow_pos d.0 in let e = c.in-Ok.ensures in let z : length c.zeros-words.result.now ≡ c.args.blocks + 1 = ap length c.zeros-words.ensures ∙ length-replicate (c.args.blocks + 1) 0 in
    record { sized = (e.1, omega (arith, e, z), omega (arith, p, d.1), d.2); power = c.requires.size }

use Rattle.std.proofs.Common.{◌≡◌, ◌-◌, ◌∙◌, ap, arith}
use Rattle.at_crew.specs.Seats.{slots_of}
use Rattle.at_crew.specs.Views.{is_chief, made, back}
use Rattle.at_crew.proofs.Hires.{gathers_kept, gathers_counts}
use Rattle.at_crew.proofs.chief.Chief.take_back.Goals as goal

pub join_seat-requires : goal.join_seat-requires
join_seat-requires g c = let t = c.args.crew.now.table.shared in let me = c.args.self.now in let p = c.args.pass in let z = c.args.crew.now.sized in (
  c.requires.one_crew.0.0,
  c.requires.one_crew.1.0,
  p.sits.5 ∙ ap slots_of (p.ended c.requires.over),
  omega (arith, z),
  gathers_kept g.J.Job.stands (g.J.Job.facts t.key) (g.J.Job.count (g.J.Job.facts t.key)) me.seat.id me.seat.me.0 p.seat.id p.seat.me.0 me.sits.0.0 p.sits.0 (p.sits.3 ∙ c.requires.over),
)

pub invariant_of-self : goal.invariant_of-self
invariant_of-self g c = let me = c.args.self.now in let e = c.join_seat.ensures.2 in let r = gathers_counts me.seat.me.0 c.args.pass.seat.me.0 me.sits.0.0 in
    let m = ap (λ x. made x.0) e ∙ r.1 in let b = ap (λ x. back x.0) e ∙ r.2 in let i = me.sits in let a : c.saturating_sub-self.result ≡ me.away - 1 = c.saturating_sub-self.ensures in
    record { sits = ((ap (λ x. is_chief x.0) e ∙ r.0, omega (arith, m, i), omega (arith, m, b, i, a), ap (λ x. x.1) e ∙ i.0.3), i.1, i.2) }

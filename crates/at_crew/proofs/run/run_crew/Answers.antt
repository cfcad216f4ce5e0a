use Rattle.std.proofs.Common.{◌≡◌, ◌∙◌, All, length, sym, ap, subst, arith}
use Rattle.std.proofs.lemmas.List.Elements.{All-push}
use Rattle.std.specs.Option.{option_to_list}
use Rattle.at_crew.specs.Shown.{IsReady, IsDone}
use Rattle.at_crew.proofs.Rows.{all_popped, all_written}
use Rattle.at_crew.proofs.run.run_crew.Goals as goal

pub loop-preserved : goal.loop-preserved
loop-preserved g c = let i = c.loop.invariant in let e = c.pass.ensures in let p = c.push_reserved.ensures in let len = p.len in let cap = p.capacity in record {
  one_crew = e.one_crew.0;
  allowed = e.allowed ∙ i.allowed;
  made = (let m = e.made in omega (arith, m, i.made));
  away = (let a = e.away in omega (arith, a, i.away));
  row = omega (arith, len, i.row);
  room = omega (arith, cap, i.room);
  ready = subst (All (IsReady c.in_ok-crew.crew)) (sym p.items) (All-push (IsReady c.in_ok-crew.crew) c.loop.row.items c.pass.result i.ready (e.one_crew.1, e.ready.0, e.ready.1));
}

pub loop-pass-init : goal.loop-pass-init
loop-pass-init g c = let i = c.loop.invariant in let a = c.loop-test.false in let b = c.loop.auto.counter-end in record {
  one_crew = i.one_crew;
  made = omega (arith, a, b, i.made);
  away = i.away ∙ sym i.row;
  over = all_written (IsDone c.in_ok-crew.crew) c.work_all.new.row c.loop.row.items c.loop.row.len (sym (c.work_all.auto.row ∙ c.as_mut_slice.ensures.len)) c.work_all.ensures;
}

pub take_back-requires-clause-one_crew : goal.take_back-requires-clause-one_crew
take_back-requires-clause-one_crew g c κs within = let i = c.loop-pass.invariant in
    (i.one_crew, (all_popped (IsDone c.in_ok-crew.crew) c.loop-pass.row.items c.pop.new.self.items c.pop.result c.in-Some.pass c.pop.ensures.items c.in-Some.is i.over).1.0)

pub take_back-requires-clause-over : goal.take_back-requires-clause-over
take_back-requires-clause-over g c κs within = let i = c.loop-pass.invariant in
    (all_popped (IsDone c.in_ok-crew.crew) c.loop-pass.row.items c.pop.new.self.items c.pop.result c.in-Some.pass c.pop.ensures.items c.in-Some.is i.over).1.1

pub loop-pass-preserved : goal.loop-pass-preserved
loop-pass-preserved g c = let i = c.loop-pass.invariant in let e = c.take_back.ensures in let n = c.pop.ensures.len in let one : length (option_to_list c.pop.result) ≡ 1 = ap (λ o. length (option_to_list o)) c.in-Some.is in record {
  one_crew = e.one_crew;
  made = e.made ∙ i.made;
  away = (let away = e.away in omega (arith, away, n, one, i.away));
  over = (all_popped (IsDone c.in_ok-crew.crew) c.loop-pass.row.items c.pop.new.self.items c.pop.result c.in-Some.pass c.pop.ensures.items c.in-Some.is i.over).0;
}

use Rattle.std.proofs.Common.{◌+◌, ◌∙◌, length}
use Rattle.std.specs.Prelude.{slice_index}
use Rattle.std.proofs.lemmas.List.{length_push}
use Rattle.std.proofs.lemmas.Iterator.Adapters.{YieldsList-from_vec}
use Rattle.std.proofs.lemmas.Iterator.Consumers.{YieldsList-turn, YieldsList-end}
use Rattle.at_blocks.specs.Places.{first_place}
use Rattle.bench_blocks.proofs.BlockOrder.{next_beside, all_merged}
use Rattle.bench_blocks.proofs.blocks.merge_all.Goals as goal

pub merge_pieces-whole-requires-clause-neighbours : goal.merge_pieces-whole-requires-clause-neighbours
merge_pieces-whole-requires-clause-neighbours g c =
    let given = c.into_iter-fragment-iterator.ensures.into_iter_gives in
    let road = YieldsList-from_vec {s = c.into_iter-fragment-iterator.result} c.args.fragments.items given.0 (given.1 ∙ c.args.fragments.ok.0) in
    let turn = YieldsList-turn road c.loop-fragment.yielded c.loop-fragment.fragment-iterator c.loop-fragment.yielded_by _ c.next.new.self c.in-Some.fragment c.in-Some.is c.next.ensures.steps in (
      first_place c.args.places.now,
      slice_index c.args.places.now (length c.loop-fragment.yielded),
      slice_index c.args.places.now (length c.loop-fragment.yielded + 1),
      next_beside (g.P.Pieces.stands c.args.reader.now) c.args.bytes.now c.args.places.now c.args.fragments.items c.requires.blocks (length c.loop-fragment.yielded) c.loop-fragment.whole c.in-Some.fragment c.requires.order c.requires.within c.loop-fragment.invariant turn,
    )

pub loop-fragment-preserved : goal.loop-fragment-preserved
loop-fragment-preserved g c =
    let given = c.into_iter-fragment-iterator.ensures.into_iter_gives in
    let road = YieldsList-from_vec {s = c.into_iter-fragment-iterator.result} c.args.fragments.items given.0 (given.1 ∙ c.args.fragments.ok.0) in
    let turn = YieldsList-turn road c.loop-fragment.yielded c.loop-fragment.fragment-iterator c.loop-fragment.yielded_by _ c.next.new.self c.in-Some.fragment c.in-Some.is c.next.ensures.steps in
    rw (length_push c.loop-fragment.yielded c.in-Some.fragment) (c.merge_pieces-whole.ensures _ _ _ (next_beside (g.P.Pieces.stands c.args.reader.now) c.args.bytes.now c.args.places.now c.args.fragments.items c.requires.blocks (length c.loop-fragment.yielded) c.loop-fragment.whole c.in-Some.fragment c.requires.order c.requires.within c.loop-fragment.invariant turn))

pub returns : goal.returns
returns g c =
    let given = c.into_iter-fragment-iterator.ensures.into_iter_gives in
    let road = YieldsList-from_vec {s = c.into_iter-fragment-iterator.result} c.args.fragments.items given.0 (given.1 ∙ c.args.fragments.ok.0) in
    let end = YieldsList-end road c.loop-fragment.yielded c.loop-fragment.fragment-iterator c.loop-fragment.yielded_by _ c.next.new.self c.in-None.is c.next.ensures.steps in
    all_merged (g.P.Pieces.stands c.args.reader.now) c.args.bytes.now c.args.places.now c.args.fragments.items c.requires.blocks (length c.loop-fragment.yielded) c.loop-fragment.whole end.1 c.loop-fragment.invariant

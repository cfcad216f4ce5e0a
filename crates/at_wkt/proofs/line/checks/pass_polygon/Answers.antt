use Rattle.std.proofs.Common.{[], ◌+◌, ◌∙◌, Ok, ap, ap₂, arith, flat_map}
use Rattle.std.proofs.lemmas.Bool.{not-false, not-true}
use Rattle.at_wkt.proofs.Names.{first_fault, faults_of_area, faults_of_ring, SpellsArea, SpellsRing, none_kept}
use Rattle.at_wkt.proofs.PathAnswers.{so_far_start, so_far_more}
use Rattle.at_wkt.proofs.PartAnswers.{items_stand, bracketed_stands}
use Rattle.at_wkt.proofs.CheckAnswers.{part_passed}
use Rattle.at_wkt.proofs.line.checks.pass_polygon.Goals as goal

pub rings-init : goal.rings-init
rings-init c = (ap (λ z. z.fault) c.first_item-last.ensures, so_far_start SpellsRing _ none_kept [] c.args.source.now.rules.base c.args.source.now.text.now (c.args.from.at + 1) c.args.from.dimension c.first_item-last.result c.first_item-last.ensures (omega (arith, c.requires.inside)) c.requires.count)

pub rings-preserved : goal.rings-preserved
rings-preserved c =
    let (fault, so_far) = c.rings.invariant in let (none, ring) = c.in_ok-ring.ensures in
    (ap (λ z. z.fault) c.next_item-last.ensures ∙ ap₂ first_fault fault none, so_far_more SpellsRing _ none_kept [] c.args.source.now.rules.base c.args.source.now.text.now (c.args.from.at + 1) c.args.from.dimension c.rings.last c.in_ok-ring.ring c.next_item-last.result [] [] so_far (not-true c.rings.last.is_last c.rings-test.true) ring c.next_item-last.ensures)

pub returns : goal.returns
returns c =
    let rules = c.args.source.now.rules in let (fault, so_far) = c.rings.invariant in
    let faults = faults_of_ring rules.digits rules.how in
    let rings = items_stand SpellsRing faults none_kept [] [] c.args.source.now.rules.base c.args.source.now.text.now (c.args.from.at + 1) c.args.from.dimension c.rings.last c.items_read.result so_far (not-false c.rings.last.is_last c.rings-test.false) c.items_read.ensures in
    let part = bracketed_stands SpellsRing (faults_of_area rules.digits rules.how) (flat_map none_kept) rules.base c.args.source.now.text.now c.args.from.at c.args.from.dimension [] [] c.requires.inside c.requires.opener (Ok c.items_read.result) rings in
    (ap (λ z. z.fault) c.items_read.ensures ∙ fault, part_passed SpellsArea (faults_of_area rules.digits rules.how) rules.base c.args.source.now.text.now c.args.from.at c.args.from.dimension c.items_read.result part)

use Rattle.std.proofs.Common.{codes, sym, subst}
use Rattle.at_query.specs.Readers.{Stops, Breaks, VerbPart, Tests, QueryCovers}
use Rattle.at_query.proofs.Parted.{first_stops, stops_break, then_breaks}
use Rattle.at_query.proofs.TestLists.{tests_lives}
use Rattle.at_query.proofs.QueryParts.{whole_covers}
use Rattle.at_text.proofs.Exits.{exits}
use Rattle.at_query.proofs.query.reading.read_whole.Goals as goal

pub returns-in_err-front : goal.returns-in_err-front
returns-in_err-front c =
    exits c.from_residual.result c.in_err-front.field-0.0 _ (Stops VerbPart c.args.text.now 0) _ c.from_residual.ensures.1
    (λ n h. stops_break (first_stops (tests_lives c.args.rules.digits c.args.rules.how (codes " where ")) h)) c.in_err-front.ensures

pub returns-in_err-fault : goal.returns-in_err-fault
returns-in_err-fault c =
    let front = c.in_ok-front.front in
    exits c.from_residual-in_err-fault.result c.in_err-fault.field-0.0 _ (Breaks (Tests c.args.rules.digits c.args.rules.how (codes " where ")) c.args.text.now front.end) _ c.from_residual-in_err-fault.ensures.1
    (λ n h. then_breaks c.in_ok-front.ensures h) c.in_err-fault.ensures

pub returns : goal.returns
returns c =
    let front = c.in_ok-front.front in
    subst (λ z. QueryCovers c.args.rules.digits c.args.rules.how c.args.text.now front.verb z c.in_ok-fault.fault) (sym c.from_vec.ensures)
    (whole_covers c.args.rules.digits c.args.rules.how c.args.text.now front.end front.verb c.in_ok-front.ensures c.read_tests.new.items.items c.in_ok-fault.fault c.in_ok-fault.ensures)

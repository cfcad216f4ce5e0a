-- A number behind a comma and white space.
use Rattle.std.proofs.lemmas.Bool.{not-false}
use Rattle.at_scan.proofs.Taken.{number_taken}
use Rattle.at_scan.proofs.numbers.further_number.Goals as goal

pub returns : goal.returns
returns c =
    let t = number_taken c.args.text.now c.skip_spaces-first.result c.json_number-taken.result c.skip_spaces-first.ensures.within c.json_number-taken.ensures (not-false c.json_number-taken.result.whole c.if-not-taken.false) in
    record {
      inside = c.requires.inside;
      comma = c.requires.comma;
      first = c.skip_spaces-first.result;
      last = _;
      before = c.skip_spaces-first.ensures.order;
      spaces = c.skip_spaces-first.ensures.spaces;
      order = t.order;
      behind = c.skip_spaces.ensures.order;
      more_spaces = c.skip_spaces.ensures.spaces;
      within = c.skip_spaces.ensures.within;
      number = t.word;
    }

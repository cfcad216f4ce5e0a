use Rattle.at_scan.proofs.places.ended_name.Goals as goal

pub returns-then-stands-2-clause-place : goal.returns-then-stands-2-clause-place
returns-then-stands-2-clause-place c = record {
  before = c.requires.order;
  spaces = c.requires.spaces;
  text = c.requires.text;
  behind = c.skip_spaces-colon.ensures.order;
  more_spaces = c.skip_spaces-colon.ensures.spaces;
  inside = c.stands-2.ensures.inside c.if-stands-2.true;
  byte = c.stands-2.ensures.byte c.if-stands-2.true;
}

use Rattle.std.proofs.Common.{sym, ◌∙◌}
use Rattle.at_query.specs.declared.query.queries.Verb.TheVariants.{Select, Count, Area, Extent, Hull, Join}
use Rattle.at_query.proofs.QueryParts.{word_read, no_verb}
use Rattle.at_query.proofs.query.reading.read_verb.Goals as goal

pub returns-then-stands : goal.returns-then-stands
returns-then-stands c = word_read Select c.args.text.now c.read_word.result (sym c.stands.ensures ∙ c.if-stands.true) c.read_word.ensures

pub returns-then-stands-2 : goal.returns-then-stands-2
returns-then-stands-2 c = word_read Count c.args.text.now c.read_word-then-stands-2.result (sym c.stands-2.ensures ∙ c.if-stands-2.true) c.read_word-then-stands-2.ensures

pub returns-then-stands-3 : goal.returns-then-stands-3
returns-then-stands-3 c = word_read Area c.args.text.now c.read_word-then-stands-3.result (sym c.stands-3.ensures ∙ c.if-stands-3.true) c.read_word-then-stands-3.ensures

pub returns-then-stands-4 : goal.returns-then-stands-4
returns-then-stands-4 c = word_read Extent c.args.text.now c.read_word-then-stands-4.result (sym c.stands-4.ensures ∙ c.if-stands-4.true) c.read_word-then-stands-4.ensures

pub returns-then-stands-5 : goal.returns-then-stands-5
returns-then-stands-5 c = word_read Hull c.args.text.now c.read_word-then-stands-5.result (sym c.stands-5.ensures ∙ c.if-stands-5.true) c.read_word-then-stands-5.ensures

pub returns-then-stands-6 : goal.returns-then-stands-6
returns-then-stands-6 c = word_read Join c.args.text.now c.read_word-then-stands-6.result (sym c.stands-6.ensures ∙ c.if-stands-6.true) c.read_word-then-stands-6.ensures

pub returns : goal.returns
returns c = no_verb c.args.text.now (sym c.stands.ensures ∙ c.if-stands.false) (sym c.stands-2.ensures ∙ c.if-stands-2.false) (sym c.stands-3.ensures ∙ c.if-stands-3.false) (sym c.stands-4.ensures ∙ c.if-stands-4.false) (sym c.stands-5.ensures ∙ c.if-stands-5.false) (sym c.stands-6.ensures ∙ c.if-stands-6.false)

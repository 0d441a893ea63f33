use Rattle.tm_flat_exprs.proofs.Versions.{next_chosen}
use Rattle.tm_flat_exprs.proofs.memory.step_terms.next_term.Goals as goal

pub chosen-requires-clause-width : goal.chosen-requires-clause-width
chosen-requires-clause-width c = record {
  width = c.args.width;
  first = c.term_at-first.ensures.width c.args.terms.now c.args.width c.requires.zero.term c.requires.ids;
  second = c.term_at-second.ensures.width c.args.terms.now c.args.width c.requires.zero.term c.requires.ids;
}

pub returns-in_ok-id-in-Choice : goal.returns-in_ok-id-in-Choice
returns-in_ok-id-in-Choice c =
    next_chosen c.args.terms.now c.chosen.new.terms c.args.cell c.args.width c.args.ids.now c.args.last c.args.zero
    c.in-Choice.guard c.term_at-first.result c.term_at-second.result c.in_ok-id-in-Choice.id c.in-Choice.a
    c.in-Choice.b c.args.version c.in-Choice.is c.requires.zero c.term_at-first.ensures.value
    c.term_at-second.ensures.value
    (c.term_at-first.ensures.width c.args.terms.now c.args.width c.requires.zero.term c.requires.ids)
    c.in_ok-id-in-Choice.ensures

use Rattle.tm_solve_exact.proofs.Growing.{kept_exact}
use Rattle.tm_strat.proofs.Carrying.{grown, sized_stays}
use Rattle.tm_strat.proofs.Testing.{sets_kept}
use Rattle.tm_strat.proofs.tables.push_first.Goals as goal
use Rattle.tm_syntax.specs.Design.View.{design_tree}

pub push_read-pushed-requires : goal.push_read-pushed-requires
push_read-pushed-requires c =
    let d = design_tree c.args.design.now in
    let to = grown c.args.game.now c.all_care.new.game c.all_care.ensures in
    record {
      exact = kept_exact d c.args.game.now c.requires.exact c.all_care.new.game to;
      sized = sized_stays c.args.game.now c.all_care.new.game c.all_care.ensures c.requires.sized;
      counts = c.requires.counts;
      sets = sets_kept d c.args.game.now c.all_care.new.game c.requires.exact to c.args.counts
          c.args.tests.now.predicates.items c.args.tests.now.holds.items c.requires.sets;
    }

pub push_read-pushed-requires-2 : goal.push_read-pushed-requires-2
push_read-pushed-requires-2 c =
    let d = design_tree c.args.design.now in
    let to = grown c.args.game.now c.push_read-pushed.new.game
    (λ base b. c.push_read-pushed.ensures.grows base (c.all_care.ensures base b)) in
    record {
      exact = kept_exact d c.args.game.now c.requires.exact c.push_read-pushed.new.game to;
      sized = sized_stays c.args.game.now c.push_read-pushed.new.game
          (λ base b. c.push_read-pushed.ensures.grows base (c.all_care.ensures base b)) c.requires.sized;
      counts = c.requires.counts;
      sets = c.in-Ok-pushed.ensures.sets;
    }

pub returns-clause-sets : goal.returns-clause-sets
returns-clause-sets c = c.in-Ok-pushed-2.ensures.sets

pub returns-clause-few : goal.returns-clause-few
returns-clause-few c = λ small. c.in-Ok-pushed-2.ensures.few (c.in-Ok-pushed.ensures.few small)

pub returns-clause-grows : goal.returns-clause-grows
returns-clause-grows c =
    λ base b.
    c.push_read-pushed-2.ensures.grows base (c.push_read-pushed.ensures.grows base (c.all_care.ensures base b))

pub returns-in-Err-pushed-clause-grows : goal.returns-in-Err-pushed-clause-grows
returns-in-Err-pushed-clause-grows c = λ base b. c.push_read-pushed.ensures.grows base (c.all_care.ensures base b)

pub returns-in-Err-low_predicates-clause-grows : goal.returns-in-Err-low_predicates-clause-grows
returns-in-Err-low_predicates-clause-grows c =
    λ base b. c.push_read-pushed.ensures.grows base (c.all_care.ensures base b)

pub returns-in-Err-pushed-2-clause-grows : goal.returns-in-Err-pushed-2-clause-grows
returns-in-Err-pushed-2-clause-grows c =
    λ base b.
    c.push_read-pushed-2.ensures.grows base (c.push_read-pushed.ensures.grows base (c.all_care.ensures base b))

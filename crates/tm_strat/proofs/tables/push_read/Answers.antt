use Rattle.std.proofs.Common.{refl}
use Rattle.tm_game.proofs.Growing.{grows_none}
use Rattle.tm_solve_exact.proofs.Growing.{kept_exact}
use Rattle.tm_strat.proofs.Carrying.{grown}
use Rattle.tm_strat.proofs.Testing.{sets_kept, tests_read}
use Rattle.tm_strat.proofs.tables.push_read.Goals as goal
use Rattle.tm_syntax.specs.Design.View.{design_tree}

pub read_tests-requires-clause-of : goal.read_tests-requires-clause-of
read_tests-requires-clause-of c = c.requires.exact.ordered.of

pub read_tests-requires-clause-sized : goal.read_tests-requires-clause-sized
read_tests-requires-clause-sized c = c.requires.sized

pub read_tests-requires-clause-counts : goal.read_tests-requires-clause-counts
read_tests-requires-clause-counts c = c.requires.counts

pub returns-clause-sets : goal.returns-clause-sets
returns-clause-sets c =
    let d = design_tree c.args.design.now in
    let to = grown c.args.game.now c.read_tests.new.game c.read_tests.ensures.grows in
    c.in_ok-push_telling.ensures.sets d c.args.counts
    (kept_exact d c.args.game.now c.requires.exact c.read_tests.new.game to)
    (tests_read d c.read_tests.new.game c.read_tests.new.game (grows_none c.read_tests.new.game) c.args.counts
    c.args.all.now c.args.all.now c.in_ok-holds.holds.items c.deref.result.now refl c.deref.ensures.value
    c.in_ok-holds.ensures.tests)
    (sets_kept d c.args.game.now c.read_tests.new.game c.requires.exact to c.args.counts
    c.args.tests.now.predicates.items c.args.tests.now.holds.items c.requires.sets)

pub returns-in_err-push_telling-clause-grows : goal.returns-in_err-push_telling-clause-grows
returns-in_err-push_telling-clause-grows c =
    λ base b. c.push_telling.ensures.grows base (c.read_tests.ensures.grows base b)

pub returns-clause-grows : goal.returns-clause-grows
returns-clause-grows c = λ base b. c.push_telling.ensures.grows base (c.read_tests.ensures.grows base b)

pub returns-clause-few : goal.returns-clause-few
returns-clause-few c = c.in_ok-push_telling.ensures.few

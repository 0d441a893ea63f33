use Rattle.tm_solve_exact.proofs.Growing.{kept_exact}
use Rattle.tm_strat.proofs.Carrying.{grown}
use Rattle.tm_strat.proofs.Testing.{sets_kept, test_of_kept}
use Rattle.tm_strat.proofs.tables.push_test.Goals as goal

pub returns-then-not-is_new-clause-sets : goal.returns-then-not-is_new-clause-sets
returns-then-not-is_new-clause-sets c = λ d e is test_is sets.
    sets_kept d c.args.game.now c.tells_apart.new.game is
    (grown c.args.game.now c.tells_apart.new.game c.tells_apart.ensures) e c.args.tests.now.predicates.items
    c.args.tests.now.holds.items sets

pub returns-clause-sets : goal.returns-clause-sets
returns-clause-sets c = λ d e is test_is sets.
    let to_m = grown c.args.game.now c.tells_apart.new.game c.tells_apart.ensures in
    c.in_ok-push_valid.ensures.sets d e (kept_exact d c.args.game.now is c.tells_apart.new.game to_m)
    (test_of_kept d c.args.game.now c.tells_apart.new.game to_m e c.args.predicate c.args.holds test_is)
    (sets_kept d c.args.game.now c.tells_apart.new.game is to_m e c.args.tests.now.predicates.items
    c.args.tests.now.holds.items sets)

use Rattle.tm_strat.proofs.Carrying.{grown}
use Rattle.tm_strat.proofs.Testing.{sets_more, test_set}
use Rattle.tm_strat.proofs.tables.push_valid.Goals as goal

pub returns-clause-sets : goal.returns-clause-sets
returns-clause-sets c = λ d e is test_is sets.
    let to_h = grown c.args.game.now c.both.new.game c.both.ensures.grows in
    sets_more d c.args.game.now c.both.new.game is to_h e c.args.tests.now.predicates.items c.push.new.self.items
    c.args.tests.now.holds.items c.push-2.new.self.items c.args.predicate c.in_ok-there.there sets
    (test_set d c.args.game.now c.both.new.game is to_h e c.args.predicate c.args.holds c.valid-valid.result
    c.in_ok-there.there c.valid-valid.ensures.value test_is c.in_ok-there.ensures.answer)
    c.in_ok-push.ensures.items c.in_ok-push-2.ensures.items

pub returns-clause-there : goal.returns-clause-there
returns-clause-there c = c.in_ok-push.ensures.items

use Rattle.std.proofs.Common.{refl}
use Rattle.tm_solve.proofs.Following.{told_other}
use Rattle.tm_solve.proofs.RoundSteps.{level_pushed}
use Rattle.tm_solve.proofs.rounds.remove.Goals as goal

pub returns-in_ok-push-clause-levels : goal.returns-in_ok-push-clause-levels
returns-in_ok-push-clause-levels g c =
    level_pushed (g.P.Pre.game c.args.pre.now) _ _ (g.P.Pre.ids c.without.new.self) c.args.region c.in_ok-left.left
    c.whole-whole.result c.in_ok-removed.removed
    c.args.goal c.args.chains.items c.args.levels.now.items c.push.new.self.items _ c.in_ok-left.ensures.follows.game
    (told_other c.if-not-same.ensures) c.in_ok-left.ensures.value.known c.whole-whole.ensures.value
    c.in_ok-removed.ensures.value c.without.ensures.follows.extends refl refl refl c.in_ok-push.ensures.items

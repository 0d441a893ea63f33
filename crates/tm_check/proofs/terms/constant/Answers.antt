use Rattle.tm_check.proofs.Worth.{const_worth}
use Rattle.tm_check.proofs.terms.constant.Goals as goal

pub returns-clause-worth : goal.returns-clause-worth
returns-clause-worth c =
    const_worth c.args.game.now.terms c.mk.new.self.terms c.in_ok-id.id c.args.number
    (record {
      extends = c.mk.ensures.grows.terms;
      known = c.in_ok-id.ensures.known;
      width = c.in_ok-id.ensures.width;
      value = c.in_ok-id.ensures.value;
    })

use Rattle.tm_check.proofs.Worth.{input_worth}
use Rattle.tm_check.proofs.terms.input.Goals as goal
use Rattle.tm_game.proofs.Growing.{grows_then}

pub returns-in_err-wide-clause-grows : goal.returns-in_err-wide-clause-grows
returns-in_err-wide-clause-grows c =
    grows_then c.args.game.now c.mk.new.self c.mk-2.new.self c.mk.ensures.grows c.mk-2.ensures.grows

pub returns-clause-grows : goal.returns-clause-grows
returns-clause-grows c =
    grows_then c.args.game.now c.mk.new.self c.mk-2.new.self c.mk.ensures.grows c.mk-2.ensures.grows

pub returns-clause-worth : goal.returns-clause-worth
returns-clause-worth c =
    input_worth c.args.game.now.terms c.mk.new.self.terms c.mk-2.new.self.terms c.in_ok-own.own c.in_ok-wide.wide
    c.args.input c.requires.narrow c.requires.there
    (record {
      extends = c.mk.ensures.grows.terms;
      known = c.in_ok-own.ensures.known;
      width = c.in_ok-own.ensures.width;
      value = c.in_ok-own.ensures.value;
    })
    (record {
      extends = c.mk-2.ensures.grows.terms;
      known = c.in_ok-wide.ensures.known;
      width = c.in_ok-wide.ensures.width;
      value = c.in_ok-wide.ensures.value;
    })

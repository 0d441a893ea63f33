use Rattle.std.proofs.Common.{subst}
use Rattle.tm_game.specs.Game.{IsStates}
use Rattle.tm_game.proofs.Extending.{terms-same}
use Rattle.tm_term.specs.Table.{IsSound}
use Rattle.tm_strat.proofs.making.tell.Goals as goal

pub returns : goal.returns
returns c = λ d of. record {
  ordered = record {
    of = of;
    order = c.order-order.ensures.places;
    goals = c.goals-goals.ensures.count d of;
    fairs = c.fairs-fairs.ensures.count d of;
  };
  terms = record {
    base = c.args.game.now.terms;
    sound = subst IsSound c.terms.ensures c.count-count.ensures.sound;
    extends = terms-same c.args.game.now.terms;
    flat = of.flat;
  };
  sets = record {
    goals = c.goals-goals.ensures.states d of;
    fairs = c.fairs-fairs.ensures.states d of;
    valid = subst (IsStates d c.args.game.now.order c.args.game.now.diagrams.table (λ s. Unit {0}))
        c.valid-valid.ensures.value (c.valid-valid.ensures.states d of);
  };
}

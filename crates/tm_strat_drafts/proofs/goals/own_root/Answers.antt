use Rattle.std.proofs.Common.{◌∙◌}
use Rattle.tm_strat_drafts.proofs.Following.{follows_then}
use Rattle.tm_strat_drafts.proofs.Making.{drafts_at}
use Rattle.tm_strat_drafts.proofs.Rooting.{count_to, earlier_at, own_made}
use Rattle.tm_strat_drafts.proofs.goals.own_root.Goals as goal

pub renew-requires : goal.renew-requires
renew-requires g c =
    record {
      earlier = earlier_at (g.M.Moves.setting c.args.moves.now).game c.args.goal _ c.args.drafts.now.items
          c.turn_to.ensures.game c.as_slice.ensures.value c.requires.earlier;
    }

pub root_of-requires-clause-tests : goal.root_of-requires-clause-tests
root_of-requires-clause-tests g c =
    count_to c.args.goal (c.renew.ensures.follows.game ∙ c.turn_to.ensures.game) c.requires.tests

pub root_of-requires-clause-drafts : goal.root_of-requires-clause-drafts
root_of-requires-clause-drafts g c = drafts_at c.renew.ensures.follows.game c.in_ok-renewed.ensures.drafts

pub returns-clause-makes : goal.returns-clause-makes
returns-clause-makes g c =
    own_made (g.M.Moves.setting c.args.moves.now).game c.args.goal _ c.args.drafts.now.items
    c.in_ok-renewed.renewed.items c.root_of.new.drafts.items c.in_ok-at.at
    (c.renew.ensures.follows.game ∙ c.turn_to.ensures.game) c.as_slice.ensures.value c.in_ok-renewed.ensures.stay
    c.in_ok-at.ensures.makes

pub returns-clause-follows : goal.returns-clause-follows
returns-clause-follows g c =
    follows_then (follows_then c.turn_to.ensures c.renew.ensures.follows) c.root_of.ensures.follows

use Rattle.std.proofs.Common.{refl}
use Rattle.tm_solve.proofs.AdvanceSteps.{begun_kept}
use Rattle.tm_solve.proofs.safety.keep_safe.Goals as goal

pub returns-clause-begun : goal.returns-clause-begun
returns-clause-begun g c =
    begun_kept (g.P.Pre.game c.args.pre.now) (g.P.Pre.ids c.args.pre.now) c.args.begun c.requires.begun
    (g.P.Pre.ids c.safe_states.new.pre)
    (record {
      region = c.in_ok-region.region;
      ranks = c.args.begun.ranks;
      levels = c.safe_states.new.levels;
    }) c.in_ok-region.region refl refl c.safe_states.ensures.follows.extends c.in_ok-region.ensures.keeps

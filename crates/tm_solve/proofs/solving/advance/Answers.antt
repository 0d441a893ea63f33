use Rattle.std.proofs.Common.{refl}
use Rattle.tm_solve.proofs.AdvanceSteps.{begun_leveled, begun_on, begun_ends, begun_falls}
use Rattle.tm_solve.proofs.solving.advance.Goals as goal

pub returns-clause-begun : goal.returns-clause-begun
returns-clause-begun g c =
    begun_on (g.P.Pre.game c.args.pre.now) (g.P.Pre.ids c.args.pre.now) c.args.begun c.requires.begun
    (g.P.Pre.ids c.play_round.new.pre) c.in_ok-remaining.remaining c.in_ok-remaining.ensures.remaining
    (g.met.P.Pre.monotone c.args.pre.now) (g.met.P.Pre.absorbing c.args.pre.now)
    (record {
      region = c.in_ok-remaining.remaining.region;
      ranks = c.in_ok-remaining.remaining.ranks;
      levels = c.play_round.new.levels;
    }) refl refl
    (c.in_ok-remaining.ensures.leveled
    (begun_leveled (g.P.Pre.game c.args.pre.now) (g.P.Pre.ids c.args.pre.now) c.args.begun c.requires.begun))

pub returns-clause-ends : goal.returns-clause-ends
returns-clause-ends g c = λ same.
    begun_ends (g.P.Pre.game c.args.pre.now) (g.P.Pre.ids c.args.pre.now) c.args.begun c.requires.begun
    (g.P.Pre.ids c.play_round.new.pre) c.in_ok-remaining.remaining c.in_ok-remaining.ensures.remaining
    c.play_round.ensures.follows.extends same

pub returns-clause-falls : goal.returns-clause-falls
returns-clause-falls g c = λ differ.
    begun_falls (g.P.Pre.game c.args.pre.now) (g.P.Pre.ids c.args.pre.now) c.args.begun c.requires.begun
    (g.P.Pre.ids c.play_round.new.pre) c.in_ok-remaining.remaining c.in_ok-remaining.ensures.remaining
    c.play_round.ensures.follows.extends c.play_round.ensures.follows.exact differ

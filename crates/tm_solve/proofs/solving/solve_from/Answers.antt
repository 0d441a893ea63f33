use Rattle.std.proofs.Common.{refl}
use Rattle.tm_solve.proofs.Following.{follows_then, told_same, told_other}
use Rattle.tm_solve.proofs.SolveSteps.{remaining_at, region_goes_on, region_shrinks, region_ends, ranks_fit, last_ends}
use Rattle.tm_solve.proofs.solving.solve_from.Goals as goal

pub returns-then-same-clause-ranks : goal.returns-then-same-clause-ranks
returns-then-same-clause-ranks g c =
    let inv = c.rounds.invariant in
    let r = remaining_at (g.P.Pre.game c.args.pre.now) (g.P.Pre.game c.rounds.pre) (g.P.Pre.ids c.play_round.new.pre) _
    c.in_ok-played.played inv.follows.game c.in_ok-played.ensures.remaining in
    ranks_fit (g.P.Pre.game c.args.pre.now)
    c.rounds.z c.in_ok-played.played inv.region r c.play_round.ensures.follows.extends
    (told_same c.if-same.ensures)
    (record { region = c.rounds.z; ranks = c.in_ok-played.played.ranks; levels = c.new.result }) refl
    refl

pub returns-then-same-clause-last : goal.returns-then-same-clause-last
returns-then-same-clause-last g c =
    let inv = c.rounds.invariant in
    let r = remaining_at (g.P.Pre.game c.args.pre.now) (g.P.Pre.game c.rounds.pre) (g.P.Pre.ids c.play_round.new.pre) _
    c.in_ok-played.played inv.follows.game c.in_ok-played.ensures.remaining in
    last_ends (g.P.Pre.game c.args.pre.now)
    c.rounds.z c.in_ok-played.played inv.region r c.play_round.ensures.follows.extends
    (told_same c.if-same.ensures)
    (record { region = c.rounds.z; ranks = c.in_ok-played.played.ranks; levels = c.new.result }) refl
    refl
    (follows_then inv.follows c.play_round.ensures.follows).exact

pub returns-then-same-clause-region : goal.returns-then-same-clause-region
returns-then-same-clause-region g c =
    let inv = c.rounds.invariant in
    let r = remaining_at (g.P.Pre.game c.args.pre.now) (g.P.Pre.game c.rounds.pre) (g.P.Pre.ids c.play_round.new.pre) _
    c.in_ok-played.played inv.follows.game c.in_ok-played.ensures.remaining in
    region_ends (g.P.Pre.game c.args.pre.now)
    c.rounds.z c.in_ok-played.played inv.region r c.play_round.ensures.follows.extends
    (told_same c.if-same.ensures)

pub rounds-smaller : goal.rounds-smaller
rounds-smaller g c =
    let inv = c.rounds.invariant in
    let r = remaining_at (g.P.Pre.game c.args.pre.now) (g.P.Pre.game c.rounds.pre) (g.P.Pre.ids c.play_round.new.pre) _
    c.in_ok-played.played inv.follows.game c.in_ok-played.ensures.remaining in
    region_shrinks (g.P.Pre.game c.args.pre.now) c.rounds.z
    c.in_ok-played.played inv.region r c.play_round.ensures.follows.extends
    (follows_then inv.follows c.play_round.ensures.follows).exact (told_other c.if-same.ensures)

pub rounds-preserved : goal.rounds-preserved
rounds-preserved g c =
    let inv = c.rounds.invariant in
    let r = remaining_at (g.P.Pre.game c.args.pre.now) (g.P.Pre.game c.rounds.pre) (g.P.Pre.ids c.play_round.new.pre) _
    c.in_ok-played.played inv.follows.game c.in_ok-played.ensures.remaining in
    record {
      follows = follows_then inv.follows c.play_round.ensures.follows;
      region = region_goes_on (g.P.Pre.game c.args.pre.now) (g.met.P.Pre.monotone c.args.pre.now)
          (g.met.P.Pre.absorbing c.args.pre.now) c.rounds.z
          c.in_ok-played.played inv.region r;
    }

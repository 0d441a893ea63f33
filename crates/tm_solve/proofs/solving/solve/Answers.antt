use Rattle.std.proofs.Common.{refl, sym}
use Rattle.tm_solve.proofs.Following.{follows_then, told_same, told_other}
use Rattle.tm_solve.proofs.SafetySteps.{whole_holds, whole_leveled}
use Rattle.tm_solve.proofs.SolveSteps.{remaining_at, leveled_at, region_goes_on, region_shrinks, region_ends, ranks_fit, last_ends, levels_end}
use Rattle.tm_solve.proofs.solving.solve.Goals as goal

pub rounds-init : goal.rounds-init
rounds-init g c =
    let keeps = c.in_ok-z.ensures.keeps in
    record {
      follows = c.safe_states.ensures.follows;
      region = keeps.region (whole_holds c.whole-whole.result c.whole-whole.ensures.value);
      leveled = keeps.leveled
          (whole_leveled c.whole-whole.result _ c.new-levels.ensures.items c.whole-whole.ensures.value);
    }

pub returns-then-same-clause-ranks : goal.returns-then-same-clause-ranks
returns-then-same-clause-ranks g c =
    let inv = c.rounds.invariant in
    let r = remaining_at (g.P.Pre.game c.args.pre.now) (g.P.Pre.game c.rounds.pre) (g.P.Pre.ids c.play_round.new.pre) _
    c.in_ok-remaining.remaining inv.follows.game c.in_ok-remaining.ensures.remaining in
    ranks_fit (g.P.Pre.game c.args.pre.now)
    c.rounds.z c.in_ok-remaining.remaining inv.region r c.play_round.ensures.follows.extends
    (told_same c.if-same.ensures)
    (record { region = c.rounds.z; ranks = c.in_ok-remaining.remaining.ranks; levels = c.play_round.new.levels }) refl
    refl

pub returns-then-same-clause-last : goal.returns-then-same-clause-last
returns-then-same-clause-last g c =
    let inv = c.rounds.invariant in
    let r = remaining_at (g.P.Pre.game c.args.pre.now) (g.P.Pre.game c.rounds.pre) (g.P.Pre.ids c.play_round.new.pre) _
    c.in_ok-remaining.remaining inv.follows.game c.in_ok-remaining.ensures.remaining in
    last_ends (g.P.Pre.game c.args.pre.now)
    c.rounds.z c.in_ok-remaining.remaining inv.region r c.play_round.ensures.follows.extends
    (told_same c.if-same.ensures)
    (record { region = c.rounds.z; ranks = c.in_ok-remaining.remaining.ranks; levels = c.play_round.new.levels }) refl
    refl
    (follows_then inv.follows c.play_round.ensures.follows).exact

pub returns-then-same-clause-region : goal.returns-then-same-clause-region
returns-then-same-clause-region g c =
    let inv = c.rounds.invariant in
    let r = remaining_at (g.P.Pre.game c.args.pre.now) (g.P.Pre.game c.rounds.pre) (g.P.Pre.ids c.play_round.new.pre) _
    c.in_ok-remaining.remaining inv.follows.game c.in_ok-remaining.ensures.remaining in
    region_ends (g.P.Pre.game c.args.pre.now)
    c.rounds.z c.in_ok-remaining.remaining inv.region r c.play_round.ensures.follows.extends
    (told_same c.if-same.ensures)

pub returns-then-same-clause-levels : goal.returns-then-same-clause-levels
returns-then-same-clause-levels g c =
    let inv = c.rounds.invariant in
    let l = leveled_at (g.P.Pre.game c.args.pre.now) (g.P.Pre.game c.rounds.pre) (g.P.Pre.ids c.play_round.new.pre)
    c.in_ok-remaining.remaining.region c.play_round.new.levels.items inv.follows.game
    (c.in_ok-remaining.ensures.leveled
    (leveled_at (g.P.Pre.game c.rounds.pre) (g.P.Pre.game c.args.pre.now) (g.P.Pre.ids c.rounds.pre) c.rounds.z
    c.rounds.levels.items (sym inv.follows.game) inv.leveled)) in
    levels_end (g.P.Pre.game c.args.pre.now) (g.P.Pre.ids c.play_round.new.pre) c.in_ok-remaining.remaining.region
    c.rounds.z c.play_round.new.levels.items (told_same c.if-same.ensures) l

pub returns-then-same-clause-known : goal.returns-then-same-clause-known
returns-then-same-clause-known g c =
    let inv = c.rounds.invariant in
    let l = leveled_at (g.P.Pre.game c.args.pre.now) (g.P.Pre.game c.rounds.pre) (g.P.Pre.ids c.play_round.new.pre)
    c.in_ok-remaining.remaining.region c.play_round.new.levels.items inv.follows.game
    (c.in_ok-remaining.ensures.leveled
    (leveled_at (g.P.Pre.game c.rounds.pre) (g.P.Pre.game c.args.pre.now) (g.P.Pre.ids c.rounds.pre) c.rounds.z
    c.rounds.levels.items (sym inv.follows.game) inv.leveled)) in
    record {
      region = c.play_round.ensures.follows.extends.known c.rounds.z inv.region.known;
      ranks = c.in_ok-remaining.ensures.remaining.ranks.known;
      levels = l.known;
    }

pub rounds-smaller : goal.rounds-smaller
rounds-smaller g c =
    let inv = c.rounds.invariant in
    let r = remaining_at (g.P.Pre.game c.args.pre.now) (g.P.Pre.game c.rounds.pre) (g.P.Pre.ids c.play_round.new.pre) _
    c.in_ok-remaining.remaining inv.follows.game c.in_ok-remaining.ensures.remaining in
    region_shrinks (g.P.Pre.game c.args.pre.now) c.rounds.z
    c.in_ok-remaining.remaining inv.region r c.play_round.ensures.follows.extends
    (follows_then inv.follows c.play_round.ensures.follows).exact (told_other c.if-same.ensures)

pub rounds-preserved : goal.rounds-preserved
rounds-preserved g c =
    let inv = c.rounds.invariant in
    let r = remaining_at (g.P.Pre.game c.args.pre.now) (g.P.Pre.game c.rounds.pre) (g.P.Pre.ids c.play_round.new.pre) _
    c.in_ok-remaining.remaining inv.follows.game c.in_ok-remaining.ensures.remaining in
    record {
      follows = follows_then inv.follows c.play_round.ensures.follows;
      region = region_goes_on (g.P.Pre.game c.args.pre.now) (g.met.P.Pre.monotone c.args.pre.now)
          (g.met.P.Pre.absorbing c.args.pre.now) c.rounds.z
          c.in_ok-remaining.remaining inv.region r;
      leveled = leveled_at (g.P.Pre.game c.args.pre.now) (g.P.Pre.game c.rounds.pre) (g.P.Pre.ids c.play_round.new.pre)
          c.in_ok-remaining.remaining.region c.play_round.new.levels.items inv.follows.game
          (c.in_ok-remaining.ensures.leveled
          (leveled_at (g.P.Pre.game c.rounds.pre) (g.P.Pre.game c.args.pre.now) (g.P.Pre.ids c.rounds.pre) c.rounds.z
          c.rounds.levels.items (sym inv.follows.game) inv.leveled));
    }

use Rattle.std.proofs.Common.{◌≡◌, sym, ◌∙◌, arith}
use Rattle.tm_strat_drafts.specs.Moves.{all_tests}
use Rattle.tm_strat_drafts.proofs.Following.{follows_here, follows_then}
use Rattle.tm_strat_drafts.proofs.Parting.{all_uniform, by_none, by_some, none_uniform, uniform_at, uniform_more}
use Rattle.tm_strat_drafts.proofs.splitting.first_split.Goals as goal

pub loop-test-init : goal.loop-test-init
loop-test-init g c = record {
  follows = follows_here (g.M.Moves.setting c.args.moves.now);
  uniform = none_uniform (g.M.Moves.setting c.args.moves.now).game
      ((g.M.Moves.setting c.args.moves.now).ids.means c.args.set);
}

pub loop-test-preserved : goal.loop-test-preserved
loop-test-preserved g c =
    let inv = c.loop-test.invariant in
    record {
      follows = follows_then inv.follows c.try_split.ensures.follows;
      uniform = uniform_more c.loop-test.test inv.uniform
          (uniform_at inv.follows.game (inv.follows.extends.same c.args.set c.requires.known)
          (by_none _ c.in_ok-found.found (sym c.is_some.ensures ∙ c.if-is_some.false) c.in_ok-found.ensures.value));
    }

pub returns-then-is_some-clause-value : goal.returns-then-is_some-clause-value
returns-then-is_some-clause-value g c =
    let inv = c.loop-test.invariant in
    by_some (g.M.Moves.setting c.try_split.new.moves).ids c.loop-test.test c.in_ok-found.found
    (sym c.is_some.ensures ∙ c.if-is_some.true) inv.follows.game
    (inv.follows.extends.same c.args.set c.requires.known) c.in_ok-found.ensures.value

pub returns-clause-value : goal.returns-clause-value
returns-clause-value g c =
    let all : c.loop-test.test ≡ all_tests (g.M.Moves.setting c.args.moves.now).game =
    omega (arith, c.requires.tests, c.loop-test-test.false, c.loop-test.auto.test-end) in
    all_uniform (g.M.Moves.setting c.args.moves.now).game _ c.loop-test.test all c.loop-test.invariant.uniform

use Rattle.std.proofs.Common.{ℕ, ◌+◌, ◌<◌, List, length, sym, subst, arith}
use Rattle.tm_strat_drafts.specs.Blocks.{AreGood}
use Rattle.tm_strat_drafts.specs.Drafts.{AreEarlier, blocks_of}
use Rattle.tm_strat_drafts.specs.Moves.{all_tests, turned}
use Rattle.tm_strat_drafts.specs.declared.drafts.Draft.{Draft}
use Rattle.tm_strat_drafts.proofs.Following.{turned_then}
use Rattle.tm_strat_drafts.proofs.Rooting.{all_counted, count_to, goal_below, own_test, roots_at, roots_to}
use Rattle.tm_strat_drafts.proofs.goals.strategies.Goals as goal

pub first_root-requires-clause-some : goal.first_root-requires-clause-some
first_root-requires-clause-some g c = subst (λ (n : ℕ). 0 < n) c.requires.goals c.requires.some

pub first_root-requires-clause-tests : goal.first_root-requires-clause-tests
first_root-requires-clause-tests g c =
    all_counted (g.M.Moves.setting c.args.moves.now).game c.args.states c.args.goals c.requires.tests c.requires.goals
    c.requires.some

pub loop-goal-init : goal.loop-goal-init
loop-goal-init g c = record {
  pending = 0;
  follows = c.first_root.ensures.follows;
  roots = c.in_ok-root.ensures.roots;
}

pub next_root-requires-clause-goal : goal.next_root-requires-clause-goal
next_root-requires-clause-goal g c =
    goal_below (g.M.Moves.setting c.args.moves.now).game c.loop-goal.invariant.follows.game c.requires.goals
    c.loop-goal-test.true

pub next_root-requires-clause-test : goal.next_root-requires-clause-test
next_root-requires-clause-test g c =
    own_test (g.M.Moves.setting c.args.moves.now).game c.loop-goal.goal c.loop-goal.invariant.follows.game
    c.requires.tests

pub next_root-requires-clause-tests : goal.next_root-requires-clause-tests
next_root-requires-clause-tests g c =
    count_to c.loop-goal.invariant.pending c.loop-goal.invariant.follows.game
    (all_counted (g.M.Moves.setting c.args.moves.now).game c.args.states c.args.goals c.requires.tests c.requires.goals
    c.requires.some)

pub next_root-requires-clause-roots : goal.next_root-requires-clause-roots
next_root-requires-clause-roots g c =
    roots_to (g.M.Moves.setting c.args.moves.now).game (g.M.Moves.setting c.loop-goal.moves).game
    c.loop-goal.invariant.pending c.loop-goal.drafts.items c.loop-goal.root c.loop-goal.goal
    c.loop-goal.invariant.follows.game c.loop-goal.invariant.roots

pub loop-goal-preserved : goal.loop-goal-preserved
loop-goal-preserved g c = record {
  pending = c.loop-goal.goal;
  follows = turned_then (g.M.Moves.setting c.args.moves.now) c.loop-goal.invariant.pending c.loop-goal.goal
      c.loop-goal.invariant.follows c.next_root.ensures.follows;
  roots = roots_at (g.M.Moves.setting c.args.moves.now).game (g.M.Moves.setting c.loop-goal.moves).game
      c.loop-goal.invariant.pending c.next_root.new.drafts.items c.in_ok-next.next (c.loop-goal.goal + 1)
      c.loop-goal.invariant.follows.game c.in_ok-next.ensures.roots;
}

pub finish-requires-clause-root : goal.finish-requires-clause-root
finish-requires-clause-root g c =
    subst (λ (ds : List Draft). c.loop-goal.root < length ds) (sym c.as_slice.ensures.value)
    c.loop-goal.invariant.roots.below

pub finish-requires-clause-earlier : goal.finish-requires-clause-earlier
finish-requires-clause-earlier g c = (
  all_tests (g.M.Moves.setting c.args.moves.now).game,
  subst (λ (ds : List Draft). AreEarlier (all_tests (g.M.Moves.setting c.args.moves.now).game) ds)
      (sym c.as_slice.ensures.value) c.loop-goal.invariant.roots.earlier,
)

pub returns-clause-good : goal.returns-clause-good
returns-clause-good g c goal below =
    c.in_ok-blocks.ensures.good (turned (g.M.Moves.setting c.args.moves.now).game goal) _
    (subst (λ (ds : List Draft). AreGood (turned (g.M.Moves.setting c.args.moves.now).game goal) (blocks_of ds)
    c.loop-goal.root ((g.M.Moves.setting c.args.moves.now).game.region goal)) (sym c.as_slice.ensures.value)
    (c.loop-goal.invariant.roots.each goal
    (omega (arith, below, c.loop-goal-test.false, c.loop-goal.auto.goal-end))))

pub returns-clause-later : goal.returns-clause-later
returns-clause-later g c =
    c.in_ok-blocks.ensures.later (c.args.states + c.args.goals)
    (subst (λ (ds : List Draft). AreEarlier (c.args.states + c.args.goals) ds) (sym c.as_slice.ensures.value)
    (subst (λ (n : ℕ). AreEarlier n c.loop-goal.drafts.items)
    (sym (all_counted (g.M.Moves.setting c.args.moves.now).game c.args.states c.args.goals c.requires.tests
    c.requires.goals c.requires.some).count) c.loop-goal.invariant.roots.earlier))

pub returns-clause-follows : goal.returns-clause-follows
returns-clause-follows g c = (c.loop-goal.invariant.pending, c.loop-goal.invariant.follows)

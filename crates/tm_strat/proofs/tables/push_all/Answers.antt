use Rattle.std.proofs.Common.{◌+◌, List, ◌++◌, length, sym, ap, ◌∙◌}
use Rattle.std.proofs.lemmas.List.{append-nil, get_or_default, take_all}
use Rattle.tm_solve_exact.proofs.Growing.{kept_exact}
use Rattle.tm_strat.proofs.Carrying.{grown}
use Rattle.tm_strat.proofs.Testing.{pushed_more, test_there}
use Rattle.tm_strat.specs.declared.predicates.Predicate.{Predicate}
use Rattle.tm_strat.proofs.tables.push_all.Goals as goal

pub loop-index-init : goal.loop-index-init
loop-index-init c = record {
  grows = λ base b. b;
  sets = λ d e is read sets. sets;
  pushed = sym (append-nil c.args.tests.now.predicates.items);
}

pub loop-index-preserved : goal.loop-index-preserved
loop-index-preserved c = record {
  grows = λ base b. c.push_valid.ensures.grows base (c.loop-index.invariant.grows base b);
  sets = λ d e is read sets.
      let to_m = grown c.args.game.now c.loop-index.game c.loop-index.invariant.grows in
      c.in_ok-push_valid.ensures.sets d e (kept_exact d c.args.game.now is c.loop-index.game to_m)
      (test_there d c.args.game.now c.loop-index.game to_m e c.args.all.now c.args.holds.now (length c.args.all.now)
      c.loop-index.index _ c.id_at-there.result read c.loop-index-test.true c.loop-index-test.true
      c.id_at-there.ensures)
      (c.loop-index.invariant.sets d e is read sets);
  pushed = pushed_more c.args.tests.now.predicates.items c.args.all.now c.loop-index.tests.predicates.items
      c.push_valid.new.tests.predicates.items c.loop-index.index _ c.loop-index.invariant.pushed c.loop-index-test.true
      (get_or_default c.args.all.now c.loop-index.index _ _ c.loop-index-test.true) c.in_ok-push_valid.ensures.there;
}

pub returns-clause-sets : goal.returns-clause-sets
returns-clause-sets c = c.loop-index.invariant.sets

pub returns-clause-there : goal.returns-clause-there
returns-clause-there c =
    c.loop-index.invariant.pushed
    ∙ ap (λ (l : List Predicate). c.args.tests.now.predicates.items ++ l)
    (take_all c.loop-index.index c.args.all.now c.loop-index-test.false)

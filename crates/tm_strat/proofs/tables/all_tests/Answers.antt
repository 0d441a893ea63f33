use Rattle.std.proofs.Common.{List, length, ap, arith}
use Rattle.tm_solve_exact.proofs.Growing.{kept_exact}
use Rattle.tm_strat.proofs.Carrying.{grown, sized_stays}
use Rattle.tm_strat.proofs.Testing.{sets_none}
use Rattle.tm_strat.specs.declared.predicates.Predicate.{Predicate}
use Rattle.tm_strat.proofs.tables.all_tests.Goals as goal
use Rattle.tm_syntax.specs.Design.View.{design_tree}

pub push_first-requires : goal.push_first-requires
push_first-requires c = record {
  exact = c.requires.exact;
  sized = c.requires.sized;
  counts = c.requires.counts;
  sets = sets_none (design_tree c.args.design.now) c.args.game.now c.args.counts c.new.result.items
      c.new-2.result.items c.new.ensures.items c.new-2.ensures.items;
}

pub push_bits-requires : goal.push_bits-requires
push_bits-requires c = record {
  exact = kept_exact (design_tree c.args.design.now) c.args.game.now c.requires.exact c.push_first.new.game
      (grown c.args.game.now c.push_first.new.game c.push_first.ensures.grows);
  sized = sized_stays c.args.game.now c.push_first.new.game c.push_first.ensures.grows c.requires.sized;
  counts = c.requires.counts;
  sets = c.in_ok-first.ensures.sets;
}

pub returns-clause-sets : goal.returns-clause-sets
returns-clause-sets c = c.in_ok-last.ensures.sets

pub returns-clause-bits : goal.returns-clause-bits
returns-clause-bits c = c.in_ok-last.ensures.bits

pub returns-clause-few : goal.returns-clause-few
returns-clause-few c =
    let none = ap (λ (l : List Predicate). length l) c.new.ensures.items in
    let first = c.in_ok-first.ensures.few (omega (arith, none)) in
    let count = c.in_ok-last.ensures.count in
    record { few = omega (arith, first, count) }

pub returns-in_err-last-clause-grows : goal.returns-in_err-last-clause-grows
returns-in_err-last-clause-grows c = λ base b. c.push_bits.ensures.grows base (c.push_first.ensures.grows base b)

pub returns-clause-grows : goal.returns-clause-grows
returns-clause-grows c = λ base b. c.push_bits.ensures.grows base (c.push_first.ensures.grows base b)

pub returns-in_err-ends-clause-grows : goal.returns-in_err-ends-clause-grows
returns-in_err-ends-clause-grows c = λ base b. c.push_bits.ensures.grows base (c.push_first.ensures.grows base b)

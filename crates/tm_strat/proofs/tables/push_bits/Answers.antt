use Rattle.std.proofs.Common.{ℕ, List, length, sym, ap, ◌∙◌, subst, arith}
use Rattle.std.proofs.lemmas.List.{length-append}
use Rattle.std.specs.Prelude.{sum}
use Rattle.tm_game.proofs.Growing.{grows_none}
use Rattle.tm_sem.specs.StateBits.{state_widths}
use Rattle.tm_solve_exact.proofs.Growing.{kept_exact}
use Rattle.tm_strat.proofs.Carrying.{grown}
use Rattle.tm_strat.proofs.StateWidths.{few_states}
use Rattle.tm_strat.proofs.Testing.{bits_behind, sets_kept, tests_read}
use Rattle.tm_strat.specs.Tested.{AreAllBits}
use Rattle.tm_strat.specs.declared.predicates.Predicate.{Predicate}
use Rattle.tm_strat.proofs.tables.push_bits.Goals as goal
use Rattle.tm_syntax.specs.Design.View.{design_tree}

pub read_tests-requires-clause-of : goal.read_tests-requires-clause-of
read_tests-requires-clause-of c = c.requires.exact.ordered.of

pub read_tests-requires-clause-sized : goal.read_tests-requires-clause-sized
read_tests-requires-clause-sized c = c.requires.sized

pub read_tests-requires-clause-counts : goal.read_tests-requires-clause-counts
read_tests-requires-clause-counts c = c.requires.counts

pub returns-clause-sets : goal.returns-clause-sets
returns-clause-sets c =
    let d = design_tree c.args.design.now in
    let to_r = grown c.args.game.now c.read_tests.new.game c.read_tests.ensures.grows in
    c.in_ok-push_all.ensures.sets d c.args.counts
    (kept_exact d c.args.game.now c.requires.exact c.read_tests.new.game to_r)
    (tests_read d c.read_tests.new.game c.read_tests.new.game
    (grows_none c.read_tests.new.game) c.args.counts c.deref-2.result.now c.deref-3.result.now
    c.in_ok-holds.holds.items c.deref-4.result.now
    (c.deref-3.ensures.value ∙ sym c.deref-2.ensures.value) c.deref-4.ensures.value c.in_ok-holds.ensures.tests)
    (sets_kept d c.args.game.now c.read_tests.new.game c.requires.exact to_r c.args.counts
    c.args.tests.now.predicates.items c.args.tests.now.holds.items c.requires.sets)

pub returns-clause-bits : goal.returns-clause-bits
returns-clause-bits c =
    let d = design_tree c.args.design.now in
    let same = c.deref.ensures.value ∙ c.in_ok-widths.ensures d c.requires.exact.ordered.of c.requires.counts in
    let few = few_states d c.args.game.now c.requires.exact.ordered.of c.requires.sized in
    let long = ap (λ (l : List ℕ). length l) same in
    bits_behind c.args.counts (state_widths d) c.args.tests.now.predicates.items c.deref-3.result.now
    c.push_all.new.tests.predicates.items
    (subst (λ (l : List Predicate). AreAllBits c.args.counts (state_widths d) l) (sym c.deref-3.ensures.value)
    (subst (λ (l : List ℕ). AreAllBits c.args.counts l c.in_ok-all.all.items) same
    (c.in_ok-all.ensures.bits (omega (arith, few, long)))))
    c.in_ok-push_all.ensures.there

pub returns-clause-count : goal.returns-clause-count
returns-clause-count c =
    let d = design_tree c.args.design.now in
    let same = c.deref.ensures.value ∙ c.in_ok-widths.ensures d c.requires.exact.ordered.of c.requires.counts in
    let there = ap (λ (l : List Predicate). length l) c.in_ok-push_all.ensures.there in
    let behind = length-append c.args.tests.now.predicates.items c.deref-3.result.now in
    let read = ap (λ (l : List Predicate). length l) c.deref-3.ensures.value in
    let bits = c.in_ok-all.ensures.count ∙ ap (λ (l : List ℕ). sum l) same in
    omega (arith, there, behind, read, bits)

pub returns-in_err-push_all-clause-grows : goal.returns-in_err-push_all-clause-grows
returns-in_err-push_all-clause-grows c = λ base b. c.push_all.ensures.grows base (c.read_tests.ensures.grows base b)

pub returns-clause-grows : goal.returns-clause-grows
returns-clause-grows c = λ base b. c.push_all.ensures.grows base (c.read_tests.ensures.grows base b)

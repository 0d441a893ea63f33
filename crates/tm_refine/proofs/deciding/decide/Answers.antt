use Rattle.std.proofs.Common.{List, length, sym, ◌∙◌, subst, arith}
use Rattle.tm_flat_pool.specs.Predicates.{pool}
use Rattle.tm_refine.specs.declared.trace.Added.{Added}
use Rattle.tm_refine.specs.Carried.{AreCarried}
use Rattle.tm_refine.proofs.OneSide.{named}
use Rattle.tm_refine.proofs.NarrowSteps.{failed_at, first_at, first_read, other_at, searching_first, won_at}
use Rattle.tm_refine.proofs.deciding.decide.Goals as goal

pub widen-requires-clause-named : goal.widen-requires-clause-named
widen-requires-clause-named g c =
    let d = c.requires.of.0 in
    let of = c.requires.of.1 in
    let solved = c.solve_exact.ensures.follows.extends.of d of in
    let there = c.leaves_out.ensures.follows.extends.of d solved in
    let exact = g.met.A.Arena.exact c.args.sided.now.arena d of in
    let size = g.met.A.Arena.pool_size c.leaves_out.new.self d there in
    let below = c.first-first.ensures.below in (
      d,
      there,
      named exact.1 (pool d) (g.met.A.Arena.separates c.args.sided.now.arena d of)
          (g.A.Arena.ids c.solve_exact.new.self) c.in_ok-whole.whole c.in_ok-whole.ensures.region
          c.in_ok-sided.field-0 (c.in_ok-sided.ensures.out d solved) c.in_ok-whole.ensures.ranks
          c.in_ok-whole.ensures.levels,
      c.first-first.result,
      searching_first d c.first-first.result c.in_ok-sided-2.field-0.items c.in_ok-sided-2.ensures (omega arith),
    )

pub widen-requires-clause-region_known : goal.widen-requires-clause-region_known
widen-requires-clause-region_known g c =
    c.leaves_out.ensures.follows.extends.known c.in_ok-whole.whole.region c.in_ok-whole.ensures.known.region

pub narrow-requires-clause-carried : goal.narrow-requires-clause-carried
narrow-requires-clause-carried g c =
    let d = c.requires.of.0 in
    let of = c.requires.of.1 in
    let solved = c.solve_exact.ensures.follows.extends.of d of in
    let there = c.leaves_out.ensures.follows.extends.of d solved in
    let size = g.met.A.Arena.pool_size c.leaves_out.new.self d there in
    let below = c.first-first.ensures.below in
    let first = c.first-first.result in
    let begun = searching_first d first c.in_ok-sided-2.field-0.items c.in_ok-sided-2.ensures (omega arith) in (
      d,
      c.widen.ensures.designs d there,
      subst (λ (l : List Added). AreCarried d first l (g.A.Arena.game c.widen.new.sided.arena)
          (g.A.Arena.ids c.widen.new.sided.arena) c.in_ok-won.won.count c.in_ok-won.won.far)
          (sym c.deref.ensures.value) (c.in_ok-won.ensures.carried d first there begun),
    )

pub returns-clause-decided : goal.returns-clause-decided
returns-clause-decided g c = λ d of.
    let solved = c.solve_exact.ensures.follows.extends.of d of in
    let there = c.leaves_out.ensures.follows.extends.of d solved in
    let exact = g.met.A.Arena.exact c.args.sided.now.arena d of in
    let size = g.met.A.Arena.pool_size c.leaves_out.new.self d there in
    let below = c.first-first.ensures.below in
    let first = c.first-first.result in
    let upper = c.in_ok-sided.field-0 in
    let added = c.widen.new.added.items in
    let begun = searching_first d first c.in_ok-sided-2.field-0.items c.in_ok-sided-2.ensures (omega arith) in
    let side = named exact.1 (pool d) (g.met.A.Arena.separates c.args.sided.now.arena d of)
    (g.A.Arena.ids c.solve_exact.new.self) c.in_ok-whole.whole c.in_ok-whole.ensures.region upper
    (c.in_ok-sided.ensures.out d solved) c.in_ok-whole.ensures.ranks c.in_ok-whole.ensures.levels in
    let best = first_read d first c.deref.result.now added c.deref.ensures.value c.widen.new.sided.upper
    (g.A.Arena.ids c.widen.new.sided.arena) (g.A.Arena.ids c.narrow.new.sided.arena) c.in_ok-won.won.it
    c.in_ok-best.best.it c.in_ok-won.won.count c.in_ok-best.best.count
    (c.in_ok-best.ensures.first d (c.widen.ensures.designs d there))
    (failed_at d first added upper c.widen.new.sided.upper c.widen.ensures.side c.in_ok-won.won.count
    (c.in_ok-won.ensures.failed d first there begun))
    (won_at d first added upper c.widen.new.sided.upper c.widen.ensures.side
    (g.A.Arena.ids c.widen.new.sided.arena) c.in_ok-won.won.it (length added)
    (c.in_ok-won.ensures.won d first there begun)) in
    c.finish.ensures.decided d c.widen.new.sided.tracked.items
    (c.first-first.ensures.claims d there)
    (other_at d upper c.narrow.new.sided.upper (c.narrow.ensures.side ∙ c.widen.ensures.side) side.other)
    (c.in_ok-won.ensures.searching d first there begun)
    (first_at d first added c.widen.new.sided.upper c.narrow.new.sided.upper c.narrow.ensures.side
    (g.A.Arena.ids c.narrow.new.sided.arena) c.in_ok-best.best.it c.in_ok-best.best.count best)

pub returns-clause-known : goal.returns-clause-known
returns-clause-known g c = c.finish.ensures.known c.in_ok-best.ensures.known

pub returns-clause-within : goal.returns-clause-within
returns-clause-within g c = c.finish.ensures.within

use Rattle.std.proofs.Common.{◌≡◌, ◌+◌, List, length, ◌∙◌, ℕ, refl, sym, subst, arith}
use Rattle.tm_refine.specs.declared.trace.Added.{Added}
use Rattle.tm_flat_pool.specs.Predicates.{pool}
use Rattle.tm_game_pool.specs.Separating.{predicates_at}
use Rattle.tm_refine.specs.Carried.{AreCarried}
use Rattle.tm_refine.specs.Searching.{AreFailed, IsSearching, tracked_at}
use Rattle.tm_refine.proofs.Carrying.{carried_all, carried_at, carried_longer, carried_none, carried_some, carried_stay}
use Rattle.tm_refine.proofs.RoundSides.{of_none, of_some}
use Rattle.tm_refine.proofs.SearchSteps.{stay_then}
use Rattle.tm_refine.proofs.NarrowSteps.{region_kept, region_same, count_smaller, failed_whole, named_at, none_at, searching_at, searching_fits, won_whole}
use Rattle.tm_refine.proofs.narrowing.widen.Goals as goal

pub fails-init : goal.fails-init
fails-init g c = record {
  of = λ d of. of;
  game = refl;
  side = refl;
  known = c.requires.region_known;
  holds = c.requires.holds;
  searching = λ d first of s.
      subst (λ (l : List Added). IsSearching d first c.args.sided.now.tracked.items l) (sym c.requires.empty) s;
  failed = λ d first of s. record { none = λ k less. absurd (omega arith) };
  carried = λ d first of s.
      record { each = λ m from. c.all_states-far.ensures d (tracked_at d first c.args.added.now.items m) of };
  within = omega arith;
}

pub returns-in-Some-clause-searching : goal.returns-in-Some-clause-searching
returns-in-Some-clause-searching g c = λ d first of s.
    searching_at d first c.fails.sided.tracked.items c.solve_side.new.sided.tracked.items c.fails.added.items
    c.solve_side.ensures.tracked (c.fails.invariant.searching d first of s)

pub returns-in-Some-clause-won : goal.returns-in-Some-clause-won
returns-in-Some-clause-won g c = λ d first of s.
    let inv = c.fails.invariant in
    won_whole d first c.fails.sided.tracked.items c.fails.added.items c.fails.sided.upper c.args.sided.now.upper
    (g.A.Arena.ids c.solve_side.new.sided.arena) c.in-Some.it (inv.searching d first of s) inv.side
    (of_some c.in_ok-it.field-0 _ _ c.in-Some.it (c.in_ok-it.ensures.found d (inv.of d of)) c.in-Some.is)

pub returns-in-Some-clause-region_known : goal.returns-in-Some-clause-region_known
returns-in-Some-clause-region_known g c = c.solve_side.ensures.stay.known c.fails.kept c.fails.invariant.known

pub returns-in-Some-clause-holds : goal.returns-in-Some-clause-holds
returns-in-Some-clause-holds g c =
    region_same (g.A.Arena.game c.fails.sided.arena) (g.A.Arena.game c.solve_side.new.sided.arena)
    (g.A.Arena.ids c.fails.sided.arena) (g.A.Arena.ids c.solve_side.new.sided.arena) c.fails.kept
    c.solve_side.ensures.stay c.solve_side.ensures.game c.fails.invariant.known c.fails.invariant.holds

pub solve_side-requires-clause-carried : goal.solve_side-requires-clause-carried
solve_side-requires-clause-carried g c =
    let inv = c.fails.invariant in
    let d = c.requires.named.0 in
    let of = c.requires.named.1 in
    let first = c.requires.named.3 in
    let s = c.requires.named.4 in
    let here = g.met.A.Arena.exact c.fails.sided.arena d (inv.of d of) in (
      d,
      inv.of d of,
      carried_all here.1 first (g.A.Arena.ids c.fails.sided.arena) c.fails.far c.fails.sided.tracked.items
          c.fails.added.items c.fails.count (inv.searching d first of s) inv.within (inv.carried d first of s),
    )

pub returns-in-Some-clause-carried : goal.returns-in-Some-clause-carried
returns-in-Some-clause-carried g c = λ d first of s.
    let inv = c.fails.invariant in
    let now = inv.of d of in
    record {
      each = λ m from.
          let P = tracked_at d first c.fails.added.items m in
          carried_at d P (g.A.Arena.game c.fails.sided.arena) (g.A.Arena.game c.solve_side.new.sided.arena)
          (g.A.Arena.ids c.solve_side.new.sided.arena) c.solve_side.new.far c.solve_side.ensures.game
          (carried_some d (predicates_at (pool d) c.fails.sided.tracked.items) (g.A.Arena.game c.fails.sided.arena)
          (g.A.Arena.ids c.fails.sided.arena) (g.A.Arena.ids c.solve_side.new.sided.arena) c.fails.far
          c.solve_side.new.far c.in_ok-it.field-0 (c.in_ok-it.ensures.carried d now) c.in-Some.it c.in-Some.is P
          ((inv.carried d first of s).each m from));
    }

pub cut-requires-clause-failed : goal.cut-requires-clause-failed
cut-requires-clause-failed g c =
    let inv = c.fails.invariant in
    let d = c.requires.named.0 in
    let now = inv.of d c.requires.named.1 in (
      d,
      c.solve_side.ensures.stay.of d now,
      named_at d c.args.sided.now.upper c.solve_side.new.sided.upper (c.solve_side.ensures.side ∙ inv.side)
          c.requires.named.2,
      none_at d c.fails.sided.tracked.items c.solve_side.new.sided.tracked.items c.fails.sided.upper
          c.solve_side.new.sided.upper c.solve_side.ensures.tracked c.solve_side.ensures.side
          (of_none c.in_ok-it.field-0 _ _ (c.in_ok-it.ensures.found d now) c.in_default.not-Some),
    )

pub cut-requires-clause-region_known : goal.cut-requires-clause-region_known
cut-requires-clause-region_known g c =
    c.solve_side.ensures.stay.known c.fails.kept c.fails.invariant.known

pub forget_others-requires : goal.forget_others-requires
forget_others-requires g c = record {
  known = c.cut.ensures.stay.known c.fails.kept
      (c.solve_side.ensures.stay.known c.fails.kept c.fails.invariant.known);
}

pub fails-smaller : goal.fails-smaller
fails-smaller g c =
    let inv = c.fails.invariant in
    let d = c.requires.named.0 in
    let of = c.requires.named.1 in
    let first = c.requires.named.3 in
    let there = c.in_ok-cut.ensures.searching d first (c.solve_side.ensures.stay.of d (inv.of d of))
    (searching_at d first c.fails.sided.tracked.items c.solve_side.new.sided.tracked.items c.fails.added.items
    c.solve_side.ensures.tracked (inv.searching d first of c.requires.named.4)) in
    let fits = searching_fits d first c.cut.new.sided.tracked.items c.cut.new.added.items there in
    let size = g.met.A.Arena.pool_size c.args.sided.now.arena d of in
    count_smaller (g.A.Arena.size c.args.sided.now.arena) (length c.fails.added.items) (length c.cut.new.added.items)
    c.in_ok-cut.ensures.more (omega arith)

pub fails-preserved : goal.fails-preserved
fails-preserved g c =
    let inv = c.fails.invariant in
    let e : c.len-count.result ≡ length c.fails.added.items = let a = c.len-count.ensures in omega arith in
    record {
      of = λ d of.
          c.forget_others.ensures.designs d (c.cut.ensures.stay.of d (c.solve_side.ensures.stay.of d (inv.of d of)));
      game = c.forget_others.ensures.game ∙ c.cut.ensures.game ∙ c.solve_side.ensures.game ∙ inv.game;
      known = c.in_ok-kept.ensures.value.known;
      holds = region_kept (g.A.Arena.game c.fails.sided.arena) (g.A.Arena.game c.cut.new.sided.arena)
          (g.A.Arena.game c.forget_others.new.sided.arena) (g.A.Arena.ids c.fails.sided.arena)
          (g.A.Arena.ids c.cut.new.sided.arena) (g.A.Arena.ids c.forget_others.new.sided.arena) c.fails.kept
          c.in_ok-kept.kept
          (stay_then c.solve_side.ensures.stay c.cut.ensures.stay) (c.cut.ensures.game ∙ c.solve_side.ensures.game)
          c.forget_others.ensures.game inv.known c.in_ok-kept.ensures.value inv.holds;
      side = c.forget_others.ensures.side ∙ c.cut.ensures.side ∙ c.solve_side.ensures.side ∙ inv.side;
      searching = λ d first of s. searching_at d first c.cut.new.sided.tracked.items
          c.forget_others.new.sided.tracked.items c.cut.new.added.items c.forget_others.ensures.tracked
          (c.in_ok-cut.ensures.searching d first (c.solve_side.ensures.stay.of d (inv.of d of))
          (searching_at d first c.fails.sided.tracked.items c.solve_side.new.sided.tracked.items c.fails.added.items
          c.solve_side.ensures.tracked (inv.searching d first of s)));
      failed = λ d first of s.
          subst (λ (n : ℕ). AreFailed d first c.cut.new.added.items c.args.sided.now.upper (n + 1)) (sym e)
          (failed_whole d first c.fails.sided.tracked.items c.fails.added.items c.cut.new.added.items
          c.fails.sided.upper c.args.sided.now.upper (inv.searching d first of s) inv.side
          (of_none c.in_ok-it.field-0 _ _ (c.in_ok-it.ensures.found d (inv.of d of)) c.in_default.not-Some)
          c.in_ok-cut.ensures.longer);
      carried = λ d first of s.
          let now = inv.of d of in
          let solved = c.solve_side.ensures.stay.of d now in
          let there = c.cut.ensures.stay.of d solved in
          let exact = g.met.A.Arena.exact c.forget_others.new.sided.arena d (c.forget_others.ensures.designs d there) in
          let here = g.met.A.Arena.exact c.fails.sided.arena d now in
          let P = predicates_at (pool d) c.fails.sided.tracked.items in
          let g0 = g.A.Arena.game c.fails.sided.arena in
          let before = carried_all here.1 first (g.A.Arena.ids c.fails.sided.arena) c.fails.far
          c.fails.sided.tracked.items c.fails.added.items c.fails.count (inv.searching d first of s) inv.within
          (inv.carried d first of s) in
          subst (λ (n : ℕ). AreCarried d first c.cut.new.added.items (g.A.Arena.game c.forget_others.new.sided.arena)
          (g.A.Arena.ids c.forget_others.new.sided.arena) (n + 1) c.forget_others.new.far) (sym e)
          (carried_longer exact.1 first (g.A.Arena.ids c.forget_others.new.sided.arena) c.forget_others.new.far
          c.fails.sided.tracked.items c.fails.added.items c.cut.new.added.items (inv.searching d first of s)
          c.in_ok-cut.ensures.longer
          (c.in_ok-kept.ensures.carried d P there
          (carried_at d P g0 (g.A.Arena.game c.cut.new.sided.arena) (g.A.Arena.ids c.cut.new.sided.arena)
          c.solve_side.new.far (c.cut.ensures.game ∙ c.solve_side.ensures.game)
          (carried_stay d P g0 (g.A.Arena.ids c.solve_side.new.sided.arena) (g.A.Arena.ids c.cut.new.sided.arena)
          c.solve_side.new.far c.cut.ensures.stay
          (carried_none d P g0 (g.A.Arena.ids c.fails.sided.arena) (g.A.Arena.ids c.solve_side.new.sided.arena)
          c.fails.far c.solve_side.new.far c.in_ok-it.field-0 (c.in_ok-it.ensures.carried d now)
          c.in_default.not-Some before)))));
      within = let b = c.in_ok-cut.ensures.more in omega arith;
    }

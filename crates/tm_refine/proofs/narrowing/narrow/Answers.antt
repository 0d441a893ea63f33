use Rattle.std.proofs.Common.{◌≡◌, ℕ, Option, ◌∙◌, subst, arith}
use Rattle.tm_refine.specs.Searching.{AreFailed, KnowsSome}
use Rattle.tm_solve.specs.declared.iterates.Iterates.{Iterates}
use Rattle.tm_refine.proofs.RoundSides.{of_some}
use Rattle.tm_refine.proofs.SearchSteps.{stay_then}
use Rattle.tm_refine.proofs.Carrying.{carried_failed, carried_try, carried_won}
use Rattle.tm_refine.proofs.NarrowSteps.{failed_prefix, known_still, of_nothing, won_prefix, won_still}
use Rattle.tm_refine.proofs.narrowing.narrow.Goals as goal

pub solve_side-requires-clause-carried : goal.solve_side-requires-clause-carried
solve_side-requires-clause-carried g c =
    let inv = c.tries.invariant in
    let d = c.requires.carried.0 in
    let of = c.requires.carried.1 in (
      d,
      inv.stay.of d of,
      carried_try (g.met.A.Arena.exact c.args.sided.now.arena d of).1 (g.A.Arena.game c.tries.sided.arena) inv.game
          c.args.first c.args.added.now c.in_ok-sided.field-0.items c.between-middle.result c.in_ok-sided.ensures
          (g.A.Arena.ids c.tries.sided.arena) c.tries.low c.tries.far (inv.carried d of c.requires.carried.2)
          c.between-middle.ensures.low,
    )

pub tries-preserved : goal.tries-preserved
tries-preserved g c =
    let inv = c.tries.invariant in
    record {
      stay = stay_then inv.stay c.solve_side.ensures.stay;
      game = c.solve_side.ensures.game ∙ inv.game;
      side = c.solve_side.ensures.side ∙ inv.side;
      order = let l = c.between-middle.ensures.high in omega arith;
      within = inv.within;
      known = known_still (g.A.Arena.ids c.tries.sided.arena) (g.A.Arena.ids c.solve_side.new.sided.arena) c.tries.it
          c.solve_side.ensures.stay inv.known;
      carried = λ d of begun.
          carried_failed (g.met.A.Arena.exact c.args.sided.now.arena d of).1 (g.A.Arena.game c.tries.sided.arena)
          inv.game c.args.first c.args.added.now c.in_ok-sided.field-0.items c.between-middle.result
          c.in_ok-sided.ensures (g.A.Arena.ids c.tries.sided.arena) c.tries.low c.tries.far (inv.carried d of begun)
          (g.A.Arena.ids c.solve_side.new.sided.arena) c.solve_side.new.far c.in_ok-better.field-0
          (c.in_ok-better.ensures.carried d (inv.stay.of d of)) c.in-None.is c.between-middle.ensures.low;
      failed = λ d of failed.
          failed_prefix d c.args.first c.args.added.now c.in_ok-sided.field-0.items c.between-middle.result
          c.in_ok-sided.ensures c.tries.sided.upper c.args.sided.now.upper inv.side
          (of_nothing c.in_ok-better.field-0 _ _ (c.in_ok-better.ensures.found d (inv.stay.of d of)) c.in-None.is);
      won = λ d of won.
          won_still d c.args.first c.args.added.now c.args.sided.now.upper (g.A.Arena.ids c.tries.sided.arena)
          (g.A.Arena.ids c.solve_side.new.sided.arena) c.tries.it c.tries.high c.solve_side.ensures.stay inv.known
          (inv.won d of won);
    }

pub returns-clause-first : goal.returns-clause-first
returns-clause-first g c = λ d of failed won.
    let inv = c.tries.invariant in
    let e : c.tries.low ≡ c.tries.high = let o = inv.order in let t = c.tries-test.false in omega arith in
    record {
      failed = subst (λ (n : ℕ). AreFailed d c.args.first c.args.added.now c.args.sided.now.upper n) e
          (inv.failed d of failed);
      won = inv.won d of won;
    }

pub tries-preserved-in-Some : goal.tries-preserved-in-Some
tries-preserved-in-Some g c =
    let inv = c.tries.invariant in
    record {
      stay = stay_then inv.stay c.solve_side.ensures.stay;
      game = c.solve_side.ensures.game ∙ inv.game;
      side = c.solve_side.ensures.side ∙ inv.side;
      order = c.between-middle.ensures.low;
      within = let h = c.between-middle.ensures.high in let w = inv.within in omega arith;
      known = subst (λ (o : Option Iterates). KnowsSome (g.A.Arena.ids c.solve_side.new.sided.arena) o) c.in-Some.is
          c.in_ok-better.ensures.known;
      carried = λ d of begun.
          carried_won (g.met.A.Arena.exact c.args.sided.now.arena d of).1 (g.A.Arena.game c.tries.sided.arena)
          inv.game c.args.first c.args.added.now c.in_ok-sided.field-0.items c.between-middle.result
          c.in_ok-sided.ensures (g.A.Arena.ids c.tries.sided.arena) c.tries.low c.tries.far (inv.carried d of begun)
          (g.A.Arena.ids c.solve_side.new.sided.arena) c.solve_side.new.far c.in_ok-better.field-0
          (c.in_ok-better.ensures.carried d (inv.stay.of d of)) c.in-Some.better c.in-Some.is;
      failed = inv.failed;
      won = λ d of won.
          won_prefix d c.args.first c.args.added.now c.in_ok-sided.field-0.items c.between-middle.result
          c.in_ok-sided.ensures c.tries.sided.upper c.args.sided.now.upper inv.side
          (g.A.Arena.ids c.solve_side.new.sided.arena) c.in-Some.better
          (let h = c.between-middle.ensures.high in let w = inv.within in omega arith)
          (of_some c.in_ok-better.field-0 _ _ c.in-Some.better
          (c.in_ok-better.ensures.found d (inv.stay.of d of)) c.in-Some.is);
    }

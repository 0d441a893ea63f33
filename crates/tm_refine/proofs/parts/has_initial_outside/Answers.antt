use Rattle.std.proofs.Common.{◌&&◌, Bool, sym, ap, ◌∙◌, subst}
use Rattle.tm_dd.specs.Table.{means}
use Rattle.tm_game.proofs.Growing.{grows_then}
use Rattle.tm_refine.proofs.PoolKeeps.{decide_grown}
use Rattle.tm_refine.specs.Solved.{IsOut}
use Rattle.tm_solve_exact.specs.Exact.{set_of}
use Rattle.tm_refine.proofs.PoolParts.{out_set, out_told, starts_known}
use Rattle.tm_refine.proofs.parts.has_initial_outside.Goals as goal

pub and-requires-clause-f : goal.and-requires-clause-f
and-requires-clause-f c =
    starts_known c.args.game.now c.requires.can c.initial-initial.result c.initial-initial.ensures.states

pub and-requires-clause-g : goal.and-requires-clause-g
and-requires-clause-g c = c.complement.ensures.known c.args.game.now.diagrams.table c.requires.set.set.known

pub least-requires : goal.least-requires
least-requires c =
    out_set c.args.game.now c.and.new.self c.requires.can c.and.ensures.grows c.args.set c.initial-initial.result
    c.in_ok-out.out c.requires.set c.initial-initial.ensures.states c.in_ok-out.ensures.answer.known
    (λ v.
    c.in_ok-out.ensures.answer.meaning v
    ∙ ap (λ b. means c.and.new.self.diagrams.table c.initial-initial.result v && b)
    (c.complement.ensures.meaning c.and.new.self.diagrams.table v))

pub returns-clause-out : goal.returns-clause-out
returns-clause-out c = λ d can.
    subst (λ (b : Bool). IsOut d (set_of c.args.game.now c.args.set) b) (sym c.is_some.ensures)
    (out_told d c.args.game.now c.and.new.self can c.and.ensures.grows c.args.set c.initial-initial.result
    c.in_ok-out.out c.requires.set (c.initial-initial.ensures.states d can.solve.exact.ordered.of)
    (λ v.
    c.in_ok-out.ensures.answer.meaning v
    ∙ ap (λ b. means c.and.new.self.diagrams.table c.initial-initial.result v && b)
    (c.complement.ensures.meaning c.and.new.self.diagrams.table v)) c.in_ok-found.found
    (c.in_ok-found.ensures.least d
    (decide_grown d c.args.game.now c.and.new.self c.and.ensures.grows can).solve.exact.ordered.of))

pub returns-clause-grows : goal.returns-clause-grows
returns-clause-grows c = grows_then _ _ _ c.and.ensures.grows c.least.ensures.grows

pub returns-in_err-found-clause-grows : goal.returns-in_err-found-clause-grows
returns-in_err-found-clause-grows c = grows_then _ _ _ c.and.ensures.grows c.least.ensures.grows

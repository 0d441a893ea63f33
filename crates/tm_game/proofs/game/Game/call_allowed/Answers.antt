use Rattle.std.proofs.Common.{◌≡◌, Bool, true, false, None, Vec, sym, ◌∙◌, subst, arith}
use Rattle.std.specs.Prelude.{◌↔◌}
use Rattle.std.specs.declared.alloc.Global.{Global}
use Rattle.tm_dd.specs.Table.{assignment, means}
use Rattle.tm_flat.specs.Flat.{flat_terms}
use Rattle.tm_game.specs.Game.{GameData, IsOf}
use Rattle.tm_game.specs.Inner.Called.{AreArgumentBits, IsCallable}
use Rattle.tm_game.specs.Inner.Values.{AreValuesAt}
use Rattle.tm_game.specs.Layout.{game_data}
use Rattle.tm_game.proofs.Allowing.{call_answer, no_call}
use Rattle.tm_game.proofs.DriverMoves.{driver_long}
use Rattle.tm_game.proofs.Extending.{extended_only, grows_from}
use Rattle.tm_game.proofs.LeastStates.{found_none, found_some}
use Rattle.tm_game.proofs.game.Game.call_allowed.Goals as goal
use Rattle.tm_sem.specs.declared.state.Move.TheVariants as moves
use Rattle.tm_sem.specs.Step.{IsAllowed, IsState}
use Rattle.tm_syntax.specs.Design.{DesignTree}

pub returns-in_default-clause-answer : goal.returns-in_default-clause-answer
returns-in_default-clause-answer c =
    let none : c.in_ok-bits.field-0 ≡ None = cc in
    let never = found_none (¬ IsCallable (flat_terms c.self.inside.flat) c.args.task c.args.arguments.now)
    (λ (bits : Vec Bool Global). AreArgumentBits (flat_terms c.self.inside.flat) c.args.task c.args.arguments.now
    bits.items) c.in_ok-bits.field-0 none c.in_ok-bits.ensures in
    subst (λ (g : GameData). (d : DesignTree) → IsOf d g → IsState d c.args.state.now →
    (false ≡ true) ↔ IsAllowed d c.args.state.now (moves.Call c.args.task c.args.arguments.now)) c.self.view_is
    (λ d of valid. no_call c.self.inside d of c.args.state.now c.args.task c.args.arguments.now never)

pub permitted_step-requires-clause-game : goal.permitted_step-requires-clause-game
permitted_step-requires-clause-game c = c.self.invariant.steps.known

pub permitted_step-requires-clause-index : goal.permitted_step-requires-clause-index
permitted_step-requires-clause-index c =
    let bits = found_some (¬ IsCallable (flat_terms c.self.inside.flat) c.args.task c.args.arguments.now)
    (λ (bits : Vec Bool Global). AreArgumentBits (flat_terms c.self.inside.flat) c.args.task c.args.arguments.now
    bits.items) c.in_ok-bits.field-0 c.in-Some.bits c.in-Some.is c.in_ok-bits.ensures in
    omega (arith, driver_long c.self.inside c.self.invariant, bits.callable.there)

pub invariant_of-self : goal.invariant_of-self
invariant_of-self c =
    extended_only c.self.inside c.permitted_step.new.dd c.self.invariant c.permitted_step.ensures.extends

pub invariant_of-self-2 : goal.invariant_of-self-2
invariant_of-self-2 c =
    extended_only c.self.inside c.permitted_step.new.dd c.self.invariant c.permitted_step.ensures.extends

pub returns-in_err-permitted-clause-grows : goal.returns-in_err-permitted-clause-grows
returns-in_err-permitted-clause-grows c =
    grows_from c.self.inside _ c.self.view_is c.permitted_step.new.dd c.self.inside.recent
    c.permitted_step.ensures.extends

pub returns-clause-grows : goal.returns-clause-grows
returns-clause-grows c =
    grows_from c.self.inside _ c.self.view_is c.permitted_step.new.dd c.self.inside.recent
    c.permitted_step.ensures.extends

pub returns-clause-answer : goal.returns-clause-answer
returns-clause-answer c =
    let bits = found_some (¬ IsCallable (flat_terms c.self.inside.flat) c.args.task c.args.arguments.now)
    (λ (bits : Vec Bool Global). AreArgumentBits (flat_terms c.self.inside.flat) c.args.task c.args.arguments.now
    bits.items) c.in_ok-bits.field-0 c.in-Some.bits c.in-Some.is c.in_ok-bits.ensures in
    let own = subst
    (λ bs. AreArgumentBits (flat_terms c.self.inside.flat) c.args.task c.args.arguments.now bs)
    (sym c.deref.ensures.value) bits in
    let at : AreValuesAt (game_data c.self.inside) c.args.state.now c.deref.result.now c.in_ok-values.values.items =
    subst (λ (g : GameData). AreValuesAt g c.args.state.now c.deref.result.now c.in_ok-values.values.items)
    (sym c.self.view_is) c.in_ok-values.ensures in
    let worth : c.eval.result
    ≡ means c.permitted_step.new.dd.table c.in_ok-permitted.permitted (assignment c.in_ok-values.values.items) =
    c.eval.ensures.value
    ∙ (λ i. means (c.store.ensures.value i) c.in_ok-permitted.permitted (assignment (c.deref-2.ensures.value i))) in
    subst (λ (g : GameData). (d : DesignTree) → IsOf d g → IsState d c.args.state.now →
    (c.eval.result ≡ true) ↔ IsAllowed d c.args.state.now (moves.Call c.args.task c.args.arguments.now))
    c.self.view_is
    (λ d of valid.
    call_answer c.self.inside c.self.invariant d of c.args.state.now valid c.deref.result.now
    c.in_ok-values.values.items at c.permitted_step.new.dd.table c.in_ok-permitted.permitted c.eval.result worth
    c.args.task c.args.arguments.now own c.in_ok-permitted.ensures.answer)

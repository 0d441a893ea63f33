use Rattle.std.proofs.Common.{◌≡◌, ◌+◌, true, [], length, sym, ◌∙◌, subst, arith}
use Rattle.std.specs.Prelude.{◌↔◌}
use Rattle.std.proofs.lemmas.List.{length-map}
use Rattle.tm_flat.specs.Flat.{flat_terms, step_terms}
use Rattle.tm_dd.specs.Table.{assignment, means}
use Rattle.tm_game.specs.Game.{GameData, IsOf}
use Rattle.tm_game.specs.Layout.{game_data}
use Rattle.tm_game.specs.Inner.Values.{AreValuesAt}
use Rattle.tm_game.proofs.Allowing.{leave_answer}
use Rattle.tm_game.proofs.DriverMoves.{driver_long}
use Rattle.tm_game.proofs.Extending.{extended_only, grows_from}
use Rattle.tm_game.proofs.game.Game.leave_allowed.Goals as goal
use Rattle.tm_sem.specs.declared.state.Move.TheVariants as moves
use Rattle.tm_sem.specs.Step.{IsAllowed, IsState}
use Rattle.tm_syntax.specs.Design.{DesignTree}

pub permitted_leaves-requires-clause-game : goal.permitted_leaves-requires-clause-game
permitted_leaves-requires-clause-game c = c.self.invariant.steps.known

pub permitted_leaves-requires-clause-steps : goal.permitted_leaves-requires-clause-steps
permitted_leaves-requires-clause-steps c =
    omega (
      arith,
      driver_long c.self.inside c.self.invariant,
      length-map c.self.inside.flat.tasks.items step_terms,
      c.self.inside.flat.tasks.ok.0,
    )

pub invariant_of-self : goal.invariant_of-self
invariant_of-self c =
    extended_only c.self.inside c.permitted_leaves.new.dd c.self.invariant c.permitted_leaves.ensures.extends

pub invariant_of-self-2 : goal.invariant_of-self-2
invariant_of-self-2 c =
    extended_only c.self.inside c.permitted_leaves.new.dd c.self.invariant c.permitted_leaves.ensures.extends

pub returns-in_err-permitted-clause-grows : goal.returns-in_err-permitted-clause-grows
returns-in_err-permitted-clause-grows c =
    grows_from c.self.inside _ c.self.view_is c.permitted_leaves.new.dd c.self.inside.recent
    c.permitted_leaves.ensures.extends

pub returns-clause-grows : goal.returns-clause-grows
returns-clause-grows c =
    grows_from c.self.inside _ c.self.view_is c.permitted_leaves.new.dd c.self.inside.recent
    c.permitted_leaves.ensures.extends

pub returns-clause-answer : goal.returns-clause-answer
returns-clause-answer c =
    let at : AreValuesAt (game_data c.self.inside) c.args.state.now [] c.in_ok-values.values.items =
    subst (λ (g : GameData). AreValuesAt g c.args.state.now [] c.in_ok-values.values.items) (sym c.self.view_is)
    c.in_ok-values.ensures in
    let count : c.len-first.result + 1 ≡ length (flat_terms c.self.inside.flat).tasks + 1 =
    omega (arith, length-map c.self.inside.flat.tasks.items step_terms, c.self.inside.flat.tasks.ok.0) in
    let worth : c.eval.result
    ≡ means c.permitted_leaves.new.dd.table c.in_ok-permitted.permitted (assignment c.in_ok-values.values.items) =
    c.eval.ensures.value
    ∙ (λ i. means (c.store.ensures.value i) c.in_ok-permitted.permitted (assignment (c.deref.ensures.value i))) in
    subst (λ (g : GameData). (d : DesignTree) → IsOf d g → IsState d c.args.state.now →
    (c.eval.result ≡ true) ↔ IsAllowed d c.args.state.now (moves.Leave c.args.process)) c.self.view_is
    (λ d of valid.
    leave_answer c.self.inside c.self.invariant d of c.args.state.now valid [] c.in_ok-values.values.items at
    c.permitted_leaves.new.dd.table c.in_ok-permitted.permitted c.eval.result worth c.args.process
    (c.len-first.result + 1) count
    c.in_ok-permitted.ensures.answer)

use Rattle.std.proofs.Common.{◌≡◌, true, sym, ap, ◌∙◌, subst}
use Rattle.std.specs.Prelude.{◌↔◌, IfOk}
use Rattle.tm_game.specs.Game.{IsOf}
use Rattle.tm_game.proofs.game.Game.allowed.Goals as goal
use Rattle.tm_sem.specs.declared.state.Move.{Move}
use Rattle.tm_sem.specs.declared.state.Move.TheVariants as moves
use Rattle.tm_sem.specs.Step.{IsAllowed, IsState}
use Rattle.tm_syntax.specs.Design.{DesignTree}

pub returns-in-Call-clause-answer : goal.returns-in-Call-clause-answer
returns-in-Call-clause-answer c =
    let args : c.deref.result.now ≡ c.in-Call.arguments = c.deref.ensures ∙ c.arguments.view_is in
    subst
    (λ (m : Move). IfOk c.call_allowed.result (λ yes. (d : DesignTree) → IsOf d c.args.self.now →
    IsState d c.args.state.now → (yes ≡ true) ↔ IsAllowed d c.args.state.now m))
    (ap (moves.Call c.in-Call.task) args ∙ sym c.in-Call.is) c.call_allowed.ensures.answer

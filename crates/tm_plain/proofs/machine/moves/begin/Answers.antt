use Rattle.std.proofs.Common.{◌≡◌, ap, ◌∙◌, subst}
use Rattle.std.proofs.lemmas.Result.{IfOk-weaker}
use Rattle.tm_sem.specs.State.{StateData}
use Rattle.tm_sem.specs.Value.{plain_memory}
use Rattle.tm_plain_exprs.specs.Kept.{Keeps}
use Rattle.tm_plain_bodies.specs.declared.course.Course.{Course}
use Rattle.tm_plain.proofs.machine.moves.begin.Goals as goal

pub returns-in-Ok-clause-keeps : goal.returns-in-Ok-clause-keeps
returns-in-Ok-clause-keeps c =
    let s = c.args.state.now in
    let values : c.in-Ok.values.items ≡ s.values =
    c.in-Ok.ensures.items ∙ c.as_slice.ensures.value ∙ ap (λ (s : StateData). s.values) c.state.view_is in
    IfOk-weaker c.new.result _ _
    (λ (course : Course) keeps x. subst (λ vs. Keeps x course.store (plain_memory vs)) values (keeps x))
    c.new.ensures.keeps

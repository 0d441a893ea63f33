use Rattle.std.proofs.Common.{◌≡◌, List, ℕ, length, sym, ap, ◌∙◌}
use Rattle.std.proofs.lemmas.Result.{IfOk-weaker}
use Rattle.tm_sem.specs.declared.state.Outcome.TheVariants.{Next}
use Rattle.tm_sem.specs.State.{StateData}
use Rattle.tm_plain.proofs.machine.moves.moved.Goals as goal

pub returns-in-Ok : goal.returns-in-Ok
returns-in-Ok c = λ x m kept counted.
    let count : c.len.result ≡ length c.args.state.now.values =
    c.len.ensures ∙ c.state.inside.values.ok.0 ∙ ap (λ (s : StateData). length s.values) c.state.view_is in
    IfOk-weaker c.left_state.result _ _
    (λ o is. is ∙ ap (λ (places : List ℕ). Next (record { values = m.values; places = places; last = c.args.last }))
    c.in-Ok.ensures)
    (c.left_state.ensures x m kept (counted ∙ sym count))

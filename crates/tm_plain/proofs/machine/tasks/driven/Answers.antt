use Rattle.std.proofs.Common.{◌≡◌, length, sym, ap, ◌∙◌}
use Rattle.std.proofs.lemmas.Result.{IfOk-weaker}
use Rattle.tm_sem.specs.declared.state.Outcome.TheVariants.{Next}
use Rattle.tm_sem.specs.State.{StateData}
use Rattle.tm_plain_bodies.specs.Tables.{tables_of}
use Rattle.tm_plain.proofs.machine.tasks.driven.Goals as goal

pub returns : goal.returns
returns c = λ d n keeps counted.
    let places : c.in_ok-places.places.items ≡ c.args.state.now.places =
    c.in_ok-places.ensures.items ∙ c.as_slice.ensures.value ∙ ap (λ (s : StateData). s.places) c.state.view_is in
    let count : c.len.result ≡ length c.args.state.now.values =
    c.len.ensures ∙ c.state.inside.values.ok.0 ∙ ap (λ (s : StateData). length s.values) c.state.view_is in
    IfOk-weaker c.left_state.result _ _
    (λ o is. is ∙ (λ i. Next (record { values = n.values; places = places i; last = 1 })))
    (c.left_state.ensures (tables_of d) n keeps (counted ∙ sym count))

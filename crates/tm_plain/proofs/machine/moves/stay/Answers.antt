use Rattle.std.proofs.Common.{◌≡◌, ap, ◌∙◌}
use Rattle.tm_sem.specs.declared.state.Outcome.TheVariants.{Next}
use Rattle.tm_sem.specs.State.{StateData}
use Rattle.tm_plain.proofs.Empties.{empty_so, filled_so, left_over}
use Rattle.tm_plain.proofs.Ending.{stays, stays_nowhere}
use Rattle.tm_plain.proofs.machine.moves.stay.Goals as goal

pub returns-then-not-is_empty : goal.returns-then-not-is_empty
returns-then-not-is_empty c = λ d.
    stays_nowhere d c.args.state.now c.args.last c.args.choices.now
    (left_over c.args.choices.now
    (filled_so c.args.choices.now c.is_empty.result c.is_empty.ensures c.if-not-is_empty.true))

pub returns : goal.returns
returns c = λ d.
    let values : c.in_ok-values.values.items ≡ c.args.state.now.values =
    c.in_ok-values.ensures.items ∙ c.as_slice.ensures.value ∙ ap (λ (s : StateData). s.values) c.state.view_is in
    let places : c.in_ok-places.places.items ≡ c.args.state.now.places =
    c.in_ok-places.ensures.items ∙ c.as_slice-2.ensures.value ∙ ap (λ (s : StateData). s.places) c.state.view_is in
    stays d c.args.state.now c.args.last c.args.choices.now
    (empty_so c.args.choices.now c.is_empty.result c.is_empty.ensures c.if-not-is_empty.false) _
    (λ i. Next (record { values = values i; places = places i; last = c.args.last }))

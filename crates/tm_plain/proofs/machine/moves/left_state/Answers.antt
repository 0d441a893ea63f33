use Rattle.std.proofs.Common.{List, ℕ, ap}
use Rattle.tm_sem.specs.declared.state.Outcome.TheVariants.{Next}
use Rattle.tm_plain.proofs.machine.moves.left_state.Goals as goal

pub returns : goal.returns
returns c = λ x m keeps count.
    ap (λ (values : List ℕ).
    Next (record { values = values; places = c.args.places.items; last = c.args.last }))
    (c.in_ok-values.ensures x m keeps count)

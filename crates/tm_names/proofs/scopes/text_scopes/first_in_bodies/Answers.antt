use Rattle.std.proofs.Common.{sym, ap, ◌∙◌}
use Rattle.std.specs.List.{flat_map}
use Rattle.tm_syntax.specs.Places.{earliest_of}
use Rattle.tm_syntax.specs.Faults.Marks.{Mark, first_mark}
use Rattle.tm_syntax.proofs.Places.{earliest-append}
use Rattle.tm_names.specs.Inner.Repeats.{repeat_of}
use Rattle.tm_names.proofs.scopes.text_scopes.first_in_bodies.Goals as goal

pub returns : goal.returns
returns c =
    c.earlier_mark.ensures
    ∙ (λ i. earliest_of (λ (m : Mark). m.place)
    ((c.first_in_scopes-in_processes.ensures
    ∙ ap (λ ss. first_mark (flat_map repeat_of ss)) c.as_slice.ensures.value) i)
    ((c.first_in_scopes-in_tasks.ensures
    ∙ ap (λ ss. first_mark (flat_map repeat_of ss)) c.as_slice-2.ensures.value) i))
    ∙ sym (earliest-append (λ (m : Mark). m.place) (flat_map repeat_of c.args.scopes.now.processes.items)
    (flat_map repeat_of c.args.scopes.now.tasks.items))

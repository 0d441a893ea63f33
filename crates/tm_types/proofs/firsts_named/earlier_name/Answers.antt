use Rattle.std.proofs.Common.{sym, ◌∙◌}
use Rattle.tm_syntax.specs.Places.{earliest_of}
use Rattle.tm_syntax.specs.Faults.Marks.{Mark}
use Rattle.tm_syntax.proofs.Places.{earliest-append}
use Rattle.tm_types.proofs.firsts_named.earlier_name.Goals as goal

pub returns : goal.returns
returns c = λ xs ys first second.
    c.earlier_mark.ensures
    ∙ (λ i. earliest_of (λ (m : Mark). m.place) (first i) (second i))
    ∙ sym (earliest-append (λ (m : Mark). m.place) xs ys)

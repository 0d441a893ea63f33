use Rattle.std.proofs.Common.{sym, ap, ◌∙◌}
use Rattle.std.specs.Option.{option_map}
use Rattle.tm_syntax.specs.Faults.Operands as text
use Rattle.tm_scope.specs.Types.{ty_of}
use Rattle.tm_types.specs.Firsts.{first_of}
use Rattle.tm_types.proofs.mismatches.asked.value_faults.Goals as goal

pub returns-in-Some : goal.returns-in-Some
returns-in-Some c = λ xs tx x.
    c.judged.ensures xs x.first
    ∙ ap (λ b. first_of (text.judged xs b c.args.place))
    (c.is_value_of.ensures ∙ ap (text.value_fits (ty_of c.in-Some.ty)) x.found)
    ∙ ap (λ o. first_of (text.value_faults (option_map ty_of o) c.args.place xs tx)) (sym c.in-Some.is)

pub returns-in-None : goal.returns-in-None
returns-in-None c = λ xs tx x.
    x.first ∙ ap (λ o. first_of (text.value_faults (option_map ty_of o) c.args.place xs tx)) (sym c.in-None.is)

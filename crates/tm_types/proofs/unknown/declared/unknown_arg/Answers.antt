use Rattle.std.proofs.Common.{ap, ◌∙◌}
use Rattle.tm_syntax.specs.Scopes.Declared.{members, sort_in}
use Rattle.tm_syntax.specs.Faults.Marks.{first_mark}
use Rattle.tm_syntax.specs.Faults.Names.{undeclared}
use Rattle.tm_scope.specs.Context.{context_of}
use Rattle.tm_types.proofs.unknown.declared.unknown_arg.Goals as goal

pub returns : goal.returns
returns c =
    c.undeclared.ensures
    ∙ ap (λ o. first_mark (undeclared o c.args.arg.now))
    (c.member_sort.ensures ∙ ap (sort_in (members (context_of c.args.site.now).template)) c.as_bytes.ensures)

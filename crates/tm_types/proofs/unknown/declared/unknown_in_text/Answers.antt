use Rattle.std.proofs.Common.{ap, ◌∙◌}
use Rattle.tm_syntax.specs.Tree.View.{spec_tree}
use Rattle.tm_syntax.specs.Scopes.Declared.{text_sort}
use Rattle.tm_syntax.specs.Faults.Marks.{first_mark}
use Rattle.tm_syntax.specs.Faults.Names.{undeclared}
use Rattle.tm_types.proofs.unknown.declared.unknown_in_text.Goals as goal

pub returns : goal.returns
returns c =
    c.undeclared.ensures
    ∙ ap (λ o. first_mark (undeclared o c.args.name.now))
    (c.text_sort.ensures ∙ ap (text_sort (spec_tree c.args.names.now)) c.as_bytes.ensures)

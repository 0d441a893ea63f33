use Rattle.std.proofs.Common.{◌++◌, [], sym, ap, ◌∙◌}
use Rattle.std.proofs.lemmas.List.{append-nil}
use Rattle.tm_syntax.specs.Tree.View.{value_tree}
use Rattle.tm_syntax.specs.Scopes.Declared.{meaning}
use Rattle.tm_syntax.specs.Scopes.Types.{named_type}
use Rattle.tm_syntax.specs.Faults.Mismatches.{value_call_faults}
use Rattle.tm_syntax.specs.Faults.Operands.{is_assigned, wrong_sort}
use Rattle.tm_scope.specs.Context.{context_of}
use Rattle.tm_types.specs.Firsts.{first_of}
use Rattle.tm_types.proofs.mismatches.bodies.bare_faults.Goals as goal

pub returns : goal.returns
returns c =
    let at = context_of c.args.at.now in
    let names = c.args.path.now in
    let target = wrong_sort is_assigned (meaning at names) in
    let call = value_call_faults at (named_type at names) (value_tree c.args.value.now) in
    c.earlier_place.ensures.joined (target ++ []) call
    (c.wrong_path-of_target.ensures ∙ ap first_of (sym (append-nil target)))
    (c.value_call_faults.ensures
    ∙ ap (λ ty. first_of (value_call_faults at ty (value_tree c.args.value.now)))
    (c.named_type.ensures ∙ ap (λ p. named_type (context_of p) names) c.types.ensures))

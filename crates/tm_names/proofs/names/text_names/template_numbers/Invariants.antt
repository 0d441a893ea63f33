use Rattle.std.proofs.Common.{◌≡◌, ◌&&◌, ℕ, List, position, take}
use Rattle.tm_syntax.specs.Tree.View.{spec_tree}
use Rattle.tm_syntax.specs.Scopes.Names.{is_spelled}
use Rattle.tm_scope.specs.Directory.{index_of}
use Rattle.tm_names.specs.Inner.TemplateNumbers.{stands_first}
use Rattle.tm_names.proofs.names.text_names.template_numbers.Given as goal

abbrev pub invariant-loop-number : goal.invariant-loop-number
invariant-loop-number l = (name : List ℕ) →
    index_of l.numbers name
    ≡ position (λ t. is_spelled name t.name && stands_first (spec_tree l.spec) t.name)
    (take l.number l.spec.templates.items)

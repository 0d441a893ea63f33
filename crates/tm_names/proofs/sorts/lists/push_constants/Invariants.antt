use Rattle.std.proofs.Common.{◌≡◌, ◌++◌, map, drop}
use Rattle.tm_syntax.specs.declared.tree.Ident.{Ident}
use Rattle.tm_syntax.specs.Scopes.Declared.{declared, a_constant}
use Rattle.tm_names.specs.Sorts.{all_declared}
use Rattle.tm_names.proofs.sorts.lists.push_constants.Given as goal

abbrev pub invariant-loop-name : goal.invariant-loop-name
invariant-loop-name l =
    all_declared l.all.items ++ map (λ (x : Ident). declared a_constant x) (drop l.name-index l.constants)
    ≡ all_declared l.initial.all.items ++ map (λ (x : Ident). declared a_constant x) l.constants

use Rattle.std.proofs.Common.{◌≡◌, ◌++◌, map, drop}
use Rattle.tm_syntax.specs.Tree.{LocalTree}
use Rattle.tm_syntax.specs.Tree.View.{local_tree}
use Rattle.tm_syntax.specs.Design.{kept_var}
use Rattle.tm_inst.proofs.vars.push_locals.Given as goal

abbrev pub invariant-loop-local : goal.invariant-loop-local
invariant-loop-local l =
    l.vars.items ++ map (λ (d : LocalTree). kept_var l.number l.base d.ty d.name)
    (map local_tree (drop l.local-index l.locals))
    ≡ l.initial.vars.items ++ map (λ (d : LocalTree). kept_var l.number l.base d.ty d.name) (map local_tree l.locals)

use Rattle.std.proofs.Common.{◌≡◌, ◌++◌, map, drop}
use Rattle.tm_syntax.specs.declared.tree.Param.{Param}
use Rattle.tm_syntax.specs.Design.{kept_var}
use Rattle.tm_inst.proofs.vars.push_params.Given as goal

abbrev pub invariant-loop-param : goal.invariant-loop-param
invariant-loop-param l =
    l.vars.items ++ map (λ (p : Param). kept_var l.number l.base p.ty p.name) (drop l.param-index l.params)
    ≡ l.initial.vars.items ++ map (λ (p : Param). kept_var l.number l.base p.ty p.name) l.params

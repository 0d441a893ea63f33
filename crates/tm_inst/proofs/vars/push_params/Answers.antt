use Rattle.std.proofs.Common.{◌++◌, ◌∷◌, ℕ, [], map, refl, arith}
use Rattle.tm_syntax.specs.declared.tree.Param.{Param}
use Rattle.tm_syntax.specs.Design.{kept_var}
use Rattle.tm_inst.proofs.Listing.{listed_all, listed_more}
use Rattle.tm_inst.proofs.vars.push_params.Goals as goal

pub loop-param-preserved : goal.loop-param-preserved
loop-param-preserved c =
    let f = λ (p : Param). kept_var c.args.number c.args.base.now p.ty p.name in
    let i : ℕ = c.loop-param.param-index in
    listed_more (λ _ ps. map f ps) (λ _ p. f p ∷ []) (λ k p ps. refl) c.args.params.now i c.param-item.result
    c.loop-param.vars.items c.push_kept.new.vars.items (c.args.vars.now.items ++ map f c.args.params.now) (omega arith)
    c.param-item.is c.in_ok-push_kept.ensures c.loop-param.invariant

pub returns : goal.returns
returns c =
    let f = λ (p : Param). kept_var c.args.number c.args.base.now p.ty p.name in
    listed_all (λ _ ps. map f ps) (λ _ p. f p ∷ []) (λ k p ps. refl) c.args.params.now c.loop-param.param-index
    c.loop-param.vars.items (c.args.vars.now.items ++ map f c.args.params.now) refl (omega arith) c.loop-param.invariant

use Rattle.std.proofs.Common.{◌++◌, ℕ, map, refl, arith}
use Rattle.std.specs.List.{flat_map}
use Rattle.tm_syntax.specs.Tree.View.{spec_tree, var_tree}
use Rattle.tm_syntax.specs.Design.{declared_vars}
use Rattle.tm_inst.proofs.Listing.{listed_all, listed_more}
use Rattle.tm_inst.proofs.vars.push_declared_vars.Goals as goal

pub loop-var-preserved : goal.loop-var-preserved
loop-var-preserved c =
    let f = declared_vars (spec_tree c.args.scopes.now) c.args.number c.args.base.now in
    let i : ℕ = c.loop-var.var-index in
    listed_more (λ _ vs. flat_map f (map var_tree vs)) (λ _ v. f (var_tree v)) (λ k v vs. refl) c.args.declared.now i
    c.var-item.result c.loop-var.vars.items c.push_declared.new.vars.items
    (c.args.vars.now.items ++ flat_map f (map var_tree c.args.declared.now)) (omega arith) c.var-item.is
    c.in_ok-push_declared.ensures c.loop-var.invariant

pub returns : goal.returns
returns c =
    let f = declared_vars (spec_tree c.args.scopes.now) c.args.number c.args.base.now in
    listed_all (λ _ vs. flat_map f (map var_tree vs)) (λ _ v. f (var_tree v)) (λ k v vs. refl) c.args.declared.now
    c.loop-var.var-index c.loop-var.vars.items
    (c.args.vars.now.items ++ flat_map f (map var_tree c.args.declared.now)) refl (omega arith) c.loop-var.invariant

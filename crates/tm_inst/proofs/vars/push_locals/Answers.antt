use Rattle.std.proofs.Common.{◌++◌, ◌∷◌, ℕ, [], map, refl, arith}
use Rattle.tm_syntax.specs.declared.tree.LocalDef.{LocalDef}
use Rattle.tm_syntax.specs.Tree.{LocalTree}
use Rattle.tm_syntax.specs.Tree.View.{local_tree}
use Rattle.tm_syntax.specs.Design.{kept_var}
use Rattle.tm_inst.proofs.Listing.{listed_all, listed_more}
use Rattle.tm_inst.proofs.vars.push_locals.Goals as goal

pub loop-local-preserved : goal.loop-local-preserved
loop-local-preserved c =
    let f = λ (d : LocalTree). kept_var c.args.number c.args.base.now d.ty d.name in
    let i : ℕ = c.loop-local.local-index in
    listed_more (λ _ ls. map f (map local_tree ls)) (λ _ (d : LocalDef). f (local_tree d) ∷ [])
    (λ k d ds. refl) c.args.locals.now i
    c.local-item.result c.loop-local.vars.items c.push_kept.new.vars.items
    (c.args.vars.now.items ++ map f (map local_tree c.args.locals.now)) (omega arith) c.local-item.is
    c.in_ok-push_kept.ensures c.loop-local.invariant

pub returns : goal.returns
returns c =
    let f = λ (d : LocalTree). kept_var c.args.number c.args.base.now d.ty d.name in
    listed_all (λ _ ls. map f (map local_tree ls)) (λ _ (d : LocalDef). f (local_tree d) ∷ [])
    (λ k d ds. refl) c.args.locals.now
    c.loop-local.local-index c.loop-local.vars.items (c.args.vars.now.items ++ map f (map local_tree c.args.locals.now))
    refl (omega arith) c.loop-local.invariant

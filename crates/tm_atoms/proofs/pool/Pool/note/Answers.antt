use Rattle.std.proofs.Common.{◌∷◌, [], subst}
use Rattle.std.proofs.lemmas.Result.{on_ok_weaker}
use Rattle.tm_syntax.specs.Tree.View.{expr_tree}
use Rattle.tm_syntax.specs.Design.Atoms.{resolved}
use Rattle.tm_scope.specs.Cells.{scope_of}
use Rattle.tm_scope.specs.declared.cells.site_body.SiteBody.{SiteBody}
use Rattle.tm_atoms.specs.Inner.Numbers.{IsNumbered}
use Rattle.tm_atoms.specs.Inner.Pools.{pool_of}
use Rattle.tm_atoms.proofs.ExprAtoms.{adds-resolved}
use Rattle.tm_atoms.proofs.pool.Pool.note.Goals as goal

pub returns : goal.returns
returns c =
    on_ok_weaker c.keep.result (λ h d over.
    let has = c.in_ok-numbered.ensures d over in
    adds-resolved d (pool_of c.args.self.now) (pool_of c.keep.new.self) c.expr.new.self
    (record { scope = scope_of c.args.at; expr = expr_tree c.args.e.now } ∷ []) has.grown
    (h d has.sound
    (subst (λ (at : SiteBody).
    IsNumbered c.expr.new.self c.in_ok-numbered.numbered (resolved d (scope_of at) (expr_tree c.args.e.now)))
    c.requires has.is))) c.keep.ensures

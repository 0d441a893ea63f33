use Rattle.std.proofs.Common.{◌≡◌, sym, subst}
use Rattle.std.specs.Prelude.{IfSome}
use Rattle.std.proofs.lemmas.Result.{on_ok_weaker}
use Rattle.tm_syntax.specs.Tree.{ExprTree}
use Rattle.tm_syntax.specs.Tree.View.{expr_tree}
use Rattle.tm_syntax.specs.Design.{DesignTree}
use Rattle.tm_syntax.specs.Design.Atoms.{expr_atoms}
use Rattle.tm_syntax.specs.Design.Scope.{Scope}
use Rattle.tm_scope.specs.Cells.{HasCells, ScopedCells, scope_of}
use Rattle.tm_atoms.specs.Inner.Pools.{Adds, PoolTables, pool_of}
use Rattle.tm_atoms.proofs.pool.Pool.note_within.Goals as goal

-- the atoms of an expression are noted in the scope that is there
abbrev AreNotedIn : PoolTables → PoolTables → Scope → ExprTree → ScopedCells → Type 0
AreNotedIn old new at e s = (d : DesignTree) → HasCells s.tables d → Adds d old new (expr_atoms d at e)

pub note_atoms-requires : goal.note_atoms-requires
note_atoms-requires c = subst (λ o. IfSome o (λ (s : ScopedCells). s.at ≡ c.args.at)) c.in-Some.is c.requires

pub returns-in-Some : goal.returns-in-Some
returns-in-Some c =
    on_ok_weaker c.note_atoms.result (λ h.
    subst (λ o. IfSome o (AreNotedIn (pool_of c.args.self.now) (pool_of c.note_atoms.new.self) (scope_of c.args.at)
    (expr_tree c.args.e.now))) (sym c.in-Some.is) h) c.note_atoms.ensures

pub returns-in-None : goal.returns-in-None
returns-in-None c =
    subst (λ o. IfSome o (AreNotedIn (pool_of c.args.self.now) (pool_of c.args.self.now) (scope_of c.args.at)
    (expr_tree c.args.e.now))) (sym c.in-None.is) tt

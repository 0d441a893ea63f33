-- What a walk of bodies has noted, and what it still owes.
use Rattle.std.specs.Prelude.{◌≡◌, ℕ, suc, ◌<◌, Bool, true, false, ◌&&◌, Option, None, Some, List, [], ◌∷◌, ◌++◌, map, nat_eq, reverse}
use Rattle.std.specs.List.{flat_map, list_any}
use Rattle.std.specs.Option.{option_map_or}
use Rattle.tm_syntax.specs.declared.tree.Ident.{Ident}
use Rattle.tm_syntax.specs.Tree.{BodyTree, ExprTree, StmtTree, assign}
use Rattle.tm_syntax.specs.Tree.View.{local_tree, stmt_trees}
use Rattle.tm_syntax.specs.Scopes.Parts.{all_stmts, own_calls, stmts_in}
use Rattle.tm_syntax.specs.Scopes.Pauses.{call_depth}
use Rattle.tm_syntax.specs.Design.{DesignTree}
use Rattle.tm_syntax.specs.Design.Atoms.{Atom, body_atoms, expr_atoms, stmt_conditions}
use Rattle.tm_syntax.specs.Design.Cells.{Called, called}
use Rattle.tm_syntax.specs.Design.Scope.{Scope, Site, site}
use Rattle.tm_scope.specs.Cells.{CellTables, HasCells, scope_of}
use Rattle.tm_scope.specs.Instances.{task_called_at}
use Rattle.tm_scope.specs.declared.members.SiteTask.{SiteTask}
use Rattle.tm_atoms.specs.declared.walk.Row.{Row}
use Rattle.tm_atoms.specs.declared.walk.Row.TheVariants.{Locals, Stmts, Blocks}
use Rattle.tm_atoms.specs.declared.walk.Todo.{Todo}
use Rattle.tm_atoms.specs.declared.walk.Walk.{Walk}
use Rattle.tm_atoms.specs.Pool.{AreNoted, with_atoms}
use Rattle.tm_atoms.specs.Inner.Ranks.{AllDescend}
use Rattle.tm_atoms.specs.Inner.Pools.{Adds, AreNumbered, PoolTables, noted_atoms, pool_of}

-- the tables of a walk: the pool, the tasks whose bodies have been entered, and what is to be walked, the next one
-- first
pub record WalkTables : Type 0 where
  pub pool : PoolTables
  pub entered : List SiteTask
  pub todo : List Todo

-- the tables of a walk, as lists
abbrev pub tables_of : Walk → WalkTables
tables_of w = record { pool = pool_of w.pool; entered = w.entered.keys; todo = reverse w.todo.items }

-- whether two tasks of instances are one
abbrev pub same_site_task : SiteTask → SiteTask → Bool
same_site_task a b = nat_eq a.instance b.instance && nat_eq a.index b.index

-- whether the body of a task has been entered
abbrev pub has_entered : List SiteTask → SiteTask → Bool
has_entered tasks task = list_any (same_site_task task) tasks

-- the statements of a part of a body, with those within them
abbrev pub part_stmts : Row → List StmtTree
part_stmts (Locals ls) = all_stmts (map (λ l. assign (l.name ∷ []) None l.value) (map local_tree ls.now))
part_stmts (Stmts ss) = all_stmts (stmt_trees ss.now)
part_stmts (Blocks bs) = flat_map (λ b. all_stmts (stmt_trees b.items)) bs.now

-- the atoms of what a path calls
abbrev pub call_atoms : DesignTree → Scope → List Ident → List Atom
call_atoms d scope names =
    option_map_or (λ k. body_atoms (call_depth d.spec) d k.scope k.body) (called d scope names) []

-- the atoms of statements, each apart from those within it, with the bodies that they call
abbrev pub stmts_atoms : DesignTree → Scope → List StmtTree → List Atom
stmts_atoms d scope ss =
    flat_map (λ s. flat_map (expr_atoms d scope) (stmt_conditions s) ++ flat_map (call_atoms d scope) (own_calls s)) ss

-- the atoms of a task are noted
abbrev pub IsTaskNoted : DesignTree → List Atom → Called → Type 0
IsTaskNoted d pool k = AreNoted d pool (body_atoms (call_depth d.spec) d k.scope k.body)

-- of the tasks that have been entered, those of a lower rank are noted
abbrev pub LowerNoted : DesignTree → (Scope → ℕ) → ℕ → List Atom → List SiteTask → Type 0
LowerNoted d rank bound pool tasks =
    (task : SiteTask) (k : Called) → has_entered tasks task ≡ true → task_called_at d task ≡ Some k →
    rank k.scope < bound → IsTaskNoted d pool k

-- of the tasks that have been entered, those that had not been before are noted
abbrev pub LaterNoted : DesignTree → List SiteTask → List Atom → List SiteTask → Type 0
LaterNoted d before pool tasks =
    (task : SiteTask) (k : Called) → has_entered tasks task ≡ true → has_entered before task ≡ false →
    task_called_at d task ≡ Some k → IsTaskNoted d pool k

-- all tasks that have been entered are noted
abbrev pub AllNoted : DesignTree → List Atom → List SiteTask → Type 0
AllNoted d pool tasks =
    (task : SiteTask) (k : Called) → has_entered tasks task ≡ true → task_called_at d task ≡ Some k →
    IsTaskNoted d pool k

-- statements of a scope are to be walked next: once their atoms are added, and all that is entered on the way is noted,
-- it goes on so
pub record Owes (d : DesignTree) (rank : Scope → ℕ) (scope : Scope) (ss : List StmtTree) (pool : List Atom)
    (tasks : List SiteTask) (Goes : List Atom → List SiteTask → Type 0) : Type 0
  where
    pub at : Site
    pub there : site d scope.instance ≡ Some at
    pub descend : AllDescend d rank scope ss
    pub lower : LowerNoted d rank (rank scope) pool tasks
    pub goes : (later : List Atom) (entered : List SiteTask) → later ≡ with_atoms d pool (stmts_atoms d scope ss) →
        LaterNoted d tasks later entered → Goes later entered

-- walking what is to be walked leads from a pool to all atoms
abbrev pub Leads : DesignTree → (Scope → ℕ) → List Atom → List Todo → List Atom → List SiteTask → Type 0
Leads d rank all [] pool tasks = (pool ≡ all) × AllNoted d pool tasks
Leads d rank all (t ∷ ts) pool tasks =
    Owes d rank (scope_of t.scope) (part_stmts t.row) pool tasks (λ later entered. Leads d rank all ts later entered)

-- a walk whose pool is in order, and that leads to all atoms
pub record IsWalking (d : DesignTree) (rank : Scope → ℕ) (all : List Atom) (w : WalkTables) : Type 0 where
  pub numbered : AreNumbered d w.pool
  pub leads : Leads d rank all w.todo (noted_atoms w.pool) w.entered

-- what walks statements of a scope that are to be walked next
abbrev pub Settles : DesignTree → (Scope → ℕ) → WalkTables → WalkTables → Scope → List StmtTree → Type 0
Settles d rank old new scope ss =
    (all : List Atom) → AreNumbered d old.pool →
    Owes d rank scope ss (noted_atoms old.pool) old.entered
    (λ later entered. Leads d rank all old.todo later entered) →
    IsWalking d rank all new

-- a walk that has noted a condition of a scope, and has walked nothing
pub record HasNoted (x : CellTables) (old new : WalkTables) (scope : Scope) (e : ExprTree) : Type 0 where
  pub entered : new.entered ≡ old.entered
  pub todo : new.todo ≡ old.todo
  pub adds : (d : DesignTree) → HasCells x d → (at : Site) → site d scope.instance ≡ Some at →
      Adds d old.pool new.pool (expr_atoms d scope e)

-- a walk of which all has been walked that was to be
pub record IsIdle (d : DesignTree) (w : WalkTables) : Type 0 where
  pub numbered : AreNumbered d w.pool
  pub noted : AllNoted d (noted_atoms w.pool) w.entered
  pub todo : w.todo ≡ []

-- a walk that has added these atoms in turn
pub record HasWalked (d : DesignTree) (old new : WalkTables) (atoms : List Atom) : Type 0 where
  pub idle : IsIdle d new
  pub are : noted_atoms new.pool ≡ with_atoms d (noted_atoms old.pool) atoms

-- a body of an instance that is there, whose calls have lower ranks
pub record IsRoot (d : DesignTree) (rank : Scope → ℕ) (b : Scope × BodyTree) : Type 0 where
  pub at : Site
  pub there : site d b.0.instance ≡ Some at
  pub descend : AllDescend d rank b.0 (stmts_in b.1)

-- the atoms of a body, if it is there
abbrev pub seen_atoms : DesignTree → Option (Scope × BodyTree) → List Atom
seen_atoms d found = option_map_or (λ b. body_atoms (suc (call_depth d.spec)) d b.0 b.1) found []

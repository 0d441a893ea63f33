-- Calls on the way of a walk.
use Rattle.std.proofs.Common.{◌≡◌, ℕ, ◌+◌, ◌≤◌, true, false, cond, None, List, [], ◌∷◌, ◌++◌, sym, ap, ◌∙◌, subst, arith}
use Rattle.indexmap.specs.IndexSet.{insert_key}
use Rattle.tm_syntax.specs.declared.tree.Ident.{Ident}
use Rattle.tm_syntax.specs.Tree.{BodyTree, StmtTree}
use Rattle.tm_syntax.specs.Scopes.Parts.{own_calls, stmts_in}
use Rattle.tm_syntax.specs.Design.{DesignTree}
use Rattle.tm_syntax.specs.Design.Atoms.{stmt_conditions}
use Rattle.tm_syntax.specs.Design.Cells.{called}
use Rattle.tm_syntax.specs.Design.Scope.{Scope}
use Rattle.tm_scope.specs.declared.members.SiteTask.{SiteTask}
use Rattle.tm_atoms.specs.Inner.Ranks.{IsRanked}
use Rattle.tm_atoms.specs.Inner.Bodies.{IsCallee, body_of_task}
use Rattle.tm_atoms.specs.Inner.Pools.{noted_atoms}
use Rattle.tm_atoms.specs.Inner.Walks.{Leads, Settles, WalkTables, has_entered, same_site_task}
use Rattle.tm_atoms.specs.Inner.Weights.{body_weight, todo_weight, unentered_weight, weight}
use Rattle.tm_atoms.proofs.Walking.{owes-call, owes-entered, owes-no-call}
use Rattle.tm_atoms.proofs.WalkWeights.{unentered-drops}

-- tasks after one of them is inserted again
inserted-old : (tasks : List SiteTask) (task : SiteTask) → has_entered tasks task ≡ true →
    insert_key same_site_task tasks task ≡ tasks
inserted-old tasks task is = ap (λ b. cond b tasks (tasks ++ task ∷ [])) is

-- and after one more is inserted
inserted-new : (tasks : List SiteTask) (task : SiteTask) → has_entered tasks task ≡ false →
    insert_key same_site_task tasks task ≡ tasks ++ task ∷ []
inserted-new tasks task is = ap (λ b. cond b tasks (tasks ++ task ∷ [])) is

module _ (d : DesignTree) (w : WalkTables) (task : SiteTask) (entered : List SiteTask)
    (keys : entered ≡ insert_key same_site_task w.entered task) where
  -- the body of a task that is entered again
  pub lighter-entered : has_entered w.entered task ≡ true → weight d (record w { entered = entered }) ≤ weight d w
  lighter-entered before =
      let e : weight d (record w { entered = entered }) ≡ weight d w =
      ap (λ tasks. weight d (record w { entered = tasks })) (keys ∙ inserted-old w.entered task before) in
      omega (arith, e)

  -- and that is entered
  pub lighter-entering : (from : Scope) (path : List Ident) (body : BodyTree) → IsCallee d from path task body →
      has_entered w.entered task ≡ false → (v : WalkTables) →
      weight d v ≡ weight d (record w { entered = entered }) + body_weight body → weight d v ≤ weight d w
  lighter-entering from path body is before v more =
      let drop = unentered-drops d w.entered task is.callee is.there before in
      let same : body_weight is.callee.body ≡ body_weight body = ap body_weight is.body in
      let e : weight d (record w { entered = entered })
      ≡ todo_weight w.todo + unentered_weight d (w.entered ++ task ∷ []) =
      ap (λ tasks. weight d (record w { entered = tasks })) (keys ∙ inserted-new w.entered task before) in
      omega (arith, drop, same, e, more)

module _ (d : DesignTree) (rank : Scope → ℕ) (w : WalkTables) (from : Scope) (path : List Ident) (s : StmtTree)
    (conditions : stmt_conditions s ≡ []) (calls : own_calls s ≡ path ∷ []) where
  -- a call of nothing
  pub settles-uncalled : called d from path ≡ None → Settles d rank w w from (s ∷ [])
  settles-uncalled none = λ all numbered owes. record {
    numbered = numbered;
    leads = owes-no-call d rank from (noted_atoms w.pool) w.entered
        (λ later entered. Leads d rank all w.todo later entered) s path conditions calls owes none;
  }

  module _ (task : SiteTask) (body : BodyTree) (is : IsCallee d from path task body) (entered : List SiteTask)
      (keys : entered ≡ insert_key same_site_task w.entered task) where
    -- a call of a body that has been entered
    pub settles-entered : has_entered w.entered task ≡ true →
        Settles d rank w (record w { entered = entered }) from (s ∷ [])
    settles-entered before = λ all numbered owes. record {
      numbered = numbered;
      leads = subst (λ tasks. Leads d rank all w.todo (noted_atoms w.pool) tasks)
          (sym (keys ∙ inserted-old w.entered task before))
          (owes-entered d rank from (noted_atoms w.pool) w.entered
          (λ later entered. Leads d rank all w.todo later entered) s path conditions calls owes task is.callee is.is
          is.there before);
    }

    -- a call of a body that is entered
    pub settles-entering : IsRanked d rank → has_entered w.entered task ≡ false → (v : WalkTables) →
        Settles d rank (record w { entered = entered }) v (body_of_task task) (stmts_in body) →
        Settles d rank w v from (s ∷ [])
    settles-entering ranked before v inner = λ all numbered owes.
        subst (λ tasks. Settles d rank (record w { entered = tasks }) v is.callee.scope (stmts_in is.callee.body))
        (keys ∙ inserted-new w.entered task before)
        (subst (λ scope. Settles d rank (record w { entered = entered }) v scope (stmts_in is.callee.body))
        (sym is.scope)
        (subst (λ b. Settles d rank (record w { entered = entered }) v (body_of_task task) (stmts_in b)) (sym is.body)
        inner)) all numbered
        (owes-call d rank from (noted_atoms w.pool) w.entered
        (λ later entered. Leads d rank all w.todo later entered) s path conditions calls owes task is.callee is.is
        is.there ranked before)

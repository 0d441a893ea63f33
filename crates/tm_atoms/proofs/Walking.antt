-- What a walk of bodies owes, step by step.
use Rattle.std.proofs.Common.{◌≡◌, ℕ, ◌<◌, Bool, true, false, None, Some, List, [], ◌∷◌, ◌++◌, append-nil, refl, sym, ap, ◌∙◌, subst, true≢false, arith}
use Rattle.std.specs.Prelude.{nat_eq, ◌||◌}
use Rattle.std.specs.List.{AllByRecursion, flat_map}
use Rattle.std.specs.Option.{option_map_or}
use Rattle.std.proofs.lemmas.Bool.{eqb-true}
use Rattle.std.proofs.lemmas.List.Folds.{list_any-append}
use Rattle.std.proofs.lemmas.List.Concat.{flat_map-append}
use Rattle.std.proofs.lemmas.Option.{same_Some}
use Rattle.tm_syntax.specs.declared.tree.Ident.{Ident}
use Rattle.tm_syntax.specs.Tree.{StmtTree}
use Rattle.tm_syntax.specs.Scopes.Parts.{own_calls, stmts_in}
use Rattle.tm_syntax.specs.Scopes.Pauses.{call_depth}
use Rattle.tm_syntax.specs.Design.{DesignTree}
use Rattle.tm_syntax.specs.Design.Atoms.{Atom, body_atoms, expr_atoms, stmt_conditions}
use Rattle.tm_syntax.specs.Design.Cells.{Called, called}
use Rattle.tm_syntax.specs.Design.Scope.{Scope}
use Rattle.tm_scope.specs.Cells.{scope_of}
use Rattle.tm_scope.specs.Instances.{task_called_at}
use Rattle.tm_scope.specs.declared.members.SiteTask.{SiteTask}
use Rattle.tm_atoms.specs.declared.walk.Todo.{Todo}
use Rattle.tm_atoms.specs.Pool.{with_atoms}
use Rattle.tm_atoms.specs.Inner.Ranks.{Descends, IsRanked}
use Rattle.tm_atoms.specs.Inner.Pools.{noted_atoms}
use Rattle.tm_atoms.specs.Inner.Walks.{IsTaskNoted, Leads, Owes, Settles, WalkTables, call_atoms, has_entered, part_stmts, same_site_task, stmts_atoms}
use Rattle.tm_atoms.proofs.Noting.{adds-nothing, all-later, noted-all, with_both}
use Rattle.tm_atoms.proofs.SameAtoms.{both_true}
use Rattle.tm_atoms.proofs.TaskSites.{task-site}

-- what holds of all items of two lists in a row holds of those of each
pub all-of-both : {X : Type 0} (P : X → Type 0) (xs ys : List X) → AllByRecursion P (xs ++ ys) →
    AllByRecursion P xs × AllByRecursion P ys
all-of-both P [] ys all = (tt, all)
all-of-both P (x ∷ xs) ys all = let rest = all-of-both P xs ys all.1 in ((all.0, rest.0), rest.1)

atoms-of-both : (d : DesignTree) (scope : Scope) (xs ys : List StmtTree) →
    stmts_atoms d scope (xs ++ ys) ≡ stmts_atoms d scope xs ++ stmts_atoms d scope ys
atoms-of-both d scope xs ys =
    flat_map-append (λ (s : StmtTree). flat_map (expr_atoms d scope) (stmt_conditions s)
    ++ flat_map (call_atoms d scope) (own_calls s)) xs ys

-- a task is one of some and of one more where it is one of these
entered-one : (tasks : List SiteTask) (task other : SiteTask) → has_entered (tasks ++ task ∷ []) other ≡ true →
    has_entered tasks other ≡ false → other ≡ task
entered-one tasks task other among before =
    let same : same_site_task other task ≡ true =
    by (has_entered tasks other) (same_site_task other task) before
    (sym (list_any-append (same_site_task other) tasks (task ∷ [])) ∙ among) in
    let parts = both_true (nat_eq other.instance task.instance) (nat_eq other.index task.index) same in
    λ i. record {
      instance = eqb-true other.instance task.instance parts.0 i;
      index = eqb-true other.index task.index parts.1 i;
    }
  where
    by : (a b : Bool) → a ≡ false → (a || (b || false)) ≡ true → b ≡ true
    by true b e h = absurd (true≢false e)
    by false true e h = refl
    by false false e h = absurd (true≢false (sym h))

module _ (d : DesignTree) (rank : Scope → ℕ) (scope : Scope) where
  -- a task that is noted stays noted
  task-later : (pool more : List Atom) (k : Called) (later : List Atom) → later ≡ with_atoms d pool more →
      IsTaskNoted d pool k → IsTaskNoted d later k
  task-later pool more k later is noted =
      subst (λ pool. IsTaskNoted d pool k) (sym is)
      (all-later d pool more (body_atoms (call_depth d.spec) d k.scope k.body) noted)

  module _ (pool : List Atom) (tasks : List SiteTask) (Goes : List Atom → List SiteTask → Type 0) where
    -- statements that are walked
    pub owes-noted : (ss : List StmtTree) → Owes d rank scope ss pool tasks Goes → (later : List Atom) →
        later ≡ with_atoms d pool (stmts_atoms d scope ss) → Goes later tasks
    owes-noted ss owes later is = owes.goes later tasks is
        (λ task k now before called. absurd (true≢false (sym now ∙ before)))

    -- no statements
    pub owes-nothing : Owes d rank scope [] pool tasks Goes → Goes pool tasks
    owes-nothing owes = owes-noted [] owes pool refl

    -- some statements before others
    pub owes-left : (xs ys : List StmtTree) → Owes d rank scope (xs ++ ys) pool tasks Goes →
        Owes d rank scope xs pool tasks (λ later entered. Owes d rank scope ys later entered Goes)
    owes-left xs ys owes =
        let parts = all-of-both (λ (s : StmtTree). AllByRecursion (Descends d rank scope) (own_calls s)) xs ys
        owes.descend in
        record {
          at = owes.at;
          there = owes.there;
          descend = parts.0;
          lower = owes.lower;
          goes = λ later entered is noted. record {
            at = owes.at;
            there = owes.there;
            descend = parts.1;
            lower = λ task k among called below.
                earlier task (has_entered tasks task) refl later k is
                (λ before. owes.lower task k before called below) (λ before. noted task k among before called);
            goes = λ last all is_last others.
                owes.goes last all
                (is_last ∙ ap (λ q. with_atoms d q (stmts_atoms d scope ys)) is
                ∙ sym (ap (with_atoms d pool) (atoms-of-both d scope xs ys)
                ∙ with_both d pool (stmts_atoms d scope xs) (stmts_atoms d scope ys)))
                (λ task k among before called.
                since entered task (has_entered entered task) refl later last k is_last
                (λ now. noted task k now before called) (λ now. others task k among now called));
          };
        }
      where
        earlier : (task : SiteTask) (b : Bool) → has_entered tasks task ≡ b → (later : List Atom) (k : Called) →
            later ≡ with_atoms d pool (stmts_atoms d scope xs) →
            (has_entered tasks task ≡ true → IsTaskNoted d pool k) →
            (has_entered tasks task ≡ false → IsTaskNoted d later k) → IsTaskNoted d later k
        earlier task true e later k is old new = task-later pool (stmts_atoms d scope xs) k later is (old e)
        earlier task false e later k is old new = new e

        since : (entered : List SiteTask) (task : SiteTask) (b : Bool) → has_entered entered task ≡ b →
            (later last : List Atom) (k : Called) → last ≡ with_atoms d later (stmts_atoms d scope ys) →
            (has_entered entered task ≡ true → IsTaskNoted d later k) →
            (has_entered entered task ≡ false → IsTaskNoted d last k) → IsTaskNoted d last k
        since entered task true e later last k is old new = task-later later (stmts_atoms d scope ys) k last is (old e)
        since entered task false e later last k is old new = new e

    module _ (s : StmtTree) (path : List Ident) (conditions : stmt_conditions s ≡ []) (calls : own_calls s ≡ path ∷ [])
        (owes : Owes d rank scope (s ∷ []) pool tasks Goes) where
      -- the atoms of a statement that is a call are those of what it calls
      call-atoms : stmts_atoms d scope (s ∷ []) ≡ call_atoms d scope path
      call-atoms =
          (λ i. (flat_map (expr_atoms d scope) (conditions i) ++ flat_map (call_atoms d scope) (calls i)) ++ [])
          ∙ append-nil (call_atoms d scope path ++ []) ∙ append-nil (call_atoms d scope path)

      descends : Descends d rank scope path
      descends = (subst (AllByRecursion (Descends d rank scope)) calls owes.descend.0).0

      -- a call of nothing
      pub owes-no-call : called d scope path ≡ None → Goes pool tasks
      owes-no-call none =
          owes-noted (s ∷ []) owes pool
          (sym (ap (with_atoms d pool) (call-atoms
          ∙ ap (λ o. option_map_or (λ (k : Called). body_atoms (call_depth d.spec) d k.scope k.body) o []) none)))

      module _ (task : SiteTask) (k : Called) (is : called d scope path ≡ Some k)
          (there : task_called_at d task ≡ Some k) where
        atoms-of-callee : stmts_atoms d scope (s ∷ []) ≡ body_atoms (call_depth d.spec) d k.scope k.body
        atoms-of-callee =
            call-atoms
            ∙ ap (λ o. option_map_or (λ (k : Called). body_atoms (call_depth d.spec) d k.scope k.body) o []) is

        -- a call of a body that has been entered
        pub owes-entered : has_entered tasks task ≡ true → Goes pool tasks
        owes-entered entered =
            owes-noted (s ∷ []) owes pool
            (sym (ap (with_atoms d pool) atoms-of-callee
            ∙ adds-nothing d pool (body_atoms (call_depth d.spec) d k.scope k.body)
            (owes.lower task k entered there (descends k is))))

        -- a call of a body that is entered
        pub owes-call : IsRanked d rank → has_entered tasks task ≡ false →
            Owes d rank k.scope (stmts_in k.body) pool (tasks ++ task ∷ []) Goes
        owes-call ranked new =
            let place = task-site d task k there in
            record {
              at = place.0;
              there = place.1;
              descend = ranked.tasks task k there;
              lower = λ other l among called below.
                  lower other (has_entered tasks other) refl l among called below;
              goes = λ later entered is noted.
                  owes.goes later entered (is ∙ ap (with_atoms d pool)
                  (ranked.settled task k there ∙ sym atoms-of-callee))
                  (λ other l among before called.
                  since later is other l before called (has_entered (tasks ++ task ∷ []) other) refl
                  (λ outside. noted other l among outside called));
            }
          where
            lower : (other : SiteTask) (b : Bool) → has_entered tasks other ≡ b → (l : Called) →
                has_entered (tasks ++ task ∷ []) other ≡ true → task_called_at d other ≡ Some l →
                rank l.scope < rank k.scope → IsTaskNoted d pool l
            lower other true e l among called below =
                let deeper : rank k.scope < rank scope = descends k is in
                owes.lower other l e called (omega (arith, below, deeper))
            lower other false e l among called below =
                let same : l ≡ k = same_Some l k
                (sym called ∙ ap (task_called_at d) (entered-one tasks task other among e) ∙ there) in
                let equal : rank l.scope ≡ rank k.scope = ap (λ (c : Called). rank c.scope) same in
                absurd (omega (arith, below, equal))

            since : (later : List Atom) → later ≡ with_atoms d pool (stmts_atoms d k.scope (stmts_in k.body)) →
                (other : SiteTask) (l : Called) → has_entered tasks other ≡ false → task_called_at d other ≡ Some l →
                (b : Bool) → has_entered (tasks ++ task ∷ []) other ≡ b →
                (has_entered (tasks ++ task ∷ []) other ≡ false → IsTaskNoted d later l) → IsTaskNoted d later l
            since later is other l before called true e outside =
                let same : l ≡ k = same_Some l k
                (sym called ∙ ap (task_called_at d) (entered-one tasks task other e before) ∙ there) in
                subst (IsTaskNoted d later) (sym same)
                (subst (λ pool. IsTaskNoted d pool k) (sym (is ∙ ap (with_atoms d pool) (ranked.settled task k there)))
                (noted-all d pool (body_atoms (call_depth d.spec) d k.scope k.body)))
            since later is other l before called false e outside = outside e

module _ (d : DesignTree) (rank : Scope → ℕ) where
  -- nothing more is to be walked of a part
  pub settles-nothing : (w : WalkTables) (scope : Scope) → Settles d rank w w scope []
  settles-nothing w scope = λ all numbered owes. record {
    numbered = numbered;
    leads = owes-nothing d rank scope (noted_atoms w.pool) w.entered
        (λ later entered. Leads d rank all w.todo later entered) owes;
  }

  -- statements before a part that was left for later
  pub settles-left : (w u v : WalkTables) (t : Todo) (xs : List StmtTree) → u ≡ record w { todo = t ∷ w.todo } →
      Settles d rank u v (scope_of t.scope) xs → Settles d rank w v (scope_of t.scope) (xs ++ part_stmts t.row)
  settles-left w u v t xs is inner = λ all numbered owes.
      subst (λ (u : WalkTables). Settles d rank u v (scope_of t.scope) xs) is inner all numbered
      (owes-left d rank (scope_of t.scope) (noted_atoms w.pool) w.entered
      (λ later entered. Leads d rank all w.todo later entered) xs (part_stmts t.row) owes)

-- The bodies of a design: the tasks that calls run, by its instances and by the text, and its processes.
use Rattle.std.proofs.Common.{◌≡◌, ℕ, Some, List, position, sym, ap, ◌∙◌}
use Rattle.std.specs.Prelude.{slice_get}
use Rattle.std.specs.Option.{option_and_then, option_map}
use Rattle.tm_syntax.specs.declared.design.Item.{Item}
use Rattle.tm_syntax.specs.declared.tree.Ident.{Ident}
use Rattle.tm_syntax.specs.Tree.{ProcessTree, TaskTree}
use Rattle.tm_syntax.specs.Scopes.Context.{process_body}
use Rattle.tm_syntax.specs.Scopes.Names.{is_spelled, last_name}
use Rattle.tm_syntax.specs.Scopes.Pauses.{task_reached}
use Rattle.tm_syntax.specs.Design.{DesignTree}
use Rattle.tm_syntax.specs.Design.Cells.{Called, called, task_called}
use Rattle.tm_syntax.specs.Design.Locations.{Thread, thread}
use Rattle.tm_syntax.specs.Design.Scope.{Scope, Site, site, site_along}
use Rattle.tm_sem.specs.Step.{task_of}
use Rattle.tm_locations.specs.Locations.{LeadsByText}
use Rattle.tm_locations.proofs.CalledBodies.{along-number, made, reached-by_text, site-number}
use Rattle.tm_design.proofs.Found.{and_then_is, map_is}

module _ (d : DesignTree) where
  -- what a call runs is a task of an instance
  pub record IsTask (c : Called) : Type 0 where
    pub at : Site
    pub number : ℕ
    pub task : TaskTree
    pub there : site d at.number ≡ Some at
    pub is : slice_get at.template.tasks number ≡ Some task
    pub same : made d at number task ≡ c

  -- a path of a body calls one that stands where the path leads
  pub record Leads (from : Site) (names : List Ident) (c : Called) : Type 0 where
    pub task : IsTask c
    pub along : site_along d from names ≡ Some task.at
    pub first : position (λ (t : TaskTree). is_spelled (last_name names) t.name) task.at.template.tasks
        ≡ Some task.number

  pub called_leads : (scope : Scope) (from : Site) → site d scope.instance ≡ Some from → (names : List Ident)
      (c : Called) → called d scope names ≡ Some c → Leads from names c
  called_leads scope from there names c is =
      let u = and_then_is (λ (u : Site). option_and_then (task_called d u)
      (position (λ (t : TaskTree). is_spelled (last_name names) t.name) u.template.tasks)) (site_along d from names) c
      (ap (option_and_then (λ (v : Site). option_and_then (λ u. option_and_then (task_called d u)
      (position (λ (t : TaskTree). is_spelled (last_name names) t.name) u.template.tasks)) (site_along d v names)))
      (sym there) ∙ is) in
      let k = and_then_is (task_called d u.0)
      (position (λ (t : TaskTree). is_spelled (last_name names) t.name) u.0.template.tasks) c u.2 in
      let task = map_is (made d u.0 k.0) (slice_get u.0.template.tasks k.0) c k.2 in
      record {
        task = record {
          at = u.0;
          number = k.0;
          task = task.0;
          there = along-number d names from u.0 (site-number d scope.instance from there) u.1;
          is = task.1;
          same = task.2;
        };
        along = u.1;
        first = k.1;
      }

  -- the text leads to it
  pub text_leads : LeadsByText d → (n : ℕ) (from : Site) → site d n ≡ Some from → (names : List Ident) (c : Called)
      (to : Leads from names c) → task_reached d.spec from.template names ≡ Some (to.task.at.template, to.task.task)
  text_leads by_text n from there names c to = reached-by_text d by_text n from there names c (record {
    at = to.task.at;
    task = to.task.task;
    number = to.task.number;
    there = to.task.there;
    along = to.along;
    first = to.first;
    is = to.task.is;
    instance = ap (λ (c : Called). c.scope.instance) (sym to.task.same);
    body = ap (λ (c : Called). c.body) (sym to.task.same);
  })

  -- a controllable task of the design is one
  pub driver_task : (t : ℕ) (c : Called) → task_of d t ≡ Some c → IsTask c
  driver_task t c is =
      let item = and_then_is (λ (item : Item). option_and_then (λ (u : Site).
      option_and_then (task_called d u) item.index) (site d item.instance)) (slice_get d.tasks t) c is in
      let u = and_then_is (λ (u : Site). option_and_then (task_called d u) item.0.index) (site d item.0.instance) c
      item.2 in
      let k = and_then_is (task_called d u.0) item.0.index c u.2 in
      let task = map_is (made d u.0 k.0) (slice_get u.0.template.tasks k.0) c k.2 in
      record {
        at = u.0;
        number = k.0;
        task = task.0;
        there = site-number d item.0.instance u.0 u.1;
        is = task.1;
        same = task.2;
      }

  -- so is what a path of a body calls
  pub called_task : (scope : Scope) (names : List Ident) (c : Called) → called d scope names ≡ Some c → IsTask c
  called_task scope names c is =
      let from = and_then_is (λ (v : Site). option_and_then (λ u. option_and_then (task_called d u)
      (position (λ (t : TaskTree). is_spelled (last_name names) t.name) u.template.tasks)) (site_along d v names))
      (site d scope.instance) c is in
      (called_leads scope from.0 from.1 names c is).task

  -- a process of an instance
  abbrev process_of : Site → ℕ → ProcessTree → Thread
  process_of at k process =
      record { scope = record { instance = at.number; body = process_body k }; process = process }

  pub record IsProcess (t : Thread) : Type 0 where
    pub at : Site
    pub number : ℕ
    pub process : ProcessTree
    pub there : site d at.number ≡ Some at
    pub is : slice_get at.template.processes number ≡ Some process
    pub same : process_of at number process ≡ t

  -- each process of the design is one
  pub thread_is : (p : ℕ) (t : Thread) → thread d p ≡ Some t → IsProcess t
  thread_is p t is =
      let item = and_then_is (λ (item : Item). option_and_then (λ (u : Site). option_and_then (λ k.
      option_map (process_of u k) (slice_get u.template.processes k)) item.index) (site d item.instance))
      (slice_get d.processes p) t is in
      let u = and_then_is (λ (u : Site). option_and_then (λ k.
      option_map (process_of u k) (slice_get u.template.processes k)) item.0.index) (site d item.0.instance) t item.2 in
      let k = and_then_is (λ k. option_map (process_of u.0 k) (slice_get u.0.template.processes k)) item.0.index t u.2
      in
      let process = map_is (process_of u.0 k.0) (slice_get u.0.template.processes k.0) t k.2 in
      record {
        at = u.0;
        number = k.0;
        process = process.0;
        there = site-number d item.0.instance u.0 u.1;
        is = process.1;
        same = process.2;
      }

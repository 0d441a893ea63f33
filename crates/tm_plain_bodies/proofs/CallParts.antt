-- What holds of a call where the task is found that it runs.
use Rattle.std.proofs.Common.{◌≡◌, ℕ, Bool, true, false, Option, None, Some, List, [], length, sym, ap, ◌∙◌, subst, arith}
use Rattle.std.specs.Prelude.{◌&&◌, nat_eq, not}
use Rattle.std.specs.List.{AllByRecursion}
use Rattle.std.specs.Option.{option_map_or}
use Rattle.std.proofs.lemmas.Bool.Decides.{nat_tests}
use Rattle.tm_syntax.specs.declared.design.Design.{Design}
use Rattle.tm_syntax.specs.declared.member.Member.{Member}
use Rattle.tm_syntax.specs.declared.tree.Ident.{Ident}
use Rattle.tm_syntax.specs.declared.tree.TaskKind.TheVariants.{Procedure}
use Rattle.tm_syntax.specs.Tree.{ExprTree, TaskTree, TemplateTree, assign, result}
use Rattle.tm_syntax.specs.Tree.View.{body_tree, task_tree}
use Rattle.tm_syntax.specs.Faults.Mismatches.{call_fits}
use Rattle.tm_syntax.specs.Scopes.Context.{Context}
use Rattle.tm_syntax.specs.Scopes.Parts.{Asked, asked_args, call_args, target_exprs}
use Rattle.tm_syntax.specs.Scopes.Names.{type_of}
use Rattle.tm_syntax.specs.Scopes.Pauses.{is_controllable}
use Rattle.tm_syntax.specs.Scopes.Types.{named_type}
use Rattle.tm_syntax.specs.Design.Cells.{called}
use Rattle.tm_syntax.specs.Design.View.{design_tree}
use Rattle.tm_scope.specs.Cells.{ScopedCells, scope_of}
use Rattle.tm_typing.specs.Promises.{HasAskedType}
use Rattle.tm_typing.specs.Statements.{HasCallee, HasResult}
use Rattle.tm_typing.proofs.Fitting.{all_of_both}
use Rattle.tm_locations.proofs.TextLeads.{sound_leads}
use Rattle.tm_design.specs.Parameters.{task_at}
use Rattle.tm_design.specs.Typed.{context_at}
use Rattle.tm_plain_bodies.specs.declared.frame.CalledTask.{CalledTask}
use Rattle.tm_plain_bodies.specs.declared.frame.Frame.{Frame}
use Rattle.tm_design.specs.Callees.{IsCallee}
use Rattle.tm_plain_bodies.specs.Frames.{AreArguments, BodyMayPass, CallFits, IsCalled, StmtFits}
use Rattle.tm_states.specs.Promised.{StmtIsPromised}
use Rattle.tm_plain_bodies.specs.Runs.{TargetAt, crossing}
use Rattle.tm_plain_bodies.specs.Tables.{IsReady, tables_of}
use Rattle.tm_plain_bodies.proofs.CalledTasks.{called_by_text}
use Rattle.tm_plain_bodies.proofs.Found.{own_cells}
use Rattle.tm_plain_bodies.proofs.Invoking.{args_typed}
use Rattle.tm_plain_bodies.proofs.Targets.{target_type}
use Rattle.tm_plain_bodies.specs.Inner.Weights.{body_weight, call_weight, weighs}
use Rattle.tm_plain_bodies.proofs.Weights.{call_weight-called}

-- a path that may be called calls a task
pub calls_something : (d : Design) (order : List Member) → IsReady d order → (f : Frame) (names : List Ident)
    (count : ℕ) → CallFits d f names count → called (design_tree d) (scope_of f.reader.at) names ≡ None → ⊥
calls_something d order ready f names count fits nowhere =
    called_by_text d (sound_leads (design_tree d) ready.sound) f.reader.at fits.context
    (ap (λ x. context_at (record { tables = x; at = f.reader.at })) (sym fits.tables) ∙ fits.stands) names
    (fits.resolves.template, fits.resolves.task) fits.resolves.is nowhere

both_hold : (a b : Bool) → (a && b) ≡ true → b ≡ true
both_hold true b is = is
both_hold false b is = absurd (cc)

same_count : (a b : ℕ) → nat_eq a b ≡ true → a ≡ b
same_count a b is = grind (arith, nat_tests)

module _ {d : Design} {f : Frame} {names : List Ident} {k : CalledTask} (is : IsCalled d f names k)
    (tables : f.reader.tables ≡ tables_of d) where
  pub same_tables : k.frame.reader.tables ≡ f.reader.tables
  same_tables = is.fits.tables ∙ sym tables

  pub task_here : task_at k.frame.reader ≡ Some k.task.now
  task_here = ap (λ x. task_at (record { tables = x; at = k.frame.reader.at })) is.fits.tables ∙ is.callee.task

  pub callee_here : IsCallee f.reader.tables f.reader.at names k.frame.reader.at k.task.now
  callee_here = subst (λ x. IsCallee x f.reader.at names k.frame.reader.at k.task.now) (sym tables) is.callee

  -- the call weighs what the body does
  pub weighs_more : weighs d f names ≡ body_weight (weighs d k.frame) (body_tree k.task.now.body)
  weighs_more =
      let runs = is.callee.runs (design_tree d) (own_cells d) in
      call_weight-called (design_tree d) (scope_of f.reader.at) names f.depth k.frame.depth runs.called is.depth
      runs.is
      ∙ (λ i. body_weight (call_weight k.frame.depth (design_tree d) (runs.scope i)) (runs.body i))

  -- what a run gets through is not sure to cross
  pub call_passes : BodyMayPass k.frame.reader (body_tree k.task.now.body) → (c : Context) →
      context_at f.reader ≡ Some c → crossing c names ≡ false
  call_passes may c stands =
      is.crosses c is.fits.context stands is.fits.stands ∙ may is.fits.context is.fits.stands

  -- the arguments have the types of the parameters
  pub args_fit : (c : Context) → context_at f.reader ≡ Some c → (es : List ExprTree) → HasCallee c names (length es) →
      AllByRecursion (λ (a : Asked). HasAskedType (record { context = c; asked = a })) (call_args c names es) →
      AreArguments f.reader k.task.now.params.items es
  args_fit c stands es callee typed =
      let to = is.reached c is.fits.context stands is.fits.stands in
      let one : callee.task ≡ task_tree k.task.now =
      ap (λ o. option_map_or (λ (p : TemplateTree × TaskTree). p.1) o callee.task) (sym callee.is ∙ to) in
      let fits : call_fits (task_tree k.task.now) (length es) ≡ true =
      subst (λ t. call_fits t (length es) ≡ true) one callee.fits in
      args_typed f.reader c stands k.task.now.params.items es
      (same_count (length k.task.now.params.items) (length es)
      (both_hold (not (is_controllable k.task.now.kind)) (nat_eq (length k.task.now.params.items) (length es)) fits))
      (subst (λ (o : Option (TemplateTree × TaskTree)).
      AllByRecursion (λ (a : Asked). HasAskedType (record { context = c; asked = a }))
      (asked_args (option_map_or (λ t. t.1.params) o []) es)) to typed)

  -- what a called procedure returns, where it is assigned
  module _ (c : Context) (stands : context_at f.reader ≡ Some c) (target : List Ident) (count : ℕ)
      (h : HasResult c target names count) where
    pub result_kind : k.task.now.kind ≡ Procedure (Some h.ty)
    result_kind =
        let to = is.reached c is.fits.context stands is.fits.stands in
        let one : h.callee.task ≡ task_tree k.task.now =
        ap (λ o. option_map_or (λ (p : TemplateTree × TaskTree). p.1) o h.callee.task) (sym h.callee.is ∙ to) in
        sym (ap (λ (t : TaskTree). t.kind) one) ∙ h.is

-- a call that may be done, and one whose result is assigned
pub call_fits_there : (d : Design) (f : Frame) (target : List Ident) (index : Option ExprTree) (names : List Ident)
    (args : List ExprTree) → StmtFits d f (assign target index (result names args)) →
    CallFits d f names (length args)
call_fits_there d f target index names args h = record {
  tables = h.tables;
  context = h.promised.context;
  stands = h.promised.stands;
  resolves = h.promised.promised.0.resolves.1.callee;
  nested = h.nested;
}

-- the arguments of a call whose result is assigned have types
pub result_args : (c : Context) (target : List Ident) (index : Option ExprTree) (names : List Ident)
    (args : List ExprTree) → StmtIsPromised c (assign target index (result names args)) →
    AllByRecursion (λ (a : Asked). HasAskedType (record { context = c; asked = a })) (call_args c names args)
result_args c target index names args h =
    (all_of_both (λ (a : Asked). HasAskedType (record { context = c; asked = a })) (target_exprs target index)
    (call_args c names args) h.0.exprs).1

-- the type that a target asks for is that of what is returned
pub result_named : (s : ScopedCells) (target : List Ident) (index : Option ExprTree) (names : List Ident) (count : ℕ)
    (at : TargetAt s target index) (h : HasResult at.context target names count) →
    named_type at.context target ≡ Some (type_of h.ty)
result_named s target index names count at h =
    let kind = target_type at.context target index at.resolves in kind.named ∙ ap Some (h.fits kind.ty kind.named)

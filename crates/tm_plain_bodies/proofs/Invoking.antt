-- What a machine does of a call, by what it does of the body.
use Rattle.std.proofs.Common.{◌≡◌, Some, List, [], ◌∷◌, ◌++◌, length, refl, sym, ap, ◌∙◌}
use Rattle.std.specs.Prelude.{if◌then◌else◌}
use Rattle.std.specs.List.{AllByRecursion}
use Rattle.std.specs.Option.{option_map_or}
use Rattle.tm_syntax.specs.declared.design.Design.{Design}
use Rattle.tm_syntax.specs.declared.tree.Ident.{Ident}
use Rattle.tm_syntax.specs.declared.tree.Param.{Param}
use Rattle.tm_syntax.specs.Tree.{ExprTree, invoke}
use Rattle.tm_syntax.specs.Tree.View.{body_tree}
use Rattle.tm_syntax.specs.Scopes.Context.{Context}
use Rattle.tm_syntax.specs.Scopes.Names.{type_of}
use Rattle.tm_syntax.specs.Scopes.Parts.{Asked, asked_args}
use Rattle.tm_syntax.specs.Design.Cells.{Called}
use Rattle.tm_syntax.specs.Design.Work.{WorkItem, body_items, call_place, perform}
use Rattle.tm_scope.specs.Cells.{ScopedCells, scope_of}
use Rattle.tm_sem.specs.Value.{Memory}
use Rattle.tm_sem.specs.Run.{acts, at_end, blocked, comes_to, failed, goes_on, progress, with_arguments}
use Rattle.tm_typing.specs.Promises.{HasAskedType}
use Rattle.tm_design.specs.Typed.{context_at}
use Rattle.tm_plain_bodies.specs.declared.course.Course.{Course}
use Rattle.tm_plain_bodies.specs.declared.frame.CalledTask.{CalledTask}
use Rattle.tm_plain_bodies.specs.declared.frame.Frame.{Frame}
use Rattle.tm_plain_bodies.specs.declared.halt.Halt.{Halt}
use Rattle.tm_plain_bodies.specs.declared.halt.Halt.TheVariants as halt
use Rattle.tm_plain_bodies.specs.Arguments.{AreGiven, HaltsAtSome}
use Rattle.tm_design.specs.Callees.{IsCallee}
use Rattle.tm_plain_bodies.specs.Frames.{AreArguments, CallFits, StmtFits}
use Rattle.tm_plain_exprs.specs.Kept.{Keeps}
use Rattle.tm_plain_bodies.specs.Runs.{HaltsWithin, Stands, body_work, item_of, told}
use Rattle.tm_plain_bodies.proofs.Doing.{fails}

-- a call that may be done calls what may be called
pub call_fits : (d : Design) (f : Frame) (names : List Ident) (args : List ExprTree) →
    StmtFits d f (invoke names args) → CallFits d f names (length args)
call_fits d f names args h = record {
  tables = h.tables;
  context = h.promised.context;
  stands = h.promised.stands;
  resolves = h.promised.promised.0.resolves;
  nested = h.nested;
}

-- arguments that have the types that are asked for have those of the parameters
pub args_typed : (s : ScopedCells) (c : Context) → context_at s ≡ Some c → (params : List Param) (es : List ExprTree) →
    length params ≡ length es →
    AllByRecursion (λ (a : Asked). HasAskedType (record { context = c; asked = a })) (asked_args params es) →
    AreArguments s params es
args_typed s c stands [] [] same typed = tt
args_typed s c stands [] (e ∷ es) same typed = absurd (cc)
args_typed s c stands (p ∷ ps) [] same typed = absurd (cc)
args_typed s c stands (p ∷ ps) (e ∷ es) same typed =
    let rest : length ps ≡ length es = cc in (
      record { context = c; stands = stands; typed = typed.0 (type_of p.ty) refl },
      args_typed s c stands ps es rest typed.1,
    )

module _ (s : ScopedCells) (names : List Ident) (args : List ExprTree) (inner : ScopedCells) (k : CalledTask)
    (callee : IsCallee s.tables s.at names inner.at k.task.now) (from mid : Course)
    (given : AreGiven s inner.at args from mid) where
  -- the work of the body
  abbrev front : List WorkItem
  front = body_work inner (call_place names ++ from.trail) (body_tree k.task.now.body)

  -- a call leads to the body in the memory in which the parameters have got their values
  pub invoke_leads : (o : Stands s.tables from.store) → (n : Memory) × Keeps s.tables mid.store n
      × (progress o.design o.memory from.choices (perform (scope_of s.at) from.trail (invoke names args))
      ≡ goes_on (front ++ []) n mid.choices)
  invoke_leads o =
      let d = o.design in
      let m = o.memory in
      let scope = scope_of s.at in
      let runs = callee.runs d o.cells in (
        with_arguments d scope m runs.called.params args,
        given.keeps o runs.called runs.by,
        ap (λ b. if b then comes_to (at_end from.choices failed)
            else acts d scope from.trail m from.choices (invoke names args)) (given.within (told s from.store o))
            ∙ ap (λ c. option_map_or
            (λ (callee : Called).
            goes_on (body_items callee.scope (call_place names ++ from.trail) callee.body ++ [])
            (with_arguments d scope m callee.params args) from.choices) c (comes_to blocked)) runs.is
            ∙ (λ i. goes_on (body_items (runs.scope i) (call_place names ++ from.trail) (runs.body i) ++ [])
            (with_arguments d scope m runs.called.params args) (sym given.choices i)),
      )

-- a halt at an argument is one of the call
pub invoke_halts : (s : ScopedCells) (from to : Course) (names : List Ident) (args : List ExprTree) (h : Halt) →
    HaltsAtSome s from args h → HaltsWithin s.tables (item_of s from.trail (invoke names args)) from to h
invoke_halts s from to names args (halt.Stopped at) h =
    fails s.tables (perform (scope_of s.at) from.trail (invoke names args)) from to (halt.Stopped at) h.1
    (λ o. ap (λ b. if b then comes_to (at_end from.choices failed)
    else acts o.design (scope_of s.at) from.trail o.memory from.choices (invoke names args))
    (h.0 (told s from.store o)))
invoke_halts s from to names args halt.Failed h =
    fails s.tables (perform (scope_of s.at) from.trail (invoke names args)) from to halt.Failed h.1
    (λ o. ap (λ b. if b then comes_to (at_end from.choices failed)
    else acts o.design (scope_of s.at) from.trail o.memory from.choices (invoke names args))
    (h.0 (told s from.store o)))
invoke_halts s from to names args halt.Blocked h =
    fails s.tables (perform (scope_of s.at) from.trail (invoke names args)) from to halt.Blocked h.1
    (λ o. ap (λ b. if b then comes_to (at_end from.choices failed)
    else acts o.design (scope_of s.at) from.trail o.memory from.choices (invoke names args))
    (h.0 (told s from.store o)))
invoke_halts s from to names args halt.Memory h = tt

-- What a step does of a call, and of what is left of it: its end, and what it returns.
use Rattle.std.proofs.Common.{◌≡◌, false, Option, None, Some, Result, Ok, Err, List, [], ◌∷◌, ◌++◌, append_assoc, length, map, refl, sym, ap, ◌∙◌, subst, arith}
use Rattle.std.specs.Prelude.{IfErr, IfOk}
use Rattle.std.specs.Option.{option_and_then, option_map, option_map_or, option_to_list}
use Rattle.tm_base.specs.declared.place.Place.{Place}
use Rattle.tm_syntax.specs.declared.design.Design.{Design}
use Rattle.tm_syntax.specs.declared.tree.Ident.{Ident}
use Rattle.tm_syntax.specs.declared.tree.TaskDef.{TaskDef}
use Rattle.tm_syntax.specs.declared.tree.TaskKind.TheVariants.{Procedure}
use Rattle.tm_syntax.specs.declared.tree.TypeName.{TypeName}
use Rattle.tm_syntax.specs.Tree.{BodyTree, ExprTree, assign, invoke, result}
use Rattle.tm_syntax.specs.Tree.View.{body_tree}
use Rattle.tm_syntax.specs.Scopes.Context.{Context}
use Rattle.tm_syntax.specs.Scopes.Names.{type_of}
use Rattle.tm_syntax.specs.Scopes.Parts.{written_result}
use Rattle.tm_syntax.specs.Design.Cells.{cell as cell_of}
use Rattle.tm_syntax.specs.Design.Work.{WorkItem, call_place, deliver}
use Rattle.tm_scope.specs.Cells.{IsCellNumber, ScopedCells, cell_at, scope_of}
use Rattle.tm_scope.specs.declared.cells.site_body.CellNumber.{CellNumber}
use Rattle.tm_scope.specs.declared.cells.site_body.SiteBody.{SiteBody}
use Rattle.tm_sem.specs.Value.{index_value}
use Rattle.tm_sem.specs.Run.{Run, goes_on}
use Rattle.tm_design.specs.Typed.{HasTypeAt, context_at}
use Rattle.tm_design.proofs.Contexts.{context_is}
use Rattle.tm_typing.specs.Statements.{HasResult}
use Rattle.tm_plain_bodies.specs.declared.course.Course.{Course}
use Rattle.tm_plain_bodies.specs.declared.frame.CalledTask.{CalledTask}
use Rattle.tm_plain_bodies.specs.declared.frame.Frame.{Frame}
use Rattle.tm_plain_bodies.specs.declared.halt.Halt.{Halt}
use Rattle.tm_plain_bodies.specs.declared.halt.Halt.TheVariants as halt
use Rattle.tm_plain_bodies.specs.declared.todo.Level.{Level}
use Rattle.tm_plain_bodies.specs.Arguments.{AreGiven, HaltsAtAnswer, IsAnswered}
use Rattle.tm_plain_bodies.specs.Frames.{IsCalled, RowFits, local_stmts}
use Rattle.tm_plain_bodies.specs.Inner.Owed.{AnswerFits, Owed, answer, leave, level_of, one, row, trail_of, work_of}
use Rattle.tm_plain_bodies.specs.Inner.Steps.{GoesOver, HaltsOver, IsEntered, Stepped, Steps}
use Rattle.tm_plain_bodies.specs.Inner.Weights.{weighs}
use Rattle.tm_plain_bodies.specs.Runs.{HaltsWithin, IsSame, IsTarget, RowMayPass, Stands, TargetAt, behind, body_work, crossing, items_of, told}
use Rattle.tm_plain_bodies.specs.Tables.{body_of, tables_of}
use Rattle.tm_plain_exprs.specs.Kept.{Keeps}
use Rattle.tm_plain_bodies.proofs.Behind.{answer_behind, given_behind, same_behind}
use Rattle.tm_plain_bodies.proofs.Bodies.{body_parts, body_passes, locals_fit, stmts_fit}
use Rattle.tm_plain_bodies.proofs.CallParts.{call_passes, callee_here, result_kind, result_named, weighs_more}
use Rattle.tm_plain_bodies.proofs.Doing.{halts_at, halts_before}
use Rattle.tm_plain_bodies.proofs.GoingOver.{one_leads, trail_here}
use Rattle.tm_plain_bodies.proofs.Invoking.{invoke_leads}
use Rattle.tm_plain_bodies.proofs.Returning.{delivered, delivery_ends, result_leads}
use Rattle.tm_plain_bodies.proofs.Stepping.{row_here, row_there, same_body, stmt_there, there}
use Rattle.tm_plain_bodies.proofs.Targets.{asked_is}
use Rattle.tm_plain_bodies.proofs.Weights.{body_parts_weigh}

-- the work of a body, in front of what stands behind it
parts_behind : (s : ScopedCells) (body : BodyTree) (trail same : List Place) → trail ≡ same →
    (after others : List WorkItem) →
    (body_work s trail body ++ after) ++ others
    ≡ items_of s same (local_stmts body.locals) ++ (items_of s same body.stmts ++ (after ++ others))
parts_behind s body trail same is after others =
    append_assoc (body_work s trail body) after others
    ∙ ap (λ items. items ++ (after ++ others)) (body_parts s trail body)
    ∙ append_assoc (items_of s trail (local_stmts body.locals)) (items_of s trail body.stmts) (after ++ others)
    ∙ ap (λ trail. items_of s trail (local_stmts body.locals) ++ (items_of s trail body.stmts ++ (after ++ others))) is

-- what is left of a call of a path whose body is entered
abbrev pub left_of : CalledTask → List Ident → List Owed → List Owed
left_of k names others =
    row (level_of k.frame) (local_stmts (body_tree k.task.now.body).locals)
    ∷ row (level_of k.frame) (body_tree k.task.now.body).stmts ∷ leave names ∷ others

module _ {d : Design} {f : Frame} {names : List Ident} {k : CalledTask} (is : IsCalled d f names k)
    (tables : f.reader.tables ≡ tables_of d) (ts : List Owed) where
  abbrev body : BodyTree
  body = body_tree k.task.now.body

  locals_there : RowFits d (record { reader = body_of d k.frame.reader.at; depth = k.frame.depth })
      (local_stmts body.locals)
  locals_there = row_there d k.frame is.fits.tables (local_stmts body.locals) (locals_fit d k.frame body is.fits)

  stmts_there : RowFits d (record { reader = body_of d k.frame.reader.at; depth = k.frame.depth }) body.stmts
  stmts_there = row_there d k.frame is.fits.tables body.stmts (stmts_fit d k.frame body is.fits)

  -- what is got through of the body is got through of the call
  passes : RowMayPass (body_of d k.frame.reader.at) (local_stmts body.locals) →
      RowMayPass (body_of d k.frame.reader.at) body.stmts → (c : Context) → context_at f.reader ≡ Some c →
      crossing c names ≡ false
  passes locals stmts c stands =
      call_passes is tables
      (body_passes k.frame.reader body (row_here d k.frame is.fits.tables (local_stmts body.locals) locals)
      (row_here d k.frame is.fits.tables body.stmts stmts)) c stands

  module _ (args : List ExprTree) (from mid to : Course) (given : AreGiven f.reader k.frame.reader.at args from mid)
      (entered : IsEntered names mid to) where
    call_over : GoesOver f.reader.tables (one (level_of f) (invoke names args) ∷ ts) (left_of k names ts) from to
    call_over =
        one_leads f.reader.tables (level_of f) (invoke names args) ts from to (left_of k names ts)
        (λ base here. entered.trail ∙ ap (λ trail. call_place names ++ trail) (given.trail ∙ here))
        (λ base calls here o asked.
        let n = invoke_leads f.reader names args k.frame.reader k (callee_here is tables) (behind calls from)
        (behind calls mid) (given_behind calls from mid f.reader k.frame.reader.at args given) o in
        let front = body_work k.frame.reader (call_place names ++ (from.trail ++ calls)) body in (
          n.0,
          subst (λ s. Keeps f.reader.tables s n.0) (sym entered.store) n.1,
          (tt, (tt, (tt, asked))),
          front ++ [],
          n.2 ∙ ap (goes_on (front ++ []) n.0) (sym entered.choices),
          parts_behind k.frame.reader body (call_place names ++ (from.trail ++ calls))
              (call_place names ++ trail_of (base ++ calls) ts)
              (ap (λ trail. call_place names ++ trail) (trail_here ts from base calls here)) []
              (work_of f.reader.tables (base ++ calls) ts),
        ))

    -- a call enters a body
    pub call_entered : Stepped d (one (level_of f) (invoke names args) ∷ ts) (left_of k names ts) from to
    call_entered = record {
      over = there d f tables (invoke names args) ts from to (left_of k names ts) call_over;
      fits = λ all. (locals_there, (stmts_there, (tt, all.1)));
      comes = λ c. (
        stmt_there d f tables (invoke names args) (λ k stands. passes c.0 c.1.0 k stands),
        c.1.1,
      );
      lighter =
          let more = weighs_more is tables in
          let parts = body_parts_weigh (weighs d k.frame) body in omega (arith, more, parts);
    }

  -- a call whose result is assigned
  module _ (path : List Ident) (index : Option ExprTree) (args : List ExprTree) (from asked mid to : Course)
      (same : IsSame from asked) (at : TargetAt f.reader path index) (found : Option CellNumber)
      (is_target : IsTarget f.reader from.store path index found)
      (given : AreGiven f.reader k.frame.reader.at args asked mid) (entered : IsEntered names mid to)
      (has : HasResult at.context path names (length args)) where
    abbrev put : Owed
    put = answer (level_of k.frame) f.reader.at k.task.now found

    -- the cell of the target, in each design
    seen_cell : (o : Stands f.reader.tables from.store) →
        option_and_then (cell_at f.reader.tables f.reader.at) found
        ≡ cell_of o.design (scope_of f.reader.at) path (option_map
        (index_value o.design (scope_of f.reader.at) o.memory)
        index)
    seen_cell o = is_target.cell (told f.reader from.store o)

    kind : k.task.now.kind ≡ Procedure (Some has.ty)
    kind = result_kind is tables at.context at.stands path (length args) has

    same_type : (ty : TypeName) → k.task.now.kind ≡ Procedure (Some ty) → has.ty ≡ ty
    same_type ty also =
        ap (λ o. option_map_or (λ (t : TypeName). t) o ty) (ap written_result (sym kind ∙ also))

    result_over : GoesOver f.reader.tables (one (level_of f) (assign path index (result names args)) ∷ ts)
        (left_of k names (put ∷ ts)) from to
    result_over =
        one_leads f.reader.tables (level_of f) (assign path index (result names args)) ts from to
        (left_of k names (put ∷ ts))
        (λ base here. entered.trail ∙ ap (λ trail. call_place names ++ trail) (given.trail ∙ same.trail ∙ here))
        (λ base calls here o wanted.
        let n = result_leads f.reader path index names args (behind calls from) (behind calls asked)
        (same_behind calls from asked same) at found is_target k.frame.reader k (callee_here is tables)
        (behind calls mid) (given_behind calls asked mid f.reader k.frame.reader.at args given) o in
        let front = body_work k.frame.reader (call_place names ++ (from.trail ++ calls)) body in
        let after = map (deliver (option_and_then (cell_at f.reader.tables f.reader.at) found)
        (scope_of k.frame.reader.at)) (option_to_list body.answer) in (
          n.0,
          subst (λ s. Keeps f.reader.tables s n.0) (sym entered.store) n.1,
          (
            tt,
            (
              tt,
              (
                tt,
                (
                  λ ty c also at_cell.
                      asked_is o.design o.typed (scope_of f.reader.at) at.context
                      (context_is f.reader at.context at.stands o.design o.cells) path (type_of ty)
                      (result_named f.reader path index names (length args) at has
                      ∙ ap (λ t. Some (type_of t)) (same_type ty also))
                      (option_map (index_value o.design (scope_of f.reader.at) o.memory) index) c
                      (sym (seen_cell o) ∙ at_cell),
                  wanted,
                ),
              ),
            ),
          ),
          front ++ after,
          n.2
              ∙ ap (λ t. goes_on (front ++ map (deliver t (scope_of k.frame.reader.at)) (option_to_list body.answer))
              n.0 mid.choices) (sym (seen_cell o))
              ∙ ap (goes_on (front ++ after) n.0) (sym entered.choices),
          parts_behind k.frame.reader body (call_place names ++ (from.trail ++ calls))
              (call_place names ++ trail_of (base ++ calls) ts)
              (ap (λ trail. call_place names ++ trail) (trail_here ts from base calls here)) after
              (work_of f.reader.tables (base ++ calls) ts),
        ))

    answer_there : AnswerFits d (level_of k.frame) f.reader.at k.task.now found
    answer_there = record {
      inside = (is.fits.context, ap context_at (sym (same_body d k.frame is.fits.tables)) ∙ is.fits.stands);
      outside = (at.context, ap context_at (sym (same_body d f tables)) ∙ at.stands);
      ty = has.ty;
      kind = kind;
      cell_there = subst (λ x. IsCellNumber x f.reader.at found) tables is_target.is_there;
      typed = λ ty e also returned.
          subst (λ s. HasTypeAt s (type_of ty) e) (same_body d k.frame is.fits.tables) (is.answers ty e also returned);
    }

    pub result_entered : Stepped d (one (level_of f) (assign path index (result names args)) ∷ ts)
        (left_of k names (put ∷ ts)) from to
    result_entered = record {
      over = there d f tables (assign path index (result names args)) ts from to (left_of k names (put ∷ ts))
          result_over;
      fits = λ all. (locals_there, (stmts_there, (tt, (answer_there, all.1))));
      comes = λ c. (
        stmt_there d f tables (assign path index (result names args)) (λ k stands. passes c.0 c.1.0 k stands),
        c.1.1,
      );
      lighter =
          let more = weighs_more is tables in
          let parts = body_parts_weigh (weighs d k.frame) body in omega (arith, more, parts);
    }

-- the end of a call is left
pub call_left : (d : Design) (path : List Ident) (ts : List Owed) (from : Course) (left : List Place) →
    ((before : List Place) → from.trail ≡ call_place path ++ before → left ≡ before) →
    Stepped d (leave path ∷ ts) ts from (record from { trail = left })
call_left d path ts from left is = record {
  over = record {
    trail = λ base here. is (trail_of base ts) here;
    goes = λ base calls here o asked. (o.memory, o.keeps, asked.1, λ rest e run. run);
  };
  fits = λ all. all.1;
  comes = λ rest. rest;
  lighter = omega arith;
}

-- what a procedure returns is put
module _ (d : Design) (level : Level) (outer : SiteBody) (task : TaskDef) (cell : Option CellNumber)
    (fits : AnswerFits d level outer task cell) (from to : Course) where
  abbrev item : ExprTree → WorkItem
  item e = deliver (option_and_then (cell_at (tables_of d) outer) cell) (scope_of level.at) e

  answer_put : IsAnswered (body_of d outer) (body_of d level.at) (type_of fits.ty) (body_tree task.body).answer cell
      from
      to → (ts : List Owed) → Stepped d (answer level outer task cell ∷ ts) ts from to
  answer_put answered ts = record {
    over = record {
      trail = λ base here. answered.trail ∙ here;
      goes = λ base calls here o asked.
          let n = delivered (body_of d outer) (body_of d level.at) (type_of fits.ty) cell from to refl
          (body_tree task.body).answer answered o (λ c at_cell. asked.0 fits.ty c fits.kind at_cell) in (
            n.0,
            n.1,
            asked.1,
            λ rest e run.
                subst (λ items. Run o.design items o.memory from.choices e)
                (sym (append_assoc (map (deliver (option_and_then (cell_at (tables_of d) outer) cell)
                (scope_of level.at)) (option_to_list (body_tree task.body).answer))
                (work_of (tables_of d) (base ++ calls) ts) rest))
                (n.2 (work_of (tables_of d) (base ++ calls) ts ++ rest) e run),
          );
    };
    fits = λ all. all.1;
    comes = λ rest. rest;
    lighter = omega arith;
  }

  returned_halts : (returned : Option ExprTree) (h : Halt) →
      HaltsAtAnswer (body_of d level.at) returned from h → (calls : List Place) (others : List WorkItem) →
      HaltsWithin (tables_of d)
      (map (deliver (option_and_then (cell_at (tables_of d) outer) cell) (scope_of level.at)) (option_to_list returned)
      ++ others) (behind calls from) (behind calls to) h
  returned_halts None h halts calls others =
      subst (HaltsWithin (tables_of d) others (behind calls from) (behind calls to)) (sym halts) tt
  returned_halts (Some e) h halts calls others =
      halts_before (tables_of d) (item e ∷ []) others (behind calls from) (behind calls to) h
      (halts_at (body_of d level.at) (item e) (behind calls from) (behind calls to) e h
      (answer_behind calls from (body_of d level.at) (Some e) h halts)
      (λ o over. delivery_ends o.design o.memory from.choices
      (option_and_then (cell_at (tables_of d) outer) cell) (body_of d level.at) e
      (over.is (told (body_of d level.at) from.store o))))

  -- a procedure's end is done: what it returns is put, or overruns
  pub answer_steps : {A : Type 0} (r : Result A Halt) →
      IfOk r (λ _. (ty : TypeName) → task.kind ≡ Procedure (Some ty) →
      IsAnswered (body_of d outer) (body_of d level.at) (type_of ty) (body_tree task.body).answer cell from to) →
      IfErr r (HaltsAtAnswer (body_of d level.at) (body_tree task.body).answer from) → (ts : List Owed) →
      Steps d (answer level outer task cell ∷ ts) ts from to r
  answer_steps (Ok done) answered halts ts = answer_put (answered fits.ty fits.kind) ts
  answer_steps (Err h) answered halts ts = λ base calls here.
      returned_halts (body_tree task.body).answer h halts calls (work_of (tables_of d) (base ++ calls) ts)

-- a step that enters a body, if there is memory for what is left of it
pub entered_steps : {A : Type 0} (d : Design) (old new next : List Owed) (from mid to : Course) (names : List Ident)
    (r : Result A Halt) → IfOk r (λ _. IsEntered names mid to) → IfOk r (λ _. new ≡ next) →
    IfErr r (λ h. h ≡ halt.Memory) → (IsEntered names mid to → Stepped d old next from to) → Steps d old new from to r
entered_steps d old new next from mid to names (Ok done) entered left memory step =
    subst (λ ts. Stepped d old ts from to) (sym left) (step entered)
entered_steps d old new next from mid to names (Err h) entered left memory step = λ base calls here.
    subst (λ h. HaltsOver (tables_of d) old from to h) (sym memory) (λ base calls here. tt) base calls here

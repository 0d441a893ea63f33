-- What items do keeps all values of their types.
use Rattle.std.proofs.Common.{◌≡◌, ℕ, ◌<◌, Bool, true, false, cond, Option, None, Some, List, [], ◌∷◌, ◌++◌, map, drop, nat_lt, refl, sym, ap, ◌∙◌, subst}
use Rattle.std.specs.Prelude.{⊤, slice_get, unwrap_or}
use Rattle.std.specs.List.{AllByRecursion, fold, list_any, zip}
use Rattle.std.specs.Option.{option_map, option_map_or, option_to_list}
use Rattle.tm_base.specs.declared.place.Place.{Place}
use Rattle.tm_syntax.specs.declared.design.Ty.{Ty}
use Rattle.tm_syntax.specs.declared.design.Ty.TheVariants as types
use Rattle.tm_syntax.specs.declared.tree.Ident.{Ident}
use Rattle.tm_syntax.specs.declared.tree.Param.{Param}
use Rattle.tm_syntax.specs.declared.tree.TaskKind.{TaskKind}
use Rattle.tm_syntax.specs.Tree.{BlockRow, ExprTree, StmtRow, StmtTree, TaskTree, TemplateTree, ValueTree, assert, assign, assume, blocks_of, branch, choose, forever, invoke, magic, pause, plain, repeat, result, star, wait}
use Rattle.tm_syntax.specs.Scopes.Context.{Context}
use Rattle.tm_syntax.specs.Scopes.Names.{type_of}
use Rattle.tm_syntax.specs.Scopes.Parts.{Asked, asked_args, body_stmts, call_args, target_exprs, written_result}
use Rattle.tm_syntax.specs.Scopes.Pauses.{task_reached}
use Rattle.tm_syntax.specs.Scopes.Types.{constant_type, either_type, named_type}
use Rattle.tm_syntax.specs.Faults.{IsTyped}
use Rattle.tm_syntax.specs.Design.{DesignTree, IsDesign}
use Rattle.tm_syntax.specs.Design.Cells.{Called, Cell, called, cell, cell_type}
use Rattle.tm_syntax.specs.Design.Scope.{Scope, context}
use Rattle.tm_syntax.specs.Design.Sizes.{type_size}
use Rattle.tm_syntax.specs.Design.Work.{WorkItem, body_items, call_place, deliver, perform, performs}
use Rattle.tm_sem.specs.Run.{Ending, Progress, Run, acts, asked_by, assigns, at_end, blocked, calls, chooses_block, chooses_value, comes_to, delivery, ends, failed, finished, goes, goes_on, none_left, progress, put_in, stopped, valued, with_arguments}
use Rattle.tm_sem.specs.Value.{Memory, holds_in, index_value, overruns, put, value}
use Rattle.tm_typing.specs.HasType.{HasType}
use Rattle.tm_typing.specs.Promises.{HasAskedType}
use Rattle.tm_typing.specs.Statements.{HasResult}
use Rattle.tm_typing.proofs.Fitting.{all_of_both}
use Rattle.tm_typing.proofs.Listed.{all_join, one_thing}
use Rattle.tm_locations.specs.Locations.{LeadsByText}
use Rattle.tm_design.proofs.SettledDesigns.{checked_settled, stands_at}
use Rattle.tm_states.proofs.TypedValues.{values_below}
use Rattle.tm_states.specs.Promised.{RowIsPromised, StmtIsPromised}
use Rattle.tm_states.specs.Standing.{ItemsStand, StandsIn}
use Rattle.tm_states.proofs.Bodies.{called_leads, text_leads}
use Rattle.tm_states.proofs.Callees.{task_context, task_here, task_own, task_params, task_returns}
use Rattle.tm_states.proofs.Found.{below_tested}
use Rattle.tm_states.proofs.Memories.{HoldsTyped, IsOwn, cell_own, put_in_typed, put_typed, typed_holds}
use Rattle.tm_states.proofs.Promised.{block_at, branch_rows, choose_blocks, forever_row, repeat_row, target_named, value_typed}
use Rattle.tm_states.proofs.Standing.{called_stands, list_stands, row_stands, stands}

module _ (d : DesignTree) where
  -- what is put into a cell is of the cell's type
  pub record Delivers (target : Option Cell) (scope : Scope) (e : ExprTree) : Type 0 where
    pub place : Context
    pub here : context d scope ≡ Some place
    pub fits : (c : Cell) → target ≡ Some c → IsOwn d c × HasType place (asked_by d (Some c)) e

  -- an item is a statement that stands in a body, or delivers such a value
  abbrev pub ItemFits : WorkItem → Type 0
  ItemFits (perform scope trail s) = StandsIn d scope s
  ItemFits (deliver target scope e) = Delivers target scope e

  abbrev pub ItemsFit : List WorkItem → Type 0
  ItemsFit items = AllByRecursion ItemFits items

  -- all values are of their types at an end in a memory
  abbrev pub EndsTyped : Ending → Type 0
  EndsTyped (stopped at trail m) = HoldsTyped d m
  EndsTyped (finished m) = HoldsTyped d m
  EndsTyped failed = ⊤
  EndsTyped blocked = ⊤

  -- so they are where an item goes on
  abbrev pub GoesTyped : Progress → Type 0
  GoesTyped (goes_on front m cs) = ItemsFit front × HoldsTyped d m
  GoesTyped (comes_to e) = EndsTyped e

  pub standing_fits : (items : List WorkItem) → ItemsStand d items → ItemsFit items
  standing_fits [] all = tt
  standing_fits (perform scope trail s ∷ items) all = (all.0, standing_fits items all.1)
  standing_fits (deliver target scope e ∷ items) all = elim all.0 [ ]

  end_typed : (cs : List ℕ) (e : Ending) → EndsTyped e → EndsTyped (at_end cs e)
  end_typed [] e h = h
  end_typed (c ∷ cs) e h = tt

  -- either way
  either : (p q : Progress) (b : Bool) → (b ≡ true → GoesTyped p) → (b ≡ false → GoesTyped q) →
      GoesTyped (cond b p q)
  either p q true first second = first refl
  either p q false first second = second refl

  module _ (typed : IsTyped d.spec) (numbered : IsDesign d) (leads : LeadsByText d) where
    value_less : (m : Memory) → HoldsTyped d m → (scope : Scope) (c : Context) → context d scope ≡ Some c →
        (ty : Ty) (e : ExprTree) → HasType c ty e → value d scope m ty e < type_size d.spec ty
    value_less m h scope c here ty e is =
        values_below d typed numbered m (typed_holds d m h) scope c here ty e is

    module _ (scope : Scope) (c : Context) (here : context d scope ≡ Some c) where
      -- a target is of the type that the text says
      target_asks : (names : List Ident) (index : Option ℕ) (ty : Ty) → named_type c names ≡ Some ty →
          (found : Cell) → cell d scope names index ≡ Some found → asked_by d (Some found) ≡ ty
      target_asks names None ty named found is =
          ap (λ o. unwrap_or o types.Bool)
          ((checked_settled d typed numbered).variables scope c names ty found here
          (ap (λ o. either_type o (constant_type c.spec names)) named) is)
      target_asks names (Some k) ty named found is =
          ap (λ o. unwrap_or o types.Bool)
          ((checked_settled d typed numbered).elements scope c names k ty found here named is)

      -- arguments are put into the cells of their parameters
      given : (m : Memory) → HoldsTyped d m → (ps : List Param) (cells : List Cell) (es : List ExprTree) →
          map (cell_type d) cells ≡ map (λ (p : Param). Some (type_of p.ty)) ps → AllByRecursion (IsOwn d) cells →
          AllByRecursion (λ (a : Asked). HasAskedType (record { context = c; asked = a })) (asked_args ps es) →
          (n : Memory) → HoldsTyped d n →
          HoldsTyped d (fold (λ so_far (p : Cell × ExprTree).
          put so_far p.0 (value d scope m (asked_by d (Some p.0)) p.1)) n (zip cells es))
      given m h ps [] es same own all n k = k
      given m h ps (x ∷ cells) [] same own all n k = k
      given m h [] (x ∷ cells) (e ∷ es) same own all n k = absurd (cc)
      given m h (p ∷ ps) (x ∷ cells) (e ∷ es) same own all n k =
          let asked : asked_by d (Some x) ≡ type_of p.ty =
          ap (λ (tys : List (Option Ty)). unwrap_or (unwrap_or (slice_get tys 0) None) types.Bool) same in
          let less = value_less m h scope c here (asked_by d (Some x)) e
          (subst (λ t. HasType c t e) (sym asked) (all.0 (type_of p.ty) refl)) in
          given m h ps cells es (ap (drop 1) same) own.1 all.1
          (put n x (value d scope m (asked_by d (Some x)) e)) (put_typed d n x _ k own.0 less)

      -- a call of what the text promises
      call_typed : (trail : List Place) (m : Memory) → HoldsTyped d m → (cs : List ℕ) (names : List Ident)
          (args : List ExprTree) (after : Called → List WorkItem) →
          AllByRecursion (λ (a : Asked). HasAskedType (record { context = c; asked = a })) (call_args c names args) →
          ((callee : Called) → called d scope names ≡ Some callee → ItemsFit (after callee)) →
          GoesTyped (calls d scope trail m cs names args after)
      call_typed trail m h cs names args after all behind = by (called d scope names) refl
        where
          by : (o : Option Called) → called d scope names ≡ o →
              GoesTyped (option_map_or (λ callee.
              goes_on (body_items callee.scope (call_place names ++ trail) callee.body ++ after callee)
              (with_arguments d scope m callee.params args) cs) o (comes_to blocked))
          by None is = tt
          by (Some callee) is =
              let at = stands_at d scope c here in
              let to = called_leads d scope at.at at.is names callee is in
              let reached = ap (λ (x : Context). task_reached x.spec x.template names) (sym at.same)
              ∙ text_leads d leads scope.instance at.at at.is names callee to in
              let body = called_stands d typed callee to.task in (
                all_join ItemFits (body_items callee.scope (call_place names ++ trail) callee.body) (after callee)
                    (standing_fits (body_items callee.scope (call_place names ++ trail) callee.body)
                    (list_stands d callee.scope body.place body.here (call_place names ++ trail)
                    (body_stmts callee.body) body.promised))
                    (behind callee is),
                given m h to.task.task.params callee.params args (task_params d typed numbered callee to.task)
                    (task_own d typed numbered callee to.task)
                    (subst (λ (o : Option (TemplateTree × TaskTree)).
                    AllByRecursion (λ (a : Asked). HasAskedType (record { context = c; asked = a }))
                    (asked_args (option_map_or (λ k. k.1.params) o []) args)) reached all) m h,
              )

      -- what a call returns goes into a target of its type
      delivers : (target : Option Cell) (names path : List Ident) (count : ℕ) → HasResult c names path count →
          (ty : Ty) → named_type c names ≡ Some ty →
          ((found : Cell) → target ≡ Some found → IsOwn d found × (asked_by d (Some found) ≡ ty)) →
          (callee : Called) → called d scope path ≡ Some callee → ItemsFit (delivery target callee)
      delivers target names path count returned ty named fits callee is = by callee.body.answer refl
        where
          by : (o : Option ExprTree) → callee.body.answer ≡ o →
              ItemsFit (map (deliver target callee.scope) (option_to_list o))
          by None answer = tt
          by (Some e) answer =
              let at = stands_at d scope c here in
              let to = called_leads d scope at.at at.is path callee is in
              let reached = ap (λ (x : Context). task_reached x.spec x.template path) (sym at.same)
              ∙ text_leads d leads scope.instance at.at at.is path callee to in
              let one : to.task.task ≡ returned.callee.task =
              ap (λ (p : TemplateTree × TaskTree). p.1) (one_thing reached returned.callee.is) in
              let declared : option_map type_of (written_result to.task.task.kind) ≡ Some ty =
              ap (λ (t : TaskTree). option_map type_of (written_result t.kind)) one
              ∙ ap (λ (k : TaskKind). option_map type_of (written_result k)) returned.is
              ∙ ap Some (sym (returned.fits ty named)) in (
                record {
                  place = task_context d typed numbered callee to.task;
                  here = task_here d typed numbered callee to.task;
                  fits = λ found same.
                      let both = fits found same in (
                        both.0,
                        subst (λ t. HasType (task_context d typed numbered callee to.task) t e) (sym both.1)
                            (task_returns d typed numbered callee to.task ty declared e answer),
                      );
                },
                tt,
              )

      -- the next choice numbers a value of the target's type
      choice_typed : (m : Memory) → HoldsTyped d m → (target : Option Cell) →
          ((found : Cell) → target ≡ Some found → IsOwn d found) → (cs : List ℕ) →
          GoesTyped (chooses_value d m target cs)
      choice_typed m h target own [] = tt
      choice_typed m h target own (n ∷ cs) =
          either (goes_on [] (put_in m target n) cs) (comes_to blocked)
          (nat_lt n (type_size d.spec (asked_by d target)))
          (λ test. (
            tt,
            put_in_typed d m target n h (λ found is. (
              own found is,
              subst (λ (t : Option Cell). n < type_size d.spec (asked_by d t)) is
                  (below_tested n (type_size d.spec (asked_by d target)) test),
            )),
          ))
          (λ test. tt)

      assigned_typed : (trail : List Place) (m : Memory) → HoldsTyped d m → (cs : List ℕ) (names : List Ident)
          (index : Option ExprTree) (v : ValueTree) → StmtIsPromised c (assign names index v) →
          GoesTyped (assigns d scope trail m cs (cell d scope names (option_map (index_value d scope m) index)) v)
      assigned_typed trail m h cs names index (star _) promised =
          choice_typed m h (cell d scope names (option_map (index_value d scope m) index))
          (λ found is. cell_own d scope names (option_map (index_value d scope m) index) found is) cs
      assigned_typed trail m h cs names index (result path args) promised =
          let target = cell d scope names (option_map (index_value d scope m) index) in
          let named = target_named c names index promised.0.resolves.0 in
          call_typed trail m h cs path args (delivery target)
          (all_of_both (λ (a : Asked). HasAskedType (record { context = c; asked = a })) (target_exprs names index)
          (call_args c path args) promised.0.exprs).1
          (delivers target names path _ promised.0.resolves.1 named.0 named.1 (λ found is. (
            cell_own d scope names (option_map (index_value d scope m) index) found is,
            target_asks names (option_map (index_value d scope m) index) named.0 named.1 found is,
          )))
      assigned_typed trail m h cs names index (plain e) promised =
          let at = option_map (index_value d scope m) index in
          let target = cell d scope names at in
          let is = value_typed c names index e promised in (
            tt,
            put_in_typed d m target (value d scope m (asked_by d target) e) h (λ found same. (
              cell_own d scope names at found same,
              let asked = target_asks names at is.0 is.1 found same in
                  subst (λ t. value d scope m (asked_by d target) e < type_size d.spec t) (sym asked)
                  (subst (λ t. value d scope m t e < type_size d.spec is.0) (sym (ap (asked_by d) same ∙ asked))
                  (value_less m h scope c here is.0 e is.2)),
            )),
          )

      -- the next choice numbers an alternative
      block_typed : (trail : List Place) (m : Memory) → HoldsTyped d m → (at : Place) (blocks : BlockRow) →
          StmtIsPromised c (choose at blocks) → (cs : List ℕ) →
          GoesTyped (chooses_block scope trail m (blocks_of blocks) cs)
      block_typed trail m h at blocks promised [] = tt
      block_typed trail m h at blocks promised (n ∷ cs) = by (slice_get (blocks_of blocks) n) refl
        where
          by : (o : Option StmtRow) → slice_get (blocks_of blocks) n ≡ o →
              GoesTyped (option_map_or (λ block. goes_on (performs scope trail block) m cs) o (comes_to blocked))
          by None is = tt
          by (Some block) is = (
            standing_fits (performs scope trail block) (row_stands d scope c here trail block
                (block_at c blocks n block (choose_blocks c at blocks promised) is)),
            h,
          )

      row_fits : (trail : List Place) (row : StmtRow) → RowIsPromised c row → ItemsFit (performs scope trail row)
      row_fits trail row promised =
          standing_fits (performs scope trail row) (row_stands d scope c here trail row promised)

      -- what a statement does
      act_typed : (trail : List Place) (m : Memory) → HoldsTyped d m → (cs : List ℕ) (s : StmtTree) →
          StmtIsPromised c s → GoesTyped (acts d scope trail m cs s)
      act_typed trail m h cs (assign names index v) promised = assigned_typed trail m h cs names index v promised
      act_typed trail m h cs (invoke names args) promised =
          call_typed trail m h cs names args (λ _. []) promised.0.exprs (λ callee is. tt)
      act_typed trail m h cs (branch e first second) promised =
          by (holds_in d scope m e)
        where
          by : (b : Bool) → GoesTyped (goes_on (performs scope trail (cond b first second)) m cs)
          by true = (row_fits trail first (branch_rows c e first second promised).0, h)
          by false = (row_fits trail second (branch_rows c e first second promised).1, h)
      act_typed trail m h cs (repeat at e body) promised = by (holds_in d scope m e)
        where
          by : (b : Bool) →
              GoesTyped (goes_on (cond b (performs scope trail body ++ perform scope trail (repeat at e body) ∷ []) [])
              m cs)
          by true = (
            all_join ItemFits (performs scope trail body) (perform scope trail (repeat at e body) ∷ [])
                (row_fits trail body (repeat_row c at e body promised))
                (stands d scope c here trail (repeat at e body) promised, tt),
            h,
          )
          by false = (tt, h)
      act_typed trail m h cs (forever at body) promised = (
        all_join ItemFits (performs scope trail body) (perform scope trail (forever at body) ∷ [])
            (row_fits trail body (forever_row c at body promised))
            (stands d scope c here trail (forever at body) promised, tt),
        h,
      )
      act_typed trail m h cs (choose at blocks) promised = block_typed trail m h at blocks promised cs
      act_typed trail m h cs (assert at e) promised =
          either (goes_on [] m cs) (comes_to (at_end cs failed)) (holds_in d scope m e) (λ test. (tt, h))
          (λ test. end_typed cs failed tt)
      act_typed trail m h cs (assume at e) promised =
          either (goes_on [] m cs) (comes_to blocked) (holds_in d scope m e) (λ test. (tt, h)) (λ test. tt)
      act_typed trail m h cs (pause at) promised = end_typed cs (stopped at trail m) h
      act_typed trail m h cs (wait at e) promised = end_typed cs (stopped at trail m) h
      act_typed trail m h cs (magic at) promised = end_typed cs (stopped at trail m) h

    -- what an item does
    item_typed : (item : WorkItem) → ItemFits item → (m : Memory) → HoldsTyped d m → (cs : List ℕ) →
        GoesTyped (progress d m cs item)
    item_typed (perform scope trail s) fits m h cs =
        either (comes_to (at_end cs failed)) (acts d scope trail m cs s) (list_any (overruns d scope m) (valued s))
        (λ test. end_typed cs failed tt)
        (λ test. act_typed scope fits.place fits.here trail m h cs s fits.promised)
    item_typed (deliver target scope e) fits m h cs =
        either (comes_to (at_end cs failed)) (goes_on [] (put_in m target (value d scope m (asked_by d target) e)) cs)
        (overruns d scope m e) (λ test. end_typed cs failed tt)
        (λ test. (tt, put_in_typed d m target (value d scope m (asked_by d target) e) h fitting))
      where
        fitting : (found : Cell) → target ≡ Some found →
            IsOwn d found × (value d scope m (asked_by d target) e < type_size d.spec (asked_by d (Some found)))
        fitting found is =
            let both = fits.fits found is in (
              both.0,
              subst (λ (t : Option Cell). value d scope m (asked_by d t) e < type_size d.spec (asked_by d (Some found)))
                  (sym is) (value_less m h scope fits.place fits.here (asked_by d (Some found)) e both.1),
            )

    -- where a run ends in a memory, all values are of their types
    pub run_typed : (items : List WorkItem) → ItemsFit items → (m : Memory) → HoldsTyped d m → (cs : List ℕ)
        (e : Ending) → Run d items m cs e → EndsTyped e
    run_typed [] fits m h cs e (none_left is) = subst EndsTyped (sym is) (end_typed cs (finished m) h)
    run_typed (first ∷ others) fits m h cs e (ends is) = subst GoesTyped is (item_typed first fits.0 m h cs)
    run_typed (first ∷ others) fits m h cs e (goes {front = front} {n = n} {ds = ds} is rest) =
        let next = subst GoesTyped is (item_typed first fits.0 m h cs) in
        run_typed (front ++ others) (all_join ItemFits front others next.0 fits.1) n next.1 ds e rest

-- A call of the driver, where values of levels give its arguments.
use Rattle.std.proofs.Common.{◌≡◌, ℕ, zero, suc, ◌+◌, ◌^◌, ◌<◌, ◌≤◌, true, Bor, Vec, Option, None, Some, List, [], ◌∷◌, length, get_or, refl, sym, ap, ◌∙◌, subst, arith, eqb-true, ltb-true}
use Rattle.std.specs.Prelude.{nat_eq, nat_lt, slice_get}
use Rattle.std.specs.List.{AllZip, list_all, range_with_len, zip}
use Rattle.std.specs.declared.alloc.Global.{Global}
use Rattle.std.specs.Option.{option_and_then, option_copied, option_map, option_map_or}
use Rattle.std.specs.Slice.{IsItemAt}
use Rattle.std.proofs.lemmas.Bool.{ltb-false}
use Rattle.std.proofs.lemmas.List.FromFn.{length-range_with_len}
use Rattle.std.proofs.lemmas.Option.{slice_get-get_or, slice_get-map, slice_get_past, slice_get_within}
use Rattle.std.proofs.lemmas.Slice.Zip.{AllZip-long}
use Rattle.tm_game_bits.specs.Inputs.{arguments_at}
use Rattle.tm_game_bits.proofs.Numbers.{Fits}
use Rattle.tm_dd.specs.Table.{assignment}
use Rattle.tm_flat.specs.BitStep.{HasRoom}
use Rattle.tm_flat.specs.Fitting.{ArgumentsFit}
use Rattle.tm_flat.specs.declared.flat.Flat.{Flat}
use Rattle.tm_flat.specs.Flat.{FlatTerms, flat_terms}
use Rattle.tm_flat.specs.Inputs.{room, arguments_in, parameter_widths}
use Rattle.tm_flat.specs.IsFlat.{AreWidths, IsFlat}
use Rattle.tm_flat.specs.Steps.{IsTaskStep}
use Rattle.tm_game_bits.specs.Functions.{Assignment}
use Rattle.tm_game_bits.proofs.Sets.{both_true}
use Rattle.tm_game.specs.declared.moves.MoveShape.TheVariants as shapes
use Rattle.tm_game.specs.Inner.Called.{IsCallable}
use Rattle.tm_game.specs.Moves.{move_at}
use Rattle.tm_game.proofs.Valuing.{arguments_given}
use Rattle.tm_game.proofs.Writing.{each_fits, have_all}
use Rattle.tm_sem.specs.declared.state.Move.TheVariants as moves
use Rattle.tm_sem.specs.Run.{asked_by}
use Rattle.tm_sem.specs.State.{StateData}
use Rattle.tm_sem.specs.StateBits.{bits_of_numbers}
use Rattle.tm_sem.specs.Step.{IsAllowed, arguments_fit, task_of}
use Rattle.tm_syntax.specs.declared.design.Item.{Item}
use Rattle.tm_syntax.specs.Design.{DesignTree, IsDesign}
use Rattle.tm_syntax.specs.Design.Cells.{Called, Cell, task_called}
use Rattle.tm_syntax.specs.Design.Scope.{site}
use Rattle.tm_syntax.specs.Design.Sizes.{type_bits, type_size}
use Rattle.tm_term.specs.Table.{Table}
use Rattle.tm_game_bits.proofs.Tables.{called_with}
use Rattle.tm_game_bits.proofs.Tasks.{has_tasks}

module _ (d : DesignTree) where
  -- arguments in range are numbers of the widths of their parameters
  in_range : (params : List Cell) (args : List ℕ) (k : ℕ) → length params ≡ length args →
      list_all (λ p. nat_lt p.1 (type_size d.spec (asked_by d (Some p.0)))) (zip params args) ≡ true →
      ArgumentsFit room d params k → AllZip Fits (parameter_widths d params) args
  in_range [] [] k count all fits = tt
  in_range [] (n ∷ ns) k count all fits = absurd (omega arith)
  in_range (c ∷ cs) [] k count all fits = absurd (omega arith)
  in_range (c ∷ cs) (n ∷ ns) k count all fits =
      let parts : (nat_lt n (type_size d.spec (asked_by d (Some c))) ≡ true)
      × (list_all (λ p. nat_lt p.1 (type_size d.spec (asked_by d (Some p.0)))) (zip cs ns) ≡ true) =
      both_true (nat_lt n (type_size d.spec (asked_by d (Some c))))
      (list_all (λ p. nat_lt p.1 (type_size d.spec (asked_by d (Some p.0)))) (zip cs ns)) all in
      let below : n < type_size d.spec (asked_by d (Some c)) =
      ltb-true n (type_size d.spec (asked_by d (Some c))) parts.0 in
      let enough : type_size d.spec (asked_by d (Some c)) ≤ 2 ^ type_bits d.spec (asked_by d (Some c)) = fits.0 in
      let small : n < 2 ^ type_bits d.spec (asked_by d (Some c)) = omega arith in
      (small, in_range cs ns (k + type_bits d.spec (asked_by d (Some c))) (omega arith) parts.1 fits.1)

  pub fit_widths : (params : List Cell) (args : List ℕ) → ArgumentsFit room d params 0 →
      arguments_fit d params args ≡ true → AllZip Fits (parameter_widths d params) args
  fit_widths params args fits fit =
      let parts : (nat_eq (length params) (length args) ≡ true)
      × (list_all (λ p. nat_lt p.1 (type_size d.spec (asked_by d (Some p.0)))) (zip params args) ≡ true) =
      both_true (nat_eq (length params) (length args))
      (list_all (λ p. nat_lt p.1 (type_size d.spec (asked_by d (Some p.0)))) (zip params args)) fit in
      in_range params args 0 (eqb-true (length params) (length args) parts.0) parts.1 fits

  -- a task that is there has its number
  task_there : (n : ℕ) (callee : Called) → task_of d n ≡ Some callee → n < length d.tasks
  task_there n callee is = of (slice_get d.tasks n) refl is
    where
      of : (o : Option Item) → slice_get d.tasks n ≡ o →
          option_and_then (λ item. option_and_then (λ at. option_and_then (task_called d at) item.index)
          (site d item.instance)) o ≡ Some callee →
          n < length d.tasks
      of None at there = absurd (cc)
      of (Some item) at there = slice_get_within d.tasks n item at

-- the widths of a task, by its number
row_told : (d : DesignTree) (base count : ℕ) (rows : List (List ℕ)) (k : ℕ) (widths : List ℕ) →
    AllZip (AreWidths d) (range_with_len base count) rows → slice_get rows k ≡ Some widths →
    AreWidths d (base + k) widths
row_told d base zero [] k widths all is = absurd (cc)
row_told d base zero (r ∷ rs) k widths all is = absurd all
row_told d base (suc n) [] k widths all is = absurd all
row_told d base (suc n) (r ∷ rs) zero widths all is =
    let same : base ≡ base + 0 = omega arith in
    let row : r ≡ widths = ap (λ (o : Option (List ℕ)). option_map_or (λ ws. ws) o []) is in
    subst (λ (q : ℕ). AreWidths d q widths) same (subst (AreWidths d base) row all.0)
row_told d base (suc n) (r ∷ rs) (suc k) widths all is =
    let same : base + 1 + k ≡ base + suc k = omega arith in
    subst (λ (q : ℕ). AreWidths d q widths) same (row_told d (base + 1) n rs k widths all.1 is)

module _ (t : Table) (d : DesignTree) (f : FlatTerms) (flat : IsFlat t d f) (has_room : HasRoom d) (n : ℕ)
    (args : List ℕ) where
  tasks_long : length f.tasks ≡ length d.tasks
  tasks_long =
      AllZip-long (IsTaskStep t d) (range_with_len 0 (length d.tasks)) f.tasks flat.tasks
      ∙ length-range_with_len 0 (length d.tasks)

  rows_long : length f.parameters ≡ length d.tasks
  rows_long =
      AllZip-long (AreWidths d) (range_with_len 0 (length d.tasks)) f.parameters flat.parameters
      ∙ length-range_with_len 0 (length d.tasks)

  told : (widths : List ℕ) → slice_get f.parameters n ≡ Some widths → AreWidths d n widths
  told widths is =
      let same : 0 + n ≡ n = omega arith in
      subst (λ (q : ℕ). AreWidths d q widths) same
      (row_told d 0 (length d.tasks) f.parameters n widths flat.parameters is)

  -- a call that is allowed is one of a task, with arguments of its widths
  pub callable : (s : StateData) → IsAllowed d s (moves.Call n args) → IsCallable f n args
  callable s h =
      let call = called_with d s h.1 h.2 h.4 n args h.3 in
      let inside : n < length d.tasks = task_there d n call.callee call.known in
      let are : slice_get f.parameters n ≡ Some (get_or f.parameters n []) =
      slice_get-get_or f.parameters n [] (omega (arith, inside, rows_long)) in
      record {
        there = omega (arith, inside, tasks_long);
        widths = get_or f.parameters n [];
        are = are;
        fit = have_all (get_or f.parameters n []) args
            (subst (λ (ws : List ℕ). AllZip Fits ws args)
            (sym (told (get_or f.parameters n []) are call.callee call.known))
            (fit_widths d call.callee.params args (has_room.arguments n call.callee call.known) call.fit));
      }

  -- values of levels that give these arguments give this call
  pub call_given : IsDesign d → (order : List ℕ) (v : Assignment) (can : IsCallable f n args) →
      ((j : ℕ) → j < 64 → v (length order + j) ≡ assignment (bits_of_numbers can.widths args) j) →
      move_at d order (shapes.Call n) v ≡ moves.Call n args
  call_given design order v can given =
      let callee = has_tasks d design n (omega (arith, can.there, tasks_long)) in
      let same = told can.widths can.are callee.0 callee.1 in
      ap
      (λ o. option_map_or (λ (c : Called). moves.Call n (arguments_in d c.params (arguments_at order v))) o moves.Idle)
      callee.1
      ∙ ap (moves.Call n)
      (arguments_given d order callee.0.params args v (has_room.arguments n callee.0 callee.1)
      (subst (λ (ws : List ℕ). AllZip Fits ws args) same (each_fits can.widths args can.fit))
      (λ j small. given j small ∙ ap (λ ws. assignment (bits_of_numbers ws args) j) same))

-- ---- the parameters of a task, by its number
-- what a slice lends at an index is its item there
item_there : {X : Type 0} (xs : List X) (k : ℕ) (r : Option (Bor X)) → IsItemAt xs k r →
    slice_get xs k ≡ option_copied r
item_there xs k None item = slice_get_past xs k (ltb-false k (length xs) (sym item.0))
item_there xs k (Some x) item =
    slice_get-get_or xs k x.now (ltb-true k (length xs) (sym item.0)) ∙ ap (λ y. Some y) (sym item.1)

pub row_there : (f : Flat) (rows : List (Vec ℕ Global)) (task : ℕ) (row : Bor (Vec ℕ Global)) →
    rows ≡ f.parameters.items → IsItemAt rows task (Some row) →
    slice_get (flat_terms f).parameters task ≡ Some row.now.items
row_there f rows task row same item =
    slice_get-map (λ (widths : Vec ℕ Global). widths.items) f.parameters.items task
    ∙ ap (λ (rs : List (Vec ℕ Global)). option_map (λ (widths : Vec ℕ Global). widths.items) (slice_get rs task))
    (sym same)
    ∙ ap (option_map (λ (widths : Vec ℕ Global). widths.items)) (item_there rows task (Some row) item)

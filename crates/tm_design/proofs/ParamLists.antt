-- The cells of all parameters of a task.
use Rattle.std.proofs.Common.{◌≡◌, ℕ, zero, suc, ◌+◌, ◌<◌, ◌≤◌, Option, None, Some, List, [], ◌∷◌, ◌++◌, length, map}
use Rattle.std.proofs.Common.{take}
use Rattle.std.proofs.Common.{get_or, slice_get, refl, sym, ap, ◌∙◌, subst, arith}
use Rattle.std.specs.List.{AllZip, cons_option, filter_map}
use Rattle.std.proofs.lemmas.List.{take_all, take_more}
use Rattle.std.proofs.lemmas.Slice.Zip.{all_zipped_more}
use Rattle.tm_syntax.specs.declared.tree.Param.{Param}
use Rattle.tm_syntax.specs.declared.tree.TaskDef.{TaskDef}
use Rattle.tm_syntax.specs.Design.{DesignTree}
use Rattle.tm_syntax.specs.Design.Cells.{Cell}
use Rattle.tm_scope.specs.Cells.{HasCells, ScopedCells, cell_at}
use Rattle.tm_scope.specs.declared.cells.site_body.CellNumber.{CellNumber}
use Rattle.tm_design.specs.Inner.ParamCells.{IsParamCell, param_cell}
use Rattle.tm_design.specs.Parameters.{AreCalledCells, task_at}
use Rattle.tm_design.proofs.OperandCells.{called_params, task_place}

-- no more is picked than there is
filter_map-long : {X Y : Type 0} (f : X → Option Y) (xs : List X) → length (filter_map f xs) ≤ length xs
filter_map-long f [] = omega arith
filter_map-long {X} {Y} f (x ∷ xs) = by (f x) (filter_map-long f xs)
  where
    by : (o : Option Y) → length (filter_map f xs) ≤ length xs →
        length (cons_option o (filter_map f xs)) ≤ length (x ∷ xs)
    by None most = omega (arith, most)
    by (Some y) most = omega (arith, most)

-- where as much is picked as there is, each element gives something
filter_map-whole : {X Y : Type 0} (f : X → Option Y) (xs : List X) → length (filter_map f xs) ≡ length xs →
    map f xs ≡ map Some (filter_map f xs)
filter_map-whole f [] whole = refl
filter_map-whole {X} {Y} f (x ∷ xs) whole =
    by (f x) whole (filter_map-long f xs) (filter_map-whole f xs)
  where
    by : (o : Option Y) → length (cons_option o (filter_map f xs)) ≡ length (x ∷ xs) →
        length (filter_map f xs) ≤ length xs →
        (length (filter_map f xs) ≡ length xs → map f xs ≡ map Some (filter_map f xs)) →
        o ∷ map f xs ≡ map Some (cons_option o (filter_map f xs))
    by None whole most rest = absurd (omega (arith, whole, most))
    by (Some y) whole most rest = ap (λ os. Some y ∷ os) (rest (omega (arith, whole)))

-- an index within a list has an element
element_at : {X : Type 0} (xs : List X) (k : ℕ) → k < length xs →
    (x : X) × (slice_get xs k ≡ Some x) × (get_or xs k x ≡ x)
element_at [] k within = absurd (omega arith)
element_at (x ∷ xs) zero within = (x, refl, refl)
element_at (x ∷ xs) (suc k) within = element_at xs k (omega arith)

module _ (s : ScopedCells) where
  -- one more parameter
  pub more_params : (ps : List Param) (k : ℕ) (old new : List CellNumber) (n : CellNumber) → k < length ps →
      ((p : Param) → slice_get ps k ≡ Some p → IsParamCell s p n) → new ≡ old ++ n ∷ [] →
      AllZip (IsParamCell s) (take k ps) old → AllZip (IsParamCell s) (take (k + 1) ps) new
  more_params ps k old new n within is pushed before =
      let p = element_at ps k within in
      subst (λ ns. AllZip (IsParamCell s) (take (k + 1) ps) ns) (sym pushed)
      (subst (λ qs. AllZip (IsParamCell s) qs (old ++ n ∷ []))
      (sym (take_more ps k p.0 within ∙ ap (λ q. take k ps ++ q ∷ []) p.2))
      (all_zipped_more (IsParamCell s) (take k ps) old p.0 n before (is p.0 p.1)))

  module _ (d : DesignTree) (has : HasCells s.tables d) where
    cells_are : (ps : List Param) (ns : List CellNumber) (cells : List Cell) → AllZip (IsParamCell s) ps ns →
        map (param_cell d s.at) ps ≡ map Some cells → map (cell_at s.tables s.at) ns ≡ map Some cells
    cells_are [] [] cells all are = are
    cells_are [] (n ∷ ns) cells all are = absurd all
    cells_are (p ∷ ps) [] cells all are = absurd all
    cells_are (p ∷ ps) (n ∷ ns) [] all are = absurd (cc)
    cells_are (p ∷ ps) (n ∷ ns) (c ∷ cs) all are =
        let first : param_cell d s.at p ≡ Some c = cc in
        let rest : map (param_cell d s.at) ps ≡ map Some cs = cc in
        (λ i. all.0 d has c first i ∷ cells_are ps ns cs all.1 rest i)

  -- the numbers of all parameters are those of the cells into which the arguments go
  pub all_params : (task : TaskDef) (ns : List CellNumber) (k : ℕ) → task_at s ≡ Some task →
      length task.params.items ≤ k → AllZip (IsParamCell s) (take k task.params.items) ns →
      AreCalledCells s (length task.params.items) ns
  all_params task ns k there end all = record {
    cells = λ d has c called whole.
        let params = called_params s task (task_place s task there) d has c called in
        cells_are d has task.params.items ns c.params
        (subst (λ ps. AllZip (IsParamCell s) ps ns) (take_all k task.params.items end) all)
        (filter_map-whole (param_cell d s.at) task.params.items (sym (ap length params) ∙ whole)
        ∙ ap (map Some) (sym params));
  }

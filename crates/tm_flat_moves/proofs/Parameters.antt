-- The parameters of a task, one after the other.
use Rattle.std.proofs.Common.{◌≡◌, ℕ, zero, suc, ◌+◌, ◌≤◌, Option, None, Some, List, [], ◌∷◌, length, map, drop, slice_get, refl, sym, ap, ◌∙◌, subst, arith}
use Rattle.std.specs.Prelude.{unwrap_or}
use Rattle.std.specs.Option.{option_and_then, option_map, option_map_or}
use Rattle.std.proofs.lemmas.List.{drop_all}
use Rattle.tm_syntax.specs.declared.design.Ty.TheVariants as types
use Rattle.tm_syntax.specs.declared.design.Ty.{Ty}
use Rattle.tm_syntax.specs.declared.design.Var.{Var}
use Rattle.tm_syntax.specs.declared.tree.Param.{Param}
use Rattle.tm_syntax.specs.declared.tree.TaskDef.{TaskDef}
use Rattle.tm_syntax.specs.Tree.{SpecTree}
use Rattle.tm_syntax.specs.Tree.View.{spec_tree}
use Rattle.tm_syntax.specs.Scopes.Context.{Slot}
use Rattle.tm_syntax.specs.Scopes.Names.{type_of}
use Rattle.tm_syntax.specs.Design.{DesignTree}
use Rattle.tm_syntax.specs.Design.Cells.{Called, Cell, cell_type, in_step}
use Rattle.tm_syntax.specs.Design.Sizes.{type_bits}
use Rattle.tm_scope.specs.Cells.{CellTables, HasCells, ScopedCells, cell_at, scope_of, slot_in}
use Rattle.tm_scope.specs.declared.cells.site_body.CellNumber.{CellNumber}
use Rattle.tm_scope.specs.declared.cells.site_body.CellNumber.TheVariants.{State, Step}
use Rattle.tm_scope.specs.declared.cells.site_body.SiteBody.{SiteBody}
use Rattle.tm_typing.specs.HasType.{IsSized}
use Rattle.tm_term.specs.Table.{Table, IsSound}
use Rattle.tm_term.specs.Value.{Extends}
use Rattle.tm_term.proofs.Valued.{Extends-trans}
use Rattle.tm_sem.specs.Run.{asked_by}
use Rattle.tm_design.specs.Parameters.{AreCalledCells, called_by}
use Rattle.tm_flat.specs.Fitting.{ArgumentsFit}
use Rattle.tm_flat.specs.Inputs.{room}
use Rattle.tm_flat_exprs.proofs.Later.{Extends-refl}
use Rattle.tm_flat_exprs.specs.Kept.{type_at}
use Rattle.tm_flat_stmts.specs.Flows.{FlowTerms, IsFlow}
use Rattle.tm_design.proofs.CalledParameters.{as_many_cells, params_typed}
use Rattle.tm_flat_moves.specs.Arguments.{ReadsArguments, param_bits, params_of}
use Rattle.tm_flat_moves.specs.Callable.{AreSized}
use Rattle.tm_flat_moves.specs.Inner.Reading.{AreParameters, IsParameter, IsReadable}
use Rattle.tm_flat_moves.proofs.ReadingArguments.{reads_none, reads_then}

-- the type of the cell of a number
pub cell_typed : (x : CellTables) (d : DesignTree) → HasCells x d → (at : SiteBody) (number : CellNumber) (c : Cell)
    (ty : Ty) → cell_at x at number ≡ Some c → cell_type d c ≡ Some ty → type_at x at number ≡ Some ty
cell_typed x d has at (State k) c ty here typed =
    sym (ap (λ vs. option_map (λ (v : Var). v.ty) (slice_get vs k)) has.vars)
    ∙ ap (option_and_then (cell_type d)) here ∙ typed
cell_typed x d has at (Step slot) c ty here typed =
    by (slot_in x at slot) (ap (option_and_then (cell_type d)) here ∙ typed)
  where
    by : (o : Option Slot) →
        option_and_then (cell_type d) (option_map (λ (s : Slot). in_step (scope_of at) s.name s.ty) o) ≡ Some ty →
        option_map (λ (s : Slot). s.ty) o ≡ Some ty
    by None is = absurd (cc)
    by (Some s) is = is

-- the type that is asked of a cell
pub asked_is : (d : DesignTree) (c : Cell) (ty : Ty) → cell_type d c ≡ Some ty → asked_by d (Some c) ≡ ty
asked_is d c ty typed = ap (λ (o : Option Ty). unwrap_or o types.Bool) typed

-- ---- the parameters of a task
module _ (x : CellTables) (d : DesignTree) (at : SiteBody) where
  pub params_are : (c : Called) → called_by d at.instance at.body ≡ Some c → params_of d at ≡ c.params
  params_are c is = ap (λ o. option_map_or (λ (c : Called). c.params) o []) is

  pub task_parameters : (task : TaskDef) (r : IsReadable x d at task) (numbers : List CellNumber) →
      AreCalledCells (record { tables = x; at = at }) (length task.params.items) numbers →
      AreParameters x d at numbers task.params.items
  task_parameters task r numbers cells =
      let s : ScopedCells = record { tables = x; at = at } in
      let same : params_of d at ≡ r.called.params = params_are r.called r.by in
      let long = as_many_cells s task r.stands d r.cells r.typed r.called r.by in
      record {
        cells = r.cells;
        apart = r.apart;
        are = cells.cells d r.cells r.called r.by long ∙ ap (map Some) (sym same);
        typed = ap (map (cell_type d)) same ∙ params_typed s task r.stands d r.cells r.typed r.called r.by;
        sized = subst (AreSized d) (sym same) r.sized;
        fits = subst (λ cs. ArgumentsFit room d cs 0) (sym same) r.fits;
      }

  -- arguments that fit begin within the room
  fits_start : (cs : List Cell) (k : ℕ) → ArgumentsFit room d cs k → k ≤ room
  fits_start [] k fits = fits
  fits_start (c ∷ cs) k fits =
      let behind : k + param_bits d c ≤ room = fits_start cs (k + param_bits d c) fits.1 in omega (arith, behind)

  -- the cell of the parameter of an index
  record HasParameterAt (n : CellNumber) (p : Param) (cs : List Cell) (i : ℕ) : Type 0 where
    c : Cell
    there : cell_at x at n ≡ Some c
    typed : cell_type d c ≡ Some (type_of p.ty)
    sized : IsSized (asked_by d (Some c))
    left : drop i cs ≡ c ∷ drop (suc i) cs

  parameter_at : (numbers : List CellNumber) (params : List Param) (cs : List Cell) (i : ℕ) (n : CellNumber)
      (p : Param) → map (cell_at x at) numbers ≡ map Some cs →
      map (cell_type d) cs ≡ map (λ (p : Param). Some (type_of p.ty)) params → AreSized d cs →
      slice_get numbers i ≡ Some n → slice_get params i ≡ Some p → HasParameterAt n p cs i
  parameter_at [] params cs i n p are typed sized here there = absurd (cc)
  parameter_at (m ∷ ns) params [] i n p are typed sized here there = absurd (cc)
  parameter_at (m ∷ ns) [] (c ∷ cs) i n p are typed sized here there = absurd (cc)
  parameter_at (m ∷ ns) (q ∷ ps) (c ∷ cs) zero n p are typed sized here there =
      let number : m ≡ n = cc in
      let parameter : q ≡ p = cc in
      let cell : cell_at x at m ≡ Some c = cc in
      let ty : cell_type d c ≡ Some (type_of q.ty) = cc in
      record {
        c = c;
        there = ap (cell_at x at) (sym number) ∙ cell;
        typed = ty ∙ ap (λ (p : Param). Some (type_of p.ty)) parameter;
        sized = sized.0;
        left = refl;
      }
  parameter_at (m ∷ ns) (q ∷ ps) (c ∷ cs) (suc i) n p are typed sized here there =
      let cells : map (cell_at x at) ns ≡ map Some cs = cc in
      let tys : map (cell_type d) cs ≡ map (λ (p : Param). Some (type_of p.ty)) ps = cc in
      let rest = parameter_at ns ps cs i n p cells tys sized.1 here there in
      record {
        c = rest.c;
        there = rest.there;
        typed = rest.typed;
        sized = rest.sized;
        left = rest.left;
      }

  -- there are as many cells as parameters
  pub as_many : (numbers : List CellNumber) (params : List Param) (cs : List Cell) →
      map (cell_at x at) numbers ≡ map Some cs →
      map (cell_type d) cs ≡ map (λ (p : Param). Some (type_of p.ty)) params →
      (length numbers ≡ length params) × (length numbers ≡ length cs)
  as_many [] [] [] are typed = (refl, refl)
  as_many [] (q ∷ ps) [] are typed = absurd (cc)
  as_many [] params (c ∷ cs) are typed = absurd (cc)
  as_many (m ∷ ns) params [] are typed = absurd (cc)
  as_many (m ∷ ns) [] (c ∷ cs) are typed = absurd (cc)
  as_many (m ∷ ns) (q ∷ ps) (c ∷ cs) are typed =
      let cells : map (cell_at x at) ns ≡ map Some cs = cc in
      let tys : map (cell_type d) cs ≡ map (λ (p : Param). Some (type_of p.ty)) ps = cc in
      let rest = as_many ns ps cs cells tys in (ap suc rest.0, ap suc rest.1)

  -- ---- arguments that are read, one after the other
  -- so many have been read
  pub record ReadSoFar (t : Table) (i : ℕ) (now : Table) (position : ℕ) (f h : FlowTerms) : Type 0 where
    pub grown : Extends t now
    pub sound : IsSound now
    pub flow : IsFlow x now h
    pub fits : ArgumentsFit room d (drop i (params_of d at)) position
    pub rest : (n : Table) (g : FlowTerms) →
        ReadsArguments x now n d (drop i (params_of d at)) position h g →
        ReadsArguments x t n d (params_of d at) 0 f g

  module _ (numbers : List CellNumber) (params : List Param) (are : AreParameters x d at numbers params) (t : Table)
      (f : FlowTerms) where
    pub read_begins : IsSound t → IsFlow x t f → ReadSoFar t 0 t 0 f f
    read_begins sound flow = record {
      grown = Extends-refl t;
      sound = sound;
      flow = flow;
      fits = are.fits;
      rest = λ n g reads. reads;
    }

    -- the next one is read
    module _ (i : ℕ) (now : Table) (position : ℕ) (h : FlowTerms) (far : ReadSoFar t i now position f h)
        (n : CellNumber) (p : Param) (here : slice_get numbers i ≡ Some n) (there : slice_get params i ≡ Some p)
        (ty : Ty) (ty_is : ty ≡ type_of p.ty) where
      found : HasParameterAt n p (params_of d at) i
      found = parameter_at numbers params (params_of d at) i n p are.are are.typed are.sized here there

      typed : cell_type d found.c ≡ Some ty
      typed = found.typed ∙ ap Some (sym ty_is)

      asks : asked_by d (Some found.c) ≡ ty
      asks = asked_is d found.c ty typed

      fits : ArgumentsFit room d (found.c ∷ drop (suc i) (params_of d at)) position
      fits = subst (λ cs. ArgumentsFit room d cs position) found.left far.fits

      wide : param_bits d found.c ≡ type_bits d.spec ty
      wide = ap (type_bits d.spec) asks

      pub sized_by : IsSized ty
      sized_by = subst IsSized asks found.sized

      is_parameter : IsParameter x d at n ty found.c position
      is_parameter =
          let behind = fits_start (drop (suc i) (params_of d at)) (position + param_bits d found.c) fits.1 in
          let bits = wide in
          record {
            cells = are.cells;
            apart = are.apart;
            there = found.there;
            typed = typed;
            sized = sized_by;
            within = omega (arith, behind, bits);
          }

      pub parameter_by : (c : Cell) × IsParameter x d at n ty c position
      parameter_by = (found.c, is_parameter)

      module _ (spec : SpecTree) (same : spec ≡ spec_tree x.spec) (width : ℕ) (width_is : width ≡ type_bits spec ty)
        where
          bits_are : width ≡ param_bits d found.c
          bits_are = width_is ∙ ap (λ s. type_bits s ty) (same ∙ sym are.cells.text) ∙ sym wide

          -- the position behind it is within the room
          pub position_by : position + width ≤ room
          position_by =
              let behind = fits_start (drop (suc i) (params_of d at)) (position + param_bits d found.c) fits.1 in
              let bits = bits_are in
              omega (arith, behind, bits)

          pub read_by : (m : Table) (g : FlowTerms) →
              ((c : Cell) → IsParameter x d at n ty c position → ReadsArguments x now m d (c ∷ []) position h g) →
              ReadSoFar t (i + 1) m (position + width) f g
          read_by m g each =
              let one = each found.c is_parameter in
              let on : suc i ≡ i + 1 = omega arith in
              subst (λ j. ReadSoFar t j m (position + width) f g) on
              (subst (λ y. ReadSoFar t (suc i) m (position + y) f g) (sym bits_are) (record {
                grown = Extends-trans t now m far.grown one.grown;
                sound = one.sound;
                flow = one.flow;
                fits = fits.1;
                rest = λ n e others.
                    far.rest n e
                    (subst (λ cs. ReadsArguments x now n d cs position h e) (sym found.left)
                    (reads_then x now m n d found.c (drop (suc i) (params_of d at)) position h g e one others));
              }))

    pub read_ends : (i : ℕ) (now : Table) (position : ℕ) (h : FlowTerms) → ReadSoFar t i now position f h →
        length numbers ≤ i → ReadsArguments x t now d (params_of d at) 0 f h
    read_ends i now position h far end =
        let many = (as_many numbers params (params_of d at) are.are are.typed).1 in
        let none : drop i (params_of d at) ≡ [] = drop_all i (params_of d at) (omega (arith, many, end)) in
        far.rest now h
        (subst (λ cs. ReadsArguments x now now d cs position h h) (sym none)
        (reads_none x now d position h far.sound far.flow))

-- the bits of an argument that may be read are within the room
pub argument_within : (x : CellTables) (d : DesignTree) (at : SiteBody) (number : CellNumber) (ty : Ty) (c : Cell)
    (k : ℕ) → IsParameter x d at number ty c k → (spec : SpecTree) → spec ≡ spec_tree x.spec → (width : ℕ) →
    width ≡ type_bits spec ty → k + width ≤ room
argument_within x d at number ty c k is spec same width width_is =
    let wide : width ≡ type_bits d.spec ty =
    width_is ∙ ap (λ s. type_bits s ty) (same ∙ sym is.cells.text) in
    let within = is.within in
    omega (arith, wide, within)

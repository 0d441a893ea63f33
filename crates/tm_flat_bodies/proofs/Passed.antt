-- The parameters of a called task get the arguments of the call.
use Rattle.std.proofs.Common.{◌≡◌, ℕ, Bool, false, zero, suc, ◌+◌, ◌<◌, ◌≤◌, Option, None, Some, List, [], ◌∷◌, ◌++◌, length, map, take, get_or, slice_get, refl, sym, ap, ◌∙◌, subst, arith}
use Rattle.std.specs.Prelude.{unwrap_or}
use Rattle.std.specs.List.{AllZip, fold, list_any, zip}
use Rattle.std.specs.Option.{option_and_then, option_map}
use Rattle.std.proofs.lemmas.List.{length-map, take_all}
use Rattle.std.proofs.lemmas.Option.{slice_get-get_or, slice_get-map}
use Rattle.std.proofs.lemmas.Slice.Zip.{all_zipped_more}
use Rattle.tm_syntax.specs.declared.design.Ty.{Ty}
use Rattle.tm_syntax.specs.declared.design.Ty.TheVariants as types
use Rattle.tm_syntax.specs.declared.design.Var.{Var}
use Rattle.tm_syntax.specs.declared.tree.Expr.{Expr}
use Rattle.tm_syntax.specs.declared.tree.Param.{Param}
use Rattle.tm_syntax.specs.declared.tree.TaskDef.{TaskDef}
use Rattle.tm_syntax.specs.Tree.{ExprTree}
use Rattle.tm_syntax.specs.Tree.View.{expr_tree, expr_trees, spec_tree}
use Rattle.tm_syntax.specs.Scopes.Context.{Slot}
use Rattle.tm_syntax.specs.Scopes.Names.{type_of}
use Rattle.tm_syntax.specs.Design.{DesignTree}
use Rattle.tm_syntax.specs.Design.Cells.{Called, Cell, cell_type, in_step}
use Rattle.tm_syntax.specs.Design.Sizes.{type_bits}
use Rattle.tm_scope.specs.Cells.{CellTables, HasCells, ScopedCells, cell_at, scope_of, slot_in}
use Rattle.tm_scope.specs.declared.cells.site_body.CellNumber.{CellNumber}
use Rattle.tm_scope.specs.declared.cells.site_body.CellNumber.TheVariants.{State, Step}
use Rattle.tm_scope.specs.declared.cells.site_body.SiteBody.{SiteBody}
use Rattle.tm_term.specs.declared.term.TermId.{TermId}
use Rattle.tm_term.specs.Table.{Table, IsSound}
use Rattle.tm_term.specs.Value.{AreInputs, Extends, value_of}
use Rattle.tm_sem.specs.Value.{Memory, put, value}
use Rattle.tm_sem.specs.Run.{asked_by, finished, with_arguments}
use Rattle.tm_design.specs.Values.{HasParameters}
use Rattle.tm_design.specs.Parameters.{AreCalledCells, called_by, task_at}
use Rattle.tm_design.specs.Typed.{HasTypeAt}
use Rattle.tm_design.proofs.CalledParameters.{as_many_cells, params_typed}
use Rattle.tm_design.proofs.Zipped.{one_more_taken, zip_get, zip_length}
use Rattle.tm_flat.specs.Steps.{IsTerm}
use Rattle.tm_flat.specs.Writes.{is_variable}
use Rattle.tm_flat_exprs.specs.Kept.{KeptTerms, Keeps, type_at}
use Rattle.tm_design.specs.StepCells.{AreApart}
use Rattle.tm_flat_exprs.specs.Merged.{IsMemory}
use Rattle.tm_flat_exprs.proofs.Later.{Extends-refl}
use Rattle.tm_flat_stmts.specs.Flows.{AreEnds, FlowTerms, HasTerm, IsFlow, PutsAt}
use Rattle.tm_flat_stmts.specs.Statements.{Asks, HasValue}
use Rattle.tm_flat_stmts.proofs.Leading.{continues_so}
use Rattle.tm_flat_stmts.proofs.Leaving.{leaves_asked, leaves_stops, leaves_then, or_left, or_right}
use Rattle.tm_flat_stmts.proofs.Pieces.{goes_on_after}
use Rattle.tm_flat_stmts.proofs.Valuing.{asks_none, asks_then, behind_operands, operands_ends, operands_flow, operands_grown, operands_position, operands_sound, value_along}
use Rattle.tm_flat_bodies.specs.declared.arguments.Arguments.{Arguments}
use Rattle.tm_flat_bodies.specs.declared.course.Course.{Course}
use Rattle.tm_flat_bodies.specs.Asked.{AreArguments}
use Rattle.tm_flat_bodies.specs.Inner.Passing.{AsksAll, AsksMore, Enters, FitsCell, HasArgument, HaveArguments, PutsAll, put_all}

-- lists of arguments and parameters of one length
pub as_many : (s : ScopedCells) (params : List Param) (args : List ExprTree) → AreArguments s params args →
    length params ≡ length args
as_many s [] [] h = refl
as_many s [] (e ∷ es) h = absurd h
as_many s (p ∷ ps) [] h = absurd h
as_many s (p ∷ ps) (e ∷ es) h = ap suc (as_many s ps es h.1)

-- the argument of an index has the type of its parameter
pub typed_at : (s : ScopedCells) (params : List Param) (args : List ExprTree) → AreArguments s params args → (i : ℕ)
    (p : Param) (e : ExprTree) → slice_get params i ≡ Some p → slice_get args i ≡ Some e → HasTypeAt s (type_of p.ty) e
typed_at s [] args h i p e here there = absurd (cc)
typed_at s (q ∷ ps) [] h i p e here there = absurd (cc)
typed_at s (q ∷ ps) (f ∷ es) h zero p e here there =
    let one : q ≡ p = cc in
    let two : f ≡ e = cc in
    subst (λ (x : Param). HasTypeAt s (type_of x.ty) e) one (subst (HasTypeAt s (type_of q.ty)) two h.0)
typed_at s (q ∷ ps) (f ∷ es) h (suc i) p e here there = typed_at s ps es h.1 i p e here there

-- as many trees as expressions
pub trees_long : (es : List Expr) → length (expr_trees es) ≡ length es
trees_long [] = refl
trees_long (e ∷ es) = ap suc (trees_long es)

-- the argument of an index, and the parameter
pub tree_here : (es : List Expr) (i : ℕ) (e : Expr) → i < length es → e ≡ get_or es i e →
    slice_get (expr_trees es) i ≡ Some (expr_tree e)
tree_here es i e inside is =
    slice_get-map expr_tree es i ∙ ap (option_map expr_tree) (slice_get-get_or es i e inside ∙ ap Some (sym is))

pub param_here : (ps : List Param) (i : ℕ) (p : Param) → i < length ps → p ≡ get_or ps i p → slice_get ps i ≡ Some p
param_here ps i p inside is = slice_get-get_or ps i p inside ∙ ap Some (sym is)

-- ---- arguments, valued one after the other
-- terms keep their values as terms are added
arguments_along : (s : ScopedCells) (k : KeptTerms) (t n : Table) (qs : List (Param × ExprTree)) (ids : List TermId) →
    Extends t n → AllZip (HasArgument s k t) qs ids → AllZip (HasArgument s k n) qs ids
arguments_along s k t n [] [] grown have = tt
arguments_along s k t n [] (id ∷ ids) grown have = absurd have
arguments_along s k t n (q ∷ qs) [] grown have = absurd have
arguments_along s k t n (q ∷ qs) (id ∷ ids) grown have =
    (value_along s k k (type_of q.0.ty) q.1 t n id grown refl have.0, arguments_along s k t n qs ids grown have.1)

-- so many have been valued
pub record ArgumentsSoFar (s : ScopedCells) (params : List Param) (args : List ExprTree) (from : Course) (f : FlowTerms)
    (i : ℕ) (now : Course) (found : Arguments) : Type 0 where
  pub asks : Asks s (take i args) from.terms now.terms f from.ends found.flow now.ends
  pub values : AllZip (HasArgument s f.memory now.terms) (take i (zip params args)) found.values.items

module _ (s : ScopedCells) (params : List Param) (args : List ExprTree) (from : Course) (f : FlowTerms) where
  pub arguments_begin : (found : Arguments) → found.flow ≡ f → found.values.items ≡ [] → IsSound from.terms →
      IsFlow s.tables from.terms f → AreEnds s.tables from.terms from.ends →
      ArgumentsSoFar s params args from f 0 from found
  arguments_begin found same none sound flow are = record {
    asks = subst (λ (g : FlowTerms). Asks s [] from.terms from.terms f from.ends g from.ends) (sym same)
        (asks_none s from.terms f from.ends sound flow are);
    values = subst (AllZip (HasArgument s f.memory from.terms) []) (sym none) tt;
  }

  module _ (i : ℕ) (now : Course) (found : Arguments) (far : ArgumentsSoFar s params args from f i now found) where
    pub arguments_sound : IsSound now.terms
    arguments_sound =
        operands_sound s (take i args) from.terms now.terms f from.ends found.flow now.ends far.asks

    pub arguments_flow : IsFlow s.tables now.terms found.flow
    arguments_flow =
        operands_flow s (take i args) from.terms now.terms f from.ends found.flow now.ends far.asks

    pub arguments_ends : AreEnds s.tables now.terms now.ends
    arguments_ends =
        operands_ends s (take i args) from.terms now.terms f from.ends found.flow now.ends far.asks

    pub arguments_more : (next : Course) (more : Arguments) (p : Param) (e : ExprTree) (ty : Ty) →
        ty ≡ type_of p.ty → slice_get params i ≡ Some p → slice_get args i ≡ Some e →
        AsksMore s ty e now next found more → ArgumentsSoFar s params args from f (i + 1) next more
    arguments_more next more p e ty typed here there one = record {
      asks =
          subst (λ es. Asks s es from.terms next.terms f from.ends more.flow next.ends)
          (sym (one_more_taken args i e there))
          (asks_then s (take i args) (e ∷ []) from.terms now.terms next.terms f found.flow more.flow from.ends now.ends
          next.ends far.asks one.asks);
      values =
          subst (λ ids. AllZip (HasArgument s f.memory next.terms) (take (i + 1) (zip params args)) ids)
          (sym one.pushed)
          (subst (λ qs. AllZip (HasArgument s f.memory next.terms) qs (found.values.items ++ one.id ∷ []))
          (sym (one_more_taken (zip params args) i (p, e) (zip_get params args i p e here there)))
          (all_zipped_more (HasArgument s f.memory next.terms) (take i (zip params args)) found.values.items (p, e)
          one.id
          (arguments_along s f.memory now.terms next.terms (take i (zip params args)) found.values.items
          (operands_grown s (e ∷ []) now.terms next.terms found.flow now.ends more.flow next.ends one.asks) far.values)
          (subst (λ a. HasValue s f.memory a e next.terms one.id) typed
          (value_along s found.flow.memory f.memory ty e next.terms next.terms one.id (Extends-refl next.terms)
          far.asks.memory one.valued))));
    }

    pub arguments_all : length args ≤ i → AsksAll s params args from now f found
    arguments_all end = record {
      asks = subst (λ es. Asks s es from.terms now.terms f from.ends found.flow now.ends) (take_all i args end)
          far.asks;
      values = subst (λ qs. AllZip (HasArgument s f.memory now.terms) qs found.values.items)
          (take_all i (zip params args) (let short = zip_length params args in omega (arith, short, end))) far.values;
    }

-- ---- terms, put into cells one after the other
-- items of lists behind others
behind_all : {A B : Type 0} (P : A → B → Type 0) (xs : List A) (ys : List B) → AllZip P xs ys → (i : ℕ) (x : A)
    (y : B) → slice_get xs i ≡ Some x → slice_get ys i ≡ Some y → P x y
behind_all P [] ys all i x y here there = absurd (cc)
behind_all P (a ∷ xs) [] all i x y here there = absurd (cc)
behind_all P (a ∷ xs) (b ∷ ys) all zero x y here there =
    let one : a ≡ x = cc in
    let two : b ≡ y = cc in
    subst (λ z. P z y) one (subst (P a) two all.0)
behind_all P (a ∷ xs) (b ∷ ys) all (suc i) x y here there = behind_all P xs ys all.1 i x y here there

-- the first so many terms have been put into the first so many cells
pub record PutsSoFar (at : SiteBody) (numbers : List CellNumber) (ids : List TermId) (i : ℕ) (f g : FlowTerms) : Type 0
  where
    pub guard : g.guard ≡ f.guard
    pub position : g.position ≡ f.position
    pub memory : (x : CellTables) (t : Table) → IsMemory x t f.memory → AllZip (FitsCell x at t) numbers ids →
        IsMemory x t g.memory
    pub keeps : (x : CellTables) → AreApart x → (u : Table) (v : List ℕ) (m : Memory) (cells : List Cell) →
        Keeps x u v f.memory m → map (cell_at x at) numbers ≡ map Some cells →
        Keeps x u v g.memory (put_all m (take i cells) (take i (map (value_of u v) ids)))
    pub leaves : (x : CellTables) (cells : List Cell) → map (cell_at x at) numbers ≡ map Some cells → (n : ℕ)
        (had : TermId) → list_any (is_variable n) cells ≡ false → HasTerm n had f → HasTerm n had g

-- the last of so many is put last
put_last : (m : Memory) (cells : List Cell) (ns : List ℕ) (c : Cell) (n : ℕ) → length cells ≡ length ns →
    put_all m (cells ++ c ∷ []) (ns ++ n ∷ []) ≡ put (put_all m cells ns) c n
put_last m [] [] c n long = refl
put_last m [] (k ∷ ns) c n long = absurd (omega (arith, long))
put_last m (d ∷ cells) [] c n long = absurd (omega (arith, long))
put_last m (d ∷ cells) (k ∷ ns) c n long =
    put_last (put m d k) cells ns c n (omega (arith, long))

pub take_length : {A : Type 0} (xs : List A) (i : ℕ) (x : A) → slice_get xs i ≡ Some x → length (take i xs) ≡ i
take_length [] i x is = absurd (cc)
take_length (a ∷ xs) zero x is = refl
take_length (a ∷ xs) (suc i) x is = ap suc (take_length xs i x is)

-- the cell of a number among several
cell_among : (x : CellTables) (at : SiteBody) (numbers : List CellNumber) (cells : List Cell) (i : ℕ)
    (number : CellNumber) → map (cell_at x at) numbers ≡ map Some cells → slice_get numbers i ≡ Some number →
    (c : Cell) × (slice_get cells i ≡ Some c) × (cell_at x at number ≡ Some c)
cell_among x at [] cells i number are is = absurd (cc)
cell_among x at (n ∷ numbers) [] i number are is = absurd (cc)
cell_among x at (n ∷ numbers) (c ∷ cells) zero number are is =
    let same : n ≡ number = cc in
    let first : cell_at x at n ≡ Some c = cc in
    (c, refl, ap (cell_at x at) (sym same) ∙ first)
cell_among x at (n ∷ numbers) (c ∷ cells) (suc i) number are is =
    let rest : map (cell_at x at) numbers ≡ map Some cells = cc in
    cell_among x at numbers cells i number rest is

-- where none of several cells is a state variable, the one of an index is not
none_among : (p : Cell → Bool) (cells : List Cell) (i : ℕ) (c : Cell) → list_any p cells ≡ false →
    slice_get cells i ≡ Some c → p c ≡ false
none_among p [] i c none is = absurd (cc)
none_among p (d ∷ cells) zero c none is =
    let same : d ≡ c = cc in subst (λ (k : Cell). p k ≡ false) same (or_left (p d) (list_any p cells) none)
none_among p (d ∷ cells) (suc i) c none is = none_among p cells i c (or_right (p d) (list_any p cells) none) is

module _ (at : SiteBody) (numbers : List CellNumber) (ids : List TermId) (f : FlowTerms) where
  pub puts_begin : PutsSoFar at numbers ids 0 f f
  puts_begin = record {
    guard = refl;
    position = refl;
    memory = λ x t memory fit. memory;
    keeps = λ x apart u v m cells keeps are. keeps;
    leaves = λ x cells are n had none is. is;
  }

  module _ (i : ℕ) (g : FlowTerms) (far : PutsSoFar at numbers ids i f g) where
    pub puts_more : (number : CellNumber) (id : TermId) (h : FlowTerms) → slice_get numbers i ≡ Some number →
        slice_get ids i ≡ Some id → PutsAt at number id g h → PutsSoFar at numbers ids (i + 1) f h
    puts_more number id h here there puts = record {
      guard = puts.guard ∙ far.guard;
      position = puts.position ∙ far.position;
      memory = λ x t memory fit.
          let one = behind_all (FitsCell x at t) numbers ids fit i number id here there in
          puts.memory x t one.0 (far.memory x t memory fit) one.1 one.2;
      keeps = λ x apart u v m cells keeps are.
          let c = cell_among x at numbers cells i number are here in
          let values : List ℕ = map (value_of u v) ids in
          let n : ℕ = value_of u v id in
          let value_there : slice_get values i ≡ Some n =
          slice_get-map (value_of u v) ids i ∙ ap (option_map (value_of u v)) there in
          let long : length (take i cells) ≡ length (take i values) =
          take_length cells i c.0 c.1 ∙ sym (take_length values i n value_there) in
          let both : put (put_all m (take i cells) (take i values)) c.0 n
          ≡ put_all m (take (i + 1) cells) (take (i + 1) values) =
          sym (put_last m (take i cells) (take i values) c.0 n long)
          ∙ (λ j. put_all m (sym (one_more_taken cells i c.0 c.1) j)
          (sym (one_more_taken values i n value_there) j)) in
          subst (Keeps x u v h.memory) both
          (puts.keeps x apart u v (put_all m (take i cells) (take i values)) c.0
          (far.keeps x apart u v m cells keeps are) c.2);
      leaves = λ x cells are n had none is.
          let c = cell_among x at numbers cells i number are here in
          puts.leaves x c.0 c.2 n had (none_among (is_variable n) cells i c.0 none c.1)
          (far.leaves x cells are n had none is);
    }

    pub puts_all : length numbers ≤ i → length numbers ≡ length ids → PutsAll at numbers ids f g
    puts_all end many = record {
      guard = far.guard;
      position = far.position;
      memory = far.memory;
      keeps = λ x apart u v m cells keeps are.
          let values : List ℕ = map (value_of u v) ids in
          let as_long : length cells ≡ length numbers =
          sym (length-map cells Some) ∙ sym (ap length are) ∙ length-map numbers (cell_at x at) in
          let cells_end : length cells ≤ i = omega (arith, as_long, end) in
          let values_end : length values ≤ i =
          let long = length-map ids (value_of u v) in omega (arith, long, many, end) in
          subst (Keeps x u v g.memory)
          (λ j. put_all m (take_all i cells cells_end j) (take_all i values values_end j))
          (far.keeps x apart u v m cells keeps are);
      leaves = far.leaves;
    }

-- ---- the parameters of a task
-- the type of the cell of a number
cell_typed : (x : CellTables) (d : DesignTree) → HasCells x d → (at : SiteBody) (number : CellNumber) (c : Cell)
    (ty : Ty) → cell_at x at number ≡ Some c → cell_type d c ≡ Some ty → type_at x at number ≡ Some ty
cell_typed x d has at (State k) c ty here typed =
    sym (ap (λ vs. option_map (λ (v : Var). v.ty) (slice_get vs k)) has.vars)
    ∙ ap (option_and_then (cell_type d)) here ∙ typed
cell_typed x d has at (Step slot) c ty here typed =
    by (slot_in x at slot) (ap (option_and_then (cell_type d)) here ∙ typed)
  where
    by : (o : Option Slot) →
        option_and_then (cell_type d) (option_map (λ (s : Slot). in_step (scope_of at) s.name s.ty) o) ≡ Some ty →
        option_map (λ (s : Slot). s.ty) o ≡ Some ty
    by None is = absurd (cc)
    by (Some s) is = is

-- terms of arguments fit the cells of the parameters
fit_cells : (s : ScopedCells) (k : KeptTerms) (x : CellTables) (d : DesignTree) → HasCells x d → s.tables ≡ x →
    (at : SiteBody) (t : Table) (numbers : List CellNumber) (cells : List Cell) (params : List Param)
    (args : List ExprTree) (ids : List TermId) → map (cell_at x at) numbers ≡ map Some cells →
    map (cell_type d) cells ≡ map (λ (p : Param). Some (type_of p.ty)) params → AreArguments s params args →
    HaveArguments s k t params args ids → AllZip (FitsCell x at t) numbers ids
fit_cells s k x d has same at t [] cells [] [] [] are typed fit have = tt
fit_cells s k x d has same at t [] cells [] [] (id ∷ ids) are typed fit have = absurd have
fit_cells s k x d has same at t [] cells [] (e ∷ es) ids are typed fit have = absurd fit
fit_cells s k x d has same at t [] cells (p ∷ ps) [] ids are typed fit have = absurd fit
fit_cells s k x d has same at t [] [] (p ∷ ps) (e ∷ es) ids are typed fit have = absurd (cc)
fit_cells s k x d has same at t [] (c ∷ cells) (p ∷ ps) (e ∷ es) ids are typed fit have = absurd (cc)
fit_cells s k x d has same at t (n ∷ numbers) [] params args ids are typed fit have = absurd (cc)
fit_cells s k x d has same at t (n ∷ numbers) (c ∷ cells) [] args ids are typed fit have = absurd (cc)
fit_cells s k x d has same at t (n ∷ numbers) (c ∷ cells) (p ∷ ps) [] ids are typed fit have = absurd fit
fit_cells s k x d has same at t (n ∷ numbers) (c ∷ cells) (p ∷ ps) (e ∷ es) [] are typed fit have = absurd have
fit_cells s k x d has same at t (n ∷ numbers) (c ∷ cells) (p ∷ ps) (e ∷ es) (id ∷ ids) are typed fit have =
    let here : cell_at x at n ≡ Some c = cc in
    let rest : map (cell_at x at) numbers ≡ map Some cells = cc in
    let ty : cell_type d c ≡ Some (type_of p.ty) = cc in
    let tys : map (cell_type d) cells ≡ map (λ (p : Param). Some (type_of p.ty)) ps = cc in (
      (
        type_of p.ty,
        cell_typed x d has at n c (type_of p.ty) here ty,
        subst (λ (y : CellTables). IsTerm t (type_bits (spec_tree y.spec) (type_of p.ty)) id) same have.0.term,
      ),
      fit_cells s k x d has same at t numbers cells ps es ids rest tys fit.1 have.1,
    )

-- the parameters get what the arguments are worth
module _ (s : ScopedCells) (k : KeptTerms) (n u : Table) (more : Extends n u) (v : List ℕ) (inputs : AreInputs u v)
    (d : DesignTree) (has : HasCells s.tables d) (m : Memory) (keeps : Keeps s.tables u v k m) where
  abbrev given : Memory → Cell × ExprTree → Memory
  given so_far p = put so_far p.0 (value d (scope_of s.at) m (asked_by d (Some p.0)) p.1)

  abbrev kept : Memory → Cell × ℕ → Memory
  kept so_far p = put so_far p.0 p.1

  pub gives : (params : List Param) (args : List ExprTree) (ids : List TermId) (cells : List Cell) (o : Memory) →
      AreArguments s params args → HaveArguments s k n params args ids →
      map (cell_type d) cells ≡ map (λ (p : Param). Some (type_of p.ty)) params →
      fold kept o (zip cells (map (value_of u v) ids)) ≡ fold given o (zip cells args)
  gives [] [] [] [] o fit have are = refl
  gives [] [] [] (c ∷ cs) o fit have are = absurd (cc)
  gives [] [] (id ∷ ids) cells o fit have are = absurd have
  gives [] (e ∷ es) ids cells o fit have are = absurd fit
  gives (p ∷ ps) [] ids cells o fit have are = absurd fit
  gives (p ∷ ps) (e ∷ es) [] cells o fit have are = absurd have
  gives (p ∷ ps) (e ∷ es) (id ∷ ids) [] o fit have are = absurd (cc)
  gives (p ∷ ps) (e ∷ es) (id ∷ ids) (c ∷ cs) o fit have are =
      let first : cell_type d c ≡ Some (type_of p.ty) = cc in
      let rest : map (cell_type d) cs ≡ map (λ (p : Param). Some (type_of p.ty)) ps = cc in
      let worth : value_of u v id ≡ value d (scope_of s.at) m (asked_by d (Some c)) e =
      have.0.means u more v inputs d has m keeps
      ∙ ap (λ o. value d (scope_of s.at) m (unwrap_or o types.Bool) e) (sym first) in
      ap (λ w. fold kept (put o c w) (zip cs (map (value_of u v) ids))) worth
      ∙ gives ps es ids cs (put o c (value d (scope_of s.at) m (asked_by d (Some c)) e)) fit.1 have.1 rest

-- ---- a called body is entered
module _ (s inner : ScopedCells) (task : TaskDef) (args : List ExprTree) (from now : Course) (f g : FlowTerms)
    (found : Arguments) (numbers : List CellNumber) (same : inner.tables ≡ s.tables) (there : task_at inner ≡ Some task)
    (fit : AreArguments s task.params.items args)
    (parameters : (d : DesignTree) → HasCells s.tables d → HasParameters d) (apart : AreApart s.tables)
    (asks : AsksAll s task.params.items args from now f found)
    (cells : AreCalledCells inner (length task.params.items) numbers)
    (puts : PutsAll inner.at numbers found.values.items found.flow g) where
  stands : IsFlow s.tables now.terms found.flow
  stands = operands_flow s args from.terms now.terms f from.ends found.flow now.ends asks.asks

  pub enters : Enters s args inner.at from now f g
  enters d has c is number =
      let inner_has : HasCells inner.tables d = subst (λ (x : CellTables). HasCells x d) (sym same) has in
      let typed = params_typed inner task there d inner_has (parameters d has) c is in
      let long = as_many_cells inner task there d inner_has (parameters d has) c is in
      let are : map (cell_at s.tables inner.at) numbers ≡ map Some c.params =
      ap (λ (x : CellTables). map (cell_at x inner.at) numbers) (sym same) ∙ cells.cells d inner_has c is long in
      let next : Memory → Memory = λ m. with_arguments d (scope_of s.at) m c.params args in
      let flow : IsFlow s.tables now.terms g = record {
        guard = subst (IsTerm now.terms 1) (sym puts.guard) stands.guard;
        memory = puts.memory s.tables now.terms stands.memory
            (fit_cells s f.memory s.tables d has refl inner.at now.terms numbers c.params task.params.items args
            found.values.items are typed fit asks.values);
      } in
      record {
        goes =
            behind_operands s args from.terms now.terms f from.ends found.flow now.ends asks.asks d has number
            (λ v m. finished (next m)) (Some f.position) now.terms (Some g) now.ends
            (continues_so s.tables number (λ v m. finished (next m)) (λ v m. finished (next m))
            (Some found.flow.position)
            (Some f.position) now.terms now.terms (Some found.flow) (Some g) now.ends now.ends (λ v m. refl)
            (operands_position s args from.terms now.terms f from.ends found.flow now.ends asks.asks)
            (goes_on_after s.tables number (λ v m. next m) now.terms found.flow g now.ends
            (operands_sound s args from.terms now.terms f from.ends found.flow now.ends asks.asks) flow
            (operands_ends s args from.terms now.terms f from.ends found.flow now.ends asks.asks) puts.guard
            puts.position
            (λ u more v inputs m on keeps.
            let kept : Keeps s.tables u v f.memory m = subst (λ k. Keeps s.tables u v k m) asks.asks.memory keeps in
            subst (Keeps s.tables u v g.memory)
            (gives s f.memory now.terms u more v inputs d has m kept task.params.items args found.values.items
            c.params m fit
            asks.values typed)
            (puts.keeps s.tables apart u v m c.params keeps are))));
        leaves = λ i none.
            leaves_then i (Some f) (Some found.flow) (Some g) from.ends now.ends now.ends
            (leaves_asked i s args from.terms now.terms f from.ends found.flow now.ends asks.asks)
            (leaves_stops i found.flow (Some g) now.ends now.ends
            (λ had is. puts.leaves s.tables c.params are i had none is) refl);
      }

-- there are as many cells as terms
pub as_many_terms : (s inner : ScopedCells) (task : TaskDef) (args : List ExprTree) (k : KeptTerms) (n : Table)
    (ids : List TermId) (numbers : List CellNumber) → inner.tables ≡ s.tables → task_at inner ≡ Some task →
    AreArguments s task.params.items args → HaveArguments s k n task.params.items args ids →
    AreCalledCells inner (length task.params.items) numbers → (d : DesignTree) → HasCells s.tables d →
    HasParameters d → (c : Called) → called_by d inner.at.instance inner.at.body ≡ Some c →
    length numbers ≡ length ids
as_many_terms s inner task args k n ids numbers same there fit have cells d has typed c is =
    let inner_has : HasCells inner.tables d = subst (λ (x : CellTables). HasCells x d) (sym same) has in
    let long = as_many_cells inner task there d inner_has typed c is in
    let are = cells.cells d inner_has c is long in
    let first : length numbers ≡ length c.params =
    sym (length-map numbers (cell_at inner.tables inner.at)) ∙ ap length are ∙ length-map c.params Some in
    first ∙ long ∙ counted task.params.items args ids fit have
  where
    counted : (params : List Param) (args : List ExprTree) (ids : List TermId) → AreArguments s params args →
        HaveArguments s k n params args ids → length params ≡ length ids
    counted [] [] [] fit have = refl
    counted [] [] (id ∷ ids) fit have = absurd have
    counted [] (e ∷ es) ids fit have = absurd fit
    counted (p ∷ ps) [] ids fit have = absurd fit
    counted (p ∷ ps) (e ∷ es) [] fit have = absurd have
    counted (p ∷ ps) (e ∷ es) (id ∷ ids) fit have = ap suc (counted ps es ids fit.1 have.1)

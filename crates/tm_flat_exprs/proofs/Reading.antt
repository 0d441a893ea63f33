-- The terms of cells, elements and paths, by what the tables of a body find.
use Rattle.std.proofs.Common.{◌≡◌, ℕ, ◌+◌, ◌^◌, ◌<◌, ◌≤◌, ◌==◌, Bool, true, false, Option, None, Some, List, refl, sym}
use Rattle.std.proofs.Common.{ap, ◌∙◌, subst, arith, slice_get, eqb-true}
use Rattle.std.specs.Prelude.{◌||◌, min, nat_le, nat_lt, unwrap_or, if◌then◌else◌}
use Rattle.std.specs.Option.{option_map, option_map_or, option_and_then}
use Rattle.std.proofs.lemmas.Bool.Decides.{nat_tests}
use Rattle.tm_base.specs.Arithmetic.{bit, choice, equal}
use Rattle.tm_syntax.specs.declared.tree.Ident.{Ident}
use Rattle.tm_syntax.specs.declared.tree.Num.{Num}
use Rattle.tm_syntax.specs.declared.design.Ty.{Ty}
use Rattle.tm_syntax.specs.Tree.{ExprTree, number as literal, path, element}
use Rattle.tm_syntax.specs.Scopes.Context.{Context, Slot}
use Rattle.tm_syntax.specs.Scopes.Names.{constant_value, number_of}
use Rattle.tm_syntax.specs.Scopes.Types.{array_length, named_type, own_type}
use Rattle.tm_syntax.specs.Design.{DesignTree}
use Rattle.tm_syntax.specs.Design.Scope.{index_type, length_in}
use Rattle.tm_syntax.specs.Design.Cells.{Cell, in_state, in_step, cell, cell_type}
use Rattle.tm_scope.specs.Cells.{CellTables, HasCells, IsCellNumber, ScopedCells, cell_at, scope_of, slot_in}
use Rattle.tm_scope.specs.declared.cells.site_body.SiteBody.{SiteBody}
use Rattle.tm_scope.specs.declared.cells.site_body.CellNumber.{CellNumber}
use Rattle.tm_scope.specs.declared.cells.site_body.CellNumber.TheVariants.{State, Step}
use Rattle.tm_term.specs.declared.term.TermId.{TermId}
use Rattle.tm_term.specs.Table.{Table, IsKnown, width_of}
use Rattle.tm_term.specs.Value.{value_of, Extends}
use Rattle.tm_term.proofs.Valued.{Extends-trans}
use Rattle.tm_syntax.specs.Faults.Operands.{is_valued}
use Rattle.tm_typing.specs.HasType.{HasType, IsOfSort, a_path, an_element_at, an_element}
use Rattle.tm_sem.specs.Value.{read, value, overruns}
use Rattle.tm_flat.specs.Steps.{IsTerm}
use Rattle.tm_flat_exprs.specs.declared.valued.Valued.{Valued}
use Rattle.tm_flat_exprs.specs.Kept.{IsCellKept, KeptTerms, type_at}
use Rattle.tm_flat_exprs.specs.Made.{Makes, MakesTruth, truth_at}
use Rattle.tm_flat_exprs.specs.Merged.{Reads}
use Rattle.tm_design.specs.Settled.{constant_at}
use Rattle.tm_design.specs.Typed.{context_at, HasTypeAt}
use Rattle.tm_flat_exprs.specs.Valued.{bits_in, CellHasType, element_value, Finds, FindsCell, FindsElement, FindsElements}
use Rattle.tm_flat_exprs.specs.Valued.{FindsTerm, IsOneMoreElement, IsReady, IsValued, Told}
use Rattle.tm_flat_exprs.proofs.Along.{ready_along}
use Rattle.tm_design.proofs.Contexts.{context_is, length_is, some_cells, some_design}
use Rattle.tm_flat_exprs.proofs.Later.{Extends-refl, below_later, term_along}

-- ---- the types of cells
step_type : (x : CellTables) (at : SiteBody) (c : Cell) (o : Option Slot) →
    option_map (λ (s : Slot). in_step (scope_of at) s.name s.ty) o ≡ Some c →
    cell_type (some_design x) c ≡ option_map (λ (s : Slot). s.ty) o
step_type x at c None is = absurd (cc)
step_type x at c (Some s) is =
    let same : in_step (scope_of at) s.name s.ty ≡ c = cc in ap (cell_type (some_design x)) (sym same)

type_of_cell : (x : CellTables) (at : SiteBody) (n : CellNumber) (c : Cell) → cell_at x at n ≡ Some c →
    cell_type (some_design x) c ≡ type_at x at n
type_of_cell x at (State k) c is = let same : in_state k ≡ c = cc in ap (cell_type (some_design x)) (sym same)
type_of_cell x at (Step slot) c is = step_type x at c (slot_in x at slot) is

-- what is read of a cell that is there
mapped_or : {X : Type 0} (f : X → ℕ) (o : Option X) (other x : ℕ) → option_map f o ≡ Some x →
    option_map_or f o other ≡ x
mapped_or f None other x is = absurd (cc)
mapped_or f (Some y) other x is = let same : f y ≡ x = cc in same

-- ---- what the types of paths and elements say
own_of_path : {c : Context} {ty : Ty} {names : List Ident} → HasType c ty (path names) →
    own_type c (path names) ≡ Some ty
own_of_path (a_path sized sort own) = own

sort_of_path : {c : Context} {ty : Ty} {names : List Ident} → HasType c ty (path names) → IsOfSort is_valued c names
sort_of_path (a_path sized sort own) = sort

named_of_element : {c : Context} {ty : Ty} {names : List Ident} {e : ExprTree} → HasType c ty (element names e) →
    named_type c names ≡ Some ty
named_of_element (an_element_at sized named size is below) = named
named_of_element (an_element sized named size inside own h) = named

size_of_element : {c : Context} {ty : Ty} {names : List Ident} {e : ExprTree} → HasType c ty (element names e) →
    (size : ℕ) × (array_length c names ≡ Some size)
size_of_element (an_element_at {size = n} sized named size is below) = (n, size)
size_of_element (an_element {size = n} sized named size inside own h) = (n, size)

number_at_end : {c : Context} {ty : Ty} {names : List Ident} {n : Num} → HasType c ty (element names (literal n)) →
    (size : ℕ) × (array_length c names ≡ Some size) × (number_of n < size)
number_at_end (an_element_at {size = m} {v = v} sized named size is below) =
    (m, size, subst (λ x. x < m) (sym (ap (λ o. unwrap_or o 0) is)) below)
number_at_end (an_element sized named size inside own h) = absurd (cc)

-- what a body's tables tell of a path
abbrev pub Tells : ScopedCells → List Ident → Option ℕ → Option CellNumber → Type 0
Tells s names index found =
    (d : DesignTree) → HasCells s.tables d →
    option_and_then (cell_at s.tables s.at) found ≡ cell d (scope_of s.at) names index

module _ (s : ScopedCells) (k : KeptTerms) (ty : Ty) where
  -- the term that a memory tells of a cell
  pub read_found : (number : CellNumber) (at : SiteBody) (t n : Table) (id : TermId) → s.at ≡ at → IsReady s t k →
      Reads t n k at number (bits_in s ty) id → FindsTerm s k ty number t n id
  read_found number at t n id same ready reads = record {
    grown = reads.grown;
    ready = ready_along s t n k reads.grown reads.sound ready;
    term = reads.term;
    value = λ u more v are m c keeps there.
        reads.value s.tables u v m c more are keeps (subst (λ a. cell_at s.tables a number ≡ Some c) same there);
  }

  -- what is asked for then
  pub cell_kept : (number : CellNumber) (at : SiteBody) (t : Table) → s.at ≡ at → IsReady s t k →
      type_at s.tables s.at number ≡ Some ty → IsCellKept t k at number (bits_in s ty)
  cell_kept number at t same ready typed = record {
    tables = s.tables;
    ty = ty;
    kept = ready.kept;
    typed = subst (λ a. type_at s.tables a number ≡ Some ty) same typed;
    bits = refl;
  }

  module _ (names : List Ident) (index : Option ℕ) where
    pub number_type : (number : CellNumber) → CellHasType s names index ty → IsCellNumber s.tables s.at (Some number) →
        Tells s names index (Some number) → type_at s.tables s.at number ≡ Some ty
    number_type number typed there tells =
        sym (type_of_cell s.tables s.at number there.0 there.1)
        ∙ typed (some_design s.tables) (some_cells s.tables) there.0
        (sym (tells (some_design s.tables) (some_cells s.tables)) ∙ there.1)

    pub cell_found : (number : CellNumber) (t n : Table) (id : TermId) → IsCellNumber s.tables s.at (Some number) →
        Tells s names index (Some number) → FindsTerm s k ty number t n id → FindsCell s k ty names index t n (Some id)
    cell_found number t n id there tells found = record {
      grown = found.grown;
      ready = found.ready;
      term = λ other is. let same : id ≡ other = cc in subst (IsTerm n (bits_in s ty)) same found.term;
      absent = λ is. absurd (cc);
      value = λ u more v are of.
          ap (option_map (read of.memory)) (sym (tells of.design of.cells) ∙ there.1)
          ∙ ap Some (found.value u more v are of.memory there.0 of.keeps there.1);
    }

    pub no_cell_found : (t : Table) → IsReady s t k → Tells s names index None → FindsCell s k ty names index t t None
    no_cell_found t ready tells = record {
      grown = Extends-refl t;
      ready = ready;
      term = λ id is. absurd (cc);
      absent = λ is d has. sym (tells d has);
      value = λ u more v are of. ap (option_map (read of.memory)) (sym (tells of.design of.cells));
    }

  -- ---- paths
  pub path_has_type : (names : List Ident) (t : Table) → IsReady s t k → HasTypeAt s ty (path names) →
      CellHasType s names None ty
  path_has_type names t ready typed d has c found =
      (ready.settled d has).variables (scope_of s.at) typed.context names ty c
      (context_is s typed.context typed.stands d has) (own_of_path typed.typed) found

  pub path_found : (names : List Ident) (t n : Table) (id : TermId) → FindsCell s k ty names None t n (Some id) →
      Finds s k ty (path names) t n (record { value = id; overrun = None })
  path_found names t n id found = record {
    grown = found.grown;
    ready = found.ready;
    value = found.term id refl;
    overrun = tt;
    means = λ u more v are. record {
      value = λ of.
          mapped_or (read of.memory) (cell of.design (scope_of s.at) names None) (constant_at of.design names)
          (value_of u v id) (found.value u more v are of);
      overrun = λ of. refl;
    };
  }

  pub constant_below : (names : List Ident) (t n : Table) → FindsCell s k ty names None t n None →
      HasTypeAt s ty (path names) → constant_at (some_design s.tables) names < 2 ^ 64 →
      constant_at (some_design s.tables) names < 2 ^ bits_in s ty
  constant_below names t n found typed small =
      (found.ready.settled (some_design s.tables) (some_cells s.tables)).constants (scope_of s.at) typed.context
      names ty (context_is s typed.context typed.stands (some_design s.tables) (some_cells s.tables))
      (own_of_path typed.typed) (sort_of_path typed.typed)
      (found.absent refl (some_design s.tables) (some_cells s.tables)) small

  pub constant_found : (names : List Ident) (t n m : Table) (id : TermId) → FindsCell s k ty names None t n None →
      Makes n m (bits_in s ty) id (λ u v. constant_at (some_design s.tables) names) →
      Finds s k ty (path names) t m (record { value = id; overrun = None })
  constant_found names t n m id found made = record {
    grown = Extends-trans t n m found.grown made.grown;
    ready = ready_along s n m k made.grown made.sound found.ready;
    value = made.term;
    overrun = tt;
    means = λ u more v are. record {
      value = λ of.
          ap (λ o. option_map_or (read of.memory) o (constant_at of.design names))
          (found.absent refl of.design of.cells)
          ∙ ap (λ spec. unwrap_or (option_and_then (λ (name : Ident). constant_value spec name.text)
          (slice_get names 0)) 0) of.cells.text
          ∙ sym (made.value u more v are);
      overrun = λ of. refl;
    };
  }

  -- ---- elements
  module _ (names : List Ident) where
    -- each element has the type of the whole
    pub element_has_type : (e : ExprTree) (index : ℕ) (t : Table) → IsReady s t k → HasTypeAt s ty (element names e) →
        CellHasType s names (Some index) ty
    element_has_type e index t ready typed d has c found =
        (ready.settled d has).elements (scope_of s.at) typed.context names index ty c
        (context_is s typed.context typed.stands d has) (named_of_element typed.typed) found

    -- the length that the tables tell is that of the array
    pub length_told : (e : ExprTree) (length : ℕ) → HasTypeAt s ty (element names e) →
        ((c : Context) → context_at s ≡ Some c → length ≡ unwrap_or (array_length c names) 0) → (d : DesignTree) →
        HasCells s.tables d → length_in d (scope_of s.at) names ≡ Some length
    length_told e length typed long d has =
        let size = size_of_element typed.typed in
        length_is s typed.context typed.stands d has names
        ∙ size.1
        ∙ ap Some (sym (long typed.context typed.stands ∙ ap (λ o. unwrap_or o 0) size.1))

    pub element_kept : (index : ℕ) (t n : Table) (id : TermId) → FindsCell s k ty names (Some index) t n (Some id) →
        FindsElement s k ty names index t n id
    element_kept index t n id found = record {
      grown = found.grown;
      ready = found.ready;
      term = found.term id refl;
      value = λ u more v are of.
          mapped_or (read of.memory) (cell of.design (scope_of s.at) names (Some index)) 0 (value_of u v id)
          (found.value u more v are of);
    }

    pub no_element : (index : ℕ) (t n m : Table) (id : TermId) → FindsCell s k ty names (Some index) t n None →
        Makes n m (bits_in s ty) id (λ u v. 0) → FindsElement s k ty names index t m id
    no_element index t n m id found made = record {
      grown = Extends-trans t n m found.grown made.grown;
      ready = ready_along s n m k made.grown made.sound found.ready;
      term = made.term;
      value = λ u more v are of.
          ap (λ o. option_map_or (read of.memory) o 0) (found.absent refl of.design of.cells)
          ∙ sym (made.value u more v are);
    }

    -- an element of the array, or the others
    chosen_number : (x number a b : ℕ) → (if x == number then a else b) ≡ choice (equal x number) a b
    chosen_number x number a b = by (x == number)
      where
        by : (t : Bool) → (if t then a else b) ≡ choice (bit t) a b
        by true = refl
        by false = refl

    pub one_more_found : (number : ℕ) (index others chosen constant here id : TermId) (t n p q r : Table) →
        IsTerm t (bits_in s ty) others → IsKnown t index → FindsElement s k ty names number t n chosen →
        Makes n p (width_of n index) constant (λ u v. number) →
        Makes p q 1 here (λ u v. equal (value_of u v index) (value_of u v constant)) →
        Makes q r (width_of q chosen) id
        (λ u v. choice (value_of u v here) (value_of u v chosen) (value_of u v others)) →
        IsOneMoreElement s k ty names number index others t r id
    one_more_found number index others chosen constant here id t n p q r term known found makes_number makes_here
        makes_choice =
        let last : Extends q r = makes_choice.grown in
        let middle : Extends p r = Extends-trans p q r makes_here.grown last in
        let whole : Extends n r = Extends-trans n p r makes_number.grown middle in
        let before : Extends n q = Extends-trans n p q makes_number.grown makes_here.grown in
        record {
          grown = Extends-trans t n r found.grown whole;
          ready = ready_along s n r k whole makes_choice.sound found.ready;
          term = (
            makes_choice.term.0,
            makes_choice.term.1 ∙ before.widths chosen found.term.0 ∙ found.term.1,
          );
          value = λ u more v are of.
              let constant_is : value_of u v constant ≡ number =
              makes_number.value u (Extends-trans p r u middle more) v are in
              let here_is : value_of u v here ≡ equal (value_of u v index) number =
              makes_here.value u (Extends-trans q r u last more) v are
              ∙ ap (equal (value_of u v index)) constant_is in
              let element_is = found.value u (Extends-trans n r u whole more) v are of in
              ap (λ x. if value_of u v index == number then x else value_of u v others) element_is
              ∙ chosen_number (value_of u v index) number (value_of u v chosen) (value_of u v others)
              ∙ ap (λ x. choice x (value_of u v chosen) (value_of u v others)) (sym here_is)
              ∙ sym (makes_choice.value u more v are);
        }

    -- ---- several elements
    pub none_found : (index : TermId) (t n : Table) (id : TermId) → IsReady s t k →
        Makes t n (bits_in s ty) id (λ u v. 0) → FindsElements s k ty names index 0 t n id
    none_found index t n id ready made = record {
      grown = made.grown;
      ready = ready_along s t n k made.grown made.sound ready;
      term = made.term;
      value = λ u more v are of.
          ap (λ t. if t then element_value of.design (scope_of s.at) of.memory names (value_of u v index) else 0)
          (none_below (value_of u v index))
          ∙ sym (made.value u more v are);
    }
      where
        none_below : (x : ℕ) → nat_lt x 0 ≡ false
        none_below x = grind (arith, nat_tests)

    -- one more number is this one or one of those before
    one_more_number : (f : ℕ → ℕ) (x count : ℕ) →
        (if nat_lt x (count + 1) then f x else 0)
        ≡ (if x == count then f count else (if nat_lt x count then f x else 0))
    one_more_number f x count = by (x == count) (nat_lt x count) (nat_lt x (count + 1)) refl refl refl
      where
        by : (a b c : Bool) → (x == count) ≡ a → nat_lt x count ≡ b → nat_lt x (count + 1) ≡ c →
            (if c then f x else 0) ≡ (if a then f count else (if b then f x else 0))
        by true b true is below within = ap f (eqb-true x count is)
        by true b false is below within = absurd (grind (arith, nat_tests))
        by false true true is below within = refl
        by false false false is below within = refl
        by false true false is below within = absurd (grind (arith, nat_tests))
        by false false true is below within = absurd (grind (arith, nat_tests))

    pub more_found : (index : TermId) (count : ℕ) (t n m : Table) (others id : TermId) →
        FindsElements s k ty names index count t n others →
        IsOneMoreElement s k ty names count index others n m id →
        FindsElements s k ty names index (count + 1) t m id
    more_found index count t n m others id found one = record {
      grown = Extends-trans t n m found.grown one.grown;
      ready = one.ready;
      term = one.term;
      value = λ u more v are of.
          one_more_number (element_value of.design (scope_of s.at) of.memory names) (value_of u v index) count
          ∙ ap (λ x. if value_of u v index == count
          then element_value of.design (scope_of s.at) of.memory names count
          else x) (found.value u (Extends-trans n m u one.grown more) v are of)
          ∙ one.value u more v are of;
    }

  -- ---- whole elements
  past_reach : (x length most : ℕ) → x < most → nat_lt x (min length most) ≡ false → length ≤ x
  past_reach x length most below is = grind (arith, nat_tests)

  not_past : (size x : ℕ) → x < size → nat_le size x ≡ false
  not_past size x below = grind (arith, nat_tests)

  pub numbered_found : (names : List Ident) (n : Num) (t m : Table) (id : TermId) →
      HasTypeAt s ty (element names (literal n)) → FindsElement s k ty names (number_of n) t m id →
      Finds s k ty (element names (literal n)) t m (record { value = id; overrun = None })
  numbered_found names n t m id typed found =
      let size = number_at_end typed.typed in
      record {
        grown = found.grown;
        ready = found.ready;
        value = found.term;
        overrun = tt;
        means = λ u more v are. record {
          value = found.value u more v are;
          overrun = λ of.
              ap (λ o. nat_le (unwrap_or o 0) (number_of n))
              (length_is s typed.context typed.stands of.design of.cells names ∙ size.1)
              ∙ not_past size.0 (number_of n) size.2;
        };
      }

  module _ (names : List Ident) (e : ExprTree) (index_ty : Ty) (length : ℕ) (t n p q r : Table) (x : Valued)
      (id : TermId) (past over : Option TermId) (typed : HasTypeAt s ty (element names e))
      (asks : (d : DesignTree) → HasCells s.tables d → index_type d (scope_of s.at) e ≡ index_ty)
      (long : (d : DesignTree) → HasCells s.tables d → length_in d (scope_of s.at) names ≡ Some length)
      (number : Finds s k index_ty e t n x)
      (found : FindsElements s k ty names x.value (min length (2 ^ width_of n x.value)) n p id)
      (makes_past : MakesTruth p q past (λ u v. nat_le length (value_of u v x.value)))
      (makes_over : MakesTruth q r over (λ u v. truth_at u v x.overrun || truth_at u v past)) where
    -- past the reachable elements there are none
    reached : (u : Table) (v : List ℕ) (of : Told s u v k) → value_of u v x.value < 2 ^ width_of n x.value →
        element_value of.design (scope_of s.at) of.memory names (value_of u v x.value)
        ≡ (if nat_lt (value_of u v x.value) (min length (2 ^ width_of n x.value))
        then element_value of.design (scope_of s.at) of.memory names (value_of u v x.value)
        else 0)
    reached u v of below = by (nat_lt (value_of u v x.value) (min length (2 ^ width_of n x.value))) refl
      where
        by : (b : Bool) → nat_lt (value_of u v x.value) (min length (2 ^ width_of n x.value)) ≡ b →
            element_value of.design (scope_of s.at) of.memory names (value_of u v x.value)
            ≡ (if b then element_value of.design (scope_of s.at) of.memory names (value_of u v x.value) else 0)
        by true is = refl
        by false is =
            ap (λ o. option_map_or (read of.memory) o 0)
            ((number.ready.settled of.design of.cells).ends (scope_of s.at) names length (value_of u v x.value)
            (long of.design of.cells) (past_reach (value_of u v x.value) length (2 ^ width_of n x.value) below is))

    pub element_found : Finds s k ty (element names e) t r (record { value = id; overrun = over })
    element_found =
        let last : Extends p r = Extends-trans p q r makes_past.grown makes_over.grown in
        let whole : Extends n r = Extends-trans n p r found.grown last in
        record {
          grown = Extends-trans t n r number.grown whole;
          ready = ready_along s p r k last makes_over.sound found.ready;
          value = term_along p r (bits_in s ty) id last found.term;
          overrun = makes_over.term;
          means = λ u more v are.
              let later : Extends n u = Extends-trans n r u whole more in
              let part : IsValued s k index_ty e u v x = number.means u later v are in
              let below : value_of u v x.value < 2 ^ width_of n x.value =
              below_later n u v (width_of n x.value) x.value number.ready.sound (number.value.0, refl) later are in
              record {
                value = λ of.
                    ap (λ a. element_value of.design (scope_of s.at) of.memory names
                    (value of.design (scope_of s.at) of.memory a e)) (asks of.design of.cells)
                    ∙ ap (element_value of.design (scope_of s.at) of.memory names) (part.value of)
                    ∙ reached u v of below
                    ∙ found.value u (Extends-trans p r u last more) v are of;
                overrun = λ of.
                    ap (λ a. overruns of.design (scope_of s.at) of.memory e
                    || nat_le (unwrap_or (length_in of.design (scope_of s.at) names) 0)
                    (value of.design (scope_of s.at) of.memory a e)) (asks of.design of.cells)
                    ∙ (λ j. part.overrun of j || nat_le (unwrap_or (long of.design of.cells j) 0) (part.value of j))
                    ∙ ap (λ b. truth_at u v x.overrun || b)
                    (sym (makes_past.truth u (Extends-trans q r u makes_over.grown more) v are))
                    ∙ sym (makes_over.truth u more v are);
              };
        }

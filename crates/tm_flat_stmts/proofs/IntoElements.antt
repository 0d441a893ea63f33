-- Assignments to elements of arrays.
use Rattle.std.proofs.Common.{◌≡◌, ℕ, ◌+◌, ◌^◌, ◌<◌, ◌≤◌, ◌==◌, Bool, true, false, Option, None, Some, List, [], ◌∷◌, ◌||◌, refl, sym, ap, ◌∙◌, subst, arith, eqb-true, true≢false}
use Rattle.std.specs.Prelude.{min, nat_le, nat_lt, unwrap_or, if◌then◌else◌}
use Rattle.std.proofs.lemmas.Bool.Decides.{nat_tests}
use Rattle.tm_base.specs.Arithmetic.{bit, choice, equal}
use Rattle.tm_syntax.specs.declared.tree.Ident.{Ident}
use Rattle.tm_syntax.specs.declared.tree.Num.{Num}
use Rattle.tm_syntax.specs.declared.design.Ty.{Ty}
use Rattle.tm_syntax.specs.Scopes.Context.{Context}
use Rattle.tm_syntax.specs.Scopes.Types.{named_type}
use Rattle.tm_syntax.specs.Tree.{ExprTree, assign, element, number as literal, plain}
use Rattle.tm_syntax.specs.Scopes.Names.{number_of}
use Rattle.tm_syntax.specs.Design.{DesignTree}
use Rattle.tm_syntax.specs.Design.Scope.{index_type, length_in}
use Rattle.tm_syntax.specs.Design.Cells.{Cell, cell}
use Rattle.tm_scope.specs.Cells.{HasCells, ScopedCells, scope_of}
use Rattle.tm_term.specs.declared.term.TermId.{TermId}
use Rattle.tm_term.specs.Table.{Table, IsSound, width_of}
use Rattle.tm_term.specs.Value.{AreInputs, value_of, Extends}
use Rattle.tm_term.proofs.Valued.{Extends-trans}
use Rattle.tm_sem.specs.Run.{asked_by, finished, put_in}
use Rattle.tm_sem.specs.Value.{Memory, index_value, is_past_end, overruns, value}
use Rattle.tm_typing.specs.HasType.{HasType, an_element, an_element_at}
use Rattle.tm_design.specs.Typed.{HasTypeAt}
use Rattle.tm_design.proofs.Contexts.{context_is}
use Rattle.tm_design.proofs.OperandParts.{sized_at}
use Rattle.tm_flat.specs.Steps.{IsTerm}
use Rattle.tm_flat.specs.Writes.{target_writes}
use Rattle.tm_flat_exprs.specs.declared.valued.Valued.{Valued}
use Rattle.tm_flat_exprs.specs.Kept.{KeptTerms, Keeps}
use Rattle.tm_flat_exprs.specs.Made.{Makes}
use Rattle.tm_design.specs.StepCells.{AreApart}
use Rattle.tm_flat_exprs.specs.Valued.{CellHasType, Finds, FindsElement, bits_in, element_value}
use Rattle.tm_flat_exprs.proofs.Later.{Extends-refl, below_later, term_along}
use Rattle.tm_flat_stmts.specs.declared.operands.Operand.{Operand}
use Rattle.tm_flat_stmts.specs.Flows.{EndTerms, FlowTerms, IsFlow}
use Rattle.tm_flat_stmts.specs.Statements.{AreSettledCells, Asks, AsksOne, LeadsThrough}
use Rattle.tm_flat_stmts.specs.Targets.{HasTargetAt, Puts}
use Rattle.tm_flat_stmts.specs.declared.places.TargetPlace.{TargetPlace}
use Rattle.tm_flat_stmts.specs.declared.places.TargetPlace.TheVariants.{Whole, Number, Found}
use Rattle.tm_flat_stmts.specs.Elements.{PutsElement, PutsOne, PutsSome}
use Rattle.tm_flat_stmts.specs.Places.{FindsPlace, PutsPlace}
use Rattle.tm_flat_stmts.proofs.Flowing.{ends_along, memory_along}
use Rattle.tm_flat_stmts.proofs.Leading.{continues_from, continues_so}
use Rattle.tm_flat_stmts.proofs.Leaving.{leaves_asked, leaves_stops, leaves_then, or_left}
use Rattle.tm_flat_stmts.proofs.Valuing.{asks_then, behind_operands, none_overruns, operands_ends, operands_flow}
use Rattle.tm_flat_stmts.proofs.Valuing.{operands_position}
use Rattle.tm_flat_stmts.proofs.Pieces.{goes_on_after}
use Rattle.tm_flat_stmts.proofs.PutBack.{put_back}
use Rattle.tm_flat_stmts.proofs.Written.{any_written, element_is, none_between, none_within, none_written}
use Rattle.tm_flat_stmts.proofs.Assigning.{same_put}

chosen_number : (x number a b : ℕ) → (if x == number then a else b) ≡ choice (equal x number) a b
chosen_number x number a b = by (x == number)
  where
    by : (t : Bool) → (if t then a else b) ≡ choice (bit t) a b
    by true = refl
    by false = refl

module _ (s : ScopedCells) (names : List Ident) where
  -- ---- one element
  pub one_put : (ty : Ty) (number : ℕ) (index id had constant here chosen : TermId) (t n p q r : Table)
      (f g : FlowTerms) → AreApart s.tables → CellHasType s names (Some number) ty → IsFlow s.tables t f →
      IsTerm t (bits_in s ty) id → FindsElement s f.memory ty names number t n had →
      Makes n p (width_of n index) constant (λ u v. number) →
      Makes p q 1 here (λ u v. equal (value_of u v index) (value_of u v constant)) →
      Makes q r (width_of q id) chosen
      (λ u v. choice (value_of u v here) (value_of u v id) (value_of u v had)) →
      Puts s names (Some number) chosen f g → PutsOne s names number index id t r f g
  one_put ty number index id had constant here chosen t n p q r f g apart typed flow term found makes_number
      makes_here makes_choice puts =
      let last : Extends q r = makes_choice.grown in
      let middle : Extends p r = Extends-trans p q r makes_here.grown last in
      let whole : Extends n r = Extends-trans n p r makes_number.grown middle in
      let early : Extends t q =
      Extends-trans t n q found.grown (Extends-trans n p q makes_number.grown makes_here.grown) in
      let all : Extends t r = Extends-trans t q r early last in
      record {
        grown = all;
        sound = makes_choice.sound;
        guard = puts.guard;
        position = puts.position;
        memory = puts.memory r ty (memory_along s.tables t r f.memory all flow.memory) typed
            (makes_choice.term.0, makes_choice.term.1 ∙ early.widths id term.0 ∙ term.1);
        keeps = λ u more v are d has m keeps.
            let constant_is : value_of u v constant ≡ number =
            makes_number.value u (Extends-trans p r u middle more) v are in
            let here_is : value_of u v here ≡ equal (value_of u v index) number =
            makes_here.value u (Extends-trans q r u last more) v are
            ∙ ap (equal (value_of u v index)) constant_is in
            let element_is : element_value d (scope_of s.at) m names number ≡ value_of u v had =
            found.value u (Extends-trans n r u whole more) v are
            (record { design = d; memory = m; cells = has; keeps = keeps }) in
            let chosen_is : value_of u v chosen
            ≡ (if value_of u v index == number
            then value_of u v id
            else element_value d (scope_of s.at) m names number) =
            makes_choice.value u more v are
            ∙ ap (λ h. choice h (value_of u v id) (value_of u v had)) here_is
            ∙ sym (chosen_number (value_of u v index) number (value_of u v id) (value_of u v had))
            ∙ ap (λ y. if value_of u v index == number then value_of u v id else y) (sym element_is) in
            subst (λ w. Keeps s.tables u v g.memory (put_in m (cell d (scope_of s.at) names (Some number)) w)) chosen_is
            (puts.keeps apart u v d has m keeps);
        leaves = puts.leaves;
      }

  -- ---- several elements
  none_below : (x : ℕ) → nat_lt x 0 ≡ false
  none_below x = grind (arith, nat_tests)

  pub none_put : (index id : TermId) (t : Table) (f : FlowTerms) → IsSound t → IsFlow s.tables t f →
      PutsSome s names index 0 id t t f f
  none_put index id t f sound flow = record {
    grown = Extends-refl t;
    sound = sound;
    guard = refl;
    position = refl;
    memory = flow.memory;
    keeps = λ u more v are d has m keeps.
        subst (λ b. Keeps s.tables u v f.memory
        (if b
        then put_in m (cell d (scope_of s.at) names (Some (value_of u v index))) (value_of u v id)
        else m)) (sym (none_below (value_of u v index))) keeps;
    leaves = λ d has i had none is. is;
  }

  pub some_flow : (index id : TermId) (count : ℕ) (t n : Table) (f g : FlowTerms) →
      PutsSome s names index count id t n f g → IsFlow s.tables t f → IsFlow s.tables n g
  some_flow index id count t n f g some flow = record {
    guard = subst (IsTerm n 1) (sym some.guard) (term_along t n 1 f.guard some.grown flow.guard);
    memory = some.memory;
  }

  module _ (index id : TermId) (count : ℕ) (t n r : Table) (f g h : FlowTerms)
      (some : PutsSome s names index count id t n f g) (one : PutsOne s names count index id n r g h) where
    more_keeps : (u : Table) → Extends r u → (v : List ℕ) → AreInputs u v → (d : DesignTree) → HasCells s.tables d →
        (m : Memory) → Keeps s.tables u v f.memory m → (a b c : Bool) → (value_of u v index == count) ≡ a →
        nat_lt (value_of u v index) count ≡ b → nat_lt (value_of u v index) (count + 1) ≡ c →
        Keeps s.tables u v h.memory
        (if c
        then put_in m (cell d (scope_of s.at) names (Some (value_of u v index))) (value_of u v id)
        else m)
    more_keeps u more v are d has m keeps a b c is below within = by a b c is below within
      where
        i : ℕ
        i = value_of u v index

        w : ℕ
        w = value_of u v id

        at : ℕ → Option Cell
        at k = cell d (scope_of s.at) names (Some k)

        some_kept : Keeps s.tables u v g.memory (if nat_lt i count then put_in m (at i) w else m)
        some_kept = some.keeps u (Extends-trans n r u one.grown more) v are d has m keeps

        one_kept : (o : Memory) → Keeps s.tables u v g.memory o →
            Keeps s.tables u v h.memory (put_in o (at count)
            (if i == count then w else element_value d (scope_of s.at) o names count))
        one_kept o kept = one.keeps u more v are d has o kept

        by : (a b c : Bool) → (i == count) ≡ a → nat_lt i count ≡ b → nat_lt i (count + 1) ≡ c →
            Keeps s.tables u v h.memory (if c then put_in m (at i) w else m)
        by true true c is below within = absurd (grind (arith, nat_tests))
        by true false false is below within = absurd (grind (arith, nat_tests))
        by true false true is below within =
            let here : i ≡ count = eqb-true i count is in
            let kept : Keeps s.tables u v g.memory m =
            subst (λ b. Keeps s.tables u v g.memory (if b then put_in m (at i) w else m)) below some_kept in
            subst (λ k. Keeps s.tables u v h.memory (put_in m (at k) w)) (sym here)
            (subst (λ b. Keeps s.tables u v h.memory (put_in m (at count)
            (if b then w else element_value d (scope_of s.at) m names count))) is (one_kept m kept))
        by false true false is below within = absurd (grind (arith, nat_tests))
        by false true true is below within =
            let o : Memory = put_in m (at i) w in
            let kept : Keeps s.tables u v g.memory o =
            subst (λ b. Keeps s.tables u v g.memory (if b then put_in m (at i) w else m)) below some_kept in
            put_back s.tables u v h.memory o (at count) (element_value d (scope_of s.at) o names count) refl
            (subst (λ b. Keeps s.tables u v h.memory (put_in o (at count)
            (if b then w else element_value d (scope_of s.at) o names count))) is (one_kept o kept))
        by false false true is below within = absurd (grind (arith, nat_tests))
        by false false false is below within =
            let kept : Keeps s.tables u v g.memory m =
            subst (λ b. Keeps s.tables u v g.memory (if b then put_in m (at i) w else m)) below some_kept in
            put_back s.tables u v h.memory m (at count) (element_value d (scope_of s.at) m names count) refl
            (subst (λ b. Keeps s.tables u v h.memory (put_in m (at count)
            (if b then w else element_value d (scope_of s.at) m names count))) is (one_kept m kept))

    pub more_put : PutsSome s names index (count + 1) id t r f h
    more_put = record {
      grown = Extends-trans t n r some.grown one.grown;
      sound = one.sound;
      guard = one.guard ∙ some.guard;
      position = one.position ∙ some.position;
      memory = one.memory;
      keeps = λ u more v are d has m keeps.
          more_keeps u more v are d has m keeps (value_of u v index == count) (nat_lt (value_of u v index) count)
          (nat_lt (value_of u v index) (count + 1)) refl refl refl;
      leaves = λ d has i had none is.
          one.leaves d has i had (none count (omega arith))
          (some.leaves d has i had (λ k below. none k (omega (arith, below))) is);
    }

  -- ---- where a target is
  pub number_place : (n : Num) (r : ℕ) (k : KeptTerms) (t : Table) → r ≡ number_of n → IsSound t →
      FindsPlace s k names (literal n) t t (Number r)
  number_place n r k t is sound =
      subst (λ (j : ℕ). FindsPlace s k names (literal n) t t (Number j)) (sym is) (record {
        grown = Extends-refl t;
        sound = sound;
        known = tt;
        is = λ u more v are d has m keeps safe. refl;
        writes = λ d has i none. none;
      })

  pub or_second : (a b : Bool) → (a || b) ≡ false → b ≡ false
  or_second true b is = absurd (true≢false is)
  or_second false b is = is

  within_reach : (i x length most : ℕ) → i ≡ x → nat_le length i ≡ false → x < most → nat_lt x (min length most) ≡ true
  within_reach i x length most same below most_below = grind (arith, nat_tests)

  most_reached : (length most : ℕ) → min length most ≤ most
  most_reached length most = omega arith

  all_reached : (length most k : ℕ) → k < min length most → k < length
  all_reached length most k below = omega (arith, below)

  pub elements_place : (index : ExprTree) (index_ty : Ty) (length : ℕ) (k : KeptTerms) (t n : Table) (x : Valued) →
      ((d : DesignTree) → HasCells s.tables d → index_type d (scope_of s.at) index ≡ index_ty) →
      ((d : DesignTree) → HasCells s.tables d → length_in d (scope_of s.at) names ≡ Some length) →
      ((d : DesignTree) → HasCells s.tables d → (i : ℕ) →
      target_writes d (scope_of s.at) i names (Some index) ≡ any_written d (scope_of s.at) i names) →
      Finds s k index_ty index t n x →
      FindsPlace s k names index t n (Found x.value (min length (2 ^ width_of n x.value)))
  elements_place index index_ty length k t n x asks long written found = record {
    grown = found.grown;
    sound = found.ready.sound;
    known = (found.value.0, most_reached length (2 ^ width_of n x.value));
    is = λ u more v are d has m keeps safe.
        let i : ℕ = index_value d (scope_of s.at) m index in
        let same : i ≡ value_of u v x.value =
        ap (λ a. value d (scope_of s.at) m a index) (asks d has)
        ∙ (found.means u more v are).value (record { design = d; memory = m; cells = has; keeps = keeps }) in
        let below : value_of u v x.value < 2 ^ width_of n x.value =
        below_later n u v (width_of n x.value) x.value found.ready.sound (found.value.0, refl) more are in
        let within : nat_le length i ≡ false =
        ap (λ o. nat_le (unwrap_or o 0) i) (sym (long d has))
        ∙ or_second (overruns d (scope_of s.at) m index) (is_past_end d (scope_of s.at) m names index) safe in
        let reached : nat_lt (value_of u v x.value) (min length (2 ^ width_of n x.value)) ≡ true =
        within_reach i (value_of u v x.value) length (2 ^ width_of n x.value) same within below in
        ap (λ j. cell d (scope_of s.at) names (Some j)) same
        ∙ sym (ap (λ b. if b then cell d (scope_of s.at) names (Some (value_of u v x.value)) else None) reached);
    writes = λ d has i none.
        none_within (element_is d (scope_of s.at) i names) 0 (min length (2 ^ width_of n x.value))
        (λ j low high.
        none_written d (scope_of s.at) i names length (long d has) (sym (written d has i) ∙ none) j
        (all_reached length (2 ^ width_of n x.value) j (omega (arith, high))));
  }

  -- ---- a term is put there
  pub whole_put : (ty : Ty) (id : TermId) (t : Table) (f g : FlowTerms) → AreApart s.tables →
      CellHasType s names None ty → IsSound t → IsFlow s.tables t f → IsTerm t (bits_in s ty) id →
      Puts s names None id f g → PutsPlace s names Whole id t t f g
  whole_put ty id t f g apart typed sound flow term puts = record {
    grown = Extends-refl t;
    sound = sound;
    guard = puts.guard;
    position = puts.position;
    memory = puts.memory t ty flow.memory typed term;
    keeps = λ u more v are d has m keeps. puts.keeps apart u v d has m keeps;
    leaves = puts.leaves;
  }

  pub number_put : (ty : Ty) (n : ℕ) (id : TermId) (t : Table) (f g : FlowTerms) → AreApart s.tables →
      CellHasType s names (Some n) ty → IsSound t → IsFlow s.tables t f → IsTerm t (bits_in s ty) id →
      Puts s names (Some n) id f g → PutsPlace s names (Number n) id t t f g
  number_put ty n id t f g apart typed sound flow term puts = record {
    grown = Extends-refl t;
    sound = sound;
    guard = puts.guard;
    position = puts.position;
    memory = puts.memory t ty flow.memory typed term;
    keeps = λ u more v are d has m keeps. puts.keeps apart u v d has m keeps;
    leaves = puts.leaves;
  }

  put_if : (b : Bool) (m : Memory) (o : Option Cell) (n : ℕ) →
      (if b then put_in m o n else m) ≡ put_in m (if b then o else None) n
  put_if true m o n = refl
  put_if false m o n = refl

  pub found_put : (index : TermId) (count : ℕ) (id : TermId) (t n : Table) (f g : FlowTerms) →
      PutsSome s names index count id t n f g → PutsPlace s names (Found index count) id t n f g
  found_put index count id t n f g some = record {
    grown = some.grown;
    sound = some.sound;
    guard = some.guard;
    position = some.position;
    memory = some.memory;
    keeps = λ u more v are d has m keeps.
        subst (Keeps s.tables u v g.memory)
        (put_if (nat_lt (value_of u v index) count) m
        (cell d (scope_of s.at) names (Some (value_of u v index))) (value_of u v id))
        (some.keeps u more v are d has m keeps);
    leaves = λ d has i had none is.
        some.leaves d has i had
        (λ k below.
        none_between (element_is d (scope_of s.at) i names) 0 count none k (omega arith) (omega (arith, below))) is;
  }

  pub element_put : (index : ExprTree) (place : TargetPlace) (id : TermId) (t p n : Table) (f g : FlowTerms) →
      FindsPlace s f.memory names index t p place → PutsPlace s names place id p n f g →
      PutsElement s names index id t n f g
  element_put index place id t p n f g found puts = record {
    grown = Extends-trans t p n found.grown puts.grown;
    sound = puts.sound;
    guard = puts.guard;
    position = puts.position;
    memory = puts.memory;
    keeps = λ u more v are d has m keeps safe.
        subst (λ o. Keeps s.tables u v g.memory (put_in m o (value_of u v id)))
        (sym (found.is u (Extends-trans p n u puts.grown more) v are d has m keeps safe))
        (puts.keeps u more v are d has m keeps);
    leaves = λ d has i had none is. puts.leaves d has i had (found.writes d has i none) is;
  }

-- ---- a value is assigned
named_of : {c : Context} {ty : Ty} {names : List Ident} {e : ExprTree} → HasType c ty (element names e) →
    named_type c names ≡ Some ty
named_of (an_element_at sized named size is below) = named
named_of (an_element sized named size inside own h) = named

pub element_target : (s : ScopedCells) (ty : Ty) (names : List Ident) (e : ExprTree) →
    HasTypeAt s ty (element names e) → HasTargetAt s ty names
element_target s ty names e typed = record {
  context = typed.context;
  stands = typed.stands;
  sized = sized_at s typed;
  named = named_of typed.typed;
}

pub elements_typed : (s : ScopedCells) (ty : Ty) (names : List Ident) (k : ℕ) → AreSettledCells s →
    HasTargetAt s ty names → CellHasType s names (Some k) ty
elements_typed s ty names k settled target d has c found =
    (settled d has).elements (scope_of s.at) target.context names k ty c
    (context_is s target.context target.stands d has) target.named found

pub or_first : (a b : Bool) → (a || b) ≡ false → a ≡ false
or_first true b is = is
or_first false b is = refl

module _ (s : ScopedCells) (names : List Ident) (index : ExprTree) (ty : Ty) (e : ExprTree) (t p q n : Table)
    (f g : FlowTerms) (before mid after : EndTerms) (x y : Operand) (settled : AreSettledCells s)
    (target : HasTargetAt s ty names) (within : AsksOne s ty (element names index) t p f before mid x)
    (valued : AsksOne s ty e p q x.flow mid after y) (puts : PutsElement s names index y.value q n y.flow g) where
  asks : Asks s (element names index ∷ e ∷ []) t q f before y.flow after
  asks =
      asks_then s (element names index ∷ []) (e ∷ []) t p q f x.flow y.flow before mid after within.asks valued.asks

  flow : IsFlow s.tables q y.flow
  flow = operands_flow s (element names index ∷ e ∷ []) t q f before y.flow after asks

  after_flow : IsFlow s.tables n g
  after_flow = record {
    guard = subst (IsTerm n 1) (sym puts.guard) (term_along q n 1 y.flow.guard puts.grown flow.guard);
    memory = puts.memory;
  }

  pub element_assigned : (first : ℕ) →
      LeadsThrough s first (assign names (Some index) (plain e)) t n f before (Some g) after
  element_assigned first r has here trail number = record {
    goes =
        let at = scope_of s.at in
        let d = r.design in
        let o : Memory → Option Cell = λ m. cell d at names (Some (index_value d at m index)) in
        let next : Memory → Memory = λ m. put_in m (o m) (value d at m (asked_by d (o m)) e) in
        behind_operands s (element names index ∷ e ∷ []) t q f before y.flow after asks d has number
        (λ v m. finished (next m)) (Some f.position) n (Some g) after
        (continues_so s.tables number (λ v m. finished (next m)) (λ v m. finished (next m)) (Some y.flow.position)
        (Some f.position) q n (Some y.flow) (Some g) after after (λ v m. refl)
        (operands_position s (element names index ∷ e ∷ []) t q f before y.flow after asks)
        (continues_from s.tables number (λ v m. finished (next m)) (Some y.flow.position) q n n (Some y.flow) (Some g)
        after after puts.grown
        (goes_on_after s.tables number (λ v m. next m) n y.flow g after puts.sound after_flow
        (ends_along s.tables q n after puts.grown
        (operands_ends s (element names index ∷ e ∷ []) t q f before y.flow after asks)) puts.guard puts.position
        (λ u more v inputs m on keeps.
        let later : Extends q u = Extends-trans q n u puts.grown more in
        let safe : overruns d at m (element names index) ≡ false =
        or_first (overruns d at m (element names index)) (overruns d at m e || false)
        (none_overruns s (element names index ∷ e ∷ []) t q f before y.flow after asks u later v inputs d has m keeps
        on) in
        let value_is = valued.value.means u later v inputs d has m
        (subst (λ k. Keeps s.tables u v k m) valued.asks.memory keeps) in
        subst (Keeps s.tables u v g.memory)
        (ap (put_in m (o m)) value_is
        ∙ same_put d at m e ty (o m) (elements_typed s ty names (index_value d at m index) settled target d has))
        (puts.keeps u more v inputs d has m keeps safe)))));
    leaves = λ i none.
        leaves_then i (Some f) (Some y.flow) (Some g) before after after
        (leaves_asked i s (element names index ∷ e ∷ []) t q f before y.flow after asks)
        (leaves_stops i y.flow (Some g) after after
        (λ id is. puts.leaves r.design has i id
        (or_left (target_writes r.design (scope_of s.at) i names (Some index)) false none) is) refl);
  }

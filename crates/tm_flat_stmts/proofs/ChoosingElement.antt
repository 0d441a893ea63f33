-- Choices that are assigned to elements of arrays.
use Rattle.std.proofs.Common.{◌≡◌, ℕ, ◌+◌, ◌<◌, ◌&&◌, ◌||◌, Bool, true, false, Option, Some, List, [], ◌∷◌, refl, sym, ap, ◌∙◌, subst, arith, true≢false}
use Rattle.std.specs.Prelude.{nat_le, nat_lt, unwrap_or, if◌then◌else◌}
use Rattle.std.proofs.lemmas.Bool.Decides.{nat_tests}
use Rattle.tm_base.specs.declared.place.Place.{Place}
use Rattle.tm_syntax.specs.declared.tree.Ident.{Ident}
use Rattle.tm_syntax.specs.declared.design.Ty.{Ty}
use Rattle.tm_syntax.specs.Scopes.Context.{Context}
use Rattle.tm_syntax.specs.Scopes.Types.{array_length}
use Rattle.tm_syntax.specs.Tree.{ExprTree, assign, element, star}
use Rattle.tm_syntax.specs.Tree.View.{spec_tree}
use Rattle.tm_syntax.specs.Design.{DesignTree}
use Rattle.tm_syntax.specs.Design.Scope.{length_in}
use Rattle.tm_syntax.specs.Design.Cells.{Cell, cell}
use Rattle.tm_syntax.specs.Design.Sizes.{type_size}
use Rattle.tm_scope.specs.Cells.{HasCells, ScopedCells, scope_of}
use Rattle.tm_term.specs.declared.term.TermId.{TermId}
use Rattle.tm_term.specs.Table.{Table}
use Rattle.tm_term.specs.Value.{value_of, Extends}
use Rattle.tm_term.proofs.Valued.{Extends-trans}
use Rattle.tm_typing.specs.HasType.{HasType, an_element, an_element_at}
use Rattle.tm_sem.specs.Run.{Ending, asked_by, blocked, failed, finished, put_in}
use Rattle.tm_sem.specs.Value.{Memory, index_value, is_past_end, overruns}
use Rattle.tm_design.specs.Typed.{HasTypeAt}
use Rattle.tm_design.proofs.Contexts.{length_is}
use Rattle.tm_flat.specs.BitRun.{number_at, puts_number}
use Rattle.tm_flat.specs.Positions.{target_bits}
use Rattle.tm_flat.specs.Steps.{IsTerm}
use Rattle.tm_flat.specs.Writes.{target_writes}
use Rattle.tm_flat_exprs.specs.Kept.{Keeps}
use Rattle.tm_flat_exprs.specs.Made.{Makes}
use Rattle.tm_flat_exprs.specs.Valued.{bits_in}
use Rattle.tm_flat_exprs.proofs.Later.{term_along}
use Rattle.tm_flat_stmts.specs.declared.operands.Operand.{Operand}
use Rattle.tm_flat_stmts.specs.Flows.{Continues, EndTerms, FlowTerms, IsFlow, Narrows, is_on}
use Rattle.tm_flat_stmts.specs.Statements.{AreSettledCells, AsksOne, LeadsThrough}
use Rattle.tm_flat_stmts.specs.Targets.{HasTargetAt}
use Rattle.tm_flat_stmts.proofs.Flowing.{flow_along}
use Rattle.tm_flat_stmts.proofs.Leading.{continues_so}
use Rattle.tm_flat_stmts.proofs.Leaving.{leaves_asked, leaves_memory, leaves_stops, leaves_then, or_left}
use Rattle.tm_flat_stmts.proofs.Pieces.{is_narrowed}
use Rattle.tm_flat_stmts.proofs.Valuing.{behind_operands, none_overruns, operands_ends, operands_flow, operands_position}
use Rattle.tm_flat_stmts.specs.Choices.{choice_bit}
use Rattle.tm_flat_stmts.specs.Elements.{HasElements, PutsElement}
use Rattle.tm_flat_stmts.proofs.Choosing.{bits_told, choice_led, one_type}
use Rattle.tm_flat_stmts.proofs.IntoElements.{elements_typed, or_first, or_second}

and_left : (a b c : Bool) → a ≡ (b && c) → a ≡ true → b ≡ true
and_left a true c is on = refl
and_left a false c is on = absurd (true≢false (sym on ∙ is))

unless_same : (b : Bool) (d e : Ending) → (b ≡ false → d ≡ e) → (if b then failed else d) ≡ (if b then failed else e)
unless_same true d e same = refl
unless_same false d e same = same refl

-- positions that are there are one where their options are
pub found_position : {a b : ℕ} → Some a ≡ Some b → a ≡ b
found_position {a} {b} is = ap (λ o. unwrap_or o a) is

size_of : {c : Context} {ty : Ty} {names : List Ident} {e : ExprTree} → HasType c ty (element names e) →
    (size : ℕ) × (array_length c names ≡ Some size)
size_of (an_element_at {size = n} sized named size is below) = (n, size)
size_of (an_element {size = n} sized named size inside own h) = (n, size)

below_end : (i size : ℕ) → nat_le size i ≡ false → i < size
below_end i size is = grind (arith, nat_tests)

module _ (s : ScopedCells) (names : List Ident) (index : ExprTree) (ty : Ty) (first count : ℕ) (t a p q n : Table)
    (f g h : FlowTerms) (before after : EndTerms) (x : Operand) (id : TermId) (settled : AreSettledCells s)
    (typed : HasTypeAt s ty (element names index)) (target : HasTargetAt s ty names) (there : HasElements s names)
    (asks : AsksOne s ty (element names index) t a f before after x)
    (number : Makes a p (bits_in s ty) id (λ u v. number_at (choice_bit first v) x.flow.position (bits_in s ty)))
    (counted : count ≡ type_size (spec_tree s.tables.spec) ty)
    (narrow : Narrows p q x.flow g (λ u v. nat_lt (value_of u v id) count))
    (puts : PutsElement s names index id q n g h) where
  stands : IsFlow s.tables a x.flow
  stands = operands_flow s (element names index ∷ []) t a f before x.flow after asks.asks

  flow_later : IsFlow s.tables q g
  flow_later =
      is_narrowed s.tables p q x.flow g (λ u v. nat_lt (value_of u v id) count) narrow
      (flow_along s.tables a p x.flow number.grown stands)

  flow_after : IsFlow s.tables n h
  flow_after = record {
    guard = subst (IsTerm n 1) (sym puts.guard) (term_along q n 1 g.guard puts.grown flow_later.guard);
    memory = puts.memory;
  }

  module _ (d : DesignTree) (has : HasCells s.tables d) where
    abbrev at : Memory → Option Cell
    at m = cell d (scope_of s.at) names (Some (index_value d (scope_of s.at) m index))

    abbrev read_here : List ℕ → ℕ
    read_here v = number_at (choice_bit first v) x.flow.position (bits_in s ty)

    led : (numbers : Place → List Place → Option ℕ) →
        Continues s.tables numbers
        (λ v m. if nat_lt (read_here v) count then finished (put_in m (at m) (read_here v)) else blocked)
        (Some (x.flow.position + bits_in s ty)) a n (Some x.flow) after
        (Some (record { guard = h.guard; memory = h.memory; position = x.flow.position + bits_in s ty })) after
    led =
        choice_led s.tables first count (bits_in s ty) a p q n x.flow g h after id stands
        (operands_ends s (element names index ∷ []) t a f before x.flow after asks.asks) number narrow puts.grown
        puts.sound flow_after puts.guard puts.position (λ v m. put_in m (at m) (read_here v))
        (λ u more v inputs m on keeps.
        let of_q : Extends q u = Extends-trans q n u puts.grown more in
        let of_p : Extends p u = Extends-trans p q u narrow.grown of_q in
        let kept : Keeps s.tables u v x.flow.memory m =
        subst (λ k. Keeps s.tables u v k m) narrow.memory keeps in
        let safe : overruns d (scope_of s.at) m (element names index) ≡ false =
        or_first (overruns d (scope_of s.at) m (element names index)) false
        (none_overruns s (element names index ∷ []) t a f before x.flow after asks.asks u
        (Extends-trans a p u number.grown of_p) v inputs d has m kept
        (and_left (is_on u v (Some g)) (is_on u v (Some x.flow)) (nat_lt (value_of u v id) count)
        (narrow.on u of_q v inputs) on)) in
        subst (λ k. Keeps s.tables u v h.memory (put_in m (at m) k)) (number.value u of_p v inputs)
        (puts.keeps u more v inputs d has m keeps safe))

    -- where the index is within the array, the element has the type of the target
    size_is : (m : Memory) → overruns d (scope_of s.at) m (element names index) ≡ false →
        type_size d.spec (asked_by d (at m)) ≡ count
    size_is m safe =
        let long = size_of typed.typed in
        let long_here : length_in d (scope_of s.at) names ≡ Some long.0 =
        length_is s typed.context typed.stands d has names ∙ long.1 in
        let below : index_value d (scope_of s.at) m index < long.0 =
        below_end (index_value d (scope_of s.at) m index) long.0
        (ap (λ o. nat_le (unwrap_or o 0) (index_value d (scope_of s.at) m index)) (sym long_here)
        ∙ or_second s names (overruns d (scope_of s.at) m index) (is_past_end d (scope_of s.at) m names index) safe) in
        let found = there d has long.0 (index_value d (scope_of s.at) m index) long_here below in
        let asked : asked_by d (at m) ≡ ty =
        one_type d (at m) found.0 ty found.1
        (elements_typed s ty names (index_value d (scope_of s.at) m index) settled target d has found.0 found.1) in
        (λ i. type_size (has.text i) (asked i)) ∙ sym counted

  pub element_chosen : (place : Place) →
      LeadsThrough s first (assign names (Some index) (star place)) t n f before
      (Some (record { guard = h.guard; memory = h.memory; position = x.flow.position + bits_in s ty })) after
  element_chosen place r has here trail numbers = record {
    goes =
        let d = r.design in
        let same : x.flow.position ≡ f.position =
        ap (λ o. unwrap_or o 0)
        (operands_position s (element names index ∷ []) t a f before x.flow after asks.asks) in
        let bits : target_bits d (scope_of s.at) names ≡ bits_in s ty = bits_told s ty names target d has in
        continues_so s.tables numbers
        (λ v m. if overruns d (scope_of s.at) m (element names index) || false
        then failed
        else (if nat_lt (read_here d has v) count then finished (put_in m (at d has m) (read_here d has v))
        else blocked))
        (λ v m. if overruns d (scope_of s.at) m (element names index) || false
        then failed
        else puts_number d m (at d has m)
        (number_at (choice_bit r.first v) f.position (target_bits d (scope_of s.at) names)))
        (Some (x.flow.position + bits_in s ty)) (Some (f.position + target_bits d (scope_of s.at) names)) t n (Some f)
        (Some (record { guard = h.guard; memory = h.memory; position = x.flow.position + bits_in s ty })) before after
        (λ v m.
        unless_same (overruns d (scope_of s.at) m (element names index) || false)
        (if nat_lt (read_here d has v) count then finished (put_in m (at d has m) (read_here d has v)) else blocked)
        (puts_number d m (at d has m)
        (number_at (choice_bit r.first v) f.position (target_bits d (scope_of s.at) names)))
        (λ safe i.
        if nat_lt (number_at (choice_bit (sym here i) v) (same i) (sym bits i))
        (sym (size_is d has m (or_first (overruns d (scope_of s.at) m (element names index)) false safe)) i)
        then finished (put_in m (at d has m) (number_at (choice_bit (sym here i) v) (same i) (sym bits i)))
        else blocked))
        (λ i. Some (same i + sym bits i))
        (behind_operands s (element names index ∷ []) t a f before x.flow after asks.asks d has numbers
        (λ v m. if nat_lt (read_here d has v) count
        then finished (put_in m (at d has m) (read_here d has v))
        else blocked) (Some (x.flow.position + bits_in s ty)) n
        (Some (record { guard = h.guard; memory = h.memory; position = x.flow.position + bits_in s ty })) after
        (led d has numbers));
    leaves = λ i none.
        leaves_then i (Some f) (Some x.flow)
        (Some (record { guard = h.guard; memory = h.memory; position = x.flow.position + bits_in s ty })) before after
        after (leaves_asked i s (element names index ∷ []) t a f before x.flow after asks.asks)
        (leaves_then i (Some x.flow) (Some g)
        (Some (record { guard = h.guard; memory = h.memory; position = x.flow.position + bits_in s ty })) after after
        after (leaves_memory i x.flow g after after narrow.memory refl)
        (leaves_stops i g
        (Some (record { guard = h.guard; memory = h.memory; position = x.flow.position + bits_in s ty })) after after
        (λ had is. puts.leaves r.design has i had
        (or_left (target_writes r.design (scope_of s.at) i names (Some index)) false none) is) refl));
  }

-- Arguments that are read from bits, one after the other.
use Rattle.std.proofs.Common.{◌≡◌, ℕ, ◌+◌, ◌<◌, ◌≤◌, ◌^◌, ◌&&◌, ◌||◌, Bool, true, false, Some, List, [], ◌∷◌, refl, sym, ap, ◌∙◌, subst, arith}
use Rattle.std.specs.Prelude.{nat_lt, slice_get}
use Rattle.std.specs.List.{list_any}
use Rattle.tm_syntax.specs.Tree.{SpecTree}
use Rattle.tm_syntax.specs.Tree.View.{spec_tree}
use Rattle.tm_syntax.specs.Design.{DesignTree}
use Rattle.tm_syntax.specs.Design.Cells.{Cell}
use Rattle.tm_syntax.specs.Design.Sizes.{type_bits, type_size}
use Rattle.tm_syntax.specs.declared.design.Ty.{Ty}
use Rattle.tm_scope.specs.Cells.{CellTables, cell_at}
use Rattle.tm_scope.specs.declared.cells.site_body.CellNumber.{CellNumber}
use Rattle.tm_scope.specs.declared.cells.site_body.SiteBody.{SiteBody}
use Rattle.tm_term.specs.declared.term.TermId.{TermId}
use Rattle.tm_term.specs.Table.{Table, IsSound}
use Rattle.tm_term.specs.Value.{AreInputs, value_of, Extends}
use Rattle.tm_term.proofs.Valued.{Extends-trans}
use Rattle.tm_sem.specs.Run.{asked_by}
use Rattle.tm_sem.specs.Value.{put}
use Rattle.tm_flat.specs.BitRun.{number_at}
use Rattle.tm_flat.specs.Inputs.{first_choice, input_widths, room}
use Rattle.tm_flat.specs.Steps.{IsTerm}
use Rattle.tm_flat.specs.Writes.{is_variable}
use Rattle.tm_flat_exprs.specs.Kept.{KeptTerms, Keeps, type_at}
use Rattle.tm_flat_exprs.specs.Made.{Makes}
use Rattle.tm_design.specs.StepCells.{AreApart}
use Rattle.tm_flat_exprs.proofs.Later.{Extends-refl, term_along}
use Rattle.tm_flat_stmts.specs.Flows.{FlowTerms, IsFlow, Narrows, PutsAt, is_on}
use Rattle.tm_flat_stmts.proofs.Flowing.{memory_along}
use Rattle.tm_flat_stmts.proofs.Leaving.{or_left, or_right}
use Rattle.tm_flat_stmts.proofs.Pieces.{is_narrowed, kept_narrowed}
use Rattle.tm_flat_stmts.specs.Choices.{AreChoiceBits, choice_bit}
use Rattle.tm_flat_moves.proofs.InputWidths.{bit_width}
use Rattle.tm_flat_moves.specs.Arguments.{ReadsArguments, are_in_range, argument_bits, param_bits}

and_true : (b : Bool) → (b && true) ≡ b
and_true true = refl
and_true false = refl

and_all : (a b c : Bool) → ((a && b) && c) ≡ (a && (b && c))
and_all true b c = refl
and_all false b c = refl

-- none is read
pub reads_none : (x : CellTables) (t : Table) (d : DesignTree) (k : ℕ) (f : FlowTerms) → IsSound t → IsFlow x t f →
    ReadsArguments x t t d [] k f f
reads_none x t d k f sound flow = record {
  grown = Extends-refl t;
  sound = sound;
  flow = flow;
  position = refl;
  on = λ u more v are. sym (and_true (is_on u v (Some f)));
  keeps = λ u more v are m keeps. keeps;
  leaves = λ i id none has. has;
}

-- one, and then the others
pub reads_then : (x : CellTables) (t m n : Table) (d : DesignTree) (c : Cell) (cs : List Cell) (k : ℕ)
    (f h g : FlowTerms) → ReadsArguments x t m d (c ∷ []) k f h →
    ReadsArguments x m n d cs (k + param_bits d c) h g → ReadsArguments x t n d (c ∷ cs) k f g
reads_then x t m n d c cs k f h g one others = record {
  grown = Extends-trans t m n one.grown others.grown;
  sound = others.sound;
  flow = others.flow;
  position = others.position ∙ one.position;
  on = λ u more v are.
      let early = Extends-trans m n u others.grown more in
      let here : Bool = nat_lt (number_at (argument_bits d v) k (param_bits d c))
      (type_size d.spec (asked_by d (Some c))) in
      let rest : Bool = are_in_range d cs (argument_bits d v) (k + param_bits d c) in
      others.on u more v are
      ∙ ap (λ b. b && rest) (one.on u early v are ∙ ap (λ b. is_on u v (Some f) && b) (and_true here))
      ∙ and_all (is_on u v (Some f)) here rest;
  keeps = λ u more v are memory keeps.
      others.keeps u more v are _ (one.keeps u (Extends-trans m n u others.grown more) v are memory keeps);
  leaves = λ i id none has.
      others.leaves i id (or_right (is_variable i c) (list_any (is_variable i) cs) none)
      (one.leaves i id (ap (λ b. b || false) (or_left (is_variable i c) (list_any (is_variable i) cs) none)) has);
}

-- the argument of one parameter
module _ (x : CellTables) (d : DesignTree) (at : SiteBody) (cell : CellNumber) (c : Cell) (ty : Ty) (k : ℕ)
    (there : cell_at x at cell ≡ Some c) (typed : type_at x at cell ≡ Some ty) (asks : asked_by d (Some c) ≡ ty)
    (text : d.spec ≡ spec_tree x.spec) (apart : AreApart x) where
  width_is : type_bits (spec_tree x.spec) ty ≡ param_bits d c
  width_is = λ i. type_bits (sym text i) (sym asks i)

  pub reads_one : (t l n : Table) (f h g : FlowTerms) (id : TermId) → IsFlow x t f →
      Makes t l (type_bits (spec_tree x.spec) ty) id
      (λ u v. number_at (argument_bits d v) k (type_bits (spec_tree x.spec) ty)) →
      Narrows l n f h (λ u v. nat_lt (value_of u v id) (type_size (spec_tree x.spec) ty)) →
      PutsAt at cell id h g → ReadsArguments x t n d (c ∷ []) k f g
  reads_one t l n f h g id flow number narrow puts =
      let flow_later : IsFlow x l f = record {
        guard = term_along t l 1 f.guard number.grown flow.guard;
        memory = memory_along x t l f.memory number.grown flow.memory;
      } in
      let narrowed = is_narrowed x l n f h (λ u v. nat_lt (value_of u v id) (type_size (spec_tree x.spec) ty)) narrow
      flow_later in
      record {
        grown = Extends-trans t l n number.grown narrow.grown;
        sound = narrow.sound;
        flow = record {
          guard = subst (IsTerm n 1) (sym puts.guard) narrowed.guard;
          memory = puts.memory x n ty narrowed.memory typed
              (term_along l n (type_bits (spec_tree x.spec) ty) id narrow.grown number.term);
        };
        position = puts.position ∙ narrow.position;
        on = λ u more v are.
            ap (λ y. is_on u v (Some (record { guard = y; memory = g.memory; position = g.position }))) puts.guard
            ∙ narrow.on u more v are
            ∙ ap (λ b. is_on u v (Some f) && b)
            ((λ i. nat_lt (read_value u more v are i) (type_size (sym text i) (sym asks i)))
            ∙ sym (and_true (nat_lt (number_at (argument_bits d v) k (param_bits d c))
            (type_size d.spec (asked_by d (Some c))))));
        keeps = λ u more v are m keeps.
            subst (λ y. Keeps x u v g.memory (put m c y)) (read_value u more v are)
            (puts.keeps x apart u v m c
            (kept_narrowed x l n f h (λ u v. nat_lt (value_of u v id) (type_size (spec_tree x.spec) ty)) narrow u v m
            keeps) there);
        leaves = λ i had none has.
            puts.leaves x c there i had (or_left (is_variable i c) false none)
            (subst (λ (y : KeptTerms). slice_get y.values i ≡ Some had) (sym narrow.memory) has);
      }
    where
      read_value : (u : Table) → Extends n u → (v : List ℕ) → AreInputs u v →
          value_of u v id ≡ number_at (argument_bits d v) k (param_bits d c)
      read_value u more v are =
          number.value u (Extends-trans l n u narrow.grown more) v are
          ∙ ap (number_at (argument_bits d v) k) width_is

  -- the argument of one parameter, by what is told of the bits and values of its type
  pub reads_by : (spec : SpecTree) → spec ≡ spec_tree x.spec → (first width size : ℕ) → first ≡ first_choice d + room →
      width ≡ type_bits spec ty → size ≡ type_size spec ty → (t l n : Table) (f h g : FlowTerms) (id : TermId) →
      IsFlow x t f → Makes t l width id (λ u v. number_at (choice_bit first v) k width) →
      Narrows l n f h (λ u v. nat_lt (value_of u v id) size) → PutsAt at cell id h g →
      ReadsArguments x t n d (c ∷ []) k f g
  reads_by spec same first width size first_is width_is size_is t l n f h g id flow number narrow puts =
      let wide : width ≡ type_bits (spec_tree x.spec) ty = width_is ∙ ap (λ s. type_bits s ty) same in
      let many : size ≡ type_size (spec_tree x.spec) ty = size_is ∙ ap (λ s. type_size s ty) same in
      reads_one t l n f h g id flow
      (subst (λ w. Makes t l w id (λ u v. number_at (argument_bits d v) k w)) wide
      (subst (λ i. Makes t l width id (λ u v. number_at (choice_bit i v) k width)) first_is number))
      (subst (λ y. Narrows l n f h (λ u v. nat_lt (value_of u v id) y)) many narrow) puts

-- the bits of an argument are inputs
pub argument_inputs : (d : DesignTree) (t : Table) → t.inputs ≡ input_widths d →
    first_choice d + (room + room) < 2 ^ 32 → (first k width : ℕ) → first ≡ first_choice d + room → k + width ≤ room →
    AreChoiceBits t first k width
argument_inputs d t inputs few first k width is within = record {
  small = omega (arith, few, is, within);
  bits = λ i below.
      let at : first + k + i ≡ first_choice d + (room + k + i) = omega (arith, is) in
      (λ j. slice_get (inputs j) (at j)) ∙ bit_width d (room + k + i) (omega (arith, within, below));
}

-- the number of the first input that is a bit of arguments
pub first_argument : (d : DesignTree) (first : ℕ) → first ≡ first_choice d → first + 64 ≡ first_choice d + room
unfolding room
first_argument d first is = ap (λ k. k + 64) is

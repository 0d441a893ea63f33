-- Choices that are assigned.
use Rattle.std.proofs.Common.{◌≡◌, ℕ, ◌+◌, ◌^◌, ◌<◌, ◌≤◌, ◌&&◌, Bool, true, false, Option, None, Some, List, refl, sym, ap, ◌∙◌, subst, arith, pow_pos}
use Rattle.std.specs.Prelude.{nat_lt, slice_get, unwrap_or, if◌then◌else◌}
use Rattle.std.specs.Option.{option_and_then, option_map_or}
use Rattle.std.proofs.Math.Bool.{and-true}
use Rattle.std.proofs.lemmas.Bool.Decides.{nat_tests}
use Rattle.tm_base.specs.declared.place.Place.{Place}
use Rattle.tm_base.specs.Arithmetic.{bit, greatest, is_nonzero, less}
use Rattle.tm_syntax.specs.declared.tree.Ident.{Ident}
use Rattle.tm_syntax.specs.declared.tree.Spec.{Spec}
use Rattle.tm_syntax.specs.declared.design.Ty.{Ty}
use Rattle.tm_syntax.specs.declared.design.Ty.TheVariants as types
use Rattle.tm_syntax.specs.Tree.{assign, path, star}
use Rattle.tm_syntax.specs.Tree.View.{spec_tree}
use Rattle.tm_syntax.specs.Scopes.Types.{own_type}
use Rattle.tm_syntax.specs.Design.{DesignTree}
use Rattle.tm_syntax.specs.Design.Cells.{Cell, cell, cell_type}
use Rattle.tm_syntax.specs.Design.Sizes.{type_bits, type_size}
use Rattle.tm_scope.specs.Cells.{CellTables, HasCells, ScopedCells, scope_of}
use Rattle.tm_term.specs.declared.term.TermId.{TermId}
use Rattle.tm_term.specs.Table.{Table, IsSound}
use Rattle.tm_term.specs.Value.{AreInputs, value_of, Extends}
use Rattle.tm_term.proofs.Valued.{Extends-trans}
use Rattle.tm_sem.specs.Run.{Ending, asked_by, blocked, finished, put_in}
use Rattle.tm_sem.specs.Value.{Memory}
use Rattle.tm_design.proofs.Contexts.{context_is}
use Rattle.tm_flat.specs.BitRun.{followed_by, number_at, puts_number}
use Rattle.tm_flat.specs.Positions.{target_bits}
use Rattle.tm_flat.specs.Steps.{IsTerm}
use Rattle.tm_flat.specs.Writes.{is_variable}
use Rattle.tm_flat_exprs.specs.Kept.{Keeps}
use Rattle.tm_flat_exprs.specs.Made.{Makes}
use Rattle.tm_design.specs.StepCells.{AreApart}
use Rattle.tm_flat_exprs.specs.Valued.{bits_in}
use Rattle.tm_flat_exprs.proofs.Later.{Extends-refl, below_later, term_along}
use Rattle.tm_flat_stmts.specs.Choices.{AreChoiceBits, choice_bit}
use Rattle.tm_flat_stmts.specs.Flows.{AreEnds, Continues, EndTerms, FlowTerms, IsFlow, Leads, Narrows, is_on}
use Rattle.tm_flat_stmts.specs.Statements.{AreSettledCells, LeadsThrough}
use Rattle.tm_flat_stmts.specs.Targets.{HasTargetAt, Puts}
use Rattle.tm_flat_stmts.specs.Elements.{HasCell}
use Rattle.tm_flat_stmts.proofs.Assigning.{own_of_name, target_has_type}
use Rattle.tm_flat_stmts.proofs.Flowing.{ends_along, flow_along}
use Rattle.tm_flat_stmts.proofs.Leading.{continues_from, continues_so, continues_then}
use Rattle.tm_flat_stmts.proofs.Leaving.{leaves_memory, leaves_stops, leaves_then, or_left}
use Rattle.tm_flat_stmts.proofs.Pieces.{goes_on_after, goes_on_where, is_narrowed}

-- ---- a flow that goes on at another position
leads_moved : (x : CellTables) (u : Table) (v : List ℕ) (number : Place → List Place → Option ℕ)
    (piece : Memory → Ending) (f : Option FlowTerms) (g : FlowTerms) (k : ℕ) (before after : EndTerms) →
    Leads x u v number piece f before (Some g) after →
    Leads x u v number piece f before (Some (record { guard = g.guard; memory = g.memory; position = k })) after
leads_moved x u v number piece f g k before after led = record {
  goes = led.goes;
  memory = led.memory;
  ends = led.ends;
  stays = led.stays;
  same = led.same;
}

pub continues_moved : (x : CellTables) (number : Place → List Place → Option ℕ) (piece : List ℕ → Memory → Ending)
    (to : Option ℕ) (t n : Table) (f : Option FlowTerms) (g : FlowTerms) (k : ℕ) (before after : EndTerms) →
    Continues x number piece to t n f before (Some g) after →
    Continues x number piece (Some k) t n f before
    (Some (record { guard = g.guard; memory = g.memory; position = k })) after
continues_moved x number piece to t n f g k before after one = record {
  grown = one.grown;
  sound = one.sound;
  flow = record { guard = one.flow.guard; memory = one.flow.memory };
  ends = one.ends;
  count = one.count;
  position = refl;
  leads = λ u more v inputs.
      leads_moved x u v number (piece v) f g k before after (one.leads u more v inputs);
}

-- ---- a number below a count
pub all_within : (t : Table) (f : FlowTerms) (id : TermId) (width count : ℕ) → IsSound t → IsTerm t 1 f.guard →
    IsTerm t width id → 2 ^ width ≤ count → Narrows t t f f (λ u v. nat_lt (value_of u v id) count)
all_within t f id width count sound guard known most = record {
  grown = Extends-refl t;
  sound = sound;
  guard = guard;
  memory = refl;
  position = refl;
  on = λ u more v inputs.
      let below : value_of u v id < 2 ^ width = below_later t u v width id sound known more inputs in
      sym (ap (λ b. is_on u v (Some f) && b) (is_below (value_of u v id) (2 ^ width) below most)
      ∙ and-true (is_on u v (Some f)));
}
  where
    is_below : (x most : ℕ) → x < most → most ≤ count → nat_lt x count ≡ true
    is_below x most below within = grind (arith, nat_tests)

pub most_of : (width count : ℕ) → greatest width < count → 2 ^ width ≤ count
most_of width count above = omega (arith, above, pow_pos width)

told : (b : Bool) → is_nonzero (bit b) ≡ b
told true = refl
told false = refl

pub some_within : (t m p n : Table) (f g : FlowTerms) (id end below : TermId) (width count : ℕ) →
    Makes t m width end (λ u v. count) → Makes m p 1 below (λ u v. less (value_of u v id) (value_of u v end)) →
    Narrows p n f g (λ u v. is_nonzero (value_of u v below)) →
    Narrows t n f g (λ u v. nat_lt (value_of u v id) count)
some_within t m p n f g id end below width count makes_end makes_below narrow =
    let late : Extends m n = Extends-trans m p n makes_below.grown narrow.grown in
    record {
      grown = Extends-trans t m n makes_end.grown late;
      sound = narrow.sound;
      guard = narrow.guard;
      memory = narrow.memory;
      position = narrow.position;
      on = λ u more v inputs.
          narrow.on u more v inputs
          ∙ ap (λ x. is_on u v (Some f) && is_nonzero x)
          (makes_below.value u (Extends-trans p n u narrow.grown more) v inputs
          ∙ ap (less (value_of u v id)) (makes_end.value u (Extends-trans m n u late more) v inputs))
          ∙ ap (λ b. is_on u v (Some f) && b) (told (nat_lt (value_of u v id) count));
    }

-- ---- a choice is assigned
pub one_type : (d : DesignTree) (o : Option Cell) (c : Cell) (ty : Ty) → o ≡ Some c → cell_type d c ≡ Some ty →
    asked_by d o ≡ ty
one_type d o c ty is typed =
    ap (λ (o : Option Cell). unwrap_or (option_and_then (cell_type d) o) types.Bool) is
    ∙ ap (λ o. unwrap_or o types.Bool) typed

put_where : (b : Bool) (m : Memory) (next : Memory → Memory) →
    followed_by (if b then finished m else blocked) (λ m. finished (next m))
    ≡ (if b then finished (next m) else blocked)
put_where true m next = refl
put_where false m next = refl

-- the bits in which a target's values are written are those of its type
pub bits_told : (s : ScopedCells) (ty : Ty) (names : List Ident) → HasTargetAt s ty names → (d : DesignTree) →
    HasCells s.tables d → target_bits d (scope_of s.at) names ≡ bits_in s ty
bits_told s ty names target d has =
    ap (λ o. type_bits d.spec (unwrap_or o types.Bool))
    (ap (option_and_then (λ c. own_type c (path names))) (context_is s target.context target.stands d has)
    ∙ own_of_name target.context names ty target.named)
    ∙ ap (λ spec. type_bits spec ty) has.text

-- the width and the count of a target's type, as the tables tell them
pub width_told : (s : ScopedCells) (spec : Spec) (ty asked : Ty) (width : ℕ) → spec ≡ s.tables.spec → asked ≡ ty →
    width ≡ type_bits (spec_tree spec) asked → width ≡ bits_in s ty
width_told s spec ty asked width text same is = is ∙ (λ i. type_bits (spec_tree (text i)) (same i))

pub count_told : (s : ScopedCells) (spec : Spec) (ty asked : Ty) (count : ℕ) → spec ≡ s.tables.spec → asked ≡ ty →
    count ≡ type_size (spec_tree spec) asked → count ≡ type_size (spec_tree s.tables.spec) ty
count_told s spec ty asked count text same is = is ∙ (λ i. type_size (spec_tree (text i)) (same i))

pub number_told : (t p : Table) (id : TermId) (first k start w width : ℕ) → start ≡ k → width ≡ w →
    Makes t p width id (λ u v. number_at (choice_bit first v) start width) →
    Makes t p w id (λ u v. number_at (choice_bit first v) k w)
number_told t p id first k start w width begins is made =
    subst (λ (n : ℕ). Makes t p n id (λ u v. number_at (choice_bit first v) k n)) is
    (subst (λ (j : ℕ). Makes t p width id (λ u v. number_at (choice_bit first v) j width)) begins made)

pub bits_here : (t n : Table) (first k start w width : ℕ) → Extends t n → start ≡ k → width ≡ w →
    AreChoiceBits t first k w → AreChoiceBits n first start width
bits_here t n first k start w width grown begins is bits =
    subst (λ (m : ℕ). AreChoiceBits n first start m) (sym is)
    (subst (λ (j : ℕ). AreChoiceBits n first j w) (sym begins) (record {
      small = bits.small;
      bits = λ i below. ap (λ xs. slice_get xs (first + k + i)) grown.inputs ∙ bits.bits i below;
    }))

-- a number is read from bits of choices, and something is done with it where it is below a count
module _ (x : CellTables) (first count width : ℕ) (t p q n : Table) (f g h : FlowTerms) (ends : EndTerms) (id : TermId)
    (flow : IsFlow x t f) (are : AreEnds x t ends)
    (number : Makes t p width id (λ u v. number_at (choice_bit first v) f.position width))
    (narrow : Narrows p q f g (λ u v. nat_lt (value_of u v id) count)) (grown : Extends q n) (sound : IsSound n)
    (after_flow : IsFlow x n h) (guard : h.guard ≡ g.guard) (position : h.position ≡ g.position)
    (next : List ℕ → Memory → Memory)
    (puts : (u : Table) → Extends n u → (v : List ℕ) → AreInputs u v → (m : Memory) → is_on u v (Some g) ≡ true →
    Keeps x u v g.memory m → Keeps x u v h.memory (next v m)) where
  goes_first : (numbers : Place → List Place → Option ℕ) →
      Continues x numbers (λ v m. if nat_lt (number_at (choice_bit first v) f.position width) count then finished m
      else blocked) (Some f.position) p q
      (Some f) ends (Some g) ends
  goes_first numbers =
      goes_on_where x numbers (λ v m. nat_lt (number_at (choice_bit first v) f.position width) count) p q f g ends
      (λ u v. nat_lt (value_of u v id) count) narrow
      (λ u more v inputs m on keeps.
      ap (λ k. nat_lt k count) (number.value u (Extends-trans p q u narrow.grown more) v inputs))
      (flow_along x t p f number.grown flow) (ends_along x t p ends number.grown are)

  goes_then : (numbers : Place → List Place → Option ℕ) →
      Continues x numbers (λ v m. finished (next v m)) (Some g.position) q n (Some g) ends (Some h) ends
  goes_then numbers =
      continues_from x numbers (λ v m. finished (next v m)) (Some g.position) q n n (Some g) (Some h) ends ends grown
      (goes_on_after x numbers next n g h ends sound after_flow
      (ends_along x t n ends
      (Extends-trans t p n number.grown (Extends-trans p q n narrow.grown grown)) are) guard position puts)

  pub choice_led : (numbers : Place → List Place → Option ℕ) →
      Continues x numbers (λ v m. if nat_lt (number_at (choice_bit first v) f.position width) count
      then finished (next v m) else blocked)
      (Some (f.position + width)) t n (Some f) ends
      (Some (record { guard = h.guard; memory = h.memory; position = f.position + width })) ends
  choice_led numbers =
      continues_from x numbers (λ v m. if nat_lt (number_at (choice_bit first v) f.position width) count
      then finished (next v m) else blocked)
      (Some (f.position + width)) t p n (Some f)
      (Some (record { guard = h.guard; memory = h.memory; position = f.position + width })) ends ends number.grown
      (continues_moved x numbers (λ v m. if nat_lt (number_at (choice_bit first v) f.position width) count
      then finished (next v m) else blocked)
      (Some g.position) p n (Some f) h (f.position + width) ends ends
      (continues_so x numbers
      (λ v m. followed_by (if nat_lt (number_at (choice_bit first v) f.position width) count then finished m
      else blocked) (λ m. finished (next v m)))
      (λ v m. if nat_lt (number_at (choice_bit first v) f.position width) count then finished (next v m) else blocked)
      (Some g.position)
      (Some g.position) p n (Some f) (Some h) ends ends
      (λ v m. put_where (nat_lt (number_at (choice_bit first v) f.position width) count) m (next v)) refl
      (continues_then x numbers (λ v m. if nat_lt (number_at (choice_bit first v) f.position width) count
      then finished m else blocked)
      (λ v m. finished (next v m)) (Some f.position) (Some g.position) p q n (Some f) (Some g) (Some h) ends ends ends
      (goes_first numbers) (goes_then numbers))))

module _ (s : ScopedCells) (names : List Ident) (ty : Ty) (first count : ℕ) (t p q : Table) (f g h : FlowTerms)
    (ends : EndTerms) (id : TermId) (settled : AreSettledCells s) (apart : AreApart s.tables)
    (target : HasTargetAt s ty names) (there : HasCell s names None) (flow : IsFlow s.tables t f)
    (are : AreEnds s.tables t ends)
    (number : Makes t p (bits_in s ty) id (λ u v. number_at (choice_bit first v) f.position (bits_in s ty)))
    (counted : count ≡ type_size (spec_tree s.tables.spec) ty)
    (narrow : Narrows p q f g (λ u v. nat_lt (value_of u v id) count)) (puts : Puts s names None id g h) where
  flow_later : IsFlow s.tables q g
  flow_later =
      is_narrowed s.tables p q f g (λ u v. nat_lt (value_of u v id) count) narrow
      (flow_along s.tables t p f number.grown flow)

  flow_after : IsFlow s.tables q h
  flow_after = record {
    guard = subst (IsTerm q 1) (sym puts.guard) flow_later.guard;
    memory = puts.memory q ty flow_later.memory (target_has_type s ty names settled target)
        (term_along p q (bits_in s ty) id narrow.grown number.term);
  }

  module _ (d : DesignTree) (has : HasCells s.tables d) where
    asked : asked_by d (cell d (scope_of s.at) names None) ≡ ty
    asked =
        one_type d (cell d (scope_of s.at) names None) (there d has).0 ty (there d has).1
        (target_has_type s ty names settled target d has (there d has).0 (there d has).1)

    size : type_size d.spec (asked_by d (cell d (scope_of s.at) names None)) ≡ count
    size = (λ i. type_size (has.text i) (asked i)) ∙ sym counted

    chosen_here : (numbers : Place → List Place → Option ℕ) →
        Continues s.tables numbers
        (λ v m. if nat_lt (number_at (choice_bit first v) f.position (bits_in s ty)) count
        then finished (put_in m (cell d (scope_of s.at) names None)
        (number_at (choice_bit first v) f.position (bits_in s ty)))
        else blocked) (Some (f.position + bits_in s ty)) t q (Some f) ends
        (Some (record { guard = h.guard; memory = h.memory; position = f.position + bits_in s ty })) ends
    chosen_here =
        choice_led s.tables first count (bits_in s ty) t p q q f g h ends id flow are number narrow (Extends-refl q)
        narrow.sound flow_after puts.guard puts.position
        (λ v m. put_in m (cell d (scope_of s.at) names None) (number_at (choice_bit first v) f.position (bits_in s ty)))
        (λ u more v inputs m on keeps.
        subst (λ n. Keeps s.tables u v h.memory (put_in m (cell d (scope_of s.at) names None) n))
        (number.value u (Extends-trans p q u narrow.grown more) v inputs)
        (puts.keeps apart u v d has m keeps))

  pub chosen_so : (at : Place) →
      LeadsThrough s first (assign names None (star at)) t q f ends
      (Some (record { guard = h.guard; memory = h.memory; position = f.position + bits_in s ty })) ends
  chosen_so at r has here trail numbers = record {
    goes =
        let d = r.design in
        let o : Option Cell = cell d (scope_of s.at) names None in
        continues_so s.tables numbers
        (λ v m. if nat_lt (number_at (choice_bit first v) f.position (bits_in s ty)) count
        then finished (put_in m o (number_at (choice_bit first v) f.position (bits_in s ty))) else blocked)
        (λ v m. puts_number d m o
        (number_at (choice_bit r.first v) f.position (target_bits d (scope_of s.at) names)))
        (Some (f.position + bits_in s ty)) (Some (f.position + target_bits d (scope_of s.at) names)) t q (Some f)
        (Some (record { guard = h.guard; memory = h.memory; position = f.position + bits_in s ty })) ends ends
        (λ v m i.
        if nat_lt (number_at (choice_bit (sym here i) v) f.position (sym (bits_told s ty names target d has) i))
        (sym (size d has) i)
        then finished (put_in m o (number_at (choice_bit (sym here i) v) f.position
        (sym (bits_told s ty names target d has) i)))
        else blocked)
        (λ i. Some (f.position + sym (bits_told s ty names target d has) i)) (chosen_here d has numbers);
    leaves = λ i none.
        leaves_then i (Some f) (Some g) (Some (record {
          guard = h.guard;
          memory = h.memory;
          position = f.position + bits_in s ty;
        }))
        ends ends ends (leaves_memory i f g ends ends narrow.memory refl)
        (leaves_stops i g (Some (record { guard = h.guard; memory = h.memory; position = f.position + bits_in s ty }))
        ends ends
        (λ had is. puts.leaves r.design has i had
        (or_left (option_map_or (is_variable i) (cell r.design (scope_of s.at) names None) false) false none) is) refl);
  }

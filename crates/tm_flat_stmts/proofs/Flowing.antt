-- Flows that are made of others: narrowed, and joined.
use Rattle.std.proofs.Common.{◌≡◌, ℕ, ◌==◌, Bool, true, false, Option, None, Some, ◌&&◌, ◌||◌, refl, sym, ap, ◌∙◌, subst, true≢false}
use Rattle.std.specs.Prelude.{IfSome, max, not, if◌then◌else◌}
use Rattle.std.proofs.Math.Bool.{and-true}
use Rattle.tm_base.specs.Arithmetic.{bit, is_nonzero}
use Rattle.tm_scope.specs.Cells.{CellTables}
use Rattle.tm_term.specs.declared.term.Term.TheVariants.{And, Or}
use Rattle.tm_term.specs.declared.term.TermId.{TermId}
use Rattle.tm_term.specs.Table.{Table, IsSound, term_width}
use Rattle.tm_term.specs.Value.{term_value, value_of, Extends}
use Rattle.tm_term.proofs.Valued.{Extends-trans}
use Rattle.tm_flat.specs.Steps.{IsTerm}
use Rattle.tm_flat_exprs.specs.Kept.{KeptTerms, Keeps}
use Rattle.tm_flat_exprs.specs.Made.{Makes, MakesTruth, truth_at}
use Rattle.tm_flat_exprs.specs.Merged.{AreAlike, IsMemory, Merges}
use Rattle.tm_flat_exprs.proofs.Along.{kept_along}
use Rattle.tm_flat_exprs.proofs.Later.{Extends-refl, makes_both, makes_either, term_along, truth_along}
use Rattle.tm_flat_exprs.proofs.Merging.{memories_alike}
use Rattle.tm_flat_stmts.specs.Flows.{FlowTerms, EndTerms, IsFlow, AreEnds, MakesJoin, MakesJoinIfThere, Narrows, is_on, stop_of}
use Rattle.tm_flat_stmts.proofs.Leading.{or_false}

pub memory_along : (x : CellTables) (t n : Table) (k : KeptTerms) → Extends t n → IsMemory x t k → IsMemory x n k
memory_along x t n k grown memory = record {
  count = memory.count;
  slots = memory.slots;
  kept = kept_along x t n k grown memory.kept;
}

pub flow_along : (x : CellTables) (t n : Table) (f : FlowTerms) → Extends t n → IsFlow x t f → IsFlow x n f
flow_along x t n f grown flow = record {
  guard = term_along t n 1 f.guard grown flow.guard;
  memory = memory_along x t n f.memory grown flow.memory;
}

pub flow_along_if_there : (x : CellTables) (t n : Table) (f : Option FlowTerms) → Extends t n → IfSome f (IsFlow x t) →
    IfSome f (IsFlow x n)
flow_along_if_there x t n None grown flow = tt
flow_along_if_there x t n (Some f) grown flow = flow_along x t n f grown flow

pub ends_along : (x : CellTables) (t n : Table) (ends : EndTerms) → Extends t n → AreEnds x t ends → AreEnds x n ends
ends_along x t n ends grown are = record {
  stops = λ k. flow_along_if_there x t n (stop_of ends k) grown (are.stops k);
  failed = truth_along t n ends.failed grown are.failed;
}

-- ---- narrowed
pub narrowed_flow : (t n : Table) (f : FlowTerms) (test id : TermId) → IsTerm t 1 f.guard → IsTerm t 1 test →
    Makes t n (term_width t (And f.guard test)) id (λ u v. term_value u v (And f.guard test)) →
    Narrows t n f (record { guard = id; memory = f.memory; position = f.position })
    (λ u v. is_nonzero (value_of u v test))
narrowed_flow t n f test id guard term made =
    let both = makes_both t n f.guard test id guard term made in
    record {
      grown = both.grown;
      sound = both.sound;
      guard = both.term;
      memory = refl;
      position = refl;
      on = both.truth;
    }

pub never_narrowed : (t : Table) (f : FlowTerms) → IsSound t → IsTerm t 1 f.guard →
    Narrows t t f f (λ u v. not (truth_at u v None))
never_narrowed t f sound guard = record {
  grown = Extends-refl t;
  sound = sound;
  guard = guard;
  memory = refl;
  position = refl;
  on = λ u more v are. sym (and-true (is_on u v (Some f)));
}

pub denied_bit : (b : Bool) → is_nonzero (bit b) ≡ not (not b)
denied_bit true = refl
denied_bit false = refl

pub narrowed_off : (t m n : Table) (f g : FlowTerms) (test fails : TermId) →
    Makes t m 1 fails (λ u v. bit (value_of u v test == 0)) →
    Narrows m n f g (λ u v. is_nonzero (value_of u v fails)) →
    Narrows t n f g (λ u v. not (truth_at u v (Some test)))
narrowed_off t m n f g test fails denial narrow = record {
  grown = Extends-trans t m n denial.grown narrow.grown;
  sound = narrow.sound;
  guard = narrow.guard;
  memory = narrow.memory;
  position = narrow.position;
  on = λ u more v are.
      narrow.on u more v are
      ∙ ap (λ x. is_on u v (Some f) && is_nonzero x) (denial.value u (Extends-trans m n u narrow.grown more) v are)
      ∙ ap (λ b. is_on u v (Some f) && b) (denied_bit (value_of u v test == 0));
}

-- ---- joined
zero_where_off : (b : Bool) → not b ≡ true → b ≡ false
zero_where_off true e = absurd (true≢false (sym e))
zero_where_off false e = refl

zero_where_on : (b : Bool) → not b ≡ false → b ≡ true
zero_where_on true e = refl
zero_where_on false e = absurd (true≢false e)

module _ (t m n : Table) (f g : FlowTerms) (id : TermId) (k : KeptTerms) (x : CellTables) (first : IsFlow x t f)
    (second : IsFlow x t g)
    (made : Makes t m (term_width t (Or f.guard g.guard)) id (λ u v. term_value u v (Or f.guard g.guard))) where
  either : MakesTruth t m (Some id) (λ u v. truth_at u v (Some f.guard) || truth_at u v (Some g.guard))
  either = makes_either t m f.guard g.guard id first.guard second.guard made

  pub guard_later : IsTerm m 1 f.guard
  guard_later = term_along t m 1 f.guard made.grown first.guard

  pub alike_later : AreAlike m f.memory g.memory
  alike_later =
      memories_alike x m f.memory g.memory (memory_along x t m f.memory made.grown first.memory)
      (memory_along x t m g.memory made.grown second.memory)

  pub joined_flow : (position : ℕ) → position ≡ max f.position g.position →
      Merges m n f.guard f.memory g.memory k →
      MakesJoin t n f g (record { guard = id; memory = k; position = position })
  joined_flow position is merged = record {
    grown = Extends-trans t m n made.grown merged.grown;
    sound = merged.sound;
    flow = λ y one two. record {
      guard = term_along m n 1 id merged.grown either.term;
      memory = merged.memory y (memory_along y t m f.memory made.grown one.memory)
          (memory_along y t m g.memory made.grown two.memory);
    };
    position = is;
    same = λ i had one two. merged.same i had one two;
    joins = λ y u more v are. record {
      on = either.truth u (Extends-trans m n u merged.grown more) v are;
      first = λ memory on keeps.
          merged.keeps y u v memory more are
          (subst (λ b. Keeps y u v (if b then g.memory else f.memory) memory)
          (sym (zero_where_off (value_of u v f.guard == 0) on)) keeps);
      second = λ memory off on keeps.
          merged.keeps y u v memory more are
          (subst (λ b. Keeps y u v (if b then g.memory else f.memory) memory)
          (sym (zero_where_on (value_of u v f.guard == 0) off)) keeps);
    };
  }

-- of two flows of which one is there it is that
pub second_flow : (t : Table) (g : Option FlowTerms) → IsSound t → MakesJoinIfThere t t None g g
second_flow t g sound = record {
  grown = Extends-refl t;
  sound = sound;
  flow = λ x one two. two;
  position = refl;
  same = λ i id one two. two;
  joins = λ x u more v are. record {
    on = refl;
    first = λ m on keeps. absurd (true≢false (sym on));
    second = λ m off on keeps. keeps;
  };
}

pub first_flow : (t : Table) (f : FlowTerms) → IsSound t → MakesJoinIfThere t t (Some f) None (Some f)
first_flow t f sound = record {
  grown = Extends-refl t;
  sound = sound;
  flow = λ x one two. one;
  position = refl;
  same = λ i id one two. one;
  joins = λ x u more v are. record {
    on = sym (or_false (is_on u v (Some f)));
    first = λ m on keeps. keeps;
    second = λ m off on keeps. absurd (true≢false (sym on));
  };
}

pub both_flows : (t n : Table) (f g h : FlowTerms) → MakesJoin t n f g h →
    MakesJoinIfThere t n (Some f) (Some g) (Some h)
both_flows t n f g h join = record {
  grown = join.grown;
  sound = join.sound;
  flow = join.flow;
  position = ap (λ k. Some k) join.position;
  same = join.same;
  joins = join.joins;
}

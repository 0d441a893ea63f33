-- The terms of conditions hold at valid states where the conditions do.
use Rattle.std.proofs.Common.{◌≡◌, ℕ, zero, suc, ◌<◌, Bool, true, false, Option, Some, List, length, replicate, take, slice_get, slice_index, refl, sym, ap, ◌∙◌, arith}
use Rattle.std.specs.Option.{option_map_or}
use Rattle.tm_base.specs.Arithmetic.{bit}
use Rattle.tm_syntax.specs.declared.design.Item.{Item}
use Rattle.tm_syntax.specs.Scopes.Context.{outside}
use Rattle.tm_syntax.specs.Tree.{ExprTree}
use Rattle.tm_syntax.specs.Design.{DesignTree}
use Rattle.tm_term.specs.declared.term.TermId.{TermId}
use Rattle.tm_term.specs.Table.{Table}
use Rattle.tm_sem.specs.Fairness.{fair_expr, fair_holds, of_text}
use Rattle.tm_sem.specs.Play.{goal_expr}
use Rattle.tm_sem.specs.State.{StateData}
use Rattle.tm_sem.specs.Step.{IsState, memory_of}
use Rattle.tm_sem.specs.Value.{holds_in, plain_memory}
use Rattle.tm_flat.specs.Inputs.{AreBits, AreSmall, input_values, input_widths, room}
use Rattle.tm_flat.specs.IsFlat.{IsGoalTerm}
use Rattle.tm_flat.proofs.InOrder.{are_in_order}
use Rattle.tm_flat.proofs.Ranges.{are_inputs}
use Rattle.tm_flat_states.specs.Actors.{IsConditionTerm}
use Rattle.tm_flat_states.specs.Conditions.{IsStated, stated}
use Rattle.tm_flat_states.proofs.Lists.{replicate_long}

-- some bits of choices
zero_index : (n k : ℕ) → slice_index (replicate n 0) k < 2
zero_index zero k = omega arith
zero_index (suc n) zero = omega arith
zero_index (suc n) (suc k) = zero_index n k

pub some_bits : AreBits (replicate room 0)
some_bits = record { count = replicate_long {X = ℕ} room 0; each = zero_index room }

pub bit_so : (b : Bool) → bit b ≡ 1 → b ≡ true
bit_so true is = refl
bit_so false is = absurd (omega (arith, is))

pub so_bit : (b : Bool) → b ≡ true → bit b ≡ 1
so_bit b is = ap bit is

module _ (d : DesignTree) (s : StateData) (choices arguments : List ℕ) (valid : IsState d s) (bits : AreBits choices)
  where
    -- the inputs of a state tell its values
    values_told : take (length d.vars) (input_values s choices arguments) ≡ s.values
    values_told = ap (λ (r : StateData). r.values) (are_in_order d s choices arguments valid bits).state

    pub stated_at : (n : ℕ) (e : Option ExprTree) →
        stated d n e (input_values s choices arguments)
        ≡ option_map_or (holds_in d (record { instance = n; body = outside }) (memory_of s)) e true
    stated_at n e =
        ap (λ (vs : List ℕ). option_map_or (holds_in d (record { instance = n; body = outside }) (plain_memory vs)) e
        true) values_told

module _ (u : Table) (d : DesignTree) (small : AreSmall d) (inputs : u.inputs ≡ input_widths d) where
  -- a term of a goal
  pub goal_told : (k : ℕ) (item : Item) (id : TermId) → slice_get d.goals k ≡ Some item →
      IsStated d (goal_expr d) u item id → IsGoalTerm u d k id
  goal_told k item id here is = record {
    term = is.term;
    holds = λ s choices arguments valid bits those.
        is.value (input_values s choices arguments)
        (are_inputs d small u s choices arguments inputs valid bits those)
        ∙ ap bit (stated_at d s choices arguments valid bits item.instance (goal_expr d item)
        ∙ sym (ap (λ o. option_map_or
        (λ (item : Item). option_map_or (holds_in d (record { instance = item.instance; body = outside }) (memory_of s))
        (goal_expr d item) true) o true) here));
  }

  -- a term of a declared fairness condition
  pub fair_told : (item : Item) (id : TermId) → IsStated d (fair_expr d) u item id →
      IsConditionTerm u d (of_text item) id
  fair_told item id is = record {
    term = is.term;
    holds = λ s arguments valid those.
        let value = λ (choices : List ℕ) (bits : AreBits choices).
        is.value (input_values s choices arguments)
        (are_inputs d small u s choices arguments inputs valid bits those)
        ∙ ap bit (stated_at d s choices arguments valid bits item.instance (fair_expr d item)) in (
          λ met. λ choices bits. value choices bits ∙ so_bit (fair_holds d s item) met,
          λ all.
              bit_so (fair_holds d s item)
              (sym (value (replicate room 0) some_bits) ∙ all (replicate room 0) some_bits),
        );
  }

-- Whether an actor moved last, or has nothing to do, as a term.
use Rattle.std.proofs.Common.{◌≡◌, ℕ, ◌+◌, ◌^◌, ◌<◌, ◌==◌, Bool, true, false, Option, List, length, slice_index, refl, sym, ap, ◌∙◌, subst, arith}
use Rattle.std.specs.Prelude.{◌||◌, not, bit_or}
use Rattle.tm_base.specs.Arithmetic.{bit, is_nonzero}
use Rattle.tm_syntax.specs.Design.{DesignTree}
use Rattle.tm_syntax.specs.Design.Sizes.{bits_of_number}
use Rattle.tm_term.specs.declared.term.Term.TheVariants.{Or}
use Rattle.tm_term.specs.declared.term.TermId.{TermId}
use Rattle.tm_term.specs.Table.{AreAlike, Table, count_of, term_width, width_of}
use Rattle.tm_term.specs.Value.{term_value, value_of, Extends}
use Rattle.tm_term.proofs.Valued.{Extends-trans}
use Rattle.tm_flat.specs.Inputs.{AreSmall}
use Rattle.tm_flat.specs.Steps.{IsTerm}
use Rattle.tm_flat.proofs.Widths.{number_has_bits}
use Rattle.tm_flat_exprs.specs.Made.{Makes, truth_at, value_at}
use Rattle.tm_flat_exprs.proofs.Later.{term_along}

-- who moved last is a number of its input
pub last_fits : (d : DesignTree) → AreSmall d → (t l : Table) (last : TermId) (g : Table → List ℕ → ℕ) (number : ℕ) →
    Makes t l (bits_of_number (1 + length d.processes)) last g → number < 2 + length d.processes →
    number < 2 ^ width_of l last
last_fits d small t l last g number made below =
    let enough : 1 + length d.processes < 2 ^ bits_of_number (1 + length d.processes) =
    number_has_bits (1 + length d.processes) small.processes in
    subst (λ w. number < 2 ^ w) (sym made.term.1) (omega (arith, below, enough))

bits_or : (a b : Bool) → bit_or (bit a) (bit b) ≡ bit (a || b)
bits_or true true = refl
bits_or true false = refl
bits_or false true = refl
bits_or false false = refl

is_zero : (x : ℕ) → (x == 0) ≡ not (is_nonzero x)
is_zero x = by (x == 0)
  where
    by : (b : Bool) → b ≡ not (not b)
    by true = refl
    by false = refl

module _ (t l m o p n : Table) (last moved may idle id : TermId) (w i number : ℕ) (busy : Option TermId)
    (first : Makes t l w last (λ u v. slice_index v i))
    (second : Makes l m 1 moved (λ u v. bit (value_of u v last == number)))
    (third : Makes m o 1 may (λ u v. value_at u v busy))
    (fourth : Makes o p 1 idle (λ u v. bit (value_of u v may == 0))) where
  moved_later : IsTerm p 1 moved
  moved_later = term_along m p 1 moved (Extends-trans m o p third.grown fourth.grown) second.term

  pub idle_alike : AreAlike p (count_of p) moved idle
  idle_alike = (moved_later.0, fourth.term.0, moved_later.1 ∙ sym fourth.term.1)

  pub moved_made : Makes p n (term_width p (Or moved idle)) id (λ u v. term_value u v (Or moved idle)) →
      Makes t n 1 id (λ u v. bit ((slice_index v i == number) || not (truth_at u v busy)))
  moved_made made =
      let from_o : Extends o n = Extends-trans o p n fourth.grown made.grown in
      let from_m : Extends m n = Extends-trans m o n third.grown from_o in
      let from_l : Extends l n = Extends-trans l m n second.grown from_m in
      record {
        grown = Extends-trans t l n first.grown from_l;
        sound = made.sound;
        term = (made.term.0, made.term.1 ∙ moved_later.1);
        value = λ u more v are.
            let one : value_of u v moved ≡ bit (slice_index v i == number) =
            second.value u (Extends-trans m n u from_m more) v are
            ∙ ap (λ x. bit (x == number)) (first.value u (Extends-trans l n u from_l more) v are) in
            let other : value_of u v idle ≡ bit (not (truth_at u v busy)) =
            fourth.value u (Extends-trans p n u made.grown more) v are
            ∙ ap (λ x. bit (x == 0)) (third.value u (Extends-trans o n u from_o more) v are)
            ∙ ap bit (is_zero (value_at u v busy)) in
            made.value u more v are
            ∙ (λ j. bit_or (one j) (other j))
            ∙ bits_or (slice_index v i == number) (not (truth_at u v busy));
      }

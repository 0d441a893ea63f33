-- Whether an index is past the end of its array, and how many constants an enum has.
use Rattle.std.proofs.Common.{◌≡◌, ℕ, ◌^◌, ◌<◌, ◌≤◌, ◌==◌, Bool, true, false, None, Some}
use Rattle.std.proofs.Common.{length, refl, sym, ap, ◌∙◌, arith, nat_lt}
use Rattle.std.specs.Prelude.{not, nat_le}
use Rattle.std.proofs.lemmas.Bool.Decides.{nat_tests}
use Rattle.std.proofs.lemmas.Nat.{pow_pos}
use Rattle.tm_base.specs.Arithmetic.{bit, greatest, is_nonzero, less}
use Rattle.tm_term.specs.declared.term.TermId.{TermId}
use Rattle.tm_term.specs.Table.{Table, IsKnown, IsSound, width_of}
use Rattle.tm_term.specs.Value.{value_of, Extends}
use Rattle.tm_term.proofs.Valued.{Extends-trans}
use Rattle.tm_flat_exprs.specs.Made.{Makes, MakesTruth}
use Rattle.tm_flat_exprs.proofs.Later.{Extends-refl, below_later, bit_is_zero}

not_reached : (x most length : ℕ) → x < most → most ≤ length → nat_le length x ≡ false
not_reached x most length below within = grind (arith, nat_tests)

at_most : (width length : ℕ) → greatest width < length → 2 ^ width ≤ length
at_most width length past = omega (arith, pow_pos width)

pub never_past : (t : Table) (index : TermId) (width length : ℕ) → IsKnown t index → IsSound t →
    width ≡ width_of t index → greatest width < length →
    MakesTruth t t None (λ u v. nat_le length (value_of u v index))
never_past t index width length known sound is past = record {
  grown = Extends-refl t;
  sound = sound;
  term = tt;
  truth = λ u more v are.
      sym (not_reached (value_of u v index) (2 ^ width) length
      (below_later t u v width index sound (known, sym is) more are) (at_most width length past));
}

not_below : (a b : ℕ) → nat_le a b ≡ not (nat_lt b a)
not_below a b = grind (arith, nat_tests)

truth_of_bit : (b : Bool) → is_nonzero (bit b) ≡ b
truth_of_bit true = refl
truth_of_bit false = refl

pub past_made : (t m n p : Table) (index end within past : TermId) (width length : ℕ) →
    Makes t m width end (λ u v. length) →
    Makes m n 1 within (λ u v. less (value_of u v index) (value_of u v end)) →
    Makes n p 1 past (λ u v. bit (value_of u v within == 0)) →
    MakesTruth t p (Some past) (λ u v. nat_le length (value_of u v index))
past_made t m n p index end within past width length makes_end makes_within makes_past =
    let last : Extends m p = Extends-trans m n p makes_within.grown makes_past.grown in
    record {
      grown = Extends-trans t m p makes_end.grown last;
      sound = makes_past.sound;
      term = makes_past.term;
      truth = λ u more v are.
          let end_is : value_of u v end ≡ length = makes_end.value u (Extends-trans m p u last more) v are in
          let within_is : value_of u v within ≡ less (value_of u v index) length =
          makes_within.value u (Extends-trans n p u makes_past.grown more) v are
          ∙ ap (less (value_of u v index)) end_is in
          ap is_nonzero (makes_past.value u more v are
          ∙ ap (λ x. bit (x == 0)) within_is
          ∙ ap bit (bit_is_zero (nat_lt (value_of u v index) length)))
          ∙ truth_of_bit (not (nat_lt (value_of u v index) length))
          ∙ sym (not_below length (value_of u v index));
    }

-- The numbers of the state behind a step, as they are made.
use Rattle.std.proofs.Common.{◌≡◌, ℕ, ◌+◌, ◌<◌, ◌≤◌, ◌^◌, Option, Some, List, [], ◌∷◌, ◌++◌, length, slice_get, slice_index, refl, sym, ap, ◌∙◌, subst, arith}
use Rattle.std.proofs.lemmas.Option.{slice_get_within}
use Rattle.tm_base.specs.Arithmetic.{IsWidth}
use Rattle.tm_syntax.specs.Design.{DesignTree}
use Rattle.tm_syntax.specs.Design.Sizes.{bits_of_number}
use Rattle.tm_term.specs.declared.term.TermId.{TermId}
use Rattle.tm_term.specs.Table.{Table, IsSound}
use Rattle.tm_term.proofs.Valued.{Extends-trans}
use Rattle.tm_flat.specs.Inputs.{AreSmall, first_choice, input_widths, room}
use Rattle.tm_flat.proofs.Widths.{number_has_bits}
use Rattle.tm_flat_exprs.specs.Made.{Makes}
use Rattle.tm_flat_moves.specs.Begun.{AreInputTerms}
use Rattle.tm_flat_moves.specs.Next.{MakesNext, moved}
use Rattle.tm_flat_moves.proofs.InputTerms.{input_along}
use Rattle.tm_flat_moves.proofs.InputWidths.{inputs_many, last_width}
use Rattle.tm_flat_moves.proofs.Lists.{index_is}

pub next_made : (t m n : Table) (d : DesignTree) (values : List TermId) (mover : Option ℕ) (place : TermId) (last : ℕ)
    (next ids : List TermId) (number : TermId) (width : ℕ) →
    AreInputTerms t m (length d.vars) (length d.processes) ids → Makes m n width number (λ u v. last) →
    width ≡ bits_of_number (1 + length d.processes) → next ≡ values ++ moved ids mover place ++ number ∷ [] →
    MakesNext t n d values mover place last next
next_made t m n d values mover place last next ids number width are made is laid = record {
  grown = Extends-trans t m n are.grown made.grown;
  sound = made.sound;
  places = ids;
  count = are.as_many;
  each = λ p id here. input_along m n (length d.vars + p) id made.grown (are.each p id here);
  number = number;
  term = (made.term.0, made.term.1 ∙ is);
  value = made.value;
  is = laid;
}

module _ (d : DesignTree) (t : Table) (inputs : t.inputs ≡ input_widths d) where
  -- the input that tells who moved last, and its width
  pub last_within : length d.vars + length d.processes < length t.inputs
  last_within = let all = inputs_many d in let same = ap length inputs in omega (arith, all, same)

  pub last_is : slice_index t.inputs (length d.vars + length d.processes) ≡ bits_of_number (1 + length d.processes)
  last_is =
      ap (λ ws. slice_index ws (length d.vars + length d.processes)) inputs
      ∙ index_is (input_widths d) (length d.vars + length d.processes) (bits_of_number (1 + length d.processes))
      (last_width d)

  pub last_small : AreSmall d → (last : ℕ) → last < 2 + length d.processes →
      last < 2 ^ bits_of_number (1 + length d.processes)
  last_small small last below =
      let enough = number_has_bits (1 + length d.processes) small.processes in omega (arith, enough, below)

  -- each input has a width
  pub width_there : IsSound t → (i : ℕ) → i < length t.inputs → IsWidth (slice_index t.inputs i)
  width_there sound i below = sound.inputs i below

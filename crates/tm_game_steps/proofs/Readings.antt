-- How high the levels stand on which the values of terms depend.
use Rattle.std.proofs.Common.{◌≡◌, ℕ, ◌+◌, ◌<◌, ◌≤◌, List, [], ◌∷◌, ◌++◌, length, get_or, map, inl, inr, refl, sym, ap, ◌∙◌, subst, arith, length-append}
use Rattle.std.specs.Prelude.{All, slice_index}
use Rattle.std.specs.List.{range_with_len}
use Rattle.std.proofs.lemmas.Bool.{cases_lt}
use Rattle.std.proofs.lemmas.List.{get_or-map, get_or_append_left}
use Rattle.std.proofs.lemmas.List.Elements.{All-head, All-tail}
use Rattle.tm_base.specs.Bits.{number_of}
use Rattle.tm_blast.specs.Bits.{input_values}
use Rattle.tm_flat.specs.Flat.{StepTerms}
use Rattle.tm_flat.specs.Inputs.{room}
use Rattle.tm_game_bits.specs.Choices.{ListsChoices, ReadsListed}
use Rattle.tm_game_bits.specs.Functions.{Assignment}
use Rattle.tm_game_bits.proofs.Bits.{range_has, range_within}
use Rattle.tm_game_steps.specs.Inner.Reading.{AreChoicesBelow, AreReadings, AreReadingsBelow, ReadsBelow}
use Rattle.tm_game_steps.specs.Setting.{Setting, choices_of, values_at}
use Rattle.tm_game_steps.specs.Telling.{AreStepTerms}
use Rattle.tm_game_steps.proofs.Pushing.{last_of}
use Rattle.tm_term.specs.declared.term.Term.{Term}
use Rattle.tm_term.specs.declared.term.Term.TheVariants.{Input}
use Rattle.tm_term.specs.declared.term.TermId.{TermId}
use Rattle.tm_term.specs.Table.{Table, IsKnown}
use Rattle.tm_term.specs.Value.{term_value, value_of}
use Rattle.tm_term.proofs.Growth.{TermId-ext}

-- an input reads its levels
pub input_below : (t : Table) (levels : List (List ℕ)) (id : TermId) (term : Term) →
    ((values : List ℕ) → value_of t values id ≡ term_value t values term) → (input above : ℕ) →
    term ≡ Input input → input < length levels → All (λ level. level < above) (get_or levels input []) →
    ReadsBelow t levels id above
input_below t levels id term is input above at within low v w agree =
    is (input_values levels v) ∙ ap (term_value t (input_values levels v)) at
    ∙ number v ∙ ap number_of (bits_same (get_or levels input []) low) ∙ sym (number w)
    ∙ sym (is (input_values levels w) ∙ ap (term_value t (input_values levels w)) at)
  where
    number : (u : Assignment) → slice_index (input_values levels u) input ≡ number_of (map u (get_or levels input []))
    number u = get_or-map (λ (bits : List ℕ). number_of (map u bits)) levels input [] 0 within

    bits_same : (ls : List ℕ) → All (λ level. level < above) ls → map v ls ≡ map w ls
    bits_same [] all = refl
    bits_same (l ∷ ls) all =
        λ i. agree l (All-head (λ level. level < above) l ls all) i
        ∷ bits_same ls (All-tail (λ level. level < above) l ls all) i

-- one more term
pub readings_more : (t : Table) (levels : List (List ℕ)) (count above : ℕ) (reads new : List ℕ) →
    AreReadingsBelow t levels count reads → ReadsBelow t levels (record { 0 = count }) above →
    new ≡ reads ++ above ∷ [] → AreReadingsBelow t levels (count + 1) new
readings_more t levels count above reads new are last pushed =
    subst (AreReadingsBelow t levels (count + 1)) (sym pushed) (record {
      long = omega (arith, length-append reads (above ∷ []), are.long);
      each = each;
    })
  where
    each : (id : TermId) → id.0 < count + 1 → ReadsBelow t levels id (slice_index (reads ++ above ∷ []) id.0)
    each id below =
        elim (cases_lt id.0 count) as (λ _. ReadsBelow t levels id (slice_index (reads ++ above ∷ []) id.0)) [
          | inl before ↦
              subst (ReadsBelow t levels id)
              (sym (get_or_append_left reads (above ∷ []) 0 id.0 (omega (arith, are.long)))) (are.each id before)
          | inr behind ↦
              let at : id.0 ≡ count = omega arith in
              let this : record { 0 = count } ≡ id = sym (TermId-ext id (record { 0 = count }) at) in
              subst (ReadsBelow t levels id) (sym (last_of reads above id.0 0 (at ∙ sym are.long)))
              (subst (λ (k : TermId). ReadsBelow t levels k above) this last)
        ]

-- ---- the choices of a step
pub choices_are_below : (x : Setting) (above count : ℕ) (listed : List ℕ) →
    listed ≡ range_with_len (x.state_levels + room) count → count ≤ room →
    ((k : ℕ) → k < x.state_levels + room + room → k < above → k < x.state_levels + room + count) →
    AreChoicesBelow x above listed
choices_are_below x above count listed are few all =
    subst (AreChoicesBelow x above) (sym are) (record {
      among = λ k there.
          let within = range_within (x.state_levels + room) count k there in
          range_has (x.state_levels + room) room k within.0 (omega (arith, within.1, few));
      all = λ k there under.
          let within = range_within (x.state_levels + room) room k there in
          range_has (x.state_levels + room) count k within.0 (all k within.1 under);
    })

pub lists_read : (x : Setting) (reads listed : List ℕ) (above : ℕ) (terms : StepTerms) → AreStepTerms x terms →
    AreReadings x.terms x.levels reads → slice_index reads terms.legal.0 ≤ above →
    slice_index reads terms.error.0 ≤ above → All (λ (id : TermId). slice_index reads id.0 ≤ above) terms.next →
    AreChoicesBelow x above listed →
    ListsChoices (choices_of x) listed (λ v. value_of x.terms (values_at x v)) terms
lists_read x reads listed above terms are readings legal error next choices = record {
  among = choices.among;
  legal = one terms.legal are.legal.0 legal;
  error = one terms.error are.error.0 error;
  next = λ n d below. one (get_or terms.next n d) (are.next.next n d below).0 (next n d below);
}
  where
    one : (id : TermId) → IsKnown x.terms id → slice_index reads id.0 ≤ above →
        ReadsListed (choices_of x) listed (λ v. value_of x.terms (values_at x v) id)
    one id known low v w agree =
        readings.each id known v w
        (λ k under. agree k (λ there. choices.all k there (omega (arith, low, under))))

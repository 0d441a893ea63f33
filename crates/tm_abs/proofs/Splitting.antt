-- Where a set holds each cell that it meets, its parts are one; and a cut cell shows that they are not.
use Rattle.std.proofs.Common.{◌≡◌, true, false, not, Bool, List, refl, sym, ◌∙◌, true≢false}
use Rattle.tm_abs.specs.Split.{IsCut, PartsAreOne}
use Rattle.tm_flat_pool.specs.Cells.{IsInLower, IsInUpper, SameCell}
use Rattle.tm_flat_pool.specs.Predicates.{Predicate}
use Rattle.tm_sem.specs.State.{StateData}
use Rattle.tm_sem.specs.Step.{IsState}
use Rattle.tm_syntax.specs.Design.{DesignTree}

stable : (b : Bool) → ¬ (not b ≡ true) → b ≡ true
stable true h = refl
stable false h = absurd (h refl)

pub not_both : (b : Bool) → b ≡ true → ¬ (not b ≡ true)
not_both true e f = true≢false (sym f)
not_both false e f = true≢false (sym e)

module _ (d : DesignTree) (predicates : List Predicate) where
  pub cell_back : (s t : StateData) → SameCell d predicates s t → SameCell d predicates t s
  cell_back s t same k p below = sym (same k p below)

  pub cell_then : (s t u : StateData) → SameCell d predicates s t → SameCell d predicates t u →
      SameCell d predicates s u
  cell_then s t u one two k p below = one k p below ∙ two k p below

  module _ (set : StateData → Bool) where
    -- each state has its own cell
    lower_upper : (s : StateData) → IsInLower d predicates set s → IsInUpper d predicates set s
    lower_upper s lower = record {
      valid = lower.valid;
      meets = (s, lower.valid, (λ k p below. refl), lower.within s lower.valid (λ k p below. refl));
    }

    pub parts_are_one : ((s : StateData) → IsInUpper d predicates set s → set s ≡ true) →
        PartsAreOne d predicates set
    parts_are_one within s = (
      lower_upper s,
      λ upper. record {
        valid = upper.valid;
        within = λ t valid same. within t (record {
          valid = valid;
          meets = (
            upper.meets.0,
            upper.meets.1,
            cell_then t s upper.meets.0 (cell_back s t same) upper.meets.2,
            upper.meets.3,
          );
        });
      },
    )

    pub cut_parts : (inside out : StateData) → IsCut d predicates set inside out → ¬ PartsAreOne d predicates set
    cut_parts inside out cut one =
        true≢false (sym (((one out).1 (record {
          valid = cut.out_valid;
          meets = (inside, cut.inside_valid, cell_back inside out cut.cell, cut.inside_it);
        })).within out cut.out_valid (λ k p below. refl)) ∙ cut.out_of_it)

    -- the lower part is what the upper part of all else leaves
    pub lower_left : (s : StateData) → IsState d s → ¬ IsInUpper d predicates (λ t. not (set t)) s →
        IsInLower d predicates set s
    lower_left s valid none = record {
      valid = valid;
      within = λ t there same. stable (set t) (λ out.
          none (record { valid = valid; meets = (t, there, same, out) }));
    }

    pub left_lower : (s : StateData) → IsInLower d predicates set s → ¬ IsInUpper d predicates (λ t. not (set t)) s
    left_lower s lower upper =
        not_both (set upper.meets.0) (lower.within upper.meets.0 upper.meets.1 upper.meets.2) upper.meets.3

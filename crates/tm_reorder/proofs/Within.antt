-- The numbers of valid states are within their fields.
use Rattle.std.proofs.Common.{◌≡◌, ℕ, suc, ◌+◌, ◌<◌, ◌≤◌, Bool, false, List, [], ◌∷◌, map, get_or, refl, sym, ap, ◌∙◌, subst, arith}
use Rattle.std.specs.Prelude.{All, sum, sum_by}
use Rattle.std.specs.List.{AllZip, range_with_len}
use Rattle.std.proofs.lemmas.List.Elements.{All-nil}
use Rattle.std.proofs.lemmas.List.Sums.{sum_by-cons}
use Rattle.tm_base.specs.Bits.{number_of}
use Rattle.tm_game_bits.specs.AssignedStates.{numbers_from}
use Rattle.tm_game_bits.proofs.Numbers.{Fits, numbers_agree, numbers_back}
use Rattle.tm_reorder.specs.declared.fields.Field.{Field}
use Rattle.tm_reorder.specs.Fields.{AreFields, IsField}
use Rattle.tm_reorder.specs.Inner.Clamped.{AreWithin, HavePlaces}
use Rattle.tm_sem.specs.State.{StateData}
use Rattle.tm_sem.specs.StateBits.{state_bits, state_numbers, state_widths}
use Rattle.tm_sem.specs.Step.{IsState}
use Rattle.tm_syntax.specs.Design.{DesignTree}

abbrev pub width : Field → ℕ
width f = f.width

-- a number depends on the values of its places alone
number_agrees : (w place : ℕ) (f g : ℕ → Bool) → ((q : ℕ) → q < place + w → f q ≡ g q) →
    number_of (map f (range_with_len place w)) ≡ number_of (map g (range_with_len place w))
number_agrees w place f g same =
    let all = sum_by-cons (λ (x : ℕ). x) w [] in
    ap (λ (ns : List ℕ). get_or ns 0 0)
    (numbers_agree (w ∷ []) f g place (λ q above below. same q (omega (arith, below, all))))

pub within_agree : (fs : List Field) (f g : ℕ → Bool) (place : ℕ) →
    ((q : ℕ) → q < place + sum_by width fs → f q ≡ g q) → AreWithin fs f place → AreWithin fs g place
within_agree [] f g place same within = tt
within_agree (x ∷ fs) f g place same within =
    let all = sum_by-cons width x fs in (
      subst (λ (n : ℕ). n ≤ x.last)
          (number_agrees x.width place f g (λ q below. same q (omega (arith, below, all)))) within.0,
      within_agree fs f g (place + x.width) (λ q below. same q (omega (arith, below, all))) within.1,
    )

-- numbers that are at most the last values are within their fields, and of their widths
zip_within : (fs : List Field) (bits : ℕ → Bool) (place : ℕ) →
    AllZip (λ (f : Field) n. n ≤ f.last) fs (numbers_from (map width fs) bits place) → AreWithin fs bits place
zip_within [] bits place all = tt
zip_within (f ∷ fs) bits place all = (all.0, zip_within fs bits (place + f.width) all.1)

zip_fits : (fs : List Field) (ns : List ℕ) → All IsField fs →
    AllZip (λ (f : Field) n. n ≤ f.last) fs ns → AllZip Fits (map width fs) ns
zip_fits [] [] fit all = tt
zip_fits [] (n ∷ ns) fit all = absurd all
zip_fits (f ∷ fs) [] fit all = absurd all
zip_fits (f ∷ fs) (n ∷ ns) fit all =
    let last = (fit 0 f (omega arith)).fits in
    (omega (arith, last, all.0), zip_fits fs ns (λ k d below. fit (suc k) d (omega (arith, below))) all.1)

width_sum : (fs : List Field) → sum_by width fs ≡ sum (map width fs)
width_sum [] = refl
width_sum (f ∷ fs) =
    sum_by-cons width f fs
    ∙ ap (λ n. f.width + n) (width_sum fs)
    ∙ sym (sum_by-cons (λ (x : ℕ). x) f.width (map width fs))

-- no field asks for a place
pub no_places : (count : ℕ) → HavePlaces count []
no_places count = record { each = All-nil IsField; room = omega arith }

module _ (d : DesignTree) (fields : List Field) (are : AreFields d fields) where
  pub fields_sum : sum_by width fields ≡ sum (state_widths d)
  fields_sum = width_sum fields ∙ ap sum are.widths

  -- there are places for their bits
  pub have_places : (count : ℕ) → sum (state_widths d) ≡ count → HavePlaces count fields
  have_places count all = record {
    each = are.each;
    room = let same = fields_sum in omega (arith, same, all);
  }

  -- the numbers of a valid state are within them
  pub valid_within : (s : StateData) → IsState d s → AreWithin fields (λ q. get_or (state_bits d s) q false) 0
  valid_within s valid =
      let most = are.most s valid in
      let fit = subst (λ (ws : List ℕ). AllZip Fits ws (state_numbers s)) are.widths
      (zip_fits fields (state_numbers s) are.each most) in
      let back = numbers_back [] (state_widths d) (state_numbers s) fit in
      zip_within fields (λ q. get_or (state_bits d s) q false) 0
      (subst (λ (ws : List ℕ). AllZip (λ (f : Field) n. n ≤ f.last) fields
      (numbers_from ws (λ q. get_or (state_bits d s) q false) 0)) (sym are.widths)
      (subst (AllZip (λ (f : Field) n. n ≤ f.last) fields) (sym back) most))

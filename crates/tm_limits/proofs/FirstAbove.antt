-- The first quantity above its limit, found along the list of quantities.
use Rattle.std.proofs.Common.{◌≡◌, ℕ, ◌+◌, ◌<◌, ◌≤◌, Bool, true, false, cond, None, Some, ◌∷◌, drop, find, get_or, length, nat_lt, refl, sym, ap, ◌∙◌, arith, lit≤}
use Rattle.std.proofs.lemmas.Bool.{lt-ltb, ltb-true}
use Rattle.std.proofs.lemmas.List.{at_drop_all, at_drop_more}
use Rattle.tm_syntax.specs.declared.fault.Quantity.{Quantity}
use Rattle.tm_syntax.specs.declared.fault.Quantity.TheVariants as quantity
use Rattle.tm_syntax.specs.Tree.{SpecTree}
use Rattle.tm_syntax.specs.Faults.Limits.{count_of, counted, first_above, limit_of}
use Rattle.tm_limits.specs.Amount.{capped}
use Rattle.tm_limits.specs.Shares.{whole_count}
use Rattle.tm_limits.proofs.InstanceShares.{count_is_whole}

-- the limits are small numbers
limit-small : (q : Quantity) → limit_of q ≤ 1048576
limit-small quantity.Specification = lit≤ tt
limit-small quantity.Name = lit≤ tt
limit-small quantity.Statements = lit≤ tt
limit-small quantity.Instances = lit≤ tt
limit-small quantity.Processes = lit≤ tt
limit-small quantity.Goals = lit≤ tt
limit-small quantity.Fairness = lit≤ tt
limit-small quantity.Tasks = lit≤ tt
limit-small quantity.State = lit≤ tt
limit-small quantity.Choices = lit≤ tt
limit-small quantity.Arguments = lit≤ tt
limit-small quantity.Locations = lit≤ tt
limit-small quantity.Atoms = lit≤ tt

module _ (spec : SpecTree) where
  -- whether a quantity is above its limit
  abbrev is_above : Quantity → Bool
  is_above q = nat_lt (limit_of q) (count_of spec q)

  here : (i : ℕ) (q : Quantity) → i < length counted → q ≡ get_or counted i q →
      find is_above (drop i counted) ≡ cond (is_above q) (Some q) (find is_above (drop (i + 1) counted))
  here i q within is =
      at_drop_more (find is_above) counted i q within
      ∙ ap (λ p. find is_above (p ∷ drop (i + 1) counted)) (sym is)

  -- a count that is found above the limit is the first
  pub above_here : (i found : ℕ) (q : Quantity) → i < length counted → q ≡ get_or counted i q →
      found ≡ capped (whole_count spec q) → limit_of q < found →
      find is_above (drop i counted) ≡ first_above spec → first_above spec ≡ Some q
  above_here i found q within is counts above so =
      let whole = count_is_whole spec q in
      sym so ∙ here i q within is
      ∙ ap (λ b. cond b (Some q) (find is_above (drop (i + 1) counted)))
      (lt-ltb (limit_of q) (count_of spec q) (omega (arith, whole, counts, above)))

  -- a count that is not leaves it to the others
  pub not_above : (i found : ℕ) (q : Quantity) → i < length counted → q ≡ get_or counted i q →
      found ≡ capped (whole_count spec q) → found ≤ limit_of q →
      find is_above (drop i counted) ≡ first_above spec → find is_above (drop (i + 1) counted) ≡ first_above spec
  not_above i found q within is counts fits so =
      sym (here i q within is
      ∙ ap (λ b. cond b (Some q) (find is_above (drop (i + 1) counted))) (by (is_above q) refl)) ∙ so
    where
      by : (b : Bool) → is_above q ≡ b → b ≡ false
      by true e =
          let whole = count_is_whole spec q in
          let less : limit_of q < count_of spec q = ltb-true (limit_of q) (count_of spec q) e in
          let small = limit-small q in
          absurd (omega (arith, whole, counts, fits, less, small))
      by false e = refl

  -- where the list ends, none is
  pub none_above : (i : ℕ) → length counted ≤ i →
      find is_above (drop i counted) ≡ first_above spec → first_above spec ≡ None
  none_above i done so = sym so ∙ at_drop_all (find is_above) counted i done

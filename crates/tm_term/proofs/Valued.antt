-- The value of an id over the values of its parts, and what becomes of it when a term is added.
use Rattle.std.proofs.Common.{◌≡◌, ◌≢◌, ⊎_elim, get_or-set_other, get_or-set_same, ℕ, zero, suc, ◌+◌, ◌^◌, ◌<◌, ◌≤◌, List, Some, length, refl, sym, ap, ◌∙◌, arith}
use Rattle.std.specs.Prelude.{slice_index, slice_set}
use Rattle.std.proofs.lemmas.Bool.{cases_lt}
use Rattle.tm_base.proofs.Bounds.{resize-below, complement-below, sum-below, difference-below, shift_left-below, shift_right-below, bit_and-below, bit_or-below, bit_xor-below, equal-below, less-below, choice-below}
use Rattle.tm_term.specs.declared.term.Term.{Term}
use Rattle.tm_term.specs.declared.term.Term.TheVariants.{Const, Input, Not, And, Or, Xor, Add, Sub, Shl, Shr, Eq, Less, Ite, Resize}
use Rattle.tm_term.specs.declared.term.TermId.{TermId}
use Rattle.tm_term.specs.Table.{Table, count_of, IsKnown, term_of, width_of, FitsBelow, Fits, term_width, IsSound}
use Rattle.tm_term.specs.Value.{AreInputs, value_over, value_within, value_of, term_value, Extends}
use Rattle.tm_term.proofs.Growth.{TermId-ext, has_known, has_term, known_term, Agrees, added, agrees-added, known-added, term_of-added_old, width_of-added_old, term_of-added_new, sound-added}

-- a term's value depends on its parts alone
pub value_over-along : (t u : Table) (n : ℕ) (values : List ℕ) (f g : TermId → ℕ) (term : Term) → Agrees t u n →
    FitsBelow t n term → ((id : TermId) → id.0 < n → g id ≡ f id) →
    value_over u values g term ≡ value_over t values f term
value_over-along t u n values f g (Const width number) agrees h same = refl
value_over-along t u n values f g (Input i) agrees h same = refl
value_over-along t u n values f g (Not a) agrees h same = rw (same a h, agrees.widths a h)
value_over-along t u n values f g (And a b) agrees h same = let x = same a h.0 in let y = same b h.1 in cc
value_over-along t u n values f g (Or a b) agrees h same = let x = same a h.0 in let y = same b h.1 in cc
value_over-along t u n values f g (Xor a b) agrees h same = let x = same a h.0 in let y = same b h.1 in cc
value_over-along t u n values f g (Add a b) agrees h same = let x = same a h.0 in let y = same b h.1 in let w =
    agrees.widths a h.0 in cc
value_over-along t u n values f g (Sub a b) agrees h same = let x = same a h.0 in let y = same b h.1 in let w =
    agrees.widths a h.0 in cc
value_over-along t u n values f g (Shl a by) agrees h same = let x = same a h.0 in let w = agrees.widths a h.0 in cc
value_over-along t u n values f g (Shr a by) agrees h same = let x = same a h.0 in cc
value_over-along t u n values f g (Eq a b) agrees h same = let x = same a h.0 in let y = same b h.1 in cc
value_over-along t u n values f g (Less a b) agrees h same = let x = same a h.0 in let y = same b h.1 in cc
value_over-along t u n values f g (Ite c a b) agrees h same = let z = same c h.0 in let x = same a h.2.0 in let y =
    same b h.2.1 in cc
value_over-along t u n values f g (Resize width a) agrees h same = let x = same a h.1 in cc

pub agrees_itself : (t : Table) (n : ℕ) → Agrees t t n
agrees_itself t n = record { inputs = refl; widths = λ id h. refl }

module _ (t : Table) (values : List ℕ) (sound : IsSound t) where
  -- as many levels as the id and one are enough
  value_within-enough : (d e : ℕ) (id : TermId) → IsKnown t id → id.0 < d → id.0 < e →
      value_within d t values id ≡ value_within e t values id
  unfolding value_within
  value_within-enough zero e id known h k = absurd (omega arith)
  value_within-enough (suc d) zero id known h k = absurd (omega arith)
  value_within-enough (suc d) (suc e) id known h k =
      let has = has_known t id sound known in
      let part = λ (p : TermId) (below : p.0 < id.0).
      value_within-enough d e p (omega arith) (omega arith) (omega arith) in
      rw has.1.is (value_over-along t t id.0 values (value_within e t values) (value_within d t values) has.0
      (agrees_itself t id.0) has.1.entry.fits part)

  -- the value of an id is that of its term
  pub value_of-term : (id : TermId) (term : Term) → term_of t id ≡ Some term →
      value_of t values id ≡ term_value t values term
  unfolding value_of value_within
  value_of-term id term is =
      let has = has_term t id term sound is in
      let known = known_term t id term is in
      let part = λ (p : TermId) (below : p.0 < id.0).
      value_within-enough id.0 (suc p.0) p (omega arith) below (omega arith) in
      rw is (value_over-along t t id.0 values (value_of t values) (value_within id.0 t values) term
      (agrees_itself t id.0) has.entry.fits part)

-- ---- a value is below 2 to the width
pub value_over-below : (t : Table) (n : ℕ) (values : List ℕ) (f : TermId → ℕ) (term : Term) → AreInputs t values →
    FitsBelow t n term → ((id : TermId) → id.0 < n → f id < 2 ^ width_of t id) →
    value_over t values f term < 2 ^ term_width t term
value_over-below t n values f (Const width number) inputs h below = h.1
value_over-below t n values f (Input i) inputs h below = inputs.in_range i (omega (arith, h, inputs.count))
value_over-below t n values f (Not a) inputs h below = complement-below (width_of t a) (f a)
value_over-below t n values f (And a b) inputs h below =
    bit_and-below (width_of t a) (f a) (f b) (below a h.0)
value_over-below t n values f (Or a b) inputs h below =
    bit_or-below (width_of t a) (f a) (f b) (below a h.0) (rw h.2 (below b h.1))
value_over-below t n values f (Xor a b) inputs h below =
    bit_xor-below (width_of t a) (f a) (f b) (below a h.0) (rw h.2 (below b h.1))
value_over-below t n values f (Add a b) inputs h below =
    sum-below (width_of t a) (f a) (f b)
value_over-below t n values f (Sub a b) inputs h below =
    difference-below (width_of t a) (f a) (f b)
value_over-below t n values f (Shl a by) inputs h below =
    shift_left-below (width_of t a) (f a) by
value_over-below t n values f (Shr a by) inputs h below = shift_right-below (width_of t a) (f a) by (below a h.0)
value_over-below t n values f (Eq a b) inputs h below = equal-below (f a) (f b)
value_over-below t n values f (Less a b) inputs h below = less-below (f a) (f b)
value_over-below t n values f (Ite c a b) inputs h below =
    choice-below (width_of t a) (f c) (f a) (f b) (below a h.2.0) (rw h.2.2 (below b h.2.1))
value_over-below t n values f (Resize width a) inputs h below = resize-below width (f a)

module _ (t : Table) (values : List ℕ) (sound : IsSound t) (inputs : AreInputs t values) where
  value_within-below : (d : ℕ) (id : TermId) → IsKnown t id → id.0 < d → value_within d t values id < 2 ^ width_of t id
  unfolding value_within
  value_within-below zero id known h = absurd (omega arith)
  value_within-below (suc d) id known h =
      let has = has_known t id sound known in
      let part = λ (p : TermId) (below : p.0 < id.0). value_within-below d p (omega arith) (omega arith) in
      rw (has.1.is, has.1.entry.sized)
      (value_over-below t id.0 values (value_within d t values) has.0 inputs has.1.entry.fits part)

  -- the value of a known id is below 2 to its width
  pub value_of-below : (id : TermId) → IsKnown t id → value_of t values id < 2 ^ width_of t id
  unfolding value_of
  value_of-below id known = value_within-below (suc id.0) id known (omega arith)

-- ---- what an addition leaves
module _ (t : Table) (term : Term) (sound : IsSound t) where
  value_within-added : (values : List ℕ) (d : ℕ) (id : TermId) → IsKnown t id →
      value_within d (added t term) values id ≡ value_within d t values id
  unfolding value_within
  value_within-added values zero id known = refl
  value_within-added values (suc d) id known =
      let has = has_known t id sound known in
      let part = λ (p : TermId) (below : p.0 < id.0). value_within-added values d p (omega arith) in
      rw (term_of-added_old t term id known, has.1.is)
      (value_over-along t (added t term) id.0 values (value_within d t values)
      (value_within d (added t term) values) has.0 (agrees-added t term id.0 (omega arith)) has.1.entry.fits part)

  pub value_of-added_old : (values : List ℕ) (id : TermId) → IsKnown t id →
      value_of (added t term) values id ≡ value_of t values id
  unfolding value_of
  value_of-added_old values id known = value_within-added values (suc id.0) id known

  pub extends-added : Extends t (added t term)
  extends-added =
      record {
        inputs = refl;
        known = known-added t term;
        terms = term_of-added_old t term;
        widths = width_of-added_old t term;
        values = value_of-added_old;
      }

  -- the new id has the value of the term
  pub value_of-added_new : Fits t term → ((id : TermId) → term_of t id ≡ Some term → ⊥) →
      (values : List ℕ) (id : TermId) → id.0 ≡ count_of t → value_of (added t term) values id ≡ term_value t values term
  value_of-added_new fits absent values id e =
      value_of-term (added t term) values (sound-added t term sound fits absent) id term (term_of-added_new t term id e)
      ∙ value_over-along t (added t term) (count_of t) values (value_of t values) (value_of (added t term) values) term
      (agrees-added t term (count_of t) (omega arith)) fits (value_of-added_old values)

-- ---- extension is an order
pub Extends-trans : (t u v : Table) → Extends t u → Extends u v → Extends t v
Extends-trans t u v first second =
    record {
      inputs = second.inputs ∙ first.inputs;
      known = λ id k. second.known id (first.known id k);
      terms = λ id k. second.terms id (first.known id k) ∙ first.terms id k;
      widths = λ id k. second.widths id (first.known id k) ∙ first.widths id k;
      values = λ vs id k. second.values vs id (first.known id k) ∙ first.values vs id k;
    }

-- ---- a table of the values of the first ids, with one more
pub values_more : (t : Table) (values table : List ℕ) (k x : ℕ) →
    ((id : TermId) → id.0 < k → slice_index table id.0 ≡ value_of t values id) → k < length table →
    x ≡ value_of t values (record { 0 = k }) → (id : TermId) → id.0 < k + 1 →
    slice_index (slice_set table k x) id.0 ≡ value_of t values id
values_more t values table k x before within is id h = ⊎_elim old new (cases_lt id.0 k)
  where
    old : id.0 < k → slice_index (slice_set table k x) id.0 ≡ value_of t values id
    old below = let other : id.0 ≢ k = omega arith in get_or-set_other table k id.0 x 0 other ∙ before id below

    new : k ≤ id.0 → slice_index (slice_set table k x) id.0 ≡ value_of t values id
    new above =
        let e : id.0 ≡ k = omega arith in
        ap (λ i. slice_index (slice_set table k x) i) e ∙ get_or-set_same table k x 0 within ∙ is
        ∙ ap (value_of t values) (sym (TermId-ext id (record { 0 = k }) e))

-- The terms of the bits of an input, one behind the other.
use Rattle.std.proofs.Common.{◌≡◌, ℕ, zero, suc, ◌+◌, ◌-◌, ◌/◌, ◌%◌, ◌^◌, ◌<◌, ◌≤◌, Some, List, [], ◌∷◌, ◌++◌, append_assoc, length, take, slice_get, slice_index, refl, sym, ap, ◌∙◌, subst, arith}
use Rattle.std.proofs.lemmas.List.{append-nil, take_all}
use Rattle.tm_term.specs.declared.term.Term.TheVariants.{Resize, Shr}
use Rattle.tm_term.specs.declared.term.TermId.{TermId}
use Rattle.tm_term.specs.Table.{Table, IsSound, term_width}
use Rattle.tm_term.specs.Value.{Extends, term_value, value_of}
use Rattle.tm_term.proofs.Valued.{Extends-trans}
use Rattle.tm_sem.specs.StateBits.{downwards}
use Rattle.tm_flat.specs.Steps.{IsInput, IsTerm}
use Rattle.tm_flat_exprs.specs.Made.{Makes}
use Rattle.tm_flat_exprs.proofs.Later.{Extends-refl, term_along}
use Rattle.tm_flat_states.proofs.InputTerms.{input_value}
use Rattle.tm_flat_states.proofs.Numbered.{zip_taken}
use Rattle.tm_flat_pool.specs.Inner.Bits.{IsBit, PushesBits}

-- a bit of a term, by the term shifted
pub bit_made : (t m n : Table) (of : TermId) (weight : ℕ) (shifted id : TermId) →
    Makes t m (term_width t (Shr of weight)) shifted (λ u v. term_value u v (Shr of weight)) →
    Makes m n (term_width m (Resize 1 shifted)) id (λ u v. term_value u v (Resize 1 shifted)) →
    Makes t n 1 id (λ u v. value_of u v of / 2 ^ weight % 2)
bit_made t m n of weight shifted id first second = record {
  grown = Extends-trans t m n first.grown second.grown;
  sound = second.sound;
  term = second.term;
  value = λ u more v are.
      second.value u more v are ∙ ap (λ k. k % 2) (first.value u (Extends-trans m n u second.grown more) v are);
}

-- ---- bits one behind the other
pub none_yet : (i : ℕ) (t : Table) (before : List TermId) → IsSound t → PushesBits i [] t t before before
none_yet i t before sound = record {
  grown = Extends-refl t;
  sound = sound;
  part = [];
  is = sym (append-nil before);
  each = λ u more. tt;
}

pub one_more : (i : ℕ) (weights : List ℕ) (k w : ℕ) (t m n : Table) (before so_far after : List TermId)
    (id input : TermId) → IsSound t → IsInput t i input → slice_get weights k ≡ Some w →
    PushesBits i (take k weights) t m before so_far → Makes m n 1 id (λ u v. value_of u v input / 2 ^ w % 2) →
    after ≡ so_far ++ id ∷ [] → PushesBits i (take (k + 1) weights) t n before after
one_more i weights k w t m n before so_far after id input sound is here pushes made pushed = record {
  grown = Extends-trans t m n pushes.grown made.grown;
  sound = made.sound;
  part = pushes.part ++ id ∷ [];
  is = pushed ∙ ap (λ l. l ++ id ∷ []) pushes.is ∙ append_assoc before pushes.part (id ∷ []);
  each = λ u later.
      let more = Extends-trans t n u (Extends-trans t m n pushes.grown made.grown) later in
      zip_taken (IsBit u i) weights pushes.part k w id (pushes.each u (Extends-trans m n u made.grown later)) here
      (record {
        term = term_along n u 1 id later made.term;
        value = λ v are.
            made.value u later v are ∙ ap (λ x. x / 2 ^ w % 2) (input_value t u i input sound is more v);
      });
}

pub weight_at : (w k : ℕ) → k < w → slice_get (downwards w) k ≡ Some (w - 1 - k)
weight_at zero k below = absurd (omega (arith, below))
weight_at (suc w) zero below = let at : w ≡ suc w - 1 - zero = omega arith in ap Some at
weight_at (suc w) (suc k) below =
    let at : w - 1 - k ≡ suc w - 1 - suc k = omega arith in weight_at w k (omega (arith, below)) ∙ ap Some at

downwards_long : (w : ℕ) → length (downwards w) ≡ w
downwards_long zero = refl
downwards_long (suc w) = let rest = downwards_long w in omega (arith, rest)

pub each_done : (i w k : ℕ) (t n : Table) (before after : List TermId) → w ≤ k →
    PushesBits i (take k (downwards w)) t n before after → PushesBits i (downwards w) t n before after
each_done i w k t n before after past pushes =
    subst (λ (ws : List ℕ). PushesBits i ws t n before after)
    (take_all k (downwards w) (let long = downwards_long w in omega (arith, long, past))) pushes

-- ---- an input of one bit
itself : (x : ℕ) → x < 2 → x ≡ x / 2 ^ 0 % 2
itself zero below = refl
itself (suc zero) below = refl
itself (suc (suc x)) below = absurd (omega (arith, below))

pub alone_pushed : (t n : Table) (i w : ℕ) (input : TermId) (before after : List TermId) → Extends t n → IsSound n →
    IsInput n i input → i < length t.inputs → w ≡ 1 → IsTerm n w input → w ≡ slice_index t.inputs i →
    after ≡ before ++ input ∷ [] → PushesBits i (downwards (slice_index t.inputs i)) t n before after
alone_pushed t n i w input before after grown sound is inside one term width pushed =
    let wide : 1 ≡ slice_index t.inputs i = sym one ∙ width in
    subst (λ k. PushesBits i (downwards k) t n before after) wide (record {
      grown = grown;
      sound = sound;
      part = input ∷ [];
      is = pushed;
      each = λ u more.
          let bits : IsBit u i 0 input = record {
            term = term_along n u 1 input more (subst (λ k. IsTerm n k input) one term);
            value = λ v are.
                let same = ap (λ (ws : List ℕ). slice_index ws i) (more.inputs ∙ grown.inputs) in
                let many = ap (λ (ws : List ℕ). length ws) (more.inputs ∙ grown.inputs) in
                let within : i < length v = (let count = are.count in omega (arith, inside, many, count)) in
                let small = subst (λ k. slice_index v i < 2 ^ k) (same ∙ sym wide) (are.in_range i within) in
                input_value n u i input sound is more v ∙ itself (slice_index v i) small;
          } in
          (bits, tt);
    })

-- the bits of an input that was made
pub input_pushed : (t m n : Table) (i w : ℕ) (before after : List TermId) → Extends t m → w ≡ slice_index t.inputs i →
    PushesBits i (downwards w) m n before after → PushesBits i (downwards (slice_index t.inputs i)) t n before after
input_pushed t m n i w before after grown width pushes =
    subst (λ k. PushesBits i (downwards k) t n before after) width (record {
      grown = Extends-trans t m n grown pushes.grown;
      sound = pushes.sound;
      part = pushes.part;
      is = pushes.is;
      each = pushes.each;
    })

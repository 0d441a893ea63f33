-- The terms of predicates: of atoms, and of the bits of a state.
use Rattle.std.proofs.Common.{◌≡◌, ℕ, ◌+◌, ◌-◌, ◌/◌, ◌%◌, ◌^◌, ◌<◌, Bool, true, false, not, List, [], ◌∷◌, ◌++◌, length, length-append, map, slice_index, sym, ap, ◌∙◌, subst, arith}
use Rattle.std.specs.Prelude.{sum}
use Rattle.std.specs.List.{AllZip, range_with_len}
use Rattle.std.proofs.lemmas.Bool.{cond-false}
use Rattle.std.proofs.lemmas.List.{append-nil, get_or_append_left, map-append, take_all}
use Rattle.std.proofs.lemmas.List.Sums.{sum_by_more}
use Rattle.std.proofs.lemmas.Nat.{mod_below}
use Rattle.tm_base.specs.Arithmetic.{bit}
use Rattle.tm_syntax.specs.Design.{DesignTree}
use Rattle.tm_syntax.specs.Design.Atoms.{Atom, pool_atoms}
use Rattle.tm_term.specs.declared.term.TermId.{TermId}
use Rattle.tm_term.specs.Table.{Table, IsSound}
use Rattle.tm_term.specs.Value.{Extends}
use Rattle.tm_term.proofs.Valued.{Extends-trans}
use Rattle.tm_sem.specs.State.{StateData}
use Rattle.tm_sem.specs.StateBits.{downwards, state_numbers, state_widths}
use Rattle.tm_sem.specs.Step.{IsState}
use Rattle.tm_sem.specs.Value.{holds_in, plain_memory}
use Rattle.tm_flat.specs.Inputs.{AreBits, AreSmall, input_values, input_widths}
use Rattle.tm_flat.proofs.InOrder.{are_in_order}
use Rattle.tm_flat.proofs.Ranges.{are_inputs}
use Rattle.tm_flat_exprs.proofs.Later.{Extends-refl}
use Rattle.tm_flat_states.specs.Marks.{MakesSuch}
use Rattle.tm_flat_states.proofs.InputTerms.{inputs_many}
use Rattle.tm_flat_states.proofs.Numbered.{zip_joined, zip_mapped}
use Rattle.tm_flat_pool.specs.Predicates.{first_place, is_atom, of_atom, of_bit, pool, pool_places}
use Rattle.tm_flat_pool.specs.declared.pool.PoolTerms.{PoolTerms}
use Rattle.tm_flat_pool.specs.Inner.Bits.{AreBitTerms, IsBit, PushesBits, PushesNumber, is_marked, places_from}
use Rattle.tm_flat_pool.specs.Inner.Holding.{AreHeld, IsHeld}
use Rattle.tm_flat_pool.specs.Inner.Marks.{AreMarked}
use Rattle.tm_flat_pool.specs.PoolTerms.{IsPredicateTerm}
use Rattle.tm_flat_pool.proofs.MarkedBits.{marked_bit, unmarked_bit}
use Rattle.tm_flat_pool.proofs.Places.{all_pass, bit_of_set, bit_there, by_place, passing_split}
use Rattle.tm_flat_pool.proofs.StateWidths.{widths_long}

-- ---- one predicate
module _ (d : DesignTree) (small : AreSmall d) (u : Table) (inputs : u.inputs ≡ input_widths d) where
  -- of an atom
  atom_told : (a : Atom) (id : TermId) → IsHeld d u a id → IsPredicateTerm u d (of_atom a) id
  atom_told a id is = record {
    term = is.term;
    holds = λ s choices arguments valid bits those.
        is.value (input_values s choices arguments)
        (are_inputs d small u s choices arguments inputs valid bits those)
        ∙ ap (λ (vs : List ℕ). bit (holds_in d a.scope (plain_memory vs) a.expr))
        (ap (λ (r : StateData). r.values) (are_in_order d s choices arguments valid bits).state);
  }

  -- the numbers of a valid state are as many as their widths
  numbers_long : (s : StateData) (choices arguments : List ℕ) → IsState d s → AreBits choices → AreBits arguments →
      length (state_numbers s) ≡ length (state_widths d)
  numbers_long s choices arguments valid bits those =
      let all = (are_inputs d small u s choices arguments inputs valid bits those).count in
      let same = ap (λ (ws : List ℕ). length ws) inputs in
      let first = length-append (state_numbers s ++ choices) arguments in
      let second = length-append (state_numbers s) choices in
      let many = inputs_many d in
      let long = widths_long d in
      omega (arith, all, same, first, second, many, long, bits.count, those.count)

  -- of a bit
  bit_told : (i j : ℕ) (id : TermId) → i < length (state_widths d) → j < slice_index (state_widths d) i →
      IsBit u i (slice_index (state_widths d) i - 1 - j) id → IsPredicateTerm u d (of_bit (first_place d i + j)) id
  bit_told i j id inside below is = record {
    term = is.term;
    holds = λ s choices arguments valid bits those.
        let v = input_values s choices arguments in
        let weight = slice_index (state_widths d) i - 1 - j in
        let n = slice_index (state_numbers s) i in
        let long = numbers_long s choices arguments valid bits those in
        let within : i < length (state_numbers s ++ choices) =
        omega (arith, length-append (state_numbers s) choices, long, inside) in
        let same : slice_index v i ≡ n =
        get_or_append_left (state_numbers s ++ choices) arguments 0 i within
        ∙ get_or_append_left (state_numbers s) choices 0 i (omega (arith, long, inside)) in
        let set = bit_there (state_widths d) (state_numbers s) i j long inside below in
        let one = mod_below (n / 2 ^ weight) 2 (omega arith) in
        is.value v (are_inputs d small u s choices arguments inputs valid bits those)
        ∙ ap (λ k. k / 2 ^ weight % 2) same
        ∙ sym (ap bit set ∙ bit_of_set (n / 2 ^ weight % 2) one);
  }

-- ---- the bits of a number
module _ (d : DesignTree) (marks : List Bool) (marked : AreMarked d (pool_atoms d) marks) (i : ℕ) where
  -- what is an atom adds nothing
  pub none_pushed : (t : Table) (ids : List TermId) → is_marked d marks i ≡ true → IsSound t →
      PushesNumber d i t t ids ids
  none_pushed t ids is sound =
      let atom = marked_bit d marks marked i is in
      let start = first_place d i in
      let fails : not (is_atom d start) ≡ false = ap not atom.0 in
      let none : places_from d start (slice_index (state_widths d) i) ≡ [] =
      ap (places_from d start) atom.1
      ∙ cond-false (not (is_atom d start)) (start ∷ []) [] fails in
      record {
        grown = Extends-refl t;
        sound = sound;
        part = [];
        is = sym (append-nil ids);
        each = λ u more. subst (λ (ps : List ℕ). AllZip (IsPredicateTerm u d) (map of_bit ps) []) (sym none) tt;
      }

  -- of what is none each bit is pushed
  pub each_pushed : (small : AreSmall d) (t n : Table) (k w : ℕ) (before after : List TermId) →
      t.inputs ≡ input_widths d → k ≡ i → i < length (state_widths d) → w ≡ slice_index (state_widths d) i →
      is_marked d marks i ≡ false → PushesBits k (downwards w) t n before after → PushesNumber d i t n before after
  each_pushed small t n k w before after inputs same inside width not_marked pushes =
      let start = first_place d i in
      let wide = slice_index (state_widths d) i in
      let all : places_from d start wide ≡ range_with_len start wide =
      all_pass (λ place. not (is_atom d place)) start wide
      (λ j below. ap not (unmarked_bit d marks marked i j below not_marked)) in
      record {
        grown = pushes.grown;
        sound = pushes.sound;
        part = pushes.part;
        is = pushes.is;
        each = λ u more.
            subst (λ (ps : List ℕ). AllZip (IsPredicateTerm u d) (map of_bit ps) pushes.part) (sym all)
            (by_place (IsBit u i) (IsPredicateTerm u d) of_bit wide start pushes.part
            (λ j id below is.
            bit_told d small u (more.inputs ∙ pushes.grown.inputs ∙ inputs) i j id inside below is)
            (subst (λ j. AllZip (IsBit u j) (downwards wide) pushes.part) same
            (subst (λ c. AllZip (IsBit u k) (downwards c) pushes.part) width (pushes.each u more))));
      }

-- ---- numbers one behind the other
module _ (d : DesignTree) where
  pub no_bits : (t : Table) (ids : List TermId) → IsSound t → ids ≡ [] → AreBitTerms d 0 t t ids
  no_bits t ids sound none = subst (AreBitTerms d 0 t t) (sym none) (record {
    grown = Extends-refl t;
    sound = sound;
    each = λ u more. tt;
  })

  pub more_bits : (i : ℕ) (t m n : Table) (ids more : List TermId) → i < length (state_widths d) →
      AreBitTerms d i t m ids → PushesNumber d i m n ids more → AreBitTerms d (i + 1) t n more
  more_bits i t m n ids more inside so_far pushes =
      let start = first_place d i in
      let wide = slice_index (state_widths d) i in
      let split : places_from d 0 (first_place d (i + 1)) ≡ places_from d 0 start ++ places_from d start wide =
      ap (places_from d 0) (sum_by_more (λ (w : ℕ). w) (state_widths d) i 0 inside)
      ∙ passing_split (λ place. not (is_atom d place)) start wide in
      record {
        grown = Extends-trans t m n so_far.grown pushes.grown;
        sound = pushes.sound;
        each = λ u later.
            subst (λ (l : List TermId).
            AllZip (IsPredicateTerm u d) (map of_bit (places_from d 0 (first_place d (i + 1)))) l) (sym pushes.is)
            (subst (λ ps. AllZip (IsPredicateTerm u d) ps (ids ++ pushes.part))
            (sym (ap (map of_bit) split ∙ map-append of_bit (places_from d 0 start) (places_from d start wide)))
            (zip_joined (IsPredicateTerm u d) (map of_bit (places_from d 0 start)) ids
            (map of_bit (places_from d start wide)) pushes.part
            (so_far.each u (Extends-trans m n u pushes.grown later)) (pushes.each u later)));
      }

  pub all_bits : (i : ℕ) (t n : Table) (ids : List TermId) → i ≡ length (state_widths d) → AreBitTerms d i t n ids →
      AreBitTerms d (length (state_widths d)) t n ids
  all_bits i t n ids end all = subst (λ k. AreBitTerms d k t n ids) end all

-- ---- the pool
pub pool_made : (d : DesignTree) (small : AreSmall d) (t k m n : Table) (atoms : List Atom) (ids bits : List TermId)
    (made : PoolTerms) → t.inputs ≡ input_widths d → atoms ≡ pool_atoms d → Extends t k → AreHeld d atoms k m ids →
    AreBitTerms d (length (state_widths d)) m n bits → made.ids.items ≡ ids ++ bits →
    MakesSuch t n (λ u (p : PoolTerms). AllZip (IsPredicateTerm u d) (pool d) p.ids.items) made
pool_made d small t k m n atoms ids bits made inputs listed grown held told is = record {
  grown = Extends-trans t m n (Extends-trans t k m grown held.grown) told.grown;
  sound = told.sound;
  is = λ u more.
      let same : u.inputs ≡ input_widths d =
      more.inputs ∙ told.grown.inputs ∙ held.grown.inputs ∙ grown.inputs ∙ inputs in
      let all : first_place d (length (state_widths d)) ≡ sum (state_widths d) =
      ap sum (take_all (length (state_widths d)) (state_widths d) (omega arith)) in
      subst (λ (l : List TermId). AllZip (IsPredicateTerm u d) (pool d) l) (sym is)
      (zip_joined (IsPredicateTerm u d) (map of_atom (pool_atoms d)) ids (map of_bit (pool_places d)) bits
      (zip_mapped (IsHeld d u) (IsPredicateTerm u d) of_atom (atom_told d small u same) (pool_atoms d) ids
      (subst (λ (l : List Atom). AllZip (IsHeld d u) l ids) listed
      (held.each u (Extends-trans m n u told.grown more))))
      (subst (λ c. AllZip (IsPredicateTerm u d) (map of_bit (places_from d 0 c)) bits) all (told.each u more)));
}

-- The locations of processes, and who moved last, are numbers of at most 32 bits.
use Rattle.std.proofs.Common.{◌≡◌, ℕ, ◌+◌, ◌^◌, ◌<◌, ◌≤◌, false, [], ◌∷◌, ◌++◌, inl, inr, length, map, drop, sym, ap, ◌∙◌, subst, append_assoc, arith, nat_lt}
use Rattle.std.specs.Prelude.{All}
use Rattle.std.specs.List.{position_or_len, range_with_len}
use Rattle.std.proofs.lemmas.Bool.{cases_lt, lt-ltb, true≢false}
use Rattle.std.proofs.lemmas.List.{drop_at, length-map}
use Rattle.std.proofs.lemmas.List.Elements.{All-append, All-cons, All-map, All-nil}
use Rattle.std.proofs.lemmas.List.FromFn.{get_or-range_with_len}
use Rattle.std.proofs.lemmas.List.Sums.{fails_before_first}
use Rattle.tm_sem.specs.StateBits.{state_widths}
use Rattle.tm_syntax.specs.declared.design.Var.{Var}
use Rattle.tm_syntax.specs.Design.{DesignTree}
use Rattle.tm_syntax.specs.Design.Locations.{end_number}
use Rattle.tm_syntax.specs.Design.Sizes.{bits_of_number, type_bits}

-- a number below 2 to the power of 32 needs at most 32 bits
bits_few : (n : ℕ) → n < 2 ^ 32 → bits_of_number n ≤ 32
bits_few n below =
    elim (cases_lt 31 (position_or_len (λ count. nat_lt n (2 ^ count)) (range_with_len 1 63)))
    as (λ _. bits_of_number n ≤ 32) [
      | inl late ↦
          let fails = fails_before_first (λ count. nat_lt n (2 ^ count)) (range_with_len 1 63) 31 0 late in
          let at = get_or-range_with_len 1 63 31 0 (omega arith) in
          let here : nat_lt n (2 ^ 32) ≡ false = ap (λ k. nat_lt n (2 ^ k)) (sym at) ∙ fails in
          absurd (true≢false (sym (lt-ltb n (2 ^ 32) below) ∙ here))
      | inr soon ↦ omega arith
    ]

module _ (d : DesignTree) (locations : (p : ℕ) → end_number d p < 2 ^ 32)
    (processes : 1 + length d.processes < 2 ^ 32) where
  -- the widths behind those of the variables
  pub short_widths : All (λ w. w ≤ 32) (drop (length d.vars) (state_widths d))
  short_widths =
      let front = map (λ (v : Var). type_bits d.spec v.ty) d.vars in
      let places = map (λ p. bits_of_number (end_number d p)) (range_with_len 0 (length d.processes)) in
      let last = bits_of_number (1 + length d.processes) ∷ [] in
      let assoc = append_assoc (map (λ (v : Var). type_bits d.spec v.ty) d.vars)
      (map (λ p. bits_of_number (end_number d p)) (range_with_len 0 (length d.processes)))
      (bits_of_number (1 + length d.processes) ∷ []) in
      subst (All (λ w. w ≤ 32))
      (sym (ap (drop (length d.vars)) assoc
      ∙ drop_at (map (λ (v : Var). type_bits d.spec v.ty) d.vars)
      (map (λ p. bits_of_number (end_number d p)) (range_with_len 0 (length d.processes))
      ++ bits_of_number (1 + length d.processes) ∷ []) (length d.vars)
      (length-map d.vars (λ (v : Var). type_bits d.spec v.ty))))
      (All-append (λ w. w ≤ 32)
      (map (λ p. bits_of_number (end_number d p)) (range_with_len 0 (length d.processes)))
      (bits_of_number (1 + length d.processes) ∷ [])
      (All-map (λ w. w ≤ 32) (λ p. bits_of_number (end_number d p)) (range_with_len 0 (length d.processes))
      (λ i e below. bits_few (end_number d _) (locations _)))
      (All-cons (λ w. w ≤ 32) (bits_of_number (1 + length d.processes)) []
      (bits_few (1 + length d.processes) processes) (All-nil (λ w. w ≤ 32))))

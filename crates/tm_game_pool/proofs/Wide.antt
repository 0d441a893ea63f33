-- The pool of a design with an enum of more constants than 64 bits tell does not part its valid states.
use Rattle.std.proofs.Common.{◌≡◌, ℕ, zero, suc, ◌-◌, ◌<◌, false, None, List, [], ◌∷◌, length, map, slice_index, refl, sym, ap, ◌∙◌, subst, arith}
use Rattle.std.specs.Prelude.{All, slice_index_or}
use Rattle.std.proofs.lemmas.List.Elements.{All-nil, All-cons}
use Rattle.tm_syntax.specs.declared.design.Ty.TheVariants as types
use Rattle.tm_syntax.specs.declared.tree.Ident.{Ident}
use Rattle.tm_syntax.specs.Design.{DesignTree}
use Rattle.tm_syntax.specs.Design.Sizes.{bits_of_number}
use Rattle.tm_sem.specs.State.{StateData}
use Rattle.tm_sem.specs.StateBits.{bits_of_numbers, state_bits, state_widths}
use Rattle.tm_sem.specs.Step.{IsState}
use Rattle.tm_game_pool.specs.Separating.{Separates}
use Rattle.tm_flat_pool.specs.Predicates.{of_bit, pool, pool_places, predicate_holds}

abbrev nobody : Ident
nobody = record { text = []; place = record { line = 0; column = 0 } }

-- there are lists of every length
so_many : (n : ℕ) → (xs : List Ident) × (length xs ≡ n)
so_many zero = ([], refl)
so_many (suc n) = let rest = so_many n in (nobody ∷ rest.0, ap suc rest.1)

module _ (constants : List Ident) (count : length constants ≡ 18446744073709551617) where
  abbrev wide : DesignTree
  wide = record {
    spec = record { enums = record { name = nobody; constants = constants } ∷ []; templates = [] };
    instances = [];
    vars = record { path = []; ty = types.Enum []; init = None; instance = 0 } ∷ [];
    processes = [];
    tasks = [];
    goals = [];
    fairs = [];
  }

  abbrev at : ℕ → StateData
  at n = record { values = n ∷ []; places = []; last = 0 }

  widths : state_widths wide ≡ 64 ∷ 1 ∷ []
  widths = ap (λ n. bits_of_number (n - 1) ∷ 1 ∷ []) count

  valid : (n : ℕ) → n < 18446744073709551617 → IsState wide (at n)
  valid n below = record { values = (subst (λ k. n < k) (sym count) below, tt); places = tt; last = omega arith }

  same_bits : state_bits wide (at 0) ≡ state_bits wide (at 18446744073709551616)
  same_bits =
      ap (λ ws. bits_of_numbers ws (0 ∷ 0 ∷ [])) widths
      ∙ sym (ap (λ ws. bits_of_numbers ws (18446744073709551616 ∷ 0 ∷ [])) widths)

  alike : (qs : List ℕ) →
      All (λ p. predicate_holds wide (at 0) p ≡ predicate_holds wide (at 18446744073709551616) p) (map of_bit qs)
  alike [] = All-nil (λ p. predicate_holds wide (at 0) p ≡ predicate_holds wide (at 18446744073709551616) p)
  alike (q ∷ qs) =
      All-cons (λ p. predicate_holds wide (at 0) p ≡ predicate_holds wide (at 18446744073709551616) p) (of_bit q)
      (map of_bit qs) (ap (λ xs. slice_index_or xs q false) same_bits) (alike qs)

  torn : ¬ Separates wide (pool wide)
  torn separates =
      let same = separates (at 0) (at 18446744073709551616) (valid 0 (omega arith)) (valid 18446744073709551616
      (omega arith)) (alike (pool_places wide)) in
      let values : 0 ≡ 18446744073709551616 = ap (λ (s : StateData). slice_index s.values 0) same in
      omega (arith, values)

pub not_all_separate : ¬ ((d : DesignTree) → Separates d (pool d))
not_all_separate every =
    let long = so_many 18446744073709551617 in torn long.0 long.1 (every (wide long.0 long.1))

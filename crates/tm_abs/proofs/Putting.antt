-- The atoms are put back in the places of their levels.
use Rattle.std.proofs.Common.{◌≡◌, inl, inr, ℕ, ◌+◌, ◌<◌, ◌≤◌, Bool, true, List, sym, ◌∙◌, arith}
use Rattle.std.specs.Prelude.{Contains}
use Rattle.std.proofs.lemmas.Bool.{cases_lt}
use Rattle.tm_abs.proofs.Depending.{mixed, mixed_high, mixed_low}
use Rattle.tm_abs.specs.declared.atoms.Atom.{Atom}
use Rattle.tm_abs.specs.Inner.Atoms.{IsAtom}
use Rattle.tm_abs.specs.Inner.Quantified.{AgreeUnmarked, IsQuantified, IsReached, Relates}
use Rattle.tm_dd.specs.declared.node.NodeId.{NodeId}
use Rattle.tm_dd.specs.Table.{Table, Knows, means}
use Rattle.tm_ddops.specs.Quantified.{is_marked_level}
use Rattle.tm_game_bits.specs.Functions.{Assignment, Function}
use Rattle.tm_game_bits.specs.States.{ReadsState}

module _ (s : Table) (gone : List Bool) (told : List Atom) (count : ℕ) (f : Function) (f_reads : ReadsState count f)
    (low : (k : ℕ) → is_marked_level gone k ≡ true → k < count)
    (atoms : (a : Atom) → Contains told a → IsAtom count s a) (put : Assignment → Assignment)
    (at : (v : Assignment) (a : Atom) → Contains told a → put v a.level ≡ means s a.holds v)
    (else_same : (v : Assignment) (k : ℕ) → k < count + 128 → put v k ≡ v k) (quantified id : NodeId)
    (known : Knows s id) (is : IsQuantified s gone told f quantified)
    (put_is : (v : Assignment) → means s id v ≡ means s quantified (put v)) where
  -- a level that is not of a state is not quantified
  stays : (k : ℕ) → count ≤ k → ¬ (is_marked_level gone k ≡ true)
  stays k above marked = let l = low k marked in absurd (omega (arith, l, above))

  put_some : (v : Assignment) → means s id v ≡ true → (w : Assignment) × (f w ≡ true) ×
      ((k : ℕ) → k < count → ¬ (is_marked_level gone k ≡ true) → w k ≡ v k) ×
      ((a : Atom) → Contains told a → means s a.holds w ≡ means s a.holds v)
  put_some v here =
      let found = is.some (put v) (sym (put_is v) ∙ here) in (
        found.0,
        found.3,
        λ k below not_so. found.1 k not_so ∙ else_same v k (omega (arith, below)),
        λ a inside.
            let behind = (atoms a inside).behind in
            sym (found.2 a inside) ∙ found.1 a.level (stays a.level (omega (arith, behind))) ∙ at v a inside,
      )

  -- levels of a state as the second has them, the others as they are put
  abbrev near : Assignment → Assignment → Assignment
  near v w = mixed count w (put v)

  put_enough : (v w : Assignment) → f w ≡ true → AgreeUnmarked gone v w →
      ((a : Atom) → Contains told a → means s a.holds w ≡ means s a.holds v) → means s id v ≡ true
  put_enough v w here agrees alike = put_is v ∙ is.enough (put v) (near v w) near_agrees near_relates near_here
    where
      near_agrees : AgreeUnmarked gone (put v) (near v w)
      near_agrees k not_so =
          elim (cases_lt k count) [
            | inl below ↦
                mixed_low count w (put v) k below ∙ agrees k not_so
                ∙ sym (else_same v k (omega (arith, below)))
            | inr above ↦ mixed_high count w (put v) k above
          ]

      near_reads : (a : Atom) → Contains told a → (k : ℕ) → Contains a.reads.items k → (near v w) k ≡ w k
      near_reads a inside k read =
          let input = (atoms a inside).inputs k read in
          elim (cases_lt k count) [
            | inl below ↦ mixed_low count w (put v) k below
            | inr above ↦
                mixed_high count w (put v) k above ∙ else_same v k input ∙ sym (agrees k (stays k above))
          ]

      near_relates : Relates s told (near v w)
      near_relates a inside =
          let behind = (atoms a inside).behind in
          mixed_high count w (put v) a.level (omega (arith, behind)) ∙ at v a inside ∙ sym (alike a inside)
          ∙ sym ((atoms a inside).reads (near v w) w (near_reads a inside))

      near_here : f (near v w) ≡ true
      near_here = f_reads (near v w) w (λ k below. mixed_low count w (put v) k below) ∙ here

  pub put_back : IsReached s gone told count f id
  put_back = record { known = known; some = put_some; enough = put_enough }

-- What the whole tells of a design.
use Rattle.std.proofs.Common.{◌≡◌, subst}
use Rattle.std.specs.List.{AllZip}
use Rattle.tm_syntax.specs.declared.design.Design.{Design}
use Rattle.tm_syntax.specs.Design.Atoms.{first_atoms}
use Rattle.tm_syntax.specs.Design.View.{design_tree}
use Rattle.tm_term.specs.Table.{Table, IsSound}
use Rattle.tm_term.specs.Value.{Extends}
use Rattle.tm_flat.specs.declared.flat.Flat.{Flat}
use Rattle.tm_flat.specs.Flat.{flat_terms}
use Rattle.tm_flat.specs.IsFlat.{IsFlat}
use Rattle.tm_flat_states.specs.Marks.{MakesSuch}
use Rattle.tm_flat_pool.specs.Predicates.{pool}
use Rattle.tm_flat_pool.specs.PoolTerms.{IsPredicateTerm}
use Rattle.tm_flat_design.specs.Making.{IsWhole}
use Rattle.tm_flat_design.proofs.Parts.{made_here}

module _ (d e : Design) (same : e ≡ d) (t n : Table) (f : Flat)
    (made : MakesSuch t n (IsWhole (design_tree e)) f) where
  whole : IsWhole (design_tree d) n f
  whole =
      subst (λ (k : Design). IsWhole (design_tree k) n f) same (made_here t n (IsWhole (design_tree e)) f made)

  pub flat : IsFlat n (design_tree d) (flat_terms f)
  flat = whole.flat

  pub ids : AllZip (IsPredicateTerm n (design_tree d)) (pool (design_tree d)) f.pool.items
  ids = whole.ids

  pub first : f.first ≡ first_atoms (design_tree d)
  first = whole.first

  pub earlier : Extends t n
  earlier = made.grown

  pub sound : IsSound n
  sound = made.sound

-- Predicates that were made of a design.
use Rattle.std.proofs.Common.{◌≡◌, subst}
use Rattle.std.specs.List.{AllZip}
use Rattle.tm_syntax.specs.declared.design.Design.{Design}
use Rattle.tm_syntax.specs.Design.Atoms.{first_atoms}
use Rattle.tm_syntax.specs.Design.View.{design_tree}
use Rattle.tm_term.specs.Table.{Table}
use Rattle.tm_flat_states.specs.Marks.{MakesSuch}
use Rattle.tm_flat_pool.specs.Predicates.{pool}
use Rattle.tm_flat_pool.specs.PoolTerms.{IsPredicateTerm}
use Rattle.tm_flat_pool.specs.declared.pool.PoolTerms.{PoolTerms}
use Rattle.tm_flat_design.specs.Making.{ArePredicates}

pub predicates_made : (d e : Design) → e ≡ d → (t n : Table) (p : PoolTerms) → p.first ≡ first_atoms (design_tree e) →
    MakesSuch t n
    (λ u (made : PoolTerms). AllZip (IsPredicateTerm u (design_tree e)) (pool (design_tree e)) made.ids.items) p →
    MakesSuch t n (ArePredicates (design_tree d)) p
predicates_made d e same t n p first made =
    subst (λ (k : Design). MakesSuch t n (ArePredicates (design_tree k)) p) same
    (record { grown = made.grown; sound = made.sound; is = λ u later. record { ids = made.is u later; first = first } })

-- The atoms with which the abstraction begins are some of those of the pool.
use Rattle.std.proofs.Common.{◌≡◌, ℕ, ◌^◌, ◌<◌, ◌≤◌, Bool, true, false, cond, not, List, [], ◌∷◌, ◌++◌, length, length-append, sym, ap, ◌∙◌, subst, arith}
use Rattle.std.specs.Prelude.{◌&&◌}
use Rattle.std.specs.List.{flat_map}
use Rattle.tm_syntax.specs.Design.{DesignTree}
use Rattle.tm_syntax.specs.Design.Atoms.{Atom, claim_atoms, first_atoms, is_lasting, pool_atoms, pooled, process_atoms, resolved_atom, task_atoms}
use Rattle.tm_syntax.specs.Faults.Limits.{IsWithinLimits}
use Rattle.tm_atoms.specs.Pool.{is_among, with_atom, with_atoms}
use Rattle.tm_atoms.proofs.Noting.{pooled_is, with_both}

one_longer : (b : Bool) (pool : List Atom) (a : Atom) → length pool ≤ length (cond b (pool ++ a ∷ []) pool)
one_longer true pool a = omega (arith, length-append pool (a ∷ []))
one_longer false pool a = omega arith

module _ (d : DesignTree) where
  -- further atoms leave those that were there
  noted_longer : (pool atoms : List Atom) → length pool ≤ length (with_atoms d pool atoms)
  noted_longer pool [] = omega arith
  noted_longer pool (a ∷ atoms) =
      let one : length pool ≤ length (with_atom d pool a) =
      one_longer (is_lasting (resolved_atom d a) && not (is_among d pool a)) pool a in
      let rest = noted_longer (with_atom d pool a) atoms in
      omega (arith, one, rest)

  pooled_longer : (atoms more : List Atom) → length (pooled d atoms) ≤ length (pooled d (atoms ++ more))
  pooled_longer atoms more =
      let both : with_atoms d (pooled d atoms) more ≡ pooled d (atoms ++ more) =
      ap (λ (l : List Atom). with_atoms d l more) (sym (pooled_is d atoms))
      ∙ sym (with_both d [] atoms more)
      ∙ pooled_is d (atoms ++ more) in
      subst (λ (l : List Atom). length (pooled d atoms) ≤ length l) both (noted_longer (pooled d atoms) more)

  first_within : first_atoms d ≤ length (pool_atoms d)
  first_within =
      let processes = flat_map (process_atoms d) d.processes in
      let tasks = flat_map (task_atoms d) d.tasks in
      omega (
        arith,
        pooled_longer (claim_atoms d) processes,
        pooled_longer (claim_atoms d ++ processes) tasks,
      )

  -- they are few
  pub first_few : (n : ℕ) → IsWithinLimits d → n ≡ first_atoms d → n < 2 ^ 32
  first_few n within is =
      let some = first_within in
      let all : length (pool_atoms d) ≤ 512 = within.atoms in
      omega (arith, some, all, is)

-- The arguments of a task fit into the bits for them, where those of its parameters do.
use Rattle.std.proofs.Common.{◌≡◌, ℕ, ◌+◌, ◌≤◌, Option, None, Some, List, [], ◌∷◌, drop, map, refl, ap, arith}
use Rattle.std.specs.Prelude.{slice_get, sum_by, unwrap_or}
use Rattle.std.proofs.lemmas.List.Sums.{sum_by-cons}
use Rattle.tm_syntax.specs.declared.design.Ty.{Ty}
use Rattle.tm_syntax.specs.declared.design.Ty.TheVariants as types
use Rattle.tm_syntax.specs.declared.tree.Param.{Param}
use Rattle.tm_syntax.specs.Scopes.Names.{type_of}
use Rattle.tm_syntax.specs.Counts.Bodies.{param_bits}
use Rattle.tm_syntax.specs.Design.{DesignTree}
use Rattle.tm_syntax.specs.Design.Cells.{Cell, cell_type}
use Rattle.tm_syntax.specs.Design.Sizes.{type_bits}
use Rattle.tm_sem.specs.Run.{asked_by}
use Rattle.tm_flat.specs.Fitting.{ArgumentsFit}
use Rattle.tm_flat.specs.Inputs.{room, AreSmall}
use Rattle.tm_flat_room.proofs.Targets.{values_fit}

module _ (d : DesignTree) where
  -- the bits of an argument
  abbrev bits_of : Cell → ℕ
  bits_of c = type_bits d.spec (asked_by d (Some c))

  -- those of all are those of the parameters, where the cells have their types
  pub cell_bits : (ps : List Param) (cells : List Cell) →
      map (cell_type d) cells ≡ map (λ (p : Param). Some (type_of p.ty)) ps →
      sum_by bits_of cells ≡ param_bits d.spec ps
  cell_bits [] [] e = refl
  cell_bits [] (c ∷ cs) e = absurd cc
  cell_bits (p ∷ ps) [] e = absurd cc
  cell_bits (p ∷ ps) (c ∷ cs) e =
      let asked : asked_by d (Some c) ≡ type_of p.ty =
      ap (λ (tys : List (Option Ty)). unwrap_or (unwrap_or (slice_get tys 0) None) types.Bool) e in
      let first : bits_of c ≡ type_bits d.spec (type_of p.ty) = ap (type_bits d.spec) asked in
      let rest = cell_bits ps cs (ap (drop 1) e) in
      let own = sum_by-cons bits_of c cs in
      let theirs = sum_by-cons (λ (p : Param). type_bits d.spec (type_of p.ty)) p ps in
      omega (arith, first, rest, own, theirs)

  pub arguments_fit : AreSmall d → (cells : List Cell) (k : ℕ) → k + sum_by bits_of cells ≤ room →
      ArgumentsFit room d cells k
  arguments_fit small [] k far = omega (arith, far)
  arguments_fit small (c ∷ cs) k far =
      let own = sum_by-cons bits_of c cs in (
        values_fit d small (asked_by d (Some c)),
        arguments_fit small cs (k + bits_of c) (omega (arith, far, own)),
      )

-- A sound design of a text has what the terms of what it says of states ask for.
use Rattle.std.proofs.Common.{◌+◌, ◌^◌, ◌<◌, ◌≤◌, List, [], ◌∷◌, length, sym, arith}
use Rattle.std.specs.Prelude.{sum_by}
use Rattle.std.specs.List.{AllByRecursion}
use Rattle.std.proofs.lemmas.List.Sums.{sum_by-cons}
use Rattle.tm_syntax.specs.declared.design.Design.{Design}
use Rattle.tm_syntax.specs.declared.design.Ty.{Ty}
use Rattle.tm_syntax.specs.declared.design.Ty.TheVariants as types
use Rattle.tm_syntax.specs.declared.design.Var.{Var}
use Rattle.tm_syntax.specs.Tree.{SpecTree}
use Rattle.tm_syntax.specs.Tree.View.{spec_tree}
use Rattle.tm_syntax.specs.Design.{DesignTree}
use Rattle.tm_syntax.specs.Design.Sizes.{type_bits}
use Rattle.tm_syntax.specs.Design.View.{design_tree}
use Rattle.tm_syntax.specs.Faults.{IsOfText, IsSound}
use Rattle.tm_syntax.proofs.Limits as limits
use Rattle.tm_typing.specs.HasType.{IsSized}
use Rattle.tm_typing.proofs.Promises.{exprs_typed}
use Rattle.tm_typing.proofs.Sound.{checked}
use Rattle.tm_design.specs.Values.{HasValues, VarFits}
use Rattle.tm_design.proofs.ParamCells.{parameters}
use Rattle.tm_design.proofs.SettledDesigns.{settled}
use Rattle.tm_design.proofs.SettledValues.{values}
use Rattle.tm_flat.specs.Inputs.{first_choice, room}
use Rattle.tm_design.proofs.SizedCalls.{sized_calls}
use Rattle.tm_flat_room.proofs.Room.{are_small}
use Rattle.tm_flat_design.proofs.Alike.{settled_alike}
use Rattle.tm_flat_states.specs.Markable.{IsMarkable}
use Rattle.tm_flat_design.proofs.Conditions.{conditions_typed}

-- a type has a bit, or more
has_bit : (spec : SpecTree) (v : Var) → VarFits spec v → 1 ≤ type_bits spec v.ty
has_bit spec v fits = by v.ty fits.sized
  where
    by : (ty : Ty) → IsSized ty → 1 ≤ type_bits spec ty
    by types.Bool is = omega arith
    by (types.Uint w) is = is.low
    by (types.Enum name) is = omega arith

-- so there are no more variables than bits
variables_within : (spec : SpecTree) (vs : List Var) → AllByRecursion (VarFits spec) vs →
    length vs ≤ sum_by (λ (v : Var). type_bits spec v.ty) vs
variables_within spec [] all = omega arith
variables_within spec (v ∷ vs) all =
    let rest = variables_within spec vs all.1 in
    let first = has_bit spec v all.0 in
    omega (arith, rest, first, sum_by-cons (λ (v : Var). type_bits spec v.ty) v vs)

few_inputs : (d : DesignTree) → IsSound d → HasValues d → first_choice d + (room + room) < 2 ^ 32
unfolding room
few_inputs d sound has =
    let bits = limits.few_bits d sound in
    let processes = limits.few_processes d sound in
    let vars = variables_within d.spec d.vars has.variables in
    omega (arith, bits, processes, vars)

pub markable : (d : Design) → IsSound (design_tree d) → IsOfText (design_tree d).spec → IsMarkable d
markable d sound of =
    let tree = design_tree d in
    let typed = checked tree sound of in
    let has = values tree typed sound.numbered in
    record {
      values = has;
      conditions = conditions_typed d (exprs_typed (spec_tree d.spec) typed);
      settled = λ e has.
          settled_alike tree e (sym has.text) (sym has.instances) (sym has.vars) (settled tree sound of);
      arguments = record { parameters = parameters tree typed sound.numbered; sized = sized_calls tree sound of };
      small = are_small d sound of;
      few = few_inputs tree sound has;
    }

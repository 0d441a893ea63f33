-- The controllable tasks of a sound design of a text may be called.
use Rattle.std.proofs.Common.{◌+◌, ◌<◌, ◌^◌, List, length, sym, arith}
use Rattle.tm_syntax.specs.declared.design.Design.{Design}
use Rattle.tm_syntax.specs.Design.{DesignTree}
use Rattle.tm_syntax.specs.Design.View.{design_tree}
use Rattle.tm_syntax.specs.Faults.{IsOfText, IsSound}
use Rattle.tm_syntax.proofs.Limits.{few_processes}
use Rattle.tm_typing.proofs.FewVariables.{few_vars}
use Rattle.tm_locations.specs.declared.table.Locations.{Locations}
use Rattle.tm_design.proofs.SizedCalls.{sized_calls}
use Rattle.tm_plain.specs.Machine.{AreLocated}
use Rattle.tm_flat.specs.BitStep.{HasRoom}
use Rattle.tm_flat.specs.Inputs.{first_choice, room}
use Rattle.tm_flat_room.proofs.Room.{are_small, design_has_room}
use Rattle.tm_flat_design.proofs.FitsAlike.{items_alike}
use Rattle.tm_flat_design.proofs.Walking.{walkable}
use Rattle.tm_flat_moves.specs.Callable.{AreCallable}
use Rattle.tm_flat_moves.specs.Calls.{call_items}

-- the inputs have numbers of 32 bits
few_inputs : (d : DesignTree) → IsSound d → first_choice d + (room + room) < 2 ^ 32
unfolding room
few_inputs d sound =
    let vars = few_vars d sound in
    let processes = few_processes d sound in
    omega (arith, vars, processes)

pub callable : (d : Design) → IsSound (design_tree d) → IsOfText (design_tree d).spec → (all : List Locations) →
    AreLocated d (length d.processes.items) all → AreCallable d all
callable d sound of all located =
    let tree = design_tree d in
    let enough : HasRoom tree = design_has_room d sound of in
    record {
      located = located;
      walkable = λ l p are. walkable d sound of l p (first_choice tree) are;
      sized = sized_calls tree sound of;
      fits = λ e has n c is.
          items_alike tree e (sym has.text) (sym has.instances) (sym has.vars) room (call_items c) 0
          (enough.tasks n c is);
      arguments = enough.arguments;
      small = are_small d sound of;
      few = few_inputs tree sound;
    }

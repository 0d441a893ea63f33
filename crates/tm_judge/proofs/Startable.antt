-- The guarded updates of a sound design of a text are such as a game is made from.
use Rattle.std.proofs.Common.{◌≤◌, length, map, refl, ap, arith}
use Rattle.std.specs.Prelude.{not, sum}
use Rattle.std.specs.List.{AllZip, range_with_len}
use Rattle.std.proofs.lemmas.List.{length-append, length-map}
use Rattle.std.proofs.lemmas.List.Elements.{All-weaker}
use Rattle.std.proofs.lemmas.List.FromFn.{length-range_with_len}
use Rattle.std.proofs.lemmas.List.Sums.{count_by-le-length, length-filter}
use Rattle.std.proofs.lemmas.Slice.Zip.{AllZip-long}
use Rattle.tm_base.specs.Arithmetic.{IsWidth}
use Rattle.tm_flat.specs.declared.flat.Flat.{Flat}
use Rattle.tm_flat.specs.Flat.{flat_terms}
use Rattle.tm_flat.specs.Inputs.{room}
use Rattle.tm_flat.specs.IsFlat.{IsFlat}
use Rattle.tm_flat.proofs.Widths.{few_state_bits}
use Rattle.tm_game.specs.Start.{CanStart}
use Rattle.tm_game.proofs.Ordered.{count_inputs, widths_are}
use Rattle.tm_game.proofs.Shapes.{length-state_widths}
use Rattle.tm_flat_states.specs.Markable.{IsMarkable}
use Rattle.tm_flat_pool.specs.Predicates.{of_atom, of_bit, is_atom, pool, pool_places}
use Rattle.tm_flat_pool.specs.PoolTerms.{IsPredicateTerm}
use Rattle.tm_flat_room.proofs.Room.{design_has_room}
use Rattle.tm_design.proofs.FewPlaces.{few_places}
use Rattle.tm_sem.specs.StateBits.{state_widths}
use Rattle.tm_syntax.specs.declared.design.Design.{Design}
use Rattle.tm_syntax.specs.Design.{DesignTree}
use Rattle.tm_syntax.specs.Design.Atoms.{pool_atoms}
use Rattle.tm_syntax.specs.Design.View.{design_tree}
use Rattle.tm_syntax.specs.Faults.{IsOfText, IsSound}
use Rattle.tm_term.specs.Table.{Table}
use Rattle.tm_flat_design.proofs.WideInputs.{widths_wide}

module _ (d : DesignTree) (sound : IsSound d) where
  -- a design has few predicates
  few_predicates : length (pool d) ≤ 2752
  few_predicates =
      let bits = range_with_len 0 (sum (state_widths d)) in
      omega (
        arith,
        length-append (map of_atom (pool_atoms d)) (map of_bit (pool_places d)),
        length-map (pool_atoms d) of_atom,
        length-map (pool_places d) of_bit,
        sound.within.atoms,
        length-filter (λ place. not (is_atom d place)) bits,
        count_by-le-length (λ place. not (is_atom d place)) bits,
        length-range_with_len 0 (sum (state_widths d)),
        few_state_bits d sound,
      )

-- all that a game asks for
pub can_start : (d : Design) → IsSound (design_tree d) → IsOfText (design_tree d).spec → IsMarkable d → (t : Table)
    (f : Flat) → IsFlat t (design_tree d) (flat_terms f) →
    AllZip (IsPredicateTerm t (design_tree d)) (pool (design_tree d)) f.pool.items →
    CanStart (design_tree d) t (flat_terms f)
unfolding room
can_start d sound of markable t f flat predicates =
    let tree = design_tree d in
    let widths = widths_wide d d refl f.widths flat.widths markable.values in
    record {
      flat = flat;
      room = design_has_room d sound of;
      small = markable.small;
      design = sound.numbered;
      inputs = omega (
        arith,
        ap length flat.inputs,
        ap length flat.widths,
        count_inputs t tree (flat_terms f) flat,
        length-state_widths tree,
        markable.few,
      );
      wide = All-weaker IsWidth (λ w. w ≤ 64) (λ w is. is.1) f.widths.items widths;
      locations = (few_places tree sound of).places;
      levels = omega (
        arith,
        ap sum (widths_are t tree (flat_terms f) flat),
        few_state_bits tree sound,
        AllZip-long (IsPredicateTerm t tree) (pool tree) f.pool.items predicates,
        few_predicates tree sound,
      );
    }

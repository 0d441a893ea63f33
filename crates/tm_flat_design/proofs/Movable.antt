-- A sound design of a text has what the steps of its processes ask for.
use Rattle.std.proofs.Common.{◌≡◌, ℕ, ◌+◌, ◌<◌, ◌^◌, List, get_or, length, refl, sym, ◌∙◌, subst, arith}
use Rattle.std.proofs.lemmas.Option.{slice_get-get_or}
use Rattle.std.proofs.lemmas.Slice.Zip.{AllZip-long}
use Rattle.tm_syntax.specs.declared.design.Design.{Design}
use Rattle.tm_syntax.specs.Design.{DesignTree}
use Rattle.tm_syntax.specs.Design.Locations.{end_number, locations, rest}
use Rattle.tm_syntax.specs.Design.View.{design_tree}
use Rattle.tm_term.specs.Table.{Table, IsSound}
use Rattle.tm_term.specs.Value.{Extends}
use Rattle.tm_flat.specs.Inputs.{first_choice, room}
use Rattle.tm_locations.specs.Locations.{AreLocations, IsRow, LocationTable, table_of}
use Rattle.tm_locations.specs.declared.table.Locations.{Locations}
use Rattle.tm_plain.specs.Machine.{AreLocated, IsRunnable}
use Rattle.tm_flat_states.specs.Marks.{MakesSuch}
use Rattle.tm_flat_moves.specs.Items.{MayBeWalked}
use Rattle.tm_flat_design.specs.Tables.{walk_tables}
use Rattle.tm_syntax.specs.Faults as faults
use Rattle.tm_syntax.specs.Faults.{IsOfText}
use Rattle.tm_flat.specs.declared.flat.FlatStep.{FlatStep}
use Rattle.tm_flat.specs.BitStep.{HasRoom}
use Rattle.tm_flat_moves.specs.Movable.{IsMovable, tables_by}
use Rattle.tm_flat_moves.specs.declared.mover.Mover.{Mover}
use Rattle.tm_flat_room.proofs.Room.{are_small, design_has_room}
use Rattle.tm_design.proofs.FewPlaces.{few_places}
use Rattle.tm_flat_bodies.specs.Walks.{WalkTables}
use Rattle.tm_flat_design.proofs.Walking.{walkable}
use Rattle.tm_flat_design.specs.Making.{AreOver, AreSteps, MayMove}

-- what is asked of a design and its tables stays so where terms are added
pub movable_later : (w : WalkTables) (d : DesignTree) (p : ℕ) (t n : Table) → Extends t n → IsSound n →
    IsMovable w d p t → IsMovable w d p n
movable_later w d p t n grown sound is = record {
  walkable = is.walkable;
  cells = is.cells;
  are = is.are;
  fits = is.fits;
  small = is.small;
  first = is.first;
  few = is.few;
  places = is.places;
  inputs = grown.inputs ∙ is.inputs;
  sound = sound;
}

pub moves_later : (m : Mover) (t n : Table) → Extends t n → IsSound n → MayMove m t → MayMove m n
moves_later m t n grown sound may = record {
  process = may.process;
  movable = movable_later (tables_by m) (design_tree m.design.now) m.process t n grown sound may.movable;
  work = may.work;
}

-- the end of a process is behind the last of its locations
pub end_is : (t : LocationTable) (d : DesignTree) (p : ℕ) → AreLocations t d p → length t.rows + 1 ≡ end_number d p
end_is t d p are = omega (arith, AllZip-long (IsRow t.trails t.rests) t.rows (locations d p) are.rows)

-- what is left at the locations of designs may be walked
abbrev pub LeftWalks : Type 0
LeftWalks =
    (d : Design) → faults.IsSound (design_tree d) → IsOfText (design_tree d).spec → HasRoom (design_tree d) →
    (l : LocationTable) (first p k : ℕ) → MayBeWalked (walk_tables d l first) (rest (design_tree d) p k)

-- a mover over the tables of a design may make the steps of its process
may_move : LeftWalks → (m : Mover) (t : Table) → IsRunnable m.design.now →
    first_choice (design_tree m.design.now) + (room + room) < 2 ^ 32 →
    m.process < length m.design.now.processes.items →
    AreLocations (table_of m.locations.now) (design_tree m.design.now) m.process → AreOver m.design.now t → MayMove m t
may_move walks m t runnable few within are over =
    let d = m.design.now in
    let has_room = design_has_room d runnable.sound runnable.read in record {
      process = within;
      movable = record {
        walkable = walkable d runnable.sound runnable.read (table_of m.locations.now) m.process
            (first_choice (design_tree d)) are;
        cells = record { text = refl; instances = refl; vars = refl };
        are = are;
        fits = has_room;
        small = are_small d runnable.sound runnable.read;
        first = refl;
        few = few;
        places = (few_places (design_tree d) runnable.sound runnable.read).places m.process;
        inputs = over.inputs;
        sound = over.sound;
      };
      work = λ k.
          walks d runnable.sound runnable.read has_room (table_of m.locations.now) (first_choice (design_tree d))
          m.process k;
    }

-- so may one that was made of these
pub moves_of : LeftWalks → (m : Mover) (d : Design) (l : Locations) (p : ℕ) (t : Table) →
    m.design.now ≡ d → m.locations.now ≡ l → m.process ≡ p → IsRunnable d →
    first_choice (design_tree d) + (room + room) < 2 ^ 32 → p < length d.processes.items →
    AreLocations (table_of l) (design_tree d) p → AreOver d t → MayMove m t
moves_of walks m d l p t design located process runnable few within are over =
    may_move walks m t (subst IsRunnable (sym design) runnable)
    (subst (λ (k : Design). first_choice (design_tree k) + (room + room) < 2 ^ 32) (sym design) few)
    (subst (λ q. q < length m.design.now.processes.items) (sym process)
    (subst (λ (k : Design). p < length k.processes.items) (sym design) within))
    (subst (λ q. AreLocations (table_of m.locations.now) (design_tree m.design.now) q) (sym process)
    (subst (λ (k : Design). AreLocations (table_of m.locations.now) (design_tree k) p) (sym design)
    (subst (λ (k : Locations). AreLocations (table_of k) (design_tree d) p) (sym located) are)))
    (subst (λ (k : Design). AreOver k t) (sym design) over)

-- the locations of the process of a number, among those of all
pub located_at : (d : Design) (count : ℕ) (all : List Locations) → AreLocated d count all → (p : ℕ) → p < count →
    (l : Locations) → AreLocations (table_of (get_or all p l)) (design_tree d) p
located_at d count all located p within l =
    located.each p (get_or all p l) (slice_get-get_or all p l (omega (arith, within, located.are)))

-- steps that were made of a mover are those of its process
pub steps_of_mover : (m : Mover) (d : Design) (p count : ℕ) (t n : Table) (steps : List FlatStep) → m.design.now ≡ d →
    m.process ≡ p → MakesSuch t n (AreSteps (design_tree m.design.now) m.process count) steps → (last : ℕ) →
    count ≡ last → MakesSuch t n (AreSteps (design_tree d) p last) steps
steps_of_mover m d p count t n steps design process made last at =
    subst (λ (k : ℕ). MakesSuch t n (AreSteps (design_tree d) p k) steps) at
    (subst (λ (k : ℕ). MakesSuch t n (AreSteps (design_tree d) k count) steps) process
    (subst (λ (k : Design). MakesSuch t n (AreSteps (design_tree k) m.process count) steps) design made))

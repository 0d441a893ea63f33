-- The upper part of a set by diagrams is the union of the cells that meet it.
use Rattle.std.proofs.Common.{◌≡◌, ◌⊎◌, inl, inr, ℕ, ◌<◌, Bool, true, List, cond, length, refl, sym, ap, ◌∙◌, subst, arith, true≢false}
use Rattle.std.proofs.Math.Logic.{∥∥₁_elim}
use Rattle.std.proofs.Props.{props}
use Rattle.std.specs.Prelude.{◌↔◌, ◌&&◌, Contains, slice_index_or}
use Rattle.std.proofs.lemmas.Bool.{and_from, and_parts, cases_lt}
use Rattle.std.proofs.lemmas.List.Elements.{All-contains, Contains-get_or}
use Rattle.tm_abs.proofs.Depending.{mixed, mixed_high, mixed_low}
use Rattle.tm_abs.specs.declared.atoms.Atom.{Atom}
use Rattle.tm_abs.specs.Inner.Atoms.{AreTracked, IsAtom, IsKept, IsShown, ReadsNone, ReadsWithin}
use Rattle.tm_abs.specs.Inner.Quantified.{IsReached}
use Rattle.tm_abs.specs.Inner.Reading.{ReadsOnly, TellsOne}
use Rattle.tm_dd.specs.declared.node.NodeId.{NodeId}
use Rattle.tm_dd.specs.Table.{Table, Knows, means}
use Rattle.tm_ddops.specs.Manager.{IsFunction}
use Rattle.tm_ddops.specs.Quantified.{is_marked_level}
use Rattle.tm_flat_pool.specs.Cells.{IsInUpper, SameCell}
use Rattle.tm_flat_pool.specs.Predicates.{Predicate, predicate_holds}
use Rattle.tm_game.specs.Game.{GameData, IsStates}
use Rattle.tm_game_bits.proofs.Leading.{not_true, true_or_false}
use Rattle.tm_game_bits.specs.AssignedStates.{assignment_of, coding_of, state_of}
use Rattle.tm_game_bits.specs.Coding.{IsCoding}
use Rattle.tm_game_bits.specs.Functions.{Assignment, Function}
use Rattle.tm_game_bits.specs.States.{AreOneState, ReadsState}
use Rattle.tm_sem.specs.State.{StateData}
use Rattle.tm_sem.specs.Step.{IsState}
use Rattle.tm_syntax.specs.Design.{DesignTree}

-- marked levels as one assignment has them, the others as another
abbrev picked : List Bool → Assignment → Assignment → Assignment
picked gone w v k = cond (is_marked_level gone k) (w k) (v k)

picked_in : (gone : List Bool) (w v : Assignment) (k : ℕ) → is_marked_level gone k ≡ true → picked gone w v k ≡ w k
picked_in gone w v k is = ap (λ (b : Bool). cond b (w k) (v k)) is

picked_out : (gone : List Bool) (w v : Assignment) (k : ℕ) → ¬ (is_marked_level gone k ≡ true) →
    picked gone w v k ≡ v k
picked_out gone w v k not_so =
    ap (λ (b : Bool). cond b (w k) (v k)) (not_true (is_marked_level gone k) not_so)

module _ (d : DesignTree) (g : GameData) (coding : IsCoding d (coding_of d g.order)) (s : Table)
    (predicates : List Predicate) (free gone : List Bool) (all joined left : List Atom)
    (tracked : ∥ AreTracked d g s predicates free all ∥₁) (count : length free ≡ length g.order)
    (parted : (a : Atom) → Contains all a ↔ (Contains joined a ⊎ Contains left a))
    (atoms : (a : Atom) → Contains all a → IsAtom (length g.order) s a)
    (within : (a : Atom) → Contains joined a → ReadsWithin free gone a.reads.items)
    (none : (a : Atom) → Contains left a → ReadsNone gone a.reads.items)
    (low : (k : ℕ) → is_marked_level gone k ≡ true → k < length g.order)
    (only_free : (k : ℕ) → is_marked_level gone k ≡ true → is_marked_level free k ≡ true)
    (set : NodeId) (reads : List ℕ) (reads_are : ReadsOnly s set reads)
    (set_within : ReadsWithin free gone reads)
    (set_reads : ReadsState (length g.order) (means s set))
    (set_valid : (v : Assignment) → means s set v ≡ true → IsState d (state_of d g.order v)) where
  kept_low : (k : ℕ) → IsKept free k → k < length g.order
  kept_low k kept = let below = kept.0 in omega (arith, below, count)

  kept_stays : (k : ℕ) → IsKept free k → ¬ (is_marked_level gone k ≡ true)
  kept_stays k kept is = true≢false (sym (only_free k is) ∙ kept.1)

  -- an atom has one value at values of one valid state
  atom_state : (a : Atom) → Contains all a → (v w : Assignment) → IsState d (state_of d g.order v) →
      AreOneState (length g.order) v w → means s a.holds v ≡ means s a.holds w
  atom_state a inside v w valid same =
      ∥∥₁_elim tracked (hlevel props)
      (λ is.
      let told =
      All-contains (λ (b : Atom). TellsOne d g.order predicates (means s b.holds)) all a is.told inside in
      let one = coding.same v w same in
      told.2 v valid ∙ ap (λ (t : StateData). predicate_holds d t told.0) one
      ∙ sym (told.2 w (subst (IsState d) one valid)))

  module _ (id : NodeId) (reached : IsReached s gone joined (length g.order) (means s set) id) where
    -- ---- where the diagram is true
    module _ (v : Assignment) (w : Assignment) (there : means s set w ≡ true)
        (agrees : (k : ℕ) → k < length g.order → ¬ (is_marked_level gone k ≡ true) → w k ≡ v k)
        (alike : (a : Atom) → Contains joined a → means s a.holds w ≡ means s a.holds v) where
      left_alike : (a : Atom) → Contains all a → Contains left a → means s a.holds w ≡ means s a.holds v
      left_alike a inside is_left =
          atom_state a inside w (mixed (length g.order) w v) (set_valid w there)
          (λ k below. sym (mixed_low (length g.order) w v k below))
          ∙ (atoms a inside).reads (mixed (length g.order) w v) v (λ k read.
          elim (cases_lt k (length g.order)) [
            | inl below ↦ mixed_low (length g.order) w v k below ∙ agrees k below (none a is_left k read)
            | inr above ↦ mixed_high (length g.order) w v k above
          ])

      shown_alike : (f : Function) → IsShown s free all f → f w ≡ f v
      shown_alike f (inl bit) =
          (λ i. bit.2 i w)
          ∙ agrees bit.0 (kept_low bit.0 bit.1) (kept_stays bit.0 bit.1)
          ∙ sym (λ i. bit.2 i v)
      shown_alike f (inr atom) =
          (λ i. atom.2 i w)
          ∙ elim ((parted atom.0).0 atom.1) [
            | inl is ↦ alike atom.0 is
            | inr is ↦ left_alike atom.0 atom.1 is
          ]
          ∙ sym (λ i. atom.2 i v)

      one_cell : IsState d (state_of d g.order v) → SameCell d predicates (state_of d g.order v) (state_of d g.order w)
      one_cell valid k x below =
          ∥∥₁_elim tracked (hlevel props)
          (λ is.
          let shown = is.each (slice_index_or predicates k x) (Contains-get_or predicates k x below) in
          sym (shown.2 v valid) ∙ sym (shown_alike shown.0 shown.1) ∙ shown.2 w (set_valid w there))

      meets : IsState d (state_of d g.order v) →
          IsInUpper d predicates (λ t. means s set (assignment_of d g.order t)) (state_of d g.order v)
      meets valid = record {
        valid = valid;
        meets = (
          state_of d g.order w,
          set_valid w there,
          one_cell valid,
          set_reads (assignment_of d g.order (state_of d g.order w)) w
              (coding.one (assignment_of d g.order (state_of d g.order w)) w (coding.again w))
              ∙ there,
        );
      }

    pub reached_meets : (v : Assignment) → IsState d (state_of d g.order v) → means s id v ≡ true →
        IsInUpper d predicates (λ t. means s set (assignment_of d g.order t)) (state_of d g.order v)
    reached_meets v valid here =
        let found = reached.some v here in meets v found.0 found.1 found.2 found.3 valid

    -- ---- where a state of the cell is in the set
    module _ (v : Assignment) (valid : IsState d (state_of d g.order v)) (t : StateData) (t_valid : IsState d t)
        (cell : SameCell d predicates (state_of d g.order v) t)
        (there : means s set (assignment_of d g.order t) ≡ true) where
      abbrev w : Assignment
      w = assignment_of d g.order t

      abbrev near : Assignment
      near = mixed (length g.order) w v

      abbrev chosen : Assignment
      chosen = picked gone w v

      told : (p : Predicate) → Contains predicates p →
          predicate_holds d (state_of d g.order v) p ≡ predicate_holds d t p
      told p inside =
          All-contains (λ (q : Predicate). predicate_holds d (state_of d g.order v) q ≡ predicate_holds d t q)
          predicates p cell inside

      near_is : state_of d g.order near ≡ t
      near_is =
          coding.same near w (λ k below. mixed_low (length g.order) w v k below) ∙ coding.back t t_valid

      bit_same : (k : ℕ) → IsKept free k → v k ≡ w k
      bit_same k is =
          ∥∥₁_elim tracked (hlevel props)
          (λ are.
          let bit = are.bits k is in
          bit.2 v valid ∙ told bit.0 bit.1 ∙ sym (ap (λ (u : StateData). predicate_holds d u bit.0)
          (coding.back t t_valid)) ∙ sym (bit.2 w (subst (IsState d) (sym (coding.back t t_valid)) t_valid)))

      -- levels that are kept or quantified
      read_same : (levels : List ℕ) → ReadsWithin free gone levels → (k : ℕ) → Contains levels k →
          chosen k ≡ near k
      read_same levels inside k read =
          elim (cases_lt k (length g.order)) [
            | inr above ↦
                picked_out gone w v k (λ is. let l = low k is in absurd (omega (arith, l, above)))
                ∙ sym (mixed_high (length g.order) w v k above)
            | inl below ↦
                below_same k below
                (elim (true_or_false (is_marked_level free k)) [
                  | inl is ↦ inr (inside k read is)
                  | inr not_so ↦ inl (omega (arith, below, count), not_so)
                ])
          ]
        where
          below_same : (k : ℕ) → k < length g.order →
              IsKept free k ⊎ (is_marked_level gone k ≡ true) → chosen k ≡ near k
          below_same k below (inr is) = picked_in gone w v k is ∙ sym (mixed_low (length g.order) w v k below)
          below_same k below (inl is) =
              picked_out gone w v k (kept_stays k is) ∙ bit_same k is
              ∙ sym (mixed_low (length g.order) w v k below)

      chosen_there : means s set chosen ≡ true
      chosen_there =
          reads_are chosen near (read_same reads set_within)
          ∙ set_reads near w (λ k below. mixed_low (length g.order) w v k below) ∙ there

      atom_same : (a : Atom) → Contains joined a → means s a.holds chosen ≡ means s a.holds v
      atom_same a is =
          let inside = (parted a).1 (inl is) in
          ∥∥₁_elim tracked (hlevel props)
          (λ are.
          let one =
          All-contains (λ (b : Atom). TellsOne d g.order predicates (means s b.holds)) all a are.told inside in
          (atoms a inside).reads chosen near (read_same a.reads.items (within a is))
          ∙ one.2 near (subst (IsState d) (sym near_is) t_valid)
          ∙ ap (λ (u : StateData). predicate_holds d u one.0) near_is ∙ sym (told one.0 one.1)
          ∙ sym (one.2 v valid))

      reached_there : means s id v ≡ true
      reached_there =
          reached.enough v chosen chosen_there (λ k not_so. picked_out gone w v k not_so) atom_same

    pub meets_reached : (v : Assignment) →
        IsInUpper d predicates (λ t. means s set (assignment_of d g.order t)) (state_of d g.order v) →
        means s id v ≡ true
    meets_reached v h =
        reached_there v h.valid h.meets.0 h.meets.1 h.meets.2 h.meets.3

    -- the valid states at which the diagram is true
    pub upper_states : (valid final : NodeId) → IsStates d g.order s (λ t. Unit {0}) valid →
        IsFunction s final (λ v. means s valid v && means s id v) →
        IsStates d g.order s (IsInUpper d predicates (λ t. means s set (assignment_of d g.order t))) final
    upper_states valid final valid_is both = record {
      known = both.known;
      only = λ v h.
          let is = and_parts (means s valid v) (means s id v) (sym (both.meaning v) ∙ h) in
          let state = (valid_is.only v is.0).0 in
          (state, reached_meets v state is.1);
      all = λ v h.
          both.meaning v
          ∙ and_from (means s valid v) (means s id v) (valid_is.all v (h.0, tt)) (meets_reached v h.1);
    }

  -- where no level is quantified, the set is its own part
  pub set_states : Knows s set → ((k : ℕ) → ¬ (is_marked_level gone k ≡ true)) →
      IsStates d g.order s (IsInUpper d predicates (λ t. means s set (assignment_of d g.order t))) set
  set_states known no_level = record {
    known = known;
    only = λ v h. (set_valid v h, reached_meets set itself v (set_valid v h) h);
    all = λ v h. meets_reached set itself v h.1;
  }
    where
      itself : IsReached s gone joined (length g.order) (means s set) set
      itself = record {
        known = known;
        some = λ v h. (v, h, (λ k below not_so. refl), λ a inside. refl);
        enough = λ v w there agrees alike.
            sym (λ i. means s set (λ k. agrees k (no_level k) i)) ∙ there;
      }

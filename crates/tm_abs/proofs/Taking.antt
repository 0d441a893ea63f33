-- The turns are taken from the last one on.
use Rattle.std.proofs.Common.{◌≡◌, ◌⊎◌, inl, inr, ℕ, zero, suc, ◌+◌, ◌<◌, ◌≤◌, Bool, true, List, [], ◌∷◌, ◌++◌, length, take, refl, sym, ap, ◌∙◌, subst, arith}
use Rattle.std.specs.Prelude.{All, Contains, slice_index_or}
use Rattle.std.proofs.lemmas.Bool.{cases_eq}
use Rattle.std.proofs.lemmas.List.{get_or-take, get_or_at, get_or_default, length-take, length_push, take-take, take_at}
use Rattle.std.proofs.lemmas.List.Elements.{All-contains}
use Rattle.tm_abs.proofs.Marking.{marked_within}
use Rattle.tm_abs.proofs.Turning.{turn_taken}
use Rattle.tm_abs.specs.declared.atoms.Atom.{Atom}
use Rattle.tm_abs.specs.declared.turns.Turn.{Turn}
use Rattle.tm_abs.specs.Inner.Atoms.{IsAtom}
use Rattle.tm_abs.specs.Inner.Eliminated.{AgreeBeside, IsEliminated, IsEliminatedFrom, IsGoneFrom, RelatesFrom}
use Rattle.tm_abs.specs.Inner.Quantified.{IsPutTo, IsQuantified}
use Rattle.tm_abs.specs.Inner.Turns.{AreTurnsOf}
use Rattle.tm_dd.specs.declared.node.NodeId.{NodeId}
use Rattle.tm_dd.specs.Reduced.{Extends}
use Rattle.tm_dd.specs.Table.{Table, Knows, means}
use Rattle.tm_ddops.specs.Quantified.{IsExists, is_marked_level}
use Rattle.tm_game_bits.specs.Functions.{Assignment, Function}

-- the item at a place
pub some_at : {X : Type 0} → (xs : List X) (n : ℕ) → n < length xs → (x : X) × (slice_index_or xs n x ≡ x)
some_at [] n below = absurd (omega arith)
some_at (x ∷ xs) zero below = (x, refl)
some_at (x ∷ xs) (suc n) below = some_at xs n (omega (arith, below))

-- the last item is taken from the first ones of a list
pub popped : {X : Type 0} → (whole old new : List X) (x : X) → old ≡ take (length old) whole → old ≡ new ++ x ∷ [] →
    (new ≡ take (length new) whole) × (length new < length whole) × (slice_index_or whole (length new) x ≡ x)
popped {X} whole old new x front pushed =
    let long : length old ≡ length new + 1 = ap length pushed ∙ length_push new x in
    let within : length old ≤ length whole = omega (arith, ap length front, length-take (length old) whole) in (
      sym (take_at new (x ∷ []) (length new) refl) ∙ ap (take (length new)) (sym pushed ∙ front)
          ∙ take-take (length new) (length old) whole (omega (arith, long)),
      omega (arith, long, within),
      sym (get_or-take (length old) whole (length new) x (omega (arith, long)))
          ∙ ap (λ (xs : List X). slice_index_or xs (length new) x) (sym front ∙ pushed)
          ∙ get_or_at new x [] x (length new) refl,
    )

-- what is eliminated stays eliminated where the levels and the relation are said in another way
eliminated_same : (P Q : ℕ → Type 0) (R S : Assignment → Type 0) (f g : Function) → ((k : ℕ) → P k → Q k) →
    ((k : ℕ) → Q k → P k) → ((w : Assignment) → R w → S w) → ((w : Assignment) → S w → R w) →
    IsEliminated P R f g → IsEliminated Q S f g
eliminated_same P Q R S f g there back to from is = record {
  some = λ v h.
      let found = is.some v h in
      (found.0, (λ k beside. found.1 k (λ p. beside (there k p))), to found.0 found.2, found.3);
  enough = λ v w agrees related here.
      is.enough v w (λ k beside. agrees k (λ q. beside (back k q))) (from w related) here;
}

module _ (s : Table) (gone : List Bool) (atoms : List Atom) (unread : List ℕ) (turns : List Turn)
    (are : AreTurnsOf gone atoms unread turns) (is_atoms : All (IsAtom (length gone) s) atoms) where
  gone_from : (n k : ℕ) → IsGoneFrom unread turns n k → is_marked_level gone k ≡ true
  gone_from n k (inl free) = are.unread_gone k free
  gone_from n k (inr h) =
      let below = h.3 in
      let long = are.count in
      let atom = some_at atoms h.0 (omega (arith, below, long)) in
      subst (λ (t : Turn). Contains t.ends.items k → is_marked_level gone k ≡ true) h.4
      ((are.each h.0 h.1 atom.0 (omega (arith, below, long))).ends k) h.5

  -- what a turn that is not taken yet knows of its atom
  module _ (n : ℕ) (t : Turn) (below : n < length turns) (here : slice_index_or turns n t ≡ t) where
    pub atom_below : n < length atoms
    atom_below = let long = are.count in omega (arith, below, long)

    abbrev atom : Atom
    atom = (some_at atoms n atom_below).0

    atom_here : slice_index_or atoms n atom ≡ atom
    atom_here = (some_at atoms n atom_below).1

    pub turn_atom : IsAtom (length gone) s atom
    turn_atom = All-contains (IsAtom (length gone) s) atoms atom is_atoms (n, atom_below, atom_here)

    pub turn_level : t.level ≡ atom.level
    turn_level =
        ap (λ (x : Turn). x.level) (sym here) ∙ (are.each n t atom atom_below).level
        ∙ ap (λ (a : Atom). a.level) atom_here

    pub turn_holds : t.holds ≡ atom.holds
    turn_holds =
        ap (λ (x : Turn). x.holds) (sym here) ∙ (are.each n t atom atom_below).holds
        ∙ ap (λ (a : Atom). a.holds) atom_here

    pub turn_known : Knows s t.holds
    turn_known = subst (Knows s) (sym turn_holds) turn_atom.known

    pub turn_there : t.level < s.levels
    turn_there = let there = turn_atom.there in omega (arith, there, turn_level)

    -- no level is quantified that it reads, nor its own
    stays : ¬ IsGoneFrom unread turns (n + 1) t.level
    stays h =
        let within = marked_within gone t.level (gone_from (n + 1) t.level h) in
        let behind = turn_atom.behind in
        omega (arith, within, behind, turn_level)

    unread_so_far : (k : ℕ) → Contains atom.reads.items k → ¬ IsGoneFrom unread turns (n + 1) k
    unread_so_far k read (inl free) = are.unread_by k atom free (n, atom_below, atom_here) read
    unread_so_far k read (inr h) =
        let after = h.2 in
        let inside = h.3 in
        let long = are.count in
        let other = some_at atoms h.0 (omega (arith, inside, long)) in
        subst (λ (x : Turn). Contains x.ends.items k → ⊥) h.4
        (λ ends. (are.each h.0 h.1 other.0 (omega (arith, inside, long))).later k n atom (omega (arith, after)) ends
        (subst (λ (a : Atom). Contains a.reads.items k) (sym atom_here) read)) h.5

    reads_so_far : (v w : Assignment) → AgreeBeside (IsGoneFrom unread turns (n + 1)) v w →
        means s t.holds w ≡ means s t.holds v
    reads_so_far v w agrees =
        subst (λ (id : NodeId). means s id w ≡ means s id v) (sym turn_holds)
        (turn_atom.reads w v (λ k read. agrees k (unread_so_far k read)))

    gone_then : (k : ℕ) → IsGoneFrom unread turns (n + 1) k ⊎ Contains t.ends.items k → IsGoneFrom unread turns n k
    gone_then k (inl (inl free)) = inl free
    gone_then k (inl (inr h)) = let after = h.2 in inr (h.0, h.1, omega (arith, after), h.3, h.4, h.5)
    gone_then k (inr ends) = inr (n, t, omega arith, below, here, ends)

    then_gone : (k : ℕ) → IsGoneFrom unread turns n k → IsGoneFrom unread turns (n + 1) k ⊎ Contains t.ends.items k
    then_gone k (inl free) = inl (inl free)
    then_gone k (inr h) =
        let after = h.2 in
        elim (cases_eq h.0 n) [
          | inl e ↦
              let is : h.1 ≡ t = sym h.4 ∙ ap (λ (m : ℕ). slice_index_or turns m h.1) e
              ∙ get_or_default turns n h.1 t below ∙ here in
              inr (subst (λ (x : Turn). Contains x.ends.items k) is h.5)
          | inr other ↦ inl (inr (h.0, h.1, omega (arith, after, other), h.3, h.4, h.5))
        ]

    relates_then : (w : Assignment) → (w t.level ≡ means s t.holds w) × RelatesFrom s atoms (n + 1) w →
        RelatesFrom s atoms n w
    relates_then w h i a after inside is =
        elim (cases_eq i n) [
          | inl e ↦
              let same : atom ≡ a = sym atom_here ∙ get_or_default atoms n atom a atom_below
              ∙ ap (λ (m : ℕ). slice_index_or atoms m a) (sym e) ∙ is in
              subst (λ (x : Atom). w x.level ≡ means s x.holds w) same
              (sym (ap w turn_level) ∙ h.0 ∙ ap (λ (id : NodeId). means s id w) turn_holds)
          | inr other ↦ h.1 i a (omega (arith, after, other)) inside is
        ]

    then_relates : (w : Assignment) → RelatesFrom s atoms n w →
        (w t.level ≡ means s t.holds w) × RelatesFrom s atoms (n + 1) w
    then_relates w h = (
      ap w turn_level ∙ h n atom (omega arith) atom_below atom_here
          ∙ sym (ap (λ (id : NodeId). means s id w) turn_holds),
      λ i a after inside is. h i a (omega (arith, after)) inside is,
    )

    -- its turn is taken
    pub taken : (f so_far : Function) → IsEliminatedFrom s atoms unread turns (n + 1) f so_far → (u : Table)
        (id : NodeId) → IsPutTo u t.level (means s t.holds) t.ends.items so_far id →
        IsEliminatedFrom s atoms unread turns n f (means u id)
    taken f so_far eliminated u id put =
        eliminated_same (λ k. IsGoneFrom unread turns (n + 1) k ⊎ Contains t.ends.items k) (IsGoneFrom unread turns n)
        (λ (w : Assignment). (w t.level ≡ means s t.holds w) × RelatesFrom s atoms (n + 1) w) (RelatesFrom s atoms n) f
        (means u id) gone_then then_gone relates_then then_relates
        (turn_taken (IsGoneFrom unread turns (n + 1)) (RelatesFrom s atoms (n + 1)) f so_far eliminated t.level
        (means s t.holds) stays reads_so_far u t.ends.items id put)

  -- before any turn is taken
  pub none_taken : (u : Table) (set id : NodeId) → IsExists u unread set id →
      IsEliminatedFrom s atoms unread turns (length turns) (means u set) (means u id)
  none_taken u set id is = record {
    some = λ v h.
        let found = is.some v h in
        let long = are.count in (
          found.0,
          λ k beside. found.1 k (λ free. beside (inl free)),
          λ i a after inside here. absurd (omega (arith, after, inside, long)),
          found.2,
        );
    enough = λ v w agrees related here.
        is.enough v w (λ k outside. agrees k (λ gone. none_gone k outside gone)) here;
  }
    where
      none_gone : (k : ℕ) → ¬ Contains unread k → ¬ IsGoneFrom unread turns (length turns) k
      none_gone k outside (inl free) = outside free
      none_gone k outside (inr h) =
          let after = h.2 in
          let inside = h.3 in
          omega (arith, after, inside)

  -- when all are
  pub all_taken : (u : Table) → Extends s u → (f : Function) (id : NodeId) → Knows u id →
      IsEliminatedFrom s atoms unread turns 0 f (means u id) → IsQuantified u gone atoms f id
  all_taken u e f id known is = record {
    known = known;
    some = λ v h.
        let found = is.some v h in (
          found.0,
          λ k not_so. found.1 k (λ gone. not_so (gone_from 0 k gone)),
          λ a there. found.2 there.0 a (omega arith) there.1 there.2 ∙ sym (same a there found.0),
          found.3,
        );
    enough = λ v w agrees related here.
        is.enough v w (λ k beside. agrees k (λ marked. beside (all_gone k marked)))
        (λ i a after inside at. related a (i, inside, at) ∙ same a (i, inside, at) w) here;
  }
    where
      same : (a : Atom) → Contains atoms a → (w : Assignment) → means u a.holds w ≡ means s a.holds w
      same a there w =
          e.same_meaning a.holds (All-contains (IsAtom (length gone) s) atoms a is_atoms there).known w

      all_gone : (k : ℕ) → is_marked_level gone k ≡ true → IsGoneFrom unread turns 0 k
      all_gone k marked =
          elim (are.all k marked) [
            | inl free ↦ inl free
            | inr h ↦ inr (h.1.0, h.0, omega arith, h.1.1, h.1.2, h.2)
          ]

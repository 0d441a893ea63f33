-- The atoms are put back all at once.
use Rattle.std.proofs.Common.{◌≡◌, ◌⊎◌, inl, inr, ℕ, ◌+◌, ◌<◌, ◌==◌, Bool, true, false, cond, List, [], ◌∷◌, Some, length, map, refl, sym, ap, ◌∙◌, arith, true≢false}
use Rattle.std.specs.Prelude.{All, Contains}
use Rattle.std.specs.Map.{lookup}
use Rattle.std.specs.Option.{option_map_or}
use Rattle.std.proofs.lemmas.Bool.{eq-eqb, eqb-true}
use Rattle.std.proofs.lemmas.List.Elements.{All-contains, All-head, All-map, All-tail, Contains-append_right}
use Rattle.tm_abs.proofs.Joining.{cons_cases}
use Rattle.tm_abs.proofs.Marking.{marked_within}
use Rattle.tm_abs.proofs.Putting.{put_back}
use Rattle.tm_abs.proofs.Tracking.{atoms_kept}
use Rattle.tm_abs.specs.declared.atoms.Atom.{Atom}
use Rattle.tm_abs.specs.Inner.Atoms.{AreApart, IsAtom}
use Rattle.tm_abs.specs.Inner.Quantified.{IsQuantified, IsReached}
use Rattle.tm_dd.specs.declared.node.NodeId.{NodeId}
use Rattle.tm_dd.specs.Reduced.{Extends}
use Rattle.tm_dd.specs.Table.{Table, Knows, means}
use Rattle.tm_ddops.specs.Manager.{IsFunction}
use Rattle.tm_ddops.specs.Operation.{substituted}
use Rattle.tm_game_bits.proofs.Extended.{Knows-Extends, means-Extends}
use Rattle.tm_game_bits.specs.Functions.{Assignment, Function}
use Rattle.tm_game_bits.specs.States.{ReadsState}

abbrev pub part_of : Atom → ℕ × NodeId
part_of a = (a.level, a.holds)

-- ---- what is put in the place of a level
level_other : (s : Table) (told : List Atom) (v : Assignment) (k : ℕ) → All (λ (a : Atom). k < a.level) told →
    substituted s (map part_of told) v k ≡ v k
level_other s [] v k behind = refl
level_other s (b ∷ bs) v k behind =
    by (b.level == k) refl (level_other s bs v k (All-tail (λ (a : Atom). k < a.level) b bs behind))
  where
    by : (same : Bool) → (b.level == k) ≡ same → substituted s (map part_of bs) v k ≡ v k →
        option_map_or (λ part. means s part v) (cond same (Some b.holds) (lookup (λ l. l == k) (map part_of bs))) (v k)
        ≡ v k
    by true e rest =
        let is = eqb-true b.level k e in
        let above = All-head (λ (a : Atom). k < a.level) b bs behind in
        absurd (omega (arith, is, above))
    by false e rest = rest

level_of_atom : (s : Table) (a : Atom) (told : List Atom) → Contains told a →
    ((b : Atom) → Contains told b → b.level ≡ a.level → means s b.holds ≡ means s a.holds) → (v : Assignment) →
    substituted s (map part_of told) v a.level ≡ means s a.holds v
level_of_atom s a [] there apart v = absurd (omega (arith, there.1))
level_of_atom s a (b ∷ bs) there apart v =
    by (b.level == a.level) refl (cons_cases b bs a there) (λ inside.
    level_of_atom s a bs inside (λ c c_there. apart c (Contains-append_right (b ∷ []) bs c c_there)) v)
  where
    by : (same : Bool) → (b.level == a.level) ≡ same → (b ≡ a) ⊎ Contains bs a →
        (Contains bs a → substituted s (map part_of bs) v a.level ≡ means s a.holds v) →
        option_map_or (λ part. means s part v)
        (cond same (Some b.holds) (lookup (λ l. l == a.level) (map part_of bs))) (v a.level)
        ≡ means s a.holds v
    by true e one rest = λ i. apart b (0, omega arith, refl) (eqb-true b.level a.level e) i v
    by false e (inl is) rest = absurd (true≢false (sym (eq-eqb b.level a.level (ap (λ (c : Atom). c.level) is)) ∙ e))
    by false e (inr inside) rest = rest inside

-- the diagrams that are put back are known
pub parts_known : (s : Table) (count : ℕ) (told : List Atom) → All (IsAtom count s) told → (id : NodeId) →
    Contains (map (λ (p : ℕ × NodeId). p.1) (map part_of told)) id → Knows s id
parts_known s count told atoms id there =
    All-contains (Knows s) (map (λ (p : ℕ × NodeId). p.1) (map part_of told)) id
    (All-map (Knows s) (λ (p : ℕ × NodeId). p.1) (map part_of told)
    (All-map (λ (p : ℕ × NodeId). Knows s p.1) part_of told (λ k a below. (atoms k a below).known))) there

-- what is quantified stays so when diagrams are added
quantified_kept : (s t : Table) → Extends s t → (gone : List Bool) (told : List Atom) (f : Function) (id : NodeId) →
    ((a : Atom) → Contains told a → Knows s a.holds) → IsQuantified s gone told f id → IsQuantified t gone told f id
quantified_kept s t e gone told f id known is = record {
  known = Knows-Extends s t e id is.known;
  some = λ v h.
      let found = is.some v (sym (e.same_meaning id is.known v) ∙ h) in (
        found.0,
        found.1,
        λ a there. found.2 a there ∙ sym (e.same_meaning a.holds (known a there) found.0),
        found.3,
      );
  enough = λ v w agrees related here.
      e.same_meaning id is.known v
      ∙ is.enough v w agrees (λ a there. related a there ∙ e.same_meaning a.holds (known a there) w) here;
}

-- atoms of one level have one meaning still
pub apart_kept : (s t : Table) → Extends s t → (count : ℕ) (told : List Atom) → All (IsAtom count s) told →
    AreApart s told → AreApart t told
apart_kept s t e count told atoms apart a b first second level =
    means-Extends s t e a.holds (All-contains (IsAtom count s) told a atoms first).known
    ∙ apart a b first second level
    ∙ sym (means-Extends s t e b.holds (All-contains (IsAtom count s) told b atoms second).known)

-- the composed diagram
pub composed : (s t : Table) → Extends s t → (gone : List Bool) (told : List Atom) (count : ℕ) (f : Function) →
    ReadsState count f → length gone ≡ count → All (IsAtom count s) told → AreApart s told → (quantified id : NodeId) →
    IsQuantified s gone told f quantified →
    IsFunction t id (λ v. means t quantified (substituted t (map part_of told) v)) →
    IsReached t gone told count f id
composed s t e gone told count f reads long atoms apart quantified id is function =
    put_back t gone told count f reads
    (λ k marked. let within = marked_within gone k marked in omega (arith, within, long)) atom_at
    (λ v k. substituted t (map part_of told) v k) at else_same quantified id function.known
    (quantified_kept s t e gone told f quantified
    (λ a there. (All-contains (IsAtom count s) told a atoms there).known) is) function.meaning
  where
    atom_at : (a : Atom) → Contains told a → IsAtom count t a
    atom_at a there = All-contains (IsAtom count t) told a (atoms_kept s t e count told atoms) there

    same : (a : Atom) → Contains told a → means t a.holds ≡ means s a.holds
    same a there = means-Extends s t e a.holds (All-contains (IsAtom count s) told a atoms there).known

    at : (v : Assignment) (a : Atom) → Contains told a →
        substituted t (map part_of told) v a.level ≡ means t a.holds v
    at v a there =
        level_of_atom t a told there (λ b b_there level. same b b_there ∙ apart b a b_there there level
        ∙ sym (same a there)) v

    else_same : (v : Assignment) (k : ℕ) → k < count + 128 → substituted t (map part_of told) v k ≡ v k
    else_same v k below =
        level_other t told v k (λ j a inside.
        let behind = (atoms j a inside).behind in
        omega (arith, below, behind))

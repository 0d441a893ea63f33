-- The bits of the wanted terms, as far as a loop has come.
use Rattle.std.proofs.Common.{◌≡◌, ◌≢◌, ℕ, ◌+◌, ◌-◌, ◌<◌, ◌≤◌, Bool, true, List, [], length, Some, None, refl, sym, ap, ◌∙◌, subst, ⊎_elim, arith, get_or-set_other, get_or-set_same}
use Rattle.std.specs.Prelude.{IsSome, reverse, slice_set}
use Rattle.std.proofs.lemmas.Bool.{cases_lt, cases_eq}
use Rattle.std.proofs.lemmas.List.{length-set}
use Rattle.std.proofs.lemmas.Option.{same_Some}
use Rattle.tm_dd.specs.declared.node.NodeId.{NodeId}
use Rattle.tm_dd.specs.Table.{Table}
use Rattle.tm_dd.specs.Reduced.{Extends}
use Rattle.tm_dd.proofs.CallerLaws.{Extends-trans}
use Rattle.tm_base.specs.Bits.{number_of}
use Rattle.tm_term.specs.declared.term.TermId.{TermId}
use Rattle.tm_term.specs.declared.term.Parts.{Parts}
use Rattle.tm_term.specs.declared.term.Parts.TheVariants as parts
use Rattle.tm_term.specs.Parts.{AreBelow}
use Rattle.tm_term.specs.Table.{Table as Terms, IsKnown}
use Rattle.tm_term.proofs.Growth.{TermId-ext}
use Rattle.tm_blast.specs.Bits.{AreBits, AreLevels}
use Rattle.tm_blast.specs.Memory.{Made, made_at, IsMade, ArePartsMade, AreMade}
use Rattle.tm_blast.specs.Marks.{term_below, is_marked, IsSettled, AreSettled}
use Rattle.tm_blast.proofs.Extended.{All-Knows-extended, values_in-extended}

-- ---- stores that were extended
pub AreBits-extended : (t : Terms) (levels : List (List ℕ)) (s u : Table) (id : TermId) (ids : List NodeId)
    → Extends s u → AreBits t levels s id ids → AreBits t levels u id ids
AreBits-extended t levels s u id ids extends are = record {
  known = All-Knows-extended s u extends ids are.known;
  width = are.width;
  value = λ v. ap number_of (values_in-extended s u extends ids are.known v) ∙ are.value v;
}

-- what was made stays right when diagrams are added
pub AreMade-extended : (t : Terms) (levels : List (List ℕ)) (s u : Table) (made : Made) → Extends s u
    → AreMade t levels s made → AreMade t levels u made
AreMade-extended t levels s u made extends are id ids is =
    ((are id ids is).0, AreBits-extended t levels s u id (reverse ids) extends (are id ids is).1)

pub AreLevels-extended : (t : Terms) (levels : List (List ℕ)) (s u : Table) → Extends s u
    → AreLevels t s.levels levels → AreLevels t u.levels levels
AreLevels-extended t levels s u extends are = subst (λ count. AreLevels t count levels) (sym extends.same_levels) are

-- ---- one more term
made_at-same : (made : Made) (id : TermId) (ids : List NodeId) → id.0 < length made →
    made_at (slice_set made id.0 (Some ids)) id ≡ Some ids
made_at-same made id ids h = get_or-set_same made id.0 (Some ids) None h

made_at-other : (made : Made) (id other : TermId) (ids : List NodeId) → other.0 ≢ id.0 →
    made_at (slice_set made id.0 (Some ids)) other ≡ made_at made other
made_at-other made id other ids differ = get_or-set_other made id.0 other.0 (Some ids) None differ

-- the bits so far
pub record IsFilling (t : Terms) (levels : List (List ℕ)) (s u : Table) (old now : Made) (id : TermId)
    (marks : List Bool) (left : ℕ) : Type 0 where
  pub extends : Extends s u
  pub within : left ≤ length marks
  pub room : id.0 < length now
  pub made : AreMade t levels u now
  pub kept : (other : TermId) → IsMade old other → IsMade now other
  pub filled : (d : ℕ) → left ≤ d → is_marked marks d ≡ true → IsMade now (term_below id d)

module _ (t : Terms) (levels : List (List ℕ)) (s u : Table) (old now : Made) (id : TermId) (marks : List Bool)
    (left : ℕ) (so_far : IsFilling t levels s u old now id marks (left + 1)) where
  -- a part that is settled and smaller was made
  settled_made : (a : TermId) → left ≤ id.0 → a.0 < id.0 - left → IsSettled old id marks a → IsMade now a
  settled_made a within smaller settled =
      let e : id.0 - (id.0 - a.0) ≡ a.0 = omega arith in
      let is : term_below id (id.0 - a.0) ≡ a = TermId-ext (term_below id (id.0 - a.0)) a e in
      ⊎_elim (λ h. so_far.kept a h)
      (λ marked. subst (IsMade now) is (so_far.filled (id.0 - a.0) (omega arith) marked)) settled

  -- the parts of a wanted term were made
  pub parts_made : (p : Parts) → left ≤ id.0 → AreBelow (id.0 - left) p → AreSettled old id marks p → ArePartsMade now p
  parts_made parts.None within smaller settled = tt
  parts_made (parts.One a) within smaller settled = settled_made a within smaller settled
  parts_made (parts.Two a b) within smaller settled =
      (settled_made a within smaller.0 settled.0, settled_made b within smaller.1 settled.1)
  parts_made (parts.Three c a b) within smaller settled = (
    settled_made c within smaller.0 settled.0,
    settled_made a within smaller.1 settled.1,
    settled_made b within smaller.2 settled.2,
  )

  -- the bits of a wanted term are kept
  pub filling_more : (w : Table) (ids : List NodeId) → left ≤ id.0 → Extends u w → IsKnown t (term_below id left)
      → AreBits t levels w (term_below id left) (reverse ids)
      → IsFilling t levels s w old (slice_set now (id.0 - left) (Some ids)) id marks left
  filling_more w ids within extends known are =
      let part : TermId = term_below id left in
      let room : part.0 < length now = omega (arith, so_far.room) in
      let news = slice_set now part.0 (Some ids) in
      let same : (other : TermId) → other.0 ≡ part.0 → made_at news other ≡ Some ids =
      λ other e. ap (made_at news) (TermId-ext other part e) ∙ made_at-same now part ids room in
      let there : (other : TermId) → IsMade now other → IsMade news other =
      λ other h.
      ⊎_elim (λ e. subst IsSome (sym (same other e)) refl)
      (λ differ. subst IsSome (sym (made_at-other now part other ids differ)) h) (cases_eq other.0 part.0) in
      record {
        extends = Extends-trans s u w so_far.extends extends;
        within = omega (arith, so_far.within);
        room = omega (arith, so_far.room, length-set now part.0 (Some ids));
        made = λ other others is.
            ⊎_elim
            (λ e.
            let is_part = TermId-ext other part e in
            let is_ids : ids ≡ others = same_Some ids others (sym (same other e) ∙ is) in (
              subst (IsKnown t) (sym is_part) known,
              subst (λ zs. AreBits t levels w other (reverse zs)) is_ids
                  (subst (λ p. AreBits t levels w p (reverse ids)) (sym is_part) are),
            ))
            (λ differ.
            AreMade-extended t levels u w now extends so_far.made other others
            (sym (made_at-other now part other ids differ) ∙ is)) (cases_eq other.0 part.0);
        kept = λ other h. there other (so_far.kept other h);
        filled = λ d h marked.
            ⊎_elim (λ (k : left < d). there (term_below id d) (so_far.filled d (omega arith) marked))
            (λ (k : d ≤ left).
            let e : id.0 - d ≡ part.0 = omega arith in subst IsSome (sym (same (term_below id d) e)) refl)
            (cases_lt left d);
      }

-- of a loop that has come to a place, the place before
pub filling_before : (t : Terms) (levels : List (List ℕ)) (s u : Table) (old now : Made) (id : TermId)
    (marks : List Bool) (left : ℕ) → 0 < left → IsFilling t levels s u old now id marks left
    → IsFilling t levels s u old now id marks (left - 1 + 1)
filling_before t levels s u old now id marks left some so_far =
    let e : left ≡ left - 1 + 1 = omega arith in subst (IsFilling t levels s u old now id marks) e so_far

-- no bits
pub none_made : (t : Terms) (levels : List (List ℕ)) (s : Table) → AreMade t levels s []
none_made t levels s id ids is = absurd (never is) where
  never : None ≡ Some ids → ⊥
  never h = cc

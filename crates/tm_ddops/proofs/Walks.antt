-- What a walk meets and notes.
use Rattle.std.proofs.Common.{◌≡◌, ◌-◌, ◌<◌, ◌≤◌, ◌⊎◌, inl, inr, Bool, true, false, ◌&&◌, if◌then◌else◌, Option, Some, None, IsSome, is_some, Result, Ok, Err, OnErr, Bor, option_copied, refl, sym, ap, subst, ◌∙◌, arith}
use Rattle.std.proofs.lemmas.Bool.{eqb-true}
use Rattle.std.specs.HashMap.{Updates, IsUnchanged}
use Rattle.std.specs.Map.{lookup}
use Rattle.tm_dd.specs.declared.node.NodeId.{NodeId}
use Rattle.tm_dd.specs.Reduced.{IsReduced, Extends}
use Rattle.tm_dd.specs.Table.{Table}
use Rattle.tm_dd.proofs.CallerLaws.{same_number, Extends-trans}
use Rattle.tm_ddops.specs.declared.choice.Choice.{Choice}
use Rattle.tm_ddops.specs.Choice.{choice_depth, cofactor_choice, IsChoice, IsOpen, KnowsChoice, Met, here, below}
use Rattle.tm_ddops.specs.Inner.Memo.{Memo, choice_eq, noted, AreChoices, NotesOnlyMet, IsUnnoted}
use Rattle.tm_ddops.proofs.Choices.{choice_depth-open, choice_level-open, choice_depth-cofactor_choice, knows-cofactor_choice, cofactor_choice-Extends, choice_depth-Extends, KnowsChoice-Extends, IsChoice-Extends}

-- ---- equality of choices

both_true : (a b : Bool) → a && b ≡ true → (a ≡ true) × (b ≡ true)
both_true true b h = (refl, h)
both_true false b h = cc

pub same_choice : (a b : Choice) → choice_eq a b ≡ true → a ≡ b
same_choice a b h =
    let first = both_true _ _ h in
    let rest = both_true _ _ first.1 in
    let test = same_number a.test b.test (eqb-true _ _ first.0) in
    let on = same_number a.if_true b.if_true (eqb-true _ _ rest.0) in
    let off = same_number a.if_false b.if_false (eqb-true _ _ rest.1) in
    λ i. record { test = test i; if_true = on i; if_false = off i }

-- ---- what is met

-- what is met stands no higher
pub choice_depth-Met : (s : Table) → IsReduced s → (k m : Choice) → KnowsChoice s k → Met s k m →
    choice_depth s k ≤ choice_depth s m
choice_depth-Met s reduced k m known (here _) = omega arith
choice_depth-Met s reduced k m known (below _ open_ b _ rest) =
    let within = choice_level-open s reduced k known open_ in
    let down = choice_depth-cofactor_choice s reduced k known within b in
    omega (
      arith,
      down,
      choice_depth-Met s reduced (cofactor_choice s k b) m
          (knows-cofactor_choice s reduced k known within b) rest,
    )

pub Met-Extends : (s t : Table) → IsReduced s → Extends s t → (k m : Choice) → KnowsChoice s k → Met s k m → Met t k m
Met-Extends s t reduced e k m known (here _) = here k
Met-Extends s t reduced e k m known (below _ open_ b _ rest) =
    below k open_ b m
    (subst (λ c. Met t c m) (sym (cofactor_choice-Extends s t e k b known))
    (Met-Extends s t reduced e (cofactor_choice s k b) m
    (knows-cofactor_choice s reduced k known (choice_level-open s reduced k known open_) b) rest))

-- ---- what is noted

pub AreChoices-Extends : (s t : Table) → Extends s t → (m : Memo) → AreChoices s m → AreChoices t m
AreChoices-Extends s t e m notes k id h = IsChoice-Extends s t e k id (notes k id h)

pub AreChoices-unchanged : (s : Table) (m n : Memo) → IsUnchanged m n → AreChoices s m → AreChoices s n
AreChoices-unchanged s m n e notes k id h = notes k id (ap (lookup (choice_eq k)) (sym e) ∙ h)

pub AreChoices-insert : (s : Table) (m n : Memo) (k : Choice) (id : NodeId) → Updates choice_eq m n k (Some id) →
    AreChoices s m → IsChoice s k id → AreChoices s n
AreChoices-insert s m n k id updates notes c q r h =
    by_test (choice_eq k q) refl
  where
    by_test : (b : Bool) → choice_eq k q ≡ b → IsChoice s q r
    by_test true e =
        let same = same_choice k q e in
        let there : noted n q ≡ Some id = updates.0 q ∙ ap (λ t. if t then Some id else noted m q) e in
        let answer : id ≡ r = cc in
        subst (IsChoice s q) answer (subst (λ x. IsChoice s x id) same c)
    by_test false e = notes q r (ap (λ t. if t then Some id else noted m q) (sym e) ∙ sym (updates.0 q) ∙ h)

-- a walk below a choice does not note the choice itself
pub still_absent : (s : Table) → IsReduced s → (k child : Choice) (old new : Memo) → KnowsChoice s child →
    choice_depth s k < choice_depth s child
    → NotesOnlyMet s child old new → noted old k ≡ None → noted new k ≡ None
still_absent s reduced k child old new known deeper met absent =
    by_note (noted new k) refl
  where
    by_note : (o : Option NodeId) → noted new k ≡ o → noted new k ≡ None
    by_note None e = e
    by_note (Some id) e = elim (met k (ap is_some e)) [
      | inl was ↦ let none : is_some (noted old k) ≡ false = ap is_some absent in cc
      | inr there ↦ absurd (omega (arith, deeper, choice_depth-Met s reduced child k known there.0))
    ]

-- what a walk below a choice notes is met below the choice
pub NotesOnlyMet-below : (s : Table) (k child : Choice) (b : Bool) (old new : Memo) → IsOpen k →
    child ≡ cofactor_choice s k b → NotesOnlyMet s child old new → NotesOnlyMet s k old new
NotesOnlyMet-below s k child b old new open_ e met m h = elim (met m h) [
  | inl was ↦ inl was
  | inr there ↦ inr (below k open_ b m (subst (λ c. Met s c m) e there.0), there.1)
]

pub NotesOnlyMet-trans : (s : Table) (k : Choice) (a b c : Memo) → NotesOnlyMet s k a b → NotesOnlyMet s k b c →
    NotesOnlyMet s k a c
NotesOnlyMet-trans s k a b c first second m h = elim (second m h) [
  | inl was ↦ first m was
  | inr there ↦ inr there
]

pub NotesOnlyMet-Extends : (s t : Table) → IsReduced s → Extends s t → (k : Choice) (old new : Memo) → KnowsChoice s k →
    NotesOnlyMet s k old new → NotesOnlyMet t k old new
NotesOnlyMet-Extends s t reduced e k old new known met m h = elim (met m h) [
  | inl was ↦ inl was
  | inr there ↦ inr (Met-Extends s t reduced e k m known there.0, there.1)
]

-- a note of the choice itself
pub NotesOnlyMet-insert : (s : Table) (k : Choice) (id : NodeId) (old new : Memo) → IsOpen k →
    Updates choice_eq old new k (Some id) → NotesOnlyMet s k old new
NotesOnlyMet-insert s k id old new open_ updates m h =
    by_test (choice_eq k m) refl
  where
    by_test : (b : Bool) → choice_eq k m ≡ b → IsSome (noted old m) ⊎ (Met s k m × IsOpen m)
    by_test true e = let same = same_choice k m e in inr (subst (Met s k) same (here k), subst IsOpen same open_)
    by_test false e = inl (ap is_some (ap (λ t. if t then Some id else noted old m) (sym e) ∙ sym (updates.0 m)) ∙ h)

pub NotesOnlyMet-unchanged : (s : Table) (k : Choice) (old new : Memo) → IsUnchanged old new → NotesOnlyMet s k old new
NotesOnlyMet-unchanged s k old new e m h = inl (ap (λ es. is_some (lookup (choice_eq m) es)) (sym e) ∙ h)

-- what is not noted below a choice is met below the choice
pub IsUnnoted-below : (s : Table) (k child : Choice) (b : Bool) (m : Memo) → IsOpen k → child ≡ cofactor_choice s k b →
    IsUnnoted s child m → IsUnnoted s k m
IsUnnoted-below s k child b m open_ e u = record {
  choice = u.choice;
  met = below k open_ b u.choice (subst (λ c. Met s c u.choice) e u.met);
  open_ = u.open_;
  absent = u.absent;
}

pub IsUnnoted-here : (s : Table) (k : Choice) (m : Memo) → IsOpen k → noted m k ≡ None → IsUnnoted s k m
IsUnnoted-here s k m open_ absent = record { choice = k; met = here k; open_ = open_; absent = absent }

pub unchanged_absent : (k : Choice) (m n : Memo) → IsUnchanged m n → noted m k ≡ None → noted n k ≡ None
unchanged_absent k m n e absent = ap (lookup (choice_eq k)) e ∙ absent

-- ---- the cofactor of an open choice, in its store and in one that was extended

module _ (s : Table) (reduced : IsReduced s) (k child : Choice) (b : Bool) (known : KnowsChoice s k) (open_ : IsOpen k)
    (is_child : child ≡ cofactor_choice s k b) where
  pub child_known : KnowsChoice s child
  child_known = subst (KnowsChoice s) (sym is_child)
      (knows-cofactor_choice s reduced k known (choice_level-open s reduced k known open_) b)

  pub child_deeper : choice_depth s k < choice_depth s child
  child_deeper =
      subst (λ c. choice_depth s k < choice_depth s c) (sym is_child)
      (choice_depth-cofactor_choice s reduced k known (choice_level-open s reduced k known open_) b)

  pub child_falls : s.levels - choice_depth s child < s.levels - choice_depth s k
  child_falls = let top = choice_depth-open s reduced k known open_ in omega (arith, child_deeper)

  module _ (t : Table) (e : Extends s t) where
    pub child_later : child ≡ cofactor_choice t k b
    child_later = is_child ∙ sym (cofactor_choice-Extends s t e k b known)

    pub child_falls_later : t.levels - choice_depth t child < s.levels - choice_depth s k
    child_falls_later = omega (arith, child_falls, e.same_levels, choice_depth-Extends s t e child child_known)

-- a look-up that finds nothing
pub none_from_copied : {X : Type 0} {o : Option (Bor X)} {p : Option X} → o ≡ None → option_copied o ≡ p → p ≡ None
none_from_copied e h = sym h ∙ ap option_copied e

-- a clause on an error holds where its fact holds
pub on_err : {T E P : Type 0} (r : Result T E) → P → OnErr r P
on_err (Ok x) p = tt
on_err (Err y) p = p

-- ---- the two walks below a choice, one after the other

module _ (s : Table) (reduced : IsReduced s) (k : Choice) (known : KnowsChoice s k) (open_ : IsOpen k)
    (t : Table) (reduced-t : IsReduced t) (e : Extends s t) (u : Table) (reduced-u : IsReduced u) (e2 : Extends t u)
    (low high : Choice) (is_low : low ≡ cofactor_choice s k false) (is_high : high ≡ cofactor_choice s k true)
    (a b c : Memo) (first : NotesOnlyMet t low a b) (second : NotesOnlyMet u high b c) where
  low_known : KnowsChoice t low
  low_known = KnowsChoice-Extends s t e low (child_known s reduced k low false known open_ is_low)

  high_known : KnowsChoice u high
  high_known = KnowsChoice-Extends s u (Extends-trans s t u e e2) high
      (child_known s reduced k high true known open_ is_high)

  pub met_twice : NotesOnlyMet u k a c
  met_twice =
      NotesOnlyMet-trans u k a b c
      (NotesOnlyMet-Extends t u reduced-t e2 k a b (KnowsChoice-Extends s t e k known)
      (NotesOnlyMet-below t k low false a b open_ (child_later s reduced k low false known open_ is_low t e) first))
      (NotesOnlyMet-below u k high true b c open_
      (child_later s reduced k high true known open_ is_high u (Extends-trans s t u e e2)) second)

  pub still_absent_twice : noted a k ≡ None → noted c k ≡ None
  still_absent_twice absent =
      let whole = Extends-trans s t u e e2 in
      let low_deeper = child_deeper s reduced k low false known open_ is_low in
      let high_deeper = child_deeper s reduced k high true known open_ is_high in
      still_absent u reduced-u k high b c high_known
      (omega (
        arith,
        high_deeper,
        choice_depth-Extends s u whole k known,
        choice_depth-Extends s u whole high (child_known s reduced k high true known open_ is_high),
      ))
      second
      (still_absent t reduced-t k low a b low_known
      (omega (
        arith,
        low_deeper,
        choice_depth-Extends s t e k known,
        choice_depth-Extends s t e low (child_known s reduced k low false known open_ is_low),
      ))
      first absent)

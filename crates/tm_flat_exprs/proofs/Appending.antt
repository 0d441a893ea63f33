-- Versions that were put behind those of another list.
use Rattle.std.proofs.Common.{◌≡◌, ◌⊎◌, inl, inr, ℕ, suc, ◌+◌, ◌-◌, ◌<◌, ◌≤◌, Bool, true, false, Some, List, [], ◌∷◌, ◌++◌, All, length, drop, take, cond, refl, sym, ap, ◌∙◌, subst, arith, append_assoc, append-nil, take-append-drop, nat_le}
use Rattle.std.specs.Prelude.{slice_get, slice_index}
use Rattle.std.proofs.lemmas.List.{drop_all, drop_more, get_or_append_left, get_or_past, get_or_push, length-append, length-take-le, take_all}
use Rattle.std.proofs.lemmas.List.Elements.{All-append, All-cons, All-drop, All-head, All-nil, All-push, All-tail}
use Rattle.std.proofs.lemmas.Bool.Decides.{nat_tests}
use Rattle.std.proofs.lemmas.Option.{get_or_from_slice_get, slice_get_within}
use Rattle.tm_base.specs.Arithmetic.{choice}
use Rattle.tm_term.specs.declared.term.TermId.{TermId}
use Rattle.tm_term.specs.Table.{Table}
use Rattle.tm_term.specs.Value.{value_of}
use Rattle.tm_design.specs.declared.step_cells.StepCell.{StepCell}
use Rattle.tm_flat_exprs.specs.declared.memory.versions.Version.{Version}
use Rattle.tm_flat_exprs.specs.declared.memory.versions.Version.TheVariants.{Put, Choice}
use Rattle.tm_flat_exprs.specs.Kept.{HasSlot, IsKeptVersion}
use Rattle.tm_design.specs.StepCells.{same_cell}
use Rattle.tm_flat_exprs.specs.Versions.{last_number, next_value, step_value, values_behind, version_values}
use Rattle.tm_flat_exprs.specs.Inner.Appending.{appended, moved, moved_from, moved_number}
use Rattle.tm_flat_exprs.specs.Inner.Merging.{Appends, HasTerms, MergesSteps}
use Rattle.tm_flat_exprs.specs.Inner.Shared.{HaveSame}
use Rattle.tm_flat_exprs.proofs.Choices.{chosen_of_one}
use Rattle.tm_flat_exprs.proofs.Shared.{begin_alike}
use Rattle.tm_flat_exprs.proofs.Versions.{last_at, last_of_more, value_after, value_at_end, values_append, values_early, values_long}

-- ---- numbers that move on
-- values in the versions so far, and in those that they became: those in common have their numbers still, and the later
-- ones have moved on
pub record Follows (by common index : ℕ) (ns ms : List ℕ) : Type 0 where
  pub long : length ns ≡ suc index
  pub longer : length ms ≡ suc index + by
  pub ends : last_number 0 ms ≡ last_number 0 ns
  pub first : slice_index ms 0 ≡ 0
  pub early : (a : ℕ) → a ≤ common → slice_index ms a ≡ slice_index ns a
  pub late : (a : ℕ) → common < a → a ≤ index → slice_index ms (a + by) ≡ slice_index ns a
  pub within : common ≤ index

le_cases : (a b : ℕ) → ((nat_le a b ≡ true) × (a ≤ b)) ⊎ ((nat_le a b ≡ false) × (b < a))
le_cases a b = by (nat_le a b) refl
  where
    by : (t : Bool) → nat_le a b ≡ t → ((nat_le a b ≡ true) × (a ≤ b)) ⊎ ((nat_le a b ≡ false) × (b < a))
    by true is = inl (is, grind (arith, nat_tests, is))
    by false is = inr (is, grind (arith, nat_tests, is))

module _ (by common index : ℕ) (ns ms : List ℕ) (follows : Follows by common index ns ms) where
  moved_index : (a : ℕ) → slice_index ms (moved_number by common index a) ≡ slice_index ns a
  moved_index a = at (le_cases a common) (le_cases a index)
    where
      at : ((nat_le a common ≡ true) × (a ≤ common)) ⊎ ((nat_le a common ≡ false) × (common < a)) →
          ((nat_le a index ≡ true) × (a ≤ index)) ⊎ ((nat_le a index ≡ false) × (index < a)) →
          slice_index ms (moved_number by common index a) ≡ slice_index ns a
      at (inl near) _ =
          ap (λ t. slice_index ms (cond t a (cond (nat_le a index) (a + by) 0))) near.0 ∙ follows.early a near.1
      at (inr far) (inl made) =
          ap (λ t. slice_index ms (cond t a (cond (nat_le a index) (a + by) 0))) far.0
          ∙ ap (λ t. slice_index ms (cond t (a + by) 0)) made.0
          ∙ follows.late a far.1 made.1
      at (inr far) (inr none) =
          ap (λ t. slice_index ms (cond t a (cond (nat_le a index) (a + by) 0))) far.0
          ∙ ap (λ t. slice_index ms (cond t (a + by) 0)) none.0
          ∙ follows.first
          ∙ sym (get_or_past ns a 0 (omega (arith, follows.long, none.1)))

  next_moved : (u : Table) (v : List ℕ) (cell : StepCell) (w : Version) →
      next_value u v cell ms (last_number 0 ms) (moved by common index w)
      ≡ next_value u v cell ns (last_number 0 ns) w
  next_moved u v cell (Put found id) = ap (cond (same_cell found cell) (value_of u v id)) follows.ends
  next_moved u v cell (Choice guard a b) =
      (λ i. choice (value_of u v guard) (moved_index a i) (moved_index b i))

  one_more : (n m : ℕ) → m ≡ n → Follows by common (suc index) (ns ++ n ∷ []) (ms ++ m ∷ [])
  one_more n m same = record {
    long = omega (arith, length-append ns (n ∷ []), follows.long);
    longer = omega (arith, length-append ms (m ∷ []), follows.longer);
    ends = last_of_more 0 ms m ∙ same ∙ sym (last_of_more 0 ns n);
    first = get_or_append_left ms (m ∷ []) 0 0 (omega (arith, follows.longer)) ∙ follows.first;
    early = λ a below.
        get_or_append_left ms (m ∷ []) 0 a (omega (arith, follows.longer, below, follows.within))
        ∙ follows.early a below
        ∙ sym (get_or_append_left ns (n ∷ []) 0 a (omega (arith, follows.long, below, follows.within)));
    late = λ a behind below. late_at a behind below (le_cases a index);
    within = omega (arith, follows.within);
  }
    where
      late_at : (a : ℕ) → common < a → a ≤ suc index →
          ((nat_le a index ≡ true) × (a ≤ index)) ⊎ ((nat_le a index ≡ false) × (index < a)) →
          slice_index (ms ++ m ∷ []) (a + by) ≡ slice_index (ns ++ n ∷ []) a
      late_at a behind below (inl old) =
          get_or_append_left ms (m ∷ []) 0 (a + by) (omega (arith, follows.longer, old.1))
          ∙ follows.late a behind old.1
          ∙ sym (get_or_append_left ns (n ∷ []) 0 a (omega (arith, follows.long, old.1)))
      late_at a behind below (inr new) =
          get_or_push ms m 0 (a + by) (omega (arith, follows.longer, new.1, below))
          ∙ same
          ∙ sym (get_or_push ns n 0 a (omega (arith, follows.long, new.1, below)))

module _ (u : Table) (v : List ℕ) (cell : StepCell) (by common : ℕ) where
  all_follow : (index : ℕ) (ns ms : List ℕ) (ws : List Version) → Follows by common index ns ms →
      last_number 0 (values_behind u v cell ms (moved_from by common index ws))
      ≡ last_number 0 (values_behind u v cell ns ws)
  all_follow index ns ms [] follows = follows.ends
  all_follow index ns ms (w ∷ ws) follows =
      let n = next_value u v cell ns (last_number 0 ns) w in
      let m = next_value u v cell ms (last_number 0 ms) (moved by common index w) in
      let next : suc index ≡ index + 1 = omega arith in
      ap (λ k. last_number 0 (values_behind u v cell (ms ++ m ∷ []) (moved_from by common k ws))) (sym next)
      ∙ all_follow (suc index) (ns ++ n ∷ []) (ms ++ m ∷ []) ws
      (one_more by common index ns ms follows n m (next_moved by common index ns ms follows u v cell w))

-- ---- one list behind another
pub long_moved : (by common index : ℕ) (ws : List Version) → length (moved_from by common index ws) ≡ length ws
long_moved by common index [] = refl
long_moved by common index (w ∷ ws) = ap suc (long_moved by common (index + 1) ws)

module _ (guard : TermId) (old others : List Version) (common : ℕ) (near : common ≤ length old)
    (far : common ≤ length others) (same : take common old ≡ take common others) (u : Table) (v : List ℕ)
    (cell : StepCell) where
  abbrev start : List ℕ
  start = version_values u v cell old

  abbrev meeting : ℕ
  meeting = choice (value_of u v guard) (slice_index start common) (slice_index start common)

  abbrev jumped : List ℕ
  jumped = start ++ meeting ∷ []

  abbrev earlier : List ℕ
  earlier = version_values u v cell (take common others)

  -- the values in the versions in common are those of either
  in_common : (a : ℕ) → a ≤ common → slice_index start a ≡ slice_index earlier a
  in_common a below =
      let long = values_long u v cell (0 ∷ []) (take common old) in
      ap (λ ws. slice_index (version_values u v cell ws) a) (sym (take-append-drop common old))
      ∙ ap (λ ns. slice_index ns a) (values_append u v cell (0 ∷ []) (take common old) (drop common old))
      ∙ values_early u v cell (version_values u v cell (take common old)) (drop common old) a
      (omega (arith, long, below, length-take-le common old near))
      ∙ ap (λ ws. slice_index (version_values u v cell ws) a) same

  abbrev jump : ℕ
  jump = length old + 1 - common

  follows : Follows jump common common earlier jumped
  follows = record {
    long = earlier_long;
    longer = omega (arith, near, start_long, length-append start (meeting ∷ []));
    ends = last_of_more 0 start meeting
        ∙ sym (chosen_of_one (value_of u v guard) (slice_index start common))
        ∙ in_common common (omega arith)
        ∙ sym (last_at 0 earlier common earlier_long);
    first = get_or_append_left start (meeting ∷ []) 0 0 (omega (arith, start_long))
        ∙ values_early u v cell (0 ∷ []) old 0 (omega arith);
    early = λ a below.
        get_or_append_left start (meeting ∷ []) 0 a (omega (arith, start_long, near, below)) ∙ in_common a below;
    late = λ a behind below. absurd (omega (arith, behind, below));
    within = omega arith;
  }
    where
      start_long : length start ≡ suc (length old)
      start_long = omega (arith, values_long u v cell (0 ∷ []) old)

      earlier_long : length earlier ≡ suc common
      earlier_long =
          omega (arith, values_long u v cell (0 ∷ []) (take common others), length-take-le common others far)

  appended_value : step_value u v (appended guard old others common) cell ≡ step_value u v others cell
  appended_value =
      ap (last_number 0)
      (values_append u v cell (0 ∷ []) old
      (Choice guard common common ∷ moved_from jump common common (drop common others)))
      ∙ all_follow u v cell jump common common earlier jumped (drop common others) follows
      ∙ ap (last_number 0) (sym (values_append u v cell (0 ∷ []) (take common others) (drop common others)))
      ∙ ap (λ ws. step_value u v ws cell) (take-append-drop common others)

  own_value : slice_index (version_values u v cell (appended guard old others common)) (length old)
      ≡ step_value u v old cell
  own_value =
      let rest = Choice guard common common ∷ moved_from jump common common (drop common others) in
      ap (λ ns. slice_index ns (length old)) (values_append u v cell (0 ∷ []) old rest)
      ∙ values_early u v cell start rest (length old) (omega (arith, values_long u v cell (0 ∷ []) old))
      ∙ value_at_end u v cell old

  none_value : length others ≡ common → slice_index start common ≡ step_value u v others cell
  none_value all =
      in_common common (omega arith)
      ∙ ap (λ ws. slice_index (version_values u v cell ws) common) (take_all common others (omega (arith, all)))
      ∙ ap (slice_index (version_values u v cell others)) (sym all)
      ∙ value_at_end u v cell others

-- ---- the terms of versions that moved on
module _ (P : Version → Type 0) (choices : (guard : TermId) (a b c d : ℕ) → P (Choice guard a b) → P (Choice guard c d))
  where
    moved_one : (by common index : ℕ) (w : Version) → P w → P (moved by common index w)
    moved_one by common index (Put cell id) p = p
    moved_one by common index (Choice guard a b) p =
        choices guard a b (moved_number by common index a) (moved_number by common index b) p

    moved_all : (by common index : ℕ) (ws : List Version) → All P ws → All P (moved_from by common index ws)
    moved_all by common index [] all = All-nil P
    moved_all by common index (w ∷ ws) all =
        All-cons P (moved by common index w) (moved_from by common (index + 1) ws)
        (moved_one by common index w (All-head P w ws all)) (moved_all by common (index + 1) ws (All-tail P w ws all))

    appended_all : (guard : TermId) (old others : List Version) (common : ℕ) → P (Choice guard common common) →
        All P old → All P others → All P (appended guard old others common)
    appended_all guard old others common truth first second =
        let by = length old + 1 - common in
        All-append P old (Choice guard common common ∷ moved_from by common common (drop common others)) first
        (All-cons P (Choice guard common common) (moved_from by common common (drop common others)) truth
        (moved_all by common common (drop common others) (All-drop P common others second)))

appended_terms : (guard : TermId) (old others : List Version) (common : ℕ) →
    HasTerms guard old others (appended guard old others common)
appended_terms guard old others common = record {
  kept = λ x t truth first second.
      appended_all (IsKeptVersion x t) (λ g a b c d p. p) guard old others common truth first second;
  slots = λ x first second. appended_all (HasSlot x) (λ g a b c d p. p) guard old others common tt first second;
}

-- ---- what is appended
pub appends : (guard : TermId) (old others new : List Version) (common number : ℕ) → HaveSame common 0 old others →
    new ≡ appended guard old others common → number ≡ length new → Appends guard old others new number
appends guard old others new common number alike is end =
    let near = alike.within in
    let far = alike.within_other in
    let same = begin_alike common old others alike in
    subst (λ ws. Appends guard old others ws number) (sym is) (record {
      terms = appended_terms guard old others common;
      own = λ u v cell. own_value guard old others common near far same u v cell;
      other = λ u v cell.
          ap (slice_index (version_values u v cell (appended guard old others common))) (end ∙ ap length is)
          ∙ value_at_end u v cell (appended guard old others common)
          ∙ appended_value guard old others common near far same u v cell;
    })

pub appends_none : (guard : TermId) (old others : List Version) (common : ℕ) → HaveSame common 0 old others →
    length others ≡ common → Appends guard old others old common
appends_none guard old others common alike all = record {
  terms = record { kept = λ x t truth first second. first; slots = λ x first second. first };
  own = λ u v cell. value_at_end u v cell old;
  other = λ u v cell.
      none_value guard old others common alike.within alike.within_other (begin_alike common old others alike) u v cell
      all;
}

-- ---- one list of two
push_terms : (guard : TermId) (first second new : List Version) (a b : ℕ) → HasTerms guard first second new →
    HasTerms guard first second (new ++ Choice guard a b ∷ [])
push_terms guard first second new a b terms = record {
  kept = λ x t truth one two.
      All-push (IsKeptVersion x t) new (Choice guard a b) (terms.kept x t truth one two) truth;
  slots = λ x one two. All-push (HasSlot x) new (Choice guard a b) (terms.slots x one two) tt;
}

pub first_kept : (guard : TermId) (first second new all : List Version) (own number : ℕ) → own ≡ length first →
    Appends guard first second new number → all ≡ new ++ Choice guard own number ∷ [] →
    MergesSteps guard first second all
first_kept guard first second new all own number long made is =
    subst (MergesSteps guard first second) (sym is) (record {
      terms = push_terms guard first second new own number made.terms;
      value = λ u v cell.
          value_after u v cell new (Choice guard own number)
          ∙ ap (λ k. choice (value_of u v guard) (slice_index (version_values u v cell new) k)
          (slice_index (version_values u v cell new) number)) long
          ∙ (λ i. choice (value_of u v guard) (made.own u v cell i) (made.other u v cell i));
    })

pub second_kept : (guard : TermId) (first second new all : List Version) (others number : ℕ) →
    others ≡ length second → Appends guard second first new number → all ≡ new ++ Choice guard number others ∷ [] →
    MergesSteps guard first second all
second_kept guard first second new all others number long made is =
    subst (MergesSteps guard first second) (sym is) (record {
      terms = push_terms guard first second new number others (record {
        kept = λ x t truth one two. made.terms.kept x t truth two one;
        slots = λ x one two. made.terms.slots x two one;
      });
      value = λ u v cell.
          value_after u v cell new (Choice guard number others)
          ∙ ap (λ k. choice (value_of u v guard) (slice_index (version_values u v cell new) number)
          (slice_index (version_values u v cell new) k)) long
          ∙ (λ i. choice (value_of u v guard) (made.other u v cell i) (made.own u v cell i));
    })

pub both_same : (guard : TermId) (first second : List Version) (common : ℕ) → HaveSame common 0 first second →
    length first ≡ common → length second ≡ common → MergesSteps guard first second first
both_same guard first second common alike own others =
    let one : first ≡ second =
    sym (take_all common first (omega (arith, own)))
    ∙ begin_alike common first second alike
    ∙ take_all common second (omega (arith, others)) in
    record {
      terms = record { kept = λ x t truth a b. a; slots = λ x a b. a };
      value = λ u v cell.
          chosen_of_one (value_of u v guard) (step_value u v first cell)
          ∙ ap (λ ws. choice (value_of u v guard) (step_value u v first cell) (step_value u v ws cell)) one;
    }

-- ---- the loop that appends
-- those up to an index have moved on, and the others are left
pub record AppendsUntil (guard : TermId) (old others now : List Version) (common index : ℕ) : Type 0 where
  pub so_far : now ++ moved_from (length old + 1 - common) common index (drop index others)
      ≡ appended guard old others common
  pub long : length now + common ≡ length old + 1 + index
  pub within : common ≤ index

pub appends_start : (guard : TermId) (old others now : List Version) (common : ℕ) →
    now ≡ old ++ Choice guard common common ∷ [] → AppendsUntil guard old others now common common
appends_start guard old others now common is = record {
  so_far = ap (λ ws. ws ++ moved_from (length old + 1 - common) common common (drop common others)) is
      ∙ append_assoc old (Choice guard common common ∷ [])
      (moved_from (length old + 1 - common) common common (drop common others));
  long = omega (arith, ap length is, length-append old (Choice guard common common ∷ []));
  within = omega arith;
}

pub appends_more : (guard : TermId) (old others now next : List Version) (common index by : ℕ) (w m : Version) →
    AppendsUntil guard old others now common index → slice_get others index ≡ Some w → by ≡ length now - index →
    m ≡ moved by common index w → next ≡ now ++ m ∷ [] → common ≤ length old →
    AppendsUntil guard old others next common (index + 1)
appends_more guard old others now next common index by w m until at by_is moves is near = record {
  so_far = ap (λ ws. ws ++ moved_from all common (index + 1) (drop (index + 1) others)) is
      ∙ append_assoc now (m ∷ []) (moved_from all common (index + 1) (drop (index + 1) others))
      ∙ ap (λ x. now ++ x ∷ moved_from all common (index + 1) (drop (index + 1) others))
      (moves ∙ ap (λ k. moved k common index w) same)
      ∙ ap (λ ws. now ++ moved_from all common index ws) (sym dropped)
      ∙ until.so_far;
  long = omega (arith, ap length is, length-append now (m ∷ []), until.long);
  within = omega (arith, until.within);
}
  where
    all : ℕ
    all = length old + 1 - common

    same : by ≡ all
    same = omega (arith, by_is, until.long, until.within, near)

    dropped : drop index others ≡ w ∷ drop (index + 1) others
    dropped =
        drop_more others index w (slice_get_within others index w at)
        ∙ ap (λ x. x ∷ drop (index + 1) others) (get_or_from_slice_get others index w w at)

pub appends_all : (guard : TermId) (old others now : List Version) (common index : ℕ) →
    AppendsUntil guard old others now common index → length others ≤ index → now ≡ appended guard old others common
appends_all guard old others now common index until past =
    sym (append-nil now)
    ∙ ap (λ ws. now ++ moved_from (length old + 1 - common) common index ws) (sym (drop_all index others past))
    ∙ until.so_far

-- The values of a parameter or local in versions, and the terms that have them.
use Rattle.std.proofs.Common.{◌≡◌, ℕ, zero, suc, ◌+◌, ◌-◌, ◌<◌, true, false, Some, List, [], ◌∷◌, ◌++◌, All, length, map, take, cond, refl, sym, ap, ◌∙◌, subst, arith, get_or}
use Rattle.std.specs.Prelude.{slice_get, slice_index}
use Rattle.std.proofs.lemmas.List.{get_or_append_left, length-append, map-append, take_more}
use Rattle.std.proofs.lemmas.List.Elements.{All-push}
use Rattle.std.proofs.lemmas.Option.{get_or_from_slice_get, slice_get_within}
use Rattle.tm_base.specs.Arithmetic.{choice}
use Rattle.tm_term.specs.declared.term.TermId.{TermId}
use Rattle.tm_term.specs.Table.{Table, IsSound}
use Rattle.tm_term.specs.Value.{AreInputs, value_of, Extends}
use Rattle.tm_term.proofs.Valued.{Extends-trans}
use Rattle.tm_flat.specs.Steps.{IsTerm}
use Rattle.tm_design.specs.declared.step_cells.StepCell.{StepCell}
use Rattle.tm_flat_exprs.specs.declared.memory.versions.Version.{Version}
use Rattle.tm_flat_exprs.specs.declared.memory.versions.Version.TheVariants.{Put, Choice}
use Rattle.tm_flat_exprs.specs.Made.{Makes}
use Rattle.tm_flat_exprs.specs.Inner.Merging.{MakesChoice}
use Rattle.tm_design.specs.StepCells.{same_cell}
use Rattle.tm_flat_exprs.specs.Versions.{HasWidth, IsLatest, last_number, next_value, step_value, values_behind, version_values}
use Rattle.tm_flat_exprs.proofs.Choices.{choice_made}
use Rattle.tm_flat_exprs.proofs.Later.{Extends-refl, term_along}

-- ---- values
pub last_of_more : (n : ℕ) (ns : List ℕ) (x : ℕ) → last_number n (ns ++ x ∷ []) ≡ x
last_of_more n [] x = refl
last_of_more n (m ∷ ns) x = last_of_more m ns x

-- the last of so many stands at the end
pub last_at : (d : ℕ) (ns : List ℕ) (k : ℕ) → length ns ≡ suc k → last_number d ns ≡ slice_index ns k
last_at d [] k long = absurd (omega (arith, long))
last_at d (n ∷ []) zero long = refl
last_at d (n ∷ []) (suc k) long = absurd (omega (arith, long))
last_at d (n ∷ m ∷ ms) zero long = absurd (omega (arith, long))
last_at d (n ∷ m ∷ ms) (suc k) long = last_at n (m ∷ ms) k (omega (arith, long))

module _ (u : Table) (v : List ℕ) (cell : StepCell) where
  pub values_append : (ns : List ℕ) (xs ys : List Version) →
      values_behind u v cell ns (xs ++ ys) ≡ values_behind u v cell (values_behind u v cell ns xs) ys
  values_append ns [] ys = refl
  values_append ns (x ∷ xs) ys = values_append (ns ++ next_value u v cell ns (last_number 0 ns) x ∷ []) xs ys

  pub values_long : (ns : List ℕ) (ws : List Version) →
      length (values_behind u v cell ns ws) ≡ length ns + length ws
  values_long ns [] = omega arith
  values_long ns (w ∷ ws) =
      let n = next_value u v cell ns (last_number 0 ns) w in
      omega (arith, values_long (ns ++ n ∷ []) ws, length-append ns (n ∷ []))

  pub values_early : (ns : List ℕ) (ws : List Version) (a : ℕ) → a < length ns →
      slice_index (values_behind u v cell ns ws) a ≡ slice_index ns a
  values_early ns [] a below = refl
  values_early ns (w ∷ ws) a below =
      let n = next_value u v cell ns (last_number 0 ns) w in
      values_early (ns ++ n ∷ []) ws a (omega (arith, below, length-append ns (n ∷ [])))
      ∙ get_or_append_left ns (n ∷ []) 0 a below

  -- behind one more version
  pub values_more : (ws : List Version) (w : Version) →
      version_values u v cell (ws ++ w ∷ [])
      ≡ version_values u v cell ws
      ++ next_value u v cell (version_values u v cell ws) (step_value u v ws cell) w ∷ []
  values_more ws w = values_append (0 ∷ []) ws (w ∷ [])

  pub value_after : (ws : List Version) (w : Version) →
      step_value u v (ws ++ w ∷ []) cell
      ≡ next_value u v cell (version_values u v cell ws) (step_value u v ws cell) w
  value_after ws w =
      ap (last_number 0) (values_more ws w)
      ∙ last_of_more 0 (version_values u v cell ws)
      (next_value u v cell (version_values u v cell ws) (step_value u v ws cell) w)

  -- the last version has the number of versions
  pub value_at_end : (ws : List Version) → slice_index (version_values u v cell ws) (length ws) ≡ step_value u v ws cell
  value_at_end ws =
      sym (last_at 0 (version_values u v cell ws) (length ws) (omega (arith, values_long (0 ∷ []) ws)))

-- ---- widths, in each later table
width_along : (t n : Table) (cell : StepCell) (width : ℕ) → Extends t n → (w : Version) → HasWidth t cell width w →
    HasWidth n cell width w
width_along t n cell width grown (Put found id) has = λ same. term_along t n width id grown (has same)
width_along t n cell width grown (Choice guard a b) truth = term_along t n 1 guard grown truth

-- the version at an index has such a width
pub width_at : (t n : Table) (ws : List Version) (cell : StepCell) (width index : ℕ) (w : Version) → Extends t n →
    All (HasWidth t cell width) ws → slice_get ws index ≡ Some w → HasWidth n cell width w
width_at t n ws cell width index w grown all at =
    width_along t n cell width grown w
    (subst (HasWidth t cell width) (get_or_from_slice_get ws index w w at)
    (all index w (slice_get_within ws index w at)))

-- ---- terms of all versions
taken_more : {X : Type 0} (xs : List X) (i : ℕ) (x : X) → slice_get xs i ≡ Some x →
    take (i + 1) xs ≡ take i xs ++ x ∷ []
taken_more xs i x at =
    take_more xs i x (slice_get_within xs i x at)
    ∙ ap (λ y. take i xs ++ y ∷ []) (get_or_from_slice_get xs i x x at)

-- there is a term for each version so far, with the value that the parameter or local has there
pub record TermsUntil (t n : Table) (ws : List Version) (cell : StepCell) (width : ℕ) (ids : List TermId)
    (last : TermId) : Type 0 where
  pub grown : Extends t n
  pub sound : IsSound n
  pub ends : IsTerm n width last
  pub known : All (IsTerm n width) ids
  pub values : (u : Table) → Extends n u → (v : List ℕ) → AreInputs u v →
      map (value_of u v) ids ≡ version_values u v cell ws
  pub value : (u : Table) → Extends n u → (v : List ℕ) → AreInputs u v → value_of u v last ≡ step_value u v ws cell

one_more_term : (t n p : Table) (ws : List Version) (w : Version) (cell : StepCell) (width : ℕ)
    (ids : List TermId) (last id : TermId) → TermsUntil t n ws cell width ids last →
    Makes n p width id (λ u v. next_value u v cell (map (value_of u v) ids) (value_of u v last) w) →
    TermsUntil t p (ws ++ w ∷ []) cell width (ids ++ id ∷ []) id
one_more_term t n p ws w cell width ids last id until made = record {
  grown = Extends-trans t n p until.grown made.grown;
  sound = made.sound;
  ends = made.term;
  known = All-push (IsTerm p width) ids id
      (λ k d below. term_along n p width (get_or ids k d) made.grown (until.known k d below)) made.term;
  values = λ u more v are.
      map-append (value_of u v) ids (id ∷ [])
      ∙ (λ i. until.values u (Extends-trans n p u made.grown more) v are i ++ next u more v are i ∷ [])
      ∙ sym (values_more u v cell ws w);
  value = λ u more v are. next u more v are ∙ sym (value_after u v cell ws w);
}
  where
    next : (u : Table) → Extends p u → (v : List ℕ) → AreInputs u v →
        value_of u v id ≡ next_value u v cell (version_values u v cell ws) (step_value u v ws cell) w
    next u more v are =
        let earlier = Extends-trans n p u made.grown more in
        made.value u more v are
        ∙ (λ i. next_value u v cell (until.values u earlier v are i) (until.value u earlier v are i) w)

-- the loop over all versions: these terms were lent, and those are there then
pub more_terms : (t n p : Table) (ws : List Version) (w : Version) (cell : StepCell) (width index : ℕ)
    (ids lent more : List TermId) (last id : TermId) → TermsUntil t n (take index ws) cell width ids last →
    slice_get ws index ≡ Some w → lent ≡ ids →
    Makes n p width id (λ u v. next_value u v cell (map (value_of u v) lent) (value_of u v last) w) →
    more ≡ ids ++ id ∷ [] → TermsUntil t p (take (index + 1) ws) cell width more id
more_terms t n p ws w cell width index ids lent more last id until at same made is =
    subst (λ xs. TermsUntil t p (take (index + 1) ws) cell width xs id) (sym is)
    (subst (λ vs. TermsUntil t p vs cell width (ids ++ id ∷ []) id) (sym (taken_more ws index w at))
    (one_more_term t n p (take index ws) w cell width ids last id until
    (subst (λ (xs : List TermId). Makes n p width id
    (λ u v. next_value u v cell (map (value_of u v) xs) (value_of u v last) w)) same made)))

-- that of the number 0 is there later, too
pub zero_along : (t n : Table) (width : ℕ) (zero_id : TermId) → Extends t n → IsSound n →
    Makes t t width zero_id (λ u v. 0) → Makes n n width zero_id (λ u v. 0)
zero_along t n width zero_id grown sound zeros = record {
  grown = Extends-refl n;
  sound = sound;
  term = term_along t n width zero_id grown zeros.term;
  value = λ u more v are. zeros.value u (Extends-trans t n u grown more) v are;
}

-- a term that is chosen of those of two versions before
pub next_chosen : (t n : Table) (cell : StepCell) (width : ℕ) (ids : List TermId)
    (last zero_id guard first second id : TermId) (a b : ℕ) (w : Version) → w ≡ Choice guard a b →
    Makes t t width zero_id (λ u v. 0) →
    ((u : Table) (v : List ℕ) → value_of u v zero_id ≡ 0 →
    value_of u v first ≡ slice_index (map (value_of u v) ids) a) →
    ((u : Table) (v : List ℕ) → value_of u v zero_id ≡ 0 →
    value_of u v second ≡ slice_index (map (value_of u v) ids) b) →
    IsTerm t width first → MakesChoice t n guard first second id →
    Makes t n width id (λ u v. next_value u v cell (map (value_of u v) ids) (value_of u v last) w)
next_chosen t n cell width ids last zero_id guard first second id a b w is zeros one other term made = record {
  grown = whole.grown;
  sound = whole.sound;
  term = whole.term;
  value = λ u more v are.
      let none : value_of u v zero_id ≡ 0 = zeros.value u (Extends-trans t n u whole.grown more) v are in
      whole.value u more v are
      ∙ (λ i. choice (value_of u v guard) (one u v none i) (other u v none i))
      ∙ ap (next_value u v cell (map (value_of u v) ids) (value_of u v last)) (sym is);
}
  where
    whole : Makes t n width id (λ u v. choice (value_of u v guard) (value_of u v first) (value_of u v second))
    whole = choice_made t n guard first second id width made term

-- ---- the last version, on the way back to a choice
-- none of those passed so far is of the parameter or local
abbrev pub ArePassed : List Version → StepCell → ℕ → Type 0
ArePassed ws cell left = (u : Table) (v : List ℕ) → step_value u v ws cell ≡ step_value u v (take left ws) cell

module _ (ws : List Version) (cell found : StepCell) (id : TermId) (left index : ℕ) (one : left ≡ index + 1)
    (at : slice_get ws index ≡ Some (Put found id)) (passed : ArePassed ws cell left) where
  by_last : (u : Table) (v : List ℕ) →
      step_value u v ws cell ≡ cond (same_cell found cell) (value_of u v id) (step_value u v (take index ws) cell)
  by_last u v =
      passed u v
      ∙ ap (λ k. step_value u v (take k ws) cell) one
      ∙ ap (λ xs. step_value u v xs cell) (taken_more ws index (Put found id) at)
      ∙ value_after u v cell (take index ws) (Put found id)

  pub one_passed : (rest : ℕ) → rest ≡ index → same_cell found cell ≡ false → ArePassed ws cell rest
  one_passed rest is other = λ u v.
      by_last u v
      ∙ ap (λ b. cond b (value_of u v id) (step_value u v (take index ws) cell)) other
      ∙ ap (λ k. step_value u v (take k ws) cell) (sym is)

  pub is_latest : (zero_id : TermId) → same_cell found cell ≡ true → IsLatest ws cell zero_id id
  is_latest zero_id same = record {
    value = λ u v none.
        sym (by_last u v
        ∙ ap (λ b. cond b (value_of u v id) (step_value u v (take index ws) cell)) same);
    width = λ t w none all.
        subst (HasWidth t cell w) (get_or_from_slice_get ws index (Put found id) (Put found id) at)
        (all index (Put found id) (slice_get_within ws index (Put found id) at)) same;
  }

-- what is found of all versions, too
pub chosen_made : (t n p : Table) (ws : List Version) (cell : StepCell) (width : ℕ) (zero_id id : TermId) →
    Makes t n width zero_id (λ u v. 0) → Makes n p width id (λ u v. step_value u v ws cell) →
    Makes t p width id (λ u v. step_value u v ws cell)
chosen_made t n p ws cell width zero_id id zeros made = record {
  grown = Extends-trans t n p zeros.grown made.grown;
  sound = made.sound;
  term = made.term;
  value = made.value;
}

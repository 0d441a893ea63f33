-- Levels that are narrowed to their least values, one after the other.
use Rattle.std.proofs.Common.{◌≡◌, ◌≢◌, ℕ, ◌+◌, ◌<◌, ◌≤◌, Bool, true, false, cond, not, ◌&&◌, List, [], ◌∷◌, ◌++◌, length, map, take, get_or, refl, sym, ap, ◌∙◌, subst, arith}
use Rattle.std.proofs.lemmas.Bool.{true≢false, and_from, and_parts, not-true, not_from_false}
use Rattle.std.proofs.lemmas.List.{length-map, map_push, same_from_push, take_all, take_more}
use Rattle.tm_dd.specs.declared.node.NodeId.{NodeId}
use Rattle.tm_dd.specs.declared.node.TheConstants.{FALSE, TRUE}
use Rattle.tm_dd.specs.Reduced.{Extends}
use Rattle.tm_dd.specs.Table.{Table, Knows, assignment, means}
use Rattle.tm_dd.proofs.CallerLaws.{Extends-refl, Extends-trans, means-FALSE, means-TRUE}
use Rattle.tm_ddops.specs.Least.{IsLeast}
use Rattle.tm_ddops.specs.Manager.{IsFunction}
use Rattle.tm_sem.specs.StateBits.{comes_before}
use Rattle.tm_game_bits.specs.Inner.Narrowed.{IsCleared, IsNarrowed}
use Rattle.tm_game_bits.specs.Least.{IsLeastAlong}

-- ---- one level
-- what a node means whose children are the constants
clear_means : (t : Table) (clear : NodeId) (level : ℕ) →
    IsFunction t clear (λ v. cond (v level) (means t FALSE v) (means t TRUE v)) → (v : ℕ → Bool) →
    means t clear v ≡ not (v level)
clear_means t clear level is v = is.meaning v ∙ either (v level)
  where
    either : (b : Bool) → cond b (means t FALSE v) (means t TRUE v) ≡ not b
    either true = means-FALSE t v
    either false = means-TRUE t v

-- a function and the part of it where a level is false
pub record IsLow (s : Table) (f : NodeId) (level : ℕ) (low : NodeId) : Type 0 where
  pub known : Knows s low
  pub within : (v : ℕ → Bool) → means s low v ≡ true → (means s f v ≡ true) × (v level ≡ false)
  pub whole : (v : ℕ → Bool) → means s f v ≡ true → v level ≡ false → means s low v ≡ true

pub is_low : (t u : Table) (f clear low : NodeId) (level : ℕ) →
    IsFunction t clear (λ v. cond (v level) (means t FALSE v) (means t TRUE v)) → Extends t u →
    IsFunction u low (λ v. means u f v && means u clear v) → IsLow u f level low
is_low t u f clear low level is_clear extends is = record {
  known = is.known;
  within = λ v h.
      let both = and_parts (means u f v) (means u clear v) (sym (is.meaning v) ∙ h) in
      (both.0, not-true (v level) (sym (clear_is v) ∙ both.1));
  whole = λ v here is_false.
      is.meaning v
      ∙ and_from (means u f v) (means u clear v) here (clear_is v ∙ not_from_false (v level) is_false);
}
  where
    clear_is : (v : ℕ → Bool) → means u clear v ≡ not (v level)
    clear_is v = extends.same_meaning clear is_clear.known v ∙ clear_means t clear level is_clear v

-- where the part is empty, the level is true wherever the function is
pub cleared_empty : (s : Table) (f low : NodeId) (level : ℕ) → Knows s f → IsLow s f level low → low ≡ FALSE →
    IsCleared s f level f
cleared_empty s f low level known is empty = record {
  known = known;
  within = λ v h. h;
  empty = λ e. e;
  least = λ v w _ here is_false.
      absurd (true≢false (sym (is.whole w here is_false) ∙ ap (λ (id : NodeId). means s id w) empty
      ∙ means-FALSE s w));
  whole = λ v w _ here _. here;
}

pub cleared_low : (s : Table) (f low : NodeId) (level : ℕ) → IsLow s f level low → low ≢ FALSE → IsCleared s f level low
cleared_low s f low level is some = record {
  known = is.known;
  within = λ v h. (is.within v h).0;
  empty = λ e. absurd (some e);
  least = λ v w h _ _. (is.within v h).1;
  whole = λ v w h here same. is.whole w here (same ∙ (is.within v h).1);
}

-- ---- levels in a row
-- one more value decides where all before it are equal
pushed_before : (xs ys : List Bool) (a b : Bool) → length xs ≡ length ys → comes_before xs ys ≡ false →
    (xs ≡ ys → a ≡ false → b ≡ false) → comes_before (xs ++ a ∷ []) (ys ++ b ∷ []) ≡ false
pushed_before [] [] true true long before given = refl
pushed_before [] [] true false long before given = refl
pushed_before [] [] false true long before given = absurd (true≢false (given refl refl))
pushed_before [] [] false false long before given = refl
pushed_before [] (y ∷ ys) a b long before given = absurd (omega arith)
pushed_before (x ∷ xs) [] a b long before given = absurd (omega arith)
pushed_before (true ∷ xs) (true ∷ ys) a b long before given =
    pushed_before xs ys a b (omega arith) before (λ same. given (ap (λ zs. true ∷ zs) same))
pushed_before (true ∷ xs) (false ∷ ys) a b long before given = refl
pushed_before (false ∷ xs) (true ∷ ys) a b long before given = absurd (true≢false before)
pushed_before (false ∷ xs) (false ∷ ys) a b long before given =
    pushed_before xs ys a b (omega arith) before (λ same. given (ap (λ zs. false ∷ zs) same))

-- the levels before an index are narrowed, in a store that extends the first
pub record IsNarrowedBelow (s u : Table) (f : NodeId) (levels : List ℕ) (i : ℕ) (id : NodeId) : Type 0 where
  pub extends : Extends s u
  pub narrowed : IsNarrowed u f (take i levels) id

pub narrowed_first : (s : Table) (f : NodeId) (levels : List ℕ) → Knows s f → IsNarrowedBelow s s f levels 0 f
narrowed_first s f levels known = record {
  extends = Extends-refl s;
  narrowed = record {
    known = known;
    within = λ v h. h;
    empty = λ e. e;
    least = λ v w _ _. refl;
    whole = λ v w _ here _. here;
  };
}

narrowed_push : (u w : Table) (f narrow id : NodeId) (done : List ℕ) (level : ℕ) → Extends u w → Knows u f →
    IsNarrowed u f done narrow → IsCleared w narrow level id → IsNarrowed w f (done ++ level ∷ []) id
narrowed_push u w f narrow id done level extends known so_far cleared = record {
  known = cleared.known;
  within = λ v h. f_is v ∙ so_far.within v (narrow_at v h);
  empty = λ e. so_far.empty (cleared.empty e);
  least = λ v x h here.
      let here_u : means u f x ≡ true = sym (f_is x) ∙ here in
      (λ i. comes_before (map_push x done level i) (map_push v done level i))
      ∙ pushed_before (map x done) (map v done) (x level) (v level)
      (length-map done x ∙ sym (length-map done v)) (so_far.least v x (narrow_at v h) here_u)
      (λ same is_false.
      cleared.least v x h (narrow_is x ∙ so_far.whole v x (narrow_at v h) here_u same) is_false);
  whole = λ v x h here same.
      let parts = same_from_push (map x done) (map v done) (x level) (v level)
      (sym (map_push x done level) ∙ same ∙ map_push v done level) in
      cleared.whole v x h
      (narrow_is x ∙ so_far.whole v x (narrow_at v h) (sym (f_is x) ∙ here) parts.0) parts.1;
}
  where
    f_is : (v : ℕ → Bool) → means w f v ≡ means u f v
    f_is v = extends.same_meaning f known v

    narrow_is : (v : ℕ → Bool) → means w narrow v ≡ means u narrow v
    narrow_is v = extends.same_meaning narrow so_far.known v

    narrow_at : (v : ℕ → Bool) → means w id v ≡ true → means u narrow v ≡ true
    narrow_at v h = sym (narrow_is v) ∙ cleared.within v h

pub narrowed_more : (s u w : Table) (f narrow id : NodeId) (levels : List ℕ) (i level : ℕ) → Knows s f →
    i < length levels → level ≡ get_or levels i 0 → Extends u w → IsNarrowedBelow s u f levels i narrow →
    IsCleared w narrow level id → IsNarrowedBelow s w f levels (i + 1) id
narrowed_more s u w f narrow id levels i level known below is extends so_far cleared = record {
  extends = Extends-trans s u w so_far.extends extends;
  narrowed =
      let known_u : Knows u f = omega (arith, known, so_far.extends.rises) in
      subst (λ (done : List ℕ). IsNarrowed w f done id)
      (ap (λ k. take i levels ++ k ∷ []) is ∙ sym (take_more levels i 0 below))
      (narrowed_push u w f narrow id (take i levels) level extends known_u so_far.narrowed cleared);
}

pub narrowed_all : (s u : Table) (f id : NodeId) (levels : List ℕ) (i : ℕ) → length levels ≤ i →
    IsNarrowedBelow s u f levels i id → IsNarrowed u f levels id
narrowed_all s u f id levels i end narrowed =
    subst (λ (done : List ℕ). IsNarrowed u f done id) (take_all i levels end) narrowed.narrowed

-- ---- the least values
pub least_is : (s u : Table) (f narrow : NodeId) (levels : List ℕ) (values found : List Bool) → Knows s f →
    Extends s u → IsNarrowed u f levels narrow → IsLeast u narrow values → found ≡ map (assignment values) levels →
    IsLeastAlong s f levels found
least_is s u f narrow levels values found known extends narrowed least is =
    subst (λ (xs : List Bool). IsLeastAlong s f levels xs) (sym is) (record {
      here = (
        assignment values,
        sym (f_is (assignment values)) ∙ narrowed.within (assignment values) least.holds,
        refl,
      );
      none_before = λ v h. narrowed.least (assignment values) v least.holds (f_is v ∙ h);
    })
  where
    f_is : (v : ℕ → Bool) → means u f v ≡ means s f v
    f_is v = extends.same_meaning f known v

-- Tests as functions and as sets, where more are put behind them and the game grows.
use Rattle.std.proofs.Common.{◌≡◌, ◌⊎◌, inl, inr, ℕ, ◌+◌, ◌-◌, ◌<◌, ◌≤◌, true, ◌&&◌, List, [], ◌∷◌, ◌++◌, Some}
use Rattle.std.proofs.Common.{length, get_or, take, refl, sym, ap, ◌∙◌, subst, arith}
use Rattle.std.proofs.lemmas.Bool.{cases_lt}
use Rattle.std.proofs.lemmas.List.{get_or_append_left, get_or-append-add, get_or_at, length-append, length-take-le}
use Rattle.std.proofs.lemmas.List.{length_push, append_assoc, take_more}
use Rattle.std.proofs.lemmas.Option.{slice_get-get_or, slice_get_within}
use Rattle.std.specs.Prelude.{Contains, slice_get}
use Rattle.tm_check.proofs.Pushed.{pushed_at}
use Rattle.tm_check.specs.Replies.{AreReplies, IsReply}
use Rattle.tm_check.specs.declared.replies.Replies.{Replies}
use Rattle.tm_check.specs.declared.replies.Reply.{Reply}
use Rattle.tm_cir.specs.Meaning.{holds}
use Rattle.tm_cir.specs.Tree.{BlockTree, TruthTree, idle, test}
use Rattle.tm_dd.specs.declared.node.NodeId.{NodeId}
use Rattle.tm_dd.specs.Table.{Knows, means}
use Rattle.tm_ddops.specs.Manager.{IsFunction}
use Rattle.tm_game.specs.Game.{GameData, Grows}
use Rattle.tm_game.proofs.Growing.{states_kept}
use Rattle.tm_game.specs.declared.moves.MoveShape.{MoveShape}
use Rattle.tm_game_bits.specs.AssignedStates.{state_of}
use Rattle.tm_game_bits.specs.Functions.{Assignment}
use Rattle.tm_game_bits.proofs.Extended.{Knows-Extends, means-Extends}
use Rattle.tm_game_bits.proofs.Sets.{both_true}
use Rattle.tm_sem.specs.Step.{IsState}
use Rattle.tm_solve_exact.specs.Exact.{IsExactOf}
use Rattle.tm_solve_exact.specs.Listed.{and_both}
use Rattle.tm_strat.proofs.Carrying.{some_same}
use Rattle.tm_strat.proofs.Gathering.{id_before, id_last, long_more}
use Rattle.tm_strat.specs.Choice.{id_in}
use Rattle.tm_strat.specs.Tested.{AreAllBits, AreTestSets, AreTestsOf, HasBitsOf, IsTestOf, IsTestSet}
use Rattle.tm_strat.specs.Trees.{number_in, predicate_tree}
use Rattle.tm_strat.specs.declared.numbers.Counts.{Counts}
use Rattle.tm_strat.specs.declared.numbers.Number.{Number}
use Rattle.tm_strat.specs.declared.predicates.Predicate.{Predicate}
use Rattle.tm_strat.specs.declared.predicates.Predicate.TheVariants.{Bit}
use Rattle.tm_syntax.specs.Design.{DesignTree}

-- ---- functions
pub test_of_kept : (d : DesignTree) (g h : GameData) → Grows g h → (c : Counts) (p : Predicate) (id : NodeId) →
    IsTestOf d g c p id → IsTestOf d h c p id
test_of_kept d g h grows c p id is = record {
  known = Knows-Extends g.diagrams.table h.diagrams.table grows.diagrams id is.known;
  meaning = λ v.
      ap (λ f. f v) (means-Extends g.diagrams.table h.diagrams.table grows.diagrams id is.known)
      ∙ is.meaning v
      ∙ ap (λ (o : List ℕ). holds (state_of d o v) 0 (predicate_tree c p)) (sym grows.order);
}

pub tests_of_kept : (d : DesignTree) (g h : GameData) → Grows g h → (c : Counts) (tests : List Predicate)
    (ids : List NodeId) (count : ℕ) → AreTestsOf d g c tests ids count → AreTestsOf d h c tests ids count
tests_of_kept d g h grows c tests ids count are = record {
  count_is = are.count_is;
  each = λ k p below there. test_of_kept d g h grows c p (id_in ids k) (are.each k p below there);
}

pub tests_of_none : (d : DesignTree) (g : GameData) (c : Counts) (tests : List Predicate) (ids : List NodeId) →
    ids ≡ [] → AreTestsOf d g c tests ids 0
tests_of_none d g c tests ids none = record {
  count_is = ap (λ (l : List NodeId). length l) none;
  each = λ k p below there. absurd (omega (arith, below));
}

pub tests_of_more : (d : DesignTree) (g h : GameData) → Grows g h → (c : Counts) (tests : List Predicate)
    (ids more : List NodeId) (k : ℕ) (p : Predicate) (id : NodeId) → AreTestsOf d g c tests ids k →
    k < length tests → p ≡ get_or tests k p → IsTestOf d h c p id → more ≡ ids ++ id ∷ [] →
    AreTestsOf d h c tests more (k + 1)
tests_of_more d g h grows c tests ids more k p id are below this is items = record {
  count_is = let long = long_more ids id more items in let count = are.count_is in omega (arith, long, count);
  each = λ j q under there. at j q under there (cases_lt j k);
}
  where
    at : (j : ℕ) (q : Predicate) → j < k + 1 → slice_get tests j ≡ Some q → (j < k) ⊎ (k ≤ j) →
        IsTestOf d h c q (id_in more j)
    at j q under there (inl low) =
        let count = are.count_is in
        subst (IsTestOf d h c q) (sym (id_before ids id more items j (omega (arith, low, count))))
        (test_of_kept d g h grows c q (id_in ids j) (are.each j q low there))
    at j q under there (inr high) =
        let count = are.count_is in
        let same : k ≡ j = omega (arith, under, high) in
        let found : Some p ≡ Some q = sym (slice_get-get_or tests k p below ∙ ap Some (sym this))
        ∙ ap (λ (n : ℕ). slice_get tests n) same ∙ there in
        subst (IsTestOf d h c q) (sym (id_last ids id more items j (omega (arith, count, same))))
        (subst (λ (x : Predicate). IsTestOf d h c x id) (some_same found) is)

-- one of them, where the game has grown
pub test_there : (d : DesignTree) (g h : GameData) → Grows g h → (c : Counts) (tests : List Predicate)
    (ids : List NodeId) (count k : ℕ) (p : Predicate) (id : NodeId) → AreTestsOf d g c tests ids count → k < count →
    k < length tests → id ≡ id_in ids k → IsTestOf d h c (get_or tests k p) id
test_there d g h grows c tests ids count k p id are below within is =
    subst (IsTestOf d h c (get_or tests k p)) (sym is)
    (test_of_kept d g h grows c (get_or tests k p) (id_in ids k)
    (are.each k (get_or tests k p) below (slice_get-get_or tests k p within)))

-- ids belong to their tests also where both lists have other names and the game has grown
pub tests_read : (d : DesignTree) (g h : GameData) → Grows g h → (c : Counts) (tests others : List Predicate)
    (ids more : List NodeId) → others ≡ tests → more ≡ ids → AreTestsOf d g c tests ids (length tests) →
    AreTestsOf d h c others more (length others)
tests_read d g h grows c tests others ids more same ids_same are =
    subst (λ (l : List Predicate). AreTestsOf d h c l more (length l)) (sym same)
    (subst (λ (l : List NodeId). AreTestsOf d h c tests l (length tests)) (sym ids_same)
    (tests_of_kept d g h grows c tests ids (length tests) are))

-- the first reply of two blocks
pub test_replied : (d : DesignTree) (g : GameData) (c : Counts) (p : Predicate) (bs : List BlockTree) (r : Replies)
    (list : List Reply) (id : NodeId) → bs ≡ test (predicate_tree c p) 1 1 ∷ idle ∷ [] → AreReplies d g 0 bs r →
    list ≡ r.list.items →
    ((e : DesignTree) (h : GameData) (shapes : List MoveShape) (t : TruthTree) (first second : ℕ) (x : Reply) →
    slice_get list 0 ≡ Some x → IsReply e h.order h.diagrams.table 0 shapes (test t first second) x →
    IsFunction h.diagrams.table id (λ v. holds (state_of e h.order v) 0 t)) →
    IsTestOf d g c p id
test_replied d g c p bs r list id are replies same told =
    let found = first_of list
    (let long = ap (λ (l : List Reply). length l) same in
    let count = replies.count in
    let two = ap (λ (l : List BlockTree). length l) are in omega (arith, long, count, two)) in
    told d g r.shapes.items (predicate_tree c p) 1 1 found.0 found.1
    (replies.each 0 (test (predicate_tree c p) 1 1) found.0
    (ap (λ (l : List BlockTree). slice_get l 0) are) (ap (λ (l : List Reply). slice_get l 0) (sym same) ∙ found.1))
  where
    first_of : (l : List Reply) → 0 < length l → (x : Reply) × (slice_get l 0 ≡ Some x)
    first_of [] some = absurd (omega (arith, some))
    first_of (x ∷ xs) some = (x, refl)

-- ---- sets
module _ (d : DesignTree) (g h : GameData) (is : IsExactOf d g) (grows : Grows g h) (c : Counts) where
  pub test_set : (p : Predicate) (there valid id : NodeId) → valid ≡ g.valid → IsTestOf d g c p there →
      (Knows g.diagrams.table there → Knows g.diagrams.table valid →
      IsFunction h.diagrams.table id (λ v. means h.diagrams.table there v && means h.diagrams.table valid v)) →
      IsTestSet d h c p id
  test_set p there valid id same test_is answer = record {
    known = made.known;
    only = λ v held.
        let parts = both_true (means h.diagrams.table there v) (means h.diagrams.table valid v)
        (sym (made.meaning v) ∙ held) in
        subst (λ (o : List ℕ).
        IsState d (state_of d o v) × (holds (state_of d o v) 0 (predicate_tree c p) ≡ true)) (sym grows.order) (
          (is.sets.valid.only v (sym (valid_same v) ∙ parts.1)).0,
          sym (test_is.meaning v) ∙ sym (there_same v) ∙ parts.0,
        );
    all = λ v held.
        let here = subst (λ (o : List ℕ).
        IsState d (state_of d o v) × (holds (state_of d o v) 0 (predicate_tree c p) ≡ true)) grows.order held in
        made.meaning v
        ∙ and_both (means h.diagrams.table there v) (means h.diagrams.table valid v)
        (there_same v ∙ test_is.meaning v ∙ here.1)
        (valid_same v ∙ is.sets.valid.all v (here.0, tt));
  }
    where
      valid_known : Knows g.diagrams.table valid
      valid_known = subst (Knows g.diagrams.table) (sym same) is.sets.valid.known

      made : IsFunction h.diagrams.table id (λ v. means h.diagrams.table there v && means h.diagrams.table valid v)
      made = answer test_is.known valid_known

      there_same : (v : Assignment) → means h.diagrams.table there v ≡ means g.diagrams.table there v
      there_same v = ap (λ f. f v) (means-Extends g.diagrams.table h.diagrams.table grows.diagrams there test_is.known)

      valid_same : (v : Assignment) → means h.diagrams.table valid v ≡ means g.diagrams.table g.valid v
      valid_same v =
          ap (λ f. f v) (means-Extends g.diagrams.table h.diagrams.table grows.diagrams valid valid_known)
          ∙ ap (λ (i : NodeId). means g.diagrams.table i v) same

  set_kept : (p : Predicate) (id : NodeId) → IsTestSet d g c p id → IsTestSet d h c p id
  set_kept p id set = states_kept g h grows d (λ s. holds s 0 (predicate_tree c p) ≡ true) id set

  pub sets_kept : (tests : List Predicate) (ids : List NodeId) → AreTestSets d g c tests ids →
      AreTestSets d h c tests ids
  sets_kept tests ids are = record {
    count_is = are.count_is;
    each = λ k p there. set_kept p (id_in ids k) (are.each k p there);
  }

  pub sets_more : (tests news : List Predicate) (ids more : List NodeId) (p : Predicate) (id : NodeId) →
      AreTestSets d g c tests ids → IsTestSet d h c p id → news ≡ tests ++ p ∷ [] → more ≡ ids ++ id ∷ [] →
      AreTestSets d h c news more
  sets_more tests news ids more p id are set items others = record {
    count_is = let long = long_more ids id more others in
        let count = are.count_is in
        let new = length_push tests p in
        let same = ap (λ (l : List Predicate). length l) items in omega (arith, long, count, new, same);
    each = λ k q there. at k q (pushed_at tests p k q (sym (ap (λ (l : List Predicate). slice_get l k) items) ∙ there));
  }
    where
      at : (k : ℕ) (q : Predicate) → (slice_get tests k ≡ Some q) ⊎ ((k ≡ length tests) × (p ≡ q)) →
          IsTestSet d h c q (id_in more k)
      at k q (inl before) =
          let within = slice_get_within tests k q before in
          let count = are.count_is in
          subst (IsTestSet d h c q) (sym (id_before ids id more others k (omega (arith, within, count))))
          (set_kept q (id_in ids k) (are.each k q before))
      at k q (inr last) =
          let count = are.count_is in
          let place = last.0 in
          subst (IsTestSet d h c q) (sym (id_last ids id more others k (omega (arith, place, count))))
          (subst (λ (x : Predicate). IsTestSet d h c x id) last.1 set)

pub sets_none : (d : DesignTree) (g : GameData) (c : Counts) (tests : List Predicate) (ids : List NodeId) →
    tests ≡ [] → ids ≡ [] → AreTestSets d g c tests ids
sets_none d g c tests ids none no_ids = record {
  count_is = ap (λ (l : List NodeId). length l) no_ids ∙ sym (ap (λ (l : List Predicate). length l) none);
  each = λ k p there. absurd (nothing k p (sym (ap (λ (l : List Predicate). slice_get l k) none) ∙ there));
}
  where
    nothing : (k : ℕ) (p : Predicate) → slice_get [] k ≡ Some p → ⊥
    nothing k p there = let below = slice_get_within [] k p there in omega (arith, below)

-- ---- bits
contained_behind : (olds xs : List Predicate) (p : Predicate) → Contains xs p → Contains (olds ++ xs) p
contained_behind olds xs p (k, below, is) = (
  length olds + k,
  let long = length-append olds xs in omega (arith, below, long),
  get_or-append-add olds xs k p ∙ is,
)

contained_before : (xs ys : List Predicate) (p : Predicate) → Contains xs p → Contains (xs ++ ys) p
contained_before xs ys p (k, below, is) = (
  k,
  let long = length-append xs ys in omega (arith, below, long),
  get_or_append_left xs ys p k below ∙ is,
)

contained_last : (xs : List Predicate) (p : Predicate) → Contains (xs ++ p ∷ []) p
contained_last xs p = (
  length xs,
  let long = length_push xs p in omega (arith, long),
  get_or_at xs p [] p (length xs) refl,
)

-- one bit more of a number, from the highest on
pub bit_pushed : (n : Number) (olds found news : List Predicate) (width passed : ℕ) → passed < width →
    ((p : Predicate) → Contains olds p → Contains found p) →
    ((weight : ℕ) → weight < width → width ≤ weight + passed → Contains found (Bit n weight)) →
    news ≡ found ++ Bit n (width - 1 - passed) ∷ [] →
    record {
      stay : (p : Predicate) → Contains olds p → Contains news p;
      bits : (weight : ℕ) → weight < width → width ≤ weight + (passed + 1) → Contains news (Bit n weight);
    }
bit_pushed n olds found news width passed below stay bits items = record {
  stay = λ p there.
      subst (λ (l : List Predicate). Contains l p) (sym items)
      (contained_before found (Bit n (width - 1 - passed) ∷ []) p (stay p there));
  bits = λ weight under above.
      subst (λ (l : List Predicate). Contains l (Bit n weight)) (sym items)
      (at weight under above (cases_lt (weight + passed) width));
}
  where
    at : (weight : ℕ) → weight < width → width ≤ weight + (passed + 1) →
        (weight + passed < width) ⊎ (width ≤ weight + passed) →
        Contains (found ++ Bit n (width - 1 - passed) ∷ []) (Bit n weight)
    at weight under above (inl low) =
        let same : width - 1 - passed ≡ weight = omega (arith, under, above, low) in
        subst (λ (k : ℕ). Contains (found ++ Bit n (width - 1 - passed) ∷ []) (Bit n k)) same
        (contained_last found (Bit n (width - 1 - passed)))
    at weight under above (inr high) =
        contained_before found (Bit n (width - 1 - passed) ∷ []) (Bit n weight) (bits weight under high)

pub no_bits : (c : Counts) (widths : List ℕ) (tests : List Predicate) → AreAllBits c (take 0 widths) tests
no_bits c widths tests = record {
  each = λ i w weight there below.
      let under = slice_get_within (take 0 widths) i w there in absurd (omega (arith, under));
}

-- the bits of one number more
pub number_bits : (c : Counts) (widths : List ℕ) (k : ℕ) (w : ℕ) (n : Number) (olds news : List Predicate) →
    AreAllBits c (take k widths) olds → k < length widths → w ≡ get_or widths k 0 → n ≡ number_in c k →
    HasBitsOf n w olds news → AreAllBits c (take (k + 1) widths) news
number_bits c widths k w n olds news before below this is more = record {
  each = λ i v weight there under.
      at i v weight under
      (pushed_at (take k widths) w i v (sym (ap (λ (l : List ℕ). slice_get l i) items) ∙ there));
}
  where
    items : take (k + 1) widths ≡ take k widths ++ w ∷ []
    items = take_more widths k 0 below ∙ ap (λ (x : ℕ). take k widths ++ x ∷ []) (sym this)

    at : (i v weight : ℕ) → weight < v →
        (slice_get (take k widths) i ≡ Some v) ⊎ ((i ≡ length (take k widths)) × (w ≡ v)) →
        Contains news (Bit (number_in c i) weight)
    at i v weight under (inl earlier) =
        more.stay (Bit (number_in c i) weight) (before.each i v weight earlier under)
    at i v weight under (inr last) =
        let long = length-take-le k widths (omega (arith, below)) in
        let place = last.0 in
        let same : k ≡ i = omega (arith, place, long) in
        let width = last.1 in
        subst (λ (m : Number). Contains news (Bit m weight)) (is ∙ ap (number_in c) same)
        (more.bits weight (omega (arith, under, width)))

pub bits_behind : (c : Counts) (widths : List ℕ) (olds tests news : List Predicate) → AreAllBits c widths tests →
    news ≡ olds ++ tests → AreAllBits c widths news
bits_behind c widths olds tests news all items = record {
  each = λ i w weight there below.
      subst (λ (l : List Predicate). Contains l (Bit (number_in c i) weight)) (sym items)
      (contained_behind olds tests (Bit (number_in c i) weight) (all.each i w weight there below));
}

-- one more of a list behind others
pub pushed_more : (olds all mid news : List Predicate) (k : ℕ) (p : Predicate) → mid ≡ olds ++ take k all →
    k < length all → p ≡ get_or all k p → news ≡ mid ++ p ∷ [] → news ≡ olds ++ take (k + 1) all
pushed_more olds all mid news k p before below is items =
    items
    ∙ ap (λ (l : List Predicate). l ++ p ∷ []) before
    ∙ append_assoc olds (take k all) (p ∷ [])
    ∙ ap (λ (x : Predicate). olds ++ (take k all ++ x ∷ [])) is
    ∙ ap (λ (l : List Predicate). olds ++ l) (sym (take_more all k p below))

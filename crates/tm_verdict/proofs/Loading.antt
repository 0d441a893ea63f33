-- Diagrams of entries, one behind the other.
use Rattle.std.proofs.Common.{◌≡◌, ℕ, zero, suc, ◌+◌, ◌-◌, ◌<◌, ◌≤◌, ◌⊎◌, inl, inr, Bool, true, false, List, [], ◌∷◌, ◌++◌, length, take, get_or, if◌then◌else◌, Some, refl, sym, ap, ◌∙◌, subst, arith}
use Rattle.std.specs.Prelude.{slice_get}
use Rattle.std.proofs.lemmas.List.{get_or-take, get_or_at, get_or_append_left, length-take-le, length_push}
use Rattle.std.proofs.lemmas.Option.{get_or_from_slice_get, slice_get-get_or, slice_get_read, slice_get_within}
use Rattle.tm_dd.specs.declared.node.NodeId.{NodeId}
use Rattle.tm_dd.specs.declared.node.TheConstants.{FALSE, TRUE}
use Rattle.tm_dd.specs.Reduced.{Extends, IsDeeper, RanksRise}
use Rattle.tm_dd.specs.Table.{Table, Knows, depth_of, means, rank_of}
use Rattle.tm_dd.proofs.CallerLaws.{depth_of-Extends, means-FALSE, means-TRUE, rank_of-Extends}
use Rattle.tm_ddops.specs.Manager.{IsFunction}
use Rattle.tm_cert.specs.declared.cert.Entry.{Entry}
use Rattle.tm_cert.specs.CertValue.{IsAboveChild, IsNode}
use Rattle.tm_verdict.specs.Fitting.{AreNodes}
use Rattle.tm_verdict.specs.Sets.{id_holds}
use Rattle.tm_verdict.proofs.Values.{always_holds, entry_holds, never_holds}
use Rattle.tm_verdict.specs.Inner.Loading.{AreFirst, IsLoaded}
use Rattle.tm_verdict.specs.Loaded.{AreLoaded}

-- ---- constants
false_loaded : (s : Table) (bits : ℕ) (nodes : List Entry) → IsLoaded s bits nodes 0 FALSE
false_loaded s bits nodes = record {
  function = record {
    known = omega arith;
    meaning = λ v. means-FALSE s v ∙ sym (never_holds nodes v);
  };
  deep = λ level below above. inl (omega arith);
}

true_loaded : (s : Table) (bits : ℕ) (nodes : List Entry) → IsLoaded s bits nodes 1 TRUE
true_loaded s bits nodes = record {
  function = record {
    known = omega arith;
    meaning = λ v. means-TRUE s v ∙ sym (always_holds nodes v);
  };
  deep = λ level below above. inl (omega arith);
}

pub begun : (s : Table) (bits : ℕ) (nodes : List Entry) → AreFirst s bits nodes 0 (FALSE ∷ TRUE ∷ [])
begun s bits nodes = record { count = refl; each = each }
  where
    each : (k : ℕ) (id : NodeId) → slice_get (FALSE ∷ TRUE ∷ []) k ≡ Some id → IsLoaded s bits nodes k id
    each zero id is = let same : FALSE ≡ id = cc in subst (IsLoaded s bits nodes 0) same (false_loaded s bits nodes)
    each (suc zero) id is = let same : TRUE ≡ id = cc in subst (IsLoaded s bits nodes 1) same (true_loaded s bits nodes)
    each (suc (suc k)) id is = absurd (cc)

-- ---- what was loaded stays so
deeper_kept : (s t : Table) → Extends s t → (level : ℕ) (id : NodeId) → Knows s id → IsDeeper s level id →
    IsDeeper t level id
deeper_kept s t grows level id known (inl constant) = inl constant
deeper_kept s t grows level id known (inr deeper) =
    inr (omega (arith, rank_of-Extends s t grows level, depth_of-Extends s t grows id known, deeper))

loaded_kept : (s t : Table) (bits : ℕ) (nodes : List Entry) (k : ℕ) (id : NodeId) → Extends s t →
    IsLoaded s bits nodes k id → IsLoaded t bits nodes k id
loaded_kept s t bits nodes k id grows is = record {
  function = record {
    known = omega (arith, grows.rises, is.function.known);
    meaning = λ v. grows.same_meaning id is.function.known v ∙ is.function.meaning v;
  };
  deep = λ level below above. deeper_kept s t grows level id is.function.known (is.deep level below above);
}

pub first_kept : (s t : Table) (bits : ℕ) (nodes : List Entry) (done : ℕ) (ids : List NodeId) → Extends s t →
    AreFirst s bits nodes done ids → AreFirst t bits nodes done ids
first_kept s t bits nodes done ids grows are = record {
  count = are.count;
  each = λ k id is. loaded_kept s t bits nodes k id grows (are.each k id is);
}

-- ---- an entry
module _ (bits : ℕ) (nodes : List Entry) (nodes_are : AreNodes bits nodes) (done : ℕ) (e : Entry)
    (at : slice_get nodes done ≡ Some e) where
  -- a child that stands before the entry
  child_above : (id : ℕ) → id < done + 2 → IsAboveChild (take done nodes) e.level id → IsAboveChild nodes e.level id
  child_above id before above child inner is =
      let within = slice_get_within nodes (id - 2) child is in
      let low : id - 2 < done = omega arith in
      let long = length-take-le done nodes (let all = slice_get_within nodes done e at in omega arith) in
      above child inner
      (slice_get-get_or (take done nodes) (id - 2) child (omega (arith, long))
      ∙ ap Some (get_or-take done nodes (id - 2) child low ∙ get_or_from_slice_get nodes (id - 2) child child is))

  node : IsNode bits (take done nodes) e
  node = nodes_are done e at

  before : length (take done nodes) ≡ done
  before = length-take-le done nodes (let all = slice_get_within nodes done e at in omega arith)

  pub level_below : (s : Table) → bits ≤ s.levels → e.level < s.levels
  level_below s few = let below = node.level_below in omega arith

  pub lo_before : (ids : List NodeId) (s : Table) → AreFirst s bits nodes done ids → e.lo < length ids
  lo_before ids s are = omega (arith, node.lo_before, before, are.count)

  pub hi_before : (ids : List NodeId) (s : Table) → AreFirst s bits nodes done ids → e.hi < length ids
  hi_before ids s are = omega (arith, node.hi_before, before, are.count)

  -- what is read at a child's id
  pub lo_is : (ids : List NodeId) (s : Table) (lo : NodeId) → AreFirst s bits nodes done ids → lo ≡ get_or ids e.lo lo →
      slice_get ids e.lo ≡ Some lo
  lo_is ids s lo are read = slice_get_read ids (length ids) e.lo lo refl (lo_before ids s are) read

  pub hi_is : (ids : List NodeId) (s : Table) (hi : NodeId) → AreFirst s bits nodes done ids → hi ≡ get_or ids e.hi hi →
      slice_get ids e.hi ≡ Some hi
  hi_is ids s hi are read = slice_get_read ids (length ids) e.hi hi refl (hi_before ids s are) read

  pub lo_deeper : (ids : List NodeId) (s : Table) (lo : NodeId) → AreFirst s bits nodes done ids →
      slice_get ids e.lo ≡ Some lo → IsDeeper s e.level lo
  lo_deeper ids s lo are is =
      (are.each e.lo lo is).deep e.level node.level_below
      (child_above e.lo (omega (arith, node.lo_before, before)) node.lo_deeper)

  pub hi_deeper : (ids : List NodeId) (s : Table) (hi : NodeId) → AreFirst s bits nodes done ids →
      slice_get ids e.hi ≡ Some hi → IsDeeper s e.level hi
  hi_deeper ids s hi are is =
      (are.each e.hi hi is).deep e.level node.level_below
      (child_above e.hi (omega (arith, node.hi_before, before)) node.hi_deeper)

  -- the entry is loaded behind those before it
  pub one_more : (ids : List NodeId) (s : Table) → RanksRise bits s → (lo hi id : NodeId) →
      AreFirst s bits nodes done ids →
      slice_get ids e.lo ≡ Some lo → slice_get ids e.hi ≡ Some hi →
      IsFunction s id (λ v. if v e.level then means s hi v else means s lo v) →
      rank_of s e.level ≤ depth_of s id →
      AreFirst s bits nodes (done + 1) (ids ++ id ∷ [])
  one_more ids s rise lo hi id are lo_is hi_is is deep = record {
    count = omega (arith, length_push ids id, are.count);
    each = each;
  }
    where
      chosen : (b : Bool) (v : ℕ → Bool) →
          (if b then means s hi v else means s lo v) ≡ (if b then id_holds nodes e.hi v else id_holds nodes e.lo v)
      chosen true v = (are.each e.hi hi hi_is).function.meaning v
      chosen false v = (are.each e.lo lo lo_is).function.meaning v

      last : IsLoaded s bits nodes (done + 2) id
      last = record {
        function = record {
          known = is.known;
          meaning = λ v. is.meaning v ∙ chosen (v e.level) v ∙ sym (entry_holds bits done nodes e v nodes_are at);
        };
        deep = λ level below above.
            let same : done + 2 - 2 ≡ done = omega arith in
            let higher = above e (omega arith) (ap (slice_get nodes) same ∙ at) in
            inr (omega (arith, rise level e.level higher node.level_below, deep));
      }

      each : (k : ℕ) (other : NodeId) → slice_get (ids ++ id ∷ []) k ≡ Some other → IsLoaded s bits nodes k other
      each k other there = by (earlier_or_last k (slice_get_within (ids ++ id ∷ []) k other there))
        where
          earlier_or_last : (n : ℕ) → n < length (ids ++ id ∷ []) → (n < length ids) ⊎ (length ids ≡ n)
          earlier_or_last n within = let long = length_push ids id in grind arith

          read : get_or (ids ++ id ∷ []) k other ≡ other
          read = get_or_from_slice_get (ids ++ id ∷ []) k other other there

          by : (k < length ids) ⊎ (length ids ≡ k) → IsLoaded s bits nodes k other
          by (inl before) =
              are.each k other
              (slice_get-get_or ids k other before
              ∙ ap Some (sym (get_or_append_left ids (id ∷ []) other k before) ∙ read))
          by (inr here) =
              let same : id ≡ other = sym (get_or_at ids id [] other k here) ∙ read in
              let place : done + 2 ≡ k = omega (arith, are.count, here) in
              subst (IsLoaded s bits nodes k) same (subst (λ (n : ℕ). IsLoaded s bits nodes n id) place last)

-- all are loaded
pub all_loaded : (s : Table) (bits : ℕ) (nodes : List Entry) (done : ℕ) (ids : List NodeId) → length nodes ≡ done →
    AreFirst s bits nodes done ids → AreLoaded s nodes ids
all_loaded s bits nodes done ids all are = record {
  count = are.count ∙ ap (λ n. n + 2) (sym all);
  each = λ k id is. (are.each k id is).function;
}

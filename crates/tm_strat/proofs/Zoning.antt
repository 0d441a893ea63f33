-- Zones and targets as ids, one step more at a time.
use Rattle.std.proofs.Common.{◌≡◌, ◌⊎◌, inl, inr, ℕ, zero, suc, ◌<◌, ◌≤◌, Bool, true, false, ◌&&◌, ◌||◌, not, List, []}
use Rattle.std.proofs.Common.{◌∷◌, ◌++◌, Some, length, get_or, slice_get, take, refl, sym, ap, ◌∙◌, subst, arith}
use Rattle.std.proofs.lemmas.List.{length_push}
use Rattle.std.proofs.lemmas.Option.{slice_get_within}
use Rattle.std.specs.List.{list_any}
use Rattle.tm_check.proofs.Pushed.{pushed_at}
use Rattle.tm_dd.specs.declared.node.NodeId.{NodeId}
use Rattle.tm_dd.specs.declared.node.TheConstants.{FALSE}
use Rattle.tm_dd.specs.Table.{Knows, Table, means}
use Rattle.tm_dd.proofs.CallerLaws.{means-FALSE}
use Rattle.tm_ddops.specs.Manager.{IsFunction}
use Rattle.tm_game.specs.Game.{GameData, Grows, IsSet}
use Rattle.tm_game_bits.proofs.Extended.{Knows-Extends, means-Extends}
use Rattle.tm_game_bits.specs.Functions.{Assignment, Function}
use Rattle.tm_solve.specs.declared.iterates.RankSet.{RankSet}
use Rattle.tm_strat.proofs.Carrying.{grown, set_stays}
use Rattle.tm_strat.specs.Choice.{id_in}
use Rattle.tm_strat.specs.declared.good.NewStates.{NewStates}
use Rattle.tm_strat.specs.Zones.{AreNew, AreTargets, AreWaits, AreZones, Rank, Tells, Zoning, added, before, failing}
use Rattle.tm_strat.specs.Zones.{falling, met, nothing, rank_at, target, waiting, zone}
use Rattle.tm_strat_drafts.specs.Growth.{Carried}

-- ---- growth
module _ (g h : GameData) (carried : Carried g h) where
  kept : (id : NodeId) → Knows g.diagrams.table id → (v : Assignment) →
      means h.diagrams.table id v ≡ means g.diagrams.table id v
  kept id known v =
      ap (λ (f : Function). f v)
      (means-Extends g.diagrams.table h.diagrams.table (grown g h carried).diagrams id known)

  pub function_kept : (id : NodeId) (f : Function) → IsFunction g.diagrams.table id f →
      IsFunction h.diagrams.table id f
  function_kept id f is = record {
    known = Knows-Extends g.diagrams.table h.diagrams.table (grown g h carried).diagrams id is.known;
    meaning = λ v. kept id is.known v ∙ is.meaning v;
  }

  module _ (a b id : NodeId) (f k : Function) (a_is : IsFunction g.diagrams.table a f)
      (b_is : IsFunction g.diagrams.table b k) where
    one : (v : Assignment) → means h.diagrams.table a v ≡ f v
    one v = kept a a_is.known v ∙ a_is.meaning v

    other : (v : Assignment) → means h.diagrams.table b v ≡ k v
    other v = kept b b_is.known v ∙ b_is.meaning v

    pub both_of : (Knows g.diagrams.table a → Knows g.diagrams.table b → IsFunction h.diagrams.table id
        (λ v. means h.diagrams.table a v && means h.diagrams.table b v)) →
        IsFunction h.diagrams.table id (λ v. f v && k v)
    both_of answer =
        let is = answer a_is.known b_is.known in
        record { known = is.known; meaning = λ v. is.meaning v ∙ (λ i. one v i && other v i) }

    pub rest_of : (Knows g.diagrams.table a → Knows g.diagrams.table b → IsFunction h.diagrams.table id
        (λ v. means h.diagrams.table a v && not (means h.diagrams.table b v))) →
        IsFunction h.diagrams.table id (λ v. f v && not (k v))
    rest_of answer =
        let is = answer a_is.known b_is.known in
        record { known = is.known; meaning = λ v. is.meaning v ∙ (λ i. one v i && not (other v i)) }

    pub either_of : (Knows g.diagrams.table a → Knows g.diagrams.table b → IsFunction h.diagrams.table id
        (λ v. means h.diagrams.table a v || means h.diagrams.table b v)) →
        IsFunction h.diagrams.table id (λ v. f v || k v)
    either_of answer =
        let is = answer a_is.known b_is.known in
        record { known = is.known; meaning = λ v. is.meaning v ∙ (λ i. one v i || other v i) }

  pub zones_kept : (z : Zoning) (n : ℕ) (ids : List NodeId) → AreZones g.diagrams.table z n ids →
      AreZones h.diagrams.table z n ids
  zones_kept z n ids are = record {
    count = are.count;
    each = λ k id there. function_kept id (zone z k) (are.each k id there);
  }

  pub waits_kept : (z : Zoning) (n : ℕ) (waits : List NewStates) → AreWaits g.diagrams.table z n waits →
      AreWaits h.diagrams.table z n waits
  waits_kept z n waits are = record {
    count = are.count;
    waiting_is = λ k w there. function_kept w.waiting (waiting z k) (are.waiting_is k w there);
    falling_is = λ k w there. function_kept w.falling (falling z k) (are.falling_is k w there);
  }

  pub targets_kept : (z : Zoning) (n : ℕ) (ids : List NodeId) → AreTargets g.diagrams.table z n ids →
      AreTargets h.diagrams.table z n ids
  targets_kept z n ids are = record {
    count = are.count;
    each = λ k id there. function_kept id (target z k) (are.each k id there);
  }

pub nothing_of : (t : Table) → IsFunction t FALSE nothing
nothing_of t = record { known = omega arith; meaning = λ v. means-FALSE t v }

-- an id of the same function
pub function_same : (t : Table) (id : NodeId) (f k : Function) → ((v : Assignment) → f v ≡ k v) → IsFunction t id f →
    IsFunction t id k
function_same t id f k same is = record { known = is.known; meaning = λ v. is.meaning v ∙ same v }

-- past the last rank there is none
pub past : (rs : List Rank) (k : ℕ) → length rs ≤ k →
    get_or rs k (record { set = nothing; fair = nothing }) ≡ record { set = nothing; fair = nothing }
past [] k above = refl
past (r ∷ rs) zero above = absurd (omega arith)
past (r ∷ rs) (suc k) above = past rs k (omega (arith, above))

-- ---- one more
module _ (t : Table) (z : Zoning) where
  zones_push : (n : ℕ) (ids more : List NodeId) (id : NodeId) → AreZones t z n ids → IsFunction t id (zone z n) →
      more ≡ ids ++ id ∷ [] → AreZones t z (suc n) more
  zones_push n ids more id are is items = record {
    count = ap (λ (l : List NodeId). length l) items
        ∙ (let long = length_push ids id in let count = are.count in omega (arith, long, count));
    each = λ k x there. by k x (pushed_at ids id k x (subst (λ (l : List NodeId). slice_get l k ≡ Some x) items there));
  }
    where
      by : (k : ℕ) (x : NodeId) → (slice_get ids k ≡ Some x) ⊎ ((k ≡ length ids) × (id ≡ x)) → IsFunction t x (zone z k)
      by k x (inl early) = are.each k x early
      by k x (inr last) =
          subst (λ (y : NodeId). IsFunction t y (zone z k)) last.1
          (subst (λ (j : ℕ). IsFunction t id (zone z j)) (sym (last.0 ∙ are.count)) is)

  targets_push : (n : ℕ) (ids more : List NodeId) (id : NodeId) → AreTargets t z n ids → IsFunction t id (target z n) →
      more ≡ ids ++ id ∷ [] → AreTargets t z (suc n) more
  targets_push n ids more id are is items = record {
    count = ap (λ (l : List NodeId). length l) items
        ∙ (let long = length_push ids id in let count = are.count in omega (arith, long, count));
    each = λ k x there. by k x (pushed_at ids id k x (subst (λ (l : List NodeId). slice_get l k ≡ Some x) items there));
  }
    where
      by : (k : ℕ) (x : NodeId) → (slice_get ids k ≡ Some x) ⊎ ((k ≡ length ids) × (id ≡ x)) →
          IsFunction t x (target z k)
      by k x (inl early) = are.each k x early
      by k x (inr last) =
          subst (λ (y : NodeId). IsFunction t y (target z k)) last.1
          (subst (λ (j : ℕ). IsFunction t id (target z j)) (sym (last.0 ∙ are.count)) is)

  waits_push : (n : ℕ) (waits more : List NewStates) (w : NewStates) → AreWaits t z n waits →
      AreNew t (added z n) (rank_at z n).fair w → more ≡ waits ++ w ∷ [] → AreWaits t z (suc n) more
  waits_push n waits more w are is items = record {
    count = ap (λ (l : List NewStates). length l) items
        ∙ (let long = length_push waits w in let count = are.count in omega (arith, long, count));
    waiting_is = λ k x there. (by k x (place k x there)).0;
    falling_is = λ k x there. (by k x (place k x there)).1;
  }
    where
      place : (k : ℕ) (x : NewStates) → slice_get more k ≡ Some x →
          (slice_get waits k ≡ Some x) ⊎ ((k ≡ length waits) × (w ≡ x))
      place k x there = pushed_at waits w k x (subst (λ (l : List NewStates). slice_get l k ≡ Some x) items there)

      by : (k : ℕ) (x : NewStates) → (slice_get waits k ≡ Some x) ⊎ ((k ≡ length waits) × (w ≡ x)) →
          IsFunction t x.waiting (waiting z k) × IsFunction t x.falling (falling z k)
      by k x (inl early) = (are.waiting_is k x early, are.falling_is k x early)
      by k x (inr last) =
          subst (λ (y : NewStates). IsFunction t y.waiting (waiting z k) × IsFunction t y.falling (falling z k)) last.1
          (subst (λ (j : ℕ). IsFunction t w.waiting (waiting z j) × IsFunction t w.falling (falling z j))
          (sym (last.0 ∙ are.count)) (is.waiting, is.falling))

  pub no_waits : (waits : List NewStates) → waits ≡ [] → AreWaits t z 0 waits
  no_waits waits none =
      subst (AreWaits t z 0) (sym none)
      (record { count = refl; waiting_is = λ k w there. absurd (cc); falling_is = λ k w there. absurd (cc) })

  pub first_zone : (ids none : List NodeId) (id : NodeId) → none ≡ [] → ids ≡ none ++ id ∷ [] →
      IsFunction t id (met z) → AreZones t z 1 ids
  first_zone ids none id empty items is =
      zones_push 0 none ids id
      (subst (AreZones t z 0) (sym empty) (record { count = refl; each = λ k x there. absurd (cc) })) is items

  pub first_target : (ids none : List NodeId) (id : NodeId) → none ≡ [] → ids ≡ none ++ id ∷ [] →
      IsFunction t id z.region → AreTargets t z 1 ids
  first_target ids none id empty items is =
      targets_push 0 none ids id
      (subst (AreTargets t z 0) (sym empty) (record { count = refl; each = λ k x there. absurd (cc) })) is items

  and_false : (b : Bool) → false ≡ (b && false)
  and_false true = refl
  and_false false = refl

  pub none_falls : (k : ℕ) → length z.ranks ≤ k → IsFunction t FALSE (falling z k)
  none_falls k above =
      function_same t FALSE nothing (falling z k)
      (λ v. and_false (added z k v) ∙ ap (λ (r : Rank). added z k v && r.fair v) (sym (past z.ranks k above)))
      (nothing_of t)

-- ---- in one of the first ranked sets
or_none : (a : Bool) → (a || false) ≡ a
or_none true = refl
or_none false = refl

or_assoc : (a b c : Bool) → (a || (b || c)) ≡ ((a || b) || c)
or_assoc true b c = refl
or_assoc false b c = refl

before_list : (rs : List Rank) (k : ℕ) (d : Rank) (v : Assignment) → k < length rs →
    list_any (λ (r : Rank). r.set v) (take (suc k) rs)
    ≡ (list_any (λ (r : Rank). r.set v) (take k rs) || (get_or rs k d).set v)
before_list [] k d v below = absurd (omega (arith, below))
before_list (r ∷ rs) zero d v below = or_none (r.set v)
before_list (r ∷ rs) (suc k) d v below =
    ap (λ (b : Bool). r.set v || b) (before_list rs k d v (omega (arith, below)))
    ∙ or_assoc (r.set v) (list_any (λ (r : Rank). r.set v) (take k rs)) ((get_or rs k d).set v)

pub before_more : (z : Zoning) (k : ℕ) (v : Assignment) → k < length z.ranks →
    (before z k v || (rank_at z k).set v) ≡ before z (suc k) v
before_more z k v below =
    sym (before_list z.ranks k (record { set = nothing; fair = nothing }) v below)

pub none_before : (t : Table) (z : Zoning) → IsFunction t FALSE (before z 0)
none_before t z = nothing_of t

-- ---- what ids tell is kept
pub tells_kept : (g h : GameData) → Carried g h → (region : NodeId) (ranks : List RankSet) (goal : ℕ) (z : Zoning) →
    Tells g region ranks goal z → Tells h region ranks goal z
tells_kept g h carried region ranks goal z is = record {
  region_is = function_kept g h carried region z.region is.region_is;
  turn_is = subst (λ (id : NodeId). IsFunction h.diagrams.table id z.turn) (sym grows.turn)
      (function_kept g h carried g.turn z.turn is.turn_is);
  goal_is = subst (λ (l : List NodeId). IsFunction h.diagrams.table (id_in l goal) z.goal) (sym grows.goals)
      (function_kept g h carried (id_in g.goals goal) z.goal is.goal_is);
  count = is.count;
  set_is = λ k r at. function_kept g h carried r.set (rank_at z k).set (is.set_is k r at);
  fair_is = λ k r at.
      subst (λ (l : List NodeId). IsFunction h.diagrams.table (id_in l r.fair) (rank_at z k).fair) (sym grows.fairs)
      (function_kept g h carried (id_in g.fairs r.fair) (rank_at z k).fair (is.fair_is k r at));
}
  where
    grows : Grows g h
    grows = grown g h carried

-- ---- steps of loops
module _ (base g h : GameData) (so_far : Carried base g) (carried : Carried g h) (z : Zoning) (region : NodeId)
    (ranks : List RankSet) (goal : ℕ) (tells : Tells base region ranks goal z) (i next : ℕ) (is_next : next ≡ suc i)
    (r : RankSet) (there : slice_get ranks i ≡ Some r) where
  here_tells : Tells g region ranks goal z
  here_tells = tells_kept base g so_far region ranks goal z tells

  inside : i < length z.ranks
  inside = let within = slice_get_within ranks i r there in let count = tells.count in omega (arith, within, count)

  -- one ranked set more
  pub within_step : (within id : NodeId) → IsFunction g.diagrams.table within (before z i) →
      (Knows g.diagrams.table within → Knows g.diagrams.table r.set → IsFunction h.diagrams.table id
      (λ v. means h.diagrams.table within v || means h.diagrams.table r.set v)) →
      IsFunction h.diagrams.table id (before z next)
  within_step within id is answer =
      subst (λ (n : ℕ). IsFunction h.diagrams.table id (before z n)) (sym is_next)
      (function_same h.diagrams.table id (λ v. before z i v || (rank_at z i).set v) (before z (suc i))
      (λ v. before_more z i v inside)
      (either_of g h carried within r.set id (before z i) (rank_at z i).set is (here_tells.set_is i r there) answer))

  -- one target more
  pub targets_step : (targets more : List NodeId) (id : NodeId) → AreTargets g.diagrams.table z next targets →
      IsFunction h.diagrams.table id (before z next) → more ≡ targets ++ id ∷ [] →
      AreTargets h.diagrams.table z (suc next) more
  targets_step targets more id are is items =
      targets_push h.diagrams.table z next targets more id (targets_kept g h carried z next targets are)
      (subst (λ (n : ℕ). IsFunction h.diagrams.table id (target z n)) (sym is_next)
      (subst (λ (n : ℕ). IsFunction h.diagrams.table id (before z n)) is_next is)) items

  -- new states of one rank more
  pub waits_step : (fails : NodeId) → IsFunction base.diagrams.table fails (failing z) → (begun : NodeId) →
      IsFunction g.diagrams.table begun (before z i) → (waits more : List NewStates) (w : NewStates) →
      AreWaits g.diagrams.table z i waits →
      ((f b set fair : Function) → IsFunction g.diagrams.table fails f → IsFunction g.diagrams.table begun b →
      IsFunction g.diagrams.table r.set set → IsFunction g.diagrams.table (id_in g.fairs r.fair) fair →
      AreNew h.diagrams.table (λ v. (f v && set v) && not (b v)) fair w) →
      more ≡ waits ++ w ∷ [] → AreWaits h.diagrams.table z next more
  waits_step fails fails_is begun begun_is waits more w are answer items =
      subst (λ (n : ℕ). AreWaits h.diagrams.table z n more) (sym is_next)
      (waits_push h.diagrams.table z i waits more w (waits_kept g h carried z i waits are)
      (answer (failing z) (before z i) (rank_at z i).set (rank_at z i).fair
      (function_kept base g so_far fails (failing z) fails_is) begun_is (here_tells.set_is i r there)
      (here_tells.fair_is i r there)) items)

-- one zone more
pub zones_step : (base g h : GameData) → Carried base g → Carried g h → (z : Zoning) (i next : ℕ) → next ≡ suc i →
    (waits : List NewStates) (w : NewStates) → slice_get waits i ≡ Some w →
    AreWaits base.diagrams.table z (length z.ranks) waits → (falls id : NodeId) →
    IsFunction base.diagrams.table falls (falling z (suc i)) → (zones more : List NodeId) →
    AreZones g.diagrams.table z (suc i) zones →
    (Knows g.diagrams.table w.waiting → Knows g.diagrams.table falls → IsFunction h.diagrams.table id
    (λ v. means h.diagrams.table w.waiting v || means h.diagrams.table falls v)) →
    more ≡ zones ++ id ∷ [] → AreZones h.diagrams.table z (suc next) more
zones_step base g h so_far carried z i next is_next waits w there are falls id falls_is zones more zoned answer items =
    subst (λ (n : ℕ). AreZones h.diagrams.table z (suc n) more) (sym is_next)
    (zones_push h.diagrams.table z (suc i) zones more id (zones_kept g h carried z (suc i) zones zoned)
    (either_of g h carried w.waiting falls id (waiting z i) (falling z (suc i))
    (function_kept base g so_far w.waiting (waiting z i) (are.waiting_is i w there))
    (function_kept base g so_far falls (falling z (suc i)) falls_is) answer) items)

-- what falls to a rank from the next one
pub falls_next : (t : Table) (z : Zoning) (waits : List NewStates) (i next : ℕ) (w : NewStates) → next ≡ suc i →
    slice_get waits next ≡ Some w → AreWaits t z (length z.ranks) waits → IsFunction t w.falling (falling z (suc i))
falls_next t z waits i next w is_next there are =
    subst (λ (n : ℕ). IsFunction t w.falling (falling z n)) is_next (are.falling_is next w there)

pub falls_never : (t : Table) (z : Zoning) (waits : List NewStates) (i : ℕ) → length waits ≤ suc i →
    AreWaits t z (length z.ranks) waits → IsFunction t FALSE (falling z (suc i))
falls_never t z waits i above are =
    none_falls t z (suc i) (let count = are.count in omega (arith, above, count))

-- a union of sets is one
pub either_set : (g h : GameData) → Carried g h → (a b id : NodeId) → IsSet g a → IsSet g b →
    (Knows g.diagrams.table a → Knows g.diagrams.table b → IsFunction h.diagrams.table id
    (λ v. means h.diagrams.table a v || means h.diagrams.table b v)) → IsSet h id
either_set g h carried a b id in_a in_b answer =
    let is = answer in_a.known in_b.known in
    let one = set_stays g h carried a in_a in
    let other = set_stays g h carried b in_b in
    record {
      known = is.known;
      reads = λ v w same.
          is.meaning v ∙ (λ i. one.reads v w same i || other.reads v w same i) ∙ sym (is.meaning w);
    }

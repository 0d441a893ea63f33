-- Where levels that are unions of cells are an environment's certificate, the region of the upper parts leaves their
-- states out.
use Rattle.std.proofs.Common.{◌≡◌, ◌⊎◌, inl, inr, ℕ, zero, suc, ◌+◌, ◌<◌, ◌≤◌, Bool, true, false, not, ◌||◌, List, [], ◌∷◌, length, slice_get, Option, Some, None, cond, refl, sym, ap, ◌∙◌, subst, arith}
use Rattle.std.specs.List.{position_or_len}
use Rattle.std.specs.Option.{option_map_or}
use Rattle.tm_syntax.specs.Design.{DesignTree}
use Rattle.tm_sem.specs.State.{StateData}
use Rattle.tm_sem.specs.Step.{IsState}
use Rattle.tm_sem.specs.Play.{goal_holds}
use Rattle.tm_sem.specs.Forcing.{Stays}
use Rattle.tm_sem.specs.Certificates.{Level, IsIn, IsNew, nowhere, level_before, last_level, either, set_before, MeetsEnvironment}
use Rattle.tm_flat_pool.specs.Predicates.{Predicate}
use Rattle.tm_flat_pool.specs.Cells.{AreLevelUnions}
use Rattle.tm_solve.specs.Sets.{StateSet, outside, IsAmong}
use Rattle.tm_solve.specs.Game.{Game}
use Rattle.tm_solve.specs.Operator.{Operator}
use Rattle.tm_solve.specs.Exact.{IsGameOf}
use Rattle.tm_solve.specs.Fixpoints.{InSome, InReach, InRegion}
use Rattle.tm_refine.specs.Parts.{alike, TellCells, upper_game}
use Rattle.tm_solve.proofs.Items.{get_below, get_some, some_same}
use Rattle.tm_solve.proofs.Operators.{Ways, by_goal, by_step, by_wait, part_ways}
use Rattle.tm_refine.specs.PartLaws.{upper_meets}
use Rattle.tm_refine.proofs.Staying.{stays_not_forced}

-- ---- places in chains
abbrev place : List StateSet → StateData → ℕ
place chain s = position_or_len (λ set. set s) chain

same_choice : (x y : Bool) (m k : ℕ) → x ≡ y → m ≡ k → cond (not x) (1 + m) 0 ≡ cond (not y) (1 + k) 0
same_choice x y m k e f = ap (λ (b : Bool). cond (not b) (1 + m) 0) e ∙ ap (λ (i : ℕ). cond (not y) (1 + i) 0) f

same_place : (chain : List StateSet) (s t : StateData) →
    ((x : ℕ) (set : StateSet) → slice_get chain x ≡ Some set → set s ≡ set t) → place chain s ≡ place chain t
same_place [] s t f = refl
same_place (c ∷ cs) s t f =
    same_choice (c s) (c t) (place cs s) (place cs t) (f 0 c refl)
    (same_place cs s t (λ x set got. f (suc x) set got))

place_most : (c : StateSet) (cs : List StateSet) (t : StateData) → place (c ∷ cs) t ≤ 1 + place cs t
place_most c cs t = at (c t)
  where
    at : (b : Bool) → cond (not b) (1 + place cs t) 0 ≤ 1 + place cs t
    at true = omega arith
    at false = omega arith

place_here : (c : StateSet) (cs : List StateSet) (t : StateData) → c t ≡ true → place (c ∷ cs) t ≡ 0
place_here c cs t here = ap (λ (b : Bool). cond (not b) (1 + place cs t) 0) here

-- a state stands no later than at a set that holds it
place_at_most : (chain : List StateSet) (y : ℕ) (set : StateSet) (t : StateData) → slice_get chain y ≡ Some set →
    set t ≡ true → place chain t ≤ y
place_at_most [] y set t got here = absurd (cc)
place_at_most (c ∷ cs) zero set t got here =
    let e : place (c ∷ cs) t ≡ 0 =
    place_here c cs t (subst (λ (a : StateSet). a t ≡ true) (sym (some_same got)) here) in
    omega arith
place_at_most (c ∷ cs) (suc y) set t got here =
    let m = place_most c cs t in let h = place_at_most cs y set t got here in omega arith

-- the set before a place is one of the chain
record BeforeIs (chain : List StateSet) (x : ℕ) (t : StateData) : Type 0 where
  index : ℕ
  set : StateSet
  next : x ≡ suc index
  got : slice_get chain index ≡ Some set
  inside : set t ≡ true

before_is : (chain : List StateSet) (x : ℕ) (t : StateData) → set_before chain x t ≡ true → BeforeIs chain x t
before_is chain zero t here = absurd (cc)
before_is chain (suc y) t here = of (slice_get chain y) refl here
  where
    of : (o : Option StateSet) → slice_get chain y ≡ o → option_map_or (λ (set : StateSet). set) o nowhere t ≡ true →
        BeforeIs chain (suc y) t
    of None e h = absurd (cc)
    of (Some set) e h = record { index = y; set = set; next = refl; got = e; inside = h }

-- ---- levels
record LevelIs (levels : List Level) (k : ℕ) (t : StateData) : Type 0 where
  index : ℕ
  level : Level
  next : k ≡ suc index
  got : slice_get levels index ≡ Some level
  inside : level.set t ≡ true

level_is : (levels : List Level) (k : ℕ) (t : StateData) → level_before levels k t ≡ true → LevelIs levels k t
level_is levels zero t here = absurd (cc)
level_is levels (suc m) t here = of (slice_get levels m) refl here
  where
    of : (o : Option Level) → slice_get levels m ≡ o →
        option_map_or (λ (l : Level). l.set) o nowhere t ≡ true → LevelIs levels (suc m) t
    of None e h = absurd (cc)
    of (Some l) e h = record { index = m; level = l; next = refl; got = e; inside = h }

-- a level is the one before the next
level_behind : (levels : List Level) (k : ℕ) (l : Level) → slice_get levels k ≡ Some l →
    level_before levels (suc k) ≡ l.set
level_behind levels k l got = ap (λ (o : Option Level). option_map_or (λ (m : Level). m.set) o nowhere) got

not_both : (a : Bool) → a ≡ true → not a ≡ true → ⊥
not_both true e f = cc
not_both false e f = cc

or_either : (a b : Bool) → (a || b) ≡ true → (a ≡ true) ⊎ (b ≡ true)
or_either true b e = inl refl
or_either false b e = inr e

equal_or_below : (m k : ℕ) → m ≤ k → (m ≡ k) ⊎ (m < k)
equal_or_below zero zero l = inl refl
equal_or_below zero (suc k) l = inr (omega arith)
equal_or_below (suc m) zero l = absurd (omega arith)
equal_or_below (suc m) (suc k) l =
    elim (equal_or_below m k (omega arith)) [ inl e ↦ inl (ap (λ i. suc i) e) | inr h ↦ inr (omega arith) ]

module _ {d : DesignTree} {op : Operator} {g : Game} (exact : IsGameOf d op g) (predicates : List Predicate)
    (ps : List StateSet) (cells : TellCells d predicates ps) (levels : List Level)
    (meets : MeetsEnvironment d levels) (unions : AreLevelUnions d predicates levels) where
  grows : (k : ℕ) (l : Level) → slice_get levels k ≡ Some l → (t : StateData) → IsState d t →
      level_before levels k t ≡ true → l.set t ≡ true
  grows k l got t valid here = ((meets.e0 k l got).0 t (valid, here)).1

  -- levels grow
  rises : (k : ℕ) → k ≤ length levels → (m : ℕ) → m ≤ k → (t : StateData) → IsState d t →
      level_before levels m t ≡ true → level_before levels k t ≡ true
  rises zero few m less t valid here =
      subst (λ (i : ℕ). level_before levels i t ≡ true) (let e : m ≡ 0 = omega arith in e) here
  rises (suc k) few m less t valid here =
      elim (equal_or_below m (suc k) less) [
        | inl e ↦ subst (λ (i : ℕ). level_before levels i t ≡ true) e here
        | inr lower ↦
            let found = get_some levels k (omega arith) in
            ap (λ (a : StateSet). a t) (level_behind levels k found.0 found.1)
            ∙ grows k found.0 found.1 t valid (rises k (omega arith) m (omega arith) t valid here)
      ]

  -- a state of the cell of a new one is new
  new_too : (k : ℕ) (l : Level) → slice_get levels k ≡ Some l → (s t : StateData) → IsState d t →
      alike ps s t ≡ true → IsNew d levels k l s → IsNew d levels k l t
  new_too k l got s t valid same new =
      let cell = cells.cell s t new.0.0 valid same in
      ((valid, sym (unions.sets k l got s t new.0.0 valid cell) ∙ new.0.1), before k ∙ new.1)
    where
      before : (k : ℕ) → level_before levels k t ≡ level_before levels k s
      before zero = refl
      before (suc m) = of (slice_get levels m) refl
        where
          of : (o : Option Level) → slice_get levels m ≡ o →
              option_map_or (λ (l : Level). l.set) o nowhere t ≡ option_map_or (λ (l : Level). l.set) o nowhere s
          of None e = refl
          of (Some q) e =
              sym (unions.sets m q e s t new.0.0 valid (cells.cell s t new.0.0 valid same))

  -- ---- what waits under a level's goal, for one condition
  module _ (z : StateSet) (k : ℕ) (l : Level) (got : slice_get levels k ≡ Some l)
      (outer : (t : StateData) → IsAmong t g.states → level_before levels k t ≡ true → z t ≡ true → ⊥) (i : ℕ)
      (below : i < g.fairs) (x : StateSet)
      (holds : (t : StateData) → IsAmong t g.states → x t ≡ true →
      (upper_game ps g).part z (outside l.set) x l.goal i t ≡ true) where
    -- at a new state of a level up to this one the goal leads into no state of z
    no_goal : (m : ℕ) (q : Level) → slice_get levels m ≡ Some q → m ≤ k → (s : StateData) → IsNew d levels m q s →
        goal_holds d s l.goal ≡ true → Stays d (IsIn d z) s → ⊥
    no_goal m q is less s new reached stays =
        elim (equal_or_below m k less) [
          | inl e ↦
              let same : q ≡ l =
              some_same (sym is ∙ ap (λ (n : ℕ). slice_get levels n) e ∙ got) in
              let new_l : IsNew d levels k l s =
              subst (λ (n : ℕ). IsNew d levels n l s) e (subst (λ (p : Level). IsNew d levels m p s) same new) in
              stays_not_forced (IsIn d z) (IsIn d (level_before levels k))
              (λ t kept here. outer t (exact.all t here.0) here.1 kept.1) stays (meets.e2 k l s got new_l reached)
          | inr lower ↦
              stays_not_forced (IsIn d z) (IsIn d q.set)
              (λ t kept here. outer t (exact.all t here.0)
              (rises k (let h = get_below levels k l got in omega arith) (suc m) (omega arith) t here.0
              (ap (λ (a : StateSet). a t) (level_behind levels m q is) ∙ here.1)) kept.1)
              stays (meets.e4 m q s is new)
        ]

    no_step : (m : ℕ) (q : Level) → slice_get levels m ≡ Some q → m ≤ k → (s : StateData) → IsNew d levels m q s →
        Stays d (IsIn d (outside l.set)) s → ⊥
    no_step m q is less s new stays =
        stays_not_forced (IsIn d (outside l.set)) (IsIn d q.set)
        (λ t kept here. not_both (l.set t)
        (sym (ap (λ (a : StateSet). a t) (level_behind levels k l got))
        ∙ rises (suc k) (let h = get_below levels k l got in omega arith) (suc m) (omega arith) t here.0
        (ap (λ (a : StateSet). a t) (level_behind levels m q is) ∙ here.1)) kept.1)
        stays (meets.e4 m q s is new)

    -- the new states of a level, by their place in the chain
    module _ (m : ℕ) (q : Level) (is : slice_get levels m ≡ Some q) (less : m ≤ k) (chain : List StateSet)
        (got_chain : slice_get q.chains i ≡ Some chain)
        (older : (t : StateData) → IsAmong t g.states → level_before levels m t ≡ true → x t ≡ true → ⊥) where
      none_at : (n : ℕ) (s : StateData) → IsAmong s g.states → IsNew d levels m q s → place chain s < n →
          x s ≡ true → ⊥
      none_at zero s among new low in_x = omega arith
      none_at (suc n) s among new low in_x =
          let found = upper_meets g.states ps (g.part z (outside l.set) x l.goal i) s (holds s among in_x) in
          let valid : IsState d found.0 = exact.listed found.0 found.1 in
          let cell = cells.cell s found.0 new.0.0 valid found.2 in
          let places : place chain s ≡ place chain found.0 = same_place chain s found.0
          (λ y set got_set. unions.chains m i y q chain set is got_chain got_set s found.0 new.0.0 valid cell) in
          at found.0 (new_too m q is s found.0 valid found.2 new) (omega arith)
          (part_ways exact z (outside l.set) x l.goal i found.0 valid below found.3)
          (λ t in_t new_t low_t in_x_t. none_at n t in_t new_t low_t in_x_t)
        where
          at : (t : StateData) → IsNew d levels m q t → place chain t < suc n →
              Ways d z (outside l.set) x l.goal i t →
              ((u : StateData) → IsAmong u g.states → IsNew d levels m q u → place chain u < n → x u ≡ true → ⊥) →
              ⊥
          at t new_t low_t (by_goal reached stays) further = no_goal m q is less t new_t reached stays
          at t new_t low_t (by_step stays) further = no_step m q is less t new_t stays
          at t new_t low_t (by_wait unfair stays) further =
              elim (meets.e5 m i q chain t is got_chain new_t) [
                | inl fair ↦ unfair fair
                | inr forced ↦
                    stays_not_forced (IsIn d x)
                    (IsIn d (either (set_before chain (place chain t)) (level_before levels m)))
                    (λ u kept here. into u kept
                    (or_either (set_before chain (place chain t) u) (level_before levels m u) here.1))
                    stays forced
              ]
            where
              fresh : (u : StateData) → IsIn d x u → BeforeIs chain (place chain t) u → (b : Bool) →
                  level_before levels m u ≡ b → ⊥
              fresh u kept b true e = older u (exact.all u kept.0) e kept.1
              fresh u kept b false e =
                  let low_u = place_at_most chain b.index b.set u b.got b.inside in
                  let next = b.next in
                  let in_q : q.set u ≡ true =
                  ((((meets.e0 m q is).2 i chain got_chain).1 b.index b.set b.got).1 u (kept.0, b.inside)).1 in
                  further u (exact.all u kept.0) ((kept.0, in_q), e) (omega arith) kept.1

              into : (u : StateData) → IsIn d x u →
                  (set_before chain (place chain t) u ≡ true) ⊎ (level_before levels m u ≡ true) → ⊥
              into u kept (inl here) =
                  fresh u kept (before_is chain (place chain t) u here) (level_before levels m u) refl
              into u kept (inr here) = older u (exact.all u kept.0) here kept.1

    -- no state of a level up to this one waits
    none_in : (m : ℕ) → m ≤ suc k → (s : StateData) → IsAmong s g.states → level_before levels m s ≡ true →
        x s ≡ true → ⊥
    none_in zero less s among here in_x = absurd (cc)
    none_in (suc m) less s among here in_x =
        at (level_is levels (suc m) s here) (λ t in_t here_t in_x_t. none_in m (omega arith) t in_t here_t in_x_t)
      where
        at : LevelIs levels (suc m) s →
            ((t : StateData) → IsAmong t g.states → level_before levels m t ≡ true → x t ≡ true → ⊥) → ⊥
        at of older = by (level_before levels m s) refl
          where
            same_index : of.index ≡ m
            same_index = let e = of.next in omega arith

            is : slice_get levels m ≡ Some of.level
            is = ap (λ (n : ℕ). slice_get levels n) (sym same_index) ∙ of.got

            by : (b : Bool) → level_before levels m s ≡ b → ⊥
            by true e = older s among e in_x
            by false e =
                let many = meets.chains m of.level is in
                let fairs = exact.fairs in
                let found = get_some of.level.chains i (omega arith) in
                none_at m of.level is (omega arith) found.0 found.1 older (suc (place found.0 s)) s among
                ((exact.listed s among, of.inside), e) (omega arith) in_x

  -- ---- no state of a level is in the region
  module _ (z : StateSet)
      (holds : (t : StateData) → IsAmong t g.states → z t ≡ true → (j : ℕ) → j < g.goals →
      InReach (upper_game ps g) z j t) where
    closed : (k : ℕ) (l : Level) → slice_get levels k ≡ Some l →
        ((t : StateData) → IsAmong t g.states → level_before levels k t ≡ true → z t ≡ true → ⊥) →
        (t : StateData) → IsAmong t g.states → InSome (upper_game ps g) z (outside l.set) l.goal t →
        outside l.set t ≡ true
    closed k l got outer t among (i, below, stays) = by (l.set t) refl
      where
        by : (b : Bool) → l.set t ≡ b → not b ≡ true
        by true e = absurd (none_in z k l got outer i below stays.set stays.holds (suc k) (omega arith) t among
            (ap (λ (a : StateSet). a t) (level_behind levels k l got) ∙ e) stays.here)
        by false e = refl

    none_of : (k : ℕ) (t : StateData) → IsAmong t g.states → level_before levels k t ≡ true → z t ≡ true → ⊥
    none_of zero t among here in_z = absurd (cc)
    none_of (suc k) t among here in_z =
        at (level_is levels (suc k) t here) (λ u in_u here_u in_z_u. none_of k u in_u here_u in_z_u)
      where
        at : LevelIs levels (suc k) t →
            ((u : StateData) → IsAmong u g.states → level_before levels k u ≡ true → z u ≡ true → ⊥) → ⊥
        at of outer =
            let same_index : of.index ≡ k = (let e = of.next in omega arith) in
            let is : slice_get levels k ≡ Some of.level =
            ap (λ (n : ℕ). slice_get levels n) (sym same_index) ∙ of.got in
            let less : of.level.goal < g.goals =
            subst (λ (n : ℕ). of.level.goal < n) (sym exact.goals) (meets.goals k of.level is) in
            let reach : InReach (upper_game ps g) z of.level.goal t = holds t among in_z of.level.goal less in
            not_both (of.level.set t) of.inside
            (reach.every (outside of.level.set) (closed k of.level is outer))

  pub environment_takes : (s : StateData) → IsAmong s g.states → last_level levels s ≡ true →
      InRegion (upper_game ps g) s → ⊥
  environment_takes s among lost region = none_of region.set region.holds (length levels) s among lost region.here

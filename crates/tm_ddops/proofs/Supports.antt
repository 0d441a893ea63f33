-- The levels that a function depends on are those of the inner nodes that are reached from it.
use Rattle.std.proofs.Common.{◌≡◌, ◌≢◌, ◌⊎◌, inl, inr, ℕ, zero, suc, ◌+◌, ◌<◌, ◌≤◌, Bool, true, false, not, eqb, cond, if◌then◌else◌, ◌||◌, List, [], ◌∷◌, ◌++◌, map, length, get_or, get_or-set_other, get_or-set_same, set, Contains, refl, sym, ap, subst, ◌∙◌, arith}
use Rattle.std.proofs.lemmas.Bool.{eqb-true, eqb-false, eq-eqb, ne_eqb}
use Rattle.std.proofs.lemmas.List.{append-nil, get_or_past}
use Rattle.std.proofs.lemmas.List.Elements.{All-contains, All-contains_itself, filter_passes}
use Rattle.std.proofs.lemmas.List.Folds.{Any-from_list_any, list_any-append, list_any-from_Any}
use Rattle.std.proofs.lemmas.List.FromFn.{filter_of_map_range_with_len_more, get_or-map-range_with_len, length-map-range_with_len}
use Rattle.std.proofs.lemmas.List.Kept.{IsStrictlyIncreasing-filter}
use Rattle.std.proofs.lemmas.Map.Views.{All-turn}
use Rattle.std.specs.Iterator.{Yields}
use Rattle.std.specs.List.{filter, list_any, range_with_len}
use Rattle.std.specs.List.Sorted.{IsStrictlyIncreasing}
use Rattle.std.specs.Map.Iter.{TakesFirst}
use Rattle.std.specs.Prelude.{◌↔◌, IfOk, Option, Result, Some, Ok, Err}
use Rattle.lru.proofs.Splits.{Contains-head, Contains-tail, Contains-cons, Contains-nil}
use Rattle.tm_dd.specs.declared.node.NodeId.{NodeId}
use Rattle.tm_dd.specs.declared.node.TheConstants.{FALSE}
use Rattle.tm_dd.specs.NodeId.{number_of, IsConstant}
use Rattle.tm_dd.specs.Reduced.{IsReduced, IsNode}
use Rattle.tm_dd.specs.Table.{Table, Knows, depth_of, level_of, means, node_of, rank_of}
use Rattle.tm_dd.proofs.CallerLaws.{depth_of-IsConstant, means-FALSE}
use Rattle.tm_dd.proofs.Ranks.{rank_of-below, ranks_apart}
use Rattle.tm_ddops.specs.Reached.{Reaches, itself, through_lo, through_hi, IsInnerNodes}
use Rattle.tm_ddops.specs.Support.{DependsOn, with_value}
use Rattle.tm_ddops.proofs.Facts.{below_or_not, is_constant_cases, level_of-inner}

-- ---- a level's value

with_value-same : (v : ℕ → Bool) (level : ℕ) (b : Bool) → with_value v level b level ≡ b
with_value-same v level b = ap (λ t. if t then b else v level) (eq-eqb level level refl)

with_value-other : (v : ℕ → Bool) (level : ℕ) (b : Bool) (k : ℕ) → k ≢ level → with_value v level b k ≡ v k
with_value-other v level b k apart = ap (λ t. if t then b else v k) (ne_eqb k level apart)

by_level : {P : Type 0} (k level : ℕ) → (k ≡ level → P) → (k ≢ level → P) → P
by_level {P} k level here other =
    elim (eqb k level) as (λ t. eqb k level ≡ t → P)
    [ true ↦ λ e. here (eqb-true k level e) | false ↦ λ e. other (eqb-false k level e) ] refl

by_value : {P : Type 0} (b : Bool) → (b ≡ true → P) → (b ≡ false → P) → P
by_value true on off = on refl
by_value false on off = off refl

-- values that agree below a level do so below the next one, where both have one value there
with_value-agree : (n : ℕ) (b : Bool) (v w : ℕ → Bool) → ((k : ℕ) → k < n → v k ≡ w k) → (k : ℕ) → k < suc n →
    with_value v n b k ≡ with_value w n b k
with_value-agree n b v w agree k below = by_level k n
    (λ e. ap (λ t. if t then b else v k) (eq-eqb k n e) ∙ sym (ap (λ t. if t then b else w k) (eq-eqb k n e)))
    (λ apart. with_value-other v n b k apart ∙ agree k (omega (arith, below, apart))
    ∙ sym (with_value-other w n b k apart))

-- a level's own value changes nothing
with_value-own : (v : ℕ → Bool) (n k : ℕ) → v k ≡ with_value v n (v n) k
with_value-own v n k = by_level k n
    (λ e. ap v e ∙ sym (ap (λ t. if t then v n else v k) (eq-eqb k n e)))
    (λ apart. sym (with_value-other v n (v n) k apart))

-- ---- functions that differ

-- what reads the levels below n alone is true everywhere, or false somewhere
decided : (n : ℕ) (p : (ℕ → Bool) → Bool) → ((v w : ℕ → Bool) → ((k : ℕ) → k < n → v k ≡ w k) → p v ≡ p w)
    → ((v : ℕ → Bool) → p v ≡ true) ⊎ ((v : ℕ → Bool) × (p v ≡ false))
decided zero p reads = by_value (p (λ _. false))
    (λ on. inl (λ v. reads v (λ _. false) (λ k below. absurd (omega (arith, below))) ∙ on))
    (λ off. inr ((λ _. false), off))
decided (suc n) p reads =
    let at : Bool → (ℕ → Bool) → Bool = λ b v. p (with_value v n b) in
    let half : (b : Bool) → ((v : ℕ → Bool) → at b v ≡ true) ⊎ ((v : ℕ → Bool) × (at b v ≡ false)) =
    λ b. decided n (at b) (λ v w agree. reads (with_value v n b) (with_value w n b) (with_value-agree n b v w agree)) in
    elim (half true) [
      | inr off ↦ inr (with_value off.0 n true, off.1)
      | inl on_true ↦ elim (half false) [
        | inr off ↦ inr (with_value off.0 n false, off.1)
        | inl on_false ↦ inl (λ v. reads v (with_value v n (v n)) (λ k _. with_value-own v n k)
            ∙ both (at true v) (at false v) v (on_true v) (on_false v))
      ]
    ]
  where
    both : (a b : Bool) (v : ℕ → Bool) → p (with_value v n true) ≡ true → p (with_value v n false) ≡ true →
        p (with_value v n (v n)) ≡ true
    both a b v on off = by_value (v n) (λ e. ap (λ t. p (with_value v n t)) e ∙ on)
        (λ e. ap (λ t. p (with_value v n t)) e ∙ off)

-- whether two values are one
agrees : Bool → Bool → Bool
agrees true b = b
agrees false b = not b

agrees-true : (a b : Bool) → agrees a b ≡ true → a ≡ b
unfolding agrees
agrees-true true b h = sym h
agrees-true false false h = refl
agrees-true false true h = cc

agrees-false : (a b : Bool) → agrees a b ≡ false → a ≢ b
unfolding agrees
agrees-false true b h e = let t : b ≡ true = sym e in cc
agrees-false false false h e = cc
agrees-false false true h e = cc

module _ (s : Table) (reduced : IsReduced s) where
  -- two ids that differ have two values somewhere
  tell_apart : (f g : NodeId) → Knows s f → Knows s g → f ≢ g → (v : ℕ → Bool) × (means s f v ≢ means s g v)
  tell_apart f g known_f known_g apart =
      let same : (ℕ → Bool) → Bool = λ v. agrees (means s f v) (means s g v) in
      elim (decided s.levels same (λ v w agree i. agrees
      (reduced.independent f known_f v w (λ k _ below. agree k below) i)
      (reduced.independent g known_g v w (λ k _ below. agree k below) i))) [
        | inl everywhere ↦ absurd
            (apart (reduced.canonical f g known_f known_g
            (λ v. agrees-true (means s f v) (means s g v) (everywhere v))))
        | inr somewhere ↦ (somewhere.0, agrees-false (means s f somewhere.0) (means s g somewhere.0) somewhere.1)
      ]

  -- what is not false is true somewhere
  pub somewhere : (f : NodeId) → Knows s f → f ≢ FALSE → (v : ℕ → Bool) × (means s f v ≡ true)
  somewhere f known differ =
      let apart = tell_apart f FALSE known (omega arith) differ in (
        apart.0,
        by_value (means s f apart.0) (λ on. on)
            (λ off. absurd (apart.1 (off ∙ sym (means-FALSE s apart.0)))),
      )

  -- ---- nodes

  -- what is known reaches what is known
  pub known_reached : (f g : NodeId) → Knows s f → Reaches s f g → Knows s g
  known_reached f g known (itself _) = known
  known_reached f g known (through_lo _ _ inner rest) =
      known_reached (node_of s f).lo g (reduced.nodes f known inner).lo_known rest
  known_reached f g known (through_hi _ _ inner rest) =
      known_reached (node_of s f).hi g (reduced.nodes f known inner).hi_known rest

  -- a node stands on its own level
  node_depth : (f : NodeId) → Knows s f → ¬ IsConstant f → rank_of s (node_of s f).level ≡ depth_of s f
  node_depth f known inner = ap (rank_of s) (reduced.nodes f known inner).level

  -- what is reached stands on the same level or on a deeper one
  level_rises : (f g : NodeId) → Knows s f → Reaches s f g → depth_of s f ≤ depth_of s g
  level_rises f g known (itself _) = omega arith
  level_rises f g known (through_lo _ _ inner rest) =
      let node = reduced.nodes f known inner in
      omega (arith, node_depth f known inner, node.lo_rises, level_rises (node_of s f).lo g node.lo_known rest)
  level_rises f g known (through_hi _ _ inner rest) =
      let node = reduced.nodes f known inner in
      omega (arith, node_depth f known inner, node.hi_rises, level_rises (node_of s f).hi g node.hi_known rest)

  -- a function does not depend on the levels above its own
  ignores : (f : NodeId) → Knows s f → (v : ℕ → Bool) (level : ℕ) (b : Bool) → rank_of s level < depth_of s f →
      means s f (with_value v level b) ≡ means s f v
  ignores f known v level b above =
      reduced.independent f known (with_value v level b) v
      (λ k deep _. with_value-other v level b k (ranks_apart s level k (omega (arith, above, deep))))

  -- the order in which two levels get their values does not count
  swaps : (f : NodeId) → Knows s f → (v : ℕ → Bool) (level k : ℕ) (b c : Bool) → level ≢ k
      → means s f (with_value (with_value v level b) k c) ≡ means s f (with_value (with_value v k c) level b)
  swaps f known v level k b c apart =
      reduced.independent f known (with_value (with_value v level b) k c) (with_value (with_value v k c) level b)
      (λ j _ _. at j)
    where
      at : (j : ℕ) → with_value (with_value v level b) k c j ≡ with_value (with_value v k c) level b j
      at j = by_level j k
          (λ e. ap (λ t. if t then c else with_value v level b j) (eq-eqb j k e)
          ∙ sym (with_value-other (with_value v k c) level b j (λ h. apart (sym h ∙ e))
          ∙ ap (λ t. if t then c else v j) (eq-eqb j k e)))
          (λ other. with_value-other (with_value v level b) k c j other
          ∙ by_level j level
          (λ e. ap (λ t. if t then b else v j) (eq-eqb j level e)
          ∙ sym (ap (λ t. if t then b else with_value v k c j) (eq-eqb j level e)))
          (λ h. with_value-other v level b j h
          ∙ sym (with_value-other (with_value v k c) level b j h ∙ with_value-other v k c j other)))

  module _ (f : NodeId) (known : Knows s f) (inner : ¬ IsConstant f) where
    node : IsNode s f (node_of s f)
    node = reduced.nodes f known inner

    -- f is what its branch is
    on_level : (v : ℕ → Bool) → means s f (with_value v (node_of s f).level true) ≡ means s (node_of s f).hi v
    on_level v =
        node.meaning (with_value v (node_of s f).level true)
        ∙ ap (λ t. if t then means s (node_of s f).hi (with_value v (node_of s f).level true)
        else means s (node_of s f).lo (with_value v (node_of s f).level true))
        (with_value-same v (node_of s f).level true)
        ∙ ignores (node_of s f).hi node.hi_known v (node_of s f).level true node.hi_rises

    off_level : (v : ℕ → Bool) → means s f (with_value v (node_of s f).level false) ≡ means s (node_of s f).lo v
    off_level v =
        node.meaning (with_value v (node_of s f).level false)
        ∙ ap (λ t. if t then means s (node_of s f).hi (with_value v (node_of s f).level false)
        else means s (node_of s f).lo (with_value v (node_of s f).level false))
        (with_value-same v (node_of s f).level false)
        ∙ ignores (node_of s f).lo node.lo_known v (node_of s f).level false node.lo_rises

    -- an inner node depends on its own level
    own_level : DependsOn s f (level_of s f)
    own_level =
        let apart = tell_apart (node_of s f).lo (node_of s f).hi node.lo_known node.hi_known node.differ in
        subst (DependsOn s f) node.level (apart.0, λ e. apart.1 (sym (sym (on_level apart.0) ∙ e ∙ off_level apart.0)))

    -- and on the deeper levels on which one of its branches depends
    from_lo : (k : ℕ) → (node_of s f).level ≢ k → DependsOn s (node_of s f).lo k → DependsOn s f k
    from_lo k apart d =
        let at : (b : Bool) → means s f (with_value (with_value d.0 (node_of s f).level false) k b)
        ≡ means s (node_of s f).lo (with_value d.0 k b) =
        λ b. swaps f known d.0 (node_of s f).level k false b apart ∙ off_level (with_value d.0 k b) in
        (with_value d.0 (node_of s f).level false, λ e. d.1 (sym (at true) ∙ e ∙ at false))

    from_hi : (k : ℕ) → (node_of s f).level ≢ k → DependsOn s (node_of s f).hi k → DependsOn s f k
    from_hi k apart d =
        let at : (b : Bool) → means s f (with_value (with_value d.0 (node_of s f).level true) k b)
        ≡ means s (node_of s f).hi (with_value d.0 k b) =
        λ b. swaps f known d.0 (node_of s f).level k true b apart ∙ on_level (with_value d.0 k b) in
        (with_value d.0 (node_of s f).level true, λ e. d.1 (sym (at true) ∙ e ∙ at false))

    -- where neither branch depends on a level, and it is not the own one, the value is one
    from_branches : (k : ℕ) → (node_of s f).level ≢ k → (v : ℕ → Bool)
        → means s (node_of s f).lo (with_value v k true) ≡ means s (node_of s f).lo (with_value v k false)
        → means s (node_of s f).hi (with_value v k true) ≡ means s (node_of s f).hi (with_value v k false)
        → means s f (with_value v k true) ≡ means s f (with_value v k false)
    from_branches k apart v lo hi =
        let at : (b : Bool) → with_value v k b (node_of s f).level ≡ v (node_of s f).level =
        λ b. with_value-other v k b (node_of s f).level apart in
        node.meaning (with_value v k true)
        ∙ (λ i. if (at true ∙ sym (at false)) i then hi i else lo i)
        ∙ sym (node.meaning (with_value v k false))

  -- what stands deeper stands on another level
  other_level : (level : ℕ) (g : NodeId) → rank_of s level < depth_of s g → level ≢ level_of s g
  other_level level g above e = ranks_apart s level (level_of s g) above (sym e)

  -- a function depends on the level of each inner node that is reached from it
  pub depends_reached : (f g : NodeId) → Knows s f → Reaches s f g → ¬ IsConstant g → DependsOn s f (level_of s g)
  depends_reached f g known (itself _) inner = own_level f known inner
  depends_reached f g known (through_lo _ _ is_inner rest) inner =
      let node = reduced.nodes f known is_inner in
      from_lo f known is_inner (level_of s g)
      (other_level (node_of s f).level g
      (omega (arith, node.lo_rises, level_rises (node_of s f).lo g node.lo_known rest)))
      (depends_reached (node_of s f).lo g node.lo_known rest inner)
  depends_reached f g known (through_hi _ _ is_inner rest) inner =
      let node = reduced.nodes f known is_inner in
      from_hi f known is_inner (level_of s g)
      (other_level (node_of s f).level g
      (omega (arith, node.hi_rises, level_rises (node_of s f).hi g node.hi_known rest)))
      (depends_reached (node_of s f).hi g node.hi_known rest inner)

  -- and on no other level
  depends_not : (n : ℕ) (f : NodeId) → number_of f < n → Knows s f → (k : ℕ) →
      ((g : NodeId) → Reaches s f g → ¬ IsConstant g → level_of s g ≢ k)
      → (v : ℕ → Bool) → means s f (with_value v k true) ≡ means s f (with_value v k false)
  depends_not zero f small known k none v = absurd (omega (arith, small))
  depends_not (suc n) f small known k none v = elim (is_constant_cases f) [
    | inl constant ↦ reduced.independent f known (with_value v k true) (with_value v k false)
        (λ j deep below. absurd
        (omega (arith, depth_of-IsConstant s reduced f constant, deep, rank_of-below s reduced.ranks j below)))
    | inr inner ↦
        let node = reduced.nodes f known inner in
        from_branches f known inner k (λ e. none f (itself f) inner (sym node.level ∙ e)) v
        (depends_not n (node_of s f).lo (omega (arith, small, node.lo_smaller)) node.lo_known k
        (λ g r. none g (through_lo f g inner r)) v)
        (depends_not n (node_of s f).hi (omega (arith, small, node.hi_smaller)) node.hi_known k
        (λ g r. none g (through_hi f g inner r)) v)
  ]

  -- the levels of the inner nodes that are reached are those on which the function depends
  pub support_exact : (f : NodeId) → Knows s f → (ids : List NodeId) → IsInnerNodes s f ids → (marks : List Bool) →
      length marks ≡ s.levels
      → ((k : ℕ) → k < s.levels → get_or marks k false ≡ list_any (λ id. eqb (level_of s id) k) ids) → (k : ℕ) →
      (get_or marks k false ≡ true) ↔ DependsOn s f k
  support_exact f known ids inner marks long marked k = (depends, marks_it)
    where
      depends : get_or marks k false ≡ true → DependsOn s f k
      depends on = elim (below_or_not k s.levels) [
        | inr above ↦ let off : get_or marks k false ≡ false = get_or_past marks k false (omega (arith, above, long)) in
            cc
        | inl below ↦
            let found = Any-from_list_any (λ id. eqb (level_of s id) k) ids (sym (marked k below) ∙ on) in
            let there : Contains ids found.1 = (found.0, found.2, found.3) in
            subst (DependsOn s f) (eqb-true (level_of s found.1) k found.4)
            (depends_reached f found.1 known (inner.reached found.1 there) (inner.inner found.1 there))
      ]

      none : get_or marks k false ≡ false → (g : NodeId) → Reaches s f g → ¬ IsConstant g → level_of s g ≢ k
      none off g r is_inner e =
          let there = inner.every g r is_inner in
          let below : k < s.levels =
          omega (arith, level_of-inner s reduced g (known_reached f g known r) is_inner, e) in
          let on = marked k below ∙ list_any-from_Any (λ id. eqb (level_of s id) k) ids
          (there.0, g, there.1, there.2, eq-eqb (level_of s g) k e) in cc

      marks_it : DependsOn s f k → get_or marks k false ≡ true
      marks_it d = by_value (get_or marks k false) (λ on. on)
          (λ off. absurd (d.1 (depends_not (number_of f + 1) f (omega arith) known k (none off) d.0)))

-- ---- marks and lists

-- an item of a loop over a list is in the list
pub item_there : {A X : Type 0} (shows : A → X) (all : List X) (xs : List A) (s t u : List X) (r : Option A) (x : A) →
    s ≡ all → Yields (TakesFirst shows) s xs t → r ≡ Some x
    → TakesFirst shows t r u → Contains all (shows x)
item_there shows all xs s t u r x start y is step =
    All-turn shows (Contains all) all xs s t u r x (All-contains_itself all) start y is step

-- one more mark, for one more item
pub marked_more : {A : Type 0} (level_at : A → ℕ) (count : ℕ) (marks : List Bool) (xs : List A) (x : A) (level : ℕ) →
    level ≡ level_at x → level < length marks
    → ((k : ℕ) → k < count → get_or marks k false ≡ list_any (λ y. eqb (level_at y) k) xs)
    → (k : ℕ) → k < count → get_or (set marks level true) k false ≡ list_any (λ y. eqb (level_at y) k) (xs ++ x ∷ [])
marked_more level_at count marks xs x level same within marked k below =
    by_level k level
    (λ e. ap (λ j. get_or (set marks level true) j false) e ∙ get_or-set_same marks level true false within
    ∙ sym (last_true (list_any (λ y. eqb (level_at y) k) xs) (eqb (level_at x) k)
    (eq-eqb (level_at x) k (sym (e ∙ same)))))
    (λ other. get_or-set_other marks level k true false other ∙ marked k below
    ∙ sym (last_false (list_any (λ y. eqb (level_at y) k) xs) (eqb (level_at x) k)
    (ne_eqb (level_at x) k (λ e. other (sym (same ∙ e))))))
    ∙ sym (list_any-append (λ y. eqb (level_at y) k) xs (x ∷ []))
  where
    last_true : (a b : Bool) → b ≡ true → a || (b || false) ≡ true
    last_true true b h = refl
    last_true false true h = refl
    last_true false false h = h

    last_false : (a b : Bool) → b ≡ false → a || (b || false) ≡ a
    last_false true b h = refl
    last_false false false h = refl
    last_false false true h = h

pub any-map : {A B : Type 0} (g : A → B) (p : B → Bool) (xs : List A) →
    list_any (λ x. p (g x)) xs ≡ list_any p (map g xs)
any-map g p [] = refl
any-map g p (x ∷ xs) = ap (λ t. p (g x) || t) (any-map g p xs)

-- the numbers below n that pass a test
abbrev pub passing : (ℕ → Bool) → ℕ → List ℕ
passing p n = filter p (map (λ k. k) (range_with_len 0 n))

Contains-filter : (p : ℕ → Bool) (xs : List ℕ) (k : ℕ) → p k ≡ true → Contains xs k → Contains (filter p xs) k
Contains-filter p [] k on h = absurd (Contains-nil k h)
Contains-filter p (x ∷ xs) k on h = by_value (p x)
    (λ passes. subst (λ t. Contains (cond t (x ∷ filter p xs) (filter p xs)) k) (sym passes)
    (elim (Contains-cons x xs k h) [
      | inl e ↦ subst (Contains (x ∷ filter p xs)) e (Contains-head x (filter p xs))
      | inr rest ↦ Contains-tail x (filter p xs) k (Contains-filter p xs k on rest)
    ]))
    (λ fails. subst (λ t. Contains (cond t (x ∷ filter p xs) (filter p xs)) k) (sym fails)
    (elim (Contains-cons x xs k h) [
      | inl e ↦ let passes = ap p e ∙ on in cc
      | inr rest ↦ Contains-filter p xs k on rest
    ]))

-- the next number is taken, or not
pub passing-takes : (p : ℕ → Bool) (n : ℕ) → p n ≡ true → passing p (n + 1) ≡ passing p n ++ n ∷ []
passing-takes p n on =
    filter_of_map_range_with_len_more p (λ k. k) 0 n n (omega arith) ∙ ap (λ t. passing p n ++ cond t (n ∷ []) []) on

pub passing-skips : (p : ℕ → Bool) (n : ℕ) → p n ≡ false → passing p (n + 1) ≡ passing p n
passing-skips p n off =
    filter_of_map_range_with_len_more p (λ k. k) 0 n n (omega arith) ∙ ap (λ t. passing p n ++ cond t (n ∷ []) []) off
    ∙ append-nil (passing p n)

pub passing-rises : (p : ℕ → Bool) (n : ℕ) → IsStrictlyIncreasing (passing p n)
passing-rises p n = IsStrictlyIncreasing-filter p (map (λ k. k) (range_with_len 0 n)) (λ k below.
    let long = length-map-range_with_len (λ (j : ℕ). j) 0 n in
    omega (
      arith,
      get_or-map-range_with_len (λ (j : ℕ). j) 0 n k k 0 (omega arith) (omega arith),
      get_or-map-range_with_len (λ (j : ℕ). j) 0 n (k + 1) (k + 1) 0 (omega arith) (omega arith),
    ))

pub passing-exact : (p : ℕ → Bool) (n : ℕ) → ((k : ℕ) → ¬ (k < n) → p k ≡ false) → (k : ℕ) →
    Contains (passing p n) k ↔ (p k ≡ true)
passing-exact p n beyond k = (
  (λ h. All-contains (λ x. p x ≡ true) (passing p n) k (filter_passes p (map (λ j. j) (range_with_len 0 n))) h),
  (λ on. elim (below_or_not k n) [
    | inl below ↦ Contains-filter p (map (λ j. j) (range_with_len 0 n)) k on (
      k,
      omega (arith, below, length-map-range_with_len (λ (j : ℕ). j) 0 n),
      get_or-map-range_with_len (λ (j : ℕ). j) 0 n k k k below (omega arith),
    )
    | inr above ↦ let off = beyond k above in cc
  ]),
)

-- an answer that lists what passes one test lists what passes another that is as strong
pub listed_alike : {V E : Type 0} (r : Result V E) (items : V → List ℕ) (P Q : ℕ → Type 0) → ((k : ℕ) → P k ↔ Q k)
    → IfOk r (λ v. (k : ℕ) → Contains (items v) k ↔ P k) → IfOk r (λ v. (k : ℕ) → Contains (items v) k ↔ Q k)
listed_alike (Ok v) items P Q alike h = λ k. ((λ c. (alike k).0 ((h k).0 c)), (λ q. (h k).1 ((alike k).1 q)))
listed_alike (Err e) items P Q alike h = tt

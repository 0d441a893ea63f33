-- What changes of levels make of a function, node by node.
use Rattle.std.proofs.Common.{◌≡◌, ◌≢◌, ◌⊎◌, inl, inr, ℕ, ◌<◌, ◌≤◌, Bool, true, false, eqb, ◌||◌, if◌then◌else◌, Option, Some, None, refl, sym, ap, subst, ◌∙◌, arith}
use Rattle.std.proofs.lemmas.Bool.{eqb-true, eqb-false, eq-eqb, ne_eqb}
use Rattle.tm_dd.specs.declared.node.Node.{Node}
use Rattle.tm_dd.specs.declared.node.NodeId.{NodeId}
use Rattle.tm_dd.specs.declared.node.TheConstants.{FALSE, TRUE}
use Rattle.tm_dd.specs.NodeId.{IsConstant}
use Rattle.tm_dd.specs.Reduced.{IsReduced, IsNode, Extends}
use Rattle.tm_dd.specs.Table.{Table, Knows, depth_of, means, node_of, rank_of}
use Rattle.tm_dd.proofs.CallerLaws.{depth_of-IsConstant, means-FALSE, means-TRUE, rank_of-Extends}
use Rattle.tm_dd.proofs.Ranks.{rank_of-below, ranks_apart}
use Rattle.tm_ddops.specs.declared.change.Change.{Change}
use Rattle.tm_ddops.specs.declared.change.Change.TheVariants.{Becomes, Quantified}
use Rattle.tm_ddops.specs.Changed.{IsChanged, IsDepth, IsSettled, KnowsParts, MayRead, Reads, branch_value}
use Rattle.tm_ddops.specs.Manager.{IsFunction}
use Rattle.tm_ddops.proofs.Facts.{knows-Extends}

-- ---- values that may be read

-- a value that may be read at a level
abbrev read_value : Table → (ℕ → Bool) → ℕ → Option Change → Bool
read_value s v k None = v k
read_value s v k (Some (Becomes part)) = means s part v
read_value s v k (Some Quantified) = v k

reads-read_value : (s : Table) (v : ℕ → Bool) (k : ℕ) (o : Option Change) → Reads s v k o (read_value s v k o)
reads-read_value s v k None = refl
reads-read_value s v k (Some (Becomes part)) = refl
reads-read_value s v k (Some Quantified) = tt

-- where no level from that of a function on downwards changes, the function stays
pub changed_below : (s : Table) → IsReduced s → (changes : ℕ → Option Change) (f : NodeId) → Knows s f →
    KnowsParts s changes
    → (depth : ℕ) → IsDepth s changes depth → depth ≤ depth_of s f → IsChanged s changes f f
changed_below s reduced changes f known parts depth deepest above = record {
  operand = known;
  known = known;
  parts = parts;
  some = λ v h. (
    (λ k. read_value s v k (changes k)),
    (λ k _. reads-read_value s v k (changes k)),
    reduced.independent f known (λ k. read_value s v k (changes k)) v
        (λ k deep below. ap (read_value s v k) (stay k deep below)) ∙ h,
  );
  enough = λ v w may h. reduced.independent f known v w
      (λ k deep below. sym (subst (λ o. Reads s v k o (w k)) (stay k deep below) (may k below))) ∙ h;
}
  where
    stay : (k : ℕ) → depth_of s f ≤ rank_of s k → k < s.levels → changes k ≡ None
    stay k deep below = deepest.stay k below (omega (arith, above, deep))

-- no level is as deep as a constant
pub changed_constant : (s : Table) → IsReduced s → (changes : ℕ → Option Change) (f : NodeId) → IsConstant f →
    Knows s f → KnowsParts s changes → IsChanged s changes f f
changed_constant s reduced changes f constant known parts =
    changed_below s reduced changes f known parts s.levels
    (record {
      within = omega arith;
      stay = λ k below deep. absurd (omega (arith, rank_of-below s reduced.ranks k below, deep));
    })
    (omega (arith, depth_of-IsConstant s reduced f constant))

-- changes that agree on all levels make the same of a function
pub changed_alike : (s : Table) (c d : ℕ → Option Change) → ((k : ℕ) → k < s.levels → c k ≡ d k) → (f id : NodeId) →
    IsChanged s c f id → IsChanged s d f id
changed_alike s c d alike f id x = record {
  operand = x.operand;
  known = x.known;
  parts = λ k below part h. x.parts k below part (alike k below ∙ h);
  some = λ v h. let r = x.some v h in
      (r.0, (λ k below. subst (λ o. Reads s v k o (r.0 k)) (alike k below) (r.1 k below)), r.2);
  enough = λ v w may h.
      x.enough v w (λ k below. subst (λ o. Reads s v k o (w k)) (sym (alike k below)) (may k below)) h;
}

-- ---- in a store that was extended

module _ (s t : Table) (e : Extends s t) where
  pub IsDepth-Extends : (changes : ℕ → Option Change) (depth : ℕ) → IsDepth s changes depth → IsDepth t changes depth
  IsDepth-Extends changes depth d = record {
    within = omega (arith, d.within, e.same_levels);
    stay = λ k below deep.
        d.stay k (omega (arith, below, e.same_levels)) (omega (arith, deep, rank_of-Extends s t e k));
  }

  reads_later : (v : ℕ → Bool) (k : ℕ) (o : Option Change) (b : Bool) →
      ((part : NodeId) → o ≡ Some (Becomes part) → Knows s part) → Reads s v k o b → Reads t v k o b
  reads_later v k None b known h = h
  reads_later v k (Some (Becomes part)) b known h = h ∙ sym (e.same_meaning part (known part refl) v)
  reads_later v k (Some Quantified) b known h = tt

  reads_before : (v : ℕ → Bool) (k : ℕ) (o : Option Change) (b : Bool) →
      ((part : NodeId) → o ≡ Some (Becomes part) → Knows s part) → Reads t v k o b → Reads s v k o b
  reads_before v k None b known h = h
  reads_before v k (Some (Becomes part)) b known h = h ∙ e.same_meaning part (known part refl) v
  reads_before v k (Some Quantified) b known h = tt

  KnowsParts-Extends : (changes : ℕ → Option Change) → KnowsParts s changes → KnowsParts t changes
  KnowsParts-Extends changes parts k below part h =
      knows-Extends s t e part (parts k (omega (arith, below, e.same_levels)) part h)

  pub IsChanged-Extends : (changes : ℕ → Option Change) (f id : NodeId) → IsChanged s changes f id →
      IsChanged t changes f id
  IsChanged-Extends changes f id x = record {
    operand = knows-Extends s t e f x.operand;
    known = knows-Extends s t e id x.known;
    parts = KnowsParts-Extends changes x.parts;
    some = λ v h. let r = x.some v (sym (e.same_meaning id x.known v) ∙ h) in (
      r.0,
      (λ k below. let here : k < s.levels = omega (arith, below, e.same_levels) in
          reads_later v k (changes k) (r.0 k) (x.parts k here) (r.1 k here)),
      e.same_meaning f x.operand r.0 ∙ r.2,
    );
    enough = λ v w may h.
        e.same_meaning id x.known v
        ∙ x.enough v w
        (λ k below. reads_before v k (changes k) (w k) (x.parts k below)
        (may k (omega (arith, below, e.same_levels))))
        (sym (e.same_meaning f x.operand w) ∙ h);
  }

-- ---- a value that is replaced

-- v, with b as the level's value
set : (ℕ → Bool) → ℕ → Bool → ℕ → Bool
set v level b k = if eqb k level then b else v k

set-same : (v : ℕ → Bool) (level : ℕ) (b : Bool) → set v level b level ≡ b
unfolding set
set-same v level b = ap (λ t. if t then b else v level) (eq-eqb level level refl)

set-other : (v : ℕ → Bool) (level k : ℕ) (b : Bool) → k ≢ level → set v level b k ≡ v k
unfolding set
set-other v level k b apart = ap (λ t. if t then b else v k) (ne_eqb k level apart)

by_value : {P : Type 0} (b : Bool) → (b ≡ true → P) → (b ≡ false → P) → P
by_value true on off = on refl
by_value false on off = off refl

-- ---- at a node

module _ (s : Table) (reduced : IsReduced s) (changes : ℕ → Option Change) (f : NodeId) (known : Knows s f)
    (inner : ¬ IsConstant f) where
  node : IsNode s f (node_of s f)
  node = reduced.nodes f known inner

  -- f is what its branch is
  f_true : (w : ℕ → Bool) → w (node_of s f).level ≡ true → means s f w ≡ means s (node_of s f).hi w
  f_true w h = node.meaning w ∙ ap (λ t. if t then means s (node_of s f).hi w else means s (node_of s f).lo w) h

  f_false : (w : ℕ → Bool) → w (node_of s f).level ≡ false → means s f w ≡ means s (node_of s f).lo w
  f_false w h = node.meaning w ∙ ap (λ t. if t then means s (node_of s f).hi w else means s (node_of s f).lo w) h

  -- the branches do not read the level
  hi_ignores : (w : ℕ → Bool) (b : Bool) →
      means s (node_of s f).hi (set w (node_of s f).level b) ≡ means s (node_of s f).hi w
  hi_ignores w b = reduced.independent (node_of s f).hi node.hi_known (set w (node_of s f).level b) w
      (λ k deep _. set-other w (node_of s f).level k b
      (ranks_apart s (node_of s f).level k (omega (arith, node.hi_rises, deep))))

  lo_ignores : (w : ℕ → Bool) (b : Bool) →
      means s (node_of s f).lo (set w (node_of s f).level b) ≡ means s (node_of s f).lo w
  lo_ignores w b = reduced.independent (node_of s f).lo node.lo_known (set w (node_of s f).level b) w
      (λ k deep _. set-other w (node_of s f).level k b
      (ranks_apart s (node_of s f).level k (omega (arith, node.lo_rises, deep))))

  -- at a quantified level, any value may be read
  set_may_read : changes (node_of s f).level ≡ Some Quantified → (v w : ℕ → Bool) (b : Bool) → MayRead s changes v w →
      MayRead s changes v (set w (node_of s f).level b)
  set_may_read at v w b may k below =
      by_value (eqb k (node_of s f).level)
      (λ here. subst (λ o. Reads s v k o (set w (node_of s f).level b k))
      (sym (ap changes (eqb-true k (node_of s f).level here) ∙ at)) tt)
      (λ apart. subst (Reads s v k (changes k))
      (sym (set-other w (node_of s f).level k b (eqb-false k (node_of s f).level apart))) (may k below))

  -- where a constant takes the place of the level, one branch is left
  pub changed_settled : (branch : NodeId) → IsSettled (changes (node_of s f).level) (node_of s f) branch →
      (id : NodeId) → IsChanged s changes branch id → IsChanged s changes f id
  changed_settled branch settled id x = elim settled [
    | inl on ↦ by_branch true (λ v w may. reads TRUE on.0 v w may ∙ means-TRUE s v) (node_of s f).hi
        (λ w h. f_true w h) (subst (λ b. IsChanged s changes b id) on.1 x)
    | inr off ↦ by_branch false (λ v w may. reads FALSE off.0 v w may ∙ means-FALSE s v) (node_of s f).lo
        (λ w h. f_false w h) (subst (λ b. IsChanged s changes b id) off.1 x)
  ]
    where
      reads : (part : NodeId) → changes (node_of s f).level ≡ Some (Becomes part) → (v w : ℕ → Bool) →
          MayRead s changes v w → w (node_of s f).level ≡ means s part v
      reads part at v w may = subst (λ o. Reads s v (node_of s f).level o (w (node_of s f).level)) at
          (may (node_of s f).level node.below)

      by_branch : (b : Bool) → ((v w : ℕ → Bool) → MayRead s changes v w → w (node_of s f).level ≡ b) → (g : NodeId) →
          ((w : ℕ → Bool) → w (node_of s f).level ≡ b → means s f w ≡ means s g w) → IsChanged s changes g id →
          IsChanged s changes f id
      by_branch b forced g same y = record {
        operand = known;
        known = y.known;
        parts = y.parts;
        some = λ v h. let r = y.some v h in (r.0, r.1, same r.0 (forced v r.0 r.1) ∙ r.2);
        enough = λ v w may h. y.enough v w may (sym (same w (forced v w may)) ∙ h);
      }

  module _ (lo : NodeId) (low : IsChanged s changes (node_of s f).lo lo) where
    -- where the first branch is true at a quantified level, so is the function
    pub changed_true : changes (node_of s f).level ≡ Some Quantified → lo ≡ TRUE → IsChanged s changes f TRUE
    changed_true at is_true = record {
      operand = known;
      known = omega arith;
      parts = low.parts;
      some = λ v _.
          let r = low.some v (ap (λ g. means s g v) is_true ∙ means-TRUE s v) in
          let w = set r.0 (node_of s f).level false in (
            w,
            set_may_read at v r.0 false r.1,
            f_false w (set-same r.0 (node_of s f).level false) ∙ lo_ignores r.0 false ∙ r.2,
          );
      enough = λ v w may h. means-TRUE s v;
    }

    module _ (hi : NodeId) (high : IsChanged s changes (node_of s f).hi hi) where
      -- where one value alone may be read at the level, the branch of that value
      changed_by_test : (test : (ℕ → Bool) → Bool)
          → ((v w : ℕ → Bool) → MayRead s changes v w → w (node_of s f).level ≡ test v) → (id : NodeId) →
          IsFunction s id (λ v. if test v then means s hi v else means s lo v) → IsChanged s changes f id
      changed_by_test test forced id x = record {
        operand = known;
        known = x.known;
        parts = low.parts;
        some = λ v h. by_value (test v)
            (λ on. let r = high.some v
            (sym (x.meaning v ∙ ap (λ t. if t then means s hi v else means s lo v) on) ∙ h) in
            (r.0, r.1, f_true r.0 (forced v r.0 r.1 ∙ on) ∙ r.2))
            (λ off. let r = low.some v
            (sym (x.meaning v ∙ ap (λ t. if t then means s hi v else means s lo v) off) ∙ h) in
            (r.0, r.1, f_false r.0 (forced v r.0 r.1 ∙ off) ∙ r.2));
        enough = λ v w may h. x.meaning v ∙ by_value (test v)
            (λ on. ap (λ t. if t then means s hi v else means s lo v) on
            ∙ high.enough v w may (sym (f_true w (forced v w may ∙ on)) ∙ h))
            (λ off. ap (λ t. if t then means s hi v else means s lo v) off
            ∙ low.enough v w may (sym (f_false w (forced v w may ∙ off)) ∙ h));
      }

      changed_at_kept : changes (node_of s f).level ≡ None → (id : NodeId) →
          IsFunction s id (λ v. if v (node_of s f).level then means s hi v else means s lo v) → IsChanged s changes f id
      changed_at_kept at id x =
          changed_by_test (λ v. v (node_of s f).level)
          (λ v w may. subst (λ o. Reads s v (node_of s f).level o (w (node_of s f).level)) at
          (may (node_of s f).level node.below))
          id x

      changed_at_part : (part : NodeId) → changes (node_of s f).level ≡ Some (Becomes part) → (id : NodeId) →
          IsFunction s id (λ v. if means s part v then means s hi v else means s lo v) → IsChanged s changes f id
      changed_at_part part at id x =
          changed_by_test (λ v. means s part v)
          (λ v w may. subst (λ o. Reads s v (node_of s f).level o (w (node_of s f).level)) at
          (may (node_of s f).level node.below))
          id x

      -- where any value may be read, one of the branches is enough
      changed_at_quantified : changes (node_of s f).level ≡ Some Quantified → (id : NodeId) →
          IsFunction s id (λ v. means s lo v || means s hi v) → IsChanged s changes f id
      changed_at_quantified at id x = record {
        operand = known;
        known = x.known;
        parts = low.parts;
        some = λ v h. by_value (means s lo v)
            (λ on. let r = low.some v on in
            let w = set r.0 (node_of s f).level false in (
              w,
              set_may_read at v r.0 false r.1,
              f_false w (set-same r.0 (node_of s f).level false) ∙ lo_ignores r.0 false ∙ r.2,
            ))
            (λ off. let r = high.some v
            (sym (x.meaning v ∙ ap (λ t. t || means s hi v) off) ∙ h) in
            let w = set r.0 (node_of s f).level true in (
              w,
              set_may_read at v r.0 true r.1,
              f_true w (set-same r.0 (node_of s f).level true) ∙ hi_ignores r.0 true ∙ r.2,
            ));
        enough = λ v w may h. x.meaning v ∙ by_value (w (node_of s f).level)
            (λ on. let there = high.enough v w may (sym (f_true w on) ∙ h) in
            ap (λ t. means s lo v || t) there ∙ both_ways (means s lo v))
            (λ off. let there = low.enough v w may (sym (f_false w off) ∙ h) in
            ap (λ t. t || means s hi v) there);
      }
        where
          both_ways : (b : Bool) → b || true ≡ true
          both_ways true = refl
          both_ways false = refl

-- ---- at a node of a store that its branches extended

module _ (s t : Table) (e : Extends s t) (reduced : IsReduced t) (changes : ℕ → Option Change) (f : NodeId)
    (known : Knows s f) (inner : ¬ IsConstant f) (lo hi : NodeId)
    (low : IsChanged s changes (node_of s f).lo lo) (high : IsChanged s changes (node_of s f).hi hi) (n : Node)
    (is_node : n ≡ node_of s f) where
  low_later : IsChanged t changes (node_of t f).lo lo
  low_later = subst (λ m. IsChanged t changes m.lo lo) (sym (e.same_node f known))
      (IsChanged-Extends s t e changes (node_of s f).lo lo low)

  high_later : IsChanged t changes (node_of t f).hi hi
  high_later = subst (λ m. IsChanged t changes m.hi hi) (sym (e.same_node f known))
      (IsChanged-Extends s t e changes (node_of s f).hi hi high)

  node_later : n ≡ node_of t f
  node_later = is_node ∙ sym (e.same_node f known)

  pub after_kept : changes n.level ≡ None → (id : NodeId) →
      IsFunction t id (λ v. if v n.level then means s hi v else means s lo v) → IsChanged t changes f id
  after_kept at id x =
      changed_at_kept t reduced changes f (knows-Extends s t e f known) inner lo low_later hi high_later
      (ap (λ m. changes m.level) (sym node_later) ∙ at) id
      (record {
        known = x.known;
        meaning = λ v. x.meaning v ∙ (λ i. if v (node_later i).level then sym (e.same_meaning hi high.known v) i
            else sym (e.same_meaning lo low.known v) i);
      })

  after_part : (part : NodeId) → n.level < s.levels → changes n.level ≡ Some (Becomes part) → (id : NodeId) →
      IsFunction t id (λ v. if means s part v then means s hi v else means s lo v) → IsChanged t changes f id
  after_part part below at id x =
      changed_at_part t reduced changes f (knows-Extends s t e f known) inner lo low_later hi high_later part
      (ap (λ m. changes m.level) (sym node_later) ∙ at) id
      (record {
        known = x.known;
        meaning = λ v. x.meaning v ∙ (λ i. if sym (e.same_meaning part (low.parts n.level below part at) v) i
            then sym (e.same_meaning hi high.known v) i else sym (e.same_meaning lo low.known v) i);
      })

  after_quantified : changes n.level ≡ Some Quantified → (id : NodeId) →
      IsFunction t id (λ v. means s lo v || means s hi v) → IsChanged t changes f id
  after_quantified at id x =
      changed_at_quantified t reduced changes f (knows-Extends s t e f known) inner lo low_later hi high_later
      (ap (λ m. changes m.level) (sym node_later) ∙ at) id
      (record {
        known = x.known;
        meaning = λ v. x.meaning v
            ∙ (λ i. sym (e.same_meaning lo low.known v) i || sym (e.same_meaning hi high.known v) i);
      })

  pub after_change : (change : Change) → n.level < s.levels → changes n.level ≡ Some change → (id : NodeId) →
      IsFunction t id (branch_value s change lo hi) → IsChanged t changes f id
  after_change (Becomes part) below at id x = after_part part below at id x
  after_change Quantified below at id x = after_quantified at id x

-- a choice of `TRUE` or a function is one of two functions
pub either_of_choice : (s : Table) (lo hi : NodeId) (v : ℕ → Bool) →
    (if means s lo v then means s TRUE v else means s hi v) ≡ means s lo v || means s hi v
either_of_choice s lo hi v =
    ap (λ t. if means s lo v then t else means s hi v) (means-TRUE s v) ∙ by_cases (means s lo v)
  where
    by_cases : (b : Bool) → (if b then true else means s hi v) ≡ b || means s hi v
    by_cases true = refl
    by_cases false = refl

-- the level's own value, by the function of the level
pub by_level_function : (s t : Table) (level : ℕ) (test a b : NodeId) → Knows s a → Knows s b → Extends s t →
    ((v : ℕ → Bool) → means t test v ≡ (if v level then means s TRUE v else means s FALSE v)) → (v : ℕ → Bool)
    → (if means t test v then means t a v else means t b v) ≡ (if v level then means s a v else means s b v)
by_level_function s t level test a b known_a known_b e meaning v =
    (λ i. if (meaning v ∙ (λ j. if v level then means-TRUE s v j else means-FALSE s v j) ∙ either (v level)) i
    then e.same_meaning a known_a v i else e.same_meaning b known_b v i)
  where
    either : (x : Bool) → (if x then true else false) ≡ x
    either true = refl
    either false = refl

-- The least values, node by node.
use Rattle.std.proofs.Common.{◌≡◌, ◌≢◌, ℕ, ◌<◌, inl, inr, Bool, true, false, if◌then◌else◌, List, ◌++◌, length, take, drop, set, refl, sym, ap, ◌∙◌, arith, get_or-set_other, get_or-set_same}
use Rattle.std.proofs.lemmas.List.{take-append-le, take_all}
use Rattle.tm_dd.specs.declared.node.NodeId.{NodeId}
use Rattle.tm_dd.specs.declared.node.TheConstants.{FALSE}
use Rattle.tm_dd.specs.NodeId.{IsConstant}
use Rattle.tm_dd.specs.Reduced.{IsReduced, IsNode}
use Rattle.tm_dd.specs.Table.{Table, Knows, assignment, depth_of, level_of, means, node_of, rank_of}
use Rattle.tm_dd.proofs.CallerLaws.{depth_of-IsConstant, means-FALSE, means-TRUE}
use Rattle.tm_dd.proofs.Ranks.{rank_of-below, rank_of-once, ranks_apart}
use Rattle.tm_ddops.specs.Least.{IsClearFrom, IsFilled, IsLeast}
use Rattle.tm_ddops.proofs.Facts.{below_or_not, constant_cases}

pub filled_constant : (s : Table) → IsReduced s → (f : NodeId) → IsConstant f → f ≢ FALSE → (values : List Bool) →
    IsFilled s f values values
filled_constant s reduced f constant apart values = record {
  above = λ k _. refl;
  holds = λ v _. elim (constant_cases f constant)
      [ inl e ↦ absurd (apart e) | inr e ↦ ap (λ g. means s g v) e ∙ means-TRUE s v ];
  least = λ v _ k deep below.
      absurd (omega (arith, depth_of-IsConstant s reduced f constant, deep, rank_of-below s reduced.ranks k below));
}

module _ (s : Table) (reduced : IsReduced s) (f : NodeId) (known : Knows s f) (inner : ¬ IsConstant f) (old : List Bool)
    (long : length old ≡ s.levels) (clear : IsClearFrom s f old) where
  node : IsNode s f (node_of s f)
  node = reduced.nodes f known inner

  -- the branches stand deeper
  lo_deeper : depth_of s f < depth_of s (node_of s f).lo
  lo_deeper = omega (arith, node.lo_rises, ap (rank_of s) node.level)

  hi_deeper : depth_of s f < depth_of s (node_of s f).hi
  hi_deeper = omega (arith, node.hi_rises, ap (rank_of s) node.level)

  f_true : (v : ℕ → Bool) → v (level_of s f) ≡ true → means s f v ≡ means s (node_of s f).hi v
  f_true v h = node.meaning v
      ∙ ap (λ t. if t then means s (node_of s f).hi v else means s (node_of s f).lo v) (ap v node.level ∙ h)

  f_false : (v : ℕ → Bool) → v (level_of s f) ≡ false → means s f v ≡ means s (node_of s f).lo v
  f_false v h = node.meaning v
      ∙ ap (λ t. if t then means s (node_of s f).hi v else means s (node_of s f).lo v) (ap v node.level ∙ h)

  pub clear_lo : IsClearFrom s (node_of s f).lo old
  clear_lo k deep below = clear k (omega (arith, deep, lo_deeper)) below

  pub filled_lo : (new : List Bool) → IsFilled s (node_of s f).lo old new → IsFilled s f old new
  filled_lo new x =
      let deeper = lo_deeper in
      let within : level_of s f < s.levels = omega (arith, node.below, node.level) in
      let off : assignment new (level_of s f) ≡ false =
      x.above (level_of s f) deeper ∙ clear (level_of s f) (omega arith) within in
      record {
        above = λ k h. x.above k (omega (arith, h, deeper));
        holds = λ v agree. f_false v (agree (level_of s f) (omega arith) within ∙ off)
            ∙ x.holds v (λ k deep below. agree k (omega (arith, deep, deeper)) below);
        least = λ v h k deep below agree on. elim (below_or_not (rank_of s k) (depth_of s (node_of s f).lo)) [
          | inl above ↦ let none = x.above k above ∙ clear k deep below in cc
          | inr not_above ↦
              let v_off = agree (level_of s f) (omega arith) (omega (arith, not_above, deeper)) ∙ off in
              x.least v (sym (f_false v v_off) ∙ h) k (omega (arith, not_above)) below
              (λ j jd jk. agree j (omega (arith, jd, deeper)) jk) on
        ];
      }

  level_within : level_of s f < length old
  level_within = omega (arith, node.below, node.level, long)

  other : (k : ℕ) → k ≢ level_of s f → assignment (set old (level_of s f) true) k ≡ assignment old k
  other k apart = get_or-set_other old (level_of s f) k true false apart

  here : assignment (set old (level_of s f) true) (level_of s f) ≡ true
  here = get_or-set_same old (level_of s f) true false level_within

  pub clear_hi : IsClearFrom s (node_of s f).hi (set old (level_of s f) true)
  clear_hi k deep below = other k (ranks_apart s (level_of s f) k (omega (arith, deep, hi_deeper)))
      ∙ clear k (omega (arith, deep, hi_deeper)) below

  pub filled_hi : (node_of s f).lo ≡ FALSE → (new : List Bool) →
      IsFilled s (node_of s f).hi (set old (level_of s f) true) new → IsFilled s f old new
  filled_hi lo_false new x =
      let deeper = hi_deeper in
      let within : level_of s f < s.levels = omega (arith, node.below, node.level) in
      let on_here : assignment new (level_of s f) ≡ true = x.above (level_of s f) deeper ∙ here in
      record {
        above = λ k h. x.above k (omega (arith, h, deeper)) ∙ other k (λ e. omega (arith, ap (rank_of s) e, h));
        holds = λ v agree. f_true v (agree (level_of s f) (omega arith) within ∙ on_here)
            ∙ x.holds v (λ k deep below. agree k (omega (arith, deep, deeper)) below);
        least = λ v h k deep below agree on. elim (below_or_not (depth_of s f) (rank_of s k)) [
          | inl past ↦ elim (below_or_not (rank_of s k) (depth_of s (node_of s f).hi)) [
            | inl above ↦
                let none = x.above k above ∙ other k (ranks_apart s (level_of s f) k past) ∙ clear k deep below in cc
            | inr not_above ↦
                let v_on = agree (level_of s f) (omega arith) past ∙ on_here in
                x.least v (sym (f_true v v_on) ∙ h) k (omega (arith, not_above)) below
                (λ j jd jk. agree j (omega (arith, jd, deeper)) jk) on
          ]
          | inr first ↦
              let same = rank_of-once s reduced.ranks k (level_of s f) below within (omega (arith, first, deep)) in
              ap v same ∙ must v h (v (level_of s f)) refl
        ];
      }
    where
      must : (v : ℕ → Bool) → means s f v ≡ true → (b : Bool) → v (level_of s f) ≡ b → v (level_of s f) ≡ true
      must v h true e = e
      must v h false e =
          let none : means s f v ≡ false = f_false v e ∙ ap (λ g. means s g v) lo_false ∙ means-FALSE s v in cc

pub least_of_filled : (s : Table) (f : NodeId) (old new : List Bool) →
    length new ≡ s.levels → ((k : ℕ) → k < s.levels → assignment old k ≡ false) → IsFilled s f old new → IsLeast s f new
least_of_filled s f old new long clear x = record {
  one_a_level = long;
  holds = x.holds (assignment new) (λ k _ _. refl);
  least = λ v h k below agree on. elim (below_or_not (rank_of s k) (depth_of s f)) [
    | inl above ↦ let none = x.above k above ∙ clear k below in cc
    | inr not_above ↦ x.least v h k (omega (arith, not_above)) below (λ j _ jk. agree j jk) on
  ];
}

-- a list that a slice was written back to
pub back_is : (new old : List Bool) (n : ℕ) → length new ≡ length old → n ≡ length old →
    take n (new ++ drop (length new) old) ≡ new
back_is new old n same is =
    take-append-le n new (drop (length new) old) (omega (arith, same, is)) ∙ take_all n new (omega (arith, same, is))

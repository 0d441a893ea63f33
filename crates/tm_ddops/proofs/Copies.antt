-- Copies, node by node and root by root.
use Rattle.std.proofs.Common.{◌≡◌, ◌≢◌, ℕ, ◌≤◌, ◌⊎◌, inl, inr, Bool, true, false, if◌then◌else◌, List, [], ◌∷◌, ◌++◌, length, get_or, Contains, sym, ap, subst, ◌∙◌, arith, length-append}
use Rattle.std.proofs.lemmas.List.{get_or_append_left}
use Rattle.std.proofs.lemmas.List.Elements.{Contains-append_left, Contains-append_right}
use Rattle.std.proofs.Math.Seq.{get_or-append_seam}
use Rattle.lru.proofs.Splits.{Contains-head}
use Rattle.tm_dd.specs.declared.node.Node.{Node}
use Rattle.tm_dd.specs.declared.node.NodeId.{NodeId}
use Rattle.tm_dd.specs.declared.node.TheConstants.{FALSE, TRUE}
use Rattle.tm_dd.specs.NodeId.{IsConstant, complement}
use Rattle.tm_dd.specs.Reduced.{Extends, IsDeeper, IsNode, IsReduced}
use Rattle.tm_dd.specs.Table.{Table, Knows, depth_of, means, node_of, rank_of}
use Rattle.tm_dd.proofs.Ranks.{rank_of-same}
use Rattle.tm_dd.proofs.CallerLaws.{depth_of-Extends, depth_of-IsConstant, means-FALSE, means-TRUE, complement-complement, Extends-trans}
use Rattle.tm_ddops.specs.Copied.{AddsReached, AllReached, AreCopies, IsCopy, MeanTheSame, ReachesUpToMark}
use Rattle.tm_ddops.specs.Inner.Found.{Found}
use Rattle.tm_ddops.specs.Manager.{IsFunction}
use Rattle.tm_ddops.specs.Reached.{Reaches, itself, through_lo, through_hi}
use Rattle.tm_ddops.proofs.Facts.{below_or_not, constant_cases, knows-constant, knows-Extends}

pub copy_constant : (from to : Table) → IsReduced from → IsReduced to → to.levels ≡ from.levels → (f : NodeId) →
    IsConstant f → Knows from f → IsCopy from to f f
copy_constant from to rf rt levels f constant known = record {
  operand = known;
  known = knows-constant to f constant;
  deep = omega (arith, depth_of-IsConstant from rf f constant, depth_of-IsConstant to rt f constant, levels);
  meaning = λ v. elim (constant_cases f constant) [
    | inl e ↦ ap (λ g. means to g v) e ∙ means-FALSE to v ∙ sym (means-FALSE from v) ∙ ap (λ g. means from g v) (sym e)
    | inr e ↦ ap (λ g. means to g v) e ∙ means-TRUE to v ∙ sym (means-TRUE from v) ∙ ap (λ g. means from g v) (sym e)
  ];
}

pub IsCopy-Extends : (from s t : Table) → Extends s t → (f id : NodeId) → IsCopy from s f id → IsCopy from t f id
IsCopy-Extends from s t e f id x = record {
  operand = x.operand;
  known = knows-Extends s t e id x.known;
  deep = omega (arith, x.deep, depth_of-Extends s t e id x.known);
  meaning = λ v. e.same_meaning id x.known v ∙ x.meaning v;
}

pub AreCopies-Extends : (from s t : Table) → Extends s t → (m : Found) → AreCopies from s m → AreCopies from t m
AreCopies-Extends from s t e m are f id h = IsCopy-Extends from s t e f id (are f id h)

-- what was reached is reached still
reaches_later : (s t : Table) → IsReduced s → Extends s t → (f g : NodeId) → Knows s f → Reaches s f g → Reaches t f g
reaches_later s t reduced e f g known (itself _) = itself f
reaches_later s t reduced e f g known (through_lo _ _ inner rest) =
    through_lo f g inner (subst (λ n. Reaches t n.lo g) (sym (e.same_node f known))
    (reaches_later s t reduced e (node_of s f).lo g (reduced.nodes f known inner).lo_known rest))
reaches_later s t reduced e f g known (through_hi _ _ inner rest) =
    through_hi f g inner (subst (λ n. Reaches t n.hi g) (sym (e.same_node f known))
    (reaches_later s t reduced e (node_of s f).hi g (reduced.nodes f known inner).hi_known rest))

mark_later : (s t : Table) → IsReduced s → Extends s t → (f g : NodeId) → Knows s f → ReachesUpToMark s f g →
    ReachesUpToMark t f g
mark_later s t reduced e f g known r = elim r [
  | inl x ↦ inl (reaches_later s t reduced e f g known x)
  | inr x ↦ inr (reaches_later s t reduced e f (complement g) known x)
]

-- ids that mean a constant are constants
constant_of_meaning : (s : Table) → IsReduced s → (f : NodeId) → Knows s f → (b : Bool) →
    ((v : ℕ → Bool) → means s f v ≡ b) → IsConstant f
constant_of_meaning s reduced f known true same =
    subst IsConstant (sym (reduced.canonical f TRUE known (omega arith) (λ v. same v ∙ sym (means-TRUE s v))))
    (omega arith)
constant_of_meaning s reduced f known false same =
    subst IsConstant (sym (reduced.canonical f FALSE known (omega arith) (λ v. same v ∙ sym (means-FALSE s v))))
    (omega arith)

-- the copy of an inner node is one
pub copy_inner : (from to : Table) → IsReduced from → (f id : NodeId) → IsCopy from to f id → ¬ IsConstant f →
    ¬ IsConstant id
copy_inner from to reduced f id x inner constant = elim (constant_cases id constant) [
  | inl e ↦ inner (constant_of_meaning from reduced f x.operand false
      (λ v. sym (x.meaning v) ∙ ap (λ g. means to g v) e ∙ means-FALSE to v))
  | inr e ↦ inner (constant_of_meaning from reduced f x.operand true
      (λ v. sym (x.meaning v) ∙ ap (λ g. means to g v) e ∙ means-TRUE to v))
]

module _ (from : Table) (reduced : IsReduced from) (f : NodeId) (known : Knows from f) (n : Node)
    (node : IsNode from f n)
    (r s : Table) (e : Extends r s) (lo hi : NodeId) (low : IsCopy from r n.lo lo) (high : IsCopy from s n.hi hi) where
  low_later : IsCopy from s n.lo lo
  low_later = IsCopy-Extends from r s e n.lo lo low

  -- they stand deeper than the node
  pub lo_deeper : s.levels ≡ from.levels → s.ranks ≡ from.ranks → IsDeeper s n.level lo
  lo_deeper levels ranks =
      inr (omega (arith, rank_of-same from s levels ranks n.level, node.lo_rises, low_later.deep))

  pub hi_deeper : s.levels ≡ from.levels → s.ranks ≡ from.ranks → IsDeeper s n.level hi
  hi_deeper levels ranks = inr (omega (arith, rank_of-same from s levels ranks n.level, node.hi_rises, high.deep))

  -- the copies of different functions differ
  pub copies_differ : lo ≢ hi
  copies_differ same =
      node.differ (reduced.canonical n.lo n.hi node.lo_known node.hi_known
      (λ v. sym (low_later.meaning v) ∙ ap (λ g. means s g v) same ∙ high.meaning v))

  pub copy_of_branches : (t : Table) → t.levels ≡ from.levels → t.ranks ≡ from.ranks → (id : NodeId) → Knows t id →
      rank_of t n.level ≤ depth_of t id
      → ((v : ℕ → Bool) → means t id v ≡ (if v n.level then means s hi v else means s lo v)) → IsCopy from t f id
  copy_of_branches t levels ranks id there deep meaning = record {
    operand = known;
    known = there;
    deep = omega (arith, deep, rank_of-same from t levels ranks n.level, ap (rank_of from) node.level);
    meaning = λ v. meaning v ∙ (λ i. if v n.level then high.meaning v i else low_later.meaning v i)
        ∙ sym (node.meaning v);
  }

-- what two copies and a node added is reached from the node
pub adds_node : (a b c d : Table) → IsReduced b → IsReduced c → Extends b c → Extends c d → (lo hi id : NodeId) →
    Knows b lo → Knows c hi
    → AddsReached a b lo → AddsReached b c hi → ¬ IsConstant id → (node_of d id).lo ≡ lo → (node_of d id).hi ≡ hi
    → ((g : NodeId) → Knows d g → Knows c g ⊎ ((g ≡ id) ⊎ (g ≡ complement id))) → AddsReached a d id
adds_node a b c d rb rc bc cd lo hi id klo khi low high inner is_lo is_hi added g known = elim (added g known) [
  | inl in_c ↦ elim (high g in_c) [
    | inl in_b ↦ elim (low g in_b) [
      | inl in_a ↦ inl in_a
      | inr r ↦ inr (below_lo (mark_later b d rb (Extends-trans b c d bc cd) lo g klo r))
    ]
    | inr r ↦ inr (below_hi (mark_later c d rc cd hi g khi r))
  ]
  | inr new ↦ elim new [
    | inl e ↦ inr (inl (subst (Reaches d id) (sym e) (itself id)))
    | inr e ↦ inr (inr (subst (Reaches d id) (sym (ap complement e ∙ complement-complement id)) (itself id)))
  ]
]
  where
    below_lo : ReachesUpToMark d lo g → ReachesUpToMark d id g
    below_lo r = elim r [
      | inl x ↦ inl (through_lo id g inner (subst (λ m. Reaches d m g) (sym is_lo) x))
      | inr x ↦ inr (through_lo id (complement g) inner (subst (λ m. Reaches d m (complement g)) (sym is_lo) x))
    ]

    below_hi : ReachesUpToMark d hi g → ReachesUpToMark d id g
    below_hi r = elim r [
      | inl x ↦ inl (through_hi id g inner (subst (λ m. Reaches d m g) (sym is_hi) x))
      | inr x ↦ inr (through_hi id (complement g) inner (subst (λ m. Reaches d m (complement g)) (sym is_hi) x))
    ]

-- ---- root by root

same_function : (from to : Table) (f g x y : NodeId) → f ≡ g → x ≡ y → IsFunction to x (means from f) →
    IsFunction to y (means from g)
same_function from to f g x y of is h =
    subst (λ k. IsFunction to y (means from k)) of (subst (λ k. IsFunction to k (means from f)) is h)

-- one more copy, in a store that it extended
pub means_more : (from s t : Table) → Extends s t → (fs ids : List NodeId) → MeanTheSame from fs s ids →
    (f id : NodeId) → IsCopy from t f id
    → MeanTheSame from (fs ++ f ∷ []) t (ids ++ id ∷ [])
means_more from s t e fs ids m f id copy = record {
  as_many = omega (arith, length-append fs (f ∷ []), length-append ids (id ∷ []), m.as_many);
  functions = λ i d below. elim (below_or_not i (length fs)) [
    | inl before ↦
        let was = m.functions i d before in
        same_function from t (get_or fs i d) _ (get_or ids i d) _ (sym (get_or_append_left fs (f ∷ []) d i before))
        (sym (get_or_append_left ids (id ∷ []) d i (omega (arith, before, m.as_many))))
        (record {
          known = knows-Extends s t e (get_or ids i d) was.known;
          meaning =
              λ v. e.same_meaning (get_or ids i d) was.known v ∙ was.meaning v;
        })
    | inr last ↦
        let at : i ≡ length fs = omega (arith, last, below, length-append fs (f ∷ [])) in
        let there : i ≡ length ids = omega (arith, at, m.as_many) in
        same_function from t f _ id _
        (sym (ap (λ k. get_or (fs ++ f ∷ []) k d) at ∙ get_or-append_seam fs f [] d))
        (sym (ap (λ k. get_or (ids ++ id ∷ []) k d) there ∙ get_or-append_seam ids id [] d))
        (record { known = copy.known; meaning = copy.meaning })
  ];
}

knows_each : (from s : Table) (fs ids : List NodeId) → MeanTheSame from fs s ids → (r : NodeId) → Contains ids r →
    Knows s r
knows_each from s fs ids m r there =
    subst (Knows s) there.2 (m.functions there.0 r (omega (arith, there.1, m.as_many))).known

pub reached_more : (from s t : Table) → IsReduced s → Extends s t → (fs ids : List NodeId) → MeanTheSame from fs s ids →
    (id : NodeId)
    → AllReached s ids → AddsReached s t id → AllReached t (ids ++ id ∷ [])
reached_more from s t reduced e fs ids m id all adds g known = elim (adds g known) [
  | inl was ↦ elim (all g was) [
    | inl constant ↦ inl constant
    | inr r ↦ inr (
      r.0,
      Contains-append_left ids (id ∷ []) r.0 r.1,
      mark_later s t reduced e r.0 g (knows_each from s fs ids m r.0 r.1) r.2,
    )
  ]
  | inr new ↦ inr (id, Contains-append_right ids (id ∷ []) id (Contains-head id []), new)
]

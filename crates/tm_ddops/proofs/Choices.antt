-- Choices: their ids, their cofactors, and what they mean in a store that was extended.
use Rattle.std.proofs.Common.{◌≡◌, ℕ, ◌<◌, ◌≤◌, Bool, true, false, not, eqb, leb, min, if◌then◌else◌, inl, inr, refl, sym, ap, ◌∙◌, arith}
use Rattle.std.proofs.lemmas.Bool.{cases_lt, eqb-true, eqb-false, le-leb, lt-leb, ne_eqb}
use Rattle.tm_dd.specs.declared.node.NodeId.{NodeId}
use Rattle.tm_dd.specs.declared.node.TheConstants.{FALSE, TRUE}
use Rattle.tm_dd.specs.NodeId.{IsConstant, complement}
use Rattle.tm_dd.specs.Reduced.{IsReduced, IsNode, Extends}
use Rattle.tm_dd.specs.Table.{Table, Knows, depth_of, means, level_of, node_of, rank_of}
use Rattle.tm_dd.proofs.CallerLaws.{means-FALSE, means-TRUE, means-complement, depth_of-complement, Knows-complement}
use Rattle.tm_dd.proofs.Ranks.{depth_of-Extends, is_level, rank_of-apart, rank_of-below, rank_of-Extends, rank_of-within}
use Rattle.tm_ddops.specs.declared.choice.Choice.{Choice}
use Rattle.tm_ddops.specs.Choice.{choice_depth, choice_level, choice_value, upper, cofactor, cofactor_choice, IsChoice, IsOpen, KnowsChoice, MeansWhere}
use Rattle.tm_ddops.proofs.Facts.{level_of-inner, knows-Extends}

-- a true test picks the first branch, a false one the second
pub picks : (a b c r : Bool) → (a ≡ true → r ≡ b) → (a ≡ false → r ≡ c) → r ≡ (if a then b else c)
picks true b c r on off = on refl
picks false b c r on off = off refl

-- an id is a choice where it means its first branch where the test is true, and the second where it is false
pub choice_by_cases : (s : Table) (k : Choice) (r : NodeId) → KnowsChoice s k → Knows s r →
    choice_depth s k ≤ depth_of s r
    → MeansWhere s k.test true r k.if_true → MeansWhere s k.test false r k.if_false → IsChoice s k r
choice_by_cases s k r operands known deep on off = record {
  operands = operands;
  known = known;
  deep = deep;
  meaning = λ v. picks (means s k.test v) (means s k.if_true v) (means s k.if_false v) (means s r v) (on v) (off v);
}

-- a test that is a constant picks one branch
pub choice_of_true : (s : Table) (k : Choice) → KnowsChoice s k → k.test ≡ TRUE → IsChoice s k k.if_true
choice_of_true s k operands e =
    choice_by_cases s k k.if_true operands operands.if_true (omega arith) (λ v _. refl)
    (λ v h. let t : means s k.test v ≡ true = ap (λ f. means s f v) e ∙ means-TRUE s v in cc)

pub choice_of_false : (s : Table) (k : Choice) → KnowsChoice s k → k.test ≡ FALSE → IsChoice s k k.if_false
choice_of_false s k operands e =
    choice_by_cases s k k.if_false operands operands.if_false (omega arith)
    (λ v h. let t : means s k.test v ≡ false = ap (λ f. means s f v) e ∙ means-FALSE s v in cc)
    (λ v _. refl)

-- the test itself, and its complement, as choices
pub choice_is_test : (s : Table) (k : Choice) → KnowsChoice s k → MeansWhere s k.test true TRUE k.if_true →
    MeansWhere s k.test false FALSE k.if_false → IsChoice s k k.test
choice_is_test s k operands on off =
    choice_by_cases s k k.test operands operands.test (omega arith)
    (λ v h. h ∙ sym (means-TRUE s v) ∙ on v h)
    (λ v h. h ∙ sym (means-FALSE s v) ∙ off v h)

pub choice_is_complement : (s : Table) (k : Choice) → KnowsChoice s k → MeansWhere s k.test true FALSE k.if_true →
    MeansWhere s k.test false TRUE k.if_false
    → IsChoice s k (complement k.test)
choice_is_complement s k operands on off =
    choice_by_cases s k (complement k.test) operands (Knows-complement s k.test operands.test)
    (omega (arith, depth_of-complement s k.test))
    (λ v h. means-complement s k.test v ∙ ap not h ∙ sym (means-FALSE s v) ∙ on v h)
    (λ v h. means-complement s k.test v ∙ ap not h ∙ sym (means-TRUE s v) ∙ off v h)

-- ---- cofactors

-- the cofactors of a constant are the constant
pub cofactor-constant : (s : Table) → IsReduced s → (f : NodeId) (level : ℕ) (b : Bool) → IsConstant f →
    level < s.levels → cofactor s f level b ≡ f
cofactor-constant s reduced f level b h within =
    ap (λ t. if t then (if b then (node_of s f).hi else (node_of s f).lo) else f)
    (ne_eqb (level_of s f) level (omega (arith, reduced.constants f h, within)))

module _ (s : Table) (reduced : IsReduced s) (f : NodeId) (known : Knows s f) (level : ℕ) (within : level < s.levels)
  where
    -- an id on a level is no constant
    pub inner_at : level_of s f ≡ level → ¬ IsConstant f
    inner_at e h = omega (arith, reduced.constants f h, within, e)

    node_at : level_of s f ≡ level → IsNode s f (node_of s f)
    node_at e = reduced.nodes f known (inner_at e)

    -- a cofactor is the child on the level, and the id itself where that is deeper
    pub by_cofactor : (P : NodeId → Type 0) (b : Bool)
        → (level_of s f ≡ level → P (if b then (node_of s f).hi else (node_of s f).lo)) →
        (¬ (level_of s f ≡ level) → P f) → P (cofactor s f level b)
    by_cofactor P b on off =
        elim (eqb (level_of s f) level)
        as (λ t. eqb (level_of s f) level ≡ t →
        P (if t then (if b then (node_of s f).hi else (node_of s f).lo) else f)) [
          | true ↦ λ t. on (eqb-true _ _ t)
          | false ↦ λ t. off (eqb-false _ _ t)
        ] refl

    pub knows-cofactor : (b : Bool) → Knows s (cofactor s f level b)
    knows-cofactor true = by_cofactor (Knows s) true (λ e. (node_at e).hi_known) (λ _. known)
    knows-cofactor false = by_cofactor (Knows s) false (λ e. (node_at e).lo_known) (λ _. known)

    same_rank : level_of s f ≡ level → rank_of s (node_of s f).level ≡ rank_of s level
    same_rank e = ap (rank_of s) ((node_at e).level ∙ e)

    pub depth_of-cofactor : rank_of s level ≤ depth_of s f → (b : Bool) →
        rank_of s level < depth_of s (cofactor s f level b)
    depth_of-cofactor above true =
        by_cofactor (λ g. rank_of s level < depth_of s g) true
        (λ e. omega (arith, (node_at e).hi_rises, same_rank e))
        (λ apart. rank_of-apart s reduced.ranks level (level_of s f) within apart above)
    depth_of-cofactor above false =
        by_cofactor (λ g. rank_of s level < depth_of s g) false
        (λ e. omega (arith, (node_at e).lo_rises, same_rank e))
        (λ apart. rank_of-apart s reduced.ranks level (level_of s f) within apart above)

    pub means-cofactor : (b : Bool) (v : ℕ → Bool) → v level ≡ b → means s (cofactor s f level b) v ≡ means s f v
    means-cofactor true v at =
        by_cofactor (λ g. means s g v ≡ means s f v) true
        (λ e. let n = node_at e in let here : v (node_of s f).level ≡ true = ap v (n.level ∙ e) ∙ at in
        sym (n.meaning v ∙ ap (λ t. if t then means s (node_of s f).hi v else means s (node_of s f).lo v) here))
        (λ _. refl)
    means-cofactor false v at =
        by_cofactor (λ g. means s g v ≡ means s f v) false
        (λ e. let n = node_at e in let here : v (node_of s f).level ≡ false = ap v (n.level ∙ e) ∙ at in
        sym (n.meaning v ∙ ap (λ t. if t then means s (node_of s f).hi v else means s (node_of s f).lo v) here))
        (λ _. refl)

-- the rank of the higher of two levels is the lesser one
rank_of-upper : (s : Table) (j k : ℕ) → rank_of s (upper s j k) ≡ min (rank_of s j) (rank_of s k)
rank_of-upper s j k =
    elim (cases_lt (rank_of s k) (rank_of s j)) [
      | inl below ↦
          let picked : upper s j k ≡ k = ap (λ b. if b then j else k) (lt-leb (rank_of s j) (rank_of s k) below) in
          omega (arith, ap (rank_of s) picked, below)
      | inr above ↦
          let picked : upper s j k ≡ j = ap (λ b. if b then j else k) (le-leb (rank_of s j) (rank_of s k) above) in
          omega (arith, ap (rank_of s) picked, above)
    ]

pub rank_of-choice_level : (s : Table) (k : Choice) → rank_of s (choice_level s k) ≡ choice_depth s k
rank_of-choice_level s k =
    rank_of-upper s (level_of s k.test) (upper s (level_of s k.if_true) (level_of s k.if_false))
    ∙ ap (min (depth_of s k.test)) (rank_of-upper s (level_of s k.if_true) (level_of s k.if_false))

module _ (s : Table) (reduced : IsReduced s) (k : Choice) (known : KnowsChoice s k) where
  pub choice_depth-open : IsOpen k → choice_depth s k < s.levels
  choice_depth-open open_ =
      omega (
        arith,
        rank_of-below s reduced.ranks (level_of s k.test) (level_of-inner s reduced k.test known.test open_.0),
      )

  pub choice_level-open : IsOpen k → choice_level s k < s.levels
  choice_level-open open_ =
      is_level s reduced.ranks (choice_level s k) (omega (arith, rank_of-choice_level s k, choice_depth-open open_))

  pub choice_depth-within : choice_depth s k ≤ s.levels
  choice_depth-within = omega (arith, rank_of-within s reduced.ranks (level_of s k.test))

  module _ (within : choice_level s k < s.levels) where
    pub knows-cofactor_choice : (b : Bool) → KnowsChoice s (cofactor_choice s k b)
    knows-cofactor_choice b = record {
      test = knows-cofactor s reduced k.test known.test (choice_level s k) within b;
      if_true = knows-cofactor s reduced k.if_true known.if_true (choice_level s k) within b;
      if_false = knows-cofactor s reduced k.if_false known.if_false (choice_level s k) within b;
    }

    pub choice_depth-cofactor_choice : (b : Bool) → choice_depth s k < choice_depth s (cofactor_choice s k b)
    choice_depth-cofactor_choice b =
        let top = rank_of-choice_level s k in
        let level = choice_level s k in
        let test = depth_of-cofactor s reduced k.test known.test level within (omega (arith, top)) b in
        let on = depth_of-cofactor s reduced k.if_true known.if_true level within (omega (arith, top)) b in
        let off = depth_of-cofactor s reduced k.if_false known.if_false level within (omega (arith, top)) b in
        omega (arith, top, test, on, off)

    pub choice_value-cofactor_choice : (b : Bool) (v : ℕ → Bool) → v (choice_level s k) ≡ b →
        choice_value s (cofactor_choice s k b) v ≡ choice_value s k v
    choice_value-cofactor_choice b v at =
        let test = means-cofactor s reduced k.test known.test (choice_level s k) within b v at in
        let on = means-cofactor s reduced k.if_true known.if_true (choice_level s k) within b v at in
        let off = means-cofactor s reduced k.if_false known.if_false (choice_level s k) within b v at in
        λ i. if test i then on i else off i

-- ---- a store that was extended

module _ (s t : Table) (e : Extends s t) where
  pub KnowsChoice-Extends : (k : Choice) → KnowsChoice s k → KnowsChoice t k
  KnowsChoice-Extends k known = record {
    test = knows-Extends s t e k.test known.test;
    if_true = knows-Extends s t e k.if_true known.if_true;
    if_false = knows-Extends s t e k.if_false known.if_false;
  }

  pub choice_level-Extends : (k : Choice) → KnowsChoice s k → choice_level t k ≡ choice_level s k
  choice_level-Extends k known =
      let branch : upper t (level_of t k.if_true) (level_of t k.if_false)
      ≡ upper s (level_of s k.if_true) (level_of s k.if_false) =
      λ i. if leb (depth_of-Extends s t e k.if_true known.if_true i)
      (depth_of-Extends s t e k.if_false known.if_false i)
      then e.same_level k.if_true known.if_true i else e.same_level k.if_false known.if_false i in
      let rank = rank_of-Extends s t e (upper t (level_of t k.if_true) (level_of t k.if_false))
      ∙ ap (rank_of s) branch in
      λ i. if leb (depth_of-Extends s t e k.test known.test i) (rank i)
      then e.same_level k.test known.test i else branch i

  pub choice_depth-Extends : (k : Choice) → KnowsChoice s k → choice_depth t k ≡ choice_depth s k
  choice_depth-Extends k known =
      λ i. min (depth_of-Extends s t e k.test known.test i)
      (min (depth_of-Extends s t e k.if_true known.if_true i) (depth_of-Extends s t e k.if_false known.if_false i))

  pub choice_value-Extends : (k : Choice) → KnowsChoice s k → (v : ℕ → Bool) → choice_value t k v ≡ choice_value s k v
  choice_value-Extends k known v =
      λ i. if e.same_meaning k.test known.test v i then e.same_meaning k.if_true known.if_true v i
      else e.same_meaning k.if_false known.if_false v i

  pub IsChoice-Extends : (k : Choice) (id : NodeId) → IsChoice s k id → IsChoice t k id
  IsChoice-Extends k id c = record {
    operands = KnowsChoice-Extends k c.operands;
    known = knows-Extends s t e id c.known;
    deep = omega (arith, c.deep, choice_depth-Extends k c.operands, depth_of-Extends s t e id c.known);
    meaning = λ v. e.same_meaning id c.known v ∙ c.meaning v ∙ sym (choice_value-Extends k c.operands v);
  }

  cofactor-Extends : (f : NodeId) (level : ℕ) (b : Bool) → Knows s f → cofactor t f level b ≡ cofactor s f level b
  cofactor-Extends f level b known =
      λ i. if eqb (e.same_level f known i) level
      then (if b then (e.same_node f known i).hi else (e.same_node f known i).lo) else f

  pub cofactor_choice-Extends : (k : Choice) (b : Bool) → KnowsChoice s k →
      cofactor_choice t k b ≡ cofactor_choice s k b
  cofactor_choice-Extends k b known =
      let level = choice_level-Extends k known in
      let at : (f : NodeId) → Knows s f → cofactor t f (choice_level t k) b ≡ cofactor s f (choice_level s k) b =
      λ f h. ap (λ l. cofactor t f l b) level ∙ cofactor-Extends f (choice_level s k) b h in
      λ i. record {
        test = at k.test known.test i;
        if_true = at k.if_true known.if_true i;
        if_false =
            at k.if_false known.if_false i;
      }

-- an id whose cofactors are those of a choice is the id of the choice
pub choice_of_branches : (s t : Table) → IsReduced s → Extends s t → (k : Choice) → KnowsChoice s k →
    choice_level s k < s.levels → (lo hi id : NodeId)
    → IsChoice s (cofactor_choice s k false) lo → IsChoice s (cofactor_choice s k true) hi
    → Knows t id → choice_depth s k ≤ depth_of t id
    → ((v : ℕ → Bool) → means t id v ≡ (if v (choice_level s k) then means s hi v else means s lo v)) → IsChoice t k id
choice_of_branches s t reduced e k known within lo hi id low high there deep meaning = record {
  operands = KnowsChoice-Extends s t e k known;
  known = there;
  deep = omega (arith, deep, choice_depth-Extends s t e k known);
  meaning = λ v. meaning v ∙ branches v ∙ sym (choice_value-Extends s t e k known v);
}
  where
    at : (v : ℕ → Bool) (b : Bool) → v (choice_level s k) ≡ b →
        (if b then means s hi v else means s lo v) ≡ choice_value s k v
    at v true h = high.meaning v ∙ choice_value-cofactor_choice s reduced k known within true v h
    at v false h = low.meaning v ∙ choice_value-cofactor_choice s reduced k known within false v h

    branches : (v : ℕ → Bool) → (if v (choice_level s k) then means s hi v else means s lo v) ≡ choice_value s k v
    branches v = at v (v (choice_level s k)) refl

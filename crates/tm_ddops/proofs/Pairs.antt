-- The choices that a binary operation meets: as many as there are pairs of inner nodes.
use Rattle.std.proofs.Common.{◌≡◌, ℕ, ◌+◌, ◌*◌, ◌<◌, inl, inr, Bool, true, false, not, ◌&&◌, ◌||◌, eqb, if◌then◌else◌, List, [], ◌∷◌, ◌++◌, length, map, Contains, refl, sym, subst, ◌∙◌, arith, length-append}
use Rattle.std.proofs.lemmas.List.{length-map}
use Rattle.std.proofs.lemmas.List.Elements.{Contains-append_left, Contains-append_right}
use Rattle.lru.proofs.Splits.{Contains-head, Contains-tail, Contains-cons, Contains-nil}
use Rattle.tm_dd.specs.declared.node.Node.{Node}
use Rattle.tm_dd.specs.declared.node.NodeId.{NodeId}
use Rattle.tm_dd.specs.declared.node.TheConstants.{FALSE, TRUE}
use Rattle.tm_dd.specs.NodeId.{is_marked, position_of, IsConstant, complement}
use Rattle.tm_dd.specs.Reduced.{IsReduced}
use Rattle.tm_dd.specs.Table.{Table, Knows, entry_at, node_of, complement_node, level_of, means}
use Rattle.tm_dd.proofs.CallerLaws.{means-FALSE, means-TRUE, means-complement, level_of-complement, complement-complement, Knows-complement}
use Rattle.tm_dd.proofs.NodeIdLemmas.{is_marked-complement, position_of-complement}
use Rattle.tm_ddops.specs.declared.choice.Choice.{Choice}
use Rattle.tm_ddops.specs.declared.connective.Connective.{Connective}
use Rattle.tm_ddops.specs.declared.connective.Connective.TheVariants.{And, Or, Xor}
use Rattle.tm_ddops.specs.Choice.{choice_level, choice_value, cofactor, cofactor_choice, IsOpen, KnowsChoice, Met, here, below}
use Rattle.tm_ddops.specs.Connective.{connective_choice, connective_value}
use Rattle.tm_ddops.specs.Reached.{Reaches, itself}
use Rattle.tm_ddops.proofs.Choices.{cofactor-constant, knows-cofactor, choice_level-open}
use Rattle.tm_ddops.proofs.Reach.{reaches_cofactor}

-- ---- a complement's node

node_under : Bool → Node → Node
node_under m e = if m then complement_node e else e

complement_under : (m : Bool) (e : Node) → node_under (not m) e ≡ complement_node (node_under m e)
unfolding node_under
complement_under true e =
    sym (λ i. record { level = e.level; lo = complement-complement e.lo i; hi = complement-complement e.hi i })
complement_under false e = refl

node_of-complement : (s : Table) (f : NodeId) → node_of s (complement f) ≡ complement_node (node_of s f)
unfolding node_of node_under
node_of-complement s f =
    (λ i. node_under (is_marked-complement f i) (entry_at s (position_of-complement f i)))
    ∙ complement_under (is_marked f) (entry_at s (position_of f))

cofactor-complement : (s : Table) (f : NodeId) (level : ℕ) (b : Bool) →
    cofactor s (complement f) level b ≡ complement (cofactor s f level b)
cofactor-complement s f level b =
    (λ i. if eqb (level_of-complement s f i) level
    then (if b then (node_of-complement s f i).hi else (node_of-complement s f i).lo) else complement f)
    ∙ inside (eqb (level_of s f) level) b
  where
    inside : (t b : Bool) → (if t then (if b then complement (node_of s f).hi else complement (node_of s f).lo)
        else complement f) ≡ complement (if t then (if b then (node_of s f).hi else (node_of s f).lo) else f)
    inside true true = refl
    inside true false = refl
    inside false b = refl

-- ---- the value of a connective, as a choice

pub choice_value-connective : (s : Table) (c : Connective) (f g : NodeId) (v : ℕ → Bool) →
    choice_value s (connective_choice c f g) v ≡ connective_value c (means s f v) (means s g v)
choice_value-connective s And f g v =
    (λ i. if means s f v then means s g v else means-FALSE s v i) ∙ conjunction (means s f v) (means s g v)
  where
    conjunction : (a b : Bool) → (if a then b else false) ≡ (a && b)
    conjunction true b = refl
    conjunction false b = refl
choice_value-connective s Or f g v =
    (λ i. if means s f v then means-TRUE s v i else means s g v) ∙ disjunction (means s f v) (means s g v)
  where
    disjunction : (a b : Bool) → (if a then true else b) ≡ (a || b)
    disjunction true b = refl
    disjunction false b = refl
choice_value-connective s Xor f g v = λ i. if means s f v then means-complement s g v i else means s g v

-- ---- what is known of the operands

pub knows_connective : (s : Table) (c : Connective) (f g : NodeId) → Knows s f → Knows s g →
    KnowsChoice s (connective_choice c f g)
knows_connective s And f g kf kg = record { test = kf; if_true = kg; if_false = omega arith }
knows_connective s Or f g kf kg = record { test = kf; if_true = omega arith; if_false = kg }
knows_connective s Xor f g kf kg = record { test = kf; if_true = Knows-complement s g kg; if_false = kg }

-- an open choice of a connective is one of two inner nodes
pub first_inner : (c : Connective) (f g : NodeId) → IsOpen (connective_choice c f g) → ¬ IsConstant f
first_inner And f g open_ = open_.0
first_inner Or f g open_ = open_.0
first_inner Xor f g open_ = open_.0

pub second_inner : (c : Connective) (f g : NodeId) → IsOpen (connective_choice c f g) → ¬ IsConstant g
second_inner And f g open_ h = open_.1 h (omega arith)
second_inner Or f g open_ h = open_.1 (omega arith) h
second_inner Xor f g open_ h = open_.1 (omega (arith, h, position_of-complement g)) h

-- ---- what is met

module _ (s : Table) (reduced : IsReduced s) where
  cofactor-connective : (c : Connective) (f g : NodeId) (level : ℕ) → level < s.levels → (b : Bool)
      → (k : Choice) → k ≡ connective_choice c f g
      → record {
        test = cofactor s k.test level b;
        if_true = cofactor s k.if_true level b;
        if_false =
            cofactor s k.if_false level b;
      }
      ≡ connective_choice c (cofactor s f level b) (cofactor s g level b)
  cofactor-connective c f g level within b k e =
      (λ i. record {
        test = cofactor s (e i).test level b;
        if_true = cofactor s (e i).if_true level b;
        if_false =
            cofactor s (e i).if_false level b;
      }) ∙ parts c
    where
      parts : (d : Connective) →
          record {
            test = cofactor s (connective_choice d f g).test level b;
            if_true =
                cofactor s (connective_choice d f g).if_true level b;
            if_false =
                cofactor s (connective_choice d f g).if_false level b;
          }
          ≡ connective_choice d (cofactor s f level b) (cofactor s g level b)
      parts And = λ i. record {
        test = cofactor s f level b;
        if_true = cofactor s g level b;
        if_false =
            cofactor-constant s reduced FALSE level b (omega arith) within i;
      }
      parts Or = λ i. record {
        test = cofactor s f level b;
        if_true =
            cofactor-constant s reduced TRUE level b (omega arith) within i;
        if_false = cofactor s g level b;
      }
      parts Xor = λ i. record {
        test = cofactor s f level b;
        if_true = cofactor-complement s g level b i;
        if_false =
            cofactor s g level b;
      }

  -- each choice on the way down is that of two ids that are reached
  pub met_pair : (c : Connective) (f g : NodeId) → Knows s f → Knows s g → (k m : Choice) →
      k ≡ connective_choice c f g → Met s k m
      → (a : NodeId) × (b : NodeId) × Reaches s f a × Reaches s g b × (m ≡ connective_choice c a b)
  met_pair c f g kf kg k m e (here _) = (f, g, itself f, itself g, e)
  met_pair c f g kf kg k m e (below _ open_ b _ rest) =
      let known : KnowsChoice s k = subst (KnowsChoice s) (sym e) (knows_connective s c f g kf kg) in
      let within = choice_level-open s reduced k known open_ in
      let level = choice_level s k in
      let down = met_pair c (cofactor s f level b) (cofactor s g level b)
      (knows-cofactor s reduced f kf level within b) (knows-cofactor s reduced g kg level within b)
      (cofactor_choice s k b) m (cofactor-connective c f g level within b k e) rest in (
        down.0,
        down.1,
        reaches_cofactor s reduced f kf level within b down.0 down.2,
        reaches_cofactor s reduced g kg level within b down.1 down.3,
        down.4,
      )

-- ---- all pairs

-- the choices of a connective over each pair of two lists of ids
pub pair_choices : Connective → List NodeId → List NodeId → List Choice
pair_choices c [] gs = []
pair_choices c (f ∷ fs) gs = map (connective_choice c f) gs ++ pair_choices c fs gs

pub length-pair_choices : (c : Connective) (fs gs : List NodeId) → length (pair_choices c fs gs) ≡ length fs * length gs
unfolding pair_choices
length-pair_choices c [] gs = omega arith
length-pair_choices c (f ∷ fs) gs =
    let rest = length-pair_choices c fs gs in
    let first = length-map gs (connective_choice c f) in
    length-append (map (connective_choice c f) gs) (pair_choices c fs gs) ∙ (λ i. first i + rest i) ∙ omega arith

Contains-map : (h : NodeId → Choice) (gs : List NodeId) (g : NodeId) → Contains gs g → Contains (map h gs) (h g)
Contains-map h [] g c = absurd (Contains-nil g c)
Contains-map h (x ∷ gs) g c = elim (Contains-cons x gs g c) [
  | inl e ↦ subst (λ y. Contains (h x ∷ map h gs) (h y)) e (Contains-head (h x) (map h gs))
  | inr rest ↦ Contains-tail (h x) (map h gs) (h g) (Contains-map h gs g rest)
]

pub Contains-pair_choices : (c : Connective) (fs gs : List NodeId) (f g : NodeId) → Contains fs f → Contains gs g →
    Contains (pair_choices c fs gs) (connective_choice c f g)
unfolding pair_choices
Contains-pair_choices c [] gs f g hf hg = absurd (Contains-nil f hf)
Contains-pair_choices c (x ∷ fs) gs f g hf hg = elim (Contains-cons x fs f hf) [
  | inl e ↦ Contains-append_left (map (connective_choice c x) gs) (pair_choices c fs gs) (connective_choice c f g)
      (subst (λ y. Contains (map (connective_choice c x) gs) (connective_choice c y g)) e
      (Contains-map (connective_choice c x) gs g hg))
  | inr rest ↦ Contains-append_right (map (connective_choice c x) gs) (pair_choices c fs gs) (connective_choice c f g)
      (Contains-pair_choices c fs gs f g rest hg)
]

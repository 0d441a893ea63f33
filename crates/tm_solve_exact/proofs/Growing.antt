-- A game of a design, and what its growth leaves of the game that is solved.
use Rattle.std.proofs.Common.{◌≡◌, inl, inr, ℕ, ◌<◌, ◌^◌, true, List, length, get_or, sym, ap, ◌∙◌, subst, arith}
use Rattle.std.specs.Prelude.{◌↔◌, sum}
use Rattle.std.proofs.lemmas.Bool.{cases_lt}
use Rattle.std.proofs.lemmas.List.{get_or_past}
use Rattle.tm_game_bits.specs.AssignedStates.{coding_of, state_of}
use Rattle.tm_game_bits.proofs.Coded.{is_coding}
use Rattle.tm_game_bits.proofs.InputLevels.{values_fit}
use Rattle.tm_game_bits.specs.Coding.{Coding, IsCoding}
use Rattle.tm_game_bits.specs.GameOf.{IsGameOf}
use Rattle.tm_dd.specs.declared.node.NodeId.{NodeId}
use Rattle.tm_dd.specs.declared.node.TheConstants.{FALSE, TRUE}
use Rattle.tm_dd.specs.Reduced.{IsReduced}
use Rattle.tm_dd.specs.Table.{Knows, Table, means}
use Rattle.tm_flat.specs.IsFlat.{IsFlat}
use Rattle.tm_flat.specs.Steps.{IsTerm}
use Rattle.tm_game_bits.specs.Functions.{Assignment, Function}
use Rattle.tm_game_bits.specs.States.{ReadsState}
use Rattle.tm_game_bits.proofs.Extended.{Knows-Extends, means-Extends}
use Rattle.tm_game.specs.Game.{GameData, Grows, IsStates}
use Rattle.tm_game.proofs.Growing.{of_kept, order_kept, states_kept}
use Rattle.tm_game.proofs.Ordered.{order_is}
use Rattle.tm_game.proofs.SetTests.{set_tells as test_tells, states_set as reads_set}
use Rattle.tm_game_bits.specs.Order.{IsOrder}
use Rattle.tm_sem.specs.Fairness.{IsFair}
use Rattle.tm_sem.specs.Play.{goal_holds}
use Rattle.tm_sem.specs.State.{StateData}
use Rattle.tm_sem.specs.StateBits.{state_widths}
use Rattle.tm_sem.specs.Step.{IsState}
use Rattle.tm_solve.specs.Game.{Game}
use Rattle.tm_solve.specs.Ids.{Follows, IsExact}
use Rattle.tm_solve.specs.Operator.{game_of}
use Rattle.tm_solve.specs.Sets.{IsSame, StateSet}
use Rattle.tm_syntax.specs.Design.{DesignTree}
use Rattle.tm_term.specs.declared.term.TermId.{TermId}
use Rattle.tm_term.specs.Value.{value_of}
use Rattle.tm_term.proofs.Valued.{value_of-below}
use Rattle.tm_game_bits.specs.Told.{inputs_at}
use Rattle.tm_solve_exact.specs.Coding.{coding_in}
use Rattle.tm_solve_exact.specs.Exact.{exact_side, IsExactOf, IsStateSet, bit_set, coding, exact_game, exact_ids, exact_operator, functions, set_of, states_of, stays_out, valid_set}
use Rattle.tm_solve_exact.proofs.Coded.{coding_is, state_is}
use Rattle.tm_solve_exact.proofs.Staying.{bit_set_reads, iff_same, stays_same, told_among}
use Rattle.tm_solve_exact.proofs.Telling.{is_game}

module _ (d : DesignTree) (g : GameData) (is : IsExactOf d g) where
  pub order_told : IsOrder (sum (state_widths d)) g.order
  order_told = order_is g.terms d g.flat is.ordered.of.flat g.order is.ordered.order

  pub coding_same : coding g ≡ coding_of d g.order
  coding_same = coding_is g.terms d g.flat is.ordered.of.flat g.order

  pub coding_told : IsCoding d (coding g)
  coding_told = subst (IsCoding d) (sym coding_same) (is_coding d g.order is.ordered.of.small order_told)

  bound : (id : TermId) (w : ℕ) → IsTerm is.terms.base w id → (v : Assignment) →
      value_of g.terms (inputs_at d g.order v) id < 2 ^ w
  bound id w term v =
      let here = value_of-below is.terms.base (inputs_at d g.order v) is.terms.sound
      (values_fit d g.order order_told is.terms.base is.terms.flat.inputs v) id term.0 in
      let same = is.terms.extends.values (inputs_at d g.order v) id term.0 in
      subst (λ (n : ℕ). n < 2 ^ w) (sym same)
      (subst (λ (k : ℕ). value_of is.terms.base (inputs_at d g.order v) id < 2 ^ k) term.1 here)

  pub game_told : IsGameOf d (coding g) (functions g)
  game_told =
      subst (λ (c : Coding). IsGameOf d c (functions g)) (sym coding_same)
      (is_game g.terms is.terms.base d g.flat g.order is.ordered.of.flat is.terms.flat order_told bound
      is.ordered.of.small is.ordered.of.room is.ordered.of.design)

  -- ---- sets of states
  state_same : (v : Assignment) → (coding g).state_of v ≡ state_of d g.order v
  state_same = state_is g.terms d g.flat is.ordered.of.flat g.order

  pub states_iff : (t : Table) (IsSuch : StateData → Type 0) (id : NodeId) → IsStates d g.order t IsSuch id →
      (v : Assignment) →
      (means t id v ≡ true) ↔ (IsState d ((coding g).state_of v) × IsSuch ((coding g).state_of v))
  states_iff t IsSuch id set v =
      let same = state_same v in (
        λ h. subst (λ (s : StateData). IsState d s × IsSuch s) (sym same) (set.only v h),
        λ h. set.all v (subst (λ (s : StateData). IsState d s × IsSuch s) same h),
      )

  pub valid_told : (v : Assignment) → (valid_set g v ≡ true) ↔ IsState d ((coding g).state_of v)
  valid_told v =
      let iff = states_iff g.diagrams.table (λ s. Unit {0}) g.valid is.sets.valid v in
      (λ h. (iff.0 h).0, λ h. iff.1 (h, tt))

  pub states_set : (IsSuch : StateData → Type 0) (id : NodeId) → IsStates d g.order g.diagrams.table IsSuch id →
      IsStateSet g id
  states_set IsSuch id set = record {
    set = reads_set d g is.ordered.of is.ordered.order IsSuch id set;
    valid = λ v h. (valid_told v).1 ((states_iff g.diagrams.table IsSuch id set v).0 h).0;
  }

  pub set_tells : (IsSuch : StateData → Type 0) (id : NodeId) → IsStates d g.order g.diagrams.table IsSuch id →
      (s : StateData) → IsState d s → (set_of g id s ≡ true) ↔ IsSuch s
  set_tells IsSuch id set s state =
      subst (λ (c : Coding). (means g.diagrams.table id (c.assignment_of s) ≡ true) ↔ IsSuch s) (sym coding_same)
      (test_tells d g is.ordered.of is.ordered.order IsSuch id set s state)

  -- ---- equal sets
  set_near : (id : NodeId) → IsStateSet g id → (v : Assignment) →
      means g.diagrams.table id ((coding g).assignment_of ((coding g).state_of v)) ≡ means g.diagrams.table id v
  set_near id set v =
      set.set.reads ((coding g).assignment_of ((coding g).state_of v)) v
      (coding_told.one ((coding g).assignment_of ((coding g).state_of v)) v (coding_told.again v))

  one_in_other : (a b : NodeId) → IsStateSet g a → IsStateSet g b →
      IsSame (exact_game g).states (set_of g a) (set_of g b) → (v : Assignment) →
      means g.diagrams.table a v ≡ true → means g.diagrams.table b v ≡ true
  one_in_other a b in_a in_b same v h =
      sym (set_near b in_b v)
      ∙ sym (same.same ((coding g).state_of v)
      (told_among d (coding g) coding_told (valid_set g) valid_told v (in_a.valid v h)))
      ∙ set_near a in_a v
      ∙ h

  pub exact_told : IsReduced g.diagrams.table → IsExact (exact_game g).states (exact_ids g)
  exact_told reduced = record {
    equal = λ a b in_a in_b same.
        reduced.canonical a b in_a.set.known in_b.set.known
        (λ v.
        iff_same (means g.diagrams.table a v) (means g.diagrams.table b v)
        (one_in_other a b in_a in_b same v)
        (one_in_other b a in_b in_a (record { same = λ s among. sym (same.same s among) }) v));
  }

  -- ---- growth
  module _ (h : GameData) (grows : Grows g h) where
    kept_states : (IsSuch : StateData → Type 0) (id other : NodeId) → other ≡ id →
        IsStates d g.order g.diagrams.table IsSuch id → IsStates d h.order h.diagrams.table IsSuch other
    kept_states IsSuch id other same set =
        subst (IsStates d h.order h.diagrams.table IsSuch) (sym same)
        (states_kept g h grows d IsSuch id set)

    pub kept_exact : IsExactOf d h
    kept_exact = record {
      ordered = record {
        of = of_kept g h grows d is.ordered.of;
        order = order_kept g h grows is.ordered.order;
        goals = ap length grows.goals ∙ is.ordered.goals;
        fairs = ap length grows.fairs ∙ is.ordered.fairs;
      };
      terms = record {
        base = is.terms.base;
        sound = is.terms.sound;
        extends = record {
          inputs = grows.terms.inputs ∙ is.terms.extends.inputs;
          known = λ id k. grows.terms.known id (is.terms.extends.known id k);
          terms = λ id k. grows.terms.terms id (is.terms.extends.known id k) ∙ is.terms.extends.terms id k;
          widths = λ id k. grows.terms.widths id (is.terms.extends.known id k) ∙ is.terms.extends.widths id k;
          values = λ values id k.
              grows.terms.values values id (is.terms.extends.known id k) ∙ is.terms.extends.values values id k;
        };
        flat = subst (IsFlat is.terms.base d) (sym grows.flat) is.terms.flat;
      };
      sets = record {
        goals = λ j e below.
            kept_states (λ s. goal_holds d s j ≡ true) (get_or g.goals j e) (get_or h.goals j e)
            (ap (λ ids. get_or ids j e) grows.goals)
            (is.sets.goals j e (subst (λ (ids : List NodeId). j < length ids) grows.goals below));
        fairs = λ i e below.
            kept_states (λ s. IsFair d s i) (get_or g.fairs i e) (get_or h.fairs i e)
            (ap (λ ids. get_or ids i e) grows.fairs)
            (is.sets.fairs i e (subst (λ (ids : List NodeId). i < length ids) grows.fairs below));
        valid = kept_states (λ s. Unit {0}) g.valid h.valid grows.valid is.sets.valid;
      };
    }

    pub same_coding : coding h ≡ coding g
    same_coding = λ i. coding_in (grows.flat i) (grows.order i)

    pub same_valid : valid_set h ≡ valid_set g
    same_valid =
        ap (means h.diagrams.table) grows.valid
        ∙ means-Extends g.diagrams.table h.diagrams.table grows.diagrams g.valid is.sets.valid.known

    known_false : Knows g.diagrams.table FALSE
    known_false = omega arith

    known_true : Knows g.diagrams.table TRUE
    known_true = omega arith

    known_at : (ids : List NodeId) (j : ℕ) (past : NodeId) → Knows g.diagrams.table past →
        (j < length ids → Knows g.diagrams.table (get_or ids j past)) → Knows g.diagrams.table (get_or ids j past)
    known_at ids j past other known =
        elim (cases_lt j (length ids)) as (λ _. Knows g.diagrams.table (get_or ids j past)) [
          | inl below ↦ known below
          | inr behind ↦ subst (Knows g.diagrams.table) (sym (get_or_past ids j past behind)) other
        ]

    pub same_goal : (j : ℕ) →
        means h.diagrams.table (get_or h.goals j TRUE) ≡ means g.diagrams.table (get_or g.goals j TRUE)
    same_goal j =
        ap (λ ids. means h.diagrams.table (get_or ids j TRUE)) grows.goals
        ∙ means-Extends g.diagrams.table h.diagrams.table grows.diagrams (get_or g.goals j TRUE)
        (known_at g.goals j TRUE known_true (λ below. (is.sets.goals j TRUE below).known))

    pub same_fair : (j : ℕ) →
        means h.diagrams.table (get_or h.fairs j FALSE) ≡ means g.diagrams.table (get_or g.fairs j FALSE)
    same_fair j =
        ap (λ ids. means h.diagrams.table (get_or ids j FALSE)) grows.fairs
        ∙ means-Extends g.diagrams.table h.diagrams.table grows.diagrams (get_or g.fairs j FALSE)
        (known_at g.fairs j FALSE known_false (λ below. (is.sets.fairs j FALSE below).known))

    pub stay_told : IsGameOf d (coding g) (functions h) → (a : StateSet) (s : StateData) →
        (exact_operator h).stay a s ≡ (exact_operator g).stay a s
    stay_told other a s =
        (λ i.
        stays_out (functions h)
        (Rattle.tm_game_bits.specs.Functions.outside (bit_set (same_coding i) (same_valid i) a))
        ((same_coding i).assignment_of s))
        ∙ stays_same d (coding g) coding_told (valid_set g) valid_told (functions g) game_told
        (bit_set (coding g) (valid_set g) a)
        (bit_set_reads d (coding g) coding_told (valid_set g) valid_told a) (functions h) other
        ((coding g).assignment_of s)

    pub game_kept : IsGameOf d (coding g) (functions h) → exact_game h ≡ exact_game g
    game_kept other =
        let stay = stay_told other in
        λ i.
        game_of (states_of (same_coding i) (same_valid i)) (length (grows.goals i)) (length (grows.fairs i))
        (record {
          goal = λ j s. same_goal j i ((same_coding i).assignment_of s);
          fair = λ j s. same_fair j i ((same_coding i).assignment_of s);
          stay = λ a s. stay a s i;
        })

    pub kept_set : (id : NodeId) → IsStateSet g id → IsStateSet h id
    kept_set id set =
        let same = means-Extends g.diagrams.table h.diagrams.table grows.diagrams id set.set.known in
        record {
          set = record {
            known = Knows-Extends g.diagrams.table h.diagrams.table grows.diagrams id set.set.known;
            reads = subst (λ (o : List ℕ). ReadsState (length o) (means h.diagrams.table id)) (sym grows.order)
                (subst (ReadsState (length g.order)) (sym same) set.set.reads);
          };
          valid = λ v there.
              ap (λ f. f v) same_valid ∙ set.valid v (sym (ap (λ f. f v) same) ∙ there);
        }

-- the game over bits after it has grown is that of the design
pub same_told : (d : DesignTree) (g : GameData) (is : IsExactOf d g) (h : GameData) (grows : Grows g h) →
    IsGameOf d (coding g) (functions h)
same_told d g is h grows =
    subst (λ (c : Coding). IsGameOf d c (functions h)) (same_coding d g is h grows)
    (game_told d h (kept_exact d g is h grows))

-- the game is the same after it has grown, and its ids are as solving asks
pub follows_told : (d : DesignTree) (g h : GameData) → IsExactOf d g → Grows g h → IsReduced h.diagrams.table →
    Follows (exact_game g) (exact_ids g) (exact_game h) (exact_ids h)
follows_told d g h is grows reduced =
    let after = kept_exact d g is h grows in
    let same = game_kept d g is h grows (same_told d g is h grows) in
    record {
      game = same;
      extends = record {
        known = kept_set d g is h grows;
        same = means_kept;
        kept = λ id set. (kept_set d g is h grows id set, means_kept id set);
        of = λ e other. kept_exact e g other h grows;
        side = ap exact_side same;
      };
      exact = subst (λ (q : Game). IsExact q.states (exact_ids h)) same (exact_told d h after reduced);
    }
  where
    means_kept : (id : NodeId) → IsStateSet g id → set_of h id ≡ set_of g id
    means_kept id set = λ i s.
        means-Extends g.diagrams.table h.diagrams.table grows.diagrams id set.set.known i
        ((same_coding d g is h grows i).assignment_of s)

-- A game with its pool whose diagrams were copied is the same game of the same designs.
use Rattle.std.proofs.Common.{◌≡◌, inl, inr, ℕ, ◌<◌, List, [], ◌∷◌, length, get_or, Result, Ok, Err, refl, sym, ap, ◌∙◌, subst, arith}
use Rattle.std.specs.Prelude.{Contains, OnErr, OnOk}
use Rattle.std.proofs.Math.Logic.{∥∥₁_elim}
use Rattle.std.proofs.lemmas.Bool.{cases_lt}
use Rattle.std.proofs.lemmas.List.{get_or_past}
use Rattle.std.proofs.lemmas.List.Elements.{All-nil, All-cons, All-contains}
use Rattle.tm_dd.specs.declared.node.NodeId.{NodeId}
use Rattle.tm_dd.specs.declared.node.TheConstants.{FALSE, TRUE}
use Rattle.tm_dd.specs.Table.{Knows, Table, means}
use Rattle.tm_dd.proofs.CallerLaws.{means-FALSE, means-TRUE}
use Rattle.tm_ddops.specs.Copied.{MeanTheSame}
use Rattle.tm_ddops.specs.Manager.{IsFunction}
use Rattle.tm_game.specs.Copied.{IsCopied}
use Rattle.tm_game.specs.Game.{GameData, IsOf}
use Rattle.tm_game_bits.specs.Functions.{Function, outside}
use Rattle.tm_game_bits.specs.States.{ReadsState}
use Rattle.tm_game_pool.proofs.Pooled.{pool_copied}
use Rattle.tm_refine.specs.Pooled.{CanBeDecided, CanDecide, Forgets, pool_ids}
use Rattle.tm_refine.proofs.PoolKeeps.{design_of}
use Rattle.tm_solve.specs.Ids.{Is}
use Rattle.tm_solve.specs.Operator.{game_of}
use Rattle.tm_solve_exact.specs.Bits.{functions_in}
use Rattle.tm_solve_exact.specs.Coding.{coding_in}
use Rattle.tm_solve_exact.specs.Exact.{IsExactOf, IsStateSet, bit_set, coding, exact_game, set_of, states_of, stays_out, valid_set}
use Rattle.tm_syntax.specs.Design.{DesignTree}

-- each id of a list that was copied means what it meant, also one behind its end
copied_at : (s t : Table) (xs ys : List NodeId) (past : NodeId) (same : means t past ≡ means s past) →
    MeanTheSame s xs t ys → (j : ℕ) → means t (get_or ys j past) ≡ means s (get_or xs j past)
copied_at s t xs ys past same copied j =
    elim (cases_lt j (length xs)) as (λ _. means t (get_or ys j past) ≡ means s (get_or xs j past)) [
      | inl below ↦ (λ i v. (copied.functions j past below).meaning v i)
      | inr behind ↦
          ap (means t) (get_or_past ys j past (omega (arith, behind, copied.as_many)))
          ∙ same
          ∙ sym (ap (means s) (get_or_past xs j past behind))
    ]

module _ (g h : GameData) (copied : IsCopied g h) where
  code : coding h ≡ coding g
  code = λ i. coding_in (copied.flat i) (copied.order i)

  valid : valid_set h ≡ valid_set g
  valid = λ i v. copied.valid.meaning v i

  truth : means h.diagrams.table TRUE ≡ means g.diagrams.table TRUE
  truth = λ i v. (means-TRUE h.diagrams.table v ∙ sym (means-TRUE g.diagrams.table v)) i

  falsity : means h.diagrams.table FALSE ≡ means g.diagrams.table FALSE
  falsity = λ i v. (means-FALSE h.diagrams.table v ∙ sym (means-FALSE g.diagrams.table v)) i

  pub game_copied : exact_game h ≡ exact_game g
  game_copied =
      let goals = copied_at g.diagrams.table h.diagrams.table g.goals h.goals TRUE truth copied.goals in
      let fairs = copied_at g.diagrams.table h.diagrams.table g.fairs h.fairs FALSE falsity copied.fairs in
      λ i.
      game_of (states_of (code i) (valid i)) (copied.goals.as_many i) (copied.fairs.as_many i)
      (record {
        goal = λ j s. goals j i ((code i).assignment_of s);
        fair = λ j s. fairs j i ((code i).assignment_of s);
        stay = λ a s.
            stays_out (functions_in (copied.terms i) (copied.flat i) (copied.order i))
            (outside (bit_set (code i) (valid i) a)) ((code i).assignment_of s);
      })

  module _ (tells : (d : DesignTree) → IsOf d h → IsExactOf d h) (of : (d : DesignTree) → IsOf d g → IsOf d h) where
    pub decide_copied : (d : DesignTree) → CanDecide d g → CanDecide d h
    decide_copied d can = record {
      solve = record {
        exact = tells d (of d can.solve.exact.ordered.of);
        steady = can.solve.steady;
        some_goal = subst (λ (n : ℕ). 0 < n) (sym copied.goals.as_many) can.solve.some_goal;
      };
      initial = can.initial;
      pool = pool_copied d g h copied can.pool;
    }

    pub can_copied : CanBeDecided g → CanBeDecided h
    can_copied can = ∥∥₁_elim can (squash₁) (λ x. ∣ (x.0, decide_copied x.0 x.1) ∣₁)

  -- a set that was copied
  pub set_copied : (set id : NodeId) → IsStateSet g set →
      IsFunction h.diagrams.table id (means g.diagrams.table set) →
      Is (exact_game g).states (pool_ids h) id (set_of g set)
  set_copied set id known is =
      let same : means h.diagrams.table id ≡ means g.diagrams.table set = λ i v. is.meaning v i in
      record {
        known = record {
          set = record {
            known = is.known;
            reads = subst (λ (o : List ℕ). ReadsState (length o) (means h.diagrams.table id)) (sym copied.order)
                (subst (ReadsState (length g.order)) (sym same) known.set.reads);
          };
          valid = λ v there.
              ap (λ (f : Function). f v) valid
              ∙ known.valid v (sym (ap (λ (f : Function). f v) same) ∙ there);
        };
        means = record { same = λ s among i. same i ((code i).assignment_of s) };
      }

-- a copy that was made, or refused
module _ (g h : GameData) (can : CanBeDecided g) (tells : (d : DesignTree) → IsOf d h → IsExactOf d h)
    (of : (d : DesignTree) → IsOf d g → IsOf d h) where
  pub forgets_of : {X Y : Type 0} (r : Result X Y) → OnOk r (IsCopied g h) → OnErr r (h ≡ g) → Forgets g h
  forgets_of (Ok x) copied refused = record {
    game = game_copied g h copied;
    designs = decide_copied g h copied tells of;
    can = can_copied g h copied tells of can;
    of = design_of h (can_copied g h copied tells of can);
    goals = copied.goals.as_many;
    fairs = copied.fairs.as_many;
  }
  forgets_of (Err e) copied refused =
      let same : Forgets g g = record {
        game = refl;
        designs = λ d decided. decided;
        can = can;
        of = design_of g can;
        goals = refl;
        fairs = refl;
      } in
      subst (λ (k : GameData). Forgets g k) (sym refused) same

-- the one set that is copied is known
pub only_root : (s : Table) (set f : NodeId) → Knows s set → Contains (set ∷ []) f → Knows s f
only_root s set f known within =
    All-contains (Knows s) (set ∷ []) f (All-cons (Knows s) set [] known (All-nil (Knows s))) within

-- the id of the set that was copied
pub root_copied : {X Y : Type 0} (g h : GameData) (set id : NodeId) (r : Result X Y) (x : X)
    (olds news : List NodeId) → OnOk r (IsCopied g h) →
    OnOk r (MeanTheSame g.diagrams.table olds h.diagrams.table news) → r ≡ Ok x → olds ≡ set ∷ [] →
    id ≡ get_or news 0 id → IsStateSet g set → Is (exact_game g).states (pool_ids h) id (set_of g set)
root_copied g h set id r x olds news copied same is one here known =
    let done : IsCopied g h = subst (λ (q : Result _ _). OnOk q (IsCopied g h)) is copied in
    let means_so : MeanTheSame g.diagrams.table (set ∷ []) h.diagrams.table news =
    subst (λ (xs : List NodeId). MeanTheSame g.diagrams.table xs h.diagrams.table news) one
    (subst (λ (q : Result _ _). OnOk q (MeanTheSame g.diagrams.table olds h.diagrams.table news)) is same) in
    set_copied g h done set id known
    (subst (λ (k : NodeId). IsFunction h.diagrams.table k (means g.diagrams.table set)) (sym here)
    (means_so.functions 0 id (omega arith)))

-- What follows where a game is that of some design.
use Rattle.std.proofs.Common.{◌≡◌, ap, Result, Ok, Err, IfOk}
use Rattle.std.proofs.Math.Logic.{∥∥₁_elim}
use Rattle.std.proofs.Props.{props}
use Rattle.tm_dd.specs.declared.node.NodeId.{NodeId}
use Rattle.tm_dd.specs.Reduced.{IsReduced}
use Rattle.tm_game.specs.Game.{GameData, Grows}
use Rattle.tm_solve.specs.Ids.{Follows, Is, IsExact}
use Rattle.tm_solve.specs.Sets.{StateSet}
use Rattle.tm_solve_exact.specs.Exact.{HasDesign, IsStateSet, exact_game, exact_ids, exact_side, set_of}
use Rattle.tm_solve_exact.proofs.Growing.{follows_told, kept_exact}

pub set_prop : (g : GameData) (id : NodeId) → IsProp (IsStateSet g id)
set_prop g id = hlevel props

pub is_prop : (g h : GameData) (set : StateSet) (id : NodeId) →
    IsProp (Is (exact_game g).states (exact_ids h) id set)
is_prop g h set id = hlevel (set_prop, props)

pub ok_prop : {X Y : Type 0} (r : Result X Y) (P : X → Type 0) → ((x : X) → IsProp (P x)) → IsProp (IfOk r P)
ok_prop (Ok x) P each = each x
ok_prop (Err e) P each = hlevel props

same_prop : (g h : GameData) (id : NodeId) → IsProp (set_of h id ≡ set_of g id)
same_prop g h id = hlevel props

pub exact_prop : (g h : GameData) → IsProp (IsExact (exact_game g).states (exact_ids h))
exact_prop g h = hlevel props

pub game_prop : (g h : GameData) → IsProp (exact_game h ≡ exact_game g)
game_prop g h = hlevel props

pub of_grown : (g h : GameData) → HasDesign g → Grows g h → HasDesign h
of_grown g h of grows = ∥∥₁_elim of (squash₁) (λ x. ∣ (x.0, kept_exact x.0 g x.1 h grows) ∣₁)

pub follows_any : (g h : GameData) → HasDesign g → Grows g h → IsReduced h.diagrams.table →
    Follows (exact_game g) (exact_ids g) (exact_game h) (exact_ids h)
follows_any g h of grows reduced = record {
  game = ∥∥₁_elim of (game_prop g h) (λ x. (follows_told x.0 g h x.1 grows reduced).game);
  extends = record {
    known = λ id known.
        ∥∥₁_elim of (set_prop h id) (λ x. (follows_told x.0 g h x.1 grows reduced).extends.known id known);
    same = λ id known.
        ∥∥₁_elim of (same_prop g h id) (λ x. (follows_told x.0 g h x.1 grows reduced).extends.same id known);
    kept = λ id known. (
      ∥∥₁_elim of (set_prop h id) (λ x. (follows_told x.0 g h x.1 grows reduced).extends.known id known),
      ∥∥₁_elim of (same_prop g h id) (λ x. (follows_told x.0 g h x.1 grows reduced).extends.same id known),
    );
    of = λ d is. kept_exact d g is h grows;
    side = ap exact_side (∥∥₁_elim of (game_prop g h) (λ x. (follows_told x.0 g h x.1 grows reduced).game));
  };
  exact = ∥∥₁_elim of (exact_prop g h) (λ x. (follows_told x.0 g h x.1 grows reduced).exact);
}

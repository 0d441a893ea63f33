-- What holds of a game of some design at any time.
use Rattle.std.proofs.Common.{◌≡◌, sym, ap, ◌∙◌, subst}
use Rattle.std.proofs.Math.Logic.{∥∥₁_elim}
use Rattle.tm_dd.specs.declared.node.NodeId.{NodeId}
use Rattle.tm_dd.specs.Reduced.{IsReduced}
use Rattle.tm_ddops.specs.Manager.{Diagrams, IsManager}
use Rattle.tm_game.specs.Game.{GameData}
use Rattle.tm_solve.specs.Ids.{Is, IsExact}
use Rattle.tm_solve.specs.Sets.{everywhere}
use Rattle.tm_solve_exact.specs.Exact.{HasDesign, IsStateSet, coding, exact_game, exact_ids, set_of, valid_set}
use Rattle.tm_solve_exact.proofs.Growing.{coding_told, exact_told, set_tells, states_set, valid_told}
use Rattle.tm_solve_exact.proofs.Staying.{among_valid}
use Rattle.tm_solve_exact.proofs.Truncated.{exact_prop, is_prop}

pub exact_any : (g : GameData) → HasDesign g → IsReduced g.diagrams.table →
    IsExact (exact_game g).states (exact_ids g)
exact_any g of reduced = ∥∥₁_elim of (exact_prop g g) (λ x. exact_told x.0 g x.1 reduced)

-- a manager that was read is that of the game
pub reduced_of : (g : GameData) (m : Diagrams) → m ≡ g.diagrams → IsManager m → IsReduced g.diagrams.table
reduced_of g m same manager = (subst IsManager same manager).reduced

pub whole_any : (g : GameData) → HasDesign g → (id : NodeId) → id ≡ g.valid →
    Is (exact_game g).states (exact_ids g) id everywhere
whole_any g of id same =
    ∥∥₁_elim of (is_prop g g everywhere id)
    (λ x. record {
      known = subst (IsStateSet g) (sym same) (states_set x.0 g x.1 (λ s. Unit {0}) g.valid x.1.sets.valid);
      means = record {
        same = λ s among.
            ap (λ i. set_of g i s) same
            ∙ (set_tells x.0 g x.1 (λ t. Unit {0}) g.valid x.1.sets.valid s
            (among_valid x.0 (coding g) (coding_told x.0 g x.1) (valid_set g) (valid_told x.0 g x.1) s among)).1 tt;
      };
    })

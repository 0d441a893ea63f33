-- What holds of a walk, by its parts.
use Rattle.std.proofs.Common.{◌≡◌, ℕ, Option, List, sym, subst}
use Rattle.tm_scope.specs.declared.graph.Walked.{Walked}
use Rattle.tm_scope.specs.declared.graph.groups.Group.{Group}
use Rattle.tm_scope.specs.Inner.Walks.{IsWalking}

pub walking_same : (graph : List (List ℕ)) (o o' : List (Option ℕ)) (p p' q q' : List ℕ) (g g' : List Group)
    (d d' : List Walked) → o ≡ o' → p ≡ p' → q ≡ q' → g ≡ g' → d ≡ d' → IsWalking graph o' p' q' g' d' →
    IsWalking graph o p q g d
walking_same graph o o' p p' q q' g g' d d' e1 e2 e3 e4 e5 so =
    subst (λ x. IsWalking graph x p q g d) (sym e1)
    (subst (λ x. IsWalking graph o' x q g d) (sym e2)
    (subst (λ x. IsWalking graph o' p' x g d) (sym e3)
    (subst (λ x. IsWalking graph o' p' q' x d) (sym e4)
    (subst (λ x. IsWalking graph o' p' q' g' x) (sym e5) so))))

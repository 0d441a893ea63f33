-- What is known of the first items of a list, and of one item more.
use Rattle.std.proofs.Common.{◌≡◌, ℕ, ◌+◌, ◌<◌, List, All, get_or, length, take, subst}
use Rattle.std.proofs.lemmas.List.Elements.{All-more}
use Rattle.tm_dd.specs.declared.node.NodeId.{NodeId}
use Rattle.tm_dd.specs.Table.{Table, Knows}
use Rattle.tm_game_bits.specs.declared.step.StepDiagrams.{StepDiagrams}
use Rattle.tm_game_bits.specs.Diagrams.{KnowsStep}

pub one_change_more : (t : Table) (changes : List (ℕ × NodeId)) (k : ℕ) (p : ℕ × NodeId) → k < length changes →
    p ≡ get_or changes k p → All (λ q. Knows t q.1) (take k changes) → Knows t p.1 →
    All (λ q. Knows t q.1) (take (k + 1) changes)
one_change_more t changes k p below is all known =
    All-more (λ (q : ℕ × NodeId). Knows t q.1) changes k p below all
    (subst (λ (q : ℕ × NodeId). Knows t q.1) is known)

pub one_step_more : (t : Table) (steps : List StepDiagrams) (k : ℕ) (s : StepDiagrams) → k < length steps →
    s ≡ get_or steps k s → All (KnowsStep t) (take k steps) → KnowsStep t s → All (KnowsStep t) (take (k + 1) steps)
one_step_more t steps k s below is all known =
    All-more (KnowsStep t) steps k s below all (subst (λ (r : StepDiagrams). KnowsStep t r) is known)

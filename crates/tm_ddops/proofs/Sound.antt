-- What holds of a manager after a call.
use Rattle.std.proofs.Common.{
  ◌≡◌,
  ◌≢◌,
  ℕ,
  Bool,
  ◌≤◌,
  ◌⊎◌,
  inl,
  inr,
  List,
  [],
  length,
  AllPairs,
  Contains,
  Option,
  Some,
  None,
  IfSome,
  sym,
  subst,
  ◌∙◌,
  arith,
}
use Rattle.lru.proofs.Splits.{Contains-nil}
use Rattle.tm_dd.specs.declared.node.NodeId.{NodeId}
use Rattle.tm_dd.specs.Reduced.{IsReduced, Extends}
use Rattle.tm_dd.specs.Table.{Table, Knows}
use Rattle.tm_dd.proofs.CallerLaws.{Extends-trans}
use Rattle.tm_ddops.specs.declared.choice.Choice.{Choice}
use Rattle.tm_ddops.specs.declared.operation.Operation.{Operation}
use Rattle.tm_ddops.specs.Choice.{IsChoice, choice_value}
use Rattle.tm_ddops.specs.Manager.{AreResults, Diagrams, Grows, IsManager, IsResult, Remembers, most_results}
use Rattle.tm_ddops.specs.Operation.{operands, operation_value}
use Rattle.tm_ddops.proofs.Facts.{knows-Extends}
use Rattle.tm_ddops.proofs.Results.{AreResults-Extends}

-- a manager whose store was extended, and whose results are those that it had, and true new ones
pub manager_after : (m n : Diagrams) → IsManager m → Extends m.table n.table → IsReduced n.table
    → ((o : Operation) (id : NodeId) → Remembers n o id → Remembers m o id ⊎ IsResult n.table o id)
    → AllPairs (λ a b. a.0 ≢ b.0) n.results → length n.results ≤ most_results → IsManager n
manager_after m n sound e reduced only once few = record {
  reduced = reduced;
  results = λ o id h. elim (only o id h) [
    | inl was ↦ AreResults-Extends m.table n.table e m.results sound.results o id was
    | inr new ↦ new
  ];
  once = once;
  few = few;
}

-- a manager whose store alone was extended
pub manager_extended : (m n : Diagrams) → IsManager m → Extends m.table n.table → IsReduced n.table →
    n.results ≡ m.results → IsManager n
manager_extended m n sound e reduced same =
    manager_after m n sound e reduced (λ o id h. inl (subst (λ rs. Contains rs (o, id)) same h))
    (subst (AllPairs (λ a b. a.0 ≢ b.0)) (sym same) sound.once)
    (subst (λ rs. length rs ≤ most_results) (sym same) sound.few)

-- a result of a choice is one of the operation that has its value
pub result_of_choice : (s t : Table) → Extends s t → (o : Operation) (k : Choice) (id : NodeId) →
    ((f : NodeId) → Contains (operands o) f → Knows s f)
    → ((v : ℕ → Bool) → choice_value t k v ≡ operation_value t o v) → IsChoice t k id → IsResult t o id
result_of_choice s t e o k id known same c = record {
  operands_known = λ f h. knows-Extends s t e f (known f h);
  function = record { known = c.known; meaning = λ v. c.meaning v ∙ same v };
}

-- a new manager
pub manager_empty : (n : Diagrams) → IsReduced n.table → n.results ≡ [] → IsManager n
manager_empty n reduced empty = record {
  reduced = reduced;
  results = λ o id h. absurd (Contains-nil (o, id) (subst (λ rs. Contains rs (o, id)) empty h));
  once = subst (AllPairs (λ a b. a.0 ≢ b.0)) (sym empty) (λ i j d below within. absurd (omega (arith, within)));
  few = subst (λ rs. length rs ≤ most_results) (sym empty) (omega arith);
}

-- a remembered result that is told is true
pub result_told : (s : Table) (results : List (Operation × NodeId)) (o : Operation) (r : Option NodeId) →
    AreResults s results
    → IfSome r (λ id. Contains results (o, id)) → IfSome r (IsResult s o)
result_told s results o None are told = tt
result_told s results o (Some id) are told = are o id told

-- a manager whose store was extended and that remembers one more result
pub manager_remembers : (m n : Diagrams) → IsManager m → Extends m.table n.table → IsReduced n.table →
    (o : Operation) (id : NodeId) → IsResult n.table o id
    → ((e : Operation × NodeId) → Contains n.results e → Contains m.results e ⊎ (e ≡ (o, id)))
    → AllPairs (λ a b. a.0 ≢ b.0) n.results → length n.results ≤ most_results → IsManager n
manager_remembers m n sound e reduced o id new only once few =
    manager_after m n sound e reduced
    (λ p f h. elim (only (p, f) h) [
      | inl was ↦ inl was
      | inr same ↦ inr (let P : Operation × NodeId → Type 0 = λ q. IsResult n.table q.0 q.1 in subst P (sym same) new)
    ])
    once few

-- a store that is extended, and then a call
pub grows_after : (m n o : Diagrams) → Extends m.table n.table → n.results ≡ m.results → Grows n o → Grows m o
grows_after m n o e same grows = record {
  extends = Extends-trans m.table n.table o.table e grows.extends;
  results = λ p id h. grows.results p id (subst (λ rs. Contains rs (p, id)) (sym same) h);
}

-- What an order of calls says, where there is one or none.
use Rattle.std.proofs.Common.{◌≤◌, Err, List, None, Ok, Option, Result, Some, length}
use Rattle.std.specs.Prelude.{IfNone, IfOk, IfSome, MatchOption}
use Rattle.std.specs.declared.alloc.Global.{Global}
use Rattle.std.specs.declared.vec.Vec.{Vec}
use Rattle.tm_syntax.specs.declared.member.Member.{Member}
use Rattle.tm_syntax.specs.declared.tree.Spec.{Spec}
use Rattle.tm_syntax.specs.Tree.View.{spec_tree}
use Rattle.tm_syntax.specs.Scopes.Calls.{Reaches}
use Rattle.tm_syntax.specs.Scopes.Pauses.{call_depth}
use Rattle.tm_scope.specs.declared.graph.Walked.{Walked}
use Rattle.tm_scope.specs.CallOrder.{CoversTasks, IsCallOrder}
use Rattle.tm_scope.specs.Inner.CallGraphs.{AreOrdered, IsCallWalk, SomeLoops}
use Rattle.tm_scope.proofs.CallWalks.{covers, is_order, is_short, no_round, round}

-- what follows of a value that may be there
pub if_ok : {X E : Type 0} (r : Result X E) (P Q : X → Type 0) → ((x : X) → P x → Q x) → IfOk r P → IfOk r Q
if_ok (Ok x) P Q f h = f x h
if_ok (Err e) P Q f h = tt

module _ (s : Spec) (tasks : List Member) (order : List Walked) (walk : IsCallWalk s tasks order) where
  -- an order, or none where some node loops
  abbrev pub Found : Option (Vec Member Global) → Type 0
  Found o = MatchOption o (SomeLoops order) (λ found. AreOrdered tasks order (length order) found.items)

  pub clause-ordered : (o : Option (Vec Member Global)) → Found o →
      IfSome o (λ found. IsCallOrder (spec_tree s) found.items)
  clause-ordered None h = tt
  clause-ordered (Some found) h = is_order s tasks order walk found.items h

  pub clause-covers : (o : Option (Vec Member Global)) → Found o →
      IfSome o (λ found. CoversTasks (spec_tree s) found.items)
  clause-covers None h = tt
  clause-covers (Some found) h = covers s tasks order walk found.items h

  pub clause-short : (o : Option (Vec Member Global)) → Found o →
      IfSome o (λ found. length found.items ≤ call_depth (spec_tree s))
  clause-short None h = tt
  clause-short (Some found) h = is_short s tasks order walk found.items h

  pub clause-acyclic : (o : Option (Vec Member Global)) → Found o →
      IfSome o (λ _. (m : Member) → ¬ Reaches (spec_tree s) m m)
  clause-acyclic None h = tt
  clause-acyclic (Some found) h = no_round s tasks order walk found.items h

  pub clause-cyclic : (o : Option (Vec Member Global)) → Found o →
      IfNone o ((m : Member) × Reaches (spec_tree s) m m)
  clause-cyclic None h = round s tasks order walk h.0 h.1 h.2 h.3
  clause-cyclic (Some found) h = tt

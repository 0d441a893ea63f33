-- What the ends of runs lead to, and that a run leaves as many state variables as there were.
use Rattle.std.proofs.Common.{◌≡◌, ℕ, Bool, true, false, Option, None, Some, List, [], ◌∷◌, ◌++◌, length, sym, ◌∙◌, subst}
use Rattle.std.specs.Prelude.{⊤, if◌then◌else◌, nat_lt, slice_get}
use Rattle.std.specs.List.{fold, list_any, zip}
use Rattle.std.specs.Option.{option_map_or, option_map}
use Rattle.std.proofs.lemmas.List.{length-set}
use Rattle.tm_base.specs.declared.place.Place.{Place}
use Rattle.tm_syntax.specs.declared.tree.Ident.{Ident}
use Rattle.tm_syntax.specs.Tree.{ExprTree, ValueTree, star, result, plain, StmtTree, assign, invoke, branch, repeat, forever, choose, assert, assume, pause, wait, magic, StmtRow, blocks_of}
use Rattle.tm_syntax.specs.Design.{DesignTree}
use Rattle.tm_syntax.specs.Design.Scope.{Scope}
use Rattle.tm_syntax.specs.Design.Cells.{Called, Cell, called, cell, in_state, in_step}
use Rattle.tm_syntax.specs.Design.Sizes.{type_size}
use Rattle.tm_syntax.specs.Design.Work.{WorkItem, perform, deliver, performs, body_items, call_place}
use Rattle.tm_sem.specs.Run.{Ending, Progress, Run, acts, asked_by, assigns, at_end, blocked, calls, chooses_block, chooses_value, comes_to, delivery, ends, failed, finished, goes, goes_on, none_left, progress, put_in, stopped, valued, with_arguments}
use Rattle.tm_sem.specs.Value.{Memory, holds_in, index_value, overruns, put, value}

module _ (n : ℕ) where
  -- a memory of so many state variables
  abbrev pub HasCount : Memory → Type 0
  HasCount m = length m.values ≡ n

  -- an end in such a memory, or in none
  abbrev pub LeavesCount : Ending → Type 0
  LeavesCount (stopped at trail m) = HasCount m
  LeavesCount (finished m) = HasCount m
  LeavesCount failed = ⊤
  LeavesCount blocked = ⊤

  abbrev KeepsCount : Progress → Type 0
  KeepsCount (goes_on items m cs) = HasCount m
  KeepsCount (comes_to e) = LeavesCount e

  pub put_counts : (m : Memory) (c : Cell) (v : ℕ) → HasCount m → HasCount (put m c v)
  put_counts m (in_state k) v h = length-set m.values k v ∙ h
  put_counts m (in_step scope name ty) v h = h

  put_in_counts : (m : Memory) (c : Option Cell) (v : ℕ) → HasCount m → HasCount (put_in m c v)
  put_in_counts m None v h = h
  put_in_counts m (Some c) v h = put_counts m c v h

  end_counts : (cs : List ℕ) (e : Ending) → LeavesCount e → LeavesCount (at_end cs e)
  end_counts [] e h = h
  end_counts (c ∷ cs) e h = tt

  either : (b : Bool) (p q : Progress) → KeepsCount p → KeepsCount q → KeepsCount (if b then p else q)
  either true p q one two = one
  either false p q one two = two

  fold_counts : (f : Memory → Cell × ExprTree → ℕ) (m : Memory) (ps : List (Cell × ExprTree)) → HasCount m →
      HasCount (fold (λ so_far p. put so_far p.0 (f so_far p)) m ps)
  fold_counts f m [] h = h
  fold_counts f m (p ∷ ps) h = fold_counts f (put m p.0 (f m p)) ps (put_counts m p.0 (f m p) h)

  module _ (d : DesignTree) (scope : Scope) (trail : List Place) (m : Memory) (cs : List ℕ) (h : HasCount m) where
    call_counts : (names : List Ident) (args : List ExprTree) (after : Called → List WorkItem) →
        KeepsCount (calls d scope trail m cs names args after)
    call_counts names args after = by (called d scope names)
      where
        by : (o : Option Called) → KeepsCount (option_map_or (λ callee.
            goes_on (body_items callee.scope (call_place names ++ trail) callee.body ++ after callee)
            (with_arguments d scope m callee.params args) cs) o (comes_to blocked))
        by None = tt
        by (Some callee) =
            fold_counts (λ so_far p. value d scope m (asked_by d (Some p.0)) p.1) m (zip callee.params args) h

    choice_counts : (target : Option Cell) (cs : List ℕ) → KeepsCount (chooses_value d m target cs)
    choice_counts target [] = tt
    choice_counts target (c ∷ cs) =
        either (nat_lt c (type_size d.spec (asked_by d target))) (goes_on [] (put_in m target c) cs) (comes_to blocked)
        (put_in_counts m target c h) tt

    block_counts : (blocks : List StmtRow) (cs : List ℕ) → KeepsCount (chooses_block scope trail m blocks cs)
    block_counts blocks [] = tt
    block_counts blocks (c ∷ cs) = by (slice_get blocks c)
      where
        by : (o : Option StmtRow) → KeepsCount (option_map_or (λ block. goes_on (performs scope trail block) m cs) o
            (comes_to blocked))
        by None = tt
        by (Some block) = h

    assign_counts : (target : Option Cell) (v : ValueTree) → KeepsCount (assigns d scope trail m cs target v)
    assign_counts target (star _) = choice_counts target cs
    assign_counts target (result names args) = call_counts names args (delivery target)
    assign_counts target (plain e) = put_in_counts m target (value d scope m (asked_by d target) e) h

    act_counts : (s : StmtTree) → KeepsCount (acts d scope trail m cs s)
    act_counts (assign names index v) = assign_counts (cell d scope names (option_map (index_value d scope m) index)) v
    act_counts (invoke names args) = call_counts names args (λ _. [])
    act_counts (branch e first second) = h
    act_counts (repeat at e body) = h
    act_counts (forever at body) = h
    act_counts (choose _ blocks) = block_counts (blocks_of blocks) cs
    act_counts (assert _ e) =
        either (holds_in d scope m e) (goes_on [] m cs) (comes_to (at_end cs failed)) h (end_counts cs failed tt)
    act_counts (assume _ e) = either (holds_in d scope m e) (goes_on [] m cs) (comes_to blocked) h tt
    act_counts (pause at) = end_counts cs (stopped at trail m) h
    act_counts (wait at _) = end_counts cs (stopped at trail m) h
    act_counts (magic at) = end_counts cs (stopped at trail m) h

  item_counts : (d : DesignTree) (m : Memory) (cs : List ℕ) (item : WorkItem) → HasCount m →
      KeepsCount (progress d m cs item)
  item_counts d m cs (perform scope trail s) h =
      either (list_any (overruns d scope m) (valued s)) (comes_to (at_end cs failed)) (acts d scope trail m cs s)
      (end_counts cs failed tt) (act_counts d scope trail m cs h s)
  item_counts d m cs (deliver target scope e) h =
      either (overruns d scope m e) (comes_to (at_end cs failed))
      (goes_on [] (put_in m target (value d scope m (asked_by d target) e)) cs) (end_counts cs failed tt)
      (put_in_counts m target (value d scope m (asked_by d target) e) h)

  -- a run leaves as many state variables as there were
  pub run_counts : (d : DesignTree) (items : List WorkItem) (m : Memory) (cs : List ℕ) (e : Ending) →
      Run d items m cs e → HasCount m → LeavesCount e
  run_counts d items m cs e (none_left is) h = subst LeavesCount (sym is) (end_counts cs (finished m) h)
  run_counts d items m cs e (ends {first = first} is) h = subst KeepsCount is (item_counts d m cs first h)
  run_counts d items m cs e (goes {first = first} {others = others} {front = front} {n = n} {ds = ds} is later) h =
      run_counts d (front ++ others) n ds e later (subst KeepsCount is (item_counts d m cs first h))

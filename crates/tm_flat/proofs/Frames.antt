-- A state variable that the text does not assign has at the end of a run the value that it had at its beginning.
use Rattle.std.proofs.Common.{◌≡◌, ◌≢◌, ℕ, zero, suc, ◌+◌, ◌<◌, ◌++◌, Bool, true, false, ◌||◌, Option, None, Some, List, [], ◌∷◌, refl, ◌∙◌, subst, fold, zip, unwrap_or, nat_eq, nat_lt, slice_index, arith, eq-eqb, leb-false, get_or-set_other}
use Rattle.std.specs.Prelude.{if◌then◌else◌}
use Rattle.std.specs.Option.{option_map_or, option_map}
use Rattle.std.specs.List.{list_any, range_with_len}
use Rattle.tm_base.specs.declared.place.Place.{Place}
use Rattle.tm_syntax.specs.declared.tree.Ident.{Ident}
use Rattle.tm_syntax.specs.Tree.{ExprTree, number, element, ValueTree, star, result, plain, StmtTree, assign, invoke, branch, repeat, forever, choose, assert, assume, pause, wait, magic, StmtRow, nothing, then as in_row, row_of, BlockRow, nowhere, or_else}
use Rattle.tm_syntax.specs.Scopes.Pauses.{call_depth}
use Rattle.tm_syntax.specs.Design.{DesignTree}
use Rattle.tm_syntax.specs.Design.Scope.{Scope, length_in}
use Rattle.tm_syntax.specs.Design.Cells.{Cell, in_state, in_step, cell, Called, called}
use Rattle.tm_syntax.specs.Design.Sizes.{type_size}
use Rattle.tm_syntax.specs.Design.Work.{WorkItem, perform, deliver, call_place}
use Rattle.tm_syntax.specs.Scopes.Parts.{body_stmts}
use Rattle.tm_sem.specs.Value.{Memory, put, value, holds_in, index_value, is_past_end, overruns}
use Rattle.tm_sem.specs.Run.{Ending, stopped, finished, failed, blocked, asked_by, put_in, with_arguments, valued, valued_by}
use Rattle.tm_flat.specs.Positions.{target_bits, choice_bits, stmt_after, body_after, item_after}
use Rattle.tm_flat.specs.BitRun.{number_at, Reader, followed_by, behind, unless_overrun, puts_number, delivers, returns, call_ending, value_ending, stmt_ending, row_ending, block_ending, body_ending, reader, item_ending, items_ending}
use Rattle.tm_flat.specs.Kept.{HasValueAt}
use Rattle.tm_flat.specs.Writes.{is_variable, target_writes, call_writes, value_writes, stmt_writes, row_writes, blocks_write, body_writes, item_writes, items_write}

neither : (a b : Bool) → (a || b) ≡ false → (a ≡ false) × (b ≡ false)
neither true b h = absurd (cc)
neither false b h = (refl, h)

-- a number below a bound passes no test that none below it passes
none_below : (test : ℕ → Bool) (a n i : ℕ) → list_any test (range_with_len a n) ≡ false → i < n → test (a + i) ≡ false
none_below test a zero i h below = absurd (omega arith)
none_below test a (suc n) zero h below =
    let here : a ≡ a + 0 = omega arith in
    subst (λ k. test k ≡ false) here (neither (test a) (list_any test (range_with_len (a + 1) n)) h).0
none_below test a (suc n) (suc i) h below =
    let there : a + 1 + i ≡ a + suc i = omega arith in
    subst (λ k. test k ≡ false) there
    (none_below test (a + 1) n i (neither (test a) (list_any test (range_with_len (a + 1) n)) h).1 (omega arith))

module _ (v x : ℕ) where
  -- ---- memories
  put_keeps : (m : Memory) (c : Cell) (n : ℕ) → is_variable v c ≡ false → slice_index m.values v ≡ x →
      slice_index (put m c n).values v ≡ x
  put_keeps m (in_step scope name ty) n other is = is
  put_keeps m (in_state k) n other is =
      let differs : v ≢ k = λ same. absurd (let e : nat_eq v k ≡ true = eq-eqb v k same in cc) in
      get_or-set_other m.values k v n 0 differs ∙ is

  put_in_keeps : (m : Memory) (c : Option Cell) (n : ℕ) → option_map_or (is_variable v) c false ≡ false →
      slice_index m.values v ≡ x → slice_index (put_in m c n).values v ≡ x
  put_in_keeps m None n other is = is
  put_in_keeps m (Some c) n other is = put_keeps m c n other is

  arguments_keep : (given : Cell × ExprTree → ℕ) (params : List Cell) (args : List ExprTree) (m : Memory) →
      list_any (is_variable v) params ≡ false → slice_index m.values v ≡ x →
      slice_index (fold (λ so_far (p : Cell × ExprTree). put so_far p.0 (given p)) m (zip params args)).values v ≡ x
  arguments_keep given [] args m other is = is
  arguments_keep given (c ∷ cs) [] m other is = is
  arguments_keep given (c ∷ cs) (e ∷ es) m other is =
      let parts : (is_variable v c ≡ false) × (list_any (is_variable v) cs ≡ false) =
      neither (is_variable v c) (list_any (is_variable v) cs) other in
      arguments_keep given cs es (put m c (given (c, e))) parts.1 (put_keeps m c (given (c, e)) parts.0 is)

  -- ---- endings
  followed_keeps : (e : Ending) (next : Memory → Ending) → HasValueAt v x e →
      ((n : Memory) → slice_index n.values v ≡ x → HasValueAt v x (next n)) → HasValueAt v x (followed_by e next)
  followed_keeps (stopped at trail n) next h f = h
  followed_keeps (finished n) next h f = f n h
  followed_keeps failed next h f = tt
  followed_keeps blocked next h f = tt

  if_keeps : (b : Bool) (e f : Ending) → HasValueAt v x e → HasValueAt v x f → HasValueAt v x (if b then e else f)
  if_keeps true e f g h = g
  if_keeps false e f g h = h

  unless_keeps : (b : Bool) (e : Ending) → (b ≡ false → HasValueAt v x e) → HasValueAt v x (if b then failed else e)
  unless_keeps true e f = tt
  unless_keeps false e f = f refl

  behind_keeps : (k : Option ℕ) (test : ℕ → Bool) (next : ℕ → Memory → Ending) (n : Memory) →
      option_map_or test k false ≡ false → ((i : ℕ) → test i ≡ false → HasValueAt v x (next i n)) →
      HasValueAt v x (behind k next n)
  behind_keeps None test next n h f = tt
  behind_keeps (Some i) test next n h f = f i h

module _ (d : DesignTree) (bits : ℕ → Bool) (v : ℕ) where
  -- ---- targets
  element_is_other : (scope : Scope) (names : List Ident) (e : ExprTree) (m : Memory) →
      list_any (λ i. option_map_or (is_variable v) (cell d scope names (Some i)) false)
      (range_with_len 0 (unwrap_or (length_in d scope names) 0)) ≡ false →
      is_past_end d scope m names e ≡ false →
      option_map_or (is_variable v) (cell d scope names (Some (index_value d scope m e))) false ≡ false
  element_is_other scope names e m h inside =
      let below : index_value d scope m e < unwrap_or (length_in d scope names) 0 =
      leb-false (unwrap_or (length_in d scope names) 0) (index_value d scope m e) inside in
      let at : 0 + index_value d scope m e ≡ index_value d scope m e = omega arith in
      subst (λ i. option_map_or (is_variable v) (cell d scope names (Some i)) false ≡ false) at
      (none_below (λ i. option_map_or (is_variable v) (cell d scope names (Some i)) false) 0
      (unwrap_or (length_in d scope names) 0) (index_value d scope m e) h below)

  target_is_other : (scope : Scope) (names : List Ident) (index : Option ExprTree) (value : ValueTree) (m : Memory) →
      target_writes d scope v names index ≡ false →
      list_any (overruns d scope m) (valued (assign names index value)) ≡ false →
      option_map_or (is_variable v) (cell d scope names (option_map (index_value d scope m) index)) false ≡ false
  target_is_other scope names None value m h inside = h
  target_is_other scope names (Some (number n)) value m h inside = h
  target_is_other scope names (Some e) value m h inside =
      element_is_other scope names e m h
      (neither (overruns d scope m e) (is_past_end d scope m names e)
      (neither (overruns d scope m (element names e)) (list_any (overruns d scope m) (valued_by value)) inside).0).1

  module _ (x : ℕ) where
    puts_keep : (m : Memory) (target : Option Cell) (n : ℕ) → option_map_or (is_variable v) target false ≡ false →
        slice_index m.values v ≡ x → HasValueAt v x (puts_number d m target n)
    puts_keep m target n other is =
        if_keeps v x (nat_lt n (type_size d.spec (asked_by d target))) (finished (put_in m target n)) blocked
        (put_in_keeps v x m target n other is) tt

    delivers_keep : (target : Option Cell) (scope : Scope) (e : ExprTree) (m : Memory) →
        option_map_or (is_variable v) target false ≡ false → slice_index m.values v ≡ x →
        HasValueAt v x (delivers d target scope e m)
    delivers_keep target scope e m other is =
        if_keeps v x (overruns d scope m e) failed
        (finished (put_in m target (value d scope m (asked_by d target) e))) tt
        (put_in_keeps v x m target (value d scope m (asked_by d target) e) other is)

    returns_keep : (target : Option Cell) (callee : Called) (m : Memory) →
        option_map_or (is_variable v) target false ≡ false → slice_index m.values v ≡ x →
        HasValueAt v x (returns d target callee m)
    returns_keep target callee m other is = of callee.body.answer
      where
        of : (answer : Option ExprTree) →
            HasValueAt v x (option_map_or (λ e. delivers d target callee.scope e m) answer (finished m))
        of None = is
        of (Some e) = delivers_keep target callee.scope e m other is

    module _ (after : Called → ℕ → Option ℕ) (writes : Called → ℕ → Bool)
        (ending : Called → List Place → ℕ → Memory → Ending)
        (body : (callee : Called) (trail : List Place) (k : ℕ) (m : Memory) → writes callee k ≡ false →
        slice_index m.values v ≡ x → HasValueAt v x (ending callee trail k m)) where
      abbrev here : Reader
      here = record { design = d; bits = bits; after = after; ending = ending }

      calls_keep : (scope : Scope) (trail : List Place) (names : List Ident) (args : List ExprTree)
          (next : Called → Memory → Ending) (k : ℕ) (m : Memory) → call_writes writes d scope v names k ≡ false →
          slice_index m.values v ≡ x →
          ((callee : Called) (n : Memory) → slice_index n.values v ≡ x → HasValueAt v x (next callee n)) →
          HasValueAt v x (call_ending here scope trail names args next k m)
      calls_keep scope trail names args next k m other is f = of (called d scope names) other
        where
          of : (c : Option Called) →
              option_map_or (λ callee. list_any (is_variable v) callee.params || writes callee k) c false ≡ false →
              HasValueAt v x
              (option_map_or
              (λ callee.
              followed_by
              (ending callee (call_place names ++ trail) k (with_arguments d scope m callee.params args))
              (next callee)) c blocked)
          of None h = tt
          of (Some callee) h =
              let parts : (list_any (is_variable v) callee.params ≡ false) × (writes callee k ≡ false) =
              neither (list_any (is_variable v) callee.params) (writes callee k) h in
              followed_keeps v x
              (ending callee (call_place names ++ trail) k (with_arguments d scope m callee.params args)) (next callee)
              (body callee (call_place names ++ trail) k (with_arguments d scope m callee.params args) parts.1
              (arguments_keep v x (λ p. value d scope m (asked_by d (Some p.0)) p.1) callee.params args m parts.0 is))
              (f callee)

      value_keeps : (scope : Scope) (trail : List Place) (names : List Ident) (target : Option Cell) (e : ValueTree)
          (k : ℕ) (m : Memory) → option_map_or (is_variable v) target false ≡ false →
          value_writes writes d scope v e k ≡ false → slice_index m.values v ≡ x →
          HasValueAt v x (value_ending here scope trail names target e k m)
      value_keeps scope trail names target (star _) k m other none is =
          puts_keep m target (number_at bits k (target_bits d scope names)) other is
      value_keeps scope trail names target (result callee args) k m other none is =
          calls_keep scope trail callee args (returns d target) k m none is
          (λ called n same. returns_keep target called n other same)
      value_keeps scope trail names target (plain e) k m other none is =
          put_in_keeps v x m target (value d scope m (asked_by d target) e) other is

      mutual
        stmt_keeps : (scope : Scope) (trail : List Place) (s : StmtTree) (k : ℕ) (m : Memory) →
            stmt_writes after writes d scope v s k ≡ false → list_any (overruns d scope m) (valued s) ≡ false →
            slice_index m.values v ≡ x → HasValueAt v x (stmt_ending here scope trail s k m)
        stmt_keeps scope trail (assign names index e) k m none inside is =
            let parts : (target_writes d scope v names index ≡ false) × (value_writes writes d scope v e k ≡ false) =
            neither (target_writes d scope v names index) (value_writes writes d scope v e k) none in
            value_keeps scope trail names (cell d scope names (option_map (index_value d scope m) index)) e k m
            (target_is_other scope names index e m parts.0 inside) parts.1 is
        stmt_keeps scope trail (invoke names args) k m none inside is =
            calls_keep scope trail names args (λ _. finished) k m none is (λ callee n same. same)
        stmt_keeps scope trail (branch e first second) k m none inside is =
            let parts : (row_writes after writes d scope v first k ≡ false)
            × (row_writes after writes d scope v second k ≡ false) =
            neither (row_writes after writes d scope v first k) (row_writes after writes d scope v second k) none in
            if_keeps v x (holds_in d scope m e) (row_ending here scope trail first k m)
            (row_ending here scope trail second k m) (row_keeps scope trail first k m parts.0 is)
            (row_keeps scope trail second k m parts.1 is)
        stmt_keeps scope trail (repeat _ e inner) k m none inside is =
            if_keeps v x (holds_in d scope m e)
            (followed_by (row_ending here scope trail inner k m) (λ _. blocked)) (finished m)
            (followed_keeps v x (row_ending here scope trail inner k m) (λ _. blocked)
            (row_keeps scope trail inner k m none is) (λ n same. tt)) is
        stmt_keeps scope trail (forever _ inner) k m none inside is =
            followed_keeps v x (row_ending here scope trail inner k m) (λ _. blocked)
            (row_keeps scope trail inner k m none is) (λ n same. tt)
        stmt_keeps scope trail (choose _ blocks) k m none inside is =
            blocks_keep scope trail blocks (number_at bits k (choice_bits blocks)) (k + choice_bits blocks) m none is
        stmt_keeps scope trail (assert _ e) k m none inside is =
            if_keeps v x (holds_in d scope m e) (finished m) failed is tt
        stmt_keeps scope trail (assume _ e) k m none inside is =
            if_keeps v x (holds_in d scope m e) (finished m) blocked is tt
        stmt_keeps scope trail (pause at) k m none inside is = is
        stmt_keeps scope trail (wait at _) k m none inside is = is
        stmt_keeps scope trail (magic at) k m none inside is = is

        row_keeps : (scope : Scope) (trail : List Place) (row : StmtRow) (k : ℕ) (m : Memory) →
            row_writes after writes d scope v row k ≡ false → slice_index m.values v ≡ x →
            HasValueAt v x (row_ending here scope trail row k m)
        row_keeps scope trail nothing k m none is = is
        row_keeps scope trail (in_row first others) k m none is =
            let parts : (stmt_writes after writes d scope v first k ≡ false)
            × (option_map_or (λ i. row_writes after writes d scope v others i)
            (stmt_after after d scope first k) false ≡ false) =
            neither (stmt_writes after writes d scope v first k)
            (option_map_or (λ i. row_writes after writes d scope v others i) (stmt_after after d scope first k)
            false) none in
            followed_keeps v x (unless_overrun d scope m first (stmt_ending here scope trail first k m))
            (behind (stmt_after after d scope first k) (λ i. row_ending here scope trail others i))
            (unless_keeps v x (list_any (overruns d scope m) (valued first))
            (stmt_ending here scope trail first k m)
            (λ inside. stmt_keeps scope trail first k m parts.0 inside is))
            (λ n same.
            behind_keeps v x (stmt_after after d scope first k) (λ i. row_writes after writes d scope v others i)
            (λ i. row_ending here scope trail others i) n parts.1
            (λ i free. row_keeps scope trail others i n free same))

        blocks_keep : (scope : Scope) (trail : List Place) (blocks : BlockRow) (c k : ℕ) (m : Memory) →
            blocks_write after writes d scope v blocks k ≡ false → slice_index m.values v ≡ x →
            HasValueAt v x (block_ending here scope trail blocks c k m)
        blocks_keep scope trail nowhere c k m none is = tt
        blocks_keep scope trail (or_else first others) zero k m none is =
            row_keeps scope trail first k m
            (neither (row_writes after writes d scope v first k) (blocks_write after writes d scope v others k) none).0
            is
        blocks_keep scope trail (or_else first others) (suc c) k m none is =
            blocks_keep scope trail others c k m
            (neither (row_writes after writes d scope v first k) (blocks_write after writes d scope v others k) none).1
            is

    bodies_keep : (depth : ℕ) (callee : Called) (trail : List Place) (k : ℕ) (m : Memory) →
        body_writes depth d v callee k ≡ false → slice_index m.values v ≡ x →
        HasValueAt v x (body_ending depth d bits callee trail k m)
    bodies_keep zero callee trail k m none is = tt
    bodies_keep (suc depth) callee trail k m none is =
        row_keeps (body_after depth d) (body_writes depth d v) (body_ending depth d bits) (bodies_keep depth)
        callee.scope trail (row_of (body_stmts callee.body)) k m none is

    item_keeps : (item : WorkItem) (k : ℕ) (m : Memory) → item_writes d v item k ≡ false →
        slice_index m.values v ≡ x → HasValueAt v x (item_ending d bits item k m)
    item_keeps (perform scope trail s) k m none is =
        unless_keeps v x (list_any (overruns d scope m) (valued s)) (stmt_ending (reader d bits) scope trail s k m)
        (λ inside.
        stmt_keeps (body_after (call_depth d.spec) d) (body_writes (call_depth d.spec) d v)
        (body_ending (call_depth d.spec) d bits) (bodies_keep (call_depth d.spec)) scope trail s k m none inside is)
    item_keeps (deliver target scope e) k m none is = delivers_keep target scope e m none is

    items_keep : (items : List WorkItem) (k : ℕ) (m : Memory) → items_write d v items k ≡ false →
        slice_index m.values v ≡ x → HasValueAt v x (items_ending d bits items k m)
    items_keep [] k m none is = is
    items_keep (first ∷ others) k m none is =
        let parts : (item_writes d v first k ≡ false)
        × (option_map_or (λ i. items_write d v others i) (item_after d first k) false ≡ false) =
        neither (item_writes d v first k)
        (option_map_or (λ i. items_write d v others i) (item_after d first k) false) none in
        followed_keeps v x (item_ending d bits first k m)
        (behind (item_after d first k) (λ i. items_ending d bits others i)) (item_keeps first k m parts.0 is)
        (λ n same.
        behind_keeps v x (item_after d first k) (λ i. items_write d v others i)
        (λ i. items_ending d bits others i) n parts.1 (λ i free. items_keep others i n free same))

pub what_is_not_written_is_kept : (d : DesignTree) (bits : ℕ → Bool) (v : ℕ) (items : List WorkItem) (k : ℕ)
    (m : Memory) → items_write d v items k ≡ false →
    HasValueAt v (slice_index m.values v) (items_ending d bits items k m)
what_is_not_written_is_kept d bits v items k m none =
    items_keep d bits v (slice_index m.values v) items k m none refl

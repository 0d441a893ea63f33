-- Runs from memories that read alike end alike.
use Rattle.std.proofs.Common.{◌≡◌, ℕ, zero, suc, ◌+◌, ◌++◌, Bool, true, false, not, ◌&&◌, ◌||◌, ◌==◌, Option, None, Some, List, [], ◌∷◌, refl, ap, ◌∙◌, subst, find, fold, zip, unwrap_or, nat_eq, nat_le, nat_lt, slice_index, slice_set, slice_get}
use Rattle.std.specs.Prelude.{if◌then◌else◌}
use Rattle.std.specs.Option.{option_map_or, option_map, option_and_then}
use Rattle.std.specs.List.{list_any}
use Rattle.std.specs.Cmp.Lexicographic.{pointwise}
use Rattle.tm_base.specs.declared.place.Place.{Place}
use Rattle.tm_base.specs.Arithmetic.{resize}
use Rattle.tm_base.specs.Shift as bits
use Rattle.tm_syntax.specs.declared.tree.Ident.{Ident}
use Rattle.tm_syntax.specs.declared.tree.BinaryOperator.TheVariants.{AndAlso, OrElse}
use Rattle.tm_syntax.specs.declared.design.Ty.{Ty}
use Rattle.tm_syntax.specs.declared.design.Ty.TheVariants as types
use Rattle.tm_syntax.specs.Tree.{ExprTree, truth, number, path, group, unary, binary, shift, conditional, cast, element, ValueTree, star, result, plain, StmtTree, assign, invoke, branch, repeat, forever, choose, assert, assume, pause, wait, magic, StmtRow, nothing, then as in_row, row_of, BlockRow, nowhere, or_else}
use Rattle.tm_syntax.specs.Scopes.Names.{number_of, constant_value}
use Rattle.tm_syntax.specs.Scopes.Types.{valued_in}
use Rattle.tm_syntax.specs.Scopes.Pauses.{call_depth}
use Rattle.tm_syntax.specs.Design.{DesignTree}
use Rattle.tm_syntax.specs.Design.Scope.{Scope, same_scope, type_in, joint_type, operand_type, index_type, length_in}
use Rattle.tm_syntax.specs.Design.Cells.{Cell, in_state, in_step, cell, Called, called}
use Rattle.tm_syntax.specs.Design.Sizes.{width, type_size}
use Rattle.tm_syntax.specs.Design.Work.{WorkItem, perform, deliver, call_place}
use Rattle.tm_syntax.specs.Scopes.Parts.{body_stmts}
use Rattle.tm_sem.specs.Value.{Passing, Memory, read, put, binary_value, unary_value, value, holds_in, index_value, is_past_end, overruns}
use Rattle.tm_sem.specs.Run.{Ending, finished, failed, blocked, asked_by, put_in, with_arguments, valued}
use Rattle.tm_flat.specs.Positions.{target_bits, choice_bits, stmt_after, body_after, item_after}
use Rattle.tm_flat.specs.BitRun.{number_at, Reader, followed_by, behind, unless_overrun, puts_number, delivers, returns, call_ending, value_ending, stmt_ending, row_ending, block_ending, body_ending, reader, item_ending, items_ending}
use Rattle.tm_flat.specs.Seeing.{ReadAlike, EndAlike, both_stopped, both_finished, both_failed, both_blocked}

-- ---- values
module _ (d : DesignTree) (scope : Scope) (m n : Memory) (alike : ReadAlike m n) where
  read_alike : (c : Option Cell) (z : ℕ) → option_map_or (read m) c z ≡ option_map_or (read n) c z
  read_alike None z = refl
  read_alike (Some c) z = alike.cells c

  pub value_alike : (asked : Ty) (e : ExprTree) → value d scope m asked e ≡ value d scope n asked e
  value_alike asked (truth _ b) = refl
  value_alike asked (number k) = refl
  value_alike asked (path names) =
      read_alike (cell d scope names None)
      (unwrap_or (option_and_then (λ (name : Ident). constant_value d.spec name.text) (slice_get names 0)) 0)
  value_alike asked (group _ e) = value_alike asked e
  value_alike asked (unary _ op e) =
      ap (unary_value op (width (valued_in asked (type_in d scope e))))
      (value_alike (valued_in asked (type_in d scope e)) e)
  value_alike asked (binary _ op a b) =
      λ i. binary_value op (width (operand_type d scope op asked a b))
      (value_alike (operand_type d scope op asked a b) a i)
      (value_alike (operand_type d scope op asked a b) b i)
  value_alike asked (shift _ op e by) =
      ap (λ x. bits.shift op (width (valued_in asked (type_in d scope e))) x (number_of by))
      (value_alike (valued_in asked (type_in d scope e)) e)
  value_alike asked (conditional _ test a b) =
      λ i. if value_alike types.Bool test i == 0
      then value_alike (joint_type d scope asked a b) b i
      else value_alike (joint_type d scope asked a b) a i
  value_alike asked (cast _ to e) =
      ap (resize (number_of to)) (value_alike (valued_in asked (type_in d scope e)) e)
  value_alike asked (element names e) =
      ap (λ x. option_map_or (read m) (cell d scope names (Some x)) 0) (value_alike (index_type d scope e) e)
      ∙ read_alike (cell d scope names (Some (value d scope n (index_type d scope e) e))) 0

  pub holds_alike : (e : ExprTree) → holds_in d scope m e ≡ holds_in d scope n e
  holds_alike e = ap (λ x. not (x == 0)) (value_alike types.Bool e)

  past_end_alike : (names : List Ident) (e : ExprTree) →
      is_past_end d scope m names e ≡ is_past_end d scope n names e
  past_end_alike names e =
      ap (λ x. nat_le (unwrap_or (length_in d scope names) 0) x) (value_alike (index_type d scope e) e)

  pub overruns_alike : (e : ExprTree) → overruns d scope m e ≡ overruns d scope n e
  overruns_alike (truth _ b) = refl
  overruns_alike (number k) = refl
  overruns_alike (path names) = refl
  overruns_alike (group _ e) = overruns_alike e
  overruns_alike (unary _ op e) = overruns_alike e
  overruns_alike (binary _ AndAlso a b) =
      λ i. overruns_alike a i || holds_alike a i && overruns_alike b i
  overruns_alike (binary _ OrElse a b) =
      λ i. overruns_alike a i || not (holds_alike a i) && overruns_alike b i
  overruns_alike (binary _ _ a b) = λ i. overruns_alike a i || overruns_alike b i
  overruns_alike (shift _ op e by) = overruns_alike e
  overruns_alike (conditional _ test a b) =
      λ i. overruns_alike test i || (if holds_alike test i then overruns_alike a i else overruns_alike b i)
  overruns_alike (cast _ to e) = overruns_alike e
  overruns_alike (element names e) = λ i. overruns_alike e i || past_end_alike names e i

  any_alike : (es : List ExprTree) → list_any (overruns d scope m) es ≡ list_any (overruns d scope n) es
  any_alike es = ap (λ f. list_any f es) (λ i e. overruns_alike e i)

-- ---- memories
found_alike : (b : Bool) (p : Passing) (x y : Option Passing) →
    option_map_or (λ q. q.value) x 0 ≡ option_map_or (λ q. q.value) y 0 →
    option_map_or (λ q. q.value) (if b then Some p else x) 0 ≡ option_map_or (λ q. q.value) (if b then Some p else y) 0
found_alike true p x y same = refl
found_alike false p x y same = same

put_alike : (m n : Memory) (c : Cell) (x : ℕ) → ReadAlike m n → ReadAlike (put m c x) (put n c x)
put_alike m n (in_state k) x alike = record { values = ap (λ vs. slice_set vs k x) alike.values; cells = of }
  where
    of : (c : Cell) → read (put m (in_state k) x) c ≡ read (put n (in_state k) x) c
    of (in_state j) = ap (λ vs. slice_index (slice_set vs k x) j) alike.values
    of (in_step scope name ty) = alike.cells (in_step scope name ty)
put_alike m n (in_step here name ty) x alike = record { values = alike.values; cells = of }
  where
    of : (c : Cell) → read (put m (in_step here name ty) x) c ≡ read (put n (in_step here name ty) x) c
    of (in_state j) = alike.cells (in_state j)
    of (in_step scope other kind) =
        found_alike (same_scope scope here && pointwise nat_eq other name)
        (record { scope = here; name = name; value = x })
        (find (λ p. same_scope scope p.scope && pointwise nat_eq other p.name) m.passing)
        (find (λ p. same_scope scope p.scope && pointwise nat_eq other p.name) n.passing)
        (alike.cells (in_step scope other kind))

put_in_alike : (m n : Memory) (c : Option Cell) (x y : ℕ) → x ≡ y → ReadAlike m n →
    ReadAlike (put_in m c x) (put_in n c y)
put_in_alike m n None x y same alike = alike
put_in_alike m n (Some c) x y same alike =
    subst (λ z. ReadAlike (put m c x) (put n c z)) same (put_alike m n c x alike)

arguments_alike : (d : DesignTree) (scope : Scope) (m n : Memory) → ReadAlike m n → (ps : List (Cell × ExprTree))
    (a b : Memory) → ReadAlike a b →
    ReadAlike
    (fold (λ so_far (p : Cell × ExprTree). put so_far p.0 (value d scope m (asked_by d (Some p.0)) p.1)) a ps)
    (fold (λ so_far (p : Cell × ExprTree). put so_far p.0 (value d scope n (asked_by d (Some p.0)) p.1)) b ps)
arguments_alike d scope m n alike [] a b same = same
arguments_alike d scope m n alike (p ∷ ps) a b same =
    arguments_alike d scope m n alike ps
    (put a p.0 (value d scope m (asked_by d (Some p.0)) p.1)) (put b p.0 (value d scope n (asked_by d (Some p.0)) p.1))
    (put_in_alike a b (Some p.0) (value d scope m (asked_by d (Some p.0)) p.1)
    (value d scope n (asked_by d (Some p.0)) p.1) (value_alike d scope m n alike (asked_by d (Some p.0)) p.1) same)

-- ---- endings
followed_alike : (e f : Ending) (g h : Memory → Ending) → EndAlike e f →
    ((m n : Memory) → ReadAlike m n → EndAlike (g m) (h n)) → EndAlike (followed_by e g) (followed_by f h)
followed_alike e f g h (both_stopped at trail alike) next = both_stopped at trail alike
followed_alike e f g h (both_finished {m} {n} alike) next = next m n alike
followed_alike e f g h both_failed next = both_failed
followed_alike e f g h both_blocked next = both_blocked

if_alike : (b c : Bool) (e f g h : Ending) → b ≡ c → EndAlike e f → EndAlike g h →
    EndAlike (if b then e else g) (if c then f else h)
if_alike b c e f g h same one other = subst (λ x. EndAlike (if b then e else g) (if x then f else h)) same (of b)
  where
    of : (x : Bool) → EndAlike (if x then e else g) (if x then f else h)
    of true = one
    of false = other

behind_alike : (k : Option ℕ) (g : ℕ → Memory → Ending) (m n : Memory) →
    ((i : ℕ) → EndAlike (g i m) (g i n)) → EndAlike (behind k g m) (behind k g n)
behind_alike None g m n f = both_blocked
behind_alike (Some i) g m n f = f i

module _ (d : DesignTree) (bits : ℕ → Bool) where
  puts_alike : (m n : Memory) (target : Option Cell) (c : ℕ) → ReadAlike m n →
      EndAlike (puts_number d m target c) (puts_number d n target c)
  puts_alike m n target c alike =
      if_alike (nat_lt c (type_size d.spec (asked_by d target))) (nat_lt c (type_size d.spec (asked_by d target)))
      (finished (put_in m target c)) (finished (put_in n target c)) blocked blocked refl
      (both_finished (put_in_alike m n target c c refl alike)) both_blocked

  delivers_alike : (target : Option Cell) (scope : Scope) (e : ExprTree) (m n : Memory) → ReadAlike m n →
      EndAlike (delivers d target scope e m) (delivers d target scope e n)
  delivers_alike target scope e m n alike =
      if_alike (overruns d scope m e) (overruns d scope n e) failed failed
      (finished (put_in m target (value d scope m (asked_by d target) e)))
      (finished (put_in n target (value d scope n (asked_by d target) e)))
      (overruns_alike d scope m n alike e) both_failed
      (both_finished (put_in_alike m n target (value d scope m (asked_by d target) e)
      (value d scope n (asked_by d target) e) (value_alike d scope m n alike (asked_by d target) e) alike))

  returns_alike : (target : Option Cell) (callee : Called) (m n : Memory) → ReadAlike m n →
      EndAlike (returns d target callee m) (returns d target callee n)
  returns_alike target callee m n alike = of callee.body.answer
    where
      of : (answer : Option ExprTree) →
          EndAlike (option_map_or (λ e. delivers d target callee.scope e m) answer (finished m))
          (option_map_or (λ e. delivers d target callee.scope e n) answer (finished n))
      of None = both_finished alike
      of (Some e) = delivers_alike target callee.scope e m n alike

  unless_alike : (scope : Scope) (m n : Memory) (s : StmtTree) (e f : Ending) → ReadAlike m n → EndAlike e f →
      EndAlike (unless_overrun d scope m s e) (unless_overrun d scope n s f)
  unless_alike scope m n s e f alike same =
      if_alike (list_any (overruns d scope m) (valued s)) (list_any (overruns d scope n) (valued s)) failed failed e f
      (any_alike d scope m n alike (valued s)) both_failed same

  module _ (after : Called → ℕ → Option ℕ) (ending : Called → List Place → ℕ → Memory → Ending)
      (body : (callee : Called) (trail : List Place) (k : ℕ) (m n : Memory) → ReadAlike m n →
      EndAlike (ending callee trail k m) (ending callee trail k n)) where
    abbrev here : Reader
    here = record { design = d; bits = bits; after = after; ending = ending }

    calls_alike : (scope : Scope) (trail : List Place) (names : List Ident) (args : List ExprTree)
        (next : Called → Memory → Ending) (k : ℕ) (m n : Memory) → ReadAlike m n →
        ((callee : Called) (m n : Memory) → ReadAlike m n → EndAlike (next callee m) (next callee n)) →
        EndAlike (call_ending here scope trail names args next k m) (call_ending here scope trail names args next k n)
    calls_alike scope trail names args next k m n alike f = of (called d scope names)
      where
        of : (c : Option Called) →
            EndAlike
            (option_map_or
            (λ callee.
            followed_by
            (ending callee (call_place names ++ trail) k (with_arguments d scope m callee.params args))
            (next callee)) c blocked)
            (option_map_or
            (λ callee.
            followed_by
            (ending callee (call_place names ++ trail) k (with_arguments d scope n callee.params args))
            (next callee)) c blocked)
        of None = both_blocked
        of (Some callee) =
            followed_alike
            (ending callee (call_place names ++ trail) k (with_arguments d scope m callee.params args))
            (ending callee (call_place names ++ trail) k (with_arguments d scope n callee.params args))
            (next callee) (next callee)
            (body callee (call_place names ++ trail) k (with_arguments d scope m callee.params args)
            (with_arguments d scope n callee.params args)
            (arguments_alike d scope m n alike (zip callee.params args) m n alike))
            (f callee)

    value_ends_alike : (scope : Scope) (trail : List Place) (names : List Ident) (target : Option Cell) (v : ValueTree)
        (k : ℕ) (m n : Memory) → ReadAlike m n →
        EndAlike (value_ending here scope trail names target v k m) (value_ending here scope trail names target v k n)
    value_ends_alike scope trail names target (star _) k m n alike =
        puts_alike m n target (number_at bits k (target_bits d scope names)) alike
    value_ends_alike scope trail names target (result callee args) k m n alike =
        calls_alike scope trail callee args (returns d target) k m n alike (returns_alike target)
    value_ends_alike scope trail names target (plain e) k m n alike =
        both_finished (put_in_alike m n target (value d scope m (asked_by d target) e)
        (value d scope n (asked_by d target) e) (value_alike d scope m n alike (asked_by d target) e) alike)

    mutual
      stmt_alike : (scope : Scope) (trail : List Place) (s : StmtTree) (k : ℕ) (m n : Memory) → ReadAlike m n →
          EndAlike (stmt_ending here scope trail s k m) (stmt_ending here scope trail s k n)
      stmt_alike scope trail (assign names index v) k m n alike =
          subst
          (λ x. EndAlike
          (value_ending here scope trail names (cell d scope names (option_map (index_value d scope m) index)) v k m)
          (value_ending here scope trail names (cell d scope names (option_map x index)) v k n))
          (λ i e. value_alike d scope m n alike (index_type d scope e) e i)
          (value_ends_alike scope trail names (cell d scope names (option_map (index_value d scope m) index)) v k m n
          alike)
      stmt_alike scope trail (invoke names args) k m n alike =
          calls_alike scope trail names args (λ _. finished) k m n alike (λ callee a b same. both_finished same)
      stmt_alike scope trail (branch e first second) k m n alike =
          if_alike (holds_in d scope m e) (holds_in d scope n e) (row_ending here scope trail first k m)
          (row_ending here scope trail first k n) (row_ending here scope trail second k m)
          (row_ending here scope trail second k n) (holds_alike d scope m n alike e)
          (row_alike scope trail first k m n alike) (row_alike scope trail second k m n alike)
      stmt_alike scope trail (repeat _ e body) k m n alike =
          if_alike (holds_in d scope m e) (holds_in d scope n e)
          (followed_by (row_ending here scope trail body k m) (λ _. blocked))
          (followed_by (row_ending here scope trail body k n) (λ _. blocked)) (finished m) (finished n)
          (holds_alike d scope m n alike e)
          (followed_alike (row_ending here scope trail body k m) (row_ending here scope trail body k n)
          (λ _. blocked) (λ _. blocked) (row_alike scope trail body k m n alike) (λ a b same. both_blocked))
          (both_finished alike)
      stmt_alike scope trail (forever _ body) k m n alike =
          followed_alike (row_ending here scope trail body k m) (row_ending here scope trail body k n)
          (λ _. blocked) (λ _. blocked) (row_alike scope trail body k m n alike) (λ a b same. both_blocked)
      stmt_alike scope trail (choose _ blocks) k m n alike =
          blocks_alike scope trail blocks (number_at bits k (choice_bits blocks)) (k + choice_bits blocks) m n alike
      stmt_alike scope trail (assert _ e) k m n alike =
          if_alike (holds_in d scope m e) (holds_in d scope n e) (finished m) (finished n) failed failed
          (holds_alike d scope m n alike e) (both_finished alike) both_failed
      stmt_alike scope trail (assume _ e) k m n alike =
          if_alike (holds_in d scope m e) (holds_in d scope n e) (finished m) (finished n) blocked blocked
          (holds_alike d scope m n alike e) (both_finished alike) both_blocked
      stmt_alike scope trail (pause at) k m n alike = both_stopped at trail alike
      stmt_alike scope trail (wait at _) k m n alike = both_stopped at trail alike
      stmt_alike scope trail (magic at) k m n alike = both_stopped at trail alike

      row_alike : (scope : Scope) (trail : List Place) (row : StmtRow) (k : ℕ) (m n : Memory) → ReadAlike m n →
          EndAlike (row_ending here scope trail row k m) (row_ending here scope trail row k n)
      row_alike scope trail nothing k m n alike = both_finished alike
      row_alike scope trail (in_row first others) k m n alike =
          followed_alike (unless_overrun d scope m first (stmt_ending here scope trail first k m))
          (unless_overrun d scope n first (stmt_ending here scope trail first k n))
          (behind (stmt_after after d scope first k) (λ i. row_ending here scope trail others i))
          (behind (stmt_after after d scope first k) (λ i. row_ending here scope trail others i))
          (unless_alike scope m n first (stmt_ending here scope trail first k m)
          (stmt_ending here scope trail first k n) alike (stmt_alike scope trail first k m n alike))
          (λ a b same.
          behind_alike (stmt_after after d scope first k) (λ i. row_ending here scope trail others i) a b
          (λ i. row_alike scope trail others i a b same))

      blocks_alike : (scope : Scope) (trail : List Place) (blocks : BlockRow) (c k : ℕ) (m n : Memory) →
          ReadAlike m n →
          EndAlike (block_ending here scope trail blocks c k m) (block_ending here scope trail blocks c k n)
      blocks_alike scope trail nowhere c k m n alike = both_blocked
      blocks_alike scope trail (or_else first others) zero k m n alike = row_alike scope trail first k m n alike
      blocks_alike scope trail (or_else first others) (suc c) k m n alike =
          blocks_alike scope trail others c k m n alike

  bodies_alike : (depth : ℕ) (callee : Called) (trail : List Place) (k : ℕ) (m n : Memory) → ReadAlike m n →
      EndAlike (body_ending depth d bits callee trail k m) (body_ending depth d bits callee trail k n)
  bodies_alike zero callee trail k m n alike = both_blocked
  bodies_alike (suc depth) callee trail k m n alike =
      row_alike (body_after depth d) (body_ending depth d bits) (bodies_alike depth) callee.scope trail
      (row_of (body_stmts callee.body)) k m n alike

  item_alike : (item : WorkItem) (k : ℕ) (m n : Memory) → ReadAlike m n →
      EndAlike (item_ending d bits item k m) (item_ending d bits item k n)
  item_alike (perform scope trail s) k m n alike =
      unless_alike scope m n s (stmt_ending (reader d bits) scope trail s k m)
      (stmt_ending (reader d bits) scope trail s k n) alike
      (stmt_alike (body_after (call_depth d.spec) d) (body_ending (call_depth d.spec) d bits)
      (bodies_alike (call_depth d.spec)) scope trail s k m n alike)
  item_alike (deliver target scope e) k m n alike = delivers_alike target scope e m n alike

  pub items_alike : (items : List WorkItem) (k : ℕ) (m n : Memory) → ReadAlike m n →
      EndAlike (items_ending d bits items k m) (items_ending d bits items k n)
  items_alike [] k m n alike = both_finished alike
  items_alike (first ∷ others) k m n alike =
      followed_alike (item_ending d bits first k m) (item_ending d bits first k n)
      (behind (item_after d first k) (λ i. items_ending d bits others i))
      (behind (item_after d first k) (λ i. items_ending d bits others i))
      (item_alike first k m n alike)
      (λ a b same. behind_alike (item_after d first k) (λ i. items_ending d bits others i) a b
      (λ i. items_alike others i a b same))

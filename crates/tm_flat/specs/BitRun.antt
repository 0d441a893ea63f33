-- A run that reads its choices as bits, by recursion over the text: where a run takes the next choice, this one reads a
-- number from the position at which it stands.
use Rattle.std.specs.Prelude.{ℕ, zero, suc, ◌+◌, Bool, Option, None, Some, List, [], ◌∷◌, ◌++◌, map, nat_lt, if◌then◌else◌}
use Rattle.std.specs.Option.{option_map, option_map_or}
use Rattle.std.specs.List.{list_any, range_with_len}
use Rattle.tm_base.specs.declared.place.Place.{Place}
use Rattle.tm_base.specs.Bits.{number_of}
use Rattle.tm_syntax.specs.declared.tree.Ident.{Ident}
use Rattle.tm_syntax.specs.Tree.{ExprTree, ValueTree, star, result, plain, StmtTree, assign, invoke, branch, repeat, forever, choose, assert, assume, pause, wait, magic, StmtRow, nothing, then as in_row, row_of, BlockRow, nowhere, or_else}
use Rattle.tm_syntax.specs.Scopes.Pauses.{call_depth}
use Rattle.tm_syntax.specs.Design.{DesignTree}
use Rattle.tm_syntax.specs.Design.Scope.{Scope}
use Rattle.tm_syntax.specs.Design.Cells.{Cell, cell, Called, called}
use Rattle.tm_syntax.specs.Design.Sizes.{type_size}
use Rattle.tm_syntax.specs.Design.Work.{WorkItem, perform, deliver, call_place}
use Rattle.tm_syntax.specs.Scopes.Parts.{body_stmts}
use Rattle.tm_sem.specs.Value.{Memory, value, holds_in, index_value, overruns}
use Rattle.tm_sem.specs.Run.{Ending, stopped, finished, failed, blocked, asked_by, put_in, with_arguments, valued}
use Rattle.tm_flat.specs.Positions.{target_bits, choice_bits, stmt_after, body_after, item_after}

-- the number that so many bits from a position on are, the most significant first
abbrev pub number_at : (ℕ → Bool) → ℕ → ℕ → ℕ
number_at bits k width = number_of (map bits (range_with_len k width))

-- what such a run knows: the design, the bits, and of a called body the position behind it and how it ends
pub record Reader : Type 0 where
  pub design : DesignTree
  pub bits : ℕ → Bool
  pub after : Called → ℕ → Option ℕ
  pub ending : Called → List Place → ℕ → Memory → Ending

-- what is done first, and then the next where the first falls through
abbrev pub followed_by : Ending → (Memory → Ending) → Ending
followed_by (stopped at trail m) next = stopped at trail m
followed_by (finished m) next = next m
followed_by failed next = failed
followed_by blocked next = blocked

-- what is done from a position on; nothing is reached behind what never falls through
abbrev pub behind : Option ℕ → (ℕ → Memory → Ending) → Memory → Ending
behind None next m = blocked
behind (Some k) next m = next k m

-- an overrun ends in error before a statement takes a choice or assigns
abbrev pub unless_overrun : DesignTree → Scope → Memory → StmtTree → Ending → Ending
unless_overrun d scope m s e = if list_any (overruns d scope m) (valued s) then failed else e

-- a number that was read is put into a target, where it is a value of its type
abbrev pub puts_number : DesignTree → Memory → Option Cell → ℕ → Ending
puts_number d m target n =
    if nat_lt n (type_size d.spec (asked_by d target)) then finished (put_in m target n) else blocked

-- what a body returns is put into a target
abbrev pub delivers : DesignTree → Option Cell → Scope → ExprTree → Memory → Ending
delivers d target scope e m =
    if overruns d scope m e then failed else finished (put_in m target (value d scope m (asked_by d target) e))

-- what a called body returns, if anything, is put into a target
abbrev pub returns : DesignTree → Option Cell → Called → Memory → Ending
returns d target callee m = option_map_or (λ e. delivers d target callee.scope e m) callee.body.answer (finished m)

-- a call: its arguments are valued, and then the body is run, and what is behind it
abbrev pub call_ending : Reader → Scope → List Place → List Ident → List ExprTree → (Called → Memory → Ending) →
    ℕ → Memory → Ending
call_ending r scope trail names args next k m =
    option_map_or
    (λ callee.
    followed_by
    (r.ending callee (call_place names ++ trail) k (with_arguments r.design scope m callee.params args))
    (next callee))
    (called r.design scope names) blocked

-- an assignment to a target of this path
abbrev pub value_ending : Reader → Scope → List Place → List Ident → Option Cell → ValueTree → ℕ → Memory → Ending
value_ending r scope trail names target (star _) k m =
    puts_number r.design m target (number_at r.bits k (target_bits r.design scope names))
value_ending r scope trail names target (result callee args) k m =
    call_ending r scope trail callee args (returns r.design target) k m
value_ending r scope trail names target (plain e) k m =
    finished (put_in m target (value r.design scope m (asked_by r.design target) e))

-- how a statement ends that begins at a position, where none of its expressions overruns; the body of a loop is never
-- left behind its last statement
abbrev mutual
  pub stmt_ending : Reader → Scope → List Place → StmtTree → ℕ → Memory → Ending
  stmt_ending r scope trail (assign names index v) k m =
      value_ending r scope trail names
      (cell r.design scope names (option_map (index_value r.design scope m) index)) v k m
  stmt_ending r scope trail (invoke names args) k m = call_ending r scope trail names args (λ _. finished) k m
  stmt_ending r scope trail (branch e first second) k m =
      if holds_in r.design scope m e
      then row_ending r scope trail first k m
      else row_ending r scope trail second k m
  stmt_ending r scope trail (repeat _ e body) k m =
      if holds_in r.design scope m e
      then followed_by (row_ending r scope trail body k m) (λ _. blocked)
      else finished m
  stmt_ending r scope trail (forever _ body) k m =
      followed_by (row_ending r scope trail body k m) (λ _. blocked)
  stmt_ending r scope trail (choose _ blocks) k m =
      block_ending r scope trail blocks (number_at r.bits k (choice_bits blocks)) (k + choice_bits blocks) m
  stmt_ending r scope trail (assert _ e) k m = if holds_in r.design scope m e then finished m else failed
  stmt_ending r scope trail (assume _ e) k m = if holds_in r.design scope m e then finished m else blocked
  stmt_ending r scope trail (pause at) k m = stopped at trail m
  stmt_ending r scope trail (wait at _) k m = stopped at trail m
  stmt_ending r scope trail (magic at) k m = stopped at trail m

  -- how statements in a row end
  pub row_ending : Reader → Scope → List Place → StmtRow → ℕ → Memory → Ending
  row_ending r scope trail nothing k m = finished m
  row_ending r scope trail (in_row first others) k m =
      followed_by (unless_overrun r.design scope m first (stmt_ending r scope trail first k m))
      (behind (stmt_after r.after r.design scope first k) (λ i. row_ending r scope trail others i))

  -- how the alternative of this number ends
  pub block_ending : Reader → Scope → List Place → BlockRow → ℕ → ℕ → Memory → Ending
  block_ending r scope trail nowhere n k m = blocked
  block_ending r scope trail (or_else first others) zero k m = row_ending r scope trail first k m
  block_ending r scope trail (or_else first others) (suc n) k m = block_ending r scope trail others n k m

-- how a body ends, where calls nest at most so deep
abbrev pub body_ending : ℕ → DesignTree → (ℕ → Bool) → Called → List Place → ℕ → Memory → Ending
body_ending zero d bits callee trail k m = blocked
body_ending (suc depth) d bits callee trail k m =
    row_ending
    (record { design = d; bits = bits; after = body_after depth d; ending = body_ending depth d bits })
    callee.scope trail (row_of (body_stmts callee.body)) k m

-- what a run knows that reads these bits
abbrev pub reader : DesignTree → (ℕ → Bool) → Reader
reader d bits = record {
  design = d;
  bits = bits;
  after = body_after (call_depth d.spec) d;
  ending = body_ending (call_depth d.spec) d bits;
}

-- how a work item ends
abbrev pub item_ending : DesignTree → (ℕ → Bool) → WorkItem → ℕ → Memory → Ending
item_ending d bits (perform scope trail s) k m =
    unless_overrun d scope m s (stmt_ending (reader d bits) scope trail s k m)
item_ending d bits (deliver target scope e) k m = delivers d target scope e m

-- how work items end that are worked off from a position on
abbrev pub items_ending : DesignTree → (ℕ → Bool) → List WorkItem → ℕ → Memory → Ending
items_ending d bits [] k m = finished m
items_ending d bits (first ∷ others) k m =
    followed_by (item_ending d bits first k m)
    (behind (item_after d first k) (λ i. items_ending d bits others i))

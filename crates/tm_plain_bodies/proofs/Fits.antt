-- The parts of what may be done in a body of an instance may be done.
use Rattle.std.proofs.Common.{◌≡◌, ℕ, true, None, Some, List, ◌∷◌, map, slice_get, ap, ◌∙◌}
use Rattle.std.proofs.lemmas.Option.{slice_get-map}
use Rattle.std.specs.Option.{option_map}
use Rattle.std.specs.declared.alloc.Global.{Global}
use Rattle.std.specs.declared.vec.Vec.{Vec}
use Rattle.tm_syntax.specs.declared.tree.Stmt.{Stmt}
use Rattle.tm_syntax.specs.Tree.View.{stmt_trees}
use Rattle.tm_base.specs.declared.place.Place.{Place}
use Rattle.tm_syntax.specs.declared.design.Design.{Design}
use Rattle.tm_syntax.specs.Tree.{ExprTree, StmtRow, StmtTree, alternatives_of, branch, choose, forever, repeat, row_of}
use Rattle.tm_syntax.specs.Scopes.Context.{Context}
use Rattle.tm_syntax.specs.Scopes.Crossing.{row_crosses}
use Rattle.tm_syntax.specs.Design.View.{design_tree}
use Rattle.tm_scope.specs.Cells.{scope_of}
use Rattle.tm_scope.specs.Inner.Calls.{row_calls, stmt_calls}
use Rattle.tm_design.specs.Typed.{context_at}
use Rattle.tm_plain_bodies.specs.declared.frame.Frame.{Frame}
use Rattle.tm_plain_bodies.specs.Frames.{BlocksFit, RowFits, StmtFits}
use Rattle.tm_plain_bodies.specs.Runs.{crossing}
use Rattle.tm_plain_bodies.proofs.Nesting.{nests_block, nests_both}
use Rattle.tm_plain_bodies.proofs.Performing.{block_here, branch_first, branch_second, choose_at, forever_body, repeat_body, row_head, row_tail}
use Rattle.tm_states.proofs.Promised.{forever_sure, repeat_sure}

module _ (d : Design) (f : Frame) where
  -- the body of a loop may be done, and is sure to cross
  pub forever_fits : (at : Place) (ss : List StmtTree) → StmtFits d f (forever at (row_of ss)) → RowFits d f ss
  forever_fits at ss h =
      record { tables = h.tables; promised = forever_body f.reader at ss h.promised; nested = h.nested }

  pub repeat_fits : (at : Place) (e : ExprTree) (ss : List StmtTree) → StmtFits d f (repeat at e (row_of ss)) →
      RowFits d f ss
  repeat_fits at e ss h =
      record { tables = h.tables; promised = repeat_body f.reader at e ss h.promised; nested = h.nested }

  pub forever_crosses : (at : Place) (ss : List StmtTree) → StmtFits d f (forever at (row_of ss)) →
      (c : Context) × (context_at f.reader ≡ Some c) × (row_crosses (crossing c) (row_of ss) ≡ true)
  forever_crosses at ss h =
      (h.promised.context, h.promised.stands, forever_sure h.promised.context at (row_of ss) h.promised.promised)

  pub repeat_crosses : (at : Place) (e : ExprTree) (ss : List StmtTree) → StmtFits d f (repeat at e (row_of ss)) →
      (c : Context) × (context_at f.reader ≡ Some c) × (row_crosses (crossing c) (row_of ss) ≡ true)
  repeat_crosses at e ss h =
      (h.promised.context, h.promised.stands, repeat_sure h.promised.context at e (row_of ss) h.promised.promised)

  -- the rows of a branch may be done
  pub first_fits : (e : ExprTree) (a : List StmtTree) (b : StmtRow) → StmtFits d f (branch e (row_of a) b) →
      RowFits d f a
  first_fits e a b h = record {
    tables = h.tables;
    promised = branch_first f.reader e a b h.promised;
    nested = (nests_both f.depth (design_tree d) (scope_of f.reader.at) (row_calls (row_of a)) (row_calls b)
        h.nested).0;
  }

  pub second_fits : (e : ExprTree) (a : StmtRow) (b : List StmtTree) → StmtFits d f (branch e a (row_of b)) →
      RowFits d f b
  second_fits e a b h = record {
    tables = h.tables;
    promised = branch_second f.reader e a b h.promised;
    nested = (nests_both f.depth (design_tree d) (scope_of f.reader.at) (row_calls a) (row_calls (row_of b))
        h.nested).1;
  }

  -- the statements of a row may be done
  pub head_fits : (t : StmtTree) (ts : List StmtTree) → RowFits d f (t ∷ ts) → StmtFits d f t
  head_fits t ts h = record {
    tables = h.tables;
    promised = row_head f.reader t ts h.promised;
    nested = (nests_both f.depth (design_tree d) (scope_of f.reader.at) (stmt_calls t) (row_calls (row_of ts))
        h.nested).0;
  }

  pub tail_fits : (t : StmtTree) (ts : List StmtTree) → RowFits d f (t ∷ ts) → RowFits d f ts
  tail_fits t ts h = record {
    tables = h.tables;
    promised = row_tail f.reader t ts h.promised;
    nested = (nests_both f.depth (design_tree d) (scope_of f.reader.at) (stmt_calls t) (row_calls (row_of ts))
        h.nested).1;
  }

  -- alternatives may be done
  pub choose_fits : (at : Place) (bs : List StmtRow) → StmtFits d f (choose at (alternatives_of bs)) → BlocksFit d f bs
  choose_fits at bs h =
      record { tables = h.tables; promised = choose_at f.reader at bs h.promised; nested = h.nested }

  -- the block of a number may be done
  pub block_fits : (bs : List StmtRow) (k : ℕ) (ts : List StmtTree) → slice_get bs k ≡ Some (row_of ts) →
      BlocksFit d f bs → RowFits d f ts
  block_fits bs k ts there h = record {
    tables = h.tables;
    promised = block_here f.reader bs k ts h.promised there;
    nested = nests_block f.depth (design_tree d) (scope_of f.reader.at) bs k (row_of ts) there h.nested;
  }

-- the block of an index
pub block_there : (blocks : List (Vec Stmt Global)) (k : ℕ) (block : Vec Stmt Global) →
    slice_get blocks k ≡ Some block →
    slice_get (map (λ (b : Vec Stmt Global). row_of (stmt_trees b.items)) blocks) k
    ≡ Some (row_of (stmt_trees block.items))
block_there blocks k block is =
    slice_get-map (λ (b : Vec Stmt Global). row_of (stmt_trees b.items)) blocks k
    ∙ ap (option_map (λ (b : Vec Stmt Global). row_of (stmt_trees b.items))) is

pub no_block_there : (blocks : List (Vec Stmt Global)) (k : ℕ) → slice_get blocks k ≡ None →
    slice_get (map (λ (b : Vec Stmt Global). row_of (stmt_trees b.items)) blocks) k ≡ None
no_block_there blocks k is =
    slice_get-map (λ (b : Vec Stmt Global). row_of (stmt_trees b.items)) blocks k
    ∙ ap (option_map (λ (b : Vec Stmt Global). row_of (stmt_trees b.items))) is

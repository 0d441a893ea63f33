-- Replies stay what they are where a game grows and shapes are added.
use Rattle.std.proofs.Common.{◌≡◌, ℕ, ◌+◌, ◌<◌, ◌⊎◌, inl, inr, List, [], ◌∷◌, ◌++◌, Option, None, Some, length}
use Rattle.std.proofs.Common.{get_or, map, refl, sym, ap, ◌∙◌, subst, arith}
use Rattle.std.specs.Prelude.{All, slice_get}
use Rattle.std.proofs.lemmas.List.{get_or-map, length-map, length_push}
use Rattle.std.proofs.lemmas.List.Elements.{All-append}
use Rattle.std.specs.List.{range_with_len}
use Rattle.std.specs.Option.{option_and_then, option_map}
use Rattle.std.proofs.lemmas.List.FromFn.{length-range_with_len}
use Rattle.std.proofs.lemmas.Option.{slice_get-get_or, slice_get-map, slice_get_within}
use Rattle.std.proofs.lemmas.Slice.Zip.{AllZip-long}
use Rattle.tm_check.specs.declared.replies.Replies.{Replies}
use Rattle.tm_check.specs.declared.replies.Reply.{Reply}
use Rattle.tm_check.specs.declared.replies.Reply.TheVariants as replies
use Rattle.tm_check.specs.Replies.{AreAdded, AreReplies, FitsGame, IsMove, IsMoveOf, IsNumbered, IsReply, move_of}
use Rattle.tm_check.specs.Replies.{shape_of}
use Rattle.tm_check.proofs.Growth.{substituted_kept}
use Rattle.tm_check.proofs.Pushed.{pushed_at, stays_at}
use Rattle.tm_game_bits.specs.AssignedStates.{state_of}
use Rattle.tm_cir.specs.Fit.{FitsBlock, FitsNum, FitsTruth, declared_task, parameter_count}
use Rattle.tm_cir.specs.declared.block.Block.{Block}
use Rattle.tm_cir.specs.declared.block.Num64.{Num64}
use Rattle.tm_cir.specs.declared.blocks.Blocks.{Blocks}
use Rattle.tm_cir.specs.Tree.{BlockTree, NumTree, call, idle, leave, test}
use Rattle.tm_cir.specs.View.{block_tree, block_trees, num_tree, trees_of}
use Rattle.tm_dd.specs.declared.node.NodeId.{NodeId}
use Rattle.tm_dd.specs.Reduced.{Extends}
use Rattle.tm_dd.specs.Table.{Table}
use Rattle.tm_flat.specs.Flat.{FlatTerms}
use Rattle.tm_flat.specs.Steps.{IsTaskStep}
use Rattle.tm_game_bits.proofs.Extended.{Knows-Extends}
use Rattle.tm_game.specs.declared.moves.MoveShape.{MoveShape}
use Rattle.tm_game.specs.Game.{GameData, Grows, IsOf}
use Rattle.tm_game.specs.Moves.{HasTask, move_at}
use Rattle.tm_sem.specs.declared.state.Move.{Move}
use Rattle.tm_sem.specs.State.{StateData}
use Rattle.tm_syntax.specs.declared.design.Item.{Item}
use Rattle.tm_syntax.specs.Design.{DesignTree}
use Rattle.tm_syntax.specs.Tree.{TaskTree}

module _ (d : DesignTree) (order : List ℕ) (s t : Table) (e : Extends s t) where
  pub move_kept : (move : StateData → Move) (shape : MoveShape) (fits : NodeId) (parts : List (ℕ × NodeId)) →
      IsMove d order s move shape fits parts → IsMove d order t move shape fits parts
  move_kept move shape fits parts is = record {
    fits_known = Knows-Extends s t e fits is.fits_known;
    parts_known = λ f c. Knows-Extends s t e f (is.parts_known f c);
    told = λ v yes.
        ap (move_at d order shape) (substituted_kept s t e parts is.parts_known v)
        ∙ is.told v (sym (e.same_meaning fits is.fits_known v) ∙ yes);
    forbidden = λ v no. is.forbidden v (sym (e.same_meaning fits is.fits_known v) ∙ no);
    one_state = λ v. ap (state_of d order) (substituted_kept s t e parts is.parts_known v) ∙ is.one_state v;
  }

  module _ (goal : ℕ) (known more : List MoveShape) where
    move_of_kept : (b : BlockTree) (number : ℕ) (fits : NodeId) (parts : List (ℕ × NodeId)) →
        IsMoveOf d order s goal known b number fits parts → IsMoveOf d order t goal (known ++ more) b number fits parts
    move_of_kept b number fits parts is = record {
      shape = stays_at known more number (shape_of b) is.shape;
      move = move_kept (move_of goal b) (shape_of b) fits parts is.move;
    }

    pub reply_kept : (b : BlockTree) (r : Reply) → IsReply d order s goal known b r →
        IsReply d order t goal (known ++ more) b r
    reply_kept (test x first second) (replies.Test diagram one other) is = (
      record {
        known = Knows-Extends s t e diagram is.0.known;
        meaning = λ v. e.same_meaning diagram is.0.known v ∙ is.0.meaning v;
      },
      is.1,
      is.2,
    )
    reply_kept (test x first second) (replies.Move number fits parts) is = absurd is
    reply_kept (call task args) (replies.Test diagram one other) is = absurd is
    reply_kept (call task args) (replies.Move number fits parts) is =
        move_of_kept (call task args) number fits parts.items is
    reply_kept (leave p) (replies.Test diagram one other) is = absurd is
    reply_kept (leave p) (replies.Move number fits parts) is = move_of_kept (leave p) number fits parts.items is
    reply_kept idle (replies.Test diagram one other) is = absurd is
    reply_kept idle (replies.Move number fits parts) is = move_of_kept idle number fits parts.items is

none_more : {X : Type 0} (xs : List X) → xs ++ [] ≡ xs
none_more [] = refl
none_more (x ∷ xs) = ap (λ ys. x ∷ ys) (none_more xs)

-- replies along a game that grows
pub replies_kept : (d : DesignTree) (g h : GameData) → Grows g h → (goal : ℕ) (bs : List BlockTree) (r : Replies) →
    AreReplies d g goal bs r → AreReplies d h goal bs r
replies_kept d g h grows goal bs r are = record {
  count = are.count;
  each = λ k b x block there.
      subst (λ (o : List ℕ). IsReply d o h.diagrams.table goal r.shapes.items b x) (sym grows.order)
      (subst (λ (known : List MoveShape). IsReply d g.order h.diagrams.table goal known b x) (none_more r.shapes.items)
      (reply_kept d g.order g.diagrams.table h.diagrams.table grows.diagrams goal r.shapes.items [] b x
      (are.each k b x block there)));
  tasks = subst (λ (f : FlatTerms). All (HasTask f) r.shapes.items) (sym grows.flat) are.tasks;
}

-- ---- block by block
-- the first blocks are read
pub record AreFirst (d : DesignTree) (g : GameData) (goal : ℕ) (bs : List BlockTree) (count : ℕ) (list : List Reply)
    (shapes : List MoveShape) : Type 0 where
  pub long : length list ≡ count
  pub each : (k : ℕ) (b : BlockTree) (x : Reply) → slice_get bs k ≡ Some b → slice_get list k ≡ Some x →
      IsReply d g.order g.diagrams.table goal shapes b x
  pub tasks : All (HasTask g.flat) shapes

pub first_none : (d : DesignTree) (g : GameData) (goal : ℕ) (bs : List BlockTree) → AreFirst d g goal bs 0 [] []
first_none d g goal bs = record {
  long = refl;
  each = λ k b x block there. absurd (cc);
  tasks = λ k x below. absurd (omega arith);
}

pub first_more : (d : DesignTree) (g h : GameData) (goal : ℕ) (bs : List BlockTree) (count : ℕ) (list : List Reply)
    (shapes news : List MoveShape) (b : BlockTree) (x : Reply) → Grows g h → AreFirst d g goal bs count list shapes →
    AreAdded g.flat shapes news → slice_get bs count ≡ Some b → IsReply d g.order h.diagrams.table goal news b x →
    AreFirst d h goal bs (count + 1) (list ++ x ∷ []) news
first_more d g h goal bs count list shapes news b x grows so_far added block is = record {
  long = omega (arith, length_push list x, so_far.long);
  each = each;
  tasks = subst (λ (f : FlatTerms). All (HasTask f) news) (sym grows.flat)
      (subst (All (HasTask g.flat)) (sym added.behind)
      (All-append (HasTask g.flat) shapes added.more so_far.tasks added.tasks));
}
  where
    at_h : (c : BlockTree) (y : Reply) → IsReply d g.order h.diagrams.table goal news c y →
        IsReply d h.order h.diagrams.table goal news c y
    at_h c y here = subst (λ (o : List ℕ). IsReply d o h.diagrams.table goal news c y) (sym grows.order) here

    each : (k : ℕ) (c : BlockTree) (y : Reply) → slice_get bs k ≡ Some c → slice_get (list ++ x ∷ []) k ≡ Some y →
        IsReply d h.order h.diagrams.table goal news c y
    each k c y this there = by (pushed_at list x k y there)
      where
        by : (slice_get list k ≡ Some y) ⊎ ((k ≡ length list) × (x ≡ y)) →
            IsReply d h.order h.diagrams.table goal news c y
        by (inl before) =
            at_h c y
            (subst (λ (known : List MoveShape). IsReply d g.order h.diagrams.table goal known c y) (sym added.behind)
            (reply_kept d g.order g.diagrams.table h.diagrams.table grows.diagrams goal shapes added.more c y
            (so_far.each k c y this before)))
        by (inr (last, same)) =
            let place : k ≡ count = last ∙ so_far.long in
            let one : Some c ≡ Some b = sym this ∙ ap (slice_get bs) place ∙ block in
            let block_is : b ≡ c = cc in
            at_h c y
            (subst (λ (z : Reply). IsReply d g.order h.diagrams.table goal news c z) same
            (subst (λ (w : BlockTree). IsReply d g.order h.diagrams.table goal news w x) block_is is))

-- the last blocks are read, too
pub first_all : (d : DesignTree) (g : GameData) (goal : ℕ) (bs : List BlockTree) (count : ℕ) (r : Replies) →
    length bs ≡ count → AreFirst d g goal bs count r.list.items r.shapes.items → AreReplies d g goal bs r
first_all d g goal bs count r all are = record {
  count = are.long ∙ sym all;
  each = are.each;
  tasks = are.tasks;
}

-- the block of a number
pub block_there : (blocks : Blocks) (list : List Block) (k : ℕ) (b : Block) → block_trees list ≡ trees_of blocks →
    k < length list → b ≡ get_or list k b → slice_get (trees_of blocks) k ≡ Some (block_tree b)
block_there blocks list k b same below is =
    ap (λ (ts : List BlockTree). slice_get ts k) (sym same)
    ∙ slice_get-map block_tree list k
    ∙ ap (option_map block_tree)
    (slice_get-get_or list k b below ∙ ap (λ (x : Block). Some x) (sym is))

-- ---- a shape
pub added_none : (f : FlatTerms) (olds : List MoveShape) → AreAdded f olds olds
added_none f olds = record {
  more = [];
  behind = sym (none_more olds);
  tasks = λ k x below. absurd (omega arith);
}

pub shape_added : (f : FlatTerms) (olds news : List MoveShape) (shape : MoveShape) (number : ℕ) → HasTask f shape →
    IsNumbered olds shape news number → AreAdded f olds news
shape_added f olds news shape number task is = record {
  more = is.more;
  behind = is.behind;
  tasks = λ k x below. subst (HasTask f) (sym (is.only k x below)) task;
}

-- what holds of the expressions of arguments
pub all_mapped : (P : NumTree → Type 0) (args : List Num64) → All P (map num_tree args) →
    All (λ n. P (num_tree n)) args
all_mapped P args all = λ k x below.
    subst P (get_or-map num_tree args k x (num_tree x) below)
    (all k (num_tree x) (omega (arith, below, length-map args num_tree)))

-- ---- a block that fits
module _ (d : DesignTree) (g : GameData) (of : IsOf d g) where
  -- a task with parameters is there
  task_there : (task count : ℕ) → parameter_count d task ≡ Some count → task < length g.flat.tasks
  task_there task count is = by (slice_get d.tasks task) refl is
    where
      long : length g.flat.tasks ≡ length d.tasks
      long =
          AllZip-long (IsTaskStep g.terms d) (range_with_len 0 (length d.tasks)) g.flat.tasks of.flat.tasks
          ∙ length-range_with_len 0 (length d.tasks)

      by : (o : Option Item) → slice_get d.tasks task ≡ o →
          option_map (λ (t : TaskTree). length t.params) (option_and_then (declared_task d) o) ≡ Some count →
          task < length g.flat.tasks
      by None at never = absurd (cc)
      by (Some item) at some = omega (arith, long, slice_get_within d.tasks task item at)

  pub fits_game : (vars processes count at : ℕ) (b : BlockTree) → vars ≡ length d.vars →
      processes ≡ length d.processes → FitsBlock d count at b → FitsGame g.flat vars processes b
  fits_game vars processes count at (test t first second) same_vars same_processes fits =
      subst (λ (n : ℕ). FitsTruth n processes t) (sym same_vars)
      (subst (λ (n : ℕ). FitsTruth (length d.vars) n t) (sym same_processes) fits.0)
  fits_game vars processes count at (call task args) same_vars same_processes fits = (
    task_there task (length args) fits.0,
    subst (λ (n : ℕ). All (FitsNum n processes) args) (sym same_vars)
        (subst (λ (n : ℕ). All (FitsNum (length d.vars) n) args) (sym same_processes) fits.2),
  )
  fits_game vars processes count at (leave p) same_vars same_processes fits = tt
  fits_game vars processes count at idle same_vars same_processes fits = tt

-- The arguments of candidates, as replies give them.
use Rattle.std.proofs.Common.{◌≡◌, ◌⊎◌, inl, inr, ℕ, ◌+◌, ◌<◌, ◌≤◌, List, [], ◌∷◌, ◌++◌, Vec, Some, length, get_or, map}
use Rattle.std.proofs.Common.{slice_get, take, sym, ap, ◌∙◌, subst, arith}
use Rattle.std.proofs.lemmas.List.{get_or-map, length-map, length_push, map-append, take_all, take_more}
use Rattle.std.proofs.lemmas.Option.{get_or_from_slice_get, slice_get_within}
use Rattle.std.specs.Prelude.{All}
use Rattle.std.specs.declared.alloc.Global.{Global}
use Rattle.tm_check.proofs.Pushed.{pushed_at, stays_at}
use Rattle.tm_check.specs.Replies.{AreReplies, IsMove, IsMoveOf, IsReply, move_of, shape_of}
use Rattle.tm_check.specs.declared.replies.Replies.{Replies}
use Rattle.tm_check.specs.declared.replies.Reply.{Reply}
use Rattle.tm_check.specs.declared.replies.Reply.TheVariants as replies
use Rattle.tm_cir.specs.Meaning.{holds}
use Rattle.tm_cir.specs.Tree.{BlockTree, TruthTree, call, idle, leave, test}
use Rattle.tm_cir.specs.View.{block_tree, block_trees}
use Rattle.tm_cir.specs.declared.block.Block.{Block}
use Rattle.tm_dd.specs.declared.node.NodeId.{NodeId}
use Rattle.tm_dd.specs.declared.node.TheConstants.{FALSE}
use Rattle.tm_dd.specs.Table.{Knows, Table}
use Rattle.tm_ddops.specs.Manager.{IsFunction}
use Rattle.tm_game.specs.Game.{GameData}
use Rattle.tm_game.specs.Moves.{HasTask}
use Rattle.tm_game.specs.declared.moves.MoveShape.{MoveShape}
use Rattle.tm_game.specs.declared.moves.MoveShape.TheVariants.{Idle}
use Rattle.tm_game_bits.specs.AssignedStates.{state_of}
use Rattle.tm_strat.specs.Served.{AreGivenFor, IsGivenFor, candidate_trees}
use Rattle.tm_strat.specs.Trees.{candidate_tree, shape_in}
use Rattle.tm_strat.specs.declared.candidates.Candidate.{Candidate}
use Rattle.tm_strat.specs.declared.numbers.Counts.{Counts}
use Rattle.tm_strat.specs.declared.reading.Given.{Given}
use Rattle.tm_syntax.specs.Design.{DesignTree}

-- ---- one reply
-- a reply that moves is that of a block that does
moves_so : (d : DesignTree) (order : List ℕ) (s : Table) (known : List MoveShape) (b : BlockTree) (number : ℕ)
    (fits : NodeId) (parts : Vec (ℕ × NodeId) Global) → IsReply d order s 0 known b (replies.Move number fits parts) →
    IsMoveOf d order s 0 known b number fits parts.items
moves_so d order s known (test t first second) number fits parts is = absurd is
moves_so d order s known (call task args) number fits parts is = is
moves_so d order s known (leave p) number fits parts is = is
moves_so d order s known idle number fits parts is = is

each_known : (t : Table) (parts : List (ℕ × NodeId)) →
    ((f : NodeId) → Rattle.std.specs.Prelude.Contains (map (λ (p : ℕ × NodeId). p.1) parts) f → Knows t f) →
    All (λ (p : ℕ × NodeId). Knows t p.1) parts
each_known t parts known k p below =
    known (get_or parts k p).1 (
      k,
      let long = length-map parts (λ (q : ℕ × NodeId). q.1) in omega (arith, long, below),
      get_or-map (λ (q : ℕ × NodeId). q.1) parts k p (get_or parts k p).1 below,
    )

pub move_given : (d : DesignTree) (g : GameData) (shapes others : List MoveShape) (own : ℕ) (fits : NodeId)
    (arguments : List (ℕ × NodeId)) (b : BlockTree) (x : Given) → All (HasTask g.flat) others →
    IsMoveOf d g.order g.diagrams.table 0 others b own fits arguments →
    (x.shape < length shapes) × (own < length others) × (shape_in shapes x.shape ≡ shape_in others own) →
    x.fits ≡ fits → x.parts.items ≡ arguments → IsGivenFor d g shapes b x
move_given d g shapes others own fits arguments b x tasks move same is items = record {
  fits = subst (Knows g.diagrams.table) (sym is) move.move.fits_known;
  parts = each_known g.diagrams.table x.parts.items moved.parts_known;
  move = inr (record {
    shape = same.2 ∙ shape_is;
    below = same.0;
    task = subst (HasTask g.flat) shape_is (tasks own Idle same.1);
    move = moved;
  });
}
  where
    shape_is : shape_in others own ≡ shape_of b
    shape_is = get_or_from_slice_get others own (shape_of b) Idle move.shape

    moved : IsMove d g.order g.diagrams.table (move_of 0 b) (shape_of b) x.fits x.parts.items
    moved =
        subst (λ (l : List (ℕ × NodeId)). IsMove d g.order g.diagrams.table (move_of 0 b) (shape_of b) x.fits l)
        (sym items)
        (subst (λ (f : NodeId). IsMove d g.order g.diagrams.table (move_of 0 b) (shape_of b) f arguments)
        (sym is) move.move)

-- a reply of a number that moves is a move of its block
pub moved_at : (d : DesignTree) (g : GameData) (blocks : List BlockTree) (r : Replies) (index own : ℕ)
    (fits : NodeId) (arguments : Vec (ℕ × NodeId) Global) (b : BlockTree) (x : Reply) → AreReplies d g 0 blocks r →
    slice_get blocks index ≡ Some b → slice_get r.list.items index ≡ Some x →
    x ≡ replies.Move own fits arguments →
    IsMoveOf d g.order g.diagrams.table 0 r.shapes.items b own fits arguments.items
moved_at d g blocks r index own fits arguments b x are block there is =
    moves_so d g.order g.diagrams.table r.shapes.items b own fits arguments
    (subst (IsReply d g.order g.diagrams.table 0 r.shapes.items b) is (are.each index b x block there))

-- a test as it was read
pub test_read : (d : DesignTree) (g : GameData) (known : List MoveShape) (t : TruthTree) (first second : ℕ) (x : Reply)
    (holds_at : NodeId) (one other : ℕ) → x ≡ replies.Test holds_at one other →
    IsReply d g.order g.diagrams.table 0 known (test t first second) x →
    IsFunction g.diagrams.table holds_at (λ v. holds (state_of d g.order v) 0 t)
test_read d g known t first second x holds_at one other is reply =
    (subst (IsReply d g.order g.diagrams.table 0 known (test t first second)) is reply).0

-- a move is not a test
pub no_test : (d : DesignTree) (g : GameData) (known : List MoveShape) (t : TruthTree) (first second : ℕ) (x : Reply)
    (number : ℕ) (fits : NodeId) (parts : Vec (ℕ × NodeId) Global) → x ≡ replies.Move number fits parts →
    IsReply d g.order g.diagrams.table 0 known (test t first second) x → ⊥
no_test d g known t first second x number fits parts is reply =
    subst (IsReply d g.order g.diagrams.table 0 known (test t first second)) is reply

pub nothing_given : (d : DesignTree) (g : GameData) (shapes : List MoveShape) (b : BlockTree) (x : Given) →
    x.fits ≡ FALSE → x.parts.items ≡ [] → IsGivenFor d g shapes b x
nothing_given d g shapes b x none empty = record {
  fits = subst (Knows g.diagrams.table) (sym none) (omega arith);
  parts = subst (All (λ (p : ℕ × NodeId). Knows g.diagrams.table p.1)) (sym empty) (λ k p below. absurd (omega arith));
  move = inl none;
}

-- ---- all of them
pub given_none : (d : DesignTree) (g : GameData) (shapes : List MoveShape) (blocks : List BlockTree)
    (given : List Given) → given ≡ [] → AreGivenFor d g shapes blocks given 0
given_none d g shapes blocks given none = record {
  count_is = ap (λ (l : List Given). length l) none;
  each = λ k b x block there. absurd (nothing k x (sym (ap (λ (l : List Given). slice_get l k) none) ∙ there));
}
  where
    nothing : (k : ℕ) (x : Given) → slice_get [] k ≡ Some x → ⊥
    nothing k x there = let below = slice_get_within [] k x there in omega (arith, below)

pub given_more : (d : DesignTree) (g : GameData) (shapes : List MoveShape) (blocks : List BlockTree)
    (given more : List Given) (k : ℕ) (x : Given) → AreGivenFor d g shapes blocks given k →
    ((b : BlockTree) → slice_get blocks k ≡ Some b → IsGivenFor d g shapes b x) → more ≡ given ++ x ∷ [] →
    AreGivenFor d g shapes blocks more (k + 1)
given_more d g shapes blocks given more k x are last items = record {
  count_is = let long = length_push given x in
      let count = are.count_is in
      let same = ap (λ (l : List Given). length l) items in omega (arith, long, count, same);
  each = λ j b y block there.
      at j b y block (pushed_at given x j y (sym (ap (λ (l : List Given). slice_get l j) items) ∙ there));
}
  where
    at : (j : ℕ) (b : BlockTree) (y : Given) → slice_get blocks j ≡ Some b →
        (slice_get given j ≡ Some y) ⊎ ((j ≡ length given) × (x ≡ y)) → IsGivenFor d g shapes b y
    at j b y block (inl early) = are.each j b y block early
    at j b y block (inr here) =
        subst (IsGivenFor d g shapes b) here.1
        (last b (ap (λ (n : ℕ). slice_get blocks n) (sym (here.0 ∙ are.count_is)) ∙ block))

-- ---- the blocks of candidates
pub trees_pushed : (d : DesignTree) (c : Counts) (shapes : List MoveShape) (candidates : List Candidate) (k : ℕ)
    (x : Candidate) (list more : List Block) (b : Block) →
    block_trees list ≡ candidate_trees d c shapes (take k candidates) → k < length candidates →
    x ≡ get_or candidates k x → block_tree b ≡ candidate_tree d c shapes x → more ≡ list ++ b ∷ [] →
    block_trees more ≡ candidate_trees d c shapes (take (k + 1) candidates)
trees_pushed d c shapes candidates k x list more b before below this is items =
    ap block_trees items
    ∙ map-append block_tree list (b ∷ [])
    ∙ (λ i. before i ++ is i ∷ [])
    ∙ sym (map-append (candidate_tree d c shapes) (take k candidates) (x ∷ []))
    ∙ ap (λ (y : Candidate). candidate_trees d c shapes (take k candidates ++ y ∷ [])) this
    ∙ ap (candidate_trees d c shapes) (sym (take_more candidates k x below))

pub trees_ended : (d : DesignTree) (c : Counts) (shapes : List MoveShape) (candidates : List Candidate) (k : ℕ)
    (list more : List Block) (b : Block) → block_trees list ≡ candidate_trees d c shapes (take k candidates) →
    length candidates ≤ k → block_tree b ≡ idle → more ≡ list ++ b ∷ [] →
    block_trees more ≡ candidate_trees d c shapes candidates ++ idle ∷ []
trees_ended d c shapes candidates k list more b before all is items =
    ap block_trees items
    ∙ map-append block_tree list (b ∷ [])
    ∙ (λ i. before i ++ is i ∷ [])
    ∙ ap (λ (l : List Candidate). candidate_trees d c shapes l ++ idle ∷ [])
    (take_all k candidates all)

-- those of the candidates among them
pub given_among : (d : DesignTree) (g : GameData) (c : Counts) (shapes : List MoveShape) (candidates : List Candidate)
    (bs : List BlockTree) (k : ℕ) (b : BlockTree) → bs ≡ candidate_trees d c shapes candidates ++ idle ∷ [] →
    slice_get (candidate_trees d c shapes candidates) k ≡ Some b → slice_get bs k ≡ Some b
given_among d g c shapes candidates bs k b are there =
    ap (λ (l : List BlockTree). slice_get l k) are
    ∙ stays_at (candidate_trees d c shapes candidates) (idle ∷ []) k b there

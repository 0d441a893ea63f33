-- The tests of blocks lead to one move, and the blocks on the way fit the state.
use Rattle.std.proofs.Common.{◌≡◌, ℕ, ◌<◌, ◌≤◌, true, false, List, Option, None, Some, map, length, get_or, slice_get, All, refl, sym, ap, subst, ◌∙◌}
use Rattle.std.specs.Option.{option_map}
use Rattle.std.specs.List.{range_with_len}
use Rattle.std.proofs.Math.ListN.{get_or-map}
use Rattle.std.proofs.lemmas.List.{length-map}
use Rattle.std.proofs.lemmas.List.FromFn.{length-range_with_len}
use Rattle.std.proofs.lemmas.Slice.Zip.{AllZip-long}
use Rattle.std.proofs.lemmas.Option.{slice_get-map, slice_get_read}
use Rattle.tm_syntax.specs.Design.{DesignTree}
use Rattle.tm_sem.specs.State.{StateData}
use Rattle.tm_sem.specs.Step.{IsState}
use Rattle.tm_sem.specs.declared.state.Move.{Move}
use Rattle.tm_sem.specs.declared.state.Move.TheVariants as moves
use Rattle.tm_cir.specs.declared.block.Num64.{Num64}
use Rattle.tm_cir.specs.declared.block.Block.{Block}
use Rattle.tm_syntax.specs.declared.fault.Quantity.TheVariants as quantity
use Rattle.tm_syntax.specs.Faults.Limits.{limit_of}
use Rattle.tm_cir.specs.Tree.{BlockTree, test, call, leave, idle}
use Rattle.tm_cir.specs.View.{num_tree, block_tree, block_trees}
use Rattle.tm_cir.specs.Meaning.{num_value, holds}
use Rattle.tm_cir.specs.Fit.{FitBlocks, FitsNum, FitsTruth, FitsBlock, CoversDesign, AreOfOneDesign, IsLater}
use Rattle.tm_cir.specs.Answer.{AnswersFrom, goes_first, goes_second, calls, leaves, idles}

-- what an answer from a block on is, by the block
abbrev pub IsReadAs : List BlockTree → StateData → ℕ → Move → Option BlockTree → Type 0
IsReadAs bs s g m None = ⊥
IsReadAs bs s g m (Some (test t first second)) =
    (holds s g t ≡ true → AnswersFrom bs s g first m) × (holds s g t ≡ false → AnswersFrom bs s g second m)
IsReadAs bs s g m (Some (call task args)) = m ≡ moves.Call task (map (num_value s g) args)
IsReadAs bs s g m (Some (leave process)) = m ≡ moves.Leave process
IsReadAs bs s g m (Some idle) = m ≡ moves.Idle

pub read : (bs : List BlockTree) (s : StateData) (g : ℕ) {at : ℕ} {m : Move} → AnswersFrom bs s g at m →
    IsReadAs bs s g m (slice_get bs at)
read bs s g {m = m} (goes_first is so rest) = subst (IsReadAs bs s g m) (sym is) ((λ _. rest), (λ no. cc))
read bs s g {m = m} (goes_second is so rest) = subst (IsReadAs bs s g m) (sym is) ((λ yes. cc), (λ _. rest))
read bs s g {m = m} (calls is) = subst (IsReadAs bs s g m) (sym is) refl
read bs s g {m = m} (leaves is) = subst (IsReadAs bs s g m) (sym is) refl
read bs s g {m = m} (idles is) = subst (IsReadAs bs s g m) (sym is) refl

-- the blocks have one answer at most
pub same_answer : (bs : List BlockTree) (s : StateData) (g : ℕ) {at : ℕ} {m n : Move} → AnswersFrom bs s g at m →
    AnswersFrom bs s g at n → m ≡ n
same_answer bs s g {n = n} (goes_first is so rest) other =
    same_answer bs s g rest ((subst (IsReadAs bs s g n) is (read bs s g other)).0 so)
same_answer bs s g {n = n} (goes_second is so rest) other =
    same_answer bs s g rest ((subst (IsReadAs bs s g n) is (read bs s g other)).1 so)
same_answer bs s g {n = n} (calls is) other = sym (subst (IsReadAs bs s g n) is (read bs s g other))
same_answer bs s g {n = n} (leaves is) other = sym (subst (IsReadAs bs s g n) is (read bs s g other))
same_answer bs s g {n = n} (idles is) other = sym (subst (IsReadAs bs s g n) is (read bs s g other))

-- what evaluation needs of a block that fits a design that the state covers
abbrev pub FitsAt : StateData → ℕ → ℕ → BlockTree → Type 0
FitsAt s count at (test t first second) =
    FitsTruth (length s.values) (length s.places) t × IsLater at count first × IsLater at count second
FitsAt s count at (call task args) =
    (length args ≤ limit_of quantity.Arguments) × All (FitsNum (length s.values) (length s.places)) args
FitsAt s count at (leave process) = Unit {0}
FitsAt s count at idle = Unit {0}

fits_there : (d : DesignTree) (s : StateData) (count at : ℕ) (b : BlockTree) → CoversDesign d s →
    FitsBlock d count at b → FitsAt s count at b
fits_there d s count at (test t first second) covers fits = (rw (covers.values, covers.places) fits.0, fits.1, fits.2)
fits_there d s count at (call task args) covers fits = (fits.1, rw (covers.values, covers.places) fits.2)
fits_there d s count at (leave process) covers fits = tt
fits_there d s count at idle covers fits = tt

-- the block that the code reads at a place is that block of the trees
pub block_at : (bs : List Block) (trees : List BlockTree) (at : ℕ) (item b : Block) → block_trees bs ≡ trees →
    at < length bs → item ≡ get_or bs at item → item ≡ b → slice_get trees at ≡ Some (block_tree b)
block_at bs trees at item b same below here is =
    subst (λ ts. slice_get ts at ≡ Some (block_tree b)) same
    (slice_get-map block_tree bs at
    ∙ ap (option_map block_tree)
    (slice_get_read bs (length bs) at b refl below (subst (λ x. x ≡ get_or bs at x) is here)))

length_trees : (bs : List Block) (trees : List BlockTree) → block_trees bs ≡ trees → length trees ≡ length bs
length_trees bs trees same = ap length (sym same) ∙ length-map bs block_tree

-- it has what evaluation needs
pub fits_at : (bs : List Block) (trees : List BlockTree) (s : StateData) (at : ℕ) (item b : Block) →
    AreOfOneDesign trees s → block_trees bs ≡ trees → at < length bs → item ≡ get_or bs at item → item ≡ b →
    FitsAt s (length bs) at (block_tree b)
fits_at bs trees s at item b one same below here is =
    subst (λ n. FitsAt s n at (block_tree b)) (length_trees bs trees same)
    (fits_there one.design s (length trees) at (block_tree b) one.state
    (one.blocks.each at (block_tree b) (block_at bs trees at item b same below here is)))

-- what holds of each number's tree holds of each tree
pub All-trees : (vars processes : ℕ) (nums : List Num64) → All (FitsNum vars processes) (map num_tree nums) →
    All (λ n. FitsNum vars processes (num_tree n)) nums
All-trees vars processes nums all = λ k d below.
    subst (FitsNum vars processes) (get_or-map num_tree nums k d)
    (all k (num_tree d) (subst (λ n. k < n) (sym (length-map nums num_tree)) below))

-- a valid state of a design covers it, and blocks that fit the design are the state's
pub of_one_design : (d : DesignTree) (bs : List BlockTree) (s : StateData) → FitBlocks d bs → IsState d s →
    AreOfOneDesign bs s
of_one_design d bs s blocks state = record {
  design = d;
  blocks = blocks;
  state = record {
    values = AllZip-long _ d.vars s.values state.values;
    places = AllZip-long _ (range_with_len 0 (length d.processes)) s.places state.places
        ∙ length-range_with_len 0 (length d.processes);
  };
}

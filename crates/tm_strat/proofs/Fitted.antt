-- Spelled blocks fit a design.
use Rattle.std.proofs.Common.{◌≡◌, ◌⊎◌, inl, inr, true, false, ℕ, zero, suc, ◌+◌, ◌<◌, List, [], ◌∷◌, ◌++◌, Option}
use Rattle.std.proofs.Common.{None, Some, length, map, slice_get, refl, sym, ap, ◌∙◌, subst, arith}
use Rattle.tm_check.proofs.Pushed.{pushed_at}
use Rattle.std.specs.Prelude.{◌↔◌, ◌≤◌, All, IfSome, IsSome}
use Rattle.std.proofs.lemmas.List.{length_push}
use Rattle.std.proofs.lemmas.List.Elements.{All-append}
use Rattle.std.proofs.lemmas.Option.{slice_get_within}
use Rattle.tm_cir.specs.declared.block.Block.{Block}
use Rattle.tm_cir.specs.declared.block.Block.TheVariants as blocks
use Rattle.tm_cir.specs.declared.block.Num64.{Num64}
use Rattle.tm_cir.specs.declared.block.Truth.{Truth}
use Rattle.tm_cir.specs.declared.blocks.Blocks.{Blocks}
use Rattle.tm_cir.specs.Fit.{FitBlocks, FitsBlock, FitsNum, FitsTruth, parameter_count}
use Rattle.tm_cir.specs.Tree.{BlockTree, NumTree, call, idle, test}
use Rattle.tm_cir.specs.View.{block_tree, block_trees, num_tree, trees_of, truth_tree}
use Rattle.tm_strat.specs.declared.numbers.Counts.{Counts}
use Rattle.tm_strat.specs.Fitting.{AreSpelled, FitAnywhere, FitsCounts, IsSpelled}
use Rattle.tm_strat_drafts.specs.Blocks.{AreLater, FitsLater}
use Rattle.tm_strat_drafts.specs.declared.drafts.MoveChoice.{MoveChoice}
use Rattle.tm_strat_drafts.specs.declared.drafts.DraftBlock.{DraftBlock}
use Rattle.tm_strat_drafts.specs.declared.drafts.DraftBlock.TheVariants as drafts
use Rattle.tm_syntax.specs.Faults.Limits.{limit_of}
use Rattle.tm_syntax.specs.declared.fault.Quantity.TheVariants as quantity
use Rattle.tm_syntax.specs.Design.{DesignTree}

some_same : {A : Type 0} {x y : A} → Some x ≡ Some y → x ≡ y
some_same {A = A} {x = x} {y = y} e = ap (λ (o : Option A). or_else o) e
  where
    or_else : Option A → A
    or_else None = x
    or_else (Some z) = z

get_some : {A : Type 0} (xs : List A) (k : ℕ) → k < length xs → (x : A) × (slice_get xs k ≡ Some x)
get_some [] k below = absurd (omega arith)
get_some (x ∷ xs) zero below = (x, refl)
get_some (x ∷ xs) (suc k) below = get_some xs k (omega arith)

-- the block of a tree
block_of : (bs : List Block) (at : ℕ) (t : BlockTree) → slice_get (block_trees bs) at ≡ Some t →
    (b : Block) × (slice_get bs at ≡ Some b) × (block_tree b ≡ t)
block_of [] at t e = cc
block_of (b ∷ bs) zero t e = (b, refl, some_same e)
block_of (b ∷ bs) (suc at) t e = block_of bs at t e

length_trees : (bs : List Block) → length (block_trees bs) ≡ length bs
length_trees [] = refl
length_trees (b ∷ bs) = ap (λ n. suc n) (length_trees bs)

pub none_spelled : (d : DesignTree) (drafted : List DraftBlock) (bs : List Block) → bs ≡ [] → AreSpelled d drafted bs 0
none_spelled d drafted bs is =
    subst (λ (l : List Block). AreSpelled d drafted l 0) (sym is)
    (record { count = refl; each = λ k x b below there at. absurd (omega arith) })

pub spelled_more : (d : DesignTree) (drafted : List DraftBlock) (bs cs : List Block) (n : ℕ) (x : DraftBlock)
    (b : Block) → AreSpelled d drafted bs n → slice_get drafted n ≡ Some x → IsSpelled d x b → cs ≡ bs ++ b ∷ [] →
    AreSpelled d drafted cs (n + 1)
spelled_more d drafted bs cs n x b spelled there is items = record {
  count = ap (λ (l : List Block). length l) items ∙ long;
  each = λ k y c below here at. by k y c here
      (pushed_at bs b k c (subst (λ (l : List Block). slice_get l k ≡ Some c) items at));
}
  where
    long : length (bs ++ b ∷ []) ≡ n + 1
    long = let push = length_push bs b in let count = spelled.count in omega (arith, push, count)

    by : (k : ℕ) (y : DraftBlock) (c : Block) → slice_get drafted k ≡ Some y →
        (slice_get bs k ≡ Some c) ⊎ ((k ≡ length bs) × (b ≡ c)) → IsSpelled d y c
    by k y c here (inl before) =
        let within = slice_get_within bs k c before in
        let count = spelled.count in
        spelled.each k y c (omega (arith, within, count)) here before
    by k y c here (inr last) =
        let place = ap (λ (j : ℕ). slice_get drafted j) (sym (last.0 ∙ spelled.count)) in
        let same : x ≡ y = some_same (sym there ∙ place ∙ here) in
        subst (λ (z : DraftBlock). IsSpelled d z c) same (subst (λ (z : Block). IsSpelled d x z) last.1 is)

pub all_fit : (d : DesignTree) (tests : ℕ) (drafted : List DraftBlock) (bs : List Block) → AreLater tests drafted →
    AreSpelled d drafted bs (length drafted) → FitBlocks d (block_trees bs)
all_fit d tests drafted bs later spelled = record {
  some = let some = later.some in omega (arith, same, some);
  each = λ at t is. here at t (block_of bs at t is);
}
  where
    same : length (block_trees bs) ≡ length drafted
    same = length_trees bs ∙ spelled.count

    here : (at : ℕ) (t : BlockTree) → (b : Block) × (slice_get bs at ≡ Some b) × (block_tree b ≡ t) →
        FitsBlock d (length (block_trees bs)) at t
    here at t found =
        let within = slice_get_within bs at found.0 found.1 in
        let count = spelled.count in
        let below : at < length drafted = omega (arith, within, count) in
        let x = get_some drafted at below in
        subst (λ (n : ℕ). FitsBlock d n at t) (sym same)
        (subst (λ (u : BlockTree). FitsBlock d (length drafted) at u) found.2
        (spelled.each at x.0 found.0 below x.1 found.1 tests (length drafted) at (later.each at x.0 x.1)))

-- blocks that are spelled from drafted ones fit
pub spelled_fits : (d : DesignTree) (drafted given : List DraftBlock) (bs : List Block) →
    (tests : ℕ) × AreLater tests drafted → given ≡ drafted → AreSpelled d given bs (length given) →
    FitBlocks d (block_trees bs)
spelled_fits d drafted given bs later same spelled =
    all_fit d later.0 drafted bs later.1
    (subst (λ (l : List DraftBlock). AreSpelled d l bs (length l)) same spelled)

-- one block that moves leads on to later ones alone
pub idle_later : (m : MoveChoice) (none bs : List DraftBlock) → none ≡ [] → bs ≡ none ++ drafts.Move m ∷ [] →
    (tests : ℕ) × AreLater tests bs
idle_later m none bs empty items = (
  0,
  subst (AreLater 0) (sym (items ∙ ap (λ (l : List DraftBlock). l ++ drafts.Move m ∷ []) empty))
      (record { some = omega arith; each = λ at b there. one at b there }),
)
  where
    one : (at : ℕ) (b : DraftBlock) → slice_get (drafts.Move m ∷ []) at ≡ Some b → FitsLater 0 1 at b
    one zero b there = subst (FitsLater 0 1 0) (some_same there) tt
    one (suc at) b there = cc

-- blocks that were made are those that were given
pub same_made : (bs : List Block) (r : Option Blocks) (b : Blocks) → r ≡ Some b →
    IfSome r (λ made. trees_of made ≡ block_trees bs) → trees_of b ≡ block_trees bs
same_made bs None b is same = cc
same_made bs (Some x) b is same = subst (λ (y : Blocks). trees_of y ≡ block_trees bs) (some_same is) same

-- blocks that fit are made
pub never_none : (d : DesignTree) (bs : List Block) (r : Option Blocks) → r ≡ None → FitBlocks d (block_trees bs) →
    (IsSome r ↔ FitBlocks d (block_trees bs)) → ⊥
never_none d bs None is fits exact = no (exact.1 fits)
  where
    no : false ≡ true → ⊥
    no e = cc
never_none d bs (Some x) is fits exact = cc

-- ---- blocks that fit anywhere
pub none_anywhere : (d : DesignTree) (bs : List Block) → bs ≡ [] → FitAnywhere d bs
none_anywhere d bs is = subst (FitAnywhere d) (sym is) (record { each = λ k b there. none k b there })
  where
    none : (k : ℕ) (b : Block) → slice_get [] k ≡ Some b → (count at : ℕ) → FitsBlock d count at (block_tree b)
    none k b there = cc

pub anywhere_more : (d : DesignTree) (bs more : List Block) (b : Block) → FitAnywhere d bs →
    ((count at : ℕ) → FitsBlock d count at (block_tree b)) → more ≡ bs ++ b ∷ [] → FitAnywhere d more
anywhere_more d bs more b all one items = record {
  each = λ k c there. by k c (pushed_at bs b k c (subst (λ (l : List Block). slice_get l k ≡ Some c) items there));
}
  where
    by : (k : ℕ) (c : Block) → (slice_get bs k ≡ Some c) ⊎ ((k ≡ length bs) × (b ≡ c)) →
        (count at : ℕ) → FitsBlock d count at (block_tree c)
    by k c (inl before) = all.each k c before
    by k c (inr last) =
        subst (λ (x : Block). (count at : ℕ) → FitsBlock d count at (block_tree x)) last.1 one

-- moves and a block that idles
pub moves_fit : (d : DesignTree) (bs more : List Block) → FitAnywhere d bs → more ≡ bs ++ blocks.Idle ∷ [] →
    FitBlocks d (block_trees more)
moves_fit d bs more all items = record {
  some = let long = length_push bs blocks.Idle in
      let count : length more ≡ length (bs ++ blocks.Idle ∷ []) = ap (λ (l : List Block). length l) items in
      let same = length_trees more in omega (arith, long, count, same);
  each = λ at t is. here at t (block_of more at t is);
}
  where
    every : FitAnywhere d more
    every = anywhere_more d bs more blocks.Idle all (λ count at. tt) items

    here : (at : ℕ) (t : BlockTree) → (b : Block) × (slice_get more at ≡ Some b) × (block_tree b ≡ t) →
        FitsBlock d (length (block_trees more)) at t
    here at t found =
        subst (λ (u : BlockTree). FitsBlock d (length (block_trees more)) at u) found.2
        (every.each at found.0 found.1 (length (block_trees more)) at)

pub ruleset anywhere = (none_anywhere, anywhere_more, moves_fit)

-- a test and a block that idles
pub one_test : (d : DesignTree) (c : Counts) (truth : Truth) (none bs more : List Block) → FitsCounts d c →
    FitsTruth c.vars c.processes (truth_tree truth) → none ≡ [] → bs ≡ none ++ blocks.Test truth 1 1 ∷ [] →
    more ≡ bs ++ blocks.Idle ∷ [] → FitBlocks d (block_trees more)
one_test d c truth none bs more fits holds empty first second =
    subst (λ (l : List Block). FitBlocks d (block_trees l)) (sym items) (record {
      some = omega arith;
      each = λ at t is. one at t is;
    })
  where
    items : more ≡ blocks.Test truth 1 1 ∷ blocks.Idle ∷ []
    items = second ∙ ap (λ (l : List Block). l ++ blocks.Idle ∷ [])
        (first ∙ ap (λ (l : List Block). l ++ blocks.Test truth 1 1 ∷ []) empty)

    tested : FitsTruth (length d.vars) (length d.processes) (truth_tree truth)
    tested =
        subst (λ (k : ℕ). FitsTruth k (length d.processes) (truth_tree truth)) fits.vars
        (subst (λ (k : ℕ). FitsTruth c.vars k (truth_tree truth)) fits.processes holds)

    one : (at : ℕ) (t : BlockTree) →
        slice_get (test (truth_tree truth) 1 1 ∷ idle ∷ []) at ≡ Some t → FitsBlock d 2 at t
    one zero t is =
        subst (FitsBlock d 2 0) (some_same is) (tested, (omega arith, omega arith), (omega arith, omega arith))
    one (suc zero) t is = subst (FitsBlock d 2 1) (some_same is) tt
    one (suc (suc at)) t is = cc

-- ---- single blocks
length_nums : (nums : List Num64) → length (map num_tree nums) ≡ length nums
length_nums [] = refl
length_nums (n ∷ ns) = ap (λ k. suc k) (length_nums ns)

pub call_fits : (d : DesignTree) (c : Counts) (task n : ℕ) (nums : List Num64) (count at : ℕ) → FitsCounts d c →
    All (FitsNum c.vars c.processes) (map num_tree nums) →
    (parameter_count d task ≡ Some n) × (n ≤ limit_of quantity.Arguments) → n ≡ length nums →
    FitsBlock d count at (call task (map num_tree nums))
call_fits d c task n nums count at fits all enough same = (
  enough.0 ∙ ap Some there,
  subst (λ (k : ℕ). k ≤ limit_of quantity.Arguments) there enough.1,
  subst (λ (k : ℕ). All (FitsNum k (length d.processes)) (map num_tree nums)) fits.vars
      (subst (λ (k : ℕ). All (FitsNum c.vars k) (map num_tree nums)) fits.processes all),
)
  where
    there : n ≡ length (map num_tree nums)
    there = same ∙ sym (length_nums nums)

pub test_fits : (d : DesignTree) (c : Counts) (truth : Truth) (number first second : ℕ) → FitsCounts d c →
    FitsTruth c.vars c.processes (truth_tree truth) →
    IsSpelled d (drafts.Test number first second) (blocks.Test truth first second)
test_fits d c truth number first second fits holds tests count at later = (
  subst (λ (k : ℕ). FitsTruth k (length d.processes) (truth_tree truth)) fits.vars
      (subst (λ (k : ℕ). FitsTruth c.vars k (truth_tree truth)) fits.processes holds),
  (later.1, later.2),
  (later.3, later.4),
)

map_more : (nums : List Num64) (num : Num64) → map num_tree (nums ++ num ∷ []) ≡ map num_tree nums ++ num_tree num ∷ []
map_more [] num = refl
map_more (n ∷ ns) num = ap (λ (l : List NumTree). num_tree n ∷ l) (map_more ns num)

one_fits : (vars processes : ℕ) (n : NumTree) → FitsNum vars processes n → All (FitsNum vars processes) (n ∷ [])
one_fits vars processes n fits zero other below = fits
one_fits vars processes n fits (suc k) other below = absurd (omega arith)

pub nums_more : (vars processes : ℕ) (nums more : List Num64) (num : Num64) →
    All (FitsNum vars processes) (map num_tree nums) → FitsNum vars processes (num_tree num) →
    more ≡ nums ++ num ∷ [] → All (FitsNum vars processes) (map num_tree more)
nums_more vars processes nums more num all fits items =
    subst (λ (l : List Num64). All (FitsNum vars processes) (map num_tree l)) (sym items)
    (subst (All (FitsNum vars processes)) (sym (map_more nums num))
    (All-append (FitsNum vars processes) (map num_tree nums) (num_tree num ∷ []) all
    (one_fits vars processes (num_tree num) fits)))

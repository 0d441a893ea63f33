-- Drafted blocks in C, one more at a time, and constants by their bits.
use Rattle.std.proofs.Common.{◌≡◌, ℕ, zero, suc, ◌+◌, ◌*◌, ◌<◌, ◌≤◌, ◌/◌, ◌%◌, ◌^◌, ◌-◌, ◌==◌, Bool, false, List, []}
use Rattle.std.proofs.Common.{◌∷◌, ◌++◌, Some, length, map, get_or, slice_get, take, drop, append_assoc, drop-cons}
use Rattle.std.proofs.Common.{refl, sym, ap, ◌∙◌, subst, arith}
use Rattle.std.proofs.lemmas.List.{map_more, map_push, get_or_past}
use Rattle.std.proofs.lemmas.List.FromFn.{length-map-range_with_len, map-range_with_len_more}
use Rattle.std.proofs.lemmas.Option.{get_or_from_slice_get, slice_get_within}
use Rattle.std.specs.List.{range_with_len}
use Rattle.std.specs.Prelude.{min}
use Rattle.tm_base.proofs.BitLists.{number_of-append}
use Rattle.tm_base.specs.Arithmetic.{bit}
use Rattle.tm_base.specs.Bits.{bits_of, number_of}
use Rattle.tm_cir.specs.declared.block.Block.{Block}
use Rattle.tm_cir.specs.declared.block.Num64.{Num64}
use Rattle.tm_cir.specs.View.{block_tree, block_trees, num_tree}
use Rattle.tm_flat.specs.BitRun.{number_at}
use Rattle.tm_game_bits.proofs.Numbers.{number_below}
use Rattle.tm_strat.proofs.Constants.{bits_length}
use Rattle.tm_strat.proofs.Parts.{bit_is}
use Rattle.tm_strat.specs.Spelled.{bit_in, constants_from, draft_tree}
use Rattle.tm_strat.specs.Trees.{expression_tree}
use Rattle.tm_strat.specs.declared.expressions.Expression.{Expression}
use Rattle.tm_strat.specs.declared.expressions.Expression.TheVariants as expressions
use Rattle.tm_strat.specs.declared.numbers.Counts.{Counts}
use Rattle.tm_strat.specs.declared.spelling.Spelling.{Spelling}
use Rattle.tm_strat_drafts.specs.declared.drafts.DraftBlock.{DraftBlock}
use Rattle.tm_syntax.specs.Design.{DesignTree}

-- ---- lists
-- one item more of a list that is seen through a function
pub taken_more : {A B : Type 0} (f : A → B) (xs : List A) (i : ℕ) (x : A) → slice_get xs i ≡ Some x →
    map f (take (i + 1) xs) ≡ map f (take i xs) ++ f x ∷ []
taken_more f xs i x at =
    map_more f xs i x (slice_get_within xs i x at)
    ∙ ap (λ y. map f (take i xs) ++ f y ∷ []) (get_or_from_slice_get xs i x x at)

pub all_taken : {A : Type 0} (xs : List A) (k : ℕ) → length xs ≤ k → take k xs ≡ xs
all_taken [] zero above = refl
all_taken [] (suc k) above = refl
all_taken (x ∷ xs) zero above = absurd (omega arith)
all_taken (x ∷ xs) (suc k) above = ap (λ ys. x ∷ ys) (all_taken xs k (omega (arith, above)))

-- ---- blocks
pub drafts_more : (d : DesignTree) (sp : Spelling) (drafted : List DraftBlock) (i : ℕ) (x : DraftBlock)
    (bs cs : List Block) (b : Block) → slice_get drafted i ≡ Some x →
    block_trees bs ≡ map (draft_tree d sp) (take i drafted) → block_tree b ≡ draft_tree d sp x →
    cs ≡ bs ++ b ∷ [] → block_trees cs ≡ map (draft_tree d sp) (take (i + 1) drafted)
drafts_more d sp drafted i x bs cs b at so_far same items =
    ap block_trees items
    ∙ map_push block_tree bs b
    ∙ (λ k. so_far k ++ same k ∷ [])
    ∙ sym (taken_more (draft_tree d sp) drafted i x at)

pub all_drafts : (d : DesignTree) (sp : Spelling) (drafted : List DraftBlock) (n : ℕ) (bs : List Block) →
    length drafted ≤ n → block_trees bs ≡ map (draft_tree d sp) (take n drafted) →
    block_trees bs ≡ map (draft_tree d sp) drafted
all_drafts d sp drafted n bs all so_far = so_far ∙ ap (map (draft_tree d sp)) (all_taken drafted n all)

-- ---- arguments
pub arguments_more : (c : Counts) (given : List Expression) (i : ℕ) (x : Expression) (nums more : List Num64)
    (n : Num64) → slice_get given i ≡ Some x → map num_tree nums ≡ map (expression_tree c) (take i given) →
    num_tree n ≡ expression_tree c x → more ≡ nums ++ n ∷ [] →
    map num_tree more ≡ map (expression_tree c) (take (i + 1) given)
arguments_more c given i x nums more n at so_far same items =
    ap (map num_tree) items
    ∙ map_push num_tree nums n
    ∙ (λ k. so_far k ++ same k ∷ [])
    ∙ sym (taken_more (expression_tree c) given i x at)

pub all_arguments : (c : Counts) (given : List Expression) (n : ℕ) (nums : List Num64) → length given ≤ n →
    map num_tree nums ≡ map (expression_tree c) (take n given) → map num_tree nums ≡ map (expression_tree c) given
all_arguments c given n nums all so_far = so_far ∙ ap (map (expression_tree c)) (all_taken given n all)

-- ---- constants
-- one bit more of a number
pub number_more : (bits first i number : ℕ) (b : Bool) (more : ℕ) → number ≡ number_at (bit_in bits) first i →
    b ≡ bit_in bits (first + i) → more ≡ number * 2 + bit b → more ≡ number_at (bit_in bits) first (i + 1)
number_more bits first i number b more so_far is same =
    let double = number_of-append (map (bit_in bits) (range_with_len first i)) (bit_in bits (first + i)) in
    let own : more ≡ bit (bit_in bits (first + i)) + 2 * number_at (bit_in bits) first i =
    same ∙ (λ k. so_far k * 2 + bit (is k)) ∙ omega arith in
    own
    ∙ sym double
    ∙ sym (ap number_of (map-range_with_len_more (bit_in bits) first i (first + i) refl))

-- a number of so many bits is small
pub number_small : (bits first i : ℕ) → number_at (bit_in bits) first i < 2 ^ i
number_small bits first i =
    subst (λ (n : ℕ). number_at (bit_in bits) first i < 2 ^ n) (length-map-range_with_len (bit_in bits) first i)
    (number_below (map (bit_in bits) (range_with_len first i)))

-- a bit of a number of 64, by its weight
pub bit_there : (bits k : ℕ) → k < 64 → bit_in bits k ≡ (bits / 2 ^ (63 - k) % 2 == 1)
bit_there bits k below = bit_is 64 bits k below ∙ ap (λ e. bits / 2 ^ e % 2 == 1) same
  where
    same : 64 - 1 - k ≡ 63 - k
    same = omega arith

pub bit_past : (bits k : ℕ) → 64 ≤ k → bit_in bits k ≡ false
bit_past bits k above =
    get_or_past (bits_of 64 bits) k false (let long = bits_length 64 bits in omega (arith, long, above))

-- one constant more
pub constants_more : (bits first next i : ℕ) (widths : List ℕ) (w n : ℕ) (found more whole : List Expression) →
    i < length widths → w ≡ get_or widths i 0 → n ≡ number_at (bit_in bits) first (min w 64) →
    next ≡ min (first + w) 64 → more ≡ found ++ expressions.Constant n ∷ [] →
    found ++ constants_from bits first (drop i widths) ≡ whole →
    more ++ constants_from bits next (drop (i + 1) widths) ≡ whole
constants_more bits first next i widths w n found more whole below is number behind items so_far =
    ap (λ (l : List Expression). l ++ constants_from bits next (drop (i + 1) widths)) items
    ∙ append_assoc found (expressions.Constant n ∷ []) (constants_from bits next (drop (i + 1) widths))
    ∙ (λ k. found ++ expressions.Constant (number k) ∷ constants_from bits (behind k) (drop (i + 1) widths))
    ∙ ap (λ (l : List ℕ). found ++ constants_from bits first l) (sym left)
    ∙ so_far
  where
    next_place : i + 1 ≡ suc i
    next_place = omega arith

    left : drop i widths ≡ w ∷ drop (i + 1) widths
    left =
        drop-cons widths i 0 below
        ∙ (λ k. sym is k ∷ drop (sym next_place k) widths)

pub all_constants : (bits first i : ℕ) (widths : List ℕ) (found whole : List Expression) → length widths ≤ i →
    found ++ constants_from bits first (drop i widths) ≡ whole → found ≡ whole
all_constants bits first i widths found whole all so_far =
    sym (append_nil found)
    ∙ ap (λ (l : List ℕ). found ++ constants_from bits first l) (sym (none_left widths i all))
    ∙ so_far
  where
    none_left : {A : Type 0} (xs : List A) (k : ℕ) → length xs ≤ k → drop k xs ≡ []
    none_left [] zero above = refl
    none_left [] (suc k) above = refl
    none_left (x ∷ xs) zero above = absurd (omega arith)
    none_left (x ∷ xs) (suc k) above = none_left xs k (omega (arith, above))

    append_nil : {A : Type 0} (xs : List A) → xs ++ [] ≡ xs
    append_nil [] = refl
    append_nil (x ∷ xs) = ap (λ ys. x ∷ ys) (append_nil xs)

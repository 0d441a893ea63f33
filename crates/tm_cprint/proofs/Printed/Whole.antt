-- The printed text is its blocks.
use Rattle.std.proofs.Common.{◌≡◌, ℕ, ◌^◌, ◌<◌, List, [], ◌∷◌, ◌++◌, length, codes, Vec, refl, sym, ap, subst, ◌∙◌, arith}
use Rattle.std.proofs.lemmas.List.{length-map}
use Rattle.tm_syntax.specs.declared.design.Design.{Design}
use Rattle.tm_syntax.specs.Design.{DesignTree}
use Rattle.tm_syntax.specs.Design.View.{design_tree}
use Rattle.tm_cir.specs.declared.blocks.Blocks.{Blocks}
use Rattle.tm_cir.specs.View.{block_tree, trees_of}
use Rattle.tm_cir.specs.Tree.{BlockTree}
use Rattle.tm_cir.specs.Fit.{FitBlocks}
use Rattle.tm_cir.specs.Text.{IsDriverText}
use Rattle.tm_cir.specs.Text.Token.{void, driver_turn, open_parenthesis, close_parenthesis, open_brace, close_brace, sign}
use Rattle.tm_cir.specs.Text.Grammar.{driver_tokens, block_tokens}
use Rattle.tm_cir.specs.Text.Spelling.{AreTokens, no_more, blank, none, line_feed}
use Rattle.tm_cir.proofs.Text.Whole.{one_driver}
use Rattle.tm_cprint.specs.Layout.{blocks_text, driver_text}
use Rattle.tm_cprint.proofs.Printed.Pieces.{sign_then, word_then, space_then}
use Rattle.tm_cprint.proofs.Printed.Expressions.{IsCounted}
use Rattle.tm_cprint.proofs.Printed.Blocks.{blocks_print}

-- the text behind the line of the include
abbrev body_text : DesignTree → List BlockTree → List ℕ
body_text d bs = codes "\nvoid driver_turn(void)\n{\n" ++ (blocks_text d 0 bs ++ codes "}\n")

body_is : (d : DesignTree) → IsCounted d → (bs : List BlockTree) → length bs < 2 ^ 64 → FitBlocks d bs →
    AreTokens d (body_text d bs) (driver_tokens bs)
body_is d counted bs few fits =
    let end : AreTokens d (codes "}\n") (sign close_brace ∷ []) = sign_then close_brace (blank refl no_more) refl in
    let inner : AreTokens d (blocks_text d 0 bs ++ codes "}\n") (block_tokens 0 bs ++ sign close_brace ∷ []) =
    blocks_print d counted (length bs) few bs 0 (omega arith) (λ at b is. (at, fits.each at b is)) _ _ end in
    blank refl
    (word_then void
    (space_then
    (word_then driver_turn
    (sign_then open_parenthesis
    (word_then void
    (sign_then close_parenthesis (blank refl (sign_then open_brace (blank refl inner) refl)) refl) refl) refl)
    refl)) refl)

-- the printed text is its blocks
pub is_driver : (d : DesignTree) → IsCounted d → (bs : List BlockTree) → length bs < 2 ^ 64 → FitBlocks d bs →
    (text : List ℕ) → text ≡ driver_text d bs → IsDriverText d text bs
is_driver d counted bs few fits text is =
    let printed : IsDriverText d (driver_text d bs) bs = record {
      body = body_text d bs;
      include = record { line = codes "\n" ++ body_text d bs; include = none; ends = line_feed };
      function = body_is d counted bs few fits;
      fits = fits;
    } in
    subst (λ (t : List ℕ). IsDriverText d t bs) (sym is) printed

-- a list in memory is not longer than a number of 64 bits tells
pub short : {T Z : Type 0} (v : Vec T Z) → length v.items < 2 ^ 64
short v = omega (arith, v.ok, v.small)

-- a design in memory has not more items than a number of 64 bits tells
pub counted : (d : Design) → IsCounted (design_tree d)
counted d = record { vars = short d.vars; processes = short d.processes; tasks = short d.tasks }

few_blocks : (blocks : Blocks) → length (trees_of blocks) < 2 ^ 64
few_blocks blocks =
    subst (λ (n : ℕ). n < 2 ^ 64) (sym (length-map blocks.list.items block_tree)) (short blocks.list)

-- what was put behind an empty text is the printed text
pub is_laid_out : (d : DesignTree) (shown bs : List BlockTree) (start first second text : List ℕ) → start ≡ [] →
    first ≡ start ++ codes "#include \"termite.h\"\n\nvoid driver_turn(void)\n{\n" →
    second ≡ first ++ blocks_text d 0 shown → text ≡ second ++ codes "}\n" → shown ≡ bs → text ≡ driver_text d bs
is_laid_out d shown bs start first second text empty head blocks end same =
    let all : second ≡ codes "#include \"termite.h\"\n\nvoid driver_turn(void)\n{\n" ++ blocks_text d 0 bs =
    blocks ∙ ap (λ (s : List ℕ). s ++ blocks_text d 0 shown)
    (head ∙ ap (λ (s : List ℕ). s ++ codes "#include \"termite.h\"\n\nvoid driver_turn(void)\n{\n") empty)
    ∙ ap
    (λ (l : List BlockTree). codes "#include \"termite.h\"\n\nvoid driver_turn(void)\n{\n" ++ blocks_text d 0 l) same in
    end ∙ ap (λ (s : List ℕ). s ++ codes "}\n") all

-- the text that is printed of blocks in memory is these blocks
pub reads_so : (design : Design) (blocks : Blocks) (text : List ℕ) → FitBlocks (design_tree design) (trees_of blocks) →
    text ≡ driver_text (design_tree design) (trees_of blocks) → IsDriverText (design_tree design) text (trees_of blocks)
reads_so design blocks text fits is =
    is_driver (design_tree design) (counted design) (trees_of blocks) (few_blocks blocks) fits text is

-- and no others
pub reads_only_so : (design : Design) (blocks : Blocks) (text : List ℕ) →
    FitBlocks (design_tree design) (trees_of blocks) → text ≡ driver_text (design_tree design) (trees_of blocks) →
    (bs : List BlockTree) → IsDriverText (design_tree design) text bs → bs ≡ trees_of blocks
reads_only_so design blocks text fits is bs reads =
    one_driver (design_tree design) text bs (trees_of blocks) reads (reads_so design blocks text fits is)

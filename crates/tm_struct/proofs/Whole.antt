-- A structured text is one driver, and the printed text is its driver and no other.
use Rattle.std.proofs.Common.{◌≡◌, ℕ, ◌^◌, ◌<◌, Bool, cond, ◌==◌, List, [], ◌∷◌, ◌++◌, length, drop, codes, refl, ap, sym, subst, ◌∙◌}
use Rattle.std.proofs.lemmas.List.{append_cancel_left, length-map}
use Rattle.tm_syntax.specs.declared.design.Design.{Design}
use Rattle.tm_syntax.specs.Tokens.{is_blank}
use Rattle.tm_syntax.specs.Design.{DesignTree}
use Rattle.tm_syntax.specs.Design.View.{design_tree}
use Rattle.tm_cir.specs.Text.Spelling.{EndsLine, space, tab, carriage_return, line_feed, SkipsBlanks, none, skip, HasInclude}
use Rattle.tm_cprint.proofs.Printed.Whole.{short, counted}
use Rattle.tm_struct.specs.declared.program.Structured.{Structured}
use Rattle.tm_struct.specs.Tree.{ActionTree, ProgramTree}
use Rattle.tm_struct.specs.View.{action_tree, action_trees, program_tree}
use Rattle.tm_struct.specs.Fit.{FitsProgram}
use Rattle.tm_struct.specs.Text.{IsStructuredText}
use Rattle.tm_struct.specs.Text.Grammar.{program_tokens}
use Rattle.tm_struct.specs.Text.Spelling.{AreTokens}
use Rattle.tm_struct.specs.Layout.{body_text, functions_text, program_text}
use Rattle.tm_struct.proofs.Cuts.{same_tokens}
use Rattle.tm_struct.proofs.Grammar.{same_program}
use Rattle.tm_struct.proofs.Printed.{is_structured}

-- what stands behind the blanks in front
abbrev past_blanks : List ℕ → List ℕ
past_blanks [] = []
past_blanks (b ∷ bs) = cond (is_blank b) (past_blanks bs) (b ∷ bs)

blanks_read : {text rest : List ℕ} → SkipsBlanks text rest → past_blanks rest ≡ rest → past_blanks text ≡ rest
blanks_read none ends = ends
blanks_read (skip {b = b} {text = text} is skips) ends =
    ap (λ (v : Bool). cond v (past_blanks text) (b ∷ text)) is ∙ blanks_read skips ends

-- what stands behind the line feed; a carriage return has one behind it
abbrev past_line : List ℕ → List ℕ
past_line [] = []
past_line (b ∷ bs) = cond (b == 10) bs (cond (b == 13) (drop 1 bs) (past_line bs))

line_read : {text rest : List ℕ} → EndsLine text rest → past_line text ≡ rest
line_read (space ends) = line_read ends
line_read (tab ends) = line_read ends
line_read carriage_return = refl
line_read line_feed = refl

-- one text follows the include
same_body : (text one other : List ℕ) → HasInclude text one → HasInclude text other → one ≡ other
same_body text one other first second =
    let lines : first.line ≡ second.line =
    append_cancel_left (codes "#include \"termite.h\"") first.line second.line
    (sym (blanks_read first.include refl) ∙ blanks_read second.include refl) in
    sym (line_read first.ends) ∙ ap past_line lines ∙ line_read second.ends

-- a text is one driver over a design
pub one_program : (d : DesignTree) (text : List ℕ) (one other : ProgramTree) →
    IsStructuredText d text one → IsStructuredText d text other → one ≡ other
one_program d text one other first second =
    let body : second.body ≡ first.body = same_body text second.body first.body second.include first.include in
    same_program one other
    (same_tokens d first.functions
    (subst (λ (x : List ℕ). AreTokens d x (program_tokens other)) body second.functions))

few_functions : (program : Structured) → length (program_tree program).functions < 2 ^ 64
few_functions program =
    subst (λ (n : ℕ). n < 2 ^ 64) (sym (length-map program.functions.items action_tree)) (short program.functions)

-- what was put behind an empty text is the printed text
pub is_laid_out : (d : DesignTree) (shown functions : List ActionTree) (main : ActionTree)
    (start first second third text : List ℕ) → start ≡ [] → first ≡ start ++ codes "#include \"termite.h\"\n\n" →
    second ≡ first ++ functions_text d 0 shown → third ≡ second ++ codes "void driver_turn" →
    text ≡ third ++ body_text d main → shown ≡ functions →
    text ≡ program_text d (record { functions = functions; main = main })
is_laid_out d shown functions main start first second third text empty head all turn end same =
    let include : List ℕ = codes "#include \"termite.h\"\n\n" in
    let first_is : first ≡ include = head ∙ ap (λ (s : List ℕ). s ++ include) empty in
    let second_is : second ≡ include ++ functions_text d 0 functions =
    all ∙ ap (λ (s : List ℕ). s ++ functions_text d 0 shown) first_is
    ∙ ap (λ (l : List ActionTree). include ++ functions_text d 0 l) same in
    end
    ∙ ap (λ (s : List ℕ). s ++ body_text d main)
    (turn ∙ ap (λ (s : List ℕ). s ++ codes "void driver_turn") second_is)

-- the text that is printed of a driver in memory is this driver
pub reads_so : (design : Design) (program : Structured) (text : List ℕ) →
    FitsProgram (design_tree design) (program_tree program) →
    text ≡ program_text (design_tree design) (program_tree program) →
    IsStructuredText (design_tree design) text (program_tree program)
reads_so design program text fits is =
    is_structured (design_tree design) (counted design) (program_tree program) (few_functions program) fits text is

-- and no other
pub reads_only_so : (design : Design) (program : Structured) (text : List ℕ) →
    FitsProgram (design_tree design) (program_tree program) →
    text ≡ program_text (design_tree design) (program_tree program) →
    (p : ProgramTree) → IsStructuredText (design_tree design) text p → p ≡ program_tree program
reads_only_so design program text fits is p reads =
    one_program (design_tree design) text p (program_tree program) reads (reads_so design program text fits is)

-- A text is one list of blocks.
use Rattle.std.proofs.Common.{◌≡◌, ℕ, Bool, cond, ◌==◌, List, [], ◌∷◌, drop, codes, refl, ap, sym, subst, ◌∙◌}
use Rattle.std.proofs.lemmas.List.{append_cancel_left}
use Rattle.tm_syntax.specs.Tokens.{is_blank}
use Rattle.tm_syntax.specs.Design.{DesignTree}
use Rattle.tm_cir.specs.Tree.{BlockTree}
use Rattle.tm_cir.specs.Text.{IsDriverText}
use Rattle.tm_cir.specs.Text.Grammar.{driver_tokens}
use Rattle.tm_cir.specs.Text.Spelling.{AreTokens, EndsLine, space, tab, carriage_return, line_feed, SkipsBlanks, none, skip, HasInclude}
use Rattle.tm_cir.proofs.Text.Cuts.{same_tokens}
use Rattle.tm_cir.proofs.Text.Functions.{same_driver}

-- what stands behind the blanks in front
abbrev past_blanks : List ℕ → List ℕ
past_blanks [] = []
past_blanks (b ∷ bs) = cond (is_blank b) (past_blanks bs) (b ∷ bs)

blanks_read : {text rest : List ℕ} → SkipsBlanks text rest → past_blanks rest ≡ rest → past_blanks text ≡ rest
blanks_read none ends = ends
blanks_read (skip {b = b} {text = text} is skips) ends =
    ap (λ (v : Bool). cond v (past_blanks text) (b ∷ text)) is ∙ blanks_read skips ends

-- what stands behind the line feed; a carriage return has one behind it
abbrev past_line : List ℕ → List ℕ
past_line [] = []
past_line (b ∷ bs) = cond (b == 10) bs (cond (b == 13) (drop 1 bs) (past_line bs))

line_read : {text rest : List ℕ} → EndsLine text rest → past_line text ≡ rest
line_read (space ends) = line_read ends
line_read (tab ends) = line_read ends
line_read carriage_return = refl
line_read line_feed = refl

-- one text follows the include
same_body : (text one other : List ℕ) → HasInclude text one → HasInclude text other → one ≡ other
same_body text one other first second =
    let lines : first.line ≡ second.line =
    append_cancel_left (codes "#include \"termite.h\"") first.line second.line
    (sym (blanks_read first.include refl) ∙ blanks_read second.include refl) in
    sym (line_read first.ends) ∙ ap past_line lines ∙ line_read second.ends

-- a text is one list of blocks over a design
pub one_driver : (d : DesignTree) (text : List ℕ) (one other : List BlockTree) →
    IsDriverText d text one → IsDriverText d text other → one ≡ other
one_driver d text one other first second =
    let body : second.body ≡ first.body = same_body text second.body first.body second.include first.include in
    same_driver one other
    (same_tokens d first.function
    (subst (λ (x : List ℕ). AreTokens d x (driver_tokens other)) body second.function))

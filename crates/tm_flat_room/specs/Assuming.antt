-- Which texts assume nothing: by their tokens, and by their trees.
use Rattle.std.specs.Prelude.{◌≡◌, Bool, true, false, List}
use Rattle.std.specs.List.{list_any, AllByRecursion}
use Rattle.tm_syntax.specs.declared.token.Token.{Token}
use Rattle.tm_syntax.specs.declared.token.TokenKind.{TokenKind}
use Rattle.tm_syntax.specs.declared.token.TokenKind.TheVariants as token
use Rattle.tm_syntax.specs.declared.token.Word.{Word}
use Rattle.tm_syntax.specs.declared.token.Word.TheVariants as word
use Rattle.tm_syntax.specs.Tree.{StmtTree, assign, invoke, branch, repeat, forever, choose, assert, assume, pause, wait, magic, nowhere, or_else, SpecTree}
use Rattle.tm_syntax.specs.Scopes.Parts.{BodyAt, bodies, stmts_in}

-- whether a reserved word is `assume`
abbrev pub is_assume : Word → Bool
is_assume word.Assume = true
is_assume _ = false

-- whether a token is the word `assume`
abbrev pub assumes : TokenKind → Bool
assumes (token.Word w) = is_assume w
assumes _ = false

-- whether the word `assume` stands among tokens
abbrev pub has_assume : List Token → Bool
has_assume tokens = list_any (λ t. assumes t.kind) tokens

-- whether a statement may end a run without an outcome, whatever is chosen: an assumption, or a `choice` of nothing
abbrev pub may_block : StmtTree → Bool
may_block (assign _ _ _) = false
may_block (invoke _ _) = false
may_block (branch _ _ _) = false
may_block (repeat _ _ _) = false
may_block (forever _ _) = false
may_block (choose _ nowhere) = true
may_block (choose _ (or_else _ _)) = false
may_block (assert _ _) = false
may_block (assume _ _) = true
may_block (pause _) = false
may_block (wait _ _) = false
may_block (magic _) = false

-- no statement of a tree is such a one
abbrev pub AssumesNothing : SpecTree → Type 0
AssumesNothing spec =
    AllByRecursion (λ (b : BodyAt). AllByRecursion (λ s. may_block s ≡ false) (stmts_in b.body)) (bodies spec)

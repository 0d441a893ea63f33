-- The reserved words by their first bytes.
use Rattle.std.specs.Prelude.{ℕ, List, [], ◌∷◌, nat_eq, slice_index}
use Rattle.std.specs.List.{filter}
use Rattle.tm_syntax.specs.declared.token.Word.{Word}
use Rattle.tm_syntax.specs.declared.token.Word.TheVariants as word
use Rattle.tm_syntax.specs.Tokens.{word_text}

-- the byte that a reserved word begins with
abbrev pub first_byte : Word → ℕ
first_byte w = slice_index (word_text w) 0

-- the reserved words, in the order in which they are listed in the language's definition
abbrev pub words : List Word
words =
    word.Typedef ∷ word.Enum ∷ word.Template ∷ word.EndTemplate ∷ word.Instance ∷ word.Bool ∷ word.Uint ∷ word.Goal
    ∷ word.Fair ∷ word.Lazy ∷ word.Process ∷ word.Task ∷ word.Controllable ∷ word.Uncontrollable ∷ word.Procedure
    ∷ word.Void ∷ word.Return ∷ word.If ∷ word.Else ∷ word.While ∷ word.Forever ∷ word.Choice ∷ word.Or ∷ word.Assert
    ∷ word.Assume ∷ word.Pause ∷ word.Wait ∷ word.True ∷ word.False ∷ []

-- those that begin with this byte
abbrev pub words_from : ℕ → List Word
words_from first = filter (λ w. nat_eq first (first_byte w)) words

-- The text of a path with `_` in the place of each dot is a word.
use Rattle.std.proofs.Common.{◌≡◌, ℕ, Bool, true, false, List, [], ◌∷◌, refl, ◌||◌, ◌==◌, cond}
use Rattle.std.specs.Prelude.{if◌then◌else◌}
use Rattle.std.proofs.lemmas.List.Elements.{All-map, All-weaker}
use Rattle.tm_syntax.specs.Tokens.{begins_name, continues_name, IsWordLike}
use Rattle.tm_typing.specs.Paths.{continues_path, IsPathText, underscored}

-- a byte with `_` in the place of a dot
abbrev written_byte : ℕ → ℕ
written_byte b = if b == 46 then 95 else b

begins_word : (b : ℕ) → begins_name b ≡ true → begins_name (written_byte b) ≡ true
begins_word b h = by (b == 46) refl
  where
    by : (dot : Bool) → (b == 46) ≡ dot → begins_name (cond dot 95 b) ≡ true
    by true e = refl
    by false e = h

continues_word : (b : ℕ) → continues_path b ≡ true → continues_name (written_byte b) ≡ true
continues_word b h = by (b == 46) (continues_name b) refl h
  where
    by : (dot named : Bool) → continues_name b ≡ named → named || dot ≡ true → continues_name (cond dot 95 b) ≡ true
    by true named e some = refl
    by false true e some = e
    by false false e some = absurd (cc)

-- the text of a path is a word where it is written so
pub underscored_word : (path : List ℕ) → IsPathText path → IsWordLike (underscored path)
underscored_word [] text = absurd text
underscored_word (b ∷ bs) text = (
  begins_word b text.0,
  All-map (λ c. continues_name c ≡ true) written_byte bs
      (All-weaker (λ c. continues_path c ≡ true) (λ c. continues_name (written_byte c) ≡ true) continues_word bs
      text.1),
)

-- Which words `clap` takes for options, and which of them for the budget.
use Rattle.std.proofs.Common.{◌≡◌, ◌==◌, ℕ, Bool, cond, true, false, None, Some, List, [], ◌∷◌}
use Rattle.std.proofs.Common.{refl, ap, arith, slice_get}
use Rattle.std.specs.Option.{option_and_then}
use Rattle.std.specs.Str.{IsUtf8, chars, encode_utf8_all}
use Rattle.std.proofs.lemmas.Str.{IsUtf8-drop, IsCharBoundary-after_ascii, encodes-chars}
use Rattle.clap.specs.Lexer.{long_of, long_of_rest, short_of, short_of_rest, strip_byte}
use Rattle.std.proofs.Common.{◌+◌, ◌++◌, ◌∙◌, ◌⊎◌, not, suc, take, codes, eq-eqb, eqb-true, inl, inr, sym, subst}
use Rattle.std.proofs.Common.{true≢false}
use Rattle.std.specs.Str.{bytes_eq}
use Rattle.std.specs.List.{before_first, position_or_len}
use Rattle.std.proofs.lemmas.Slice.Eq.{bytes_eq-Decides}
use Rattle.tm_play.specs.Numbers.{digits_after}
use Rattle.tm_commands.specs.Words.{greatest_budget, is_option, number_of, part_behind}

-- a word that is no option begins neither as a long one nor as short ones
pub no_long : (word : List ℕ) → is_option word ≡ false → long_of word ≡ None
no_long [] none = refl
no_long (b ∷ []) none = go (b == 45)
  where
    go : (is : Bool) → option_and_then long_of_rest (option_and_then (strip_byte 45) (cond is (Some []) None)) ≡ None
    go true = refl
    go false = refl
no_long (b ∷ c ∷ bs) none =
    ap (λ is. option_and_then long_of_rest (option_and_then (strip_byte 45) (cond is (Some (c ∷ bs)) None))) none

pub no_short : (word : List ℕ) → is_option word ≡ false → short_of word ≡ None
no_short [] none = refl
no_short (b ∷ []) none = go (b == 45)
  where
    go : (is : Bool) → option_and_then short_of_rest (cond is (Some []) None) ≡ None
    go true = refl
    go false = refl
no_short (b ∷ c ∷ bs) none = ap (λ is. option_and_then short_of_rest (cond is (Some (c ∷ bs)) None)) none

-- a text that is not empty has a first character
first_char : (c : ℕ) (bs chs : List ℕ) → encode_utf8_all chs ≡ c ∷ bs → (x : ℕ) × (slice_get chs 0 ≡ Some x)
first_char c bs [] is = cc
first_char c bs (x ∷ chs) is = (x, refl)

-- what follows the hyphen of short options has a first character
pub flags_have_char : (c : ℕ) (bs : List ℕ) → IsUtf8 (45 ∷ c ∷ bs) → (x : ℕ) × (slice_get (chars (c ∷ bs)) 0 ≡ Some x)
flags_have_char c bs utf8 =
    let behind : IsUtf8 (c ∷ bs) =
    IsUtf8-drop (45 ∷ c ∷ bs) 1 utf8 (IsCharBoundary-after_ascii (45 ∷ c ∷ bs) 0 utf8 (omega arith) (omega arith)) in
    first_char c bs (chars (c ∷ bs)) (encodes-chars (c ∷ bs) behind)

-- an option is no number
pub no_number : (word : List ℕ) → is_option word ≡ true → number_of greatest_budget word ≡ None
no_number [] is = cc
no_number (b ∷ []) is = cc
no_number (b ∷ c ∷ bs) is =
    subst (λ (x : ℕ). number_of greatest_budget (x ∷ c ∷ bs) ≡ None) (sym (eqb-true b 45 is)) refl

-- a word whose first part is this one
pub part_is : (first word rest : List ℕ) → part_behind first word ≡ Some rest → word ≡ first ++ rest
part_is [] word rest is = cc
part_is (b ∷ bs) [] rest is = cc
part_is (b ∷ bs) (c ∷ cs) rest is = go (part_is bs cs rest) (b == c) refl is
  where
    go : (part_behind bs cs ≡ Some rest → cs ≡ bs ++ rest) → (t : Bool) → (b == c) ≡ t →
        cond t (part_behind bs cs) None ≡ Some rest → c ∷ cs ≡ b ∷ (bs ++ rest)
    go others true same is =
        ap (λ (x : ℕ). x ∷ cs) (sym (eqb-true b c same)) ∙ ap (λ (xs : List ℕ). b ∷ xs) (others is)
    go others false other is = cc

-- and one that begins with it
pub part_of : (first rest : List ℕ) → part_behind first (first ++ rest) ≡ Some rest
part_of [] rest = refl
part_of (b ∷ bs) rest = ap (λ t. cond t (part_behind bs (bs ++ rest)) None) (eq-eqb b b refl) ∙ part_of bs rest

-- a text is what stands before a first `=` in it, alone or with what follows
pub alone_or_with : (text : List ℕ) →
    (text ≡ before_first (λ x. x == 61) text)
    ⊎ ((rest : List ℕ) × (text ≡ before_first (λ x. x == 61) text ++ 61 ∷ rest))
alone_or_with [] = inl refl
alone_or_with (x ∷ xs) = go (alone_or_with xs) (x == 61) refl
  where
    go : (xs ≡ before_first (λ x. x == 61) xs)
        ⊎ ((rest : List ℕ) × (xs ≡ before_first (λ x. x == 61) xs ++ 61 ∷ rest)) → (t : Bool) → (x == 61) ≡ t →
        (x ∷ xs ≡ before_first (λ x. x == 61) (x ∷ xs))
        ⊎ ((rest : List ℕ) × (x ∷ xs ≡ before_first (λ x. x == 61) (x ∷ xs) ++ 61 ∷ rest))
    go others true is =
        let none : before_first (λ x. x == 61) (x ∷ xs) ≡ [] =
        ap (λ t. take (cond (not t) (1 + position_or_len (λ x. x == 61) xs) 0) (x ∷ xs)) is in
        inr (
          xs,
          ap (λ y. y ∷ xs) (eqb-true x 61 is) ∙ ap (λ before. before ++ 61 ∷ xs) (sym none),
        )
    go others false is =
        let more : before_first (λ x. x == 61) (x ∷ xs) ≡ x ∷ before_first (λ x. x == 61) xs =
        ap (λ t. take (cond (not t) (1 + position_or_len (λ x. x == 61) xs) 0) (x ∷ xs)) is
        ∙ ap (λ n. take n (x ∷ xs))
        (let next : 1 + position_or_len (λ x. x == 61) xs ≡ suc (position_or_len (λ x. x == 61) xs) = omega arith in
        next) in
        elim others [
          | inl alone ↦ inl (ap (λ ys. x ∷ ys) alone ∙ sym more)
          | inr rest ↦ inr (
            rest.0,
            ap (λ ys. x ∷ ys) rest.1 ∙ ap (λ before. before ++ 61 ∷ rest.0) (sym more),
          )
        ]

-- a long option that is neither `--budget` nor `--budget=` with what follows has another name
pub other_name : (text : List ℕ) → bytes_eq (45 ∷ 45 ∷ text) (codes "--budget") ≡ false →
    part_behind (codes "--budget=") (45 ∷ 45 ∷ text) ≡ None →
    bytes_eq (codes "budget") (before_first (λ x. x == 61) text) ≡ false
other_name text alone with = go (bytes_eq (codes "budget") (before_first (λ x. x == 61) text)) refl
  where
    none : codes "budget" ≡ before_first (λ x. x == 61) text → ⊥
    none is = elim (alone_or_with text) [
      | inl whole ↦ true≢false (sym (ap (λ t. bytes_eq (45 ∷ 45 ∷ t) (codes "--budget")) (whole ∙ sym is)) ∙ alone)
      | inr rest ↦
          let both : Some rest.0 ≡ None =
          sym (ap (λ t. part_behind (codes "--budget=") (45 ∷ 45 ∷ t))
          (rest.1 ∙ ap (λ before. before ++ 61 ∷ rest.0) (sym is)))
          ∙ with in
          cc
    ]

    go : (t : Bool) → bytes_eq (codes "budget") (before_first (λ x. x == 61) text) ≡ t →
        bytes_eq (codes "budget") (before_first (λ x. x == 61) text) ≡ false
    go true is = absurd (none ((bytes_eq-Decides (codes "budget") (before_first (λ x. x == 61) text)).0 is))
    go false is = is

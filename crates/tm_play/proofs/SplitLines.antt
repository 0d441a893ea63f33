-- The first line of a text.
use Rattle.std.proofs.Common.{◌≡◌, ℕ, ◌+◌, ◌<◌, ◌≤◌, ◌==◌, false, cond, nat_lt, unwrap_or, Some, None, List, [], ◌∷◌}
use Rattle.std.proofs.Common.{length, take, drop, position, refl, ap, ◌∙◌, arith}
use Rattle.std.specs.List.{slice_split, position_or_len}
use Rattle.std.specs.Str.Lines.{lines, lines_of_parts, strip_carriage_return}
use Rattle.std.proofs.lemmas.Bool.Decides.{nat_tests}
use Rattle.std.proofs.lemmas.List.Splits.{slice_split_first, slice_split_none, length-slice_split}
use Rattle.std.proofs.lemmas.List.Sums.{prefix_len-le-length, fails_before_first}

first_or_len : (n len : ℕ) → n ≤ len → unwrap_or (cond (nat_lt n len) (Some n) None) len ≡ n
first_or_len n len within = grind (arith, nat_tests)

-- the end of the first line is the place of the first line feed, or the end of the text
pub end_is : (text : List ℕ) (end : ℕ) → end ≡ unwrap_or (position (λ b. b == 10) text) (length text) →
    end ≡ position_or_len (λ b. b == 10) text
end_is text end is = is ∙ first_or_len (position_or_len (λ b. b == 10) text) (length text) (prefix_len-le-length _ text)

parts_more : (x : List ℕ) (parts : List (List ℕ)) → 0 < length parts →
    lines_of_parts (x ∷ parts) ≡ strip_carriage_return x ∷ lines_of_parts parts
parts_more x [] some = absurd (omega arith)
parts_more x (y ∷ more) some = refl

-- a line ends at a line feed
pub lines_at : (text : List ℕ) (end : ℕ) → end ≡ unwrap_or (position (λ b. b == 10) text) (length text) →
    end < length text →
    lines text ≡ strip_carriage_return (take end text) ∷ lines (drop (end + 1) text)
lines_at text end is within =
    let e : end ≡ position_or_len (λ b. b == 10) text = end_is text end is in
    let inside : position_or_len (λ b. b == 10) text < length text = omega arith in
    let cut : slice_split (λ b. b == 10) text ≡ take end text ∷ slice_split (λ b. b == 10) (drop (end + 1) text) =
    rw e (slice_split_first (λ b. b == 10) text 0 inside) in
    ap lines_of_parts cut
    ∙ parts_more (take end text) (slice_split (λ b. b == 10) (drop (end + 1) text))
    (omega (arith, length-slice_split (λ b. b == 10) (drop (end + 1) text)))

last_part : (text : List ℕ) → (length text == 0) ≡ false → lines_of_parts (text ∷ []) ≡ text ∷ []
last_part text filled = rw filled refl

-- a text without a line feed is its one line
pub lines_last : (text : List ℕ) (end : ℕ) → end ≡ unwrap_or (position (λ b. b == 10) text) (length text) →
    length text ≤ end → (length text == 0) ≡ false →
    lines text ≡ text ∷ []
lines_last text end is beyond filled =
    let e : end ≡ position_or_len (λ b. b == 10) text = end_is text end is in
    ap lines_of_parts (slice_split_none (λ b. b == 10) text
    (λ k d inside. fails_before_first (λ b. b == 10) text k d (omega arith)))
    ∙ last_part text filled

-- Texts, one behind another.
use Rattle.std.proofs.Common.{◌≡◌, ℕ, zero, suc, ◌+◌, List, [], ◌∷◌, ◌++◌, sym, ap, ◌∙◌, codes, append_assoc, add-one, arith}
use Rattle.std.specs.List.{flat_map, range_with_len}
use Rattle.std.proofs.lemmas.List.Concat.{flat_map-append}
use Rattle.tm_gen.specs.Generated.{register_lines, text_of}

-- three pieces, one behind another
pub after_three : (s0 s1 s2 s3 a b c all : List ℕ) → s1 ≡ s0 ++ a → s2 ≡ s1 ++ b → s3 ≡ s2 ++ c →
    all ≡ a ++ (b ++ c) → s3 ≡ s0 ++ all
after_three s0 s1 s2 s3 a b c all e1 e2 e3 is =
    e3 ∙ ap (λ s. s ++ c) (e2 ∙ ap (λ s. s ++ b) e1) ∙ simp append_assoc (ap (λ t. s0 ++ t) (sym is))

-- four pieces, one behind another
pub after_four : (s0 s1 s2 s3 s4 a b c d all : List ℕ) → s1 ≡ s0 ++ a → s2 ≡ s1 ++ b → s3 ≡ s2 ++ c → s4 ≡ s3 ++ d →
    all ≡ a ++ (b ++ (c ++ d)) → s4 ≡ s0 ++ all
after_four s0 s1 s2 s3 s4 a b c d all e1 e2 e3 e4 is =
    after_three s0 s2 s3 s4 (a ++ b) c d all (e2 ∙ ap (λ s. s ++ b) e1 ∙ append_assoc s0 a b) e3 e4
    (is ∙ sym (append_assoc a b (c ++ d)))

-- five pieces, one behind another
pub after_five : (s0 s1 s2 s3 s4 s5 a b c d e all : List ℕ) → s1 ≡ s0 ++ a → s2 ≡ s1 ++ b → s3 ≡ s2 ++ c →
    s4 ≡ s3 ++ d → s5 ≡ s4 ++ e → all ≡ a ++ (b ++ (c ++ (d ++ e))) → s5 ≡ s0 ++ all
after_five s0 s1 s2 s3 s4 s5 a b c d e all e1 e2 e3 e4 e5 is =
    after_four s0 s2 s3 s4 s5 (a ++ b) c d e all (e2 ∙ ap (λ s. s ++ b) e1 ∙ append_assoc s0 a b) e3 e4 e5
    (is ∙ sym (append_assoc a b (c ++ (d ++ e))))

-- a line with a number in it, in front of others
pub numbered_line : (front number rest : List ℕ) (lines : List (List ℕ)) →
    text_of ((front ++ number ++ rest) ∷ lines) ≡ (front ++ number) ++ text_of (rest ∷ lines)
numbered_line front number rest lines = simp append_assoc

-- two lines, one with a number and one with the same number three times
pub register_line : (number a b d e f g : List ℕ) →
    text_of ((a ++ number ++ b) ∷ (d ++ number ++ e ++ number ++ f ++ number ++ g) ∷ [])
    ≡ (a ++ number)
    ++ (((text_of (b ∷ []) ++ d) ++ number) ++ ((e ++ number) ++ ((f ++ number) ++ text_of (g ∷ []))))
register_line number a b d e f g = simp append_assoc

-- a text of two lists of lines
pub text_of-append : (xs ys : List (List ℕ)) → text_of (xs ++ ys) ≡ text_of xs ++ text_of ys
text_of-append xs ys = flat_map-append (λ line. line ++ codes "\n") xs ys

range_more : (a n : ℕ) → range_with_len a (suc n) ≡ range_with_len a n ++ (a + n) ∷ []
range_more a zero = ap (λ (k : ℕ). k ∷ []) (omega arith)
range_more a (suc n) =
    ap (λ t. a ∷ t) (range_more (a + 1) n ∙ ap (λ (k : ℕ). range_with_len (a + 1) n ++ k ∷ []) (omega arith))

registers_more : (k : ℕ) →
    flat_map register_lines (range_with_len 0 (k + 1))
    ≡ flat_map register_lines (range_with_len 0 k) ++ register_lines k
registers_more k =
    ap (λ (ks : List ℕ). flat_map register_lines ks)
    (ap (λ (m : ℕ). range_with_len 0 m) (add-one k) ∙ range_more 0 k
    ∙ ap (λ (m : ℕ). range_with_len 0 k ++ m ∷ []) (omega arith))
    ∙ flat_map-append register_lines (range_with_len 0 k) (k ∷ [])

-- one register behind those before it
pub one_more : (k : ℕ) (start before after : List ℕ) →
    before ≡ start ++ text_of (flat_map register_lines (range_with_len 0 k)) →
    after ≡ before ++ text_of (register_lines k) →
    after ≡ start ++ text_of (flat_map register_lines (range_with_len 0 (k + 1)))
one_more k start before after so_far now =
    let xs : List (List ℕ) = flat_map register_lines (range_with_len 0 k) in
    now ∙ ap (λ s. s ++ text_of (register_lines k)) so_far
    ∙ append_assoc start (text_of xs) (text_of (register_lines k))
    ∙ ap (λ t. start ++ t) (sym (text_of-append xs (register_lines k)))
    ∙ ap (λ (ys : List (List ℕ)). start ++ text_of ys) (sym (registers_more k))

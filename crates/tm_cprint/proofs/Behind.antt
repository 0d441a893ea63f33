-- Pieces of a text, one behind another.
pub use Rattle.std.proofs.Common.{append_assoc}
use Rattle.std.proofs.Common.{◌≡◌, ℕ, List, ◌++◌, ap, ◌∙◌}

-- one piece more behind those before it
pub one_more : (s0 before after a b : List ℕ) → before ≡ s0 ++ a → after ≡ before ++ b → after ≡ s0 ++ (a ++ b)
one_more s0 before after a b so_far now = now ∙ ap (λ s. s ++ b) so_far ∙ append_assoc s0 a b

pub after_three : (s0 s1 s2 s3 a b c : List ℕ) → s1 ≡ s0 ++ a → s2 ≡ s1 ++ b → s3 ≡ s2 ++ c →
    s3 ≡ s0 ++ (a ++ b ++ c)
after_three s0 s1 s2 s3 a b c e1 e2 e3 = one_more s0 s2 s3 (a ++ b) c (one_more s0 s1 s2 a b e1 e2) e3

pub after_five : (s0 s1 s2 s3 s4 s5 a b c d e : List ℕ) → s1 ≡ s0 ++ a → s2 ≡ s1 ++ b → s3 ≡ s2 ++ c →
    s4 ≡ s3 ++ d → s5 ≡ s4 ++ e → s5 ≡ s0 ++ (a ++ b ++ c ++ d ++ e)
after_five s0 s1 s2 s3 s4 s5 a b c d e e1 e2 e3 e4 e5 =
    one_more s0 s4 s5 (a ++ b ++ c ++ d) e
    (one_more s0 s3 s4 (a ++ b ++ c) d (after_three s0 s1 s2 s3 a b c e1 e2 e3) e4) e5

pub after_seven : (s0 s1 s2 s3 s4 s5 s6 s7 a b c d e f g : List ℕ) → s1 ≡ s0 ++ a → s2 ≡ s1 ++ b → s3 ≡ s2 ++ c →
    s4 ≡ s3 ++ d → s5 ≡ s4 ++ e → s6 ≡ s5 ++ f → s7 ≡ s6 ++ g → s7 ≡ s0 ++ (a ++ b ++ c ++ d ++ e ++ f ++ g)
after_seven s0 s1 s2 s3 s4 s5 s6 s7 a b c d e f g e1 e2 e3 e4 e5 e6 e7 =
    one_more s0 s6 s7 (a ++ b ++ c ++ d ++ e ++ f) g
    (one_more s0 s5 s6 (a ++ b ++ c ++ d ++ e) f (after_five s0 s1 s2 s3 s4 s5 a b c d e e1 e2 e3 e4 e5) e6) e7

-- Whether two names are spelled the same is asked in either order.
use Rattle.std.proofs.Common.{◌≡◌, ℕ, Bool, true, false, List, nat_eq, refl, sym, ◌∙◌, true≢false}
use Rattle.std.specs.Cmp.Lexicographic.{pointwise, bytes_decides}

pub pointwise-sym : (a b : List ℕ) → pointwise nat_eq a b ≡ pointwise nat_eq b a
pointwise-sym a b = by (pointwise nat_eq a b) (pointwise nat_eq b a) refl refl
  where
    by : (one other : Bool) → pointwise nat_eq a b ≡ one → pointwise nat_eq b a ≡ other →
        pointwise nat_eq a b ≡ pointwise nat_eq b a
    by true true is si = is ∙ sym si
    by false false is si = is ∙ sym si
    by true false is si =
        absurd (true≢false (sym ((bytes_decides b a).1 (sym ((bytes_decides a b).0 is))) ∙ si))
    by false true is si =
        absurd (true≢false (sym ((bytes_decides a b).1 (sym ((bytes_decides b a).0 si))) ∙ is))

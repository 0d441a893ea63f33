-- The order of lists of bits, and the weight order of a worked design.
use Rattle.std.proofs.Common.{◌≡◌, ℕ, Bool, true, false, List, [], ◌∷◌, refl}
use Rattle.std.specs.Prelude.{◌||◌, ◌&&◌}
use Rattle.tm_sem.specs.StateBits.{comes_before, weight_order}

-- of two lists that come each before the other there are none
pub one_way : (xs ys : List Bool) → comes_before xs ys ≡ true → comes_before ys xs ≡ false
one_way [] ys before = absurd (cc)
one_way (true ∷ xs) [] before = absurd (cc)
one_way (false ∷ xs) [] before = absurd (cc)
one_way (true ∷ xs) (true ∷ ys) before = one_way xs ys before
one_way (true ∷ xs) (false ∷ ys) before = absurd (cc)
one_way (false ∷ xs) (true ∷ ys) before = refl
one_way (false ∷ xs) (false ∷ ys) before = one_way xs ys before

pub worked_order : weight_order (8 ∷ 1 ∷ 1 ∷ 8 ∷ 2 ∷ 2 ∷ 2 ∷ [])
    ≡ 0 ∷ 10 ∷ 1 ∷ 11 ∷ 2 ∷ 12 ∷ 3 ∷ 13 ∷ 4 ∷ 14 ∷ 5 ∷ 15 ∷ 6 ∷ 16 ∷ 18 ∷ 20 ∷ 22 ∷ 7 ∷ 8 ∷ 9 ∷ 17 ∷ 19 ∷ 21 ∷ 23 ∷ []
worked_order = refl

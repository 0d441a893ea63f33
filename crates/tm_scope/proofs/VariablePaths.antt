-- Paths of state variables by their parts: where they end, and their numbers.
use Rattle.std.proofs.Common.{◌≡◌, ℕ, Bool, true, false, cond, Option, None, Some, List, [], ◌∷◌, ◌++◌, length, take, drop, nat_eq, is_some, refl, sym, ap, ◌∙◌, true≢false}
use Rattle.std.specs.Prelude.{◌&&◌}
use Rattle.std.specs.Option.{option_or}
use Rattle.std.specs.Cmp.Lexicographic.{pointwise, bytes_decides}
use Rattle.std.proofs.lemmas.Bool.{eqb-true, eq-eqb}
use Rattle.std.proofs.lemmas.List.{append_assoc}
use Rattle.tm_syntax.specs.Design.{member_path}
use Rattle.tm_scope.specs.Directory.{index_of}

and_assoc : (a b c : Bool) → a && (b && c) ≡ (a && b) && c
and_assoc true b c = refl
and_assoc false b c = refl

nat_eq-comm : (x y : ℕ) → nat_eq x y ≡ nat_eq y x
nat_eq-comm x y = by (nat_eq x y) (nat_eq y x) refl refl
  where
    by : (a b : Bool) → nat_eq x y ≡ a → nat_eq y x ≡ b → a ≡ b
    by true true one other = refl
    by false false one other = refl
    by true false one other = absurd (true≢false (sym (eq-eqb y x (sym (eqb-true x y one))) ∙ other))
    by false true one other = absurd (true≢false (sym (eq-eqb x y (sym (eqb-true y x other))) ∙ one))

-- a path that begins with a name goes on as what stands behind it
pub begins : (name tail path : List ℕ) →
    pointwise nat_eq (name ++ tail) path
    ≡ pointwise nat_eq (take (length name) path) name && pointwise nat_eq tail (drop (length name) path)
begins [] tail [] = refl
begins [] tail (y ∷ ys) = refl
begins (x ∷ xs) tail [] = refl
begins (x ∷ xs) tail (y ∷ ys) =
    ap (λ b. b && pointwise nat_eq (xs ++ tail) ys) (nat_eq-comm x y)
    ∙ ap (λ b. nat_eq y x && b) (begins xs tail ys)
    ∙ and_assoc (nat_eq y x) (pointwise nat_eq (take (length xs) ys) xs) (pointwise nat_eq tail (drop (length xs) ys))

-- a name of an instance with something behind it
pub member_path-append : (base name tail : List ℕ) → member_path base name ++ tail ≡ member_path base (name ++ tail)
member_path-append [] name tail = refl
member_path-append (b ∷ bs) name tail = append_assoc (b ∷ bs) (46 ∷ name) tail

-- a path that has no number gets one
pub noted : (es fs : List (List ℕ × ℕ)) (path : List ℕ) (number : ℕ) → false ≡ is_some (index_of es path) →
    ((q : List ℕ) → index_of fs q ≡ cond (pointwise nat_eq q path) (Some number) (index_of es q)) →
    (other : List ℕ) →
    index_of fs other ≡ option_or (index_of es other) (cond (pointwise nat_eq other path) (Some number) None)
noted es fs path number absent updates other =
    updates other ∙ by (pointwise nat_eq other path) refl (index_of es other) refl
  where
    by : (a : Bool) → pointwise nat_eq other path ≡ a → (found : Option ℕ) → index_of es other ≡ found →
        cond a (Some number) found ≡ option_or found (cond a (Some number) None)
    by true is None e = refl
    by true is (Some k) e =
        absurd (true≢false (sym (absent ∙ ap (λ n. is_some (index_of es n))
        (sym ((bytes_decides other path).0 is)) ∙ ap is_some e)))
    by false is None e = refl
    by false is (Some k) e = refl

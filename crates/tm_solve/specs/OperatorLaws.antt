-- A step operator that is told by tests grows with its sets, and absorbs what lies in Y.
use Rattle.std.specs.Prelude.{◌≡◌, ℕ, Bool, true, false, ◌||◌, ◌&&◌, not, List, if◌then◌else◌}
use Rattle.std.proofs.Common.{refl, ap, ◌∙◌}
use Rattle.tm_sem.specs.State.{StateData}
use Rattle.tm_solve.specs.Game.{IsMonotone, IsAbsorbing}
use Rattle.tm_solve.specs.Operator.{Operator, Rises, game_of}

-- a test that would be both has every value
wrong : (a : Bool) → false ≡ true → a ≡ true
wrong a e = ap (λ b. if b then true else a) e

or_true : (a : Bool) → (a || true) ≡ true
or_true true = refl
or_true false = refl

or_first : (a b : Bool) → a ≡ true → (a || b) ≡ true
or_first a b e = ap (λ v. v || b) e

or_second : (a b : Bool) → b ≡ true → (a || b) ≡ true
or_second a b e = ap (λ v. a || v) e ∙ or_true a

three : (a b c a' b' c' : Bool) → (a ≡ true → a' ≡ true) → (b ≡ true → b' ≡ true) → (c ≡ true → c' ≡ true) →
    (a || b || c) ≡ true → (a' || b' || c') ≡ true
three true b c a' b' c' f g h e = or_first (a' || b') c' (or_first a' b' (f refl))
three false true c a' b' c' f g h e = or_first (a' || b') c' (or_second a' b' (g refl))
three false false c a' b' c' f g h e = or_second (a' || b') c' (h e)

both : (p a b : Bool) → (a ≡ true → b ≡ true) → (p && a) ≡ true → (p && b) ≡ true
both true a b f e = f e
both false a b f e = e

last_of : (p a : Bool) → (p && a) ≡ true → a ≡ true
last_of true a e = e
last_of false a e = wrong a e

pub monotone_of : (n : List StateData) (goals fairs : ℕ) (op : Operator) → Rises n op →
    IsMonotone (game_of n goals fairs op)
monotone_of n goals fairs op rises = record {
  rises = λ z z' y y' x x' j i in_z in_y in_x. record {
    within = λ s among. three _ _ _ _ _ _
        (both (op.goal j s) (op.stay z s) (op.stay z' s) ((rises z z' in_z).within s among))
        ((rises y y' in_y).within s among)
        (both (not (op.fair i s)) (op.stay x s) (op.stay x' s) ((rises x x' in_x).within s among));
  };
}

in_two : (a b c a' : Bool) → (a ≡ true → b ≡ true) → (a || b || c) ≡ true → (a' || b || c) ≡ true
in_two a b c true f e = refl
in_two true b c false f e = or_first b c (f refl)
in_two false b c false f e = e

in_three : (a b c c' : Bool) → (c ≡ true → b ≡ true) → (a || b || c) ≡ true → (a || b || c') ≡ true
in_three true b c c' f e = refl
in_three false true c c' f e = refl
in_three false false c c' f e = wrong c' (f e)

pub absorbing_of : (n : List StateData) (goals fairs : ℕ) (op : Operator) → Rises n op →
    IsAbsorbing (game_of n goals fairs op)
absorbing_of n goals fairs op rises = record {
  goal = λ z z' y x j j' i in_y. record {
    within = λ s among. in_two (op.goal j s && op.stay z s) (op.stay y s) _ _
        (λ here. (rises z y in_y).within s among (last_of (op.goal j s) _ here));
  };
  wait = λ z y x x' j i i' in_y. record {
    within = λ s among. in_three _ (op.stay y s) (not (op.fair i s) && op.stay x s) _
        (λ here. (rises x y in_y).within s among (last_of (not (op.fair i s)) _ here));
  };
}

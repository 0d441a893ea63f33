-- Whether the driver stays in all that a set leaves out is decided.
use Rattle.std.proofs.Common.{◌≡◌, ◌⊎◌, inl, inr, true, false, refl}
use Rattle.tm_game_bits.specs.Forcing.{Forced, Stays}
use Rattle.tm_game_bits.specs.Functions.{Assignment, Function, GameFunctions, outside}
use Rattle.tm_game_bits.proofs.Either.{forced_or_stays, not_forced}
use Rattle.tm_game_bits.proofs.Leading.{true_or_false}
use Rattle.tm_solve_exact.specs.Exact.{is_second, stays_out, stays_where}

second_is : {A B : Type 0} → (x : A ⊎ B) → is_second x ≡ true → B
second_is (inl a) e = absurd (cc)
second_is (inr b) e = b

first_is : {A B : Type 0} → (x : A ⊎ B) → is_second x ≡ false → A
first_is (inl a) e = a
first_is (inr b) e = absurd (cc)

is_there : {A B : Type 0} → (x : A ⊎ B) → ¬ A → is_second x ≡ true
is_there (inl a) none = absurd (none a)
is_there (inr b) none = refl

module _ (g : GameFunctions) (into : Function) (v : Assignment) where
  where_stays : (x : (g.valid v ≡ true) ⊎ (g.valid v ≡ false)) → stays_where g into v x ≡ true →
      Stays g (outside into) v
  where_stays (inl valid) e = second_is (forced_or_stays (outside into) into (λ w. refl) g v valid) e
  where_stays (inr not_so) e = absurd (cc)

  where_forced : (x : (g.valid v ≡ true) ⊎ (g.valid v ≡ false)) → g.valid v ≡ true →
      stays_where g into v x ≡ false → Forced g into v
  where_forced (inl valid) there e = first_is (forced_or_stays (outside into) into (λ w. refl) g v valid) e
  where_forced (inr not_so) there e = absurd (cc)

  stays_then : (x : (g.valid v ≡ true) ⊎ (g.valid v ≡ false)) → Stays g (outside into) v →
      stays_where g into v x ≡ true
  stays_then (inl valid) stays =
      is_there (forced_or_stays (outside into) into (λ w. refl) g v valid)
      (not_forced (outside into) into (λ w. refl) g v stays)
  stays_then (inr not_so) stays = let valid = stays.calm.valid in absurd (cc)

  pub stays_there : stays_out g into v ≡ true → Stays g (outside into) v
  stays_there = where_stays (true_or_false (g.valid v))

  pub forced_there : g.valid v ≡ true → stays_out g into v ≡ false → Forced g into v
  forced_there = where_forced (true_or_false (g.valid v))

  pub stays_here : Stays g (outside into) v → stays_out g into v ≡ true
  stays_here = stays_then (true_or_false (g.valid v))

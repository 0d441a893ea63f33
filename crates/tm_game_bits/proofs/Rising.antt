-- Where the driver stays in a set, it stays in every greater one.
use Rattle.std.proofs.Common.{◌≡◌, true}
use Rattle.tm_game_bits.specs.Functions.{Assignment, Function, StepFunctions, GameFunctions, after}
use Rattle.tm_game_bits.specs.Forcing.{IsCalm, Keeps, Stays}

module _ (a b : Function) (wider : (w : Assignment) → a w ≡ true → b w ≡ true) where
  keeps_rises : (step : StepFunctions) (v : Assignment) → Keeps step a v → Keeps step b v
  keeps_rises step v keeps = record {
    no_error = keeps.no_error;
    ends_within = λ w chosen legal ok. wider (after step.next w) (keeps.ends_within w chosen legal ok);
  }

  pub calm_rises : (g : GameFunctions) (v : Assignment) → IsCalm g a v → IsCalm g b v
  calm_rises g v calm = record {
    valid = calm.valid;
    stutter = wider (after g.stutter v) calm.stutter;
    environment = λ k d below. keeps_rises _ v (calm.environment k d below);
  }

  pub stays_rise : (g : GameFunctions) (v : Assignment) → Stays g a v → Stays g b v
  stays_rise g v stays = record {
    calm = calm_rises g v stays.calm;
    driver = λ turn.
        let some = stays.driver turn in
        let good = some.4.2 in (
          some.0,
          some.1,
          some.2,
          some.3,
          (some.4.0, some.4.1, record { allowed = good.allowed; keeps = keeps_rises some.1 some.4.0 good.keeps }),
        );
  }

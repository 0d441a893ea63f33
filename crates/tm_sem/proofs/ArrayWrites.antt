-- What the design that writes to an element of an array does.
use Rattle.std.proofs.Common.{[], ◌∷◌, refl, arith}
use Rattle.std.proofs.lemmas.Fmt.{decimal_digit}
use Rattle.tm_syntax.specs.Design.{IsDesign, subtree, none_left}
use Rattle.tm_sem.specs.declared.state.Move.TheVariants.{Process}
use Rattle.tm_sem.specs.declared.state.Outcome.TheVariants.{Next, Error, NoOutcome}
use Rattle.tm_sem.specs.ArrayWrite.{place_at, array_design, array_start, last_written}
use Rattle.tm_sem.specs.Run.{stopped, failed, blocked, ends, goes}
use Rattle.tm_sem.specs.Value.{plain_memory}
use Rattle.tm_sem.specs.Step.{IsInitial, Step}

pub is_design : IsDesign array_design
is_design = record {
  instances = record { path = refl; template = refl; ports = refl; all = subtree refl refl none_left };
  vars = rw (decimal_digit 0 (omega arith), decimal_digit 1 (omega arith), decimal_digit 2 (omega arith)) refl;
  processes = refl;
  tasks = refl;
  goals = refl;
  fairs = refl;
}

pub is_initial : IsInitial array_design array_start
is_initial = record { values = (refl, (refl, (refl, (refl, tt)))); places = refl; last = refl }

pub within : Step array_design array_start (Process 0) (2 ∷ []) (Next last_written)
within = record {
  end = stopped (place_at 4 30) [] (plain_memory (2 ∷ 7 ∷ 7 ∷ 9 ∷ []));
  run = goes refl (goes {front = []} {n = plain_memory (2 ∷ 7 ∷ 7 ∷ 9 ∷ [])} {ds = []}
      (rw (decimal_digit 2 (omega arith)) refl) (ends refl));
  outcome = refl;
}

pub past_the_end : Step array_design array_start (Process 0) (3 ∷ []) Error
past_the_end = record { end = failed; run = goes refl (ends refl); outcome = refl }

pub out_of_range : Step array_design array_start (Process 0) (4 ∷ []) NoOutcome
out_of_range = record { end = blocked; run = ends refl; outcome = refl }

-- Arguments that have the widths of the parameters of a task.
use Rattle.std.specs.Prelude.{◌≡◌, ℕ, ◌<◌, ◌^◌, ◌&&◌, Bool, true, Some, List, length, nat_eq, nat_lt, slice_get}
use Rattle.std.specs.List.{list_all, zip}
use Rattle.tm_flat.specs.Flat.{FlatTerms}
use Rattle.tm_sem.specs.StateBits.{bits_of_numbers}

-- whether numbers are as many as widths, and each has its width
abbrev pub have_widths : List ℕ → List ℕ → Bool
have_widths widths numbers =
    nat_eq (length widths) (length numbers) && list_all (λ p. nat_lt p.1 (2 ^ p.0)) (zip widths numbers)

-- a task is there, and arguments have the widths of its parameters
pub record IsCallable (f : FlatTerms) (task : ℕ) (args : List ℕ) : Type 0 where
  pub there : task < length f.tasks
  pub widths : List ℕ
  pub are : slice_get f.parameters task ≡ Some widths
  pub fit : have_widths widths args ≡ true

-- bits are those of its arguments
pub record AreArgumentBits (f : FlatTerms) (task : ℕ) (args : List ℕ) (bits : List Bool) : Type 0 where
  pub callable : IsCallable f task args
  pub bits_are : bits ≡ bits_of_numbers callable.widths args

-- The first of some things that are faults, if there is one.
use Rattle.std.specs.Prelude.{Option, None, Some, List}
use Rattle.std.specs.List.{AllByRecursion}
use Rattle.tm_syntax.specs.Faults.{IsFirst}
use Rattle.tm_syntax.specs.Faults.Marks.{Mark}

-- the first by their places of some things that are faults, or none where none is
abbrev pub IsFirstOf : {X : Type 0} → (X → Mark) → (X → Type 0) → List X → Option Mark → Type 0
IsFirstOf mark Is xs None = AllByRecursion (λ x. ¬ Is x) xs
IsFirstOf mark Is xs (Some m) = IsFirst mark Is xs m

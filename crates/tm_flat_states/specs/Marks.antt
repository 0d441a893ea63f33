-- Something that was made over terms.
use Rattle.tm_term.specs.Table.{Table, IsSound}
use Rattle.tm_term.specs.Value.{Extends}

-- something was made over terms that stay what they were; what is said of it holds over each later table, too
pub record MakesSuch {A : Type 0} (t n : Table) (IsSuch : Table → A → Type 0) (made : A) : Type 0 where
  pub grown : Extends t n
  pub sound : IsSound n
  pub is : (u : Table) → Extends n u → IsSuch u made

-- What reads take from a reader, where the bytes that it has left may be known.
use Rattle.std.specs.Prelude.{◌≡◌, ℕ, ◌+◌, ◌<◌, List, Option, Some, ◌++◌, length}
use Rattle.std.specs.Io.KnownBytes.{Consumes}
use Rattle.tm_base.specs.Count.{RoseBy, greatest}

-- the bytes grew by a piece that the reader lost, and the count of taken bytes rose by its length
pub record TakesPiece (left rest : Option (List ℕ)) (old new : List ℕ) (taken taken' : ℕ) : Type 0 where
  pub piece : List ℕ
  pub grown : new ≡ old ++ piece
  pub lost : Consumes left rest piece
  pub counted : RoseBy (Some greatest) (length piece) taken taken'

-- the reader lost a piece, with which the bytes would be more than the limit, and it was counted
pub record TakesTooMany (left rest : Option (List ℕ)) (old : List ℕ) (limit taken taken' : ℕ) : Type 0 where
  pub piece : List ℕ
  pub beyond : limit < length old + length piece
  pub lost : Consumes left rest piece
  pub counted : RoseBy (Some greatest) (length piece) taken taken'

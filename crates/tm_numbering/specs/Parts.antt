-- The parts of a certificate, whose numbers are given one after the other. Here `s` is the table of a store, `bits` is
-- the number of the certificate's levels, `old` and `new` are the ids that have entries, before and after, and `olds`
-- and `news` are what is turned into a part, and the part.
use Rattle.std.specs.Prelude.{◌≡◌, ℕ, List, Some, length, slice_get}
use Rattle.tm_cert.specs.declared.cert.Entry.{Entry}
use Rattle.tm_dd.specs.declared.node.NodeId.{NodeId}
use Rattle.tm_dd.specs.Table.{Table}
use Rattle.tm_numbering.specs.Numbers.{AreNumbered, Stay}

-- entries were added, and something holds of a part
pub record Goes (s : Table) (bits : ℕ) (old new : List NodeId) (nodes : List Entry) (Part : Type 0) : Type 0 where
  pub numbered : AreNumbered s bits new nodes
  pub stay : Stay old new
  pub part : Part

-- each of the new items, of which there are so many, has the relation to the old item at its position
pub record ArePairs {A B : Type 0} (P : A → B → Type 0) (olds : List A) (news : List B) (done : ℕ) : Type 0 where
  pub count : length news ≡ done
  pub each : (k : ℕ) (x : A) (y : B) → slice_get olds k ≡ Some x → slice_get news k ≡ Some y → P x y

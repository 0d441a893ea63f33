-- The hashes of choices and visits: their numbers, written as one.
use Rattle.std.specs.Prelude.{◌≡◌, IsTrue}
use Rattle.std.specs.Hash as fed
use Rattle.tm_dd.specs.NodeId.{number_of}
use Rattle.tm_dd.specs.Hashed.{mixed, same_writes}
use Rattle.tm_ddops.specs.declared.choice.Choice.{Choice}
use Rattle.tm_ddops.specs.declared.rewrite.Visit.{Visit}
use Rattle.tm_ddops.specs.Inner.Memo.{choice_eq}
use Rattle.tm_ddops.specs.Inner.Visited.{visit_eq}

-- the writes of a choice's hash
abbrev pub choice_hash : Choice → fed.HashWrites
choice_hash k = fed.u64 (mixed (number_of k.test) (number_of k.if_true) (number_of k.if_false))

-- equal choices have one hash
pub same_choice_hash : (a b : Choice) → IsTrue (choice_eq a b) → choice_hash a ≡ choice_hash b
same_choice_hash a b h =
    same_writes (number_of a.test) (number_of a.if_true) (number_of a.if_false)
    (number_of b.test) (number_of b.if_true) (number_of b.if_false) h

-- the writes of a visit's hash
abbrev pub visit_hash : Visit → fed.HashWrites
visit_hash v = fed.u64 (mixed 0 v.changes (number_of v.function))

-- equal visits have one hash
pub same_visit_hash : (a b : Visit) → IsTrue (visit_eq a b) → visit_hash a ≡ visit_hash b
same_visit_hash a b h = same_writes 0 a.changes (number_of a.function) 0 b.changes (number_of b.function) h

-- The hash of an entry.
use Rattle.std.specs.Prelude.{◌≡◌, IsTrue}
use Rattle.std.specs.Hash as fed
use Rattle.tm_cert.specs.declared.cert.Entry.{Entry}
use Rattle.tm_dd.specs.Hashed.{mixed, are_same, same_writes}

-- the writes of an entry's hash: its three numbers as one
abbrev pub entry_hash : Entry → fed.HashWrites
entry_hash e = fed.u64 (mixed e.level e.lo e.hi)

-- equal entries have one hash
pub same_entry_hash : (a b : Entry) → IsTrue (are_same a.level a.lo a.hi b.level b.lo b.hi) →
    entry_hash a ≡ entry_hash b
same_entry_hash a b h = same_writes a.level a.lo a.hi b.level b.lo b.hi h

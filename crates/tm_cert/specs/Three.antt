-- The numbers of an entry, as they stand in the list.
use Rattle.tm_cert.specs.declared.cert.Entry.{Entry}
use Rattle.tm_cert.specs.declared.nodes.Three.{Three}

-- the entry of these numbers
abbrev pub entry_of : Three → Entry
entry_of three = record { level = three.level; lo = three.lo; hi = three.hi }

-- Three numbers as one, and the hash of a node.
use Rattle.std.specs.Prelude.{◌≡◌, ℕ, ◌+◌, ◌*◌, ◌%◌, ◌^◌, ◌==◌, Bool, ◌&&◌, IsTrue}
use Rattle.std.specs.Hash as fed
use Rattle.std.proofs.lemmas.Bool.{and_parts, eqb-true}
use Rattle.tm_dd.specs.declared.node.Node.{Node}
use Rattle.tm_dd.specs.declared.node.TheConstants.{FACTOR}
use Rattle.tm_dd.specs.NodeId.{number_of}

-- three numbers as one of 64 bits: the value of a polynomial at a factor
unfoldable pub mixed : ℕ → ℕ → ℕ → ℕ
mixed one two three = (((one * FACTOR % 2 ^ 64 + two) % 2 ^ 64) * FACTOR % 2 ^ 64 + three) % 2 ^ 64

-- whether three numbers are three others
abbrev pub are_same : ℕ → ℕ → ℕ → ℕ → ℕ → ℕ → Bool
are_same a b c x y z = (a == x) && ((b == y) && (c == z))

-- three numbers are written as three others that equal them
pub same_writes : (a b c x y z : ℕ) → IsTrue (are_same a b c x y z) → fed.u64 (mixed a b c) ≡ fed.u64 (mixed x y z)
same_writes a b c x y z h =
    let first = and_parts (a == x) ((b == y) && (c == z)) h in
    let rest = and_parts (b == y) (c == z) first.1 in
    let one = eqb-true a x first.0 in
    let two = eqb-true b y rest.0 in
    let three = eqb-true c z rest.1 in
    (λ i. fed.u64 (mixed (one i) (two i) (three i)))

-- the writes of a node's hash
abbrev pub node_hash : Node → fed.HashWrites
node_hash n = fed.u64 (mixed n.level (number_of n.lo) (number_of n.hi))

-- equal nodes have one hash
pub same_node_hash : (a b : Node) →
    IsTrue (are_same a.level (number_of a.lo) (number_of a.hi) b.level (number_of b.lo) (number_of b.hi))
    → node_hash a ≡ node_hash b
same_node_hash a b h =
    same_writes a.level (number_of a.lo) (number_of a.hi) b.level (number_of b.lo) (number_of b.hi) h

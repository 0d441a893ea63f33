-- The path of a state variable by its parts, and its hash.
use Rattle.std.specs.Prelude.{◌≡◌, ℕ, ◌+◌, ◌*◌, ◌%◌, ◌^◌, Bool, ◌&&◌, Option, None, Some, List, ◌∷◌, ◌++◌, IsTrue, nat_eq}
use Rattle.std.specs.Borrow.{Bor}
use Rattle.std.specs.List.{fold}
use Rattle.std.specs.Option.{option_eq}
use Rattle.std.specs.Hash as fed
use Rattle.std.specs.Cmp.Lexicographic.{pointwise, bytes_decides}
use Rattle.std.proofs.Common.{refl, sym, ap, ◌∙◌, true≢false}
use Rattle.std.proofs.lemmas.Bool.{and_parts}
use Rattle.tm_syntax.specs.Design.{member_path}
use Rattle.tm_scope.specs.declared.variables.path.VariablePath.{VariablePath}
use Rattle.tm_scope.specs.declared.variables.path.TheConstants.{FACTOR}

-- a name, with a dot and a last part behind it where there is one
abbrev pub with_last : List ℕ → Option (Bor (List ℕ)) → List ℕ
with_last name None = name
with_last name (Some last) = name ++ 46 ∷ last.now

-- the path that has these parts
abbrev pub whole : VariablePath → List ℕ
whole parts = member_path parts.base.now (with_last parts.name.now parts.last)

-- the hash of a text with one more byte
unfoldable pub hash_next : ℕ → ℕ → ℕ
hash_next hash byte = (hash * FACTOR % 2 ^ 64 + byte) % 2 ^ 64

-- the hash of a text with another one behind it
abbrev pub hash_on : ℕ → List ℕ → ℕ
hash_on hash text = fold hash_next hash text

-- the hash of a path: the value of a polynomial at a factor
abbrev pub path_hash : List ℕ → ℕ
path_hash path = hash_on 0 path

-- the writes of the hash of a path
abbrev pub key_hash : List ℕ → fed.HashWrites
key_hash path = fed.u64 (path_hash path)

-- the writes of the hash of the parts of a path
abbrev pub parts_hash : VariablePath → fed.HashWrites
parts_hash parts = key_hash (whole parts)

-- equal paths have one hash
pub same_key_hash : (one other : List ℕ) → IsTrue (pointwise nat_eq one other) → key_hash one ≡ key_hash other
same_key_hash one other same = ap key_hash ((bytes_decides one other).0 same)

-- whether two paths have the same parts
abbrev pub are_same : VariablePath → VariablePath → Bool
are_same one other =
    pointwise nat_eq one.base.now other.base.now
    && (pointwise nat_eq one.name.now other.name.now
    && option_eq (λ a b. pointwise nat_eq a.now b.now) one.last other.last)

-- equal last parts behind a name make one path
with_same_last : (name : List ℕ) (one other : Option (Bor (List ℕ))) →
    IsTrue (option_eq (λ a b. pointwise nat_eq a.now b.now) one other) → with_last name one ≡ with_last name other
with_same_last name None None same = refl
with_same_last name None (Some b) same = absurd (true≢false (sym same))
with_same_last name (Some a) None same = absurd (true≢false (sym same))
with_same_last name (Some a) (Some b) same = ap (λ l. name ++ 46 ∷ l) ((bytes_decides a.now b.now).0 same)

-- paths with equal parts have one hash
pub same_parts_hash : (one other : VariablePath) → IsTrue (are_same one other) → parts_hash one ≡ parts_hash other
same_parts_hash one other same =
    let first = and_parts _ _ same in
    let rest = and_parts _ _ first.1 in
    let base = (bytes_decides one.base.now other.base.now).0 first.0 in
    let name = (bytes_decides one.name.now other.name.now).0 rest.0 in
    ap (λ b. key_hash (member_path b (with_last one.name.now one.last))) base
    ∙ ap (λ n. key_hash (member_path other.base.now (with_last n one.last))) name
    ∙ ap (λ p. key_hash (member_path other.base.now p)) (with_same_last other.name.now one.last other.last rest.1)

-- Operations: when two are one, their operands, and their values.
use Rattle.std.specs.Prelude.{◌≡◌, ℕ, ◌==◌, Bool, true, false, ◌&&◌, ◌||◌, not, List, [], ◌∷◌, map, IsTrue, if◌then◌else◌}
use Rattle.std.specs.Bool.{Decides}
use Rattle.std.specs.Cmp.{IsEquivalence, decided}
use Rattle.std.specs.Cmp.Lexicographic.{pointwise}
use Rattle.std.specs.Hash as fed
use Rattle.std.specs.Map.{lookup}
use Rattle.std.specs.Option.{option_map_or}
use Rattle.std.proofs.Common.{refl, ap, subst}
use Rattle.std.proofs.lemmas.Bool.{eqb-true, eq-eqb}
use Rattle.tm_dd.specs.declared.node.NodeId.{NodeId}
use Rattle.tm_dd.specs.Hashed.{mixed}
use Rattle.tm_dd.specs.NodeId.{number_of}
use Rattle.tm_dd.specs.Table.{Table, means}
use Rattle.tm_ddops.specs.declared.operation.Operation.{Operation}
use Rattle.tm_ddops.specs.declared.operation.Operation.TheVariants.{And, Or, Xor, Ite, Compose}
use Rattle.tm_ddops.specs.Parts.{digest, part_eq, parts_equiv, same_parts}

-- the operands of an operation
abbrev pub operands : Operation → List NodeId
operands (And f g) = f ∷ g ∷ []
operands (Or f g) = f ∷ g ∷ []
operands (Xor f g) = f ∷ g ∷ []
operands (Ite f g h) = f ∷ g ∷ h ∷ []
operands (Compose f parts) = f ∷ map (λ p. p.1) parts

-- each level's value, where the levels of the parts have the values of their functions
abbrev pub substituted : Table → List (ℕ × NodeId) → (ℕ → Bool) → ℕ → Bool
substituted s parts v level = option_map_or (λ part. means s part v) (lookup (λ l. l == level) parts) (v level)

-- the value of an operation where v gives each level's value
abbrev pub operation_value : Table → Operation → (ℕ → Bool) → Bool
operation_value s (And f g) v = means s f v && means s g v
operation_value s (Or f g) v = means s f v || means s g v
operation_value s (Xor f g) v = if means s f v then not (means s g v) else means s g v
operation_value s (Ite f g h) v = if means s f v then means s g v else means s h v
operation_value s (Compose f parts) v = means s f (substituted s parts v)

-- whether two operations are one
abbrev pub operation_eq : Operation → Operation → Bool
operation_eq (And f g) (And x y) = (number_of f == number_of x) && (number_of g == number_of y)
operation_eq (Or f g) (Or x y) = (number_of f == number_of x) && (number_of g == number_of y)
operation_eq (Xor f g) (Xor x y) = (number_of f == number_of x) && (number_of g == number_of y)
operation_eq (Ite f g h) (Ite x y z) = (number_of f == number_of x) && (number_of g == number_of y)
    && (number_of h == number_of z)
operation_eq (Compose f parts) (Compose x others) = (number_of f == number_of x) && pointwise part_eq parts others
operation_eq _ _ = false

-- an operation as one number
abbrev pub operation_number : Operation → ℕ
operation_number (And f g) = mixed 0 (number_of f) (number_of g)
operation_number (Or f g) = mixed 1 (number_of f) (number_of g)
operation_number (Xor f g) = mixed 2 (number_of f) (number_of g)
operation_number (Ite f g h) = mixed (mixed 3 (number_of f) (number_of g)) (number_of h) 0
operation_number (Compose f parts) = mixed 4 (number_of f) (digest parts)

-- the writes of an operation's hash
abbrev pub operation_hash : Operation → fed.HashWrites
operation_hash operation = fed.u64 (operation_number operation)

-- what holds of both sides of `&&`
both_true : (a b : Bool) → a && b ≡ true → (a ≡ true) × (b ≡ true)
both_true true b h = (refl, h)
both_true false b h = cc

-- ids with one number are one
same_id : (f g : NodeId) → (number_of f == number_of g) ≡ true → f ≡ g
same_id f g h = ap (λ (n : ℕ). record { 0 = n }) (eqb-true _ _ h)

-- an id is equal to itself
id_eq-refl : (f : NodeId) → (number_of f == number_of f) ≡ true
id_eq-refl f = eq-eqb (number_of f) (number_of f) refl

-- operations that `==` finds equal are one
pub same_operation : (a b : Operation) → operation_eq a b ≡ true → a ≡ b
same_operation (And f g) (And x y) e = let t = both_true _ _ e in λ i. And (same_id f x t.0 i) (same_id g y t.1 i)
same_operation (Or f g) (Or x y) e = let t = both_true _ _ e in λ i. Or (same_id f x t.0 i) (same_id g y t.1 i)
same_operation (Xor f g) (Xor x y) e = let t = both_true _ _ e in λ i. Xor (same_id f x t.0 i) (same_id g y t.1 i)
same_operation (Ite f g h) (Ite x y z) e =
    let t = both_true _ _ e in
    let u = both_true _ _ t.0 in
    λ i. Ite (same_id f x u.0 i) (same_id g y u.1 i) (same_id h z t.1 i)
same_operation (Compose f parts) (Compose x others) e =
    let t = both_true _ _ e in
    λ i. Compose (same_id f x t.0 i) (same_parts parts others t.1 i)
same_operation _ _ e = cc

-- an operation is equal to itself
operation_eq-refl : (a : Operation) → operation_eq a a ≡ true
operation_eq-refl (And f g) = λ i. id_eq-refl f i && id_eq-refl g i
operation_eq-refl (Or f g) = λ i. id_eq-refl f i && id_eq-refl g i
operation_eq-refl (Xor f g) = λ i. id_eq-refl f i && id_eq-refl g i
operation_eq-refl (Ite f g h) = λ i. id_eq-refl f i && id_eq-refl g i && id_eq-refl h i
operation_eq-refl (Compose f parts) = λ i. id_eq-refl f i && parts_equiv.refl parts i

-- `==` tells whether operations are one
pub operation_Decides : (a b : Operation) → Decides (operation_eq a b) (a ≡ b)
operation_Decides a b = (same_operation a b, λ e. subst (λ x. operation_eq a x ≡ true) e (operation_eq-refl a))

-- `==` of operations is an equivalence
pub operation_equiv : IsEquivalence operation_eq
operation_equiv = decided operation_eq operation_Decides

-- equal operations have one hash
pub same_operation_hash : (a b : Operation) → IsTrue (operation_eq a b) → operation_hash a ≡ operation_hash b
same_operation_hash a b e = ap operation_hash (same_operation a b e)

-- What is found where an option has something, or has nothing.
use Rattle.std.proofs.Common.{◌≡◌, Option, None, Some, refl, sym, ◌∙◌}
use Rattle.std.specs.Prelude.{IfNone}
use Rattle.std.specs.Option.{option_map, option_and_then}

pub and_then_is : {X Y : Type 0} → (f : X → Option Y) (o : Option X) (y : Y) → option_and_then f o ≡ Some y →
    (x : X) × (o ≡ Some x) × (f x ≡ Some y)
and_then_is f None y is = absurd (cc)
and_then_is f (Some x) y is = (x, refl, is)

pub map_is : {X Y : Type 0} → (f : X → Y) (o : Option X) (y : Y) → option_map f o ≡ Some y →
    (x : X) × (o ≡ Some x) × (f x ≡ y)
map_is f None y is = absurd (cc)
map_is f (Some x) y is = let same : f x ≡ y = cc in (x, refl, same)

-- what holds where nothing is found
pub nothing_found : {A : Type 0} (r : Option A) (P : Type 0) → r ≡ None → P → IfNone r P
nothing_found None P none h = h
nothing_found (Some x) P none h = absurd (cc)

pub none_then : {A : Type 0} (r : Option A) {P Q : Type 0} → IfNone r P → (P → Q) → IfNone r Q
none_then None h then_q = then_q h
none_then (Some x) h then_q = tt

-- where what is found in place of something is not there, nothing was
pub no_source : {A B : Type 0} (f : A → B) (o : Option A) (r : Option B) → r ≡ option_map f o → r ≡ None → o ≡ None
no_source f None r is none = refl
no_source f (Some x) r is none = absurd (let both : None ≡ Some (f x) = sym none ∙ is in cc)

-- what is found in place of something is what was asked for
pub body_found : {A B : Type 0} (o : Option A) (x s : B) (r : Option B) → r ≡ option_map (λ _. x) o → r ≡ Some s → s ≡ x
body_found None x s r is there = absurd (let both : Some s ≡ None = sym there ∙ is in cc)
body_found (Some a) x s r is there = let both : Some s ≡ Some x = sym there ∙ is in cc

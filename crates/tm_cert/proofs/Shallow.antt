-- What is written for a certificate has no float, and nests no deeper than five levels.
use Rattle.std.proofs.Common.{◌≡◌, ℕ, ◌≤◌, List, [], ◌∷◌, false, map, refl, arith}
use Rattle.std.proofs.lemmas.Bool.{or_from}
use Rattle.serde_json.specs.Data.{Data, depth, items_depth}
use Rattle.serde_json.specs.View.{items_of}
use Rattle.serde_json.specs.Written.{has_float, items_have_float}
use Rattle.tm_cert.specs.declared.cert.Cert.{Cert}
use Rattle.tm_cert.specs.declared.cert.Cert.TheVariants as cert
use Rattle.tm_cert.specs.declared.cert.Entry.{Entry}
use Rattle.tm_cert.specs.declared.cert.Rank.{Rank}
use Rattle.tm_cert.specs.Cert.{LevelData}
use Rattle.tm_cert.specs.Written.{cert_data, driver_data, entry_data, environment_data, goal_data, level_data, list_data, number_data, rank_data}

items_plain : {A : Type 0} (f : A → Data) → ((x : A) → has_float (f x) ≡ false) → (xs : List A)
    → items_have_float (items_of (map f xs)) ≡ false
items_plain f plain [] = refl
items_plain f plain (x ∷ xs) = or_from (has_float (f x)) (items_have_float (items_of (map f xs))) (plain x)
    (items_plain f plain xs)

goal_plain : (ranks : List Rank) → has_float (goal_data ranks) ≡ false
goal_plain ranks = or_from (has_float (list_data rank_data ranks)) false (items_plain rank_data (λ r. refl) ranks) refl

level_plain : (l : LevelData) → has_float (level_data l) ≡ false
level_plain l =
    or_from (has_float (list_data (list_data number_data) l.chains)) false
    (items_plain (list_data number_data) (λ chain. items_plain number_data (λ n. refl) chain) l.chains) refl

pub cert_plain : (bits : ℕ) (c : Cert) → has_float (cert_data bits c) ≡ false
unfolding driver_data environment_data
cert_plain bits (cert.Driver c) =
    or_from (has_float (list_data goal_data c.goals)) _ (items_plain goal_data goal_plain c.goals)
    (or_from (has_float (list_data entry_data c.nodes)) _ (items_plain entry_data (λ e. refl) c.nodes)
    (or_from (has_float (list_data number_data c.order)) _ (items_plain number_data (λ n. refl) c.order) refl))
cert_plain bits (cert.Environment c) =
    or_from (has_float (list_data level_data c.levels)) _ (items_plain level_data level_plain c.levels)
    (or_from (has_float (list_data entry_data c.nodes)) _ (items_plain entry_data (λ e. refl) c.nodes)
    (or_from (has_float (list_data number_data c.order)) _ (items_plain number_data (λ n. refl) c.order) refl))

items_shallow : {A : Type 0} (f : A → Data) (n : ℕ) → ((x : A) → depth (f x) ≤ n) → (xs : List A)
    → items_depth (items_of (map f xs)) ≤ n
items_shallow f n shallow [] = omega arith
items_shallow f n shallow (x ∷ xs) = omega (arith, shallow x, items_shallow f n shallow xs)

number_shallow : (n : ℕ) → depth (number_data n) ≤ 0
number_shallow n = omega arith

rank_shallow : (r : Rank) → depth (rank_data r) ≤ 1
rank_shallow r = omega arith

entry_shallow : (e : Entry) → depth (entry_data e) ≤ 1
entry_shallow e = omega arith

goal_shallow : (ranks : List Rank) → depth (goal_data ranks) ≤ 3
goal_shallow ranks = omega (arith, items_shallow rank_data 1 rank_shallow ranks)

chain_shallow : (chain : List ℕ) → depth (list_data number_data chain) ≤ 1
chain_shallow chain = omega (arith, items_shallow number_data 0 number_shallow chain)

level_shallow : (l : LevelData) → depth (level_data l) ≤ 3
level_shallow l = omega (arith, items_shallow (list_data number_data) 1 chain_shallow l.chains)

pub cert_shallow : (bits : ℕ) (c : Cert) → depth (cert_data bits c) ≤ 127
unfolding driver_data environment_data
cert_shallow bits (cert.Driver c) =
    omega (
      arith,
      items_shallow goal_data 3 goal_shallow c.goals,
      items_shallow entry_data 1 entry_shallow c.nodes,
      items_shallow number_data 0 number_shallow c.order,
    )
cert_shallow bits (cert.Environment c) =
    omega (
      arith,
      items_shallow level_data 3 level_shallow c.levels,
      items_shallow entry_data 1 entry_shallow c.nodes,
      items_shallow number_data 0 number_shallow c.order,
    )

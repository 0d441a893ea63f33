-- Lists of some parts as their views, and nodes.
use Rattle.std.proofs.Common.{◌≡◌, ℕ, ◌-◌, ◌≤◌, List, [], ◌∷◌, length, get_or, Option, Err, refl, arith}
use Rattle.std.proofs.lemmas.Bool.{le-ltb}
use Rattle.std.specs.Prelude.{slice_get}
use Rattle.serde_json.specs.View.{view, items_view}
use Rattle.serde_json.specs.declared.value.Value.{Value}
use Rattle.tm_cert.specs.declared.cert.Entry.{Entry}
use Rattle.tm_cert.specs.declared.refusal.BadCert.TheVariants.{Shape}
use Rattle.tm_cert.specs.Goals.{pair_at, pair_numbers}
use Rattle.tm_cert.specs.Nodes.{is_above, is_above_child, three_at, three_numbers}

-- a list of another length is no entry
pub three_at-other : (path : List ℕ) (values : List Value) → ¬ (length values ≡ 3)
    → three_at path (items_view values) ≡ Err (Shape path)
three_at-other path [] other = refl
three_at-other path (a ∷ []) other = refl
three_at-other path (a ∷ b ∷ []) other = refl
three_at-other path (a ∷ b ∷ c ∷ []) other = absurd (other refl)
three_at-other path (a ∷ b ∷ c ∷ d ∷ values) other = refl

-- a list of another length is no rank
pub pair_at-other : (fairs ids : ℕ) (path : List ℕ) (values : List Value) → ¬ (length values ≡ 2)
    → pair_at fairs ids path (items_view values) ≡ Err (Shape path)
pair_at-other fairs ids path [] other = refl
pair_at-other fairs ids path (a ∷ []) other = refl
pair_at-other fairs ids path (a ∷ b ∷ []) other = absurd (other refl)
pair_at-other fairs ids path (a ∷ b ∷ c ∷ values) other = refl

-- the child of an id that is no constant
pub is_above_child-inner : (nodes : List Entry) (level id : ℕ) (child : Option Entry) → 2 ≤ id
    → child ≡ slice_get nodes (id - 2) → is_above_child nodes level id ≡ is_above level child
is_above_child-inner nodes level id child inner is = rw (le-ltb id 2 inner, ← is) refl

pub three_at-three : (path : List ℕ) (values : List Value) (v : Value) → length values ≡ 3
    → three_at path (items_view values)
    ≡ three_numbers path (view (get_or values 0 v)) (view (get_or values 1 v)) (view (get_or values 2 v))
three_at-three path [] v three = absurd (omega arith)
three_at-three path (a ∷ []) v three = absurd (omega arith)
three_at-three path (a ∷ b ∷ []) v three = absurd (omega arith)
three_at-three path (a ∷ b ∷ c ∷ []) v three = refl
three_at-three path (a ∷ b ∷ c ∷ d ∷ values) v three = absurd (omega arith)

pub pair_at-two : (fairs ids : ℕ) (path : List ℕ) (values : List Value) (v : Value) → length values ≡ 2
    → pair_at fairs ids path (items_view values)
    ≡ pair_numbers fairs ids path (view (get_or values 0 v)) (view (get_or values 1 v))
pair_at-two fairs ids path [] v two = absurd (omega arith)
pair_at-two fairs ids path (a ∷ []) v two = absurd (omega arith)
pair_at-two fairs ids path (a ∷ b ∷ []) v two = refl
pair_at-two fairs ids path (a ∷ b ∷ c ∷ values) v two = absurd (omega arith)

pub ruleset three_parts = (three_at-other, three_at-three)

pub ruleset two_parts = (pair_at-other, pair_at-two)

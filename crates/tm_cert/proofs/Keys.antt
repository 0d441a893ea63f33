-- The keys of an object, and whether a key is one of some.
use Rattle.std.proofs.Common.{◌≡◌, ℕ, List, [], ◌∷◌, length, Bool, true, false, Option, Some, None, String, Global, Bor, string_bytes, bytes_eq, if◌then◌else◌, map, refl, sym, ap, ◌∙◌}
use Rattle.std.specs.List.{list_any}
use Rattle.std.specs.Map.{keys_of}
use Rattle.serde_json.proofs.Views.{items_len-items_view}
use Rattle.serde_json.specs.Events.{items_len}
use Rattle.serde_json.specs.View.{items_view, members_view}
use Rattle.serde_json.specs.declared.value.Value.{Value}
use Rattle.tm_cert.specs.Part.{other_key}

-- a test over a list that was mapped
pub list_any-map : {A B : Type 0} (f : A → B) (test : B → Bool) (xs : List A)
    → list_any test (map f xs) ≡ list_any (λ x. test (f x)) xs
list_any-map f test [] = refl
list_any-map f test (x ∷ xs) = rw (list_any-map f test xs) refl

-- the first of these keys that is none of some
abbrev pub first_other : List (List ℕ) → List (String Global) → Option (List ℕ)
first_other keys [] = None
first_other keys (k ∷ ks) = if list_any (bytes_eq (string_bytes k)) keys then first_other keys ks else Some
    (string_bytes k)

pub other_key-members_view : (keys : List (List ℕ)) (es : List (String Global × Value))
    → other_key keys (members_view es) ≡ first_other keys (keys_of es)
other_key-members_view keys [] = refl
other_key-members_view keys (e ∷ es) = rw (other_key-members_view keys es) refl

-- a key that is one of some is passed over
pub first_other-among : (keys : List (List ℕ)) (left rest : List (String Global)) (key : String Global)
    → left ≡ key ∷ rest → list_any (bytes_eq (string_bytes key)) keys ≡ true
    → first_other keys left ≡ first_other keys rest
first_other-among keys left rest key is among = rw (is, among) refl

-- and any other key is found
pub first_other-found : (keys : List (List ℕ)) (left rest : List (String Global)) (key : String Global)
    → left ≡ key ∷ rest → list_any (bytes_eq (string_bytes key)) keys ≡ false
    → first_other keys left ≡ Some (string_bytes key)
first_other-found keys left rest key is other = rw (is, other) refl

-- whether a key is one of some that are borrowed
pub among-borrowed : (keys : List (Bor (List ℕ))) (key text : List ℕ) (answer : Bool) → text ≡ key
    → answer ≡ list_any (λ known. bytes_eq text known.now) keys
    → list_any (bytes_eq key) (map (λ known. known.now) keys) ≡ answer
among-borrowed keys key text answer same is =
    list_any-map (λ known. known.now) (bytes_eq key) keys
    ∙ ap (λ text. list_any (λ known. bytes_eq text known.now) keys) (sym same) ∙ sym is

-- a view has as many items as there are values
pub counted_items : (values : List Value) → items_len (items_view values) ≡ length values
counted_items = items_len-items_view

-- A part is found exactly where the value is this part: parts of lists, and what is judged one after another.
use Rattle.std.proofs.Common.{◌≡◌, ℕ, List, [], ◌∷◌, ◌++◌, Bool, true, false, Option, Some, None, Ok, Err, ok_or, if◌then◌else◌, refl, ap, sym, ◌∙◌, append_assoc, append-nil}
use Rattle.serde_json.specs.Data.{Data, Items, no_items, item}
use Rattle.tm_cert.specs.Judged.{Judged, and_then, at_next, each}
use Rattle.tm_cert.specs.Parts.{AreParts}
use Rattle.tm_cert.specs.declared.refusal.BadCert.{BadCert}

-- the two parts of what was judged one after the other
pub both_parts : {A B : Type 0} (first : Judged A) (next : A → Judged B) (y : B) → and_then first next ≡ Ok y
    → (x : A) × (first ≡ Ok x) × (next x ≡ Ok y)
both_parts (Ok x) next y is = (x, refl, is)
both_parts (Err fault) next y is = cc

pub from_parts : {A B : Type 0} (first : Judged A) (next : A → Judged B) (x : A) (y : B) → first ≡ Ok x → next x ≡ Ok y
    → and_then first next ≡ Ok y
from_parts first next x y one two = ap (λ j. and_then j next) one ∙ two

-- what is found is equal
pub same_part : {A : Type 0} (x y : A) → (let j : Judged A = Ok x in j) ≡ Ok y → x ≡ y
same_part x y is = cc

-- an option that has to be there
pub some_from_ok_or : {A : Type 0} (o : Option A) (fault : BadCert) (x : A) → ok_or o fault ≡ Ok x → o ≡ Some x
some_from_ok_or None fault x is = cc
some_from_ok_or (Some y) fault x is = ap Some (same_part y x is)

-- a test that has to pass
pub passed : {A : Type 0} (test : Bool) (x y : A) (fault : BadCert)
    → (let j : Judged A = (if test then Ok x else Err fault) in j) ≡ Ok y → (test ≡ true) × (x ≡ y)
passed true x y fault is = (refl, same_part x y is)
passed false x y fault is = cc

-- a part of a list is found exactly where the value is this part beside those before it
pub record ExactBeside {A : Type 0} (judge : List A → Data → Judged A) (IsPart : List A → Data → A
    → Type 0) : Type 0 where
  pub sound : (earlier : List A) (d : Data) (x : A) → judge earlier d ≡ Ok x → IsPart earlier d x
  pub complete : (earlier : List A) (d : Data) (x : A) → IsPart earlier d x → judge earlier d ≡ Ok x

-- a part is found at any path exactly where the value is this part
pub record Exact {A : Type 0} (judge : List ℕ → Data → Judged A) (IsPart : Data → A → Type 0) : Type 0 where
  pub sound : (path : List ℕ) (d : Data) (x : A) → judge path d ≡ Ok x → IsPart d x
  pub complete : (path : List ℕ) (d : Data) (x : A) → IsPart d x → judge path d ≡ Ok x

pub each-sound : {A : Type 0} (judge : List A → Data → Judged A) (IsPart : List A → Data → A → Type 0)
    → ExactBeside judge IsPart → (earlier : List A) (ds : Items) (all : List A) → each judge earlier ds ≡ Ok all
    → (new : List A) × (all ≡ earlier ++ new) × AreParts IsPart earlier ds new
each-sound judge IsPart exact earlier no_items all is = (
  [],
  sym (same_part earlier all is)
      ∙ sym (append-nil earlier),
  tt,
)
each-sound judge IsPart exact earlier (item d ds) all is =
    let here = both_parts (judge earlier d) (λ part. each judge (earlier ++ part ∷ []) ds) all is in
    let rest = each-sound judge IsPart exact (earlier ++ here.0 ∷ []) ds all here.2 in
    (here.0 ∷ rest.0, rest.1 ∙ append_assoc earlier (here.0 ∷ []) rest.0, (exact.sound earlier d here.0 here.1, rest.2))

pub each-complete : {A : Type 0} (judge : List A → Data → Judged A) (IsPart : List A → Data → A → Type 0)
    → ExactBeside judge IsPart → (earlier : List A) (ds : Items) (new : List A) → AreParts IsPart earlier ds new
    → each judge earlier ds ≡ Ok (earlier ++ new)
each-complete judge IsPart exact earlier no_items [] parts = ap Ok (sym (append-nil earlier))
each-complete judge IsPart exact earlier no_items (x ∷ xs) parts = absurd parts
each-complete judge IsPart exact earlier (item d ds) [] parts = absurd parts
each-complete judge IsPart exact earlier (item d ds) (x ∷ xs) parts =
    from_parts (judge earlier d) (λ part. each judge (earlier ++ part ∷ []) ds) x _ (exact.complete earlier d x parts.0)
    (each-complete judge IsPart exact (earlier ++ x ∷ []) ds xs parts.1 ∙ ap Ok (append_assoc earlier (x ∷ []) xs))

-- parts that are judged each by itself
pub by_itself : {A : Type 0} (judge : List ℕ → Data → Judged A) (IsPart : Data → A → Type 0) → Exact judge IsPart
    → (path : List ℕ) → ExactBeside (at_next judge path) (λ _. IsPart)
by_itself judge IsPart exact path = record
    { sound = λ earlier d x is. exact.sound _ d x is; complete = λ earlier d x is. exact.complete _ d x is }

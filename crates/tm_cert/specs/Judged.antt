-- Judging a part of a certificate's value: what it is, or its first fault.
use Rattle.std.specs.Prelude.{◌≡◌, ℕ, List, [], ◌∷◌, ◌++◌, length, Result, Ok, Err, ⊤}
use Rattle.serde_json.specs.Data.{Data, Items, no_items, item}
use Rattle.tm_cert.specs.declared.refusal.BadCert.{BadCert}
use Rattle.tm_cert.specs.declared.refusal.ReadCertError.{ReadCertError}
use Rattle.tm_cert.specs.declared.refusal.ReadCertError.TheVariants.{Bad, Memory}
use Rattle.tm_cert.specs.Path.{index_path}

-- a part, or its first fault
abbrev pub Judged : Type 0 → Type 0
Judged A = Result A BadCert

-- what comes after a part is judged where the part has no fault
abbrev pub and_then : {A B : Type 0} → Judged A → (A → Judged B) → Judged B
and_then (Ok part) next = next part
and_then (Err fault) next = Err fault

-- the parts of a list in order, each judged beside those that were found before it
abbrev pub each : {A : Type 0} → (List A → Data → Judged A) → List A → Items → Judged (List A)
each judge found no_items = Ok found
each judge found (item d ds) = and_then (judge found d) (λ part. each judge (found ++ part ∷ []) ds)

-- the part behind those that were found before it in the list at a path
abbrev pub at_next : {A : Type 0} → (List ℕ → Data → Judged A) → List ℕ → List A → Data → Judged A
at_next judge path earlier d = judge (index_path path (length earlier)) d

-- the parts of the list at a path, each judged by itself
abbrev pub each_at : {A : Type 0} → (List ℕ → Data → Judged A) → List ℕ → Items → Judged (List A)
each_at judge path = each (at_next judge path) []

-- a reader's error is the fault that was judged, or want of memory
abbrev pub IsRefusalOf : {A : Type 0} → Judged A → ReadCertError → Type 0
IsRefusalOf judged Memory = ⊤
IsRefusalOf judged (Bad fault) = judged ≡ Err fault

-- Each simple part is found exactly where the value is this part.
use Rattle.std.proofs.Common.{◌≡◌, ℕ, suc, ◌<◌, List, [], ◌∷◌, ◌++◌, length, Ok, eqb, ltb, refl, ap, sym, ◌∙◌, subst}
use Rattle.std.proofs.lemmas.Bool.{eq-eqb, eqb-true, lt-ltb, ltb-true}
use Rattle.serde_json.specs.Data.{Data, array, object, number, unsigned, negative, float, null, boolean, string, Items, no_items, item, Members}
use Rattle.serde_json.specs.Events.{items_len}
use Rattle.tm_cert.specs.declared.refusal.BadCert.TheVariants.{Range}
use Rattle.tm_cert.specs.Judged.{Judged, and_then, each}
use Rattle.tm_cert.specs.Part.{below, counted, counted_items_at, items_at, members_at, number_at, number_below_at}
use Rattle.tm_cert.specs.Parts.{AreParts, IsList, IsNumber}
use Rattle.tm_cert.specs.Written.{number_data}
use Rattle.tm_cert.proofs.Exact.{both_parts, each-complete, each-sound, Exact, ExactBeside, from_parts, passed, same_part}

-- ---- numbers

pub number_at-sound : (path : List ℕ) (d : Data) (n : ℕ) → number_at path d ≡ Ok n → d ≡ number_data n
number_at-sound path null n is = cc
number_at-sound path (boolean b) n is = cc
number_at-sound path (number (unsigned m)) n is = ap number_data (same_part m n is)
number_at-sound path (number (negative z)) n is = cc
number_at-sound path (number (float x)) n is = cc
number_at-sound path (string s) n is = cc
number_at-sound path (array ds) n is = cc
number_at-sound path (object ms) n is = cc

pub number_at-complete : (path : List ℕ) (d : Data) (n : ℕ) → d ≡ number_data n → number_at path d ≡ Ok n
number_at-complete path d n is = ap (number_at path) is

pub exact_number : Exact number_at (λ d n. d ≡ number_data n)
exact_number = record { sound = number_at-sound; complete = number_at-complete }

pub below-complete : (path : List ℕ) (limit n : ℕ) → n < limit → below path limit n ≡ Ok n
below-complete path limit n within = rw (lt-ltb n limit within) refl

pub number_below_at-sound : (limit : ℕ) (path : List ℕ) (d : Data) (n : ℕ) → number_below_at path limit d ≡ Ok n
    → IsNumber limit d n
number_below_at-sound limit path d n is =
    let parts = both_parts (number_at path d) (below path limit) n is in
    let test = passed (ltb parts.0 limit) parts.0 n (Range path) parts.2 in
    (number_at-sound path d n (parts.1 ∙ ap Ok test.1), subst (λ m. m < limit) test.1 (ltb-true parts.0 limit test.0))

pub number_below_at-complete : (limit : ℕ) (path : List ℕ) (d : Data) (n : ℕ) → IsNumber limit d n
    → number_below_at path limit d ≡ Ok n
number_below_at-complete limit path d n is =
    from_parts (number_at path d) (below path limit) n n (number_at-complete path d n is.0)
    (below-complete path limit n is.1)

pub exact_below : (limit : ℕ) → Exact (λ path. number_below_at path limit) (IsNumber limit)
exact_below limit = record { sound = number_below_at-sound limit; complete = number_below_at-complete limit }

-- ---- lists

pub items_at-sound : (path : List ℕ) (d : Data) (ds : Items) → items_at path d ≡ Ok ds → d ≡ array ds
items_at-sound path null ds is = cc
items_at-sound path (boolean b) ds is = cc
items_at-sound path (number x) ds is = cc
items_at-sound path (string s) ds is = cc
items_at-sound path (array es) ds is = ap array (same_part es ds is)
items_at-sound path (object ms) ds is = cc

pub list-sound : {A : Type 0} (judge : List A → Data → Judged A) (IsPart : List A → Data → A → Type 0)
    → ExactBeside judge IsPart → (path : List ℕ) (d : Data) (xs : List A)
    → and_then (items_at path d) (each judge []) ≡ Ok xs → IsList IsPart d xs
list-sound judge IsPart exact path d xs is =
    let parts = both_parts (items_at path d) (each judge []) xs is in
    let found = each-sound judge IsPart exact [] parts.0 xs parts.2 in
    (parts.0, items_at-sound path d parts.0 parts.1, subst (AreParts IsPart [] parts.0) (sym found.1) found.2)

pub list-complete : {A : Type 0} (judge : List A → Data → Judged A) (IsPart : List A → Data → A → Type 0)
    → ExactBeside judge IsPart → (path : List ℕ) (d : Data) (xs : List A)
    → IsList IsPart d xs → and_then (items_at path d) (each judge []) ≡ Ok xs
list-complete judge IsPart exact path d xs is =
    from_parts (items_at path d) (each judge []) is.0 xs (ap (items_at path) is.1)
    (each-complete judge IsPart exact [] is.0 xs is.2)

pub length-parts : {A : Type 0} (IsPart : List A → Data → A → Type 0) (earlier : List A) (ds : Items) (xs : List A)
    → AreParts IsPart earlier ds xs → length xs ≡ items_len ds
length-parts IsPart earlier no_items [] parts = refl
length-parts IsPart earlier no_items (x ∷ xs) parts = absurd parts
length-parts IsPart earlier (item d ds) [] parts = absurd parts
length-parts IsPart earlier (item d ds) (x ∷ xs) parts = ap suc (length-parts IsPart (earlier ++ x ∷ []) ds xs parts.1)

pub counted-sound : {A : Type 0} (judge : List A → Data → Judged A) (IsPart : List A → Data → A → Type 0)
    → ExactBeside judge IsPart → (path : List ℕ) (count : ℕ) (d : Data) (xs : List A)
    → and_then (counted_items_at path count d) (each judge []) ≡ Ok xs → IsList IsPart d xs × (length xs ≡ count)
counted-sound judge IsPart exact path count d xs is =
    let parts = both_parts (counted_items_at path count d) (each judge []) xs is in
    let list = both_parts (items_at path d) (counted path count) parts.0 parts.1 in
    let test = passed (eqb (items_len list.0) count) list.0 parts.0 (Range path) list.2 in
    let whole = list-sound judge IsPart exact path d xs
    (from_parts (items_at path d) (each judge []) list.0 xs list.1 (ap (each judge []) test.1 ∙ parts.2)) in (
      whole,
      length-parts IsPart [] whole.0 xs whole.2
          ∙ ap items_len (same_items whole.0 list.0 (sym whole.1 ∙ items_at-sound path d list.0 list.1))
          ∙ eqb-true (items_len list.0) count test.0,
    )
  where
    same_items : (ds es : Items) → array ds ≡ array es → ds ≡ es
    same_items ds es same = cc

pub counted-complete : {A : Type 0} (judge : List A → Data → Judged A) (IsPart : List A → Data → A → Type 0)
    → ExactBeside judge IsPart → (path : List ℕ) (count : ℕ) (d : Data) (xs : List A)
    → IsList IsPart d xs → length xs ≡ count → and_then (counted_items_at path count d) (each judge []) ≡ Ok xs
counted-complete judge IsPart exact path count d xs is long =
    let many : items_len is.0 ≡ count = sym (length-parts IsPart [] is.0 xs is.2) ∙ long in
    from_parts (counted_items_at path count d) (each judge []) is.0 xs
    (from_parts (items_at path d) (counted path count) is.0 is.0 (ap (items_at path) is.1)
    (rw (eq-eqb (items_len is.0) count many) refl))
    (each-complete judge IsPart exact [] is.0 xs is.2)

-- ---- objects

pub members_at-sound : (path : List ℕ) (d : Data) (ms : Members) → members_at path d ≡ Ok ms → d ≡ object ms
members_at-sound path null ms is = cc
members_at-sound path (boolean b) ms is = cc
members_at-sound path (number x) ms is = cc
members_at-sound path (string s) ms is = cc
members_at-sound path (array es) ms is = cc
members_at-sound path (object ns) ms is = ap object (same_part ns ms is)

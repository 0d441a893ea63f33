-- Laws of judging: what comes first, and lists part by part.
use Rattle.std.proofs.Common.{◌≡◌, ℕ, ◌+◌, ◌<◌, ◌≤◌, List, [], ◌∷◌, ◌++◌, length, drop, get_or, Ok, Bor, subst, sym, ap, ◌∙◌}
use Rattle.std.proofs.Math.ListN.{drop_of_length-le}
use Rattle.std.proofs.lemmas.List.{at_drop_more}
use Rattle.serde_json.specs.Data.{Data}
use Rattle.serde_json.specs.View.{view, items_view}
use Rattle.serde_json.specs.declared.value.Value.{Value}
use Rattle.tm_cert.specs.declared.refusal.ReadCertError.{ReadCertError}
use Rattle.tm_cert.specs.declared.refusal.ReadCertError.TheVariants.{Bad, Memory}
use Rattle.tm_cert.specs.Judged.{Judged, and_then, at_next, each, IsRefusalOf}
use Rattle.tm_cert.specs.Path.{index_path, path_text}
use Rattle.tm_cert.specs.declared.path.Path.{Path, Index}
use Rattle.tm_cert.proofs.Paths.{path_text-Index}

-- the fault of what is judged first is the fault of the whole
pub refused_first : {A B : Type 0} (whole : Judged B) (first : Judged A) (next : A → Judged B) (e : ReadCertError)
    → whole ≡ and_then first next → IsRefusalOf first e → IsRefusalOf whole e
refused_first whole first next Memory is h = tt
refused_first whole first next (Bad fault) is h = is ∙ ap (λ j. and_then j next) h

-- what equals a judgement is refused with its fault
pub refused_same : {A : Type 0} (whole other : Judged A) (e : ReadCertError)
    → whole ≡ other → IsRefusalOf other e → IsRefusalOf whole e
refused_same whole other Memory is h = tt
refused_same whole other (Bad fault) is h = is ∙ h

-- what is judged first is there
pub judged_first : {A B : Type 0} (whole : Judged B) (first : Judged A) (next : A → Judged B) (part : A)
    → whole ≡ and_then first next → first ≡ Ok part → whole ≡ next part
judged_first whole first next part is h = is ∙ ap (λ j. and_then j next) h

-- the parts from a place on
pub each-drop : {A : Type 0} (judge : List A → Data → Judged A) (found : List A) (values : List Value) (i : ℕ)
    (v : Value)
    → i < length values → v ≡ get_or values i v
    → each judge found (items_view (drop i values))
    ≡ and_then (judge found (view v)) (λ part. each judge (found ++ part ∷ []) (items_view (drop (i + 1) values)))
each-drop judge found values i v within is =
    at_drop_more (λ vs. each judge found (items_view vs)) values i v within
    ∙ ap (λ w. each judge found (items_view (w ∷ drop (i + 1) values))) (sym is)

-- a list whose part at a place is found goes on behind it
pub each-found : {A : Type 0} (judge : List A → Data → Judged A) (all : Judged (List A)) (found new : List A)
    (values : List Value) (i : ℕ) (v : Value) (part : A)
    → all ≡ each judge found (items_view (drop i values)) → i < length values → v ≡ get_or values i v
    → judge found (view v) ≡ Ok part → new ≡ found ++ part ∷ []
    → all ≡ each judge new (items_view (drop (i + 1) values))
each-found judge all found new values i v part so_far within is ok added =
    judged_first all (judge found (view v)) _ part (so_far ∙ each-drop judge found values i v within is) ok
    ∙ ap (λ found. each judge found (items_view (drop (i + 1) values))) (sym added)

-- a list has the fault of its part at a place
pub each-refused : {A : Type 0} (judge : List A → Data → Judged A) (all : Judged (List A)) (found : List A)
    (values : List Value) (i : ℕ) (v : Value) (e : ReadCertError)
    → all ≡ each judge found (items_view (drop i values)) → i < length values → v ≡ get_or values i v
    → IsRefusalOf (judge found (view v)) e → IsRefusalOf all e
each-refused judge all found values i v e so_far within is refused =
    refused_first all (judge found (view v)) _ e (so_far ∙ each-drop judge found values i v within is) refused

-- a list whose parts are all found
pub each-whole : {A : Type 0} (judge : List A → Data → Judged A) (all : Judged (List A)) (found : List A)
    (values : List Value) (i : ℕ)
    → all ≡ each judge found (items_view (drop i values)) → length values ≤ i → all ≡ Ok found
each-whole judge all found values i so_far end =
    so_far ∙ ap (λ vs. each judge found (items_view vs)) (drop_of_length-le values end)

-- the path of the part behind those that were found
pub next_path : {A : Type 0} (parent : Bor Path) (count : ℕ) (found : List A) → count ≡ length found
    → path_text (Index parent count) ≡ index_path (path_text parent.now) (length found)
next_path parent count found is = path_text-Index parent count ∙ ap (index_path (path_text parent.now)) is

-- a list whose part at a place is found by itself goes on behind it
pub part-found : {A : Type 0} (judge : List ℕ → Data → Judged A) (path part_path : List ℕ) (all : Judged (List A))
    (found new : List A) (values : List Value) (i : ℕ) (v : Value) (part : A)
    → all ≡ each (at_next judge path) found (items_view (drop i values)) → i < length values → v ≡ get_or values i v
    → part_path ≡ index_path path (length found) → judge part_path (view v) ≡ Ok part → new ≡ found ++ part ∷ []
    → all ≡ each (at_next judge path) new (items_view (drop (i + 1) values))
part-found judge path part_path all found new values i v part so_far within at same ok added =
    each-found (at_next judge path) all found new values i v part so_far within at
    (ap (λ p. judge p (view v)) (sym same) ∙ ok) added

-- a list has the fault of such a part
pub part-refused : {A : Type 0} (judge : List ℕ → Data → Judged A) (path part_path : List ℕ) (all : Judged (List A))
    (found : List A) (values : List Value) (i : ℕ) (v : Value) (e : ReadCertError)
    → all ≡ each (at_next judge path) found (items_view (drop i values)) → i < length values → v ≡ get_or values i v
    → part_path ≡ index_path path (length found) → IsRefusalOf (judge part_path (view v)) e → IsRefusalOf all e
part-refused judge path part_path all found values i v e so_far within at same refused =
    each-refused (at_next judge path) all found values i v e so_far within at
    (subst (λ p. IsRefusalOf (judge p (view v)) e) same refused)

-- Places and nodes are found exactly where the value is this part beside those before it.
use Rattle.std.proofs.Common.{◌≡◌, ◌≢◌, ℕ, ◌-◌, ◌≤◌, List, length, Bool, true, false, not, ◌&&◌, ◌||◌, Option, Some, None, Ok, Err, nat_eq, eqb, ltb, if◌then◌else◌, refl, ap, sym, ◌∙◌, subst, true≢false}
use Rattle.std.proofs.lemmas.Bool.{and_from, and_parts, eq-eqb, eqb-false, eqb-true, lt-ltb, ltb-false, ltb-true}
use Rattle.std.proofs.lemmas.Map.Views.{Contains-from_any, list_any-from_Contains}
use Rattle.std.specs.Cmp.{IsEquivalence, nat_eq_equiv}
use Rattle.std.specs.List.{list_any}
use Rattle.std.specs.Prelude.{Contains, slice_get}
use Rattle.serde_json.specs.Data.{Data, array, Items, no_items, item}
use Rattle.tm_cert.specs.declared.cert.Entry.{Entry}
use Rattle.tm_cert.specs.declared.refusal.BadCert.{BadCert}
use Rattle.tm_cert.specs.declared.refusal.BadCert.TheVariants.{Node, Range}
use Rattle.tm_cert.specs.CertValue.{IsAboveChild, IsEntry, IsNode, IsOrder, IsPlace}
use Rattle.tm_cert.specs.Judged.{Judged, and_then}
use Rattle.tm_cert.specs.Nodes.{entry_at, ids_of, is_above, is_above_child, is_listed, is_over, new_node, nodes_at, same_entry, three_at, three_numbers}
use Rattle.tm_cert.specs.Order.{first_time, order_at, place_at}
use Rattle.tm_cert.specs.Part.{items_at, number_at, number_below_at}
use Rattle.tm_cert.specs.Parts.{IsList, IsNumber}
use Rattle.tm_cert.specs.Path.{index_path}
use Rattle.tm_cert.specs.Written.{entry_data}
use Rattle.tm_cert.proofs.Exact.{both_parts, ExactBeside, from_parts, passed, same_part}
use Rattle.tm_cert.proofs.ExactParts.{counted-complete, counted-sound, items_at-sound, list-complete, list-sound, number_at-sound, number_below_at-complete, number_below_at-sound}
use Rattle.tm_cert.proofs.Lists.{is_above_child-inner}

-- ---- places

not_passed : {A : Type 0} (test : Bool) (x y : A) (fault : BadCert)
    → (let j : Judged A = (if test then Err fault else Ok x) in j) ≡ Ok y → (test ≡ false) × (x ≡ y)
not_passed true x y fault is = cc
not_passed false x y fault is = (refl, same_part x y is)

no_longer : {A : Type 0} (same : A → A → Bool) → IsEquivalence same → (x : A) (xs : List A) → list_any (same x) xs
    ≡ false
    → ¬ Contains xs x
no_longer same laws x xs none there = true≢false (sym (list_any-from_Contains laws x xs there) ∙ none)

none_of : {A : Type 0} (same : A → A → Bool) → ((x y : A) → same x y ≡ true → x ≡ y) → (x : A) (xs : List A) (b : Bool)
    → list_any (same x) xs ≡ b → ¬ Contains xs x → b ≡ false
none_of same exact x xs true is new = absurd (new (Contains-from_any exact x xs is))
none_of same exact x xs false is new = refl

same_number : (x y : ℕ) → nat_eq x y ≡ true → x ≡ y
same_number = eqb-true

pub exact_place : (path : List ℕ) (bits : ℕ) → ExactBeside (place_at path bits) (IsPlace bits)
exact_place path bits = record {
  sound = λ earlier d place is.
      let p = index_path path (length earlier) in
      let parts = both_parts (number_below_at p bits d) (first_time p earlier) place is in
      let test = not_passed (list_any (nat_eq parts.0) earlier) parts.0 place (Range p) parts.2 in (
        subst (IsNumber bits d) test.1 (number_below_at-sound bits p d parts.0 parts.1),
        subst (λ n. ¬ Contains earlier n) test.1 (no_longer nat_eq nat_eq_equiv parts.0 earlier test.0),
      );
  complete = λ earlier d place is.
      let p = index_path path (length earlier) in
      let none = none_of nat_eq same_number place earlier _ refl is.1 in
      from_parts (number_below_at p bits d) (first_time p earlier) place place
      (number_below_at-complete bits p d place is.0) (ap (λ b. if b then Err (Range p) else Ok place) none);
}

pub order_at-sound : (path : List ℕ) (bits : ℕ) (d : Data) (order : List ℕ) → order_at path bits d ≡ Ok order
    → IsOrder bits d order
unfolding order_at
order_at-sound path bits d order is = counted-sound (place_at path bits) (IsPlace bits) (exact_place path bits) path
    bits d order is

pub order_at-complete : (path : List ℕ) (bits : ℕ) (d : Data) (order : List ℕ) → IsOrder bits d order
    → order_at path bits d ≡ Ok order
unfolding order_at
order_at-complete path bits d order is =
    counted-complete (place_at path bits) (IsPlace bits) (exact_place path bits) path bits d order is.0 is.1

-- ---- entries

same_entry-exact : (x y : Entry) → same_entry x y ≡ true → x ≡ y
same_entry-exact x y is =
    let a = and_parts (eqb x.level y.level) _ is in
    let b = and_parts (eqb x.lo y.lo) (eqb x.hi y.hi) a.1 in
    let level = eqb-true x.level y.level a.0 in
    let lo = eqb-true x.lo y.lo b.0 in
    let hi = eqb-true x.hi y.hi b.1 in
    (λ i. record { level = level i; lo = lo i; hi = hi i })

same_entry-refl : (x : Entry) → same_entry x x ≡ true
same_entry-refl x =
    and_from (eqb x.level x.level) _ (eq-eqb x.level x.level refl)
    (and_from (eqb x.lo x.lo) (eqb x.hi x.hi) (eq-eqb x.lo x.lo refl) (eq-eqb x.hi x.hi refl))

decide_same : (x y : Entry) (a b : Bool) → same_entry x y ≡ a → same_entry y x ≡ b → a ≡ b
decide_same x y true true p q = refl
decide_same x y false false p q = refl
decide_same x y true false p q =
    sym (same_entry-refl y) ∙ ap (λ z. same_entry y z) (sym (same_entry-exact x y p)) ∙ q
decide_same x y false true p q =
    sym p ∙ ap (λ z. same_entry x z) (same_entry-exact y x q) ∙ same_entry-refl x

same_entry-equivalence : IsEquivalence same_entry
same_entry-equivalence = record {
  refl = same_entry-refl;
  symm = λ x y. decide_same x y _ _ refl refl;
  congr = λ x y z is. ap (λ w. same_entry w z) (same_entry-exact x y is);
}

above-sound : (earlier : List Entry) (level id : ℕ) → is_above_child earlier level id ≡ true
    → IsAboveChild earlier level id
above-sound earlier level id is child inner there =
    ltb-true level child.level (sym (is_above_child-inner earlier level id (Some child) inner (sym there)) ∙ is)

above_at : (earlier : List Entry) (level id : ℕ) (found : Option Entry) → 2 ≤ id → slice_get earlier (id - 2) ≡ found
    → IsAboveChild earlier level id → is_above_child earlier level id ≡ true
above_at earlier level id None inner there is = is_above_child-inner earlier level id None inner (sym there)
above_at earlier level id (Some child) inner there is =
    is_above_child-inner earlier level id (Some child) inner (sym there)
    ∙ lt-ltb level child.level (is child inner there)

above_or : (earlier : List Entry) (level id : ℕ) (b : Bool) → ltb id 2 ≡ b → IsAboveChild earlier level id
    → is_above_child earlier level id ≡ true
above_or earlier level id true constant is = ap (λ b. b || is_above level (slice_get earlier (id - 2))) constant
above_or earlier level id false inner is = above_at earlier level id _ (ltb-false id 2 inner) refl is

not_true : (b : Bool) → not b ≡ true → b ≡ false
not_true true is = cc
not_true false is = refl

differ : (x y : ℕ) (b : Bool) → eqb x y ≡ b → x ≢ y → not b ≡ true
differ x y true is apart = absurd (apart (eqb-true x y is))
differ x y false is apart = refl

pub over-sound : (bits : ℕ) (earlier : List Entry) (e : Entry)
    → (is_over bits earlier e && not (is_listed earlier e)) ≡ true
    → IsNode bits earlier e
over-sound bits earlier e is =
    let whole = and_parts (is_over bits earlier e) (not (is_listed earlier e)) is in
    let a = and_parts (ltb e.level bits) _ whole.0 in
    let b = and_parts (ltb e.lo (ids_of earlier)) _ a.1 in
    let c = and_parts (ltb e.hi (ids_of earlier)) _ b.1 in
    let d = and_parts (not (eqb e.lo e.hi)) _ c.1 in
    let f = and_parts (is_above_child earlier e.level e.lo) (is_above_child earlier e.level e.hi) d.1 in
    record {
      level_below = ltb-true e.level bits a.0;
      lo_before = ltb-true e.lo (ids_of earlier) b.0;
      hi_before = ltb-true e.hi (ids_of earlier) c.0;
      children_differ = eqb-false e.lo e.hi (not_true (eqb e.lo e.hi) d.0);
      lo_deeper = above-sound earlier e.level e.lo f.0;
      hi_deeper = above-sound earlier e.level e.hi f.1;
      is_new = no_longer same_entry same_entry-equivalence e earlier (not_true (is_listed earlier e) whole.1);
    }

pub over-complete : (bits : ℕ) (earlier : List Entry) (e : Entry) → IsNode bits earlier e
    → (is_over bits earlier e && not (is_listed earlier e)) ≡ true
over-complete bits earlier e node =
    and_from (is_over bits earlier e) (not (is_listed earlier e))
    (and_from (ltb e.level bits) _ (lt-ltb e.level bits node.level_below)
    (and_from (ltb e.lo (ids_of earlier)) _ (lt-ltb e.lo (ids_of earlier) node.lo_before)
    (and_from (ltb e.hi (ids_of earlier)) _ (lt-ltb e.hi (ids_of earlier) node.hi_before)
    (and_from (not (eqb e.lo e.hi)) _ (differ e.lo e.hi _ refl node.children_differ)
    (and_from (is_above_child earlier e.level e.lo) (is_above_child earlier e.level e.hi)
    (above_or earlier e.level e.lo _ refl node.lo_deeper) (above_or earlier e.level e.hi _ refl node.hi_deeper))))))
    (ap not (none_of same_entry same_entry-exact e earlier _ refl node.is_new))

three_numbers-sound : (path : List ℕ) (a b c : Data) (e : Entry) → three_numbers path a b c ≡ Ok e
    → array (item a (item b (item c no_items))) ≡ entry_data e
three_numbers-sound path a b c e is =
    let one = both_parts (number_at (index_path path 0) a) _ e is in
    let two = both_parts (number_at (index_path path 1) b) _ e one.2 in
    let three = both_parts (number_at (index_path path 2) c) _ e two.2 in
    let level = number_at-sound (index_path path 0) a one.0 one.1 in
    let lo = number_at-sound (index_path path 1) b two.0 two.1 in
    let hi = number_at-sound (index_path path 2) c three.0 three.1 in
    (λ i. array (item (level i) (item (lo i) (item (hi i) no_items))))
    ∙ ap entry_data (same_part (record { level = one.0; lo = two.0; hi = three.0 }) e three.2)

three_at-sound : (path : List ℕ) (ds : Items) (e : Entry) → three_at path ds ≡ Ok e → array ds ≡ entry_data e
three_at-sound path no_items e is = cc
three_at-sound path (item a no_items) e is = cc
three_at-sound path (item a (item b no_items)) e is = cc
three_at-sound path (item a (item b (item c no_items))) e is = three_numbers-sound path a b c e is
three_at-sound path (item a (item b (item c (item d ds)))) e is = cc

entry-sound : (path : List ℕ) (d : Data) (e : Entry) → and_then (items_at path d) (three_at path) ≡ Ok e → d
    ≡ entry_data e
entry-sound path d e is =
    let parts = both_parts (items_at path d) (three_at path) e is in
    items_at-sound path d parts.0 parts.1 ∙ three_at-sound path parts.0 e parts.2

entry-complete : (path : List ℕ) (d : Data) (e : Entry) → d ≡ entry_data e
    → and_then (items_at path d) (three_at path) ≡ Ok e
entry-complete path d e is = ap (λ d. and_then (items_at path d) (three_at path)) is

pub exact_entry : (path : List ℕ) (bits : ℕ) → ExactBeside (entry_at path bits) (IsEntry bits)
exact_entry path bits = record {
  sound = λ earlier d e is.
      let p = index_path path (length earlier) in
      let parts = both_parts (and_then (items_at p d) (three_at p)) (new_node bits earlier) e is in
      let test = passed (is_over bits earlier parts.0 && not (is_listed earlier parts.0)) parts.0 e
      (Node (ids_of earlier)) parts.2 in (
        entry-sound p d e (parts.1 ∙ ap Ok test.1),
        subst (IsNode bits earlier) test.1
            (over-sound bits earlier parts.0 test.0),
      );
  complete = λ earlier d e is.
      let p = index_path path (length earlier) in
      from_parts (and_then (items_at p d) (three_at p)) (new_node bits earlier) e e (entry-complete p d e is.0)
      (ap (λ b. if b then Ok e else Err (Node (ids_of earlier))) (over-complete bits earlier e is.1));
}

pub nodes_at-sound : (path : List ℕ) (bits : ℕ) (d : Data) (nodes : List Entry) → nodes_at path bits d ≡ Ok nodes
    → IsList (IsEntry bits) d nodes
unfolding nodes_at
nodes_at-sound path bits d nodes is = list-sound (entry_at path bits) (IsEntry bits) (exact_entry path bits) path d
    nodes is

pub nodes_at-complete : (path : List ℕ) (bits : ℕ) (d : Data) (nodes : List Entry) → IsList (IsEntry bits) d nodes
    → nodes_at path bits d ≡ Ok nodes
unfolding nodes_at
nodes_at-complete path bits d nodes is =
    list-complete (entry_at path bits) (IsEntry bits) (exact_entry path bits) path d nodes is

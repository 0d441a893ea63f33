-- A value that a text is has the keys of each object in byte order.
use Rattle.std.proofs.Common.{◌≡◌, ℕ, List, Option, Some, None, option_map, option_and_then, Ordering, Less, Equal, Greater, nat_cmp, refl, ap, ◌∙◌, subst}
use Rattle.std.proofs.lemmas.Cmp.{nat_list_cmp_total}
use Rattle.std.specs.Cmp.Lexicographic.{slice_cmp}
use Rattle.std.specs.Ordering.{match_ordering, ordering_reverse}
use Rattle.std.specs.Prelude.{⊤}
use Rattle.json.specs.Json as json
use Rattle.json.specs.Lex.{tokens}
use Rattle.serde_json.specs.Data.{Data, array, number, object, item, Members, no_members, member, put}
use Rattle.serde_json.specs.Read.{number_of, of_items, of_json, max_depth, of_members, read}
use Rattle.tm_cert.specs.KeyOrder.{AreInOrder, HasKeysInOrder, IsBelowKeys, ItemsHaveKeysInOrder}

below-put_at : (o : Ordering) (k l m : List ℕ) (d e : Data) (ms : Members) → slice_cmp nat_cmp k l ≡ o
    → slice_cmp nat_cmp m k ≡ Less → IsBelowKeys m (member l e ms) → IsBelowKeys m (put k d ms)
    → IsBelowKeys m (match_ordering o (member k d (member l e ms)) (member l d ms) (member l e (put k d ms)))
below-put_at Less k l m d e ms is less below rest = (less, below)
below-put_at Equal k l m d e ms is less below rest = below
below-put_at Greater k l m d e ms is less below rest = (below.0, rest)

-- a key below another and below the members is below the members with the other
below-put : (m k : List ℕ) (d : Data) (ms : Members) → slice_cmp nat_cmp m k ≡ Less → IsBelowKeys m ms
    → IsBelowKeys m (put k d ms)
below-put m k d no_members less below = (less, tt)
below-put m k d (member l e ms) less below =
    below-put_at _ k l m d e ms refl less below (below-put m k d ms less below.1)

below-trans : (k l : List ℕ) (ms : Members) → slice_cmp nat_cmp k l ≡ Less → IsBelowKeys l ms → IsBelowKeys k ms
below-trans k l no_members less below = tt
below-trans k l (member m d ms) less below =
    (nat_list_cmp_total.trans k l m less below.0, below-trans k l ms less below.1)

in_order-put_at : (o : Ordering) (k l : List ℕ) (d e : Data) (ms : Members) → slice_cmp nat_cmp k l ≡ o
    → HasKeysInOrder d → AreInOrder (member l e ms) → AreInOrder (put k d ms)
    → AreInOrder (match_ordering o (member k d (member l e ms)) (member l d ms) (member l e (put k d ms)))
in_order-put_at Less k l d e ms is one all rest = ((is, below-trans k l ms is all.0), (one, all))
in_order-put_at Equal k l d e ms is one all rest = (all.0, (one, all.1.1))
in_order-put_at Greater k l d e ms is one all rest =
    let less : slice_cmp nat_cmp l k ≡ Less = nat_list_cmp_total.antisymm l k ∙ ap ordering_reverse is in
    (below-put l k d ms less all.0, (all.1.0, rest))

in_order-put : (k : List ℕ) (d : Data) (ms : Members) → HasKeysInOrder d → AreInOrder ms → AreInOrder (put k d ms)
in_order-put k d no_members one all = (tt, (one, tt))
in_order-put k d (member l e ms) one all =
    in_order-put_at _ k l d e ms refl one all (in_order-put k d ms one all.1.1)

-- a fact of what is found, if something is
abbrev IfFound : {A : Type 0} → (A → Type 0) → Option A → Type 0
IfFound P None = ⊤
IfFound P (Some a) = P a

found-map : {A B : Type 0} (P : A → Type 0) (Q : B → Type 0) (f : A → B) → ((a : A) → P a → Q (f a)) → (o : Option A)
    → IfFound P o → IfFound Q (option_map f o)
found-map P Q f h None p = tt
found-map P Q f h (Some a) p = h a p

found-and_then : {A B : Type 0} (P : A → Type 0) (Q : B → Type 0) (f : A → Option B) → ((a : A) → P a → IfFound Q (f a))
    → (o : Option A) → IfFound P o → IfFound Q (option_and_then f o)
found-and_then P Q f h None p = tt
found-and_then P Q f h (Some a) p = h a p

anything : {A : Type 0} (o : Option A) → IfFound (λ _. ⊤) o
anything None = tt
anything (Some a) = tt

mutual
  of_json-in_order : (j : json.Json) → IfFound HasKeysInOrder (of_json j)
  of_json-in_order json.null = tt
  of_json-in_order (json.boolean b) = tt
  of_json-in_order (json.number s) = found-map (λ _. ⊤) HasKeysInOrder number (λ n h. tt) (number_of s)
      (anything (number_of s))
  of_json-in_order (json.string s) = tt
  of_json-in_order (json.array js) =
      found-map ItemsHaveKeysInOrder HasKeysInOrder array (λ ds h. h) (of_items js) (of_items-in_order js)
  of_json-in_order (json.object ms) =
      found-map AreInOrder HasKeysInOrder object (λ ms h. h) (of_members ms no_members)
      (of_members-in_order ms no_members tt)

  of_items-in_order : (js : json.Items) → IfFound ItemsHaveKeysInOrder (of_items js)
  of_items-in_order json.no_items = tt
  of_items-in_order (json.item j js) =
      found-and_then HasKeysInOrder ItemsHaveKeysInOrder (λ d. option_map (item d) (of_items js))
      (λ d h. found-map ItemsHaveKeysInOrder ItemsHaveKeysInOrder (item d) (λ ds k. (h, k)) (of_items js)
      (of_items-in_order js))
      (of_json j) (of_json-in_order j)

  of_members-in_order : (ms : json.Members) (found : Members) → AreInOrder found
      → IfFound AreInOrder (of_members ms found)
  of_members-in_order json.no_members found h = h
  of_members-in_order (json.member k j ms) found h =
      found-and_then HasKeysInOrder AreInOrder (λ d. of_members ms (put k d found))
      (λ d one. of_members-in_order ms (put k d found) (in_order-put k d found one h)) (of_json j) (of_json-in_order j)

any_value : (o : Option json.Json) → IfFound HasKeysInOrder (option_and_then of_json o)
any_value None = tt
any_value (Some j) = of_json-in_order j

-- what a text is has its keys in order
pub read-in_order : (text : List ℕ) (d : Data) → read text ≡ Some d → HasKeysInOrder d
read-in_order text d is =
    subst (IfFound HasKeysInOrder) is
    (any_value (option_and_then (λ p. json.if_last p.0 p.1) (json.value max_depth (tokens text))))

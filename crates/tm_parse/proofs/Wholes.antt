-- The items of a specification, one behind another.
use Rattle.std.proofs.Common.{◌≡◌, ◌==◌, ℕ, Bool, true, false, Some, None, List, [], ◌∷◌, ◌++◌, length, refl, sym, ap, ◌∙◌, subst, arith}
use Rattle.std.proofs.lemmas.Bool.{eqb-true}
use Rattle.std.proofs.lemmas.List.Elements.{filter_map-append}
use Rattle.tm_syntax.specs.declared.token.Token.{Token}
use Rattle.tm_syntax.specs.Tree.{SpecTree}
use Rattle.tm_syntax.specs.Grammar.Parts.{AreEach, each_none, each_more}
use Rattle.tm_syntax.specs.Grammar.Specification.{ItemTree, enum_of, template_in, spec_of, spec}
use Rattle.tm_parse.specs.declared.stop.Stop.{Stop}
use Rattle.tm_parse.specs.Reading.{Reach, first_of, first_kind, IsBlocked, IsRefused, Takes, AnyOf, Nothing}
use Rattle.tm_parse.specs.Items.{AnItem, with_items, ASpec, GoesOnAtAll}
use Rattle.tm_parse.proofs.Ports.{item_opens}
use Rattle.tm_parse.proofs.Rows.{Each, none_here, one_here, each_view, Grows, EndsBy, RowSoFar, Begun, row_begun, Apart, row_more, row_all, row_blocked}
use Rattle.tm_parse.proofs.Taking.{Same, same_kind, takes_so, refused_in}

-- one item or more
pub data SomeItems (text : List ℕ) (reach : Reach) : List ItemTree → List Token → List Token → Type 0 where
  some_items : {items : List ItemTree} {last : ItemTree} {a b c : List Token} → AreEach (AnItem text reach) items a b →
      AnItem text reach last b c → SomeItems text reach (items ++ last ∷ []) a c

items_more : {text : List ℕ} {reach : Reach} {items : List ItemTree} {d : ItemTree} {a b c : List Token} →
    SomeItems text reach items a b → AnItem text reach d b c → SomeItems text reach (items ++ d ∷ []) a c
items_more (some_items front last) is = some_items (each_more front last) is

pub items_grow : (text : List ℕ) → Grows (SomeItems text) (AnItem text)
items_grow text = record { more = λ reach xs x a b c row is. items_more row is }

pub items_apart : (text : List ℕ) → Apart (AnItem text) Nothing (EndsBy GoesOnAtAll)
items_apart text = record {
  begins = λ reach d a b is goes. goes;
  ends = λ reach d a b is ends. ends (item_opens reach is);
  last = λ a ends goes. goes;
}

abbrev BegunSpec : List ℕ → Reach → List ItemTree → List Token → List Token → Type 0
BegunSpec text = Begun (AnItem text) (AnItem text) (λ d. d ∷ [])

begun_front : {text : List ℕ} {reach : Reach} {items : List ItemTree} {last : ItemTree} {a b c : List Token} →
    Each (AnItem text reach) items a b → AnItem text reach last b c → BegunSpec text reach (items ++ last ∷ []) a c
begun_front none_here is = record {
  tree = _;
  between = _;
  first = is;
  leads = record { others = []; whole = refl; are = each_none };
}
begun_front (one_here is others) last = record {
  tree = _;
  between = _;
  first = is;
  leads = record { others = _; whole = refl; are = each_more others last };
}

pub begun : {text : List ℕ} {reach : Reach} {items : List ItemTree} {a b : List Token} →
    SomeItems text reach items a b →
    BegunSpec text reach items a b
begun (some_items front last) = begun_front (each_view front) last

-- the items that were read so far, as a specification
pub record SpecSoFar (text : List ℕ) (s : SpecTree) (tokens rest : List Token) : Type 0 where
  pub items : List ItemTree
  pub tree : s ≡ spec_of items
  pub row : RowSoFar (SomeItems text) (AnItem text) (EndsBy GoesOnAtAll) items tokens rest

pub spec_first : {text : List ℕ} {s t : SpecTree} {d : ItemTree} {a b : List Token} →
    s ≡ record { enums = []; templates = [] } → t ≡ with_items s (d ∷ []) → Takes (AnItem text) Nothing d a b →
    SpecSoFar text t a b
spec_first {d} empty more r = record {
  items = d ∷ [];
  tree = more ∙ ap (λ z. with_items z (d ∷ [])) empty;
  row = row_begun r (λ reach z c e is. some_items each_none is) (λ reach zs c e h. begun h);
}

one_more : (items : List ItemTree) (d : ItemTree) → with_items (spec_of items) (d ∷ []) ≡ spec_of (items ++ d ∷ [])
one_more items d = λ j. record {
  enums = sym (filter_map-append enum_of items (d ∷ [])) j;
  templates = sym (filter_map-append template_in items (d ∷ [])) j;
}

pub spec_more : {text : List ℕ} {s t : SpecTree} {d : ItemTree} {a b c : List Token} → SpecSoFar text s a b →
    Takes (AnItem text) Nothing d b c → t ≡ with_items s (d ∷ []) → SpecSoFar text t a c
spec_more {text} {d} h r more = record {
  items = h.items ++ d ∷ [];
  tree = more ∙ ap (λ z. with_items z (d ∷ [])) h.tree ∙ one_more h.items d;
  row = row_more (items_grow text) (items_apart text) h.row r;
}

spec_is : {text : List ℕ} (a : List Token) → Same (SomeItems text) (ASpec text) GoesOnAtAll spec_of a
spec_is {text} a = record {
  to = λ reach items b c h. to reach items b c h;
  from = λ reach s b c same stop h. from reach s b c h;
}
  where
    to : (reach : Reach) (items : List ItemTree) (b c : List Token) → SomeItems text reach items b c →
        ASpec text reach (spec_of items) b c
    to reach items b c (some_items front last) = spec front last

    from : (reach : Reach) (s : SpecTree) (b c : List Token) → ASpec text reach s b c →
        (items : List ItemTree) × SomeItems text reach items b c × (s ≡ spec_of items)
    from reach s b c (spec front last) = (_, some_items front last, refl)

-- nothing stands behind the items
pub taken_spec : {text : List ℕ} {s : SpecTree} {a b : List Token} → b ≡ [] → SpecSoFar text s a b →
    Takes (ASpec text) GoesOnAtAll s a []
taken_spec {text} {s} {a} {b} ends h =
    subst (λ (l : List Token). Takes (ASpec text) GoesOnAtAll s a l) ends
    (subst (λ (z : SpecTree). Takes (ASpec text) GoesOnAtAll z a b) (sym h.tree)
    (takes_so (spec_is a) (row_all ended h.row)))
  where
    ended : (reach : Reach) (d : ItemTree) (c e : List Token) → first_of c ≡ first_of b → ¬ AnItem text reach d c e
    ended reach d c e same is =
        let opens = item_opens reach is in
        let none : None ≡ Some opens.0 =
        sym (ap first_kind ends) ∙ sym (same_kind c b same) ∙ opens.1 in
        cc

first_blocked : {text : List ℕ} {deep : Bool} {a here : List Token} →
    IsBlocked (AnyOf (AnItem text)) Nothing deep a here →
    IsBlocked (AnyOf (SomeItems text)) GoesOnAtAll deep a here
first_blocked h = record {
  front = h.front;
  whole = h.whole;
  more = h.more;
  completes = λ behind. let one = h.completes behind in (one.0 ∷ [], some_items each_none one.1);
  goes_on = h.goes_on;
  stuck = λ reach other rest same within stop is.
      let one = begun is.1 in
      h.stuck reach other one.between same within (λ none. none) (one.tree, one.first);
}

pub no_first_item : (text : List ℕ) (a : List Token) (e : Stop) → IsRefused (AnyOf (AnItem text)) Nothing a e →
    IsRefused (AnyOf (ASpec text)) GoesOnAtAll a e
no_first_item text a e h =
    refused_in (spec_is a) (λ deep here blocked. first_blocked blocked) e h

goes_on : (a : List Token) → ¬ (a ≡ []) → GoesOnAtAll (first_kind a)
goes_on [] more = absurd (more refl)
goes_on (t ∷ a) more = (t.kind, refl)

-- tests of a length
pub is_nil : (a : List Token) → (length a == 0) ≡ true → a ≡ []
is_nil [] e = refl
is_nil (t ∷ a) e =
    let none : length (t ∷ a) ≡ 0 = eqb-true (length (t ∷ a)) 0 e in
    absurd (omega arith)

pub is_not_nil : (a : List Token) → (length a == 0) ≡ false → ¬ (a ≡ [])
is_not_nil a e same =
    let never : true ≡ false = subst (λ (l : List Token). (length l == 0) ≡ false) same e in
    cc

pub no_item : {text : List ℕ} {s : SpecTree} {a b : List Token} → ¬ (b ≡ []) → SpecSoFar text s a b → (e : Stop) →
    IsRefused (AnyOf (AnItem text)) Nothing b e → IsRefused (AnyOf (ASpec text)) GoesOnAtAll a e
no_item {text} {b} more h e refused =
    refused_in (spec_is _) (λ deep here blocked.
    row_blocked (items_grow text) (items_apart text) (goes_on b more) h.row blocked) e refused

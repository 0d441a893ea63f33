-- The first repeated name of a scope, declaration by declaration from the last one on.
use Rattle.std.proofs.Common.{◌≡◌, ℕ, Bool, true, false, cond, Option, None, Some, List, [], ◌∷◌, nat_eq, refl, sym, ap, ◌∙◌, true≢false, arith}
use Rattle.std.proofs.lemmas.Bool.Decides.{nat_tests}
use Rattle.std.specs.Option.{option_map, option_or}
use Rattle.std.specs.Cmp.Lexicographic.{pointwise, bytes_decides}
use Rattle.tm_base.specs.declared.place.Place.{Place}
use Rattle.tm_syntax.specs.declared.fault.Detail.TheVariants as detail
use Rattle.tm_syntax.specs.declared.tree.Ident.{Ident}
use Rattle.tm_syntax.specs.Scopes.Names.{is_spelled}
use Rattle.tm_syntax.specs.Scopes.Declared.{Declared}
use Rattle.tm_syntax.specs.Places.{is_before, earlier, earliest_of}
use Rattle.tm_syntax.specs.Faults.Marks.{Mark, first_mark, named}
use Rattle.tm_syntax.specs.Faults.Names.{later_name, repeats}
use Rattle.tm_syntax.proofs.Places.{earliest-append}
use Rattle.tm_names.specs.Sorts.{first_declared}
use Rattle.tm_names.specs.ScopeNames.{later_mark, repeats_of}

-- the order of places
before_through : (a b c : Place) → is_before a b ≡ true → is_before b c ≡ true → is_before a c ≡ true
before_through a b c first second = grind (arith, nat_tests)

pub not_before_through : (a b c : Place) → is_before a b ≡ false → is_before b c ≡ false → is_before a c ≡ false
not_before_through a b c first second = grind (arith, nat_tests)

same_line : (a b : Place) → is_before a b ≡ false → is_before b a ≡ false → a.line ≡ b.line
same_line a b first second = grind (arith, nat_tests)

same_column : (a b : Place) → is_before a b ≡ false → is_before b a ≡ false → a.column ≡ b.column
same_column a b first second = grind (arith, nat_tests)

same_place : (a b : Place) → is_before a b ≡ false → is_before b a ≡ false → a ≡ b
same_place a b first second = λ i.
    record { line = same_line a b first second i; column = same_column a b first second i }

-- the later of two places
abbrev later : Place → Place → Place
later a b = cond (is_before b a) a b

pub not_before_itself : (a : Place) → is_before a a ≡ false
not_before_itself a = grind (arith, nat_tests)

-- of the later ones of a place and each of two, the earlier one is the later one of it and the earlier of the two
earlier_of_later : (d x y : Place) →
    cond (is_before (later d y) (later d x)) (later d y) (later d x) ≡ later d (cond (is_before y x) y x)
earlier_of_later d x y =
    by (is_before y x) (is_before x d) (is_before y d) (is_before d x) refl refl refl refl
  where
    by : (yx xd yd dx : Bool) → is_before y x ≡ yx → is_before x d ≡ xd → is_before y d ≡ yd → is_before d x ≡ dx →
        cond (is_before (later d y) (later d x)) (later d y) (later d x) ≡ later d (cond (is_before y x) y x)
    by true true true dx one two three four = rw (one, two, three, not_before_itself d) refl
    by true true false dx one two three four =
        absurd (true≢false (sym (before_through y x d one two) ∙ three))
    by true false true true one two three four = rw (one, two, three, four) refl
    by true false true false one two three four =
        rw (one, two, three, four) (sym (same_place d x four two))
    by true false false dx one two three four = rw (one, two, three, one) refl
    by false true true dx one two three four = rw (one, two, three, not_before_itself d) refl
    by false true false dx one two three four = rw (one, two, three, three) refl
    by false false true dx one two three four =
        absurd (true≢false (sym three ∙ not_before_through y x d one two))
    by false false false dx one two three four = rw (one, two, three, one) refl

-- what a function makes of a choice
cond_ap : {X Y : Type 0} (f : X → Y) (b : Bool) (x y : X) → cond b (f x) (f y) ≡ f (cond b x y)
cond_ap f true x y = refl
cond_ap f false x y = refl

-- the place of the later of two names
place_later : (a b : Ident) → (later_name a b).place ≡ later a.place b.place
place_later a b = sym (cond_ap (λ (n : Ident). n.place) (is_before b.place a.place) a b)

-- names of one spelling make one fault at one place
spelled_same : (bytes : List ℕ) (d : Declared) → is_spelled bytes d.name ≡ true → bytes ≡ d.name.text
spelled_same bytes d is = (bytes_decides bytes d.name.text).0 is

-- the later one of two declarations of one name, as a fault
later_named : (d e : Declared) → is_spelled d.name.text e.name ≡ true →
    named (later_name d.name e.name) ≡ later_mark d e
later_named d e is = by (is_before e.name.place d.name.place) refl
  where
    by : (b : Bool) → is_before e.name.place d.name.place ≡ b → named (later_name d.name e.name) ≡ later_mark d e
    by true before = rw before refl
    by false after =
        rw after (λ i. record {
          place = e.name.place;
          detail = detail.Named (sym (spelled_same d.name.text e is) i);
        })

-- the first of the faults of a declaration with those of its name
pub first_later : (d : Declared) (ds : List Declared) →
    first_mark (repeats_of d ds) ≡ option_map (later_mark d) (first_declared ds d.name.text)
first_later d [] = refl
first_later d (e ∷ ds) = by (is_spelled d.name.text e.name) refl (first_later d ds)
  where
    joined : (o : Option Declared) →
        earlier (λ (m : Mark). m.place) (later_mark d e) (option_map (later_mark d) o)
        ≡ later_mark d (earlier (λ (x : Declared). x.name.place) e o)
    joined None = refl
    joined (Some f) =
        let here : Place = d.name.place in
        let first : Bool = is_before f.name.place e.name.place in
        let marked : Place → Mark = λ at. record { place = at; detail = detail.Named d.name.text } in
        (λ i. cond (is_before (place_later d.name f.name i) (place_later d.name e.name i))
        (marked (place_later d.name f.name i)) (marked (place_later d.name e.name i)))
        ∙ cond_ap marked (is_before (later here f.name.place) (later here e.name.place)) (later here f.name.place)
        (later here e.name.place)
        ∙ ap marked (earlier_of_later here e.name.place f.name.place
        ∙ ap (later here) (cond_ap (λ (x : Declared). x.name.place) first f e)
        ∙ sym (place_later d.name (cond first f e).name))

    by : (b : Bool) → is_spelled d.name.text e.name ≡ b →
        first_mark (repeats_of d ds) ≡ option_map (later_mark d) (first_declared ds d.name.text) →
        first_mark (repeats_of d (e ∷ ds)) ≡ option_map (later_mark d) (first_declared (e ∷ ds) d.name.text)
    by true is others =
        rw is ((λ i. Some (earlier (λ (m : Mark). m.place) (later_named d e is i) (others i)))
        ∙ ap Some (joined (first_declared ds d.name.text)))
    by false is others = rw is others

-- one declaration more in front
pub first_repeat-more : (d : Declared) (ds : List Declared) (here before : Option Mark) →
    here ≡ option_map (later_mark d) (first_declared ds d.name.text) → before ≡ first_mark (repeats ds) →
    earliest_of (λ (m : Mark). m.place) here before ≡ first_mark (repeats (d ∷ ds))
first_repeat-more d ds here before one rest =
    (λ i. earliest_of (λ (m : Mark). m.place) ((one ∙ sym (first_later d ds)) i) (rest i))
    ∙ sym (earliest-append (λ (m : Mark). m.place) (repeats_of d ds) (repeats ds))

-- a declaration more in front of those that two tables find, one within the other: its name is found as the earlier
-- of it
-- and what was found before
pub noted_within : (new old outer : List ℕ → Option Declared) (d kept : Declared) (key : List ℕ) (ds : List Declared) →
    key ≡ d.name.text → ((name : List ℕ) → new name ≡ cond (pointwise nat_eq name key) (Some kept) (old name)) →
    kept ≡ earlier (λ (x : Declared). x.name.place) d (first_declared ds d.name.text) →
    ((name : List ℕ) → option_or (old name) (outer name) ≡ first_declared ds name) →
    (name : List ℕ) → option_or (new name) (outer name) ≡ first_declared (d ∷ ds) name
noted_within new old outer d kept key ds spelled put chosen before name =
    ap (λ o. option_or o (outer name)) (put name)
    ∙ ap (λ k. option_or (cond (pointwise nat_eq name k) (Some kept) (old name)) (outer name)) spelled
    ∙ by (is_spelled name d.name) refl
  where
    by : (b : Bool) → is_spelled name d.name ≡ b →
        option_or (cond (is_spelled name d.name) (Some kept) (old name)) (outer name) ≡ first_declared (d ∷ ds) name
    by true is =
        rw is (ap Some (chosen ∙ ap (λ n. earlier (λ (x : Declared). x.name.place) d (first_declared ds n))
        (sym (spelled_same name d is))))
    by false is = rw is (before name)

-- Forms one behind another: what was read so far, and where a row is refused.
use Rattle.std.proofs.Common.{◌≡◌, Bool, IsTrue, Option, List, [], ◌∷◌, ◌++◌, length, refl, sym, ap, ◌∙◌, subst, append_assoc}
use Rattle.std.proofs.lemmas.List.{append-nil}
use Rattle.tm_syntax.specs.declared.token.Token.{Token}
use Rattle.tm_syntax.specs.declared.token.TokenKind.{TokenKind}
use Rattle.tm_syntax.specs.Grammar.Parts.{AreEach, each_none, each_more}
use Rattle.tm_parse.specs.Reading.{Reach, all_but, Binds, first_of, first_kind, IsBlocked, Takes, AnyOf, Nothing}
use Rattle.tm_parse.proofs.Taking.{same_kind, same_behind}

-- a row from the left: none, or the first form and the others
pub data Each {X : Type 0} (Is : X → List Token → List Token → Type 0) :
    List X → List Token → List Token → Type 0 where
  none_here : {a : List Token} → Each Is [] a a
  one_here : {x : X} {xs : List X} {a b c : List Token} → Is x a b → AreEach Is xs b c → Each Is (x ∷ xs) a c

each_grown : {X : Type 0} {Is : X → List Token → List Token → Type 0} {xs : List X} {x : X} {a b c : List Token} →
    Each Is xs a b → Is x b c → Each Is (xs ++ x ∷ []) a c
each_grown none_here is = one_here is each_none
each_grown (one_here is others) last = one_here is (each_more others last)

pub each_view : {X : Type 0} {Is : X → List Token → List Token → Type 0} {xs : List X} {a b : List Token} →
    AreEach Is xs a b → Each Is xs a b
each_view each_none = none_here
each_view (each_more front last) = each_grown (each_view front) last

pub each_append : {X : Type 0} {Is : X → List Token → List Token → Type 0} (xs : List X) {ys : List X}
    {a b c : List Token} → AreEach Is xs a b → AreEach Is ys b c → AreEach Is (xs ++ ys) a c
each_append {Is} xs {a} {c} front each_none = subst (λ l. AreEach Is l a c) (sym (append-nil xs)) front
each_append {Is} xs {a} {c} front (each_more {xs = ys} {x} others last) =
    subst (λ l. AreEach Is l a c) (append_assoc xs ys (x ∷ [])) (each_more (each_append xs front others) last)

pub each_cons : {X : Type 0} {Is : X → List Token → List Token → Type 0} {x : X} {xs : List X} {a b c : List Token} →
    Is x a b → AreEach Is xs b c → AreEach Is (x ∷ xs) a c
each_cons {x} is others = each_append (x ∷ []) (each_more each_none is) others

-- rows that grow by forms on the right
pub record Grows {X : Type 0} (Row : Reach → List X → List Token → List Token → Type 0)
    (Is : Reach → X → List Token → List Token → Type 0) : Type 0 where
  pub more : (reach : Reach) (xs : List X) (x : X) (a b c : List Token) → Row reach xs a b → Is reach x b c →
      Row reach (xs ++ x ∷ []) a c

-- what a row leads to that begins as what was read so far
pub record Leads {X : Type 0} (Is : X → List Token → List Token → Type 0) (xs all : List X) (tokens rest : List Token) :
    Type 0 where
  pub others : List X
  pub whole : all ≡ xs ++ others
  pub are : AreEach Is others tokens rest

-- where no token stands with which rows go on
abbrev pub EndsBy : (Option TokenKind → Type 0) → List Token → Type 0
EndsBy Stops a = ¬ Stops (first_kind a)

-- a row was read so far, of rows that end where others do
pub record RowSoFar {X : Type 0} (Row : Reach → List X → List Token → List Token → Type 0)
    (Is : Reach → X → List Token → List Token → Type 0) (Ends : List Token → Type 0) (xs : List X)
    (tokens rest : List Token) : Type 0 where
  pub front : List Token
  pub whole : tokens ≡ front ++ rest
  pub is : (reach : Reach) (behind : List Token) → Row reach xs (front ++ behind) behind
  pub next : (reach : Reach) (ys : List X) (other after : List Token) → first_of other ≡ first_of rest →
      Ends after → Row reach ys (front ++ other) after → Leads (Is reach) xs ys other after

-- no form was read yet
pub row_start : {X : Type 0} {Row : Reach → List X → List Token → List Token → Type 0}
    {Is : Reach → X → List Token → List Token → Type 0} {Ends : List Token → Type 0} {a : List Token} →
    ((reach : Reach) (b : List Token) → Row reach [] b b) →
    ((reach : Reach) (xs : List X) (b c : List Token) → Row reach xs b c → AreEach (Is reach) xs b c) →
    RowSoFar Row Is Ends [] a a
row_start none each = record {
  front = [];
  whole = refl;
  is = λ reach behind. none reach behind;
  next = λ reach ys other after same stop is. record { others = ys; whole = refl; are = each reach ys other after is };
}

-- the first forms of a row, and the others
pub record Begun {X Y : Type 0} (First : Reach → Y → List Token → List Token → Type 0)
    (Is : Reach → X → List Token → List Token → Type 0) (head : Y → List X) (reach : Reach) (all : List X)
    (tokens rest : List Token) : Type 0 where
  pub tree : Y
  pub between : List Token
  pub first : First reach tree tokens between
  pub leads : Leads (Is reach) (head tree) all between rest

-- the first forms of a row were read
pub row_begun : {X Y : Type 0} {First : Reach → Y → List Token → List Token → Type 0}
    {Row : Reach → List X → List Token → List Token → Type 0} {Is : Reach → X → List Token → List Token → Type 0}
    {Ends : List Token → Type 0} {head : Y → List X} {y : Y} {a b : List Token} → Takes First Nothing y a b →
    ((reach : Reach) (z : Y) (c d : List Token) → First reach z c d → Row reach (head z) c d) →
    ((reach : Reach) (zs : List X) (c d : List Token) → Row reach zs c d → Begun First Is head reach zs c d) →
    RowSoFar Row Is Ends (head y) a b
row_begun {Is} {head} {y} r to from = record {
  front = r.front;
  whole = r.whole;
  is = λ reach behind. to reach y (r.front ++ behind) behind (r.is reach behind);
  next = λ reach ys other after same stop is.
      let h = from reach ys (r.front ++ other) after is in
      let one = r.sole reach h.tree other h.between same (λ none. none) h.first in
      subst (λ z. Leads (Is reach) (head z) ys other after) one.0
      (subst (λ l. Leads (Is reach) (head h.tree) ys l after) one.1 h.leads);
}

-- of what a row's forms are: no form goes on with the first token of another, none begins where a row ends, and there
-- none goes on
pub record Apart {X : Type 0} (Is : Reach → X → List Token → List Token → Type 0) (Goes : Option TokenKind → Type 0)
    (Ends : List Token → Type 0) : Type 0 where
  pub begins : (reach : Reach) (x : X) (a b : List Token) → Is reach x a b → ¬ Goes (first_kind a)
  pub ends : (reach : Reach) (x : X) (a b : List Token) → Is reach x a b → ¬ Ends a
  pub last : (a : List Token) → Ends a → ¬ Goes (first_kind a)

-- behind a form of a row stands nothing with which it goes on
ends_so : {X : Type 0} {Is : Reach → X → List Token → List Token → Type 0} {Goes : Option TokenKind → Type 0}
    {Ends : List Token → Type 0} {reach : Reach} {xs : List X} {a b : List Token} → Apart Is Goes Ends → Ends b →
    Each (Is reach) xs a b → ¬ Goes (first_kind a)
ends_so {a} apart stop none_here goes = apart.last a stop goes
ends_so apart stop (one_here is others) goes = apart.begins _ _ _ _ is goes

-- one more form was read
pub row_more : {X : Type 0} {Row : Reach → List X → List Token → List Token → Type 0}
    {Is : Reach → X → List Token → List Token → Type 0} {Goes : Option TokenKind → Type 0}
    {Ends : List Token → Type 0} {xs : List X} {x : X} {a b c : List Token} → Grows Row Is → Apart Is Goes Ends →
    RowSoFar Row Is Ends xs a b → Takes Is Goes x b c → RowSoFar Row Is Ends (xs ++ x ∷ []) a c
row_more {X} {Row} {Is} {Goes} {Ends} {xs} {x} {a} {b} {c} grows apart p r = record {
  front = p.front ++ r.front;
  whole = p.whole ∙ ap (λ l. p.front ++ l) r.whole ∙ sym (append_assoc p.front r.front c);
  is = λ reach behind.
      subst (λ l. Row reach (xs ++ x ∷ []) l behind) (sym (append_assoc p.front r.front behind))
      (grows.more reach xs x _ _ _ (p.is reach (r.front ++ behind)) (r.is reach behind));
  next = λ reach ys other after same stop is.
      let leads = p.next reach ys (r.front ++ other) after
      (same_behind r.front other c same ∙ ap first_of (sym r.whole)) stop
      (subst (λ l. Row reach ys l after) (append_assoc p.front r.front other) is) in
      go reach ys leads.others other after same stop leads.whole (each_view leads.are);
}
  where
    go : (reach : Reach) (ys zs : List X) (other after : List Token) → first_of other ≡ first_of c → Ends after →
        ys ≡ xs ++ zs → Each (Is reach) zs (r.front ++ other) after → Leads (Is reach) (xs ++ x ∷ []) ys other after
    go reach ys zs other after same stop whole none_here =
        absurd (apart.ends reach x (r.front ++ other) other (r.is reach other) stop)
    go reach ys zs other after same stop whole (one_here {x = y} {xs = others} {b = between} is more) =
        let one = r.sole reach y other between same (ends_so apart stop (each_view more)) is in
        record {
          others = others;
          whole = whole ∙ ap (λ z. xs ++ (z ∷ others)) one.0 ∙ sym (append_assoc xs (x ∷ []) others);
          are = subst (λ l. AreEach (Is reach) others l after) one.1 more;
        }

-- the whole row was read
pub row_all : {X : Type 0} {Row : Reach → List X → List Token → List Token → Type 0}
    {Is : Reach → X → List Token → List Token → Type 0} {Stops : Option TokenKind → Type 0} {xs : List X}
    {a b : List Token} →
    ((reach : Reach) (x : X) (d e : List Token) → first_of d ≡ first_of b → ¬ Is reach x d e) →
    RowSoFar Row Is (EndsBy Stops) xs a b → Takes Row Stops xs a b
row_all {X} {Row} {Is} {Stops} {xs} {a} {b} ended p = record {
  front = p.front;
  whole = p.whole;
  is = p.is;
  sole = λ reach ys other after same stop is.
      let leads = p.next reach ys other after same stop is in
      go reach ys leads.others other after same leads.whole (each_view leads.are);
}
  where
    go : (reach : Reach) (ys zs : List X) (other after : List Token) → first_of other ≡ first_of b → ys ≡ xs ++ zs →
        Each (Is reach) zs other after → (ys ≡ xs) × (after ≡ other)
    go reach ys zs other after same whole none_here = (whole ∙ append-nil xs, refl)
    go reach ys zs other after same whole (one_here is more) = absurd (ended reach _ other _ same is)

-- the next form of a row is refused
pub row_blocked : {X : Type 0} {Row : Reach → List X → List Token → List Token → Type 0}
    {Is : Reach → X → List Token → List Token → Type 0} {Goes Stops : Option TokenKind → Type 0} {deep : Bool}
    {xs : List X} {a b here : List Token} → Grows Row Is → Apart Is Goes (EndsBy Stops) → Stops (first_kind b) →
    RowSoFar Row Is (EndsBy Stops) xs a b → IsBlocked (AnyOf Is) Goes deep b here →
    IsBlocked (AnyOf Row) Stops deep a here
row_blocked {X} {Row} {Is} {Goes} {Stops} {deep} {xs} {a} {b} {here} grows apart begins p h = record {
  front = p.front ++ h.front;
  whole = p.whole ∙ ap (λ l. p.front ++ l) h.whole ∙ sym (append_assoc p.front h.front here);
  more = h.more;
  completes = λ behind.
      let one = h.completes behind in
      let reach = all_but (length (h.more ++ behind)) in (
        xs ++ one.0 ∷ [],
        subst (λ l. Row reach (xs ++ one.0 ∷ []) l behind) (sym (append_assoc p.front h.front (h.more ++ behind)))
            (grows.more reach xs one.0 _ _ _ (p.is reach (h.front ++ (h.more ++ behind))) one.1),
      );
  goes_on = h.goes_on;
  stuck = λ reach other rest same within stop is.
      let leads = p.next reach is.0 (h.front ++ other) rest (there other same) stop
      (subst (λ l. Row reach is.0 l rest) (append_assoc p.front h.front other) is.1) in
      go reach leads.others other rest same within stop (each_view leads.are);
}
  where
    there : (other : List Token) → first_of other ≡ first_of here → first_of (h.front ++ other) ≡ first_of b
    there other same = same_behind h.front other here same ∙ ap first_of (sym h.whole)

    go : (reach : Reach) (zs : List X) (other rest : List Token) → first_of other ≡ first_of here →
        (IsTrue deep → Binds reach other) → ¬ Stops (first_kind rest) → ¬ Each (Is reach) zs (h.front ++ other) rest
    go reach zs other rest same within stop none_here =
        stop (subst Stops (sym (same_kind (h.front ++ other) b (there other same))) begins)
    go reach zs other rest same within stop (one_here {x = y} {b = between} is more) =
        h.stuck reach other between same within (ends_so apart stop (each_view more)) (y, is)

-- rows of forms, one behind another
pub each_grows : {X : Type 0} {Is : Reach → X → List Token → List Token → Type 0} →
    Grows (λ reach. AreEach (Is reach)) Is
each_grows = record { more = λ reach xs x a b c front last. each_more front last }

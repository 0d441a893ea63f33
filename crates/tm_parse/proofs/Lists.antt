-- Forms with a sign between two: what was read so far, and where a list is refused.
use Rattle.std.proofs.Common.{◌≡◌, inl, inr, Bool, IsTrue, Option, Some, List, [], ◌∷◌, ◌++◌, length, refl, sym, ap, ◌∙◌, subst, append_assoc}
use Rattle.tm_syntax.specs.declared.token.Token.{Token}
use Rattle.tm_syntax.specs.declared.token.TokenKind.{TokenKind}
use Rattle.tm_syntax.specs.declared.token.TokenKind.TheVariants as token
use Rattle.tm_syntax.specs.declared.token.Sign.{Sign}
use Rattle.tm_syntax.specs.Grammar.Parts.{Has, AreParted, parted_one, parted_more}
use Rattle.tm_parse.specs.Reading.{Reach, all_but, Binds, first_of, first_kind, IsBlocked, Takes, AnyOf, Nothing, GoesBy, GoesOn, TheMark}
use Rattle.tm_parse.proofs.Taking.{same_kind, same_behind}
use Rattle.tm_parse.proofs.Terminals.{has_kind, mark_rest}

-- the first of forms with a sign between two, and the others
pub data First {X : Type 0} (by : Sign) (Is : X → List Token → List Token → Type 0) :
    List X → List Token → List Token → Type 0 where
  alone : {x : X} {a b : List Token} → Is x a b → First by Is (x ∷ []) a b
  before : {x : X} {xs : List X} {a b c d : List Token} → Is x a b → Has (token.Sign by) b c →
      AreParted by Is xs c d → First by Is (x ∷ xs) a d

first_more : {X : Type 0} {by : Sign} {Is : X → List Token → List Token → Type 0} {x : X} {xs : List X}
    {a b c d : List Token} → First by Is xs a b → Has (token.Sign by) b c → Is x c d → First by Is (xs ++ x ∷ []) a d
first_more (alone is) m last = before is m (parted_one last)
first_more (before is n others) m last = before is n (parted_more others m last)

pub first_view : {X : Type 0} {by : Sign} {Is : X → List Token → List Token → Type 0} {xs : List X}
    {a b : List Token} → AreParted by Is xs a b → First by Is xs a b
first_view (parted_one is) = alone is
first_view (parted_more front m last) = first_more (first_view front) m last

-- lists, one behind the other
pub parted_append : {X : Type 0} {by : Sign} {Is : X → List Token → List Token → Type 0} (xs : List X) {ys : List X}
    {a b c d : List Token} → AreParted by Is xs a b → Has (token.Sign by) b c → AreParted by Is ys c d →
    AreParted by Is (xs ++ ys) a d
parted_append xs front m (parted_one last) = parted_more front m last
parted_append {by} {Is} xs {a} {d} front m (parted_more {xs = ys} {x} others n last) =
    subst (λ l. AreParted by Is l a d) (append_assoc xs ys (x ∷ []))
    (parted_more (parted_append xs front m others) n last)

-- what a list leads to that begins as what was read so far
pub data Next {X : Type 0} (by : Sign) (Is : X → List Token → List Token → Type 0) (xs : List X) :
    List X → List Token → List Token → Type 0 where
  next_end : {a : List Token} → Next by Is xs xs a a
  next_more : {ys zs : List X} {a b c : List Token} → Has (token.Sign by) a b → AreParted by Is ys b c →
      zs ≡ xs ++ ys → Next by Is xs zs a c

-- a list was read so far
pub record SoFar {X : Type 0} (by : Sign) (Is : Reach → X → List Token → List Token → Type 0)
    (Goes : Option TokenKind → Type 0) (xs : List X) (tokens rest : List Token) : Type 0 where
  pub front : List Token
  pub whole : tokens ≡ front ++ rest
  pub is : (reach : Reach) (behind : List Token) → AreParted by (Is reach) xs (front ++ behind) behind
  pub next : (reach : Reach) (ys : List X) (other after : List Token) → first_of other ≡ first_of rest →
      ¬ GoesOn by Goes (first_kind after) → AreParted by (Is reach) ys (front ++ other) after →
      Next by (Is reach) xs ys other after

one_next : {X : Type 0} {by : Sign} {Is : Reach → X → List Token → List Token → Type 0}
    {Goes : Option TokenKind → Type 0}
    {x : X} {a b : List Token} → ¬ Goes (Some (token.Sign by)) → (r : Takes Is Goes x a b) →
    (reach : Reach) (ys : List X)
    (other after : List Token) → first_of other ≡ first_of b → ¬ GoesOn by Goes (first_kind after) →
    First by (Is reach) ys (r.front ++ other) after → Next by (Is reach) (x ∷ []) ys other after
one_next {by} {Is} {x} parts r reach ys other after same stop (alone {x = y} is) =
    let one = r.sole reach y other after same (λ goes. stop (inr goes)) is in
    subst (λ l. Next by (Is reach) (x ∷ []) l other after) (ap (λ t. t ∷ []) (sym one.0))
    (subst (λ l. Next by (Is reach) (x ∷ []) (x ∷ []) other l) (sym one.1) next_end)
one_next {by} {Goes} parts r reach ys other after same stop (before {x = y} {xs} {b = between} {c} is m others) =
    let one = r.sole reach y other between same (λ goes. parts (subst Goes (has_kind m) goes)) is in
    next_more (subst (λ l. Has (token.Sign by) l c) one.1 m) others (ap (λ t. t ∷ xs) one.0)

-- the first form was read
pub so_far_one : {X : Type 0} {by : Sign} {Is : Reach → X → List Token → List Token → Type 0}
    {Goes : Option TokenKind → Type 0} {x : X} {a b : List Token} → ¬ Goes (Some (token.Sign by)) →
    Takes Is Goes x a b → SoFar by Is Goes (x ∷ []) a b
so_far_one parts r = record {
  front = r.front;
  whole = r.whole;
  is = λ reach behind. parted_one (r.is reach behind);
  next = λ reach ys other after same stop is. one_next parts r reach ys other after same stop (first_view is);
}

-- one more form was read behind the sign
pub so_far_more : {X : Type 0} {by : Sign} {Is : Reach → X → List Token → List Token → Type 0}
    {Goes : Option TokenKind → Type 0} {xs : List X} {x : X} {a b c d : List Token} → ¬ Goes (Some (token.Sign by)) →
    SoFar by Is Goes xs a b → Takes (TheMark (token.Sign by)) Nothing tt b c → Takes Is Goes x c d →
    SoFar by Is Goes (xs ++ x ∷ []) a d
so_far_more {X} {by} {Is} {Goes} {xs} {x} {b} {c} {d} parts p m r = record {
  front = p.front ++ (m.front ++ r.front);
  whole = p.whole ∙ ap (λ l. p.front ++ l) (m.whole ∙ ap (λ l. m.front ++ l) r.whole) ∙ sym (split d);
  is = λ reach behind.
      subst (λ l. AreParted by (Is reach) (xs ++ x ∷ []) l behind) (sym (split behind))
      (parted_more (p.is reach _) (m.is reach _) (r.is reach behind));
  next = λ reach ys other after same stop is.
      go reach ys other after same stop
      (p.next reach ys (m.front ++ (r.front ++ other)) after (there other same) stop
      (subst (λ l. AreParted by (Is reach) ys l after) (split other) is));
}
  where
    split : (l : List Token) → (p.front ++ (m.front ++ r.front)) ++ l ≡ p.front ++ (m.front ++ (r.front ++ l))
    split l = append_assoc p.front (m.front ++ r.front) l ∙ ap (λ t. p.front ++ t) (append_assoc m.front r.front l)

    there : (other : List Token) → first_of other ≡ first_of d → first_of (m.front ++ (r.front ++ other)) ≡ first_of b
    there other same =
        same_behind m.front (r.front ++ other) c (same_behind r.front other d same ∙ ap first_of (sym r.whole))
        ∙ ap first_of (sym m.whole)

    onward : (reach : Reach) (ys zs : List X) (other after : List Token) → ys ≡ xs ++ zs →
        Next by (Is reach) (x ∷ []) zs other after → Next by (Is reach) (xs ++ x ∷ []) ys other after
    onward reach ys zs other after whole next_end =
        subst (λ l. Next by (Is reach) (xs ++ x ∷ []) l other other) (sym whole) next_end
    onward reach ys zs other after whole (next_more {ys = ws} n others e) =
        next_more n others (whole ∙ ap (λ l. xs ++ l) e ∙ sym (append_assoc xs (x ∷ []) ws))

    go : (reach : Reach) (ys : List X) (other after : List Token) → first_of other ≡ first_of d →
        ¬ GoesOn by Goes (first_kind after) → Next by (Is reach) xs ys (m.front ++ (r.front ++ other)) after →
        Next by (Is reach) (xs ++ x ∷ []) ys other after
    go reach ys other after same stop next_end = absurd (stop (inl (has_kind (m.is reach (r.front ++ other)))))
    go reach ys other after same stop (next_more {ys = zs} n others whole) =
        let left = mark_rest n (m.is reach (r.front ++ other)) refl in
        onward reach ys zs other after whole
        (one_next parts r reach zs other after same stop
        (first_view (subst (λ l. AreParted by (Is reach) zs l after) left others)))

-- the whole list was read
pub so_far_all : {X : Type 0} {by : Sign} {Is : Reach → X → List Token → List Token → Type 0}
    {Goes : Option TokenKind → Type 0} {xs : List X} {a b : List Token} → ¬ GoesBy by (first_kind b) →
    SoFar by Is Goes xs a b → Takes (λ reach. AreParted by (Is reach)) (GoesOn by Goes) xs a b
so_far_all {X} {by} {Is} {xs} {b} ended p = record {
  front = p.front;
  whole = p.whole;
  is = p.is;
  sole = λ reach ys other after same stop is. go reach ys other after same (p.next reach ys other after same stop is);
}
  where
    go : (reach : Reach) (ys : List X) (other after : List Token) → first_of other ≡ first_of b →
        Next by (Is reach) xs ys other after → (ys ≡ xs) × (after ≡ other)
    go reach ys other after same next_end = (refl, refl)
    go reach ys other after same (next_more m others e) =
        absurd (ended (sym (same_kind other b same) ∙ has_kind m))

-- the first form of a list is refused
pub list_blocked : {X : Type 0} (by : Sign) {Is : Reach → X → List Token → List Token → Type 0}
    {Goes : Option TokenKind → Type 0} {deep : Bool} {a here : List Token} → ¬ Goes (Some (token.Sign by)) →
    IsBlocked (AnyOf Is) Goes deep a here →
    IsBlocked (AnyOf (λ reach. AreParted by (Is reach))) (GoesOn by Goes) deep a here
list_blocked {X} by {Is} {Goes} {deep} {here} parts h = record {
  front = h.front;
  whole = h.whole;
  more = h.more;
  completes = λ behind. let one = h.completes behind in (one.0 ∷ [], parted_one one.1);
  goes_on = h.goes_on;
  stuck = λ reach other rest same within stop is. go reach other rest is.0 same within stop (first_view is.1);
}
  where
    go : (reach : Reach) (other rest : List Token) (ys : List X) → first_of other ≡ first_of here →
        (IsTrue deep → Binds reach other) → ¬ GoesOn by Goes (first_kind rest) →
        First by (Is reach) ys (h.front ++ other) rest → ⊥
    go reach other rest ys same within stop (alone is) =
        h.stuck reach other rest same within (λ goes. stop (inr goes)) (_, is)
    go reach other rest ys same within stop (before is m others) =
        h.stuck reach other _ same within (λ goes. parts (subst Goes (has_kind m) goes)) (_, is)

-- a form behind the sign is refused
pub more_blocked : {X : Type 0} {by : Sign} {Is : Reach → X → List Token → List Token → Type 0}
    {Goes : Option TokenKind → Type 0} {deep : Bool} {xs : List X} {a b c here : List Token} →
    ¬ Goes (Some (token.Sign by)) → SoFar by Is Goes xs a b → Takes (TheMark (token.Sign by)) Nothing tt b c →
    IsBlocked (AnyOf Is) Goes deep c here →
    IsBlocked (AnyOf (λ reach. AreParted by (Is reach))) (GoesOn by Goes) deep a here
more_blocked {X} {by} {Is} {Goes} {xs} {b} {c} {here} parts p m one =
    let h = list_blocked by parts one in
    record {
      front = p.front ++ (m.front ++ h.front);
      whole = p.whole ∙ ap (λ l. p.front ++ l) (m.whole ∙ ap (λ l. m.front ++ l) h.whole) ∙ sym (split h.front here);
      more = h.more;
      completes = λ behind.
          let others = h.completes behind in
          let reach = all_but (length (h.more ++ behind)) in (
            xs ++ others.0,
            subst (λ l. AreParted by (Is reach) (xs ++ others.0) l behind) (sym (split h.front (h.more ++ behind)))
                (parted_append xs (p.is reach _) (m.is reach _) others.1),
          );
      goes_on = h.goes_on;
      stuck = λ reach other rest same within stop is.
          let begins : first_of (m.front ++ (h.front ++ other)) ≡ first_of b =
          same_behind m.front (h.front ++ other) c (same_behind h.front other here same ∙ ap first_of (sym h.whole))
          ∙ ap first_of (sym m.whole) in
          let next = p.next reach is.0 (m.front ++ (h.front ++ other)) rest begins stop
          (subst (λ l. AreParted by (Is reach) is.0 l rest) (split h.front other) is.1) in
          go reach is.0 (h.front ++ other) rest stop
          (λ ys others. h.stuck reach other rest same within stop (ys, others))
          next;
    }
  where
    split : (f l : List Token) → (p.front ++ (m.front ++ f)) ++ l ≡ p.front ++ (m.front ++ (f ++ l))
    split f l = append_assoc p.front (m.front ++ f) l ∙ ap (λ t. p.front ++ t) (append_assoc m.front f l)

    go : (reach : Reach) (ys : List X) (left rest : List Token) → ¬ GoesOn by Goes (first_kind rest) →
        ((zs : List X) → ¬ AreParted by (Is reach) zs left rest) → ¬ Next by (Is reach) xs ys (m.front ++ left) rest
    go reach ys left rest stop none next_end = stop (inl (has_kind (m.is reach left)))
    go reach ys left rest stop none (next_more {ys = zs} n others e) =
        none zs (subst (λ l. AreParted by (Is reach) zs l rest) (mark_rest n (m.is reach left) refl) others)

-- Forms that are put together of tokens and of parts: what is left of them behind a token or a part, and where they are
-- refused.
use Rattle.std.proofs.Common.{◌≡◌, List, [], ◌∷◌, ◌++◌, refl, sym, ap, ◌∙◌, subst, append_assoc}
use Rattle.tm_cir.specs.Text.Token.{Token}
use Rattle.tm_cparse.specs.declared.spot.Spot.{Spot}
use Rattle.tm_cparse.specs.declared.spot.Stop.{Stop}
use Rattle.tm_cparse.specs.declared.spot.Stop.TheVariants.{Unexpected, Memory}
use Rattle.tm_cparse.specs.View.{tokens_of}
use Rattle.tm_cparse.specs.Inner.Reading.{first_of, IsBlocked, IsRefused, Moves, IsMissing}
use Rattle.tm_cparse.proofs.Moves.{moves_one, moves_blocked, blocked_here, blocked_as}

-- a token, and then a form
pub record Then {X : Type 0} (t : Token) (F : X → List Token → List Token → Type 0) (x : X) (tokens rest : List Token) :
    Type 0 where
  pub behind : List Token
  pub are : tokens ≡ t ∷ behind
  pub form : F x behind rest

-- a part, and then a form that the part tells
pub record Part {X Y : Type 0} (P : Y → List Token → List Token → Type 0)
    (F : Y → X → List Token → List Token → Type 0) (x : X) (tokens rest : List Token) : Type 0 where
  pub part : Y
  pub behind : List Token
  pub is : P part tokens behind
  pub form : F part x behind rest

-- nothing more: this tree
pub record Done {X : Type 0} (y : X) (x : X) (tokens rest : List Token) : Type 0 where
  pub same : x ≡ y
  pub are : tokens ≡ rest

-- these tokens complete a form
pub record Ends {X : Type 0} (more : List Token) (F : X → List Token → List Token → Type 0) : Type 0 where
  pub at : (behind : List Token) → (x : X) × F x (more ++ behind) behind

pub done_ends : {X : Type 0} (y : X) → Ends [] (Done y)
done_ends y = record { at = λ behind. (y, record { same = refl; are = refl }) }

pub then_ends : {X : Type 0} {F : X → List Token → List Token → Type 0} (t : Token) (more : List Token) →
    Ends more F → Ends (t ∷ more) (Then t F)
then_ends t more end = record {
  at = λ behind.
      let one = end.at behind in (one.0, record { behind = more ++ behind; are = refl; form = one.1 });
}

pub part_ends : {X Y : Type 0} {P : Y → List Token → List Token → Type 0}
    {F : Y → X → List Token → List Token → Type 0} (some more : List Token) → Ends some P →
    ((y : Y) → Ends more (F y)) → Ends (some ++ more) (Part P F)
part_ends {P = P} {F = F} some more first others = record {
  at = λ behind.
      let one = first.at (more ++ behind) in
      let two = (others one.0).at behind in (
        two.0,
        record {
          part = one.0;
          behind = more ++ behind;
          is = subst (λ (l : List Token). P one.0 l (more ++ behind)) (sym (append_assoc some more behind)) one.1;
          form = two.1;
        },
      );
}

same_tail : {t u : Token} {a b : List Token} → t ∷ a ≡ u ∷ b → a ≡ b
same_tail e = cc

-- a token was taken
pub then_moves : {X : Type 0} {F : X → List Token → List Token → Type 0} (t : Token) (tokens rest : List Token) →
    tokens ≡ t ∷ rest → Moves (Then t F) F tokens rest
then_moves {X = X} {F = F} t tokens rest is =
    subst (λ (l : List Token). Moves (Then t F) F l rest) (sym is)
    (moves_one t rest
    (λ x other after first form. tail x other after form)
    (λ x other after form. record { behind = other; are = refl; form = form }))
  where
    tail : (x : X) (other after : List Token) → Then t F x (t ∷ other) after → F x other after
    tail x other after form =
        let same : form.behind ≡ other = same_tail (sym form.are) in
        subst (λ (l : List Token). F x l after) same form.form

-- the token does not stand there
pub then_refused : {X : Type 0} {F : X → List Token → List Token → Type 0} (t : Token) (more : List Token) →
    Ends more F → (spots : List Spot) (e : Stop) → IsMissing t spots e → IsRefused (Then t F) (tokens_of spots) e
then_refused {F = F} t more end spots (Unexpected here) missing =
    subst (λ (l : List Spot). IsBlocked (Then t F) (tokens_of spots) (tokens_of l)) (sym missing.0)
    (blocked_here (t ∷ more) (then_ends {F = F} t more end).at
    (λ x other rest first form. missing.1 (sym first ∙ ap first_of form.are)))
then_refused t more end spots Memory missing = tt

-- a part stands in front, and no other part begins so
pub record IsOnly {Y : Type 0} (P : Y → List Token → List Token → Type 0) (y : Y) (tokens rest : List Token) : Type 0
  where
    pub front : List Token
    pub whole : tokens ≡ front ++ rest
    pub is : (other : List Token) → P y (front ++ other) other
    pub only : (z : Y) (other after : List Token) → first_of other ≡ first_of rest → P z (front ++ other) after →
        (z ≡ y) × (after ≡ other)

-- a part was taken
pub part_moves : {X Y : Type 0} {P : Y → List Token → List Token → Type 0}
    {F : Y → X → List Token → List Token → Type 0} (y : Y) (tokens rest : List Token) → IsOnly P y tokens rest →
    Moves (Part P F) (F y) tokens rest
part_moves {X} {Y} {P} {F} y tokens rest one = record {
  front = one.front;
  whole = one.whole;
  to = λ x other after first form. of x other after first form;
  from = λ x other after form. record { part = y; behind = other; is = one.is other; form = form };
}
  where
    of : (x : X) (other after : List Token) → first_of other ≡ first_of rest → Part P F x (one.front ++ other) after →
        F y x other after
    of x other after first form =
        let same = one.only form.part other form.behind first form.is in
        subst (λ (z : Y). F z x other after) same.0
        (subst (λ (l : List Token). F form.part x l after) same.1 form.form)

-- the part is refused
pub part_refused : {X Y : Type 0} (P : Y → List Token → List Token → Type 0)
    {F : Y → X → List Token → List Token → Type 0} (more : List Token) → ((y : Y) → Ends more (F y)) →
    (tokens : List Token) (e : Stop) → IsRefused P tokens e → IsRefused (Part P F) tokens e
part_refused P {F = F} more end tokens (Unexpected here) h = record {
  front = h.front;
  whole = h.whole;
  more = h.more ++ more;
  completes = λ behind.
      let one = h.completes (more ++ behind) in
      let two = (end one.0).at behind in (
        two.0,
        subst (λ (l : List Token). Part P F two.0 (h.front ++ l) behind) (sym (append_assoc h.more more behind))
            (record { part = one.0; behind = more ++ behind; is = one.1; form = two.1 }),
      );
  stuck = λ x other rest first form. h.stuck form.part other form.behind first form.is;
}
part_refused P more end tokens Memory h = tt

-- what is left is refused, and so is the whole
pub refused_behind : {X : Type 0} {Is Or : X → List Token → List Token → Type 0} {a b : List Token} → Moves Is Or a b →
    (e : Stop) → IsRefused Or b e → IsRefused Is a e
refused_behind m (Unexpected here) h = moves_blocked m h
refused_behind m Memory h = tt

-- forms that are the same are refused alike
pub refused_as : {X : Type 0} {Is Or : X → List Token → List Token → Type 0} (a : List Token) →
    ((x : X) (b c : List Token) → Is x b c → Or x b c) → ((x : X) (b c : List Token) → Or x b c → Is x b c) →
    (e : Stop) → IsRefused Is a e → IsRefused Or a e
refused_as a to from (Unexpected here) h = blocked_as to from h
refused_as a to from Memory h = tt

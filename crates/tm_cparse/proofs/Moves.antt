-- Steps of a reader one behind the other, and where it is refused.
use Rattle.std.proofs.Common.{◌≡◌, List, [], ◌∷◌, ◌++◌, refl, sym, ap, ◌∙◌, subst, append_assoc}
use Rattle.tm_cir.specs.Text.Token.{Token}
use Rattle.tm_cparse.specs.Inner.Reading.{first_of, IsBlocked, Moves}

-- rows of tokens that begin alike begin alike behind one front
pub same_behind : (front a b : List Token) → first_of a ≡ first_of b → first_of (front ++ a) ≡ first_of (front ++ b)
same_behind [] a b e = e
same_behind (t ∷ front) a b e = refl

-- no step
pub stays : {X : Type 0} (Is : X → List Token → List Token → Type 0) (a : List Token) → Moves Is Is a a
stays Is a = record { front = []; whole = refl; to = λ x other after first is. is; from = λ x other after is. is }

-- one token
pub moves_one : {X : Type 0} {Is Or : X → List Token → List Token → Type 0} (t : Token) (rest : List Token) →
    ((x : X) (other after : List Token) → first_of other ≡ first_of rest → Is x (t ∷ other) after → Or x other after) →
    ((x : X) (other after : List Token) → Or x other after → Is x (t ∷ other) after) → Moves Is Or (t ∷ rest) rest
moves_one t rest to from = record { front = t ∷ []; whole = refl; to = to; from = from }

-- one step and then another
pub moves_then : {X : Type 0} {Is Or And : X → List Token → List Token → Type 0} {a b c : List Token} →
    Moves Is Or a b → Moves Or And b c → Moves Is And a c
moves_then {Is = Is} {b = b} {c = c} one two = record {
  front = one.front ++ two.front;
  whole = one.whole ∙ ap (λ (l : List Token). one.front ++ l) two.whole ∙ sym (append_assoc one.front two.front c);
  to = λ x other after first is.
      let begins : first_of (two.front ++ other) ≡ first_of b =
      same_behind two.front other c first ∙ ap first_of (sym two.whole) in
      two.to x other after first
      (one.to x (two.front ++ other) after begins
      (subst (λ (l : List Token). Is x l after) (append_assoc one.front two.front other) is));
  from = λ x other after is.
      subst (λ (l : List Token). Is x l after) (sym (append_assoc one.front two.front other))
      (one.from x (two.front ++ other) after (two.from x other after is));
}

-- what is left is refused, and so is the whole
pub moves_blocked : {X : Type 0} {Is Or : X → List Token → List Token → Type 0} {a b here : List Token} →
    Moves Is Or a b → IsBlocked Or b here → IsBlocked Is a here
moves_blocked {Is = Is} {b = b} {here = here} m h = record {
  front = m.front ++ h.front;
  whole = m.whole ∙ ap (λ (l : List Token). m.front ++ l) h.whole ∙ sym (append_assoc m.front h.front here);
  more = h.more;
  completes = λ behind.
      let one = h.completes behind in (
        one.0,
        subst (λ (l : List Token). Is one.0 l behind) (sym (append_assoc m.front h.front (h.more ++ behind)))
            (m.from one.0 (h.front ++ (h.more ++ behind)) behind one.1),
      );
  stuck = λ x other rest first is.
      let begins : first_of (h.front ++ other) ≡ first_of b =
      same_behind h.front other here first ∙ ap first_of (sym h.whole) in
      h.stuck x other rest first
      (m.to x (h.front ++ other) rest begins
      (subst (λ (l : List Token). Is x l rest) (append_assoc m.front h.front other) is));
}

-- nothing was taken
pub blocked_here : {X : Type 0} {Is : X → List Token → List Token → Type 0} {here : List Token} (more : List Token) →
    ((behind : List Token) → (x : X) × Is x (more ++ behind) behind) →
    ((x : X) (other rest : List Token) → first_of other ≡ first_of here → ¬ Is x other rest) → IsBlocked Is here here
blocked_here more completes stuck = record {
  front = [];
  whole = refl;
  more = more;
  completes = completes;
  stuck = stuck;
}

-- forms that are the same are refused alike
pub blocked_as : {X : Type 0} {Is Or : X → List Token → List Token → Type 0} {a here : List Token} →
    ((x : X) (b c : List Token) → Is x b c → Or x b c) → ((x : X) (b c : List Token) → Or x b c → Is x b c) →
    IsBlocked Is a here → IsBlocked Or a here
blocked_as to from h = record {
  front = h.front;
  whole = h.whole;
  more = h.more;
  completes = λ behind. let one = h.completes behind in (one.0, to one.0 _ behind one.1);
  stuck = λ x other rest first is. h.stuck x other rest first (from x _ rest is);
}

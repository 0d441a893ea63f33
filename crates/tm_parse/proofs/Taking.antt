-- Forms with their trees, one behind another: what was read of the parts was read of the whole, and what is refused of
-- a part is refused of the whole.
use Rattle.std.proofs.Common.{◌≡◌, ℕ, ◌≤◌, Bool, true, false, Option, Some, List, [], ◌∷◌, ◌++◌, length, refl, sym, ap, ◌∙◌, subst, arith, append_assoc, length-append, Result, Ok, Err}
use Rattle.std.specs.Result.{IfOk, IfErr}
use Rattle.tm_syntax.specs.declared.token.Token.{Token}
use Rattle.tm_syntax.specs.declared.token.TokenKind.{TokenKind}
use Rattle.tm_parse.specs.Reading.{Reach, nowhere, all_but, only, IsBound, first_of, first_kind, IsBlocked, IsRefused, Takes, AnyOf, Nothing}
use Rattle.tm_parse.specs.declared.stop.Stop.{Stop}
use Rattle.tm_parse.specs.declared.stop.Stop.TheVariants.{Unexpected, TooDeep, Memory}

-- tokens with the same first one have the same first kind
pub same_kind : (a b : List Token) → first_of a ≡ first_of b → first_kind a ≡ first_kind b
same_kind [] [] e = refl
same_kind [] (u ∷ b) e = absurd (cc)
same_kind (t ∷ a) [] e = absurd (cc)
same_kind (t ∷ a) (u ∷ b) e = let same : t ≡ u = cc in ap (λ (v : Token). Some v.kind) same

-- rows of tokens that begin alike begin alike behind one front
pub same_behind : (front a b : List Token) → first_of a ≡ first_of b → first_of (front ++ a) ≡ first_of (front ++ b)
same_behind [] a b e = e
same_behind (t ∷ front) a b e = refl

-- why a reader stopped is why another one does, where what blocks the one blocks the other
pub refused_so : {Is Or : Reach → List Token → List Token → Type 0} {Goes Stops : Option TokenKind → Type 0}
    {a b : List Token} → ((deep : Bool) (here : List Token) → IsBlocked Is Goes deep a here →
    IsBlocked Or Stops deep b here) → (e : Stop) → IsRefused Is Goes a e → IsRefused Or Stops b e
refused_so blocks (Unexpected here) h = blocks false here.now h
refused_so blocks (TooDeep here) h = blocks true here.now h
refused_so blocks Memory h = tt

-- a form, and then one that may depend on its tree
pub record Both {X Y : Type 0} (Is : Reach → X → List Token → List Token → Type 0)
    (Or : X → Reach → Y → List Token → List Token → Type 0) (reach : Reach) (trees : X × Y) (tokens rest : List Token) :
    Type 0 where
  pub between : List Token
  pub first : Is reach trees.0 tokens between
  pub second : Or trees.0 reach trees.1 between rest

-- what begins with the second form, where the third may stand behind it, does not go on with the first
abbrev pub Parts : {X Y : Type 0} → (X → Reach → Y → List Token → List Token → Type 0) → (Option TokenKind → Type 0) →
    (Option TokenKind → Type 0) → Type 0
Parts {X} {Y} Or Goes Stops =
    (reach : Reach) (x : X) (y : Y) (a b : List Token) → Or x reach y a b → ¬ Stops (first_kind b) →
    ¬ Goes (first_kind a)

-- two parts were read
pub takes_both : {X Y : Type 0} {Is : Reach → X → List Token → List Token → Type 0}
    {Or : X → Reach → Y → List Token → List Token → Type 0} {Goes Stops : Option TokenKind → Type 0} {x : X} {y : Y}
    {a b c : List Token} → Takes Is Goes x a b → Parts Or Goes Stops → Takes (Or x) Stops y b c →
    Takes (Both Is Or) Stops (x, y) a c
takes_both {Is} {Or} {x} {y} {b} {c} r parts s = record {
  front = r.front ++ s.front;
  whole = r.whole ∙ ap (λ l. r.front ++ l) s.whole ∙ sym (append_assoc r.front s.front c);
  is = λ reach behind. record {
    between = s.front ++ behind;
    first = subst (λ l. Is reach x l (s.front ++ behind)) (sym (append_assoc r.front s.front behind))
        (r.is reach (s.front ++ behind));
    second = s.is reach behind;
  };
  sole = λ reach z other after same stop is.
      let here : first_of (s.front ++ other) ≡ first_of b =
      same_behind s.front other c same ∙ ap first_of (sym s.whole) in
      let one = r.sole reach z.0 (s.front ++ other) is.between here
      (parts reach z.0 z.1 is.between after is.second stop)
      (subst (λ l. Is reach z.0 l is.between) (append_assoc r.front s.front other) is.first) in
      let two = s.sole reach z.1 other after same stop
      (subst (λ l. Or x reach z.1 l after) one.1 (subst (λ t. Or t reach z.1 is.between after) one.0 is.second)) in
      ((λ i. (one.0 i, two.0 i)), two.1);
}

-- some tokens that spell a form, whatever tree it depends on, where all of them are reach
pub record AnyWord {X Y : Type 0} (Or : X → Reach → Y → List Token → List Token → Type 0) : Type 0 where
  pub word : List Token
  pub spells : (x : X) (size : ℕ) (behind : List Token) → length (word ++ behind) ≤ size →
      AnyOf (Or x) (all_but size) (word ++ behind) behind

-- the first of two parts is refused
pub blocked_first : {X Y : Type 0} {Is : Reach → X → List Token → List Token → Type 0}
    {Or : X → Reach → Y → List Token → List Token → Type 0} {Goes Stops : Option TokenKind → Type 0}
    {deep : Bool} {a here : List Token} → IsBlocked (AnyOf Is) Goes deep a here →
    AnyWord Or → Parts Or Goes Stops → IsBlocked (AnyOf (Both Is Or)) Stops deep a here
blocked_first {Is} {Or} {here} h w parts = record {
  front = h.front;
  whole = h.whole;
  more = h.more ++ w.word;
  completes = λ behind.
      let split = append_assoc h.more w.word behind in
      let one = h.completes (w.word ++ behind) in
      let two = w.spells one.0 (length ((h.more ++ w.word) ++ behind)) behind
      (omega (arith, ap length split, length-append h.more (w.word ++ behind))) in (
        (one.0, two.0),
        record {
          between = w.word ++ behind;
          first = subst (λ l. Is (all_but (length l)) one.0 (h.front ++ l) (w.word ++ behind)) (sym split) one.1;
          second = two.1;
        },
      );
  goes_on = λ is_deep. let on = h.goes_on is_deep in (on.0, on.1 ++ w.word, on.2, ap (λ l. l ++ w.word) on.3, on.4);
  stuck = λ reach other rest same within stop is.
      let both = is.1 in
      h.stuck reach other both.between same within
      (parts reach is.0.0 is.0.1 both.between rest both.second stop) (is.0.0, both.first);
}

-- the first of two parts was read, and the second is refused
pub blocked_second : {X Y : Type 0} {Is : Reach → X → List Token → List Token → Type 0}
    {Or : X → Reach → Y → List Token → List Token → Type 0} {Goes Stops : Option TokenKind → Type 0}
    {deep : Bool} {x : X} {a b here : List Token} → Takes Is Goes x a b → Parts Or Goes Stops →
    IsBlocked (AnyOf (Or x)) Stops deep b here → IsBlocked (AnyOf (Both Is Or)) Stops deep a here
blocked_second {Is} {Or} {x} {b} {here} r parts h =
    let split = λ (l : List Token). append_assoc r.front h.front l in
    record {
      front = r.front ++ h.front;
      whole = r.whole ∙ ap (λ l. r.front ++ l) h.whole ∙ sym (split here);
      more = h.more;
      completes = λ behind.
          let one = h.completes behind in
          let reach = all_but (length (h.more ++ behind)) in (
            (x, one.0),
            record {
              between = h.front ++ (h.more ++ behind);
              first = subst (λ l. Is reach x l (h.front ++ (h.more ++ behind))) (sym (split (h.more ++ behind)))
                  (r.is reach (h.front ++ (h.more ++ behind)));
              second = one.1;
            },
          );
      goes_on = h.goes_on;
      stuck = λ reach other rest same within stop is.
          let z = is.0 in
          let both = is.1 in
          let there : first_of (h.front ++ other) ≡ first_of b =
          same_behind h.front other here same ∙ ap first_of (sym h.whole) in
          let one = r.sole reach z.0 (h.front ++ other) both.between there
          (parts reach z.0 z.1 both.between rest both.second stop)
          (subst (λ l. Is reach z.0 l both.between) (split other) both.first) in
          h.stuck reach other rest same within stop (
            z.1,
            subst (λ l. Or x reach z.1 l rest) one.1
                (subst (λ t. Or t reach z.1 both.between rest) one.0 both.second),
          );
    }

-- a form is what another one is, by its tree, where it begins with the token with which these begin
pub record Same {X Y : Type 0} (Is : Reach → X → List Token → List Token → Type 0)
    (Or : Reach → Y → List Token → List Token → Type 0) (Stops : Option TokenKind → Type 0) (tree : X → Y)
    (tokens : List Token) : Type 0 where
  pub to : (reach : Reach) (x : X) (a b : List Token) → Is reach x a b → Or reach (tree x) a b
  pub from : (reach : Reach) (y : Y) (a b : List Token) → first_of a ≡ first_of tokens → ¬ Stops (first_kind b) →
      Or reach y a b → (x : X) × Is reach x a b × (y ≡ tree x)

pub takes_so : {X Y : Type 0} {Is : Reach → X → List Token → List Token → Type 0}
    {Or : Reach → Y → List Token → List Token → Type 0} {Stops : Option TokenKind → Type 0} {tree : X → Y} {x : X}
    {a b : List Token} → Same Is Or Stops tree a → Takes Is Stops x a b → Takes Or Stops (tree x) a b
takes_so {tree} {a} {b} same r = record {
  front = r.front;
  whole = r.whole;
  is = λ reach behind. same.to reach _ _ _ (r.is reach behind);
  sole = λ reach y other after first stop is.
      let begins = same_behind r.front other b first ∙ ap first_of (sym r.whole) in
      let parts = same.from reach y (r.front ++ other) after begins stop is in
      let one = r.sole reach parts.0 other after first stop parts.1 in
      (parts.2 ∙ ap tree one.0, one.1);
}

pub blocked_so : {X Y : Type 0} {Is : Reach → X → List Token → List Token → Type 0}
    {Or : Reach → Y → List Token → List Token → Type 0} {Stops : Option TokenKind → Type 0} {tree : X → Y}
    {deep : Bool} {a here : List Token} → Same Is Or Stops tree a → IsBlocked (AnyOf Is) Stops deep a here →
    IsBlocked (AnyOf Or) Stops deep a here
blocked_so {tree} {a} {here} s h = record {
  front = h.front;
  whole = h.whole;
  more = h.more;
  completes = λ behind. let one = h.completes behind in (tree one.0, s.to _ _ _ _ one.1);
  goes_on = h.goes_on;
  stuck = λ reach other rest same within stop is.
      let begins = same_behind h.front other here same ∙ ap first_of (sym h.whole) in
      let parts = s.from reach is.0 (h.front ++ other) rest begins stop is.1 in
      h.stuck reach other rest same within stop (parts.0, parts.1);
}

-- what refuses a part of a rule refuses the rule
pub refused_in : {X Y : Type 0} {Is : Reach → X → List Token → List Token → Type 0}
    {Or : Reach → Y → List Token → List Token → Type 0} {Part : Reach → List Token → List Token → Type 0}
    {Goes Stops : Option TokenKind → Type 0} {tree : X → Y} {a b : List Token} → Same Is Or Stops tree a →
    ((deep : Bool) (here : List Token) → IsBlocked Part Goes deep b here → IsBlocked (AnyOf Is) Stops deep a here) →
    (e : Stop) → IsRefused Part Goes b e → IsRefused (AnyOf Or) Stops a e
refused_in same blocks e h = refused_so (λ deep here blocked. blocked_so same (blocks deep here blocked)) e h

-- the words of two parts
pub both_word : {W X Y : Type 0} {Is : W → Reach → X → List Token → List Token → Type 0}
    {Or : W → X → Reach → Y → List Token → List Token → Type 0} → AnyWord Is → AnyWord (λ (p : W × X). Or p.0 p.1) →
    AnyWord (λ w. Both (Is w) (Or w))
both_word {Is} v o = record {
  word = v.word ++ o.word;
  spells = λ w size behind fits.
      let split = append_assoc v.word o.word behind in
      let one = v.spells w size (o.word ++ behind) (omega (arith, ap length split)) in
      let two = o.spells (w, one.0) size behind
      (omega (arith, ap length split, length-append v.word (o.word ++ behind))) in (
        (one.0, two.0),
        record {
          between = o.word ++ behind;
          first = subst (λ l. Is w (all_but size) one.0 l (o.word ++ behind)) (sym split) one.1;
          second = two.1;
        },
      );
}

-- two parts were read, where the first one ends with a token of its own
pub takes_then : {X Y : Type 0} {Is : Reach → X → List Token → List Token → Type 0}
    {Or : X → Reach → Y → List Token → List Token → Type 0} {Stops : Option TokenKind → Type 0} {x : X} {y : Y}
    {a b c : List Token} → Takes Is Nothing x a b → Takes (Or x) Stops y b c → Takes (Both Is Or) Stops (x, y) a c
takes_then r s = takes_both r (λ reach x y a b is stop none. none) s

pub at_first : {X Y : Type 0} {Is : Reach → X → List Token → List Token → Type 0}
    {Or : X → Reach → Y → List Token → List Token → Type 0} {Stops : Option TokenKind → Type 0}
    {deep : Bool} {a here : List Token} → IsBlocked (AnyOf Is) Nothing deep a here → AnyWord Or →
    IsBlocked (AnyOf (Both Is Or)) Stops deep a here
at_first h w = blocked_first h w (λ reach x y a b is stop none. none)

pub at_second : {X Y : Type 0} {Is : Reach → X → List Token → List Token → Type 0}
    {Or : X → Reach → Y → List Token → List Token → Type 0} {Stops : Option TokenKind → Type 0}
    {deep : Bool} {x : X} {a b here : List Token} → Takes Is Nothing x a b →
    IsBlocked (AnyOf (Or x)) Stops deep b here → IsBlocked (AnyOf (Both Is Or)) Stops deep a here
at_second r h = blocked_second r (λ reach x y a b is stop none. none) h

-- what is low enough may stand anywhere
pub low_bound : (reach : Reach) (a : List Token) (depth : ℕ) → depth ≤ 128 → IsBound reach a depth
low_bound nowhere a depth low = tt
low_bound (all_but last) a depth low = λ inside. low
low_bound (only behind) a depth low = λ inside. low

-- what a call answers that a reader hands on
pub ok_map : {X E : Type 0} {P Q : X → Type 0} → ((x : X) → P x → Q x) → (r : Result X E) → IfOk r P → IfOk r Q
ok_map f (Ok x) h = f x h
ok_map f (Err e) h = h

pub err_map : {X E : Type 0} {P Q : E → Type 0} → ((e : E) → P e → Q e) → (r : Result X E) → IfErr r P → IfErr r Q
err_map f (Ok x) h = h
err_map f (Err e) h = f e h

-- A text has one tree or one fault: none has both, and none has two.
use Rattle.std.proofs.Common.{◌≡◌, ℕ, ◌≤◌, ◌⊎◌, inl, inr, true, false, List, [], ◌∷◌, ◌++◌, length, refl, sym, ap, ◌∙◌, subst, arith, append_assoc, Result, Ok, Err}
use Rattle.std.specs.Result.{IfOk, IfErr, MatchResult}
use Rattle.tm_base.specs.declared.place.Place.{Place}
use Rattle.tm_syntax.specs.declared.token.Token.{Token}
use Rattle.tm_syntax.specs.declared.fault.FrontError.{FrontError}
use Rattle.tm_syntax.specs.declared.fault.FrontError.TheVariants as error
use Rattle.tm_syntax.specs.Tree.{SpecTree}
use Rattle.tm_syntax.specs.Grammar.Specification.{IsSpec}
use Rattle.tm_syntax.specs.Grammar.Faults.{Anywhere, IsWithin, IsWithinAt, IsTree, Begins, IsUnexpected, IsTooDeep, IsFaultless, HasSyntaxFault, unexpected, ends_early, HasDepthFault, too_deep}
use Rattle.tm_parse.specs.Answer.{syntax_fault, depth_fault, place_at, IsFaultOf, IsMemoryOr}
use Rattle.tm_parse.specs.Items.{ASpec, GoesOnAtAll}
use Rattle.tm_parse.specs.Reading.{all_but, IsBlocked, AnyOf, Takes}
use Rattle.tm_parse.proofs.FirstFault.{nothing_behind, fault_at, fault_at_end, deep_at}
use Rattle.tm_parse.proofs.Loosen.{loosen_spec}

-- how two tokens of one list stand: they are the same one, or one of them is in front of the other
data Compared (f g : List Token) (t u : Token) : Type 0 where
  same_one : f ≡ g → t ≡ u → Compared f g t u
  earlier : (m : List Token) → g ≡ f ++ t ∷ m → Compared f g t u
  later : (m : List Token) → f ≡ g ++ u ∷ m → Compared f g t u

one_more : (v w : Token) (f g : List Token) {t u : Token} → v ≡ w → Compared f g t u → Compared (v ∷ f) (w ∷ g) t u
one_more v w f g one (same_one fronts tokens) = same_one (λ j. one j ∷ fronts j) tokens
one_more v w f g one (earlier m e) = earlier m (λ j. sym one j ∷ e j)
one_more v w f g one (later m e) = later m (λ j. one j ∷ e j)

compare : (f g r s : List Token) (t u : Token) → f ++ t ∷ r ≡ g ++ u ∷ s → Compared f g t u
compare [] [] r s t u e =
    let whole : t ∷ r ≡ u ∷ s = e in
    same_one refl (cc)
compare [] (v ∷ g) r s t u e =
    let whole : t ∷ r ≡ v ∷ (g ++ u ∷ s) = e in
    let one : v ≡ t = cc in
    earlier g (ap (λ (x : Token). x ∷ g) one)
compare (v ∷ f) [] r s t u e =
    let whole : v ∷ (f ++ t ∷ r) ≡ u ∷ s = e in
    let one : v ≡ u = cc in
    later f (ap (λ (x : Token). x ∷ f) one)
compare (v ∷ f) (w ∷ g) r s t u e =
    let whole : v ∷ (f ++ t ∷ r) ≡ w ∷ (g ++ u ∷ s) = e in
    let one : v ≡ w = cc in
    one_more v w f g one (compare f g r s t u (cc))

-- a token at fault, before which none is
record FaultAt (text : List ℕ) (f : List Token) (t : Token) : Type 0 where
  free : IsFaultless text f
  fault : IsUnexpected text f t ⊎ IsTooDeep text f t

first_fault : {text : List ℕ} {f g : List Token} {t u : Token} → FaultAt text f t → FaultAt text g u →
    Compared f g t u → (f ≡ g) × (t ≡ u)
first_fault {f} {t} a b (same_one fronts tokens) = (fronts, tokens)
first_fault {f} {t} a b (earlier m e) = absurd (b.free f m t e a.fault)
first_fault {g} {u} a b (later m e) = absurd (a.free g m u e b.fault)

-- F2 stands at one place
pub one_syntax_fault : {text : List ℕ} {tokens : List Token} {p q : Place} → HasSyntaxFault text tokens p →
    HasSyntaxFault text tokens q → p ≡ q
one_syntax_fault (unexpected f r t e free u) (unexpected g s v d none w) =
    let one = first_fault (record { free = free; fault = inl u }) (record { free = none; fault = inl w })
    (compare f g r s t v (sym e ∙ d)) in
    ap (λ (x : Token). x.place) one.1
one_syntax_fault (unexpected f r t e free u) (ends_early none b h) = absurd (none f r t e (inl u))
one_syntax_fault (ends_early none b h) (unexpected f r t e free u) = absurd (none f r t e (inl u))
one_syntax_fault (ends_early free b h) (ends_early none c i) = refl

-- F3 stands at one place
pub one_depth_fault : {text : List ℕ} {tokens : List Token} {p q : Place} → HasDepthFault text tokens p →
    HasDepthFault text tokens q → p ≡ q
one_depth_fault (too_deep f r t e free u) (too_deep g s v d none w) =
    let one = first_fault (record { free = free; fault = inr u }) (record { free = none; fault = inr w })
    (compare f g r s t v (sym e ∙ d)) in
    ap (λ (x : Token). x.place) one.1

-- no text has both
pub not_both_faults : {text : List ℕ} {tokens : List Token} {p q : Place} → HasSyntaxFault text tokens p →
    ¬ HasDepthFault text tokens q
not_both_faults {text} (unexpected f r t e free u) (too_deep g s v d none w) =
    let one = first_fault (record { free = free; fault = inl u }) (record { free = none; fault = inr w })
    (compare f g r s t v (sym e ∙ d)) in
    u.refused (subst (Begins text) (λ j. sym one.0 j ++ sym one.1 j ∷ []) w.continues)
not_both_faults (ends_early free b h) (too_deep g s v d none w) = free g s v d (inr w)

anywhere : {text : List ℕ} {tokens : List Token} {tree : SpecTree} → IsTree text tokens tree →
    IsSpec text Anywhere tree tokens []
anywhere {tokens} is =
    let all : length tokens ≤ length tokens = omega arith in
    (loosen_spec (λ a n le may. tt) all is).0

-- a tree has no fault
pub tree_no_syntax_fault : {text : List ℕ} {tokens : List Token} {tree : SpecTree} {p : Place} →
    IsTree text tokens tree → ¬ HasSyntaxFault text tokens p
tree_no_syntax_fault {text} {tree} is (unexpected f r t e free u) =
    u.refused (record {
      behind = r;
      tree = tree;
      spec = subst (λ (l : List Token). IsSpec text Anywhere tree l []) (e ∙ sym (append_assoc f (t ∷ []) r))
          (anywhere is);
    })
tree_no_syntax_fault {tree} is (ends_early free b h) = h tree (anywhere is)

pub tree_no_depth_fault : {text : List ℕ} {tokens : List Token} {tree : SpecTree} {p : Place} →
    IsTree text tokens tree → ¬ HasDepthFault text tokens p
tree_no_depth_fault {text} {tokens} {tree} is (too_deep f r t e free u) =
    let all : length tokens ≤ length tokens = omega arith in
    u.refused r tree (subst (λ (l : List Token). IsSpec text (IsWithinAt (length r)) tree l []) e
    (loosen_spec (λ a n le may same. may (omega arith)) all is).0)

-- what a reader of the whole has shown
pub tree_read : {text : List ℕ} {tokens : List Token} {tree : SpecTree} →
    Takes (ASpec text) GoesOnAtAll tree tokens [] → IsTree text tokens tree
tree_read {text} {tree} r =
    subst (λ (l : List Token). IsSpec text (IsWithin 0) tree l []) (sym r.whole) (r.is (all_but 0) [])

pub one_tree : {text : List ℕ} {tokens : List Token} {tree other : SpecTree} →
    Takes (ASpec text) GoesOnAtAll tree tokens [] → IsTree text tokens other → tree ≡ other
one_tree {text} {other} r is =
    sym (r.sole (all_but 0) other [] [] refl nothing_behind
    (subst (λ (l : List Token). IsSpec text (IsWithin 0) other l []) r.whole is)).0

pub syntax_found : {text : List ℕ} {tokens : List Token} (here : List Token) →
    IsBlocked (AnyOf (ASpec text)) GoesOnAtAll false tokens here → HasSyntaxFault text tokens (place_at text here)
syntax_found [] h = fault_at_end h
syntax_found (t ∷ here) h = fault_at t h

pub depth_found : {text : List ℕ} {tokens : List Token} (here : List Token) →
    IsBlocked (AnyOf (ASpec text)) GoesOnAtAll true tokens here → HasDepthFault text tokens (place_at text here)
depth_found [] h =
    let on = h.goes_on refl in
    let never : [] ≡ on.0 ∷ on.2 = on.4 in
    absurd (cc)
depth_found (t ∷ here) h = deep_at t h

-- what an error says leaves no tree and no other fault
pub no_tree : {text : List ℕ} {tokens : List Token} {tree : SpecTree} (e : FrontError) → IsFaultOf text tokens e →
    IsTree text tokens tree → e ≡ error.Memory
no_tree (error.Faulty fault) (inl h) is = absurd (tree_no_syntax_fault is h.1)
no_tree (error.Faulty fault) (inr h) is = absurd (tree_no_depth_fault is h.1)
no_tree error.Memory h is = refl

pub same_syntax : {text : List ℕ} {tokens : List Token} {p : Place} (e : FrontError) → IsFaultOf text tokens e →
    HasSyntaxFault text tokens p → IsMemoryOr (syntax_fault p) e
same_syntax (error.Faulty fault) (inl h) other = inr (h.0 ∙ ap syntax_fault (one_syntax_fault h.1 other))
same_syntax (error.Faulty fault) (inr h) other = absurd (not_both_faults other h.1)
same_syntax error.Memory h other = inl refl

pub same_depth : {text : List ℕ} {tokens : List Token} {p : Place} (e : FrontError) → IsFaultOf text tokens e →
    HasDepthFault text tokens p → IsMemoryOr (depth_fault p) e
same_depth (error.Faulty fault) (inl h) other = absurd (not_both_faults h.1 other)
same_depth (error.Faulty fault) (inr h) other = inr (h.0 ∙ ap depth_fault (one_depth_fault h.1 other))
same_depth error.Memory h other = inl refl

-- what holds of a result by its two cases
pub both_map : {X E : Type 0} {P R : X → Type 0} {Q S : E → Type 0} → ((x : X) → P x → R x) → ((e : E) → Q e → S e) →
    (r : Result X E) → IfOk r P → IfErr r Q → MatchResult r R S
both_map f g (Ok x) p q = f x p
both_map f g (Err e) p q = g e q

-- what the reader refused is the fault that is told
pub syntax_refused : {text : List ℕ} {tokens : List Token} (here : List Token) (p : Place) (e : FrontError) →
    e ≡ syntax_fault p → p ≡ place_at text here →
    IsBlocked (AnyOf (ASpec text)) GoesOnAtAll false tokens here → IsFaultOf text tokens e
syntax_refused {text} {tokens} here p e is there h =
    subst (λ (x : FrontError). IsFaultOf text tokens x) (sym (is ∙ ap syntax_fault there))
    (inl (refl, syntax_found here h))

pub depth_refused : {text : List ℕ} {tokens : List Token} (here : List Token) (p : Place) (e : FrontError) →
    e ≡ depth_fault p → p ≡ place_at text here →
    IsBlocked (AnyOf (ASpec text)) GoesOnAtAll true tokens here → IsFaultOf text tokens e
depth_refused {text} {tokens} here p e is there h =
    subst (λ (x : FrontError). IsFaultOf text tokens x) (sym (is ∙ ap depth_fault there))
    (inr (refl, depth_found here h))

-- Where the readers refuse a specification, its first token at fault stands.
use Rattle.std.proofs.Common.{◌≡◌, ℕ, ◌≤◌, ⊎_elim, Bool, true, false, Some, None, List, [], ◌∷◌, ◌++◌, length, refl, sym, ap, ◌∙◌, subst, arith, append_assoc, length-append, le_refl}
use Rattle.std.proofs.lemmas.List.{append-nil}
use Rattle.tm_syntax.specs.declared.token.Token.{Token}
use Rattle.tm_syntax.specs.Tokens.{place_after}
use Rattle.tm_syntax.specs.Tree.{SpecTree}
use Rattle.tm_syntax.specs.Grammar.Specification.{IsSpec}
use Rattle.tm_syntax.specs.Grammar.Faults.{Anywhere, IsWithin, IsWithinAt, Begins, IsFaultless, HasSyntaxFault, unexpected, ends_early, HasDepthFault, too_deep}
use Rattle.tm_parse.specs.Items.{ASpec, GoesOnAtAll}
use Rattle.tm_parse.specs.Reading.{nowhere, only, first_kind, IsBlocked, AnyOf}
use Rattle.tm_parse.proofs.Loosen.{loosen_spec}

pub nothing_behind : ¬ GoesOnAtAll (first_kind [])
nothing_behind goes = let none : None ≡ Some goes.0 = goes.1 in cc

-- where a specification is refused
abbrev Refused : List ℕ → Bool → List Token → List Token → Type 0
Refused text deep tokens here = IsBlocked (AnyOf (ASpec text)) GoesOnAtAll deep tokens here

-- what was taken can be completed to a specification
completed : {text : List ℕ} {deep : Bool} {tokens here : List Token} (h : Refused text deep tokens here) →
    (t : SpecTree) × IsSpec text (IsWithin (length h.more)) t (h.front ++ h.more) []
completed {text} h =
    let one = h.completes [] in
    (one.0, subst (λ l. IsSpec text (IsWithin (length l)) one.0 (h.front ++ l) []) (append-nil h.more) one.1)

begun_so : {text : List ℕ} {deep : Bool} {tokens here : List Token} (h : Refused text deep tokens here)
    (front rest : List Token) → h.front ++ h.more ≡ front ++ rest → Begins text front
begun_so {text} h front rest whole =
    let one = completed h in
    record {
      behind = rest;
      tree = one.0;
      spec = subst (λ l. IsSpec text Anywhere one.0 l []) whole
          (loosen_spec (λ a n le may. tt) (le_refl (length (h.front ++ h.more))) one.1).0;
    }

-- what was taken holds no token at fault
faultless : {text : List ℕ} {deep : Bool} {tokens here : List Token} (h : Refused text deep tokens here) →
    IsFaultless text h.front
faultless {text} h front rest t whole =
    let all : h.front ++ h.more ≡ front ++ (t ∷ (rest ++ h.more)) =
    ap (λ l. l ++ h.more) whole ∙ append_assoc front (t ∷ rest) h.more in
    ⊎_elim
    (λ u. u.refused (begun_so h (front ++ t ∷ []) (rest ++ h.more)
    (all ∙ sym (append_assoc front (t ∷ []) (rest ++ h.more)))))
    (λ d.
    let one = completed h in
    d.refused (rest ++ h.more) one.0
    (subst (λ l. IsSpec text (IsWithinAt (length (rest ++ h.more))) one.0 l []) all
    (loosen_spec (within rest h.more) (le_refl (length (h.front ++ h.more))) one.1).0))
  where
    within : (rest more a : List Token) (n : ℕ) → length a ≤ length (h.front ++ h.more) → IsWithin (length more) a n →
        IsWithinAt (length (rest ++ more)) a n
    within rest more a n le may same = may (omega (arith, same, length-append rest more))

-- F2 at a token
pub fault_at : {text : List ℕ} {tokens rest : List Token} (t : Token) → Refused text false tokens (t ∷ rest) →
    HasSyntaxFault text tokens t.place
fault_at {text} {rest} t h =
    unexpected h.front rest t h.whole (faultless h)
    (record {
      before = begun_so h h.front h.more refl;
      refused = λ b.
          h.stuck nowhere (t ∷ b.behind) [] refl (λ deep. absurd (let never : false ≡ true = deep in cc)) nothing_behind
          (b.tree, subst (λ l. IsSpec text Anywhere b.tree l []) (append_assoc h.front (t ∷ []) b.behind) b.spec);
    })

-- F2 at the end of the text
pub fault_at_end : {text : List ℕ} {tokens : List Token} → Refused text false tokens [] →
    HasSyntaxFault text tokens (place_after text)
fault_at_end {text} {tokens} h =
    let all : tokens ≡ h.front = h.whole ∙ append-nil h.front in
    ends_early (subst (IsFaultless text) (sym all) (faultless h))
    (subst (Begins text) (sym all) (begun_so h h.front h.more refl))
    (λ tree is. h.stuck nowhere [] [] refl (λ deep. absurd (let never : false ≡ true = deep in cc)) nothing_behind
    (tree, subst (λ l. IsSpec text Anywhere tree l []) h.whole is))

-- F3 at a token
pub deep_at : {text : List ℕ} {tokens rest : List Token} (t : Token) → Refused text true tokens (t ∷ rest) →
    HasDepthFault text tokens t.place
deep_at {text} {rest} t h =
    let on = h.goes_on refl in
    let same : t ≡ on.0 = let whole : t ∷ rest ≡ on.0 ∷ on.2 = on.4 in cc in
    too_deep h.front rest t h.whole (faultless h)
    (record {
      continues = begun_so h (h.front ++ t ∷ []) on.1
          (ap (λ l. h.front ++ l) (on.3 ∙ ap (λ u. u ∷ on.1) (sym same)) ∙ sym (append_assoc h.front (t ∷ []) on.1));
      refused = λ behind tree is.
          h.stuck (only (length behind)) (t ∷ behind) [] refl (λ deep depth bound. bound refl) nothing_behind
          (tree, is);
    })

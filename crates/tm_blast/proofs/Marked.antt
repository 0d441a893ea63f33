-- What is wanted, as far as a loop has come.
use Rattle.std.proofs.Common.{◌≡◌, ℕ, ◌+◌, ◌-◌, ◌<◌, ◌≤◌, Bool, true, false, List, length, Some, sym, ap, ◌∙◌, subst, inl, inr, ⊎_elim, arith}
use Rattle.std.proofs.lemmas.Bool.{cases_lt}
use Rattle.std.proofs.lemmas.Option.{same_Some}
use Rattle.tm_term.specs.declared.term.Term.{Term}
use Rattle.tm_term.specs.declared.term.TermId.{TermId}
use Rattle.tm_term.specs.declared.term.Parts.{Parts}
use Rattle.tm_term.specs.declared.term.Parts.TheVariants as parts
use Rattle.tm_term.specs.Parts.{parts_of, AreBelow}
use Rattle.tm_term.specs.Table.{Table as Terms, term_of}
use Rattle.tm_blast.specs.Memory.{Made}
use Rattle.tm_blast.specs.Marks.{term_below, is_marked, IsSettled, AreSettled, AreWanted}

module _ (made : Made) (id : TermId) (marks news : List Bool)
    (kept : (d : ℕ) → is_marked marks d ≡ true → is_marked news d ≡ true) where
  IsSettled-kept : (a : TermId) → IsSettled made id marks a → IsSettled made id news a
  IsSettled-kept a h = ⊎_elim (λ there. inl there) (λ marked. inr (kept (id.0 - a.0) marked)) h

  -- what is settled stays so when marks are added
  pub AreSettled-kept : (p : Parts) → AreSettled made id marks p → AreSettled made id news p
  AreSettled-kept parts.None h = tt
  AreSettled-kept (parts.One a) h = IsSettled-kept a h
  AreSettled-kept (parts.Two a b) h = (IsSettled-kept a h.0, IsSettled-kept b h.1)
  AreSettled-kept (parts.Three c a b) h = (IsSettled-kept c h.0, IsSettled-kept a h.1, IsSettled-kept b h.2)

module _ (t : Terms) (made : Made) (id : TermId) (marks : List Bool) (distance : ℕ)
    (so_far : AreWanted t made id marks distance) where
  -- the parts of one more wanted term are settled
  pub wanted_more : (news : List Bool)
      → ((d : ℕ) → d ≤ distance → is_marked news d ≡ is_marked marks d)
      → ((d : ℕ) → is_marked marks d ≡ true → is_marked news d ≡ true) → length news ≤ id.0 + 1
      → (term : Term) → term_of t (term_below id distance) ≡ Some term
      → (p : Parts) → p ≡ parts_of term → AreSettled made id news p → AreBelow (id.0 - distance) p
      → AreWanted t made id news (distance + 1)
  wanted_more news nearer kept within term is p is_p settled smaller = record {
    first = nearer 0 (omega arith) ∙ so_far.first;
    within = within;
    parts = λ d h marked other is_other.
        ⊎_elim
        (λ (k : d < distance). AreSettled-kept made id marks news kept (parts_of other)
        (so_far.parts d k (sym (nearer d (omega arith)) ∙ marked) other is_other))
        (λ (k : distance ≤ d).
        let e : d ≡ distance = omega arith in
        let is_here = sym is_other ∙ ap (λ n. term_of t (term_below id n)) e ∙ is in
        let same : p ≡ parts_of other = is_p ∙ ap parts_of (sym (same_Some other term is_here)) in
        subst (AreSettled made id news) same settled)
        (cases_lt d distance);
    below = λ d h marked other is_other.
        ⊎_elim
        (λ (k : d < distance). so_far.below d k (sym (nearer d (omega arith)) ∙ marked) other is_other)
        (λ (k : distance ≤ d).
        let e : d ≡ distance = omega arith in
        let is_here = sym is_other ∙ ap (λ n. term_of t (term_below id n)) e ∙ is in
        let same : p ≡ parts_of other = is_p ∙ ap parts_of (sym (same_Some other term is_here)) in
        subst (λ n. AreBelow (id.0 - n) (parts_of other)) (sym e) (subst (AreBelow (id.0 - distance)) same smaller))
        (cases_lt d distance);
  }

  -- a term that is not wanted has no say
  pub wanted_skip : is_marked marks distance ≡ false → AreWanted t made id marks (distance + 1)
  wanted_skip unmarked = record {
    first = so_far.first;
    within = so_far.within;
    parts = λ d h marked other is_other.
        ⊎_elim (λ (k : d < distance). so_far.parts d k marked other is_other)
        (λ (k : distance ≤ d).
        let e : d ≡ distance = omega arith in
        let both = sym marked ∙ ap (is_marked marks) e ∙ unmarked in
        absurd (never both))
        (cases_lt d distance);
    below = λ d h marked other is_other.
        ⊎_elim (λ (k : d < distance). so_far.below d k marked other is_other)
        (λ (k : distance ≤ d).
        let e : d ≡ distance = omega arith in
        let both = sym marked ∙ ap (is_marked marks) e ∙ unmarked in
        absurd (never both))
        (cases_lt d distance);
  } where
    never : true ≡ false → ⊥
    never h = cc

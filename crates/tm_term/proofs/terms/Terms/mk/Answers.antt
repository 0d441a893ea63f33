use Rattle.std.proofs.Common.{◌≡◌, ℕ, rules, refl, sym, ap, ◌∙◌, subst, ◌∷◌, [], ◌++◌, List, true, false, Some, Ok, is_some, length}
use Rattle.indexmap.proofs.CallerLemmas.{insert_entry-new}
use Rattle.indexmap.specs.IndexMap.{IndexMap, get, insert_entry}
use Rattle.tm_term.specs.declared.term.Term.{Term}
use Rattle.tm_term.specs.declared.term.TermId.{TermId}
use Rattle.tm_term.specs.contracts.term.TermPartialEq.TheImpl.{eq-value}
use Rattle.tm_term.specs.Table.{Table, term_of, width_of, count_of, term_width, IsSound}
use Rattle.tm_term.specs.Value.{value_of, term_value, Extends}
use Rattle.tm_term.proofs.Growth.{has_term, added, sound-added, term_of-added_new, width_of-added_new}
use Rattle.tm_term.proofs.Kept.{found_term, absent_term, none_from}
use Rattle.tm_term.proofs.Valued.{value_of-term, value_of-added_new, extends-added}
use Rattle.tm_term.proofs.terms.Terms.mk.Goals as goal
use Rattle.tm_term.proofs.terms.Terms.mk.Goals.{In-Some}

-- ---- `==` of terms is equality
exact : (x y : Term) → eq-value.it x y ≡ true → x ≡ y
exact x y h = search rules

itself : (x : Term) → eq-value.it x x ≡ true
itself x = search rules

-- ---- a term that is there
found : (c : In-Some) → term_of c.args.self.now (record { 0 = c.in-Some.index }) ≡ Some c.args.term
found c = subst (λ t. term_of t (record { 0 = c.in-Some.index }) ≡ Some c.args.term) c.self.view_is
    (found_term eq-value.it c.args.term (exact c.args.term) c.self.inside.kept.entries c.in-Some.index
    c.in-Some.ensures.index)

pub returns-in-Some-clause-term : goal.returns-in-Some-clause-term
returns-in-Some-clause-term c = found c

pub returns-in-Some-clause-width : goal.returns-in-Some-clause-width
returns-in-Some-clause-width c =
    let sound = subst IsSound c.self.view_is c.self.invariant in
    (has_term c.args.self.now _ c.args.term sound (found c)).entry.sized

pub returns-in-Some-clause-value : goal.returns-in-Some-clause-value
returns-in-Some-clause-value c values =
    let sound = subst IsSound c.self.view_is c.self.invariant in
    value_of-term c.args.self.now values sound _ c.args.term (found c)

pub returns-in-Some-clause-equal : goal.returns-in-Some-clause-equal
returns-in-Some-clause-equal c id is =
    let sound = subst IsSound c.self.view_is c.self.invariant in
    (ap Ok (sound.distinct _ id c.args.term (found c) is), refl)

-- ---- a term that is not there
absent : {S : Type 0} (term : Term) (ii : List ℕ) (m : IndexMap Term ℕ S) (t : Table) →
    record { inputs = ii; kept = m.entries } ≡ t → false ≡ is_some (get eq-value.it m term) → (id : TermId) →
    term_of t id ≡ Some term → ⊥
absent term ii m t view missed id is =
    absent_term eq-value.it term (itself term) m.entries (none_from _ missed) id.0
    (subst (λ u. term_of u id ≡ Some term) (sym view) is)

-- the table after the insertion
made : {S : Type 0} (term : Term) (ii : List ℕ) (m n : IndexMap Term ℕ S) (t : Table) (width : ℕ) →
    record { inputs = ii; kept = m.entries } ≡ t → false ≡ is_some (get eq-value.it m term) →
    width ≡ term_width t term → n.entries ≡ insert_entry eq-value.it m.entries term width →
    record { inputs = ii; kept = n.entries } ≡ added t term
made term ii m n t width view missed is entries =
    let with_end : Table → ℕ → Table = λ u w. record { inputs = u.inputs; kept = u.kept ++ (term, w) ∷ [] } in
    let table : List (Term × ℕ) → Table = λ es. record { inputs = ii; kept = es } in
    ap table (entries ∙ insert_entry-new eq-value.it m term width (none_from _ missed))
    ∙ ap (with_end (table m.entries)) is
    ∙ ap (λ u. with_end u (term_width t term)) view

-- the new id has the place after the last
place : {S : Type 0} (ii : List ℕ) (m : IndexMap Term ℕ S) (t : Table) (n : ℕ) →
    record { inputs = ii; kept = m.entries } ≡ t → n ≡ length m.entries → n ≡ count_of t
place ii m t n view len = len ∙ ap count_of view

pub returns-in_err-make_room-clause-equal : goal.returns-in_err-make_room-clause-equal
returns-in_err-make_room-clause-equal c id is =
    absurd (absent c.args.term _ c.self.inside.kept c.args.self.now c.self.view_is c.in_default.ensures.found id is)

pub returns-in_err-insert-clause-equal : goal.returns-in_err-insert-clause-equal
returns-in_err-insert-clause-equal c id is =
    absurd (absent c.args.term _ c.self.inside.kept c.args.self.now c.self.view_is c.in_default.ensures.found id is)

pub returns-clause-equal : goal.returns-clause-equal
returns-clause-equal c id is =
    absurd (absent c.args.term _ c.self.inside.kept c.args.self.now c.self.view_is c.in_default.ensures.found id is)

pub invariant_of-self-2 : goal.invariant_of-self-2
invariant_of-self-2 c =
    let is = made c.args.term _ c.self.inside.kept c.insert.new.self c.args.self.now _ c.self.view_is
    c.in_default.ensures.found c.term_width-width.ensures c.in_ok-insert.ensures.entries in
    let sound = subst IsSound c.self.view_is c.self.invariant in
    let none = absent c.args.term _ c.self.inside.kept c.args.self.now c.self.view_is c.in_default.ensures.found in
    subst IsSound (sym is) (sound-added c.args.self.now c.args.term sound c.requires none)

pub returns-clause-sound : goal.returns-clause-sound
returns-clause-sound c = invariant_of-self-2 c

pub returns-clause-term : goal.returns-clause-term
returns-clause-term c =
    let is = made c.args.term _ c.self.inside.kept c.insert.new.self c.args.self.now _ c.self.view_is
    c.in_default.ensures.found c.term_width-width.ensures c.in_ok-insert.ensures.entries in
    let last = place _ c.self.inside.kept c.args.self.now _ c.self.view_is c.len-count.ensures.len in
    subst (λ t. term_of t (record { 0 = c.len-count.result }) ≡ Some c.args.term) (sym is)
    (term_of-added_new c.args.self.now c.args.term _ last)

pub returns-clause-width : goal.returns-clause-width
returns-clause-width c =
    let is = made c.args.term _ c.self.inside.kept c.insert.new.self c.args.self.now _ c.self.view_is
    c.in_default.ensures.found c.term_width-width.ensures c.in_ok-insert.ensures.entries in
    let last = place _ c.self.inside.kept c.args.self.now _ c.self.view_is c.len-count.ensures.len in
    subst (λ t. width_of t (record { 0 = c.len-count.result }) ≡ term_width c.args.self.now c.args.term) (sym is)
    (width_of-added_new c.args.self.now c.args.term _ last)

pub returns-clause-value : goal.returns-clause-value
returns-clause-value c values =
    let is = made c.args.term _ c.self.inside.kept c.insert.new.self c.args.self.now _ c.self.view_is
    c.in_default.ensures.found c.term_width-width.ensures c.in_ok-insert.ensures.entries in
    let last = place _ c.self.inside.kept c.args.self.now _ c.self.view_is c.len-count.ensures.len in
    let sound = subst IsSound c.self.view_is c.self.invariant in
    let none = absent c.args.term _ c.self.inside.kept c.args.self.now c.self.view_is c.in_default.ensures.found in
    subst (λ t. value_of t values (record { 0 = c.len-count.result }) ≡ term_value c.args.self.now values c.args.term)
    (sym is) (value_of-added_new c.args.self.now c.args.term sound c.requires none values _ last)

pub returns-clause-earlier : goal.returns-clause-earlier
returns-clause-earlier c =
    let is = made c.args.term _ c.self.inside.kept c.insert.new.self c.args.self.now _ c.self.view_is
    c.in_default.ensures.found c.term_width-width.ensures c.in_ok-insert.ensures.entries in
    let sound = subst IsSound c.self.view_is c.self.invariant in
    subst (Extends c.args.self.now) (sym is) (extends-added c.args.self.now c.args.term sound)

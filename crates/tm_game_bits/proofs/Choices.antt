-- The choices that a step lists.
use Rattle.std.proofs.Common.{◌≡◌, ℕ, ◌<◌, List, [], ◌∷◌, length, get_or, map, inl, inr, refl, sym, ap, ◌∙◌}
use Rattle.std.specs.Prelude.{All}
use Rattle.std.proofs.lemmas.List.Elements.{All-head, All-tail}
use Rattle.tm_ddops.specs.Quantified.{AgreeElsewhere}
use Rattle.tm_flat.specs.Flat.{StepTerms}
use Rattle.tm_game_bits.specs.Choices.{AgreeButUnlisted, ListsChoices, ReadsListed}
use Rattle.tm_game_bits.specs.Functions.{Assignment}
use Rattle.tm_game_bits.proofs.StateSets.{contains_or_not, mixed, mixed-in, mixed-out}
use Rattle.tm_term.specs.declared.term.TermId.{TermId}

-- who differs at listed choices alone differs at choices alone
pub chosen_among : (choices listed : List ℕ) (value : Assignment → TermId → ℕ) (terms : StepTerms) →
    ListsChoices choices listed value terms → (v w : Assignment) → AgreeElsewhere listed v w →
    AgreeElsewhere choices v w
chosen_among choices listed value terms lists v w others k absent =
    others k (λ there. absent (lists.among k there))

-- with the listed ones of some choices alone, nothing differs but choices that are not listed
pub mixed-listed : (choices listed : List ℕ) (v w : Assignment) → AgreeElsewhere choices v w →
    AgreeButUnlisted choices listed (mixed listed v w) w
mixed-listed choices listed v w others k listed_if = elim (contains_or_not listed k) [
  | inl there ↦ mixed-in listed v w k there
  | inr not_so ↦ mixed-out listed v w k not_so ∙ sym (others k (λ there. not_so (listed_if there)))
]

-- the values of the next terms
pub next_values : (choices listed : List ℕ) (value : Assignment → TermId → ℕ) (terms : StepTerms) →
    ListsChoices choices listed value terms → (v w : Assignment) → AgreeButUnlisted choices listed v w →
    map (value v) terms.next ≡ map (value w) terms.next
next_values choices listed value terms lists v w agree =
    same terms.next (λ n d below. lists.next n d below v w agree)
  where
    same : (ids : List TermId) → All (λ (id : TermId). value v id ≡ value w id) ids →
        map (value v) ids ≡ map (value w) ids
    same [] all = refl
    same (id ∷ ids) all =
        λ i. All-head (λ (k : TermId). value v k ≡ value w k) id ids all i
        ∷ same ids (All-tail (λ (k : TermId). value v k ≡ value w k) id ids all) i

-- all choices may be listed
pub lists_all : (choices : List ℕ) (value : Assignment → TermId → ℕ) (terms : StepTerms) →
    ListsChoices choices choices value terms
lists_all choices value terms = record {
  among = λ k there. there;
  legal = same terms.legal;
  error = same terms.error;
  next = λ n d below. same (get_or terms.next n d);
}
  where
    same : (id : TermId) → ReadsListed choices choices (λ v. value v id)
    same id v w agree =
        let both : v ≡ w = λ i k. agree k (λ there. there) i in
        ap (λ (u : Assignment). value u id) both

-- choices stay listed where the values of the terms stay
pub lists_same : (choices listed : List ℕ) (old new : Assignment → TermId → ℕ) (terms : StepTerms) →
    ((v : Assignment) → new v terms.legal ≡ old v terms.legal) →
    ((v : Assignment) → new v terms.error ≡ old v terms.error) →
    ((v : Assignment) (n : ℕ) (d : TermId) → n < length terms.next →
    new v (get_or terms.next n d) ≡ old v (get_or terms.next n d)) → ListsChoices choices listed old terms →
    ListsChoices choices listed new terms
lists_same choices listed old new terms legal error next lists = record {
  among = lists.among;
  legal = λ v w agree. legal v ∙ lists.legal v w agree ∙ sym (legal w);
  error = λ v w agree. error v ∙ lists.error v w agree ∙ sym (error w);
  next = λ n d below v w agree. next v n d below ∙ lists.next n d below v w agree ∙ sym (next w n d below);
}

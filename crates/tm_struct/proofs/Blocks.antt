-- The blocks of a structured driver answer as it does.
use Rattle.std.proofs.Common.{◌≡◌, ℕ, ◌<◌, ◌≤◌, ◌↔◌, ◌⊎◌, inl, inr, Some, List, All, length, get_or, slice_get, refl, sym, ap, subst, ◌∙◌, arith}
use Rattle.std.proofs.lemmas.Option.{slice_get_within, slice_get-get_or}
use Rattle.tm_syntax.specs.Design.{DesignTree}
use Rattle.tm_sem.specs.State.{StateData}
use Rattle.tm_sem.specs.declared.state.Move.{Move}
use Rattle.tm_cir.specs.Tree.{BlockTree}
use Rattle.tm_cir.specs.Fit.{FitBlocks}
use Rattle.tm_cir.specs.Answer.{Answers}
use Rattle.tm_cir.proofs.Following.{same_answer}
use Rattle.tm_struct.specs.Tree.{ActionTree, choose, call, leave, go, idle, ProgramTree}
use Rattle.tm_struct.specs.Fit.{FitsAction, FitsProgram}
use Rattle.tm_struct.specs.Answer.{AnswersSo}
use Rattle.tm_struct.specs.Inner.Laying.{NamesBelow, Does, LeadBack, IsLaid, AreLaid, turned_over}
use Rattle.tm_struct.proofs.Leading.{some_move}
use Rattle.tm_struct.proofs.Doing.{block_answers}
use Rattle.tm_struct.proofs.Laid.{does_then, fit_turned, answers_from_first}

-- an action that fits names functions below
pub names_below : (d : DesignTree) (below : ℕ) (a : ActionTree) → FitsAction d below a → NamesBelow below a
names_below d below (choose t a b) fits = (names_below d below a fits.1, names_below d below b fits.2)
names_below d below (call task args) fits = tt
names_below d below (leave p) fits = tt
names_below d below (go k) fits = fits
names_below d below idle fits = tt

module _ (d : DesignTree) (p : ProgramTree) (fits : FitsProgram d p) (before bs : List BlockTree) (starts : List ℕ)
    (first : ℕ) (laid : AreLaid before starts p.functions) (main : IsLaid before bs starts first p.main) where
  back : LeadBack bs
  back = main.back laid.back

  -- the turned blocks fit
  pub blocks_fit : FitBlocks d (turned_over first bs)
  blocks_fit =
      fit_turned bs first main.within d back
      (main.fit d
      (subst (λ (n : ℕ). FitsAction d n p.main) (sym laid.begins.many) fits.main)
      (laid.fit d fits.functions))

  -- and answer as the driver does
  pub blocks_answer : (s : StateData) (g : ℕ) (m : Move) → Answers (turned_over first bs) s g m ↔ AnswersSo p s g m
  blocks_answer s g m = (from, to m)
    where
      each : (k at : ℕ) (a : ActionTree) → slice_get starts k ≡ Some at → slice_get p.functions k ≡ Some a →
          Does bs starts at a
      each k at a is also = does_then main.grows (laid.begins.each k at a is also)

      begins : (k : ℕ) (a : ActionTree) → slice_get p.functions k ≡ Some a → (at : ℕ) × (slice_get starts k ≡ Some at)
      begins k a is = (
        get_or starts k 0,
        slice_get-get_or starts k 0
            (omega (arith, slice_get_within p.functions k a is, laid.begins.many)),
      )

      to : (n : Move) → AnswersSo p s g n → Answers (turned_over first bs) s g n
      to n answers =
          answers_from_first bs first main.within back s g n
          (block_answers bs starts p.functions s g each begins main.does answers)

      from : Answers (turned_over first bs) s g m → AnswersSo p s g m
      from answers =
          let found = some_move d p fits s g in
          subst (AnswersSo p s g)
          (same_answer (turned_over first bs) s g (to found.0 found.1) answers) found.1

-- blocks that were made of what was laid fit the design, and answer as the driver does
module _ (d : DesignTree) (p : ProgramTree) (fits : FitsProgram d p) (before bs made : List BlockTree)
    (starts named : List ℕ) (shown : List ActionTree) (first : ℕ) (laid : AreLaid before starts shown)
    (shown_is : shown ≡ p.functions) (main : IsLaid before bs named first p.main) (named_is : named ≡ starts)
    (made_is : made ≡ turned_over first bs) where
  laid_there : AreLaid before starts p.functions
  laid_there = subst (AreLaid before starts) shown_is laid

  main_there : IsLaid before bs starts first p.main
  main_there = subst (λ (l : List ℕ). IsLaid before bs l first p.main) named_is main

  pub made_fit : FitBlocks d made
  made_fit =
      subst (FitBlocks d) (sym made_is) (blocks_fit d p fits before bs starts first laid_there main_there)

  pub made_answer : (s : StateData) (g : ℕ) (m : Move) → Answers made s g m ↔ AnswersSo p s g m
  made_answer s g m =
      subst (λ (l : List BlockTree). Answers l s g m ↔ AnswersSo p s g m) (sym made_is)
      (blocks_answer d p fits before bs starts first laid_there main_there s g m)

-- what was laid for the functions has as many starts as they are
pub main_names : (d : DesignTree) (p : ProgramTree) → FitsProgram d p → (before : List BlockTree)
    (starts named : List ℕ) (shown : List ActionTree) → AreLaid before starts shown → shown ≡ p.functions →
    named ≡ starts → NamesBelow (length named) p.main
main_names d p fits before starts named shown laid shown_is named_is =
    subst (λ (n : ℕ). NamesBelow n p.main)
    (sym (ap length named_is ∙ laid.begins.many ∙ ap length shown_is))
    (names_below d (length p.functions) p.main fits.main)

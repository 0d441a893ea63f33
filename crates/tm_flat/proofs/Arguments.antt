-- Arguments in range are held by some bits.
use Rattle.std.proofs.Common.{◌≡◌, ℕ, ◌+◌, ◌^◌, ◌<◌, ◌≤◌, Bool, true, false, Some, List, [], ◌∷◌, length, refl, ap, ◌∙◌, subst, arith, ltb-true, eqb-true}
use Rattle.std.specs.Prelude.{◌&&◌, nat_eq, nat_lt, slice_get}
use Rattle.std.specs.List.{list_all, zip}
use Rattle.tm_term.specs.Table.{Table}
use Rattle.tm_syntax.specs.Design.{DesignTree}
use Rattle.tm_syntax.specs.Design.Cells.{Cell, Called}
use Rattle.tm_syntax.specs.Design.Sizes.{type_size, type_bits}
use Rattle.tm_sem.specs.declared.state.Move.TheVariants.{Call}
use Rattle.tm_sem.specs.State.{StateData}
use Rattle.tm_sem.specs.Run.{asked_by}
use Rattle.tm_sem.specs.Step.{IsState, arguments_fit, task_of}
use Rattle.tm_flat.specs.BitRun.{number_at}
use Rattle.tm_flat.specs.BitStep.{HasRoom}
use Rattle.tm_flat.specs.Fitting.{ArgumentsFit}
use Rattle.tm_flat.specs.Flat.{StepTerms, FlatTerms}
use Rattle.tm_flat.specs.Inputs.{room, AreBits, arguments_from, arguments_in}
use Rattle.tm_flat.specs.IsFlat.{IsFlat}
use Rattle.tm_flat.specs.Steps.{Tells}
use Rattle.tm_flat.proofs.BitSteps.{listed, listed_is, listed_are_bits}
use Rattle.tm_flat.proofs.Telling.{task_steps_tell}
use Rattle.tm_flat.proofs.Writing.{with_number, with_number_behind, with_number_read}

both : (a b : Bool) → (a && b) ≡ true → (a ≡ true) × (b ≡ true)
both true b is = (refl, is)
both false b is = absurd (cc)

-- bits that hold arguments from a position on, whatever stands before it
record Held (d : DesignTree) (params : List Cell) (args : List ℕ) (k : ℕ) : Type 0 where
  bits : ℕ → Bool
  off : (p : ℕ) → room ≤ p → bits p ≡ false
  holds : (b : ℕ → Bool) → ((p : ℕ) → k ≤ p → b p ≡ bits p) → arguments_from d params b k ≡ args

module _ (d : DesignTree) where
  start : (params : List Cell) (k : ℕ) → ArgumentsFit room d params k → k ≤ room
  start [] k fits = fits
  start (c ∷ cs) k fits =
      let behind : k + type_bits d.spec (asked_by d (Some c)) ≤ room =
      start cs (k + type_bits d.spec (asked_by d (Some c))) fits.1 in
      omega arith

  held : (params : List Cell) (args : List ℕ) (k : ℕ) → length params ≡ length args →
      list_all (λ p. nat_lt p.1 (type_size d.spec (asked_by d (Some p.0)))) (zip params args) ≡ true →
      ArgumentsFit room d params k → Held d params args k
  held [] [] k count all fits = record { bits = λ p. false; off = λ p h. refl; holds = λ b same. refl }
  held [] (n ∷ ns) k count all fits = absurd (omega arith)
  held (c ∷ cs) [] k count all fits = absurd (omega arith)
  held (c ∷ cs) (n ∷ ns) k count all fits =
      let w = type_bits d.spec (asked_by d (Some c)) in
      let parts : (nat_lt n (type_size d.spec (asked_by d (Some c))) ≡ true)
      × (list_all (λ p. nat_lt p.1 (type_size d.spec (asked_by d (Some p.0)))) (zip cs ns) ≡ true) =
      both (nat_lt n (type_size d.spec (asked_by d (Some c))))
      (list_all (λ p. nat_lt p.1 (type_size d.spec (asked_by d (Some p.0)))) (zip cs ns)) all in
      let below : n < type_size d.spec (asked_by d (Some c)) =
      ltb-true n (type_size d.spec (asked_by d (Some c))) parts.0 in
      let enough : type_size d.spec (asked_by d (Some c)) ≤ 2 ^ w = fits.0 in
      let small : n < 2 ^ w = omega arith in
      let within : k + w ≤ room = start cs (k + w) fits.1 in
      let rest : Held d cs ns (k + w) = held cs ns (k + w) (omega arith) parts.1 fits.1 in
      record {
        bits = with_number k w n rest.bits;
        off = λ p h. with_number_behind k w n rest.bits p (omega arith) ∙ rest.off p h;
        holds = λ b same.
            let first : number_at b k w ≡ n = with_number_read k w n rest.bits b small same in
            let others : arguments_from d cs b (k + w) ≡ ns =
            rest.holds b (λ p h. same p (omega arith) ∙ with_number_behind k w n rest.bits p h) in
            cc;
      }

  pub arguments_are_held : (params : List Cell) (args : List ℕ) → ArgumentsFit room d params 0 →
      arguments_fit d params args ≡ true → (bits : List ℕ) × AreBits bits × (arguments_in d params bits ≡ args)
  arguments_are_held params args fits fit =
      let parts : (nat_eq (length params) (length args) ≡ true)
      × (list_all (λ p. nat_lt p.1 (type_size d.spec (asked_by d (Some p.0)))) (zip params args) ≡ true) =
      both (nat_eq (length params) (length args))
      (list_all (λ p. nat_lt p.1 (type_size d.spec (asked_by d (Some p.0)))) (zip params args)) fit in
      let h : Held d params args 0 =
      held params args 0 (eqb-true (length params) (length args) parts.0) parts.1 fits in (
        listed room h.bits,
        listed_are_bits h.bits,
        ap (λ b. arguments_from d params b 0) (listed_is room h.bits h.off) ∙ h.holds h.bits (λ p below. refl),
      )

-- a call with arguments in range is told by the step of its task, for some bits
pub calls_are_told : (t : Table) (d : DesignTree) (f : FlatTerms) → IsFlat t d f → HasRoom d → (s : StateData) (n : ℕ)
    (callee : Called) (args : List ℕ) → IsState d s → task_of d n ≡ Some callee →
    arguments_fit d callee.params args ≡ true →
    (bits : List ℕ) × AreBits bits × (step : StepTerms) × (slice_get f.tasks n ≡ Some step)
    × Tells t d step s (Call n args) bits
calls_are_told t d f flat fits s n callee args valid known fit =
    let held : (bits : List ℕ) × AreBits bits × (arguments_in d callee.params bits ≡ args) =
    arguments_are_held d callee.params args (fits.arguments n callee known) fit in
    let told : (step : StepTerms) × (slice_get f.tasks n ≡ Some step)
    × Tells t d step s (Call n (arguments_in d callee.params held.0)) held.0 =
    task_steps_tell t d f flat s n callee held.0 valid known held.1 in
    (held.0, held.1, told.0, told.1, subst (λ a. Tells t d told.0 s (Call n a) held.0) held.2 told.2)

-- What files tell is one, or why they tell none; so `run` has one end.
use Rattle.std.proofs.Common.{◌≡◌, ℕ, Option, Ok, Err, List, refl, sym, ap}
use Rattle.std.proofs.Common.{subst, ◌∙◌}
use Rattle.tm_syntax.specs.Limits.{file_limit}
use Rattle.tm_base.specs.Files.{IsLonger}
use Rattle.tm_syntax.specs.Design.{DesignTree}
use Rattle.tm_cir.specs.Tree.{BlockTree}
use Rattle.tm_cir.proofs.Text.Whole.{one_driver}
use Rattle.tm_cparse.specs.declared.bad.BadDriver.{BadDriver}
use Rattle.tm_cparse.specs.Faults.{IsDriverFile, HasFault}
use Rattle.tm_cparse.proofs.Files.{file_no_fault}
use Rattle.tm_cparse.proofs.OneFault.{one_fault}
use Rattle.tm_report.specs.declared.ending.Ending.{Ending}
use Rattle.tm_report.specs.declared.ending.Ending.TheVariants.{Play, BadText}
use Rattle.tm_report.specs.declared.ending.Bad.TheVariants.{Driver, Choices}
use Rattle.tm_play.specs.declared.ending.PlayEnd.{PlayEnd}
use Rattle.tm_play.specs.Script.{ScriptData}
use Rattle.tm_play.specs.Choices.{reading_of}
use Rattle.tm_commands.specs.Inputs.{TellsSpecification, TellsBlocks, TellsBadDriver, TellsScript, TellsBadLine}
use Rattle.tm_commands.specs.Inputs.{NoBlocks, long_driver, bad_driver, NoScript, long_choices, bad_choices}
use Rattle.tm_commands.specs.Run.{Loads, Refused, no_design, no_blocks, no_script, RunEnds, refused, ended}
use Rattle.tm_play.specs.Played.{Ends}
use Rattle.tm_play.proofs.OneEnd.{one_end}
use Rattle.tm_commands.proofs.Telling.{not_longer, one_no_specification, one_text, specification_read}
use Rattle.tm_commands.proofs.Telling.{told_specification}
use Rattle.tm_commands.proofs.Texts.{design_names}

module _ (contents : List ℕ → Option (List ℕ)) where
  pub told_blocks : (driver : List ℕ) (d : DesignTree) (bs cs : List BlockTree) → TellsBlocks contents driver d bs →
      TellsBlocks contents driver d cs → bs ≡ cs
  told_blocks driver d bs cs p q =
      one_driver d p.text bs cs p.is.is
      (subst (λ (t : List ℕ). IsDriverFile d t cs) (one_text contents driver p.text q.text p.told q.told) q.is).is

  told_script : (choices : List ℕ) (d : DesignTree) (c e : ScriptData) → TellsScript contents choices d c →
      TellsScript contents choices d e → c ≡ e
  told_script choices d c e p q =
      let same : Ok c ≡ Ok e =
      sym p.reads ∙ ap (reading_of d.processes) (sym (one_text contents choices p.text q.text p.told q.told))
      ∙ q.reads in cc

  told_line : (choices : List ℕ) (d : DesignTree) (n k : ℕ) → TellsBadLine contents choices d n →
      TellsBadLine contents choices d k → n ≡ k
  told_line choices d n k p q =
      let same : Err n ≡ Err k =
      sym p.reads ∙ ap (reading_of d.processes) (sym (one_text contents choices p.text q.text p.told q.told))
      ∙ q.reads in cc

  no_bad_line : (choices : List ℕ) (d : DesignTree) (c : ScriptData) (n : ℕ) → TellsScript contents choices d c →
      TellsBadLine contents choices d n → ⊥
  no_bad_line choices d c n p q =
      let same : Ok c ≡ Err n =
      sym p.reads ∙ ap (reading_of d.processes) (sym (one_text contents choices p.text q.text p.told q.told))
      ∙ q.reads in cc

  driver_short : (driver : List ℕ) (d : DesignTree) (bs : List BlockTree) → TellsBlocks contents driver d bs →
      IsLonger (contents driver) file_limit → ⊥
  driver_short driver d bs p long = not_longer (contents driver) p.text p.told p.is.short long

  no_bad_told : (driver : List ℕ) (spec : List ℕ) (d : DesignTree) (bs : List BlockTree) (bad : BadDriver) →
      TellsSpecification contents spec d → TellsBadDriver contents driver d bad → TellsBlocks contents driver d bs → ⊥
  no_bad_told driver spec d bs bad design p q =
      file_no_fault d p.text bs bad (design_names design.text design.tokens d design.is)
      (subst (λ (t : List ℕ). IsDriverFile d t bs) (one_text contents driver p.text q.text p.told q.told) q.is) p.fault

  -- a file that tells something is no reason to stop
  pub blocks_read : (driver : List ℕ) (spec : List ℕ) (d : DesignTree) (bs : List BlockTree) (ending : Ending) →
      TellsSpecification contents spec d → TellsBlocks contents driver d bs → NoBlocks contents driver d ending → ⊥
  blocks_read driver spec d bs ending design blocks (bad_driver {bad = bad} fault) =
      no_bad_told driver spec d bs bad design fault blocks
  blocks_read driver spec d bs ending design blocks (long_driver long) = driver_short driver d bs blocks long

  script_read : (choices : List ℕ) (d : DesignTree) (c : ScriptData) (ending : Ending) →
      TellsScript contents choices d c → NoScript contents choices d ending → ⊥
  script_read choices d c ending script (long_choices long) =
      not_longer (contents choices) script.text script.told script.short long
  script_read choices d c ending script (bad_choices {n = n} line) = no_bad_line choices d c n script line

  -- a file is refused for one cause
  pub one_no_blocks : (driver : List ℕ) (d : DesignTree) (one other : Ending) → NoBlocks contents driver d one →
      NoBlocks contents driver d other → one ≡ other
  one_no_blocks driver d one other (bad_driver {bad = bad} p) (bad_driver {bad = found} q) =
      ap (λ (b : BadDriver). BadText driver (Driver b))
      (one_fault d p.text bad found p.fault
      (subst (λ (t : List ℕ). HasFault d t found) (one_text contents driver p.text q.text p.told q.told) q.fault))
  one_no_blocks driver d one other (bad_driver p) (long_driver q) =
      absurd (not_longer (contents driver) p.text p.told p.short q)
  one_no_blocks driver d one other (long_driver p) (bad_driver q) =
      absurd (not_longer (contents driver) q.text q.told q.short p)
  one_no_blocks driver d one other (long_driver p) (long_driver q) = refl

  one_no_script : (choices : List ℕ) (d : DesignTree) (one other : Ending) → NoScript contents choices d one →
      NoScript contents choices d other → one ≡ other
  one_no_script choices d one other (long_choices p) (long_choices q) = refl
  one_no_script choices d one other (long_choices p) (bad_choices q) =
      absurd (not_longer (contents choices) q.text q.told q.short p)
  one_no_script choices d one other (bad_choices p) (long_choices q) =
      absurd (not_longer (contents choices) p.text p.told p.short q)
  one_no_script choices d one other (bad_choices {n = n} p) (bad_choices {n = k} q) =
      ap (λ (i : ℕ). BadText choices (Choices i)) (told_line choices d n k p q)

  module _ (spec driver choices : List ℕ) where
    -- what files tell over the design that SPEC tells, they tell over any other that it tells
    pub blocks_of : (d e : DesignTree) (bs : List BlockTree) → TellsSpecification contents spec d →
        TellsSpecification contents spec e → TellsBlocks contents driver e bs → TellsBlocks contents driver d bs
    blocks_of d e bs p q blocks =
        subst (λ (x : DesignTree). TellsBlocks contents driver x bs) (told_specification contents spec e d q p) blocks

    pub no_blocks_of : (d e : DesignTree) (ending : Ending) → TellsSpecification contents spec d →
        TellsSpecification contents spec e → NoBlocks contents driver e ending → NoBlocks contents driver d ending
    no_blocks_of d e ending p q blocks =
        subst (λ (x : DesignTree). NoBlocks contents driver x ending) (told_specification contents spec e d q p) blocks

    no_script_of : (d e : DesignTree) (ending : Ending) → TellsSpecification contents spec d →
        TellsSpecification contents spec e → NoScript contents choices e ending → NoScript contents choices d ending
    no_script_of d e ending p q script =
        subst (λ (x : DesignTree). NoScript contents choices x ending) (told_specification contents spec e d q p) script

    -- files that load are not refused
    not_refused : (d : DesignTree) (bs : List BlockTree) (c : ScriptData) (ending : Ending) →
        Loads contents spec driver choices d bs c → Refused contents spec driver choices ending → ⊥
    not_refused d bs c ending loads (no_design none) = specification_read contents spec d ending loads.design none
    not_refused d bs c ending loads (no_blocks {d = e} design none) =
        blocks_read driver spec d bs ending loads.design loads.blocks (no_blocks_of d e ending loads.design design none)
    not_refused d bs c ending loads (no_script {d = e} design blocks none) =
        script_read choices d c ending loads.script (no_script_of d e ending loads.design design none)

    -- files are refused for one cause
    one_refusal : (one other : Ending) → Refused contents spec driver choices one →
        Refused contents spec driver choices other → one ≡ other
    one_refusal one other (no_design p) (no_design q) = one_no_specification contents spec one other p q
    one_refusal one other (no_design p) (no_blocks {d = d} design q) =
        absurd (specification_read contents spec d one design p)
    one_refusal one other (no_design p) (no_script {d = d} design blocks q) =
        absurd (specification_read contents spec d one design p)
    one_refusal one other (no_blocks {d = d} design p) (no_design q) =
        absurd (specification_read contents spec d other design q)
    one_refusal one other (no_blocks {d = d} design p) (no_blocks {d = e} others q) =
        one_no_blocks driver d one other p (no_blocks_of d e other design others q)
    one_refusal one other (no_blocks {d = d} design p) (no_script {d = e} {bs = bs} others blocks q) =
        absurd (blocks_read driver spec d bs one design (blocks_of d e bs design others blocks) p)
    one_refusal one other (no_script {d = d} design blocks p) (no_design q) =
        absurd (specification_read contents spec d other design q)
    one_refusal one other (no_script {d = d} {bs = bs} design blocks p) (no_blocks {d = e} others q) =
        absurd (blocks_read driver spec d bs other design blocks (no_blocks_of d e other design others q))
    one_refusal one other (no_script {d = d} design blocks p) (no_script {d = e} others more q) =
        one_no_script choices d one other p (no_script_of d e other design others q)

    -- two plays of the files are one
    same_end : (d e : DesignTree) (bs cs : List BlockTree) (c f : ScriptData) (text other_text : List ℕ)
        (one other : PlayEnd) →
        Loads contents spec driver choices d bs c → Ends d bs c text one → Loads contents spec driver choices e cs f →
        Ends e cs f other_text other → one ≡ other
    same_end d e bs cs c f text other_text one other p ends q others =
        let designs : e ≡ d = told_specification contents spec e d q.design p.design in
        let told : TellsBlocks contents driver d cs =
        subst (λ (x : DesignTree). TellsBlocks contents driver x cs) designs q.blocks in
        let blocks : cs ≡ bs = told_blocks driver d cs bs told p.blocks in
        let said : TellsScript contents choices d f =
        subst (λ (x : DesignTree). TellsScript contents choices x f) designs q.script in
        let scripts : f ≡ c = told_script choices d f c said p.script in
        let of_design : Ends d cs f other_text other =
        subst (λ (x : DesignTree). Ends x cs f other_text other) designs others in
        let of_blocks : Ends d bs f other_text other =
        subst (λ (x : List BlockTree). Ends d x f other_text other) blocks of_design in
        let moved : Ends d bs c other_text other =
        subst (λ (x : ScriptData). Ends d bs x other_text other) scripts of_blocks in
        (one_end d bs c text other_text one other ends moved).1

    -- `run` has one end
    pub one_run_end : (text other_text : List ℕ) (one other : Ending) → RunEnds contents spec driver choices text one →
        RunEnds contents spec driver choices other_text other → one ≡ other
    one_run_end text other_text one other (refused p) (refused q) = one_refusal one other p q
    one_run_end text other_text one _ (refused p) (ended {d = d} {bs = bs} {c = c} loads ends) =
        absurd (not_refused d bs c one loads p)
    one_run_end text other_text _ other (ended {d = d} {bs = bs} {c = c} loads ends) (refused q) =
        absurd (not_refused d bs c other loads q)
    one_run_end text other_text _ _ (ended {d = d} {bs = bs} {c = c} {end = one} p ends)
        (ended {d = e} {bs = cs} {c = f} {end = other} q others) =
        ap Play (same_end d e bs cs c f text other_text one other p ends q others)

-- What words can spell: no command with too many registers, and none that writes a file without a name.
use Rattle.std.proofs.Common.{◌≡◌, ℕ, ◌≤◌, Bool, true, false, ◌&&◌, not, nat_lt, Option, None, Some, List, [], ◌∷◌}
use Rattle.std.proofs.Common.{refl, subst, if◌then◌else◌, is_some}
use Rattle.std.specs.Prelude.{codes}
use Rattle.std.specs.Bool.{then_some}
use Rattle.std.specs.List.{list_all}
use Rattle.std.specs.Option.{option_map, option_and_then}
use Rattle.std.specs.Str.{bytes_eq}
use Rattle.std.proofs.lemmas.Bool.{ltb-false}
use Rattle.tm_play.specs.Numbers.{digits_after}
use Rattle.tm_commands.specs.Words.{Command, run, check_driver, check_environment, generate, migrate, structure}
use Rattle.tm_commands.specs.Words.{unstructure}
use Rattle.tm_commands.specs.Words.{Arguments, arguments_as, arguments_of, arguments_with, is_filled, number_of}
use Rattle.tm_commands.specs.Words.{one_budget, split_words}
use Rattle.tm_commands.specs.Words.{most_registers, of_three, check_of, generate_of, command_of}
use Rattle.tm_commands.specs.Words.{command_with, plain_command_with, synthesise, synthesise_of}
use Rattle.tm_commands.specs.Inner.Obeying.{IsSpelled}

-- the registers are within their limit, and the file that is written has a name
abbrev pub IsFit : Command → Type 0
IsFit (run spec driver choices) = Unit {0}
IsFit (synthesise spec out budget) = Unit {0}
IsFit (check_driver spec driver cert) = Unit {0}
IsFit (check_environment spec cert) = Unit {0}
IsFit (generate registers out) = (registers ≤ most_registers) × (out ≡ [] → ⊥)
IsFit (migrate spec cert out) = out ≡ [] → ⊥
IsFit (structure spec driver out) = out ≡ [] → ⊥
IsFit (unstructure spec struct out) = out ≡ [] → ⊥

-- a filled word is not empty
filled : (word : List ℕ) → is_filled word ≡ true → word ≡ [] → ⊥
filled [] is none = cc
filled (b ∷ bs) is none = cc

both : (a b : Bool) → a && b ≡ true → (a ≡ true) × (b ≡ true)
both true b is = (refl, is)
both false b is = absurd (cc)

-- what is kept where a test passes
kept : {X : Type 0} (b : Bool) (x y : X) → then_some b x ≡ Some y → (b ≡ true) × (x ≡ y)
kept true x y is = (refl, cc)
kept false x y is = absurd (cc)

-- what is made of an option
made : {X Y : Type 0} (f : X → Option Y) (o : Option X) (y : Y) → option_and_then f o ≡ Some y →
    (x : X) × (o ≡ Some x) × (f x ≡ Some y)
made f None y is = absurd (cc)
made f (Some x) y is = (x, refl, is)

-- words behind a command are filled
all_filled : (ws : List (List ℕ)) (found : Arguments) → arguments_of ws ≡ Some found →
    list_all is_filled found.positional ≡ true
all_filled ws found is =
    let from = made arguments_as (split_words false ws) found is in
    let one = made
    (λ budget. then_some (list_all is_filled from.0.positional) (arguments_with from.0.positional budget))
    (one_budget from.0.budgets) found from.2 in
    let passed = kept (list_all is_filled from.0.positional)
    (arguments_with from.0.positional one.0) found one.2 in
    subst (λ (b : Arguments). list_all is_filled b.positional ≡ true) passed.1 passed.0

few : (b : Bool) (n : ℕ) → b && not (nat_lt most_registers n) ≡ true → n ≤ most_registers
few b n is = by (nat_lt most_registers n) refl (both b (not (nat_lt most_registers n)) is).1
  where
    by : (t : Bool) → nat_lt most_registers n ≡ t → not (nat_lt most_registers n) ≡ true → n ≤ most_registers
    by true is other = absurd (let no : not true ≡ true = subst (λ t. not t ≡ true) is other in cc)
    by false is other = ltb-false most_registers n is

-- a number of registers that is read is within the limit
few_registers : (word : List ℕ) (n : ℕ) → number_of most_registers word ≡ Some n → n ≤ most_registers
few_registers word n is =
    let from = made (λ n. then_some (is_filled word && not (nat_lt most_registers n)) n) (digits_after 0 word) n is in
    let passed = kept (is_filled word && not (nat_lt most_registers from.0)) from.0 n from.2 in
    subst (λ k. k ≤ most_registers) passed.1 (few (is_filled word) from.0 passed.0)

synthesise_fit : (words : List (List ℕ)) (budget : Option ℕ) (c : Command) → synthesise_of words budget ≡ Some c →
    IsFit c
synthesise_fit [] budget c is = absurd (cc)
synthesise_fit (s ∷ []) budget c is = absurd (cc)
synthesise_fit (s ∷ o ∷ []) budget c is = let same : synthesise s o budget ≡ c = cc in subst IsFit same tt
synthesise_fit (s ∷ o ∷ w ∷ ws) budget c is = absurd (cc)

check_fit : (words : List (List ℕ)) (c : Command) → check_of words ≡ Some c → IsFit c
check_fit [] c is = absurd (cc)
check_fit (s ∷ []) c is = absurd (cc)
check_fit (s ∷ k ∷ []) c is = let same : check_environment s k ≡ c = cc in subst IsFit same tt
check_fit (s ∷ d ∷ k ∷ []) c is = let same : check_driver s d k ≡ c = cc in subst IsFit same tt
check_fit (s ∷ d ∷ k ∷ w ∷ ws) c is = absurd (cc)

generate_fit : (words : List (List ℕ)) (c : Command) → list_all is_filled words ≡ true →
    generate_of words ≡ Some c → IsFit c
generate_fit [] c all is = absurd (cc)
generate_fit (n ∷ []) c all is = absurd (cc)
generate_fit (n ∷ o ∷ []) c all is = by (number_of most_registers n) refl is
  where
    by : (r : Option ℕ) → number_of most_registers n ≡ r → option_map (λ n. generate n o) r ≡ Some c → IsFit c
    by None read is = absurd (cc)
    by (Some k) read is =
        let same : generate k o ≡ c = cc in
        subst IsFit same
        (few_registers n k read, filled o (both (is_filled o) true (both (is_filled n) (is_filled o && true) all).1).0)
generate_fit (n ∷ o ∷ w ∷ ws) c all is = absurd (cc)

-- a command of three words is fit, where it is so once its last word has a name
module _ (command : List ℕ → List ℕ → List ℕ → Command)
    (fit : (s k o : List ℕ) → (o ≡ [] → ⊥) → IsFit (command s k o)) where
  three_fit : (words : List (List ℕ)) (c : Command) → list_all is_filled words ≡ true →
      of_three command words ≡ Some c → IsFit c
  three_fit [] c all is = absurd (cc)
  three_fit (s ∷ []) c all is = absurd (cc)
  three_fit (s ∷ k ∷ []) c all is = absurd (cc)
  three_fit (s ∷ k ∷ o ∷ []) c all is =
      let same : command s k o ≡ c = cc in
      let behind = (both (is_filled s) (is_filled k && (is_filled o && true)) all).1 in
      subst IsFit same
      (fit s k o (filled o (both (is_filled o) true (both (is_filled k) (is_filled o && true) behind).1).0))
  three_fit (s ∷ k ∷ o ∷ w ∷ ws) c all is = absurd (cc)

-- a command other than `synth`
chosen : (r k g m t u : Bool) (words : List (List ℕ)) (c : Command) → list_all is_filled words ≡ true →
    (if r then of_three run words else if k then check_of words else if g then generate_of words
    else if m then of_three migrate words else if t then of_three structure words
    else if u then of_three unstructure words else None) ≡ Some c → IsFit c
chosen true k g m t u words c all is = three_fit run (λ s d h named. tt) words c all is
chosen false true g m t u words c all is = check_fit words c is
chosen false false true m t u words c all is = generate_fit words c all is
chosen false false false true t u words c all is = three_fit migrate (λ s k o named. named) words c all is
chosen false false false false true u words c all is = three_fit structure (λ s d o named. named) words c all is
chosen false false false false false true words c all is =
    three_fit unstructure (λ s d o named. named) words c all is
chosen false false false false false false words c all is = absurd (cc)

any_command : (s b : Bool) (command : List ℕ) (arguments : Arguments) (c : Command) →
    list_all is_filled arguments.positional ≡ true →
    (if s then synthesise_of arguments.positional arguments.budget else if b then None
    else plain_command_with command arguments.positional) ≡ Some c → IsFit c
any_command true b command arguments c all is = synthesise_fit arguments.positional arguments.budget c is
any_command false true command arguments c all is = absurd (cc)
any_command false false command arguments c all is =
    chosen (bytes_eq command (codes "run")) (bytes_eq command (codes "check")) (bytes_eq command (codes "gen"))
    (bytes_eq command (codes "migrate")) (bytes_eq command (codes "structure"))
    (bytes_eq command (codes "unstructure")) arguments.positional c all is

-- a command that is spelled is fit
pub spelled_fit : (c : Command) → IsSpelled c → IsFit c
spelled_fit c spelled = by spelled.0 spelled.1
  where
    by : (words : List (List ℕ)) → command_of words ≡ Some c → IsFit c
    by [] is = absurd (cc)
    by (command ∷ words) is =
        let from = made (command_with command) (arguments_of words) c is in
        any_command (bytes_eq command (codes "synth")) (is_some from.0.budget) command from.0 c
        (all_filled words from.0 from.1) from.2

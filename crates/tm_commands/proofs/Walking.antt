-- How `clap` walks over one word behind a command.
use Rattle.std.proofs.Common.{◌≡◌, ◌∙◌, ◌≤◌, ◌+◌, ◌==◌, ◌&&◌, ◌||◌, ℕ, Bool, cond, true, false, not, Option, None, Some}
use Rattle.std.proofs.Common.{List, [], ◌∷◌, ◌++◌, length, fold, refl, sym, ap, ap₂, subst, arith, codes, true≢false}
use Rattle.std.proofs.Common.{eqb-true, slice_get, option_map, le-ltb, lt-ltb, map, String, is_some}
use Rattle.std.specs.List.{before_first, list_all}
use Rattle.std.specs.Option.{option_and_then, option_map_or}
use Rattle.std.specs.Str.{IsUtf8, bytes_eq, chars}
use Rattle.std.proofs.lemmas.List.{append-nil}
use Rattle.clap.specs.Lexer.{long_of, long_of_rest, name_and_value, short_of, usize_max}
use Rattle.clap.specs.Kinds.{Kinds, or_else, range_kinds, values_kinds}
use Rattle.clap.specs.Facts.{parser_of_value}
use Rattle.clap.specs.Faults.{bundle_fault, bundle_step_fault, check_fault, defaults_fault, flag_word_fault}
use Rattle.clap.specs.Faults.{flags_fault, long_fault, settle_fault, step_fault, turn_fault}
use Rattle.clap.specs.Simple.{Shape, built, filled}
use Rattle.clap.specs.Values.{reading_of}
use Rattle.clap.specs.Walk.{Held, Row, Rule, Step, Waiting, Walk, after_step, finished, has_row, idle}
use Rattle.clap.specs.Walk.{long_or_other, option, plain_word, positional, settled}
use Rattle.clap.specs.Walk.{short_or_plain, trailing, walked, with_default, with_values, without}
use Rattle.clap.specs.declared.builder.value_parser.Reading.{Reading}
use Rattle.clap.specs.declared.builder.value_parser.ValueParser.TheVariants.{NonEmptyString, String as AnyString}
use Rattle.clap.specs.declared.error.kind.ErrorKind.{ErrorKind}
use Rattle.clap.specs.declared.error.kind.ErrorKind.TheVariants.{ArgumentConflict, InvalidValue}
use Rattle.clap.specs.declared.error.kind.ErrorKind.TheVariants.{TooFewValues, TooManyValues, UnknownArgument}
use Rattle.clap.specs.declared.parser.matches.ValueSource.TheVariants.{CommandLine}
use Rattle.tm_commands.specs.Words.{is_filled, is_option, part_behind}
use Rattle.tm_commands.specs.Inner.Splitting.{budget_rule, words_app}
use Rattle.tm_commands.proofs.Expected.{Pending, Text, budget_after, can_use}
use Rattle.tm_commands.proofs.Expected.{used_after}
use Rattle.tm_commands.proofs.Expected.{value, words}
use Rattle.tm_commands.proofs.Options.{flags_have_char, other_name}
use Rattle.tm_commands.proofs.Rows.{Keeps, keeps_budget, keeps_words}

abbrev pub level : Shape
level = (built words_app).top

abbrev pub budget_built : Rule
budget_built = filled budget_rule

abbrev pub words_reading : Reading
words_reading = reading_of (parser_of_value (Some NonEmptyString))

abbrev pub budget_reading : Reading
budget_reading = reading_of (parser_of_value (Some AnyString))

-- ---- where the walk stands
abbrev pub at : Bool → List Row → Option (Text × List Text) → Waiting → Walk
at behind rows pending waiting = record {
  held = record { rows = rows; pending = pending; skip = 0 };
  waiting = waiting;
  position = 1;
  is_trailing = behind;
  stopped = None;
}

-- something is pending
abbrev pub place : Bool → List Row → Pending → Walk
place behind rows (words []) = at behind rows None idle
place behind rows (words (v ∷ vs)) = at behind rows (Some (codes "words", v ∷ vs)) positional
place behind rows (value word) = at behind rows (Some (codes "budget", word ∷ [])) idle

-- the word before is `--budget`
abbrev pub opened : Bool → List Row → Walk
opened behind rows = at behind rows (Some (codes "budget", [])) (option (codes "budget"))

-- the rows after what is pending was used
abbrev pub rows_after : List Row → Pending → List Row
rows_after rows (words []) = rows
rows_after rows (words (v ∷ vs)) = with_values (codes "words") words_reading CommandLine (v ∷ vs) rows
rows_after rows (value word) =
    with_values (codes "budget") budget_reading CommandLine (word ∷ []) (without (codes "budget") rows)

abbrev pub reason : Pending → ErrorKind
reason (words ws) = InvalidValue
reason (value word) = ArgumentConflict

-- how many words are pending
abbrev pub pending_words : Pending → ℕ
pending_words (words ws) = length ws
pending_words (value word) = 0

pub keeps_after : (rows : List Row) (kept : List Text) (budget : Option Text) (p : Pending) → Keeps rows kept budget →
    can_use budget p ≡ true → Keeps (rows_after rows p) (used_after kept p) (budget_after budget p)
keeps_after rows kept budget (words []) keeps can =
    subst (λ (ws : List Text). Keeps rows ws budget) (sym (append-nil kept)) keeps
keeps_after rows kept budget (words (v ∷ vs)) keeps can = keeps_words words_reading (v ∷ vs) rows kept budget keeps
keeps_after rows kept None (value word) keeps can = keeps_budget budget_reading word rows kept keeps
keeps_after rows kept (Some found) (value word) keeps can = absurd (true≢false (sym can))

-- ---- faults of what is pending
empty_fault : (ws : List Text) →
    values_kinds false NonEmptyString ws ≡ cond (list_all is_filled ws) [] (InvalidValue ∷ [])
empty_fault [] = refl
empty_fault ([] ∷ ws) = refl
empty_fault ((b ∷ bs) ∷ ws) =
    ap (λ t. or_else (cond t [] (InvalidValue ∷ [])) (values_kinds false NonEmptyString ws))
    (lt-ltb 0 (length (b ∷ bs)) (omega arith))
    ∙ empty_fault ws

few_words : (n : ℕ) → n ≤ usize_max → range_kinds 0 usize_max n ≡ []
few_words n few =
    ap₂ (λ a b. cond a (TooFewValues ∷ []) (cond b (TooManyValues ∷ []) [])) (le-ltb n 0 (omega arith))
    (le-ltb usize_max n few)

conflict : (t : Bool) → or_else (cond (t && true) (ArgumentConflict ∷ []) []) []
    ≡ cond (not t) [] (ArgumentConflict ∷ [])
conflict true = refl
conflict false = refl

pub no_more : (kinds : Kinds) → or_else kinds [] ≡ kinds
no_more [] = refl
no_more (k ∷ ks) = refl

pub pending_fault : (behind : Bool) (rows : List Row) (kept : List Text) (budget : Option Text) (p : Pending) →
    Keeps rows kept budget → pending_words p ≤ usize_max →
    settle_fault level.rules false (place behind rows p).held ≡ cond (can_use budget p) [] (reason p ∷ [])
pending_fault behind rows kept budget (words []) keeps few = refl
pending_fault behind rows kept budget (words (v ∷ vs)) keeps few =
    ap₂ or_else (few_words (length (v ∷ vs)) few) (empty_fault (v ∷ vs))
pending_fault behind rows kept budget (value word) keeps few =
    ap (λ (t : Bool). or_else (cond (t && true) (ArgumentConflict ∷ []) []) []) keeps.has ∙ conflict (is_some budget)

pub settled_rows : (behind : Bool) (rows : List Row) (p : Pending) →
    (settled level.rules (place behind rows p).held).rows ≡ rows_after rows p
settled_rows behind rows (words []) = refl
settled_rows behind rows (words (v ∷ vs)) = refl
settled_rows behind rows (value word) = refl

-- ---- what comes after the words
same_of : {X : Type 0} (t : Bool) (x : X) → cond t x x ≡ x
same_of true x = refl
same_of false x = refl

abbrev pub fault_after : Held → Kinds
fault_after h =
    or_else (settle_fault level.rules false h)
    (or_else (defaults_fault (settled level.rules h).rows level.rules)
    (check_fault level (finished level.rules h) false))

no_defaults : (rows : List Row) → defaults_fault rows level.rules ≡ []
unfolding defaults_fault
no_defaults rows =
    ap₂ or_else (same_of (has_row (codes "words") rows || true) [])
    (ap₂ or_else
    (same_of (has_row (codes "budget") (cond (has_row (codes "words") rows) rows rows) || true) []) refl)

pub last_fault : (h : Held) → fault_after h ≡ settle_fault level.rules false h
last_fault h =
    ap (λ (kinds : Kinds). or_else (settle_fault level.rules false h) (or_else kinds []))
    (no_defaults (settled level.rules h).rows)
    ∙ no_more (settle_fault level.rules false h)

pub last_rows : (rows : List Row) → fold with_default rows level.rules ≡ rows
last_rows rows =
    ap (λ (rs : List Row). cond (has_row (codes "budget") rs) rs rs) (same_of (has_row (codes "words") rows) rows)
    ∙ same_of (has_row (codes "budget") rows) rows

-- ---- a positional word
-- where the walk stands behind it
abbrev pub behind_word : Bool → List Row → Pending → Text → Walk
behind_word behind rows (words ws) word = place behind rows (words (ws ++ word ∷ []))
behind_word behind rows (value found) word = place behind (rows_after rows (value found)) (words (word ∷ []))

abbrev pub word_fault : Bool → List Row → Pending → Kinds
word_fault behind rows (words ws) = []
word_fault behind rows (value found) = settle_fault level.rules false (place behind rows (value found)).held

-- ---- a word behind `--`
pub behind_step : (rows : List Row) (p : Pending) (word : Text) →
    walked level.rules [] (place true rows p) word ≡ behind_word true rows p word
unfolding walked
behind_step rows (words []) word = refl
behind_step rows (words (v ∷ vs)) word = refl
behind_step rows (value found) word = refl

pub behind_turn : (rows : List Row) (p : Pending) (word : Text) →
    turn_fault level [] (place true rows p) word ≡ word_fault true rows p
behind_turn rows (words []) word = refl
behind_turn rows (words (v ∷ vs)) word = refl
behind_turn rows (value found) word = refl

-- ---- the first `--`
pub dashes_step : (rows : List Row) (p : Pending) →
    walked level.rules [] (place false rows p) (codes "--") ≡ place true rows p
unfolding walked
dashes_step rows (words []) = refl
dashes_step rows (words (v ∷ vs)) = refl
dashes_step rows (value found) = refl

pub dashes_turn : (rows : List Row) (p : Pending) → turn_fault level [] (place false rows p) (codes "--") ≡ []
dashes_turn rows (words []) = refl
dashes_turn rows (words (v ∷ vs)) = refl
dashes_turn rows (value found) = refl

-- ---- a word that is no option
module _ (word : Text) (other : bytes_eq word (codes "--") ≡ false) (long : long_of word ≡ None)
    (short : short_of word ≡ None) where
  plain_met : (waiting : Waiting) (h : Held) →
      cond (bytes_eq word (codes "--")) (h, trailing 1) (long_or_other level.rules waiting word (long_of word) h)
      ≡ plain_word level.rules waiting word h
  plain_met waiting h =
      ap (λ is. cond is (h, trailing 1) (long_or_other level.rules waiting word (long_of word) h)) other
      ∙ ap (λ o. long_or_other level.rules waiting word o h) long
      ∙ ap (λ o. short_or_plain level.rules waiting word o h) short

  plain_fault : (h : Held) →
      cond (bytes_eq word (codes "--")) [] (flag_word_fault level.rules false (long_of word) word h) ≡ []
  plain_fault h =
      ap (λ is. cond is [] (flag_word_fault level.rules false (long_of word) word h)) other
      ∙ ap (λ o. flag_word_fault level.rules false o word h) long
      ∙ ap (λ o. option_map_or (λ flags. bundle_fault level.rules false flags h) o []) short

  pub plain_step : (rows : List Row) (p : Pending) →
      walked level.rules [] (place false rows p) word ≡ behind_word false rows p word
  unfolding walked
  plain_step rows (words []) =
      ap (λ (met : Held × Step). after_step level.rules word (place false rows (words [])) met.0 met.1)
      (plain_met idle (place false rows (words [])).held)
  plain_step rows (words (v ∷ vs)) =
      ap (λ (met : Held × Step). after_step level.rules word (place false rows (words (v ∷ vs))) met.0 met.1)
      (plain_met positional (place false rows (words (v ∷ vs))).held)
  plain_step rows (value found) =
      ap (λ (met : Held × Step). after_step level.rules word (place false rows (value found)) met.0 met.1)
      (plain_met idle (place false rows (value found)).held)

  pub plain_turn : (rows : List Row) (p : Pending) →
      turn_fault level [] (place false rows p) word ≡ word_fault false rows p
  plain_turn rows (words []) =
      ap₂ or_else (plain_fault (place false rows (words [])).held)
      (ap (λ (met : Held × Step). step_fault level 1 met.0 met.1)
      (plain_met idle (place false rows (words [])).held))
  plain_turn rows (words (v ∷ vs)) =
      ap₂ or_else (plain_fault (place false rows (words (v ∷ vs))).held)
      (ap (λ (met : Held × Step). step_fault level 1 met.0 met.1)
      (plain_met positional (place false rows (words (v ∷ vs))).held))
  plain_turn rows (value found) =
      ap₂ or_else (plain_fault (place false rows (value found)).held)
      (ap (λ (met : Held × Step). step_fault level 1 met.0 met.1)
      (plain_met idle (place false rows (value found)).held))

  -- it is the value that `--budget` waits for
  pub value_step : (rows : List Row) →
      walked level.rules [] (opened false rows) word ≡ place false rows (value word)
  unfolding walked
  value_step rows =
      ap (λ (met : Held × Step). after_step level.rules word (opened false rows) met.0 met.1)
      (plain_met (option (codes "budget")) (opened false rows).held)

  pub value_turn : (rows : List Row) → turn_fault level [] (opened false rows) word ≡ []
  value_turn rows =
      ap₂ or_else (plain_fault (opened false rows).held)
      (ap (λ (met : Held × Step). step_fault level 1 met.0 met.1)
      (plain_met (option (codes "budget")) (opened false rows).held))

-- ---- an option that is no budget
pub first_refuses : (a b : Kinds) → a ≡ UnknownArgument ∷ [] → or_else a b ≡ UnknownArgument ∷ []
first_refuses a b is = ap (λ k. or_else k b) is

flags_refused : (c x : ℕ) (bs : Text) (h : Held) → slice_get (chars (c ∷ bs)) 0 ≡ Some x →
    flags_fault level.rules false (length (c ∷ bs)) (c ∷ bs) 0 h ≡ UnknownArgument ∷ []
unfolding flags_fault
flags_refused c x bs h is =
    ap (λ o. bundle_step_fault level.rules false o (c ∷ bs) 0 h (flags_fault level.rules false (length bs))) is

-- the fault of a word that is a flag, if it has one
abbrev pub flag_fault : Text → Held → Kinds
flag_fault word h = cond (bytes_eq word (codes "--")) []
    (flag_word_fault level.rules false (long_of word) word h)

short_refused : (c : ℕ) (bs : Text) (h : Held) → (c == 45) ≡ false → IsUtf8 (45 ∷ c ∷ bs) → h.skip ≡ 0 →
    flag_fault (45 ∷ c ∷ bs) h ≡ UnknownArgument ∷ []
short_refused c bs h other utf8 skip =
    let char = flags_have_char c bs utf8 in
    let no_dashes : bytes_eq (45 ∷ c ∷ bs) (codes "--") ≡ false = ap (λ t. t && bytes_eq bs []) other in
    let none : long_of (45 ∷ c ∷ bs) ≡ None =
    ap (λ t. option_and_then long_of_rest (cond t (Some bs) None)) other in
    let flags : short_of (45 ∷ c ∷ bs) ≡ Some (c ∷ bs) = ap (λ t. cond t None (Some (c ∷ bs))) other in
    ap (λ t. cond t [] (flag_word_fault level.rules false (long_of (45 ∷ c ∷ bs)) (45 ∷ c ∷ bs) h)) no_dashes
    ∙ ap (λ o. flag_word_fault level.rules false o (45 ∷ c ∷ bs) h) none
    ∙ ap (λ o. option_map_or (λ fs. bundle_fault level.rules false fs h) o []) flags
    ∙ ap (λ n. flags_fault level.rules false (length (c ∷ bs)) (c ∷ bs) n (record h { skip = 0 })) skip
    ∙ flags_refused c char.0 bs (record h { skip = 0 }) char.1

long_refused : (b : ℕ) (bs : Text) (h : Held) →
    bytes_eq (codes "budget") (before_first (λ x. x == 61) (b ∷ bs)) ≡ false →
    flag_fault (45 ∷ 45 ∷ b ∷ bs) h ≡ UnknownArgument ∷ []
long_refused b bs h other =
    ap
    (λ t. long_fault level.rules false (cond (t || false) (Some budget_built) None) (name_and_value (b ∷ bs)).1 h)
    other

-- a word that begins with a hyphen and is longer than that
pub option_refused : (word : Text) (h : Held) → is_option word ≡ true → bytes_eq word (codes "--") ≡ false →
    bytes_eq word (codes "--budget") ≡ false → part_behind (codes "--budget=") word ≡ None → IsUtf8 word →
    h.skip ≡ 0 → flag_fault word h ≡ UnknownArgument ∷ []
option_refused [] h is dashes alone with utf8 skip = absurd (true≢false (sym is))
option_refused (b ∷ []) h is dashes alone with utf8 skip = absurd (true≢false (sym is))
option_refused (b ∷ c ∷ bs) h is dashes alone with utf8 skip =
    let hyphen : 45 ≡ b = sym (eqb-true b 45 is) in
    subst (λ (y : ℕ). flag_fault (y ∷ c ∷ bs) h ≡ UnknownArgument ∷ []) hyphen
    (go (c == 45) refl bs
    (subst (λ (y : ℕ). bytes_eq (y ∷ c ∷ bs) (codes "--") ≡ false) (sym hyphen) dashes)
    (subst (λ (y : ℕ). bytes_eq (y ∷ c ∷ bs) (codes "--budget") ≡ false) (sym hyphen) alone)
    (subst (λ (y : ℕ). part_behind (codes "--budget=") (y ∷ c ∷ bs) ≡ None) (sym hyphen) with)
    (subst (λ (y : ℕ). IsUtf8 (y ∷ c ∷ bs)) (sym hyphen) utf8))
  where
    go : (t : Bool) → (c == 45) ≡ t → (bs : Text) → bytes_eq (45 ∷ c ∷ bs) (codes "--") ≡ false →
        bytes_eq (45 ∷ c ∷ bs) (codes "--budget") ≡ false → part_behind (codes "--budget=") (45 ∷ c ∷ bs) ≡ None →
        IsUtf8 (45 ∷ c ∷ bs) → flag_fault (45 ∷ c ∷ bs) h ≡ UnknownArgument ∷ []
    go true same [] dashes alone with utf8 = absurd (true≢false (sym (ap (λ t. t && true) same) ∙ dashes))
    go true same (d ∷ ds) dashes alone with utf8 =
        let two : 45 ≡ c = sym (eqb-true c 45 same) in
        subst (λ (y : ℕ). flag_fault (45 ∷ y ∷ d ∷ ds) h ≡ UnknownArgument ∷ []) two
        (long_refused d ds h
        (other_name (d ∷ ds)
        (subst (λ (y : ℕ). bytes_eq (45 ∷ y ∷ d ∷ ds) (codes "--budget") ≡ false) (sym two) alone)
        (subst (λ (y : ℕ). part_behind (codes "--budget=") (45 ∷ y ∷ d ∷ ds) ≡ None) (sym two) with)))
    go false same bs dashes alone with utf8 = short_refused c bs h same utf8 skip

pub place_refuses : (rows : List Row) (p : Pending) (word : Text) →
    flag_fault word (place false rows p).held ≡ UnknownArgument ∷ [] →
    turn_fault level [] (place false rows p) word ≡ UnknownArgument ∷ []
place_refuses rows (words []) word is = first_refuses _ _ is
place_refuses rows (words (v ∷ vs)) word is = first_refuses _ _ is
place_refuses rows (value found) word is = first_refuses _ _ is

pub skips_none : (rows : List Row) (p : Pending) → (place false rows p).held.skip ≡ 0
skips_none rows (words []) = refl
skips_none rows (words (v ∷ vs)) = refl
skips_none rows (value found) = refl

-- ---- `--budget`, where something is pending
pub alone_step : (rows : List Row) (p : Pending) →
    walked level.rules [] (place false rows p) (codes "--budget") ≡ opened false (rows_after rows p)
unfolding walked
alone_step rows (words []) = refl
alone_step rows (words (v ∷ vs)) = refl
alone_step rows (value found) = refl

pub alone_turn : (rows : List Row) (p : Pending) →
    turn_fault level [] (place false rows p) (codes "--budget")
    ≡ or_else (settle_fault level.rules false (place false rows p).held) []
alone_turn rows (words []) = refl
alone_turn rows (words (v ∷ vs)) = refl
alone_turn rows (value found) = refl

pub with_step : (rows : List Row) (p : Pending) (number : Text) →
    walked level.rules [] (place false rows p) (codes "--budget=" ++ number)
    ≡ place false (rows_after (rows_after rows p) (value number)) (words [])
unfolding walked
with_step rows (words []) number = refl
with_step rows (words (v ∷ vs)) number = refl
with_step rows (value found) number = refl

pub with_turn : (rows : List Row) (p : Pending) (number : Text) →
    turn_fault level [] (place false rows p) (codes "--budget=" ++ number)
    ≡ or_else
    (or_else (settle_fault level.rules false (place false rows p).held)
    (settle_fault level.rules false (place false (rows_after rows p) (value number)).held)) []
with_turn rows (words []) number = refl
with_turn rows (words (v ∷ vs)) number = refl
with_turn rows (value found) number = refl

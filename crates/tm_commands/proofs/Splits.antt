-- How `clap` walks over the words behind a command.
use Rattle.std.proofs.Common.{◌≡◌, ◌∙◌, ◌≤◌, ◌+◌, ℕ, Bool, cond, true, false, Option, None, Some, List, [], ◌∷◌, ◌++◌}
use Rattle.std.proofs.Common.{suc, length, fold, refl, sym, ap, ap₂, subst, arith, codes, true≢false, option_map, map}
use Rattle.std.proofs.Common.{String, ⊎_elim, unwrap_or}
use Rattle.std.specs.Option.{option_and_then, option_map_or}
use Rattle.std.specs.Str.{IsUtf8, bytes_eq}
use Rattle.std.specs.String.{string_bytes}
use Rattle.std.proofs.lemmas.List.{length-append, length-map}
use Rattle.std.proofs.lemmas.Str.{IsUtf8-string_bytes}
use Rattle.std.proofs.lemmas.Slice.Eq.{bytes_eq-Decides}
use Rattle.clap.specs.Lexer.{usize_max}
use Rattle.clap.specs.Kinds.{HasKind, Kinds, or_else}
use Rattle.clap.specs.Faults.{fault_of, is_simple_and_free, settle_fault, turn_fault, walk_fault}
use Rattle.clap.specs.Matches.{found_of}
use Rattle.clap.specs.Simple.{App, HasMatchesOf, built, is_simple, matches_of}
use Rattle.clap.specs.Values.{kind_of}
use Rattle.clap.specs.Walk.{Held, Row, Walk, all_of, finished, first_of, nothing_held, rows_of, settled, walked}
use Rattle.clap.specs.declared.error.Error.{Error}
use Rattle.clap.specs.declared.error.kind.ErrorKind.{ErrorKind}
use Rattle.clap.specs.declared.error.kind.ErrorKind.TheVariants.{ArgumentConflict, InvalidValue, OutOfMemory}
use Rattle.clap.specs.declared.error.kind.ErrorKind.TheVariants.{UnknownArgument}
use Rattle.clap.specs.declared.parser.matches.ArgMatches.{ArgMatches}
use Rattle.clap.proofs.FaultLemmas.{leaf_fault}
use Rattle.clap.proofs.WalkLemmas.{first_value-rows, raw_values-rows}
use Rattle.tm_commands.specs.Words.{Arguments, Split, arguments_of, budget_before, is_option, part_behind, split_words}
use Rattle.tm_commands.specs.Words.{with_budget, with_word}
use Rattle.tm_commands.specs.Inner.Splitting.{arguments_found, budget_of, words_app, words_of}
use Rattle.tm_commands.proofs.Expected.{Pending, Text, budget_after, can_use, expected, expected_whole, expects_none}
use Rattle.tm_commands.proofs.Expected.{found_alone, from, use_pending, used_after, value, word_behind_value}
use Rattle.tm_commands.proofs.Expected.{word_behind_words, words}
use Rattle.tm_commands.proofs.Options.{no_long, no_number, no_short, part_is}
use Rattle.tm_commands.proofs.Rows.{Keeps, words_in}
use Rattle.tm_commands.proofs.Walking.{alone_step, alone_turn, behind_step, behind_turn, behind_word, dashes_step}
use Rattle.tm_commands.proofs.Walking.{dashes_turn, fault_after, first_refuses, flag_fault, keeps_after, last_fault}
use Rattle.tm_commands.proofs.Walking.{last_rows, level, no_more, opened, option_refused, pending_fault, pending_words}
use Rattle.tm_commands.proofs.Walking.{place, place_refuses, plain_step, plain_turn, reason, rows_after, settled_rows}
use Rattle.tm_commands.proofs.Walking.{skips_none, value_step, value_turn, with_step, with_turn, word_fault}

-- ---- where words lead
abbrev rest_of : Walk → List Text → Held
rest_of w ws = (fold (walked level.rules []) w ws).held

abbrev whole_fault : Walk → List Text → Kinds
whole_fault w ws = or_else (walk_fault level [] w ws) (fault_after (rest_of w ws))

abbrev found_in : Held → Option Arguments
found_in h = arguments_found (words_in (finished level.rules h)) (first_of (codes "budget") (finished level.rules h))

-- from here words lead to this: it is what is found, or there is a fault, and it is nothing
pub record Leads (w : Walk) (ws : List Text) (o : Option Arguments) : Type 0 where
  found : whole_fault w ws ≡ [] → found_in (rest_of w ws) ≡ o
  refused : (whole_fault w ws ≡ [] → ⊥) → o ≡ None

leads_as : (w : Walk) (ws : List Text) (o other : Option Arguments) → o ≡ other → Leads w ws o → Leads w ws other
leads_as w ws o other is leads = subst (λ (o : Option Arguments). Leads w ws o) is leads

module _ (w : Walk) (word : Text) (ws : List Text) where
  -- a word without a fault
  leads_on : (next : Walk) (o : Option Arguments) → turn_fault level [] w word ≡ [] →
      walked level.rules [] w word ≡ next → Leads next ws o → Leads w (word ∷ ws) o
  unfolding walk_fault
  leads_on next o turn step leads =
      let same : whole_fault w (word ∷ ws) ≡ whole_fault next ws =
      ap₂ or_else (ap₂ (λ a s. or_else a (walk_fault level [] s ws)) turn step)
      (ap (λ s. fault_after (rest_of s ws)) step) in
      record {
        found = λ none. ap (λ s. found_in (rest_of s ws)) step ∙ leads.found (sym same ∙ none);
        refused = λ some. leads.refused (λ none. some (same ∙ none));
      }

  -- a word with one
  leads_nowhere : (k : ErrorKind) → turn_fault level [] w word ≡ k ∷ [] → Leads w (word ∷ ws) None
  unfolding walk_fault
  leads_nowhere k turn =
      let same : whole_fault w (word ∷ ws)
      ≡ k ∷ [] =
      ap
      (λ a. or_else (or_else a (walk_fault level [] (walked level.rules [] w word) ws))
      (fault_after (rest_of (walked level.rules [] w word) ws))) turn in
      record {
        found = λ none. let both : k ∷ [] ≡ [] = sym same ∙ none in cc;
        refused = λ some. refl;
      }

  -- a word that has one or not
  leads_if : (t : Bool) (k : ErrorKind) (next : Walk) (o : Option Arguments) →
      turn_fault level [] w word ≡ cond t [] (k ∷ []) → walked level.rules [] w word ≡ next →
      (t ≡ true → Leads next ws o) → Leads w (word ∷ ws) (cond t o None)
  leads_if true k next o turn step leads = leads_on next o turn step (leads refl)
  leads_if false k next o turn step leads = leads_nowhere k turn

-- no word is left
module _ (behind : Bool) (rows : List Row) (kept : List Text) (budget : Option Text) (p : Pending)
    (keeps : Keeps rows kept budget) (few : pending_words p ≤ usize_max) where
  end_fault : whole_fault (place behind rows p) [] ≡ cond (can_use budget p) [] (reason p ∷ [])
  unfolding walk_fault
  end_fault =
      last_fault (place behind rows p).held ∙ pending_fault behind rows kept budget p keeps few

  end_found : Keeps (rows_after rows p) (used_after kept p) (budget_after budget p) →
      found_in (rest_of (place behind rows p) [])
      ≡ from (used_after kept p) (budget_after budget p) [] (Some (record { positional = []; budgets = [] }))
  end_found after =
      ap (λ (rs : List Row). arguments_found (words_in rs) (first_of (codes "budget") rs))
      (last_rows (settled level.rules (place behind rows p).held).rows ∙ settled_rows behind rows p)
      ∙ ap₂ arguments_found after.words after.found
      ∙ found_alone (used_after kept p) (budget_after budget p)

  end_leads : (t : Bool) → can_use budget p ≡ t →
      Leads (place behind rows p) []
      (cond t (from (used_after kept p) (budget_after budget p) [] (Some (record { positional = []; budgets = [] })))
      None)
  end_leads true can = record {
    found = λ none. end_found (keeps_after rows kept budget p keeps can);
    refused = λ some. absurd (some (end_fault ∙ ap (λ t. cond t [] (reason p ∷ [])) can));
  }
  end_leads false can = record {
    found = λ none.
        let both : reason p ∷ [] ≡ [] = sym (end_fault ∙ ap (λ t. cond t [] (reason p ∷ [])) can) ∙ none in cc;
    refused = λ some. refl;
  }

  leads_end : Leads (place behind rows p) [] (expected kept budget p (Some (record { positional = []; budgets = [] })))
  leads_end =
      leads_as (place behind rows p) [] _ _
      (use_pending kept budget p (Some (record { positional = []; budgets = [] })))
      (end_leads (can_use budget p) refl)

-- so from there on, if from behind it on
leads_word : (behind : Bool) (rows : List Row) (kept : List Text) (budget : Option Text) (p : Pending) (word : Text)
    (ws : List Text) (o : Option Split) → Keeps rows kept budget → pending_words p ≤ usize_max →
    turn_fault level [] (place behind rows p) word ≡ word_fault behind rows p →
    walked level.rules [] (place behind rows p) word ≡ behind_word behind rows p word →
    ((rs : List Row) (found : List Text) (b : Option Text) (vs : List Text) → Keeps rs found b →
    length vs ≤ suc (pending_words p) → Leads (place behind rs (words vs)) ws (expected found b (words vs) o)) →
    Leads (place behind rows p) (word ∷ ws)
    (expected kept budget p (option_map (with_word word) o))
leads_word behind rows kept budget (words vs) word ws o keeps few turn step rest =
    leads_on (place behind rows (words vs)) word ws (place behind rows (words (vs ++ word ∷ []))) _ turn step
    (leads_as (place behind rows (words (vs ++ word ∷ []))) ws _ _ (word_behind_words kept budget vs word o)
    (rest rows kept budget (vs ++ word ∷ []) keeps (omega (arith, length-append vs (word ∷ [])))))
leads_word behind rows kept budget (value found) word ws o keeps few turn step rest =
    leads_as (place behind rows (value found)) (word ∷ ws) _ _ (word_behind_value kept budget found word o)
    (leads_if (place behind rows (value found)) word ws (can_use budget (value found)) ArgumentConflict
    (place behind (rows_after rows (value found)) (words (word ∷ []))) _
    (turn ∙ pending_fault behind rows kept budget (value found) keeps few) step
    (λ can. rest (rows_after rows (value found)) (used_after kept (value found)) (budget_after budget (value found))
    (word ∷ []) (keeps_after rows kept budget (value found) keeps can) (omega arith)))

leads_behind : (ws : List Text) (rows : List Row) (kept : List Text) (budget : Option Text) (p : Pending) →
    Keeps rows kept budget → pending_words p + length ws ≤ usize_max →
    Leads (place true rows p) ws (expected kept budget p (Some (record { positional = ws; budgets = [] })))
leads_behind [] rows kept budget p keeps few = leads_end true rows kept budget p keeps (omega (arith, few))
leads_behind (word ∷ ws) rows kept budget p keeps few =
    leads_word true rows kept budget p word ws (Some (record { positional = ws; budgets = [] })) keeps
    (omega (arith, few)) (behind_turn rows p word) (behind_step rows p word)
    (λ rs found b vs keeps short. leads_behind ws rs found b (words vs) keeps (omega (arith, few, short)))

-- ---- `--budget`, where a budget is waited for
-- anything but a value is a fault
opened_ends : (behind : Bool) (rows : List Row) → Leads (opened behind rows) [] None
unfolding walk_fault
opened_ends behind rows = record {
  found = λ none. let both : InvalidValue ∷ [] ≡ [] = none in cc;
  refused = λ some. refl;
}

opened_behind : (rows : List Row) (ws : List Text) → Leads (opened true rows) ws None
opened_behind rows [] = opened_ends true rows
opened_behind rows (word ∷ ws) = leads_nowhere (opened true rows) word ws InvalidValue refl

opened_dashes : (rows : List Row) (ws : List Text) → Leads (opened false rows) (codes "--" ∷ ws) None
unfolding walked
opened_dashes rows ws =
    leads_on (opened false rows) (codes "--") ws (opened true rows) None refl refl (opened_behind rows ws)

opened_alone : (rows : List Row) (ws : List Text) → Leads (opened false rows) (codes "--budget" ∷ ws) None
opened_alone rows ws = leads_nowhere (opened false rows) (codes "--budget") ws InvalidValue refl

opened_with : (rows : List Row) (number : Text) (ws : List Text) →
    Leads (opened false rows) ((codes "--budget=" ++ number) ∷ ws) None
opened_with rows number ws = leads_nowhere (opened false rows) (codes "--budget=" ++ number) ws InvalidValue refl

opened_refuses : (rows : List Row) (word : Text) (ws : List Text) →
    flag_fault word (opened false rows).held ≡ UnknownArgument ∷ [] → Leads (opened false rows) (word ∷ ws) None
opened_refuses rows word ws is =
    leads_nowhere (opened false rows) word ws UnknownArgument (first_refuses _ _ is)

-- ---- all words
-- each word is text
abbrev AreText : List Text → Type 0
AreText [] = Unit {0}
AreText (word ∷ ws) = IsUtf8 word × AreText ws

-- where the walk stands before words, and what is expected of them
abbrev stand : Bool → List Row → Pending → Walk
stand true rows p = opened false rows
stand false rows p = place false rows p

abbrev wanted : Bool → List Text → Option Text → Pending → Option Split → Option Arguments
wanted true kept budget p o = from kept budget [] o
wanted false kept budget p o = expected kept budget p o

-- words lead there, from wherever the walk stands
abbrev Lead : List Text → Type 0
Lead ws = (waits : Bool) (rows : List Row) (kept : List Text) (budget : Option Text) (p : Pending) →
    Keeps rows kept budget → pending_words p + length ws ≤ usize_max →
    Leads (stand waits rows p) ws (wanted waits kept budget p (split_words waits ws))

module _ (word : Text) (utf8 : IsUtf8 word) (ws : List Text) (rest : Lead ws) (rows : List Row) (kept : List Text)
    (budget : Option Text) (keeps : Keeps rows kept budget) where
  module _ (p : Pending) (few : pending_words p + suc (length ws) ≤ usize_max) where
    by_alone : word ≡ codes "--budget" →
        Leads (place false rows p) (word ∷ ws) (expected kept budget p (split_words true ws))
    by_alone is =
        subst (λ (w : Text). Leads (place false rows p) (w ∷ ws) (expected kept budget p (split_words true ws)))
        (sym is)
        (leads_as (place false rows p) (codes "--budget" ∷ ws) _ _
        (use_pending kept budget p (split_words true ws))
        (leads_if (place false rows p) (codes "--budget") ws (can_use budget p) (reason p)
        (opened false (rows_after rows p)) _
        (alone_turn rows p ∙ no_more (settle_fault level.rules false (place false rows p).held)
        ∙ pending_fault false rows kept budget p keeps (omega (arith, few)))
        (alone_step rows p)
        (λ can. rest true (rows_after rows p) (used_after kept p) (budget_after budget p) (words [])
        (keeps_after rows kept budget p keeps can) (omega (arith, few)))))

    -- a number that is attached, where what is pending can be used or not
    with_number : (number : Text) (t : Bool) → can_use budget p ≡ t →
        Leads (place false rows p) ((codes "--budget=" ++ number) ∷ ws)
        (cond t
        (from (used_after kept p) (budget_after budget p) [] (budget_before number (split_words false ws))) None)
    with_number number false can =
        leads_nowhere (place false rows p) (codes "--budget=" ++ number) ws (reason p)
        (with_turn rows p number
        ∙ ap
        (λ (ks : Kinds). or_else
        (or_else ks (settle_fault level.rules false (place false (rows_after rows p) (value number)).held)) [])
        (pending_fault false rows kept budget p keeps (omega (arith, few))
        ∙ ap (λ t. cond t [] (reason p ∷ [])) can))
    with_number number true can =
        let after = keeps_after rows kept budget p keeps can in
        leads_as (place false rows p) ((codes "--budget=" ++ number) ∷ ws) _ _
        (use_pending (used_after kept p) (budget_after budget p) (value number) (split_words false ws))
        (leads_if (place false rows p) (codes "--budget=" ++ number) ws
        (can_use (budget_after budget p) (value number)) ArgumentConflict
        (place false (rows_after (rows_after rows p) (value number)) (words [])) _
        (with_turn rows p number
        ∙ ap
        (λ (ks : Kinds). or_else
        (or_else ks (settle_fault level.rules false (place false (rows_after rows p) (value number)).held)) [])
        (pending_fault false rows kept budget p keeps (omega (arith, few))
        ∙ ap (λ t. cond t [] (reason p ∷ [])) can)
        ∙ no_more (settle_fault level.rules false (place false (rows_after rows p) (value number)).held)
        ∙ pending_fault false (rows_after rows p) (used_after kept p) (budget_after budget p) (value number) after
        (omega arith))
        (with_step rows p number)
        (λ free. rest false (rows_after (rows_after rows p) (value number)) (used_after kept p) (Some number)
        (words [])
        (keeps_after (rows_after rows p) (used_after kept p) (budget_after budget p) (value number) after free)
        (omega (arith, few))))

    by_with : (number : Text) → word ≡ codes "--budget=" ++ number →
        Leads (place false rows p) (word ∷ ws)
        (expected kept budget p (budget_before number (split_words false ws)))
    by_with number is =
        subst
        (λ (w : Text). Leads (place false rows p) (w ∷ ws)
        (expected kept budget p (budget_before number (split_words false ws))))
        (sym is)
        (leads_as (place false rows p) ((codes "--budget=" ++ number) ∷ ws) _ _
        (use_pending kept budget p (budget_before number (split_words false ws)))
        (with_number number (can_use budget p) refl))

    place_next : Leads (place false rows p) (word ∷ ws) (expected kept budget p (split_words false (word ∷ ws)))
    place_next = go (bytes_eq word (codes "--")) refl (bytes_eq word (codes "--budget")) refl
        (part_behind (codes "--budget=") word) refl (is_option word) refl
      where
        go : (d : Bool) → bytes_eq word (codes "--") ≡ d → (a : Bool) → bytes_eq word (codes "--budget") ≡ a →
            (w : Option Text) → part_behind (codes "--budget=") word ≡ w → (o : Bool) → is_option word ≡ o →
            Leads (place false rows p) (word ∷ ws)
            (expected kept budget p
            (cond d (Some (record { positional = ws; budgets = [] }))
            (cond a (split_words true ws)
            (option_map_or (λ number. budget_before number (split_words false ws)) w
            (cond o None
            (option_map (with_word word) (split_words false ws)))))))
        go true dashes a alone w with o is =
            subst
            (λ (v : Text). Leads (place false rows p) (v ∷ ws)
            (expected kept budget p (Some (record { positional = ws; budgets = [] }))))
            (sym ((bytes_eq-Decides word (codes "--")).0 dashes))
            (leads_on (place false rows p) (codes "--") ws (place true rows p) _ (dashes_turn rows p)
            (dashes_step rows p) (leads_behind ws rows kept budget p keeps (omega (arith, few))))
        go false dashes true alone w with o is = by_alone ((bytes_eq-Decides word (codes "--budget")).0 alone)
        go false dashes false alone (Some number) with o is =
            by_with number (part_is (codes "--budget=") word number with)
        go false dashes false alone None with true is =
            leads_as (place false rows p) (word ∷ ws) None _ (sym (expects_none kept budget p))
            (leads_nowhere (place false rows p) word ws UnknownArgument
            (place_refuses rows p word
            (option_refused word (place false rows p).held is dashes alone with utf8 (skips_none rows p))))
        go false dashes false alone None with false is =
            leads_word false rows kept budget p word ws (split_words false ws) keeps (omega (arith, few))
            (plain_turn word dashes (no_long word is) (no_short word is) rows p)
            (plain_step word dashes (no_long word is) (no_short word is) rows p)
            (λ rs found b vs keeps short. rest false rs found b (words vs) keeps (omega (arith, few, short)))

  -- the word behind `--budget` is an option
  not_a_value : is_option word ≡ true → Leads (opened false rows) (word ∷ ws) None
  not_a_value is = go (bytes_eq word (codes "--")) refl (bytes_eq word (codes "--budget")) refl
      (part_behind (codes "--budget=") word) refl
    where
      go : (d : Bool) → bytes_eq word (codes "--") ≡ d → (a : Bool) → bytes_eq word (codes "--budget") ≡ a →
          (w : Option Text) → part_behind (codes "--budget=") word ≡ w → Leads (opened false rows) (word ∷ ws) None
      go true dashes a alone w with =
          subst (λ (v : Text). Leads (opened false rows) (v ∷ ws) None)
          (sym ((bytes_eq-Decides word (codes "--")).0 dashes)) (opened_dashes rows ws)
      go false dashes true alone w with =
          subst (λ (v : Text). Leads (opened false rows) (v ∷ ws) None)
          (sym ((bytes_eq-Decides word (codes "--budget")).0 alone)) (opened_alone rows ws)
      go false dashes false alone (Some number) with =
          subst (λ (v : Text). Leads (opened false rows) (v ∷ ws) None)
          (sym (part_is (codes "--budget=") word number with)) (opened_with rows number ws)
      go false dashes false alone None with =
          opened_refuses rows word ws
          (option_refused word (opened false rows).held is dashes alone with utf8 refl)

  no_dashes : is_option word ≡ false → bytes_eq word (codes "--") ≡ false
  no_dashes is = go (bytes_eq word (codes "--")) refl
    where
      go : (t : Bool) → bytes_eq word (codes "--") ≡ t → bytes_eq word (codes "--") ≡ false
      go true dashes = absurd (true≢false (ap is_option (sym ((bytes_eq-Decides word (codes "--")).0 dashes)) ∙ is))
      go false dashes = dashes

  opened_next : suc (length ws) ≤ usize_max →
      Leads (opened false rows) (word ∷ ws) (from kept budget [] (split_words true (word ∷ ws)))
  opened_next few = go (is_option word) refl
    where
      go : (o : Bool) → is_option word ≡ o →
          Leads (opened false rows) (word ∷ ws) (from kept budget [] (budget_before word (split_words false ws)))
      go true is =
          leads_as (opened false rows) (word ∷ ws) None _
          (sym (ap
          (λ (number : Option ℕ). from kept budget []
          (option_and_then (λ n. option_map (with_budget n) (split_words false ws)) number))
          (no_number word is)))
          (not_a_value is)
      go false is =
          leads_on (opened false rows) word ws (place false rows (value word)) _
          (value_turn word (no_dashes is) (no_long word is) (no_short word is) rows)
          (value_step word (no_dashes is) (no_long word is) (no_short word is) rows)
          (rest false rows kept budget (value word) keeps (omega (arith, few)))

lead : (ws : List Text) → AreText ws → Lead ws
lead [] texts true rows kept budget p keeps few = opened_ends false rows
lead [] texts false rows kept budget p keeps few =
    leads_end false rows kept budget p keeps (omega (arith, few))
lead (word ∷ ws) texts true rows kept budget p keeps few =
    opened_next word texts.0 ws (lead ws texts.1) rows kept budget keeps (omega (arith, few))
lead (word ∷ ws) texts false rows kept budget p keeps few =
    place_next word texts.0 ws (lead ws texts.1) rows kept budget keeps p few

-- the bytes of strings are text
strings_are_text : {Z : Type 0} (strings : List (String Z)) → AreText (map string_bytes strings)
strings_are_text [] = tt
strings_are_text (s ∷ strings) = (IsUtf8-string_bytes s, strings_are_text strings)

pub starts : {Z : Type 0} (strings : List (String Z)) → length strings ≤ usize_max →
    Leads (place false [] (words [])) (map string_bytes strings) (arguments_of (map string_bytes strings))
starts strings few =
    leads_as (place false [] (words [])) (map string_bytes strings) _ _ (expected_whole (map string_bytes strings))
    (lead (map string_bytes strings) (strings_are_text strings) false [] [] None (words [])
    (record { words = refl; found = refl; has = refl }) (omega (arith, few, length-map strings string_bytes)))

split_fault : (ws : List Text) → fault_of words_app ws ≡ whole_fault (place false [] (words [])) ws
split_fault ws = leaf_fault (built words_app) nothing_held ws refl

module _ (app : App) (ws : List Text) (is : app ≡ words_app)
    (leads : Leads (place false [] (words [])) ws (arguments_of ws)) where
  -- where `clap` splits the words, what it found stands behind the command
  pub split_whole : (m : ArgMatches) → (is_simple_and_free app ≡ true → fault_of app ws ≡ []) →
      HasMatchesOf app ws m → arguments_found (words_of m) (budget_of m) ≡ arguments_of ws
  split_whole m faultless matches =
      let none : fault_of words_app ws ≡ [] =
      ap (λ a. fault_of a ws) (sym is) ∙ faultless (ap is_simple_and_free is) in
      let rows : rows_of (found_of m) ≡ matches_of words_app ws =
      (matches (ap is_simple is)).0 ∙ ap (λ a. matches_of a ws) is in
      ap₂ arguments_found
      (ap (λ o. unwrap_or o []) (raw_values-rows (found_of m) (codes "words"))
      ∙ ap (λ r. unwrap_or (all_of (codes "words") r) []) rows)
      (first_value-rows (found_of m) (codes "budget") ∙ ap (first_of (codes "budget")) rows)
      ∙ leads.found (sym (split_fault ws) ∙ none)

  -- where it refuses them for another cause than memory, one of them has no reading
  pub split_refused : (error : Error) → (is_simple_and_free app ≡ true → HasKind (fault_of app ws) error) →
      (kind_of error ≡ OutOfMemory → ⊥) → None ≡ arguments_of ws
  split_refused error kinds other =
      let kind : HasKind (fault_of words_app ws) error =
      subst (λ a. HasKind (fault_of a ws) error) is (kinds (ap is_simple_and_free is)) in
      sym (leads.refused (λ none.
      let memory = subst (λ ks. HasKind ks error) (split_fault ws ∙ none) kind in
      ⊎_elim other (λ nothing. nothing) memory))

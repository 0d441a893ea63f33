-- A game whose ids mean in a new store what they meant in the old one.
use Rattle.std.proofs.Common.{◌≡◌, ℕ, ◌+◌, ◌<◌, true, List, [], ◌∷◌, ◌++◌, Result, Ok, Err, Vec, inl, inr, length, get_or, refl, sym, ap, ◌∙◌, subst, arith}
use Rattle.std.specs.Prelude.{All, Contains, OnErr}
use Rattle.std.specs.declared.alloc.Global.{Global}
use Rattle.std.specs.Vec.{with_items}
use Rattle.std.proofs.lemmas.List.{with_items_is}
use Rattle.std.proofs.lemmas.List.Elements.{All-append, All-cons, All-contains, Contains-append_cases}
use Rattle.tm_blast.specs.Bits.{AreLevels}
use Rattle.tm_blast.specs.Memory.{AreMade, Made}
use Rattle.tm_blast.proofs.CallerLaws.{none_made}
use Rattle.tm_dd.specs.declared.node.NodeId.{NodeId}
use Rattle.tm_dd.specs.Table.{Table, Knows, means}
use Rattle.tm_dd.proofs.CallerLaws.{rank_of-same}
use Rattle.tm_ddops.specs.Copied.{MeanTheSame}
use Rattle.tm_ddops.specs.Manager.{Diagrams, IsFunction}
use Rattle.tm_flat.specs.Flat.{FlatTerms, flat_terms}
use Rattle.tm_game_bits.specs.declared.game.GameDiagrams.{GameDiagrams}
use Rattle.tm_game_bits.specs.declared.recent.Recent.{Recent}
use Rattle.tm_game_bits.specs.Diagrams.{IsSetOf, KnowsGame, game_of}
use Rattle.tm_game_bits.specs.Functions.{Assignment, Function, GameFunctions}
use Rattle.tm_game_bits.specs.Recent.{AreAnswers}
use Rattle.tm_game.specs.Copied.{IsCopied}
use Rattle.tm_game.specs.declared.game.Game.TheInside.{Inside}
use Rattle.tm_game.specs.declared.opening.Kept.{Kept}
use Rattle.tm_game.specs.Game.{IsOf}
use Rattle.tm_game.specs.Inner.Listed.{game_ids, kept_ids}
use Rattle.tm_game.specs.Inner.Restored.{SameGame, SameKept, StandAt}
use Rattle.tm_game.specs.Kept.{AreKept}
use Rattle.tm_game.specs.Layout.{IsGame, game_data}
use Rattle.tm_game.proofs.Restoring.{game_known, stands_left, stands_right, stands_whole}
use Rattle.tm_game_steps.specs.Sets.{AreSets, IsAlwaysOneIn, IsOneIn}
use Rattle.tm_game_steps.specs.Setting.{Setting, setting_of}
use Rattle.tm_game_steps.specs.Telling.{TellsGame}
use Rattle.tm_syntax.specs.Design.{DesignTree}
use Rattle.tm_term.specs.declared.term.TermId.{TermId}

-- ---- what is copied is known
module _ (s : Table) (x : Setting) (f : FlatTerms) where
  sets_known : (IsSuch : TermId → Assignment → Type 0) (ids : List TermId) (nodes : List NodeId) →
      AreSets s IsSuch ids nodes → All (Knows s) nodes
  sets_known IsSuch ids nodes are i e below = known ids (omega (arith, are.long)) (are.each i)
    where
      known : (ts : List TermId) → i < length ts → ((d : TermId) (g : NodeId) → i < length ts →
          IsSetOf s (IsSuch (get_or ts i d)) (get_or nodes i g)) → Knows s (get_or nodes i e)
      known [] inside each = absurd (omega arith)
      known (t ∷ ts) inside each = (each t e inside).known

  pub kept_known : (valid picked : NodeId) (kept : Kept) →
      AreKept x f s valid picked kept.goals.items kept.fairs.items kept.initial kept.turn → (id : NodeId) →
      Contains (kept_ids kept) id → Knows s id
  kept_known valid picked kept are id c =
      All-contains (Knows s) (kept_ids kept) id
      (All-cons (Knows s) kept.initial (kept.turn ∷ (kept.goals.items ++ kept.fairs.items)) are.initial_is.known
      (All-cons (Knows s) kept.turn (kept.goals.items ++ kept.fairs.items) are.turn_is.known
      (All-append (Knows s) kept.goals.items kept.fairs.items
      (sets_known (IsOneIn x (means s valid)) f.goals kept.goals.items are.goals_are)
      (sets_known (IsAlwaysOneIn x (means s valid)) f.fairs kept.fairs.items are.fairs_are)))) c

-- all that is gathered is known
pub gathered_known : (s : Table) (roots : List NodeId) (g : GameDiagrams) (kept : Kept) →
    ((id : NodeId) → Contains roots id → Knows s id) → KnowsGame s g →
    ((id : NodeId) → Contains (kept_ids kept) id → Knows s id) → (id : NodeId) →
    Contains (roots ++ (game_ids g ++ kept_ids kept)) id → Knows s id
gathered_known s roots g kept own game others id c =
    elim (Contains-append_cases roots (game_ids g ++ kept_ids kept) id c) as (λ _. Knows s id) [
      | inl first ↦ own id first
      | inr behind ↦
          elim (Contains-append_cases (game_ids g) (kept_ids kept) id behind) as (λ _. Knows s id) [
            | inl second ↦ All-contains (Knows s) (game_ids g) id (game_known s g game) second
            | inr third ↦ others id third
          ]
    ]

-- ids that were lent as a slice mean, when they are back in their vector, what the older ones meant
pub same_back : (s t : Table) (olds lent : List NodeId) (ids : Vec NodeId Global) (news back : List NodeId) →
    lent ≡ ids.items → ids.items ≡ olds → back ≡ (with_items ids news).items → MeanTheSame s lent t news →
    MeanTheSame s olds t back
same_back s t olds lent ids news back lent_is ids_are back_is same =
    let count : length news ≡ ids.len = omega (arith, same.as_many, ap length lent_is, ids.ok.0) in
    subst (MeanTheSame s olds t) (sym (back_is ∙ with_items_is ids news count))
    (subst (λ (xs : List NodeId). MeanTheSame s xs t news) (lent_is ∙ ids_are) same)

-- where the parts of what is gathered stand
module _ (roots game kept : List NodeId) where
  abbrev pub all_ids : List NodeId
  all_ids = roots ++ (game ++ kept)

  pub roots_stand : StandAt all_ids 0 roots
  roots_stand = stands_left all_ids 0 roots (game ++ kept) (stands_whole all_ids)

  behind_roots : StandAt all_ids (0 + length roots) (game ++ kept)
  behind_roots = stands_right all_ids 0 roots (game ++ kept) (stands_whole all_ids)

  pub game_stands : (own : ℕ) → own ≡ 0 + length roots → StandAt all_ids own game
  game_stands own is =
      subst (λ (n : ℕ). StandAt all_ids n game) (sym is)
      (stands_left all_ids (0 + length roots) game kept behind_roots)

  pub kept_stands : (own behind : ℕ) → own ≡ 0 + length roots → behind ≡ own + length game →
      StandAt all_ids behind kept
  kept_stands own behind is more =
      subst (λ (n : ℕ). StandAt all_ids n kept) (sym (more ∙ ap (λ n. n + length game) is))
      (stands_right all_ids (0 + length roots) game kept behind_roots)

-- ---- sets
module _ (s t : Table) where
  set_copied : (P : Assignment → Type 0) (old new : NodeId) → IsFunction t new (means s old) → IsSetOf s P old →
      IsSetOf t P new
  set_copied P old new is set = record {
    known = is.known;
    only = λ v h. set.only v (sym (is.meaning v) ∙ h);
    all = λ v h. is.meaning v ∙ set.all v h;
  }

  sets_copied : (IsSuch : TermId → Assignment → Type 0) (ids : List TermId) (old new : List NodeId) →
      MeanTheSame s old t new → AreSets s IsSuch ids old → AreSets t IsSuch ids new
  sets_copied IsSuch ids old new same are = record {
    long = same.as_many ∙ are.long;
    each = λ i d e below.
        set_copied (IsSuch (get_or ids i d)) (get_or old i e) (get_or new i e)
        (same.functions i e (omega (arith, are.long))) (are.each i d e below);
  }

  -- the ids that a game keeps are its sets still
  kept_copied : (x : Setting) (f : FlatTerms) (valid picked new_valid new_picked : NodeId) (old new : Kept) →
      means t new_valid ≡ means s valid → means t new_picked ≡ means s picked → SameKept s old t new →
      AreKept x f s valid picked old.goals.items old.fairs.items old.initial old.turn →
      AreKept x f t new_valid new_picked new.goals.items new.fairs.items new.initial new.turn
  kept_copied x f valid picked new_valid new_picked old new one two same are = record {
    goals_are = subst (λ (v : Function). AreSets t (IsOneIn x v) f.goals new.goals.items) (sym one)
        (sets_copied (IsOneIn x (means s valid)) f.goals old.goals.items new.goals.items same.goals are.goals_are);
    fairs_are = subst (λ (v : Function). AreSets t (IsAlwaysOneIn x v) f.fairs new.fairs.items) (sym one)
        (sets_copied (IsAlwaysOneIn x (means s valid)) f.fairs old.fairs.items new.fairs.items same.fairs
        are.fairs_are);
    initial_is = subst (λ (v : Function). IsSetOf t (IsOneIn x v f.initial) new.initial) (sym one)
        (set_copied (IsOneIn x (means s valid) f.initial) old.initial new.initial same.initial are.initial_is);
    turn_is = subst (λ (v : Function). IsSetOf t (λ w. (v w ≡ true) × (means t new_picked w ≡ true)) new.turn) (sym one)
        (subst (λ (v : Function). IsSetOf t (λ w. (means s valid w ≡ true) × (v w ≡ true)) new.turn) (sym two)
        (set_copied (λ w. (means s valid w ≡ true) × (means s picked w ≡ true)) old.turn new.turn same.turn
        are.turn_is));
  }

-- ---- a game
module _ (a : Inside) (is : IsGame a) (dd : Diagrams) (steps : GameDiagrams) (kept : Kept) (recent : Recent)
    (levels : dd.table.levels ≡ a.dd.table.levels) (ranks : dd.table.ranks ≡ a.dd.table.ranks)
    (game : SameGame a.dd.table a.made.steps dd.table steps)
    (same : SameKept a.dd.table a.kept dd.table kept) (bits : Made) (none : bits ≡ []) where
  -- what it is afterwards
  abbrev pub after : Inside
  after = record a { dd = dd; made = record a.made { steps = steps }; kept = kept; recent = recent; bits = bits }

  pub game_copied : AreAnswers dd.table (game_of dd.table steps) recent → IsGame after
  game_copied answers = record {
    shape = is.shape;
    terms = is.terms;
    levels = omega (arith, is.levels, levels);
    rises = λ j k above below.
        omega (
          arith,
          rank_of-same a.dd.table dd.table levels ranks j,
          rank_of-same a.dd.table dd.table levels ranks k,
          is.rises j k above below,
        );
    ready = record {
      levels = subst (λ (n : ℕ). AreLevels (setting_of a.encoding).terms n (setting_of a.encoding).levels) (sym levels)
          is.ready.levels;
      apart = is.ready.apart;
      few = is.ready.few;
      words = is.ready.words;
      within = is.ready.within;
      bits = subst (AreMade (setting_of a.encoding).terms (setting_of a.encoding).levels dd.table) (sym none)
          (none_made (setting_of a.encoding).terms (setting_of a.encoding).levels dd.table);
    };
    steps = record {
      known = game.known;
      tells = subst (λ (fs : GameFunctions).
          TellsGame (setting_of a.encoding) (flat_terms a.flat) fs a.made.movers.items) (sym game.functions)
          is.steps.tells;
    };
    answers = answers;
    kept = kept_copied a.dd.table dd.table (setting_of a.encoding) (flat_terms a.flat) a.made.steps.valid
        a.made.steps.turn steps.valid steps.turn a.kept kept (ap (λ (g : GameFunctions). g.valid) game.functions)
        (ap (λ (g : GameFunctions). g.turn) game.functions) same is.kept;
  }

  pub copied_so : IsCopied (game_data a) (game_data after)
  copied_so = record {
    flat = refl;
    terms = refl;
    order = refl;
    levels = levels;
    goals = same.goals;
    fairs = same.fairs;
    initial = same.initial;
    valid = record {
      known = game.known.valid;
      meaning = λ v i. (game.functions i).valid v;
    };
    turn = same.turn;
  }

  pub copied_of : (d : DesignTree) → IsOf d (game_data a) → IsOf d (game_data after)
  copied_of d of = record { flat = of.flat; room = of.room; small = of.small; design = of.design }

-- where nothing changed
pub unchanged : (a : Inside) (dd : Diagrams) (steps : GameDiagrams) (kept : Kept) → dd ≡ a.dd → steps ≡ a.made.steps →
    kept ≡ a.kept → record a { dd = dd; made = record a.made { steps = steps }; kept = kept } ≡ a
unchanged a dd steps kept same_dd same_steps same_kept =
    λ i. record a { dd = same_dd i; made = record a.made { steps = same_steps i }; kept = same_kept i }

-- what holds in any case holds on an error
pub on_error : {A E : Type 0} (r : Result A E) (P : Type 0) → P → OnErr r P
on_error (Ok a) P p = tt
on_error (Err e) P p = p

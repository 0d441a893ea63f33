-- Pieces of the text, one behind the other and one beside the other.
use Rattle.std.proofs.Common.{◌≡◌, ℕ, Bool, true, false, Option, None, Some, List, ◌||◌, refl, sym, ap, ◌∙◌, subst, arith, true≢false}
use Rattle.std.specs.Prelude.{nat_eq, if◌then◌else◌}
use Rattle.std.specs.Option.{option_map_or}
use Rattle.std.proofs.lemmas.Bool.Decides.{nat_tests}
use Rattle.tm_base.specs.declared.place.Place.{Place}
use Rattle.tm_scope.specs.Cells.{CellTables}
use Rattle.tm_term.specs.Table.{Table}
use Rattle.tm_term.specs.Value.{Extends}
use Rattle.tm_term.proofs.Valued.{Extends-trans}
use Rattle.tm_sem.specs.Value.{Memory}
use Rattle.tm_sem.specs.Run.{Ending, stopped, finished, failed, blocked}
use Rattle.tm_flat.specs.BitRun.{followed_by}
use Rattle.tm_flat_stmts.specs.Flows.{FlowTerms, EndTerms, is_on, FlowKeeps, stop_of, has_finished, has_stopped, HaveNotEnded, TellsEnd, TellsSame, Joins, Leads, Continues}

-- what does not fall through is not gone on with
pub cut_off : (e : Ending) (next : Memory → Ending) → has_finished e ≡ false → followed_by e next ≡ e
cut_off (finished m) next is = absurd (true≢false is)
cut_off (stopped at trail m) next is = refl
cut_off failed next is = refl
cut_off blocked next is = refl

pub or_false : (b : Bool) → (b || false) ≡ b
or_false true = refl
or_false false = refl

module _ (x : CellTables) (u : Table) (v : List ℕ) (number : Place → List Place → Option ℕ) where
  pub same_then : (a b c : EndTerms) → TellsSame x u v a b → TellsSame x u v b c → TellsSame x u v a c
  same_then a b c one two = record {
    stops = λ n. two.stops n ∙ one.stops n;
    memory = λ n m on keeps. two.memory n m (one.stops n ∙ on) (one.memory n m on keeps);
    fails = two.fails ∙ one.fails;
  }

  itself : (n : ℕ) → nat_eq n n ≡ true
  itself n = grind (arith, nat_tests)

  -- a run stands where it stopped
  stands_there : (e : Ending) (a : EndTerms) → TellsEnd x u v number e a → (n : ℕ) (at : Place) (trail : List Place)
      (m : Memory) → e ≡ stopped at trail m → number at trail ≡ Some n → is_on u v (stop_of a n) ≡ true
  stands_there e a tells n at trail m is at_n =
      tells.stops n ∙ ap (has_stopped number n) is ∙ ap (λ o. option_map_or (nat_eq n) o false) at_n ∙ itself n

  -- ends that tell the same as others tell how a run has ended
  pub end_then : (e : Ending) (a b : EndTerms) → TellsEnd x u v number e a → TellsSame x u v a b →
      TellsEnd x u v number e b
  end_then e a b tells same = record {
    stops = λ n. same.stops n ∙ tells.stops n;
    memory = λ n at trail m is at_n.
        same.memory n m (stands_there e a tells n at trail m is at_n) (tells.memory n at trail m is at_n);
    fails = same.fails ∙ tells.fails;
  }

  -- where a run has finished or is blocked none has ended
  not_ended : (n : Memory) (a : EndTerms) → TellsEnd x u v number (finished n) a → HaveNotEnded u v a
  not_ended n a tells = record { stops = tells.stops; fails = tells.fails }

  not_ended_here : (a : EndTerms) → TellsEnd x u v number blocked a → HaveNotEnded u v a
  not_ended_here a tells = record { stops = tells.stops; fails = tells.fails }

  module _ (first next : Memory → Ending) (f mid g : Option FlowTerms) (before between after : EndTerms)
      (one : Leads x u v number first f before mid between) (two : Leads x u v number next mid between g after) where
    -- what the second piece makes of how the first one ended
    record Goes (e : Ending) : Type 0 where
      on : is_on u v g ≡ has_finished (followed_by e next)
      memory : (n : Memory) → followed_by e next ≡ finished n → FlowKeeps x u v g n
      ends : HaveNotEnded u v before → TellsEnd x u v number (followed_by e next) after

    -- where the first does not fall through, the second one does nothing
    short : (e : Ending) → is_on u v mid ≡ false → (HaveNotEnded u v before → TellsEnd x u v number e between) →
        followed_by e next ≡ e → has_finished e ≡ false → Goes e
    short e off tells same none = record {
      on = two.stays off ∙ sym none ∙ ap has_finished (sym same);
      memory = λ n is. absurd (true≢false (ap has_finished (sym is ∙ same) ∙ none));
      ends = λ quiet.
          subst (λ a. TellsEnd x u v number a after) (sym same)
          (end_then e between after (tells quiet) (two.same off));
    }

    goes_on : (m : Memory) → is_on u v f ≡ true → FlowKeeps x u v f m → Goes (first m)
    goes_on m on keeps = by (first m) refl (one.goes m on keeps) (one.ends m on keeps)
      where
        by : (e : Ending) → first m ≡ e → is_on u v mid ≡ has_finished (first m) →
            (HaveNotEnded u v before → TellsEnd x u v number (first m) between) → Goes (first m)
        by (finished n) is stands tells =
            let there : is_on u v mid ≡ true = stands ∙ ap has_finished is in
            let kept = one.memory m n on keeps is in
            subst Goes (sym is) (record {
              on = two.goes n there kept;
              memory = λ o ends. two.memory n o there kept ends;
              ends = λ quiet.
                  two.ends n there kept
                  (not_ended n between (subst (λ e. TellsEnd x u v number e between) is (tells quiet)));
            })
        by (stopped at trail n) is stands tells =
            subst Goes (sym is)
            (short (stopped at trail n) (stands ∙ ap has_finished is)
            (λ quiet. subst (λ e. TellsEnd x u v number e between) is (tells quiet)) refl refl)
        by failed is stands tells =
            subst Goes (sym is)
            (short failed (stands ∙ ap has_finished is)
            (λ quiet. subst (λ e. TellsEnd x u v number e between) is (tells quiet)) refl refl)
        by blocked is stands tells =
            subst Goes (sym is)
            (short blocked (stands ∙ ap has_finished is)
            (λ quiet. subst (λ e. TellsEnd x u v number e between) is (tells quiet)) refl refl)

    -- two pieces, one behind the other, lead on as one
    pub leads_then : Leads x u v number (λ m. followed_by (first m) next) f before g after
    leads_then = record {
      goes = λ m on keeps. (goes_on m on keeps).on;
      memory = λ m n on keeps is. (goes_on m on keeps).memory n is;
      ends = λ m on keeps. (goes_on m on keeps).ends;
      stays = λ off. two.stays (one.stays off);
      same = λ off. same_then before between after (one.same off) (two.same (one.stays off));
    }

  -- what never falls through leads where it leads, whatever stands behind it
  pub leads_nowhere : (piece next : Memory → Ending) (f : Option FlowTerms) (before after : EndTerms) →
      Leads x u v number piece f before None after →
      Leads x u v number (λ m. followed_by (piece m) next) f before None after
  leads_nowhere piece next f before after one = record {
    goes = λ m on keeps. one.goes m on keeps ∙ ap has_finished (same m on keeps);
    memory = λ m n on keeps is. one.memory m n on keeps (same m on keeps ∙ is);
    ends = λ m on keeps quiet.
        subst (λ e. TellsEnd x u v number e after) (same m on keeps) (one.ends m on keeps quiet);
    stays = one.stays;
    same = one.same;
  }
    where
      same : (m : Memory) → is_on u v f ≡ true → FlowKeeps x u v f m → piece m ≡ followed_by (piece m) next
      same m on keeps = sym (cut_off (piece m) next (sym (one.goes m on keeps)))

  -- what is so of one piece is so of each that is the same
  pub leads_so : (piece other : Memory → Ending) (f g : Option FlowTerms) (before after : EndTerms) →
      ((m : Memory) → piece m ≡ other m) → Leads x u v number piece f before g after →
      Leads x u v number other f before g after
  leads_so piece other f g before after same one = record {
    goes = λ m on keeps. one.goes m on keeps ∙ ap has_finished (same m);
    memory = λ m n on keeps is. one.memory m n on keeps (same m ∙ is);
    ends = λ m on keeps quiet. subst (λ e. TellsEnd x u v number e after) (same m) (one.ends m on keeps quiet);
    stays = one.stays;
    same = one.same;
  }

  module _ (piece chosen : Memory → Ending) (test : Memory → Bool) (f fs g h gh : Option FlowTerms)
      (before mid after : EndTerms) (one : Leads x u v number piece f before g mid)
      (narrow : Leads x u v number (λ m. if test m then finished m else blocked) f mid fs mid)
      (other : Leads x u v number chosen fs mid h after) (joins : Joins x u v g h gh)
      (apart : (m : Memory) → test m ≡ true → piece m ≡ blocked) where
    record Beside (m : Memory) (e : Ending) : Type 0 where
      on : is_on u v gh ≡ has_finished e
      memory : (n : Memory) → e ≡ finished n → FlowKeeps x u v gh n
      ends : HaveNotEnded u v before → TellsEnd x u v number e after

    -- where it is chosen, the first piece is blocked
    where_chosen : (m : Memory) → is_on u v f ≡ true → FlowKeeps x u v f m → test m ≡ true → Beside m (chosen m)
    where_chosen m on keeps is =
        let goes : (if test m then finished m else blocked) ≡ finished m =
        ap (λ t. if t then finished m else blocked) is in
        let stands : is_on u v fs ≡ true = narrow.goes m on keeps ∙ ap has_finished goes in
        let kept : FlowKeeps x u v fs m = narrow.memory m m on keeps goes in
        let off : is_on u v g ≡ false = one.goes m on keeps ∙ ap has_finished (apart m is) in
        record {
          on = joins.on ∙ ap (λ b. b || is_on u v h) off ∙ other.goes m stands kept;
          memory = λ n ends.
              joins.second n off (other.goes m stands kept ∙ ap has_finished ends)
              (other.memory m n stands kept ends);
          ends = λ quiet.
              other.ends m stands kept
              (not_ended_here mid
              (subst (λ e. TellsEnd x u v number e mid) (apart m is) (one.ends m on keeps quiet)));
        }

    where_not : (m : Memory) → is_on u v f ≡ true → FlowKeeps x u v f m → test m ≡ false → Beside m (piece m)
    where_not m on keeps is =
        let stands : is_on u v fs ≡ false =
        narrow.goes m on keeps ∙ ap (λ t. has_finished (if t then finished m else blocked)) is in
        let off : is_on u v h ≡ false = other.stays stands in
        record {
          on = joins.on ∙ ap (λ b. is_on u v g || b) off ∙ or_false (is_on u v g) ∙ one.goes m on keeps;
          memory = λ n ends.
              joins.first n (one.goes m on keeps ∙ ap has_finished ends) (one.memory m n on keeps ends);
          ends = λ quiet. end_then (piece m) mid after (one.ends m on keeps quiet) (other.same stands);
        }

    both : (m : Memory) → is_on u v f ≡ true → FlowKeeps x u v f m →
        Beside m (if test m then chosen m else piece m)
    both m on keeps = by (test m) refl
      where
        by : (b : Bool) → test m ≡ b → Beside m (if test m then chosen m else piece m)
        by true is = subst (λ t. Beside m (if t then chosen m else piece m)) (sym is) (where_chosen m on keeps is)
        by false is = subst (λ t. Beside m (if t then chosen m else piece m)) (sym is) (where_not m on keeps is)

    -- a piece that is taken where a test holds, beside one that is blocked there
    pub leads_beside : Leads x u v number (λ m. if test m then chosen m else piece m) f before gh after
    leads_beside = record {
      goes = λ m on keeps. (both m on keeps).on;
      memory = λ m n on keeps is. (both m on keeps).memory n is;
      ends = λ m on keeps. (both m on keeps).ends;
      stays = λ off.
          joins.on
          ∙ ap (λ b. b || is_on u v h) (one.stays off)
          ∙ other.stays (narrow.stays off);
      same = λ off. same_then before mid after (one.same off) (other.same (narrow.stays off));
    }

-- so do what is made of them
pub continues_then : (x : CellTables) (number : Place → List Place → Option ℕ) (first next : List ℕ → Memory → Ending)
    (stands to : Option ℕ) (t p n : Table) (f mid g : Option FlowTerms) (before between after : EndTerms) →
    Continues x number first stands t p f before mid between → Continues x number next to p n mid between g after →
    Continues x number (λ v m. followed_by (first v m) (next v)) to t n f before g after
continues_then x number first next stands to t p n f mid g before between after one two = record {
  grown = Extends-trans t p n one.grown two.grown;
  sound = two.sound;
  flow = two.flow;
  ends = two.ends;
  count = two.count ∙ one.count;
  position = two.position;
  leads = λ u more v are.
      leads_then x u v number (first v) (next v) f mid g before between after
      (one.leads u (Extends-trans p n u two.grown more) v are) (two.leads u more v are);
}

-- behind what never falls through nothing is reached
pub continues_nowhere : (x : CellTables) (number : Place → List Place → Option ℕ) (piece next : List ℕ → Memory →
    Ending)
    (stands : Option ℕ) (t n : Table) (f : Option FlowTerms) (before after : EndTerms) →
    Continues x number piece stands t n f before None after →
    Continues x number (λ v m. followed_by (piece v m) (next v)) None t n f before None after
continues_nowhere x number piece next stands t n f before after one = record {
  grown = one.grown;
  sound = one.sound;
  flow = one.flow;
  ends = one.ends;
  count = one.count;
  position = refl;
  leads = λ u more v are. leads_nowhere x u v number (piece v) (next v) f before after (one.leads u more v are);
}

-- what begins in a table goes on from each earlier one
pub continues_from : (x : CellTables) (number : Place → List Place → Option ℕ) (piece : List ℕ → Memory → Ending)
    (to : Option ℕ) (t p n : Table) (f g : Option FlowTerms) (before after : EndTerms) → Extends t p →
    Continues x number piece to p n f before g after → Continues x number piece to t n f before g after
continues_from x number piece to t p n f g before after earlier one = record {
  grown = Extends-trans t p n earlier one.grown;
  sound = one.sound;
  flow = one.flow;
  ends = one.ends;
  count = one.count;
  position = one.position;
  leads = one.leads;
}

-- what is so of one piece is so of each that is the same
pub continues_so : (x : CellTables) (number : Place → List Place → Option ℕ) (piece other : List ℕ → Memory → Ending)
    (to stands : Option ℕ) (t n : Table) (f g : Option FlowTerms) (before after : EndTerms) →
    ((v : List ℕ) (m : Memory) → piece v m ≡ other v m) → to ≡ stands →
    Continues x number piece to t n f before g after → Continues x number other stands t n f before g after
continues_so x number piece other to stands t n f g before after same there one = record {
  grown = one.grown;
  sound = one.sound;
  flow = one.flow;
  ends = one.ends;
  count = one.count;
  position = one.position ∙ there;
  leads = λ u more v are.
      leads_so x u v number (piece v) (other v) f g before after (same v) (one.leads u more v are);
}

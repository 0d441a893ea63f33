use Rattle.std.proofs.Common.{inl, inr, ◌∙◌, arith}
use Rattle.tm_dd.proofs.CallerLaws.{Extends-trans, RanksRise-Extends, depth_of-Extends, rank_of-Extends}
use Rattle.test_game.proofs.ExampleFacts.{follows_of}
use Rattle.test_game.proofs.solving.example.Example.write.Goals as goal

pub returns-in_err-lo-clause-follows : goal.returns-in_err-lo-clause-follows
returns-in_err-lo-clause-follows c =
    follows_of c.args.self.now.store c.make.new.self c.make.ensures.extends c.make.ensures.reduced c.args.self.now.two

pub returns-in_err-hi-clause-follows : goal.returns-in_err-hi-clause-follows
returns-in_err-hi-clause-follows c =
    follows_of c.args.self.now.store c.make-2.new.self
    (Extends-trans _ _ _ c.make.ensures.extends c.make-2.ensures.extends) c.make-2.ensures.reduced c.args.self.now.two

pub returns-clause-follows : goal.returns-clause-follows
returns-clause-follows c =
    follows_of c.args.self.now.store c.make-3.new.self
    (Extends-trans _ _ _ (Extends-trans _ _ _ c.make.ensures.extends c.make-2.ensures.extends) c.make-3.ensures.extends)
    c.make-3.ensures.reduced c.args.self.now.two

pub make-requires-clause-lo_deeper : goal.make-requires-clause-lo_deeper
make-requires-clause-lo_deeper c = inl c.constant.ensures.constant

pub make-requires-clause-hi_deeper : goal.make-requires-clause-hi_deeper
make-requires-clause-hi_deeper c = inl c.constant-2.ensures.constant

pub make-requires-3-clause-lo_deeper : goal.make-requires-3-clause-lo_deeper
make-requires-3-clause-lo_deeper c =
    let first = c.make.ensures.extends in
    let second = c.make-2.ensures.extends in
    inr (omega (
      arith,
      c.args.self.now.rise 0 1 (omega arith) (omega arith),
      rank_of-Extends _ _ first 0,
      rank_of-Extends _ _ first 1,
      rank_of-Extends _ _ second 0,
      depth_of-Extends _ _ second c.in_ok-lo.lo c.in_ok-lo.ensures.known,
      c.in_ok-lo.ensures.deep,
    ))

pub make-requires-3-clause-hi_deeper : goal.make-requires-3-clause-hi_deeper
make-requires-3-clause-hi_deeper c =
    let both = Extends-trans _ _ _ c.make.ensures.extends c.make-2.ensures.extends in
    inr (omega (
      arith,
      c.args.self.now.rise 0 1 (omega arith) (omega arith),
      rank_of-Extends _ _ both 0,
      rank_of-Extends _ _ both 1,
      c.in_ok-hi.ensures.deep,
    ))

pub invariant_of-self-in-Break-branch-2 : goal.invariant_of-self-in-Break-branch-2
invariant_of-self-in-Break-branch-2 c =
    let both = Extends-trans _ _ _ c.make.ensures.extends c.make-2.ensures.extends in
    record {
      two = both.same_levels ∙ c.args.self.now.two;
      rise = RanksRise-Extends _ _ both 2 c.args.self.now.rise;
    }

pub invariant_of-self-2-clause-rise : goal.invariant_of-self-2-clause-rise
invariant_of-self-2-clause-rise c =
    RanksRise-Extends _ _
    (Extends-trans _ _ _ (Extends-trans _ _ _ c.make.ensures.extends c.make-2.ensures.extends) c.make-3.ensures.extends)
    2 c.args.self.now.rise

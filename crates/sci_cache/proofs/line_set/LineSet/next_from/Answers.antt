use Rattle.std.specs.{Prelude.{◌^◌}, Int.{trailing_zeros}}
use Rattle.std.proofs.Common.{◌+◌, ◌/◌, w64, sym, ap, ◌∙◌, arith}
use Rattle.sci_cache.specs.LineSet.{is_in}
use Rattle.sci_cache.proofs.LineSets.{first_in, first_small, none_above, none_between, none_so_far}
use Rattle.sci_cache.proofs.line_set.LineSet.next_from.Goals as goal

pub returns-then-from-ge-MAX_LINES-clause-between : goal.returns-then-from-ge-MAX_LINES-clause-between
returns-then-from-ge-MAX_LINES-clause-between c =
    λ line le _. sym (ap (λ set. is_in set line) c.self.view_is) ∙ none_so_far c.self.inside.bits c.args.from line (omega arith) (omega arith) le

pub returns-then-above-eq0-clause-between : goal.returns-then-above-eq0-clause-between
returns-then-above-eq0-clause-between c =
    λ line le _. sym (ap (λ set. is_in set line) c.self.view_is) ∙ none_above c.self.inside.bits c.args.from line c.if-above-eq0.true le

pub returns-clause-small : goal.returns-clause-small
returns-clause-small c = first_small c.self.inside.bits c.args.from (omega arith) (omega arith) (omega arith)

pub returns-clause-found : goal.returns-clause-found
returns-clause-found c = sym (ap (λ set. is_in set (c.args.from + trailing_zeros w64 (c.self.inside.bits / 2 ^ c.args.from))) c.self.view_is)
    ∙ first_in c.self.inside.bits c.args.from (omega arith) (omega arith)

pub returns-clause-between : goal.returns-clause-between
returns-clause-between c = λ line le before. sym (ap (λ set. is_in set line) c.self.view_is)
    ∙ none_between c.self.inside.bits c.args.from line (omega arith) (omega arith) le before

use Rattle.std.proofs.Common.{refl, ap, ◌∙◌}
use Rattle.sci_cache.specs.{Held.{state_of}, Kinds.{is_of}, LineKinds.{has_line}, LineSet.{is_in}}
use Rattle.sci_cache.proofs.KindSets.{for_each_kind}
use Rattle.sci_cache.proofs.line_kinds.LineKinds.note.Goals as goal

pub returns-clause-here : goal.returns-clause-here
returns-clause-here c = for_each_kind _ c.args.line (λ of. is_of of (state_of c.args.held.now))
    (c.put.ensures.here ∙ c.is_of.ensures) (c.put-2.ensures.here ∙ c.is_of-2.ensures) (c.put-3.ensures.here ∙ c.is_of-3.ensures)
    (c.put-4.ensures.here ∙ c.is_of-4.ensures) (c.put-5.ensures.here ∙ c.is_of-5.ensures) (c.put-6.ensures.here ∙ c.is_of-6.ensures) refl

pub returns-clause-others : goal.returns-clause-others
returns-clause-others c = λ kind other ne.
    for_each_kind _ other (λ of. has_line of c.args.self.now other)
    (c.put.ensures.others other ne ∙ ap (λ sets. is_in sets.has_sharers other) c.self.view_is)
    (c.put-2.ensures.others other ne ∙ ap (λ sets. is_in sets.has_fresh_sharers other) c.self.view_is)
    (c.put-3.ensures.others other ne ∙ ap (λ sets. is_in sets.joins other) c.self.view_is)
    (c.put-4.ensures.others other ne ∙ ap (λ sets. is_in sets.must_send other) c.self.view_is)
    (c.put-5.ensures.others other ne ∙ ap (λ sets. is_in sets.gives_way other) c.self.view_is)
    (c.put-6.ensures.others other ne ∙ ap (λ sets. is_in sets.could_give_way other) c.self.view_is)
    refl kind

use Rattle.std.proofs.Common.{rules, ◌≡◌, ℕ, ap, refl, ◌∙◌}
use Rattle.sci_words.specs.declared.extent.Extent.{Extent}
use Rattle.sci_core.specs.{Node.{opening_node}, Size.{size_of}}
use Rattle.sci_c.specs.{Kinds.{node_in}, Machine.{size}}
use Rattle.sci_c.proofs.node.sci_node_open.Goals as goal

same_size : (e : Extent) (me n l s limit : ℕ) → e.nodes ≡ n → e.lines ≡ l → e.slots ≡ s
    → opening_node me (size_of e limit) ≡ opening_node me (size n l s limit)
same_size e me n l s limit p q r = rw p (rw q (rw r refl))

pub returns : goal.returns
returns c = record {
  done = λ ok. record {
    controller = record { node = c.in-Ok.node; policy = c.new-policy.result };
    is_in = ap node_in (c.opened.ensures.opened ok);
    node = c.in-Ok.ensures ∙ same_size c.in-Some.extent c.args.me c.args.nodes c.args.lines c.args.slots c.args.limit c.in-Some.ensures.nodes
        c.in-Some.ensures.lines c.in-Some.ensures.slots;
    policy = c.new-policy.ensures;
  };
  misuse = search rules;
  range = search rules;
  memory = search rules;
  statuses = search rules;
  same = search rules;
}

use Rattle.std.proofs.Common.{rules, List, ℕ, length, ap, ◌∙◌, subst}
use Rattle.sci_c.specs.Written.{StandOver}
use Rattle.sci_c.proofs.writing.sci_packet_write.Goals as goal

pub returns-in-Ok-packet_text : goal.returns-in-Ok-packet_text
returns-in-Ok-packet_text c =
    let text_is = c.deref.ensures.value ∙ c.in-Ok-packet_text.ensures in
    record {
      written = λ ok. record {
        value = c.in-Ok.said;
        said = c.in-Ok.ensures.says;
        stand = subst (λ (text : List ℕ). StandOver text c.args.text.now c.put_over.new.room c.put_over.new.used) text_is (c.put_over.ensures.written ok);
      };
      full = λ is. record {
        value = c.in-Ok.said;
        said = c.in-Ok.ensures.says;
        length_is = c.put_over.ensures.used ∙ ap length text_is;
        more = c.put_over.ensures.full is;
      };
      memory = search rules;
      refused = search rules;
      same = search rules;
      same_used = search rules;
    }

pub returns-in-Err-packet_text : goal.returns-in-Err-packet_text
returns-in-Err-packet_text c = record {
  written = search rules;
  full = search rules;
  memory = λ is. (c.in-Ok.said, c.in-Ok.ensures.says);
  refused = search rules;
  same = search rules;
  same_used = search rules;
}

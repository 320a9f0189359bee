use Rattle.std.proofs.Common.{◌≡◌, ◌++◌, List, ℕ, [], ◌∷◌, ap, refl, ◌∙◌}
use Rattle.sci_command.proofs.Joined.{joined, joined5}
use Rattle.sci_charts.proofs.rows.Rows.add.Goals as goal

joined6 : (old a b c d e f n1 n2 n3 n4 n5 n6 : List ℕ) → n1 ≡ old ++ a → n2 ≡ n1 ++ b → n3 ≡ n2 ++ c → n4 ≡ n3 ++ d → n5 ≡ n4 ++ e → n6 ≡ n5 ++ f
    → n6 ≡ old ++ (a ++ (b ++ (c ++ (d ++ (e ++ f)))))
joined6 old a b c d e f n1 n2 n3 n4 n5 n6 e1 e2 e3 e4 e5 e6 =
    joined old a (b ++ (c ++ (d ++ (e ++ f)))) n1 n6 e1 (joined5 n1 b c d e f n2 n3 n4 n5 n6 e2 e3 e4 e5 e6)

pub returns : goal.returns
returns c =
    let block = c.in_ok-begin.ensures in
    let arrow = c.in_ok-push_sent.ensures in
    let event = c.in_ok-push_numbered.ensures in
    let mark = c.in_ok-push_mark.ensures in
    let label = c.in_ok-push_said.ensures in
    let marked = mark.1 ∙ ap (λ (l : List ℕ). l ++ mark.0) c.self-2.view_is in (
      block.0 ++ (arrow.0 ++ (event.0 ++ (mark.0 ++ (label.0 ++ 10 ∷ [])))),
      joined6 c.args.self.now block.0 arrow.0 event.0 mark.0 label.0 (10 ∷ []) c.begin.new.self c.push_sent.new.self c.push_numbered.new.self
          c.push_mark.new.out.items c.push_said.new.out.items c.push_text.new.out.items block.1 arrow.1 event.1 marked label.1
          c.in_ok-push_text.ensures.text,
      record {
        block = block.0;
        arrow = arrow.0;
        event = event.0;
        mark = mark.0;
        label = label.0;
        is_begun = block.2;
        is_sent = arrow.2;
        is_event = event.2;
        is_marked = mark.2;
        is_labelled = label.2;
        written = refl;
      },
    )

use Rattle.std.proofs.Common.{◌≡◌, ◌-◌, ℕ, List, [], ◌∷◌, ◌++◌, take, codes, append_assoc, sym, ap, ◌∙◌}
use Rattle.sci_words.specs.declared.event.Event.{Event}
use Rattle.sci_text.specs.{Number.{field, number}, Schedule.{event_details, event_line, event_word, first_node}}
use Rattle.sci_charts.specs.Rows.{row_words}
use Rattle.sci_charts.proofs.Ended.{without_last}
use Rattle.sci_charts.proofs.layout.push_numbered.Goals as goal

-- an event's line is its words and the line feed
line_of : (e : Event) → event_line e ≡ (event_word e ++ (field (first_node e) ++ event_details e)) ++ 10 ∷ []
unfolding event_line
line_of e = sym (append_assoc (event_word e) (field (first_node e) ++ event_details e) (10 ∷ [])
    ∙ ap (λ (l : List ℕ). event_word e ++ l) (append_assoc (field (first_node e)) (event_details e) (10 ∷ [])))

numbered : (k : ℕ) (e : Event) (old n1 n2 n3 : List ℕ) → n1 ≡ old ++ number k → n2 ≡ n1 ++ codes ": " → n3 ≡ n2 ++ event_line e
    → n3 ≡ (old ++ row_words k e) ++ 10 ∷ []
unfolding row_words
numbered k e old n1 n2 n3 e1 e2 e3 =
    let words = event_word e ++ (field (first_node e) ++ event_details e) in
    e3
    ∙ (ap (λ (l : List ℕ). n2 ++ l) (line_of e)
    ∙ (sym (append_assoc n2 words (10 ∷ []))
    ∙ ap (λ (l : List ℕ). l ++ 10 ∷ [])
    (ap (λ (l : List ℕ). l ++ words) (e2 ∙ ap (λ (l : List ℕ). l ++ codes ": ") e1)
    ∙ (append_assoc (old ++ number k) (codes ": ") words ∙ append_assoc old (number k) (codes ": " ++ words)))))

pub returns : goal.returns
returns c =
    let k = c.args.number in
    let e = c.args.event.now in
    let old = c.args.out.now.items in
    without_last (old ++ row_words k e) c.push_event_line.new.out.items c.pop-feed.new.self.items 10
    (numbered k e old c.push_number.new.out.items c.push_text.new.out.items c.push_event_line.new.out.items c.in_ok-push_number.ensures.text
    c.in_ok-push_text.ensures.text c.in_ok-push_event_line.ensures)
    (c.pop-feed.ensures.rest ∙ ap (λ (n : ℕ). take (n - 1) c.push_event_line.new.out.items) c.push_event_line.new.out.ok.0)

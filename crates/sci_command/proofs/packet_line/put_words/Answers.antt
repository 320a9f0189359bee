use Rattle.std.proofs.Common.{arith, ◌≡◌, ◌≤◌, ◌<◌, ◌+◌, ◌-◌, ◌++◌, ◌∷◌, ap, append_assoc, drop, length, slice_index_or, sym, ◌∙◌}
use Rattle.std.proofs.lemmas.List.{drop_all, drop_more}
use Rattle.std.specs.List.{flat_map}
use Rattle.sci_text.specs.Number.{field}
use Rattle.sci_command.proofs.packet_line.put_words.Goals as goal

pub loop-done-init : goal.loop-done-init
loop-done-init c =
    let words = c.words-words.result.now in
    let eight : length words ≡ 8 = ap (λ ws. length ws) c.words-words.ensures.words ∙ c.words-words.ensures.width in
    let few : length words ≤ 8 = omega (arith, eight) in record {
      written = sym (ap (λ left. flat_map field left ++ c.args.end.now) (drop_all 8 words few));
      short = omega arith;
    }

pub put_field-requires : goal.put_field-requires
put_field-requires c = omega (arith, c.loop-done.invariant.short, c.loop-done-test.true, c.requires)

pub loop-done-preserved : goal.loop-done-preserved
loop-done-preserved c =
    let words = c.words-words.result.now in
    let done = c.loop-done.done in
    let eight : length words ≡ 8 = ap (λ ws. length ws) c.words-words.ensures.words ∙ c.words-words.ensures.width in
    let within : 7 - done < length words = omega (arith, eight, c.loop-done-test.true) in
    let before : 8 - (done + 1) ≡ 7 - done = omega arith in
    let behind : 7 - done + 1 ≡ 8 - done = omega (arith, c.loop-done-test.true) in
    let more = ap (λ k. drop k words) before ∙ drop_more words (7 - done) 0 within ∙ ap (λ k. slice_index_or words (7 - done) 0 ∷ drop k words) behind in
    let put = c.put_field.ensures.text ∙ ap (λ l. field (slice_index_or words (7 - done) 0) ++ l) c.loop-done.invariant.written in record {
      written = put ∙ sym (append_assoc (field (slice_index_or words (7 - done) 0)) (flat_map field (drop (8 - done) words)) c.args.end.now)
          ∙ sym (ap (λ left. flat_map field left ++ c.args.end.now) more);
      short = omega (arith, c.put_field.ensures.short, c.loop-done.invariant.short);
    }

pub returns-clause-text : goal.returns-clause-text
returns-clause-text c =
    let all : c.loop-done.done ≡ 8 = omega (arith, c.loop-done-test.false, c.loop-done.auto.done-end) in
    let none : 8 - c.loop-done.done ≡ 0 = omega (arith, all) in
    c.loop-done.invariant.written ∙ ap (λ k. flat_map field (drop k c.words-words.result.now) ++ c.args.end.now) none
    ∙ ap (λ words. flat_map field words ++ c.args.end.now) c.words-words.ensures.words

pub returns-clause-short : goal.returns-clause-short
returns-clause-short c = omega (arith, c.loop-done.invariant.short, c.loop-done.auto.done-end)

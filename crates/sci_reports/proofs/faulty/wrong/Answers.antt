use Rattle.std.proofs.Common.{◌≡◌, ◌<◌, ℕ, List, None, true, false, arith, rules, ap, get_or, length, take, ◌∙◌, sym}
use Rattle.std.proofs.lemmas.{List.{get_or_default}}
use Rattle.std.proofs.lemmas.Grind.{common_steps}
use Rattle.std.specs.Prelude.{◌==◌, ◌||◌, not, slice_index}
use Rattle.sci_words.specs.declared.operation.Reply.{Reply}
use Rattle.sci_words.specs.declared.limits.TheConstants.{WORDS_PER_LINE}
use Rattle.sci_history.specs.{declared.entry.Entry.{Entry}, Audit.{is_reply_wrong, words_after}}
use Rattle.sci_history.proofs.AuditFinds.{words_more}
use Rattle.sci_reports.specs.{EntryLines.{entries_in, entry_refs}, Faulty.{changes_word, makes_always}}
use Rattle.sci_reports.proofs.FoundEntries.{all_so, entries_taken, fails_here, fails_later, no_numbered, ref_at, stands_at, stands_first, within_refs}
use Rattle.sci_reports.proofs.MadeWords.{word_left, word_made}
use Rattle.sci_reports.proofs.faulty.wrong.Goals.{then-makes_word, else-makes_word}
use Rattle.sci_reports.proofs.faulty.wrong.Goals as goal

pub loop-at-preserved-then-word-ge-WORDS_PER_LINE : goal.loop-at-preserved-then-word-ge-WORDS_PER_LINE
loop-at-preserved-then-word-ge-WORDS_PER_LINE c =
    let fits = all_so (λ entry. entry.op.word < WORDS_PER_LINE) c.args.placed.now c.loop-at.at-index c.loop-at-test.true in
    record {
      places = c.loop-at.invariant.places;
      words = λ within. let fits = fits within in absurd (omega (arith, fits, c.from-word.ensures, c.if-word-ge-WORDS_PER_LINE.true));
      makers = λ within word low. let fits = fits within in absurd (omega (arith, fits, c.from-word.ensures, c.if-word-ge-WORDS_PER_LINE.true));
      right = λ within. let fits = fits within in absurd (omega (arith, fits, c.from-word.ensures, c.if-word-ge-WORDS_PER_LINE.true));
    }

pub returns-then-not-answers-clause-first : goal.returns-then-not-answers-clause-first
returns-then-not-answers-clause-first c = grind (arith, no_numbered, common_steps, fails_here)

pub returns-then-not-answers-clause-word : goal.returns-then-not-answers-clause-word
returns-then-not-answers-clause-word c = grind (arith, stands_at, no_numbered)

pub returns-then-not-answers-clause-cause : goal.returns-then-not-answers-clause-cause
returns-then-not-answers-clause-cause c = λ within.
    let list = c.args.placed.now in
    let i = c.loop-at.at-index in
    let at = (get_or list i no_numbered).entry.now in
    let words = c.loop-at.invariant.words within in
    let here : is_reply_wrong (take i (entries_in list)) at ≡ true = grind (arith, common_steps) in
    let fits = all_so (λ entry. entry.op.word < WORDS_PER_LINE) list i c.loop-at-test.true within in
    let long : at.op.word < length c.loop-at.makers = omega (arith, fits, c.loop-at.invariant.places) in
    let word = c.word-old.ensures.word ∙ ap (λ (l : List ℕ). slice_index l at.op.word) words
    ∙ ap (λ (before : List Entry). slice_index (words_after before) at.op.word) (entries_taken list i) in
    record {
      before = take i list;
      first = stands_first is_reply_wrong list i c.loop-at-test.true (c.loop-at.invariant.right within) here;
      cause = (
        word,
        rw (c.from-word.ensures, get_or_default c.loop-at.makers at.op.word c.index-makers-word.result None long)
            (c.loop-at.invariant.makers within at.op.word fits),
      );
    }

pub loop-at-preserved : goal.loop-at-preserved
loop-at-preserved c =
    let list = c.args.placed.now in
    let i = c.loop-at.at-index in
    let op = ap (λ (e : Entry). e.op) (ref_at list i c.loop-at-test.true) in
    let it = get_or list i no_numbered in
    let at = it.entry.now in
    let f = c.from-word.result in
    let fits = all_so (λ entry. entry.op.word < WORDS_PER_LINE) list i c.loop-at-test.true in
    let more = words_more (entry_refs list) i (within_refs list i c.loop-at-test.true) in
    record {
      places = search rules;
      words = λ within. let words = c.loop-at.invariant.words within in grind (arith, common_steps);
      makers = λ within word low.
          let fits = fits within in
          let words = c.loop-at.invariant.words within in
          let long : f < length c.loop-at.makers = omega (arith, fits, c.from-word.ensures, c.loop-at.invariant.places) in
          let was = c.loop-at.invariant.makers within word low in
          let old = c.word-old.ensures.word ∙ ap (λ (l : List ℕ). slice_index l at.op.word) words in
          let made : c.makes_word.result ≡ changes_word at.op (slice_index (words_after (take i (entries_in list))) at.op.word) =
          c.makes_word.ensures
          ∙ ap (λ (p : ℕ × Reply). makes_always at.op.act || not (p.0 == c.word-old.result)) c.effect-new.ensures ∙ ap (changes_word at.op) old in
          elim c.if-makes_word.branch [
            | then-makes_word w ↦ rw w.makers-is (word_made list i c.loop-at-test.true c.loop-at.makers word f c.from-word.ensures long
                (sym made ∙ w.if-makes_word.true) was)
            | else-makes_word w ↦ rw w.makers-is (word_left list i c.loop-at-test.true c.loop-at.makers word (sym made ∙ w.if-makes_word.false) was)
          ];
      right = λ within.
          let words = c.loop-at.invariant.words within in
          let here : is_reply_wrong (take i (entries_in list)) (get_or list i no_numbered).entry.now ≡ false = grind (arith, common_steps) in
          fails_later is_reply_wrong list i c.loop-at-test.true (c.loop-at.invariant.right within) here;
    }

-- It is found in the subject's entries in placed order.
use Rattle.std.proofs.Common.{◌<◌, refl}
use Rattle.std.proofs.lemmas.List.Sorted.{All-permutation, IsPermutation-map}
use Rattle.sci_words.specs.declared.limits.TheConstants.{WORDS_PER_LINE}
use Rattle.sci_history.specs.{declared.entry.Entry.{Entry}}
use Rattle.sci_reports.specs.{EntryLines.{entries_in, entry_refs}}
use Rattle.sci_reports.proofs.finding.Finding.of.Goals as goal

pub returns-clause-found : goal.returns-clause-found
returns-clause-found c = λ known.
    let entries = c.args.subject.entries.items in
    let placed = c.in_ok-placed.placed.items in
    let kept = rw c.deref.ensures.value at c.in_ok-placed.ensures.kept in
    let order = rw c.deref.ensures.value at c.in_ok-placed.ensures.order in
    let ties = rw c.deref.ensures.value at c.in_ok-placed.ensures.ties in
    let words = All-permutation (λ (e : Entry). e.op.word < WORDS_PER_LINE) (entries_in entries) (entries_in placed)
    (IsPermutation-map (λ ref. ref.now) (entry_refs entries) (entry_refs placed) (IsPermutation-map (λ it. it.entry) entries placed kept)) known.words in
    let at_fault = (rw (c.deref-2.ensures.value, c.deref-3.ensures.value) at c.in_ok-found.ensures.entry) known.nodes words in
    let cause = (rw (c.deref-2.ensures.value, c.deref-3.ensures.value) at c.in_ok-found.ensures.cause) known.nodes words in
    record {
      is = refl;
      are = record { kept = kept; order = λ bound below. order bound known.nodes below; ties = ties };
      at_fault = at_fault;
      cause = cause;
      left = (rw c.deref-4.ensures.value at c.left_by-left.ensures) words;
    }

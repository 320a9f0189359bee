-- What a reader of logs has read grows by an entry a line.
use Rattle.std.proofs.Common.{◌≡◌, ℕ, ◌+◌, ◌<◌, ◌≤◌, List, ◌∷◌, ◌++◌, length, None, ap, subst, ◌∙◌, append_assoc, arith, ◌⊎◌}
use Rattle.std.proofs.lemmas.List.{append-nil}
use Rattle.std.specs.Prelude.{[], ◌^◌}
use Rattle.sci_text.specs.declared.{fault.{TextFault.{TextFault}, TextFaultKind.{TextFaultKind}}, log_lines.LogReader.{LogReader}}
use Rattle.sci_text.specs.declared.fault.TextFaultKind.TheVariants.{Memory}
use Rattle.sci_words.specs.declared.stamped.Stamped.{Stamped}
use Rattle.sci_history.specs.declared.entry.Entry.{Entry}
use Rattle.sci_text.specs.{FirstFault.{IsRefusal, IsToldAt}, Log.{last_lines}}
use Rattle.sci_text.specs.LogValue.{BeginsLog, HasAllLines, IsFront, entry_count, first_line, front_of}
use Rattle.sci_text.specs.LogFault.{IsLogFault, LogLineFault, first_lines}
use Rattle.sci_text.specs.LogReading.{AddsEntry, BeginsLast, HasRead, no_logs}
use Rattle.sci_text.proofs.LogFronts.{count_more, entry_lines-push, entry_shrinks, few_below, front_more, front_none, latest_more, no_last_after}
use Rattle.sci_text.proofs.LogFronts.{no_last_here, refusal_at}

-- before the first entry
pub started : (input after rest : List ℕ) (reader : LogReader) → input ≡ first_line reader.form ++ after
    → (reader.form.lines ≡ None → BeginsLog input → ⊥) → after ≡ last_lines 0 reader.last.items ++ rest
    → IsFront (front_of reader.form reader.last.items no_logs) → HasAllLines reader.form.lines (length reader.last.items) → (BeginsLast rest → ⊥)
    → reader.logs ≡ no_logs → reader.latest ≡ 0 → reader.line ≡ first_lines reader.form.lines + length reader.last.items + 1 → length rest < 2 ^ 63
    → HasRead input reader rest
started input after rest reader is first parts good whole no_more none latest place few = rw (none, latest) (record {
  begins = record {
    good = good;
    parts = is ∙ ap (λ (t : List ℕ). first_line reader.form ++ t) parts ∙ simp (append_assoc, append-nil);
    first = first;
  };
  whole = whole;
  latest = front_none reader.form reader.last.items good;
  no_last = no_last_here (front_of reader.form reader.last.items no_logs) rest no_more;
  place = omega (arith, place);
  few = omega (arith, few);
})

-- the reader with an entry more
abbrev pub grown : LogReader → List (List Entry) → ℕ → LogReader
grown reader logs node = record reader { logs = logs; latest = node; line = reader.line + 1 }

pub grows : (input bytes rest : List ℕ) (reader : LogReader) (contents : List Stamped) (logs : List (List Entry)) (node : ℕ)
    → contents ≡ reader.last.items → HasRead input reader bytes
    → AddsEntry reader.form (length contents) reader.logs logs reader.latest node bytes rest → HasRead input (grown reader logs node) rest
grows input bytes rest reader contents logs node same h added =
    let form = reader.form in
    let last = reader.last.items in
    let a = subst (λ (cs : List Stamped). AddsEntry form (length cs) reader.logs logs reader.latest node bytes rest) same added in
    let count = count_more form last reader.logs logs reader.latest node bytes rest h.begins.good a in
    let shorter = entry_shrinks form (length last) reader.logs logs reader.latest node bytes rest a in
    let below = few_below form last reader.logs a.entry h.begins.good a.fits in
    let above = h.latest.none_above in
    record {
      begins = record {
        good = front_more form last reader.logs logs reader.latest node bytes rest h.begins.good h.whole a;
        parts = grind (arith, h.begins.parts, a.parts, a.added, a.later, below, above, entry_lines-push, append_assoc);
        first = h.begins.first;
      };
      whole = h.whole;
      latest = latest_more form last reader.logs logs reader.latest node bytes rest h.begins.good h.latest a;
      no_last = no_last_after (front_of form last logs) rest (entry_count reader.logs) count;
      place = omega (arith, count, h.place);
      few = omega (arith, count, shorter, h.few);
    }

-- a faulty entry
pub refused : (input bytes : List ℕ) (reader : LogReader) (contents : List Stamped) (kind : TextFaultKind) (fault : TextFault)
    → contents ≡ reader.last.items → HasRead input reader bytes → 0 < length bytes → IsToldAt reader.line kind fault
    → (kind ≡ Memory) ⊎ LogLineFault (front_of reader.form contents reader.logs) bytes kind → IsRefusal IsLogFault input fault
refused input bytes reader contents kind fault same h some at faulty = grind (arith, refusal_at)

pub at_end : (input rest : List ℕ) (reader : LogReader) → HasRead input reader rest → length rest ≤ 0 → HasRead input reader []
at_end input [] reader h none = h
at_end input (b ∷ rest) reader h none = absurd (omega arith)

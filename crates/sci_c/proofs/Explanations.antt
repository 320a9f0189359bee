-- The text of logs that are within the limits of a text isn't refused.
use Rattle.std.proofs.Common.{◌≡◌, ◌≢◌, ℕ, List, refl, subst, sym}
use Rattle.sci_words.specs.declared.stamped.Stamped.{Stamped}
use Rattle.sci_history.specs.declared.entry.Entry.{Entry}
use Rattle.sci_text.specs.declared.fault.{TextFault.{TextFault}, TextFaultKind.{TextFaultKind, TheVariants.{Syntax, Range, TooMany, Read, Write, Memory}}}
use Rattle.sci_text.specs.{FirstFault.{HasNoFault, IsRefusal, IsRefusalOf}, LogFault.{IsLogFault}, LogValue.{AreLogs, IsLogs}}

refused_at : (kind : TextFaultKind) (input : List ℕ) (line : ℕ) → IsRefusalOf IsLogFault kind input line → kind ≢ Memory → HasNoFault IsLogFault input → ⊥
refused_at Syntax input line refused not none = none line Syntax refused
refused_at Range input line refused not none = none line Range refused
refused_at TooMany input line refused not none = none line TooMany refused
refused_at Read input line refused not none = absurd refused
refused_at Write input line refused not none = absurd refused
refused_at Memory input line refused not none = not refl

same_logs : {nodes n : ℕ} {logs others : List (List Entry)} {last ends : List Stamped} → nodes ≡ n → logs ≡ others → last ≡ ends
    → AreLogs n others ends → AreLogs nodes logs last
same_logs {n = n} {logs = logs} {others = others} {last = last} p q r are =
    subst (λ (k : ℕ). AreLogs k logs last) (sym p) (subst (λ (ls : List (List Entry)). AreLogs n ls last) (sym q)
    (subst (λ (l : List Stamped). AreLogs n others l) (sym r) are))

pub not_refused : (nodes n : ℕ) (logs others : List (List Entry)) (last ends : List Stamped) (made input : List ℕ) (fault : TextFault)
    → nodes ≡ n → logs ≡ others → last ≡ ends → (AreLogs nodes logs last → IsLogs made nodes logs last) → input ≡ made
    → ((text : List ℕ) (k : ℕ) (a : List (List Entry)) (x : List Stamped) → IsLogs text k a x → HasNoFault IsLogFault text)
    → IsRefusal IsLogFault input fault → fault.kind ≢ Memory → AreLogs n others ends → ⊥
not_refused nodes n logs others last ends made input fault p q r says is law refused not are =
    refused_at fault.kind input fault.line refused not
    (subst (HasNoFault IsLogFault) (sym is) (law made nodes logs last (says (same_logs p q r are))))

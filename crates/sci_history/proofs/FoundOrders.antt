-- What was placed is an order, or what is left has a cycle.
use Rattle.std.specs.Global.{Vec}
use Rattle.std.proofs.Common.{◌≡◌, ℕ, ◌<◌, ◌≤◌, List, [], length, get_or, refl, sym, subst, ◌∙◌, arith, inl, inr}
use Rattle.std.proofs.lemmas.Bool.{cases_lt}
use Rattle.sci_words.specs.declared.{limits.TheConstants.{MAX_NODES}, stamped.Stamped.{Stamped}}
use Rattle.sci_history.specs.{declared.{entry.Entry.{Entry}, placing.LineState.{LineState}}, Audit.{AreWithin}}
use Rattle.sci_history.specs.{Lawful.{Lawful}, Placed.{AreOwn, log_of, on_line}}
use Rattle.sci_history.specs.Placing.{AreBlocked, AreOrderable, HasCounts, IsPlacing, IsStuckAt, lists_of_counts, rests_of}
use Rattle.sci_history.specs.Sequential.{IsSequentialOrder}
use Rattle.sci_history.proofs.{PlaceSteps.{counts_long}, PlacingEnds.{blocked, placing_done}, Placings.{front_is}}
use Rattle.sci_history.proofs.Rests.{none_at, rest_beyond, rests_long}

pub orderable : (logs : List (List Entry)) (last : List Stamped) (loads : List (Vec ℕ)) → Lawful logs last → AreOwn logs → length logs ≡ MAX_NODES
    → AreWithin (length last) logs → length loads ≡ length last
    → ((line : ℕ) → line < length last → HasCounts (get_or (lists_of_counts loads) line []) (on_line line logs)) → AreOrderable logs (lists_of_counts loads)
orderable logs last loads lawful own sixteen within lines counts =
    let long = counts_long loads in
    record {
      last = last;
      lawful = lawful;
      own = own;
      sixteen = sixteen;
      within = subst (λ (k : ℕ). AreWithin k logs) (sym (long ∙ lines)) within;
      counts = λ line below. counts line (omega arith);
    }

pub are_blocked : (logs : List (List Entry)) (loads : List (Vec ℕ)) (lines : List LineState) (next : List ℕ) (order : List Entry)
    → AreOrderable logs (lists_of_counts loads) → IsPlacing logs (length loads) lines (rests_of logs next) order
    → ((node : ℕ) → node < MAX_NODES → IsStuckAt lines (rests_of logs next) node) → AreBlocked (rests_of logs next)
are_blocked logs loads lines next order able placing stuck node entry rest lt front none =
    let rests = rests_of logs next in
    let long = rests_long logs next in
    let is = front_is logs rests (lists_of_counts loads) order node entry rest able lt (placing.logged node) front in
    let same : IsPlacing logs (length (lists_of_counts loads)) lines rests order =
    subst (λ (k : ℕ). IsPlacing logs k lines rests order) (sym (counts_long loads)) placing in
    blocked logs lines rests order able.last (lists_of_counts loads) node entry rest able.lawful is.0 same (omega arith) front (stuck node lt entry rest front)
    none

pub all_done : (logs : List (List Entry)) (last : List Stamped) (loads : List (Vec ℕ)) (lines : List LineState) (next : List ℕ) (order : List Entry)
    → Lawful logs last → AreWithin (length last) logs → length loads ≡ length last → AreOrderable logs (lists_of_counts loads)
    → IsPlacing logs (length loads) lines (rests_of logs next) order → ((m : ℕ) → m < MAX_NODES → length (log_of logs m) ≤ get_or next m 0)
    → IsSequentialOrder logs last order
all_done logs last loads lines next order lawful within same able placing all =
    placing_done logs (rests_of logs next) last lines order able.own able.sixteen lawful within (λ node. elim (cases_lt node MAX_NODES) [
      | inl lt ↦ none_at logs next node (log_of logs node) lt refl (all node lt)
      | inr past ↦ rest_beyond logs next node past
    ]) (subst (λ (k : ℕ). IsPlacing logs k lines (rests_of logs next) order) same placing)

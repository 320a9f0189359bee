-- A script whose operations are issued and performed one after another makes the oracle's entries.
use Rattle.std.proofs.Common.{◌≡◌, ℕ, zero, suc, ◌+◌, ◌<◌, ◌≤◌, eqb, cond, Bool, true, false, if◌then◌else◌, List, [], ◌∷◌, ◌++◌, length, get_or, replicate}
use Rattle.std.proofs.Common.{Option, Some, None, refl, sym, ap, subst, ◌∙◌, append_assoc, arith, inl, inr}
use Rattle.std.proofs.lemmas.Bool.{cases_eq, eq-eqb, ne_eqb}
use Rattle.std.proofs.lemmas.List.{append-nil, length-replicate, get_or-replicate, FromFn.{fill_by_all}, Sums.{sum_by-cons}}
use Rattle.std.specs.{List.{AllByRecursion}, Prelude.{IsSome, count_by, option_map, option_to_list, unwrap_or}}
use Rattle.sci_words.specs.{Stamped.{zero_stamped}}
use Rattle.sci_words.specs.declared.{event.Event.{Event}, limits.TheConstants.{MAX_NODES}, stamped.Stamped.{Stamped}}
use Rattle.sci_history.proofs.OracleSteps.{contents_of-push}
use Rattle.sci_history.proofs.Oracles.{Traced, IsNext, count_push, line_at-zero, stamped_at-contents_of, stamped_of, traced_none, traced_push}
use Rattle.sci_history.specs.{Memory.{contents_after}, Oracle.{Issue, contents_left, done_after, entry_after}, Placed.{is_of_node}}
use Rattle.sci_history.specs.declared.entry.Entry.{Entry}
use Rattle.sci_core.proofs.{Shape.ShapeRuns.{replicated}, WellFormed.WellFormedSteps.{is_size}}
use Rattle.sci_core.specs.{Size.{Size, IsMachineSize}, declared.pending.Pending.{Pending}}
use Rattle.sci_orders.proofs.Plains.{can_issue_by, memory_issues, memory_performs, plain_makes, same_entry}
use Rattle.sci_orders.proofs.Ports.{issue_changes, issued_waits_here, issued_waits_other, perform_changes, performed_waits_here, performed_waits_other}
use Rattle.sci_orders.proofs.{Sound.{explained}, Turns.{order_seen}}
use Rattle.sci_orders.specs.Plain.{AreAllowed, Plain, Port, can_issue, entry_at, no_port, opening_plain, plain_done, plain_made, plain_run, plain_step}
use Rattle.sci_orders.specs.Plain.{plain_stepping, port_at, waits_at, with_issued, with_performed}
use Rattle.sci_orders.specs.Witness.{AreFor, IsFor, IsOracleRun, one_by_one, schedule_of}
use Rattle.sci_words.specs.declared.event.Event.TheVariants as event

-- ---- nothing waits, and these entries are made

pub record IsAfter (size : Size) (done : List Entry) (plain : Plain) : Type 0 where
  pub size_is : plain.size ≡ size
  pub nodes : length plain.ports ≡ size.nodes
  pub lines : (n : ℕ) → n < size.nodes → length (port_at plain n).pending ≡ size.lines
  pub free : (n line : ℕ) → waits_at plain n line ≡ None
  pub issued : (n : ℕ) → n < size.nodes → (port_at plain n).issued ≡ count_by (is_of_node n) done
  pub contents : plain.contents ≡ contents_left size.lines done
  pub traced : Traced size.lines done

-- one operation more: what it waits as, and the memory before and after it
abbrev waiting : Plain → Issue → Pending
waiting plain issue = record { serial = (port_at plain issue.0).issued; op = issue.1 }

abbrev issued_one : Plain → Issue → Plain
issued_one plain issue = with_issued plain issue.0 issue.1

abbrev done_one : Plain → Issue → Plain
done_one plain issue = with_performed (issued_one plain issue) issue.0 issue.1.line (waiting plain issue)

may_issue_one : (size : Size) (done : List Entry) (plain : Plain) (issue : Issue) → IsAfter size done plain → IsFor size issue
    → count_by (is_of_node issue.0) done < size.limit → can_issue plain issue.0 issue.1 ≡ true
may_issue_one size done plain issue is for few = grind (arith, can_issue_by)

-- what waits then
waits_one : (size : Size) (done : List Entry) (plain : Plain) (issue : Issue) → IsAfter size done plain → IsFor size issue
    → waits_at (issued_one plain issue) issue.0 issue.1.line ≡ Some (waiting plain issue)
waits_one size done plain issue is for = grind (arith, issued_waits_here)

-- ---- the entry, and the memory after it

version_as : (b : Bool) (n : ℕ) → (if b then n + 1 else n) ≡ n + cond b 1 0
version_as true n = refl
version_as false n = omega arith

entry_one : (size : Size) (done : List Entry) (plain : Plain) (issue : Issue) → IsAfter size done plain → IsFor size issue
    → entry_at (issued_one plain issue) issue.0 (waiting plain issue) ≡ entry_after size.lines done issue
entry_one size done plain issue is for = grind (arith, stamped_of, stamped_at-contents_of, same_entry, version_as)

one_more : (size : Size) (done : List Entry) (plain : Plain) (issue : Issue) → size.nodes ≤ MAX_NODES → IsAfter size done plain → IsFor size issue
    → IsAfter size (done ++ entry_after size.lines done issue ∷ []) (done_one plain issue)
one_more size done plain issue few is for =
    let entry = entry_after size.lines done issue in
    let n = issue.0 in
    let line = issue.1.line in
    let lt = for.node in
    let inside = for.line in
    let nodes = is.nodes in
    let next : IsNext size.lines done entry = record { reply = refl; version = refl; serial = refl } in
    let mid = issued_one plain issue in
    let new = done_one plain issue in
    let has : n < length plain.ports = omega arith in
    let first = issue_changes plain n issue.1 has in
    let has_mid : n < length mid.ports = (let same = first.nodes in omega arith) in
    let second = perform_changes mid n line (waiting plain issue) has_mid in
    let on_line : line < length (port_at mid n).pending = (let same = first.lines n in let long = is.lines n lt in omega arith) in
    let apart : (m k : ℕ) → ((m ≡ n) × (k ≡ line) → ⊥) → waits_at new m k ≡ None = λ m k not_.
    performed_waits_other mid n line m k (waiting plain issue) has_mid not_ ∙ (issued_waits_other plain n m k issue.1 has not_ ∙ is.free m k) in
    record {
      size_is = is.size_is;
      nodes = second.nodes ∙ (first.nodes ∙ nodes);
      lines = λ m below. second.lines m ∙ (first.lines m ∙ is.lines m below);
      free = λ m k. elim (cases_eq m n) [
        | inl e ↦ elim (cases_eq k line) [
          | inl on ↦ ap (λ (j : ℕ). waits_at new j k) e
              ∙ (ap (λ (j : ℕ). waits_at new n j) on ∙ performed_waits_here mid n line (waiting plain issue) has_mid on_line)
          | inr off ↦ apart m k (λ both. off both.1)
        ]
        | inr other ↦ apart m k (λ both. other both.0)
      ];
      issued = λ m below. elim (cases_eq m n) [
        | inl e ↦ ap (λ (j : ℕ). (port_at new j).issued) e
            ∙ (second.here ∙ (first.here
            ∙ (let was = is.issued n lt in
            let push = count_push (is_of_node m) done entry in
            let yes : is_of_node m entry ≡ true = eq-eqb n m (sym e) in
            let one : cond {A = ℕ} (is_of_node m entry) 1 0 ≡ 1 = ap (λ (b : Bool). cond {A = ℕ} b 1 0) yes in
            let same : count_by (is_of_node n) done ≡ count_by (is_of_node m) done = ap (λ (j : ℕ). count_by (is_of_node j) done) (sym e) in
            omega arith)))
        | inr other ↦ ap (λ (p : Port). p.issued) (second.apart m other ∙ first.apart m other)
            ∙ (let was = is.issued m below in
            let push = count_push (is_of_node m) done entry in
            let no : is_of_node m entry ≡ false = ne_eqb n m (λ e. other (sym e)) in
            let none : cond {A = ℕ} (is_of_node m entry) 1 0 ≡ 0 = ap (λ (b : Bool). cond {A = ℕ} b 1 0) no in
            omega arith)
      ];
      contents = ap (λ (c : List Stamped). contents_after c issue.1) is.contents ∙ contents_of-push size.lines done entry is.traced next inside;
      traced = traced_push size.lines done entry is.traced next (omega arith) inside;
    }

-- ---- the whole script

pub record Does (size : Size) (done : List Entry) (plain : Plain) (script : List Issue) : Type 0 where
  pub allowed : AreAllowed plain (one_by_one script)
  pub makes : done ++ plain_done plain (one_by_one script) ≡ done_after size.lines done script
  pub leaves : (plain_run plain (one_by_one script)).contents ≡ contents_left size.lines (done_after size.lines done script)

does_one : (size : Size) (done : List Entry) (plain : Plain) (issue : Issue) (script : List Issue) → IsAfter size done plain → IsFor size issue
    → count_by (is_of_node issue.0) done < size.limit
    → Does size (done ++ entry_after size.lines done issue ∷ []) (done_one plain issue) script → Does size done plain (issue ∷ script)
unfolding done_after
does_one size done plain issue script is for few rest =
    let n = issue.0 in
    let line = issue.1.line in
    let mid = issued_one plain issue in
    let last = done_one plain issue in
    let e = event.Issue n issue.1 in
    let f = event.Perform n line in
    let lt : n < plain.size.nodes = subst (λ (s : Size). n < s.nodes) (sym is.size_is) for.node in
    let first = memory_issues plain n issue.1 lt (may_issue_one size done plain issue is for few) in
    let waits = waits_one size done plain issue is for in
    let second = memory_performs mid n line (waiting plain issue) lt waits in
    let to : plain_step plain e ≡ mid = ap (λ (o : Option Plain). unwrap_or o plain) first in
    let then_ : plain_step mid f ≡ last = ap (λ (o : Option Plain). unwrap_or o mid) second in
    let made_first : plain_made plain e ≡ None = plain_makes plain mid e first in
    let entry : plain_made mid f ≡ Some (entry_after size.lines done issue) =
    plain_makes mid last f second ∙ (ap (option_map (entry_at mid n)) waits ∙ ap Some (entry_one size done plain issue is for)) in
    let order = one_by_one script in
    record {
      allowed = (
        subst IsSome (sym first) refl,
        subst (λ (p : Plain). IsSome (plain_stepping p f) × AreAllowed (plain_step p f) order) (sym to)
            (subst IsSome (sym second) refl, subst (λ (p : Plain). AreAllowed p order) (sym then_) rest.allowed),
      );
      makes = ap (λ (es : List Entry). done ++ es)
          (ap (λ (m : Option Entry). option_to_list m ++ plain_done (plain_step plain e) (f ∷ order)) made_first
          ∙ (ap (λ (p : Plain). plain_done p (f ∷ order)) to
          ∙ (ap (λ (m : Option Entry). option_to_list m ++ plain_done (plain_step mid f) order) entry
          ∙ ap (λ (p : Plain). entry_after size.lines done issue ∷ plain_done p order) then_)))
          ∙ (sym (append_assoc done (entry_after size.lines done issue ∷ []) (plain_done last order)) ∙ rest.makes);
      leaves = ap (λ (p : Plain). (plain_run (plain_step p f) order).contents) to
          ∙ (ap (λ (p : Plain). (plain_run p order).contents) then_ ∙ rest.leaves);
    }

does_all : (size : Size) (script : List Issue) (done : List Entry) (plain : Plain) → size.nodes ≤ MAX_NODES → IsAfter size done plain
    → AllByRecursion (IsFor size) script → ((n : ℕ) → count_by (is_of_node n) done + count_by (λ (i : Issue). eqb i.0 n) script ≤ size.limit)
    → Does size done plain script
unfolding done_after
does_all size [] done plain nodes is each few = record { allowed = tt; makes = append-nil done; leaves = is.contents }
does_all size (issue ∷ script) done plain nodes is each few =
    let entry = entry_after size.lines done issue in
    let here = few issue.0 in
    let more = sum_by-cons (λ (i : Issue). cond (eqb i.0 issue.0) 1 0) issue script in
    let one : cond {A = ℕ} (eqb issue.0 issue.0) 1 0 ≡ 1 = ap (λ (b : Bool). cond {A = ℕ} b 1 0) (eq-eqb issue.0 issue.0 refl) in
    does_one size done plain issue script is each.0 (omega arith)
    (does_all size script (done ++ entry ∷ []) (done_one plain issue) nodes (one_more size done plain issue nodes is each.0) each.1 (λ n. (
    let all = few n in
    let split = sum_by-cons (λ (i : Issue). cond (eqb i.0 n) 1 0) issue script in
    let push = count_push (is_of_node n) done entry in
    omega arith)))

pub free_at : (nodes n line lines : ℕ)
    → get_or (get_or (replicate nodes (record { pending = replicate lines None; issued = 0 })) n no_port).pending line None ≡ None
free_at zero n line lines = refl
free_at (suc nodes) zero line lines = replicated None lines line
free_at (suc nodes) (suc n) line lines = free_at nodes n line lines

stamped_first : (lines line : ℕ) → stamped_of lines [] line ≡ zero_stamped
stamped_first lines line = ap (λ (words : List ℕ). record { line = words; version = 0 }) (line_at-zero lines line)

opening_after : (size : Size) → IsAfter size [] (opening_plain size)
opening_after size =
    let port : Port = record { pending = replicate size.lines None; issued = 0 } in
    let at : (n : ℕ) → n < size.nodes → port_at (opening_plain size) n ≡ port = λ n lt. get_or-replicate size.nodes n port no_port lt in
    record {
      size_is = refl;
      nodes = length-replicate size.nodes port;
      lines = λ n lt. ap (λ (p : Port). length p.pending) (at n lt) ∙ length-replicate size.lines None;
      free = λ n line. free_at size.nodes n line size.lines;
      issued = λ n lt. ap (λ (p : Port). p.issued) (at n lt);
      contents = fill_by_all (λ l. stamped_of size.lines [] l) (replicate size.lines zero_stamped) size.lines zero_stamped
          (length-replicate size.lines zero_stamped)
          (λ k below. get_or-replicate size.lines k zero_stamped zero_stamped below ∙ sym (stamped_first size.lines k));
      traced = traced_none size.lines;
    }

pub script_run : (size : Size) (script : List Issue) → IsMachineSize size → AreFor size script → IsOracleRun size script (schedule_of size (one_by_one script))
script_run size script sizes for =
    let does = does_all size script [] (opening_plain size) sizes.extent.few_nodes (opening_after size) for.each (λ n. (
    let few = for.few n in
    omega arith)) in
    let order = one_by_one script in
    let seen_is = order_seen size order sizes does.allowed in
    let same = explained size (schedule_of size order) (is_size size sizes) in
    record {
      seen = seen_is;
      done = same.done ∙ (ap (plain_done (opening_plain size)) seen_is ∙ does.makes);
      last = same.last ∙ (ap (λ (o : List Event). (plain_run (opening_plain size) o).contents) seen_is ∙ does.leaves);
    }

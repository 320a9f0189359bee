use Rattle.std.proofs.Common.{◌≡◌, Some, true, false, arith, ap, get_or, inl, inr, refl, sym, subst, take, ◌+◌, ◌∙◌}
use Rattle.std.proofs.lemmas.{Bool.{cases_eq, Decides.{nat_tests}}, Grind.{common_steps}}
use Rattle.std.specs.{BTreeMap.{get}, Ordering.{nat_cmp}}
use Rattle.sci_history.specs.{declared.entry.Entry.{Entry}, Placed.{is_making, makes}, Audit.{is_version_twice}}
use Rattle.sci_history.proofs.AuditFinds.{made_more}
use Rattle.sci_reports.specs.{EntryLines.{entries_in, entry_refs}, Faulty.{IsLast, is_made}}
use Rattle.sci_reports.proofs.FoundEntries.{fails_here, fails_later, last_here, last_stays, no_numbered, ref_at, stands_first, within_refs}
use Rattle.sci_reports.proofs.faulty.made_twice.Goals as goal

pub loop-at-preserved-then-not-is_maker : goal.loop-at-preserved-then-not-is_maker
loop-at-preserved-then-not-is_maker c =
    let list = c.args.entries.now in
    let i = c.loop-at.at-index in
    let here : is_version_twice (take i (entries_in list)) (get_or list i no_numbered).entry.now ≡ false = grind (arith, common_steps) in
    record {
      made = λ version.
          let before = c.loop-at.invariant.made version in
          let more = made_more (entry_refs list) i version (within_refs list i c.loop-at-test.true) in
          let same = ap (λ (e : Entry). makes version e) (ref_at list i c.loop-at-test.true) in
          grind (arith, common_steps, nat_tests);
      earlier = λ version.
          let load : is_making (get_or list i no_numbered).entry.now ≡ false = sym c.is_maker.ensures ∙ c.if-not-is_maker.true in
          let other : makes version (get_or list i no_numbered).entry.now ≡ false = rw load refl in
          last_stays (is_made version) list i c.loop-at-test.true (get nat_cmp c.loop-at.made version) other (c.loop-at.invariant.earlier version);
      once = fails_later is_version_twice list i c.loop-at-test.true c.loop-at.invariant.once here;
    }

pub returns-in-Some-clause-first : goal.returns-in-Some-clause-first
returns-in-Some-clause-first c = grind (arith, no_numbered, common_steps, fails_here)

pub loop-at-preserved : goal.loop-at-preserved
loop-at-preserved c =
    let list = c.args.entries.now in
    let i = c.loop-at.at-index in
    let made = c.loop-at.invariant.made (get_or list i no_numbered).entry.now.version in
    let here : is_version_twice (take i (entries_in list)) (get_or list i no_numbered).entry.now ≡ false = grind (arith, common_steps) in
    record {
      made = λ version.
          let before = c.loop-at.invariant.made version in
          let more = made_more (entry_refs list) i version (within_refs list i c.loop-at-test.true) in
          let same = ap (λ (e : Entry). makes version e) (ref_at list i c.loop-at-test.true) in
          grind (arith, common_steps, nat_tests);
      earlier = λ version.
          let it = get_or list i no_numbered in
          let maker : is_making it.entry.now ≡ true = sym c.is_maker.ensures ∙ c.if-not-is_maker.false in
          elim (cases_eq it.entry.now.version version) [
            | inl same ↦
                let made : makes version it.entry.now ≡ true = grind (arith, nat_tests) in
                let got : get nat_cmp c.insert.new.self version ≡ Some it = grind (arith, common_steps, nat_tests) in
                subst (IsLast (is_made version) (take (i + 1) list)) (sym got) (last_here (is_made version) list i c.loop-at-test.true made)
            | inr differs ↦
                let other : makes version it.entry.now ≡ false = grind (arith, nat_tests) in
                let got : get nat_cmp c.insert.new.self version ≡ get nat_cmp c.loop-at.made version = grind (arith, common_steps, nat_tests) in
                subst (IsLast (is_made version) (take (i + 1) list)) (sym got)
                (last_stays (is_made version) list i c.loop-at-test.true (get nat_cmp c.loop-at.made version) other (c.loop-at.invariant.earlier version))
          ];
      once = fails_later is_version_twice list i c.loop-at-test.true c.loop-at.invariant.once here;
    }

pub returns-in-Some-clause-cause : goal.returns-in-Some-clause-cause
returns-in-Some-clause-cause c = grind (arith, no_numbered, common_steps, stands_first)

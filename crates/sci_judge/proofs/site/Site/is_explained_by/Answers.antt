use Rattle.std.proofs.Common.{sym, subst, ◌∙◌, arith}
use Rattle.sci_versions.specs.Versions.{AgreesWith}
use Rattle.sci_judge.specs.{Coherent.{known_last}, Stamped.{AreStamped}}
use Rattle.sci_judge.proofs.Stamps.{stamped_own, stamped_same, stamped_sixteen, stamped_times, stamped_within}
use Rattle.sci_judge.proofs.site.Site.is_explained_by.Goals as goal

pub audit-requires : goal.audit-requires
audit-requires c = grind (arith, stamped_within)

pub returns-in-Lawful : goal.returns-in-Lawful
returns-in-Lawful c = λ _.
    let accesses = c.args.self.now.accesses.now in
    let versions = c.args.versions.now in
    let stamped : AreStamped accesses versions c.in-Some.logs = rw c.in-Some.is at c.in_ok-logs.ensures in
    record {
      logs = c.in-Some.logs;
      contents = c.deref-2.result.now;
      stamped = stamped;
      explains = record {
        versions = record {
          own = stamped_own accesses versions c.in-Some.logs stamped;
          sixteen = stamped_sixteen accesses versions c.in-Some.logs stamped;
          same = stamped_same accesses versions c.in-Some.logs stamped;
          lawful = c.in_ok-audit.ensures.lawful.0 c.in-Lawful.is;
          agrees = subst (AgreesWith (known_last c.args.self.now.last)) (c.deref.ensures ∙ sym c.deref-2.ensures) c.if-not-is_last.ensures;
        };
        times = λ on. stamped_times accesses versions c.in-Some.logs stamped (c.in_ok-timely.ensures c.if-not-timely.false on);
      };
    }

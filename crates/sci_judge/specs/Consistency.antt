-- Whether one order of all operations explains a trace.
use Rattle.std.specs.Prelude.{◌≡◌, Bool, true, false, List, All, Option, Some, None}
use Rattle.sci_history.specs.Sequential.{IsSequentiallyConsistent}
use Rattle.sci_judge.specs.declared.{consistency.Consistency.{Consistency}, logging.Log.{Log}, trace.Trace.{Trace}}
use Rattle.sci_judge.specs.declared.judging.{Judgement.{Judgement}, SiteVersions.{SiteVersions}}
use Rattle.sci_judge.specs.declared.judging.Judgement.TheVariants.{Coherent, NotCoherent, Undecided}
use Rattle.sci_judge.specs.declared.consistency.Consistency.TheVariants as consistency
use Rattle.sci_judge.specs.declared.finding.Freedom.TheVariants.{Forced}
use Rattle.sci_judge.specs.{Cycle.{HasNoOrderAtAll, IsCycle}, Logged.{IsLogOf}}

-- a log of the trace by these versions is sequentially consistent
abbrev pub HasOrder : Trace → List SiteVersions → Type 0
HasOrder trace sites = (log : Log) × IsLogOf trace sites log × IsSequentiallyConsistent log.logs log.last.value

-- no other versions explain the operations at any address
abbrev pub AreAllForced : List SiteVersions → Type 0
AreAllForced sites = All (λ there. there.freedom ≡ Forced) sites

-- the versions are forced, and the log by them is not sequentially consistent
abbrev pub HasNoOrder : Trace → List SiteVersions → Type 0
HasNoOrder trace sites = AreAllForced sites × (log : Log) × IsLogOf trace sites log × (IsSequentiallyConsistent log.logs log.last.value → ⊥)

-- what is answered holds
abbrev pub IsConsistency : (timed : Bool) → Trace → List SiteVersions → Consistency → Type 0
IsConsistency timed trace sites consistency.Sequential = HasOrder trace sites
IsConsistency timed trace sites (consistency.Cycle links) = IsCycle timed trace links.items × HasNoOrderAtAll timed trace
IsConsistency timed trace sites consistency.NotSequential = HasNoOrder trace sites
IsConsistency timed trace sites consistency.Unknown = Unit {0}

-- what is said of one order of all operations holds; it is said of a coherent trace, if it is asked for
abbrev pub IsOrdering : (timed ordered : Bool) → Trace → Judgement → Option Consistency → Type 0
IsOrdering timed ordered trace (Coherent sites) None = ordered ≡ false
IsOrdering timed ordered trace (Coherent sites) (Some consistency) = (ordered ≡ true) × IsConsistency timed trace sites.items consistency
IsOrdering timed ordered trace (NotCoherent address there witness) consistency = consistency ≡ None
IsOrdering timed ordered trace (Undecided address) consistency = consistency ≡ None

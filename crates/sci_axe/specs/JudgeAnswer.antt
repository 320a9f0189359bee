-- What `judge` writes for its input.
use Rattle.std.specs.Prelude.{◌≡◌, ◌⊎◌, ◌++◌, ℕ, Bool, true, false, List, [], Option, Some, None}
use Rattle.sci_words.specs.declared.limits.TheConstants.{MAX_NODES}
use Rattle.sci_text.specs.declared.fault.{TextFault.{TextFault}, TextFaultKind.{TextFaultKind}}
use Rattle.sci_text.specs.declared.fault.TextFaultKind.TheVariants.{TooMany, Memory}
use Rattle.sci_text.specs.{FirstFault.{IsTold}, Log.{log_text}}
use Rattle.sci_command.specs.{declared.outcome.Outcome.{Outcome, TheVariants.{Done}}, Answer.{IsAnswerBy}, Input.{IsReadAs}}
use Rattle.sci_judge.specs.declared.{judging.{Judgement.{Judgement}, SiteVersions.{SiteVersions}}, logging.{Log.{Log}, NoLog.{NoLog}}, trace.Trace.{Trace}}
use Rattle.sci_judge.specs.declared.judging.Judgement.TheVariants.{Coherent, NotCoherent, Undecided}
use Rattle.sci_judge.specs.declared.consistency.Consistency.{Consistency}
use Rattle.sci_judge.specs.{Consistency.{IsOrdering}, Judgement.{AreExplained, IsJudgement, addresses_of}, Logged.{IsLogOf, IsNoLog}}
use Rattle.sci_axe.specs.{declared.judging.JudgeRequest.{JudgeRequest}, Telling.{consistency_text, judgement_text, outcome_of}, Trace.{IsTrace, IsTraceFault}}

-- the text of a log of a trace, of a machine of sixteen nodes
pub record IsLogText (trace : Trace) (sites : List SiteVersions) (text : List ℕ) : Type 0 where
  pub log : Log
  pub of : IsLogOf trace sites log
  pub written : text ≡ log_text MAX_NODES log.logs log.last.value

-- the words of a judgement and of an order, and no line of memory
pub record IsVerdictText (request : JudgeRequest) (trace : Trace) (judgement : Judgement) (lines text : List ℕ) (outcome : Outcome) : Type 0 where
  pub consistency : Option Consistency
  pub ordering : IsOrdering request.timed request.ordered trace judgement consistency
  pub written : text ≡ judgement_text judgement ++ consistency_text trace.accesses.items consistency
  pub ends : outcome ≡ outcome_of judgement consistency
  pub no_lines : lines ≡ []

-- the sites of a coherent trace, if its log is asked for
abbrev pub logged_sites : (logs : Bool) → Judgement → Option (List SiteVersions)
logged_sites true (Coherent sites) = Some sites.items
logged_sites true (NotCoherent address there witness) = None
logged_sites true (Undecided address) = None
logged_sites false judgement = None

-- What is written of a trace: the verdict, or the log by versions at each address. Then `lines` are the addresses of its lines
-- of memory.
abbrev pub IsToldBy : JudgeRequest → Option (List SiteVersions) → Trace → Judgement → (lines text : List ℕ) → Outcome → Type 0
IsToldBy request None trace judgement lines text outcome = IsVerdictText request trace judgement lines text outcome
IsToldBy request (Some sites) trace judgement lines text outcome = IsLogText trace sites text × (outcome ≡ Done) × (lines ≡ addresses_of sites)

-- the input is the text of a trace, and what is written of it is of a judgement that holds
pub record IsJudged (request : JudgeRequest) (lines input text : List ℕ) (outcome : Outcome) : Type 0 where
  pub trace : Trace
  pub read : IsTrace input trace
  pub judgement : Judgement
  pub holds : IsJudgement request.timed trace judgement
  pub told : IsToldBy request (logged_sites request.logs judgement) trace judgement lines text outcome

-- the input is the text of a trace that is coherent, and that has no log, or none was found
pub record IsUnlogged (request : JudgeRequest) (input : List ℕ) : Type 0 where
  pub asked : request.logs ≡ true
  pub trace : Trace
  pub read : IsTrace input trace
  pub sites : List SiteVersions
  pub explained : AreExplained request.timed trace sites
  pub why : NoLog
  pub none : IsNoLog trace sites why

-- why there is no answer: the input has a fault, or there is no log
abbrev pub IsJudgeRefusal : JudgeRequest → TextFaultKind → Option (List ℕ) → Bool → ℕ → Type 0
IsJudgeRefusal request kind known failed line =
    IsTold IsTraceFault kind known failed line ⊎ ((kind ≡ TooMany) × (line ≡ 0) × IsReadAs known failed (IsUnlogged request))

-- what `judge` writes, and how it ends, for the bytes of a reader, which has failed or not
abbrev pub IsJudgeAnswer : JudgeRequest → (lines : List ℕ) → Option (List ℕ) → Bool → List ℕ → Outcome → Type 0
IsJudgeAnswer request lines = IsAnswerBy (IsJudged request lines) (IsJudgeRefusal request)

-- ---- inside

-- why there is no log of a trace: memory was refused, or it has none, or none was found
abbrev pub IsNoLogFault : Trace → List SiteVersions → TextFault → Type 0
IsNoLogFault trace sites fault = (fault.line ≡ 0) × ((fault.kind ≡ Memory) ⊎ ((fault.kind ≡ TooMany) × (why : NoLog) × IsNoLog trace sites why))

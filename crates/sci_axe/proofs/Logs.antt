-- What is told of a trace whose log is asked for.
use Rattle.std.proofs.Common.{◌≡◌, ℕ, Bool, true, false, List, Option, Some, None, Result, Ok, Err, refl, subst, inl, inr}
use Rattle.std.specs.Prelude.{IfOk, IfErr, OnOk}
use Rattle.sci_text.specs.declared.fault.{TextFault.{TextFault}, TextFaultKind.{TextFaultKind}}
use Rattle.sci_text.specs.declared.fault.TextFaultKind.TheVariants.{Memory}
use Rattle.sci_text.specs.FirstFault.{AreRead, IsTold}
use Rattle.sci_command.specs.declared.{answer.Answer.{Answer}, outcome.Outcome.{Outcome, TheVariants.{Done, Refused}}, refusal.Refusal.{Refusal}}
use Rattle.sci_command.specs.Answer.{IsAnswered}
use Rattle.sci_command.proofs.Answers.{answer_made}
use Rattle.sci_judge.specs.declared.{judging.{Judgement.{Judgement}, SiteVersions.{SiteVersions}}, trace.Trace.{Trace}}
use Rattle.sci_judge.specs.declared.judging.Judgement.TheVariants.{Coherent, NotCoherent, Undecided}
use Rattle.sci_judge.specs.Judgement.{AreExplained, IsJudgement, addresses_of}
use Rattle.sci_axe.specs.{declared.judging.JudgeRequest.{JudgeRequest}, Trace.{IsTrace, IsTraceFault}}
use Rattle.sci_axe.specs.JudgeAnswer.{IsJudgeAnswer, IsJudgeRefusal, IsJudged, IsLogText, IsNoLogFault, IsToldBy, IsVerdictText, logged_sites}

pub verdict_told : (request : JudgeRequest) (trace : Trace) (judgement : Judgement) (lines text : List ℕ) (outcome : Outcome)
    → None ≡ logged_sites request.logs judgement → IsVerdictText request trace judgement lines text outcome
    → IsToldBy request (logged_sites request.logs judgement) trace judgement lines text outcome
verdict_told request trace judgement lines text outcome none verdict =
    subst (λ (sites : Option (List SiteVersions)). IsToldBy request sites trace judgement lines text outcome) none verdict

pub log_told : (request : JudgeRequest) (trace : Trace) (judgement : Judgement) (sites : List SiteVersions) (lines text : List ℕ) (outcome : Outcome)
    → Some sites ≡ logged_sites request.logs judgement → IsLogText trace sites text → outcome ≡ Done → lines ≡ addresses_of sites
    → IsToldBy request (logged_sites request.logs judgement) trace judgement lines text outcome
log_told request trace judgement sites lines text outcome some log done told =
    subst (λ (s : Option (List SiteVersions)). IsToldBy request s trace judgement lines text outcome) some (log, done, told)

same_sites : (xs ys : List SiteVersions) → Some xs ≡ Some ys → ys ≡ xs
same_sites xs ys is = cc

asked : (logs : Bool) (judgement : Judgement) (sites : List SiteVersions) → Some sites ≡ logged_sites logs judgement → logs ≡ true
asked true judgement sites is = refl
asked false judgement sites is = absurd (cc)

explained : (logs timed : Bool) (trace : Trace) (judgement : Judgement) (sites : List SiteVersions) → Some sites ≡ logged_sites logs judgement
    → IsJudgement timed trace judgement → AreExplained timed trace sites
explained true timed trace (Coherent found) sites is holds = subst (AreExplained timed trace) (same_sites sites found.items is) holds
explained true timed trace (NotCoherent address there witness) sites is holds = absurd (cc)
explained true timed trace (Undecided address) sites is holds = absurd (cc)
explained false timed trace judgement sites is holds = absurd (cc)

memory_told : (known : Option (List ℕ)) (kind : TextFaultKind) (failed : Bool) (line : ℕ) → kind ≡ Memory → failed ≡ false → line ≡ 0
    → IsTold IsTraceFault kind known failed line
memory_told known Memory failed line is unfailed at = (unfailed, at)
memory_told known kind failed line is unfailed at = absurd (cc)

-- a trace that has no log
pub unlogged : (request : JudgeRequest) (known : Option (List ℕ)) (failed : Bool) (bytes : List ℕ) (trace : Trace) (judgement : Judgement)
    (sites : List SiteVersions) (fault : TextFault) → failed ≡ false → AreRead known bytes → IsTrace bytes trace
    → IsJudgement request.timed trace judgement → Some sites ≡ logged_sites request.logs judgement → IsNoLogFault trace sites fault
    → IsJudgeRefusal request fault.kind known failed fault.line
unlogged request known failed bytes trace judgement sites fault unfailed read is holds some none = elim none.1 [
  | inl memory ↦ inl (memory_told known fault.kind failed fault.line memory unfailed none.0)
  | inr many ↦ inr (
    many.0,
    none.0,
    (
      unfailed,
      (
        bytes,
        read,
        record {
          asked = asked request.logs judgement sites some;
          trace = trace;
          read = is;
          sites = sites;
          explained = explained request.logs request.timed trace judgement sites some holds;
          why = many.1;
          none = many.2;
        },
      ),
    ),
  )
]

not_refused : (outcome : Outcome) → outcome ≡ Done → outcome ≡ Refused → ⊥
not_refused outcome done refused = cc

-- a trace whose log is asked for: the log, or why there is none
pub log_answered : (request : JudgeRequest) (lines : List ℕ) (known : Option (List ℕ)) (failed : Bool) (bytes : List ℕ) (trace : Trace)
    (judgement : Judgement) (sites : List SiteVersions) (result : Result Answer Refusal) → failed ≡ false → AreRead known bytes → IsTrace bytes trace
    → IsJudgement request.timed trace judgement → Some sites ≡ logged_sites request.logs judgement
    → IfOk result (λ answer. IsLogText trace sites answer.text.items) → IfOk result (λ answer. answer.outcome ≡ Done)
    → OnOk result (lines ≡ addresses_of sites) → IfErr result (λ refusal. IsNoLogFault trace sites refusal.fault)
    → IsAnswered (IsJudgeAnswer request lines) (IsJudgeRefusal request) known failed result
log_answered request lines known failed bytes trace judgement sites (Ok answer) unfailed read is holds some log done told none =
    answer_made (IsJudged request lines) (IsJudgeRefusal request) known failed answer.text.items answer.outcome (not_refused answer.outcome done) (
      unfailed,
      (
        bytes,
        read,
        record {
          trace = trace;
          read = is;
          judgement = judgement;
          holds = holds;
          told = log_told request trace judgement sites lines answer.text.items answer.outcome some log done told;
        },
      ),
    )
log_answered request lines known failed bytes trace judgement sites (Err refusal) unfailed read is holds some log done told none =
    unlogged request known failed bytes trace judgement sites refusal.fault unfailed read is holds some none

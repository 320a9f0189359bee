-- A page of a text, or why there is none, as it is told of an input that was read.
use Rattle.std.proofs.Common.{◌≡◌, ◌∙◌, ℕ, List, Bool, false, Option, Result, Ok, Err, ap, inl, inr, subst}
use Rattle.std.specs.Prelude.{IfErr, IfOk}
use Rattle.sci_text.specs.declared.fault.{TextFault.{TextFault}, TextFaultKind.{TextFaultKind}}
use Rattle.sci_text.specs.declared.fault.TextFaultKind.TheVariants.{Syntax, Range, TooMany, Read, Write, Memory}
use Rattle.sci_text.specs.FirstFault.{AreRead, IsRefusalOf}
use Rattle.sci_text.proofs.FirstFaults.{told_of_bytes}
use Rattle.sci_command.specs.declared.{answer.Answer.{Answer}, outcome.Outcome.TheVariants.{Done}, refusal.Refusal.{Refusal}}
use Rattle.sci_command.specs.Answer.{IsAnswered}
use Rattle.sci_charts.specs.declared.charting.ChartRequest.{ChartRequest}
use Rattle.sci_pages.specs.declared.{kind.PageKind.{PageKind}}
use Rattle.sci_pages.specs.{PageKind.{kind_of}, PageText.{page_text}, WithoutData.{IsWithoutPage}}
use Rattle.sci_pages.specs.PageAnswer.{AreDataFor, IsFaultFor, IsPageAnswer, IsPageOf, IsPageRefusal, IsPagedFault}

-- ---- why a text has no data, or no page

same_fault : (kind : TextFaultKind) (input : List ℕ) (line : ℕ) → IsRefusalOf (IsFaultFor (kind_of input)) kind input line
    → IsRefusalOf IsPagedFault kind input line
same_fault Syntax input line is = is
same_fault Range input line is = is
same_fault TooMany input line is = is
same_fault Read input line is = is
same_fault Write input line is = is
same_fault Memory input line is = is

-- ---- a page that is made

module _ (request : ChartRequest) (title : Option (List ℕ)) (input : List ℕ) (kind : PageKind) (body text : List ℕ) (is : kind ≡ kind_of input)
    (there : AreDataFor kind request input body) (written : text ≡ page_text kind title body) where
  here : AreDataFor (kind_of input) request input body
  here = subst (λ (k : PageKind). AreDataFor k request input body) is there

  as_said : text ≡ page_text (kind_of input) title body
  as_said = written ∙ ap (λ (k : PageKind). page_text k title body) is

-- ---- what is told of an input

without_page : (request : ChartRequest) (title : Option (List ℕ)) (known : Option (List ℕ)) (failed : Bool) (bytes : List ℕ) (fault : TextFault)
    → failed ≡ false → AreRead known bytes → IsWithoutPage request title bytes fault
    → IsPageRefusal request title fault.kind known failed fault.line
without_page request title known failed bytes fault unfailed read (inl first) =
    let result : Result Answer TextFault = Err fault in inl (told_of_bytes IsPagedFault known failed bytes result unfailed read first)
without_page request title known failed bytes fault unfailed read (inr (inl lacks)) = inr (inl (lacks.0, lacks.1, (unfailed, (bytes, read, lacks.2))))
without_page request title known failed bytes fault unfailed read (inr (inr long)) = inr (inr (long.0, long.1, (unfailed, (bytes, read, long.2))))

-- what was made of the bytes is the answer to the input
pub paged_answers : (request : ChartRequest) (title : Option (List ℕ)) (known : Option (List ℕ)) (failed : Bool) (bytes slice : List ℕ)
    (result : Result Answer Refusal) → failed ≡ false → AreRead known bytes → slice ≡ bytes
    → IfOk result (λ x. (x.outcome ≡ Done) × IsPageOf request title slice x.text.items)
    → IfErr result (λ refusal. IsWithoutPage request title slice refusal.fault)
    → IsAnswered (IsPageAnswer request title) (IsPageRefusal request title) known failed result
paged_answers request title known failed bytes slice (Ok x) ok read same made refused =
    (λ is. (let apart = made.0 in cc), rw made.0 (ok, (bytes, read, subst (λ (i : List ℕ). IsPageOf request title i x.text.items) same made.1)))
paged_answers request title known failed bytes slice (Err refusal) ok read same made refused =
    without_page request title known failed bytes refusal.fault ok read
    (subst (λ (i : List ℕ). IsWithoutPage request title i refusal.fault) same refused)

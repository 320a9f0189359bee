-- What reading a text as one kind after another comes to.
use Rattle.std.proofs.Common.{◌≡◌, ℕ, ◌+◌, ◌<◌, ◌≤◌, ◌⊎◌, List, [], ◌∷◌, ◌++◌, length, take, refl, sym, ap, ◌∙◌, subst, arith, inl, inr}
use Rattle.std.proofs.lemmas.List.{append-nil, take_all}
use Rattle.std.specs.Prelude.{Bool, false, Option, Result, Ok, Err, IfOk, IfErr}
use Rattle.sci_history.specs.{declared.entry.Entry.{Entry}, Placed.{log_of}}
use Rattle.sci_text.specs.declared.fault.{TextFault.{TextFault}, TextFaultKind.{TextFaultKind}}
use Rattle.sci_text.specs.declared.fault.TextFaultKind.TheVariants.{Syntax, Read, Write, Memory}
use Rattle.sci_text.specs.declared.log_form.Form.{Form}
use Rattle.sci_text.specs.FirstFault.{AreRead, HasNoFault, IsFirstFault, IsRefusal, IsRefusalOf, IsTold}
use Rattle.sci_text.specs.LogFault.{BeginsFront, HasMore, IsLogFault, LogLineFault, SizeFault, line_count}
use Rattle.sci_text.specs.LogValue.{AreLogs, Front, IsForm, IsLogs, entry_count}
use Rattle.sci_text.specs.Schedule.{ScheduleValue, IsSchedule, schedule_text}
use Rattle.sci_text.specs.ScheduleFault.{BeginsSchedule, EventFault, IsScheduleFault}
use Rattle.sci_text.specs.Script.{ScriptValue, IsScript, script_text}
use Rattle.sci_text.specs.ScriptFault.{BeginsScript, IsScriptFault, MachineFault, OperationFault}
use Rattle.sci_words.specs.declared.{limits.TheConstants.{MAX_OPERATIONS}, stamped.Stamped.{Stamped}}
use Rattle.sci_command.specs.{Answer.{IsAnswered}, declared.{answer.Answer.{Answer}, outcome.Outcome.TheVariants.{Done}, refusal.Refusal.{Refusal}}}
use Rattle.sci_command.specs.declared.text_lines.TextKind.{TextKind, TheVariants.{Script, Schedule, Log}}
use Rattle.sci_command.proofs.Answers.{answer_refused}
use Rattle.sci_reports.specs.declared.checking.{Reading.{Reading, TheVariants.{Size, Fault}}, TextSize.{TextSize}}
use Rattle.sci_reports.specs.declared.checking.Readings.{Readings}
use Rattle.sci_reports.specs.CheckAnswer.{IsCheckAnswer, IsKnown, IsLastFault, IsLogText, IsNoLater, IsSaid, IsScheduleText}
use Rattle.sci_reports.specs.CheckAnswer.{IsScriptText, kind_name, log_size, schedule_size, script_size, size_text}
use Rattle.sci_reports.specs.TextReadings.{AreReadings, IsReading, known_text, said_of}

-- ---- readings

first_of : (is_first : List ℕ → ℕ → TextFaultKind → Type 0) (kind : TextFaultKind) (input : List ℕ) (line : ℕ) → IsRefusalOf is_first kind input line
    → (kind ≡ Memory → ⊥) → is_first input line kind
first_of is_first Read input line h none = absurd h
first_of is_first Write input line h none = absurd h
first_of is_first Memory input line h none = absurd (none refl)
first_of is_first Syntax input line h none = h
first_of is_first _ input line h none = h

-- a fault that isn't of memory is the first of its kind of text
pub faulty_reading : {V : Type 0} (is_text : V → Type 0) (size : V → TextSize) (is_first : List ℕ → ℕ → TextFaultKind → Type 0) (input : List ℕ)
    (fault : TextFault) (r : Result Reading TextFault) → IsRefusal is_first input fault
    → IfOk r (λ reading. (reading ≡ Fault fault) × (fault.kind ≡ Memory → ⊥)) → IfOk r (IsReading is_text size (is_first input))
faulty_reading is_text size is_first input fault (Ok reading) refusal h =
    subst (IsReading is_text size (is_first input)) (sym h.0) (first_of is_first fault.kind input fault.line refusal h.1)
faulty_reading is_text size is_first input fault (Err e) refusal h = tt

-- ---- what is said of a text

size_some : (kind : TextKind) (size : TextSize) (rest : List ℕ) → size_text kind size ++ rest ≡ [] → ⊥
unfolding size_text kind_name
size_some Script size rest e = absurd (cc)
size_some _ size rest e = absurd (cc)

said_some : (kind : TextKind) (size : TextSize) (reading : Reading) (rest : List ℕ) → reading ≡ Size size → said_of kind reading ++ rest ≡ [] → ⊥
said_some kind size reading rest is e = size_some kind size rest (subst (λ (r : Reading). said_of kind r ++ rest ≡ []) is e)

right_nil : (xs ys : List ℕ) → xs ++ ys ≡ [] → ys ≡ []
right_nil [] ys e = e
right_nil (x ∷ xs) ys e = absurd (cc)

-- if one of the readings is a size, something is said
pub script_said : (readings : Readings) (size : TextSize) → readings.script ≡ Size size → known_text readings ≡ [] → ⊥
script_said readings size is e = said_some Script size readings.script (said_of Schedule readings.schedule ++ said_of Log readings.log) is e

pub schedule_said : (readings : Readings) (size : TextSize) → readings.schedule ≡ Size size → known_text readings ≡ [] → ⊥
schedule_said readings size is e = grind (arith, said_some, right_nil)

pub log_said : (readings : Readings) (size : TextSize) → readings.log ≡ Size size → known_text readings ≡ [] → ⊥
log_said readings size is e = grind (arith, right_nil, said_some, append-nil)

-- a text with a fault of a kind isn't of that kind
said_is : {V : Type 0} (kind : TextKind) (is_text : V → Type 0) (size : V → TextSize) (is_first : ℕ → TextFaultKind → Type 0) (reading : Reading)
    → ((value : V) → is_text value → (line : ℕ) (fault : TextFaultKind) → is_first line fault → ⊥)
    → IsReading is_text size is_first reading → IsSaid kind is_text size (said_of kind reading)
said_is kind is_text size is_first (Size found) sound h = inl (h.0, h.1, ap (size_text kind) h.2)
said_is kind is_text size is_first (Fault fault) sound h = inr (λ value is. sound value is fault.line fault.kind h, refl)

pub known : (input : List ℕ) (readings : Readings) (text : List ℕ) → ((s : ScriptValue) → IsScript s → HasNoFault IsScriptFault (script_text s))
    → ((s : ScheduleValue) → IsSchedule s → HasNoFault IsScheduleFault (schedule_text s))
    → ((i : List ℕ) (nodes : ℕ) (logs : List (List Entry)) (last : List Stamped) → IsLogs i nodes logs last → HasNoFault IsLogFault i)
    → AreReadings input readings → text ≡ known_text readings → (known_text readings ≡ [] → ⊥) → IsKnown input text
known input readings text scripts schedules logs are is some = record {
  script = said_of Script readings.script;
  schedule = said_of Schedule readings.schedule;
  log = said_of Log readings.log;
  is_script = said_is Script (IsScriptText input) script_size (IsScriptFault input) readings.script
      (λ s h line kind first. scripts s h.0 line kind (subst (λ (i : List ℕ). IsScriptFault i line kind) h.1 first)) are.script;
  is_schedule = said_is Schedule (IsScheduleText input) schedule_size (IsScheduleFault input) readings.schedule
      (λ s h line kind first. schedules s h.0 line kind (subst (λ (i : List ℕ). IsScheduleFault i line kind) h.1 first)) are.schedule;
  is_log = said_is Log (IsLogText input) log_size (IsLogFault input) readings.log (λ v h line kind first. logs input v.0 v.1 v.2 h line kind first) are.log;
  said = is;
  some = λ e. some (sym is ∙ e);
}

-- ---- the last of three faults

no_later_trans : (a b c : ℕ) (k j i : TextFaultKind) → IsNoLater a k b j → IsNoLater b j c i → IsNoLater a k c i
no_later_trans a b c k j i (inl x) (inl y) = inl (omega (arith, x, y))
no_later_trans a b c k j i (inl x) (inr y) = inl (omega (arith, x, y.0))
no_later_trans a b c k j i (inr x) (inl y) = inl (omega (arith, x.0, y))
no_later_trans a b c k j i (inr x) (inr y) = inr (x.0 ∙ y.0, omega (arith, x.1, y.1))

abbrev Is : (List ℕ → ℕ → TextFaultKind → Type 0) → List ℕ → TextKind × TextFault → Type 0
Is is_first input x = is_first input x.1.line x.1.kind

abbrev Before : TextKind × TextFault → TextKind × TextFault → Type 0
Before x y = IsNoLater x.1.line x.1.kind y.1.line y.1.kind

pub last_of_three : (input : List ℕ) (script schedule log machine last : TextKind × TextFault) → Is IsScriptFault input script
    → Is IsScheduleFault input schedule → Is IsLogFault input log
    → (machine ≡ script) ⊎ (machine ≡ schedule) → Before script machine → Before schedule machine
    → (last ≡ log) ⊎ (last ≡ machine) → Before log last → Before machine last → IsLastFault input last.1.line last.1.kind
last_of_three input script schedule log machine last s e l which sm em one ll ml = record {
  script = (script.1.line, script.1.kind, s, no_later_trans script.1.line machine.1.line last.1.line script.1.kind machine.1.kind last.1.kind sm ml);
  schedule = (schedule.1.line, schedule.1.kind, e, no_later_trans schedule.1.line machine.1.line last.1.line schedule.1.kind machine.1.kind last.1.kind em ml);
  log = (log.1.line, log.1.kind, l, ll);
  reached = reached_of which one;
}
  where
    reached_of : (machine ≡ script) ⊎ (machine ≡ schedule) → (last ≡ log) ⊎ (last ≡ machine)
        → IsScriptFault input last.1.line last.1.kind ⊎ IsScheduleFault input last.1.line last.1.kind ⊎ IsLogFault input last.1.line last.1.kind
    reached_of m (inl is) = inr (inr (subst (Is IsLogFault input) (sym is) l))
    reached_of (inl m) (inr is) = inl (subst (Is IsScriptFault input) (sym (is ∙ m)) s)
    reached_of (inr m) (inr is) = inr (inl (subst (Is IsScheduleFault input) (sym (is ∙ m)) e))

-- ---- the answer

-- the first fault of a text isn't of a kind that no line has
first_of_line : {V : Type 0} (opening : List ℕ → TextFaultKind → Type 0) (begins : List ℕ → V → List ℕ → Type 0) (goes_on : V → List ℕ → Type 0) (count : V → ℕ)
    (fault : V → List ℕ → TextFaultKind → Type 0) (input : List ℕ) (line : ℕ) (kind : TextFaultKind) → (opening input kind → ⊥)
    → ((before : V) (rest : List ℕ) → fault before rest kind → ⊥)
    → IsFirstFault opening begins goes_on count fault input line kind → ⊥
first_of_line opening begins goes_on count fault input line kind f g (inl h) = f h.1
first_of_line opening begins goes_on count fault input line kind f g (inr h) = g h.before h.rest h.wrong

-- no line has a fault of such a kind
abbrev IsOfNoLine : TextFaultKind → Type 0
IsOfNoLine kind = ((input : List ℕ) → MachineFault input kind → ⊥) × ((input : List ℕ) → SizeFault input kind → ⊥)
    × ((s : ScriptValue) (rest : List ℕ) → OperationFault s rest kind → ⊥) × ((s : ScheduleValue) (rest : List ℕ) → EventFault s rest kind → ⊥)
    × ((front : Front) (rest : List ℕ) → LogLineFault front rest kind → ⊥)

of_line : (input : List ℕ) (line : ℕ) (kind : TextFaultKind) → IsOfNoLine kind → IsLastFault input line kind → ⊥
of_line input line kind h last = elim last.reached [
  | inl s ↦ first_of_line MachineFault BeginsScript (λ s rest. 0 < length rest) (λ s. length s.operations + 1) OperationFault input line kind (h.0 input) h.2 s
  | inr rest ↦ elim rest [
    | inl s ↦ first_of_line MachineFault BeginsSchedule (λ s rest. 0 < length rest) (λ s. length s.events + 1) EventFault input line kind (h.0 input) h.3 s
    | inr l ↦ first_of_line SizeFault BeginsFront HasMore line_count LogLineFault input line kind (h.1 input) h.4 l
  ]
]

refusal_by : (input : List ℕ) (line : ℕ) (kind : TextFaultKind) → IsLastFault input line kind → IsRefusalOf IsLastFault kind input line
refusal_by input line Read last = absurd (of_line input line Read ((λ i f. f), (λ i f. f.1), (λ s r f. f), (λ s r f. f), (λ s r f. f)) last)
refusal_by input line Write last = absurd (of_line input line Write ((λ i f. f), (λ i f. f.1), (λ s r f. f), (λ s r f. f), (λ s r f. f)) last)
refusal_by input line Memory last = absurd (of_line input line Memory ((λ i f. f), (λ i f. f.1), (λ s r f. f), (λ s r f. f), (λ s r f. f)) last)
refusal_by input line Syntax last = last
refusal_by input line _ last = last

-- the last of the three faults is one that the bytes are refused for
pub last_refusal : (input : List ℕ) (fault other : TextFault) → other ≡ fault → IsLastFault input fault.line fault.kind → IsRefusal IsLastFault input other
last_refusal input fault other is last = subst (IsRefusal IsLastFault input) (sym is) (refusal_by input fault.line fault.kind last)

-- what was made of the bytes is the answer to the input
pub checked_answers : (known : Option (List ℕ)) (failed : Bool) (bytes slice : List ℕ) (result : Result Answer Refusal)
    → failed ≡ false → AreRead known bytes → slice ≡ bytes → IfOk result (λ x. (x.outcome ≡ Done) × IsKnown slice x.text.items)
    → IfErr result (λ refusal. IsRefusal IsLastFault slice refusal.fault) → IsAnswered IsCheckAnswer (IsTold IsLastFault) known failed result
checked_answers known failed bytes slice (Ok x) ok read same checked refused =
    (λ is. (let apart = checked.0 in cc), rw checked.0 (ok, (bytes, read, subst (λ (i : List ℕ). IsKnown i x.text.items) same checked.1)))
checked_answers known failed bytes slice (Err refusal) ok read same checked refused = grind (arith, answer_refused)

-- ---- counting entries

pub count_all : (logs : List (List Entry)) (nodes : ℕ) → nodes ≡ length logs → entry_count (take nodes logs) ≡ entry_count logs
count_all logs nodes is = ap entry_count (take_all nodes logs (omega (arith, is)))

few_of_form : (form : Form) → IsForm form → form.entries ≤ MAX_OPERATIONS
few_of_form form (inl is) = rw (ap (λ (f : Form). f.entries) is) (omega arith)
few_of_form form (inr is) = rw (ap (λ (f : Form). f.entries) is.1) (omega arith)

-- no node of a log's text has more than 65,536 entries
pub few_entries : (nodes : ℕ) (logs : List (List Entry)) (last : List Stamped) → AreLogs nodes logs last → (n : ℕ) → length (log_of logs n) ≤ MAX_OPERATIONS
few_entries nodes logs last h n = omega (arith, h.1.good.few_entries n, few_of_form h.0 h.1.good.form)

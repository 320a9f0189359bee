-- A text that is written piece by piece.
use Rattle.std.proofs.Common.{◌≡◌, ℕ, List, [], ◌++◌, Bool, false, true, Option, refl, sym, ap, subst, ◌∙◌, append_assoc}
use Rattle.std.proofs.{KnownBytes.{Appends-nil, Appends-trans}, lemmas.List.{append-nil}}
use Rattle.std.specs.{Prelude.{Result, Ok, Err, OnOk, IfErr}, Io.KnownBytes.{Appends}}
use Rattle.sci_text.specs.declared.fault.{TextFault.{TextFault}, TextFaultKind.TheVariants.{Write}}
use Rattle.sci_text.specs.Writing.{IsWriteFault}
use Rattle.sci_command.specs.Writing.{IsPrinted, WritesFront}
use Rattle.sci_command.proofs.Written.{front_written}

-- a piece waits behind what waits
pub waits_more : (old new : Option (List ℕ)) (failed : Bool) (waiting text piece : List ℕ) → IsPrinted old new failed waiting text
    → IsPrinted old new failed (waiting ++ piece) (text ++ piece)
waits_more old new failed waiting text piece is =
    let front = is.front in record {
      front = record {
        written = front.written;
        rest = front.rest ++ piece;
        parts = ap (λ (l : List ℕ). l ++ piece) front.parts ∙ append_assoc front.written front.rest piece;
        appended = front.appended;
      };
      waits = λ unfailed.
          let waits = is.waits unfailed in
          (waits.0, waits.1, ap (λ (l : List ℕ). l ++ piece) waits.2 ∙ append_assoc waits.0 waiting piece);
    }

-- what waits is written, or a front of it if the write fails
pub wrote_waiting : (old mid new : Option (List ℕ)) (failed : Bool) (waiting text : List ℕ) → IsPrinted old mid false waiting text
    → WritesFront mid new waiting → (failed ≡ false → Appends mid new waiting) → IsPrinted old new failed [] text
wrote_waiting old mid new failed waiting text is front whole =
    let waits = is.waits refl in record {
      front = record {
        written = waits.0 ++ front.written;
        rest = front.rest;
        parts = waits.2 ∙ ap (λ (l : List ℕ). waits.0 ++ l) front.parts ∙ sym (append_assoc waits.0 front.written front.rest);
        appended = Appends-trans old mid new waits.0 front.written waits.1 front.appended;
      };
      waits = λ unfailed. (
        text,
        subst (Appends old new) (sym waits.2) (Appends-trans old mid new waits.0 waiting waits.1 (whole unfailed)),
        sym (append-nil text),
      );
    }

-- what came of the write
pub wrote : (old mid new : Option (List ℕ)) (before failed : Bool) (waiting text : List ℕ) (result : Result (Unit {0}) TextFault) → before ≡ false
    → OnOk result (Appends mid new waiting) → IfErr result (λ fault. fault.kind ≡ Write)
    → IfErr result (λ fault. IsWriteFault fault.kind mid new failed waiting) → IsPrinted old mid before waiting text → IsPrinted old new failed [] text
wrote old mid new before failed waiting text (Ok u) unfailed whole kind fault is =
    wrote_waiting old mid new failed waiting text (rw unfailed at is)
    (record { written = waiting; rest = []; parts = sym (append-nil waiting); appended = whole }) (λ ok. whole)
wrote old mid new before failed waiting text (Err e) unfailed whole kind fault is =
    let why : IsWriteFault Write mid new failed waiting = rw kind at fault in
    wrote_waiting old mid new failed waiting text (rw unfailed at is) (front_written mid new failed waiting why)
    (λ ok. let clash : false ≡ true = sym ok ∙ why.0 in absurd cc)

-- nothing is printed yet, and nothing waits
pub nothing_printed : (start : Option (List ℕ)) (failed : Bool) (waiting : List ℕ) → failed ≡ false → waiting ≡ [] → IsPrinted start start failed waiting []
nothing_printed start failed waiting unfailed none = record {
  front = record { written = []; rest = []; parts = refl; appended = Appends-nil start };
  waits = λ ok. ([], Appends-nil start, sym none);
}

-- what is printed of a text is printed of the same text under another name
pub as_text : {start new : Option (List ℕ)} {failed : Bool} {waiting text other : List ℕ} → text ≡ other → IsPrinted start new failed waiting text
    → IsPrinted start new failed waiting other
as_text {start} {new} {failed} {waiting} same printed = subst (IsPrinted start new failed waiting) same printed

pub as_said : {start new : Option (List ℕ)} {failed : Bool} {waiting : List ℕ} (text : List ℕ) {piece said : List ℕ} → piece ≡ said
    → IsPrinted start new failed waiting (text ++ piece) → IsPrinted start new failed waiting (text ++ said)
as_said text same printed = as_text (ap (λ (l : List ℕ). text ++ l) same) printed

-- Bytes begin with packets in one way, up to a rest that no packet begins.
use Rattle.std.proofs.Common.{◌≡◌, ◌∙◌, ℕ, ◌<◌, ◌≤◌, List, [], ◌∷◌, ◌++◌, length, take, drop, All, Some, refl, sym, ap, append_assoc, arith, inl, inr}
use Rattle.std.proofs.{Common.{length-append}, Math.Seq.{take-append_seam}, lemmas.Bool.{cases_lt}}
use Rattle.std.proofs.lemmas.List.{take-append-drop, take-append-le, append_cancel_left, append-nil}
use Rattle.std.proofs.lemmas.List.Elements.{All-head, All-tail}
use Rattle.sci_packets.specs.{declared.{packet.Packet.{Packet}, fault.PacketFault.{PacketFault}}, Fault.{fault_of}}
use Rattle.sci_packets.specs.Spelling.{IsPacket, Spells, NoneSpells, spelling}
use Rattle.sci_command.specs.declared.outcome.Outcome.{Outcome}
use Rattle.scimem.specs.Decoding.{PacketsThen, ArePackets, ArePacketsThenFault, IsDecoded, spellings, packet_lines, refusal, fault_word}
use Rattle.scimem.proofs.PacketRuns.{shorter}

abbrev pub NoProperPrefix : Type 0
NoProperPrefix = (p q : Packet) (bytes more : List ℕ) → Spells p bytes → Spells q (bytes ++ more) → more ≡ []

abbrev pub OnePacket : Type 0
OnePacket = (p q : Packet) (bytes : List ℕ) → Spells p bytes → Spells q bytes → p ≡ q

-- the shorter of two fronts begins the longer
begins : (a b x y : List ℕ) → a ++ x ≡ b ++ y → length a ≤ length b → b ≡ a ++ drop (length a) b
begins a b x y e le =
    let front : a ≡ take (length a) b = sym (take-append_seam a x) ∙ ap (λ (l : List ℕ). take (length a) l) e ∙ take-append-le (length a) b y le in
    sym (take-append-drop (length a) b) ∙ ap (λ (l : List ℕ). l ++ drop (length a) b) (sym front)

same_ordered : NoProperPrefix → OnePacket → (p q : Packet) (x y : List ℕ) → IsPacket p → IsPacket q → spelling p ++ x ≡ spelling q ++ y
    → length (spelling p) ≤ length (spelling q) → p ≡ q
same_ordered no_prefix one p q x y h k e le =
    let more = drop (length (spelling p)) (spelling q) in
    let parts : spelling q ≡ spelling p ++ more = begins (spelling p) (spelling q) x y e le in
    let first : Spells p (spelling p) = record { packet = h; spelled_so = refl } in
    let second : Spells q (spelling p ++ more) = record { packet = k; spelled_so = sym parts } in
    let none : more ≡ [] = no_prefix p q (spelling p) more first second in
    let whole : spelling p ≡ spelling q = sym (append-nil (spelling p)) ∙ ap (λ (l : List ℕ). spelling p ++ l) (sym none) ∙ sym parts in
    let third : Spells q (spelling p) = record { packet = k; spelled_so = whole } in
    one p q (spelling p) first third

same_first : NoProperPrefix → OnePacket → (p q : Packet) (x y : List ℕ) → IsPacket p → IsPacket q → spelling p ++ x ≡ spelling q ++ y → p ≡ q
same_first no_prefix one p q x y h k e =
    elim (cases_lt (length (spelling p)) (length (spelling q))) [
      | inl lt ↦ same_ordered no_prefix one p q x y h k e (omega arith)
      | inr le ↦ sym (same_ordered no_prefix one q p y x k h (sym e) le)
    ]

-- bytes that a packet begins aren't such that none does
begun : (rest : List ℕ) (p : Packet) (more : List ℕ) → NoneSpells rest → IsPacket p → rest ≡ spelling p ++ more → ⊥
begun rest p more none h e =
    let size = length (spelling p) in
    let fits : size ≤ length rest = omega (arith, ap length e, length-append (spelling p) more) in
    let front : take size rest ≡ spelling p = ap (λ (l : List ℕ). take size l) e ∙ take-append_seam (spelling p) more in
    none p size fits (record { packet = h; spelled_so = front })

after_first : (p : Packet) (ps : List Packet) (rest : List ℕ) → spellings (p ∷ ps) ++ rest ≡ spelling p ++ (spellings ps ++ rest)
after_first p ps rest = append_assoc (spelling p) (spellings ps) rest

same_run : NoProperPrefix → OnePacket → (ps qs : List Packet) (r s : List ℕ) → All IsPacket ps → All IsPacket qs → NoneSpells r → NoneSpells s
    → spellings ps ++ r ≡ spellings qs ++ s → (ps ≡ qs) × (r ≡ s)
same_run no_prefix one [] [] r s h k nr ns e = (refl, e)
same_run no_prefix one [] (q ∷ qs) r s h k nr ns e = absurd (begun r q (spellings qs ++ s) nr (All-head IsPacket q qs k) (e ∙ after_first q qs s))
same_run no_prefix one (p ∷ ps) [] r s h k nr ns e = absurd (begun s p (spellings ps ++ r) ns (All-head IsPacket p ps h) (sym e ∙ after_first p ps r))
same_run no_prefix one (p ∷ ps) (q ∷ qs) r s h k nr ns e =
    let both : spelling p ++ (spellings ps ++ r) ≡ spelling q ++ (spellings qs ++ s) = sym (after_first p ps r) ∙ e ∙ after_first q qs s in
    let first : p ≡ q = same_first no_prefix one p q (spellings ps ++ r) (spellings qs ++ s) (All-head IsPacket p ps h) (All-head IsPacket q qs k) both in
    let rest : spellings ps ++ r ≡ spellings qs ++ s =
    append_cancel_left (spelling q) (spellings ps ++ r) (spellings qs ++ s) (ap (λ (x : Packet). spelling x ++ (spellings ps ++ r)) (sym first) ∙ both) in
    let others = same_run no_prefix one ps qs r s (All-tail IsPacket p ps h) (All-tail IsPacket q qs k) nr ns rest in
    (ap (λ (x : Packet). x ∷ ps) first ∙ ap (λ (xs : List Packet). q ∷ xs) others.0, others.1)

none_empty : NoneSpells []
none_empty p k le s = let pos : 0 < k = shorter [] p k s in absurd (omega arith)

one_input : NoProperPrefix → OnePacket → (input : List ℕ) (ps qs : List Packet) (r s : List ℕ) → PacketsThen input ps r → PacketsThen input qs s → NoneSpells r
    → NoneSpells s → (ps ≡ qs) × (r ≡ s)
one_input no_prefix one input ps qs r s h k nr ns = same_run no_prefix one ps qs r s h.each k.each nr ns (sym h.parts ∙ k.parts)

not_both : NoProperPrefix → OnePacket → (input text other : List ℕ) → ArePackets input text → ArePacketsThenFault input other → ⊥
not_both no_prefix one input text other h k =
    let same = one_input no_prefix one input h.packets k.packets [] k.rest h.run k.run none_empty k.none in
    let goes_on = k.goes_on in
    absurd (omega (arith, ap length same.1))

same_fault : (r s : List ℕ) (f g : PacketFault) → r ≡ s → fault_of r ≡ Some f → fault_of s ≡ Some g → f ≡ g
same_fault r s f g e h k = let found : fault_of r ≡ fault_of s = ap fault_of e in cc

two_faults : NoProperPrefix → OnePacket → (input text other : List ℕ) → ArePacketsThenFault input text → ArePacketsThenFault input other → text ≡ other
two_faults no_prefix one input text other h k =
    let same = one_input no_prefix one input h.packets k.packets h.rest k.rest h.run k.run h.none k.none in
    let fault = same_fault h.rest k.rest h.fault k.fault same.1 h.found k.found in
    h.lines ∙ ap (λ (ps : List Packet). packet_lines ps ++ refusal (length (spellings ps)) (fault_word h.fault)) same.0
    ∙ ap (λ (f : PacketFault). packet_lines k.packets ++ refusal (length (spellings k.packets)) (fault_word f)) fault ∙ sym k.lines

two_runs : NoProperPrefix → OnePacket → (input text other : List ℕ) → ArePackets input text → ArePackets input other → text ≡ other
two_runs no_prefix one input text other h k =
    let same = one_input no_prefix one input h.packets k.packets [] [] h.run k.run none_empty none_empty in
    h.lines ∙ ap packet_lines same.0 ∙ sym k.lines

pub one_text : NoProperPrefix → OnePacket → (input text other : List ℕ) (outcome another : Outcome) → IsDecoded input text outcome
    → IsDecoded input other another
    → (text ≡ other) × (outcome ≡ another)
one_text no_prefix one input text other outcome another (inl h) (inl k) = (two_runs no_prefix one input text other h.0 k.0, h.1 ∙ sym k.1)
one_text no_prefix one input text other outcome another (inl h) (inr k) = absurd (not_both no_prefix one input text other h.0 k.0)
one_text no_prefix one input text other outcome another (inr h) (inl k) = absurd (not_both no_prefix one input other text k.0 h.0)
one_text no_prefix one input text other outcome another (inr h) (inr k) = (two_faults no_prefix one input text other h.0 k.0, h.1 ∙ sym k.1)

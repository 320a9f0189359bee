use Rattle.std.proofs.{Common.{◌≡◌, ◌/◌, Some, Ok, Err, refl, arith}, lemmas.Result.{err_from_is_err_and}}
use Rattle.sci_packets.specs.{declared.fault.PacketFault.TheVariants.{Short}, Fault.{fault_of, fault_of_words}}
use Rattle.sci_packets.specs.Fields.{word_bytes}
use Rattle.sci_packets.proofs.{Fields.{length-word_bytes}, FromWords.{Only, only_words, none_in_words}}
use Rattle.sci_packets.proofs.Packets.{Found, only_found, is_found, too_short}
use Rattle.sci_packets.proofs.WordLaws.{BeginsWords, begins_words, word_bytes-fits}
use Rattle.sci_packets.proofs.words.from_words.Goals.{Then-words-lt-SHORT_WORDS, After-from_residual, After-size_of}
use Rattle.sci_packets.proofs.words.from_words.Goals as goal

none_if_short : (c : Then-words-lt-SHORT_WORDS) → Some Short ≡ fault_of (word_bytes c.args.words.now)
none_if_short c = too_short (word_bytes c.args.words.now) (omega (arith, length-word_bytes c.args.words.now))

only_if_short : (c : Then-words-lt-SHORT_WORDS) → Only (word_bytes c.args.words.now) (Err Short)
only_if_short c = only_found (word_bytes c.args.words.now) (Err Short) (word_bytes-fits c.args.words.now) tt tt (none_if_short c)

pub returns-then-words-lt-SHORT_WORDS-clause-only : goal.returns-then-words-lt-SHORT_WORDS-clause-only
returns-then-words-lt-SHORT_WORDS-clause-only c = λ p k le h. absurd (none_in_words c.args.words.now Short (only_if_short c) p k le h)

pub returns-then-words-lt-SHORT_WORDS-clause-none : goal.returns-then-words-lt-SHORT_WORDS-clause-none
returns-then-words-lt-SHORT_WORDS-clause-none c = (λ e. none_in_words c.args.words.now Short (only_if_short c), λ none. refl)

pub returns-then-words-lt-SHORT_WORDS-clause-fault : goal.returns-then-words-lt-SHORT_WORDS-clause-fault
unfolding fault_of_words
returns-then-words-lt-SHORT_WORDS-clause-fault c = none_if_short c

pub packet_of-requires-clause-long : goal.packet_of-requires-clause-long
packet_of-requires-clause-long c = omega (arith, length-word_bytes c.args.words.now)

only_if_refused : (c : After-from_residual) → Only (word_bytes c.args.words.now) (Err c.in_err-packet.field-0.0)
only_if_refused c = only_found (word_bytes c.args.words.now) (Err c.in_err-packet.field-0.0) (word_bytes-fits c.args.words.now) tt tt
    c.in_err-packet.ensures.fault

pub returns-in_err-packet-clause-only : goal.returns-in_err-packet-clause-only
returns-in_err-packet-clause-only c = λ p k le h. absurd (none_in_words c.args.words.now c.in_err-packet.field-0.0 (only_if_refused c) p k le h)

pub returns-in_err-packet-clause-none : goal.returns-in_err-packet-clause-none
returns-in_err-packet-clause-none c =
    (λ e. none_in_words c.args.words.now c.in_err-packet.field-0.0 (only_if_refused c), λ none. c.from_residual.ensures.0)

pub returns-in_err-packet-clause-fault : goal.returns-in_err-packet-clause-fault
unfolding fault_of_words
returns-in_err-packet-clause-fault c = grind (arith, err_from_is_err_and)

found : (c : After-size_of) → Found c.in_ok-packet.packet c.size_of.result (word_bytes c.args.words.now)
found c = grind (arith, is_found, word_bytes-fits)

begins : (c : After-size_of) → BeginsWords c.in_ok-packet.packet (c.size_of.result / 8) c.args.words.now
begins c =
    begins_words c.in_ok-packet.packet c.size_of.result c.args.words.now (λ i. omega (arith, c.type_inv.words i)) (found c).within (found c).spells

pub returns-clause-found : goal.returns-clause-found
returns-clause-found c = (begins c).spells

pub returns-clause-length : goal.returns-clause-length
returns-clause-length c = (begins c).within

pub returns-clause-only : goal.returns-clause-only
returns-clause-only c =
    only_words c.args.words.now c.in_ok-packet.packet c.size_of.result
    (only_found (word_bytes c.args.words.now) (Ok (c.in_ok-packet.packet, c.size_of.result)) (word_bytes-fits c.args.words.now) (found c).spells
    (found c).within c.in_ok-packet.ensures.fault)

pub returns-clause-none : goal.returns-clause-none
returns-clause-none c = (λ e. absurd cc, λ none. absurd (none c.in_ok-packet.packet (c.size_of.result / 8) (begins c).within (begins c).spells))

pub returns-clause-fault : goal.returns-clause-fault
unfolding fault_of_words
returns-clause-fault c = c.in_ok-packet.ensures.fault

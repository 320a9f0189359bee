-- The packets of a schedule, sent one after another.
use Rattle.std.proofs.Common.{◌≡◌, ◌<◌, ℕ, ◌+◌, List, ◌++◌, length, map, drop, get_or, Option, Some, None, append_assoc, sym, ap, ◌∙◌}
use Rattle.std.proofs.lemmas.List.{drop_more, map-append, Concat.{flat_map-append}}
use Rattle.std.specs.{Prelude.{option_map}, List.{flat_map}, Option.{option_to_list}}
use Rattle.sci_words.specs.declared.event.Event.{Event}
use Rattle.sci_packets.specs.{declared.packet.Packet.{Packet}, Spelling.{spelling}}
use Rattle.sci_cache.specs.Cache.{Letter, letter_of}
use Rattle.sci_core.specs.Core.{Core, step}
use Rattle.sci_statistics.specs.About.{letter_sent}
use Rattle.sci_traces.specs.PacketsAnswer.{letters_sent}

-- what was sent is spelled, and what is left sends the rest
pub record HasSent (all : List Letter) (core : Core) (left : List Event) (bytes : List ℕ) : Type 0 where
  pub packets : List Packet
  pub spelled : bytes ≡ flat_map spelling packets
  pub rest : all ≡ map letter_of packets ++ letters_sent core left

letters : (sent : Option Packet) → map letter_of (option_to_list sent) ≡ option_to_list (option_map letter_of sent)
letters None = cc
letters (Some p) = cc

-- one event more
pub sends_more : (all : List Letter) (core : Core) (events : List Event) (k : ℕ) (d : Event) (bytes : List ℕ) (sent : Option Packet) → k < length events
    → option_map letter_of sent ≡ letter_sent core (get_or events k d) → HasSent all core (drop k events) bytes
    → HasSent all (step core (get_or events k d)) (drop (k + 1) events) (bytes ++ flat_map spelling (option_to_list sent))
sends_more all core events k d bytes sent lt is was =
    let e = get_or events k d in
    let next = letters_sent (step core e) (drop (k + 1) events) in
    let here : letters_sent core (drop k events) ≡ map letter_of (option_to_list sent) ++ next =
    ap (letters_sent core) (drop_more events k d lt) ∙ ap (λ (l : List Letter). l ++ next) (sym (letters sent ∙ ap option_to_list is)) in record {
      packets = was.packets ++ option_to_list sent;
      spelled = ap (λ (b : List ℕ). b ++ flat_map spelling (option_to_list sent)) was.spelled
          ∙ sym (flat_map-append spelling was.packets (option_to_list sent));
      rest = was.rest ∙ (ap (λ (l : List Letter). map letter_of was.packets ++ l) here
          ∙ (sym (append_assoc (map letter_of was.packets) (map letter_of (option_to_list sent)) next)
          ∙ ap (λ (l : List Letter). l ++ next) (sym (map-append letter_of was.packets (option_to_list sent)))));
    }

-- What the private readers of events answer, step by step from left to right: what is read, and the bytes after it. No
-- public contract rests on these words; laws in proofs/ join them to the texts.
use Rattle.std.specs.Prelude.{ℕ, List, [], ◌∷◌, Option, Some, option_map, codes}
use Rattle.sci_words.specs.declared.event.{AskKind.{AskKind}, TheConstants.AskKind.{ALL}, Event.{Event}}
use Rattle.sci_words.specs.{declared.event.EventKind.{EventKind}, Event.{kind_word, word_of_kind}}
use Rattle.sci_text.specs.Reading.{◌>>=◌, field_read, after, byte, both, spelled, operation_read}
use Rattle.sci_words.specs.declared.event.Event.TheVariants as events
use Rattle.sci_words.specs.declared.event.EventKind.TheVariants as kinds

unfoldable pub kind_read : List ℕ → Option (AskKind × List ℕ)
kind_read bytes = spelled kind_word ALL bytes

abbrev pub all_kinds : List EventKind
all_kinds = kinds.Issue ∷ kinds.Perform ∷ kinds.Ask ∷ kinds.Serve ∷ kinds.Refuse ∷ kinds.Reply ∷ kinds.Accept ∷ []

unfoldable pub verb_read : List ℕ → Option (EventKind × List ℕ)
verb_read bytes = spelled word_of_kind all_kinds bytes

-- an event of two numbers, of which the first was read
unfoldable pub numbered_read : (ℕ → ℕ → Event) → Option ℕ → List ℕ → Option (Option Event × List ℕ)
numbered_read f first bytes = field_read bytes >>= λ x. Some (option_map (λ p. f p.0 p.1) (both (byte first) (byte x.0)), x.1)

unfoldable pub details_read : EventKind → Option ℕ → List ℕ → Option (Option Event × List ℕ)
details_read kinds.Issue first bytes = do
  gap ← after (codes " ") bytes
  op ← operation_read gap
  Some (option_map (λ p. events.Issue p.0 p.1) (both (byte first) op.0), op.1)
details_read kinds.Perform first bytes = numbered_read events.Perform first bytes
details_read kinds.Ask first bytes = do
  line ← field_read bytes
  gap ← after (codes " ") line.1
  kind ← kind_read gap
  Some (option_map (λ p. events.Ask p.0 p.1 kind.0) (both (byte first) (byte line.0)), kind.1)
details_read kinds.Serve first bytes = numbered_read events.Serve first bytes
details_read kinds.Refuse first bytes = numbered_read events.Refuse first bytes
details_read kinds.Reply first bytes = Some (option_map (λ node. events.Reply node) (byte first), bytes)
details_read kinds.Accept first bytes = numbered_read events.Accept first bytes

-- an event, and the bytes after its line feed
abbrev pub ended_read : Option Event → List ℕ → Option (Option Event × List ℕ)
ended_read event bytes = do
  rest ← after (10 ∷ []) bytes
  Some (event, rest)

-- the event whose word and first node stood before the bytes, and the bytes after its line
abbrev pub line_after_read : EventKind → Option ℕ → List ℕ → Option (Option Event × List ℕ)
line_after_read verb first bytes = do
  said ← details_read verb first bytes
  ended_read said.0 said.1

unfoldable pub event_line_read : List ℕ → Option (Option Event × List ℕ)
event_line_read bytes = do
  verb ← verb_read bytes
  first ← field_read verb.1
  line_after_read verb.0 first.0 first.1
